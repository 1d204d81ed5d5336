-- Registers that answer each read in one way are searched in one way.
use Rattle.std.proofs.Common.{◌≡◌, ◌≢◌, ◌⊎◌, inl, inr, ℕ, ◌+◌, ◌<◌, ◌≤◌, ◌&&◌, not, List, [], ◌∷◌, length, Result, Ok, Err, Option, Some, None, nat_eq, refl, sym, ap, arith}
use Rattle.std.proofs.Common.{if◌then◌else◌}
use Rattle.std.proofs.lemmas.Grind.{common_steps}
use Rattle.register_map.specs.declared.access.ReadFault.TheVariants.{Refused, Failed}
use Rattle.register_map.specs.declared.layout.Block.{Block}
use Rattle.register_map.specs.declared.layout.MapFault.{MapFault}
use Rattle.register_map.specs.declared.layout.MapFault.TheVariants.{NoMark, NotCommon, PastEnd, TooMany, Read}
use Rattle.register_map.specs.Reads.{Answer, RegisterRead, TakesNext}
use Rattle.register_map.specs.Layout.{Layout}
use Rattle.register_map.specs.Chain.{common_id, end_id, most_models, IsModelId, Holds, IsUnread, AreModels, IsChain}
use Rattle.register_map.specs.Discovery.{IsHeader}
use Rattle.register_map.specs.Search.{mark, HasMark, LacksMark, IsSearch}

-- what a header's ID alone decides; nothing, where its L has to be read
abbrev pub decided : ℕ → ℕ → ℕ → ℕ → Option (Result (Option Block) MapFault)
decided limit before address id =
    if nat_eq before 0 && not (nat_eq id common_id) then Some (Err NotCommon)
    else if nat_eq id end_id then Some (Ok None)
    else if nat_eq (address + 1) limit then Some (Err PastEnd)
    else if nat_eq before most_models then Some (Err TooMany)
    else None

decided-not_common : (limit k a id : ℕ) → k ≡ 0 → id ≢ common_id → decided limit k a id ≡ Some (Err NotCommon)
decided-not_common limit k a id e ne = grind (arith, common_steps)

decided-end : (limit k a : ℕ) → 0 < k → decided limit k a end_id ≡ Some (Ok None)
decided-end limit k a lt = grind (arith, common_steps)

decided-past_end : (limit k a id : ℕ) → IsModelId k id → a + 1 ≡ limit → decided limit k a id ≡ Some (Err PastEnd)
decided-past_end limit k a id p e = grind (arith, common_steps)

decided-too_many : (limit k a id : ℕ) → IsModelId k id → a + 1 < limit → k ≡ most_models → decided limit k a id ≡ Some (Err TooMany)
decided-too_many limit k a id p lt e = grind (arith, common_steps)

decided-nothing : (limit k a id : ℕ) → IsModelId k id → a + 1 < limit → k < most_models → decided limit k a id ≡ None
decided-nothing limit k a id p lt few = grind (arith, common_steps)

word_of : Answer → ℕ
word_of (Ok (w ∷ _)) = w
word_of (Ok []) = 0
word_of (Err _) = 0

word-once : (w v : ℕ) → ◌≡◌ {A = Answer} (Ok (w ∷ [])) (Ok (v ∷ [])) → w ≡ v
unfolding word_of
word-once w v e = ap word_of e

ok-err : {T E : Type 0} {x : T} {f : E} → ◌≡◌ {A = Result T E} (Ok x) (Err f) → ⊥
ok-err e = cc

refused-failed : ◌≡◌ {A = Answer} (Err Refused) (Err Failed) → ⊥
refused-failed e = cc

block-same : (b c : Block) → ◌≡◌ {A = Result (Option Block) MapFault} (Ok (Some b)) (Ok (Some c)) → b ≡ c
block-same b c e = cc

words-same : (w v : List ℕ) → ◌≡◌ {A = Answer} (Ok w) (Ok v) → w ≡ v
words-same w v e = cc

parts-same : (bs cs : List Block) (n m : ℕ) → bs ≡ cs → n ≡ m →
    ◌≡◌ {A = Result Layout MapFault} (Ok (record { blocks = bs; end = n })) (Ok (record { blocks = cs; end = m }))
parts-same bs cs n m e f = rw (e, f) refl

layout-same : (x y : Layout) → x.blocks ≡ y.blocks → x.end ≡ y.end → ◌≡◌ {A = Result Layout MapFault} (Ok x) (Ok y)
layout-same x y e f = parts-same x.blocks y.blocks x.end y.end e f

fault-same : (f g : MapFault) → ◌≡◌ {A = Result (Option Block) MapFault} (Err f) (Err g) → ◌≡◌ {A = Result Layout MapFault} (Err f) (Err g)
fault-same f g e = cc

end-no_model : (b : Block) → ◌≡◌ {A = Result (Option Block) MapFault} (Ok None) (Ok (Some b)) → ⊥
end-no_model b e = cc

fault-no_model : (f : MapFault) (b : Block) → ◌≡◌ {A = Result (Option Block) MapFault} (Err f) (Ok (Some b)) → ⊥
fault-no_model f b e = cc

module _ {S : Type 0} (reads : S → ℕ → ℕ → Answer → S → Type 0)
    (once : (s : S) (address count : ℕ) (x y : Answer) (t u : S) → reads s address count x t → reads s address count y u → (x ≡ y) × (t ≡ u))
  where
    Holds-once : (s : S) (a w v : ℕ) (t u : S) → Holds reads s a w t → Holds reads s a v u → (w ≡ v) × (t ≡ u)
    Holds-once s a w v t u p q =
        let same = once s a 1 (Ok (w ∷ [])) (Ok (v ∷ [])) t u p q in
        (word-once w v same.0, same.1)

    Holds-unread : (s : S) (a w : ℕ) (t u : S) → Holds reads s a w t → IsUnread reads s a u → ⊥
    Holds-unread s a w t u p q = let e = (once s a 1 (Ok (w ∷ [])) (Err q.0) t u p q.1).0 in ok-err e

    unread-once : (s : S) (a : ℕ) (t u : S) → IsUnread reads s a t → IsUnread reads s a u → t ≡ u
    unread-once s a t u p q = (once s a 1 (Err p.0) (Err q.0) t u p.1 q.1).1

    -- a header's result, once its ID is known
    abbrev pub FromId : ℕ → ℕ → ℕ → ℕ → S → S → Result (Option Block) MapFault → Type 0
    FromId limit k a id u t r =
        ((decided limit k a id ≡ Some r) × (u ≡ t))
        ⊎ ((decided limit k a id ≡ None) × IsUnread reads u (a + 1) t × (r ≡ Err Read))
        ⊎ ((decided limit k a id ≡ None) × ((l : ℕ) × Holds reads u (a + 1) l t × (r ≡ Ok (Some (record { id = id; addr = a; length = l })))))

    -- a header's result, by how far its reads come
    abbrev pub FromReads : ℕ → S → ℕ → ℕ → S → Result (Option Block) MapFault → Type 0
    FromReads limit s k a t r =
        ((limit ≤ a) × (s ≡ t) × (r ≡ Err PastEnd))
        ⊎ ((a < limit) × IsUnread reads s a t × (r ≡ Err Read))
        ⊎ ((a < limit) × ((id : ℕ) × (u : S) × Holds reads s a id u × FromId limit k a id u t r))

    pub from_reads : (limit : ℕ) (s : S) (k a : ℕ) (t : S) (r : Result (Option Block) MapFault) → IsHeader reads limit s k a t r → FromReads limit s k a t r
    from_reads limit s k a t (Ok (Some b)) p =
        inr (inr (omega (arith, p.2), (b.id, p.4.0, p.4.1, inr (inr (decided-nothing limit k a b.id p.1 p.2 p.3, (b.length, p.4.2, rw (← p.0) refl))))))
    from_reads limit s k a t (Ok None) p =
        inr (inr (p.1, (end_id, t, p.2, inl (decided-end limit k a p.0, refl))))
    from_reads limit s k a t (Err NoMark) p = absurd p
    from_reads limit s k a t (Err NotCommon) p =
        inr (inr (p.1, (p.2.0, t, p.2.2, inl (decided-not_common limit k a p.2.0 p.0 p.2.1, refl))))
    from_reads limit s k a t (Err PastEnd) (inl p) = inl (p.0, p.1, refl)
    from_reads limit s k a t (Err PastEnd) (inr p) =
        inr (inr (omega (arith, p.0), (p.1.0, t, p.1.2, inl (decided-past_end limit k a p.1.0 p.1.1 p.0, refl))))
    from_reads limit s k a t (Err TooMany) p =
        inr (inr (omega (arith, p.1), (p.2.0, t, p.2.2, inl (decided-too_many limit k a p.2.0 p.2.1 p.1 p.0, refl))))
    from_reads limit s k a t (Err Read) (inl p) = inr (inl (p.0, p.1, refl))
    from_reads limit s k a t (Err Read) (inr p) =
        inr (inr (omega (arith, p.1), (p.2.0, p.2.1, p.2.3, inr (inl (decided-nothing limit k a p.2.0 p.2.2 p.1 p.0, p.2.4, refl)))))

    FromId-once : (limit k a id : ℕ) (u t v : S) (r q : Result (Option Block) MapFault) → FromId limit k a id u t r → FromId limit k a id u v q → (r ≡ q) × (t ≡ v)
    FromId-once limit k a id u t v r q (inl x) (inl y) = (cc, cc)
    FromId-once limit k a id u t v r q (inl x) (inr (inl y)) = absurd (let e : Some r ≡ None = rw (← x.0) y.0 in cc)
    FromId-once limit k a id u t v r q (inl x) (inr (inr y)) = absurd (let e : Some r ≡ None = rw (← x.0) y.0 in cc)
    FromId-once limit k a id u t v r q (inr (inl x)) (inl y) = absurd (let e : Some q ≡ None = rw (← y.0) x.0 in cc)
    FromId-once limit k a id u t v r q (inr (inr x)) (inl y) = absurd (let e : Some q ≡ None = rw (← y.0) x.0 in cc)
    FromId-once limit k a id u t v r q (inr (inl x)) (inr (inl y)) = (rw (x.2, y.2) refl, unread-once u (a + 1) t v x.1 y.1)
    FromId-once limit k a id u t v r q (inr (inl x)) (inr (inr y)) = absurd (Holds-unread u (a + 1) y.1.0 v t y.1.1 x.1)
    FromId-once limit k a id u t v r q (inr (inr x)) (inr (inl y)) = absurd (Holds-unread u (a + 1) x.1.0 t v x.1.1 y.1)
    FromId-once limit k a id u t v r q (inr (inr x)) (inr (inr y)) =
        let same = Holds-once u (a + 1) x.1.0 y.1.0 t v x.1.1 y.1.1 in
        (rw (x.1.2, y.1.2, same.0) refl, same.1)

    FromReads-once : (limit : ℕ) (s : S) (k a : ℕ) (t u : S) (r q : Result (Option Block) MapFault) → FromReads limit s k a t r → FromReads limit s k a u q → (r ≡ q) × (t ≡ u)
    FromReads-once limit s k a t u r q (inl x) (inl y) = (rw (x.2, y.2) refl, rw (← x.1) y.1)
    FromReads-once limit s k a t u r q (inl x) (inr (inl y)) = absurd (omega (arith, x.0, y.0))
    FromReads-once limit s k a t u r q (inl x) (inr (inr y)) = absurd (omega (arith, x.0, y.0))
    FromReads-once limit s k a t u r q (inr (inl x)) (inl y) = absurd (omega (arith, x.0, y.0))
    FromReads-once limit s k a t u r q (inr (inr x)) (inl y) = absurd (omega (arith, x.0, y.0))
    FromReads-once limit s k a t u r q (inr (inl x)) (inr (inl y)) = (rw (x.2, y.2) refl, unread-once s a t u x.1 y.1)
    FromReads-once limit s k a t u r q (inr (inl x)) (inr (inr y)) = absurd (Holds-unread s a y.1.0 y.1.1 t y.1.2 x.1)
    FromReads-once limit s k a t u r q (inr (inr x)) (inr (inl y)) = absurd (Holds-unread s a x.1.0 x.1.1 u x.1.2 y.1)
    FromReads-once limit s k a t u r q (inr (inr x)) (inr (inr y)) =
        let same = Holds-once s a x.1.0 y.1.0 x.1.1 y.1.1 x.1.2 y.1.2 in
        FromId-once limit k a y.1.0 y.1.1 t u r q (rw (← same.0, ← same.1) x.1.3) y.1.3

    pub header-once : (limit : ℕ) (s : S) (k a : ℕ) (t u : S) (r q : Result (Option Block) MapFault) → IsHeader reads limit s k a t r → IsHeader reads limit s k a u q → (r ≡ q) × (t ≡ u)
    header-once limit s k a t u r q x y = FromReads-once limit s k a t u r q (from_reads limit s k a t r x) (from_reads limit s k a u q y)

    stops-once : (limit k a : ℕ) (s : S) (bs cs : List Block) (n m : ℕ) (t u v w : S) (i j : ℕ) (h g : Result (Option Block) MapFault) →
        i ≡ k + length bs → j ≡ k + length cs → ((b : Block) → h ≡ Ok (Some b) → ⊥) → ((b : Block) → g ≡ Ok (Some b) → ⊥) →
        AreModels reads limit s k a bs n v → IsHeader reads limit v i n t h → AreModels reads limit s k a cs m w → IsHeader reads limit w j m u g →
        (h ≡ g) × (bs ≡ cs) × (n ≡ m) × (t ≡ u)
    stops-once limit k a s [] [] n m t u v w i j h g ei ej nh ng p x q y =
        let ki : k ≡ i = omega (arith, ei) in
        let kj : k ≡ j = omega (arith, ej) in
        let x' : IsHeader reads limit s k a t h = rw (p.0, p.1, ki) x in
        let y' : IsHeader reads limit s k a u g = rw (q.0, q.1, kj) y in
        let same = header-once limit s k a t u h g x' y' in
        (same.0, refl, omega (arith, p.0, q.0), same.1)
    stops-once limit k a s [] (c ∷ cs) n m t u v w i j h g ei ej nh ng p x q y =
        let ki : k ≡ i = omega (arith, ei) in
        let x' : IsHeader reads limit s k a t h = rw (p.0, p.1, ki) x in
        absurd (nh c (header-once limit s k a t q.0 h (Ok (Some c)) x' q.1).0)
    stops-once limit k a s (b ∷ bs) [] n m t u v w i j h g ei ej nh ng p x q y =
        let kj : k ≡ j = omega (arith, ej) in
        let y' : IsHeader reads limit s k a u g = rw (q.0, q.1, kj) y in
        absurd (ng b (header-once limit s k a u p.0 g (Ok (Some b)) y' p.1).0)
    stops-once limit k a s (b ∷ bs) (c ∷ cs) n m t u v w i j h g ei ej nh ng p x q y =
        let same = header-once limit s k a p.0 q.0 (Ok (Some b)) (Ok (Some c)) p.1 q.1 in
        let block : b ≡ c = block-same b c same.0 in
        let q' : AreModels reads limit p.0 (k + 1) (a + 2 + b.length) cs m w = rw (block, same.1) q.2 in
        let rest = stops-once limit (k + 1) (a + 2 + b.length) p.0 bs cs n m t u v w i j h g (omega (arith, ei)) (omega (arith, ej)) nh ng p.2 x q' y in
        (rest.0, rw (block, rest.1) refl, rest.2, rest.3)

    chain-once : (limit a : ℕ) (s t u : S) (r q : Result Layout MapFault) → IsChain reads limit s a t r → IsChain reads limit s a u q → (r ≡ q) × (t ≡ u)
    chain-once limit a s t u (Ok x) (Ok y) p q =
        let same = stops-once limit 0 a s x.blocks y.blocks x.end y.end t u p.0 q.0 (length x.blocks) (length y.blocks) (Ok None) (Ok None) (omega arith) (omega arith)
        end-no_model end-no_model p.1 p.2 q.1 q.2 in
        (layout-same x y same.1 same.2, same.3)
    chain-once limit a s t u (Ok x) (Err f) p q =
        let same = stops-once limit 0 a s x.blocks q.0 x.end q.1 t u p.0 q.2 (length x.blocks) (length q.0) (Ok None) (Err f) (omega arith) (omega arith)
        end-no_model (fault-no_model f) p.1 p.2 q.3 q.4 in
        absurd (ok-err same.0)
    chain-once limit a s t u (Err f) (Ok y) p q =
        let same = stops-once limit 0 a s p.0 y.blocks p.1 y.end t u p.2 q.0 (length p.0) (length y.blocks) (Err f) (Ok None) (omega arith) (omega arith)
        (fault-no_model f) end-no_model p.3 p.4 q.1 q.2 in
        absurd (ok-err (sym same.0))
    chain-once limit a s t u (Err f) (Err g) p q =
        let same = stops-once limit 0 a s p.0 q.0 p.1 q.1 t u p.2 q.2 (length p.0) (length q.0) (Err f) (Err g) (omega arith) (omega arith)
        (fault-no_model f) (fault-no_model g) p.3 p.4 q.3 q.4 in
        (fault-same f g same.0, same.3)

    LacksMark-once : (s : S) (b : ℕ) (t u : S) → LacksMark reads s b t → LacksMark reads s b u → t ≡ u
    LacksMark-once s b t u (inl p) (inl q) = (once s b 2 _ _ t u p.2 q.2).1
    LacksMark-once s b t u (inl p) (inr q) = (once s b 2 _ _ t u p.2 q).1
    LacksMark-once s b t u (inr p) (inl q) = (once s b 2 _ _ t u p q.2).1
    LacksMark-once s b t u (inr p) (inr q) = (once s b 2 _ _ t u p q).1

    LacksMark-mark : (s : S) (b : ℕ) (t u : S) → LacksMark reads s b t → HasMark reads s b u → ⊥
    LacksMark-mark s b t u (inl p) q = p.1 (words-same p.0 mark (once s b 2 _ _ t u p.2 q).0)
    LacksMark-mark s b t u (inr p) q = ok-err (once s b 2 _ _ u t q p).0

    LacksMark-failed : (s : S) (b : ℕ) (t u : S) → LacksMark reads s b t → reads s b 2 (Err Failed) u → ⊥
    LacksMark-failed s b t u (inl p) q = ok-err (once s b 2 _ _ t u p.2 q).0
    LacksMark-failed s b t u (inr p) q = refused-failed (once s b 2 _ _ t u p q).0

    pub search-once : (limit : ℕ) (s : S) (bases : List ℕ) (t u : S) (r q : Result Layout MapFault) → IsSearch reads limit s bases t r → IsSearch reads limit s bases u q → (r ≡ q) × (t ≡ u)
    search-once limit s [] t u r q x y = (rw (x.1, y.1) refl, rw (← x.0) y.0)
    search-once limit s (b ∷ bs) t u r q (inl x) (inl y) =
        let same = LacksMark-once s b x.0 y.0 x.1 y.1 in
        search-once limit x.0 bs t u r q x.2 (rw same y.2)
    search-once limit s (b ∷ bs) t u r q (inl x) (inr (inl y)) = absurd (LacksMark-mark s b x.0 y.0 x.1 y.1)
    search-once limit s (b ∷ bs) t u r q (inl x) (inr (inr y)) = absurd (LacksMark-failed s b x.0 u x.1 y.0)
    search-once limit s (b ∷ bs) t u r q (inr (inl x)) (inl y) = absurd (LacksMark-mark s b y.0 x.0 y.1 x.1)
    search-once limit s (b ∷ bs) t u r q (inr (inl x)) (inr (inl y)) =
        let same = (once s b 2 _ _ x.0 y.0 x.1 y.1).1 in
        chain-once limit (b + 2) x.0 t u r q x.2 (rw same y.2)
    search-once limit s (b ∷ bs) t u r q (inr (inl x)) (inr (inr y)) = absurd (ok-err (once s b 2 _ _ x.0 u x.1 y.0).0)
    search-once limit s (b ∷ bs) t u r q (inr (inr x)) (inl y) = absurd (LacksMark-failed s b y.0 t y.1 x.0)
    search-once limit s (b ∷ bs) t u r q (inr (inr x)) (inr (inl y)) = absurd (ok-err (once s b 2 _ _ y.0 t y.1 x.0).0)
    search-once limit s (b ∷ bs) t u r q (inr (inr x)) (inr (inr y)) = (rw (x.1, y.1) refl, (once s b 2 _ _ t u x.0 y.0).1)

heads-same : (a b : RegisterRead) (l m : List RegisterRead) → a ∷ l ≡ b ∷ m → a ≡ b
heads-same a b l m e = cc

-- a list of reads has one next read and one rest
pub next-once : (s : List RegisterRead) (address count : ℕ) (x y : Answer) (t u : List RegisterRead) → TakesNext s address count x t → TakesNext s address count y u → (x ≡ y) × (t ≡ u)
next-once s address count x y t u p q =
    let same : record { address = address; count = count; answer = x } ∷ t ≡ record { address = address; count = count; answer = y } ∷ u = cc in
    (ap (λ (r : RegisterRead). r.answer) (heads-same _ _ t u same), cc)
