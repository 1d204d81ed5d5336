-- A search over some registers is a search over others that answer the same; these are led back from their last state to their first.
use Rattle.std.proofs.Common.{inl, inr, ℕ, ◌+◌, List, [], ◌∷◌, Result, Ok, Err, refl}
use Rattle.register_map.specs.declared.layout.Block.{Block}
use Rattle.register_map.specs.declared.layout.MapFault.{MapFault}
use Rattle.register_map.specs.declared.layout.MapFault.TheVariants.{NoMark, NotCommon, PastEnd, TooMany, Read}
use Rattle.register_map.specs.Reads.{Answer}
use Rattle.register_map.specs.Layout.{Layout}
use Rattle.register_map.specs.Chain.{IsUnread, IsModel, IsEnd, IsFaulty, AreModels, IsChain}
use Rattle.register_map.specs.Search.{LacksMark, IsSearch}

module _ {S X : Type 0} (reads : S → ℕ → ℕ → Answer → S → Type 0) (others : X → ℕ → ℕ → Answer → X → Type 0)
    (Same : S → X → Type 0)
    (back : (s t : S) (y : X) (address count : ℕ) (answer : Answer) → reads s address count answer t → Same t y → (x : X) × Same s x × others x address count answer y)
  where
    IsUnread-back : (s t : S) (y : X) (a : ℕ) → IsUnread reads s a t → Same t y → (x : X) × Same s x × IsUnread others x a y
    IsUnread-back s t y a p same =
        let one = back s t y a 1 (Err p.0) p.1 same in
        (one.0, one.1, (p.0, one.2))

    IsModel-back : (limit : ℕ) (s t : S) (y : X) (k a : ℕ) (b : Block) → IsModel reads limit s k a t b → Same t y → (x : X) × Same s x × IsModel others limit x k a y b
    IsModel-back limit s t y k a b p same =
        let second = back p.4.0 t y (a + 1) 1 (Ok (b.length ∷ [])) p.4.2 same in
        let first = back s p.4.0 second.0 a 1 (Ok (b.id ∷ [])) p.4.1 second.1 in
        (first.0, first.1, (p.0, p.1, p.2, p.3, (second.0, first.2, second.2)))

    AreModels-back : (limit : ℕ) (s t : S) (y : X) (k a : ℕ) (bs : List Block) (n : ℕ) → AreModels reads limit s k a bs n t → Same t y → (x : X) × Same s x × AreModels others limit x k a bs n y
    AreModels-back limit s t y k a [] n p same = (y, rw p.1 same, (p.0, refl))
    AreModels-back limit s t y k a (b ∷ bs) n p same =
        let rest = AreModels-back limit p.0 t y (k + 1) (a + 2 + b.length) bs n p.2 same in
        let first = IsModel-back limit s p.0 rest.0 k a b p.1 rest.1 in
        (first.0, first.1, (rest.0, first.2, rest.2))

    IsEnd-back : (limit : ℕ) (s t : S) (y : X) (k a : ℕ) → IsEnd reads limit s k a t → Same t y → (x : X) × Same s x × IsEnd others limit x k a y
    IsEnd-back limit s t y k a p same =
        let one = back s t y a 1 _ p.2 same in
        (one.0, one.1, (p.0, p.1, one.2))

    IsFaulty-back : (limit : ℕ) (s t : S) (y : X) (k a : ℕ) (fault : MapFault) → IsFaulty reads limit s k a t fault → Same t y → (x : X) × Same s x × IsFaulty others limit x k a y fault
    IsFaulty-back limit s t y k a NoMark p same = absurd p
    IsFaulty-back limit s t y k a NotCommon p same =
        let one = back s t y a 1 _ p.2.2 same in
        (one.0, one.1, (p.0, p.1, (p.2.0, p.2.1, one.2)))
    IsFaulty-back limit s t y k a PastEnd (inl p) same = (y, rw p.1 same, inl (p.0, refl))
    IsFaulty-back limit s t y k a PastEnd (inr p) same =
        let one = back s t y a 1 _ p.1.2 same in
        (one.0, one.1, inr (p.0, (p.1.0, p.1.1, one.2)))
    IsFaulty-back limit s t y k a TooMany p same =
        let one = back s t y a 1 _ p.2.2 same in
        (one.0, one.1, (p.0, p.1, (p.2.0, p.2.1, one.2)))
    IsFaulty-back limit s t y k a Read (inl p) same =
        let one = IsUnread-back s t y a p.1 same in
        (one.0, one.1, inl (p.0, one.2))
    IsFaulty-back limit s t y k a Read (inr p) same =
        let second = IsUnread-back p.2.1 t y (a + 1) p.2.4 same in
        let first = back s p.2.1 second.0 a 1 _ p.2.3 second.1 in
        (first.0, first.1, inr (p.0, p.1, (p.2.0, second.0, p.2.2, first.2, second.2)))

    IsChain-back : (limit : ℕ) (s t : S) (y : X) (a : ℕ) (r : Result Layout MapFault) → IsChain reads limit s a t r → Same t y → (x : X) × Same s x × IsChain others limit x a y r
    IsChain-back limit s t y a (Ok map) p same =
        let ends = IsEnd-back limit p.0 t y _ _ p.2 same in
        let before = AreModels-back limit s p.0 ends.0 0 a map.blocks map.end p.1 ends.1 in
        (before.0, before.1, (ends.0, before.2, ends.2))
    IsChain-back limit s t y a (Err fault) p same =
        let fails = IsFaulty-back limit p.2 t y _ _ fault p.4 same in
        let before = AreModels-back limit s p.2 fails.0 0 a p.0 p.1 p.3 fails.1 in
        (before.0, before.1, (p.0, p.1, fails.0, before.2, fails.2))

    LacksMark-back : (s t : S) (y : X) (b : ℕ) → LacksMark reads s b t → Same t y → (x : X) × Same s x × LacksMark others x b y
    LacksMark-back s t y b (inl p) same =
        let one = back s t y b 2 _ p.2 same in
        (one.0, one.1, inl (p.0, p.1, one.2))
    LacksMark-back s t y b (inr p) same =
        let one = back s t y b 2 _ p same in
        (one.0, one.1, inr one.2)

    pub IsSearch-back : (limit : ℕ) (s t : S) (y : X) (bases : List ℕ) (r : Result Layout MapFault) → IsSearch reads limit s bases t r → Same t y → (x : X) × Same s x × IsSearch others limit x bases y r
    IsSearch-back limit s t y [] r p same = (y, rw p.0 same, (refl, p.1))
    IsSearch-back limit s t y (b ∷ bs) r (inl p) same =
        let rest = IsSearch-back limit p.0 t y bs r p.2 same in
        let first = LacksMark-back s p.0 rest.0 b p.1 rest.1 in
        (first.0, first.1, inl (rest.0, first.2, rest.2))
    IsSearch-back limit s t y (b ∷ bs) r (inr (inl p)) same =
        let rest = IsChain-back limit p.0 t y (b + 2) r p.2 same in
        let first = back s p.0 rest.0 b 2 _ p.1 rest.1 in
        (first.0, first.1, inr (inl (rest.0, first.2, rest.2)))
    IsSearch-back limit s t y (b ∷ bs) r (inr (inr p)) same =
        let one = back s t y b 2 _ p.0 same in
        (one.0, one.1, inr (inr (one.2, p.1)))
