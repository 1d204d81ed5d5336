-- The reads of a search: each is of one or two registers, and one that failed is the last.
use Rattle.std.proofs.Common.{◌≡◌, inl, inr, ℕ, ◌+◌, ◌≤◌, List, [], ◌∷◌, Result, Ok, Err, refl, sym, subst, arith}
use Rattle.register_map.specs.declared.layout.Block.{Block}
use Rattle.register_map.specs.declared.layout.MapFault.{MapFault}
use Rattle.register_map.specs.declared.layout.MapFault.TheVariants.{NoMark, NotCommon, PastEnd, TooMany, Read}
use Rattle.register_map.specs.declared.access.ReadFault.TheVariants.{Refused, Failed}
use Rattle.register_map.specs.Layout.{Layout}
use Rattle.register_map.specs.Reads.{Answer, RegisterRead, TakesNext}
use Rattle.register_map.specs.Chain.{IsModel, IsEnd, IsFaulty, AreModels, IsChain}
use Rattle.register_map.specs.Search.{LacksMark, IsSearch}

-- such reads, where the search has this result
abbrev pub AreSent : List RegisterRead → Result Layout MapFault → Type 0
AreSent [] result = Unit {0}
AreSent (r ∷ rs) result = ((1 ≤ r.count) × (r.count ≤ 125)) × (r.answer ≡ Err Failed → (rs ≡ []) × (result ≡ Err Read)) × AreSent rs result

module _ (result : Result Layout MapFault) where
  words_next : (s t : List RegisterRead) (a c : ℕ) (words : List ℕ) → TakesNext s a c (Ok words) t → 1 ≤ c → c ≤ 125 → AreSent t result → AreSent s result
  words_next s t a c words next some few sent =
      let P : List RegisterRead → Type 0 = λ l. AreSent l result in
      subst P (sym next) ((some, few), (λ is. absurd (cc)), sent)

  refused_next : (s t : List RegisterRead) (a c : ℕ) → TakesNext s a c (Err Refused) t → 1 ≤ c → c ≤ 125 → AreSent t result → AreSent s result
  refused_next s t a c next some few sent =
      let P : List RegisterRead → Type 0 = λ l. AreSent l result in
      subst P (sym next) ((some, few), (λ is. absurd (cc)), sent)

  model_sent : (limit : ℕ) (s t : List RegisterRead) (k a : ℕ) (b : Block) → IsModel TakesNext limit s k a t b → AreSent t result → AreSent s result
  model_sent limit s t k a b p sent =
      words_next s p.4.0 a 1 _ p.4.1 (omega arith) (omega arith) (words_next p.4.0 t (a + 1) 1 _ p.4.2 (omega arith) (omega arith) sent)

  models_sent : (limit : ℕ) (s t : List RegisterRead) (k a : ℕ) (bs : List Block) (n : ℕ) → AreModels TakesNext limit s k a bs n t → AreSent t result → AreSent s result
  models_sent limit s t k a [] n p sent =
      let P : List RegisterRead → Type 0 = λ l. AreSent l result in
      subst P (sym p.1) sent
  models_sent limit s t k a (b ∷ bs) n p sent =
      model_sent limit s p.0 k a b p.1 (models_sent limit p.0 t (k + 1) (a + 2 + b.length) bs n p.2 sent)

  end_sent : (limit : ℕ) (s t : List RegisterRead) (k a : ℕ) → IsEnd TakesNext limit s k a t → AreSent t result → AreSent s result
  end_sent limit s t k a p sent = words_next s t a 1 _ p.2 (omega arith) (omega arith) sent

  lacks_sent : (s t : List RegisterRead) (b : ℕ) → LacksMark TakesNext s b t → AreSent t result → AreSent s result
  lacks_sent s t b (inl p) sent = words_next s t b 2 p.0 p.2 (omega arith) (omega arith) sent
  lacks_sent s t b (inr p) sent = refused_next s t b 2 p (omega arith) (omega arith) sent

-- the last read of a search that couldn't read
read_last : (s : List RegisterRead) (a c : ℕ) (answer : Answer) → TakesNext s a c answer [] → 1 ≤ c → c ≤ 125 → AreSent s (Err Read)
read_last s a c answer next some few =
    let P : List RegisterRead → Type 0 = λ l. AreSent l (Err Read) in
    subst P (sym next) ((some, few), (λ is. (refl, refl)), tt)

faulty_sent : (limit : ℕ) (s : List RegisterRead) (k a : ℕ) (fault : MapFault) → IsFaulty TakesNext limit s k a [] fault → AreSent s (Err fault)
faulty_sent limit s k a NoMark p = absurd p
faulty_sent limit s k a NotCommon p = words_next (Err NotCommon) s [] a 1 _ p.2.2 (omega arith) (omega arith) tt
faulty_sent limit s k a PastEnd (inl p) =
    let P : List RegisterRead → Type 0 = λ l. AreSent l (Err PastEnd) in
    subst P (sym p.1) tt
faulty_sent limit s k a PastEnd (inr p) = words_next (Err PastEnd) s [] a 1 _ p.1.2 (omega arith) (omega arith) tt
faulty_sent limit s k a TooMany p = words_next (Err TooMany) s [] a 1 _ p.2.2 (omega arith) (omega arith) tt
faulty_sent limit s k a Read (inl p) = read_last s a 1 (Err p.1.0) p.1.1 (omega arith) (omega arith)
faulty_sent limit s k a Read (inr p) =
    words_next (Err Read) s p.2.1 a 1 _ p.2.3 (omega arith) (omega arith) (read_last p.2.1 (a + 1) 1 (Err p.2.4.0) p.2.4.1 (omega arith) (omega arith))

chain_sent : (limit : ℕ) (s : List RegisterRead) (a : ℕ) (r : Result Layout MapFault) → IsChain TakesNext limit s a [] r → AreSent s r
chain_sent limit s a (Ok found) p =
    models_sent (Ok found) limit s p.0 0 a found.blocks found.end p.1 (end_sent (Ok found) limit p.0 [] _ _ p.2 tt)
chain_sent limit s a (Err fault) p =
    models_sent (Err fault) limit s p.2 0 a p.0 p.1 p.3 (faulty_sent limit p.2 _ _ fault p.4)

pub search_sent : (limit : ℕ) (s : List RegisterRead) (bases : List ℕ) (r : Result Layout MapFault) → IsSearch TakesNext limit s bases [] r → AreSent s r
search_sent limit s [] r p =
    let P : List RegisterRead → Type 0 = λ l. AreSent l r in
    subst P (sym p.0) tt
search_sent limit s (b ∷ bs) r (inl p) = lacks_sent r s p.0 b p.1 (search_sent limit p.0 bs r p.2)
search_sent limit s (b ∷ bs) r (inr (inl p)) = words_next r s p.0 b 2 _ p.1 (omega arith) (omega arith) (chain_sent limit p.0 (b + 2) r p.2)
search_sent limit s (b ∷ bs) r (inr (inr p)) =
    let P : Result Layout MapFault → Type 0 = λ x. AreSent s x in
    subst P (sym p.1) (read_last s b 2 _ p.0 (omega arith) (omega arith))
