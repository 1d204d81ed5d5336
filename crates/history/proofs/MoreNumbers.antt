-- The least and the greatest of some numbers, with one number more.
use Rattle.std.proofs.Common.{ℤ, ◌≤ℤ◌, ◌<ℤ◌, List, [], ◌∷◌, refl, arith, inl, inr}
use Rattle.history.specs.Bounds.{IsGreatest, IsLeast, NoneIsGreater, NoneIsLess}

none_below : (low n : ℤ) (ns : List ℤ) → low ≤ℤ n → NoneIsLess n ns → NoneIsLess low ns
none_below low n [] below none = none
none_below low n (m ∷ ns) below none = (grind arith, none_below low n ns below none.1)

none_above : (high n : ℤ) (ns : List ℤ) → n ≤ℤ high → NoneIsGreater n ns → NoneIsGreater high ns
none_above high n [] above none = none
none_above high n (m ∷ ns) above none = (grind arith, none_above high n ns above none.1)

pub least_stays : (n m : ℤ) (ns : List ℤ) → n ≤ℤ m → IsLeast n ns → IsLeast n (m ∷ ns)
least_stays n m ns below least = (inr least.0, (below, least.1))

pub least_is_next : (n m : ℤ) (ns : List ℤ) → m <ℤ n → IsLeast n ns → IsLeast m (m ∷ ns)
least_is_next n m ns below least = (inl refl, (grind arith, none_below m n ns (grind arith) least.1))

pub greatest_stays : (n m : ℤ) (ns : List ℤ) → m ≤ℤ n → IsGreatest n ns → IsGreatest n (m ∷ ns)
greatest_stays n m ns above greatest = (inr greatest.0, (above, greatest.1))

pub greatest_is_next : (n m : ℤ) (ns : List ℤ) → n <ℤ m → IsGreatest n ns → IsGreatest m (m ∷ ns)
greatest_is_next n m ns above greatest = (inl refl, (grind arith, none_above m n ns (grind arith) greatest.1))
