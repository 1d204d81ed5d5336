-- Lengths of paths, bounded by the number of instructions, and the sum of the counts of jumps.
use Rattle.std.proofs.Common.{◌≡◌, ℕ, zero, suc, ◌+◌, ◌-◌, max, ◌<◌, ◌≤◌, List, [], ◌∷◌, length, Option, Some, None, Bool, true, false, nat_lt, if◌then◌else◌, refl, subst, arith, drop, get_or, drop-cons}
use Rattle.point_types.specs.declared.operator.Condition.TheVariants as when
use Rattle.scan_code.specs.declared.op.Op.{Op}
use Rattle.scan_code.specs.declared.op.Op.TheVariants as does
use Rattle.facts.specs.Flow.{number_at}
use Rattle.verifier.specs.Budget.{Length, longer, one_more, length_at, length_of, length_from, lengths_from, count_of, is_start, greatest_from, total_count, IsUpTo, AreUpTo, turns_of}

pub more_allowed : (m k : ℕ) (l : Length) → m ≤ k → IsUpTo m l → IsUpTo k l
more_allowed m k None h p = tt
more_allowed m k (Some n) h p = omega arith

longer_up_to : (m : ℕ) (l k : Length) → IsUpTo m l → IsUpTo m k → IsUpTo m (longer l k)
longer_up_to m None k p q = q
longer_up_to m (Some n) None p q = p
longer_up_to m (Some n) (Some k) p q = omega arith

one_more_up_to : (m : ℕ) (l : Length) → IsUpTo m l → IsUpTo (suc m) (one_more l)
one_more_up_to m None p = tt
one_more_up_to m (Some n) p = omega arith

target_up_to : (m : ℕ) (later : List Length) (n : ℕ) (o : Option ℕ) → AreUpTo m later → IsUpTo m (length_of later n o)
target_up_to m later n None h = tt
target_up_to m later n (Some target) h = go (nat_lt n target)
  where
    go : (t : Bool) → IsUpTo m (if t then length_at later (target - n - 1) else None)
    go true = h (target - n - 1)
    go false = tt

module _ (listing : List (ℕ × Op)) (m n : ℕ) (later : List Length) (h : AreUpTo m later) where
  next_up_to : IsUpTo (suc m) (one_more (length_at later 0))
  next_up_to = one_more_up_to m (length_at later 0) (h 0)

  either_up_to : (to : ℕ) → IsUpTo (suc m) (one_more (longer (length_at later 0) (length_of later n (number_at listing 0 to))))
  either_up_to to = one_more_up_to m _ (longer_up_to m (length_at later 0) (length_of later n (number_at listing 0 to)) (h 0) (target_up_to m later n (number_at listing 0 to) h))

  return_up_to : IsUpTo (suc m) (longer (Some 1) (one_more (length_at later 0)))
  return_up_to = longer_up_to (suc m) (Some 1) (one_more (length_at later 0)) (omega arith) next_up_to

  length_up_to : (i : Op) → IsUpTo (suc m) (length_from listing n i later)
  length_up_to does.End = omega arith
  length_up_to (does.Return when.Always) = omega arith
  length_up_to (does.Return when.IfTrue) = return_up_to
  length_up_to (does.Return when.IfFalse) = return_up_to
  length_up_to (does.Jump when.Always to) = one_more_up_to m _ (target_up_to m later n (number_at listing 0 to) h)
  length_up_to (does.Jump when.IfTrue to) = either_up_to to
  length_up_to (does.Jump when.IfFalse to) = either_up_to to
  length_up_to other = next_up_to

-- a path from an instruction has no more than there are left
pub lengths_up_to : (listing : List (ℕ × Op)) (n : ℕ) (reached : List Bool) (entries : List (ℕ × Op)) → AreUpTo (length entries) (lengths_from listing n reached entries)
lengths_up_to listing n [] entries k = tt
lengths_up_to listing n (r ∷ rest) [] k = tt
lengths_up_to listing n (r ∷ rest) (e ∷ entries) (suc k) = more_allowed (length entries) (suc (length entries)) _ (omega arith) (lengths_up_to listing (n + 1) rest entries k)
lengths_up_to listing n (true ∷ rest) (e ∷ entries) zero = length_up_to listing (length entries) n (lengths_from listing (n + 1) rest entries) (lengths_up_to listing (n + 1) rest entries) e.1
lengths_up_to listing n (false ∷ rest) (e ∷ entries) zero = tt

-- the same, where the list is known to be that
pub those_up_to : (listing : List (ℕ × Op)) (n most : ℕ) (reached : List Bool) (entries : List (ℕ × Op)) (later : List Length) → later ≡ lengths_from listing n reached entries → length entries ≤ most → AreUpTo most later
those_up_to listing n most reached entries later e h k = rw e (more_allowed (length entries) most _ h (lengths_up_to listing n reached entries k))

pub total_of : (at : ℕ) (i : Op) (rest : List (ℕ × Op)) → total_count ((at, i) ∷ rest) ≡ turns_of i + total_count rest
total_of at (does.Repeat condition k n to) rest = refl
total_of at other rest = omega arith

pub length_in : (ls : List Length) (n : ℕ) (d : Length) → n < length ls → length_at ls n ≡ get_or ls n d
length_in [] n d h = absurd (omega arith)
length_in (l ∷ ls) zero d h = refl
length_in (l ∷ ls) (suc n) d h = length_in ls n d (omega arith)

pub length_out : (ls : List Length) (n : ℕ) → length ls ≤ n → length_at ls n ≡ None
length_out [] n h = refl
length_out (l ∷ ls) zero h = absurd (omega arith)
length_out (l ∷ ls) (suc n) h = length_out ls n (omega arith)

dropped : {A : Type 0} (xs : List A) (n : ℕ) (d : A) → n < length xs → drop n xs ≡ get_or xs n d ∷ drop (n + 1) xs
dropped xs n d h = let p : suc n ≡ n + 1 = omega arith in subst (λ (k : ℕ). drop n xs ≡ get_or xs n d ∷ drop k xs) p (drop-cons xs n d h)

pub one_start : (listing entries : List (ℕ × Op)) (n : ℕ) (lengths : List Length) (l : Length) (e : ℕ × Op) → n < length entries → n < length lengths
    → greatest_from listing n (drop n lengths) (drop n entries)
    ≡ max (if is_start listing n (get_or entries n e) then count_of (get_or lengths n l) else 0) (greatest_from listing (n + 1) (drop (n + 1) lengths) (drop (n + 1) entries))
one_start listing entries n lengths l e h k = rw (dropped lengths n l k, dropped entries n e h) refl

pub lengths_long : (listing : List (ℕ × Op)) (n : ℕ) (reached : List Bool) (entries : List (ℕ × Op)) → length reached ≡ length entries → length (lengths_from listing n reached entries) ≡ length entries
lengths_long listing n [] [] e = refl
lengths_long listing n [] (x ∷ entries) e = absurd (omega (arith, e))
lengths_long listing n (r ∷ rest) [] e = absurd (omega (arith, e))
lengths_long listing n (r ∷ rest) (x ∷ entries) e = let p : length rest ≡ length entries = omega (arith, e) in omega (arith, lengths_long listing (n + 1) rest entries p)

got_length : (ls : List Length) (n : ℕ) → get_or ls n None ≡ length_at ls n
got_length [] n = refl
got_length (l ∷ ls) zero = refl
got_length (l ∷ ls) (suc n) = got_length ls n

pub count_short : (b : Bool) (ls : List Length) (n : ℕ) → AreUpTo 65535 ls → (if b then count_of (get_or ls n None) else 0) ≤ 65535
count_short false ls n h = omega arith
count_short true ls n h = rw (got_length ls n) (go (length_at ls n) (h n))
  where
    go : (l : Length) → IsUpTo 65535 l → count_of l ≤ 65535
    go None p = omega arith
    go (Some k) p = p
