-- The budget: the greatest number of instructions that a scan can take.
-- IEC 61131-3 edition 2, 3.2.1 (instructions are done in order, or go on at a label).
use Rattle.std.specs.Prelude.{ℕ, zero, suc, ◌+◌, ◌*◌, ◌-◌, max, Bool, true, ◌||◌, List, [], ◌∷◌, length, map, if◌then◌else◌, Option, Some, None, slice_get, nat_eq, nat_lt, ◌≡◌, ◌<◌, ◌≤◌, ◌⊎◌}
use Rattle.point_types.specs.declared.operator.Condition.TheVariants as when
use Rattle.scan_code.specs.declared.op.Op.{Op}
use Rattle.scan_code.specs.declared.op.Op.TheVariants as does
use Rattle.facts.specs.Flow.{Context, number_at}
use Rattle.facts.specs.Slots.{slots, is_reached, is_loop_head}

-- the number of instructions on the longest path from an instruction to an end, END, RETC or RETCN,
-- on which no counted jump is taken; none where no path leads to an end
abbrev pub Length : Type 0
Length = Option ℕ

abbrev pub longer : Length → Length → Length
longer None k = k
longer (Some n) None = Some n
longer (Some n) (Some k) = Some (max n k)

abbrev pub one_more : Length → Length
one_more None = None
one_more (Some n) = Some (1 + n)

-- of the lengths of the later instructions, the next one first
abbrev pub length_at : List Length → ℕ → Length
length_at [] n = None
length_at (l ∷ ls) zero = l
length_at (l ∷ ls) (suc n) = length_at ls n

abbrev pub length_of : List Length → ℕ → Option ℕ → Length
length_of later n None = None
length_of later n (Some target) = if nat_lt n target then length_at later (target - n - 1) else None

-- from instruction number n on, which is reached
abbrev pub length_from : List (ℕ × Op) → ℕ → Op → List Length → Length
length_from listing n does.End later = Some 1
length_from listing n (does.Return when.Always) later = Some 1
length_from listing n (does.Return other) later = longer (Some 1) (one_more (length_at later 0))
length_from listing n (does.Jump when.Always to) later = one_more (length_of later n (number_at listing 0 to))
length_from listing n (does.Jump other to) later = one_more (longer (length_at later 0) (length_of later n (number_at listing 0 to)))
length_from listing n other later = one_more (length_at later 0)

-- of the instructions from number n on, each of which a fact reaches or not: a path goes through reached ones alone
abbrev pub lengths_from : List (ℕ × Op) → ℕ → List Bool → List (ℕ × Op) → List Length
lengths_from listing n [] entries = []
lengths_from listing n (r ∷ rest) [] = []
lengths_from listing n (r ∷ rest) (entry ∷ entries) =
    let later = lengths_from listing (n + 1) rest entries in
    (if r then length_from listing n entry.1 later else None) ∷ later

abbrev pub count_of : Length → ℕ
count_of None = 0
count_of (Some n) = n

-- paths begin at instruction 0, and where counted jumps lead
abbrev pub is_start : List (ℕ × Op) → ℕ → ℕ × Op → Bool
is_start listing n entry = nat_eq n 0 || is_loop_head entry.0 listing

abbrev pub greatest_from : List (ℕ × Op) → ℕ → List Length → List (ℕ × Op) → ℕ
greatest_from listing n [] entries = 0
greatest_from listing n (l ∷ ls) [] = 0
greatest_from listing n (l ∷ ls) (entry ∷ entries) = max (if is_start listing n entry then count_of l else 0) (greatest_from listing (n + 1) ls entries)

-- how often counted jumps are taken at most, all together
abbrev pub total_count : List (ℕ × Op) → ℕ
total_count [] = 0
total_count ((at, does.Repeat condition k n to) ∷ rest) = n + total_count rest
total_count ((at, other) ∷ rest) = total_count rest

abbrev pub longest_of : List (ℕ × Op) → List Bool → ℕ
longest_of listing reached = greatest_from listing 0 (lengths_from listing 0 reached listing) listing

-- the longest path once, and once more after each counted jump
abbrev pub budget_of : List (ℕ × Op) → List Bool → ℕ
budget_of listing reached = longest_of listing reached * (1 + total_count listing)

-- which instructions a fact reaches
abbrev pub reached : Context → List Bool
reached c = map is_reached (slots c (length c.listing))

abbrev pub path_lengths : Context → List Length
path_lengths c = lengths_from c.listing 0 (reached c) c.listing

abbrev pub longest_path : Context → ℕ
longest_path c = longest_of c.listing (reached c)

abbrev pub budget : Context → ℕ
budget c = budget_of c.listing (reached c)

-- What the lengths are of: paths as lists of the numbers of instructions.

-- the instructions at which a path ends
abbrev pub IsLast : Op → Type 0
IsLast does.End = Unit {0}
IsLast (does.Return condition) = Unit {0}
IsLast other = ⊥

-- after an instruction comes the next one, but never after END or JMP, or a later one that it jumps to
abbrev pub Follows : List (ℕ × Op) → ℕ → Op → ℕ → Type 0
Follows listing n does.End m = ⊥
Follows listing n (does.Return when.Always) m = ⊥
Follows listing n (does.Jump when.Always to) m = (n < m) × (number_at listing 0 to ≡ Some m)
Follows listing n (does.Jump other to) m = (m ≡ n + 1) ⊎ ((n < m) × (number_at listing 0 to ≡ Some m))
Follows listing n other m = m ≡ n + 1

-- an instruction that a fact reaches
pub record IsReachedAs (listing : List (ℕ × Op)) (reached : List Bool) (n : ℕ) (P : Op → Type 0) : Type 0 where
  pub entry : ℕ × Op
  pub listed : slice_get listing n ≡ Some entry
  pub flagged : slice_get reached n ≡ Some true
  pub stands : P entry.1

abbrev pub IsPath : List (ℕ × Op) → List Bool → List ℕ → Type 0
IsPath listing reached [] = ⊥
IsPath listing reached (n ∷ []) = IsReachedAs listing reached n IsLast
IsPath listing reached (n ∷ m ∷ rest) = IsReachedAs listing reached n (λ i. Follows listing n i m) × IsPath listing reached (m ∷ rest)

-- a path that begins at instruction 0, or where a counted jump leads
pub record IsFromStart (listing : List (ℕ × Op)) (path : List ℕ) : Type 0 where
  pub number : ℕ
  pub rest : List ℕ
  pub begins : path ≡ number ∷ rest
  pub entry : ℕ × Op
  pub listed : slice_get listing number ≡ Some entry
  pub starts : is_start listing number entry ≡ true

-- no path from a start is longer
abbrev pub NoPathIsLonger : Type 0
NoPathIsLonger = (listing : List (ℕ × Op)) (reached : List Bool) (path : List ℕ) → IsPath listing reached path → IsFromStart listing path → length path ≤ longest_of listing reached

-- and one is as long
pub record HasLongest (listing : List (ℕ × Op)) (reached : List Bool) : Type 0 where
  pub path : List ℕ
  pub is_path : IsPath listing reached path
  pub from_start : IsFromStart listing path
  pub longest : length path ≡ longest_of listing reached

abbrev pub LongestIsAPath : Type 0
LongestIsAPath = (listing : List (ℕ × Op)) (reached : List Bool) → 0 < longest_of listing reached → HasLongest listing reached

-- at most so many instructions
abbrev pub IsUpTo : ℕ → Length → Type 0
IsUpTo most None = Unit {0}
IsUpTo most (Some n) = n ≤ most

abbrev pub AreUpTo : ℕ → List Length → Type 0
AreUpTo most later = (n : ℕ) → IsUpTo most (length_at later n)

-- how often an instruction jumps back at most
abbrev pub turns_of : Op → ℕ
turns_of (does.Repeat condition k n to) = n
turns_of other = 0
