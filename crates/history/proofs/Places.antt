-- What is kept of several quantities, of which some changed.
use Rattle.std.proofs.Common.{◌≡◌, ℕ, ◌+◌, ◌-◌, ◌<◌, ◌≤◌, ℤ, zero, suc, List, [], ◌∷◌, ◌++◌, map, length, get_or, set, arith}
use Rattle.history.specs.Recorded.{AreKeptOf, number_at, steps_later}
use Rattle.history.specs.Steps.{IsKeptOf, Kept, Put, next_step, with_number}

-- the step is over for the first so many
abbrev pub passed : ℕ → List Put → List Put
passed zero puts = puts
passed (suc n) [] = []
passed (suc n) (put ∷ puts) = next_step put ∷ passed n puts

pub one_passed : (n : ℕ) (puts : List Put) (series : List Kept) (now d : Kept) → n < length series → AreKeptOf (passed n puts) series
    → ((put : Put) → IsKeptOf put (get_or series n d) → IsKeptOf (next_step put) now)
    → AreKeptOf (passed (suc n) puts) (set series n now)
one_passed n puts [] now d within are passes = absurd (omega (arith, within))
one_passed zero [] (kept ∷ series) now d within are passes = elim are [ ]
one_passed zero (put ∷ puts) (kept ∷ series) now d within are passes = (passes put are.0, are.1)
one_passed (suc n) [] (kept ∷ series) now d within are passes = elim are [ ]
one_passed (suc n) (put ∷ puts) (kept ∷ series) now d within are passes =
    (are.0, one_passed n puts series now d (omega (arith, within)) are.1 passes)

pub all_passed : (n : ℕ) (puts : List Put) (series : List Kept) → length series ≤ n → AreKeptOf (passed n puts) series → AreKeptOf (map next_step puts) series
all_passed zero [] [] all are = are
all_passed zero (put ∷ puts) [] all are = elim are [ ]
all_passed zero puts (kept ∷ series) all are = absurd (omega (arith, all))
all_passed (suc n) [] [] all are = are
all_passed (suc n) [] (kept ∷ series) all are = elim are [ ]
all_passed (suc n) (put ∷ puts) [] all are = elim are [ ]
all_passed (suc n) (put ∷ puts) (kept ∷ series) all are = (are.0, all_passed n puts series (omega (arith, all)) are.1)

pub put_there : (n : ℕ) (number : ℤ) (puts : List Put) (series : List Kept) (now d : Kept) → n < length series → AreKeptOf puts series
    → ((put : Put) → IsKeptOf put (get_or series n d) → IsKeptOf (with_number number put) now)
    → AreKeptOf (number_at n number puts) (set series n now)
put_there n number [] [] now d within are takes = are
put_there n number (put ∷ puts) [] now d within are takes = elim are [ ]
put_there n number [] (kept ∷ series) now d within are takes = elim are [ ]
put_there zero number (put ∷ puts) (kept ∷ series) now d within are takes = (takes put are.0, are.1)
put_there (suc n) number (put ∷ puts) (kept ∷ series) now d within are takes =
    (are.0, put_there n number puts series now d (omega (arith, within)) are.1 takes)

pub put_nowhere : (n : ℕ) (number : ℤ) (puts : List Put) (series : List Kept) → length series ≤ n → AreKeptOf puts series
    → AreKeptOf (number_at n number puts) series
put_nowhere n number [] [] beyond are = are
put_nowhere n number (put ∷ puts) [] beyond are = elim are [ ]
put_nowhere n number [] (kept ∷ series) beyond are = elim are [ ]
put_nowhere zero number (put ∷ puts) (kept ∷ series) beyond are = absurd (omega (arith, beyond))
put_nowhere (suc n) number (put ∷ puts) (kept ∷ series) beyond are = (are.0, put_nowhere n number puts series (omega (arith, beyond)) are.1)

pub now_later : (n : ℕ) (puts : List Put) (series : List Kept) → AreKeptOf puts series → AreKeptOf (steps_later (n - n) puts) series
now_later n puts series are = let none : n - n ≡ 0 = omega arith in rw none are

pub one_later : (over count : ℕ) (puts : List Put) (series : List Kept) → over ≤ count
    → AreKeptOf (map next_step (steps_later (count - over) puts)) series → AreKeptOf (steps_later (count + 1 - over) puts) series
one_later over count puts series begun are = let more : count + 1 - over ≡ suc (count - over) = omega (arith, begun) in rw more are

pub all_later : (over count step : ℕ) (puts : List Put) (series : List Kept) → count - over ≤ step - over → step ≤ count
    → AreKeptOf (steps_later (count - over) puts) series → AreKeptOf (steps_later (step - over) puts) series
all_later over count step puts series few all are = let same : step - over ≡ count - over = omega (arith, few, all) in rw same are

pub one_added : (puts : List Put) (series : List Kept) (put : Put) (kept : Kept) → AreKeptOf puts series → IsKeptOf put kept
    → AreKeptOf (puts ++ put ∷ []) (series ++ kept ∷ [])
one_added [] [] put kept are is = (is, are)
one_added [] (k ∷ series) put kept are is = elim are [ ]
one_added (p ∷ puts) [] put kept are is = elim are [ ]
one_added (p ∷ puts) (k ∷ series) put kept are is = (are.0, one_added puts series put kept are.1 is)
