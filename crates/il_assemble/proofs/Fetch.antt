-- Code that stands in bytes from an address on.
use Rattle.std.proofs.Common.{◌≡◌, ℕ, ◌+◌, List, [], ◌∷◌, ◌++◌, length, Some, subst, append_assoc, length-append}
use Rattle.scan_code.specs.declared.op.Op.{Op}
use Rattle.scan_code.specs.Instruction.{decoded_at}
use Rattle.scan_code.specs.Spelling.{spelled, spelled_all, IsFine}
use Rattle.scan_code.proofs.Fetch.{spelled_instructions_decode}
use Rattle.il_assemble.specs.Code.{past}

-- the instructions stand in the code from this address on
abbrev pub HasAt : List ℕ → ℕ → List Op → Type 0
HasAt code a [] = Unit {0}
HasAt code a (i ∷ is) = (IsFine i → decoded_at code a ≡ Some (i, a + length (spelled i))) × HasAt code (a + length (spelled i)) is

pub has_front : (code : List ℕ) (a : ℕ) (is js : List Op) → HasAt code a (is ++ js) → HasAt code a is
has_front code a [] js h = tt
has_front code a (i ∷ is) js h = (h.0, has_front code (a + length (spelled i)) is js h.1)

pub has_back : (code : List ℕ) (a : ℕ) (is js : List Op) → HasAt code a (is ++ js) → HasAt code (past a is) js
has_back code a [] js h = h
has_back code a (i ∷ is) js h = has_back code (a + length (spelled i)) is js h.1

pub has_all : (is : List Op) (before : List ℕ) → HasAt (before ++ spelled_all is) (length before) is
has_all [] before = tt
has_all (i ∷ is) before =
    let n : length (before ++ spelled i) ≡ length before + length (spelled i) = length-append before (spelled i) in
    let rest = subst (λ l. HasAt l (length (before ++ spelled i)) is) (append_assoc before (spelled i) (spelled_all is)) (has_all is (before ++ spelled i)) in
    (λ fine. spelled_instructions_decode i before (spelled_all is) fine, subst (λ m. HasAt (before ++ (spelled i ++ spelled_all is)) m is) n rest)
