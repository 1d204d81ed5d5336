-- The bytes of an instruction: its code byte and its arguments, big-endian.
-- IEC 61131-3 edition 2, 3.2 leaves the form of compiled code open; this is this project's bytecode.
use Rattle.std.specs.Prelude.{◌≡◌, ℕ, zero, suc, ◌+◌, ◌-◌, ◌/◌, ◌%◌, ◌^◌, ◌<◌, Bool, true, false, ℤ, pos, negsuc, List, [], ◌∷◌, ◌++◌, length, Some, nat_eq}
use Rattle.point_types.specs.declared.operator.Operator.{Operator}
use Rattle.point_types.specs.declared.operator.Operator.TheVariants as op
use Rattle.point_types.specs.declared.operator.Condition.{Condition}
use Rattle.point_types.specs.declared.operator.Condition.TheVariants as when
use Rattle.scan_code.specs.declared.op.Op.{Op}
use Rattle.scan_code.specs.declared.op.Op.TheVariants as does
use Rattle.point_types.specs.Value.{low_of, high_of, is_within, is_bool, code_of}
use Rattle.scan_code.specs.Instruction.{decoded_at}

abbrev pub place_bytes : ℕ → List ℕ
place_bytes n = n / 256 ∷ n % 256 ∷ []

-- the lowest bytes of a number, so many, before the rest: big-endian
abbrev pub bytes_of : ℕ → ℕ → List ℕ → List ℕ
bytes_of zero n rest = rest
bytes_of (suc k) n rest = bytes_of k (n / 256) (n % 256 ∷ rest)

-- two's complement in eight bytes
abbrev pub unsigned : ℤ → ℕ
unsigned (pos n) = n
unsigned (negsuc n) = 2 ^ 64 - (n + 1)

abbrev pub byte_of : Bool → ℕ
byte_of true = 1
byte_of false = 0

abbrev pub operator_byte : Operator → ℕ
operator_byte op.And = 14
operator_byte op.Or = 15
operator_byte op.Xor = 16
operator_byte op.Add = 17
operator_byte op.Sub = 18
operator_byte op.Mul = 19
operator_byte op.Div = 20
operator_byte op.Mod = 21
operator_byte op.Gt = 22
operator_byte op.Ge = 23
operator_byte op.Eq = 24
operator_byte op.Ne = 25
operator_byte op.Le = 26
operator_byte op.Lt = 27
operator_byte op.Min = 28
operator_byte op.Max = 29

abbrev pub jump_byte : Condition → ℕ
jump_byte when.Always = 33
jump_byte when.IfTrue = 34
jump_byte when.IfFalse = 35

abbrev pub repeat_byte : Condition → ℕ
repeat_byte when.Always = 38
repeat_byte when.IfTrue = 39
repeat_byte when.IfFalse = 40

-- a return that always acts is an end, and has no byte of its own
abbrev pub return_byte : Condition → ℕ
return_byte when.Always = 0
return_byte when.IfTrue = 36
return_byte when.IfFalse = 37

abbrev pub spelled : Op → List ℕ
spelled does.End = 0 ∷ []
spelled (does.LoadVariable v) = 1 ∷ place_bytes v
spelled (does.LoadInput t) = 2 ∷ place_bytes t
spelled (does.LoadPresence t) = 3 ∷ place_bytes t
spelled (does.LoadBool b) = 4 ∷ byte_of b ∷ []
spelled (does.LoadNumber k n) = 5 ∷ code_of k ∷ bytes_of 8 (unsigned n) []
spelled (does.StoreVariable v) = 6 ∷ place_bytes v
spelled (does.StoreOutput t) = 7 ∷ place_bytes t
spelled (does.SetVariable v) = 8 ∷ place_bytes v
spelled (does.ResetVariable v) = 9 ∷ place_bytes v
spelled (does.SetOutput t) = 10 ∷ place_bytes t
spelled (does.ResetOutput t) = 11 ∷ place_bytes t
spelled does.Push = 12 ∷ []
spelled does.Not = 13 ∷ []
spelled (does.Apply o) = operator_byte o ∷ []
spelled does.Select = 30 ∷ []
spelled does.Absolute = 31 ∷ []
spelled (does.Convert from to) = 32 ∷ code_of from ∷ code_of to ∷ []
spelled (does.Jump condition to) = jump_byte condition ∷ place_bytes to
spelled (does.Return condition) = return_byte condition ∷ []
spelled (does.Repeat condition k limit to) = repeat_byte condition ∷ k ∷ limit ∷ place_bytes to

abbrev pub spelled_all : List Op → List ℕ
spelled_all [] = []
spelled_all (i ∷ is) = spelled i ++ spelled_all is

-- what a decoder accepts: a number of its whole-number type, two different ones, a count that isn't 0;
-- a return that always acts is spelled as an end, and so is none
abbrev pub IsFine : Op → Type 0
IsFine does.End = Unit {0}
IsFine (does.LoadVariable v) = Unit {0}
IsFine (does.LoadInput t) = Unit {0}
IsFine (does.LoadPresence t) = Unit {0}
IsFine (does.LoadBool b) = Unit {0}
IsFine (does.LoadNumber k n) = (is_bool k ≡ false) × (is_within (low_of k) (high_of k) n ≡ true)
IsFine (does.StoreVariable v) = Unit {0}
IsFine (does.StoreOutput t) = Unit {0}
IsFine (does.SetVariable v) = Unit {0}
IsFine (does.ResetVariable v) = Unit {0}
IsFine (does.SetOutput t) = Unit {0}
IsFine (does.ResetOutput t) = Unit {0}
IsFine does.Push = Unit {0}
IsFine does.Not = Unit {0}
IsFine (does.Apply o) = Unit {0}
IsFine does.Select = Unit {0}
IsFine does.Absolute = Unit {0}
IsFine (does.Convert from to) = (is_bool from ≡ false) × (is_bool to ≡ false) × (nat_eq (code_of from) (code_of to) ≡ false)
IsFine (does.Jump condition to) = Unit {0}
IsFine (does.Return when.Always) = ⊥
IsFine (does.Return when.IfTrue) = Unit {0}
IsFine (does.Return when.IfFalse) = Unit {0}
IsFine (does.Repeat condition k limit to) = 0 < limit

-- what was spelled is decoded, wherever it stands, and the next address is the one after it
abbrev pub SpelledInstructionsDecode : Type 0
SpelledInstructionsDecode =
    (i : Op) (before rest : List ℕ) → IsFine i
    → decoded_at (before ++ (spelled i ++ rest)) (length before) ≡ Some (i, length before + length (spelled i))

-- arguments that have room in their bytes
abbrev pub FitsBytes : Op → Type 0
FitsBytes does.End = Unit {0}
FitsBytes (does.LoadVariable v) = v < 65536
FitsBytes (does.LoadInput t) = t < 65536
FitsBytes (does.LoadPresence t) = t < 65536
FitsBytes (does.LoadBool b) = Unit {0}
FitsBytes (does.LoadNumber k n) = Unit {0}
FitsBytes (does.StoreVariable v) = v < 65536
FitsBytes (does.StoreOutput t) = t < 65536
FitsBytes (does.SetVariable v) = v < 65536
FitsBytes (does.ResetVariable v) = v < 65536
FitsBytes (does.SetOutput t) = t < 65536
FitsBytes (does.ResetOutput t) = t < 65536
FitsBytes does.Push = Unit {0}
FitsBytes does.Not = Unit {0}
FitsBytes (does.Apply o) = Unit {0}
FitsBytes does.Select = Unit {0}
FitsBytes does.Absolute = Unit {0}
FitsBytes (does.Convert from to) = Unit {0}
FitsBytes (does.Jump condition to) = to < 65536
FitsBytes (does.Return condition) = Unit {0}
FitsBytes (does.Repeat condition k limit to) = (k < 256) × (limit < 256) × (to < 65536)
