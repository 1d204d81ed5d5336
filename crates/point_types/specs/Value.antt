-- Values of the elementary types, and what the operators make of them.
-- IEC 61131-3 (edition 2), 2.3.1 elementary data types, 2.5.1.5 standard functions.
use Rattle.std.specs.Prelude.{ℕ, ◌^◌, Bool, true, false, ◌&&◌, ◌||◌, not, ℤ, pos, ◌+ℤ◌, ◌-ℤ◌, ◌*ℤ◌, neg_ℤ, int_lt, int_le, int_div, int_rem, if◌then◌else◌, Result, Ok, Err, nat_eq}
use Rattle.point_types.specs.declared.il_type.IlType.{IlType}
use Rattle.point_types.specs.declared.il_type.IlType.TheVariants as il
use Rattle.point_types.specs.declared.operator.Operator.{Operator}
use Rattle.point_types.specs.declared.operator.Operator.TheVariants as op

infixl 10 ◌>>=◌
abbrev pub ◌>>=◌ : {A B E : Type 0} → Result A E → (A → Result B E) → Result B E
(Ok x) >>= f = f x
(Err e) >>= f = Err e

-- why an evaluation stops
pub data Fault : Type 0 where
  WrongType : Fault
  Overflow : Fault
  ZeroDivisor : Fault
  MissingPoint : Fault
  StoreRange : Fault

-- the ranges of the types
abbrev pub low_of : IlType → ℤ
low_of il.Bool = pos 0
low_of il.Sint = neg_ℤ (pos (2 ^ 7))
low_of il.Int = neg_ℤ (pos (2 ^ 15))
low_of il.Dint = neg_ℤ (pos (2 ^ 31))
low_of il.Lint = neg_ℤ (pos (2 ^ 63))
low_of il.Usint = pos 0
low_of il.Uint = pos 0
low_of il.Udint = pos 0

abbrev pub high_of : IlType → ℤ
high_of il.Bool = pos 1
high_of il.Sint = pos 127
high_of il.Int = pos 32767
high_of il.Dint = pos 2147483647
high_of il.Lint = pos 9223372036854775807
high_of il.Usint = pos 255
high_of il.Uint = pos 65535
high_of il.Udint = pos 4294967295

abbrev pub is_within : ℤ → ℤ → ℤ → Bool
is_within low high n = int_le low n && int_le n high

-- a number of a type
pub record Value : Type 0 where
  pub kind : IlType
  pub number : ℤ

abbrev pub number_of : Bool → ℤ
number_of true = pos 1
number_of false = pos 0

abbrev pub truth : Bool → Value
truth b = record { kind = il.Bool; number = number_of b }

-- types as numbers, to compare them
abbrev pub code_of : IlType → ℕ
code_of il.Bool = 0
code_of il.Sint = 1
code_of il.Int = 2
code_of il.Dint = 3
code_of il.Lint = 4
code_of il.Usint = 5
code_of il.Uint = 6
code_of il.Udint = 7

abbrev pub is_bool : IlType → Bool
is_bool il.Bool = true
is_bool other = false

abbrev pub same_kind : Value → Value → Bool
same_kind a b = nat_eq (code_of a.kind) (code_of b.kind)

-- a number that has to lie in its type
abbrev pub fitted : IlType → ℤ → Result Value Fault
fitted kind n = if is_within (low_of kind) (high_of kind) n then Ok (record { kind = kind; number = n }) else Err Overflow

abbrev pub int_eq : ℤ → ℤ → Bool
int_eq a b = int_le a b && int_le b a

-- both are BOOL
abbrev pub on_bools : (Bool → Bool → Bool) → Value → Value → Result Value Fault
on_bools f a b = if is_bool a.kind && is_bool b.kind then Ok (truth (f (int_eq a.number (pos 1)) (int_eq b.number (pos 1)))) else Err WrongType

-- both are whole numbers of one type
abbrev pub on_numbers : (ℤ → ℤ → Result ℤ Fault) → Value → Value → Result Value Fault
on_numbers f a b = if same_kind a b && not (is_bool a.kind) then (f a.number b.number >>= fitted a.kind) else Err WrongType

abbrev pub compared : (ℤ → ℤ → Bool) → Value → Value → Result Value Fault
compared f a b = if same_kind a b && not (is_bool a.kind) then Ok (truth (f a.number b.number)) else Err WrongType

abbrev pub alike : (ℤ → ℤ → Bool) → Value → Value → Result Value Fault
alike f a b = if same_kind a b then Ok (truth (f a.number b.number)) else Err WrongType

abbrev pub divided : (ℤ → ℤ → ℤ) → ℤ → ℤ → Result ℤ Fault
divided f a b = if int_eq b (pos 0) then Err ZeroDivisor else Ok (f a b)

abbrev pub int_least : ℤ → ℤ → ℤ
int_least a b = if int_lt b a then b else a

abbrev pub int_most : ℤ → ℤ → ℤ
int_most a b = if int_lt a b then b else a

-- result OP operand
abbrev pub applied : Operator → Value → Value → Result Value Fault
applied op.And a b = on_bools (λ x y. x && y) a b
applied op.Or a b = on_bools (λ x y. x || y) a b
applied op.Xor a b = on_bools (λ x y. if x then not y else y) a b
applied op.Add a b = on_numbers (λ x y. Ok (x +ℤ y)) a b
applied op.Sub a b = on_numbers (λ x y. Ok (x -ℤ y)) a b
applied op.Mul a b = on_numbers (λ x y. Ok (x *ℤ y)) a b
applied op.Div a b = on_numbers (divided int_div) a b
applied op.Mod a b = on_numbers (divided int_rem) a b
applied op.Gt a b = compared (λ x y. int_lt y x) a b
applied op.Ge a b = compared (λ x y. int_le y x) a b
applied op.Eq a b = alike int_eq a b
applied op.Ne a b = alike (λ x y. not (int_eq x y)) a b
applied op.Le a b = compared int_le a b
applied op.Lt a b = compared int_lt a b
applied op.Min a b = on_numbers (λ x y. Ok (int_least x y)) a b
applied op.Max a b = on_numbers (λ x y. Ok (int_most x y)) a b

abbrev pub inverted : Value → Result Value Fault
inverted a = if is_bool a.kind then Ok (truth (int_eq a.number (pos 0))) else Err WrongType

abbrev pub inverted_if : Bool → Value → Result Value Fault
inverted_if b a = if b then inverted a else Ok a

-- a range within its type, with a start in it
abbrev pub is_ranged : IlType → ℤ → ℤ → ℤ → Bool
is_ranged kind low high start = int_le (low_of kind) low && is_within low high start && int_le high (high_of kind)
