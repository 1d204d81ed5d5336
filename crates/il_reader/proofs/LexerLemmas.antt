-- Numbers that no literal holds, and the bytes after the first.
use Rattle.std.proofs.Common.{◌≡◌, ℕ, ◌-◌, ◌<◌, ◌≤◌, Bool, false, ℤ, List, ◌∷◌, length, take, drop, Option, sym, ap, ◌∙◌, if◌then◌else◌, arith, w64}
use Rattle.std.proofs.lemmas.List.{take_all}
use Rattle.std.proofs.lemmas.Int.{ints}
use mir.Val.{SFits}
use Rattle.point_types.specs.declared.il_type.IlType.{IlType}
use Rattle.point_types.specs.declared.il_type.IlType.TheVariants as il
use Rattle.point_types.specs.Value.{low_of, high_of, is_within}
use Rattle.il_reader.specs.declared.fault.ReadFaultKind.TheVariants as fault
use Rattle.il_reader.specs.declared.numeral.Spelling.{Spelling}
use Rattle.il_reader.specs.declared.lexer.Mode.TheVariants as mode
use Rattle.il_reader.specs.Tokens.{fails, stands, limits_of, number_stands}

pub outside : (k : IlType) (n : ℤ) → (SFits w64 n → ⊥) → is_within (low_of k) (high_of k) n ≡ false
outside il.Bool n f = grind (arith, ints)
outside il.Sint n f = grind (arith, ints)
outside il.Int n f = grind (arith, ints)
outside il.Dint n f = grind (arith, ints)
outside il.Lint n f = grind (arith, ints)
outside il.Usint n f = grind (arith, ints)
outside il.Uint n f = grind (arith, ints)
outside il.Udint n f = grind (arith, ints)

pub number_fails : (k : Option IlType) (s : Spelling) (n : ℤ) → (SFits w64 n → ⊥) → fails fault.Literal ≡ number_stands k s n
number_fails k s n f = ap (λ z. if z then stands (mode.Number k s n false) else fails fault.Literal) (sym (outside (limits_of k) n f))

-- The bytes after the first.

abbrev pub behind_first : List ℕ → List ℕ
behind_first rest = take (length rest - 1) (drop 1 rest)

pub behind_first_is : (b : ℕ) (bs : List ℕ) → behind_first (b ∷ bs) ≡ bs
behind_first_is b bs = let n : length (b ∷ bs) - 1 ≡ length bs = omega arith in ap (λ z. take z bs) n ∙ take_all (length bs) bs (omega arith)
