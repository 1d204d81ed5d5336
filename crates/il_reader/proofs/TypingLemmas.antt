-- Typings and variables with the same numbers are one.
use Rattle.std.proofs.Common.{◌≡◌, Bool, true, false, ℤ, Option, Some, refl, sym, subst, ◌∙◌}
use Rattle.std.proofs.Math.Bool.{Bool-set}
use mathlib.Core.HLevel.{is_prop→PathP}
use Rattle.std.specs.Prelude.{IsTrue}
use Rattle.point_types.specs.declared.il_type.IlType.{IlType}
use Rattle.point_types.specs.Value.{is_ranged}
use Rattle.il_reader.specs.declared.tree.Variable.{Variable}
use Rattle.il_reader.specs.declared.typing.Entry.{Entry}
use Rattle.il_reader.specs.declared.typing.Typing.{Typing}
use Rattle.il_reader.specs.Declaration.{ranged_typing, typing_of, variable_of}

pub variable_is : (t : Typing) (e : Entry) (low high start : ℤ) (r : IsTrue (is_ranged t.kind low high start)) → low ≡ t.low → high ≡ t.high → start ≡ t.start → ◌≡◌ {A = Variable} (record { line = e.line; var = record { name = e.name; kind = t.kind; low = low; high = high; start = start; ranged = r } }) (variable_of t e)
variable_is t e low high start r a b c = λ i.
    record { line = e.line; var = record { name = e.name; kind = t.kind; low = a i; high = b i; start = c i; ranged = is_prop→PathP (λ j. IsTrue (is_ranged t.kind (a j) (b j) (c j))) (λ j. Bool-set (is_ranged t.kind (a j) (b j) (c j)) true) r t.ranged i } }

pub typing_is : (kind : IlType) (low high start : ℤ) (r : IsTrue (is_ranged kind low high start)) (l h n : ℤ) → low ≡ l → high ≡ h → start ≡ n → ◌≡◌ {A = Option Typing} (Some (record { kind = kind; low = low; high = high; start = start; ranged = r })) (typing_of kind l h n)
typing_is kind low high start r l h n a b c = moved ∙ decided (is_ranged kind l h n) refl end
  where
    end : IsTrue (is_ranged kind l h n)
    end = subst (λ z. IsTrue (is_ranged kind l h z)) c (subst (λ z. IsTrue (is_ranged kind l z start)) b (subst (λ z. IsTrue (is_ranged kind z high start)) a r))

    moved : ◌≡◌ {A = Option Typing} (Some (record { kind = kind; low = low; high = high; start = start; ranged = r })) (Some (record { kind = kind; low = l; high = h; start = n; ranged = end }))
    moved = λ i. Some (record { kind = kind; low = a i; high = b i; start = c i; ranged = is_prop→PathP (λ j. IsTrue (is_ranged kind (a j) (b j) (c j))) (λ j. Bool-set (is_ranged kind (a j) (b j) (c j)) true) r end i })

    decided : (b : Bool) (e : is_ranged kind l h n ≡ b) (q : IsTrue (is_ranged kind l h n)) → ◌≡◌ {A = Option Typing} (Some (record { kind = kind; low = l; high = h; start = n; ranged = q })) (ranged_typing kind l h n b e)
    decided true e q = λ i. Some (record { kind = kind; low = l; high = h; start = n; ranged = Bool-set (is_ranged kind l h n) true q e i })
    decided false e q = absurd (no (sym q ∙ e))
      where
        no : true ≡ false → ⊥
        no h = cc
