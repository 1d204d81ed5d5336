-- The lines inside parentheses, as they are written.
use Rattle.std.proofs.Common.{◌≡◌, ◌≤◌, ℕ, length, map, Bool, true, Option, None, arith, refl, ap, sym, ◌∙◌, List, [], ◌∷◌, ◌++◌}
use Rattle.point_types.specs.declared.operator.Operator.{Operator}
use Rattle.il_reader.specs.declared.tree.Operand.{Operand}
use Rattle.il_reader.specs.declared.tree.Simple.{Defer, fold-roll-Simple}
use Rattle.il_reader.specs.declared.tree.Simple.TheOpen as layer
use Rattle.il_reader.specs.declared.tree.Simple.TheViews as views
use Rattle.il_reader.specs.declared.tree.InnerLine.{InnerLine, fold-InnerLine, fold-roll-InnerLine, out-InnerLine, roll-out-InnerLine}
use Rattle.il_reader.specs.Written as form
use Rattle.il_reader.specs.Written.{Written, Inner, Close, Then, followed_by}
use Rattle.il_reader.specs.Nesting.{is_filled}
use Rattle.il_reader.specs.Writing.{InnerForm, joined, written_layer, written_line, written, written_inner}

one : (l : InnerLine) → fold-InnerLine Written InnerForm written_layer written_line l ≡ record { line = l.line; form = written l.simple }
one l = ap (fold-InnerLine Written InnerForm written_layer written_line) (sym (roll-out-InnerLine l)) ∙ fold-roll-InnerLine Written InnerForm written_layer written_line (out-InnerLine l)

all : (ls : List InnerLine) → joined (map (fold-InnerLine Written InnerForm written_layer written_line) ls) ≡ written_inner ls
all [] = refl
all (l ∷ ls) = ap (λ (n : InnerForm). form.Then n.line n.form (joined (map (fold-InnerLine Written InnerForm written_layer written_line) ls))) (one l) ∙ ap (form.Then l.line (written l.simple)) (all ls)

pub deferred : (o : Operator) (negated : Bool) (first : Option Operand) (inner : _) → written (Defer o negated first inner) ≡ form.Defer o negated first (written_inner inner.items)
deferred o negated first inner = ap written (sym (views.rolls-Defer o negated first inner)) ∙ (fold-roll-Simple Written InnerForm written_layer written_line (layer.Defer o negated first inner) ∙ ap (form.Defer o negated first) (all inner.items))

-- one more line
pub one_more : (ls ks : List InnerLine) → written_inner (ls ++ ks) ≡ followed_by (written_inner ls) (written_inner ks)
one_more [] ks = refl
one_more (l ∷ ls) ks = ap (form.Then l.line (written l.simple)) (one_more ls ks)

pub pushed : (new old : List InnerLine) (l : InnerLine) (inner : Inner) (line : ℕ) (x : Written) → new ≡ old ++ l ∷ [] → written_inner old ≡ inner → l.line ≡ line → written l.simple ≡ x → written_inner new ≡ followed_by inner (Then line x Close)
pushed new old l inner line x e f g h =
    ap written_inner e ∙ one_more old (l ∷ []) ∙ ap (λ z. followed_by z (Then l.line (written l.simple) Close)) f ∙ ap (λ z. followed_by inner (Then z (written l.simple) Close)) g ∙ ap (λ z. followed_by inner (Then line z Close)) h

pub some_lines : (ls : List InnerLine) → 1 ≤ length ls → is_filled None (written_inner ls) ≡ true
some_lines [] h = absurd (omega (arith, h))
some_lines (l ∷ ls) h = refl
