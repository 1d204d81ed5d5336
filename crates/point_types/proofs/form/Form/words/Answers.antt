use Rattle.std.proofs.Common.{◌≡◌, ℤ, Option, Some, ap, ◌∙◌, of_z}
use Rattle.std.specs.Int.{w128}
use Rattle.std.proofs.lemmas.Int.{to_z-of_z}
use Rattle.point_types.specs.Point.{row}
use Rattle.point_types.proofs.Forms.{no-spelling}
use Rattle.point_types.proofs.form.Form.words.Goals as goal
use Rattle.point_types.proofs.form.Form.words.Goals.{in_default-via-in-Some+else-read-value, in_default-via-in_default}

same_value : {o : Option ℤ} {a b : ℤ} → o ≡ Some a → o ≡ Some b → a ≡ b
same_value p q = cc

pub returns-in_default : goal.returns-in_default
returns-in_default g c =
    let f = c.ranges.value in
    let remainder = simp to_z-of_z at c.wrapped-number.ensures.remainder in
    no-spelling (row g.row.W c.args.self c.args.unimplemented) c.wrapped-number.result c.args.value remainder
    (λ e. elim c.in_default.branch [ in_default-via-in-Some+else-read-value w ↦ w.if-read-value.false (ap (of_z w128) (same_value w.in-Some.is (c.read.ensures ∙ e))) | in_default-via-in_default w ↦ w.in_default.not-Some _ (c.read.ensures ∙ e) ])
