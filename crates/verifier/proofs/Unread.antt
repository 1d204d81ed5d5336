-- Readings of outputs are never read.
use Rattle.std.proofs.Common.{◌≡◌, ℕ, zero, suc, ◌+◌, List, Option, Some, None, slice_get, Bool, true, false, refl, ap, ◌∙◌, if◌then◌else◌}
use Rattle.point_types.specs.declared.reading.Reading.{Reading}
use Rattle.scan_code.specs.Image.{Image}
use Rattle.scan_code.specs.declared.image.Tag.{Tag}
use Rattle.scan_code.specs.declared.op.Op.{Op}
use Rattle.scan_code.specs.declared.op.Op.TheVariants as does
use Rattle.scan_code.specs.Instruction.{decoded_at}
use Rattle.scan_code.specs.Machine.{State, Step, Goes, Ends, Traps, on_place, then_goes, with_result, done, decoded_step, step, after_step, run}
use Rattle.scan_code.specs.Table.{input_kind, read_value, is_present}
use Rattle.point_types.specs.Value.{truth}

-- the same reading of each tag that isn't an output
abbrev pub AgreeAt : Option Tag → Option Reading → Option Reading → Type 0
AgreeAt None a b = Unit {0}
AgreeAt (Some g) a b = g.output ≡ false → a ≡ b

module _ (image : Image) (rs us : List Reading) (agree : (t : ℕ) → AgreeAt (slice_get image.tags t) (slice_get rs t) (slice_get us t)) where
  same_on : (o : Option Tag) (a b : Option Reading) (act : Option Reading → (k : _) → Step) → AgreeAt o a b → on_place (input_kind o) (act a) ≡ on_place (input_kind o) (act b)
  same_on None a b act h = refl
  same_on (Some g) a b act h = go g.output refl
    where
      go : (t : Bool) → g.output ≡ t → on_place (if t then None else Some g.kind) (act a) ≡ on_place (if t then None else Some g.kind) (act b)
      go true e = refl
      go false e = ap (λ (r : Option Reading). act r g.kind) (h e)

  same_done : (here next : ℕ) (i : Op) (s : State) → done image rs here next i s ≡ done image us here next i s
  same_done here next (does.LoadInput t) s = same_on (slice_get image.tags t) (slice_get rs t) (slice_get us t) (λ r k. then_goes (read_value (Some k) r) (with_result next s)) (agree t)
  same_done here next (does.LoadPresence t) s = same_on (slice_get image.tags t) (slice_get rs t) (slice_get us t) (λ r k. with_result next s (truth (is_present r))) (agree t)
  same_done here next other s = refl

  same_step : (s : State) → step image rs s ≡ step image us s
  same_step s = go (decoded_at image.code s.address)
    where
      go : (o : Option (Op × ℕ)) → decoded_step image rs o s ≡ decoded_step image us o s
      go None = refl
      go (Some found) = same_done s.address found.1 found.0 s

  pub same_run : (n before : ℕ) (s : State) → run image rs before n s ≡ run image us before n s
  same_run zero before s = refl
  same_run (suc n) before s = ap (after_step (run image rs (before + 1) n) before) (same_step s) ∙ go (step image us s) (λ t. same_run n (before + 1) t)
    where
      go : (x : Step) → ((t : State) → run image rs (before + 1) n t ≡ run image us (before + 1) n t) → after_step (run image rs (before + 1) n) before x ≡ after_step (run image us (before + 1) n) before x
      go (Goes t) h = h t
      go (Ends t) h = refl
      go (Traps e) h = refl
