-- What differs is told.
use Rattle.std.proofs.Common.{◌≡◌, ◌≢◌, ◌⊎◌, inl, inr, eqb, eq-eqb, ℕ, Bool, true, false, ◌&&◌, List, Option, None, Some, slice_get, refl, sym, ap, subst, ◌∙◌, if◌then◌else◌}
use Rattle.std.specs.Prelude.{◌==◌, ◌||◌, not, is_some, option_map, option_and_then}
use Rattle.std.specs.Option.{option_map_or}
use Rattle.std.proofs.Math.Bool.{Bool-set}
use Rattle.std.proofs.Math.Logic.{∥∥₁_elim, ∥∥₁_prop}
use Rattle.std.proofs.lemmas.Bool.Decides.{eqb_tells}
use Rattle.modbus_frame.specs.declared.message.Exception.{Exception}
use Rattle.site_model.specs.declared.want.Want.{Want}
use Rattle.point_writer.specs.declared.write.NoWrite.{NoWrite}
use Rattle.point_writer.specs.declared.write.NoWrite.TheVariants as refusal
use Rattle.gateway.specs.declared.poller.outcome.Outcome.{Outcome}
use Rattle.gateway.specs.declared.poller.outcome.Outcome.TheVariants as outcome
use Rattle.service_requests.specs.declared.request_end.RequestEnd.{RequestEnd}
use Rattle.service_parts.specs.declared.asked.Aim.{Aim}
use Rattle.service_parts.specs.declared.asked.Aim.TheVariants as aim
use Rattle.service_parts.specs.declared.asked.Asked.{Asked}
use Rattle.service.specs.declared.device_side.DeviceSide.{DeviceSide}
use Rattle.service.specs.declared.held_writes.HeldWrites.{HeldWrites}
use Rattle.service.specs.declared.notice.Loss.{Loss}
use Rattle.service.specs.declared.notice.Notice.{Notice}
use Rattle.service.specs.declared.notice.Notice.TheVariants as note
use Rattle.service.specs.declared.notice.Unwritten.TheVariants as unwritten
use Rattle.service.specs.declared.output.Output.{Output}
use Rattle.service.specs.declared.output.OutputState.{OutputState}
use Rattle.service.specs.declared.output.OutputState.TheVariants as state
use Rattle.service.specs.declared.read_back.Difference.{Difference}
use Rattle.service.specs.declared.read_back.Shown.{Shown}
use Rattle.service.specs.declared.read_back.Shown.TheVariants as shown
use Rattle.service.specs.declared.service_state.Service.{Service}
use Rattle.service.specs.Comparing.{AreCompared, TellsOthers, WritesAnew, is_left, is_left_for}
use Rattle.service.specs.Having.{IsAnsweredBy, IsHad, IsRefusedBy, IsToldBy, WritesHad, taken_by}
use Rattle.service.specs.ReadBack.{IsShownBy, block_by, is_block, shown_in}
use Rattle.service.specs.Told.{Allowed, BecomesBy, Course, Goes, Tells, TellsNothing, allows, awaits, compares_at, differs_at, differs_then, goes, scans, state_at, state_then, stays, tells}
use Rattle.service.specs.Turning.{after_block, showing}
use Rattle.service.proofs.Compared.{by_block}
use Rattle.service.proofs.Having.{within_own}

-- ---- on the way

-- it is told to differ, or that nothing came of its write
abbrev stands : DeviceSide → ℕ → Bool
stands side output = differs_at side output || is_left (state_at side output)

left_last : (b c : Bool) → c ≡ true → (b || c) ≡ true
left_last true c is = refl
left_last false c is = is

left_first : (b c : Bool) → b ≡ true → (b || c) ≡ true
left_first b c is = ap (λ x. x || c) is

both_sides : Bool → Bool → {X : Type 0} → (b : Bool) → b ≡ true → b ≡ false → X
both_sides x y b yes_ no_ = absurd (cc)

module _ (output : ℕ) where
  -- nothing else of it than that
  abbrev became_if : (is_own : Bool) → OutputState → Bool
  became_if true became = is_left (Some became)
  became_if false became = true

  abbrev quiet : Allowed
  quiet = record {
    lost = λ device why. true;
    became = λ which became. became_if (which == output) became;
    shows = λ which this. not (which == output);
    awaits = λ which. true;
    scanned = λ came. true;
  }

  same_stands : (old new : DeviceSide) → differs_at new output ≡ differs_at old output → state_at new output ≡ state_at old output → stands old output ≡ true → stands new output ≡ true
  same_stands old new differs outputs before = ap (λ b. b || is_left (state_at new output)) differs ∙ (ap (λ s. differs_at old output || is_left s) outputs ∙ before)

  module _ (old new : DeviceSide) (before : stands old output ≡ true) where
    told_other : (n : Notice) → Tells n old new → differs_then n output (differs_at old output) ≡ differs_at old output → state_then n output (state_at old output) ≡ state_at old output → stands new output ≡ true
    told_other n is differs outputs = same_stands old new (is.differs output ∙ differs) (is.outputs output ∙ outputs) before

    away_if : {X : Type 0} (which : ℕ) (x y : X) → eqb output which ≡ false → (if output == which then x else y) ≡ y
    away_if which x y away = ap (λ (b : Bool). if b then x else y) away

    here_if : {X : Type 0} (which : ℕ) (x y : X) → eqb output which ≡ true → (if output == which then x else y) ≡ x
    here_if which x y here = ap (λ (b : Bool). if b then x else y) here

    own : (which : ℕ) → output ≡ which → (which == output) ≡ true
    own which same = eq-eqb which output (sym same)

    told_step : (n : Notice) → allows quiet n ≡ true → Tells n old new → stands new output ≡ true
    told_step (note.Differs which difference) may is = go (eqb_tells output which)
      where
        go : ((eqb output which ≡ true) × (output ≡ which)) ⊎ ((eqb output which ≡ false) × (output ≢ which)) → stands new output ≡ true
        go (inl here) = left_first (differs_at new output) (is_left (state_at new output)) (is.differs output ∙ here_if which true (differs_at old output) here.0)
        go (inr away) = told_other (note.Differs which difference) is (away_if which true (differs_at old output) away.0) refl
    told_step (note.Agrees which) may is = go (eqb_tells output which)
      where
        go : ((eqb output which ≡ true) × (output ≡ which)) ⊎ ((eqb output which ≡ false) × (output ≢ which)) → stands new output ≡ true
        go (inl here) = both_sides true true (not (which == output)) may (ap not (own which here.1))
        go (inr away) = told_other (note.Agrees which) is (away_if which false (differs_at old output) away.0) refl
    told_step (note.Unwritten which cause) may is = go (eqb_tells output which)
      where
        go : ((eqb output which ≡ true) × (output ≡ which)) ⊎ ((eqb output which ≡ false) × (output ≢ which)) → stands new output ≡ true
        go (inl here) =
            left_last (differs_at new output) (is_left (state_at new output))
            (ap is_left (is.outputs output ∙ here_if which (Some (state.Unwritten cause)) (state_at old output) here.0) ∙ (sym (ap (λ (b : Bool). became_if b (state.Unwritten cause)) (own which here.1)) ∙ may))
        go (inr away) = told_other (note.Unwritten which cause) is (away_if which false (differs_at old output) away.0) (away_if which (Some (state.Unwritten cause)) (state_at old output) away.0)
    told_step (note.Written which) may is = go (eqb_tells output which)
      where
        go : ((eqb output which ≡ true) × (output ≡ which)) ⊎ ((eqb output which ≡ false) × (output ≢ which)) → stands new output ≡ true
        go (inl here) = both_sides true true (became_if (which == output) state.Written) may (ap (λ (b : Bool). became_if b state.Written) (own which here.1))
        go (inr away) = told_other (note.Written which) is (away_if which false (differs_at old output) away.0) (away_if which (Some state.Written) (state_at old output) away.0)
    told_step (note.Found which) may is = told_other (note.Found which) is refl refl
    told_step (note.NoMap which) may is = told_other (note.NoMap which) is refl refl
    told_step (note.Another which) may is = told_other (note.Another which) is refl refl
    told_step (note.Lost which cause) may is = told_other (note.Lost which cause) is refl refl
    told_step (note.Back which) may is = told_other (note.Back which) is refl refl
    told_step (note.Refused which why) may is = told_other (note.Refused which why) is refl refl
    told_step (note.Scanned report) may is = told_other (note.Scanned report) is refl refl
    told_step (note.Late by) may is = told_other (note.Late by) is refl refl

    nothing_step : TellsNothing old new → stands new output ≡ true
    nothing_step is = same_stands old new (is.differs output) (is.outputs output) before

  course_stands : (from new : DeviceSide) → Course quiet from new → stands from output ≡ true → stands new output ≡ true
  course_stands from new (stays side) before = before
  course_stands from new (tells {middle = middle} course n side may is) before = told_step middle new (course_stands from middle course before) n may is
  course_stands from new (goes {middle = middle} course side is awaited) before = nothing_step middle new (course_stands from middle course before) is
  course_stands from new (awaits {middle = middle} course which side may is awaited) before = nothing_step middle new (course_stands from middle course before) is
  course_stands from new (scans {middle = middle} course side counted is awaited) before = nothing_step (record middle { last_scan = new.last_scan }) new (course_stands from middle course before) is

  led_stands : (from new : DeviceSide) → ∥ Course quiet from new ∥₁ → stands from output ≡ true → stands new output ≡ true
  led_stands from new led before = ∥∥₁_elim led (Bool-set _ _) (λ course. course_stands from new course before)

-- ---- what is told of an output whose device shows something else

if_any : (b : Bool) (became : OutputState) → is_left (Some became) ≡ true → (output : ℕ) → became_if output b became ≡ true
if_any true became is output = is
if_any false became is output = refl

with_left : (cause : NoWrite) → cause ≡ refusal.With → is_left (Some (state.Unwritten (unwritten.NoSetPoint cause))) ≡ true
with_left cause is = ap (λ c. is_left (Some (state.Unwritten (unwritten.NoSetPoint c)))) is

-- nothing is told of an output to be written that isn't had
told_quiet : (held : HeldWrites) (output : ℕ) → (IsHad held output → ⊥) → (which : ℕ) (became : OutputState) → IsToldBy held which became → became_if output (which == output) became ≡ true
told_quiet held output none which state.Written is = go (eqb_tells which output)
  where
    go : ((eqb which output ≡ true) × (which ≡ output)) ⊎ ((eqb which output ≡ false) × (which ≢ output)) → became_if output (which == output) state.Written ≡ true
    go (inl here) = absurd (none (subst (λ k. IsHad held k) here.1 is))
    go (inr away) = ap (λ (b : Bool). became_if output b state.Written) away.0
told_quiet held output none which (state.Unwritten unwritten.Unanswered) is = if_any (which == output) (state.Unwritten unwritten.Unanswered) refl output
told_quiet held output none which (state.Unwritten (unwritten.Refused code)) is = absurd is
told_quiet held output none which (state.Unwritten (unwritten.NoSetPoint cause)) is = if_any (which == output) (state.Unwritten (unwritten.NoSetPoint cause)) (with_left cause is) output

-- an answer that shows a block answers no write
none_answered : (wants : List Want) (held : HeldWrites) (asked : Asked) (o : Outcome) (output : ℕ) (this : Shown) → IsShownBy wants held asked o output this → (now which : ℕ) (became : OutputState) → IsAnsweredBy (taken_by o asked now) (IsRefusedBy o asked) which became → ⊥
none_answered wants held asked outcome.Wrote output this shows now which became is = absurd (cc)
none_answered wants held asked (outcome.Exception e) output this shows now which became is = absurd (cc)
none_answered wants held asked outcome.Mismatch output this shows now which became is = absurd (cc)
none_answered wants held asked outcome.Stale output this shows now which became is = absurd (cc)
none_answered wants held asked (outcome.Words words) output this shows now which state.Written is = let taken = is.1 in absurd (cc)
none_answered wants held asked (outcome.Words words) output this shows now which (state.Unwritten (unwritten.Refused code)) is = no_block (sym (ap (λ a. option_and_then (λ block. shown_in held asked block output) (block_by wants a (outcome.Words words))) is.0) ∙ shows)
  where
    no_block : None ≡ Some this → ⊥
    no_block no_ = absurd (cc)
none_answered wants held asked (outcome.Words words) output this shows now which (state.Unwritten unwritten.Unanswered) is = is
none_answered wants held asked (outcome.Words words) output this shows now which (state.Unwritten (unwritten.NoSetPoint cause)) is = is

differs_so : (this : Option Shown) (difference : Difference) (o : Option Output) → this ≡ Some (shown.Other difference) → option_map_or (λ (x : Output). x.is_read_back) o false ≡ true
    → option_map_or (λ (x : Output). is_some x.differs) (option_map (after_block this) o) false ≡ true
differs_so None difference o is compares = absurd (cc)
differs_so (Some shown.Same) difference o is compares = absurd (cc)
differs_so (Some (shown.Other other)) difference None is compares = absurd (cc)
differs_so (Some (shown.Other other)) difference (Some own_) is compares = ap (λ (x : Output). is_some x.differs) (ap (λ (b : Bool). if b then record own_ { differs = Some other } else own_) compares)

module _ (wants : List Want) (asked : Asked) (o : Outcome) (now : ℕ) where
  pub tells_others : (first second : Service) (taken forgot left last : DeviceSide) (held : HeldWrites) → ((block : List ℕ) → block_by wants asked.aim o ≡ Some block → AreCompared asked block first second)
      → BecomesBy (IsAnsweredBy (taken_by o asked now) (IsRefusedBy o asked)) second.side taken → Goes taken forgot → Goes forgot left → WritesAnew (IsShownBy wants first.held asked o) first.side held → WritesHad held left last
      → TellsOthers (IsShownBy wants first.held asked o) first.side last
  tells_others first second taken forgot left last held compared takes forgets leaves anew goes_on output difference shows compares =
      let (block, told, this) = by_block wants first.held asked output (shown.Other difference) (block_by wants asked.aim o) shows in
      let differs = ap (λ x. option_map_or (λ (y : Output). is_some y.differs) x false) ((compared block told output).stands) ∙ differs_so (shown_in first.held asked block output) difference (slice_get first.side.outputs.items output) this compares in
      led_stands output second.side last
      (goes_on held (within_own held) (quiet output) (told_quiet held output (anew output difference shows compares)) second.side
      (leaves (quiet output) second.side (forgets (quiet output) second.side
      (takes (quiet output) (λ which became is. absurd (none_answered wants first.held asked o output (shown.Other difference) shows now which became is)) second.side ∣ stays second.side ∣₁))))
      (left_first (differs_at second.side output) (is_left (state_at second.side output)) differs)

-- where that is compared which was before
pub others_since : (Shows : ℕ → Shown → Type 0) (side middle last : DeviceSide) → ((output : ℕ) → compares_at middle output ≡ compares_at side output) → TellsOthers Shows middle last → TellsOthers Shows side last
others_since Shows side middle last same told output difference shows compares = told output difference shows (same output ∙ compares)
