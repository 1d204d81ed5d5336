-- What is left of requests whose time is over.
use Rattle.std.proofs.Common.{◌≡◌, ◌≢◌, ◌⊎◌, inl, inr, eqb, ℕ, ◌+◌, ◌<◌, ◌≤◌, Bool, true, false, List, slice_get, Option, None, Some, refl, sym, ap, subst, ◌∙◌, arith}
use Rattle.std.specs.Prelude.{not, nat_le, option_and_then, ◌&&◌, ◌==◌}
use Rattle.std.proofs.lemmas.Bool.Decides.{eqb_tells}
use Rattle.std.proofs.Math.Bool.{Bool-set}
use Rattle.std.proofs.Math.Logic.{∥∥₁_elim}
use Rattle.std.proofs.Math.Nat.{le_refl}
use Rattle.service_requests.specs.declared.task.Task.{Task}
use Rattle.service_parts.specs.declared.asked.Asked.{Asked}
use Rattle.service_parts.specs.declared.device_connection.DeviceConnection.{DeviceConnection}
use Rattle.service_parts.specs.declared.limits.Limits.{Limits}
use Rattle.service_parts.specs.Frames.{IsLed, LinkGoes, due_at, stays}
use Rattle.service_parts.specs.Overdue.{asked_at, is_left, is_over}
use Rattle.service_parts.proofs.Frames.{requests_have_their_time}

-- one whose time isn't over isn't left
pub none_over : (now : ℕ) (o : Option Asked) → is_over now o ≡ false → is_left now o ≡ false
none_over now None waits = refl
none_over now (Some asked) waits = ap (λ (b : Bool). b && not (asked.since == now)) waits

-- ---- after what a service does by itself

pub stands_led : (now : ℕ) (limits : Limits) (tasks : List Task) (lines : List DeviceConnection) (link : ℕ) (line : DeviceConnection) → slice_get lines link ≡ Some line → IsLed now limits (λ output. due_at output tasks) line tasks lines link
stands_led now limits tasks lines link line at = record { line = line; there = at; course = stays line; within = λ output. omega arith }

abbrev left_of : ℕ → Option DeviceConnection → Bool
left_of now o = is_left now (option_and_then (λ (l : DeviceConnection). l.asked) o)

-- Where none is left on a link, none is then. The writes that may begin are more where the program runs.
module _ (now : ℕ) (limits : Limits) (more : (ℕ → ℕ) → ℕ → ℕ) (tasks left after : List Task) (before middle new : List DeviceConnection) (link : ℕ) where
  abbrev GoesBy : Type 0
  GoesBy = (most : ℕ → ℕ) (from : DeviceConnection) → ∥ IsLed now limits most from left middle link ∥₁ → ∥ IsLed now limits (more most) from after new link ∥₁

  ends_led : (at : DeviceConnection) → slice_get middle link ≡ Some at → GoesBy → is_left now (asked_at middle link) ≡ false → is_left now (asked_at new link) ≡ false
  ends_led at is goes none =
      let own : is_left now at.asked ≡ false = ap (left_of now) (sym is) ∙ none in
      ∥∥₁_elim (goes (λ output. due_at output left) at ∣ stands_led now limits left middle link at is ∣₁) (Bool-set _ _)
      (λ l. ap (left_of now) l.there ∙ requests_have_their_time.ends now limits at l.line l.course own)

  pub left_then : LinkGoes now limits link tasks before left middle → GoesBy → (line : DeviceConnection) → slice_get before link ≡ Some line → is_left now (asked_at middle link) ≡ false → is_left now (asked_at new link) ≡ false
  left_then goes then_goes line there none =
      ∥∥₁_elim (goes (λ output. due_at output tasks) line ∣ stands_led now limits tasks before link line there ∣₁) (Bool-set _ _) (λ l. ends_led l.line l.there then_goes none)

-- ---- one link after another

below_other : (k i : ℕ) → k < i + 1 → k ≢ i → k < i
below_other k i below other = omega (arith, below, other)

module _ (now : ℕ) (before middle new : List DeviceConnection) (link : ℕ) where
  pub none_further : ((k : ℕ) → link ≤ k → slice_get middle k ≡ slice_get before k) → ((k : ℕ) (line : DeviceConnection) → k < link → slice_get before k ≡ Some line → is_left now (asked_at middle k) ≡ false)
      → ((other : ℕ) → (other ≡ link → ⊥) → slice_get new other ≡ slice_get middle other) → ((line : DeviceConnection) → slice_get middle link ≡ Some line → is_left now (asked_at new link) ≡ false)
      → (k : ℕ) (line : DeviceConnection) → k < link + 1 → slice_get before k ≡ Some line → is_left now (asked_at new k) ≡ false
  none_further untouched none others own k line below there = go (eqb_tells k link)
    where
      go : ((eqb k link ≡ true) × (k ≡ link)) ⊎ ((eqb k link ≡ false) × (k ≢ link)) → is_left now (asked_at new k) ≡ false
      go (inl here) = subst (λ i. is_left now (asked_at new i) ≡ false) (sym here.1) (own line (untouched link (le_refl link) ∙ (ap (slice_get before) (sym here.1) ∙ there)))
      go (inr away) = ap (left_of now) (others k away.1) ∙ none k line (below_other k link below away.1) there
