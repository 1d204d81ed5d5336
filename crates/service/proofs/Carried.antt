-- What becomes of a link by a call, of what its parts say.
use Rattle.std.proofs.Common.{◌≡◌, inl, ℕ, Bool, true, false, List, Option, None, Some, slice_get, refl, ap, subst, ◌∙◌}
use Rattle.service_requests.specs.declared.request_end.RequestEnd.{RequestEnd}
use Rattle.service_parts.specs.declared.limits.Limits.{Limits}
use Rattle.service_parts.specs.declared.limits.Station.{Station}
use Rattle.service_parts.specs.declared.device_connection.DeviceConnection.{DeviceConnection}
use Rattle.service_parts.specs.declared.asked.Asked.{Asked}
use Rattle.service_parts.specs.Frames as frames
use Rattle.service_requests.specs.declared.task.Task.{Task}
use Rattle.service_parts.specs.Frames.{IsLed, LinkGoes, due_at}
use Rattle.service_parts.proofs.Waited.{stands_led}
use Rattle.service.specs.declared.device_side.DeviceSide.{DeviceSide}
use Rattle.service.specs.declared.cycle.Cycle.{Cycle}
use Rattle.service.specs.declared.held_writes.HeldWrites.{HeldWrites}
use Rattle.service.specs.declared.service_state.Service.{Service}
use Rattle.service.specs.Connections.{GoesFrom, HearsOver}
use Rattle.service.specs.Comparing.{TellsOthers, WritesAnew}
use Rattle.service.specs.Cycle.{SettlesIf}
use Rattle.service.specs.Going.{tasks_of}
use Rattle.service.specs.Having.{HasMoreBy, HasOrTook, IsHeardBy, IsRefusedIf, taken_if}
use Rattle.service.specs.Identity.{IsSaidIf, SaysMoreBy}
use Rattle.service.specs.Losing.{LostByHearing}
use Rattle.service.specs.ReadBack.{IsShownIf}
use Rattle.service.specs.Together.{AllGoWith}
use Rattle.service.specs.Told.{Goes, TellsAllBy}
use Rattle.service.specs.declared.read_back.Shown.TheVariants as shown
use Rattle.service.proofs.ByNotes.{goes_compare}
use Rattle.service.proofs.Compared.{anew_since, shown_by_nothing}
use Rattle.service.proofs.Differing.{others_since}
use Rattle.service.proofs.Saying.{says_own}

pub not_both : {A : Type 0} {b : Bool} → b ≡ true → b ≡ false → A
not_both yes_ no_ = absurd (cc)

carried : (now : ℕ) (limits : Limits) (tasks left : List Task) (before lines : List DeviceConnection) (link : ℕ) (line : DeviceConnection) → slice_get before link ≡ Some line → LinkGoes now limits link tasks before left lines → ∥ IsLed now limits (λ output. due_at output tasks) line left lines link ∥₁
carried now limits tasks left before lines link line at goes = goes (λ output. due_at output tasks) line ∣ stands_led now limits tasks before link line at ∣₁

pub goes_from : (Is : DeviceConnection → Type 0) (link : ℕ) (old new : Service) (before : List DeviceConnection) → ((became : DeviceConnection) × (slice_get before link ≡ Some became) × Is became)
    → LinkGoes new.side.now new.side.limits link (tasks_of old) before (tasks_of new) new.lines.lines.items → GoesFrom Is link old new
goes_from Is link old new before (became, at, is) goes = record { became = became; is = is; goes = carried new.side.now new.side.limits (tasks_of old) (tasks_of new) before new.lines.lines.items link became at goes }

-- what became of a request is of the one that was under way
pub asked_own : (result : Option RequestEnd) (fate : RequestEnd) (asked own : Option Asked) → result ≡ Some fate → asked ≡ frames.ended_by result own → asked ≡ own
asked_own result fate asked own told ended = ended ∙ ap (λ f. frames.ended_by f own) told

pub heard_so : (stations : List Station) (link : ℕ) (line : DeviceConnection) (bytes unused : List ℕ) (now : ℕ) (result : Option RequestEnd) (fate : RequestEnd) (asked : Option Asked) (old new : Cycle) (side next : DeviceSide) (held left : HeldWrites) (before lines first : List DeviceConnection) (numbers : List ℕ) → result ≡ Some fate → asked ≡ line.asked
    → ((heard : DeviceConnection) × (slice_get before link ≡ Some heard) × frames.Hears bytes unused result line heard) → LinkGoes now next.limits link old.round.writes before new.round.writes lines → SettlesIf asked fate old new → HasMoreBy (taken_if asked (Some fate) now) held left → SaysMoreBy (IsSaidIf asked (Some fate)) held.identities left.identities → TellsAllBy (LostByHearing stations link asked (Some fate)) (IsHeardBy (taken_if asked (Some fate) now) (IsRefusedIf asked (Some fate)) held) (IsShownIf old.core.value.site.wants held asked (Some fate)) side next → TellsOthers (IsShownIf old.core.value.site.wants held asked (Some fate)) side next → WritesAnew (IsShownIf old.core.value.site.wants held asked (Some fate)) side left → AllGoWith held.companions.items (HasOrTook (taken_if asked (Some fate) now) held) first numbers lines
    → HearsOver stations link line bytes unused now old new side next held left first numbers lines
heard_so stations link line bytes unused now result fate asked old new side next held left before lines first numbers told own (heard, at, hears) goes settles has says tells differing anew with_ = record {
  fate = Some fate;
  heard = heard;
  hears = subst (λ f. frames.Hears bytes unused f line heard) told hears;
  goes = carried now next.limits old.round.writes new.round.writes before lines link heard at goes;
  settles = subst (λ a. SettlesIf a fate old new) own settles;
  has = subst (λ a. HasMoreBy (taken_if a (Some fate) now) held left) own has;
  together = subst (λ a. AllGoWith held.companions.items (HasOrTook (taken_if a (Some fate) now) held) first numbers lines) own with_;
  says = subst (λ a. SaysMoreBy (IsSaidIf a (Some fate)) held.identities left.identities) own says;
  tells = subst (λ a. TellsAllBy (LostByHearing stations link a (Some fate)) (IsHeardBy (taken_if a (Some fate) now) (IsRefusedIf a (Some fate)) held) (IsShownIf old.core.value.site.wants held a (Some fate)) side next) own tells;
  differing = subst (λ a. TellsOthers (IsShownIf old.core.value.site.wants held a (Some fate)) side next) own differing;
  anew = subst (λ a. WritesAnew (IsShownIf old.core.value.site.wants held a (Some fate)) side left) own anew;
}

pub heard_nothing : (stations : List Station) (link : ℕ) (line : DeviceConnection) (bytes unused : List ℕ) (now : ℕ) (result : Option RequestEnd) (cycle : Cycle) (side : DeviceSide) (held : HeldWrites) (lines first : List DeviceConnection) (numbers : List ℕ) → result ≡ None
    → ((heard : DeviceConnection) × (slice_get lines link ≡ Some heard) × frames.Hears bytes unused result line heard) → AllGoWith held.companions.items (HasOrTook (taken_if line.asked None now) held) first numbers lines
    → HearsOver stations link line bytes unused now cycle cycle side side held held first numbers lines
heard_nothing stations link line bytes unused now result cycle side held lines first numbers told (heard, at, hears) with_ = record {
  fate = None;
  heard = heard;
  hears = subst (λ f. frames.Hears bytes unused f line heard) told hears;
  goes = ∣ stands_led now side.limits cycle.round.writes lines link heard at ∣₁;
  settles = refl;
  has = record { each = λ output write has. inl has; companions = refl };
  together = with_;
  says = says_own (IsSaidIf line.asked None) held.identities;
  tells = λ may lost written shows from before. before;
  differing = λ output difference shows compares. absurd (shown_by_nothing cycle.core.value.site.wants held line.asked output (shown.Other difference) shows);
  anew = λ output difference shows compares is. shown_by_nothing cycle.core.value.site.wants held line.asked output (shown.Other difference) shows;
}

-- what is heard after nothing was told
pub heard_after : (stations : List Station) (link : ℕ) (line : DeviceConnection) (bytes unused : List ℕ) (now : ℕ) (old new : Cycle) (side middle next : DeviceSide) (held left : HeldWrites) (first : List DeviceConnection) (numbers : List ℕ) (lines : List DeviceConnection) → Goes side middle → HearsOver stations link line bytes unused now old new middle next held left first numbers lines
    → HearsOver stations link line bytes unused now old new side next held left first numbers lines
heard_after stations link line bytes unused now old new side middle next held left first numbers lines goes heard = record {
  fate = heard.fate;
  heard = heard.heard;
  hears = heard.hears;
  goes = heard.goes;
  settles = heard.settles;
  has = heard.has;
  together = heard.together;
  says = heard.says;
  tells = λ may lost written shows from before. heard.tells may lost written shows from (goes may from before);
  differing = others_since (IsShownIf old.core.value.site.wants held line.asked heard.fate) side middle next (goes_compare side middle goes) heard.differing;
  anew = anew_since (IsShownIf old.core.value.site.wants held line.asked heard.fate) side middle left (goes_compare side middle goes) heard.anew;
}
