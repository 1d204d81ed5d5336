-- What the calls of a service do to its core and its round.
use Rattle.std.specs.Prelude.{◌≡◌, ◌⊎◌, ℕ, Bool, true, false, Option, None, Some, slice_get}
use Rattle.gateway.specs.declared.poller.outcome.Outcome.{Outcome}
use Rattle.service_requests.specs.declared.request_end.RequestEnd.{RequestEnd}
use Rattle.service_requests.specs.declared.request_end.RequestEnd.TheVariants as fate
use Rattle.service_parts.specs.declared.asked.Aim.{Aim}
use Rattle.service_parts.specs.declared.asked.Aim.TheVariants as aim
use Rattle.service_parts.specs.declared.asked.Asked.{Asked}
use Rattle.service_parts.specs.Answering.{is_answer}
use Rattle.service.specs.declared.cycle.Cycle.{Cycle}
use Rattle.service.specs.Rounds.{IsUnderWay}
use Rattle.service.specs.Stages.{ClientStep, Ends, LeadsOnBy, OwnStep, RoundStep, Stage, Tells}

abbrev pub stage_of : Cycle → Stage
stage_of c = record { core = c.core.value; round = c.round }

-- By the time and by what is still to be written alone: no device told of a block, and no client asked.
abbrev pub LeadsOn : Cycle → Cycle → Type 0
LeadsOn old new = LeadsOnBy RoundStep (stage_of old) (stage_of new)

-- By these, and by what devices answered.
abbrev pub DevicesLeadOn : Cycle → Cycle → Type 0
DevicesLeadOn old new = LeadsOnBy OwnStep (stage_of old) (stage_of new)

-- By what clients asked alone.
abbrev pub ClientsLeadOn : Cycle → Cycle → Type 0
ClientsLeadOn old new = LeadsOnBy ClientStep (stage_of old) (stage_of new)

-- ---- what an outcome does

-- The outcome of a request for a wanted block tells of that block; that of a write ends that very write, where it is still
-- under way. One that was made for a search changes neither round nor core.
abbrev pub EndsOwn : Aim → ℕ → Outcome → Stage → Stage → Type 0
EndsOwn (aim.Block i) device o old new = Tells i (fate.Told o) true old new ⊎ ((slice_get old.core.site.wants i ≡ None) × (new ≡ old))
EndsOwn (aim.Output output) device o old new = (IsUnderWay output device old.round × Ends device old new) ⊎ ((IsUnderWay output device old.round → ⊥) × (new ≡ old))
EndsOwn aim.Map device o old new = new ≡ old

-- It ends so, and then the service goes on by itself.
pub record Answers (asked : Asked) (o : Outcome) (old new : Cycle) : Type 0 where
  pub middle : Stage
  pub ends : EndsOwn asked.aim asked.device o (stage_of old) middle
  pub goes : LeadsOnBy RoundStep middle (stage_of new)

abbrev pub AnswersIf : Bool → Asked → Outcome → Cycle → Cycle → Type 0
AnswersIf true asked o old new = Answers asked o old new
AnswersIf false asked o old new = LeadsOn old new

-- This became of the request.
abbrev pub Settles : RequestEnd → Asked → Cycle → Cycle → Type 0
Settles (fate.Told o) asked old new = AnswersIf (is_answer o) asked o old new
Settles fate.Lost asked old new = LeadsOn old new

-- This became of the request that is under way, if one is.
abbrev pub SettlesIf : Option Asked → RequestEnd → Cycle → Cycle → Type 0
SettlesIf None f old new = LeadsOn old new
SettlesIf (Some asked) f old new = Settles f asked old new

-- This became of the request that was under way, or nothing yet: then nothing happens.
abbrev pub HearsBy : Option RequestEnd → Option Asked → Cycle → Cycle → Type 0
HearsBy None asked old new = stage_of new ≡ stage_of old
HearsBy (Some f) asked old new = SettlesIf asked f old new
