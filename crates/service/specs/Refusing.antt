-- What is told of reads that a device refuses (Modbus Application Protocol V1.1b3, section 7). No standard says what is told; it is
-- this project's.
use Rattle.std.specs.Prelude.{ℕ, ◌==◌, ◌&&◌, Bool, not, nat_lt, List, [], ◌∷◌, ◌++◌, length, Option, None, Some, if◌then◌else◌}
use Rattle.std.specs.List.{list_any}
use Rattle.gateway.specs.declared.poller.outcome.Outcome.{Outcome}
use Rattle.gateway.specs.declared.poller.outcome.Outcome.TheVariants as outcome
use Rattle.service_parts.specs.declared.asked.Aim.{Aim}
use Rattle.service_parts.specs.declared.asked.Aim.TheVariants as aim
use Rattle.service.specs.declared.refusals.ReadRefusal.{ReadRefusal}

-- ---- what a device refuses that answers so

abbrev pub exception_at : ℕ → Outcome → Option ReadRefusal
exception_at address (outcome.Exception e) = Some (record { address = address; code = e.0 })
exception_at address (outcome.Words words) = None
exception_at address outcome.Wrote = None
exception_at address outcome.Mismatch = None
exception_at address outcome.Stale = None

-- where it was asked to read from this address on, for a map or a wanted block
abbrev pub refusal_by : Aim → ℕ → Outcome → Option ReadRefusal
refusal_by aim.Map address o = exception_at address o
refusal_by (aim.Block want) address o = exception_at address o
refusal_by (aim.Output output) address o = None

-- ---- which of it is told: each once, and eight of a device at most

abbrev pub is_same : ReadRefusal → ReadRefusal → Bool
is_same known refusal = (known.address == refusal.address) && (known.code == refusal.code)

abbrev pub is_known : ReadRefusal → List ReadRefusal → Bool
is_known refusal known = list_any (λ k. is_same k refusal) known

abbrev pub is_more : ReadRefusal → List ReadRefusal → Bool
is_more refusal known = not (is_known refusal known) && nat_lt (length known) 8

abbrev pub with_refusal : ReadRefusal → List ReadRefusal → List ReadRefusal
with_refusal refusal known = if is_more refusal known then known ++ refusal ∷ [] else known
