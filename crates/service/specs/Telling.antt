-- What is told of an output, by what its device answered. No standard says what is told; it is this project's.
use Rattle.std.specs.Prelude.{ℕ, List, Option, None, Some, option_and_then, slice_get}
use Rattle.modbus_frame.specs.declared.message.Exception.{Exception}
use Rattle.gateway.specs.declared.poller.outcome.Outcome.{Outcome}
use Rattle.gateway.specs.declared.poller.outcome.Outcome.TheVariants as outcome
use Rattle.service.specs.declared.notice.Unwritten.TheVariants as unwritten
use Rattle.service.specs.declared.output.Output.{Output}
use Rattle.service.specs.declared.output.OutputState.{OutputState}
use Rattle.service.specs.declared.output.OutputState.TheVariants as state

-- the exception that an answer is, if it is one (Modbus Application Protocol V1.1b3, section 7)
abbrev pub exception_of : Outcome → Option Exception
exception_of (outcome.Exception e) = Some e
exception_of (outcome.Words words) = None
exception_of outcome.Wrote = None
exception_of outcome.Mismatch = None
exception_of outcome.Stale = None

-- It is written where its device took it, and refused with any other answer: by its exception, where that is one.
abbrev pub state_by : Outcome → OutputState
state_by outcome.Wrote = state.Written
state_by (outcome.Exception e) = state.Unwritten (unwritten.Refused (Some e))
state_by (outcome.Words words) = state.Unwritten (unwritten.Refused None)
state_by outcome.Mismatch = state.Unwritten (unwritten.Refused None)
state_by outcome.Stale = state.Unwritten (unwritten.Refused None)

-- what was told last of the output with this number
abbrev pub told_at : List Output → ℕ → Option OutputState
told_at outputs i = option_and_then (λ (o : Output). o.told) (slice_get outputs i)
