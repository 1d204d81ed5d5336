-- One run of the program, after the core is told how long ago its last run was (IEC 61131-3 edition 2, 3.2).
use Rattle.std.specs.Prelude.{ℕ, length}
use Rattle.gateway.specs.declared.event_core.event.Event.TheVariants as event
use Rattle.gateway.specs.declared.event_core.event.Answer.TheVariants as answer
use Rattle.gateway.specs.event_core.Core.{Gateway}
use Rattle.gateway.specs.event_core.Driving.{Happens}

-- So many milliseconds went by, and then the program ran.
pub record ScansAfter (elapsed : ℕ) (old new : Gateway) : Type 0 where
  pub waited : Gateway
  pub waits : Happens old (event.Time elapsed) answer.None waited
  pub runs : Happens waited event.Scan (answer.Writes (length waited.site.outs)) new
