-- How the link fails at a scan.
-- Modbus Application Protocol V1.1b3, sections 6.3, 6.6 and 6.12 (the requests of a scan).
use Rattle.std.specs.Prelude.{◌≡◌, ◌⊎◌, ℕ, ◌<◌, List, ◌∷◌, length, Result}
use Rattle.modbus_frame.specs.declared.link.LinkFault.{LinkFault}
use Rattle.site_model.specs.declared.site.Site.{Site}
use Rattle.point_writer.specs.declared.write.Write.{Write}
use Rattle.point_writer.specs.declared.write.NoWrite.{NoWrite}
use Rattle.gateway.specs.event_core.Control.{IsDue, Notes}
use Rattle.gateway.specs.poller.Cycle.{StopsAt, StopsTaking, write_of}
use Rattle.commands.specs.Series.{Moment, Scan}

-- `Does` says what a scan does but for the writes of the outputs that are left.
module _ (Does : List ℕ → Scan → Type 0) where
  -- The scan was done, and the link failed at the write for an output, whose turn it was; those before it went out.
  pub record StopsWriting (site : Site) (first : Moment) (fault : LinkFault) (last : Moment) : Type 0 where
    pub output : ℕ
    pub within : output < length site.outs
    pub left : List ℕ
    pub scan : Scan
    pub before : scan.before ≡ first
    pub does : Does (output ∷ left) scan
    pub plan : Result Write NoWrite
    pub due : IsDue (scan.behind).core output plan
    pub stops : StopsAt (write_of site.devices plan) (scan.behind).link fault last.link
    pub core : last.core ≡ (scan.behind).core

  -- at a read, or at a write
  abbrev pub StopsScan : Site → Moment → LinkFault → Moment → Type 0
  StopsScan site first fault last =
      StopsTaking Notes site (first.core).maps first.link first.core fault last.link last.core ⊎ StopsWriting site first fault last
