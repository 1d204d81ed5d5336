-- The right of a client that came.
use Rattle.std.proofs.Common.{◌≡◌, ℕ, Bool, List, Option, Some, None, IfSome, sym, subst}
use Rattle.std.specs.Prelude.{slice_get}
use Rattle.std.specs.declared.net.ip_addr.IpAddr.{IpAddr}
use Rattle.service_parts.specs.declared.client_place.ClientPlace.{ClientPlace}
use Rattle.service_parts.specs.Clients.{IsOpen}
use Rattle.service_texts.specs.Writers.{MayWrite}
use Rattle.service_texts.specs.declared.writers.Writer.{Writer}
use Rattle.service_loop.specs.Admitting.{HasRight}

pub right_given : (writers : List Writer) (address : IpAddr) (right : Bool) (now : ℕ) (places : List ClientPlace) (given : Option ℕ)
    → IfSome given (λ place. (c : ClientPlace) × (slice_get places place ≡ Some c) × IsOpen right now c)
    → MayWrite writers address right → IfSome given (HasRight writers address places)
right_given writers address right now places None opened may = tt
right_given writers address right now places (Some place) opened may = record {
  client = opened.0;
  there = opened.1;
  right = subst (MayWrite writers address) (sym opened.2.right) may;
}
