-- Which clients of a service may write. No standard says it; it is this project's.
use Rattle.std.specs.Prelude.{◌≡◌, ℕ, List, Some, slice_get}
use Rattle.std.specs.declared.net.ip_addr.IpAddr.{IpAddr}
use Rattle.service_parts.specs.declared.client_place.ClientPlace.{ClientPlace}
use Rattle.service_texts.specs.Writers.{MayWrite}
use Rattle.service_texts.specs.declared.writers.Writer.{Writer}

-- the client at this place, which came from this address, may write exactly where some of the writers admit what its address counts as
pub record HasRight (writers : List Writer) (address : IpAddr) (places : List ClientPlace) (place : ℕ) : Type 0 where
  pub client : ClientPlace
  pub there : slice_get places place ≡ Some client
  pub right : MayWrite writers address client.may_write
