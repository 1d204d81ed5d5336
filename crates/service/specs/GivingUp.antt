-- What becomes of a device of which nothing is known any more.
use Rattle.std.specs.Prelude.{◌≡◌, ℕ, map}
use Rattle.service_requests.specs.Tasks.{given_up}
use Rattle.service.specs.Forgetting.{without_blocks}
use Rattle.service.specs.Stages.{Stage}

-- Nothing more is written to the device, and its wanted blocks aren't known any more; all else is as it was.
pub record GivesUp (device : ℕ) (old new : Stage) : Type 0 where
  pub writes : new.round.writes ≡ map (given_up device) old.round.writes
  pub core : new.core ≡ without_blocks device old.core
