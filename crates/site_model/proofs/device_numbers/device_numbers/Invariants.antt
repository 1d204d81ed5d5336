use Rattle.name_places.proofs.Places.{Counted}
use Rattle.site_model.specs.Tagging.{is_device_named}
use Rattle.site_model.proofs.device_numbers.device_numbers.Given as goal

-- the numbers so far, and those of the devices that remain
abbrev pub invariant-loop-number : goal.invariant-loop-number
invariant-loop-number l = Counted is_device_named l.devices l.number l.numbers.entries
