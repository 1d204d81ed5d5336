use Rattle.std.proofs.Common.{◌≡◌, drop}
use Rattle.service_texts.specs.Stations.{addresses_behind, addresses_of}
use Rattle.service_texts.proofs.addresses.Addresses.gathered.Given as goal

-- what the later places give after those so far
abbrev pub invariant-loop-place : goal.invariant-loop-place
invariant-loop-place l = addresses_of l.places ≡ addresses_behind l.addresses (drop l.place-index l.places)
