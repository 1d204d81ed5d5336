use Rattle.std.proofs.Common.{◌≡◌, ◌++◌, drop, map}
use Rattle.service_texts.specs.Stations.{own_station}
use Rattle.service_texts.proofs.addresses.own_stations.Given as goal

abbrev pub invariant-loop-device : goal.invariant-loop-device
invariant-loop-device l = l.stations.items ++ map own_station (drop l.device-index l.devices) ≡ map own_station l.devices
