use Rattle.std.proofs.Common.{◌≡◌, ◌++◌, take, drop}
use Rattle.inverter_sim.specs.Serve.{after_among, reply_among}
use Rattle.inverter_sim.proofs.plant.serve_among.Given as goal

-- none of those before has the unit
abbrev pub invariant-loop-device : goal.invariant-loop-device
invariant-loop-device l =
    (l.devices ≡ l.initial.devices)
    × (after_among l.devices l.unit l.pdu ≡ take l.device-index l.devices ++ after_among (drop l.device-index l.devices) l.unit l.pdu)
    × (reply_among l.devices l.unit l.pdu ≡ reply_among (drop l.device-index l.devices) l.unit l.pdu)
