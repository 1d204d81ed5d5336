use Rattle.std.proofs.Common.{rules, refl}
use Rattle.service_parts.proofs.Frames.{free_parts, none_waits}
use Rattle.service_parts.proofs.device_connection.DeviceConnection.begin.Goals as goal

pub returns-clause-begins : goal.returns-clause-begins
returns-clause-begins c is =
    let own = c.args.self.now in
    let free = free_parts own.is_up own.is_bad own.asked _ c.if-not-is_free.ensures in (
      record {
        up = free.0;
        well = free.1;
        free = free.2;
        quiet = none_waits own.out.items free.3;
        asked = c.args.asked;
        request = record { id = own.id; unit = c.args.unit; request = c.args.request };
        numbered = refl;
        next = search rules;
        noted = refl;
        under_way = c.begin-self.ensures.asks;
        frame = c.begin-self.ensures.frame;
        linked = record { up = refl; answered = refl; until = refl; dial = refl; wait = refl };
      },
      refl,
      refl,
      refl,
    )
