use Rattle.std.proofs.Common.{inr}
use Rattle.modbus_frame.specs.declared.link.LinkFault.TheVariants as link
use Rattle.command_line.proofs.PrintingLemmas.{fails_behind}
use Rattle.command_line.proofs.plant_server.serve_listener.Goals as goal

pub returns-in-Err : goal.returns-in-Err
returns-in-Err g c =
    inr (fails_behind c.port.result link.Read (g.W.Write.contents c.args.out.now) (g.W.Write.contents c.tell_port.new.out) (g.W.Write.contents c.tell_unlinked-in-Err.new.out)
    c.tell_port.result c.tell_unlinked-in-Err.result c.tell_port.ensures c.tell_unlinked-in-Err.ensures)
