use Rattle.std.proofs.Common.{map, string_bytes}
use Rattle.command_line.proofs.PrintingLemmas.{simulates_by}
use Rattle.command_line.proofs.plant_server.simulate.Goals as goal

pub returns-in-Some : goal.returns-in-Some
returns-in-Some g c =
    simulates_by c.args.notes.now.plant.now (map string_bytes c.args.notes.now.defs.now) c.args.at.connections c.in-Ok.plant
    (g.W.Write.contents c.args.out.now) (g.W.Write.contents c.plant_told.new.out) (g.W.Write.contents c.serve_many.new.out) c.serve_many.result
    c.in-Ok.ensures.given c.in-Ok.ensures.unprinted (rw c.in-Some.is c.serve_many.ensures)

pub returns-in-None : goal.returns-in-None
returns-in-None g c =
    simulates_by c.args.notes.now.plant.now (map string_bytes c.args.notes.now.defs.now) c.args.at.connections c.in-Ok.plant
    (g.W.Write.contents c.args.out.now) (g.W.Write.contents c.plant_told.new.out) (g.W.Write.contents c.serve_first.new.out) c.serve_first.result
    c.in-Ok.ensures.given c.in-Ok.ensures.unprinted (rw c.in-None.is c.serve_first.ensures)
