use Rattle.history.specs.Events.{line_of}
use Rattle.history.proofs.LinesTold.{line_more}
use Rattle.history.proofs.event_ring.EventRing.tell.Goals as goal

pub returns : goal.returns
returns c = (
  line_of c.tell.new.self,
  c.tell.ensures.line,
  line_more c.self.inside.kept.items c.next_room.new.kept.items c.push_event.new.kept.items c.args.self.now c.tell.new.self
      c.next_room.ensures.kept c.push_event.ensures.items c.self.view_is,
)
