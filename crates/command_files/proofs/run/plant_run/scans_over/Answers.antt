use Rattle.command_files.proofs.LinkLemmas.{scans_link}
use Rattle.command_files.proofs.run.plant_run.scans_over.Goals as goal

pub returns : goal.returns
returns g c =
    rw (c.into_link-2.ensures, ← c.new.ensures) (scans_link
    (record { coming = g.L.Link.coming c.new.result.link; sent = g.L.Link.sent c.new.result.link; failures = g.L.Link.failures c.new.result.link; calls = g.L.Link.calls c.new.result.link })
    c.new-poller.result c.scans_by-ended.new.poller (g.L.Link.coming c.into_link.result.link) (g.L.Link.sent c.into_link.result.link) (g.L.Link.failures c.into_link.result.link) (g.L.Link.calls c.into_link.result.link)
    c.args.run.now.notes c.args.run.now.pace (g.W.Write.contents c.args.out.now) (g.W.Write.contents c.scans_by-ended.new.out) c.scans_by-ended.result.ran.core c.scans_by-ended.result.ran.status
    c.new-poller.ensures c.into_link.ensures.coming c.into_link.ensures.sent c.into_link.ensures.failures c.into_link.ensures.calls c.scans_by-ended.ensures)
