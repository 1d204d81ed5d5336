use Rattle.command_files.proofs.LinkLemmas.{probes_link}
use Rattle.command_files.proofs.links.probe_link.probe_link.Goals as goal

pub returns : goal.returns
returns g c =
    probes_link
    (record { coming = g.L.Link.coming c.args.link; sent = g.L.Link.sent c.args.link; failures = g.L.Link.failures c.args.link; calls = g.L.Link.calls c.args.link })
    c.new-poller.result c.probe-status.new.poller (g.L.Link.coming c.into_link.result) (g.L.Link.sent c.into_link.result) (g.L.Link.failures c.into_link.result) (g.L.Link.calls c.into_link.result)
    (g.W.Write.contents c.args.out.now) (g.W.Write.contents c.probe-status.new.out) c.probe-status.result c.args.unit c.args.models.now
    c.new-poller.ensures c.into_link.ensures.coming c.into_link.ensures.sent c.into_link.ensures.failures c.into_link.ensures.calls c.probe-status.ensures.probes
