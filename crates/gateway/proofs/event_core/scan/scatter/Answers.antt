use Rattle.std.proofs.Common.{◌≡◌, ◌∙◌, ◌<◌, ◌≤◌, List, length, map, drop, ◌+◌, get_or, sym, ap, subst}
use Rattle.std.specs.Prelude.{slice_set}
use Rattle.verifier.specs.declared.tag_link.TagLink.{TagLink}
use Rattle.gateway.specs.event_core.Core.{number_of}
use Rattle.gateway.specs.event_core.SiteRun.{stored_at}
use Rattle.gateway.proofs.Scanning.{stored_more, stored_whole}
use Rattle.gateway.proofs.event_core.scan.scatter.Goals as goal

pub loop-i-preserved : goal.loop-i-preserved
loop-i-preserved g c =
    let so_far = c.loop-i.invariant in
    let m = c.args.machine.now in
    let same : c.links-link-items.result.now ≡ m.accepted.links = c.links-link-items.ensures ∙ ap (λ a. a.links) c.verified.ensures in
    let is : c.link-item.result ≡ get_or m.accepted.links c.loop-i.i c.link-item.result = c.link-item.is ∙ ap (λ (ls : List TagLink). get_or ls c.loop-i.i c.link-item.result) same in
    let within : c.loop-i.i < length m.accepted.links = subst (λ (ls : List TagLink). c.loop-i.i < length ls) same c.loop-i-test.true in
    let more = stored_more m.accepted.links m.outputs c.loop-i.outputs c.loop-i.i c.link-item.result c.output.result within c.output.ensures.value in
    let put = c.put.ensures.after ∙ ap (λ (l : TagLink). slice_set c.loop-i.outputs l.number c.output.result) is in
    (so_far.0 ∙ more ∙ ap (λ x. stored_at (map number_of (drop (c.loop-i.i + 1) m.accepted.links)) (drop (c.loop-i.i + 1) m.outputs) x) (sym put), c.put.ensures.len ∙ so_far.1)

pub returns-clause-stored : goal.returns-clause-stored
returns-clause-stored g c =
    let so_far = c.loop-i.invariant in
    let m = c.args.machine.now in
    let same : c.links-link-items.result.now ≡ m.accepted.links = c.links-link-items.ensures ∙ ap (λ a. a.links) c.verified.ensures in
    let end = stored_whole m.accepted.links m.outputs c.loop-i.outputs c.loop-i.i (subst (λ (ls : List TagLink). length ls ≤ c.loop-i.i) same c.loop-i-test.false) in
    sym (so_far.0 ∙ end) ∙ ap (λ x. stored_at (map number_of m.accepted.links) m.outputs x) c.clear.ensures.none
