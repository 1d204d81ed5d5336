use Rattle.std.proofs.Common.{rules, ◌≡◌, ◌<◌, Some, length, refl, slice_get}
use Rattle.std.proofs.lemmas.Option.{slice_get_read}
use Rattle.service_parts.proofs.Frames.{begun_goes_if}
use Rattle.service_parts.proofs.Rightful.{with_begun_if}
use Rattle.service_parts.proofs.connections.Connections.begin.Goals as goal

pub returns-in-Some-get_mut-clause-rightful : goal.returns-in-Some-get_mut-clause-rightful
returns-in-Some-get_mut-clause-rightful c now reached may before =
    let within : c.args.link < length c.args.self.now.lines.items = search rules in
    let at : slice_get c.args.self.now.lines.items c.args.link ≡ Some c.in-Some-get_mut.line.now = slice_get_read _ _ c.args.link c.in-Some-get_mut.line.now refl within c.in-Some-get_mut.ensures.value in
    with_begun_if now _ _ _ _ c.args.link c.in-Some.unit c.args.asked c.args.request c.in-Some-get_mut.line.now _ c.begin.result before reached c.requires.number c.in-Some.ensures.there may c.requires.address c.requires.words at c.begin.ensures.begins c.begin.ensures.none

pub returns-in-Some-get_mut-clause-lines : goal.returns-in-Some-get_mut-clause-lines
returns-in-Some-get_mut-clause-lines c =
    let within : c.args.link < length c.args.self.now.lines.items = search rules in
    let at : slice_get c.args.self.now.lines.items c.args.link ≡ Some c.in-Some-get_mut.line.now = slice_get_read _ _ c.args.link c.in-Some-get_mut.line.now refl within c.in-Some-get_mut.ensures.value in
    begun_goes_if _ c.args.link c.in-Some-get_mut.line.now _ c.begin.result c.args.asked at (λ is. ((c.begin.ensures.begins is).0, (c.begin.ensures.begins is).1)) c.begin.ensures.none
