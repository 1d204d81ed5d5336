use Rattle.std.proofs.Common.{◌≡◌, ◌+◌, ◌≤◌, refl, arith}
use Rattle.std.proofs.lemmas.Bool.Decides.{nat_tests}
use Rattle.service_parts.proofs.Heard.{sends_some}
use Rattle.service_parts.proofs.client_place.ClientPlace.sent.Goals as goal

pub returns-else-self : goal.returns-else-self
returns-else-self c =
    let begins = c.args.self.now.begins in
    let some : c.args.self.now.start + c.args.n ≤ c.args.self.now.end = grind (arith, nat_tests, c.min.ensures, c.if-self.false, begins) in
    let start : c.args.self.now.start + c.min.result ≡ c.args.self.now.start + c.args.n = grind (arith, nat_tests, c.min.ensures, c.if-self.false, begins) in
    sends_some c.args.self.now _ c.args.n some refl refl start refl refl (record { taken = refl; closing = refl; right = refl }) refl
