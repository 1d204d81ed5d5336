use Rattle.std.proofs.Common.{rules, ◌≤◌, ◌∙◌, ◌++◌, ap, length, take}
use Rattle.service_edges.proofs.Filled.{conserves_none, conserves_read, range_filled, range_kept}
use Rattle.service_edges.proofs.piece.Piece.fill_from.Goals as goal

pub returns-in_err-n : goal.returns-in_err-n
returns-in_err-n g c =
    let within : c.self.inside.end ≤ length c.self.inside.bytes = search rules in
    conserves_none c.args.self.now _ _ _ (range_kept c.self.inside.bytes c.read.new.buf c.self.inside.start c.self.inside.end _ within ∙ (c.self.view_is ∙ c.begin_anew.ensures)) c.in_err-n.ensures.bytes

pub returns : goal.returns
returns g c =
    let within : c.self.inside.end ≤ length c.self.inside.bytes = search rules in
    let first : c.self.inside.start ≤ c.self.inside.end = search rules in
    let most : c.in_ok-n.n ≤ length c.read.new.buf = c.in_ok-n.ensures.bound.0 in
    conserves_read c.args.self.now _ _ _ _ (range_filled c.self.inside.bytes c.read.new.buf c.self.inside.start c.self.inside.end c.in_ok-n.n _ first within most ∙ ap (λ l. l ++ take c.in_ok-n.n c.read.new.buf) (c.self.view_is ∙ c.begin_anew.ensures)) c.in_ok-n.ensures.bytes.0
