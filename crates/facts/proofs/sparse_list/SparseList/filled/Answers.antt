use Rattle.std.proofs.Common.{◌≡◌, length, sym}
use Rattle.std.specs.Vec.{vec_len}
use Rattle.facts.proofs.Spread.{filled_is}
use Rattle.facts.proofs.sparse_list.SparseList.filled.Goals as goal

pub returns : goal.returns
returns g c =
    let counted : vec_len c.self.inside.kept ≡ length c.self.inside.kept.items = c.self.inside.kept.ok.0 in
    rw (← c.self.view_is, c.len.ensures, counted) (sym (filled_is c.self.inside.kept.items c.self.inside.empty_at_end))
