use Rattle.std.proofs.Common.{sym, subst, ◌∙◌}
use Rattle.std.specs.Prelude.{IsUtf8}
use Rattle.point_types.proofs.NameLemmas.{name_is_text}
use Rattle.point_types.proofs.name.Name.as_str.Goals as goal

pub unreachable-requires : goal.unreachable-requires
unreachable-requires c =
    c.in-Err.ensures.cases.0 (subst IsUtf8 (c.self.view_is ∙ sym c.as_bytes.ensures.bytes) (name_is_text _ c.self.invariant.named))
