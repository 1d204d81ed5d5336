use Rattle.std.proofs.Common.{sym, ap, ◌∙◌, None}
use Rattle.il_reader.specs.Nesting.{is_filled}
use Rattle.il_reader.specs.Writing.{written_inner}
use Rattle.il_reader.proofs.Forms.{some_lines}
use Rattle.il_reader.proofs.computation.InnerLines.has_lines.Goals as goal

pub returns-in-len1-up : goal.returns-in-len1-up
returns-in-len1-up c =
    sym (some_lines c.as_slice.result.now c.in-len1-up.len_at_least) ∙ ap (λ z. is_filled None (written_inner z)) c.as_slice.ensures.value ∙ ap (is_filled None) c.self.view_is
