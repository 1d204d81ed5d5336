use Rattle.std.proofs.Common.{◌≡◌, ◌++◌, length}
use Rattle.service_texts.specs.Lapsing.{aged_text}
use Rattle.service_texts.proofs.lapsing_lines.aged_text.Given as goal

-- what is written, and then the text of the rest, is the text of all
abbrev pub invariant-loop-setting : goal.invariant-loop-setting
invariant-loop-setting l = l.text.items ++ aged_text l.rest ≡ aged_text l.settings

abbrev pub decreases-loop-setting : goal.decreases-loop-setting
decreases-loop-setting l = length l.rest
