use Rattle.std.proofs.Common.{◌≡◌, ℤ, List, Option, ◌++◌, length, ℕ}
use Rattle.std.specs.Str.Lines.{lines}
use Rattle.site_model.specs.declared.tag.SiteTag.{SiteTag}
use Rattle.service_texts.specs.State.{AreSaid, state_text}
use Rattle.service_texts.proofs.state_lines.state_text.Given as goal

-- what is written and the lines of the rest are all lines, which say all settings where those of the rest say theirs
pub record Writes (text : List ℕ) (tags all : List SiteTag) (numbers all_numbers : List (Option ℤ)) : Type 0 where
  pub written : text ++ state_text tags numbers ≡ state_text all all_numbers
  pub said : AreSaid tags numbers (lines (state_text tags numbers)) → AreSaid all all_numbers (lines (state_text all all_numbers))

abbrev pub invariant-loop-tag : goal.invariant-loop-tag
invariant-loop-tag l = Writes l.text.items l.tags l.fn.tags l.settings l.fn.settings

abbrev pub decreases-loop-tag : goal.decreases-loop-tag
decreases-loop-tag l = length l.tags
