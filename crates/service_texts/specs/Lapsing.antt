-- The lines of set values that lapse, in the file in which set values are kept. No standard says what it holds; it is this
-- project's.
use Rattle.std.specs.Prelude.{ℕ, ◌-◌, ℤ, List, [], ◌∷◌, ◌++◌, Option, None, Some, codes}
use Rattle.std.specs.Fmt.{decimal}
use Rattle.site_model.specs.declared.tag.SiteTag.{SiteTag}
use Rattle.service_texts.specs.State.{tag_line}
use Rattle.service_texts.specs.declared.lapsing_lines.AgedSetting.{AgedSetting}

-- what is set, where it never lapses
abbrev pub lasting_by : (lapse : Option ℕ) → Option ℤ → Option ℤ
lasting_by None set = set
lasting_by (Some seconds) set = None

abbrev pub lasting : SiteTag → Option ℤ → Option ℤ
lasting tag set = lasting_by tag.lapse set

-- so many milliseconds went by
abbrev pub later_line : ℕ → List ℕ
later_line ms = codes "LATER " ++ decimal ms ++ codes "\n"

abbrev pub age_of_first : List AgedSetting → ℕ
age_of_first [] = 0
age_of_first (s ∷ settings) = s.age

-- each with the time until the next was set, and the last one with its age
abbrev pub aged_text : List AgedSetting → List ℕ
aged_text [] = []
aged_text (s ∷ settings) = tag_line s.name (Some s.number) ++ (later_line (s.age - age_of_first settings) ++ aged_text settings)
