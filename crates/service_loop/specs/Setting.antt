-- What a line of the file of set values does to a service's core. No standard says it; it is this project's.
use Rattle.std.specs.Prelude.{◌≡◌, Bool, true, false, Some, slice_set}
use Rattle.gateway.specs.event_core.Core.{Gateway}
use Rattle.gateway.specs.event_core.Restoring.{NothingSets}
use Rattle.service_texts.specs.declared.state_lines.StateLine.{StateLine}
use Rattle.service_texts.specs.declared.state_lines.StateLine.TheVariants.{Sets, NoSetting, NoTag}

-- the tag is set to just the number; or the core is as it was, where no client's write sets the tag to it, or the line sets
-- nothing
abbrev pub SetsBy : StateLine → Gateway → Bool → Gateway → Type 0
SetsBy (Sets tag number) old true new = new.standing ≡ record old.standing { sets = slice_set old.standing.sets tag (Some number); ages = slice_set old.standing.ages tag (Some 0) }
SetsBy (Sets tag number) old false new = (new ≡ old) × NothingSets old.site tag number
SetsBy NoSetting old is_set new = (is_set ≡ false) × (new ≡ old)
SetsBy NoTag old is_set new = (is_set ≡ false) × (new ≡ old)
