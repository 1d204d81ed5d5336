-- Which `out` tag another one goes with: it isn't written without that one. No standard says it; site files are this project's.
use Rattle.std.specs.Prelude.{◌≡◌, ℕ, zero, suc, ◌+◌, Bool, true, false, ◌&&◌, ◌||◌, is_none, List, [], ◌∷◌, length, map, slice_get, Option, None, Some, option_and_then, if◌then◌else◌, Result, Ok, Err}
use Rattle.std.specs.Str.{bytes_eq}
use Rattle.site_model.specs.Readings.{known_at}
use Rattle.site_model.specs.Tagging.{Tag, is_output, is_same_device}
use Rattle.site_model.specs.declared.fault.SiteFault.{SiteFault}
use Rattle.site_model.specs.declared.fault.SiteFault.TheVariants as fault

-- the number of the first tag of a name, where those are numbered from i on
abbrev pub number_from : ℕ → List ℕ → List Tag → Option ℕ
number_from i name [] = None
number_from i name (t ∷ ts) = if bytes_eq t.name name then Some i else number_from (i + 1) name ts

-- the number of the tag that this one goes with, if any
abbrev pub companion_of : List Tag → Tag → Option ℕ
companion_of tags t = option_and_then (λ name. number_from 0 name tags) t.companion

-- the same of each tag
abbrev pub companions_of : List Tag → List (Option ℕ)
companions_of tags = map (companion_of tags) tags

-- ---- which names are allowed

-- an `out` tag of the same device
abbrev pub may_lead : Tag → Option Tag → Bool
may_lead t None = false
may_lead t (Some u) = is_output u.access && is_same_device t.device u.device

abbrev pub names_one : List Tag → Tag → Bool
names_one tags t = is_none t.companion || may_lead t (option_and_then (slice_get tags) (companion_of tags t))

-- from a tag to the one that it goes with, and on from there: that comes to an end after so many at most
abbrev pub comes_to_end : ℕ → List (Option ℕ) → Option ℕ → Bool
comes_to_end n companions None = true
comes_to_end zero companions (Some i) = false
comes_to_end (suc n) companions (Some i) = comes_to_end n companions (known_at companions i)

-- it names no other tag, or an `out` tag of its device, from which no way leads back to it
abbrev pub is_paired : List Tag → ℕ → Tag → Bool
is_paired tags i t = names_one tags t && comes_to_end (length tags) (companions_of tags) (Some i)

-- the number of the first tag that isn't so, where those are numbered from i on
abbrev pub unpaired_from : List Tag → ℕ → List Tag → Option ℕ
unpaired_from tags i [] = None
unpaired_from tags i (t ∷ ts) = if is_paired tags i t then unpaired_from tags (i + 1) ts else Some i

abbrev pub first_unpaired : List Tag → Option ℕ
first_unpaired tags = unpaired_from tags 0 tags

abbrev pub unless_unpaired : Option ℕ → List (Option ℕ) → Result (List (Option ℕ)) SiteFault
unless_unpaired None companions = Ok companions
unless_unpaired (Some i) companions = Err fault.BadType

-- the companions of the tags, or that one names no tag that it may
abbrev pub paired : List Tag → Result (List (Option ℕ)) SiteFault
paired tags = unless_unpaired (first_unpaired tags) (companions_of tags)
