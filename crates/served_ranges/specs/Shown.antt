-- What the gateway's own points that show a total, or what the program stored, may have to say, and when they always say
-- it: by the served image.
-- SunSpec Device Information Model Specification, points and scale factors, the table of types.
use Rattle.std.specs.Prelude.{◌≡◌, ℕ, nat_eq, List, [], ◌∷◌, All, find, slice_get, ℤ, pos, ◌+ℤ◌, ◌≤ℤ◌, int_le, if◌then◌else◌, Option, Some, None, IsSome, IsSomeAnd, option_map, option_and_then, ⊤}
use Rattle.point_types.specs.declared.kind.Kind.{Kind}
use Rattle.point_types.specs.declared.reading.Reading.{Reading}
use Rattle.model_defs.specs.declared.model.ModelDef.{ModelDef}
use Rattle.model_defs.specs.declared.point.Point.{Point}
use Rattle.site_model.specs.declared.served.Served.{Served}
use Rattle.site_model.specs.declared.served.Source.{Source}
use Rattle.site_model.specs.declared.served.Source.TheVariants as given
use Rattle.site_model.specs.declared.site.Site.{Site}
use Rattle.site_model.specs.declared.tag.SiteTag.{SiteTag}
use Rattle.site_model.specs.Readings.{AreUsable}
use Rattle.point_types.specs.Reading.{IsExponent}
use Rattle.site_model.specs.declared.tag.Sf.{Sf}
use Rattle.site_model.specs.declared.tag.Sf.TheVariants as factors
use Rattle.gateway.specs.served.Points.{served_factor}
use Rattle.gateway.specs.served.ServedImage.{ReadsAs, amount, joined_total, own_value, partial_total_of, sum_of, total_of}
use Rattle.served_ranges.specs.declared.shown.Demand.{Demand}

-- ---- the definition's point of an entry of the site file, and of a tag of the gateway's own models

abbrev pub model_of : List ModelDef → ℕ → Option ModelDef
model_of models id = find (λ m. nat_eq m.id id) models

abbrev pub point_of_entry : List ModelDef → Served → Option Point
point_of_entry models s = option_and_then (λ m. slice_get m.points s.point) (model_of models s.model)

abbrev pub point_of_tag : List ModelDef → SiteTag → Option Point
point_of_tag models t = option_and_then (λ m. find (λ p. nat_eq p.offset t.offset) m.points) (model_of models t.model)

-- ---- what is shown

-- each part of a sum has a value of its own
abbrev pub HaveValues : List Reading → List ℕ → Type 0
HaveValues readings parts = All (λ i. IsSome (option_and_then own_value (slice_get readings i))) parts

-- one of them at least has one
abbrev pub HasValue : List Reading → List ℕ → Type 0
HasValue readings parts = IsSome (joined_total readings parts)

-- the point shows a total of these parts: there is one, and words of its kind read as that
abbrev pub ShowsTotal : Site → (model : ℕ) → List ℕ → (total : Option ℤ) → Point → Type 0
ShowsTotal site model parts total p =
    IsSomeAnd (sum_of site.tags (served_factor site.served model p.sf) parts total) (λ said. (words : List ℕ) × ReadsAs p.kind said words)

-- whatever the readings of the tags are in their ranges: where each part of the sum has a value of its own, the point of
-- the entry shows the total
abbrev pub AlwaysShowsTotal : Site → Served → List ℕ → Type 0
AlwaysShowsTotal site s parts =
    (readings : List Reading) → AreUsable site.tags readings → HaveValues readings parts →
    IsSomeAnd (point_of_entry site.models s) (ShowsTotal site s.model parts (total_of readings parts))

-- where one part has a value, the point shows the total of those that have
abbrev pub AlwaysShowsPartial : Site → Served → List ℕ → Type 0
AlwaysShowsPartial site s parts =
    (readings : List Reading) → AreUsable site.tags readings → HasValue readings parts →
    IsSomeAnd (point_of_entry site.models s) (ShowsTotal site s.model parts (partial_total_of readings parts))

-- what the site file gives the point, where that is a sum
abbrev pub AlwaysShows : Site → Served → Source → Type 0
AlwaysShows site s (given.Sum parts) = AlwaysShowsTotal site s parts
AlwaysShows site s (given.PartialSum parts) = AlwaysShowsPartial site s parts
AlwaysShows site s (given.Raw n) = ⊤
AlwaysShows site s (given.Text text) = ⊤

-- each number from low to high, in units of 10^exponent, has words of the kind that read as it by the factor
abbrev pub AllAreShown : Kind → Option ℤ → (exponent low high : ℤ) → Type 0
AllAreShown kind factor exponent low high =
    (n : ℤ) → low ≤ℤ n → n ≤ℤ high → (words : List ℕ) × ReadsAs kind (amount exponent factor n) words

-- whatever the program stores in a `site` tag, which lies in its range: its point shows it
abbrev pub AlwaysShowsStored : Site → SiteTag → Type 0
AlwaysShowsStored site t =
    IsSomeAnd (point_of_tag site.models t) (λ p. AllAreShown p.kind (served_factor site.served t.model p.sf) t.exponent t.low t.high)

-- ---- the ends of a total

-- the total of one end of the ranges of some tags, on top of what there is; none where one of the numbers is no tag's
abbrev pub end_over : (SiteTag → ℤ) → ℤ → List SiteTag → List ℕ → Option ℤ
end_over end n tags [] = Some n
end_over end n tags (i ∷ is) = option_and_then (λ v. end_over end (n +ℤ v) tags is) (option_map end (slice_get tags i))

abbrev pub lowest_total : List SiteTag → List ℕ → Option ℤ
lowest_total tags parts = end_over (λ t. t.low) (pos 0) tags parts

abbrev pub highest_total : List SiteTag → List ℕ → Option ℤ
highest_total tags parts = end_over (λ t. t.high) (pos 0) tags parts

-- ---- the ends of a partial total

abbrev pub lesser : ℤ → ℤ → ℤ
lesser m n = if int_le m n then m else n

abbrev pub greater : ℤ → ℤ → ℤ
greater m n = if int_le m n then n else m

-- the least that there is to choose: what there was, a number, or both together
abbrev pub least_choice : Option ℤ → ℤ → ℤ
least_choice None n = n
least_choice (Some m) n = lesser (lesser m n) (m +ℤ n)

-- the greatest
abbrev pub greatest_choice : Option ℤ → ℤ → ℤ
greatest_choice None n = n
greatest_choice (Some m) n = greater (greater m n) (m +ℤ n)

-- one end of the totals of one or more of some tags, by that end of their ranges, after what there was to choose; none where
-- one of the numbers is no tag's
abbrev pub choice_over : (choice : Option ℤ → ℤ → ℤ) → (SiteTag → ℤ) → Option ℤ → List SiteTag → List ℕ → Option ℤ
choice_over choice end n tags [] = n
choice_over choice end n tags (i ∷ is) = option_and_then (λ v. choice_over choice end (Some (choice n v)) tags is) (option_map end (slice_get tags i))

abbrev pub lowest_partial : List SiteTag → List ℕ → Option ℤ
lowest_partial tags parts = choice_over least_choice (λ t. t.low) None tags parts

abbrev pub highest_partial : List SiteTag → List ℕ → Option ℤ
highest_partial tags parts = choice_over greatest_choice (λ t. t.high) None tags parts

-- ---- what a point may have to say

abbrev pub exponent_of : List SiteTag → List ℕ → Option ℤ
exponent_of tags [] = None
exponent_of tags (i ∷ is) = option_map (λ t. t.exponent) (slice_get tags i)

-- at a point of a model: a number of 10^exponent from low to high
abbrev pub demand_at : Site → (model : ℕ) → (exponent low high : ℤ) → Point → Demand
demand_at site model exponent low high p = record { kind = p.kind; factor = served_factor site.served model p.sf; exponent = exponent; low = low; high = high }

-- of totals between two ends, of tags that all have the exponent of the first
abbrev pub demand_between : Site → Served → List ℕ → (lowest highest : Option ℤ) → Option Demand
demand_between site s parts lowest highest =
    option_and_then (λ exponent.
    option_and_then (λ low.
    option_and_then (λ high.
    option_map (demand_at site s.model exponent low high) (point_of_entry site.models s))
    highest)
    lowest)
    (exponent_of site.tags parts)

-- of the total of some tags
abbrev pub demand_of_total : Site → Served → List ℕ → Option Demand
demand_of_total site s parts = demand_between site s parts (lowest_total site.tags parts) (highest_total site.tags parts)

-- of the total of those that have a value
abbrev pub demand_of_partial : Site → Served → List ℕ → Option Demand
demand_of_partial site s parts = demand_between site s parts (lowest_partial site.tags parts) (highest_partial site.tags parts)

-- of what the site file gives a point, where that is a sum
abbrev pub demand_of_sum : Site → Served → Source → Option Demand
demand_of_sum site s (given.Sum parts) = demand_of_total site s parts
demand_of_sum site s (given.PartialSum parts) = demand_of_partial site s parts
demand_of_sum site s (given.Raw n) = None
demand_of_sum site s (given.Text text) = None

-- of a `site` tag
abbrev pub demand_of_stored : Site → SiteTag → Option Demand
demand_of_stored site t = option_map (demand_at site t.model t.exponent t.low t.high) (point_of_tag site.models t)

-- ---- the points of outputs

-- a factor that the point of a tag may have: the one that the definition fixes, 0 where there is none, or any that a device
-- may have
abbrev pub MayHaveFactor : Sf → ℤ → Type 0
MayHaveFactor factors.None factor = factor ≡ pos 0
MayHaveFactor (factors.Fixed power) factor = factor ≡ power
MayHaveFactor (factors.At offset) factor = IsExponent factor

-- the factor that is fixed, or else the coarsest that is as fine as the tag's numbers
abbrev pub factor_by : Sf → (exponent : ℤ) → ℤ
factor_by factors.None exponent = pos 0
factor_by (factors.Fixed power) exponent = power
factor_by (factors.At offset) exponent = exponent

-- what the point of an `out` tag may have to say
abbrev pub demand_of_set : SiteTag → Demand
demand_of_set t = record { kind = t.point; factor = Some (factor_by t.sf t.exponent); exponent = t.exponent; low = t.low; high = t.high }
