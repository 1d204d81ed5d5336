-- The served image: what each register of the gateway reads, from its mark to its end model, point by point.
-- SunSpec Device Information Model Specification, points and scale factors, the table of types.
use Rattle.std.specs.Prelude.{◌≡◌, ◌⊎◌, ℕ, zero, suc, ◌/◌, ◌%◌, List, [], ◌∷◌, ◌++◌, slice_get, ℤ, pos, ◌+ℤ◌, Option, Some, None, option_map, option_and_then, if◌then◌else◌, Ok}
use Rattle.std.specs.Option.{option_map_or}
use Rattle.point_types.specs.declared.il_type.IlType.TheVariants as il
use Rattle.point_types.specs.declared.kind.Kind.{Kind}
use Rattle.point_types.specs.declared.reading.Reading.{Reading}
use Rattle.point_types.specs.declared.reading.Reading.TheVariants as reading
use Rattle.point_types.specs.Encoding.{IsEncoding}
use Rattle.point_types.specs.Point.{row_of}
use Rattle.point_types.specs.Value.{is_within, low_of, high_of}
use Rattle.site_model.specs.declared.access.Access.{Access}
use Rattle.site_model.specs.declared.access.Access.TheVariants as access
use Rattle.site_model.specs.declared.served.Served.{Served}
use Rattle.site_model.specs.declared.served.Source.{Source}
use Rattle.site_model.specs.declared.served.Source.TheVariants as given
use Rattle.site_model.specs.declared.site.Site.{Site}
use Rattle.site_model.specs.declared.tag.SiteTag.{SiteTag}
use Rattle.site_model.specs.Readings.{known_at}
use Rattle.modbus_frame.specs.Bytes.{number}
use Rattle.gateway.specs.declared.served.amount.Amount.{Amount}
use Rattle.gateway.specs.declared.served.point.OwnPoint.{OwnPoint}
use Rattle.gateway.specs.declared.served.point.OwnPoint.TheVariants as own
use Rattle.gateway.specs.declared.served.point.PointSource.{PointSource as From}
use Rattle.gateway.specs.declared.served.point.PointSource.TheVariants as source
use Rattle.gateway.specs.served.Points.{own_points}

-- ---- words

-- a number in so many registers, the most significant one first
abbrev pub split : ℕ → ℕ → List ℕ
split zero n = []
split (suc k) n = split k (n / 65536) ++ (n % 65536) ∷ []

-- the unimplemented words of a kind; a string's registers are 0
abbrev pub unimplemented : Kind → List ℕ
unimplemented k = option_map_or (λ r. split r.registers r.unimplemented) (row_of k) (0 ∷ [])

-- the first two bytes of a text in a register, and the bytes after them
abbrev pub first_word : List ℕ → ℕ
first_word [] = 0
first_word (a ∷ []) = number a 0
first_word (a ∷ b ∷ bytes) = number a b

abbrev pub behind_word : List ℕ → List ℕ
behind_word [] = []
behind_word (a ∷ []) = []
behind_word (a ∷ b ∷ bytes) = bytes

-- a text in so many registers, and zeros after it
abbrev pub text_words : ℕ → List ℕ → List ℕ
text_words zero bytes = []
text_words (suc n) bytes = first_word bytes ∷ text_words n (behind_word bytes)

-- ---- totals

-- a value of its own, which a default isn't
abbrev pub own_value : Reading → Option ℤ
own_value (reading.Value n) = Some n
own_value other = None

-- the total of some tags on top of what there is; none where one of them has no value of its own
abbrev pub total_over : ℤ → List Reading → List ℕ → Option ℤ
total_over n readings [] = Some n
total_over n readings (i ∷ is) = option_and_then (λ v. total_over (n +ℤ v) readings is) (option_and_then own_value (slice_get readings i))

abbrev pub in_lint : ℤ → Option ℤ
in_lint n = if is_within (low_of il.Lint) (high_of il.Lint) n then Some n else None

-- in LINT's range
abbrev pub total_of : List Reading → List ℕ → Option ℤ
total_of readings parts = option_and_then in_lint (total_over (pos 0) readings parts)

-- ---- partial totals

-- the total of two values, or the one that is there
abbrev pub joined : Option ℤ → Option ℤ → Option ℤ
joined None value = value
joined (Some n) None = Some n
joined (Some n) (Some v) = Some (n +ℤ v)

-- the total of those of some tags that have a value of their own; none where none of them has one
abbrev pub joined_total : List Reading → List ℕ → Option ℤ
joined_total readings [] = None
joined_total readings (i ∷ is) = joined (option_and_then own_value (slice_get readings i)) (joined_total readings is)

-- in LINT's range
abbrev pub partial_total_of : List Reading → List ℕ → Option ℤ
partial_total_of readings parts = option_and_then in_lint (joined_total readings parts)

-- ---- what there is to say of a point

abbrev pub amount : ℤ → Option ℤ → ℤ → Amount
amount exponent factor n = record { number = n; exponent = exponent; factor = factor }

-- a total of some tags, which all have the exponent of the first
abbrev pub sum_of : List SiteTag → Option ℤ → List ℕ → (total : Option ℤ) → Option Amount
sum_of tags factor [] total = None
sum_of tags factor (i ∷ is) total = option_and_then (λ t. option_map (amount t.exponent factor) total) (slice_get tags i)

-- what the site file gives a point; a raw number is scaled by nothing
abbrev pub amount_given : List SiteTag → List Reading → Option ℤ → Source → Option Amount
amount_given tags readings factor (given.Raw n) = Some (amount (pos 0) (Some (pos 0)) n)
amount_given tags readings factor (given.Sum parts) = sum_of tags factor parts (total_of readings parts)
amount_given tags readings factor (given.PartialSum parts) = sum_of tags factor parts (partial_total_of readings parts)
amount_given tags readings factor (given.Text text) = None

-- what the program stored, or clients set
abbrev pub number_of_tag : (outputs sets : List (Option ℤ)) → Access → ℕ → Option ℤ
number_of_tag outputs sets access.Shown n = known_at outputs n
number_of_tag outputs sets access.Setting n = known_at sets n
number_of_tag outputs sets other n = None

abbrev pub amount_of_tag : (outputs sets : List (Option ℤ)) → Option ℤ → ℕ → SiteTag → Option Amount
amount_of_tag outputs sets factor n t = option_map (amount t.exponent factor) (number_of_tag outputs sets t.access n)

abbrev pub text_given : Source → List ℕ
text_given (given.Text text) = text
text_given other = []

-- the text that an entry of the site file gives; none is empty
abbrev pub text_from : List Served → Option ℕ → List ℕ
text_from served entry = option_map_or (λ s. text_given s.source) (option_and_then (slice_get served) entry) []

-- the words of a kind that read as a value
abbrev pub ReadsAs : Kind → Amount → List ℕ → Type 0
ReadsAs kind a words = IsEncoding kind a.number a.exponent a.factor (Ok words)

-- unimplemented where there is no value, or no words read as it
abbrev pub AreWordsOf : Kind → Option Amount → List ℕ → Type 0
AreWordsOf kind None words = words ≡ unimplemented kind
AreWordsOf kind (Some a) words = ReadsAs kind a words ⊎ (((ws : List ℕ) → ReadsAs kind a ws → ⊥) × (words ≡ unimplemented kind))

-- ---- the registers, by the outputs and the readings of the last finished scan, and by what clients set, one each for each
-- tag of the site

module _ (site : Site) (outputs : List (Option ℤ)) (readings : List Reading) (sets : List (Option ℤ)) where
  abbrev pub amount_from : Option ℤ → From → Option Amount
  amount_from factor source.Nothing = None
  amount_from factor (source.Entry n) = option_and_then (λ s. amount_given site.tags readings factor s.source) (slice_get site.served n)
  amount_from factor (source.Tag n) = option_and_then (amount_of_tag outputs sets factor n) (slice_get site.tags n)

  abbrev pub ArePointWords : OwnPoint → List ℕ → Type 0
  ArePointWords (own.Word w) words = words ≡ w ∷ []
  ArePointWords (own.Text size entry) words = words ≡ text_words size (text_from site.served entry)
  ArePointWords (own.Number kind factor from) words = AreWordsOf kind (amount_from factor from) words

  -- those of points side by side
  abbrev pub AreServed : List OwnPoint → List ℕ → Type 0
  AreServed [] words = words ≡ []
  AreServed (p ∷ ps) words = (front : List ℕ) × (behind : List ℕ) × ArePointWords p front × AreServed ps behind × (words ≡ front ++ behind)

  -- the served image
  abbrev pub IsServedImage : List ℕ → Type 0
  IsServedImage words = AreServed (own_points site) words
