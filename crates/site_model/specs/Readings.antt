-- Readings of a site's tags: what the words of the devices say that a tag is, or why it has no value of its own.
-- SunSpec Device Information Model Specification, points and scale factors.
use Rattle.std.specs.Prelude.{◌≡◌, ℕ, ◌+◌, ◌/◌, ◌%◌, ◌^◌, nat_le, Bool, true, false, List, length, slice_get, slice_range, ℤ, pos, ◌≤ℤ◌, int_le, unsigned_abs, Option, Some, None, option_map, option_and_then, if◌then◌else◌}
use Rattle.std.specs.List.{position}
use Rattle.point_types.specs.declared.kind.Kind.TheVariants as kinds
use Rattle.point_types.specs.declared.reading.Cause.TheVariants as cause
use Rattle.point_types.specs.declared.reading.Reading.{Reading}
use Rattle.point_types.specs.declared.reading.Reading.TheVariants as reading
use Rattle.point_types.specs.Point.{size_of, value_of}
use Rattle.point_types.specs.Reading.{IsReading, IsReadingDown}
use Rattle.point_types.specs.Value.{is_within}
use Rattle.site_model.specs.declared.access.Access.{Access}
use Rattle.site_model.specs.declared.access.Access.TheVariants as access
use Rattle.site_model.specs.declared.tag.SiteTag.{SiteTag}
use Rattle.site_model.specs.declared.tag.Sf.{Sf}
use Rattle.site_model.specs.declared.tag.Sf.TheVariants as factors
use Rattle.site_model.specs.declared.want.Want.{Want}
use Rattle.site_model.specs.Wants.{same_want, want_of}

-- ---- a point and its factor in the words of a block, which begin with the model's ID

-- the registers of a point; none where they lie past the words
abbrev pub registers_at : List ℕ → (offset size : ℕ) → Option (List ℕ)
registers_at words offset size = if nat_le (offset + size) (length words) then Some (slice_range words offset (offset + size)) else None

-- what scales a point: none where its register lies past the words, and in it none where the factor is absent
abbrev pub scale_at : List ℕ → Sf → Option (Option ℤ)
scale_at words factors.None = Some (Some (pos 0))
scale_at words (factors.Fixed n) = Some (Some n)
scale_at words (factors.At offset) = option_map (value_of kinds.Sunssf) (registers_at words offset 1)

-- a bit has no factor
abbrev pub scale_for : Option ℕ → List ℕ → Sf → Option (Option ℤ)
scale_for (Some bit) words sf = Some (Some (pos 0))
scale_for None words sf = scale_at words sf

-- ---- the reading of a tag that is read from a device

-- bit 0 is the least
abbrev pub bit_of : ℤ → ℕ → ℤ
bit_of raw bit = pos ((unsigned_abs raw / 2 ^ bit) % 2)

abbrev pub number_reading : (low high : ℤ) → ℤ → Reading
number_reading low high n = if is_within low high n then reading.Value n else reading.Absent cause.OutOfRange

-- the value of its point is this raw number, scaled by this factor: the bit, or the whole number, rounded down or not
abbrev pub IsOfRaw : Option ℕ → Bool → SiteTag → ℤ → Option ℤ → Reading → Type 0
IsOfRaw (Some bit) down t raw factor r = r ≡ number_reading t.low t.high (bit_of raw bit)
IsOfRaw None true t raw factor r = IsReadingDown raw factor t.exponent t.low t.high r
IsOfRaw None false t raw factor r = IsReading raw factor t.exponent t.low t.high r

abbrev pub IsOfValue : SiteTag → Option ℤ → Option ℤ → Reading → Type 0
IsOfValue t None factor r = r ≡ reading.Absent cause.NotImplemented
IsOfValue t (Some raw) factor r = IsOfRaw t.bit t.down t raw factor r

abbrev pub IsOfRegisters : SiteTag → Option (List ℕ) → Option (Option ℤ) → Reading → Type 0
IsOfRegisters t None scale r = r ≡ reading.Absent cause.ShortModel
IsOfRegisters t (Some registers) None r = r ≡ reading.Absent cause.ShortModel
IsOfRegisters t (Some registers) (Some factor) r = IsOfValue t (value_of t.point registers) factor r

-- by the words of its block, where one is known
abbrev pub IsOfBlock : SiteTag → Option (List ℕ) → Reading → Type 0
IsOfBlock t None r = r ≡ reading.Absent cause.NoBlock
IsOfBlock t (Some words) r = IsOfRegisters t (registers_at words t.offset (size_of t.point)) (scale_for t.bit words t.sf) r

-- ---- the readings of all tags

-- what was set last
abbrev pub setting_reading : Option ℤ → Reading
setting_reading None = reading.Absent cause.NotImplemented
setting_reading (Some n) = reading.Value n

-- the milliseconds since the scan before, held in a range; its least number where there was none
abbrev pub time_within : (low high : ℤ) → Option ℕ → ℤ
time_within low high None = low
time_within low high (Some n) = if int_le (pos n) low then low else if int_le high (pos n) then high else pos n

-- a tag's reading before its default, by the words of its block, by what was set, and by the time since the scan before
abbrev pub IsOwn : Access → SiteTag → Option (List ℕ) → Option ℤ → Option ℕ → Reading → Type 0
IsOwn access.Input t block set elapsed r = IsOfBlock t block r
IsOwn access.Setting t block set elapsed r = r ≡ setting_reading set
IsOwn access.Output t block set elapsed r = r ≡ reading.Absent cause.NoBlock
IsOwn access.Shown t block set elapsed r = r ≡ reading.Absent cause.NoBlock
IsOwn access.Time t block set elapsed r = r ≡ reading.Value (time_within t.low t.high elapsed)

-- a tag's reading: its default, where it has one, in place of being absent
abbrev pub IsTagReading : SiteTag → Option (List ℕ) → Option ℤ → Option ℕ → Reading → Type 0
IsTagReading t block set elapsed (reading.Value n) = IsOwn t.access t block set elapsed (reading.Value n)
IsTagReading t block set elapsed (reading.Default n why) = IsOwn t.access t block set elapsed (reading.Absent why) × (t.default ≡ Some n)
IsTagReading t block set elapsed (reading.Absent why) = IsOwn t.access t block set elapsed (reading.Absent why) × (t.default ≡ None)

-- an entry of a list in which some are missing
abbrev pub known_at : {T : Type 0} → List (Option T) → ℕ → Option T
known_at entries i = option_and_then (λ entry. entry) (slice_get entries i)

-- the words of a tag's block: those at the number that its device and model have among the wants
abbrev pub block_of : List Want → List (Option (List ℕ)) → SiteTag → Option (List ℕ)
block_of wants blocks t = option_and_then (λ w. option_and_then (known_at blocks) (position (same_want w) wants)) (want_of t)

-- the readings of the tags, one each
abbrev pub AreReadings : List SiteTag → List Want → List (Option (List ℕ)) → List (Option ℤ) → Option ℕ → List Reading → Type 0
AreReadings tags wants blocks sets elapsed readings =
    (i : ℕ) (t : SiteTag) (r : Reading) → slice_get tags i ≡ Some t → slice_get readings i ≡ Some r →
    IsTagReading t (block_of wants blocks t) (known_at sets i) elapsed r

-- ---- what a program may count on

-- a number in a reading lies in the tag's range, and a tag with a default isn't absent
abbrev pub IsUsable : SiteTag → Reading → Type 0
IsUsable t (reading.Value n) = (t.low ≤ℤ n) × (n ≤ℤ t.high)
IsUsable t (reading.Default n why) = (t.low ≤ℤ n) × (n ≤ℤ t.high)
IsUsable t (reading.Absent why) = t.default ≡ None

abbrev pub AreUsable : List SiteTag → List Reading → Type 0
AreUsable tags readings = (i : ℕ) (t : SiteTag) (r : Reading) → slice_get tags i ≡ Some t → slice_get readings i ≡ Some r → IsUsable t r

-- each number that was set lies in its tag's range
abbrev pub AreSettings : List SiteTag → List (Option ℤ) → Type 0
AreSettings tags sets = (i : ℕ) (t : SiteTag) (n : ℤ) → slice_get tags i ≡ Some t → slice_get sets i ≡ Some (Some n) → (t.low ≤ℤ n) × (n ≤ℤ t.high)
