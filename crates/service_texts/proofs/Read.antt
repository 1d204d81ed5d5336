-- What a number that is read says.
use Rattle.std.proofs.Common.{◌≡◌, ℤ, ℕ, List, Option, Some, None, refl, sym, subst}
use Rattle.point_types.specs.Point.{value_of}
use Rattle.point_types.specs.Reading.{IsReading, IsScaled, ReadsBy, factor_of}
use Rattle.point_types.specs.declared.reading.Reading.{Reading}
use Rattle.point_types.specs.declared.reading.Reading.TheVariants as reading
use Rattle.point_types.specs.declared.reading.Cause.TheVariants as cause
use Rattle.site_model.specs.declared.tag.SiteTag.{SiteTag}
use Rattle.service_texts.specs.Numbers.{IsNumberBy}

no_value : (n : ℤ) → reading.Value n ≡ reading.Absent cause.BadScale → ⊥
no_value n is = cc

read_by : (raw : ℤ) (factor : Option ℤ) (exponent low high n : ℤ) → ReadsBy IsScaled raw factor exponent low high (reading.Value n) → (power : ℤ) × (factor ≡ Some power) × IsScaled raw power exponent n
read_by raw None exponent low high n is = absurd (no_value n is)
read_by raw (Some power) exponent low high n is = (power, refl, is.0)

-- a number that a reading of words by a factor is, is what the words are; `handed` and `exponent` are numbers as they are
-- handed on
pub number_read : (tag : SiteTag) (factor : Option ℤ) (words : List ℕ) (raw handed exponent low high n : ℤ) (r : Reading) → Some raw ≡ value_of tag.point words → handed ≡ raw → exponent ≡ tag.exponent → IsReading handed factor exponent low high r → r ≡ reading.Value n → IsNumberBy tag factor words n
number_read tag factor words raw handed exponent low high n r is_raw same_raw same is_read is_value =
    let read = read_by handed (factor_of factor) exponent low high n (subst (λ v. IsReading handed factor exponent low high v) is_value is_read) in
    (raw, read.0, sym is_raw, read.1, subst (λ e. IsScaled raw read.0 e n) same (subst (λ x. IsScaled x read.0 exponent n) same_raw read.2))
