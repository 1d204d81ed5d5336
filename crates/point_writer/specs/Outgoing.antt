-- inner: the number that goes out for v with its words, or the cause why none does.
-- SunSpec Device Information Model Specification, points and scale factors.
use Rattle.std.specs.Prelude.{ℤ, Option, None, Some, Result, Ok, Err}
use Rattle.point_types.specs.declared.encoding.Unencodable.{Unencodable}
use Rattle.point_types.specs.Encoding.{IsEncoding}
use Rattle.site_model.specs.declared.tag.SiteTag.{SiteTag}
use Rattle.point_writer.specs.declared.fitting.SaidNumber.{SaidNumber}
use Rattle.point_writer.specs.Fitting.{GoesOut, NoneGoesOut}

pub record IsSaidFor (t : SiteTag) (factor : Option ℤ) (v : ℤ) (out : SaidNumber) : Type 0 where
  pub goes : GoesOut t factor v out.number
  pub words : IsEncoding t.point out.number t.exponent factor (Ok out.words)

abbrev pub IsOutgoing : SiteTag → Option ℤ → ℤ → Result SaidNumber Unencodable → Type 0
IsOutgoing t factor v (Ok out) = IsSaidFor t factor v out
IsOutgoing t factor v (Err cause) = NoneGoesOut t factor v cause

-- in place of a number that has no words
abbrev pub IsInPlace : SiteTag → Option ℤ → ℤ → Option SaidNumber → Type 0
IsInPlace t factor v None = (n : ℤ) → GoesOut t factor v n → ⊥
IsInPlace t factor v (Some out) = IsSaidFor t factor v out
