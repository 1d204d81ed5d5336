-- Set points: which words, at which address of which device, set a tag to a number, and why there are none.
-- SunSpec Device Information Model Specification, points and scale factors.
use Rattle.std.specs.Prelude.{◌≡◌, ℕ, ◌+◌, true, List, take, slice_get, ℤ, Option, Some, None, option_map, option_and_then, Result, Ok, Err}
use Rattle.point_types.specs.declared.reading.Reading.TheVariants as reading
use Rattle.point_types.specs.declared.encoding.Unencodable.TheVariants as unencodable
use Rattle.point_types.specs.Point.{size_of, StandsFor}
use Rattle.point_types.specs.Reading.{IsReading}
use Rattle.register_map.specs.declared.layout.Block.{Block}
use Rattle.register_map.specs.Layout.{Layout}
use Rattle.register_map.specs.Layout as map
use Rattle.site_model.specs.declared.access.Access.TheVariants as access
use Rattle.site_model.specs.declared.tag.SiteTag.{SiteTag}
use Rattle.site_model.specs.declared.want.Want.{Want}
use Rattle.site_model.specs.Readings.{registers_at, scale_at, known_at, block_of}
use Rattle.point_writer.specs.Fitting.{GoesOut, NoneGoesOut}
use Rattle.point_writer.specs.declared.write.Write.{Write}
use Rattle.point_writer.specs.declared.write.NoWrite.{NoWrite}
use Rattle.point_writer.specs.declared.write.NoWrite.TheVariants as refusal

-- ---- where a tag's point lies

-- a device, the address of the point's first register, and the point's factor: none where it is absent
pub record PointPlace : Type 0 where
  pub device : ℕ
  pub addr : ℕ
  pub factor : Option ℤ

-- the words of a block as far as its map's length goes, which counts neither ID nor L
abbrev pub mapped_words : Block → List ℕ → List ℕ
mapped_words block words = take (block.length + 2) words

-- in a block of which these words are known: the point and its factor lie inside them
abbrev pub place_in : SiteTag → ℕ → Block → List ℕ → Option PointPlace
place_in t device block words =
    option_and_then (λ registers. option_map (λ factor. record { device = device; addr = block.addr + t.offset; factor = factor }) (scale_at words t.sf)) (registers_at words t.offset (size_of t.point))

-- by the maps of the devices, and the words that are known of the wanted blocks
abbrev pub place_of : List (Option Layout) → List Want → List (Option (List ℕ)) → SiteTag → Option PointPlace
place_of maps wants blocks t =
    option_and_then (λ device. option_and_then (λ (layout : Layout). option_and_then (λ block. option_and_then (λ words. place_in t device block (mapped_words block words)) (block_of wants blocks t)) (map.block_of layout t.model)) (known_at maps device)) t.device

-- ---- set points

-- at a place, the words read back as the number that goes out for v, by the factor that the device gave
pub record SetsAt (place : PointPlace) (t : SiteTag) (v : ℤ) (w : Write) : Type 0 where
  pub device : w.device ≡ place.device
  pub addr : w.addr ≡ place.addr
  pub number : ℤ
  pub out : GoesOut t place.factor v number
  pub raw : ℤ
  pub stands : StandsFor t.point w.words raw
  pub reads : IsReading raw place.factor t.exponent t.low t.high (reading.Value number)

-- the words set a tag that is written to a device to the number that goes out for v; its point is one that can be written
pub record IsSetPoint (maps : List (Option Layout)) (wants : List Want) (blocks : List (Option (List ℕ))) (t : SiteTag) (v : ℤ) (w : Write) : Type 0 where
  pub output : t.access ≡ access.Output
  pub writable : t.writable ≡ true
  pub place : PointPlace
  pub placed : place_of maps wants blocks t ≡ Some place
  pub sets : SetsAt place t v w

-- ---- what is written of a tag that goes alone, or the first cause why nothing is

abbrev pub IsPlanAt : Option PointPlace → SiteTag → ℤ → Result Write NoWrite → Type 0
IsPlanAt None t v r = r ≡ Err refusal.NoBlock
IsPlanAt (Some place) t v (Ok w) = SetsAt place t v w
IsPlanAt (Some place) t v (Err refusal.NotSet) = ⊥
IsPlanAt (Some place) t v (Err refusal.NoBlock) = ⊥
IsPlanAt (Some place) t v (Err refusal.With) = ⊥
IsPlanAt (Some place) t v (Err refusal.BadScale) = NoneGoesOut t place.factor v unencodable.BadScale
IsPlanAt (Some place) t v (Err refusal.Inexact) = NoneGoesOut t place.factor v unencodable.Inexact
IsPlanAt (Some place) t v (Err refusal.OutOfType) = NoneGoesOut t place.factor v unencodable.OutOfType

-- by the number that the program stored
abbrev pub IsPlan : List (Option Layout) → List Want → List (Option (List ℕ)) → SiteTag → Option ℤ → Result Write NoWrite → Type 0
IsPlan maps wants blocks t None r = r ≡ Err refusal.NotSet
IsPlan maps wants blocks t (Some v) r = IsPlanAt (place_of maps wants blocks t) t v r

-- what is written for the i-th of these numbers is a set point of its tag, for the number that the program stored
abbrev pub WritesASetPoint : List SiteTag → (outs : List ℕ) → List Want → List (Option Layout) → List (Option (List ℕ)) → List (Option ℤ) → ℕ → Result Write NoWrite → Type 0
WritesASetPoint tags outs wants maps blocks outputs i r =
    (number : ℕ) (t : SiteTag) (w : Write) → slice_get outs i ≡ Some number → slice_get tags number ≡ Some t → r ≡ Ok w →
    (v : ℤ) × (known_at outputs number ≡ Some v) × IsSetPoint maps wants blocks t v w

-- ---- by which factor

abbrev pub factor_of : List (Option Layout) → List Want → List (Option (List ℕ)) → SiteTag → Option ℤ
factor_of maps wants blocks t = option_and_then (λ (place : PointPlace). place.factor) (place_of maps wants blocks t)

-- for the tag whose number is the i-th of these
abbrev pub IsFactorFor : List SiteTag → (outs : List ℕ) → List Want → List (Option Layout) → List (Option (List ℕ)) → ℕ → Option ℤ → Type 0
IsFactorFor tags outs wants maps blocks i factor =
    (number : ℕ) (t : SiteTag) → slice_get outs i ≡ Some number → slice_get tags number ≡ Some t → factor ≡ factor_of maps wants blocks t
