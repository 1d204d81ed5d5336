-- What is proved of set points: a tag has one for a number at most, and none where it isn't written; and of tags that go together.
-- SunSpec Device Information Model Specification, points and scale factors.
use Rattle.std.specs.Prelude.{◌≡◌, ℤ, List, ℕ, length, slice_get, Option, None, Some, Result, Err}
use Rattle.register_map.specs.Layout.{Layout}
use Rattle.site_model.specs.declared.tag.SiteTag.{SiteTag}
use Rattle.site_model.specs.declared.want.Want.{Want}
use Rattle.point_writer.specs.declared.write.Write.{Write}
use Rattle.point_writer.specs.declared.write.NoWrite.{NoWrite}
use Rattle.site_model.specs.declared.fit.Fit.TheVariants as fits
use Rattle.point_writer.specs.Fitting.{GoesOut}
use Rattle.point_writer.specs.Going.{AreCompanionsSet, IsOneUnset, IsPlanWith}
use Rattle.point_writer.specs.SetPoint.{IsSetPoint, IsPlan}
use Rattle.site_model.specs.Readings.{known_at}
use Rattle.site_model.specs.TagView.{companion_at}

-- for a number, the words, their address and their device are the only ones
abbrev pub AtMostOneSetPoint : Type 0
AtMostOneSetPoint = (maps : List (Option Layout)) (wants : List Want) (blocks : List (Option (List ℕ))) (t : SiteTag) (v : ℤ) (w x : Write) →
    IsSetPoint maps wants blocks t v w → IsSetPoint maps wants blocks t v x → w ≡ x

-- where a number isn't written, nothing would set the tag to it
abbrev pub RefusedHasNoSetPoint : Type 0
RefusedHasNoSetPoint = (maps : List (Option Layout)) (wants : List Want) (blocks : List (Option (List ℕ))) (t : SiteTag) (v : ℤ) (e : NoWrite) (w : Write) →
    IsPlan maps wants blocks t (Some v) (Err e) → IsSetPoint maps wants blocks t v w → ⊥

-- without the key `fit` no other number goes out than the one that the program stored
abbrev pub ExactWithoutFit : Type 0
ExactWithoutFit = (t : SiteTag) (factor : Option ℤ) (v n : ℤ) → t.fit ≡ fits.Exact → GoesOut t factor v n → n ≡ v

-- a tag that is written goes with tags that have set points: it is written, or one of them has none, and not both
abbrev pub WritesAllOrNone : Type 0
WritesAllOrNone = (tags : List SiteTag) (wants : List Want) (maps : List (Option Layout)) (blocks : List (Option (List ℕ))) (outputs : List (Option ℤ)) (number : ℕ) →
    AreCompanionsSet tags wants maps blocks outputs number → IsOneUnset tags wants maps blocks outputs (length tags) (companion_at tags number) → ⊥

-- without the key `with` a tag is written as if there were no other
abbrev pub AloneWithoutWith : Type 0
AloneWithoutWith = (tags : List SiteTag) (wants : List Want) (maps : List (Option Layout)) (blocks : List (Option (List ℕ))) (outputs : List (Option ℤ)) (number : ℕ) (t : SiteTag) (r : Result Write NoWrite) →
    slice_get tags number ≡ Some t → t.companion ≡ None → IsPlanWith tags wants maps blocks outputs number t r → IsPlan maps wants blocks t (known_at outputs number) r
