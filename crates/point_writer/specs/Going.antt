-- Which set points go out: that of a tag only where each tag that it goes with has one. No standard says it; site files are this
-- project's.
use Rattle.std.specs.Prelude.{◌≡◌, ◌⊎◌, ℕ, zero, suc, ⊤, Bool, true, false, List, length, slice_get, ℤ, Option, Some, None, Result, Ok, Err}
use Rattle.register_map.specs.Layout.{Layout}
use Rattle.site_model.specs.declared.tag.SiteTag.{SiteTag}
use Rattle.site_model.specs.declared.want.Want.{Want}
use Rattle.site_model.specs.Readings.{known_at}
use Rattle.site_model.specs.TagView.{companion_at}
use Rattle.point_writer.specs.SetPoint.{IsPlan}
use Rattle.point_writer.specs.declared.write.Write.{Write}
use Rattle.point_writer.specs.declared.write.NoWrite.{NoWrite}
use Rattle.point_writer.specs.declared.write.NoWrite.TheVariants as refusal

-- by the maps of the devices, the words that are known of the wanted blocks, and what the program stored for each tag
module _ (tags : List SiteTag) (wants : List Want) (maps : List (Option Layout)) (blocks : List (Option (List ℕ))) (outputs : List (Option ℤ)) where
  -- alone, the tag with this number has a set point
  pub record HasSetPoint (number : ℕ) : Type 0 where
    pub tag : SiteTag
    pub there : slice_get tags number ≡ Some tag
    pub write : Write
    pub plan : IsPlan maps wants blocks tag (known_at outputs number) (Ok write)

  -- inner: what is written of the tag with this number if it goes alone
  pub record IsAlone (number : ℕ) (r : Result Write NoWrite) : Type 0 where
    pub tag : SiteTag
    pub there : slice_get tags number ≡ Some tag
    pub plan : IsPlan maps wants blocks tag (known_at outputs number) r

  -- alone, it has none
  abbrev pub HasNone : ℕ → Type 0
  HasNone number = (t : SiteTag) → slice_get tags number ≡ Some t → (cause : NoWrite) × IsPlan maps wants blocks t (known_at outputs number) (Err cause)

  -- From a tag to the one that it goes with, and on from there, each has a set point; those are so many at most.
  abbrev pub AreSet : ℕ → Option ℕ → Type 0
  AreSet n None = ⊤
  AreSet zero (Some number) = ⊥
  AreSet (suc n) (Some number) = HasSetPoint number × AreSet n (companion_at tags number)

  -- One of them has none.
  abbrev pub IsOneUnset : ℕ → Option ℕ → Type 0
  IsOneUnset n None = ⊥
  IsOneUnset zero (Some number) = ⊤
  IsOneUnset (suc n) (Some number) = HasNone number ⊎ IsOneUnset n (companion_at tags number)

  -- each tag that this one goes with, through others too, has a set point
  abbrev pub AreCompanionsSet : ℕ → Type 0
  AreCompanionsSet number = AreSet (length tags) (companion_at tags number)

  -- What is written of a tag, by what would be if it went alone.
  abbrev pub GoesWith : (number : ℕ) → (alone r : Result Write NoWrite) → Type 0
  GoesWith number (Err cause) r = r ≡ Err cause
  GoesWith number (Ok write) (Ok w) = (w ≡ write) × AreCompanionsSet number
  GoesWith number (Ok write) (Err cause) = (cause ≡ refusal.With) × IsOneUnset (length tags) (companion_at tags number)

  -- What is written of the tag with this number, or the first cause why nothing is.
  pub record IsPlanWith (number : ℕ) (t : SiteTag) (r : Result Write NoWrite) : Type 0 where
    pub alone : Result Write NoWrite
    pub plan : IsPlan maps wants blocks t (known_at outputs number) alone
    pub goes : GoesWith number alone r

-- inner: what is written of a tag, by what would be if it went alone and by whether those that it goes with are set
abbrev pub together : (alone : Result Write NoWrite) → (are_set : Bool) → Result Write NoWrite
together (Ok write) true = Ok write
together (Ok write) false = Err refusal.With
together (Err cause) are_set = Err cause

-- the same for the tag whose number is the i-th of these
abbrev pub IsPlanFor : List SiteTag → (outs : List ℕ) → List Want → List (Option Layout) → List (Option (List ℕ)) → List (Option ℤ) → ℕ → Result Write NoWrite → Type 0
IsPlanFor tags outs wants maps blocks outputs i r =
    (number : ℕ) (t : SiteTag) → slice_get outs i ≡ Some number → slice_get tags number ≡ Some t → IsPlanWith tags wants maps blocks outputs number t r

-- each tag that the one whose number is the i-th of these goes with has a set point
abbrev pub AreCompanionsOf : List SiteTag → (outs : List ℕ) → List Want → List (Option Layout) → List (Option (List ℕ)) → List (Option ℤ) → ℕ → Type 0
AreCompanionsOf tags outs wants maps blocks outputs i =
    (number : ℕ) → slice_get outs i ≡ Some number → AreCompanionsSet tags wants maps blocks outputs number
