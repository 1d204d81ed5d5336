-- The part of a plant file that is refused, and what is read before it.
use Rattle.std.proofs.Common.{◌≡◌, inl, inr, ℕ, zero, suc, ◌+◌, ◌<◌, Bool, true, false, ◌||◌, List, [], ◌∷◌, ◌++◌, length, get_or, add-one, Some, Result, Ok, Err, IfErr, IsErrAnd, MatchResult, refl, sym, ap, ◌∙◌, subst, length-append}
use Rattle.toml.specs.Data.{Data, Items, no_items, item, get_item}
use Rattle.toml.specs.View.{view, items_view}
use Rattle.toml.specs.declared.value.Value.{Value}
use Rattle.file_keys.specs.Refusals.{before, IsRefusedIn}
use Rattle.file_keys.proofs.InOrder.{GoesInOrder, item_at}
use Rattle.model_defs.specs.declared.model.ModelDef.{ModelDef}
use Rattle.inverter_sim.specs.State.{DeviceState}
use Rattle.inverter_sim.specs.File.{any_of, blank_device, definitions_of, device_has_too_many, device_keys, device_of, devices_from, fault_of, faults_from, has_too_many, is_duplicate, is_in_range, valued, valued_all, PlantDeviceKeys}
use Rattle.inverter_sim.specs.Parts.{IsDeviceRefused, IsFirst, IsInDevice, IsInValues, IsTooLong}
use Rattle.inverter_sim.specs.declared.part.PlantPart.{PlantPart}
use Rattle.inverter_sim.specs.declared.part.PlantPart.TheVariants as parts
use Rattle.inverter_sim.specs.declared.fault.PlantFault.{PlantFault}

-- ---- entries in order

pub devices_in_order : (defs : List ModelDef) → GoesInOrder (devices_from defs) (device_of defs) (λ seen d. seen ++ d ∷ [])
devices_in_order defs = record { ends = λ seen. refl; goes = λ seen tree d trees good. rw good refl; fails = λ seen tree e trees bad. rw bad refl }

pub faults_in_order : GoesInOrder faults_from fault_of (λ seen f. seen ++ f ∷ [])
faults_in_order = record { ends = λ seen. refl; goes = λ seen tree f trees good. rw good refl; fails = λ seen tree e trees bad. rw bad refl }

pub values_in_order : (models : List ModelDef) → GoesInOrder (valued_all models) (valued models) (λ v next. next)
values_in_order models = record { ends = λ v. refl; goes = λ v tree next trees good. rw good refl; fails = λ v tree e trees bad. rw bad refl }

pub one_longer : {A : Type 0} (xs longer : List A) (x : A) (n : ℕ) → longer ≡ xs ++ x ∷ [] → length xs ≡ n → length longer ≡ n + 1
one_longer xs longer x n is e = ap length is ∙ length-append xs (x ∷ []) ∙ ap (λ k. k + 1) e

-- the fault that goes up is the one that came
pub told_of_fault : {T E : Type 0} (result : Result T E) (came : E) (Holds : E → Type 0) → IsErrAnd result (λ e. e ≡ came) → Holds came → IfErr result Holds
told_of_fault (Ok _) came Holds same h = tt
told_of_fault (Err e) came Holds same h = subst Holds (sym same) h

pub told_of_match :
    {T E : Type 0} (result : Result T E) (came : E) (Good : T → Type 0) (Holds : E → Type 0) → IsErrAnd result (λ e. e ≡ came) → Holds came → MatchResult result Good Holds
told_of_match (Ok _) came Good Holds same h = absurd same
told_of_match (Err e) came Good Holds same h = subst Holds (sym same) h

-- ---- the first that has too many

both_false : (a b : Bool) → a || b ≡ false → (a ≡ false) × (b ≡ false)
both_false false b e = (refl, e)
both_false true b e = cc

none_further : (test : Data → Bool) (i : ℕ) (entries : Items) (d : Data) → any_of test (before i entries) ≡ false → get_item i entries ≡ Some d → test d ≡ false → any_of test (before (suc i) entries) ≡ false
none_further test zero no_items d none stands fails = cc
none_further test zero (item x ds) d none stands fails = let same : x ≡ d = cc in rw same (rw fails refl)
none_further test (suc i) no_items d none stands fails = cc
none_further test (suc i) (item x ds) d none stands fails =
    let both = both_false (test x) (any_of test (before i ds)) none in
    rw both.0 (none_further test i ds d both.1 stands fails)

pub none_more :
    (test : Data → Bool) (vs : List Value) (i : ℕ) (v : Value) → i < length vs → v ≡ get_or vs i v → any_of test (before i (items_view vs)) ≡ false → test (view v) ≡ false →
    any_of test (before (i + 1) (items_view vs)) ≡ false
none_more test vs i v within is none fails = rw add-one (none_further test i (items_view vs) (view v) none (item_at vs i v within is) fails)

pub first_here :
    (test : Data → Bool) (vs : List Value) (i n : ℕ) (v : Value) → i < length vs → v ≡ get_or vs i v → n ≡ i → any_of test (before i (items_view vs)) ≡ false → test (view v) ≡ true →
    IsFirst test n (items_view vs)
first_here test vs i n v within is same none holds =
    subst (λ k. IsFirst test k (items_view vs)) (sym same) (record { entry = view v; stands = item_at vs i v within is; holds = holds; none_before = none })

or_true : (b : Bool) → b || true ≡ true
or_true false = refl
or_true true = refl

any_there : (test : Data → Bool) (n : ℕ) (entries : Items) (d : Data) → get_item n entries ≡ Some d → test d ≡ true → any_of test entries ≡ true
any_there test n no_items d stands holds = cc
any_there test zero (item x ds) d stands holds = let same : x ≡ d = cc in rw same (rw holds refl)
any_there test (suc n) (item x ds) d stands holds = rw (any_there test n ds d stands holds) (or_true (test x))

pub long_is_many : (doc : Data) (part : PlantPart) → IsTooLong doc part → has_too_many doc ≡ true
long_is_many doc part (inl (is, many)) = rw many refl
long_is_many doc part (inr (n, entries, is, few, listed, first)) = rw (few, listed) (any_there device_has_too_many n entries first.entry first.stands first.holds)

-- ---- the devices

-- a device whose values are refused is read apart from them
pub in_values :
    (defs : List ModelDef) (seen : List DeviceState) (n : ℕ) (tree : Data) (part : PlantPart) (e : PlantFault) (keys : PlantDeviceKeys) (models : List ModelDef) (registers : List ℕ) →
    device_keys tree ≡ Ok keys → definitions_of defs keys.models ≡ Some models → is_in_range seen keys models ≡ true → is_duplicate seen keys ≡ false → registers ≡ (blank_device keys models).registers →
    IsInValues models registers n tree (parts.Device n) part e → IsInDevice defs seen n tree part e
in_values defs seen n tree part e keys models registers keyed defined ranged new blank (inl (is, same, unlisted)) =
    inl (is, rw (keyed, defined, ranged, new, unlisted, same) refl)
in_values defs seen n tree part e keys models registers keyed defined ranged new blank (inr (entries, listed, refused)) =
    inr (
      record { models = models; registers = (blank_device keys models).registers; values = entries },
      rw (keyed, defined, ranged, new, listed) refl,
      subst (λ words. IsRefusedIn (parts.Value n) (valued_all models (record { registers = words; seen = [] })) (valued models) entries part e) blank refused,
    )

pub device_here :
    (defs : List ModelDef) (seen : List DeviceState) (vs : List Value) (i n : ℕ) (v : Value) (part : PlantPart) (e : PlantFault) → i < length vs → v ≡ get_or vs i v → n ≡ i →
    devices_from defs [] (before i (items_view vs)) ≡ Ok seen → IsInDevice defs seen n (view v) part e → IsDeviceRefused defs (items_view vs) part e
device_here defs seen vs i n v part e within is same are_read bad =
    record { number = i; seen = seen; entry = view v; are_read = are_read; stands = item_at vs i v within is; refused = subst (λ k. IsInDevice defs seen k (view v) part e) same bad }
