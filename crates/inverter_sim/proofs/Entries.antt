-- Entries of lists that are read one after another.
use Rattle.std.proofs.Common.{◌≡◌, ℕ, ◌+◌, ◌<◌, Bool, false, List, [], ◌∷◌, ◌++◌, length, get_or, drop, Option, None, Some, option_map, Ok, Err, refl, sym, ap, append_assoc, drop-cons, add-one}
use Rattle.toml.specs.Data.{Data, item}
use Rattle.toml.specs.View.{view, items_view}
use Rattle.toml.specs.declared.value.Value.{Value}
use Rattle.model_defs.specs.declared.model.ModelDef.{ModelDef}
use Rattle.inverter_sim.specs.declared.fault.PlantFault.{PlantFault}
use Rattle.inverter_sim.specs.declared.misbehaviour.Fault.{Fault}
use Rattle.inverter_sim.specs.State.{DeviceState}
use Rattle.inverter_sim.specs.File.{any_of, faults_from, fault_of, devices_from, device_of, valued_all, valued, Valued}

pub next_of : {X : Type 0} (xs : List X) (i : ℕ) (x : X) → i < length xs → x ≡ get_or xs i x → drop i xs ≡ x ∷ drop (i + 1) xs
next_of xs i x within is = rw (drop-cons xs i x, add-one) (rw (← is) refl)

pub next_item : (vs : List Value) (i : ℕ) (v : Value) → i < length vs → v ≡ get_or vs i v → items_view (drop i vs) ≡ item (view v) (items_view (drop (i + 1) vs))
next_item vs i v within is = ap items_view (next_of vs i v within is)

longer : {X : Type 0} (before : List X) (x : X) (rest : Option (List X)) → option_map (λ l. before ++ l) (option_map (λ l. x ∷ l) rest) ≡ option_map (λ l. (before ++ x ∷ []) ++ l) rest
longer before x None = refl
longer before x (Some l) = ap Some (sym (append_assoc before (x ∷ []) l))

pub any_more : (test : Data → Bool) (vs : List Value) (i : ℕ) (v : Value) → i < length vs → v ≡ get_or vs i v → test (view v) ≡ false
    → any_of test (items_view (drop i vs)) ≡ any_of test (items_view (drop (i + 1) vs))
any_more test vs i v within is fails = rw (next_item vs i v within is) (rw fails refl)

pub faults_more : (vs : List Value) (i : ℕ) (v : Value) (seen : List Fault) (f : Fault) → i < length vs → v ≡ get_or vs i v → fault_of seen (view v) ≡ Ok f
    → faults_from seen (items_view (drop i vs)) ≡ faults_from (seen ++ f ∷ []) (items_view (drop (i + 1) vs))
faults_more vs i v seen f within is good = rw (next_item vs i v within is) (rw good refl)

pub devices_more : (defs : List ModelDef) (vs : List Value) (i : ℕ) (v : Value) (seen : List DeviceState) (d : DeviceState) → i < length vs → v ≡ get_or vs i v → device_of defs seen (view v) ≡ Ok d
    → devices_from defs seen (items_view (drop i vs)) ≡ devices_from defs (seen ++ d ∷ []) (items_view (drop (i + 1) vs))
devices_more defs vs i v seen d within is good = rw (next_item vs i v within is) (rw good refl)

pub devices_broken : (defs : List ModelDef) (vs : List Value) (i : ℕ) (v : Value) (seen : List DeviceState) (e : PlantFault) → i < length vs → v ≡ get_or vs i v → device_of defs seen (view v) ≡ Err e
    → devices_from defs seen (items_view (drop i vs)) ≡ Err e
devices_broken defs vs i v seen e within is bad = rw (next_item vs i v within is) (rw bad refl)

pub values_more : (models : List ModelDef) (vs : List Value) (i : ℕ) (v : Value) (before after : Valued) → i < length vs → v ≡ get_or vs i v → valued models before (view v) ≡ Ok after
    → valued_all models before (items_view (drop i vs)) ≡ valued_all models after (items_view (drop (i + 1) vs))
values_more models vs i v before after within is good = rw (next_item vs i v within is) (rw good refl)
