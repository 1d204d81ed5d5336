-- Trees of JSON: an empty list, and what a text breaks by its tree.
use Rattle.std.proofs.Common.{◌≡◌, ℕ, inr, Bool, not, List, [], ◌∷◌, length, nat_eq, Some, Result, Ok, Err, refl, ap, ◌∙◌, IfErr, arith}
use Rattle.std.proofs.lemmas.Bool.Decides.{nat_tests}
use Rattle.std.specs.Prelude.{◌≢◌, codes}
use Rattle.serde_json.specs.Data.{Data}
use Rattle.serde_json.specs.Find.{get, as_array}
use Rattle.serde_json.specs.View.{items_view}
use Rattle.serde_json.specs.declared.value.Value.{Value}
use Rattle.model_defs.specs.Definition.{IsTree, Breaks, first_broken, has_none, repeats}
use Rattle.model_defs.specs.declared.model.ModelDef.{ModelDef}
use Rattle.model_defs.specs.declared.fault.DefFault.{DefFault}
use Rattle.model_defs.specs.declared.fault.DefFault.TheVariants as fault

empty_told : (vs : List Value) → has_none (items_view vs) ≡ nat_eq (length vs) 0
empty_told [] = refl
empty_told (v ∷ vs) = grind (arith, nat_tests)

-- groups that are a list
pub groups_told : (group groups : Data) (vs : List Value) (b : Bool) → Some groups ≡ get (codes "groups") group → Some (items_view vs) ≡ as_array groups
    → b ≡ nat_eq (length vs) 0 → not b ≡ repeats group
groups_told group groups vs b at list e = rw (← at) (rw (← list) (rw (empty_told vs) (ap not e)))

-- what the tree of a text breaks, the text breaks
pub refused_by : (text : List ℕ) (tree : Data) (r : Result ModelDef DefFault) → IsTree text tree
    → IfErr r (λ e. e ≢ fault.OutOfMemory → first_broken tree ≡ Some e) → IfErr r (λ e. e ≢ fault.OutOfMemory → Breaks text e)
refused_by text tree (Ok model) is h = h
refused_by text tree (Err e) is h = λ other. inr (tree, is, h other)
