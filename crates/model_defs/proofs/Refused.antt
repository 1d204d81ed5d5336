-- The part of a definition that is refused, and what is before it.
use Rattle.std.proofs.Common.{◌≡◌, ◌≢◌, inl, inr, ℕ, zero, suc, ◌+◌, ◌<◌, Bool, true, false, List, [], ◌∷◌, ◌++◌, length, get_or, add-one, arith, Option, Some, None, Result, Ok, Err, IfErr, IsErrAnd, refl, sym, ap, ◌∙◌, subst, append_assoc, append-nil, length-append}
use Rattle.std.specs.Prelude.{if◌then◌else◌}
use Rattle.std.specs.List.{list_any}
use Rattle.serde_json.specs.Data.{Data, Items, no_items, item}
use Rattle.serde_json.specs.Find.{get_item}
use Rattle.serde_json.specs.View.{view, items_view}
use Rattle.serde_json.specs.declared.value.Value.{Value}
use Rattle.model_defs.specs.Definition.{Description, IsTree, Outline, broken_among, broken_from, description_of, descriptions_of, has_name, is_model_id, joined, outline_of, repeats}
use Rattle.model_defs.specs.Parts.{AreRefused, before, IsAtFault, IsBroken, IsPointRefused, IsTreeFault, in_all_points, in_heading, in_points}
use Rattle.model_defs.specs.declared.model.ModelDef.{ModelDef}
use Rattle.model_defs.specs.declared.part.DefPart.{DefPart}
use Rattle.model_defs.specs.declared.part.DefPart.TheVariants as parts
use Rattle.model_defs.specs.declared.fault.DefFault.{DefFault}
use Rattle.model_defs.specs.declared.fault.DefFault.TheVariants as fault

-- ---- one point more

-- what is after a point breaks no rule, where the point breaks none
past : (b : Bool) (old new : Option DefFault) → (if b then Some fault.DuplicateName else old) ≡ None → (old ≡ None → new ≡ None) → (if b then Some fault.DuplicateName else new) ≡ None
past true old new none behind = none
past false old new none behind = behind none

unbroken_further :
    (seen : List Description) (i : ℕ) (points : Items) (tree : Data) (d : Description) → broken_among seen (before i points) ≡ None → get_item i points ≡ Some tree → description_of tree ≡ Ok d →
    list_any (has_name d.name) (seen ++ descriptions_of (before i points)) ≡ false → broken_among seen (before (suc i) points) ≡ None
unbroken_further seen zero no_items tree d none stands good new = cc
unbroken_further seen zero (item first points) tree d none stands good new =
    let same : first ≡ tree = cc in
    let fresh : list_any (has_name d.name) seen ≡ false = ap (list_any (has_name d.name)) (sym (append-nil seen)) ∙ new in
    rw same (rw good (rw fresh refl))
unbroken_further seen (suc i) no_items tree d none stands good new = cc
unbroken_further seen (suc i) (item first points) tree d none stands good new =
    go (description_of first) refl (λ t fresh. unbroken_further (seen ++ t ∷ []) i points tree d fresh stands good)
  where
    go : (r : Result Description DefFault) → description_of first ≡ r →
        ((t : Description) → broken_among (seen ++ t ∷ []) (before i points) ≡ None → list_any (has_name d.name) ((seen ++ t ∷ []) ++ descriptions_of (before i points)) ≡ false → broken_among (seen ++ t ∷ []) (before (suc i) points) ≡ None) →
        broken_among seen (item first (before (suc i) points)) ≡ None
    go (Err e) f behind = let broken : Some e ≡ None = subst (λ r. broken_from seen r (λ longer. broken_among longer (before i points)) ≡ None) f none in cc
    go (Ok t) f behind =
        let others = append_assoc seen (t ∷ []) (descriptions_of (before i points)) ∙ ap (λ r. seen ++ joined r (descriptions_of (before i points))) (sym f) in
        subst (λ r. broken_from seen r (λ longer. broken_among longer (before (suc i) points)) ≡ None) (sym f)
        (past (list_any (has_name t.name) seen) (broken_among (seen ++ t ∷ []) (before i points)) (broken_among (seen ++ t ∷ []) (before (suc i) points))
        (subst (λ r. broken_from seen r (λ longer. broken_among longer (before i points)) ≡ None) f none)
        (λ fresh. behind t fresh (ap (list_any (has_name d.name)) others ∙ new)))

joined_further : (r : Result Description DefFault) (ds es : List Description) → joined r (ds ++ es) ≡ joined r ds ++ es
joined_further (Ok d) ds es = refl
joined_further (Err e) ds es = refl

described_further :
    (i : ℕ) (points : Items) (tree : Data) (d : Description) → get_item i points ≡ Some tree → description_of tree ≡ Ok d →
    descriptions_of (before (suc i) points) ≡ descriptions_of (before i points) ++ d ∷ []
described_further zero no_items tree d stands good = cc
described_further zero (item first points) tree d stands good = let same : first ≡ tree = cc in rw same (rw good refl)
described_further (suc i) no_items tree d stands good = cc
described_further (suc i) (item first points) tree d stands good =
    ap (joined (description_of first)) (described_further i points tree d stands good) ∙ joined_further (description_of first) (descriptions_of (before i points)) (d ∷ [])

item_at : (vs : List Value) (i : ℕ) (v : Value) → i < length vs → v ≡ get_or vs i v → get_item i (items_view vs) ≡ Some (view v)
item_at [] i v within is = absurd (omega (arith, within))
item_at (u ∷ vs) zero v within is = rw (← is) refl
item_at (u ∷ vs) (suc i) v within is = item_at vs i v (omega (arith, within)) is

-- the points so far break no rule, and these are their descriptions
pub record AreSeen (seen : List Description) (points : Items) : Type 0 where
  pub described : descriptions_of points ≡ seen
  pub unbroken : broken_among [] points ≡ None

pub one_more :
    (seen : List Description) (vs : List Value) (i : ℕ) (v : Value) (d : Description) → i < length vs → v ≡ get_or vs i v → AreSeen seen (before i (items_view vs)) →
    description_of (view v) ≡ Ok d → list_any (has_name d.name) seen ≡ false → AreSeen (seen ++ d ∷ []) (before (i + 1) (items_view vs))
one_more seen vs i v d within is so_far good new =
    let stands = item_at vs i v within is in
    rw add-one (record {
      described = described_further i (items_view vs) (view v) d stands good ∙ ap (λ ds. ds ++ d ∷ []) so_far.described;
      unbroken = unbroken_further [] i (items_view vs) (view v) d so_far.unbroken stands good (ap (list_any (has_name d.name)) so_far.described ∙ new);
    })

-- the next point is refused: the part that is told is that one
pub point_here :
    (seen : List Description) (vs : List Value) (i n : ℕ) (v : Value) (e : DefFault) → i < length vs → v ≡ get_or vs i v → n ≡ i → AreSeen seen (before i (items_view vs)) →
    IsBroken seen (view v) e → IsPointRefused (items_view vs) (parts.Point n) e
point_here seen vs i n v e within is same so_far bad = record {
  number = i;
  point = view v;
  told = rw same refl;
  unbroken = so_far.unbroken;
  stands = item_at vs i v within is;
  broken = subst (λ ds. IsBroken ds (view v) e) (sym so_far.described) bad;
}

pub one_longer : {A : Type 0} (xs longer : List A) (x : A) (n : ℕ) → longer ≡ xs ++ x ∷ [] → length xs ≡ n → length longer ≡ n + 1
one_longer xs longer x n is e = ap length is ∙ length-append xs (x ∷ []) ∙ ap (λ k. k + 1) e

-- the fault that goes up is the one that came
pub told_of_fault : {T E : Type 0} (result : Result T E) (came : E) (Holds : E → Type 0) → IsErrAnd result (λ e. e ≡ came) → Holds came → IfErr result Holds
told_of_fault (Ok _) came Holds same h = tt
told_of_fault (Err e) came Holds same h = subst Holds (sym same) h

pub text_refused :
    (text : List ℕ) (tree : Data) (part : DefPart) (result : Result ModelDef DefFault) → IsTree text tree →
    IfErr result (λ e. e ≢ fault.OutOfMemory → IsTreeFault tree part e) → IfErr result (λ e. e ≢ fault.OutOfMemory → IsAtFault text part e)
text_refused text tree part (Ok _) is h = tt
text_refused text tree part (Err e) is h = λ real. inr (tree, is, h real)

-- ---- the tree

pub no_id : (tree : Data) (part : DefPart) (model : Outline) → outline_of tree ≡ Some model → part ≡ parts.Model → is_model_id model.id ≡ false → IsTreeFault tree part fault.BadType
no_id tree part model outlined is bad = in_heading model outlined is (rw bad refl)

pub repeating :
    (tree : Data) (part : DefPart) (model : Outline) → outline_of tree ≡ Some model → part ≡ parts.Model → is_model_id model.id ≡ true → repeats model.group ≡ true →
    IsTreeFault tree part fault.Repeating
repeating tree part model outlined is good again = in_heading model outlined is (rw (good, again) refl)

pub bad_point :
    (tree : Data) (part : DefPart) (e : DefFault) (model : Outline) → outline_of tree ≡ Some model → is_model_id model.id ≡ true → repeats model.group ≡ false →
    IsPointRefused model.points part e → IsTreeFault tree part e
bad_point tree part e model outlined good once refused = in_points model outlined (rw (good, once) refl) refused

pub bad_points :
    (tree : Data) (part : DefPart) (model : Outline) (ds : List Description) (result : Result ModelDef DefFault) → outline_of tree ≡ Some model → is_model_id model.id ≡ true → repeats model.group ≡ false →
    ds ≡ descriptions_of model.points → broken_among [] model.points ≡ None →
    IfErr result (λ e. e ≢ fault.OutOfMemory → AreRefused ds part e) → IfErr result (λ e. e ≢ fault.OutOfMemory → IsTreeFault tree part e)
bad_points tree part model ds (Ok _) outlined good once told none h = tt
bad_points tree part model ds (Err e) outlined good once told none h = λ real.
    in_all_points model outlined (rw (good, once) refl) none (subst (λ xs. AreRefused xs part e) told (h real))
