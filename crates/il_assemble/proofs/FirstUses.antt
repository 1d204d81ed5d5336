-- The first use of each external: what the notes on uses come to.
use Rattle.std.proofs.Common.{◌≡◌, ◌⊎◌, inl, inr, ⊎_elim, ℕ, zero, suc, ◌<◌, Bool, true, false, if◌then◌else◌, List, [], ◌∷◌, ◌++◌, length, map, Option, Some, None, slice_get, slice_set, nat_eq, refl, sym, ap, ◌∙◌, subst, arith}
use Rattle.std.specs.List.{Contains, flat_map}
use Rattle.std.proofs.lemmas.Bool.{eqb-true, eqb-false, eq-eqb}
use Rattle.std.proofs.lemmas.List.{append-nil}
use Rattle.std.proofs.lemmas.List.Elements.{Contains-append_cases, Contains-append_right, Contains-push_cases}
use Rattle.std.proofs.lemmas.Grind.{flat_map-append}
use Rattle.scan_code.specs.declared.image.Tag.{Tag}
use Rattle.il_reader.specs.declared.tree.External.{External}
use Rattle.il_reader.specs.declared.tree.Program.{Program as Tree}
use Rattle.il_reader.specs.declared.tree.Statement.{Statement}
use Rattle.il_reader.specs.declared.tree.Action.{Action}
use Rattle.il_reader.specs.declared.tree.Action.TheVariants as action
use Rattle.il_reader.specs.declared.tree.Operand.{Operand}
use Rattle.il_reader.specs.declared.tree.Operand.TheVariants.{Named, Truth, Number, Typed}
use Rattle.il_assemble.specs.declared.names.Known.{Known}
use Rattle.il_assemble.specs.declared.names.Known.TheVariants as known
use Rattle.il_assemble.specs.Faulty.{IsFirstUse, TagsAreOfUses, TheFirstUseCounts, Use, all_uses, text_scope, loads_of, operand_uses, operands_of, stores_of, uses_in}
use Rattle.il_assemble.specs.Instructions.{inside, inside_lines, of_line, of_lines}
use Rattle.il_assemble.specs.Names.{Scope, first_use, known_as, noted, noted_load, noted_store, tags_of, unused, uses_after, uses_of, uses_of_action, uses_of_inner, uses_of_operand, uses_of_simple}
use Rattle.il_assemble.specs.Written.{Written, Load, Apply, Defer, Limit, Select, Invert, Absolute, Convert, Inner, Close, Then}
use Rattle.il_assemble.proofs.Sound.{IsThere, known_there}

-- Elements of lists.

pub in_none : {X : Type 0} (x : X) → Contains [] x → ⊥
in_none x h = let l = h.1 in omega arith

pub in_one : {X : Type 0} (y x : X) → Contains (y ∷ []) x → y ≡ x
in_one y x h = ⊎_elim (λ n. absurd (in_none x n)) (λ e. e) (Contains-push_cases [] y x h)

pub at_head : {X : Type 0} (x : X) (xs : List X) → Contains (x ∷ xs) x
at_head x xs = (0, omega arith, refl)

pub in_tail : {X : Type 0} (y x : X) (xs : List X) → Contains xs x → Contains (y ∷ xs) x
in_tail y x xs h = Contains-append_right (y ∷ []) xs x h

pub head_or_tail : {X : Type 0} (y x : X) (xs : List X) → Contains (y ∷ xs) x → (y ≡ x) ⊎ Contains xs x
head_or_tail y x xs h = ⊎_elim (λ one. inl (in_one y x one)) (λ more. inr more) (Contains-append_cases (y ∷ []) xs x h)

-- The kind of the first use of an external.

abbrev pub first_for : ℕ → List Use → Option Bool
first_for i [] = None
first_for i (u ∷ us) = if nat_eq u.external i then Some u.stored else first_for i us

-- uses noted one after another
abbrev pub note_all : List (Option Bool) → List Use → List (Option Bool)
note_all noted_before [] = noted_before
note_all noted_before (u ∷ us) = note_all (noted noted_before u.external u.stored) us

note_append : (us : List (Option Bool)) (xs ys : List Use) → note_all us (xs ++ ys) ≡ note_all (note_all us xs) ys
note_append us [] ys = refl
note_append us (x ∷ xs) ys = note_append (noted us x.external x.stored) xs ys

-- what is noted of an external after further uses
abbrev pub behind_uses : Option (Option Bool) → Option Bool → Option (Option Bool)
behind_uses None r = None
behind_uses (Some (Some s)) r = Some (Some s)
behind_uses (Some None) r = Some r

nothing_new : (x : Option (Option Bool)) → x ≡ behind_uses x None
nothing_new None = refl
nothing_new (Some (Some s)) = refl
nothing_new (Some None) = refl

first_stays : (x : Option (Option Bool)) (s : Bool) (r : Option Bool) → behind_uses (behind_uses x (Some s)) r ≡ behind_uses x (Some s)
first_stays None s r = refl
first_stays (Some (Some t)) s r = refl
first_stays (Some None) s r = refl

set_same : {X : Type 0} (xs : List X) (i : ℕ) (x y : X) → slice_get xs i ≡ Some y → slice_get (slice_set xs i x) i ≡ Some x
set_same [] i x y e = cc
set_same (z ∷ xs) zero x y e = refl
set_same (z ∷ xs) (suc i) x y e = set_same xs i x y e

set_other : {X : Type 0} (xs : List X) (i j : ℕ) (x : X) → (j ≡ i → ⊥) → slice_get (slice_set xs j x) i ≡ slice_get xs i
set_other [] i j x h = refl
set_other (z ∷ xs) zero zero x h = absurd (h refl)
set_other (z ∷ xs) (suc i) zero x h = refl
set_other (z ∷ xs) zero (suc j) x h = refl
set_other (z ∷ xs) (suc i) (suc j) x h = set_other xs i j x (λ e. h (ap suc e))

noted_same : (us : List (Option Bool)) (i : ℕ) (s : Bool) → slice_get (noted us i s) i ≡ behind_uses (slice_get us i) (Some s)
noted_same us i s = go (slice_get us i) refl
  where
    go : (x : Option (Option Bool)) → slice_get us i ≡ x → slice_get (first_use us i s x) i ≡ behind_uses x (Some s)
    go None e = e
    go (Some (Some t)) e = e
    go (Some None) e = set_same us i (Some s) None e

noted_other : (us : List (Option Bool)) (i j : ℕ) (s : Bool) → (j ≡ i → ⊥) → slice_get (noted us j s) i ≡ slice_get us i
noted_other us i j s h = go (slice_get us j)
  where
    go : (x : Option (Option Bool)) → slice_get (first_use us j s x) i ≡ slice_get us i
    go None = refl
    go (Some (Some t)) = refl
    go (Some None) = set_other us i j (Some s) h

pub noted_of : (xs : List Use) (us : List (Option Bool)) (i : ℕ) → slice_get (note_all us xs) i ≡ behind_uses (slice_get us i) (first_for i xs)
noted_of [] us i = nothing_new (slice_get us i)
noted_of (x ∷ xs) us i = noted_of xs (noted us x.external x.stored) i ∙ go (nat_eq x.external i) refl
  where
    go : (b : Bool) → nat_eq x.external i ≡ b → behind_uses (slice_get (noted us x.external x.stored) i) (first_for i xs) ≡ behind_uses (slice_get us i) (if b then Some x.stored else first_for i xs)
    go true e =
        let same : x.external ≡ i = eqb-true x.external i e in
        ap (λ z. behind_uses (slice_get (noted us z x.stored) i) (first_for i xs)) same ∙ ap (λ z. behind_uses z (first_for i xs)) (noted_same us i x.stored) ∙ first_stays (slice_get us i) x.stored (first_for i xs)
    go false e = ap (λ z. behind_uses z (first_for i xs)) (noted_other us i x.external x.stored (eqb-false x.external i e))

-- The notes on a program's uses.

module _ (g : Scope) where
  load_noted : (us : List (Option Bool)) (k : Option Known) → noted_load us k ≡ note_all us (loads_of k)
  load_noted us None = refl
  load_noted us (Some (known.Variable i)) = refl
  load_noted us (Some (known.External i)) = refl
  load_noted us (Some (known.Presence i)) = refl

  store_noted : (us : List (Option Bool)) (k : Option Known) → noted_store us k ≡ note_all us (stores_of k)
  store_noted us None = refl
  store_noted us (Some (known.Variable i)) = refl
  store_noted us (Some (known.External i)) = refl
  store_noted us (Some (known.Presence i)) = refl

  operand_noted : (us : List (Option Bool)) (x : Operand) → uses_of_operand g us x ≡ note_all us (operand_uses g x)
  operand_noted us (Named name) = load_noted us (known_as g name)
  operand_noted us (Truth b) = refl
  operand_noted us (Number n) = refl
  operand_noted us (Typed k n) = refl

  one_noted : (us : List (Option Bool)) (x : Operand) → uses_of_operand g us x ≡ note_all us (operand_uses g x ++ [])
  one_noted us x = operand_noted us x ∙ ap (note_all us) (sym (append-nil (operand_uses g x)))

  two_noted : (us : List (Option Bool)) (x y : Operand) → uses_of_operand g (uses_of_operand g us x) y ≡ note_all us (operand_uses g x ++ (operand_uses g y ++ []))
  two_noted us x y = one_noted (uses_of_operand g us x) y ∙ ap (λ z. note_all z (operand_uses g y ++ [])) (operand_noted us x) ∙ sym (note_append us (operand_uses g x) (operand_uses g y ++ []))

  -- nothing stands inside
  alone : (us : List (Option Bool)) (xs : List Use) → note_all us xs ≡ note_all us (xs ++ [])
  alone us xs = ap (note_all us) (sym (append-nil xs))

  mutual
    simple_noted : (us : List (Option Bool)) (w : Written) → uses_of_simple g us w ≡ note_all us (all_uses g (action.Compute w ∷ inside w))
    simple_noted us (Load n x) = one_noted us x ∙ alone us (operand_uses g x ++ [])
    simple_noted us (Apply o n x) = one_noted us x ∙ alone us (operand_uses g x ++ [])
    simple_noted us (Defer o n None inner) = inner_noted us inner
    simple_noted us (Defer o n (Some x) inner) =
        inner_noted (uses_of_operand g us x) inner ∙ ap (λ z. note_all z (all_uses g (inside_lines inner))) (one_noted us x) ∙ sym (note_append us (operand_uses g x ++ []) (all_uses g (inside_lines inner)))
    simple_noted us (Limit x y) = two_noted us x y ∙ alone us (operand_uses g x ++ (operand_uses g y ++ []))
    simple_noted us (Select x y) = two_noted us x y ∙ alone us (operand_uses g x ++ (operand_uses g y ++ []))
    simple_noted us Invert = refl
    simple_noted us Absolute = refl
    simple_noted us (Convert from to) = refl

    inner_noted : (us : List (Option Bool)) (inner : Inner) → uses_of_inner g us inner ≡ note_all us (all_uses g (inside_lines inner))
    inner_noted us Close = refl
    inner_noted us (Then line head tail) =
        let first = all_uses g (action.Compute head ∷ inside head) in
        inner_noted (uses_of_simple g us head) tail
        ∙ ap (λ z. note_all z (all_uses g (inside_lines tail))) (simple_noted us head)
        ∙ sym (note_append us first (all_uses g (inside_lines tail)))
        ∙ ap (note_all us) (sym (flat_map-append (uses_in g) (action.Compute head ∷ inside head) (inside_lines tail)))

  action_noted : (us : List (Option Bool)) (a : Option Action) → uses_of_action g us a ≡ note_all us (all_uses g (of_line a))
  action_noted us None = refl
  action_noted us (Some (action.Compute w)) = simple_noted us w
  action_noted us (Some (action.Store n name)) = store_noted us (known_as g name) ∙ alone us (stores_of (known_as g name))
  action_noted us (Some (action.Set v name)) = store_noted us (known_as g name) ∙ alone us (stores_of (known_as g name))
  action_noted us (Some (action.Jump c label turns)) = refl
  action_noted us (Some (action.Return c)) = refl

  pub lines_noted : (us : List (Option Bool)) (ss : List Statement) → uses_after g us ss ≡ note_all us (all_uses g (of_lines ss))
  lines_noted us [] = refl
  lines_noted us (s ∷ ss) =
      lines_noted (uses_of_action g us s.action) ss
      ∙ ap (λ z. note_all z (all_uses g (of_lines ss))) (action_noted us s.action)
      ∙ sym (note_append us (all_uses g (of_line s.action)) (all_uses g (of_lines ss)))
      ∙ ap (note_all us) (sym (flat_map-append (uses_in g) (of_line s.action) (of_lines ss)))

-- What is used is declared.

abbrev Within : ℕ → List Use → Type 0
Within n [] = Unit {0}
Within n (u ∷ us) = (u.external < n) × Within n us

within_append : (n : ℕ) (us vs : List Use) → Within n us → Within n vs → Within n (us ++ vs)
within_append n [] vs h k = k
within_append n (u ∷ us) vs h k = (h.0, within_append n us vs h.1 k)

module _ (g : Scope) where
  loads_within : (k : Option Known) → IsThere g k → Within (length g.externals) (loads_of k)
  loads_within None h = tt
  loads_within (Some (known.Variable i)) h = tt
  loads_within (Some (known.External i)) h = (h, tt)
  loads_within (Some (known.Presence i)) h = (h, tt)

  stores_within : (k : Option Known) → IsThere g k → Within (length g.externals) (stores_of k)
  stores_within None h = tt
  stores_within (Some (known.Variable i)) h = tt
  stores_within (Some (known.External i)) h = (h, tt)
  stores_within (Some (known.Presence i)) h = tt

  operand_within : (x : Operand) → Within (length g.externals) (operand_uses g x)
  operand_within (Named name) = loads_within (known_as g name) (known_there g name)
  operand_within (Truth b) = tt
  operand_within (Number n) = tt
  operand_within (Typed k n) = tt

  operands_within : (xs : List Operand) → Within (length g.externals) (flat_map (operand_uses g) xs)
  operands_within [] = tt
  operands_within (x ∷ xs) = within_append (length g.externals) (operand_uses g x) (flat_map (operand_uses g) xs) (operand_within x) (operands_within xs)

  action_within : (a : Action) → Within (length g.externals) (uses_in g a)
  action_within (action.Compute w) = operands_within (operands_of w)
  action_within (action.Store n name) = stores_within (known_as g name) (known_there g name)
  action_within (action.Set v name) = stores_within (known_as g name) (known_there g name)
  action_within (action.Jump c label turns) = tt
  action_within (action.Return c) = tt

  all_within : (xs : List Action) → Within (length g.externals) (all_uses g xs)
  all_within [] = tt
  all_within (x ∷ xs) = within_append (length g.externals) (uses_in g x) (all_uses g xs) (action_within x) (all_within xs)

first_within : (n i : ℕ) (s : Bool) (us : List Use) → Within n us → first_for i us ≡ Some s → i < n
first_within n i s [] h e = cc
first_within n i s (u ∷ us) h e = go (first_within n i s us h.1) (nat_eq u.external i) refl e
  where
    go : (first_for i us ≡ Some s → i < n) → (b : Bool) → nat_eq u.external i ≡ b → (if b then Some u.stored else first_for i us) ≡ Some s → i < n
    go on true c e = subst (λ z. z < n) (eqb-true u.external i c) h.0
    go on false c e = on e

unused_at : (es : List External) (i : ℕ) → i < length es → slice_get (map unused es) i ≡ Some None
unused_at [] i h = absurd (omega arith)
unused_at (e ∷ es) zero h = refl
unused_at (e ∷ es) (suc i) h = unused_at es i (omega arith)

none_or_unused : (es : List External) (i : ℕ) (s : Bool) (r : Option Bool) → behind_uses (slice_get (map unused es) i) r ≡ Some (Some s) → r ≡ Some s
none_or_unused [] i s r e = cc
none_or_unused (x ∷ es) zero s r e = cc
none_or_unused (x ∷ es) (suc i) s r e = none_or_unused es i s r e

-- the notes are the first uses
pub uses_are : (t : Tree) (i : ℕ) → slice_get (uses_of t.variables t.externals t.statements) i ≡ behind_uses (slice_get (map unused t.externals) i) (first_for i (all_uses (text_scope t) (of_lines t.statements)))
uses_are t i =
    let g : Scope = record { variables = t.variables; externals = t.externals; uses = []; statements = [] } in
    ap (λ z. slice_get z i) (lines_noted g (map unused t.externals) t.statements) ∙ noted_of (all_uses g (of_lines t.statements)) (map unused t.externals) i

pub first_is_noted : (t : Tree) (i : ℕ) (s : Bool) → first_for i (all_uses (text_scope t) (of_lines t.statements)) ≡ Some s → slice_get (uses_of t.variables t.externals t.statements) i ≡ Some (Some s)
first_is_noted t i s e =
    let there : i < length t.externals = first_within (length t.externals) i s (all_uses (text_scope t) (of_lines t.statements)) (all_within (text_scope t) (of_lines t.statements)) e in
    uses_are t i ∙ ap (λ z. behind_uses z (first_for i (all_uses (text_scope t) (of_lines t.statements)))) (unused_at t.externals i there) ∙ ap Some e

-- The first use.

abbrev pub use_of : ℕ → Bool → Use
use_of i s = record { external = i; stored = s }

pub same_use : (v u : Use) → v.external ≡ u.external → v.stored ≡ u.stored → v ≡ u
same_use v u e f = ap (λ z. use_of z v.stored) e ∙ ap (λ z. use_of u.external z) f

first_is : (us : List Use) (u : Use) → first_for u.external us ≡ Some u.stored → IsFirstUse us u
first_is [] u e = cc
first_is (v ∷ us) u e = go (first_is us u) (nat_eq v.external u.external) refl e
  where
    go : (first_for u.external us ≡ Some u.stored → IsFirstUse us u) → (b : Bool) → nat_eq v.external u.external ≡ b → (if b then Some v.stored else first_for u.external us) ≡ Some u.stored → IsFirstUse (v ∷ us) u
    go on true c e =
        let place : v.external ≡ u.external = eqb-true v.external u.external c in
        let way : v.stored ≡ u.stored = cc in
        let same : v ≡ u = same_use v u place way in
        ([], us, ap (λ z. z ∷ us) same, λ w h. absurd (in_none w h))
    go on false c e =
        let rest = on e in
        (v ∷ rest.0, rest.1, ap (λ z. v ∷ z) rest.2, λ w h d. ⊎_elim (λ f. eqb-false v.external u.external c (ap (λ z. z.external) f ∙ d)) (λ k. rest.3 w k d) (head_or_tail v w rest.0 h))

is_first : (front behind : List Use) (u : Use) → ((v : Use) → Contains front v → v.external ≡ u.external → ⊥) → first_for u.external (front ++ u ∷ behind) ≡ Some u.stored
is_first [] behind u h = ap (λ z. if z then Some u.stored else first_for u.external behind) (eq-eqb u.external u.external refl)
is_first (v ∷ front) behind u h = go (is_first front behind u (λ w k. h w (in_tail v w front k))) (nat_eq v.external u.external) refl
  where
    go : first_for u.external (front ++ u ∷ behind) ≡ Some u.stored → (b : Bool) → nat_eq v.external u.external ≡ b → (if b then Some v.stored else first_for u.external (front ++ u ∷ behind)) ≡ Some u.stored
    go on true c = absurd (h v (at_head v front) (eqb-true v.external u.external c))
    go on false c = on

pub the_first_use_counts : TheFirstUseCounts
the_first_use_counts t u = (to, from)
  where
    to : slice_get (uses_of t.variables t.externals t.statements) u.external ≡ Some (Some u.stored) → IsFirstUse (all_uses (text_scope t) (of_lines t.statements)) u
    to e = first_is (all_uses (text_scope t) (of_lines t.statements)) u (none_or_unused t.externals u.external u.stored (first_for u.external (all_uses (text_scope t) (of_lines t.statements))) (sym (uses_are t u.external) ∙ e))

    from : IsFirstUse (all_uses (text_scope t) (of_lines t.statements)) u → slice_get (uses_of t.variables t.externals t.statements) u.external ≡ Some (Some u.stored)
    from h = first_is_noted t u.external u.stored (ap (first_for u.external) h.2 ∙ is_first h.0 h.1 u h.3)

-- Tags.

abbrev tag_of : External → Bool → Tag
tag_of e stored = record { name = e.name; output = stored; kind = e.kind }

-- the external at a place, which is used in this way
abbrev IsUsedAt : List External → List (Option Bool) → Tag → Type 0
IsUsedAt es us tag = (i : ℕ) × (e : External) × (s : Bool) × (slice_get es i ≡ Some e) × (slice_get us i ≡ Some (Some s)) × (tag ≡ tag_of e s)

one_behind : (x : External) (u : Option Bool) (es : List External) (us : List (Option Bool)) (tag : Tag) → IsUsedAt es us tag → IsUsedAt (x ∷ es) (u ∷ us) tag
one_behind x u es us tag h = (suc h.0, h.1, h.2, h.3, h.4, h.5)

tag_is_used : (es : List External) (us : List (Option Bool)) (tag : Tag) → Contains (tags_of es us) tag → IsUsedAt es us tag
tag_is_used [] us tag h = absurd (in_none tag h)
tag_is_used (x ∷ es) [] tag h = absurd (in_none tag h)
tag_is_used (x ∷ es) (None ∷ us) tag h = one_behind x None es us tag (tag_is_used es us tag h)
tag_is_used (x ∷ es) (Some s ∷ us) tag h =
    ⊎_elim (λ e. (0, x, s, refl, refl, sym e)) (λ k. one_behind x (Some s) es us tag (tag_is_used es us tag k)) (head_or_tail (tag_of x s) tag (tags_of es us) h)

used_has_tag : (es : List External) (us : List (Option Bool)) (i : ℕ) (e : External) (s : Bool) → slice_get es i ≡ Some e → slice_get us i ≡ Some (Some s) → Contains (tags_of es us) (tag_of e s)
used_has_tag [] us i e s f h = cc
used_has_tag (x ∷ es) [] i e s f h = cc
used_has_tag (x ∷ es) (None ∷ us) zero e s f h = cc
used_has_tag (x ∷ es) (None ∷ us) (suc i) e s f h = used_has_tag es us i e s f h
used_has_tag (x ∷ es) (Some q ∷ us) zero e s f h =
    let same : x ≡ e = cc in
    let way : q ≡ s = cc in
    subst (λ z. Contains (tags_of (x ∷ es) (Some q ∷ us)) z) (ap (λ z. tag_of z q) same ∙ ap (tag_of e) way) (at_head (tag_of x q) (tags_of es us))
used_has_tag (x ∷ es) (Some q ∷ us) (suc i) e s f h = in_tail (tag_of x q) (tag_of e s) (tags_of es us) (used_has_tag es us i e s f h)

pub tags_are_of_uses : TagsAreOfUses
tags_are_of_uses t tag = (to, from)
  where
    to : Contains (tags_of t.externals (uses_of t.variables t.externals t.statements)) tag → (u : Use) × (e : External) × IsFirstUse (all_uses (text_scope t) (of_lines t.statements)) u × (slice_get t.externals u.external ≡ Some e) × (tag ≡ tag_of e u.stored)
    to h =
        let k = tag_is_used t.externals (uses_of t.variables t.externals t.statements) tag h in
        let u = use_of k.0 k.2 in
        (u, k.1, (the_first_use_counts t u).0 k.4, k.3, k.5)

    from : (u : Use) × (e : External) × IsFirstUse (all_uses (text_scope t) (of_lines t.statements)) u × (slice_get t.externals u.external ≡ Some e) × (tag ≡ tag_of e u.stored) → Contains (tags_of t.externals (uses_of t.variables t.externals t.statements)) tag
    from h =
        subst (λ z. Contains (tags_of t.externals (uses_of t.variables t.externals t.statements)) z) (sym h.4)
        (used_has_tag t.externals (uses_of t.variables t.externals t.statements) h.0.external h.1 h.0.stored h.3 ((the_first_use_counts t h.0).1 h.2))
