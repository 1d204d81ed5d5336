-- Where no static fault holds, instructions are well formed: names stand for places, literals fit their types.
use Rattle.std.proofs.Common.{◌≡◌, ℕ, zero, suc, ◌+◌, ◌<◌, ◌≤◌, max, Bool, true, false, not, ◌&&◌, ℤ, List, [], ◌∷◌, length, map, position, Option, Some, None, Result, Ok, Err, slice_get, nat_le, nat_eq, ◌-◌, refl, arith, leb-true}
use Rattle.std.proofs.lemmas.List.Quantifiers.{position-Some}
use Rattle.point_types.specs.declared.il_type.IlType.{IlType}
use Rattle.point_types.specs.declared.il_type.IlType.TheVariants as il
use Rattle.point_types.specs.Value.{low_of, high_of, is_within, is_bool, code_of, ◌>>=◌}
use Rattle.scan_code.specs.Table.{input_kind, output_kind}
use Rattle.il_reader.specs.declared.tree.External.{External}
use Rattle.il_reader.specs.declared.tree.Operand.{Operand}
use Rattle.il_reader.specs.declared.tree.Operand.TheVariants.{Named, Truth, Number, Typed}
use Rattle.il_assemble.specs.declared.fault.AsmFaultKind.{AsmFaultKind}
use Rattle.il_assemble.specs.declared.fault.AsmFaultKind.TheVariants as kind
use Rattle.il_assemble.specs.declared.names.Known.{Known}
use Rattle.il_assemble.specs.declared.names.Known.TheVariants as known
use Rattle.il_assemble.specs.Correct.{Has, IsSource, IsStart, IsSimple, IsInner, IsPlace, depth_of, inner_depth}
use Rattle.il_assemble.specs.Names.{Scope, is_called, is_external, is_presence_of, known_first, known_as, is_loaded, is_stored, tags_of, tag_place}
use Rattle.il_assemble.specs.Typing.{is_literal_of, or_dint, type_beside, whole_type, loaded_inner_type, type_after, type_inside}
use Rattle.il_assemble.specs.StaticFault.{lowest, unless, load_fault, store_fault, operand_fault, first_fault, is_conversion, at_line, checked_simple, checked_inner}
use Rattle.il_assemble.specs.Elaboration.{source_known, source_of, place_known, first_source, resolved_simple, resolved_inner, is_nested_within, is_inner_within, declared_var, program_of}
use Rattle.il_assemble.specs.Written.{Written, Load, Apply, Defer, Limit, Select, Invert, Absolute, Convert, Inner, Close, Then}
use Rattle.point_types.proofs.Truths.{both}

-- Answers.

pub first_ok : {E : Type 0} (x y : Result (Unit {0}) E) → (x >>= λ _. y) ≡ Ok tt → (x ≡ Ok tt) × (y ≡ Ok tt)
first_ok (Ok u) y e = (refl, e)
first_ok (Err fault) y e = cc

pub at_line_ok : (line : ℕ) (k : Option AsmFaultKind) → at_line line k ≡ Ok tt → k ≡ None
at_line_ok line None e = refl
at_line_ok line (Some k) e = cc

pub unless_none : (b : Bool) (k : AsmFaultKind) → unless b k ≡ None → b ≡ true
unless_none true k e = refl
unless_none false k e = cc

pub lowest_none : (a b : Option AsmFaultKind) → lowest a b ≡ None → (a ≡ None) × (b ≡ None)
lowest_none None b e = (refl, e)
lowest_none (Some a) None e = cc
lowest_none (Some a) (Some b) e = cc

pub negated : (b : Bool) → not b ≡ true → b ≡ false
negated true h = cc
negated false h = refl

-- Places.

pub got_map : {A B : Type 0} (f : A → B) (xs : List A) (i : ℕ) → i < length xs → Has (slice_get (map f xs) i)
got_map f [] i h = absurd (omega arith)
got_map f (x ∷ xs) zero h = tt
got_map f (x ∷ xs) (suc i) h = got_map f xs i (omega arith)

pub found_within : {X : Type 0} (p : X → Bool) (xs : List X) (i : ℕ) → position p xs ≡ Some i → i < length xs
found_within p [] i e = cc
found_within p (x ∷ xs) i e = (position-Some p (x ∷ xs) i x e).0

-- what a known name stands for is there
abbrev pub IsThere : Scope → Option Known → Type 0
IsThere g None = Unit {0}
IsThere g (Some (known.Variable i)) = i < length g.variables
IsThere g (Some (known.External i)) = i < length g.externals
IsThere g (Some (known.Presence i)) = i < length g.externals

first_there : (g : Scope) (name : List ℕ) (o e p : Option ℕ) → position (is_called name) g.variables ≡ o → position (is_external name) g.externals ≡ e → position (is_presence_of name) g.externals ≡ p → IsThere g (known_first o e p)
first_there g name (Some i) e p a b c = found_within (is_called name) g.variables i a
first_there g name None (Some i) p a b c = found_within (is_external name) g.externals i b
first_there g name None None (Some i) a b c = found_within (is_presence_of name) g.externals i c
first_there g name None None None a b c = tt

pub known_there : (g : Scope) (name : List ℕ) → IsThere g (known_as g name)
known_there g name = first_there g name (position (is_called name) g.variables) (position (is_external name) g.externals) (position (is_presence_of name) g.externals) refl refl refl

-- the tag of a loaded external is an input, that of a stored one an output
loaded_tag : (es : List External) (us : List (Option Bool)) (i : ℕ) → i < length es → is_loaded (slice_get us i) ≡ true → Has (input_kind (slice_get (tags_of es us) (tag_place us i)))
loaded_tag [] us i h e = absurd (omega arith)
loaded_tag (x ∷ es) [] i h e = cc
loaded_tag (x ∷ es) (None ∷ us) zero h e = cc
loaded_tag (x ∷ es) (Some true ∷ us) zero h e = cc
loaded_tag (x ∷ es) (Some false ∷ us) zero h e = tt
loaded_tag (x ∷ es) (None ∷ us) (suc i) h e = loaded_tag es us i (omega arith) e
loaded_tag (x ∷ es) (Some stored ∷ us) (suc i) h e = loaded_tag es us i (omega arith) e

stored_tag : (es : List External) (us : List (Option Bool)) (i : ℕ) → i < length es → is_stored (slice_get us i) ≡ true → Has (output_kind (slice_get (tags_of es us) (tag_place us i)))
stored_tag [] us i h e = absurd (omega arith)
stored_tag (x ∷ es) [] i h e = cc
stored_tag (x ∷ es) (None ∷ us) zero h e = cc
stored_tag (x ∷ es) (Some true ∷ us) zero h e = tt
stored_tag (x ∷ es) (Some false ∷ us) zero h e = cc
stored_tag (x ∷ es) (None ∷ us) (suc i) h e = stored_tag es us i (omega arith) e
stored_tag (x ∷ es) (Some stored ∷ us) (suc i) h e = stored_tag es us i (omega arith) e

module _ (g : Scope) where
  load_well : (k : Option Known) → IsThere g k → load_fault g k ≡ None → IsSource (program_of g) (source_known g k)
  load_well None h e = cc
  load_well (Some (known.Variable i)) h e = got_map declared_var g.variables i h
  load_well (Some (known.External i)) h e = loaded_tag g.externals g.uses i h (unless_none (is_loaded (slice_get g.uses i)) kind.LoadAndStore e)
  load_well (Some (known.Presence i)) h e = loaded_tag g.externals g.uses i h (unless_none (is_loaded (slice_get g.uses i)) kind.LoadAndStore e)

  pub store_well : (k : Option Known) → IsThere g k → store_fault g k ≡ None → IsPlace (program_of g) (place_known g k)
  store_well None h e = cc
  store_well (Some (known.Variable i)) h e = got_map declared_var g.variables i h
  store_well (Some (known.External i)) h e = stored_tag g.externals g.uses i h (unless_none (is_stored (slice_get g.uses i)) kind.LoadAndStore e)
  store_well (Some (known.Presence i)) h e = cc

  typed_well : (of : IlType) (n : ℤ) → unless (is_literal_of of n) kind.LiteralType ≡ None → is_within (low_of of) (high_of of) n ≡ true
  typed_well of n e = (both (not (is_bool of)) (is_within (low_of of) (high_of of) n) (unless_none (is_literal_of of n) kind.LiteralType e)).1

  operand_well : (wanted : IlType) (operand : Operand) → operand_fault g wanted operand ≡ None → IsSource (program_of g) (source_of g wanted operand)
  operand_well wanted (Named name) e = load_well (known_as g name) (known_there g name) e
  operand_well wanted (Truth true) e = refl
  operand_well wanted (Truth false) e = refl
  operand_well wanted (Number n) e = typed_well wanted n e
  operand_well wanted (Typed of n) e = typed_well of n e

  first_well : (wanted : IlType) (first : Option Operand) → first_fault g wanted first ≡ None → IsStart (program_of g) (first_source g wanted first)
  first_well wanted None e = tt
  first_well wanted (Some operand) e = operand_well wanted operand e

  conversion_well : (from to : IlType) → is_conversion from to ≡ true → (is_bool from ≡ false) × (is_bool to ≡ false) × (nat_eq (code_of from) (code_of to) ≡ false)
  conversion_well from to e =
      let a = both (not (is_bool from) && not (is_bool to)) (not (nat_eq (code_of from) (code_of to))) e in
      let b = both (not (is_bool from)) (not (is_bool to)) a.0 in
      (negated (is_bool from) b.0, negated (is_bool to) b.1, negated (nat_eq (code_of from) (code_of to)) a.1)

  mutual
    pub simple_well : (line : ℕ) (running : Option IlType) (loaded : IlType) (w : Written) → checked_simple g line running loaded w ≡ Ok tt → IsSimple (program_of g) (resolved_simple g running loaded w)
    simple_well line running loaded (Load n x) e = operand_well loaded x (at_line_ok line (operand_fault g loaded x) e)
    simple_well line running loaded (Apply o n x) e = operand_well (or_dint running) x (at_line_ok line (operand_fault g (or_dint running) x) e)
    simple_well line running loaded (Defer o n first inner) e =
        let a = first_ok (at_line line (first_fault g (or_dint running) first)) (checked_inner g (type_inside g running first) (whole_type running) inner) e in
        (first_well (or_dint running) first (at_line_ok line (first_fault g (or_dint running) first) a.0), inner_well (type_inside g running first) (whole_type running) inner a.1)
    simple_well line running loaded (Limit a b) e =
        let f = lowest_none (operand_fault g (or_dint running) a) (operand_fault g (or_dint running) b) (at_line_ok line (lowest (operand_fault g (or_dint running) a) (operand_fault g (or_dint running) b)) e) in
        (operand_well (or_dint running) a f.0, operand_well (or_dint running) b f.1)
    simple_well line running loaded (Select a b) e =
        let f = lowest_none (operand_fault g (type_beside g b) a) (operand_fault g (type_beside g a) b) (at_line_ok line (lowest (operand_fault g (type_beside g b) a) (operand_fault g (type_beside g a) b)) e) in
        (operand_well (type_beside g b) a f.0, operand_well (type_beside g a) b f.1)
    simple_well line running loaded Invert e = tt
    simple_well line running loaded Absolute e = tt
    simple_well line running loaded (Convert from to) e = conversion_well from to (unless_none (is_conversion from to) kind.UnknownName (at_line_ok line (unless (is_conversion from to) kind.UnknownName) e))

    inner_well : (running : Option IlType) (else_type : IlType) (inner : Inner) → checked_inner g running else_type inner ≡ Ok tt → IsInner (program_of g) (resolved_inner g running else_type inner)
    inner_well running else_type Close e = tt
    inner_well running else_type (Then line head tail) e =
        let loaded = loaded_inner_type g else_type tail in
        let a = first_ok (checked_simple g line running loaded head) (checked_inner g (type_after g running loaded head) il.Dint tail) e in
        (simple_well line running loaded head a.0, inner_well (type_after g running loaded head) il.Dint tail a.1)

  -- how many values are deferred
  max_within : (a b c : ℕ) → a ≤ c → b ≤ c → max a b ≤ c
  max_within a b c h k = omega (arith, h, k)

  mutual
    pub simple_depth : (running : Option IlType) (loaded : IlType) (w : Written) (room : ℕ) → is_nested_within room w ≡ true → depth_of (resolved_simple g running loaded w) ≤ room + 2
    simple_depth running loaded (Load n x) room e = omega arith
    simple_depth running loaded (Apply o n x) room e = omega arith
    simple_depth running loaded (Defer o n first inner) room e =
        let a = both (nat_le 1 room) (is_inner_within (room - 1) inner) e in
        omega (arith, leb-true 1 room a.0, inner_within (type_inside g running first) (whole_type running) inner (room - 1) a.1)
    simple_depth running loaded (Limit x y) room e = omega arith
    simple_depth running loaded (Select x y) room e = omega arith
    simple_depth running loaded Invert room e = omega arith
    simple_depth running loaded Absolute room e = omega arith
    simple_depth running loaded (Convert from to) room e = omega arith

    inner_within : (running : Option IlType) (else_type : IlType) (inner : Inner) (room : ℕ) → is_inner_within room inner ≡ true → inner_depth (resolved_inner g running else_type inner) ≤ room + 2
    inner_within running else_type Close room e = omega arith
    inner_within running else_type (Then line head tail) room e =
        let loaded = loaded_inner_type g else_type tail in
        let a = both (is_nested_within room head) (is_inner_within room tail) e in
        max_within (depth_of (resolved_simple g running loaded head)) (inner_depth (resolved_inner g (type_after g running loaded head) il.Dint tail)) (room + 2)
        (simple_depth running loaded head room a.0) (inner_within (type_after g running loaded head) il.Dint tail room a.1)
