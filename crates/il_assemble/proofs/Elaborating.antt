-- What elaborates is well formed, and its image is the one that the two passes make.
use Rattle.std.proofs.Common.{◌≡◌, ◌⊎◌, inl, inr, ⊎_elim, ℕ, zero, suc, ◌+◌, ◌<◌, ◌≤◌, Bool, true, false, ◌&&◌, ◌||◌, if◌then◌else◌, ℤ, pos, negsuc, List, [], ◌∷◌, ◌++◌, length, position, Option, Some, None, option_map, option_and_then, Result, Ok, Err, slice_get, nat_le, nat_eq, int_le, IsTrue, refl, sym, ap, ◌∙◌, subst, arith, leb-true, le-leb, true≢false, All, get_or, unwrap_or, length-append}
use Rattle.std.proofs.lemmas.List.{length-map}
use Rattle.std.proofs.lemmas.List.Quantifiers.{position-Some}
use Rattle.std.proofs.lemmas.Bool.{ne_eqb}
use Rattle.std.proofs.lemmas.Bool.Decides.{eqb_tells}
use Rattle.point_types.specs.declared.il_type.IlType.{IlType}
use Rattle.point_types.specs.declared.variable.Var.{Var}
use Rattle.point_types.specs.Value.{low_of, high_of, is_within, ◌>>=◌}
use Rattle.scan_code.specs.Image.{Image}
use Rattle.scan_code.specs.declared.op.Op.TheVariants as does
use Rattle.il_reader.specs.declared.tree.Program.{Program as Tree}
use Rattle.il_reader.specs.declared.tree.Variable.{Variable}
use Rattle.il_reader.specs.declared.tree.External.{External}
use Rattle.il_reader.specs.declared.tree.Statement.{Statement}
use Rattle.il_reader.specs.declared.tree.Action.{Action}
use Rattle.il_reader.specs.declared.tree.Action.TheVariants as action
use Rattle.il_assemble.specs.declared.fault.AsmFault.{AsmFault}
use Rattle.il_assemble.specs.declared.fault.AsmFaultKind.TheVariants as kind
use Rattle.il_assemble.specs.Meaning.{Program, Line, has_label}
use Rattle.il_assemble.specs.Meaning as resolved
use Rattle.il_assemble.specs.Code.{action_code, lines_code, past, label_address, code_of_program, image_of}
use Rattle.il_assemble.specs.Correct.{Has, IsAction, AreLines, IsDeclared, IsWell, DoesWhatItMeans, stands}
use Rattle.il_reader.specs.Limit.{most_names}
use Rattle.il_assemble.specs.Limit.{most_counted, most_code}
use Rattle.il_assemble.specs.Names.{Scope, known_as, tags_of}
use Rattle.il_assemble.specs.Typing.{loaded_type, type_after_line}
use Rattle.il_assemble.specs.StaticFault.{unless, store_fault, is_count, is_labelled, is_labelled_so, label_place, jump_fault, checked_line, checked_lines}
use Rattle.il_assemble.specs.Elaboration.{target, resolved_action, label_of, resolved_line, turns_of, limits_of, resolved_lines, too_long, unless_variable, unless_external, is_action_within, nested, counted, behind, measured, passing_line, undivided, declared_var, names_seen, named_apart, scope_of, program_of, elaborated}
use Rattle.il_assemble.specs.Kept.{address_in, addresses_of}
use Rattle.il_assemble.specs.Assembled.{IsAssembled, StartsAreInRange, WhatElaboratesIsWell}
use Rattle.il_assemble.proofs.Leads.{past_append}
use Rattle.il_assemble.proofs.Bytes.{code_is_of_bytes, long_as_past}
use Rattle.il_assemble.proofs.Lines.{same_size, code_does_what_the_program_means, each_end_is_the_meaning}
use Rattle.il_assemble.proofs.Sound.{first_ok, at_line_ok, unless_none, lowest_none, known_there, store_well, simple_well, simple_depth}
use Rattle.point_types.proofs.Truths.{both}

-- Labels.

-- a line that has a label
abbrev HasLabel : Option Statement → Type 0
HasLabel o = Has (option_and_then (λ (s : Statement). s.label) o)

labelled : (name : List ℕ) (ss : List Statement) (j : ℕ) → position (is_labelled name) ss ≡ Some j → HasLabel (slice_get ss j)
labelled name [] j e = cc
labelled name (s ∷ ss) j e =
    let h = position-Some (is_labelled name) (s ∷ ss) j s e in
    at (s ∷ ss) j s h.0 h.1
  where
    some : (o : Option (List ℕ)) → is_labelled_so name o ≡ true → Has o
    some None h = cc
    some (Some label) h = tt

    at : (xs : List Statement) (k : ℕ) (d : Statement) → k < length xs → is_labelled name (get_or xs k d) ≡ true → HasLabel (slice_get xs k)
    at [] k d h t = absurd (omega arith)
    at (x ∷ xs) zero d h t = some x.label t
    at (x ∷ xs) (suc k) d h t = at xs k d (omega arith) t

same_number : (a : ℕ) → nat_eq a a ≡ true
same_number a = ⊎_elim (λ h. h.0) (λ h. absurd (h.1 refl)) (eqb_tells a a)

other_number : (a b : ℕ) → a < b → nat_eq a b ≡ false
other_number a b h = ne_eqb a b (λ e. omega (arith, e, h))

not_later : (place j : ℕ) (o : Option (List ℕ)) → place < j → has_label (label_of place o) j ≡ false
not_later place j None h = refl
not_later place j (Some name) h = other_number place j h

here_labelled : (place : ℕ) (o : Option (List ℕ)) → Has o → has_label (label_of place o) place ≡ true
here_labelled place None h = absurd h
here_labelled place (Some name) h = same_number place

-- the lines before a place: no label of it or after it stands there, and each before it does
record IsBefore (g : Scope) (place : ℕ) (earlier : List Line) : Type 0 where
  later : (j : ℕ) → place ≤ j → stands j earlier ≡ false
  each : (j : ℕ) → j < place → HasLabel (slice_get g.statements j) → stands j earlier ≡ true

or_false : (a b : Bool) → a ≡ false → b ≡ false → (a || b) ≡ false
or_false a b h k = ap (λ x. x || b) h ∙ k

or_left : (a b : Bool) → a ≡ true → (a || b) ≡ true
or_left a b h = ap (λ x. x || b) h

or_right : (a b : Bool) → b ≡ true → (a || b) ≡ true
or_right true b h = refl
or_right false b h = h

module _ (g : Scope) where
  -- a line is added
  longer : (place : ℕ) (earlier : List Line) (line : Line) (s : Statement) → line.label ≡ label_of place s.label → slice_get g.statements place ≡ Some s → IsBefore g place earlier → IsBefore g (place + 1) (line ∷ earlier)
  longer place earlier line s e at before = record {
    later = λ j h. or_false (has_label line.label j) (stands j earlier) (ap (λ l. has_label l j) e ∙ not_later place j s.label (omega (arith, h))) (before.later j (omega (arith, h)));
    each = λ j h t. either j (le-cases j h) t;
  }
    where
      le-cases : (j : ℕ) → j < place + 1 → (j < place) ⊎ (j ≡ place)
      le-cases j h = ⊎_elim (λ k. inl k) (λ k. inr (omega (arith, h, k))) (below j place)
        where
          below : (a b : ℕ) → (a < b) ⊎ (b ≤ a)
          below a zero = inr (omega arith)
          below zero (suc b) = inl (omega arith)
          below (suc a) (suc b) = ⊎_elim (λ k. inl (omega (arith, k))) (λ k. inr (omega (arith, k))) (below a b)

      now : (j : ℕ) → j ≡ place → HasLabel (slice_get g.statements j) → has_label line.label j ≡ true
      now j q t =
          let u : HasLabel (slice_get g.statements place) = subst (λ (k : ℕ). HasLabel (slice_get g.statements k)) q t in
          let v : Has s.label = subst HasLabel at u in
          ap (λ l. has_label l j) e ∙ ap (λ k. has_label (label_of place s.label) k) q ∙ here_labelled place s.label v

      either : (j : ℕ) → (j < place) ⊎ (j ≡ place) → HasLabel (slice_get g.statements j) → stands j (line ∷ earlier) ≡ true
      either j (inl h) t = or_right (has_label line.label j) (stands j earlier) (before.each j h t)
      either j (inr q) t = or_left (has_label line.label j) (stands j earlier) (now j q t)

  -- Jumps.

  targeted : (label : List ℕ) (j : ℕ) → label_place g label ≡ Some j → (target g label ≡ j) × HasLabel (slice_get g.statements j)
  targeted label j e = (ap (λ o. unwrap_or o 0) e, labelled label g.statements j e)

  jump_well : (place : ℕ) (earlier : List Line) → IsBefore g (place + 1) earlier → (label : List ℕ) (o : Option ℕ) → label_place g label ≡ o → jump_fault place None o ≡ None → stands (target g label) earlier ≡ false
  jump_well place earlier before label None e f = cc
  jump_well place earlier before label (Some j) e f =
      let t = targeted label j e in
      let h = leb-true (place + 1) j (unless_none (nat_le (place + 1) j) kind.BackwardJump f) in
      ap (λ k. stands k earlier) t.0 ∙ before.later j h

  repeat_well : (place : ℕ) (earlier : List Line) → IsBefore g (place + 1) earlier → (label : List ℕ) (turns : ℕ) (o : Option ℕ) → label_place g label ≡ o → jump_fault place (Some turns) o ≡ None → (stands (target g label) earlier ≡ true) × (is_count turns ≡ true)
  repeat_well place earlier before label turns None e f = cc
  repeat_well place earlier before label turns (Some j) e f =
      let t = targeted label j e in
      let n = lowest_none (unless (is_count turns) kind.LiteralType) (unless (nat_le j place) kind.ForwardLoop) f in
      let h = leb-true j place (unless_none (nat_le j place) kind.ForwardLoop n.1) in
      (ap (λ k. stands k earlier) t.0 ∙ before.each j (omega (arith, h)) t.1, unless_none (is_count turns) kind.LiteralType n.0)

  -- Lines.

  count_within : (turns : ℕ) → is_count turns ≡ true → (0 < turns) × (turns < 256)
  count_within turns e =
      let b = both (nat_le 1 turns) (nat_le turns 255) e in
      (omega (arith, leb-true 1 turns b.0), omega (arith, leb-true turns 255 b.1))

  abbrev limits : List ℕ
  limits = limits_of g.statements

  line_well : (place counter : ℕ) (running : Option IlType) (rest : List Statement) (line : ℕ) (earlier : List Line) (a : Option Action)
      → IsBefore g (place + 1) earlier → ((k : ℕ) → slice_get limits (counter + k) ≡ slice_get (turns_of a ++ limits_of rest) k)
      → is_action_within a ≡ true → checked_line g place running rest line a ≡ Ok tt
      → IsAction (program_of g) earlier (option_map (resolved_action g counter running rest) a)
  line_well place counter running rest line earlier None before counts shallow e = tt
  line_well place counter running rest line earlier (Some (action.Compute s)) before counts shallow e =
      let loaded = loaded_type g rest in
      (simple_well g line running loaded s e, omega (arith, simple_depth g running loaded s 100 shallow))
  line_well place counter running rest line earlier (Some (action.Store n name)) before counts shallow e =
      store_well g (known_as g name) (known_there g name) (at_line_ok line (store_fault g (known_as g name)) e)
  line_well place counter running rest line earlier (Some (action.Set v name)) before counts shallow e =
      store_well g (known_as g name) (known_there g name) (at_line_ok line (store_fault g (known_as g name)) e)
  line_well place counter running rest line earlier (Some (action.Jump c label None)) before counts shallow e =
      jump_well place earlier before label (label_place g label) refl (at_line_ok line (jump_fault place None (label_place g label)) e)
  line_well place counter running rest line earlier (Some (action.Jump c label (Some turns))) before counts shallow e =
      let r = repeat_well place earlier before label turns (label_place g label) refl (at_line_ok line (jump_fault place (Some turns) (label_place g label)) e) in
      let n = count_within turns r.1 in
      let same : counter + 0 ≡ counter = omega arith in
      (r.0, record { listed = ap (λ k. slice_get limits k) (sym same) ∙ counts 0; some = n.0; few = n.1 })
  line_well place counter running rest line earlier (Some (action.Return c)) before counts shallow e = tt

  later_count : (xs ys : List ℕ) (k n : ℕ) → n ≡ length xs + k → slice_get (xs ++ ys) n ≡ slice_get ys k
  later_count [] ys k n e = let q : n ≡ k = omega (arith, e) in ap (λ m. slice_get ys m) q
  later_count (x ∷ xs) ys k zero e = absurd (omega (arith, e))
  later_count (x ∷ xs) ys k (suc n) e = later_count xs ys k n (omega (arith, e))

  if_ok : (b : Bool) (x : Result (Unit {0}) AsmFault) (f : AsmFault) → (if b then x else Err f) ≡ Ok tt → (b ≡ true) × (x ≡ Ok tt)
  if_ok true x f e = (refl, e)
  if_ok false x f e = cc

  lines_well : (place counter : ℕ) (running : Option IlType) (ss : List Statement) (earlier : List Line)
      → IsBefore g place earlier → ((k : ℕ) → slice_get g.statements (place + k) ≡ slice_get ss k) → ((k : ℕ) → slice_get limits (counter + k) ≡ slice_get (limits_of ss) k)
      → nested ss ≡ Ok tt → checked_lines g place running ss ≡ Ok tt
      → AreLines (program_of g) earlier (resolved_lines g place counter running ss)
  lines_well place counter running [] earlier before here counts shallow e = tt
  lines_well place counter running (s ∷ ss) earlier before here counts shallow e =
      let after = type_after_line g running ss s.action in
      let next = counter + length (turns_of s.action) in
      let line = resolved_line g place counter running ss s in
      let d = if_ok (is_action_within s.action) (nested ss) (too_long s.line) shallow in
      let c = first_ok (checked_line g place running ss s.line s.action) (checked_lines g (place + 1) after ss) e in
      let zero_more : place + 0 ≡ place = omega arith in
      let at : slice_get g.statements place ≡ Some s = ap (λ k. slice_get g.statements k) (sym zero_more) ∙ here 0 in
      let now = longer place earlier line s refl at before in
      let here_next : (k : ℕ) → slice_get g.statements ((place + 1) + k) ≡ slice_get ss k = λ k. (let q : (place + 1) + k ≡ place + suc k = omega arith in ap (λ n. slice_get g.statements n) q ∙ here (suc k)) in
      let counts_next : (k : ℕ) → slice_get limits (next + k) ≡ slice_get (limits_of ss) k = λ k. (let q : next + k ≡ counter + (length (turns_of s.action) + k) = omega arith in ap (λ n. slice_get limits n) q ∙ counts (length (turns_of s.action) + k) ∙ later_count (turns_of s.action) (limits_of ss) k (length (turns_of s.action) + k) refl) in (
        line_well place counter running ss s.line (line ∷ earlier) s.action now counts d.0 c.0,
        lines_well (place + 1) next after ss (line ∷ earlier) now here_next counts_next d.1 c.1,
      )

  -- Sizes.

  -- the address after a line's code, wherever labels stand
  behind_is : (address : ℕ → ℕ) (a : ℕ) (act : Option resolved.Action) → past a (action_code address act) ≡ behind a act
  behind_is address a act = same_size address act a ∙ sym (long_as_past (action_code (λ label. 0) act) a)

  measured_ok : (end_line a place counter : ℕ) (running : Option IlType) (ss : List Statement) (address : ℕ → ℕ) → counter ≤ 256 → measured g end_line a counter running ss ≡ Ok tt
      → (past a (lines_code address (resolved_lines g place counter running ss)) ≤ 65535) × (counter + length (limits_of ss) ≤ 256)
  measured_ok end_line a place counter running [] address few e =
      let h = leb-true (a + 1) most_code (if_ok (nat_le (a + 1) most_code) (Ok tt) (too_long end_line) e).0 in
      (omega (arith, h), omega (arith, few))
  measured_ok end_line a place counter running (s ∷ ss) address few e =
      let act = option_map (resolved_action g counter running ss) s.action in
      let next = counter + length (turns_of s.action) in
      let after = type_after_line g running ss s.action in
      let b = behind a act in
      let x = if_ok (nat_le next most_counted && nat_le b most_code) (measured g end_line b next after ss) (too_long (passing_line g a running ss s.line s.action)) e in
      let y = both (nat_le next most_counted) (nat_le b most_code) x.0 in
      let r = measured_ok end_line b (place + 1) next after ss address (leb-true next most_counted y.0) x.1 in
      let rest = lines_code address (resolved_lines g (place + 1) next after ss) in
      let q : past a (action_code address act ++ rest) ≡ past b rest = past_append a (action_code address act) rest ∙ ap (λ n. past n rest) (behind_is address a act) in
      (omega (arith, q, r.0), omega (arith, r.1, length-append (turns_of s.action) (limits_of ss)))

  -- Addresses.

  address_found : (a place counter : ℕ) (running : Option IlType) (ss : List Statement) (k : ℕ) → HasLabel (slice_get ss k)
      → label_address (resolved_lines g place counter running ss) a (place + k) ≡ address_in (addresses_of g a counter running ss) k
  address_found a place counter running [] k h = absurd h
  address_found a place counter running (s ∷ ss) zero h =
      let q : place + 0 ≡ place = omega arith in
      let next = label_address (resolved_lines g (place + 1) (counter + length (turns_of s.action)) (type_after_line g running ss s.action) ss) (past a (action_code (λ l. 0) (option_map (resolved_action g counter running ss) s.action))) in
      ap (λ n. if has_label (label_of place s.label) n then a else next n) q ∙ ap (λ b. if b then a else next place) (here_labelled place s.label h)
  address_found a place counter running (s ∷ ss) (suc k) h =
      let act = option_map (resolved_action g counter running ss) s.action in
      let next = counter + length (turns_of s.action) in
      let after = type_after_line g running ss s.action in
      let lines = resolved_lines g (place + 1) next after ss in
      let q : place + suc k ≡ (place + 1) + k = omega arith in
      ap (λ b. if b then a else label_address lines (past a (action_code (λ l. 0) act)) (place + suc k)) (not_later place (place + suc k) s.label (omega arith))
      ∙ ap (λ n. label_address lines (past a (action_code (λ l. 0) act)) n) q
      ∙ ap (λ n. label_address lines n ((place + 1) + k)) (behind_is (λ l. 0) a act)
      ∙ address_found (behind a act) (place + 1) next after ss k h

  -- the code of a line, where addresses are alike at each label
  line_same : (A B : ℕ → ℕ) → ((j : ℕ) → HasLabel (slice_get g.statements j) → A j ≡ B j) → (place counter : ℕ) (running : Option IlType) (rest : List Statement) (line : ℕ) (a : Option Action) → checked_line g place running rest line a ≡ Ok tt
      → action_code A (option_map (resolved_action g counter running rest) a) ≡ action_code B (option_map (resolved_action g counter running rest) a)
  line_same A B same place counter running rest line None e = refl
  line_same A B same place counter running rest line (Some (action.Compute s)) e = refl
  line_same A B same place counter running rest line (Some (action.Store n name)) e = refl
  line_same A B same place counter running rest line (Some (action.Set v name)) e = refl
  line_same A B same place counter running rest line (Some (action.Jump c label None)) e =
      ap (λ n. does.Jump c n ∷ []) (at_label label (label_place g label) refl (at_line_ok line (jump_fault place None (label_place g label)) e))
    where
      at_label : (label : List ℕ) (o : Option ℕ) → label_place g label ≡ o → jump_fault place None o ≡ None → A (target g label) ≡ B (target g label)
      at_label label None q f = cc
      at_label label (Some j) q f = let t = targeted label j q in ap A t.0 ∙ same j t.1 ∙ sym (ap B t.0)
  line_same A B same place counter running rest line (Some (action.Jump c label (Some turns))) e =
      ap (λ n. does.Repeat c counter turns n ∷ []) (at_label label (label_place g label) refl (at_line_ok line (jump_fault place (Some turns) (label_place g label)) e))
    where
      at_label : (label : List ℕ) (o : Option ℕ) → label_place g label ≡ o → jump_fault place (Some turns) o ≡ None → A (target g label) ≡ B (target g label)
      at_label label None q f = cc
      at_label label (Some j) q f = let t = targeted label j q in ap A t.0 ∙ same j t.1 ∙ sym (ap B t.0)
  line_same A B same place counter running rest line (Some (action.Return c)) e = refl

  lines_same : (A B : ℕ → ℕ) → ((j : ℕ) → HasLabel (slice_get g.statements j) → A j ≡ B j) → (place counter : ℕ) (running : Option IlType) (ss : List Statement) → checked_lines g place running ss ≡ Ok tt
      → lines_code A (resolved_lines g place counter running ss) ≡ lines_code B (resolved_lines g place counter running ss)
  lines_same A B same place counter running [] e = refl
  lines_same A B same place counter running (s ∷ ss) e =
      let after = type_after_line g running ss s.action in
      let next = counter + length (turns_of s.action) in
      let act = option_map (resolved_action g counter running ss) s.action in
      let c = first_ok (checked_line g place running ss s.line s.action) (checked_lines g (place + 1) after ss) e in
      ap (λ front. front ++ lines_code A (resolved_lines g (place + 1) next after ss)) (line_same A B same place counter running ss s.line s.action c.0)
      ∙ ap (λ back. action_code B act ++ back) (lines_same A B same (place + 1) next after ss c.1)

  pub code_same : checked_lines g 0 None g.statements ≡ Ok tt → lines_code (address_in (addresses_of g 0 0 None g.statements)) (resolved_lines g 0 0 None g.statements) ≡ code_of_program (program_of g)
  code_same e = lines_same (address_in (addresses_of g 0 0 None g.statements)) (label_address (resolved_lines g 0 0 None g.statements) 0) (λ j h. sym (address_found 0 0 0 None g.statements j h) ∙ (let q : 0 + j ≡ j = omega arith in ap (label_address (resolved_lines g 0 0 None g.statements) 0) q)) 0 0 None g.statements e

-- Declared ranges.

both_true : (a b : Bool) → IsTrue a → IsTrue b → (a && b) ≡ true
both_true true b h k = k
both_true false b h k = absurd (true≢false (sym h))

int_le-trans : (a b c : ℤ) → IsTrue (int_le a b) → IsTrue (int_le b c) → IsTrue (int_le a c)
int_le-trans (pos a) (pos b) (pos c) h k = let x = leb-true a b h in let y = leb-true b c k in le-leb a c (omega arith)
int_le-trans (pos a) (pos b) (negsuc c) h k = absurd (true≢false (sym k))
int_le-trans (pos a) (negsuc b) c h k = absurd (true≢false (sym h))
int_le-trans (negsuc a) b (pos c) h k = refl
int_le-trans (negsuc a) (pos b) (negsuc c) h k = absurd (true≢false (sym k))
int_le-trans (negsuc a) (negsuc b) (negsuc c) h k = let x = leb-true b a h in let y = leb-true c b k in le-leb c a (omega arith)

-- low and high lie within the type, and the start value within low and high
record Ranged (v : Var) : Type 0 where
  low : IsTrue (int_le (low_of v.kind) v.low)
  start_low : IsTrue (int_le v.low v.start)
  start_high : IsTrue (int_le v.start v.high)
  high : IsTrue (int_le v.high (high_of v.kind))

ranged : (v : Var) → Ranged v
ranged v =
    let a = both (int_le (low_of v.kind) v.low && is_within v.low v.high v.start) (int_le v.high (high_of v.kind)) v.ranged in
    let b = both (int_le (low_of v.kind) v.low) (is_within v.low v.high v.start) a.0 in
    let c = both (int_le v.low v.start) (int_le v.start v.high) b.1 in
    record { low = b.0; start_low = c.0; start_high = c.1; high = a.1 }

declared : (v : Var) → IsDeclared v
declared v =
    let r = ranged v in
    let across = int_le-trans v.low v.start v.high r.start_low r.start_high in
    record {
      low = both_true _ _ r.low (int_le-trans v.low v.high (high_of v.kind) across r.high);
      high = both_true _ _ (int_le-trans (low_of v.kind) v.low v.high r.low across) r.high;
    }

pub starts_are_in_range : StartsAreInRange
starts_are_in_range [] = tt
starts_are_in_range (v ∷ vs) = let r = ranged v in (both_true _ _ r.start_low r.start_high, starts_are_in_range vs)

all_declared : (ds : List Var) → All IsDeclared ds
all_declared [] k d l = absurd (omega arith)
all_declared (v ∷ vs) zero d l = declared v
all_declared (v ∷ vs) (suc k) d l = all_declared vs k d (omega arith)

-- The whole program.

none_past : {A : Type 0} (xs : List A) (k : ℕ) → slice_get xs k ≡ None → length xs ≤ k
none_past [] k e = omega arith
none_past (x ∷ xs) zero e = cc
none_past (x ∷ xs) (suc k) e = omega (arith, none_past xs k e)

no_variable : (o : Option Variable) → unless_variable o ≡ Ok tt → o ≡ None
no_variable None e = refl
no_variable (Some v) e = cc

no_external : (o : Option External) → unless_external o ≡ Ok tt → o ≡ None
no_external None e = refl
no_external (Some v) e = cc

pub few_variables : (vs : List Variable) → unless_variable (slice_get vs most_names) ≡ Ok tt → length vs ≤ 1024
few_variables vs e = none_past vs 1024 (no_variable (slice_get vs most_names) e)

pub few_externals : (es : List External) → unless_external (slice_get es most_names) ≡ Ok tt → length es ≤ 1024
few_externals es e = none_past es 1024 (no_external (slice_get es most_names) e)

pub fewer_tags : (es : List External) (us : List (Option Bool)) → length (tags_of es us) ≤ length es
fewer_tags [] us = omega arith
fewer_tags (e ∷ es) [] = omega arith
fewer_tags (e ∷ es) (None ∷ us) = omega (arith, fewer_tags es us)
fewer_tags (e ∷ es) (Some stored ∷ us) = omega (arith, fewer_tags es us)

-- the parts of an elaboration
pub record IsElaborated (t : Tree) : Type 0 where
  pub variables : unless_variable (slice_get t.variables most_names) ≡ Ok tt
  pub externals : unless_external (slice_get t.externals most_names) ≡ Ok tt
  pub shallow : nested t.statements ≡ Ok tt
  pub whole : undivided t.variables ≡ Ok tt
  pub apart : named_apart t.variables t.externals (names_seen (scope_of t)) ≡ Ok tt
  pub checked : checked_lines (scope_of t) 0 None t.statements ≡ Ok tt
  pub short : measured (scope_of t) t.end_line 0 0 None t.statements ≡ Ok tt

bind_ok : {A B E : Type 0} (x : Result A E) (f : A → Result B E) (b : B) → (x >>= f) ≡ Ok b → (a : A) × (x ≡ Ok a) × (f a ≡ Ok b)
bind_ok (Ok a) f b e = (a, refl, e)
bind_ok (Err fault) f b e = cc

pub parts : (t : Tree) (p : Program) → elaborated t ≡ Ok p → IsElaborated t × (program_of (scope_of t) ≡ p)
parts t p e =
    let g = scope_of t in
    let apart = named_apart t.variables t.externals (names_seen g) in
    let a = bind_ok (counted t.variables t.externals t.statements) (λ _. undivided t.variables >>= λ _. apart >>= λ _. checked_lines g 0 None t.statements >>= λ _. measured g t.end_line 0 0 None t.statements >>= λ _. Ok (program_of g)) p e in
    let u = bind_ok (undivided t.variables) (λ _. apart >>= λ _. checked_lines g 0 None t.statements >>= λ _. measured g t.end_line 0 0 None t.statements >>= λ _. Ok (program_of g)) p a.2 in
    let n = bind_ok apart (λ _. checked_lines g 0 None t.statements >>= λ _. measured g t.end_line 0 0 None t.statements >>= λ _. Ok (program_of g)) p u.2 in
    let b = bind_ok (checked_lines g 0 None t.statements) (λ _. measured g t.end_line 0 0 None t.statements >>= λ _. Ok (program_of g)) p n.2 in
    let c = bind_ok (measured g t.end_line 0 0 None t.statements) (λ _. Ok (program_of g)) p b.2 in
    let d = first_ok (unless_variable (slice_get t.variables most_names)) (unless_external (slice_get t.externals most_names) >>= λ _. nested t.statements) a.1 in
    let f = first_ok (unless_external (slice_get t.externals most_names)) (nested t.statements) d.1 in
    (record { variables = d.0; externals = f.0; shallow = f.1; whole = u.1; apart = n.1; checked = b.1; short = c.1 }, cc)

from_start : {A : Type 0} (xs : List A) (k : ℕ) → slice_get xs (0 + k) ≡ slice_get xs k
from_start xs k = let q : 0 + k ≡ k = omega arith in ap (λ n. slice_get xs n) q

pub well : (t : Tree) → IsElaborated t → IsWell (program_of (scope_of t))
well t x =
    let g = scope_of t in
    let p = program_of g in
    let m = measured_ok g t.end_line 0 0 0 None t.statements (label_address p.body 0) (omega arith) x.short in
    let nothing : IsBefore g 0 [] = record { later = λ j h. refl; each = λ j h k. absurd (omega (arith, h)) } in
    record {
      declared = all_declared p.variables;
      lines = lines_well g 0 0 None t.statements [] nothing (λ k. from_start t.statements k) (λ k. from_start (limits_of t.statements) k) x.shallow x.checked;
      few_variables = omega (arith, length-map t.variables declared_var, few_variables t.variables x.variables);
      few_tags = omega (arith, fewer_tags t.externals g.uses, few_externals t.externals x.externals);
      few_limits = omega (arith, m.1);
      short = omega (arith, m.0);
    }

pub what_elaborates_is_well : WhatElaboratesIsWell
what_elaborates_is_well t p e = let x = parts t p e in subst IsWell x.1 (well t x.0)

-- the image of a well-formed program does what it means
does_what_it_means : (p : Program) → IsWell p → DoesWhatItMeans p (image_of p)
does_what_it_means p well = record {
  variables = refl;
  tags = refl;
  ends = λ readings variables reads ranges. code_does_what_the_program_means p readings variables well reads ranges;
  each_end = λ readings variables reads ranges. each_end_is_the_meaning p readings variables well reads ranges;
}

elaborates : (t : Tree) → IsElaborated t → elaborated t ≡ Ok (program_of (scope_of t))
elaborates t x =
    let g = scope_of t in
    let apart = named_apart t.variables t.externals (names_seen g) in
    ap (λ r. (r >>= λ _. unless_external (slice_get t.externals most_names) >>= λ _. nested t.statements) >>= λ _. undivided t.variables >>= λ _. apart >>= λ _. checked_lines g 0 None t.statements >>= λ _. measured g t.end_line 0 0 None t.statements >>= λ _. Ok (program_of g)) x.variables
    ∙ ap (λ r. (r >>= λ _. nested t.statements) >>= λ _. undivided t.variables >>= λ _. apart >>= λ _. checked_lines g 0 None t.statements >>= λ _. measured g t.end_line 0 0 None t.statements >>= λ _. Ok (program_of g)) x.externals
    ∙ ap (λ r. r >>= λ _. undivided t.variables >>= λ _. apart >>= λ _. checked_lines g 0 None t.statements >>= λ _. measured g t.end_line 0 0 None t.statements >>= λ _. Ok (program_of g)) x.shallow
    ∙ ap (λ r. r >>= λ _. apart >>= λ _. checked_lines g 0 None t.statements >>= λ _. measured g t.end_line 0 0 None t.statements >>= λ _. Ok (program_of g)) x.whole
    ∙ ap (λ r. r >>= λ _. checked_lines g 0 None t.statements >>= λ _. measured g t.end_line 0 0 None t.statements >>= λ _. Ok (program_of g)) x.apart
    ∙ ap (λ r. r >>= λ _. measured g t.end_line 0 0 None t.statements >>= λ _. Ok (program_of g)) x.checked
    ∙ ap (λ r. r >>= λ _. Ok (program_of g)) x.short

-- what the passes make is the image
pub passes_assemble : (t : Tree) → IsElaborated t → (image : Image) → image ≡ image_of (program_of (scope_of t)) → IsAssembled t image
passes_assemble t x image e =
    let p = program_of (scope_of t) in
    let w = well t x in
    record {
      program = p;
      resolved = elaborates t x;
      coded = e;
      right = subst (DoesWhatItMeans p) (sym e) (does_what_it_means p w);
      short = subst (λ (i : Image). length i.code < 65536) (sym e) (code_is_of_bytes p w).1;
    }

pub few_counted : (g : Scope) (end_line : ℕ) (ss : List Statement) → measured g end_line 0 0 None ss ≡ Ok tt → length (limits_of ss) ≤ 256
few_counted g end_line ss e = let m = measured_ok g end_line 0 0 0 None ss (λ l. 0) (omega arith) e in omega (arith, m.1)
