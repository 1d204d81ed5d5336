-- What the walk finds at an instruction is the lowest fault that it has; over a list of instructions, that of the first.
use Rattle.std.proofs.Common.{◌≡◌, ◌⊎◌, inl, inr, ⊎_elim, ℕ, ◌+◌, ◌<◌, ◌≤◌, Bool, true, false, not, if◌then◌else◌, List, [], ◌∷◌, ◌++◌, Option, Some, None, Result, Ok, Err, slice_get, nat_eq, nat_le, refl, sym, ap, ◌∙◌, subst, arith, append_assoc, leb-true, leb-false}
use Rattle.std.specs.List.{Contains, flat_map}
use Rattle.std.proofs.lemmas.Bool.{eqb-true, eqb-false}
use Rattle.std.proofs.lemmas.List.{append-nil}
use Rattle.std.proofs.lemmas.List.Elements.{Contains-append_cases, Contains-append_left, Contains-append_right}
use Rattle.std.proofs.lemmas.Grind.{flat_map-append}
use Rattle.point_types.specs.declared.il_type.IlType.{IlType}
use Rattle.point_types.specs.Value.{◌>>=◌}
use Rattle.il_reader.specs.declared.tree.Action.{Action}
use Rattle.il_reader.specs.declared.tree.Action.TheVariants as action
use Rattle.il_reader.specs.declared.tree.Operand.{Operand}
use Rattle.il_reader.specs.declared.tree.Operand.TheVariants.{Named, Truth, Number, Typed}
use Rattle.il_assemble.specs.declared.fault.AsmFault.{AsmFault}
use Rattle.il_assemble.specs.declared.fault.AsmFaultKind.{AsmFaultKind}
use Rattle.il_assemble.specs.declared.fault.AsmFaultKind.TheVariants as kind
use Rattle.il_assemble.specs.declared.names.Known.{Known}
use Rattle.il_assemble.specs.declared.names.Known.TheVariants as known
use Rattle.il_assemble.specs.Faulty.{ActionFault, Clashes, HasFault, IsFaultOf, IsFaultless, JumpFault, LoadFault, OperandFault, SimpleFault, StoreFault, Use, all_uses, is_storable, loads_of, operand_uses, operands_of, other, stores_of, uses_in}
use Rattle.il_assemble.specs.Instructions.{Standing}
use Rattle.il_assemble.specs.Names.{Scope, is_loaded, is_stored, known_as}
use Rattle.il_assemble.specs.StaticFault.{at_line, is_conversion, is_count, jump_fault, label_place, load_fault, lowest, number_of, operand_fault, store_fault, unless}
use Rattle.il_assemble.specs.Typing.{is_literal_of, or_dint, type_beside}
use Rattle.il_assemble.specs.Written.{Written, Load, Apply, Defer, Limit, Select, Invert, Absolute, Convert}
use Rattle.il_assemble.proofs.FirstUses.{at_head, first_for, head_or_tail, in_none, in_one, in_tail, same_use, use_of}
use Rattle.il_assemble.proofs.Listing.{Chain, actions, own, own_action, own_simple, told}

-- The lowest of some kinds, or that there is none.

abbrev IsLowestOf : (AsmFaultKind → Type 0) → Option AsmFaultKind → Type 0
IsLowestOf P None = (k : AsmFaultKind) → P k → ⊥
IsLowestOf P (Some k) = P k × ((j : AsmFaultKind) → P j → number_of k ≤ number_of j)

single : (P : AsmFaultKind → Type 0) (k : AsmFaultKind) (b : Bool) → ((j : AsmFaultKind) → P j → j ≡ k) → (b ≡ true → P k → ⊥) → (b ≡ false → P k) → IsLowestOf P (unless b k)
single P k true only never holds = λ j h. never refl (subst P (only j h) h)
single P k false only never holds = (holds refl, λ j h. subst (λ z. number_of k ≤ number_of z) (sym (only j h)) (omega arith))

lowest_of : (P Q R : AsmFaultKind → Type 0) (a b : Option AsmFaultKind) → IsLowestOf P a → IsLowestOf Q b → ((k : AsmFaultKind) → R k → P k ⊎ Q k) → ((k : AsmFaultKind) → P k → R k) → ((k : AsmFaultKind) → Q k → R k) → IsLowestOf R (lowest a b)
lowest_of P Q R None None p q split left right = λ k h. ⊎_elim (λ x. p k x) (λ x. q k x) (split k h)
lowest_of P Q R None (Some b) p q split left right = (right b q.0, λ j h. ⊎_elim (λ x. absurd (p j x)) (λ x. q.1 j x) (split j h))
lowest_of P Q R (Some a) None p q split left right = (left a p.0, λ j h. ⊎_elim (λ x. p.1 j x) (λ x. absurd (q j x)) (split j h))
lowest_of P Q R (Some a) (Some b) p q split left right = go (nat_le (number_of a) (number_of b)) refl
  where
    go : (c : Bool) → nat_le (number_of a) (number_of b) ≡ c → IsLowestOf R (Some (if c then a else b))
    go true e =
        let less : number_of a ≤ number_of b = leb-true (number_of a) (number_of b) e in
        (left a p.0, λ j h. ⊎_elim (λ x. p.1 j x) (λ x. let l = q.1 j x in omega arith) (split j h))
    go false e =
        let less : number_of b < number_of a = leb-false (number_of a) (number_of b) e in
        (right b q.0, λ j h. ⊎_elim (λ x. let l = p.1 j x in omega arith) (λ x. q.1 j x) (split j h))

one_least : (j : AsmFaultKind) → 1 ≤ number_of j
one_least kind.UnknownName = omega arith
one_least kind.UnknownLabel = omega arith
one_least kind.BackwardJump = omega arith
one_least kind.LoadAndStore = omega arith
one_least kind.LiteralType = omega arith
one_least kind.TooLong = omega arith
one_least kind.OutOfMemory = omega arith
one_least kind.ForwardLoop = omega arith

-- Jumps.

jump_without : (place : ℕ) (turns : Option ℕ) (j : AsmFaultKind) → JumpFault place turns None j → 2 ≤ number_of j
jump_without place turns kind.UnknownName h = absurd h
jump_without place turns kind.UnknownLabel h = omega arith
jump_without place turns kind.BackwardJump h = omega arith
jump_without place turns kind.LoadAndStore h = omega arith
jump_without place turns kind.LiteralType h = omega arith
jump_without place turns kind.TooLong h = omega arith
jump_without place turns kind.OutOfMemory h = omega arith
jump_without place turns kind.ForwardLoop h = omega arith

plain_jump : (place target : ℕ) (j : AsmFaultKind) → JumpFault place None (Some target) j → j ≡ kind.BackwardJump
plain_jump place target kind.UnknownName h = absurd h
plain_jump place target kind.UnknownLabel h = absurd h
plain_jump place target kind.BackwardJump h = refl
plain_jump place target kind.LoadAndStore h = absurd h
plain_jump place target kind.LiteralType h = absurd h
plain_jump place target kind.TooLong h = absurd h
plain_jump place target kind.OutOfMemory h = absurd h
plain_jump place target kind.ForwardLoop h = absurd h

-- a kind, where it holds
abbrev Only : AsmFaultKind → Type 0 → AsmFaultKind → Type 0
Only k A j = (j ≡ k) × A

counted_jump : (place turns target : ℕ) (j : AsmFaultKind) → JumpFault place (Some turns) (Some target) j → Only kind.LiteralType (is_count turns ≡ false) j ⊎ Only kind.ForwardLoop (place < target) j
counted_jump place turns target kind.UnknownName h = absurd h
counted_jump place turns target kind.UnknownLabel h = absurd h
counted_jump place turns target kind.BackwardJump h = absurd h
counted_jump place turns target kind.LoadAndStore h = absurd h
counted_jump place turns target kind.LiteralType h = inl (refl, h)
counted_jump place turns target kind.TooLong h = absurd h
counted_jump place turns target kind.OutOfMemory h = absurd h
counted_jump place turns target kind.ForwardLoop h = inr (refl, h)

opposite : (b : Bool) → b ≡ true → b ≡ false → ⊥
opposite true e f = cc
opposite false e f = cc

jump_lowest : (place : ℕ) (turns target : Option ℕ) → IsLowestOf (JumpFault place turns target) (jump_fault place turns target)
jump_lowest place turns None = (tt, λ j h. jump_without place turns j h)
jump_lowest place None (Some target) =
    single (JumpFault place None (Some target)) kind.BackwardJump (nat_le (place + 1) target) (plain_jump place target)
    (λ e h. let l : place + 1 ≤ target = leb-true (place + 1) target e in omega arith)
    (λ e. let l : target < place + 1 = leb-false (place + 1) target e in omega arith)
jump_lowest place (Some turns) (Some target) =
    let many = is_count turns ≡ false in
    let ahead = place < target in
    lowest_of (Only kind.LiteralType many) (Only kind.ForwardLoop ahead) (JumpFault place (Some turns) (Some target)) (unless (is_count turns) kind.LiteralType) (unless (nat_le target place) kind.ForwardLoop)
    (single (Only kind.LiteralType many) kind.LiteralType (is_count turns) (λ j h. h.0) (λ e h. opposite (is_count turns) e h.1) (λ e. (refl, e)))
    (single (Only kind.ForwardLoop ahead) kind.ForwardLoop (nat_le target place) (λ j h. h.0) (λ e h. let l : target ≤ place = leb-true target place e in let m = h.1 in omega arith) (λ e. (refl, leb-false target place e)))
    (counted_jump place turns target)
    (λ j h. subst (JumpFault place (Some turns) (Some target)) (sym h.0) h.1)
    (λ j h. subst (JumpFault place (Some turns) (Some target)) (sym h.0) h.1)

-- Uses.

abbrev Noted : Scope → List Use → Type 0
Noted g all = (i : ℕ) (s : Bool) → first_for i all ≡ Some s → slice_get g.uses i ≡ Some (Some s)

-- a use is as the first one, and none of the other kind stands before; or it isn't, and one does
abbrev Decided : List Use → List Use → Use → Type 0
Decided all before u =
    ((first_for u.external all ≡ Some u.stored) × (Contains before (other u) → ⊥)) ⊎ ((first_for u.external all ≡ Some (not u.stored)) × Contains before (other u))

load_only : (before : List Use) (k : Known) (j : AsmFaultKind) → LoadFault before (Some k) j → j ≡ kind.LoadAndStore
load_only before k kind.UnknownName h = cc
load_only before k kind.UnknownLabel h = absurd h
load_only before k kind.BackwardJump h = absurd h
load_only before k kind.LoadAndStore h = refl
load_only before k kind.LiteralType h = absurd h
load_only before k kind.TooLong h = absurd h
load_only before k kind.OutOfMemory h = absurd h
load_only before k kind.ForwardLoop h = absurd h

store_only : (before : List Use) (k : Known) → is_storable (Some k) ≡ true → (j : AsmFaultKind) → StoreFault before (Some k) j → j ≡ kind.LoadAndStore
store_only before k e kind.UnknownName h = absurd (opposite (is_storable (Some k)) e h)
store_only before k e kind.UnknownLabel h = absurd h
store_only before k e kind.BackwardJump h = absurd h
store_only before k e kind.LoadAndStore h = refl
store_only before k e kind.LiteralType h = absurd h
store_only before k e kind.TooLong h = absurd h
store_only before k e kind.OutOfMemory h = absurd h
store_only before k e kind.ForwardLoop h = absurd h

module _ (g : Scope) (all before : List Use) (noted : Noted g all) where
  -- a use alone, where the walk looks whether its external is used in this way
  one_clash : (P : AsmFaultKind → Type 0) (u : Use) (b : Bool) → ((j : AsmFaultKind) → P j → j ≡ kind.LoadAndStore) → (P kind.LoadAndStore → Clashes before (u ∷ [])) → (Clashes before (u ∷ []) → P kind.LoadAndStore) → (slice_get g.uses u.external ≡ Some (Some u.stored) → b ≡ true) → (slice_get g.uses u.external ≡ Some (Some (not u.stored)) → b ≡ false) → Decided all before u → IsLowestOf P (unless b kind.LoadAndStore)
  one_clash P u b only to from same differs d =
      ⊎_elim
      (λ h. single P kind.LoadAndStore b only (λ e p. apart (to p) h.1) (λ f. absurd (opposite b (same (noted u.external u.stored h.0)) f)))
      (λ h. single P kind.LoadAndStore b only (λ e p. opposite b e (differs (noted u.external (not u.stored) h.0))) (λ f. from (u, at_head u [], h.1)))
      d
    where
      apart : Clashes before (u ∷ []) → (Contains before (other u) → ⊥) → ⊥
      apart c none = none (subst (λ z. Contains before (other z)) (sym (in_one u c.0 c.1)) c.2)

  load_lowest : (k : Option Known) → ((u : Use) → Contains (loads_of k) u → Decided all before u) → IsLowestOf (LoadFault before k) (load_fault g k)
  load_lowest None d = (refl, λ j h. one_least j)
  load_lowest (Some (known.Variable i)) d = λ j h. unused (subst (LoadFault before (Some (known.Variable i))) (load_only before (known.Variable i) j h) h)
    where
      unused : Clashes before [] → ⊥
      unused c = in_none c.0 c.1
  load_lowest (Some (known.External i)) d =
      one_clash (LoadFault before (Some (known.External i))) (use_of i false) (is_loaded (slice_get g.uses i)) (load_only before (known.External i)) (λ h. h) (λ h. h) (λ e. ap is_loaded e) (λ e. ap is_loaded e) (d (use_of i false) (at_head (use_of i false) []))
  load_lowest (Some (known.Presence i)) d =
      one_clash (LoadFault before (Some (known.Presence i))) (use_of i false) (is_loaded (slice_get g.uses i)) (load_only before (known.Presence i)) (λ h. h) (λ h. h) (λ e. ap is_loaded e) (λ e. ap is_loaded e) (d (use_of i false) (at_head (use_of i false) []))

  store_lowest : (k : Option Known) → ((u : Use) → Contains (stores_of k) u → Decided all before u) → IsLowestOf (StoreFault before k) (store_fault g k)
  store_lowest None d = (refl, λ j h. one_least j)
  store_lowest (Some (known.Variable i)) d = λ j h. unused (subst (StoreFault before (Some (known.Variable i))) (store_only before (known.Variable i) refl j h) h)
    where
      unused : Clashes before [] → ⊥
      unused c = in_none c.0 c.1
  store_lowest (Some (known.External i)) d =
      one_clash (StoreFault before (Some (known.External i))) (use_of i true) (is_stored (slice_get g.uses i)) (store_only before (known.External i) refl) (λ h. h) (λ h. h) (λ e. ap is_stored e) (λ e. ap is_stored e) (d (use_of i true) (at_head (use_of i true) []))
  store_lowest (Some (known.Presence i)) d = (refl, λ j h. one_least j)

  number_lowest : (P : AsmFaultKind → Type 0) (b : Bool) → ((j : AsmFaultKind) → P j → j ≡ kind.LiteralType) → (P kind.LiteralType → b ≡ false) → (b ≡ false → P kind.LiteralType) → IsLowestOf P (unless b kind.LiteralType)
  number_lowest P b only to from = single P kind.LiteralType b only (λ e h. opposite b e (to h)) from

  operand_lowest : (wanted : IlType) (x : Operand) → ((u : Use) → Contains (operand_uses g x) u → Decided all before u) → IsLowestOf (OperandFault g before wanted x) (operand_fault g wanted x)
  operand_lowest wanted (Named name) d = load_lowest (known_as g name) d
  operand_lowest wanted (Truth b) d = λ j h. h
  operand_lowest wanted (Number n) d = number_lowest (OperandFault g before wanted (Number n)) (is_literal_of wanted n) only (λ h. h) (λ h. h)
    where
      only : (j : AsmFaultKind) → OperandFault g before wanted (Number n) j → j ≡ kind.LiteralType
      only kind.UnknownName h = absurd h
      only kind.UnknownLabel h = absurd h
      only kind.BackwardJump h = absurd h
      only kind.LoadAndStore h = absurd h
      only kind.LiteralType h = refl
      only kind.TooLong h = absurd h
      only kind.OutOfMemory h = absurd h
      only kind.ForwardLoop h = absurd h
  operand_lowest wanted (Typed given n) d = number_lowest (OperandFault g before wanted (Typed given n)) (is_literal_of given n) only (λ h. h) (λ h. h)
    where
      only : (j : AsmFaultKind) → OperandFault g before wanted (Typed given n) j → j ≡ kind.LiteralType
      only kind.UnknownName h = absurd h
      only kind.UnknownLabel h = absurd h
      only kind.BackwardJump h = absurd h
      only kind.LoadAndStore h = absurd h
      only kind.LiteralType h = refl
      only kind.TooLong h = absurd h
      only kind.OutOfMemory h = absurd h
      only kind.ForwardLoop h = absurd h

  two_lowest : (P : AsmFaultKind → Type 0) (first second : IlType) (x y : Operand) → ((k : AsmFaultKind) → P k → OperandFault g before first x k ⊎ OperandFault g before second y k) → ((k : AsmFaultKind) → OperandFault g before first x k ⊎ OperandFault g before second y k → P k) → ((u : Use) → Contains (operand_uses g x ++ (operand_uses g y ++ [])) u → Decided all before u) → IsLowestOf P (lowest (operand_fault g first x) (operand_fault g second y))
  two_lowest P first second x y to from d =
      lowest_of (OperandFault g before first x) (OperandFault g before second y) P (operand_fault g first x) (operand_fault g second y)
      (operand_lowest first x (λ u h. d u (Contains-append_left (operand_uses g x) (operand_uses g y ++ []) u h)))
      (operand_lowest second y (λ u h. d u (Contains-append_right (operand_uses g x) (operand_uses g y ++ []) u (Contains-append_left (operand_uses g y) [] u h))))
      to (λ k h. from k (inl h)) (λ k h. from k (inr h))

  conversion_only : (running : Option IlType) (loaded from to : IlType) (j : AsmFaultKind) → SimpleFault g before running loaded (Convert from to) j → j ≡ kind.UnknownName
  conversion_only running loaded from to kind.UnknownName h = refl
  conversion_only running loaded from to kind.UnknownLabel h = absurd h
  conversion_only running loaded from to kind.BackwardJump h = absurd h
  conversion_only running loaded from to kind.LoadAndStore h = absurd h
  conversion_only running loaded from to kind.LiteralType h = absurd h
  conversion_only running loaded from to kind.TooLong h = absurd h
  conversion_only running loaded from to kind.OutOfMemory h = absurd h
  conversion_only running loaded from to kind.ForwardLoop h = absurd h

  one_lowest : (wanted : IlType) (x : Operand) → ((u : Use) → Contains (operand_uses g x ++ []) u → Decided all before u) → IsLowestOf (OperandFault g before wanted x) (operand_fault g wanted x)
  one_lowest wanted x d = operand_lowest wanted x (λ u h. d u (Contains-append_left (operand_uses g x) [] u h))

  simple_lowest : (running : Option IlType) (loaded : IlType) (w : Written) → ((u : Use) → Contains (flat_map (operand_uses g) (operands_of w)) u → Decided all before u) → IsLowestOf (SimpleFault g before running loaded w) (own_simple g running loaded w)
  simple_lowest running loaded (Load n x) d = one_lowest loaded x d
  simple_lowest running loaded (Apply o n x) d = one_lowest (or_dint running) x d
  simple_lowest running loaded (Defer o n None inner) d = λ j h. h
  simple_lowest running loaded (Defer o n (Some x) inner) d = one_lowest (or_dint running) x d
  simple_lowest running loaded (Limit x y) d = two_lowest (SimpleFault g before running loaded (Limit x y)) (or_dint running) (or_dint running) x y (λ k h. h) (λ k h. h) d
  simple_lowest running loaded (Select x y) d = two_lowest (SimpleFault g before running loaded (Select x y)) (type_beside g y) (type_beside g x) x y (λ k h. h) (λ k h. h) d
  simple_lowest running loaded Invert d = λ j h. h
  simple_lowest running loaded Absolute d = λ j h. h
  simple_lowest running loaded (Convert from to) d =
      single (SimpleFault g before running loaded (Convert from to)) kind.UnknownName (is_conversion from to) (conversion_only running loaded from to) (λ e h. opposite (is_conversion from to) e h) (λ e. e)

  action_lowest : (x : Standing) (a : Action) → all_uses g x.before ≡ before → ((u : Use) → Contains (uses_in g a) u → Decided all before u) → IsLowestOf (ActionFault g x a) (own_action g x.place x.running x.loaded a)
  action_lowest x (action.Compute w) e d = subst (λ z. IsLowestOf (SimpleFault g z x.running x.loaded w) (own_simple g x.running x.loaded w)) (sym e) (simple_lowest x.running x.loaded w d)
  action_lowest x (action.Store n name) e d = subst (λ z. IsLowestOf (StoreFault z (known_as g name)) (store_fault g (known_as g name))) (sym e) (store_lowest (known_as g name) d)
  action_lowest x (action.Set v name) e d = subst (λ z. IsLowestOf (StoreFault z (known_as g name)) (store_fault g (known_as g name))) (sym e) (store_lowest (known_as g name) d)
  action_lowest x (action.Jump c label turns) e d = jump_lowest x.place turns (label_place g label)
  action_lowest x (action.Return c) e d = λ j h. h

-- A use of the other kind before is a fault.

module _ (g : Scope) (before : List Use) where
  operand_clash : (wanted : IlType) (x : Operand) (u : Use) → Contains (operand_uses g x) u → Contains before (other u) → OperandFault g before wanted x kind.LoadAndStore
  operand_clash wanted (Named name) u h c = (u, h, c)
  operand_clash wanted (Truth b) u h c = absurd (in_none u h)
  operand_clash wanted (Number n) u h c = absurd (in_none u h)
  operand_clash wanted (Typed k n) u h c = absurd (in_none u h)

  one_clashes : (wanted : IlType) (x : Operand) (u : Use) → Contains (operand_uses g x ++ []) u → Contains before (other u) → OperandFault g before wanted x kind.LoadAndStore
  one_clashes wanted x u h c = ⊎_elim (λ k. operand_clash wanted x u k c) (λ k. absurd (in_none u k)) (Contains-append_cases (operand_uses g x) [] u h)

  two_clash : (first second : IlType) (x y : Operand) (u : Use) → Contains (operand_uses g x ++ (operand_uses g y ++ [])) u → Contains before (other u) → OperandFault g before first x kind.LoadAndStore ⊎ OperandFault g before second y kind.LoadAndStore
  two_clash first second x y u h c = ⊎_elim (λ k. inl (operand_clash first x u k c)) (λ k. inr (one_clashes second y u k c)) (Contains-append_cases (operand_uses g x) (operand_uses g y ++ []) u h)

  simple_clash : (running : Option IlType) (loaded : IlType) (w : Written) (u : Use) → Contains (flat_map (operand_uses g) (operands_of w)) u → Contains before (other u) → SimpleFault g before running loaded w kind.LoadAndStore
  simple_clash running loaded (Load n x) u h c = one_clashes loaded x u h c
  simple_clash running loaded (Apply o n x) u h c = one_clashes (or_dint running) x u h c
  simple_clash running loaded (Defer o n None inner) u h c = absurd (in_none u h)
  simple_clash running loaded (Defer o n (Some x) inner) u h c = one_clashes (or_dint running) x u h c
  simple_clash running loaded (Limit x y) u h c = two_clash (or_dint running) (or_dint running) x y u h c
  simple_clash running loaded (Select x y) u h c = two_clash (type_beside g y) (type_beside g x) x y u h c
  simple_clash running loaded Invert u h c = absurd (in_none u h)
  simple_clash running loaded Absolute u h c = absurd (in_none u h)
  simple_clash running loaded (Convert from to) u h c = absurd (in_none u h)

action_clash : (g : Scope) (x : Standing) (a : Action) (u : Use) → Contains (uses_in g a) u → Contains (all_uses g x.before) (other u) → ActionFault g x a kind.LoadAndStore
action_clash g x (action.Compute w) u h c = simple_clash g (all_uses g x.before) x.running x.loaded w u h c
action_clash g x (action.Store n name) u h c = (u, h, c)
action_clash g x (action.Set v name) u h c = (u, h, c)
action_clash g x (action.Jump k label turns) u h c = absurd (in_none u h)
action_clash g x (action.Return k) u h c = absurd (in_none u h)

-- The uses of one instruction are all loads, or all stores.

abbrev Alike : List Use → Bool → Type 0
Alike us b = (u : Use) → Contains us u → u.stored ≡ b

nothing_alike : (b : Bool) → Alike [] b
nothing_alike b u h = absurd (in_none u h)

alone_alike : (i : ℕ) (b : Bool) → Alike (use_of i b ∷ []) b
alone_alike i b u h = sym (ap (λ z. z.stored) (in_one (use_of i b) u h))

loads_alike : (k : Option Known) → Alike (loads_of k) false
loads_alike None = nothing_alike false
loads_alike (Some (known.Variable i)) = nothing_alike false
loads_alike (Some (known.External i)) = alone_alike i false
loads_alike (Some (known.Presence i)) = alone_alike i false

stores_alike : (k : Option Known) → Alike (stores_of k) true
stores_alike None = nothing_alike true
stores_alike (Some (known.Variable i)) = nothing_alike true
stores_alike (Some (known.External i)) = alone_alike i true
stores_alike (Some (known.Presence i)) = nothing_alike true

operand_alike : (g : Scope) (x : Operand) → Alike (operand_uses g x) false
operand_alike g (Named name) = loads_alike (known_as g name)
operand_alike g (Truth b) = nothing_alike false
operand_alike g (Number n) = nothing_alike false
operand_alike g (Typed k n) = nothing_alike false

operands_alike : (g : Scope) (xs : List Operand) → Alike (flat_map (operand_uses g) xs) false
operands_alike g [] u h = absurd (in_none u h)
operands_alike g (x ∷ xs) u h = ⊎_elim (λ k. operand_alike g x u k) (λ k. operands_alike g xs u k) (Contains-append_cases (operand_uses g x) (flat_map (operand_uses g) xs) u h)

action_alike : (g : Scope) (a : Action) → (b : Bool) × Alike (uses_in g a) b
action_alike g (action.Compute w) = (false, operands_alike g (operands_of w))
action_alike g (action.Store n name) = (true, stores_alike (known_as g name))
action_alike g (action.Set v name) = (true, stores_alike (known_as g name))
action_alike g (action.Jump k label turns) = (true, nothing_alike true)
action_alike g (action.Return k) = (true, nothing_alike true)

-- First uses in lists.

first_in_front : (i : ℕ) (s : Bool) (us vs : List Use) → first_for i us ≡ Some s → first_for i (us ++ vs) ≡ Some s
first_in_front i s [] vs e = cc
first_in_front i s (u ∷ us) vs e = go (first_in_front i s us vs) (nat_eq u.external i) e
  where
    go : (first_for i us ≡ Some s → first_for i (us ++ vs) ≡ Some s) → (b : Bool) → (if b then Some u.stored else first_for i us) ≡ Some s → (if b then Some u.stored else first_for i (us ++ vs)) ≡ Some s
    go on true e = e
    go on false e = on e

first_behind : (i : ℕ) (us vs : List Use) → first_for i us ≡ None → first_for i (us ++ vs) ≡ first_for i vs
first_behind i [] vs e = refl
first_behind i (u ∷ us) vs e = go (first_behind i us vs) (nat_eq u.external i) e
  where
    go : (first_for i us ≡ None → first_for i (us ++ vs) ≡ first_for i vs) → (b : Bool) → (if b then Some u.stored else first_for i us) ≡ None → (if b then Some u.stored else first_for i (us ++ vs)) ≡ first_for i vs
    go on true e = cc
    go on false e = on e

first_contained : (i : ℕ) (s : Bool) (us : List Use) → first_for i us ≡ Some s → Contains us (use_of i s)
first_contained i s [] e = cc
first_contained i s (u ∷ us) e = go (first_contained i s us) (nat_eq u.external i) refl e
  where
    go : (first_for i us ≡ Some s → Contains us (use_of i s)) → (b : Bool) → nat_eq u.external i ≡ b → (if b then Some u.stored else first_for i us) ≡ Some s → Contains (u ∷ us) (use_of i s)
    go on true c e =
        let way : u.stored ≡ s = cc in
        subst (λ z. Contains (u ∷ us) z) (same_use u (use_of i s) (eqb-true u.external i c) way) (at_head u us)
    go on false c e = in_tail u (use_of i s) us (on e)

none_contained : (us : List Use) (u : Use) → first_for u.external us ≡ None → Contains us u → ⊥
none_contained [] u e h = in_none u h
none_contained (v ∷ us) u e h = go (none_contained us u) (nat_eq v.external u.external) refl e
  where
    go : (first_for u.external us ≡ None → Contains us u → ⊥) → (b : Bool) → nat_eq v.external u.external ≡ b → (if b then Some v.stored else first_for u.external us) ≡ None → ⊥
    go on true c e = cc
    go on false c e = ⊎_elim (λ k. eqb-false v.external u.external c (ap (λ z. z.external) k)) (λ k. on e k) (head_or_tail v u us h)

same_or_other : (s t : Bool) → (s ≡ t) ⊎ (s ≡ not t)
same_or_other true true = inl refl
same_or_other true false = inr refl
same_or_other false true = inr refl
same_or_other false false = inl refl

some_same : {s t : Bool} → Some s ≡ Some t → s ≡ t
some_same e = cc

other_differs : (s : Bool) → s ≡ not s → ⊥
other_differs true e = cc
other_differs false e = cc

abbrev Consistent : List Use → List Use → Type 0
Consistent all before = (u : Use) → Contains before u → first_for u.external all ≡ Some u.stored

decide : (all before own rest : List Use) (b : Bool) → all ≡ before ++ (own ++ rest) → Consistent all before → Alike own b → (u : Use) → Contains own u → Decided all before u
decide all before own rest b e consistent alike u h = go (first_for u.external before) refl
  where
    behind : first_for u.external before ≡ None → (s : Option Bool) → first_for u.external own ≡ s → first_for u.external all ≡ Some u.stored
    behind f None k = absurd (none_contained own u k h)
    behind f (Some s) k =
        let same : s ≡ u.stored = alike (use_of u.external s) (first_contained u.external s own k) ∙ sym (alike u h) in
        ap (first_for u.external) e ∙ first_behind u.external before (own ++ rest) f ∙ first_in_front u.external s own rest k ∙ ap Some same

    go : (s : Option Bool) → first_for u.external before ≡ s → Decided all before u
    go None f = inl (behind f (first_for u.external own) refl, λ k. none_contained before (other u) f k)
    go (Some s) f =
        let here : first_for u.external all ≡ Some s = ap (first_for u.external) e ∙ first_in_front u.external s before (own ++ rest) f in
        ⊎_elim
        (λ same. inl (here ∙ ap Some same, λ k. let seen : first_for u.external all ≡ Some (not u.stored) = consistent (other u) k in let way : u.stored ≡ not u.stored = some_same (sym (here ∙ ap Some same) ∙ seen) in other_differs u.stored way))
        (λ differs. inr (here ∙ ap Some differs, subst (λ z. Contains before (use_of u.external z)) differs (first_contained u.external s before f)))
        (same_or_other s u.stored)

-- The walk over a list of instructions.

abbrev pub NoneIn : Scope → List Standing → Type 0
NoneIn g xs = (x : Standing) → Contains xs x → IsFaultless g x

abbrev pub FirstIn : Scope → List Standing → AsmFault → Type 0
FirstIn g xs f = (front behind : List Standing) × (x : Standing) × (xs ≡ front ++ x ∷ behind) × NoneIn g front × (f.line ≡ x.line) × IsFaultOf g x f.kind

abbrev pub Meets : Scope → List Standing → Result (Unit {0}) AsmFault → Type 0
Meets g xs (Ok u) = NoneIn g xs
Meets g xs (Err f) = FirstIn g xs f

none_more : (g : Scope) (x : Standing) (xs : List Standing) → IsFaultless g x → NoneIn g xs → NoneIn g (x ∷ xs)
none_more g x xs h k y c = ⊎_elim (λ e. subst (IsFaultless g) e h) (λ t. k y t) (head_or_tail x y xs c)

meets_more : (g : Scope) (x : Standing) (xs : List Standing) (r : Result (Unit {0}) AsmFault) → IsFaultless g x → Meets g xs r → Meets g (x ∷ xs) r
meets_more g x xs (Ok u) h m = none_more g x xs h m
meets_more g x xs (Err f) h m = (x ∷ m.0, m.1, m.2, ap (λ z. x ∷ z) m.3, none_more g x m.0 h m.4, m.5, m.6)

module _ (g : Scope) (all : List Use) (noted : Noted g all) where
  pub told_meets : (xs : List Standing) (before : List Action) → Chain before xs → all ≡ all_uses g before ++ all_uses g (actions xs) → Consistent all (all_uses g before) → Meets g xs (told g xs)
  told_meets [] before chain e consistent = λ x h. absurd (in_none x h)
  told_meets (x ∷ xs) before chain e consistent =
      go (told_meets xs (before ++ x.action ∷ []) chain.1 (e ∙ split)) (own g x) (action_lowest g all (all_uses g before) noted x x.action (ap (all_uses g) chain.0) decided)
    where
      alike : (b : Bool) × Alike (uses_in g x.action) b
      alike = action_alike g x.action

      more : all_uses g (before ++ x.action ∷ []) ≡ all_uses g before ++ uses_in g x.action
      more = flat_map-append (uses_in g) before (x.action ∷ []) ∙ ap (λ z. all_uses g before ++ z) (append-nil (uses_in g x.action))

      split : all_uses g before ++ (uses_in g x.action ++ all_uses g (actions xs)) ≡ all_uses g (before ++ x.action ∷ []) ++ all_uses g (actions xs)
      split = sym (append_assoc (all_uses g before) (uses_in g x.action) (all_uses g (actions xs))) ∙ ap (λ z. z ++ all_uses g (actions xs)) (sym more)

      decided : (u : Use) → Contains (uses_in g x.action) u → Decided all (all_uses g before) u
      decided = decide all (all_uses g before) (uses_in g x.action) (all_uses g (actions xs)) alike.0 e consistent alike.1

      own_use : IsFaultless g x → (u : Use) → Contains (uses_in g x.action) u → first_for u.external all ≡ Some u.stored
      own_use h u c = ⊎_elim (λ d. d.0) (λ d. absurd (h kind.LoadAndStore (action_clash g x x.action u c (subst (λ z. Contains (all_uses g z) (other u)) (sym chain.0) d.1)))) (decided u c)

      next : IsFaultless g x → Consistent all (all_uses g (before ++ x.action ∷ []))
      next h u c = ⊎_elim (λ k. consistent u k) (λ k. own_use h u k) (Contains-append_cases (all_uses g before) (uses_in g x.action) u (subst (λ z. Contains z u) more c))

      go : (Consistent all (all_uses g (before ++ x.action ∷ [])) → Meets g xs (told g xs)) → (k : Option AsmFaultKind) → IsLowestOf (HasFault g x) k → Meets g (x ∷ xs) (at_line x.line k >>= λ _. told g xs)
      go on None h = meets_more g x xs (told g xs) h (on (next h))
      go on (Some k) h = ([], xs, x, refl, λ y c. absurd (in_none y c), refl, h)
