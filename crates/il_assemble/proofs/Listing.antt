-- The instructions of a program as they stand, in a list; the walk over the lines is one over this list.
use Rattle.std.proofs.Common.{◌≡◌, ℕ, ◌+◌, Bool, List, [], ◌∷◌, ◌++◌, map, Option, Some, None, Result, Ok, Err, refl, sym, ap, ◌∙◌, subst, append_assoc}
use Rattle.std.proofs.lemmas.List.{append-nil, map-append}
use Rattle.point_types.specs.declared.il_type.IlType.{IlType}
use Rattle.point_types.specs.declared.il_type.IlType.TheVariants as il
use Rattle.point_types.specs.Value.{◌>>=◌}
use Rattle.il_reader.specs.declared.tree.Statement.{Statement}
use Rattle.il_reader.specs.declared.tree.Action.{Action}
use Rattle.il_reader.specs.declared.tree.Action.TheVariants as action
use Rattle.il_assemble.specs.declared.fault.AsmFault.{AsmFault}
use Rattle.il_assemble.specs.declared.fault.AsmFaultKind.{AsmFaultKind}
use Rattle.il_assemble.specs.declared.fault.AsmFaultKind.TheVariants as kind
use Rattle.il_assemble.specs.Instructions.{Standing, inside, inside_action, inside_lines, of_line, of_lines}
use Rattle.il_assemble.specs.Names.{Scope, known_as}
use Rattle.il_assemble.specs.StaticFault.{at_line, checked_inner, checked_line, checked_lines, checked_simple, first_fault, is_conversion, jump_fault, label_place, lowest, operand_fault, store_fault, unless}
use Rattle.il_assemble.specs.Typing.{loaded_inner_type, loaded_type, next_type, or_dint, type_after, type_after_line, type_beside, type_inside, type_of_line, whole_type}
use Rattle.il_assemble.specs.Written.{Written, Load, Apply, Defer, Limit, Select, Invert, Absolute, Convert, Inner, Close, Then}

-- The list. before: the instructions before the first of it.

abbrev pub standing : ℕ → List Action → ℕ → Option IlType → IlType → Action → Standing
standing place before line running loaded a = record { line = line; place = place; running = running; loaded = loaded; action = a; before = before }

abbrev mutual
  -- what stands inside an instruction's parentheses; before: with the instruction itself
  pub listed_inside : Scope → ℕ → List Action → Option IlType → Written → List Standing
  listed_inside g place before running (Defer o negated first inner) = listed_inner g place before (type_inside g running first) (whole_type running) inner
  listed_inside g place before running w = []

  pub listed_inner : Scope → ℕ → List Action → Option IlType → IlType → Inner → List Standing
  listed_inner g place before running else_type Close = []
  listed_inner g place before running else_type (Then line head tail) =
      (standing place before line running (loaded_inner_type g else_type tail) (action.Compute head) ∷ listed_inside g place (before ++ action.Compute head ∷ []) running head)
      ++ listed_inner g place (before ++ (action.Compute head ∷ inside head)) (type_after g running (loaded_inner_type g else_type tail) head) il.Dint tail

abbrev pub listed_action : Scope → ℕ → List Action → Option IlType → Action → List Standing
listed_action g place before running (action.Compute w) = listed_inside g place before running w
listed_action g place before running a = []

abbrev pub listed_line : Scope → ℕ → List Action → Option IlType → List Statement → ℕ → Option Action → List Standing
listed_line g place before running rest line None = []
listed_line g place before running rest line (Some a) = standing place before line running (loaded_type g rest) a ∷ listed_action g place (before ++ a ∷ []) running a

abbrev pub listed : Scope → ℕ → List Action → Option IlType → List Statement → List Standing
listed g place before running [] = []
listed g place before running (s ∷ ss) =
    listed_line g place before running ss s.line s.action ++ listed g (place + 1) (before ++ of_line s.action) (type_after_line g running ss s.action) ss

-- Each instruction has those before it as `before`.

abbrev pub actions : List Standing → List Action
actions xs = map (λ (x : Standing). x.action) xs

abbrev pub Chain : List Action → List Standing → Type 0
Chain before [] = Unit {0}
Chain before (x ∷ xs) = (x.before ≡ before) × Chain (before ++ x.action ∷ []) xs

chain_append : (before : List Action) (xs ys : List Standing) → Chain before xs → Chain (before ++ actions xs) ys → Chain before (xs ++ ys)
chain_append before [] ys h k = subst (λ z. Chain z ys) (append-nil before) k
chain_append before (x ∷ xs) ys h k = (h.0, chain_append (before ++ x.action ∷ []) xs ys h.1 (subst (λ z. Chain z ys) (sym (append_assoc before (x.action ∷ []) (actions xs))) k))

module _ (g : Scope) where
  mutual
    inside_actions : (place : ℕ) (before : List Action) (running : Option IlType) (w : Written) → actions (listed_inside g place before running w) ≡ inside w
    inside_actions place before running (Load n x) = refl
    inside_actions place before running (Apply o n x) = refl
    inside_actions place before running (Defer o n first inner) = inner_actions place before (type_inside g running first) (whole_type running) inner
    inside_actions place before running (Limit x y) = refl
    inside_actions place before running (Select x y) = refl
    inside_actions place before running Invert = refl
    inside_actions place before running Absolute = refl
    inside_actions place before running (Convert from to) = refl

    inner_actions : (place : ℕ) (before : List Action) (running : Option IlType) (else_type : IlType) (inner : Inner) → actions (listed_inner g place before running else_type inner) ≡ inside_lines inner
    inner_actions place before running else_type Close = refl
    inner_actions place before running else_type (Then line head tail) =
        let own = listed_inside g place (before ++ action.Compute head ∷ []) running head in
        let loaded = loaded_inner_type g else_type tail in
        let rest = listed_inner g place (before ++ (action.Compute head ∷ inside head)) (type_after g running loaded head) il.Dint tail in
        ap (λ z. action.Compute head ∷ z) (map-append (λ (x : Standing). x.action) own rest
        ∙ ap (λ z. z ++ actions rest) (inside_actions place (before ++ action.Compute head ∷ []) running head)
        ∙ ap (λ z. inside head ++ z) (inner_actions place (before ++ (action.Compute head ∷ inside head)) (type_after g running loaded head) il.Dint tail))

  mutual
    chain_inside : (place : ℕ) (before : List Action) (running : Option IlType) (w : Written) → Chain before (listed_inside g place before running w)
    chain_inside place before running (Load n x) = tt
    chain_inside place before running (Apply o n x) = tt
    chain_inside place before running (Defer o n first inner) = chain_inner place before (type_inside g running first) (whole_type running) inner
    chain_inside place before running (Limit x y) = tt
    chain_inside place before running (Select x y) = tt
    chain_inside place before running Invert = tt
    chain_inside place before running Absolute = tt
    chain_inside place before running (Convert from to) = tt

    chain_inner : (place : ℕ) (before : List Action) (running : Option IlType) (else_type : IlType) (inner : Inner) → Chain before (listed_inner g place before running else_type inner)
    chain_inner place before running else_type Close = tt
    chain_inner place before running else_type (Then line head tail) =
        let loaded = loaded_inner_type g else_type tail in
        let own = listed_inside g place (before ++ action.Compute head ∷ []) running head in
        let rest = listed_inner g place (before ++ (action.Compute head ∷ inside head)) (type_after g running loaded head) il.Dint tail in
        chain_append before (standing place before line running loaded (action.Compute head) ∷ own) rest
        (refl, chain_inside place (before ++ action.Compute head ∷ []) running head)
        (subst (λ z. Chain (before ++ (action.Compute head ∷ z)) rest) (sym (inside_actions place (before ++ action.Compute head ∷ []) running head)) (chain_inner place (before ++ (action.Compute head ∷ inside head)) (type_after g running loaded head) il.Dint tail))

  action_actions : (place : ℕ) (before : List Action) (running : Option IlType) (a : Action) → actions (listed_action g place before running a) ≡ inside_action a
  action_actions place before running (action.Compute w) = inside_actions place before running w
  action_actions place before running (action.Store n name) = refl
  action_actions place before running (action.Set v name) = refl
  action_actions place before running (action.Jump c label turns) = refl
  action_actions place before running (action.Return c) = refl

  chain_action : (place : ℕ) (before : List Action) (running : Option IlType) (a : Action) → Chain before (listed_action g place before running a)
  chain_action place before running (action.Compute w) = chain_inside place before running w
  chain_action place before running (action.Store n name) = tt
  chain_action place before running (action.Set v name) = tt
  chain_action place before running (action.Jump c label turns) = tt
  chain_action place before running (action.Return c) = tt

  line_actions : (place : ℕ) (before : List Action) (running : Option IlType) (rest : List Statement) (line : ℕ) (a : Option Action) → actions (listed_line g place before running rest line a) ≡ of_line a
  line_actions place before running rest line None = refl
  line_actions place before running rest line (Some a) = ap (λ z. a ∷ z) (action_actions place (before ++ a ∷ []) running a)

  chain_line : (place : ℕ) (before : List Action) (running : Option IlType) (rest : List Statement) (line : ℕ) (a : Option Action) → Chain before (listed_line g place before running rest line a)
  chain_line place before running rest line None = tt
  chain_line place before running rest line (Some a) = (refl, chain_action place (before ++ a ∷ []) running a)

  pub listed_actions : (place : ℕ) (before : List Action) (running : Option IlType) (ss : List Statement) → actions (listed g place before running ss) ≡ of_lines ss
  listed_actions place before running [] = refl
  listed_actions place before running (s ∷ ss) =
      let own = listed_line g place before running ss s.line s.action in
      let after = type_after_line g running ss s.action in
      let rest = listed g (place + 1) (before ++ of_line s.action) after ss in
      map-append (λ (x : Standing). x.action) own rest
      ∙ ap (λ z. z ++ actions rest) (line_actions place before running ss s.line s.action)
      ∙ ap (λ z. of_line s.action ++ z) (listed_actions (place + 1) (before ++ of_line s.action) after ss)

  pub chain_listed : (place : ℕ) (before : List Action) (running : Option IlType) (ss : List Statement) → Chain before (listed g place before running ss)
  chain_listed place before running [] = tt
  chain_listed place before running (s ∷ ss) =
      let own = listed_line g place before running ss s.line s.action in
      let after = type_after_line g running ss s.action in
      let rest = listed g (place + 1) (before ++ of_line s.action) after ss in
      chain_append before own rest (chain_line place before running ss s.line s.action)
      (subst (λ z. Chain (before ++ z) rest) (sym (line_actions place before running ss s.line s.action)) (chain_listed (place + 1) (before ++ of_line s.action) after ss))

-- The walk.

abbrev pub own_simple : Scope → Option IlType → IlType → Written → Option AsmFaultKind
own_simple g running loaded (Load negated x) = operand_fault g loaded x
own_simple g running loaded (Apply o negated x) = operand_fault g (or_dint running) x
own_simple g running loaded (Defer o negated first inner) = first_fault g (or_dint running) first
own_simple g running loaded (Limit x y) = lowest (operand_fault g (or_dint running) x) (operand_fault g (or_dint running) y)
own_simple g running loaded (Select x y) = lowest (operand_fault g (type_beside g y) x) (operand_fault g (type_beside g x) y)
own_simple g running loaded Invert = None
own_simple g running loaded Absolute = None
own_simple g running loaded (Convert from to) = unless (is_conversion from to) kind.UnknownName

-- what the walk finds at an instruction alone
abbrev pub own_action : Scope → ℕ → Option IlType → IlType → Action → Option AsmFaultKind
own_action g place running loaded (action.Compute w) = own_simple g running loaded w
own_action g place running loaded (action.Store negated name) = store_fault g (known_as g name)
own_action g place running loaded (action.Set value name) = store_fault g (known_as g name)
own_action g place running loaded (action.Jump condition label turns) = jump_fault place turns (label_place g label)
own_action g place running loaded (action.Return condition) = None

abbrev pub own : Scope → Standing → Option AsmFaultKind
own g x = own_action g x.place x.running x.loaded x.action

abbrev pub told : Scope → List Standing → Result (Unit {0}) AsmFault
told g [] = Ok tt
told g (x ∷ xs) = at_line x.line (own g x) >>= λ _. told g xs

ends : (x : Result (Unit {0}) AsmFault) → x ≡ (x >>= λ _. Ok tt)
ends (Ok u) = refl
ends (Err f) = refl

in_turn : (x y z : Result (Unit {0}) AsmFault) → ((x >>= λ _. y) >>= λ _. z) ≡ (x >>= λ _. (y >>= λ _. z))
in_turn (Ok u) y z = refl
in_turn (Err f) y z = refl

-- The list doesn't look at notes on uses, the walk does.

abbrev pub noting : Scope → List (Option Bool) → Scope
noting g uses = record g { uses = uses }

module _ (g : Scope) (uses : List (Option Bool)) where
  next_same : (ss : List Statement) → next_type (noting g uses) ss ≡ next_type g ss
  next_same [] = refl
  next_same (s ∷ ss) = ap (λ z. type_of_line g z s.action) (next_same ss)

  loaded_same : (ss : List Statement) → loaded_type (noting g uses) ss ≡ loaded_type g ss
  loaded_same ss = ap or_dint (next_same ss)

  after_same : (running : Option IlType) (ss : List Statement) (a : Option Action) → type_after_line (noting g uses) running ss a ≡ type_after_line g running ss a
  after_same running ss None = refl
  after_same running ss (Some (action.Compute w)) = ap (λ z. type_after g running z w) (loaded_same ss)
  after_same running ss (Some (action.Store n name)) = refl
  after_same running ss (Some (action.Set v name)) = refl
  after_same running ss (Some (action.Jump c label None)) = refl
  after_same running ss (Some (action.Jump c label (Some turns))) = refl
  after_same running ss (Some (action.Return c)) = refl

  told_append : (xs ys : List Standing) → told (noting g uses) (xs ++ ys) ≡ (told (noting g uses) xs >>= λ _. told (noting g uses) ys)
  told_append [] ys = refl
  told_append (x ∷ xs) ys = ap (λ z. at_line x.line (own (noting g uses) x) >>= λ _. z) (told_append xs ys) ∙ sym (in_turn (at_line x.line (own (noting g uses) x)) (told (noting g uses) xs) (told (noting g uses) ys))

  mutual
    simple_told : (place line : ℕ) (before : List Action) (running : Option IlType) (loaded : IlType) (w : Written) → checked_simple (noting g uses) line running loaded w ≡ (at_line line (own_simple (noting g uses) running loaded w) >>= λ _. told (noting g uses) (listed_inside g place before running w))
    simple_told place line before running loaded (Load n x) = ends (at_line line (operand_fault (noting g uses) loaded x))
    simple_told place line before running loaded (Apply o n x) = ends (at_line line (operand_fault (noting g uses) (or_dint running) x))
    simple_told place line before running loaded (Defer o n first inner) = ap (λ z. at_line line (first_fault (noting g uses) (or_dint running) first) >>= λ _. z) (inner_told place before (type_inside g running first) (whole_type running) inner)
    simple_told place line before running loaded (Limit x y) = ends (at_line line (lowest (operand_fault (noting g uses) (or_dint running) x) (operand_fault (noting g uses) (or_dint running) y)))
    simple_told place line before running loaded (Select x y) = ends (at_line line (lowest (operand_fault (noting g uses) (type_beside g y) x) (operand_fault (noting g uses) (type_beside g x) y)))
    simple_told place line before running loaded Invert = refl
    simple_told place line before running loaded Absolute = refl
    simple_told place line before running loaded (Convert from to) = ends (at_line line (unless (is_conversion from to) kind.UnknownName))

    inner_told : (place : ℕ) (before : List Action) (running : Option IlType) (else_type : IlType) (inner : Inner) → checked_inner (noting g uses) running else_type inner ≡ told (noting g uses) (listed_inner g place before running else_type inner)
    inner_told place before running else_type Close = refl
    inner_told place before running else_type (Then line head tail) =
        let loaded = loaded_inner_type g else_type tail in
        let first = standing place before line running loaded (action.Compute head) ∷ listed_inside g place (before ++ action.Compute head ∷ []) running head in
        let later = before ++ (action.Compute head ∷ inside head) in
        let rest = listed_inner g place later (type_after g running loaded head) il.Dint tail in
        ap (λ z. z >>= λ _. checked_inner (noting g uses) (type_after g running loaded head) il.Dint tail) (simple_told place line (before ++ action.Compute head ∷ []) running loaded head)
        ∙ ap (λ z. told (noting g uses) first >>= λ _. z) (inner_told place later (type_after g running loaded head) il.Dint tail)
        ∙ sym (told_append first rest)

  line_told : (place line : ℕ) (before : List Action) (running : Option IlType) (rest : List Statement) (a : Option Action) → checked_line (noting g uses) place running rest line a ≡ told (noting g uses) (listed_line g place before running rest line a)
  line_told place line before running rest None = refl
  line_told place line before running rest (Some (action.Compute w)) =
      let inside = told (noting g uses) (listed_inside g place (before ++ action.Compute w ∷ []) running w) in
      simple_told place line (before ++ action.Compute w ∷ []) running (loaded_type (noting g uses) rest) w ∙ ap (λ z. at_line line (own_simple (noting g uses) running z w) >>= λ _. inside) (loaded_same rest)
  line_told place line before running rest (Some (action.Store n name)) = ends (at_line line (store_fault (noting g uses) (known_as g name)))
  line_told place line before running rest (Some (action.Set v name)) = ends (at_line line (store_fault (noting g uses) (known_as g name)))
  line_told place line before running rest (Some (action.Jump c label turns)) = ends (at_line line (jump_fault place turns (label_place g label)))
  line_told place line before running rest (Some (action.Return c)) = refl

  pub lines_told : (place : ℕ) (before : List Action) (running : Option IlType) (ss : List Statement) → checked_lines (noting g uses) place running ss ≡ told (noting g uses) (listed g place before running ss)
  lines_told place before running [] = refl
  lines_told place before running (s ∷ ss) =
      let after = type_after_line g running ss s.action in
      let first = listed_line g place before running ss s.line s.action in
      let rest = listed g (place + 1) (before ++ of_line s.action) after ss in
      ap (λ z. checked_line (noting g uses) place running ss s.line s.action >>= λ _. checked_lines (noting g uses) (place + 1) z ss) (after_same running ss s.action)
      ∙ ap (λ z. z >>= λ _. checked_lines (noting g uses) (place + 1) after ss) (line_told place s.line before running ss s.action)
      ∙ ap (λ z. told (noting g uses) first >>= λ _. z) (lines_told (place + 1) (before ++ of_line s.action) after ss)
      ∙ sym (told_append first rest)
