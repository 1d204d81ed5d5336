-- Want of memory is no static fault.
use Rattle.std.proofs.Common.{◌≡◌, ◌≢◌, ◌⊎◌, inl, inr, ⊎_elim, ℕ, ◌+◌, Bool, true, false, ◌&&◌, if◌then◌else◌, List, [], ◌∷◌, length, Option, Some, None, option_map, Result, Ok, Err, slice_get, nat_le, ap, subst}
use Rattle.point_types.specs.declared.il_type.IlType.{IlType}
use Rattle.point_types.specs.declared.il_type.IlType.TheVariants as il
use Rattle.point_types.specs.Value.{◌>>=◌}
use Rattle.scan_code.specs.Image.{are_new, is_whole_if_bool}
use Rattle.il_reader.specs.declared.tree.Variable.{Variable}
use Rattle.il_reader.specs.declared.tree.External.{External}
use Rattle.il_reader.specs.declared.tree.Statement.{Statement}
use Rattle.il_reader.specs.declared.tree.Action.{Action}
use Rattle.il_reader.specs.declared.tree.Action.TheVariants as action
use Rattle.il_reader.specs.declared.tree.Operand.{Operand}
use Rattle.il_reader.specs.declared.tree.Operand.TheVariants.{Named, Truth, Number, Typed}
use Rattle.il_assemble.specs.declared.fault.AsmFault.{AsmFault}
use Rattle.il_assemble.specs.declared.fault.AsmFaultKind.{AsmFaultKind}
use Rattle.il_assemble.specs.declared.fault.AsmFaultKind.TheVariants as kind
use Rattle.il_assemble.specs.declared.names.Known.{Known}
use Rattle.il_assemble.specs.declared.names.Known.TheVariants as known
use Rattle.il_assemble.specs.Assembled.{StaticFaultsWantNoMemory}
use Rattle.il_reader.specs.Limit.{most_names}
use Rattle.il_assemble.specs.Limit.{most_counted, most_code}
use Rattle.il_assemble.specs.Names.{Scope, known_as, is_loaded, is_stored}
use Rattle.il_assemble.specs.Typing.{is_literal_of, or_dint, type_beside, whole_type, loaded_type, loaded_inner_type, type_after, type_inside, type_after_line}
use Rattle.il_assemble.specs.StaticFault.{number_of, lowest, unless, load_fault, store_fault, operand_fault, first_fault, is_conversion, at_line, checked_simple, checked_inner, is_count, label_place, jump_fault, checked_line, checked_lines}
use Rattle.il_assemble.specs.Elaboration.{resolved_action, turns_of, too_long, unless_variable, unless_external, is_action_within, nested, counted, behind, measured, passing_line, undivided, first_line, named_apart, names_seen, scope_of, program_of}
use Rattle.il_assemble.specs.Written.{Written, Load, Apply, Defer, Limit, Select, Invert, Absolute, Convert, Inner, Close, Then}

bind_err : {A B E : Type 0} (x : Result A E) (f : A → Result B E) (e : E) → (x >>= f) ≡ Err e → (x ≡ Err e) ⊎ ((a : A) × (f a ≡ Err e))
bind_err (Ok a) f e h = inr (a, h)
bind_err (Err d) f e h = inl (let g : d ≡ e = cc in ap Err g)

abbrev IsStatic : AsmFaultKind → Type 0
IsStatic k = k ≢ kind.OutOfMemory

-- no kind, or one that isn't want of memory
abbrev AllStatic : Option AsmFaultKind → Type 0
AllStatic None = Unit {0}
AllStatic (Some k) = IsStatic k

static_unless : (b : Bool) (k : AsmFaultKind) → IsStatic k → AllStatic (unless b k)
static_unless true k h = tt
static_unless false k h = h

one_of : (b : Bool) (x y : AsmFaultKind) → IsStatic x → IsStatic y → IsStatic (if b then x else y)
one_of true x y h k = h
one_of false x y h k = k

static_lowest : (a b : Option AsmFaultKind) → AllStatic a → AllStatic b → AllStatic (lowest a b)
static_lowest None b h k = k
static_lowest (Some a) None h k = h
static_lowest (Some a) (Some b) h k = one_of (nat_le (number_of a) (number_of b)) a b h k

static_load : (g : Scope) (k : Option Known) → AllStatic (load_fault g k)
static_load g None = λ h. cc
static_load g (Some (known.Variable i)) = tt
static_load g (Some (known.External i)) = static_unless (is_loaded (slice_get g.uses i)) kind.LoadAndStore (λ h. cc)
static_load g (Some (known.Presence i)) = static_unless (is_loaded (slice_get g.uses i)) kind.LoadAndStore (λ h. cc)

static_store : (g : Scope) (k : Option Known) → AllStatic (store_fault g k)
static_store g None = λ h. cc
static_store g (Some (known.Variable i)) = tt
static_store g (Some (known.External i)) = static_unless (is_stored (slice_get g.uses i)) kind.LoadAndStore (λ h. cc)
static_store g (Some (known.Presence i)) = λ h. cc

static_operand : (g : Scope) (wanted : IlType) (operand : Operand) → AllStatic (operand_fault g wanted operand)
static_operand g wanted (Named name) = static_load g (known_as g name)
static_operand g wanted (Truth b) = tt
static_operand g wanted (Number n) = static_unless (is_literal_of wanted n) kind.LiteralType (λ h. cc)
static_operand g wanted (Typed of n) = static_unless (is_literal_of of n) kind.LiteralType (λ h. cc)

static_first : (g : Scope) (wanted : IlType) (first : Option Operand) → AllStatic (first_fault g wanted first)
static_first g wanted None = tt
static_first g wanted (Some operand) = static_operand g wanted operand

static_jump : (place : ℕ) (turns target : Option ℕ) → AllStatic (jump_fault place turns target)
static_jump place turns None = λ h. cc
static_jump place None (Some target) = static_unless (nat_le (place + 1) target) kind.BackwardJump (λ h. cc)
static_jump place (Some turns) (Some target) = static_lowest (unless (is_count turns) kind.LiteralType) (unless (nat_le target place) kind.ForwardLoop) (static_unless (is_count turns) kind.LiteralType (λ h. cc)) (static_unless (nat_le target place) kind.ForwardLoop (λ h. cc))

static_line : (line : ℕ) (k : Option AsmFaultKind) → AllStatic k → (fault : AsmFault) → at_line line k ≡ Err fault → IsStatic fault.kind
static_line line None h fault e = cc
static_line line (Some k) h fault e = let g : record { line = line; kind = k } ≡ fault = cc in subst (λ (f : AsmFault). IsStatic f.kind) g h

module _ (g : Scope) where
  mutual
    static_simple : (line : ℕ) (running : Option IlType) (loaded : IlType) (w : Written) (fault : AsmFault) → checked_simple g line running loaded w ≡ Err fault → IsStatic fault.kind
    static_simple line running loaded (Load n x) fault e = static_line line (operand_fault g loaded x) (static_operand g loaded x) fault e
    static_simple line running loaded (Apply o n x) fault e = static_line line (operand_fault g (or_dint running) x) (static_operand g (or_dint running) x) fault e
    static_simple line running loaded (Defer o n first inner) fault e =
        ⊎_elim
        (λ h. static_line line (first_fault g (or_dint running) first) (static_first g (or_dint running) first) fault h)
        (λ h. static_inner (type_inside g running first) (whole_type running) inner fault h.1)
        (bind_err (at_line line (first_fault g (or_dint running) first)) (λ _. checked_inner g (type_inside g running first) (whole_type running) inner) fault e)
    static_simple line running loaded (Limit a b) fault e =
        static_line line (lowest (operand_fault g (or_dint running) a) (operand_fault g (or_dint running) b)) (static_lowest (operand_fault g (or_dint running) a) (operand_fault g (or_dint running) b) (static_operand g (or_dint running) a) (static_operand g (or_dint running) b)) fault e
    static_simple line running loaded (Select a b) fault e =
        static_line line (lowest (operand_fault g (type_beside g b) a) (operand_fault g (type_beside g a) b)) (static_lowest (operand_fault g (type_beside g b) a) (operand_fault g (type_beside g a) b) (static_operand g (type_beside g b) a) (static_operand g (type_beside g a) b)) fault e
    static_simple line running loaded Invert fault e = cc
    static_simple line running loaded Absolute fault e = cc
    static_simple line running loaded (Convert from to) fault e = static_line line (unless (is_conversion from to) kind.UnknownName) (static_unless (is_conversion from to) kind.UnknownName (λ h. cc)) fault e

    static_inner : (running : Option IlType) (else_type : IlType) (inner : Inner) (fault : AsmFault) → checked_inner g running else_type inner ≡ Err fault → IsStatic fault.kind
    static_inner running else_type Close fault e = cc
    static_inner running else_type (Then line head tail) fault e =
        let loaded = loaded_inner_type g else_type tail in
        ⊎_elim
        (λ h. static_simple line running loaded head fault h)
        (λ h. static_inner (type_after g running loaded head) il.Dint tail fault h.1)
        (bind_err (checked_simple g line running loaded head) (λ _. checked_inner g (type_after g running loaded head) il.Dint tail) fault e)

  static_action : (place : ℕ) (running : Option IlType) (rest : List Statement) (line : ℕ) (a : Option Action) (fault : AsmFault) → checked_line g place running rest line a ≡ Err fault → IsStatic fault.kind
  static_action place running rest line None fault e = cc
  static_action place running rest line (Some (action.Compute s)) fault e = static_simple line running (loaded_type g rest) s fault e
  static_action place running rest line (Some (action.Store n name)) fault e = static_line line (store_fault g (known_as g name)) (static_store g (known_as g name)) fault e
  static_action place running rest line (Some (action.Set v name)) fault e = static_line line (store_fault g (known_as g name)) (static_store g (known_as g name)) fault e
  static_action place running rest line (Some (action.Jump c label turns)) fault e = static_line line (jump_fault place turns (label_place g label)) (static_jump place turns (label_place g label)) fault e
  static_action place running rest line (Some (action.Return c)) fault e = cc

  static_lines : (place : ℕ) (running : Option IlType) (ss : List Statement) (fault : AsmFault) → checked_lines g place running ss ≡ Err fault → IsStatic fault.kind
  static_lines place running [] fault e = cc
  static_lines place running (s ∷ ss) fault e =
      let after = type_after_line g running ss s.action in
      ⊎_elim
      (λ h. static_action place running ss s.line s.action fault h)
      (λ h. static_lines (place + 1) after ss fault h.1)
      (bind_err (checked_line g place running ss s.line s.action) (λ _. checked_lines g (place + 1) after ss) fault e)

  static_length : (line : ℕ) (fault : AsmFault) → too_long line ≡ fault → IsStatic fault.kind
  static_length line fault e = subst (λ (f : AsmFault). IsStatic f.kind) e (λ h. cc)

  static_if : (b : Bool) (x : Result (Unit {0}) AsmFault) (line : ℕ) (fault : AsmFault) → ((x ≡ Err fault) → IsStatic fault.kind) → (if b then x else Err (too_long line)) ≡ Err fault → IsStatic fault.kind
  static_if true x line fault h e = h e
  static_if false x line fault h e = static_length line fault cc

  static_measure : (end_line a counter : ℕ) (running : Option IlType) (ss : List Statement) (fault : AsmFault) → measured g end_line a counter running ss ≡ Err fault → IsStatic fault.kind
  static_measure end_line a counter running [] fault e = static_if (nat_le (a + 1) most_code) (Ok tt) end_line fault (λ h. cc) e
  static_measure end_line a counter running (s ∷ ss) fault e =
      let b = behind a (option_map (resolved_action g counter running ss) s.action) in
      let next = counter + length (turns_of s.action) in
      let after = type_after_line g running ss s.action in
      static_if (nat_le next most_counted && nat_le b most_code) (measured g end_line b next after ss) (passing_line g a running ss s.line s.action) fault (λ h. static_measure end_line b next after ss fault h) e

  static_nested : (ss : List Statement) (fault : AsmFault) → nested ss ≡ Err fault → IsStatic fault.kind
  static_nested [] fault e = cc
  static_nested (s ∷ ss) fault e = static_if (is_action_within s.action) (nested ss) s.line fault (λ h. static_nested ss fault h) e

  static_bools : (vs : List Variable) (fault : AsmFault) → undivided vs ≡ Err fault → IsStatic fault.kind
  static_bools [] fault e = cc
  static_bools (v ∷ vs) fault e = either (is_whole_if_bool v.var) (static_bools vs fault) e
    where
      either : (b : Bool) → (undivided vs ≡ Err fault → IsStatic fault.kind) → (if b then undivided vs else Err (record { line = v.line; kind = kind.LiteralType })) ≡ Err fault → IsStatic fault.kind
      either true h e = h e
      either false h e =
          let same : record { line = v.line; kind = kind.LiteralType } ≡ fault = cc in
          subst (λ (f : AsmFault). IsStatic f.kind) same (λ h. cc)

  static_variable : (o : Option Variable) (fault : AsmFault) → unless_variable o ≡ Err fault → IsStatic fault.kind
  static_variable None fault e = cc
  static_variable (Some v) fault e = static_length v.line fault cc

  static_external : (o : Option External) (fault : AsmFault) → unless_external o ≡ Err fault → IsStatic fault.kind
  static_external None fault e = cc
  static_external (Some v) fault e = static_length v.line fault cc

pub static_faults_want_no_memory : StaticFaultsWantNoMemory
static_faults_want_no_memory t fault e =
    let g = scope_of t in
    let apart = named_apart t.variables t.externals (names_seen g) in
    let last = λ (_ : Unit {0}). measured g t.end_line 0 0 None t.statements >>= λ _. Ok (program_of g) in
    let lines = λ (_ : Unit {0}). checked_lines g 0 None t.statements >>= last in
    ⊎_elim
    (λ h. ⊎_elim
    (λ k. static_variable g (slice_get t.variables most_names) fault k)
    (λ k. ⊎_elim
    (λ m. static_external g (slice_get t.externals most_names) fault m)
    (λ m. static_nested g t.statements fault m.1)
    (bind_err (unless_external (slice_get t.externals most_names)) (λ _. nested t.statements) fault k.1))
    (bind_err (unless_variable (slice_get t.variables most_names)) (λ _. unless_external (slice_get t.externals most_names) >>= λ _. nested t.statements) fault h))
    (λ h. ⊎_elim
    (λ u. static_bools g t.variables fault u)
    (λ u. ⊎_elim
    (λ k. static_if g (are_new [] (names_seen g)) (Ok tt) (first_line t.variables t.externals) fault (λ h. cc) k)
    (λ k. ⊎_elim
    (λ m. static_lines g 0 None t.statements fault m)
    (λ m. ⊎_elim
    (λ n. static_measure g t.end_line 0 0 None t.statements fault n)
    (λ n. cc)
    (bind_err (measured g t.end_line 0 0 None t.statements) (λ _. Ok (program_of g)) fault m.1))
    (bind_err (checked_lines g 0 None t.statements) last fault k.1))
    (bind_err apart lines fault u.1))
    (bind_err (undivided t.variables) (λ _. apart >>= lines) fault h.1))
    (bind_err (counted t.variables t.externals t.statements) (λ _. undivided t.variables >>= λ _. apart >>= lines) fault e)
