-- The static faults of a program, its length aside: what an instruction is at fault for by itself and by those before it, and which
-- fault is told. Nothing here goes through a program in search of faults, and no notes on uses are looked at.
-- IEC 61131-3 (edition 2), 2.2.1 numeric literals, 2.4.1 representation of variables, 3.2 instructions.
use Rattle.std.specs.Prelude.{◌≡◌, ◌≢◌, ◌⊎◌, ◌↔◌, ℕ, ◌<◌, ◌≤◌, Bool, true, false, not, List, [], ◌∷◌, ◌++◌, length, Option, Some, None, Result, Ok, Err, slice_get}
use Rattle.std.specs.List.{Contains, flat_map}
use Rattle.point_types.specs.declared.il_type.IlType.{IlType}
use Rattle.point_types.specs.Value.{◌>>=◌}
use Rattle.scan_code.specs.declared.image.Tag.{Tag}
use Rattle.il_reader.specs.declared.tree.External.{External}
use Rattle.il_reader.specs.declared.tree.Program.{Program as Tree}
use Rattle.il_reader.specs.declared.tree.Action.{Action}
use Rattle.il_reader.specs.declared.tree.Action.TheVariants as action
use Rattle.il_reader.specs.declared.tree.Operand.{Operand}
use Rattle.il_reader.specs.declared.tree.Operand.TheVariants.{Named, Number, Typed}
use Rattle.il_assemble.specs.declared.fault.AsmFault.{AsmFault}
use Rattle.il_assemble.specs.declared.fault.AsmFaultKind.{AsmFaultKind}
use Rattle.il_assemble.specs.declared.fault.AsmFaultKind.TheVariants as kind
use Rattle.il_assemble.specs.declared.names.Known.{Known}
use Rattle.il_assemble.specs.declared.names.Known.TheVariants as known
use Rattle.il_assemble.specs.Elaboration.{counted, elaborated, measured, named_apart, names_seen, program_of, scope_of, undivided}
use Rattle.il_assemble.specs.Instructions.{Standing, StandsIn, of_lines}
use Rattle.il_assemble.specs.Names.{Scope, known_as, tags_of, uses_of}
use Rattle.il_assemble.specs.StaticFault.{number_of, is_conversion, is_count, label_place, checked_lines}
use Rattle.il_assemble.specs.Typing.{is_literal_of, or_dint, type_beside}
use Rattle.il_assemble.specs.Written.{Written, Load, Apply, Defer, Limit, Select, Convert}

-- Uses of externals.

-- an external by its place, and whether it is stored; else it is loaded
pub record Use : Type 0 where
  pub external : ℕ
  pub stored : Bool

-- an external is loaded where its presence is, too
abbrev pub loads_of : Option Known → List Use
loads_of (Some (known.External i)) = record { external = i; stored = false } ∷ []
loads_of (Some (known.Presence i)) = record { external = i; stored = false } ∷ []
loads_of k = []

abbrev pub stores_of : Option Known → List Use
stores_of (Some (known.External i)) = record { external = i; stored = true } ∷ []
stores_of k = []

abbrev pub operands_of : Written → List Operand
operands_of (Load negated x) = x ∷ []
operands_of (Apply o negated x) = x ∷ []
operands_of (Defer o negated (Some x) inner) = x ∷ []
operands_of (Limit x y) = x ∷ y ∷ []
operands_of (Select x y) = x ∷ y ∷ []
operands_of w = []

abbrev pub operand_uses : Scope → Operand → List Use
operand_uses g (Named name) = loads_of (known_as g name)
operand_uses g x = []

-- those of one instruction, without what is inside its parentheses
abbrev pub uses_in : Scope → Action → List Use
uses_in g (action.Compute w) = flat_map (operand_uses g) (operands_of w)
uses_in g (action.Store negated name) = stores_of (known_as g name)
uses_in g (action.Set value name) = stores_of (known_as g name)
uses_in g a = []

abbrev pub all_uses : Scope → List Action → List Use
all_uses g = flat_map (uses_in g)

abbrev pub other : Use → Use
other u = record u { stored = not u.stored }

-- one of the uses is of an external that has a use of the other kind before
abbrev pub Clashes : List Use → List Use → Type 0
Clashes before uses = (u : Use) × Contains uses u × Contains before (other u)

-- Faults of the parts of an instruction; before: the uses of externals before the instruction.

-- a name that is loaded: it stands for nothing, or its external is stored before
abbrev pub LoadFault : List Use → Option Known → AsmFaultKind → Type 0
LoadFault before name kind.UnknownName = name ≡ None
LoadFault before name kind.LoadAndStore = Clashes before (loads_of name)
LoadFault before name k = ⊥

-- a name that is stored: it stands for no variable or external, or its external is loaded before
abbrev pub is_storable : Option Known → Bool
is_storable (Some (known.Variable i)) = true
is_storable (Some (known.External i)) = true
is_storable k = false

abbrev pub StoreFault : List Use → Option Known → AsmFaultKind → Type 0
StoreFault before name kind.UnknownName = is_storable name ≡ false
StoreFault before name kind.LoadAndStore = Clashes before (stores_of name)
StoreFault before name k = ⊥

-- an operand: a name, or a number that its type doesn't hold; wanted: the type that a number without one takes
abbrev pub OperandFault : Scope → List Use → IlType → Operand → AsmFaultKind → Type 0
OperandFault g before wanted (Named name) k = LoadFault before (known_as g name) k
OperandFault g before wanted (Number n) kind.LiteralType = is_literal_of wanted n ≡ false
OperandFault g before wanted (Typed given n) kind.LiteralType = is_literal_of given n ≡ false
OperandFault g before wanted x k = ⊥

-- a jump from a place among the lines to the target, the place of the first line with its label: no line has it; a jump without a
-- count to a line that isn't after it; a counted one to a line after it, or with a count outside 1..255
abbrev pub JumpFault : ℕ → Option ℕ → Option ℕ → AsmFaultKind → Type 0
JumpFault place turns None kind.UnknownLabel = Unit {0}
JumpFault place None (Some target) kind.BackwardJump = target ≤ place
JumpFault place (Some turns) (Some target) kind.ForwardLoop = place < target
JumpFault place (Some turns) target kind.LiteralType = is_count turns ≡ false
JumpFault place turns target k = ⊥

-- What an instruction is at fault for.

abbrev pub SimpleFault : Scope → List Use → Option IlType → IlType → Written → AsmFaultKind → Type 0
SimpleFault g before running loaded (Load negated x) k = OperandFault g before loaded x k
SimpleFault g before running loaded (Apply o negated x) k = OperandFault g before (or_dint running) x k
SimpleFault g before running loaded (Defer o negated (Some x) inner) k = OperandFault g before (or_dint running) x k
SimpleFault g before running loaded (Limit x y) k = OperandFault g before (or_dint running) x k ⊎ OperandFault g before (or_dint running) y k
SimpleFault g before running loaded (Select x y) k = OperandFault g before (type_beside g y) x k ⊎ OperandFault g before (type_beside g x) y k
SimpleFault g before running loaded (Convert from to) kind.UnknownName = is_conversion from to ≡ false
SimpleFault g before running loaded w k = ⊥

abbrev pub ActionFault : Scope → Standing → Action → AsmFaultKind → Type 0
ActionFault g x (action.Compute w) k = SimpleFault g (all_uses g x.before) x.running x.loaded w k
ActionFault g x (action.Store negated name) k = StoreFault (all_uses g x.before) (known_as g name) k
ActionFault g x (action.Set value name) k = StoreFault (all_uses g x.before) (known_as g name) k
ActionFault g x (action.Jump condition label turns) k = JumpFault x.place turns (label_place g label) k
ActionFault g x (action.Return condition) k = ⊥

abbrev pub HasFault : Scope → Standing → AsmFaultKind → Type 0
HasFault g x k = ActionFault g x x.action k

abbrev pub IsFaultless : Scope → Standing → Type 0
IsFaultless g x = (k : AsmFaultKind) → HasFault g x k → ⊥

-- of several faults of an instruction the one with the lowest number
abbrev pub IsFaultOf : Scope → Standing → AsmFaultKind → Type 0
IsFaultOf g x k = HasFault g x k × ((j : AsmFaultKind) → HasFault g x j → number_of k ≤ number_of j)

-- The fault of a program's instructions: that of the first one at fault; fewer stand before an earlier one.
abbrev pub IsFirstFault : Scope → AsmFault → Type 0
IsFirstFault g f = (x : Standing) × StandsIn g x × (f.line ≡ x.line) × IsFaultOf g x f.kind × ((y : Standing) → StandsIn g y → length y.before < length x.before → IsFaultless g y)

abbrev pub HasNoFault : Scope → Type 0
HasNoFault g = (x : Standing) → StandsIn g x → IsFaultless g x

-- a program's names and lines
abbrev pub text_scope : Tree → Scope
text_scope t = record { variables = t.variables; externals = t.externals; uses = []; statements = t.statements }

-- What only trees that no text gives are at fault for.
abbrev pub limited : Tree → Result (Unit {0}) AsmFault
limited t = counted t.variables t.externals t.statements >>= λ _. undivided t.variables >>= λ _. named_apart t.variables t.externals (names_seen (scope_of t))

-- that the code is too long comes after all else
abbrev pub lengthy : Tree → Result (Unit {0}) AsmFault
lengthy t = measured (scope_of t) t.end_line 0 0 None t.statements

abbrev pub IsStaticFault : Tree → AsmFault → Type 0
IsStaticFault t f = (limited t ≡ Err f) ⊎ ((limited t ≡ Ok tt) × (IsFirstFault (text_scope t) f ⊎ (HasNoFault (text_scope t) × (lengthy t ≡ Err f))))

abbrev pub HasNoStaticFault : Tree → Type 0
HasNoStaticFault t = (limited t ≡ Ok tt) × HasNoFault (text_scope t) × (lengthy t ≡ Ok tt)

-- What is proved of them.

-- what the assembler's walk over the lines finds is the fault of the first instruction that has one
abbrev pub TheFirstFaultIsTold : Type 0
TheFirstFaultIsTold =
    (t : Tree) → ((f : AsmFault) → (checked_lines (scope_of t) 0 None t.statements ≡ Err f) ↔ IsFirstFault (text_scope t) f) × ((checked_lines (scope_of t) 0 None t.statements ≡ Ok tt) ↔ HasNoFault (text_scope t))

-- a program elaborates, or it has a static fault, which is told
abbrev pub StaticFaultsAreTold : Type 0
StaticFaultsAreTold =
    (t : Tree) → ((f : AsmFault) → (elaborated t ≡ Err f) ↔ IsStaticFault t f) × ((elaborated t ≡ Ok (program_of (scope_of t))) ↔ HasNoStaticFault t)

-- a use before which its external has none
abbrev pub IsFirstUse : List Use → Use → Type 0
IsFirstUse uses u = (front behind : List Use) × (uses ≡ front ++ u ∷ behind) × ((v : Use) → Contains front v → v.external ≢ u.external)

-- an external is an input or an output as its first use is a load or a store
abbrev pub TheFirstUseCounts : Type 0
TheFirstUseCounts =
    (t : Tree) (u : Use) → (slice_get (uses_of t.variables t.externals t.statements) u.external ≡ Some (Some u.stored)) ↔ IsFirstUse (all_uses (text_scope t) (of_lines t.statements)) u

-- the tags of an image are those of the externals that are used, each as its first use is
abbrev pub TagsAreOfUses : Type 0
TagsAreOfUses =
    (t : Tree) (tag : Tag)
    → Contains (tags_of t.externals (uses_of t.variables t.externals t.statements)) tag
    ↔ ((u : Use) × (e : External) × IsFirstUse (all_uses (text_scope t) (of_lines t.statements)) u × (slice_get t.externals u.external ≡ Some e) × (tag ≡ record { name = e.name; output = u.stored; kind = e.kind }))
