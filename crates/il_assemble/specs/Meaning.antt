-- What an Instruction List program means. IEC 61131-3 (edition 2), 3.2.
-- The program is a tree whose names are resolved and whose literals are typed; no code is known here.
use Rattle.std.specs.Prelude.{ℕ, zero, suc, ◌+◌, Bool, true, false, not, ℤ, List, [], ◌∷◌, if◌then◌else◌, Result, Ok, Err, Option, Some, None, nat_eq, nat_lt, slice_get, slice_set, sum, map, option_map}
use Rattle.point_types.specs.declared.il_type.IlType.{IlType}
use Rattle.point_types.specs.declared.operator.Operator.{Operator}
use Rattle.point_types.specs.declared.operator.Operator.TheVariants as op
use Rattle.point_types.specs.declared.operator.Condition.{Condition}
use Rattle.point_types.specs.declared.operator.Condition.TheVariants as when
use Rattle.point_types.specs.declared.reading.Reading.{Reading}
use Rattle.point_types.specs.Value.{Value, Fault, WrongType, truth, applied, inverted, inverted_if, is_bool, ◌>>=◌}
use Rattle.point_types.specs.declared.variable.Var.{Var}
use Rattle.scan_code.specs.declared.image.Tag.{Tag}
use Rattle.scan_code.specs.Table.{no_turns, input_kind, output_kind, or_wrong, declared_value, read_value, is_present, selected, absolute_of, converted, storable, output_value, declared_kind, acts}

-- where an operand's value comes from, by its place among the declared variables or the tags
pub data Source : Type 0 where
  Variable : (place : ℕ) → Source
  Input : (place : ℕ) → Source
  Presence : (place : ℕ) → Source
  Constant : (value : Value) → Source

-- what works on the current result alone; a list of these stands inside parentheses
mutual
  pub data Simple : Type 0 where
    Load : (negated : Bool) (operand : Source) → Simple
    Apply : (operator : Operator) (negated : Bool) (operand : Source) → Simple
    Defer : (operator : Operator) (negated : Bool) (first : Option Source) (inner : Inner) → Simple
    Limit : (least most : Source) → Simple
    Select : (where_false where_true : Source) → Simple
    Invert : Simple
    Absolute : Simple
    Convert : (from to : IlType) → Simple

  pub data Inner : Type 0 where
    Close : Inner
    Then : (head : Simple) (tail : Inner) → Inner

pub data Place : Type 0 where
  InVariable : (place : ℕ) → Place
  InOutput : (place : ℕ) → Place

pub data Action : Type 0 where
  Compute : (simple : Simple) → Action
  Store : (negated : Bool) (place : Place) → Action
  Set : (value : Bool) (place : Place) → Action
  Jump : (condition : Condition) (label : ℕ) → Action
  -- a counted jump: which of them it is, and how often it is taken at most
  Repeat : (condition : Condition) (label : ℕ) (counter : ℕ) (limit : ℕ) → Action
  Return : (condition : Condition) → Action

pub record Line : Type 0 where
  pub label : Option ℕ
  pub action : Option Action

pub record Program : Type 0 where
  pub variables : List Var
  pub tags : List Tag
  pub limits : List ℕ
  pub body : List Line

-- what a scan changes
pub record State : Type 0 where
  pub result : Option Value
  pub variables : List ℤ
  pub outputs : List (Option ℤ)  -- one for each tag
  pub taken : List ℕ

pub data Outcome : Type 0 where
  Done : (variables : List ℤ) (outputs : List (Option ℤ)) → Outcome
  Fails : (fault : Fault) → Outcome

-- what a program reads while it evaluates an operand
pub record Scope : Type 0 where
  pub program : Program
  pub readings : List Reading
  pub variables : List ℤ

abbrev pub value_of : Scope → Source → Result Value Fault
value_of g (Variable i) = declared_value (slice_get g.program.variables i) (slice_get g.variables i)
value_of g (Input i) = read_value (input_kind (slice_get g.program.tags i)) (slice_get g.readings i)
value_of g (Presence i) = Ok (truth (is_present (slice_get g.readings i)))
value_of g (Constant v) = Ok v

abbrev pub optional_value : Scope → Option Source → Result (Option Value) Fault
optional_value g None = Ok None
optional_value g (Some s) = value_of g s >>= λ v. Ok (Some v)

abbrev pub operand_applied : Scope → Operator → Bool → Source → Value → Result Value Fault
operand_applied g o negated s r = value_of g s >>= λ v. inverted_if negated v >>= λ w. applied o r w

-- the result after an operation on the result before it
abbrev mutual
  pub simple_result : Scope → Simple → Option Value → Result Value Fault
  simple_result g (Load negated s) r = value_of g s >>= inverted_if negated
  simple_result g (Apply o negated s) r = or_wrong r >>= operand_applied g o negated s
  simple_result g (Defer o negated first inner) r =
      or_wrong r >>= λ deferred. optional_value g first >>= λ start. inner_result g inner start >>= λ last. or_wrong last >>= λ v. inverted_if negated v >>= λ w. applied o deferred w
  simple_result g (Limit least most) r = or_wrong r >>= operand_applied g op.Max false least >>= operand_applied g op.Min false most
  simple_result g (Select a b) r = or_wrong r >>= λ chooser. value_of g a >>= λ x. value_of g b >>= λ y. selected chooser x y
  simple_result g Invert r = or_wrong r >>= inverted
  simple_result g Absolute r = or_wrong r >>= absolute_of
  simple_result g (Convert from to) r = or_wrong r >>= converted from to

  pub inner_result : Scope → Inner → Option Value → Result (Option Value) Fault
  inner_result g Close r = Ok r
  inner_result g (Then head tail) r = simple_result g head r >>= λ v. inner_result g tail (Some v)

-- Statements.

-- where evaluation goes on: at the next line, or at the line with a label
pub data Aim : Type 0 where
  Next : Aim
  Seek : (label : ℕ) → Aim

-- what a line leads to
pub data Move : Type 0 where
  Onward : (aim : Aim) (state : State) → Move
  Back : (label : ℕ) (state : State) → Move
  Stop : (state : State) → Move
  Fault' : (fault : Fault) → Move

abbrev pub move_of : {A : Type 0} → Result A Fault → (A → Move) → Move
move_of (Ok a) go = go a
move_of (Err e) go = Fault' e

abbrev pub next_state : State → Move
next_state s = Onward Next s

abbrev pub stored : Program → Place → Value → State → Move
stored p (InVariable i) v s = move_of (storable (slice_get p.variables i) v) (λ n. next_state (record s { variables = slice_set s.variables i n }))
stored p (InOutput i) v s = move_of (output_value (output_kind (slice_get p.tags i)) v) (λ n. next_state (record s { outputs = slice_set s.outputs i (Some n) }))

abbrev pub kind_of_place : Program → Place → Option IlType
kind_of_place p (InVariable i) = option_map declared_kind (slice_get p.variables i)
kind_of_place p (InOutput i) = output_kind (slice_get p.tags i)

-- S and R want a BOOL operand, whatever the result
abbrev pub bool_place : Program → Place → Result Bool Fault
bool_place p place = or_wrong (kind_of_place p place) >>= λ k. if is_bool k then Ok true else Err WrongType

abbrev pub scope_of : Program → List Reading → State → Scope
scope_of p readings s = record { program = p; readings = readings; variables = s.variables }

-- a counted jump is taken while its count lasts
abbrev pub repeated : Bool → ℕ → ℕ → Option ℕ → ℕ → State → Move
repeated false label counter None limit s = next_state s
repeated false label counter (Some n) limit s = next_state s
repeated true label counter None limit s = next_state s
repeated true label counter (Some n) limit s =
    if nat_lt n limit then Back label (record s { taken = slice_set s.taken counter (n + 1) }) else next_state s

abbrev pub move_from : Program → List Reading → Option Action → State → Move
move_from p readings None s = next_state s
move_from p readings (Some (Compute simple)) s =
    move_of (simple_result (scope_of p readings s) simple s.result) (λ v. next_state (record s { result = Some v }))
move_from p readings (Some (Store negated place)) s =
    move_of (or_wrong s.result >>= inverted_if negated) (λ v. stored p place v s)
move_from p readings (Some (Set value place)) s =
    move_of (acts when.IfTrue s.result >>= λ b. bool_place p place >>= λ _. Ok b) (λ b. if b then stored p place (truth value) s else next_state s)
move_from p readings (Some (Jump condition label)) s =
    move_of (acts condition s.result) (λ b. if b then Onward (Seek label) s else next_state s)
move_from p readings (Some (Repeat condition label counter limit)) s =
    move_of (acts condition s.result) (λ b. repeated b label counter (slice_get s.taken counter) limit s)
move_from p readings (Some (Return condition)) s =
    move_of (acts condition s.result) (λ b. if b then Stop s else next_state s)

abbrev pub has_label : Option ℕ → ℕ → Bool
has_label None label = false
has_label (Some other) label = nat_eq other label

abbrev pub is_passed : Aim → Line → Bool
is_passed Next line = false
is_passed (Seek label) line = not (has_label line.label label)

abbrev pub finished : State → Outcome
finished s = Done s.variables s.outputs

abbrev pub continued : (ℕ → State → Outcome) → (Aim → State → Outcome) → Move → Outcome
continued again onward (Onward aim s) = onward aim s
continued again onward (Back label s) = again label s
continued again onward (Stop s) = finished s
continued again onward (Fault' e) = Fails e

-- the lines that remain, from the one that is aimed at
abbrev pub walked : Program → List Reading → (ℕ → State → Outcome) → List Line → Aim → State → Outcome
walked p readings again [] aim s = finished s
walked p readings again (line ∷ lines) aim s =
    if is_passed aim line
    then walked p readings again lines aim s
    else continued again (walked p readings again lines) (move_from p readings line.action s)

-- With so many turns of counted jumps left, evaluation from a label of the whole body. At first there are as many as all
-- limits together allow. Each turn raises one count that is below its limit, so they never run out: what would be given
-- then is nothing's meaning (`TurnsNeverRunOut` of `Correct`).
abbrev pub turns_from : Program → List Reading → ℕ → ℕ → State → Outcome
turns_from p readings zero label s = finished s
turns_from p readings (suc turns) label s = walked p readings (turns_from p readings turns) p.body (Seek label) s

-- before the first line: no result, no output, no counted jump taken
abbrev pub opening : Program → List ℤ → State
opening p variables = record { result = None; variables = variables; outputs = map (λ t. None) p.tags; taken = no_turns }

abbrev pub meaning : Program → List Reading → List ℤ → Outcome
meaning p readings variables = walked p readings (turns_from p readings (sum p.limits)) p.body Next (opening p variables)
