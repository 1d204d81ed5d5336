-- The main theorem's statement: the machine on the code of a program does what the program means.
-- IEC 61131-3 edition 2, 3.2 instruction list.
use Rattle.std.specs.Prelude.{◌≡◌, ℕ, zero, suc, sum, ◌<◌, ◌≤◌, max, Bool, true, false, ◌||◌, ℤ, List, [], ◌∷◌, ◌++◌, ◌+◌, length, Option, Some, None, slice_get, nat_eq, All}
use Rattle.point_types.specs.declared.operator.Condition.{Condition}
use Rattle.point_types.specs.declared.reading.Reading.{Reading}
use Rattle.point_types.specs.declared.reading.Reading.TheVariants as reading
use Rattle.point_types.specs.Value.{low_of, high_of, is_within, is_bool, code_of}
use Rattle.point_types.specs.declared.variable.Var.{Var}
use Rattle.scan_code.specs.declared.image.Tag.{Tag}
use Rattle.scan_code.specs.Table.{input_kind, output_kind}
use Rattle.il_assemble.specs.Meaning.{Program, Line, Source, Variable, Input, Presence, Constant, Simple, Load, Apply, Defer, Limit, Select, Invert, Absolute, Convert, Inner, Close, Then, Place, InVariable, InOutput, Action, Compute, Store, Set, Jump, Repeat, Return, Outcome, Done, Fails, Aim, Seek, State as Before, has_label, walked, turns_from, meaning}
use Rattle.scan_code.specs.Image.{Image}
use Rattle.scan_code.specs.Machine.{State, Ending, Ended, Trapped, Unfinished, At_fault, opening, run}
use Rattle.il_assemble.specs.Code.{action_code, code_of_program, image_of, past}

-- What makes a program well formed.

abbrev pub Has : {A : Type 0} → Option A → Type 0
Has None = ⊥
Has (Some a) = Unit {0}

-- a place within its table and of the right direction; a literal of its type
abbrev pub IsSource : Program → Source → Type 0
IsSource p (Variable i) = Has (slice_get p.variables i)
IsSource p (Input i) = Has (input_kind (slice_get p.tags i))
IsSource p (Presence i) = Has (input_kind (slice_get p.tags i))
IsSource p (Constant v) = is_within (low_of v.kind) (high_of v.kind) v.number ≡ true

abbrev pub IsStart : Program → Option Source → Type 0
IsStart p None = Unit {0}
IsStart p (Some x) = IsSource p x

abbrev mutual
  pub IsSimple : Program → Simple → Type 0
  IsSimple p (Load negated x) = IsSource p x
  IsSimple p (Apply o negated x) = IsSource p x
  IsSimple p (Defer o negated first inner) = IsStart p first × IsInner p inner
  IsSimple p (Limit least most) = IsSource p least × IsSource p most
  IsSimple p (Select a b) = IsSource p a × IsSource p b
  IsSimple p Invert = Unit {0}
  IsSimple p Absolute = Unit {0}
  IsSimple p (Convert from to) = (is_bool from ≡ false) × (is_bool to ≡ false) × (nat_eq (code_of from) (code_of to) ≡ false)

  pub IsInner : Program → Inner → Type 0
  IsInner p Close = Unit {0}
  IsInner p (Then head tail) = IsSimple p head × IsInner p tail

-- how many values are deferred at most
abbrev mutual
  pub depth_of : Simple → ℕ
  depth_of (Load negated x) = 0
  depth_of (Apply o negated x) = 1
  depth_of (Defer o negated first inner) = suc (inner_depth inner)
  depth_of (Limit least most) = 1
  depth_of (Select a b) = 2
  depth_of Invert = 0
  depth_of Absolute = 0
  depth_of (Convert from to) = 0

  pub inner_depth : Inner → ℕ
  inner_depth Close = 0
  inner_depth (Then head tail) = max (depth_of head) (inner_depth tail)

abbrev pub IsPlace : Program → Place → Type 0
IsPlace p (InVariable i) = Has (slice_get p.variables i)
IsPlace p (InOutput i) = Has (output_kind (slice_get p.tags i))

-- whether a label stands on one of these lines
abbrev pub stands : ℕ → List Line → Bool
stands label [] = false
stands label (line ∷ lines) = has_label line.label label || stands label lines

-- a counted jump's limit stands in the table, at its counter
pub record IsCounted (p : Program) (counter limit : ℕ) : Type 0 where
  pub listed : slice_get p.limits counter ≡ Some limit
  pub some : 0 < limit
  pub few : limit < 256

-- an action, by the lines up to it and with it
abbrev pub IsAction : Program → List Line → Option Action → Type 0
IsAction p earlier None = Unit {0}
IsAction p earlier (Some (Compute simple)) = IsSimple p simple × (depth_of simple ≤ 127)
IsAction p earlier (Some (Store negated place)) = IsPlace p place
IsAction p earlier (Some (Set value place)) = IsPlace p place
-- the label stands on a later line, or on none: then it is the end's
IsAction p earlier (Some (Jump condition label)) = stands label earlier ≡ false
IsAction p earlier (Some (Repeat condition label counter limit)) = (stands label earlier ≡ true) × IsCounted p counter limit
IsAction p earlier (Some (Return condition)) = Unit {0}

abbrev pub AreLines : Program → List Line → List Line → Type 0
AreLines p earlier [] = Unit {0}
AreLines p earlier (line ∷ lines) = IsAction p (line ∷ earlier) line.action × AreLines p (line ∷ earlier) lines

pub record IsDeclared (d : Var) : Type 0 where
  pub low : is_within (low_of d.kind) (high_of d.kind) d.low ≡ true
  pub high : is_within (low_of d.kind) (high_of d.kind) d.high ≡ true

pub record IsWell (p : Program) : Type 0 where
  pub declared : All IsDeclared p.variables
  pub lines : AreLines p [] p.body
  pub few_variables : length p.variables < 65536
  pub few_tags : length p.tags < 65536
  pub few_limits : length p.limits ≤ 256
  pub short : past 0 (code_of_program p) < 65536

-- What a scan begins with.

-- a number for each variable, in its range
abbrev pub AreVariables : List Var → List ℤ → Type 0
AreVariables [] [] = Unit {0}
AreVariables [] (n ∷ ns) = ⊥
AreVariables (d ∷ ds) [] = ⊥
AreVariables (d ∷ ds) (n ∷ ns) = (is_within d.low d.high n ≡ true) × AreVariables ds ns

abbrev pub IsReading : Tag → Reading → Type 0
IsReading t (reading.Value n) = is_within (low_of t.kind) (high_of t.kind) n ≡ true
IsReading t (reading.Default n c) = is_within (low_of t.kind) (high_of t.kind) n ≡ true
IsReading t (reading.Absent c) = Unit {0}

-- a reading for each tag, in its type
abbrev pub AreReadings : List Tag → List Reading → Type 0
AreReadings [] [] = Unit {0}
AreReadings [] (r ∷ rs) = ⊥
AreReadings (t ∷ ts) [] = ⊥
AreReadings (t ∷ ts) (r ∷ rs) = IsReading t r × AreReadings ts rs

-- The theorem.

-- a run ends as the meaning says
abbrev pub EndsAs : Ending → Outcome → Type 0
EndsAs e (Done variables outputs) = (steps : ℕ) × (s : State) × (e ≡ Ended steps s) × (s.variables ≡ variables) × (s.outputs ≡ outputs)
EndsAs e (Fails fault) = (at : ℕ) × (e ≡ Trapped at (At_fault fault))

abbrev pub CodeDoesWhatTheProgramMeans : Type 0
CodeDoesWhatTheProgramMeans =
    (p : Program) (readings : List Reading) (variables : List ℤ) → IsWell p → AreReadings p.tags readings → AreVariables p.variables variables
    → (n : ℕ) × EndsAs (run (image_of p) readings 0 n (opening (image_of p) variables)) (meaning p readings variables)

-- a run that is over
abbrev pub IsOver : Ending → Type 0
IsOver (Ended steps s) = Unit {0}
IsOver (Trapped at trap) = Unit {0}
IsOver (Unfinished s) = ⊥

abbrev pub RunsThatAreOverStayOver : Type 0
RunsThatAreOverStayOver =
    (image : Image) (readings : List Reading) (before m n : ℕ) (s : State) → m ≤ n → IsOver (run image readings before m s)
    → run image readings before n s ≡ run image readings before m s

-- so each end of the machine's run, after however many instructions, is what the program means
abbrev pub EachEndIsTheMeaning : Type 0
EachEndIsTheMeaning =
    (p : Program) (readings : List Reading) (variables : List ℤ) → IsWell p → AreReadings p.tags readings → AreVariables p.variables variables
    → (n : ℕ) → IsOver (run (image_of p) readings 0 n (opening (image_of p) variables))
    → EndsAs (run (image_of p) readings 0 n (opening (image_of p) variables)) (meaning p readings variables)

-- An image that does what a program means: for each number that a variable of it can have and each reading of its tags,
-- the machine's run over it ends as the meaning says, however many instructions are asked for; so it never traps by its code or by deferred values.
pub record DoesWhatItMeans (p : Program) (image : Image) : Type 0 where
  pub variables : image.vars ≡ p.variables
  pub tags : image.tags ≡ p.tags
  pub ends :
      (readings : List Reading) (variables : List ℤ) → AreReadings image.tags readings → AreVariables image.vars variables
      → (n : ℕ) × EndsAs (run image readings 0 n (opening image variables)) (meaning p readings variables)
  pub each_end :
      (readings : List Reading) (variables : List ℤ) → AreReadings image.tags readings → AreVariables image.vars variables
      → (n : ℕ) → IsOver (run image readings 0 n (opening image variables))
      → EndsAs (run image readings 0 n (opening image variables)) (meaning p readings variables)

-- Turns of counted jumps.

-- evaluation from a label, with something else in place of its end where no turn is left
abbrev pub turns_or : (ℕ → Before → Outcome) → Program → List Reading → ℕ → ℕ → Before → Outcome
turns_or otherwise p readings zero label s = otherwise label s
turns_or otherwise p readings (suc turns) label s = walked p readings (turns_or otherwise p readings turns) p.body (Seek label) s

-- The turns that evaluation is given never run out: from any lines, with any aim and whatever has been counted, it ends
-- alike with more turns, and whatever else would be given where none is left. So it ends at the last line, by a return or
-- by a fault.
abbrev pub TurnsNeverRunOut : Type 0
TurnsNeverRunOut =
    (p : Program) (readings : List Reading) (otherwise : ℕ → Before → Outcome) (more : ℕ) (earlier lines : List Line) (aim : Aim) (s : Before)
    → AreLines p [] p.body → AreLines p earlier lines
    → walked p readings (turns_or otherwise p readings (sum p.limits + more)) lines aim s ≡ walked p readings (turns_from p readings (sum p.limits)) lines aim s

-- the code is of bytes, and so few that each address takes two of them
abbrev pub CodeIsOfBytes : Type 0
CodeIsOfBytes = (p : Program) → IsWell p → All (λ b. b < 256) (image_of p).code × (length (image_of p).code < 65536)

-- Two facts for whoever writes the code.

-- the size of a line's code depends on its form alone, wherever the labels stand
abbrev pub SizesDependOnTheFormAlone : Type 0
SizesDependOnTheFormAlone = (address : ℕ → ℕ) (action : Option Action) (a : ℕ) → past a (action_code address action) ≡ past a (action_code (λ l. 0) action)

-- the limit of a counted jump
abbrev pub limit_of : Option Action → List ℕ
limit_of None = []
limit_of (Some (Compute simple)) = []
limit_of (Some (Store negated place)) = []
limit_of (Some (Set value place)) = []
limit_of (Some (Jump condition label)) = []
limit_of (Some (Repeat condition label counter limit)) = limit ∷ []
limit_of (Some (Return condition)) = []

abbrev pub limits_of : List Line → List ℕ
limits_of [] = []
limits_of (line ∷ lines) = limit_of line.action ++ limits_of lines

abbrev pub HasNumber : ℕ → Option Action → Type 0
HasNumber k None = Unit {0}
HasNumber k (Some (Compute simple)) = Unit {0}
HasNumber k (Some (Store negated place)) = Unit {0}
HasNumber k (Some (Set value place)) = Unit {0}
HasNumber k (Some (Jump condition label)) = Unit {0}
HasNumber k (Some (Repeat condition label counter limit)) = counter ≡ k
HasNumber k (Some (Return condition)) = Unit {0}

-- the counters of the counted jumps are numbered in order from k on
abbrev pub AreNumbered : ℕ → List Line → Type 0
AreNumbered k [] = Unit {0}
AreNumbered k (line ∷ lines) = HasNumber k line.action × AreNumbered (k + length (limit_of line.action)) lines

-- where counters are numbered in order, and the table is of their limits in order, each finds its own
abbrev pub NumberedCountersFindTheirLimits : Type 0
NumberedCountersFindTheirLimits =
    (p : Program) → p.limits ≡ limits_of p.body → AreNumbered 0 p.body → (i : ℕ) (line : Line) (condition : Condition) (label counter limit : ℕ)
    → slice_get p.body i ≡ Some line → line.action ≡ Some (Repeat condition label counter limit) → slice_get p.limits counter ≡ Some limit
