-- What has been read of a program, and the moves from state to state.
-- IEC 61131-3 edition 2, 2.4.3 declarations, 2.5.3 programs, 3.2 instruction list.
use Rattle.std.specs.Prelude.{ℕ, Bool, List, [], ◌∷◌, ◌++◌, map, Option, Result, Ok}
use Rattle.point_types.specs.declared.il_type.IlType.{IlType}
use Rattle.il_reader.specs.declared.fault.ReadFaultKind.{ReadFaultKind}
use Rattle.il_reader.specs.declared.tree.Program.{Program}
use Rattle.il_reader.specs.declared.tree.Action.{Action}
use Rattle.il_reader.specs.declared.typing.Typing.{Typing}
use Rattle.il_reader.specs.declared.draft.Draft.{Draft}
use Rattle.il_reader.specs.declared.draft.Head.{Head}
use Rattle.il_reader.specs.declared.nest.OpenParenthesis.{OpenParenthesis}
use Rattle.il_reader.specs.declared.stage.BlockStage.{BlockStage}
use Rattle.il_reader.specs.declared.stage.PartStage.{PartStage}
use Rattle.il_reader.specs.declared.stage.Stage.{Stage}
use Rattle.il_reader.specs.declared.stage.Stage.TheVariants as stage
use Rattle.il_reader.specs.declared.state.State.{State}
use Rattle.il_reader.specs.declared.state.State.TheVariants as state
use Rattle.il_reader.specs.Declaration.{with_name, empty_scope, variable_of, external_of}

-- What has been read.

abbrev pub titled_draft : List ℕ → Draft
titled_draft n = record { name = n; scope = empty_scope; variables = []; externals = []; pending = []; labels = []; statements = [] }

-- a name of the declaration at hand, of a variable or an external
abbrev pub with_entry : Bool → Draft → ℕ → List ℕ → Draft
with_entry x d m n = record d { scope = with_name x d.scope n; pending = d.pending ++ (record { line = m; name = n }) ∷ [] }

-- the declaration at hand is over
abbrev pub with_variables : Draft → Typing → Draft
with_variables d y = record d { variables = d.variables ++ map (variable_of y) d.pending; pending = [] }

abbrev pub with_externals : Draft → IlType → Draft
with_externals d k = record d { externals = d.externals ++ map (external_of k) d.pending; pending = [] }

abbrev pub with_label : Draft → List ℕ → Draft
with_label d n = record d { labels = d.labels ++ n ∷ [] }

abbrev pub with_statement : Draft → Head → Option Action → Draft
with_statement d h a = record d { statements = d.statements ++ (record { line = h.line; label = h.label; action = a }) ∷ [] }

abbrev pub program_of : Draft → ℕ → Program
program_of d m = record { name = d.name; variables = d.variables; externals = d.externals; statements = d.statements; end_line = m }

-- One token: the state after it, or its fault.

abbrev pub Move : Type 0
Move = Result State ReadFaultKind

abbrev pub goes : Stage → Draft → Move
goes s d = Ok (state.Within s d)

-- on in a block of declarations, in an instruction inside the parentheses of a nest
abbrev pub declares : BlockStage → Draft → Move
declares s d = goes (stage.Block s) d

abbrev pub continues : List OpenParenthesis → Head → PartStage → Draft → Move
continues nest h s d = goes (stage.Part nest h s) d
