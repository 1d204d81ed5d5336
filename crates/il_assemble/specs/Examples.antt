-- Worked programs: what they elaborate to, what they mean, their code, and how the machine ends on it.
-- IEC 61131-3 edition 2, 3.2 instruction list.
use Rattle.std.specs.Prelude.{◌≡◌, ℕ, ℤ, pos, negsuc, List, [], ◌∷◌, Err, Some, None, true, false, refl, codes}
use Rattle.point_types.specs.declared.il_type.IlType.TheVariants as il
use Rattle.point_types.specs.declared.operator.Operator.TheVariants as op
use Rattle.point_types.specs.declared.operator.Condition.TheVariants as when
use Rattle.point_types.specs.declared.reading.Reading.{Reading}
use Rattle.point_types.specs.declared.reading.Reading.TheVariants as reading
use Rattle.point_types.specs.declared.reading.Cause.TheVariants as cause
use Rattle.point_types.specs.declared.variable.Var.{Var}
use Rattle.point_types.specs.Value.{Value}
use Rattle.il_reader.specs.declared.tree.Action.{Action as TreeAction}
use Rattle.il_reader.specs.declared.tree.Action.TheVariants as tree
use Rattle.il_reader.specs.declared.tree.Operand.TheVariants.{Named, Number}
use Rattle.scan_code.specs.Machine.{Ending, Ended, Trapped, Unfinished, BadCode, NoDeferred, At_fault, opening, run}
use Rattle.il_assemble.specs.declared.fault.AsmFaultKind.TheVariants as kind
use Rattle.il_assemble.specs.Meaning.{Program, Line, Action, Compute, Store, Set, Jump, Repeat, Load, Apply, Defer, Limit, Select, Convert, Close, Then, Variable, Input, Presence, Constant, InVariable, InOutput, Outcome, Done, Fails, meaning}
use Rattle.il_assemble.specs.Code.{image_of}
use Rattle.il_assemble.specs.Faulty.{HasFault, IsFaultless}
use Rattle.il_assemble.specs.Instructions.{Standing, in_parentheses}
use Rattle.il_assemble.specs.Names.{Scope, known_as}
use Rattle.il_assemble.specs.Typing.{type_after}
use Rattle.il_assemble.specs.StaticFault.{checked_simple, store_fault}
use Rattle.il_assemble.specs.Elaboration.{resolved_inner, source_of}
use Rattle.il_assemble.specs.Written as form

abbrev pub whole : ℤ → Value
whole n = record { kind = il.Int; number = n }

abbrev pub plain : Action → Line
plain a = record { label = None; action = Some a }

abbrev pub int_a : Var
int_a = record { name = codes "a"; kind = il.Int; low = negsuc 32767; high = pos 32767; start = pos 7; ranged = refl }

abbrev pub int_b : Var
int_b = record { name = codes "b"; kind = il.Int; low = negsuc 32767; high = pos 32767; start = pos 0; ranged = refl }

-- LD a / DIV 3 / ADD a / ST b
abbrev pub divide : Program
divide = record {
  variables = int_a ∷ int_b ∷ [];
  tags = [];
  limits = [];
  body =
      plain (Compute (Load false (Variable 0)))
      ∷ plain (Compute (Apply op.Div false (Constant (whole (pos 3)))))
      ∷ plain (Compute (Apply op.Add false (Variable 0)))
      ∷ plain (Store false (InVariable 1))
      ∷ [];
}

abbrev pub bit : Var
bit = record { name = codes "b"; kind = il.Bool; low = pos 0; high = pos 1; start = pos 0; ranged = refl }

-- what lines see where a, b and bit are declared, and the external w, which is loaded
abbrev pub seen : Scope
seen = record {
  variables = record { line = 3; var = int_a } ∷ record { line = 4; var = int_b } ∷ record { line = 5; var = bit } ∷ [];
  externals = record { line = 6; name = codes "u"; kind = il.Dint } ∷ record { line = 7; name = codes "w"; kind = il.Dint } ∷ [];
  uses = None ∷ Some false ∷ [];
  statements = [];
}

-- LD 4 / MUL w, inside parentheses after an INT
abbrev pub product : form.Inner
product = form.Then 8 (form.Load false (Number (pos 4))) (form.Then 9 (form.Apply op.Mul false (Named (codes "w"))) form.Close)

-- an instruction after others, where the result is a DINT
abbrev pub behind : List TreeAction → TreeAction → Standing
behind before a = record { line = 10; place = 0; running = Some il.Dint; loaded = il.Dint; action = a; before = before }

abbrev pub load_w : TreeAction
load_w = tree.Compute (form.Load false (Named (codes "w")))

abbrev pub store_w : TreeAction
store_w = tree.Store false (codes "w")

-- the variables and outputs at the end of a run, or its fault
abbrev pub end_of : Ending → Outcome
end_of (Ended steps s) = Done s.variables s.outputs
end_of (Trapped at (At_fault fault)) = Fails fault
end_of (Trapped at BadCode) = Done [] []
end_of (Trapped at NoDeferred) = Done [] []
end_of (Unfinished s) = Done [] []

abbrev pub machine_end : ℕ → Program → List Reading → List ℤ → Outcome
machine_end steps p readings variables = end_of (run (image_of p) readings 0 steps (opening (image_of p) variables))

abbrev pub divide_code : List ℕ
divide_code = 0x01 ∷ 0 ∷ 0 ∷ 0x0C ∷ 5 ∷ 2 ∷ 0 ∷ 0 ∷ 0 ∷ 0 ∷ 0 ∷ 0 ∷ 0 ∷ 3 ∷ 0x14 ∷ 0x0C ∷ 1 ∷ 0 ∷ 0 ∷ 0x11 ∷ 6 ∷ 0 ∷ 1 ∷ 0 ∷ []

abbrev pub small_int : Var
small_int = record { name = codes "z"; kind = il.Int; low = pos 0; high = pos 100; start = pos 0; ranged = refl }

-- LD 0 / ST z / again: LD z / ADD 7 / MIN 100 / ST z / {LOOP 9} JMP again
abbrev pub counted : ℕ → Program
counted n = record {
  variables = small_int ∷ [];
  tags = [];
  limits = n ∷ [];
  body =
      plain (Compute (Load false (Constant (whole (pos 0)))))
      ∷ plain (Store false (InVariable 0))
      ∷ record { label = Some 0; action = Some (Compute (Load false (Variable 0))) }
      ∷ plain (Compute (Apply op.Add false (Constant (whole (pos 7)))))
      ∷ plain (Compute (Apply op.Min false (Constant (whole (pos 100)))))
      ∷ plain (Store false (InVariable 0))
      ∷ plain (Repeat when.Always 0 0 n)
      ∷ [];
}

abbrev pub near_x : Var
near_x = record { name = codes "x"; kind = il.Int; low = negsuc 99; high = pos 100; start = pos 0; ranged = refl }

abbrev pub near_y : Var
near_y = record { name = codes "y"; kind = il.Dint; low = negsuc 99; high = pos 100; start = pos 0; ranged = refl }

-- LD b / STN n / AND( b / OR n / ) / S flag / JMPCN done / LD 500 / LIMIT -100, 100 / ST x / LD x / INT_TO_DINT / SUB 1 / ST y / LD here_ok / SEL 3, x / ST x / done:
abbrev pub forms : Program
forms = record {
  variables = bit ∷ bit ∷ near_x ∷ near_y ∷ [];
  tags = record { name = codes "here"; output = false; kind = il.Int } ∷ record { name = codes "flag"; output = true; kind = il.Bool } ∷ [];
  limits = [];
  body =
      plain (Compute (Load false (Variable 0)))
      ∷ plain (Store true (InVariable 1))
      ∷ plain (Compute (Defer op.And false (Some (Variable 0)) (Then (Apply op.Or false (Variable 1)) Close)))
      ∷ plain (Set true (InOutput 1))
      ∷ plain (Jump when.IfFalse 7)
      ∷ plain (Compute (Load false (Constant (whole (pos 500)))))
      ∷ plain (Compute (Limit (Constant (whole (negsuc 99))) (Constant (whole (pos 100)))))
      ∷ plain (Store false (InVariable 2))
      ∷ plain (Compute (Load false (Variable 2)))
      ∷ plain (Compute (Convert il.Int il.Dint))
      ∷ plain (Compute (Apply op.Sub false (Constant (record { kind = il.Dint; number = pos 1 }))))
      ∷ plain (Store false (InVariable 3))
      ∷ plain (Compute (Load false (Presence 0)))
      ∷ plain (Compute (Select (Constant (whole (pos 3))) (Variable 2)))
      ∷ plain (Store false (InVariable 2))
      ∷ record { label = Some 7; action = None }
      ∷ [];
}

abbrev pub present : List Reading
present = reading.Value (pos 12) ∷ reading.Value (pos 0) ∷ []

abbrev pub missing : List Reading
missing = reading.Absent cause.NoBlock ∷ reading.Value (pos 0) ∷ []

abbrev pub at_first : ℤ → List ℤ
at_first b = b ∷ pos 0 ∷ pos 0 ∷ pos 0 ∷ []

pub record ExamplesHold : Type 0 where
  pub next_gives_the_type : resolved_inner seen None il.Int product ≡ Then (Load false (Constant (record { kind = il.Dint; number = pos 4 }))) (Then (Apply op.Mul false (Input 0)) Close)
  pub deferred_gives_the_type : resolved_inner seen None il.Int (form.Then 8 (form.Load false (Number (pos 4))) form.Close) ≡ Then (Load false (Constant (whole (pos 4)))) Close
  pub presence_is_an_input : source_of seen il.Dint (Named (codes "w_ok")) ≡ Presence 0
  pub name_is_unknown : checked_simple seen 4 None il.Dint (form.Load false (Named (codes "q"))) ≡ Err (record { line = 4; kind = kind.UnknownName })
  pub number_is_no_truth : checked_simple seen 6 (Some il.Bool) il.Dint (form.Apply op.And false (Number (pos 1))) ≡ Err (record { line = 6; kind = kind.LiteralType })
  pub input_is_no_output : store_fault seen (known_as seen (codes "w")) ≡ Some kind.LoadAndStore
  pub stored_behind_a_load : HasFault seen (behind (load_w ∷ []) store_w) kind.LoadAndStore
  pub first_stored : IsFaultless seen (behind [] store_w)
  pub number_too_large : HasFault seen (behind [] (tree.Compute (form.Apply op.Add false (Number (pos 2147483648))))) kind.LiteralType
  pub no_such_label : HasFault seen (behind [] (tree.Jump when.Always (codes "x") None)) kind.UnknownLabel
  pub literal_inside : (in_parentheses seen (behind [] (tree.Compute (form.Defer op.Add false None product))) None form.Close 8 (form.Load false (Number (pos 4))) (form.Then 9 (form.Apply op.Mul false (Named (codes "w"))) form.Close)).loaded ≡ il.Dint
  pub comparison_gives_bool : type_after seen (Some il.Int) il.Dint (form.Defer op.Lt false None product) ≡ Some il.Bool
  pub divide_means : meaning divide [] (pos 7 ∷ pos 0 ∷ []) ≡ Done (pos 7 ∷ pos 9 ∷ []) []
  pub divide_is_coded : (image_of divide).code ≡ divide_code
  pub divide_runs : machine_end 20 divide [] (pos 7 ∷ pos 0 ∷ []) ≡ Done (pos 7 ∷ pos 9 ∷ []) []
  pub counted_means : meaning (counted 9) [] (pos 5 ∷ []) ≡ Done (pos 70 ∷ []) []
  pub counted_runs : machine_end 200 (counted 9) [] (pos 5 ∷ []) ≡ Done (pos 70 ∷ []) []
  pub forms_mean : meaning forms present (at_first (pos 1)) ≡ Done (pos 1 ∷ pos 0 ∷ pos 100 ∷ pos 99 ∷ []) (None ∷ Some (pos 1) ∷ [])
  pub forms_run : machine_end 50 forms present (at_first (pos 1)) ≡ Done (pos 1 ∷ pos 0 ∷ pos 100 ∷ pos 99 ∷ []) (None ∷ Some (pos 1) ∷ [])
  pub forms_mean_without_the_input : meaning forms missing (at_first (pos 1)) ≡ Done (pos 1 ∷ pos 0 ∷ pos 3 ∷ pos 99 ∷ []) (None ∷ Some (pos 1) ∷ [])
  pub forms_run_without_acting : machine_end 50 forms missing (at_first (pos 0)) ≡ Done (pos 0 ∷ pos 1 ∷ pos 0 ∷ pos 0 ∷ []) (None ∷ None ∷ [])
