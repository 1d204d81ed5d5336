-- Worked verdicts: programs, and what is said of each.
-- IEC 61131-3 edition 2, 3.2.2 table 52 (instruction list operators).
use Rattle.std.specs.Prelude.{◌≡◌, ℕ, zero, suc, ◌+◌, pos, negsuc, List, [], ◌∷◌, ◌++◌, false, Result, Ok, Err, refl}
use Rattle.point_types.specs.declared.il_type.IlType.TheVariants as il
use Rattle.point_types.specs.declared.operator.Operator.TheVariants as op
use Rattle.point_types.specs.declared.operator.Condition.TheVariants as when
use Rattle.point_types.specs.declared.variable.Var.{Var}
use Rattle.scan_code.specs.Image.{Image}
use Rattle.scan_code.specs.declared.op.Op.{Op}
use Rattle.scan_code.specs.declared.op.Op.TheVariants as does
use Rattle.facts.specs.declared.refusal.RefusalKind.{RefusalKind}
use Rattle.facts.specs.declared.refusal.RefusalKind.TheVariants as refused
use Rattle.facts.specs.Flow.{Context, TagRange}
use Rattle.facts.specs.declared.refusal.Refusal.{Refusal}
use Rattle.facts.specs.declared.refusal.RefusedAt.TheVariants as spot
use Rattle.verifier.specs.Verdict.{refusal_of, budgeted, judged}

abbrev pub accepted : ℕ → Result ℕ Refusal
accepted budget = Ok budget

abbrev pub refused_with : RefusalKind → ℕ → Result ℕ Refusal
refused_with kind n = Err (record { at = spot.Instruction n; kind = kind })

-- instructions at the addresses 0, 1, 2 and so on
abbrev pub numbered : ℕ → List Op → List (ℕ × Op)
numbered n [] = []
numbered n (i ∷ is) = (n, i) ∷ numbered (n + 1) is

-- the verdict on instructions that were listed, with 32 deferred values at most
abbrev pub said_of : List Var → List TagRange → List Op → Result ℕ Refusal
said_of vars tags ops =
    let c : Context = record { variables = vars; tags = tags; depth = 32; listing = numbered 0 ops } in budgeted c (refusal_of c)

-- the names a and b
abbrev pub any_int : Var
any_int = record { name = 97 ∷ []; kind = il.Int; low = negsuc 32767; high = pos 32767; start = pos 0; ranged = refl }

abbrev pub any_dint : Var
any_dint = record { name = 98 ∷ []; kind = il.Dint; low = negsuc 2147483647; high = pos 2147483647; start = pos 0; ranged = refl }

abbrev pub percent : Var
percent = record { name = 97 ∷ []; kind = il.Int; low = pos 0; high = pos 100; start = pos 0; ranged = refl }

abbrev pub up_to_ten : Var
up_to_ten = record { name = 97 ∷ []; kind = il.Int; low = pos 0; high = pos 10; start = pos 0; ranged = refl }

abbrev pub around_zero : Var
around_zero = record { name = 97 ∷ []; kind = il.Int; low = negsuc 0; high = pos 10; start = pos 0; ranged = refl }

abbrev pub flag : Var
flag = record { name = 97 ∷ []; kind = il.Bool; low = pos 0; high = pos 1; start = pos 0; ranged = refl }

-- an input without a default
abbrev pub watts : TagRange
watts = record { output = false; kind = il.Dint; low = negsuc 99999; high = pos 100000; has_default = false }

-- LD a / ADD 1 / ST a
abbrev pub one_more : List Op
one_more = does.LoadVariable 0 ∷ does.Push ∷ does.LoadNumber il.Int (pos 1) ∷ does.Apply op.Add ∷ does.StoreVariable 0 ∷ does.End ∷ []

-- LD 100 / DIV x / ST y
abbrev pub division : List Op
division = does.LoadNumber il.Int (pos 100) ∷ does.Push ∷ does.LoadVariable 0 ∷ does.Apply op.Div ∷ does.StoreVariable 1 ∷ does.End ∷ []

-- LD x / EQ 0 / JMPC skip / LD 100 / DIV x / ST y / skip:
abbrev pub guarded_division : List Op
guarded_division = does.LoadVariable 0 ∷ does.Push ∷ does.LoadNumber il.Int (pos 0) ∷ does.Apply op.Eq ∷ does.Jump when.IfTrue 10
    ∷ does.LoadNumber il.Int (pos 100) ∷ does.Push ∷ does.LoadVariable 0 ∷ does.Apply op.Div ∷ does.StoreVariable 1 ∷ does.End ∷ []

-- LD p_OK / AND q_OK / JMPCN skip / LD p / ADD q / ST w / skip:
abbrev pub sum_if_present : List Op
sum_if_present = does.LoadPresence 0 ∷ does.Push ∷ does.LoadPresence 1 ∷ does.Apply op.And ∷ does.Jump when.IfFalse 10
    ∷ does.LoadInput 0 ∷ does.Push ∷ does.LoadInput 1 ∷ does.Apply op.Add ∷ does.StoreVariable 0 ∷ does.End ∷ []

abbrev pub added_one : List Op
added_one = does.Push ∷ does.LoadNumber il.Dint (pos 1) ∷ does.Apply op.Add ∷ []

-- LD c / JMPCN long / LD 1 / ST y / JMP done / long: LD 0, ADD 1 four times, ST y / done:
abbrev pub two_branches : List Op
two_branches = does.LoadVariable 0 ∷ does.Jump when.IfFalse 5 ∷ does.LoadNumber il.Dint (pos 1) ∷ does.StoreVariable 1 ∷ does.Jump when.Always 19
    ∷ does.LoadNumber il.Dint (pos 0) ∷ (added_one ++ added_one ++ added_one ++ added_one ++ does.StoreVariable 1 ∷ does.End ∷ [])

-- LD p_OK / JMPCN e / x: LD p / ST w / {LOOP 2} JMP x / e:
abbrev pub loop_behind_test : List Op
loop_behind_test = does.LoadPresence 0 ∷ does.Jump when.IfFalse 5 ∷ does.LoadInput 0 ∷ does.StoreVariable 0 ∷ does.Repeat when.Always 0 2 2 ∷ does.End ∷ []

-- x: LD p_OK / JMPCN e / LD p / ST w / {LOOP 2} JMP x / e:
abbrev pub loop_with_test : List Op
loop_with_test = does.LoadPresence 0 ∷ does.Jump when.IfFalse 5 ∷ does.LoadInput 0 ∷ does.StoreVariable 0 ∷ does.Repeat when.Always 0 2 0 ∷ does.End ∷ []

-- so many lines lK: {LOOP 255} JMP lK, the first of them at this address
abbrev pub loops : ℕ → ℕ → List Op
loops at zero = does.End ∷ []
loops at (suc n) = does.Repeat when.Always at 255 at ∷ loops (at + 1) n

abbrev pub image_of : ℕ → List Var → List ℕ → Image
image_of version vars code = record { version = version; vars = vars; tags = []; code = code }

-- LDC 0 / STV / LDV / PUSH / LDC 7 / ADD, then the rest, and a counted jump to the LDV
abbrev pub loop_code : List ℕ → List ℕ
loop_code limited =
    5 ∷ 2 ∷ 0 ∷ 0 ∷ 0 ∷ 0 ∷ 0 ∷ 0 ∷ 0 ∷ 0 ∷ 6 ∷ 0 ∷ 0 ∷ 1 ∷ 0 ∷ 0 ∷ 12 ∷ 5 ∷ 2 ∷ 0 ∷ 0 ∷ 0 ∷ 0 ∷ 0 ∷ 0 ∷ 0 ∷ 7 ∷ 17 ∷ limited

abbrev pub limited_to_100 : ℕ → List ℕ
limited_to_100 turns = 12 ∷ 5 ∷ 2 ∷ 0 ∷ 0 ∷ 0 ∷ 0 ∷ 0 ∷ 0 ∷ 0 ∷ 100 ∷ 28 ∷ 6 ∷ 0 ∷ 0 ∷ 38 ∷ 0 ∷ turns ∷ 0 ∷ 13 ∷ 0 ∷ []

abbrev pub unlimited : List ℕ
unlimited = 6 ∷ 0 ∷ 0 ∷ 38 ∷ 0 ∷ 9 ∷ 0 ∷ 13 ∷ 0 ∷ []

abbrev pub counted : ℕ → ℕ → Image
counted version turns = image_of version (percent ∷ []) (loop_code (limited_to_100 turns))

-- a jump into a constant, and one over it
abbrev pub into_arguments : Image
into_arguments = image_of 1 [] (33 ∷ 0 ∷ 5 ∷ 5 ∷ 2 ∷ 0 ∷ 0 ∷ 0 ∷ 0 ∷ 0 ∷ 0 ∷ 0 ∷ 3 ∷ 0 ∷ [])

abbrev pub over_arguments : Image
over_arguments = image_of 1 [] (33 ∷ 0 ∷ 13 ∷ 5 ∷ 2 ∷ 0 ∷ 0 ∷ 0 ∷ 0 ∷ 0 ∷ 0 ∷ 0 ∷ 3 ∷ 0 ∷ [])

-- a tag that no site has
abbrev pub with_tag : Image
with_tag = record { version = 1; vars = []; tags = record { name = 110 ∷ []; output = false; kind = il.Int } ∷ []; code = 2 ∷ 0 ∷ 0 ∷ 0 ∷ [] }

pub record WorkedVerdicts : Type 0 where
  pub overflows : said_of (any_int ∷ []) [] one_more ≡ refused_with refused.Overflow 3
  pub leaves_the_range : said_of (percent ∷ []) [] one_more ≡ refused_with refused.StoreRange 4
  pub may_be_missing : said_of (any_dint ∷ []) (watts ∷ watts ∷ []) (does.LoadInput 0 ∷ does.StoreVariable 0 ∷ does.End ∷ []) ≡ refused_with refused.MayBeMissing 0
  pub present : said_of (any_dint ∷ []) (watts ∷ watts ∷ []) sum_if_present ≡ accepted 11
  pub by_zero : said_of (up_to_ten ∷ any_int ∷ []) [] division ≡ refused_with refused.ZeroDivisor 3
  pub guarded : said_of (up_to_ten ∷ any_int ∷ []) [] guarded_division ≡ accepted 11
  pub still_by_zero : said_of (around_zero ∷ any_int ∷ []) [] guarded_division ≡ refused_with refused.ZeroDivisor 8
  pub branches : said_of (flag ∷ any_dint ∷ []) [] two_branches ≡ accepted 17
  pub no_result : said_of (any_int ∷ []) [] (does.StoreVariable 0 ∷ does.End ∷ []) ≡ refused_with refused.NoResult 0
  pub another_type : said_of (any_int ∷ any_dint ∷ []) [] (does.LoadVariable 0 ∷ does.StoreVariable 1 ∷ does.End ∷ []) ≡ refused_with refused.WrongType 1
  pub forgets_what_was_tested : said_of (any_dint ∷ []) (watts ∷ []) loop_behind_test ≡ refused_with refused.MayBeMissing 2
  pub tests_in_each_turn : said_of (any_dint ∷ []) (watts ∷ []) loop_with_test ≡ accepted 18
  pub many_loops : said_of [] [] (loops 0 62) ≡ accepted 996093
  pub too_many_loops : said_of [] [] (loops 0 63) ≡ Err (record { at = spot.Program; kind = refused.OverBudget })
  pub unknown_code : judged (image_of 1 [] (255 ∷ [])) [] 32 ≡ refused_with refused.Code 0
  pub no_code : judged (image_of 1 [] []) [] 32 ≡ refused_with refused.Code 0
  pub no_end : judged (image_of 1 (any_int ∷ []) (1 ∷ 0 ∷ 0 ∷ [])) [] 32 ≡ refused_with refused.Code 1
  pub code_behind_the_end : judged (image_of 1 [] (0 ∷ 255 ∷ [])) [] 32 ≡ refused_with refused.Code 1
  pub jump_into_arguments : judged into_arguments [] 32 ≡ refused_with refused.Jump 0
  pub jump_over_arguments : judged over_arguments [] 32 ≡ accepted 2
  pub counted_by_nine : judged (counted 2 9) [] 32 ≡ accepted 120
  pub counted_by_255 : judged (counted 2 255) [] 32 ≡ accepted 3072
  pub counted_in_version_one : judged (counted 1 9) [] 32 ≡ refused_with refused.Code 10
  pub counted_without_limit : judged (image_of 2 (percent ∷ []) (loop_code unlimited)) [] 32 ≡ refused_with refused.StoreRange 6
  pub unknown_tag : judged with_tag [] 32 ≡ Err (record { at = spot.Tag 0; kind = refused.TagUnknown })
