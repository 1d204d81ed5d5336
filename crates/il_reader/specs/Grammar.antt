-- The grammar over tokens: which tokens, each with its line, spell a program.
-- IEC 61131-3 edition 2, annex B.1.4.3 variables, B.1.5.3 programs, B.2 instruction list.
use Rattle.std.specs.Prelude.{◌≡◌, ◌⊎◌, ℕ, suc, Bool, true, false, ℤ, List, [], ◌∷◌, ◌++◌, map, Option, Some, None}
use Rattle.point_types.specs.declared.il_type.IlType.{IlType}
use Rattle.point_types.specs.declared.operator.Condition.{Condition}
use Rattle.point_types.specs.Value.{is_bool}
use Rattle.il_reader.specs.declared.scope.Scope.{Scope}
use Rattle.il_reader.specs.declared.token.Keyword.TheVariants as word
use Rattle.il_reader.specs.declared.token.Token.{Token}
use Rattle.il_reader.specs.declared.token.Token.TheVariants as token
use Rattle.il_reader.specs.declared.tree.Action.{Action}
use Rattle.il_reader.specs.declared.tree.Operand.{Operand}
use Rattle.il_reader.specs.declared.tree.Action.TheVariants as action
use Rattle.il_reader.specs.declared.tree.External.{External}
use Rattle.il_reader.specs.declared.tree.Program.{Program}
use Rattle.il_reader.specs.declared.tree.Statement.{Statement}
use Rattle.il_reader.specs.declared.tree.Variable.{Variable}
use Rattle.il_reader.specs.declared.typing.Entry.{Entry}
use Rattle.il_reader.specs.declared.typing.Typing.{Typing}
use Rattle.il_reader.specs.Declaration.{among, is_taken, has_room, with_name, empty_scope, value_of, whole, begun, bounded, started, made, variable_of, external_of}
use Rattle.il_reader.specs.Nesting.{takes_parentheses, has_depth, is_filled}
use Rattle.il_reader.specs.Instructions.{operand_of, is_loop, turns_of}
use Rattle.il_reader.specs.Lexemes.{Placed, placed, AreTokens}
use Rattle.il_reader.specs.Written.{Written, Inner}
use Rattle.il_reader.specs.Written as form

-- the tokens after line ends
abbrev pub past : List Placed → List Placed
past [] = []
past (placed token.LineEnd l ∷ ts) = past ts
past (t ∷ ts) = t ∷ ts

-- after line ends comes a token of a line
abbrev pub IsNext : Token → ℕ → List Placed → List Placed → Type 0
IsNext t l from to = past from ≡ placed t l ∷ to

-- a line's end
abbrev pub IsEnd : List Placed → List Placed → Type 0
IsEnd from to = (l : ℕ) × (from ≡ placed token.LineEnd l ∷ to)

-- what stands after an opening parenthesis: an operand or nothing, and the line's end
abbrev pub IsEntry : Option Operand → List Placed → List Placed → Type 0
IsEntry None from to = IsEnd from to
IsEntry (Some x) from to = (t : Token) × (m : ℕ) × (a : List Placed) × (operand_of t ≡ Some x) × (from ≡ placed t m ∷ a) × IsEnd a to

abbrev mutual
  -- an instruction that begins in line l and works on the result alone, without its line's end; depth: the parentheses around it
  pub IsSimple : ℕ → ℕ → Written → List Placed → List Placed → Type 0
  IsSimple depth l (form.Load negated x) from to = (t : Token) × (m : ℕ) × (operand_of t ≡ Some x) × (from ≡ placed (token.Keyword (word.Load negated)) l ∷ placed t m ∷ to)
  IsSimple depth l (form.Apply o negated x) from to = (t : Token) × (m : ℕ) × (operand_of t ≡ Some x) × (from ≡ placed (token.Keyword (word.Apply o negated)) l ∷ placed t m ∷ to)
  IsSimple depth l (form.Defer o negated first inner) from to =
      (m : ℕ) × (a b : List Placed) × (takes_parentheses o ≡ true) × (has_depth depth ≡ true) × (is_filled first inner ≡ true) × (from ≡ placed (token.Keyword (word.Apply o negated)) l ∷ placed token.Open m ∷ a) × IsEntry first a b × IsInner (suc depth) inner b to
  IsSimple depth l (form.Limit x y) from to =
      (t u : Token) × (m i n : ℕ) × (operand_of t ≡ Some x) × (operand_of u ≡ Some y) × (from ≡ placed (token.Keyword word.Limit) l ∷ placed t m ∷ placed token.Comma i ∷ placed u n ∷ to)
  IsSimple depth l (form.Select x y) from to =
      (t u : Token) × (m i n : ℕ) × (operand_of t ≡ Some x) × (operand_of u ≡ Some y) × (from ≡ placed (token.Keyword word.Select) l ∷ placed t m ∷ placed token.Comma i ∷ placed u n ∷ to)
  IsSimple depth l form.Invert from to = from ≡ placed (token.Keyword word.Not) l ∷ to
  IsSimple depth l form.Absolute from to = from ≡ placed (token.Keyword word.Absolute) l ∷ to
  IsSimple depth l (form.Convert j k) from to = from ≡ placed (token.Keyword (word.Convert j k)) l ∷ to

  -- the lines inside parentheses, and the closing one without its line's end
  pub IsInner : ℕ → Inner → List Placed → List Placed → Type 0
  IsInner depth form.Close from to = (m : ℕ) × IsNext token.Close m from to
  IsInner depth (form.Then l x rest) from to = (a b : List Placed) × IsSimple depth l x (past from) a × IsEnd a b × IsInner depth rest b to

-- a jump, which a pragma counts
abbrev pub IsJump : ℕ → Condition → List ℕ → Option ℕ → List Placed → List Placed → Type 0
IsJump l c n None from to = (m : ℕ) × (from ≡ placed (token.Keyword (word.Jump c)) l ∷ placed (token.Name n) m ∷ to)
IsJump l c n (Some turns) from to =
    (w : List ℕ) × (v : ℤ) × (h i j k m : ℕ) × (is_loop w ≡ true) × (turns_of v ≡ Some turns) × (from ≡ placed token.OpenBrace l ∷ placed (token.Name w) h ∷ placed (token.Decimal v) i ∷ placed token.CloseBrace j ∷ placed (token.Keyword (word.Jump c)) k ∷ placed (token.Name n) m ∷ to)

-- an instruction that begins in line l, without its line's end
abbrev pub IsAction : ℕ → Action → List Placed → List Placed → Type 0
IsAction l (action.Compute x) from to = IsSimple 0 l x from to
IsAction l (action.Store negated n) from to = (m : ℕ) × (from ≡ placed (token.Keyword (word.Store negated)) l ∷ placed (token.Name n) m ∷ to)
IsAction l (action.Set value n) from to = (m : ℕ) × (from ≡ placed (token.Keyword (word.Set value)) l ∷ placed (token.Name n) m ∷ to)
IsAction l (action.Jump c n turns) from to = IsJump l c n turns from to
IsAction l (action.Return c) from to = from ≡ placed (token.Keyword (word.Return c)) l ∷ to

-- what stands after a label: an instruction, or nothing
abbrev pub IsLabelled : Option Action → List Placed → List Placed → Type 0
IsLabelled None from to = from ≡ to
IsLabelled (Some x) from to = (l : ℕ) × IsAction l x from to

-- a line that begins in line l, without its end: an instruction, or a label that no line before it has
abbrev pub IsLine : List (List ℕ) → ℕ → Option (List ℕ) → Option Action → List Placed → List Placed → Type 0
IsLine labels l None None from to = ⊥
IsLine labels l None (Some x) from to = IsAction l x from to
IsLine labels l (Some n) x from to =
    (m : ℕ) × (a : List Placed) × (among n labels ≡ false) × (from ≡ placed (token.Name n) l ∷ placed token.Colon m ∷ a) × IsLabelled x a to

abbrev pub labels_with : List (List ℕ) → Option (List ℕ) → List (List ℕ)
labels_with labels None = labels
labels_with labels (Some n) = labels ++ n ∷ []

-- the body, END_PROGRAM and line ends; labels: those of the lines before
abbrev pub IsBody : List (List ℕ) → List Statement → ℕ → List Placed → Type 0
IsBody labels [] e from = (a : List Placed) × IsNext (token.Keyword word.EndProgram) e from a × (past a ≡ [])
IsBody labels (s ∷ body) e from =
    (a b : List Placed) × IsLine labels s.line s.label s.action (past from) a × IsEnd a b × IsBody (labels_with labels s.label) body e b

-- What is declared of a name: a variable's range and start value, or an external's type.
pub data Nature : Type 0 where
  OfVariable : Typing → Nature
  OfExternal : IlType → Nature

-- A declaration: its names, and what is said of them.
pub record Declaration : Type 0 where
  pub first : Entry
  pub others : List Entry
  pub nature : Nature

-- A block of declarations, of externals or of variables.
pub record Block : Type 0 where
  pub external : Bool
  pub declarations : List Declaration

abbrev pub entries_of : Declaration → List Entry
entries_of x = x.first ∷ x.others

-- the names that are declared, with those of a declaration, of a block
abbrev pub with_entries : Bool → Scope → List Entry → Scope
with_entries x s [] = s
with_entries x s (e ∷ es) = with_entries x (with_name x s e.name) es

abbrev pub with_declarations : Bool → Scope → List Declaration → Scope
with_declarations x s [] = s
with_declarations x s (y ∷ ys) = with_declarations x (with_entries x s (entries_of y)) ys

-- a name that may be declared
abbrev pub IsFree : Bool → Scope → List ℕ → Type 0
IsFree x s n = (is_taken x n s ≡ false) × (has_room x s ≡ true)

-- further names of a declaration; s: the names declared before
abbrev pub AreOthers : Bool → Scope → List Entry → List Placed → List Placed → Type 0
AreOthers x s [] from to = from ≡ to
AreOthers x s (e ∷ es) from to =
    (i : ℕ) × (a b : List Placed) × IsFree x s e.name × IsNext token.Comma i from a × IsNext (token.Name e.name) e.line a b × AreOthers x (with_name x s e.name) es b to

-- a subrange in parentheses: its ends are literals of the type, the high one not below the low one; a BOOL has none
abbrev pub IsSubrange : IlType → Typing → List Placed → List Placed → Type 0
IsSubrange k y from to =
    (t u : Token) × (z : Typing) × (g h i j l : ℕ) × (a b c d : List Placed) × (is_bool k ≡ false) × IsNext token.Open g from a × IsNext t h a b × (made (begun k) (value_of k t) ≡ Some z) × IsNext token.Dots i b c × IsNext u j c d × (made (bounded z) (value_of z.kind u) ≡ Some y) × IsNext token.Close l d to

-- after a type: a subrange, or none
abbrev pub IsRange : Typing → Typing → List Placed → List Placed → Type 0
IsRange w y from to = ((w ≡ y) × (from ≡ to)) ⊎ IsSubrange w.kind y from to

-- a literal in the range as start value, or none; and the semicolon
abbrev pub IsStart : Typing → Typing → List Placed → List Placed → Type 0
IsStart y z from to =
    ((i : ℕ) × (y ≡ z) × IsNext token.Semicolon i from to) ⊎ ((t : Token) × (i j l : ℕ) × (a b : List Placed) × IsNext token.Assign i from a × IsNext t j a b × (made (started y) (value_of y.kind t) ≡ Some z) × IsNext token.Semicolon l b to)

-- after the colon: a type with what belongs to it
abbrev pub IsNature : Bool → Nature → List Placed → List Placed → Type 0
IsNature false (OfVariable z) from to =
    (k : IlType) × (w y : Typing) × (j : ℕ) × (a b : List Placed) × IsNext (token.Keyword (word.Type k)) j from a × (whole k ≡ Some w) × IsRange w y a b × IsStart y z b to
IsNature true (OfExternal k) from to = (j l : ℕ) × (a : List Placed) × IsNext (token.Keyword (word.Type k)) j from a × IsNext token.Semicolon l a to
IsNature x n from to = ⊥

-- after the names
abbrev pub IsTyped : Bool → Nature → List Placed → List Placed → Type 0
IsTyped x n from to = (i : ℕ) × (a : List Placed) × IsNext token.Colon i from a × IsNature x n a to

abbrev pub IsDeclaration : Bool → Scope → Declaration → List Placed → List Placed → Type 0
IsDeclaration x s y from to =
    (a b : List Placed) × IsFree x s y.first.name × IsNext (token.Name y.first.name) y.first.line from a × AreOthers x (with_name x s y.first.name) y.others a b × IsTyped x y.nature b to

-- the declarations of a block, and END_VAR
abbrev pub AreDeclarations : Bool → Scope → List Declaration → List Placed → List Placed → Type 0
AreDeclarations x s [] from to = (l : ℕ) × IsNext (token.Keyword word.EndVar) l from to
AreDeclarations x s (y ∷ ys) from to = (a : List Placed) × IsDeclaration x s y from a × AreDeclarations x (with_entries x s (entries_of y)) ys a to

abbrev pub block_token : Bool → Token
block_token false = token.Keyword word.Var
block_token true = token.Keyword word.VarExternal

abbrev pub AreBlocks : Scope → List Block → List Placed → List Placed → Type 0
AreBlocks s [] from to = from ≡ to
AreBlocks s (x ∷ bs) from to =
    (l : ℕ) × (a b : List Placed) × IsNext (block_token x.external) l from a × AreDeclarations x.external s x.declarations a b × AreBlocks (with_declarations x.external s x.declarations) bs b to

-- the variables and the externals of a declaration, of a block, of all blocks
abbrev pub variables_with : Nature → List Entry → List Variable
variables_with (OfVariable y) es = map (variable_of y) es
variables_with (OfExternal k) es = []

abbrev pub externals_with : Nature → List Entry → List External
externals_with (OfVariable y) es = []
externals_with (OfExternal k) es = map (external_of k) es

abbrev pub block_variables : List Declaration → List Variable
block_variables [] = []
block_variables (x ∷ xs) = variables_with x.nature (entries_of x) ++ block_variables xs

abbrev pub block_externals : List Declaration → List External
block_externals [] = []
block_externals (x ∷ xs) = externals_with x.nature (entries_of x) ++ block_externals xs

abbrev pub variables_of : List Block → List Variable
variables_of [] = []
variables_of (x ∷ bs) = block_variables x.declarations ++ variables_of bs

abbrev pub externals_of : List Block → List External
externals_of [] = []
externals_of (x ∷ bs) = block_externals x.declarations ++ externals_of bs

-- the tokens of a program
abbrev pub IsProgram : List Placed → Program → Type 0
IsProgram ts p =
    (i j : ℕ) × (a b c : List Placed) × (bs : List Block) × IsNext (token.Keyword word.Program) i ts a × IsNext (token.Name p.name) j a b × AreBlocks empty_scope bs b c × IsBody [] p.statements p.end_line c × (p.variables ≡ variables_of bs) × (p.externals ≡ externals_of bs)

-- a text that spells a program
abbrev pub IsProgramText : List ℕ → Program → Type 0
IsProgramText text p = (ts : List Placed) × AreTokens text ts × IsProgram ts p
