-- The tokens of a text, byte by byte: what stands open before a byte, and which tokens the byte ends and is.
-- IEC 61131-3 edition 2, 2.1 (characters, identifiers, keywords, comments), 2.2.1 numeric literals, 3.2 instruction list.
use Rattle.std.specs.Prelude.{ℕ, suc, ◌+◌, ◌-◌, Bool, true, false, not, ◌&&◌, ◌||◌, ℤ, pos, ◌+ℤ◌, ◌-ℤ◌, ◌*ℤ◌, List, [], ◌∷◌, ◌++◌, length, if◌then◌else◌, Option, Some, None, Result, Ok, Err, nat_eq, nat_lt, bytes_eq, codes, option_map, filter, map}
use Rattle.std.specs.List.{flat_map}
use Rattle.point_types.specs.declared.il_type.IlType.{IlType}
use Rattle.point_types.specs.declared.il_type.IlType.TheVariants as il
use Rattle.point_types.specs.declared.operator.Operator.TheVariants as op
use Rattle.point_types.specs.declared.operator.Condition.TheVariants as when
use Rattle.point_types.specs.Name.{is_between, is_digit, is_letter, is_name_byte, is_underscore, folded, most_characters, name_of}
use Rattle.point_types.specs.Value.{low_of, high_of, int_eq, is_within}
use Rattle.il_reader.specs.declared.fault.ReadFaultKind.{ReadFaultKind}
use Rattle.il_reader.specs.declared.fault.ReadFaultKind.TheVariants as fault
use Rattle.il_reader.specs.declared.token.Keyword.{Keyword}
use Rattle.il_reader.specs.declared.token.Keyword.TheVariants as word
use Rattle.il_reader.specs.declared.token.Token.{Token}
use Rattle.il_reader.specs.declared.token.Token.TheVariants as token
use Rattle.il_reader.specs.declared.numeral.Base.{Base}
use Rattle.il_reader.specs.declared.numeral.Base.TheVariants as base
use Rattle.il_reader.specs.declared.numeral.Spelling.{Spelling}
use Rattle.il_reader.specs.declared.numeral.Spelling.TheVariants as spelling
use Rattle.il_reader.specs.declared.lexer.Mode.{Mode}
use Rattle.il_reader.specs.declared.lexer.Mode.TheVariants as mode
use Rattle.il_reader.specs.declared.lexer.ByteFault.{ByteFault}
use Rattle.il_reader.specs.declared.lexer.Lexed.{Lexed}

-- Words with a meaning of their own.

-- PROGRAM .. END_PROGRAM, VAR .. END_VAR and the values of BOOL
abbrev pub grammar_keywords : List (List ℕ × Keyword)
grammar_keywords =
    (codes "program", word.Program) ∷ (codes "end_program", word.EndProgram) ∷ (codes "var", word.Var) ∷ (codes "var_external", word.VarExternal) ∷ (codes "end_var", word.EndVar) ∷ (codes "true", word.Truth true) ∷ (codes "false", word.Truth false) ∷ []

-- the types of whole numbers
abbrev pub whole_types : List (List ℕ × IlType)
whole_types =
    (codes "sint", il.Sint) ∷ (codes "int", il.Int) ∷ (codes "dint", il.Dint) ∷ (codes "lint", il.Lint) ∷ (codes "usint", il.Usint) ∷ (codes "uint", il.Uint) ∷ (codes "udint", il.Udint) ∷ []

abbrev pub type_keywords : List (List ℕ × Keyword)
type_keywords = (codes "bool", word.Type il.Bool) ∷ map (λ t. (t.0, word.Type t.1)) whole_types

-- the operators, each with the modifiers that it takes
abbrev pub operator_keywords : List (List ℕ × Keyword)
operator_keywords =
    (codes "ld", word.Load false) ∷ (codes "ldn", word.Load true) ∷ (codes "st", word.Store false) ∷ (codes "stn", word.Store true) ∷ (codes "s", word.Set true) ∷ (codes "r", word.Set false) ∷ (codes "jmp", word.Jump when.Always) ∷ (codes "jmpc", word.Jump when.IfTrue) ∷ (codes "jmpcn", word.Jump when.IfFalse) ∷ (codes "ret", word.Return when.Always) ∷ (codes "retc", word.Return when.IfTrue) ∷ (codes "retcn", word.Return when.IfFalse) ∷ (codes "and", word.Apply op.And false) ∷ (codes "andn", word.Apply op.And true) ∷ (codes "or", word.Apply op.Or false) ∷ (codes "orn", word.Apply op.Or true) ∷ (codes "xor", word.Apply op.Xor false) ∷ (codes "xorn", word.Apply op.Xor true) ∷ (codes "add", word.Apply op.Add false) ∷ (codes "sub", word.Apply op.Sub false) ∷ (codes "mul", word.Apply op.Mul false) ∷ (codes "div", word.Apply op.Div false) ∷ (codes "mod", word.Apply op.Mod false) ∷ (codes "gt", word.Apply op.Gt false) ∷ (codes "ge", word.Apply op.Ge false) ∷ (codes "eq", word.Apply op.Eq false) ∷ (codes "ne", word.Apply op.Ne false) ∷ (codes "le", word.Apply op.Le false) ∷ (codes "lt", word.Apply op.Lt false) ∷ (codes "min", word.Apply op.Min false) ∷ (codes "max", word.Apply op.Max false) ∷ (codes "limit", word.Limit) ∷ (codes "sel", word.Select) ∷ (codes "not", word.Not) ∷ (codes "abs", word.Absolute) ∷ []

abbrev pub plain_keywords : List (List ℕ × Keyword)
plain_keywords = grammar_keywords ++ type_keywords ++ operator_keywords

-- the conversions from a type to each other one
abbrev pub conversions_from : List ℕ × IlType → List (List ℕ × Keyword)
conversions_from t = map (λ u. (t.0 ++ codes "_to_" ++ u.0, word.Convert t.1 u.1)) (filter (λ u. not (bytes_eq t.0 u.0)) whole_types)

abbrev pub conversion_keywords : List (List ℕ × Keyword)
conversion_keywords = flat_map conversions_from whole_types

abbrev pub look_up : List ℕ → List (List ℕ × Keyword) → Option Keyword
look_up w [] = None
look_up w ((v, k) ∷ ks) = if bytes_eq w v then Some k else look_up w ks

abbrev pub or_else : Option Keyword → Option Keyword → Option Keyword
or_else (Some k) other = Some k
or_else None other = other

unfoldable pub keyword : List ℕ → Option Keyword
keyword w = or_else (look_up w plain_keywords) (look_up w conversion_keywords)

abbrev pub keyword_or : Option Keyword → List ℕ → Option Token
keyword_or (Some k) w = Some (token.Keyword k)
keyword_or None w = option_map token.Name (name_of w)

-- a word in lower case; none where it is no name
abbrev pub word_token : List ℕ → Option Token
word_token w = keyword_or (keyword w) w

-- & is AND
abbrev pub and_token : Bool → Token
and_token negated = token.Keyword (word.Apply op.And negated)

-- Numbers.

-- the value of a digit, letters in either case
abbrev pub digit_of : ℕ → Option ℕ
digit_of b = if is_digit b then Some (b - 48) else if is_between 97 102 (folded b) then Some ((folded b - 97) + 10) else None

-- how many digits a spelling has
abbrev pub radix : Spelling → ℕ
radix (spelling.Based base.Two) = 2
radix (spelling.Based base.Eight) = 8
radix (spelling.Based base.Sixteen) = 16
radix _ = 10

abbrev pub below : ℕ → Option ℕ → Option ℕ
below r (Some d) = if nat_lt d r then Some d else None
below r None = None

-- the value of a byte that is a digit of a spelling
abbrev pub digit_in : Spelling → ℕ → Option ℕ
digit_in s b = below (radix s) (digit_of b)

-- a number with one more digit
abbrev pub grown : Spelling → ℤ → ℕ → ℤ
grown (spelling.Signed true) n d = (pos 10 *ℤ n) -ℤ pos d
grown s n d = (pos (radix s) *ℤ n) +ℤ pos d

-- after an underscore no base can follow
abbrev pub spelled_on : Spelling → Spelling
spelled_on spelling.Plain = spelling.Decimal
spelled_on s = s

-- the bases: 2#, 8# and 16#
abbrev pub base_named : Spelling → ℤ → Option Base
base_named spelling.Plain n =
    if int_eq n (pos 2) then Some base.Two else if int_eq n (pos 8) then Some base.Eight else if int_eq n (pos 16) then Some base.Sixteen else None
base_named s n = None

-- a literal lies in its type, and in LINT where it has none of its own
abbrev pub limits_of : Option IlType → IlType
limits_of None = il.Lint
limits_of (Some k) = k

abbrev pub number_token : Option IlType → Spelling → ℤ → Token
number_token (Some k) s n = token.Typed k n
number_token None spelling.Plain n = token.Decimal n
number_token None spelling.Decimal n = token.Decimal n
number_token None s n = token.Number n

-- the type of the literals that a word and # begin, as INT#5
abbrev pub literal_type : Option Keyword → Option IlType
literal_type (Some (word.Type il.Bool)) = None
literal_type (Some (word.Type k)) = Some k
literal_type _ = None

-- One byte.

-- the byte can't follow, and has ended no token
abbrev pub fails : ReadFaultKind → Result Lexed ByteFault
fails k = Err (record { ended = None; kind = k })

-- no token ends, and none is whole
abbrev pub stands : Mode → Result Lexed ByteFault
stands q = Ok (record { ended = None; own = None; mode = q })

-- the byte is the end of a token, and none stood open before it
abbrev pub gives : Token → Result Lexed ByteFault
gives t = Ok (record { ended = None; own = Some t; mode = mode.Clear })

-- a number within its type
abbrev pub number_stands : Option IlType → Spelling → ℤ → Result Lexed ByteFault
number_stands k s n = if is_within (low_of (limits_of k)) (high_of (limits_of k)) n then stands (mode.Number k s n false) else fails fault.Literal

-- the first digit of a number without a sign; after a zero no base can follow
abbrev pub first_digit : Option IlType → ℕ → Result Lexed ByteFault
first_digit k b = if nat_eq b 48 then number_stands k spelling.Decimal (pos 0) else number_stands k spelling.Plain (pos (b - 48))

-- tokens of one byte: line end, comma, semicolon, closing parenthesis, braces
abbrev pub mark_of : ℕ → Result Lexed ByteFault
mark_of b =
    if nat_eq b 10 then gives token.LineEnd
    else if nat_eq b 44 then gives token.Comma
    else if nat_eq b 59 then gives token.Semicolon
    else if nat_eq b 41 then gives token.Close
    else if nat_eq b 123 then gives token.OpenBrace
    else if nat_eq b 125 then gives token.CloseBrace
    else fails fault.Word

-- blanks, and what begins a token of several bytes: carriage return, opening parenthesis, colon, dot, &, signs
abbrev pub opening_of : ℕ → Result Lexed ByteFault
opening_of b =
    if nat_eq b 32 || nat_eq b 9 then stands mode.Clear
    else if nat_eq b 13 then stands mode.Carriage
    else if nat_eq b 40 then stands mode.Bracket
    else if nat_eq b 58 then stands mode.Colon
    else if nat_eq b 46 then stands mode.Dot
    else if nat_eq b 38 then stands mode.And
    else if nat_eq b 43 then stands (mode.Sign false)
    else if nat_eq b 45 then stands (mode.Sign true)
    else mark_of b

-- a byte where nothing is open
abbrev pub first_byte : ℕ → Result Lexed ByteFault
first_byte b =
    if is_letter (folded b) then stands (mode.Word (folded b ∷ []) (is_underscore (folded b)))
    else if is_digit b then first_digit None b
    else opening_of b

-- a token has ended before the byte
abbrev pub ended_by : Token → Result Lexed ByteFault → Result Lexed ByteFault
ended_by t (Ok x) = Ok (record { ended = Some t; own = x.own; mode = x.mode })
ended_by t (Err f) = Err (record { ended = Some t; kind = f.kind })

abbrev pub word_ended : Option Token → ℕ → Result Lexed ByteFault
word_ended (Some t) b = ended_by t (first_byte b)
word_ended None b = fails fault.Word

-- a word with one more character, no more than a name has and no two underscores in a row; gap: an underscore is the last of it
abbrev pub word_grown : List ℕ → Bool → ℕ → Result Lexed ByteFault
word_grown w gap b =
    if gap && is_underscore b then fails fault.Word
    else if nat_lt (length w) most_characters then stands (mode.Word (w ++ b ∷ []) (is_underscore b))
    else fails fault.Word

abbrev pub literal_begun : Option IlType → Result Lexed ByteFault
literal_begun (Some k) = stands (mode.Typed k)
literal_begun None = fails fault.Word

-- after a word
abbrev pub word_byte : List ℕ → Bool → ℕ → Result Lexed ByteFault
word_byte w gap b =
    if is_name_byte (folded b) then word_grown w gap (folded b)
    else if nat_eq b 35 then literal_begun (literal_type (keyword w))
    else word_ended (word_token w) b

-- after a type and #: a number
abbrev pub typed_byte : IlType → ℕ → Result Lexed ByteFault
typed_byte k b =
    if is_digit b then first_digit (Some k) b
    else if nat_eq b 43 then stands (mode.Number (Some k) (spelling.Signed false) (pos 0) true)
    else if nat_eq b 45 then stands (mode.Number (Some k) (spelling.Signed true) (pos 0) true)
    else fails fault.Literal

-- after a sign
abbrev pub sign_byte : Bool → ℕ → Result Lexed ByteFault
sign_byte negative b = if is_digit b then number_stands None (spelling.Signed negative) (grown (spelling.Signed negative) (pos 0) (b - 48)) else fails fault.Word

abbrev pub based : Option IlType → Option Base → Result Lexed ByteFault
based k (Some x) = stands (mode.Number k (spelling.Based x) (pos 0) true)
based k None = fails fault.Literal

-- after a digit: no digit of the same number
abbrev pub number_ended : Option IlType → Spelling → ℤ → ℕ → Result Lexed ByteFault
number_ended k s n b =
    if nat_eq b 95 then stands (mode.Number k (spelled_on s) n true)
    else if nat_eq b 35 then based k (base_named s n)
    else if is_name_byte (folded b) then fails fault.Literal
    else ended_by (number_token k s n) (first_byte b)

abbrev pub number_grown : Option ℕ → Option IlType → Spelling → ℤ → Bool → ℕ → Result Lexed ByteFault
number_grown (Some d) k s n wanting b = number_stands k s (grown s n d)
number_grown None k s n wanting b = if wanting then fails fault.Literal else number_ended k s n b

-- after the digits of a number, or where it wants one
abbrev pub number_byte : Option IlType → Spelling → ℤ → Bool → ℕ → Result Lexed ByteFault
number_byte k s n wanting b = number_grown (digit_in s b) k s n wanting b

-- after &
abbrev pub and_byte : ℕ → Result Lexed ByteFault
and_byte b = if nat_eq b 78 || nat_eq b 110 then stands mode.AndNot else ended_by (and_token false) (first_byte b)

-- after &N, which is one operator where no word goes on with the N
abbrev pub and_n_byte : ℕ → Result Lexed ByteFault
and_n_byte b = if is_name_byte (folded b) then ended_by (and_token false) (word_byte (110 ∷ []) false b) else ended_by (and_token true) (first_byte b)

abbrev pub lexed : Mode → ℕ → Result Lexed ByteFault
lexed mode.Clear b = first_byte b
lexed (mode.Word w gap) b = word_byte w gap b
lexed (mode.Number k s n wanting) b = number_byte k s n wanting b
lexed (mode.Typed k) b = typed_byte k b
lexed (mode.Sign negative) b = sign_byte negative b
lexed mode.And b = and_byte b
lexed mode.AndNot b = and_n_byte b
lexed mode.Bracket b = if nat_eq b 42 then stands mode.Comment else ended_by token.Open (first_byte b)
lexed mode.Comment b = if nat_eq b 42 then stands mode.Star else stands mode.Comment
lexed mode.Star b = if nat_eq b 41 then stands mode.Clear else if nat_eq b 42 then stands mode.Star else stands mode.Comment
lexed mode.Carriage b = if nat_eq b 10 then gives token.LineEnd else fails fault.Word
lexed mode.Colon b = if nat_eq b 61 then gives token.Assign else ended_by token.Colon (first_byte b)
lexed mode.Dot b = if nat_eq b 46 then gives token.Dots else fails fault.Word

-- what the end of the text makes of what is open: a last token or none; a comment that is never closed is Word, and
-- all else that isn't whole could still grow
abbrev pub grows : Option Token → Result (Option Token) ReadFaultKind
grows (Some t) = Ok (Some t)
grows None = Err fault.Header

abbrev pub at_end : Mode → Result (Option Token) ReadFaultKind
at_end mode.Clear = Ok None
at_end (mode.Word w gap) = grows (word_token w)
at_end (mode.Number k s n wanting) = if wanting then Err fault.Header else Ok (Some (number_token k s n))
at_end (mode.Typed k) = Err fault.Header
at_end (mode.Sign negative) = Err fault.Header
at_end mode.And = Ok (Some (and_token false))
at_end mode.AndNot = Ok (Some (and_token true))
at_end mode.Bracket = Ok (Some token.Open)
at_end mode.Comment = Err fault.Word
at_end mode.Star = Err fault.Word
at_end mode.Carriage = Err fault.Header
at_end mode.Colon = Ok (Some token.Colon)
at_end mode.Dot = Err fault.Header

-- Whether a colon comes next, as after a label.

abbrev pub is_colon : Mode → Bool
is_colon mode.Colon = true
is_colon _ = false

abbrev pub is_none : Option Token → Bool
is_none None = true
is_none (Some t) = false

-- what stands open after a byte that ends no token and is none
abbrev pub behind_blank : Result Lexed ByteFault → Option Mode
behind_blank (Ok x) = if is_none x.ended && is_none x.own then Some x.mode else None
behind_blank (Err f) = None

abbrev pub colon_behind : Option Mode → (Mode → Bool) → Bool
colon_behind (Some q) on = on q
colon_behind None on = false

-- after blanks; := is no colon
abbrev pub colon_comes : Mode → List ℕ → Bool
colon_comes q [] = is_colon q
colon_comes q (b ∷ bs) = if is_colon q then not (nat_eq b 61) else colon_behind (behind_blank (lexed q b)) (λ q'. colon_comes q' bs)

-- the line after a byte
abbrev pub line_behind : ℕ → ℕ → ℕ
line_behind b n = if nat_eq b 10 then suc n else n
