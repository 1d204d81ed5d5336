-- Worked spellings: the tokens of a text, or why it has none.
-- IEC 61131-3 edition 2, 2.1 (characters, identifiers, keywords, comments), 2.2.1 numeric literals.
use Rattle.std.specs.Prelude.{◌≡◌, ℕ, true, false, pos, negsuc, List, [], ◌∷◌, Option, Some, None, Result, Ok, Err, refl, codes}
use Rattle.point_types.specs.declared.il_type.IlType.TheVariants as il
use Rattle.point_types.specs.declared.operator.Operator.TheVariants as op
use Rattle.point_types.specs.Keyword.{is_reserved, plain_words, conversions}
use Rattle.il_reader.specs.declared.fault.ReadFaultKind.{ReadFaultKind}
use Rattle.il_reader.specs.declared.fault.ReadFaultKind.TheVariants as fault
use Rattle.il_reader.specs.declared.token.Keyword.TheVariants as word
use Rattle.il_reader.specs.declared.token.Token.{Token}
use Rattle.il_reader.specs.declared.token.Token.TheVariants as token
use Rattle.il_reader.specs.declared.lexer.Mode.{Mode}
use Rattle.il_reader.specs.declared.lexer.Mode.TheVariants as mode
use Rattle.il_reader.specs.declared.lexer.ByteFault.{ByteFault}
use Rattle.il_reader.specs.declared.lexer.Lexed.{Lexed}
use Rattle.il_reader.specs.Tokens.{lexed, at_end, keyword}

abbrev pub before : Option Token → Result (List Token) ReadFaultKind → Result (List Token) ReadFaultKind
before None ts = ts
before (Some t) (Ok ts) = Ok (t ∷ ts)
before (Some t) (Err k) = Err k

abbrev pub last_of : Result (Option Token) ReadFaultKind → Result (List Token) ReadFaultKind
last_of (Ok t) = before t (Ok [])
last_of (Err k) = Err k

abbrev pub on_from : Result Lexed ByteFault → (Mode → Result (List Token) ReadFaultKind) → Result (List Token) ReadFaultKind
on_from (Ok x) on = before x.ended (before x.own (on x.mode))
on_from (Err f) on = Err f.kind

abbrev pub spelled : Mode → List ℕ → Result (List Token) ReadFaultKind
spelled q [] = last_of (at_end q)
spelled q (b ∷ bs) = on_from (lexed q b) (λ q'. spelled q' bs)

abbrev pub tokens_in : List ℕ → Result (List Token) ReadFaultKind
tokens_in text = spelled mode.Clear text

pub signed_operand : tokens_in (codes "LD-7") ≡ Ok (token.Keyword (word.Load false) ∷ token.Number (negsuc 6) ∷ [])
unfolding keyword
signed_operand = refl

pub start_value : tokens_in (codes "a:INT:=5;") ≡ Ok (token.Name (codes "a") ∷ token.Colon ∷ token.Keyword (word.Type il.Int) ∷ token.Assign ∷ token.Decimal (pos 5) ∷ token.Semicolon ∷ [])
unfolding keyword is_reserved plain_words conversions
start_value = refl

pub conversion_word : tokens_in (codes "INT_TO_DINT") ≡ Ok (token.Keyword (word.Convert il.Int il.Dint) ∷ [])
unfolding keyword
conversion_word = refl

pub same_type_is_a_name : tokens_in (codes "INT_TO_INT") ≡ Ok (token.Name (codes "int_to_int") ∷ [])
unfolding keyword is_reserved plain_words conversions
same_type_is_a_name = refl

pub and_with_number : tokens_in (codes "&5") ≡ Ok (token.Keyword (word.Apply op.And false) ∷ token.Decimal (pos 5) ∷ [])
and_with_number = refl

pub and_not : tokens_in (codes "&N x") ≡ Ok (token.Keyword (word.Apply op.And true) ∷ token.Name (codes "x") ∷ [])
unfolding keyword is_reserved plain_words conversions
and_not = refl

pub and_with_name : tokens_in (codes "&Nx") ≡ Ok (token.Keyword (word.Apply op.And false) ∷ token.Name (codes "nx") ∷ [])
unfolding keyword is_reserved plain_words conversions
and_with_name = refl

pub parted_number : tokens_in (codes "1_000..16#7f") ≡ Ok (token.Decimal (pos 1000) ∷ token.Dots ∷ token.Number (pos 127) ∷ [])
parted_number = refl

pub typed_numbers : tokens_in (codes "INT#-5 INT#16#7F") ≡ Ok (token.Typed il.Int (negsuc 4) ∷ token.Typed il.Int (pos 127) ∷ [])
unfolding keyword
typed_numbers = refl

pub past_lint : tokens_in (codes "9999999999999999999") ≡ Err fault.Literal
past_lint = refl

pub past_its_type : tokens_in (codes "SINT#128") ≡ Err fault.Literal
unfolding keyword
past_its_type = refl

pub no_binary_digit : tokens_in (codes "2#2") ≡ Err fault.Literal
no_binary_digit = refl

pub base_behind_a_zero : tokens_in (codes "016#5") ≡ Err fault.Literal
base_behind_a_zero = refl

pub two_underscores : tokens_in (codes "a__b") ≡ Err fault.Word
two_underscores = refl
