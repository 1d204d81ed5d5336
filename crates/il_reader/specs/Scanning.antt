-- The tokens of a text as they are found, byte by byte.
use Rattle.std.specs.Prelude.{ℕ, List, [], ◌∷◌, ◌++◌, Option, Result, Ok, Err}
use Rattle.il_reader.specs.declared.fault.ReadFaultKind.{ReadFaultKind}
use Rattle.il_reader.specs.declared.lexer.ByteFault.{ByteFault}
use Rattle.il_reader.specs.declared.lexer.Lexed.{Lexed}
use Rattle.il_reader.specs.declared.lexer.Mode.{Mode}
use Rattle.il_reader.specs.declared.lexer.Mode.TheVariants as mode
use Rattle.il_reader.specs.declared.token.Token.{Token}
use Rattle.il_reader.specs.Tokens.{lexed, at_end, line_behind}
use Rattle.il_reader.specs.Lexemes.{Placed, of_line}

-- a text's tokens, or that there are bytes that are no token
pub data Scan : Type 0 where
  Tokens : List Placed → Scan
  NoTokens : Scan

abbrev pub last_tokens : ℕ → Result (Option Token) ReadFaultKind → Scan
last_tokens n (Ok t) = Tokens (of_line n t)
last_tokens n (Err k) = NoTokens

abbrev pub joined : List Placed → Scan → Scan
joined ts (Tokens us) = Tokens (ts ++ us)
joined ts NoTokens = NoTokens

abbrev pub scanned_on : ℕ → Result Lexed ByteFault → (Mode → Scan) → Scan
scanned_on n (Ok x) on = joined (of_line n x.ended ++ of_line n x.own) (on x.mode)
scanned_on n (Err f) on = NoTokens

abbrev pub scanned : ℕ → Mode → List ℕ → Scan
scanned n q [] = last_tokens n (at_end q)
scanned n q (b ∷ bs) = scanned_on n (lexed q b) (λ q'. scanned (line_behind b n) q' bs)

abbrev pub tokens_of : List ℕ → Scan
tokens_of text = scanned 1 mode.Clear text
