-- One byte of a text read, before the rest.
use Rattle.std.proofs.Common.{◌≡◌, ℕ, suc, ◌+◌, ◌≤◌, Bool, true, false, List, [], ◌∷◌, length, get_or, Result, Ok, Err, sym, ap, ◌∙◌, arith, if◌then◌else◌, nat_eq}
use Rattle.il_reader.specs.declared.fault.ReadFault.{ReadFault}
use Rattle.il_reader.specs.declared.lexer.ByteFault.{ByteFault}
use Rattle.il_reader.specs.declared.lexer.Lexed.{Lexed}
use Rattle.il_reader.specs.declared.reader.Reader.{Reader}
use Rattle.il_reader.specs.Tokens.{lexed, line_behind}
use Rattle.il_reader.specs.Drafting.{Move}
use Rattle.il_reader.specs.Reading.{byte_fed, byte_read, fed, fed_on, state_read, taken}
use Rattle.il_reader.proofs.LexerLemmas.{behind_first, behind_first_is}

pub one_byte : (whole fault_or : Result Reader ReadFault) (r next : Reader) (rest : List ℕ) → 1 ≤ length rest → whole ≡ fed r rest → fault_or ≡ byte_fed r (get_or rest 0 0) (behind_first rest) → fault_or ≡ Ok next → whole ≡ fed next (behind_first rest)
one_byte whole x r next [] h e f g = absurd (omega arith)
one_byte whole x r next (b ∷ bs) h e f g =
    let same : byte_fed r b bs ≡ Ok next = ap (byte_fed r b) (sym (behind_first_is b bs)) ∙ sym f ∙ g in
    e ∙ ap (λ z. fed_on z (λ r'. fed r' bs)) same ∙ ap (fed next) (sym (behind_first_is b bs))

-- a fault ends the reading
pub one_fault : (whole fault_or : Result Reader ReadFault) (r : Reader) (f : ReadFault) (rest : List ℕ) → 1 ≤ length rest → whole ≡ fed r rest → fault_or ≡ byte_fed r (get_or rest 0 0) (behind_first rest) → fault_or ≡ Err f → whole ≡ Err f
one_fault whole x r f [] h e g i = absurd (omega arith)
one_fault whole x r f (b ∷ bs) h e g i =
    let same : byte_fed r b bs ≡ Err f = ap (byte_fed r b) (sym (behind_first_is b bs)) ∙ sym g ∙ i in
    e ∙ ap (λ z. fed_on z (λ r'. fed r' bs)) same

-- a byte ends one line at most
line_step : (b n : ℕ) → line_behind b n ≤ suc n
line_step b n = either (nat_eq b 10)
  where
    either : (c : Bool) → (if c then suc n else n) ≤ suc n
    either true = omega arith
    either false = omega arith

state_line : (r next : Reader) (b : ℕ) (bs : List ℕ) (x : Lexed) (m : Move) → state_read r b bs x m ≡ Ok next → next.line ≤ suc r.line
state_line r next b bs x (Ok s) e =
    let same : line_behind b r.line ≡ next.line = ap (λ z. line_in z) e in
    let few : line_behind b r.line ≤ suc r.line = line_step b r.line in
    omega arith
  where
    line_in : Result Reader ReadFault → ℕ
    line_in (Ok z) = z.line
    line_in (Err f) = 0
state_line r next b bs x (Err k) e = absurd (cc)

byte_line : (r next : Reader) (b : ℕ) (bs : List ℕ) (x : Result Lexed ByteFault) → byte_read r b bs x ≡ Ok next → next.line ≤ suc r.line
byte_line r next b bs (Ok x) e = state_line r next b bs x (taken r.state x r.line) e
byte_line r next b bs (Err k) e = absurd (cc)

pub few_lines : (fault_or : Result Reader ReadFault) (r next : Reader) (rest : List ℕ) (limit : ℕ) → 1 ≤ length rest → r.line + length rest ≤ limit → fault_or ≡ byte_fed r (get_or rest 0 0) (behind_first rest) → fault_or ≡ Ok next → next.line + length (behind_first rest) ≤ limit
few_lines x r next [] limit h few f g = absurd (omega arith)
few_lines x r next (b ∷ bs) limit h few f g =
    let one : next.line ≤ suc r.line = byte_line r next b (behind_first (b ∷ bs)) (lexed r.mode b) (sym f ∙ g) in
    let size : length (behind_first (b ∷ bs)) ≡ length bs = ap length (behind_first_is b bs) in
    omega arith
