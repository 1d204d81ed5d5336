-- Bytes in turn against the tokens of a text.
use Rattle.std.proofs.Common.{◌≡◌, ℕ, ◌<◌, ◌≤◌, Bool, true, false, List, [], ◌∷◌, ◌++◌, length, Option, Some, None, Result, Ok, Err, refl, sym, ap, ◌∙◌, nat_lt, if◌then◌else◌, arith, ltb-true}
use Rattle.il_reader.specs.declared.fault.ReadFaultKind.{ReadFaultKind}
use Rattle.il_reader.specs.declared.fault.ReadFaultKind.TheVariants as fault
use Rattle.il_reader.specs.declared.token.Token.{Token}
use Rattle.il_reader.specs.declared.tree.Program.{Program}
use Rattle.il_reader.specs.declared.lexer.ByteFault.{ByteFault}
use Rattle.il_reader.specs.declared.lexer.Lexed.{Lexed}
use Rattle.il_reader.specs.declared.state.State.{State}
use Rattle.il_reader.specs.declared.state.State.TheVariants as state
use Rattle.il_reader.specs.declared.reader.Reader.{Reader}
use Rattle.il_reader.specs.Limit.{most_bytes}
use Rattle.il_reader.specs.Tokens.{lexed, at_end, line_behind}
use Rattle.il_reader.specs.Drafting.{Move}
use Rattle.il_reader.specs.Reading.{step, stepped, onward, taken, state_read, byte_read, fed_on, fed, opening, Outcome, Reads, AtFault, TooSoon, early, end_reached, end_read, judged, outcome, answered}
use Rattle.il_reader.specs.Grammar.{IsProgramText}
use Rattle.il_reader.specs.Lexemes.{Placed, placed, of_line}
use Rattle.il_reader.specs.Scanning.{Scan, Tokens, NoTokens, last_tokens, joined, scanned_on, scanned}
use Rattle.il_reader.specs.Laws.{ReadingIsExact, AtMostOneProgram}
use Rattle.il_reader.proofs.Back.{run_back}
use Rattle.il_reader.proofs.Rest.{run}
use Rattle.il_reader.proofs.Forth.{run_forth}
use Rattle.il_reader.proofs.LexemeTexts.{tokens_are_lexemes}

run_append : (s : State) (ts us : List Placed) → run s (ts ++ us) ≡ onward (run s ts) (λ s'. run s' us)
run_append s [] us = refl
run_append s (placed t m ∷ ts) us = go (λ s'. run_append s' ts us) (step s t m)
  where
    go : ((s' : State) → run s' (ts ++ us) ≡ onward (run s' ts) (λ r. run r us)) → (move : Move) → onward move (λ s'. run s' (ts ++ us)) ≡ onward (onward move (λ s'. run s' ts)) (λ r. run r us)
    go on (Ok s') = on s'
    go on (Err k) = refl

stepped_run : (s : State) (t : Option Token) (m : ℕ) → stepped s t m ≡ run s (of_line m t)
stepped_run s None m = refl
stepped_run s (Some t) m = same (step s t m)
  where
    same : (move : Move) → move ≡ onward move (λ s'. Ok s')
    same (Ok s') = refl
    same (Err k) = refl

pub taken_run : (s : State) (x : Lexed) (m : ℕ) → taken s x m ≡ run s (of_line m x.ended ++ of_line m x.own)
taken_run s x m = again (stepped s x.ended m) ∙ ap (λ z. onward z (λ s'. run s' (of_line m x.own))) (stepped_run s x.ended m) ∙ sym (run_append s (of_line m x.ended) (of_line m x.own))
  where
    again : (move : Move) → onward move (λ s'. stepped s' x.own m) ≡ onward move (λ s'. run s' (of_line m x.own))
    again (Ok s') = stepped_run s' x.own m
    again (Err k) = refl

end_reads : (l : ℕ) (k : ReadFaultKind) (move : Move) (p : Program) → end_reached l k move ≡ Reads p → move ≡ Ok (state.Over p)
end_reads l k (Ok (state.Over q)) p h = cc
end_reads l k (Ok _) p h = absurd (cc)
end_reads l k (Err _) p h = absurd (cc)

-- the tokens that a reading took
abbrev Took : Reader → List ℕ → Program → Type 0
Took r text p = (ts : List Placed) × (scanned r.line r.mode text ≡ Tokens ts) × (run r.state ts ≡ Ok (state.Over p))

took : (text : List ℕ) (r : Reader) (p : Program) → judged (fed r text) ≡ Reads p → Took r text p
took [] r p h = go (at_end r.mode) refl h
  where
    go : (x : Result (Option Token) ReadFaultKind) → at_end r.mode ≡ x → end_read r x ≡ Reads p → Took r [] p
    go (Ok t) e h =
        (of_line r.line t, ap (last_tokens r.line) e, sym (stepped_run r.state t r.line) ∙ end_reads r.last (early r.state) (stepped r.state t r.line) p h)
    go (Err k) e h = absurd (cc)
took (b ∷ bs) r p h = go (λ r' h. took bs r' p h) (lexed r.mode b) refl h
  where
    go : ((r' : Reader) → judged (fed r' bs) ≡ Reads p → Took r' bs p) → (x : Result Lexed ByteFault) → lexed r.mode b ≡ x → judged (fed_on (byte_read r b bs x) (λ r'. fed r' bs)) ≡ Reads p → Took r (b ∷ bs) p
    go on (Err k) e h = absurd (cc)
    go on (Ok x) e h = turn (taken r.state x r.line) refl h
      where
        turn : (move : Move) → taken r.state x r.line ≡ move → judged (fed_on (state_read r b bs x move) (λ r'. fed r' bs)) ≡ Reads p → Took r (b ∷ bs) p
        turn (Err k) w h = absurd (cc)
        turn (Ok s) w h = join (on (record { line = line_behind b r.line; last = r.line; mode = x.mode; state = s }) h)
          where
            join : Took (record { line = line_behind b r.line; last = r.line; mode = x.mode; state = s }) bs p → Took r (b ∷ bs) p
            join (us, g, i) =
                let here : List Placed = of_line r.line x.ended ++ of_line r.line x.own in
                (here ++ us, ap (λ z. scanned_on r.line z (λ q'. scanned (line_behind b r.line) q' bs)) e ∙ ap (joined here) g, run_append r.state here us ∙ ap (λ z. onward z (λ s'. run s' us)) (sym (taken_run r.state x r.line) ∙ w) ∙ i)

takes : (text : List ℕ) (r : Reader) (p : Program) (ts : List Placed) → scanned r.line r.mode text ≡ Tokens ts → run r.state ts ≡ Ok (state.Over p) → judged (fed r text) ≡ Reads p
takes [] r p ts e h = go (at_end r.mode) e
  where
    go : (x : Result (Option Token) ReadFaultKind) → last_tokens r.line x ≡ Tokens ts → end_read r x ≡ Reads p
    go (Ok t) e =
        let same : of_line r.line t ≡ ts = cc in
        ap (end_reached r.last (early r.state)) (stepped_run r.state t r.line ∙ ap (run r.state) same ∙ h)
    go (Err k) e = absurd (cc)
takes (b ∷ bs) r p ts e h = go (λ r' us e h. takes bs r' p us e h) (lexed r.mode b) e
  where
    go : ((r' : Reader) (us : List Placed) → scanned r'.line r'.mode bs ≡ Tokens us → run r'.state us ≡ Ok (state.Over p) → judged (fed r' bs) ≡ Reads p) → (x : Result Lexed ByteFault) → scanned_on r.line x (λ q'. scanned (line_behind b r.line) q' bs) ≡ Tokens ts → judged (fed_on (byte_read r b bs x) (λ r'. fed r' bs)) ≡ Reads p
    go on (Err k) e = absurd (cc)
    go on (Ok x) e = rest (scanned (line_behind b r.line) x.mode bs) refl e
      where
        here : List Placed
        here = of_line r.line x.ended ++ of_line r.line x.own

        rest : (z : Scan) → scanned (line_behind b r.line) x.mode bs ≡ z → joined here z ≡ Tokens ts → judged (fed_on (state_read r b bs x (taken r.state x r.line)) (λ r'. fed r' bs)) ≡ Reads p
        rest NoTokens g e = absurd (cc)
        rest (Tokens us) g e =
            let same : here ++ us ≡ ts = cc in
            turn (taken r.state x r.line) (ap (λ z. onward z (λ s'. run s' us)) (taken_run r.state x r.line) ∙ sym (run_append r.state here us) ∙ ap (run r.state) same ∙ h)
          where
            turn : (move : Move) → onward move (λ s'. run s' us) ≡ Ok (state.Over p) → judged (fed_on (state_read r b bs x move) (λ r'. fed r' bs)) ≡ Reads p
            turn (Ok s) w = on (record { line = line_behind b r.line; last = r.line; mode = x.mode; state = s }) us g w
            turn (Err k) w = absurd (cc)

pub read_is_program : (text : List ℕ) (p : Program) → outcome text ≡ Reads p → IsProgramText text p
read_is_program text p h = join (took text opening p h)
  where
    join : Took opening text p → IsProgramText text p
    join (ts, e, r) = (ts, (tokens_are_lexemes text ts).0 e, run_back state.Start ts p r)

pub program_is_read : (text : List ℕ) (p : Program) → IsProgramText text p → outcome text ≡ Reads p
program_is_read text p (ts, e, h) = takes text opening p ts ((tokens_are_lexemes text ts).1 e) (run_forth ts p h)

answers : (o : Outcome) (p : Program) → answered o ≡ Ok p → o ≡ Reads p
answers (Reads q) p h = cc
answers (AtFault f) p h = absurd (cc)
answers (TooSoon f) p h = absurd (cc)

pub reading_is_exact : ReadingIsExact
reading_is_exact text p = (there (nat_lt most_bytes (length text)) refl, (λ (h, few). back (nat_lt most_bytes (length text)) refl h few))
  where
    there : (b : Bool) → nat_lt most_bytes (length text) ≡ b → (if b then Err (record { line = 1; kind = fault.TooLong }) else answered (outcome text)) ≡ Ok p → IsProgramText text p × (length text ≤ most_bytes)
    there true e h = absurd (cc)
    there false e h = (read_is_program text p (answers (outcome text) p h), small e)
      where
        small : nat_lt most_bytes (length text) ≡ false → length text ≤ most_bytes
        small e = grind (arith, Rattle.std.proofs.lemmas.Bool.Decides.nat_tests)

    back : (b : Bool) → nat_lt most_bytes (length text) ≡ b → IsProgramText text p → length text ≤ most_bytes → (if b then Err (record { line = 1; kind = fault.TooLong }) else answered (outcome text)) ≡ Ok p
    back false e h few = ap answered (program_is_read text p h)
    back true e h few =
        let large : most_bytes < length text = ltb-true _ _ e in
        absurd (omega arith)

pub at_most_one_program : AtMostOneProgram
at_most_one_program text p q h i =
    let e = program_is_read text p h in
    let w = program_is_read text q i in
    cc
