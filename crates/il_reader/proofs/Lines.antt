-- The line at fault.
use Rattle.std.proofs.Common.{◌≡◌, ℕ, ℤ, zero, suc, ◌+◌, Bool, true, false, List, [], ◌∷◌, ◌++◌, Option, Some, None, Result, Ok, Err, refl, sym, ap, ◌∙◌, subst, if◌then◌else◌, nat_eq, arith, eqb-true}
use Rattle.point_types.specs.declared.il_type.IlType.{IlType}
use Rattle.il_reader.specs.declared.fault.ReadFault.{ReadFault}
use Rattle.il_reader.specs.declared.fault.ReadFaultKind.{ReadFaultKind}
use Rattle.il_reader.specs.declared.fault.ReadFaultKind.TheVariants as fault
use Rattle.il_reader.specs.declared.token.Token.{Token}
use Rattle.il_reader.specs.declared.tree.Program.{Program}
use Rattle.il_reader.specs.declared.lexer.ByteFault.{ByteFault}
use Rattle.il_reader.specs.declared.lexer.Lexed.{Lexed}
use Rattle.il_reader.specs.declared.numeral.Spelling.{Spelling}
use Rattle.il_reader.specs.declared.lexer.Mode.{Mode}
use Rattle.il_reader.specs.declared.lexer.Mode.TheVariants as mode
use Rattle.il_reader.specs.declared.reader.Reader.{Reader}
use Rattle.il_reader.specs.declared.state.State.TheVariants as state
use Rattle.il_reader.specs.Tokens.{fails, lexed, at_end, line_behind, word_token, word_ended, number_ended}
use Rattle.il_reader.specs.Grammar.{IsProgramText}
use Rattle.il_reader.specs.Drafting.{Move}
use Rattle.il_reader.specs.Reading.{stepped, taken, state_read, byte_read, byte_fed, fed_on, fed, opening, Outcome, Reads, AtFault, TooSoon, early, end_reached, end_read, judged, outcome}
use Rattle.il_reader.specs.Lexemes.{line_ends}
use Rattle.il_reader.specs.Laws.{lines_up_to, last_line, Begins, FaultIsInTheFirstLine, EarlyEndIsInTheLastLine}
use Rattle.il_reader.proofs.Bytes.{read_is_program, program_is_read}
use Rattle.il_reader.proofs.Live.{live_fed}
use Rattle.il_reader.proofs.Completion.{Ends_at, IsCalm, calm_ends}

-- a refusal in a line
abbrev FailsIn : ℕ → Result Reader ReadFault → Type 0
FailsIn n x = (k : ReadFaultKind) × (x ≡ Err (record { line = n; kind = k }))

-- What stands after a byte tells the kind of its fault alone: it is read in front of any bytes to the same, or refused in
-- its line in front of any.
abbrev InFrontOf : Reader → Result Reader ReadFault → Result Reader ReadFault → Type 0
InFrontOf r (Ok q) y = y ≡ Ok q
InFrontOf r (Err f) y = (f.line ≡ r.line) × FailsIn r.line y

in_front_state : (r : Reader) (b : ℕ) (bs cs : List ℕ) (x : Lexed) (m : Move) → InFrontOf r (state_read r b bs x m) (state_read r b cs x m)
in_front_state r b bs cs x (Ok s) = refl
in_front_state r b bs cs x (Err k) = (refl, (_, refl))

in_front_read : (r : Reader) (b : ℕ) (bs cs : List ℕ) (x : Result Lexed ByteFault) → InFrontOf r (byte_read r b bs x) (byte_read r b cs x)
in_front_read r b bs cs (Ok x) = in_front_state r b bs cs x (taken r.state x r.line)
in_front_read r b bs cs (Err k) = (refl, (_, refl))

in_front : (r : Reader) (b : ℕ) (bs cs : List ℕ) (x : Result Reader ReadFault) → byte_fed r b bs ≡ x → InFrontOf r x (byte_fed r b cs)
in_front r b bs cs x e = subst (λ z. InFrontOf r z (byte_fed r b cs)) e (in_front_read r b bs cs (lexed r.mode b))

-- Bytes after bytes.

fed_append : (a b : List ℕ) (r q : Reader) → fed r a ≡ Ok q → fed r (a ++ b) ≡ fed q b
fed_append [] b r q e = let same : r ≡ q = cc in ap (λ z. fed z b) same
fed_append (c ∷ a) b r q e = go (λ r' e. fed_append a b r' q e) (byte_fed r c a) (in_front r c a (a ++ b) _ refl) e
  where
    go : ((r' : Reader) → fed r' a ≡ Ok q → fed r' (a ++ b) ≡ fed q b) → (x : Result Reader ReadFault) → InFrontOf r x (byte_fed r c (a ++ b)) → fed_on x (λ r'. fed r' a) ≡ Ok q → fed r (c ∷ (a ++ b)) ≡ fed q b
    go on (Ok r') f e = ap (λ z. fed_on z (λ r'. fed r' (a ++ b))) f ∙ on r' e
    go on (Err g) f e = absurd (no e)
      where
        no : Err g ≡ Ok q → ⊥
        no e = cc

-- a byte that is refused in front of some bytes ends the reading in its line
fails_on : (n : ℕ) (y : Result Reader ReadFault) (on : Reader → Result Reader ReadFault) → FailsIn n y → FailsIn n (fed_on y on)
fails_on n y on (k, e) = (k, ap (λ z. fed_on z on) e)

fails_append : (a b : List ℕ) (r : Reader) (f : ReadFault) → fed r a ≡ Err f → FailsIn f.line (fed r (a ++ b))
fails_append [] b r f e = absurd (no e)
  where
    no : Ok r ≡ Err f → ⊥
    no e = cc
fails_append (c ∷ a) b r f e = go (λ r' e. fails_append a b r' f e) (byte_fed r c a) (in_front r c a (a ++ b) _ refl) e
  where
    go : ((r' : Reader) → fed r' a ≡ Err f → FailsIn f.line (fed r' (a ++ b))) → (x : Result Reader ReadFault) → InFrontOf r x (byte_fed r c (a ++ b)) → fed_on x (λ r'. fed r' a) ≡ Err f → FailsIn f.line (fed r (c ∷ (a ++ b)))
    go on (Ok r') h e = subst (FailsIn f.line) (sym (ap (λ z. fed_on z (λ r'. fed r' (a ++ b))) h)) (on r' e)
    go on (Err g) (l, h) e =
        let same : g ≡ f = cc in
        let line : r.line ≡ f.line = sym l ∙ ap (λ z. z.line) same in
        subst (λ n. FailsIn n (fed r (c ∷ (a ++ b)))) line (fails_on r.line (byte_fed r c (a ++ b)) (λ r'. fed r' (a ++ b)) h)

-- What a line end leaves open.

abbrev CalmLexed : Result Lexed ByteFault → Type 0
CalmLexed (Ok x) = IsCalm x.mode
CalmLexed (Err k) = Unit {0}

calm_word : (t : Option Token) → CalmLexed (word_ended t 10)
calm_word None = tt
calm_word (Some t) = tt

calm_number : (k : Option IlType) (s : Spelling) (n : ℤ) (wanting : Bool) → CalmLexed (if wanting then fails fault.Literal else number_ended k s n 10)
calm_number k s n true = tt
calm_number k s n false = tt

calm_lexed : (q : Mode) → CalmLexed (lexed q 10)
calm_lexed mode.Clear = tt
calm_lexed (mode.Word w gap) = calm_word (word_token w)
calm_lexed (mode.Number k s n wanting) = calm_number k s n wanting
calm_lexed (mode.Typed k) = tt
calm_lexed mode.And = tt
calm_lexed mode.AndNot = tt
calm_lexed (mode.Sign negative) = tt
calm_lexed mode.Bracket = tt
calm_lexed mode.Comment = tt
calm_lexed mode.Star = tt
calm_lexed mode.Carriage = tt
calm_lexed mode.Colon = tt
calm_lexed mode.Dot = tt

abbrev CalmReader : Result Reader ReadFault → Type 0
CalmReader (Ok r) = IsCalm r.mode
CalmReader (Err f) = Unit {0}

calm_state : (r : Reader) (b : ℕ) (bs : List ℕ) (x : Lexed) (m : Move) → IsCalm x.mode → CalmReader (state_read r b bs x m)
calm_state r b bs x (Ok s) h = h
calm_state r b bs x (Err k) h = tt

calm_read : (r : Reader) (b : ℕ) (bs : List ℕ) (x : Result Lexed ByteFault) → CalmLexed x → CalmReader (byte_read r b bs x)
calm_read r b bs (Ok x) h = calm_state r b bs x (taken r.state x r.line) h
calm_read r b bs (Err k) h = tt

calm_byte : (r : Reader) (bs : List ℕ) → CalmReader (byte_fed r 10 bs)
calm_byte r bs = calm_read r 10 bs (lexed r.mode 10) (calm_lexed r.mode)

calm_after : (r q : Reader) (b : ℕ) (bs : List ℕ) → nat_eq b 10 ≡ true → byte_fed r b bs ≡ Ok q → IsCalm q.mode
calm_after r q b bs c e =
    let same : 10 ≡ b = sym (eqb-true b 10 c) in
    let h : CalmReader (byte_fed r b bs) = subst (λ z. CalmReader (byte_fed r z bs)) same (calm_byte r bs) in
    subst CalmReader e h

-- the line after a byte that is read, and the line of the byte
line_state : (r q : Reader) (b : ℕ) (bs : List ℕ) (x : Lexed) (m : Move) → state_read r b bs x m ≡ Ok q → (q.line ≡ line_behind b r.line) × (q.last ≡ r.line)
line_state r q b bs x (Ok s) e = (sym (ap line_in e), sym (ap last_in e))
  where
    line_in : Result Reader ReadFault → ℕ
    line_in (Ok z) = z.line
    line_in (Err f) = 0

    last_in : Result Reader ReadFault → ℕ
    last_in (Ok z) = z.last
    last_in (Err f) = 0
line_state r q b bs x (Err k) e = absurd (cc)

line_read : (r q : Reader) (b : ℕ) (bs : List ℕ) (x : Result Lexed ByteFault) → byte_read r b bs x ≡ Ok q → (q.line ≡ line_behind b r.line) × (q.last ≡ r.line)
line_read r q b bs (Ok x) e = line_state r q b bs x (taken r.state x r.line) e
line_read r q b bs (Err k) e = absurd (cc)

line_byte : (r q : Reader) (b : ℕ) (bs : List ℕ) → byte_fed r b bs ≡ Ok q → (q.line ≡ line_behind b r.line) × (q.last ≡ r.line)
line_byte r q b bs e = line_read r q b bs (lexed r.mode b) e

-- after k lines: nothing has happened, or nothing but a comment is open
abbrev Calmed : ℕ → Mode → Mode → Type 0
Calmed zero q q' = q ≡ q'
Calmed (suc k) q q' = IsCalm q'

calmed : (k : ℕ) (q q' : Mode) → IsCalm q → Calmed k q q' → IsCalm q'
calmed zero q q' h e = subst IsCalm e h
calmed (suc k) q q' h e = e

fed_cons : (r q : Reader) (b : ℕ) (bs cs : List ℕ) → byte_fed r b bs ≡ Ok q → fed r (b ∷ cs) ≡ fed q cs
fed_cons r q b bs cs e = ap (λ z. fed_on z (λ r'. fed r' cs)) (in_front r b bs cs (Ok q) e)

lines_end : (k b : ℕ) (bs : List ℕ) → nat_eq b 10 ≡ true → lines_up_to (suc k) (b ∷ bs) ≡ b ∷ lines_up_to k bs
lines_end k b bs c = ap (λ z. b ∷ (if z then lines_up_to k bs else lines_up_to (suc k) bs)) c

lines_on : (k b : ℕ) (bs : List ℕ) → nat_eq b 10 ≡ false → lines_up_to (suc k) (b ∷ bs) ≡ b ∷ lines_up_to (suc k) bs
lines_on k b bs c = ap (λ z. b ∷ (if z then lines_up_to k bs else lines_up_to (suc k) bs)) c

-- Where a text fails: k whole lines are read, and the next one isn't.
abbrev Located : Reader → List ℕ → ℕ → Type 0
Located r text m =
    (k : ℕ) × (q : Reader) × (m ≡ k + r.line) × Calmed k r.mode q.mode × (fed r (lines_up_to k text) ≡ Ok q) × FailsIn m (fed r (lines_up_to (suc k) text))

located : (text : List ℕ) (r : Reader) (f : ReadFault) → fed r text ≡ Err f → Located r text f.line
located [] r f h = absurd (no h)
  where
    no : Ok r ≡ Err f → ⊥
    no h = cc
located (b ∷ bs) r f h = go (λ r' h. located bs r' f h) (byte_fed r b bs) refl h
  where
    go : ((r' : Reader) → fed r' bs ≡ Err f → Located r' bs f.line) → (x : Result Reader ReadFault) → byte_fed r b bs ≡ x → fed_on x (λ r'. fed r' bs) ≡ Err f → Located r (b ∷ bs) f.line
    go on (Err g) e h =
        let same : g ≡ f = cc in
        let first : List ℕ = if nat_eq b 10 then lines_up_to 0 bs else lines_up_to 1 bs in
        let h : (g.line ≡ r.line) × FailsIn r.line (byte_fed r b first) = in_front r b bs first (Err g) e in
        let line : r.line ≡ f.line = sym h.0 ∙ ap (λ z. z.line) same in
        (0, r, omega arith, refl, refl, subst (λ n. FailsIn n (fed r (b ∷ first))) line (fails_on r.line (byte_fed r b first) (λ r'. fed r' first) h.1))
    go on (Ok r') e h = place (nat_eq b 10) refl (on r' h)
      where
        by_byte : (cs : List ℕ) → fed r (b ∷ cs) ≡ fed r' cs
        by_byte cs = fed_cons r r' b bs cs e

        next : r'.line ≡ line_behind b r.line
        next = (line_byte r r' b bs e).0

        place : (c : Bool) → nat_eq b 10 ≡ c → Located r' bs f.line → Located r (b ∷ bs) f.line
        place true c (k, q, l, calm, x, y) =
            let here : r'.line ≡ suc r.line = next ∙ ap (λ z. if z then suc r.line else r.line) c in
            (suc k, q, (l ∙ ap (λ z. k + z) here) ∙ omega arith, calmed k r'.mode q.mode (calm_after r r' b bs c e) calm, ap (fed r) (lines_end k b bs c) ∙ by_byte (lines_up_to k bs) ∙ x, subst (FailsIn f.line) (sym (ap (fed r) (lines_end (suc k) b bs c) ∙ by_byte (lines_up_to (suc k) bs))) y)
        place false c (zero, q, l, calm, x, y) =
            let here : r'.line ≡ r.line = next ∙ ap (λ z. if z then suc r.line else r.line) c in
            (0, r, l ∙ ap (λ z. 0 + z) here, refl, refl, subst (FailsIn f.line) (sym (ap (fed r) (lines_on 0 b bs c) ∙ by_byte (lines_up_to 1 bs))) y)
        place false c (suc k, q, l, calm, x, y) =
            let here : r'.line ≡ r.line = next ∙ ap (λ z. if z then suc r.line else r.line) c in
            (suc k, q, l ∙ ap (λ z. suc k + z) here, calm, ap (fed r) (lines_on k b bs c) ∙ by_byte (lines_up_to (suc k) bs) ∙ x, subst (FailsIn f.line) (sym (ap (fed r) (lines_on (suc k) b bs c) ∙ by_byte (lines_up_to (suc (suc k)) bs))) y)

-- Where a text is fed to its end, its whole lines are.
abbrev Kept : ℕ → Reader → List ℕ → Type 0
Kept k r text = (q : Reader) × Calmed k r.mode q.mode × (fed r (lines_up_to k text) ≡ Ok q)

kept : (text : List ℕ) (r q : Reader) → fed r text ≡ Ok q → Kept (line_ends text) r text
kept [] r q h = (r, refl, refl)
kept (b ∷ bs) r q h = go (λ r' h. kept bs r' q h) (byte_fed r b bs) refl h
  where
    go : ((r' : Reader) → fed r' bs ≡ Ok q → Kept (line_ends bs) r' bs) → (x : Result Reader ReadFault) → byte_fed r b bs ≡ x → fed_on x (λ r'. fed r' bs) ≡ Ok q → Kept (line_ends (b ∷ bs)) r (b ∷ bs)
    go on (Err f) e h = absurd (no h)
      where
        no : Err f ≡ Ok q → ⊥
        no h = cc
    go on (Ok r') e h = place (nat_eq b 10) refl (line_ends bs) refl (on r' h)
      where
        by_byte : (cs : List ℕ) → fed r (b ∷ cs) ≡ fed r' cs
        by_byte cs = fed_cons r r' b bs cs e

        place : (c : Bool) → nat_eq b 10 ≡ c → (k : ℕ) → line_ends bs ≡ k → Kept k r' bs → Kept (line_ends (b ∷ bs)) r (b ∷ bs)
        place true c k g (x, calm, y) =
            let next : suc k ≡ line_ends (b ∷ bs) = ap suc (sym g) ∙ ap (λ z. if z then suc (line_ends bs) else line_ends bs) (sym c) in
            subst (λ z. Kept z r (b ∷ bs)) next (x, calmed k r'.mode x.mode (calm_after r r' b bs c e) calm, ap (fed r) (lines_end k b bs c) ∙ by_byte (lines_up_to k bs) ∙ y)
        place false c zero g (x, calm, y) =
            let next : zero ≡ line_ends (b ∷ bs) = sym g ∙ ap (λ z. if z then suc (line_ends bs) else line_ends bs) (sym c) in
            subst (λ z. Kept z r (b ∷ bs)) next (r, refl, refl)
        place false c (suc k) g (x, calm, y) =
            let next : suc k ≡ line_ends (b ∷ bs) = sym g ∙ ap (λ z. if z then suc (line_ends bs) else line_ends bs) (sym c) in
            subst (λ z. Kept z r (b ∷ bs)) next (x, calm, ap (fed r) (lines_on k b bs c) ∙ by_byte (lines_up_to (suc k) bs) ∙ y)

-- the line of the last byte
last_is : (bs : List ℕ) (b : ℕ) (r q : Reader) → fed r (b ∷ bs) ≡ Ok q → q.last ≡ last_line r.line (b ∷ bs)
last_is [] b r q h = go (byte_fed r b []) refl h
  where
    go : (x : Result Reader ReadFault) → byte_fed r b [] ≡ x → fed_on x (λ r'. fed r' []) ≡ Ok q → q.last ≡ r.line
    go (Ok r') e h = (line_byte r q b [] (e ∙ h)).1
    go (Err f) e h = absurd (no h)
      where
        no : Err f ≡ Ok q → ⊥
        no h = cc
last_is (c ∷ bs) b r q h = go (λ r' h. last_is bs c r' q h) (byte_fed r b (c ∷ bs)) refl h
  where
    go : ((r' : Reader) → fed r' (c ∷ bs) ≡ Ok q → q.last ≡ last_line r'.line (c ∷ bs)) → (x : Result Reader ReadFault) → byte_fed r b (c ∷ bs) ≡ x → fed_on x (λ r'. fed r' (c ∷ bs)) ≡ Ok q → q.last ≡ last_line (if nat_eq b 10 then suc r.line else r.line) (c ∷ bs)
    go on (Ok r') e h = on r' h ∙ ap (λ z. last_line z (c ∷ bs)) (line_byte r r' b (c ∷ bs) e).0
    go on (Err f) e h = absurd (no h)
      where
        no : Err f ≡ Ok q → ⊥
        no h = cc

last_of : (text : List ℕ) (q : Reader) → fed opening text ≡ Ok q → q.last ≡ last_line 1 text
last_of [] q h = let same : opening ≡ q = cc in ap (λ z. z.last) (sym same)
last_of (b ∷ bs) q h = last_is bs b opening q h

-- The theorems.

begins : (a : List ℕ) (q : Reader) → fed opening a ≡ Ok q → IsCalm q.mode → Begins a
begins a q e h = finish (calm_ends q.line q.last q.mode q.state (live_fed a opening q e tt) h)
  where
    finish : Ends_at q → Begins a
    finish (rest, p, n, l, g) = (rest, p, read_is_program (a ++ rest) p (ap judged (fed_append a rest opening q e ∙ g)))

begins_none : (a : List ℕ) (n : ℕ) → FailsIn n (fed opening a) → (rest : List ℕ) (p : Program) → IsProgramText (a ++ rest) p → ⊥
begins_none a n (k, e) rest p h =
    let fails = fails_append a rest opening (record { line = n; kind = k }) e in
    let refused : outcome (a ++ rest) ≡ AtFault (record { line = n; kind = fails.0 }) = ap judged fails.1 in
    let read : outcome (a ++ rest) ≡ Reads p = program_is_read (a ++ rest) p h in
    cc

early_reached : (l : ℕ) (k : ReadFaultKind) (m : Move) (f : ReadFault) → end_reached l k m ≡ TooSoon f → f.line ≡ l
early_reached l k (Ok (state.Over p)) f h = absurd (cc)
early_reached l k (Ok _) f h = ap line_in (sym h)
  where
    line_in : Outcome → ℕ
    line_in (TooSoon g) = g.line
    line_in _ = 0
early_reached l k (Err _) f h = ap line_in (sym h)
  where
    line_in : Outcome → ℕ
    line_in (TooSoon g) = g.line
    line_in _ = 0

early_read : (r : Reader) (t : Result (Option Token) ReadFaultKind) (f : ReadFault) → end_read r t ≡ TooSoon f → f.line ≡ r.last
early_read r (Ok t) f h = early_reached r.last (early r.state) (stepped r.state t r.line) f h
early_read r (Err k) f h = ap line_in (sym h)
  where
    line_in : Outcome → ℕ
    line_in (TooSoon g) = g.line
    line_in _ = 0

no_fault_reached : (l : ℕ) (k : ReadFaultKind) (m : Move) (f : ReadFault) → end_reached l k m ≡ AtFault f → ⊥
no_fault_reached l k (Ok (state.Over p)) f h = cc
no_fault_reached l k (Ok _) f h = cc
no_fault_reached l k (Err _) f h = cc

no_fault_at_end : (r : Reader) (t : Result (Option Token) ReadFaultKind) (f : ReadFault) → end_read r t ≡ AtFault f → ⊥
no_fault_at_end r (Ok t) f h = no_fault_reached r.last (early r.state) (stepped r.state t r.line) f h
no_fault_at_end r (Err k) f h = cc

pub fault_is_in_the_first_line : FaultIsInTheFirstLine
fault_is_in_the_first_line text f h = go (fed opening text) refl h
  where
    go : (x : Result Reader ReadFault) → fed opening text ≡ x → judged x ≡ AtFault f → (k : ℕ) × (f.line ≡ suc k) × Begins (lines_up_to k text) × ((rest : List ℕ) (p : Program) → IsProgramText (lines_up_to f.line text ++ rest) p → ⊥)
    go (Ok q) e h = absurd (no_fault_at_end q (at_end q.mode) f h)
    go (Err g) e h = found (located text opening g e)
      where
        found : Located opening text g.line → (k : ℕ) × (f.line ≡ suc k) × Begins (lines_up_to k text) × ((rest : List ℕ) (p : Program) → IsProgramText (lines_up_to f.line text ++ rest) p → ⊥)
        found (k, q, l, calm, x, y) =
            let same : g ≡ f = cc in
            let lines : g.line ≡ f.line = ap (λ z. z.line) same in
            let line : f.line ≡ suc k = omega arith in
            (k, line, begins (lines_up_to k text) q x (calmed k mode.Clear q.mode tt calm), begins_none (lines_up_to f.line text) g.line (subst (λ z. FailsIn g.line (fed opening (lines_up_to z text))) (sym line) y))

pub early_end_is_in_the_last_line : EarlyEndIsInTheLastLine
early_end_is_in_the_last_line text f h = go (fed opening text) refl h
  where
    go : (x : Result Reader ReadFault) → fed opening text ≡ x → judged x ≡ TooSoon f → (f.line ≡ last_line 1 text) × Begins (lines_up_to (line_ends text) text)
    go (Err g) e h = absurd (cc)
    go (Ok q) e h = (early_read q (at_end q.mode) f h ∙ last_of text q e, found (kept text opening q e))
      where
        found : Kept (line_ends text) opening text → Begins (lines_up_to (line_ends text) text)
        found (r, calm, x) = begins (lines_up_to (line_ends text) text) r x (calmed (line_ends text) mode.Clear r.mode tt calm)
