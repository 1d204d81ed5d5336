-- Where the bytes of a line stand.
use Rattle.std.proofs.Common.{◌≡◌, ℕ, zero, suc, ◌+◌, ◌-◌, ◌<◌, ◌≤◌, Bool, true, false, List, [], ◌∷◌, length, drop, get_or, Option, Some, None, Result, Ok, Err, IfOk, IfSome, refl, sym, ap, ◌∙◌, arith, if◌then◌else◌, nat_eq}
use Rattle.std.proofs.lemmas.List.{take_all, drop-drop, get_or-drop, length-drop}
use Rattle.il_reader.specs.declared.fault.ReadFault.{ReadFault}
use Rattle.il_reader.specs.declared.fault.ReadFaultKind.{ReadFaultKind}
use Rattle.il_reader.specs.declared.place.FaultPlace.{FaultPlace}
use Rattle.il_reader.specs.declared.place.Tracer.{Tracer}
use Rattle.il_reader.specs.declared.reader.Reader.{Reader}
use Rattle.il_reader.specs.declared.state.State.TheVariants as state
use Rattle.il_reader.specs.declared.token.Token.{Token}
use Rattle.il_reader.specs.declared.tree.Program.{Program}
use Rattle.il_reader.specs.Drafting.{Move}
use Rattle.il_reader.specs.Places.{IsInItsLine, line_of}
use Rattle.il_reader.specs.Reading.{answered, early, end_reached, end_read, judged, stepped}
use Rattle.il_reader.specs.Tokens.{at_end, line_behind}
use Rattle.il_reader.specs.Tracing.{IsFound, IsPassed, IsThere}
use Rattle.il_reader.proofs.LexerLemmas.{behind_first}

-- the line after a byte
pub line_more : (text : List ℕ) (k : ℕ) → k < length text → line_of text (suc k) ≡ line_behind (get_or text k 0) (line_of text k)
line_more [] k h = absurd (omega arith)
line_more (b ∷ bs) zero h = either (nat_eq b 10)
  where
    either : (p : Bool) → suc (if p then 1 else 0) ≡ (if p then 2 else 1)
    either true = refl
    either false = refl
line_more (b ∷ bs) (suc k) h = either _ _ (nat_eq b 10) (nat_eq (get_or bs k 0) 10) (line_more bs k (omega arith))
  where
    either : (n m : ℕ) (p q : Bool) → suc m ≡ (if q then suc (suc n) else suc n) → suc (if p then suc m else m) ≡ (if q then suc (suc (if p then suc n else n)) else suc (if p then suc n else n))
    either n m true true e = ap suc e
    either n m true false e = ap suc e
    either n m false true e = e
    either n m false false e = e

-- a later byte stands in no earlier line
pub line_least : (text : List ℕ) (j k : ℕ) → j ≤ k → line_of text j ≤ line_of text k
line_least [] zero zero h = omega arith
line_least [] zero (suc k) h = omega arith
line_least [] (suc j) zero h = absurd (omega arith)
line_least [] (suc j) (suc k) h = omega arith
line_least (b ∷ bs) zero k h = omega arith
line_least (b ∷ bs) (suc j) zero h = absurd (omega arith)
line_least (b ∷ bs) (suc j) (suc k) h = either _ _ (nat_eq b 10) (line_least bs j k (omega arith))
  where
    either : (n m : ℕ) (p : Bool) → suc n ≤ suc m → suc (if p then suc n else n) ≤ suc (if p then suc m else m)
    either n m true e = omega arith
    either n m false e = e

-- between two bytes of a line all are of it
pub between : (text : List ℕ) (i j k line : ℕ) → line_of text i ≡ line → line_of text k ≡ line → i ≤ j → j ≤ k → line_of text j ≡ line
between text i j k line e f g h =
    let low : line_of text i ≤ line_of text j = line_least text i j g in
    let high : line_of text j ≤ line_of text k = line_least text j k h in
    omega arith

-- The rest of a text is still to be read, and the reader knows the lines of the next byte and of the one before.
pub record Stands (text rest : List ℕ) (t : Tracer) : Type 0 where
  pub rest_is : rest ≡ drop t.spots.next text
  pub whole : t.spots.next + length rest ≡ length text
  pub starts : line_of text t.spots.start ≡ t.reader.line
  pub stands : line_of text t.spots.next ≡ t.reader.line
  pub passed : line_of text (t.spots.next - 1) ≡ t.reader.last

pub stands_on : (text rest : List ℕ) (s t : Tracer) → 1 ≤ length rest → Stands text rest s → IsPassed (get_or rest 0 0) s t → Stands text (behind_first rest) t
stands_on text rest s t h e p =
    let tail : behind_first rest ≡ drop 1 rest = take_all (length rest - 1) (drop 1 rest) (omega (arith, length-drop 1 rest)) in
    let size : length (behind_first rest) ≡ length (drop 1 rest) = ap length tail in
    let next : t.spots.next ≡ suc s.spots.next = omega (arith, p.moved.next) in
    let there : s.spots.next + 0 ≡ s.spots.next = omega arith in
    let byte : get_or rest 0 0 ≡ get_or text s.spots.next 0 = ap (λ z. get_or z 0 0) e.rest_is ∙ get_or-drop s.spots.next text 0 0 ∙ ap (λ k. get_or text k 0) there in
    let line : line_of text t.spots.next ≡ t.reader.line =
    ap (line_of text) next ∙ line_more text s.spots.next (omega (arith, e.whole)) ∙ ap (λ b. line_behind b (line_of text s.spots.next)) (sym byte) ∙ ap (line_behind (get_or rest 0 0)) e.stands ∙ sym p.line in
    let before : t.spots.next - 1 ≡ s.spots.next = omega arith in
    record {
      rest_is = tail ∙ ap (drop 1) e.rest_is ∙ drop-drop 1 s.spots.next text ∙ ap (λ n. drop n text) (sym p.moved.next);
      whole = omega (arith, length-drop 1 rest, e.whole);
      starts = either (nat_eq (get_or rest 0 0) 10) line p.moved.start p.line;
      stands = line;
      passed = ap (line_of text) before ∙ e.stands ∙ sym p.last;
    }
  where
    either : (c : Bool) → line_of text t.spots.next ≡ t.reader.line → t.spots.start ≡ (if c then s.spots.next + 1 else s.spots.start) → t.reader.line ≡ (if c then suc s.reader.line else s.reader.line) → line_of text t.spots.start ≡ t.reader.line
    either true l f g = ap (line_of text) (f ∙ sym p.moved.next) ∙ l
    either false l f g = ap (line_of text) f ∙ e.starts ∙ sym g

-- what is refused with the next byte stands in its line
pub there_in_line : (text rest : List ℕ) (s : Tracer) (place : FaultPlace) → 1 ≤ length rest → Stands text rest s → IsThere s place → IsInItsLine text place
there_in_line text rest s place h e p =
    record {
      ordered = p.covered.ordered;
      within = omega (arith, p.covered.ends, e.whole);
      begins = between text s.spots.start place.at s.spots.next s.reader.line e.starts e.stands p.covered.starts p.covered.begins ∙ sym p.line;
      ends = λ some. between text s.spots.start (place.behind - 1) s.spots.next s.reader.line e.starts e.stands (omega (arith, p.covered.starts, some)) (omega (arith, p.covered.ends)) ∙ sym p.line;
    }

-- a text ends too soon in the line of its last byte
end_line : (r : Reader) (f : ReadFault) → answered (judged (Ok r)) ≡ Err f → f.line ≡ r.last
end_line r f e = read (at_end r.mode) e
  where
    line_in : Result Program ReadFault → ℕ
    line_in (Ok p) = 0
    line_in (Err g) = g.line

    reached : (m : Move) → answered (end_reached r.last (early r.state) m) ≡ Err f → f.line ≡ r.last
    reached (Ok (state.Over p)) e = absurd (cc)
    reached (Ok state.Start) e = sym (ap line_in e)
    reached (Ok state.Titled) e = sym (ap line_in e)
    reached (Ok (state.Within s d)) e = sym (ap line_in e)
    reached (Err k) e = sym (ap line_in e)

    read : (x : Result (Option Token) ReadFaultKind) → answered (end_read r x) ≡ Err f → f.line ≡ r.last
    read (Ok t) e = reached (stepped r.state t r.line) e
    read (Err k) e = sym (ap line_in e)

-- that ends too soon stands in the line of the last byte
pub end_in_line : {E : Type 0} (text rest : List ℕ) (s : Tracer) (result : Result (Option FaultPlace) E) → Stands text rest s → IfOk result (λ found. IsFound found (answered (judged (Ok s.reader)))) → IfOk result (λ found. IfSome found (λ place. (place.at ≡ s.spots.next - 1) × (place.behind ≡ s.spots.next))) → IfOk result (λ found. IfSome found (IsInItsLine text))
end_in_line text rest s (Err x) e told there = tt
end_in_line text rest s (Ok None) e told there = tt
end_in_line text rest s (Ok (Some place)) e told there =
    let line : s.reader.last ≡ place.fault.line = sym (end_line s.reader place.fault told) in
    record {
      ordered = omega (arith, there.0, there.1);
      within = omega (arith, there.1, e.whole);
      begins = ap (line_of text) there.0 ∙ e.passed ∙ line;
      ends = λ some. ap (λ n. line_of text (n - 1)) there.1 ∙ e.passed ∙ line;
    }
