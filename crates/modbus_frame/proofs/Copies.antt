-- Bytes that several sends carry.
use Rattle.std.proofs.Common.{◌≡◌, ℕ, zero, suc, ◌+◌, ◌-◌, ◌<◌, ◌≤◌, List, [], ◌∷◌, ◌++◌, length, take, Option, Result, Ok, Err, sym, ap, ◌∙◌, subst, arith, append_assoc, length-append, add-one}
use Rattle.std.proofs.lemmas.List.{append-nil, take-append-le}
use Rattle.std.proofs.Math.Seq.{take-append-add}
use Rattle.std.proofs.KnownBytes.{Appends-trans, Keeps-trans}
use Rattle.std.specs.Prelude.{OnOk}
use Rattle.std.specs.Io.KnownBytes.{Appends}
use Rattle.modbus_frame.specs.declared.link.LinkFault.{LinkFault}
use Rattle.modbus_frame.specs.declared.link.LinkFault.TheVariants as link
use Rattle.modbus_frame.specs.Exchange.{SendsFront, CountsSent}
use Rattle.modbus_frame.specs.Link.{LinkState, Failures, FailsBy}
use Rattle.modbus_frame.specs.Serving.{Sends, copies}
use Rattle.modbus_frame.proofs.Sending.{CountsBy-trans, FailsBy-then}

abbrev pub Sent : Type 0
Sent = Result (Unit {0}) LinkFault

front_behind : (a b c : Option (List ℕ)) (r : Sent) (x y : List ℕ) → Appends a b x → SendsFront b c r y → SendsFront a c r (x ++ y)
front_behind a b c (Ok done) x y first second = Appends-trans a b c x y first second
front_behind a b c (Err fault) x y first second =
    let n = second.0 in
    (length x + n, omega (arith, second.1, length-append x y), subst (Appends a c) (sym (take-append-add x y n)) (Appends-trans a b c x (take n y) first second.2))

front_before : (a b : Option (List ℕ)) (fault : LinkFault) (x y : List ℕ) → SendsFront a b (Err fault) x → SendsFront a b (Err fault) (x ++ y)
front_before a b fault x y front =
    let within : front.0 ≤ length x = omega (arith, front.1) in
    (front.0, omega (arith, front.1, length-append x y), subst (Appends a b) (sym (take-append-le front.0 x y within)) front.2)

failed_behind : (a b c : Failures) (r : Sent) (turns : ℕ) → FailsBy 0 0 0 a b → CountsSent b c r turns → CountsSent a c r turns
failed_behind a b c (Ok done) turns first second = FailsBy-then 0 0 0 a b c first second
failed_behind a b c (Err link.Read) turns first second = second
failed_behind a b c (Err link.Write) turns first second = FailsBy-then 0 1 0 a b c first second
failed_behind a b c (Err (link.Frame f)) turns first second = second
failed_behind a b c (Err link.End) turns first second = second
failed_behind a b c (Err link.Turns) turns first second = (FailsBy-then 0 0 0 a b c first second.0, second.1)
failed_behind a b c (Err link.OutOfMemory) turns first second = second

used_behind : (r : Sent) (x y : List ℕ) (turns spare rest : ℕ) → (0 < length x → spare < turns) → spare ≤ turns → rest ≤ spare
    → OnOk r (0 < length y → rest < spare) → OnOk r (0 < length (x ++ y) → rest < turns)
used_behind (Ok done) [] y turns spare rest first most less second = λ some. omega (arith, second some)
used_behind (Ok done) (a ∷ x) y turns spare rest first most less second = λ some. omega (arith, first (omega arith))
used_behind (Err fault) x y turns spare rest first most less second = tt

-- one send after another
pub sends_both : (a b c : LinkState) (r : Sent) (x y : List ℕ) (turns spare rest : ℕ) → Sends a b (Ok tt) x turns spare → Sends b c r y spare rest → Sends a c r (x ++ y) turns rest
sends_both a b c r x y turns spare rest first second = record {
  sends = front_behind a.sent b.sent c.sent r x y first.sends second.sends;
  keeps = Keeps-trans a.coming b.coming c.coming first.keeps second.keeps;
  failed = failed_behind a.failures b.failures c.failures r rest first.failed second.failed;
  called = CountsBy-trans (turns - spare) (spare - rest) (turns - rest) a.calls b.calls c.calls first.called second.called (omega (arith, first.within, second.within));
  within = omega (arith, first.within, second.within);
  used = used_behind r x y turns spare rest first.used first.within second.within second.used;
}

-- a send that failed is one of more bytes, too
pub sends_less : (a b : LinkState) (fault : LinkFault) (x y : List ℕ) (turns spare : ℕ) → Sends a b (Err fault) x turns spare → Sends a b (Err fault) (x ++ y) turns spare
sends_less a b fault x y turns spare sent = record {
  sends = front_before a.sent b.sent fault x y sent.sends;
  keeps = sent.keeps;
  failed = sent.failed;
  called = sent.called;
  within = sent.within;
  used = sent.used;
}

copies_next : (n : ℕ) (bytes : List ℕ) → copies (suc n) bytes ≡ copies n bytes ++ bytes
copies_next zero bytes = append-nil bytes
copies_next (suc n) bytes = ap (λ l. bytes ++ l) (copies_next n bytes) ∙ sym (append_assoc bytes (copies n bytes) bytes)

pub copies_more : (n : ℕ) (bytes : List ℕ) → copies (n + 1) bytes ≡ copies n bytes ++ bytes
copies_more n bytes = ap (λ k. copies k bytes) (add-one n) ∙ copies_next n bytes

copies_sum : (n m : ℕ) (bytes : List ℕ) → copies (n + m) bytes ≡ copies n bytes ++ copies m bytes
copies_sum zero m bytes = let e : 0 + m ≡ m = omega arith in ap (λ k. copies k bytes) e
copies_sum (suc n) m bytes =
    let e : suc n + m ≡ suc (n + m) = omega arith in
    ap (λ k. copies k bytes) e ∙ ap (λ l. bytes ++ l) (copies_sum n m bytes) ∙ sym (append_assoc bytes (copies n bytes) (copies m bytes))

-- a number of copies, and then the others
copies_split : (n all : ℕ) (bytes : List ℕ) → n ≤ all → copies all bytes ≡ copies n bytes ++ copies (all - n) bytes
copies_split n all bytes within = let e : all ≡ n + (all - n) = omega (arith, within) in ap (λ k. copies k bytes) e ∙ copies_sum n (all - n) bytes

copies_around : (count left : ℕ) (bytes : List ℕ) → left ≤ count → 0 < left → copies count bytes ≡ (copies (count - left) bytes ++ bytes) ++ copies (left - 1) bytes
copies_around count left bytes within some =
    let e : count - (count - left) ≡ suc (left - 1) = omega (arith, within, some) in
    let n : count - left ≤ count = omega arith in
    copies_split (count - left) count bytes n ∙ ap (λ k. copies (count - left) bytes ++ copies k bytes) e ∙ sym (append_assoc (copies (count - left) bytes) bytes (copies (left - 1) bytes))

-- a copy couldn't be sent as a whole
pub copies_stopped : (a b c : LinkState) (fault : LinkFault) (bytes : List ℕ) (count left turns spare rest : ℕ)
    → Sends a b (Ok tt) (copies (count - left) bytes) turns spare → left ≤ count → 0 < left → Sends b c (Err fault) bytes spare rest
    → Sends a c (Err fault) (copies count bytes) turns rest
copies_stopped a b c fault bytes count left turns spare rest so_far within some next =
    subst (λ x. Sends a c (Err fault) x turns rest) (sym (copies_around count left bytes within some))
    (sends_less a c fault (copies (count - left) bytes ++ bytes) (copies (left - 1) bytes) turns rest
    (sends_both a b c (Err fault) (copies (count - left) bytes) bytes turns spare rest so_far next))

-- a copy more is sent
pub copies_go_on : (a b c : LinkState) (bytes : List ℕ) (count left turns spare rest : ℕ)
    → Sends a b (Ok tt) (copies (count - left) bytes) turns spare → left ≤ count → 0 < left → Sends b c (Ok tt) bytes spare rest
    → Sends a c (Ok tt) (copies (count - (left - 1)) bytes) turns rest
copies_go_on a b c bytes count left turns spare rest so_far within some next =
    let n : count - (left - 1) ≡ (count - left) + 1 = omega (arith, within, some) in
    let same : copies (count - (left - 1)) bytes ≡ copies (count - left) bytes ++ bytes = ap (λ i. copies i bytes) n ∙ copies_more (count - left) bytes in
    subst (λ x. Sends a c (Ok tt) x turns rest) (sym same)
    (sends_both a b c (Ok tt) (copies (count - left) bytes) bytes turns spare rest so_far next)
