-- What `response_of` gives is told by the spelling of replies.
use Rattle.std.proofs.Common.{◌≡◌, ◌≢◌, ℕ, ◌*◌, Bool, true, false, ◌&&◌, ◌==◌, List, [], ◌∷◌, ◌++◌, length, if◌then◌else◌, Option, None, Some, Result, Ok, Err, bit_or, suc, sym, ap, ◌∙◌, subst, arith, refl}
use Rattle.std.proofs.lemmas.Bool.{eqb-true, eq-eqb}
use Rattle.std.proofs.lemmas.Bool.Decides.{nat_tests}
use Rattle.modbus_frame.specs.declared.message.Request.{Request}
use Rattle.modbus_frame.specs.declared.message.Request.TheVariants.{Read, WriteOne, WriteMany}
use Rattle.modbus_frame.specs.declared.message.Response.{Response}
use Rattle.modbus_frame.specs.declared.message.Response.TheVariants.{Words, Wrote}
use Rattle.modbus_frame.specs.declared.message.Exception.{Exception}
use Rattle.modbus_frame.specs.declared.message.ReplyFault.{ReplyFault}
use Rattle.modbus_frame.specs.declared.message.ReplyFault.TheVariants as fault
use Rattle.modbus_frame.specs.Bytes.{AreBytes, number, number_bytes, word_bytes, words_of}
use Rattle.modbus_frame.specs.Message.{function_of, exception_bytes, IsResponseTo, IsAnswerTo, IsResponseOf, words_reply, wrote_reply, response_bytes, answer_bytes, outcome_of, refused_of, unless_refused, words_reply_of, wrote_reply_of, reply_of, response_of}
use Rattle.modbus_frame.proofs.Numbers.{number-number_bytes, number_bytes-number, length-word_bytes, words_of-word_bytes, length-words_of, word_bytes-words_of}

same : (n : ℕ) → (n == n) ≡ true
same n = eq-eqb n n refl

-- The reply to a request is read again from its spelling.
words_reply_of-words_reply : (words : List ℕ) → words_reply_of (length words) (words_reply words) ≡ Ok (Words words)
words_reply_of-words_reply words = rw (length-word_bytes words, same (2 * length words), words_of-word_bytes words) refl

wrote_reply_of-pair : (function first second : ℕ) → wrote_reply_of function first second (function ∷ number_bytes first ++ number_bytes second) ≡ Ok Wrote
wrote_reply_of-pair function first second = rw (number-number_bytes first, number-number_bytes second, same function, same first, same second) refl

-- A reply to function 3 with two bytes isn't an exception.
not_refused : (count : ℕ) (values : List ℕ) → refused_of 3 (3 ∷ count ∷ values) ≡ None
not_refused count [] = refl
not_refused count (value ∷ values) = refl

response_of-response_bytes : (r : Request) (response : Response) → IsResponseTo r response → response_of r (response_bytes r response) ≡ Ok response
response_of-response_bytes (Read addr qty) (Words words) fits =
    let P : ℕ → Type 0 = λ n. unless_refused (refused_of 3 (words_reply words)) (words_reply_of n (words_reply words)) ≡ Ok (Words words) in
    subst P fits (rw (not_refused (2 * length words) (word_bytes words)) (words_reply_of-words_reply words))
response_of-response_bytes (Read addr qty) Wrote fits = absurd fits
response_of-response_bytes (WriteOne addr value) (Words words) fits = absurd fits
response_of-response_bytes (WriteOne addr value) Wrote fits = wrote_reply_of-pair 6 addr value
response_of-response_bytes (WriteMany addr words) (Words others) fits = absurd fits
response_of-response_bytes (WriteMany addr words) Wrote fits = wrote_reply_of-pair 16 addr (length words)

response_of-exception : (r : Request) (e : Exception) → response_of r (exception_bytes (function_of r) e) ≡ Err (fault.Exception e)
response_of-exception r e = rw (same (bit_or (function_of r) 128)) refl

-- What is sent for a request is what its client learns.
pub response_of-answer_bytes : (r : Request) (answer : Result Response Exception) → IsAnswerTo r answer → response_of r (answer_bytes r answer) ≡ outcome_of answer
response_of-answer_bytes r (Ok response) fits = response_of-response_bytes r response fits
response_of-answer_bytes r (Err e) fits = response_of-exception r e

-- A reply of the kind that a request wants is spelled so; anything else is a mismatch.
abbrev IsReplyOf : Request → List ℕ → Result Response ReplyFault → Type 0
IsReplyOf r bytes (Ok response) = IsResponseTo r response × (bytes ≡ response_bytes r response)
IsReplyOf r bytes (Err f) = f ≡ fault.Mismatch

if_reply : (r : Request) (bytes : List ℕ) (test : Bool) (response : Response) → (test ≡ true → IsReplyOf r bytes (Ok response)) → IsReplyOf r bytes (if test then Ok response else Err fault.Mismatch)
if_reply r bytes true response good = good refl
if_reply r bytes false response good = refl

words_reply_told : (addr qty : ℕ) (bytes : List ℕ) → AreBytes bytes → IsReplyOf (Read addr qty) bytes (words_reply_of qty bytes)
words_reply_told addr qty [] fit = refl
words_reply_told addr qty (function ∷ []) fit = refl
words_reply_told addr qty (function ∷ count ∷ values) fit =
    if_reply (Read addr qty) (function ∷ count ∷ values) (function == 3 && (count == 2 * qty && length values == 2 * qty)) (Words (words_of values)) (λ h.
    let reads : function ≡ 3 = grind (arith, nat_tests) in
    let counted : count ≡ 2 * qty = grind (arith, nat_tests) in
    let whole : length values ≡ 2 * qty = grind (arith, nat_tests) in
    let len = length-words_of values qty whole in
    let behind = word_bytes-words_of values qty (λ k. fit (suc (suc k))) whole in
    (len, ap (λ f. f ∷ count ∷ values) reads ∙ ap (λ c. 3 ∷ c ∷ values) (counted ∙ sym (ap (λ n. 2 * n) len)) ∙ sym (ap (λ l. 3 ∷ (2 * length (words_of values)) ∷ l) behind)))

module _ (r : Request) (function first second : ℕ) where
  wrote_reply_told : (bytes : List ℕ) → IsResponseTo r Wrote → wrote_reply r ≡ function ∷ number_bytes first ++ number_bytes second → AreBytes bytes → IsReplyOf r bytes (wrote_reply_of function first second bytes)
  wrote_reply_told [] fits spelled fit = refl
  wrote_reply_told (f ∷ []) fits spelled fit = refl
  wrote_reply_told (f ∷ a ∷ []) fits spelled fit = refl
  wrote_reply_told (f ∷ a ∷ b ∷ []) fits spelled fit = refl
  wrote_reply_told (f ∷ a ∷ b ∷ c ∷ []) fits spelled fit = refl
  wrote_reply_told (f ∷ a ∷ b ∷ c ∷ d ∷ []) fits spelled fit =
      if_reply r (f ∷ a ∷ b ∷ c ∷ d ∷ []) (f == function && (number a b == first && number c d == second)) Wrote (λ h.
      let repeats : f ≡ function = grind (arith, nat_tests) in
      let one : number a b ≡ first = grind (arith, nat_tests) in
      let two : number c d ≡ second = grind (arith, nat_tests) in
      let front : number_bytes first ≡ a ∷ b ∷ [] = ap number_bytes (sym one) ∙ number_bytes-number a b (fit 2) in
      let back : number_bytes second ≡ c ∷ d ∷ [] = ap number_bytes (sym two) ∙ number_bytes-number c d (fit 4) in
      (fits, ap (λ g. g ∷ a ∷ b ∷ c ∷ d ∷ []) repeats ∙ sym (spelled ∙ ap (λ l. function ∷ l ++ number_bytes second) front ∙ ap (λ l. function ∷ a ∷ b ∷ l) back)))
  wrote_reply_told (f ∷ a ∷ b ∷ c ∷ d ∷ e ∷ more) fits spelled fit = refl

reply_of-told : (r : Request) (bytes : List ℕ) → AreBytes bytes → IsReplyOf r bytes (reply_of r bytes)
reply_of-told (Read addr qty) bytes fit = words_reply_told addr qty bytes fit
reply_of-told (WriteOne addr value) bytes fit = wrote_reply_told (WriteOne addr value) 6 addr value bytes tt refl fit
reply_of-told (WriteMany addr words) bytes fit = wrote_reply_told (WriteMany addr words) 16 addr (length words) bytes tt refl fit

if_refused : (function : ℕ) (first code : ℕ) (test : Bool) → (first == bit_or function 128) ≡ test → (found : ℕ) → (if test then Some code else None) ≡ Some found → first ∷ code ∷ [] ≡ bit_or function 128 ∷ found ∷ []
if_refused function first code true h found e =
    let top = eqb-true first (bit_or function 128) h in cc
if_refused function first code false h found e = cc

refused_of-told : (function : ℕ) (bytes : List ℕ) (code : ℕ) → refused_of function bytes ≡ Some code → bytes ≡ bit_or function 128 ∷ code ∷ []
refused_of-told function [] code e = cc
refused_of-told function (first ∷ []) code e = cc
refused_of-told function (first ∷ found ∷ []) code e = if_refused function first found (first == bit_or function 128) refl code e
refused_of-told function (first ∷ found ∷ third ∷ more) code e = cc

outcome_of-mismatch : (answer : Result Response Exception) → outcome_of answer ≢ Err fault.Mismatch
outcome_of-mismatch (Ok response) e = cc
outcome_of-mismatch (Err exception) e = cc

stands_unless : (r : Request) (bytes : List ℕ) (code : Option ℕ) (reply : Result Response ReplyFault) → refused_of (function_of r) bytes ≡ code → IsReplyOf r bytes reply → response_of r bytes ≡ unless_refused code reply → IsResponseOf r bytes (unless_refused code reply)
stands_unless r bytes (Some code) reply refused told is = refused_of-told (function_of r) bytes code refused
stands_unless r bytes None (Ok response) refused told is = told
stands_unless r bytes None (Err f) refused told is =
    let P : ReplyFault → Type 0 = λ g. IsResponseOf r bytes (Err g) in
    subst P (sym told) (λ answer fits spelled. outcome_of-mismatch answer (sym (response_of-answer_bytes r answer fits) ∙ ap (response_of r) (sym spelled) ∙ is ∙ ap (λ g. Err g) told))

-- What `response_of` gives is told by the spelling of replies.
pub response_of-stands : (r : Request) (bytes : List ℕ) → AreBytes bytes → IsResponseOf r bytes (response_of r bytes)
response_of-stands r bytes fit = stands_unless r bytes (refused_of (function_of r) bytes) (reply_of r bytes) refl (reply_of-told r bytes fit) refl
