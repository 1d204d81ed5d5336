-- What `request_of` gives is told by the spelling of requests.
use Rattle.std.proofs.Common.{◌≡◌, ◌≢◌, ℕ, ◌+◌, ◌*◌, ◌<◌, ◌≤◌, inl, inr, Bool, true, false, ◌&&◌, ◌==◌, nat_le, List, [], ◌∷◌, ◌++◌, length, get_or, drop, if◌then◌else◌, Result, Ok, Err, suc, sym, ap, ◌∙◌, subst, arith, refl}
use Rattle.std.proofs.lemmas.Bool.Decides.{nat_tests}
use Rattle.std.proofs.lemmas.Bool.{false≢true, eqb-true, eq-eqb}
use Rattle.modbus_frame.specs.declared.message.Request.{Request}
use Rattle.modbus_frame.specs.declared.message.Request.TheVariants.{Read, WriteOne, WriteMany}
use Rattle.modbus_frame.specs.declared.message.Exception.{Exception}
use Rattle.modbus_frame.specs.Bytes.{AreBytes, number, number_bytes, word_bytes, words_of}
use Rattle.modbus_frame.specs.Message.{HasQuantity, IsRequest, IsRequestOf, IsNoRequest, request_bytes, request_of, read_of, write_one_of, write_many_of, addressed, is_quantity, address_of, quantity_of, illegal_value, illegal_address, illegal_function}
use Rattle.modbus_frame.proofs.Numbers.{number-number_bytes, number_bytes-number, length-word_bytes, words_of-word_bytes, length-words_of, word_bytes-words_of}

is_quantity-true : (most n : ℕ) → is_quantity most n ≡ true → (1 ≤ n) × (n ≤ most)
is_quantity-true most n h = (grind (arith, nat_tests), grind (arith, nat_tests))

is_quantity-passes : (most n : ℕ) → 1 ≤ n → n ≤ most → is_quantity most n ≡ true
is_quantity-passes most n low high = grind (arith, nat_tests)

-- A request is read again from its spelling.
pub request_of-request_bytes : (r : Request) → IsRequest r → request_of (request_bytes r) ≡ Ok r
request_of-request_bytes (Read addr qty) good =
    let quantity = is_quantity-passes 125 qty good.0.0 good.0.1 in
    let within : nat_le (addr + qty) 65536 ≡ true = grind (arith, nat_tests, good.1) in
    rw (number-number_bytes addr, number-number_bytes qty, quantity, within) refl
request_of-request_bytes (WriteOne addr value) good = rw (number-number_bytes addr, number-number_bytes value) refl
request_of-request_bytes (WriteMany addr words) good =
    let n = length words in
    let quantity = is_quantity-passes 123 n good.0.0 good.0.1 in
    let within : nat_le (addr + n) 65536 ≡ true = grind (arith, nat_tests, good.1) in
    let same : (2 * n == 2 * n) ≡ true = grind (arith, nat_tests) in
    rw (number-number_bytes addr, number-number_bytes n, length-word_bytes words, words_of-word_bytes words, quantity, same, within) refl

module _ (bytes : List ℕ) where
  -- a test that is passed, or a refusal
  if_stands : (test : Bool) (result : Result Request Exception) (e : Exception) → (test ≡ true → IsRequestOf bytes result) → (test ≡ false → IsRequestOf bytes (Err e)) → IsRequestOf bytes (if test then result else Err e)
  if_stands true result e passed failed = passed refl
  if_stands false result e passed failed = failed refl

  addressed_stands : (r : Request) → HasQuantity r → bytes ≡ request_bytes r → IsRequestOf bytes (addressed (address_of r) (quantity_of r) r)
  addressed_stands r quantity spelled =
      if_stands (nat_le (address_of r + quantity_of r) 65536) (Ok r) illegal_address (λ h. ((quantity, grind (arith, nat_tests)), spelled)) (λ h. inr (inr (refl, (r, quantity, grind (arith, nat_tests), spelled))))

-- Where two lists begin alike, so do their rests.
same_function : {f g : ℕ} {xs ys : List ℕ} → f ∷ xs ≡ g ∷ ys → f ≡ g
same_function same = ap (λ l. get_or l 0 0) same

-- A text after function 3 of another length, or with a quantity that isn't allowed, is no request.
no_read_by_length : (fields : List ℕ) → length fields ≢ 4 → IsNoRequest (3 ∷ fields)
no_read_by_length fields other (Read addr qty) quantity same = other (let long : length (3 ∷ fields) ≡ 5 = ap length same in omega arith)
no_read_by_length fields other (WriteOne addr value) quantity same = absurd (let f = same_function same in omega arith)
no_read_by_length fields other (WriteMany addr words) quantity same = absurd (let f = same_function same in omega arith)

no_read_by_quantity : (a b c d : ℕ) → is_quantity 125 (number c d) ≡ false → IsNoRequest (3 ∷ a ∷ b ∷ c ∷ d ∷ [])
no_read_by_quantity a b c d refused (Read addr qty) quantity same =
    let high = ap (λ l. get_or l 3 0) same in
    let low = ap (λ l. get_or l 4 0) same in
    let stands : number c d ≡ qty = omega arith in
    absurd (false≢true (sym refused ∙ ap (is_quantity 125) stands ∙ is_quantity-passes 125 qty quantity.0 quantity.1))
no_read_by_quantity a b c d refused (WriteOne addr value) quantity same = absurd (let f = same_function same in omega arith)
no_read_by_quantity a b c d refused (WriteMany addr words) quantity same = absurd (let f = same_function same in omega arith)

no_write_one_by_length : (fields : List ℕ) → length fields ≢ 4 → IsNoRequest (6 ∷ fields)
no_write_one_by_length fields other (Read addr qty) quantity same = absurd (let f = same_function same in omega arith)
no_write_one_by_length fields other (WriteOne addr value) quantity same = other (let long : length (6 ∷ fields) ≡ 5 = ap length same in omega arith)
no_write_one_by_length fields other (WriteMany addr words) quantity same = absurd (let f = same_function same in omega arith)

no_write_many_by_length : (fields : List ℕ) → length fields < 5 → IsNoRequest (16 ∷ fields)
no_write_many_by_length fields short (Read addr qty) quantity same = absurd (let f = same_function same in omega arith)
no_write_many_by_length fields short (WriteOne addr value) quantity same = absurd (let f = same_function same in omega arith)
no_write_many_by_length fields short (WriteMany addr words) quantity same = let long : length (16 ∷ fields) ≡ length (request_bytes (WriteMany addr words)) = ap length same in absurd (omega arith)

is_whole : ℕ → ℕ → List ℕ → Bool
is_whole qty count values = is_quantity 123 qty && (count == 2 * qty && length values == 2 * qty)

is_whole-passes : (words : List ℕ) → 1 ≤ length words → length words ≤ 123 → is_whole (length words) (2 * length words) (word_bytes words) ≡ true
unfolding is_whole
is_whole-passes words low high =
    let quantity = is_quantity-passes 123 (length words) low high in
    let same : (2 * length words == 2 * length words) ≡ true = grind (arith, nat_tests) in
    rw (quantity, length-word_bytes words, same) refl

no_write_many_by_count : (a b c d count : ℕ) (values : List ℕ) → is_whole (number c d) count values ≡ false → IsNoRequest (16 ∷ a ∷ b ∷ c ∷ d ∷ count ∷ values)
no_write_many_by_count a b c d count values refused (Read addr qty) quantity same = absurd (let f = same_function same in omega arith)
no_write_many_by_count a b c d count values refused (WriteOne addr value) quantity same = absurd (let f = same_function same in omega arith)
no_write_many_by_count a b c d count values refused (WriteMany addr words) quantity same =
    let high = ap (λ l. get_or l 3 0) same in
    let low = ap (λ l. get_or l 4 0) same in
    let stands : number c d ≡ length words = omega arith in
    let counted : count ≡ 2 * length words = ap (λ l. get_or l 5 0) same in
    let behind : values ≡ word_bytes words = ap (drop 6) same in
    absurd (false≢true (sym refused ∙ ap (λ n. is_whole n count values) stands ∙ ap (λ n. is_whole (length words) n values) counted ∙ ap (is_whole (length words) (2 * length words)) behind ∙ is_whole-passes words quantity.0 quantity.1))

read_stands : (fields : List ℕ) → AreBytes fields → IsRequestOf (3 ∷ fields) (read_of fields)
read_stands [] fit = inr (inl (refl, inl refl, no_read_by_length _ (λ h. absurd (omega (arith, h)))))
read_stands (a ∷ []) fit = inr (inl (refl, inl refl, no_read_by_length _ (λ h. absurd (omega (arith, h)))))
read_stands (a ∷ b ∷ []) fit = inr (inl (refl, inl refl, no_read_by_length _ (λ h. absurd (omega (arith, h)))))
read_stands (a ∷ b ∷ c ∷ []) fit = inr (inl (refl, inl refl, no_read_by_length _ (λ h. absurd (omega (arith, h)))))
read_stands (a ∷ b ∷ c ∷ d ∷ []) fit =
    let bytes : List ℕ = 3 ∷ a ∷ b ∷ c ∷ d ∷ [] in
    let r : Request = Read (number a b) (number c d) in
    let spelled : bytes ≡ request_bytes r = sym (ap (λ l. 3 ∷ l ++ number_bytes (number c d)) (number_bytes-number a b (fit 1)) ∙ ap (λ l. 3 ∷ a ∷ b ∷ l) (number_bytes-number c d (fit 3))) in
    if_stands bytes (is_quantity 125 (number c d)) (addressed (number a b) (number c d) r) illegal_value (λ h. addressed_stands bytes r (is_quantity-true 125 (number c d) h) spelled) (λ h. inr (inl (refl, inl refl, no_read_by_quantity a b c d h)))
read_stands (a ∷ b ∷ c ∷ d ∷ e ∷ more) fit = inr (inl (refl, inl refl, no_read_by_length _ (λ h. absurd (omega (arith, h)))))

write_one_stands : (fields : List ℕ) → AreBytes fields → IsRequestOf (6 ∷ fields) (write_one_of fields)
write_one_stands [] fit = inr (inl (refl, inr (inl refl), no_write_one_by_length _ (λ h. absurd (omega (arith, h)))))
write_one_stands (a ∷ []) fit = inr (inl (refl, inr (inl refl), no_write_one_by_length _ (λ h. absurd (omega (arith, h)))))
write_one_stands (a ∷ b ∷ []) fit = inr (inl (refl, inr (inl refl), no_write_one_by_length _ (λ h. absurd (omega (arith, h)))))
write_one_stands (a ∷ b ∷ c ∷ []) fit = inr (inl (refl, inr (inl refl), no_write_one_by_length _ (λ h. absurd (omega (arith, h)))))
write_one_stands (a ∷ b ∷ c ∷ d ∷ []) fit =
    ((tt, omega (arith, fit 0, fit 1)), sym (ap (λ l. 6 ∷ l ++ number_bytes (number c d)) (number_bytes-number a b (fit 1)) ∙ ap (λ l. 6 ∷ a ∷ b ∷ l) (number_bytes-number c d (fit 3))))
write_one_stands (a ∷ b ∷ c ∷ d ∷ e ∷ more) fit = inr (inl (refl, inr (inl refl), no_write_one_by_length _ (λ h. absurd (omega (arith, h)))))

is_whole-true : (qty count : ℕ) (values : List ℕ) → is_whole qty count values ≡ true → (1 ≤ qty) × (qty ≤ 123) × (count ≡ 2 * qty) × (length values ≡ 2 * qty)
unfolding is_whole
is_whole-true qty count values h = (grind (arith, nat_tests), grind (arith, nat_tests), grind (arith, nat_tests), grind (arith, nat_tests))

write_many_spelled : (a b c d count : ℕ) (values : List ℕ) → AreBytes (a ∷ b ∷ c ∷ d ∷ count ∷ values) → count ≡ 2 * number c d → length values ≡ 2 * number c d → 16 ∷ a ∷ b ∷ c ∷ d ∷ count ∷ values ≡ request_bytes (WriteMany (number a b) (words_of values))
write_many_spelled a b c d count values fit counted whole =
    let n = number c d in
    let len = length-words_of values n whole in
    let behind = word_bytes-words_of values n (λ k. fit (suc (suc (suc (suc (suc k)))))) whole in
    let first = number_bytes-number a b (fit 1) in
    let second = number_bytes-number c d (fit 3) in
    sym (ap (λ m. 16 ∷ number_bytes (number a b) ++ number_bytes m ++ (2 * m) ∷ word_bytes (words_of values)) len ∙ ap (λ l. 16 ∷ l ++ number_bytes n ++ (2 * n) ∷ word_bytes (words_of values)) first ∙ ap (λ l. 16 ∷ a ∷ b ∷ l ++ (2 * n) ∷ word_bytes (words_of values)) second ∙ ap (λ m. 16 ∷ a ∷ b ∷ c ∷ d ∷ m ∷ word_bytes (words_of values)) (sym counted) ∙ ap (λ l. 16 ∷ a ∷ b ∷ c ∷ d ∷ count ∷ l) behind)

write_many_stands : (fields : List ℕ) → AreBytes fields → IsRequestOf (16 ∷ fields) (write_many_of fields)
unfolding is_whole
write_many_stands [] fit = inr (inl (refl, inr (inr refl), no_write_many_by_length _ (omega arith)))
write_many_stands (a ∷ []) fit = inr (inl (refl, inr (inr refl), no_write_many_by_length _ (omega arith)))
write_many_stands (a ∷ b ∷ []) fit = inr (inl (refl, inr (inr refl), no_write_many_by_length _ (omega arith)))
write_many_stands (a ∷ b ∷ c ∷ []) fit = inr (inl (refl, inr (inr refl), no_write_many_by_length _ (omega arith)))
write_many_stands (a ∷ b ∷ c ∷ d ∷ []) fit = inr (inl (refl, inr (inr refl), no_write_many_by_length _ (omega arith)))
write_many_stands (a ∷ b ∷ c ∷ d ∷ count ∷ values) fit =
    let bytes : List ℕ = 16 ∷ a ∷ b ∷ c ∷ d ∷ count ∷ values in
    let n = number c d in
    let r : Request = WriteMany (number a b) (words_of values) in
    if_stands bytes (is_whole n count values) (addressed (number a b) n r) illegal_value
    (λ h.
    let whole = is_whole-true n count values h in
    let len = length-words_of values n whole.3 in
    let P : ℕ → Type 0 = λ m. IsRequestOf bytes (addressed (number a b) m r) in
    subst P len (addressed_stands bytes r (omega (arith, whole.0), omega (arith, whole.1)) (write_many_spelled a b c d count values fit whole.2 whole.3)))
    (λ h. inr (inl (refl, inr (inr refl), no_write_many_by_count a b c d count values h)))

-- The first byte decides between the three.
module _ (function : ℕ) (fields : List ℕ) where
  by_function : (test : Bool) (one other : Result Request Exception) → (test ≡ true → IsRequestOf (function ∷ fields) one) → (test ≡ false → IsRequestOf (function ∷ fields) other) → IsRequestOf (function ∷ fields) (if test then one else other)
  by_function true one other is isnt = is refl
  by_function false one other is isnt = isnt refl

  moved : (known : ℕ) (result : Result Request Exception) → function == known ≡ true → IsRequestOf (known ∷ fields) result → IsRequestOf (function ∷ fields) result
  moved known result same stands =
      let P : ℕ → Type 0 = λ f. IsRequestOf (f ∷ fields) result in
      subst P (sym (eqb-true function known same)) stands

  stands_by_function : AreBytes fields → IsRequestOf (function ∷ fields) (request_of (function ∷ fields))
  stands_by_function fit =
      by_function (function == 3) (read_of fields) _ (λ h. moved 3 _ h (read_stands fields fit)) (λ not_read.
      by_function (function == 6) (write_one_of fields) _ (λ h. moved 6 _ h (write_one_stands fields fit)) (λ not_one.
      by_function (function == 16) (write_many_of fields) (Err illegal_function) (λ h. moved 16 _ h (write_many_stands fields fit)) (λ not_many.
      inl (refl, λ known. elim known [ inl h ↦ false≢true (sym not_read ∙ eq-eqb function 3 h) | inr h ↦ elim h [ inl h ↦ false≢true (sym not_one ∙ eq-eqb function 6 h) | inr h ↦ false≢true (sym not_many ∙ eq-eqb function 16 h) ] ]))))

-- What `request_of` gives is told by the spelling of requests.
pub request_of-stands : (bytes : List ℕ) → AreBytes bytes → IsRequestOf bytes (request_of bytes)
request_of-stands [] fit = inl (refl, λ known. elim known [ inl h ↦ omega (arith, h) | inr h ↦ elim h [ inl h ↦ omega (arith, h) | inr h ↦ omega (arith, h) ] ])
request_of-stands (function ∷ fields) fit = stands_by_function function fields (λ k. fit (suc k))
