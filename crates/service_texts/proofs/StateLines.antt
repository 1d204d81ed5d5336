-- What is written of set values says them again.
use Rattle.std.proofs.Common.{◌≡◌, ℕ, suc, ◌+◌, ◌<◌, ◌≤◌, true, false, not, ◌&&◌, nat_le, eqb, ℤ, pos, negsuc, neg_ℤ, add-one, List, [], ◌∷◌, ◌++◌, length, get_or, take, drop, refl, sym, ap, ◌∙◌, subst, arith, append_assoc, Some, None, Option, IsTrue, w64, FitsSigned}
use native.Mathlib.Numerals.{unary_clauses}
use Rattle.std.specs.Fmt.{decimal, signed_decimal}
use Rattle.std.specs.Int.{IsInRange}
use Rattle.std.specs.List.{AllByRecursion, list_all, position_or_len, after_first, slice_split}
use Rattle.std.specs.Str.Lines.{lines, lines_of_parts, strip_carriage_return}
use Rattle.std.specs.Str.Parse.{AllDigits, IsNumeral, digits_value, signed_digits_value, without_leading_sign}
use Rattle.std.proofs.lemmas.Bool.{and_parts, false≢true, ne_eqb, cond-false}
use Rattle.std.proofs.lemmas.Fmt.{decimal_is_IsNumeral}
use Rattle.std.proofs.lemmas.List.Elements.{All-from_recursion}
use Rattle.std.proofs.lemmas.List.Splits.{length-slice_split, slice_split_at}
use Rattle.std.proofs.lemmas.Str.Parse.{digit_from_value}
use Rattle.point_types.specs.Name.{begins_with_letter, is_name, is_name_byte, is_name_word, is_parted, most_characters}
use Rattle.point_types.specs.Keyword.{is_reserved}
use Rattle.site_model.specs.declared.tag.SiteTag.{SiteTag}
use Rattle.service_texts.specs.State.{AreSaid, IsFit, Says, is_equals_sign, name_in, setting, state_text, tag_line}

-- a byte that is no equals sign and ends no line
abbrev IsPlain : ℕ → Type 0
IsPlain b = (eqb b 61 ≡ false) × (eqb b 10 ≡ false) × (eqb b 13 ≡ false)

abbrev IsInner : ℕ → Type 0
IsInner b = (eqb b 10 ≡ false) × (eqb b 13 ≡ false)

-- a name has plain bytes alone
other_byte : (b c : ℕ) → is_name_byte b ≡ true → is_name_byte c ≡ false → eqb b c ≡ false
other_byte b c h n = ne_eqb b c (λ e. false≢true (sym n ∙ ap is_name_byte (sym e) ∙ h))

name_bytes : (bs : List ℕ) → list_all is_name_byte bs ≡ true → AllByRecursion IsPlain bs
name_bytes [] h = tt
name_bytes (b ∷ bs) h =
    let p = and_parts (is_name_byte b) (list_all is_name_byte bs) h in
    ((other_byte b 61 p.0 refl, other_byte b 10 p.0 refl, other_byte b 13 p.0 refl), name_bytes bs p.1)

-- so does a number
digit_byte : (b : ℕ) → IsInRange 48 57 b → IsPlain b
digit_byte b r =
    let low : 48 ≤ b = r.0 in
    let high : b ≤ 57 = r.1 in
    (ne_eqb b 61 (λ e. absurd (omega arith)), ne_eqb b 10 (λ e. absurd (omega arith)), ne_eqb b 13 (λ e. absurd (omega arith)))

digit_bytes : (ds : List ℕ) → AllDigits 10 ds → AllByRecursion IsPlain ds
digit_bytes [] h = tt
digit_bytes (d ∷ ds) h = (digit_byte d (digit_from_value d h.0), digit_bytes ds h.1)

number_bytes : (z : ℤ) → FitsSigned w64 z → AllByRecursion IsPlain (signed_decimal z)
number_bytes (pos n) f = digit_bytes (decimal n) ((decimal_is_IsNumeral n (omega (arith, f.sfits))).0.1)
number_bytes (negsuc n) f = ((refl, refl, refl), digit_bytes (decimal (suc n)) ((decimal_is_IsNumeral (suc n) (omega (arith, f.sfits))).0.1))

inner_bytes : (bs : List ℕ) → AllByRecursion IsPlain bs → AllByRecursion IsInner bs
inner_bytes [] h = tt
inner_bytes (b ∷ bs) h = ((h.0.1, h.0.2), inner_bytes bs h.1)

both_inner : (xs ys : List ℕ) → AllByRecursion IsInner xs → AllByRecursion IsInner ys → AllByRecursion IsInner (xs ++ ys)
both_inner [] ys h k = k
both_inner (x ∷ xs) ys h k = (h.0, both_inner xs ys h.1 k)

-- a line ends where it ends
no_newline : (bs : List ℕ) → AllByRecursion IsInner bs → AllByRecursion (λ b. eqb b 10 ≡ false) bs
no_newline [] h = tt
no_newline (b ∷ bs) h = (h.0.0, no_newline bs h.1)

last_byte : (b : ℕ) (bs : List ℕ) → AllByRecursion IsInner (b ∷ bs) → eqb (get_or (b ∷ bs) (length bs) 0) 13 ≡ false
last_byte b [] h = h.0.1
last_byte b (c ∷ bs) h = last_byte c bs h.1

not_stripped : (bs : List ℕ) → AllByRecursion IsInner bs → strip_carriage_return bs ≡ bs
not_stripped [] h = refl
not_stripped (b ∷ bs) h = simp unary_clauses (cond-false (eqb (get_or (b ∷ bs) (length bs) 0) 13) (take (length bs) (b ∷ bs)) (b ∷ bs) (last_byte b bs h))

first_of_parts : (line : List ℕ) (parts : List (List ℕ)) → 0 < length parts → lines_of_parts (line ∷ parts) ≡ strip_carriage_return line ∷ lines_of_parts parts
first_of_parts line [] some = absurd (omega arith)
first_of_parts line (part ∷ parts) some = refl

apart : (line more : List ℕ) → AllByRecursion IsInner line → lines (line ++ 10 ∷ more) ≡ line ∷ lines more
apart line more h =
    let parts = slice_split (λ b. eqb b 10) more in
    let split : slice_split (λ b. eqb b 10) (line ++ 10 ∷ more) ≡ line ∷ parts = slice_split_at (λ b. eqb b 10) line 10 more (All-from_recursion (λ b. eqb b 10 ≡ false) line (no_newline line h)) refl in
    let some : 0 < length parts = omega (arith, length-slice_split (λ b. eqb b 10) more) in
    ap lines_of_parts split ∙ first_of_parts line parts some ∙ ap (λ l. l ∷ lines_of_parts parts) (not_stripped line h)

-- the name stands before the sign, the number after it
sign_at : (name rest : List ℕ) → AllByRecursion IsPlain name → position_or_len is_equals_sign (name ++ 61 ∷ rest) ≡ length name
sign_at [] rest h = refl
sign_at (b ∷ bs) rest h = rw h.0.0 ((omega arith) ∙ ap suc (sign_at bs rest h.1))

front : (name rest : List ℕ) → take (length name) (name ++ rest) ≡ name
front [] rest = refl
front (b ∷ bs) rest = ap (λ t. b ∷ t) (front bs rest)

behind_from : (name : List ℕ) (b : ℕ) (rest : List ℕ) → drop (suc (length name)) (name ++ b ∷ rest) ≡ rest
behind_from [] b rest = refl
behind_from (c ∷ cs) b rest = behind_from cs b rest

behind : (name : List ℕ) (b : ℕ) (rest : List ℕ) → drop (length name + 1) (name ++ b ∷ rest) ≡ rest
behind name b rest = ap (λ k. drop k (name ++ b ∷ rest)) (add-one (length name)) ∙ behind_from name b rest

inside : (name : List ℕ) (b : ℕ) (rest : List ℕ) → length name < length (name ++ b ∷ rest)
inside [] b rest = omega arith
inside (c ∷ cs) b rest = omega (arith, inside cs b rest)

-- a number is read as it was written
plain_digits : (ds : List ℕ) → IsNumeral 10 ds → (without_leading_sign ds ≡ ds) × (signed_digits_value 10 ds ≡ pos (digits_value 10 ds))
plain_digits [] h = absurd (omega (arith, h.0))
plain_digits (d ∷ ds) h =
    let r = digit_from_value d h.1.0 in
    let low : 48 ≤ d = r.0 in
    let minus : eqb d 45 ≡ false = ne_eqb d 45 (λ e. absurd (omega arith)) in
    let plus : eqb d 43 ≡ false = ne_eqb d 43 (λ e. absurd (omega arith)) in
    (rw minus (rw plus refl), rw minus (rw plus refl))

number_again : (z : ℤ) → FitsSigned w64 z → IsNumeral 10 (without_leading_sign (signed_decimal z)) × (signed_digits_value 10 (signed_decimal z) ≡ z)
number_again (pos n) f =
    let d = decimal_is_IsNumeral n (omega (arith, f.sfits)) in
    let p = plain_digits (decimal n) d.0 in
    (subst (IsNumeral 10) (sym p.0) d.0, p.1 ∙ ap pos d.1)
number_again (negsuc n) f =
    let d = decimal_is_IsNumeral (suc n) (omega (arith, f.sfits)) in
    (d.0, ap (λ k. neg_ℤ (pos k)) d.1)

says : (name : List ℕ) (number : ℤ) → AllByRecursion IsPlain name → FitsSigned w64 number → Says (setting name number) name number
says name number h f =
    let line = name ++ 61 ∷ signed_decimal number in
    let at : position_or_len is_equals_sign line ≡ length name = sign_at name (signed_decimal number) h in
    let rest : after_first is_equals_sign line ≡ signed_decimal number = ap (λ k. drop (k + 1) line) at ∙ behind name 61 (signed_decimal number) in
    let again = number_again number f in
    subst (λ l. Says l name number) (sym (append_assoc name (61 ∷ []) (signed_decimal number))) (record {
      parted = subst (λ k. k < length line) (sym at) (inside name 61 (signed_decimal number));
      named = ap (λ k. take k line) at ∙ front name (61 ∷ signed_decimal number);
      numeral = subst (λ t. IsNumeral 10 (without_leading_sign t)) (sym rest) again.0;
      counted = ap (signed_digits_value 10) rest ∙ again.1;
      fits = f;
    })

-- the bytes of a name are those of names
bytes_of_name : (name : List ℕ) → IsTrue (is_name name) → AllByRecursion IsPlain name
bytes_of_name name h =
    let w = (and_parts (nat_le (length name) most_characters) (is_name_word name) h).1 in
    let p = and_parts (begins_with_letter name && list_all is_name_byte name && is_parted name) (not (is_reserved name)) w in
    let q = and_parts (begins_with_letter name && list_all is_name_byte name) (is_parted name) p.0 in
    name_bytes name (and_parts (begins_with_letter name) (list_all is_name_byte name) q.0).1

-- a tag that is set says so in the first line
pub said_first : (name : List ℕ) (number : ℤ) (more : List ℕ) → IsTrue (is_name name) → FitsSigned w64 number
    → Says (setting name number) name number × (lines (tag_line name (Some number) ++ more) ≡ setting name number ∷ lines more)
said_first name number more named f =
    let plain = bytes_of_name name named in
    let inner : AllByRecursion IsInner (setting name number) = both_inner (name ++ 61 ∷ []) (signed_decimal number) (both_inner name (61 ∷ []) (inner_bytes name plain) ((refl, refl), tt)) (inner_bytes (signed_decimal number) (number_bytes number f)) in
    (says name number plain f, ap lines (append_assoc (setting name number) (10 ∷ []) more) ∙ apart (setting name number) more inner)

-- the lines of all tags say their settings where those of the rest do
pub said_more : (tag : SiteTag) (number : Option ℤ) (tags : List SiteTag) (numbers : List (Option ℤ)) → IsFit tag.name number
    → AreSaid tags numbers (lines (state_text tags numbers)) → AreSaid (tag ∷ tags) (number ∷ numbers) (lines (state_text (tag ∷ tags) (number ∷ numbers)))
said_more tag None tags numbers fit rest = rest
said_more tag (Some number) tags numbers fit rest =
    let first = said_first tag.name number (state_text tags numbers) fit.0 fit.1 in
    subst (λ ls. AreSaid (tag ∷ tags) (Some number ∷ numbers) ls) (sym first.1) (first.0, rest)

-- one tag more is written
pub written_more : (text new whole : List ℕ) (before tags : List SiteTag) (befores numbers : List (Option ℤ)) (tag : SiteTag) (number : Option ℤ) → before ≡ tag ∷ tags → befores ≡ number ∷ numbers
    → new ≡ text ++ tag_line tag.name number → text ++ state_text before befores ≡ whole → new ++ state_text tags numbers ≡ whole
written_more text new whole before tags befores numbers tag number e f w h =
    ap (λ t. t ++ state_text tags numbers) w ∙ append_assoc text (tag_line tag.name number) (state_text tags numbers)
    ∙ ap (λ ts. text ++ state_text ts (number ∷ numbers)) (sym e) ∙ ap (λ ns. text ++ state_text before ns) (sym f) ∙ h

-- and said
pub said_step : (Q : Type 0) (before tags : List SiteTag) (befores numbers : List (Option ℤ)) (tag : SiteTag) (number : Option ℤ) → before ≡ tag ∷ tags → befores ≡ number ∷ numbers → IsFit tag.name number
    → (AreSaid before befores (lines (state_text before befores)) → Q) → AreSaid tags numbers (lines (state_text tags numbers)) → Q
said_step Q before tags befores numbers tag number e f fit h rest =
    let all : AreSaid (tag ∷ tags) (number ∷ numbers) (lines (state_text (tag ∷ tags) (number ∷ numbers))) → Q =
    subst (λ ns. AreSaid (tag ∷ tags) ns (lines (state_text (tag ∷ tags) ns)) → Q) f (subst (λ ts. AreSaid ts befores (lines (state_text ts befores)) → Q) e h) in
    all (said_more tag number tags numbers fit rest)

-- what a line says it says of the name before its first sign
pub said_by_its_name : {line name : List ℕ} {number : ℤ} → Says line name number → Says line (name_in line) number
said_by_its_name {line} {name} {number} says = subst (λ n. Says line n number) (sym says.named) says
