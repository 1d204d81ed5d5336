-- Names: zeros after a text that grows, and bytes that are all ASCII.
use Rattle.std.proofs.Common.{◌≡◌, ℕ, suc, ◌+◌, ◌-◌, ◌<◌, List, [], ◌∷◌, ◌++◌, length, map, set, take, replicate, get_or, refl, sym, ap, ◌∙◌, arith, length-append, length-take-le, ◌≤◌, Option, None, if◌then◌else◌, nat_le, Bool, false, true, ◌&&◌, leb-true, zero, lit<, not}
use Rattle.std.specs.Prelude.{IsTrue, IsUtf8}
use Rattle.std.specs.List.{list_all}
use Rattle.std.proofs.lemmas.Str.{IsUtf8-from_ascii}
use Rattle.std.proofs.lemmas.Bool.Decides.{nat_tests}
use Rattle.point_types.specs.Keyword.{is_reserved}
use Rattle.std.proofs.lemmas.List.{length-map}
use Rattle.std.proofs.lemmas.List.{map_more}
use Rattle.std.proofs.Math.Seq.{set-append_seam}
use Rattle.point_types.specs.Name.{folded, padded, begins_with_letter, is_name, is_name_byte, is_name_word, is_parted, name_of}
use Rattle.point_types.proofs.Truths.{first_of}
use Rattle.point_types.proofs.Truths.{second_of}

set-padded : (bs : List ℕ) (b : ℕ) → length bs < 32 → set (padded bs) (length bs) b ≡ padded (bs ++ b ∷ [])
set-padded bs b h =
    ap (λ z. set (bs ++ replicate z 0) (length bs) b) room ∙ set-append_seam bs 0 (replicate (31 - length bs) 0) b ∙ back
  where
    room : 32 - length bs ≡ suc (31 - length bs)
    room = omega arith

    left : 31 - length bs ≡ 32 - length (bs ++ b ∷ [])
    left = simp length-append (omega arith)

    joined : (xs zs : List ℕ) → xs ++ b ∷ zs ≡ (xs ++ b ∷ []) ++ zs
    joined [] zs = refl
    joined (x ∷ xs) zs = ap (λ z. x ∷ z) (joined xs zs)

    back : bs ++ b ∷ replicate (31 - length bs) 0 ≡ padded (bs ++ b ∷ [])
    back = joined bs (replicate (31 - length bs) 0) ∙ ap (λ z. (bs ++ b ∷ []) ++ replicate z 0) left

-- one more byte of a text in lower case
pub folded_more : (text cells : List ℕ) (i b : ℕ) → i < length text → i < 32 → cells ≡ padded (map folded (take i text)) → b ≡ folded (get_or text i 0) → set cells i b ≡ padded (map folded (take (i + 1) text))
folded_more text cells i b h g e f =
    let n : length (map folded (take i text)) ≡ i = length-map (take i text) folded ∙ length-take-le i text (omega arith) in
    let few : length (map folded (take i text)) < 32 = omega arith in
    ap (λ z. set z i b) e ∙ ap (λ z. set (padded (map folded (take i text))) z b) (sym n) ∙ set-padded (map folded (take i text)) b few ∙ ap (λ z. padded (map folded (take i text) ++ z ∷ [])) f ∙ ap padded (sym (map_more folded text i 0 h))

-- a text of more than 32 bytes is no name
pub long_is_none : (text : List ℕ) → 32 < length text → None ≡ name_of text
long_is_none text h = sym (ap (λ z. if z && is_name_word (map folded text) then Rattle.std.proofs.Common.Some (map folded text) else None) (decide (nat_le (length (map folded text)) 32) refl))
  where
    size : length (map folded text) ≡ length text
    size = length-map text folded

    decide : (b : Bool) → nat_le (length (map folded text)) 32 ≡ b → nat_le (length (map folded text)) 32 ≡ false
    decide false e = e
    decide true e =
        let few : length (map folded text) ≤ 32 = leb-true _ _ e in
        absurd (omega (arith, size))

low_byte : (b : ℕ) → is_name_byte b ≡ true → b < 128
low_byte b h = grind (arith, nat_tests)

low_bytes : (bs : List ℕ) → list_all is_name_byte bs ≡ true → (i : ℕ) → get_or bs i 0 < 128
low_bytes [] h i = lit< tt
low_bytes (b ∷ bs) h zero = low_byte b (first_of (is_name_byte b) (list_all is_name_byte bs) h)
low_bytes (b ∷ bs) h (suc i) = low_bytes bs (second_of (is_name_byte b) (list_all is_name_byte bs) h) i

-- the bytes of a name are a text
pub name_is_text : (bs : List ℕ) → IsTrue (is_name bs) → IsUtf8 bs
name_is_text bs h =
    let word = second_of (nat_le (length bs) 32) (is_name_word bs) h in
    let left = first_of ((begins_with_letter bs && list_all is_name_byte bs) && is_parted bs) (not (is_reserved bs)) word in
    let bytes = first_of (begins_with_letter bs && list_all is_name_byte bs) (is_parted bs) left in
    IsUtf8-from_ascii bs (low_bytes bs (second_of (begins_with_letter bs) (list_all is_name_byte bs) bytes))
