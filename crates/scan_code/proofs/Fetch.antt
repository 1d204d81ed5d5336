-- Decoding finds what was spelled.
use Rattle.std.proofs.Common.{◌≡◌, ℕ, zero, suc, ◌+◌, ◌*◌, ◌/◌, ◌%◌, ◌^◌, ◌<◌, Bool, true, false, ◌&&◌, if◌then◌else◌, ℤ, pos, negsuc, ◌-ℤ◌, List, [], ◌∷◌, ◌++◌, length, Option, Some, None, option_map, nat_lt, nat_le, nat_eq, refl, sym, ap, ◌∙◌, arith, leb-true, lt-ltb, true≢false, ne_eqb, int_le}
use Rattle.std.proofs.Math.Seq.{drop-append_seam}
use Rattle.std.proofs.lemmas.Int.{ints}
use Rattle.point_types.specs.declared.il_type.IlType.{IlType}
use Rattle.point_types.specs.declared.il_type.IlType.TheVariants as il
use Rattle.point_types.specs.declared.operator.Operator.TheVariants as op
use Rattle.point_types.specs.declared.operator.Condition.TheVariants as when
use Rattle.scan_code.specs.declared.op.Op.{Op}
use Rattle.scan_code.specs.declared.op.Op.TheVariants as does
use Rattle.point_types.specs.Value.{low_of, high_of, is_within, is_bool, code_of}
use Rattle.scan_code.specs.Instruction.{whole_type, number_from, signed_from, typed_number, two_types, sized, decoded, decoded_at}
use Rattle.scan_code.specs.Spelling.{spelled, place_bytes, bytes_of, unsigned, IsFine, SpelledInstructionsDecode}
use Rattle.point_types.proofs.Truths.{both as both_true}

pub place_read : (n : ℕ) → number_from 0 (place_bytes n) ≡ n
place_read n = omega arith

-- the bytes of a number

abbrev top : ℕ → ℕ → ℕ
top zero n = n
top (suc k) n = top k (n / 256)

bytes_read : (k n : ℕ) (rest : List ℕ) → number_from (top k n) (bytes_of k n rest) ≡ number_from n rest
bytes_read zero n rest = refl
bytes_read (suc k) n rest =
    let e : n / 256 * 256 + n % 256 ≡ n = omega arith in
    bytes_read k (n / 256) (n % 256 ∷ rest) ∙ ap (λ m. number_from m rest) e

top_none : (n : ℕ) → n < 2 ^ 64 → top 8 n ≡ 0
top_none n h =
    let h1 : n / 256 < 2 ^ 56 = omega arith in
    let h2 : n / 256 / 256 < 2 ^ 48 = omega arith in
    let h3 : n / 256 / 256 / 256 < 2 ^ 40 = omega arith in
    let h4 : n / 256 / 256 / 256 / 256 < 2 ^ 32 = omega arith in
    let h5 : n / 256 / 256 / 256 / 256 / 256 < 2 ^ 24 = omega arith in
    let h6 : n / 256 / 256 / 256 / 256 / 256 / 256 < 2 ^ 16 = omega arith in
    let h7 : n / 256 / 256 / 256 / 256 / 256 / 256 / 256 < 2 ^ 8 = omega arith in
    omega arith

eight_read : (n : ℕ) → n < 2 ^ 64 → number_from 0 (bytes_of 8 n []) ≡ n
eight_read n h = ap (λ m. number_from m (bytes_of 8 n [])) (sym (top_none n h)) ∙ bytes_read 8 n []

abbrev pub IsLong : ℤ → Type 0
IsLong (pos n) = n < 2 ^ 63
IsLong (negsuc n) = n < 2 ^ 63

abbrev signed : ℕ → ℤ
signed n = if nat_lt n (2 ^ 63) then pos n else (pos n -ℤ pos (2 ^ 64))

signed_read : (n : ℤ) → IsLong n → signed (unsigned n) ≡ n
signed_read (pos n) h = ap (λ b. if b then pos n else (pos n -ℤ pos (2 ^ 64))) (lt-ltb n (2 ^ 63) h)
signed_read (negsuc n) h = grind (arith, ints)

unsigned_small : (n : ℤ) → IsLong n → unsigned n < 2 ^ 64
unsigned_small (pos n) h = omega arith
unsigned_small (negsuc n) h = omega arith

pub number_read : (n : ℤ) → IsLong n → signed_from (bytes_of 8 (unsigned n) []) ≡ n
number_read n h = ap signed (eight_read (unsigned n) (unsigned_small n h)) ∙ signed_read n h

pub within_parts : (low high n : ℤ) → is_within low high n ≡ true → (int_le low n ≡ true) × (int_le n high ≡ true)
within_parts low high n h = both_true (int_le low n) (int_le n high) h

is_long_pos : (n k : ℕ) → k < 2 ^ 63 → nat_le n k ≡ true → n < 2 ^ 63
is_long_pos n k h e = let l = leb-true n k e in omega arith

pub is_long : (k : IlType) (n : ℤ) → is_within (low_of k) (high_of k) n ≡ true → IsLong n
is_long il.Bool (pos n) h = is_long_pos n 1 (omega arith) (within_parts (low_of il.Bool) (high_of il.Bool) (pos n) h).1
is_long il.Sint (pos n) h = is_long_pos n 127 (omega arith) (within_parts (low_of il.Sint) (high_of il.Sint) (pos n) h).1
is_long il.Int (pos n) h = is_long_pos n 32767 (omega arith) (within_parts (low_of il.Int) (high_of il.Int) (pos n) h).1
is_long il.Dint (pos n) h = is_long_pos n 2147483647 (omega arith) (within_parts (low_of il.Dint) (high_of il.Dint) (pos n) h).1
is_long il.Lint (pos n) h = is_long_pos n 9223372036854775807 (omega arith) (within_parts (low_of il.Lint) (high_of il.Lint) (pos n) h).1
is_long il.Usint (pos n) h = is_long_pos n 255 (omega arith) (within_parts (low_of il.Usint) (high_of il.Usint) (pos n) h).1
is_long il.Uint (pos n) h = is_long_pos n 65535 (omega arith) (within_parts (low_of il.Uint) (high_of il.Uint) (pos n) h).1
is_long il.Udint (pos n) h = is_long_pos n 4294967295 (omega arith) (within_parts (low_of il.Udint) (high_of il.Udint) (pos n) h).1
is_long il.Bool (negsuc n) h = absurd (true≢false (sym h))
is_long il.Sint (negsuc n) h = is_long_pos n 127 (omega arith) (within_parts (low_of il.Sint) (high_of il.Sint) (negsuc n) h).0
is_long il.Int (negsuc n) h = is_long_pos n 32767 (omega arith) (within_parts (low_of il.Int) (high_of il.Int) (negsuc n) h).0
is_long il.Dint (negsuc n) h = is_long_pos n 2147483647 (omega arith) (within_parts (low_of il.Dint) (high_of il.Dint) (negsuc n) h).0
is_long il.Lint (negsuc n) h = is_long_pos n 9223372036854775807 (omega arith) (within_parts (low_of il.Lint) (high_of il.Lint) (negsuc n) h).0
is_long il.Usint (negsuc n) h = absurd (true≢false (sym h))
is_long il.Uint (negsuc n) h = absurd (true≢false (sym h))
is_long il.Udint (negsuc n) h = absurd (true≢false (sym h))

whole_of : (k : IlType) → is_bool k ≡ false → whole_type (code_of k) ≡ Some k
whole_of il.Bool h = absurd (true≢false h)
whole_of il.Sint h = refl
whole_of il.Int h = refl
whole_of il.Dint h = refl
whole_of il.Lint h = refl
whole_of il.Usint h = refl
whole_of il.Uint h = refl
whole_of il.Udint h = refl

number_typed : (made : IlType → ℤ → Op) (k : IlType) (n m : ℤ) (o : Option IlType) → o ≡ Some k → m ≡ n → is_within (low_of k) (high_of k) n ≡ true → typed_number made o m ≡ Some (made k n)
number_typed made k n m o e f h =
    ap (λ x. typed_number made x m) e ∙ ap (typed_number made (Some k)) f ∙ ap (λ b. if b then Some (made k n) else None) h

types_read : (made : IlType → IlType → Op) (a b : IlType) (x y : Option IlType) → x ≡ Some a → y ≡ Some b → nat_eq (code_of a) (code_of b) ≡ false → two_types made x y ≡ Some (made a b)
types_read made a b x y e f h =
    ap (λ o. two_types made o y) e ∙ ap (two_types made (Some a)) f ∙ ap (λ c. if c then None else Some (made a b)) h

pub not_zero : (n : ℕ) → 0 < n → nat_eq n 0 ≡ false
not_zero n h = ne_eqb n 0 (omega arith)

abbrev read : Op → ℕ → Option (Op × ℕ)
read i n = Some (i, n)

counted_read : (made : ℕ → Op) (limit to : ℕ) → 0 < limit → (if nat_eq limit 0 then None else read (made (number_from 0 (place_bytes to))) 4) ≡ read (made to) 4
counted_read made limit to h =
    ap (λ b. if b then None else read (made (number_from 0 (place_bytes to))) 4) (not_zero limit h) ∙ ap (λ n. read (made n) 4) (place_read to)

-- so many bytes after the first
abbrev Decodes : Op → List ℕ → Type 0
Decodes i rest = (n : ℕ) × (length (spelled i) ≡ n + 1) × (decoded (spelled i ++ rest) ≡ Some (i, n))

at_place : (made : ℕ → Op) (v : ℕ) → read (made (number_from 0 (place_bytes v))) 2 ≡ read (made v) 2
at_place made v = ap (λ n. read (made n) 2) (place_read v)

decodes_number : (k : IlType) (n : ℤ) (rest : List ℕ) → is_bool k ≡ false → is_within (low_of k) (high_of k) n ≡ true → Decodes (does.LoadNumber k n) rest
decodes_number k n rest whole within =
    (9, refl, ap (sized 9) (number_typed does.LoadNumber k n _ _ (whole_of k whole) (number_read n (is_long k n within)) within))

decodes : (i : Op) (rest : List ℕ) → IsFine i → Decodes i rest
decodes does.End rest h = (0, refl, refl)
decodes (does.LoadVariable v) rest h = (2, refl, at_place does.LoadVariable v)
decodes (does.LoadInput t) rest h = (2, refl, at_place does.LoadInput t)
decodes (does.LoadPresence t) rest h = (2, refl, at_place does.LoadPresence t)
decodes (does.LoadBool true) rest h = (1, refl, refl)
decodes (does.LoadBool false) rest h = (1, refl, refl)
decodes (does.LoadNumber k n) rest h = decodes_number k n rest h.0 h.1
decodes (does.StoreVariable v) rest h = (2, refl, at_place does.StoreVariable v)
decodes (does.StoreOutput t) rest h = (2, refl, at_place does.StoreOutput t)
decodes (does.SetVariable v) rest h = (2, refl, at_place does.SetVariable v)
decodes (does.ResetVariable v) rest h = (2, refl, at_place does.ResetVariable v)
decodes (does.SetOutput t) rest h = (2, refl, at_place does.SetOutput t)
decodes (does.ResetOutput t) rest h = (2, refl, at_place does.ResetOutput t)
decodes does.Push rest h = (0, refl, refl)
decodes does.Not rest h = (0, refl, refl)
decodes (does.Apply op.And) rest h = (0, refl, refl)
decodes (does.Apply op.Or) rest h = (0, refl, refl)
decodes (does.Apply op.Xor) rest h = (0, refl, refl)
decodes (does.Apply op.Add) rest h = (0, refl, refl)
decodes (does.Apply op.Sub) rest h = (0, refl, refl)
decodes (does.Apply op.Mul) rest h = (0, refl, refl)
decodes (does.Apply op.Div) rest h = (0, refl, refl)
decodes (does.Apply op.Mod) rest h = (0, refl, refl)
decodes (does.Apply op.Gt) rest h = (0, refl, refl)
decodes (does.Apply op.Ge) rest h = (0, refl, refl)
decodes (does.Apply op.Eq) rest h = (0, refl, refl)
decodes (does.Apply op.Ne) rest h = (0, refl, refl)
decodes (does.Apply op.Le) rest h = (0, refl, refl)
decodes (does.Apply op.Lt) rest h = (0, refl, refl)
decodes (does.Apply op.Min) rest h = (0, refl, refl)
decodes (does.Apply op.Max) rest h = (0, refl, refl)
decodes does.Select rest h = (0, refl, refl)
decodes does.Absolute rest h = (0, refl, refl)
decodes (does.Convert from to) rest h =
    (2, refl, ap (sized 2) (types_read does.Convert from to _ _ (whole_of from h.0) (whole_of to h.1) h.2))
decodes (does.Jump when.Always to) rest h = (2, refl, at_place (does.Jump when.Always) to)
decodes (does.Jump when.IfTrue to) rest h = (2, refl, at_place (does.Jump when.IfTrue) to)
decodes (does.Jump when.IfFalse to) rest h = (2, refl, at_place (does.Jump when.IfFalse) to)
decodes (does.Return when.Always) rest h = absurd h
decodes (does.Return when.IfTrue) rest h = (0, refl, refl)
decodes (does.Return when.IfFalse) rest h = (0, refl, refl)
decodes (does.Repeat when.Always k limit to) rest h = (4, refl, counted_read (does.Repeat when.Always k limit) limit to h)
decodes (does.Repeat when.IfTrue k limit to) rest h = (4, refl, counted_read (does.Repeat when.IfTrue k limit) limit to h)
decodes (does.Repeat when.IfFalse k limit to) rest h = (4, refl, counted_read (does.Repeat when.IfFalse k limit) limit to h)

decoded_here : (before rest : List ℕ) (i : Op) → Decodes i rest → decoded_at (before ++ (spelled i ++ rest)) (length before) ≡ Some (i, length before + length (spelled i))
decoded_here before rest i d =
    ap (λ l. option_map (λ found. (found.0, length before + 1 + found.1)) (decoded l)) (drop-append_seam before (spelled i ++ rest))
    ∙ ap (option_map (λ found. (found.0, length before + 1 + found.1))) d.2
    ∙ ap (read i) (omega (arith, d.1))

pub spelled_instructions_decode : SpelledInstructionsDecode
spelled_instructions_decode i before rest fine = decoded_here before rest i (decodes i rest fine)
