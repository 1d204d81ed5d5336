-- Instructions are listed one after the other.
use Rattle.std.proofs.Common.{◌≡◌, ℕ, zero, suc, ◌+◌, ◌-◌, ◌<◌, ◌≤◌, List, [], ◌∷◌, ◌++◌, length, Result, Ok, Err, Some, Bool, true, false, nat_le, refl, sym, ap, ◌∙◌, arith, length-append, if◌then◌else◌}
use Rattle.std.proofs.lemmas.List.{append_assoc}
use Rattle.point_types.specs.Value.{◌>>=◌}
use Rattle.scan_code.specs.Image.{Image}
use Rattle.scan_code.specs.declared.op.Op.{Op}
use Rattle.scan_code.specs.declared.op.Op.TheVariants as does
use Rattle.scan_code.specs.Instruction.{decoded_at}
use Rattle.facts.specs.declared.refusal.Refusal.{Refusal}
use Rattle.verifier.specs.Listing.{Entry, is_placed, jumps_after, is_end, listed_with, listed_from, wrong_at}
use Rattle.verifier.proofs.Linking.{behind}

behind_one : (before : List Entry) (x : Entry) (r : Result (List Entry) Refusal) → behind (before ++ x ∷ []) r ≡ behind before (r >>= λ rest. Ok (x ∷ rest))
behind_one before x (Ok rest) = ap Ok (append_assoc before (x ∷ []) rest)
behind_one before x (Err refusal) = refl

below : (n m : ℕ) → n < m → nat_le m n ≡ false
below n m h = grind arith

above : (n m : ℕ) → m ≤ n → nat_le m n ≡ true
above n m h = grind arith

-- what is listed, and what is still to be listed from an address on
abbrev pub left : Image → List Entry → (at jumps : ℕ) → Bool → Result (List Entry) Refusal
left image before at jumps ended = behind before (listed_from image (length image.code - length before) at (length before) jumps ended)

listed_here : (image : Image) (most at n jumps : ℕ) (ended : Bool) → 0 < most → at < length image.code → listed_from image most at n jumps ended ≡ listed_with image at n jumps (decoded_at image.code at) (λ i next. listed_from image (most - 1) next (n + 1) (jumps_after jumps i) (is_end i))
listed_here image zero at n jumps ended p h = absurd (omega arith)
listed_here image (suc most) at n jumps ended p h =
    let b = below at (length image.code) h in
    let e : suc most - 1 ≡ most = omega arith in
    rw (b, e) refl

pub left_after : (image : Image) (before : List Entry) (at jumps next : ℕ) (ended : Bool) (i : Op) → at < length image.code → length before ≤ at → decoded_at image.code at ≡ Some (i, next) → is_placed image jumps i ≡ true → left image before at jumps ended ≡ left image (before ++ (at, i) ∷ []) next (jumps_after jumps i) (is_end i)
left_after image before at jumps next ended i h k d p =
    let here = listed_here image (length image.code - length before) at (length before) jumps ended (omega arith) h in
    let long : length (before ++ (at, i) ∷ []) ≡ length before + 1 = omega (arith, length-append before ((at, i) ∷ [])) in
    let fewer : length image.code - (length before + 1) ≡ length image.code - length before - 1 = omega arith in
    rw (here, d, p, long, fewer) (sym (behind_one before (at, i) (listed_from image (length image.code - length before - 1) next (length before + 1) (jumps_after jumps i) (is_end i))))

pub left_misplaced : (image : Image) (before : List Entry) (at jumps next : ℕ) (ended : Bool) (i : Op) → at < length image.code → length before ≤ at → decoded_at image.code at ≡ Some (i, next) → is_placed image jumps i ≡ false → left image before at jumps ended ≡ wrong_at (length before)
left_misplaced image before at jumps next ended i h k d p =
    let here = listed_here image (length image.code - length before) at (length before) jumps ended (omega arith) h in
    rw (here, d, p) refl

listed_past : (image : Image) (most at n jumps : ℕ) (ended : Bool) → length image.code ≤ at → listed_from image most at n jumps ended ≡ (if ended then Ok [] else wrong_at n)
listed_past image zero at n jumps true h = let a = above at (length image.code) h in rw a refl
listed_past image zero at n jumps false h = refl
listed_past image (suc most) at n jumps ended h = let a = above at (length image.code) h in rw a refl

append_nothing : (xs : List Entry) → xs ++ [] ≡ xs
append_nothing [] = refl
append_nothing (x ∷ xs) = ap (λ (ys : List Entry). x ∷ ys) (append_nothing xs)

pub left_at_last : (image : Image) (before : List Entry) (at jumps : ℕ) (ended : Bool) → length image.code ≤ at → left image before at jumps ended ≡ (if ended then Ok before else wrong_at (length before))
left_at_last image before at jumps ended h = ap (behind before) (listed_past image (length image.code - length before) at (length before) jumps ended h) ∙ last ended
  where
    last : (t : Bool) → behind before (if t then Ok [] else wrong_at (length before)) ≡ (if t then Ok before else wrong_at (length before))
    last true = ap Ok (append_nothing before)
    last false = refl

pub jumps_few : (jumps : ℕ) (i : Op) → jumps_after jumps i ≤ jumps + 1
jumps_few jumps (does.Repeat condition k n to) = omega arith
jumps_few jumps other = omega arith
