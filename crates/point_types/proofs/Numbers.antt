-- The number of some words: how it grows by a word, and how large it can be.
use Rattle.std.proofs.Common.{◌≡◌, ℕ, ◌+◌, ◌-◌, ◌*◌, ◌/◌, ◌%◌, ◌^◌, ◌<◌, ◌≤◌, List, [], ◌∷◌, ◌++◌, length, take, drop, set, get_or, bit_and, bit_or, refl, ap, ◌∙◌, arith, lit<, length-drop}
use Rattle.std.specs.Prelude.{All}
use Rattle.std.proofs.Math.Nat.{pow-suc, pow-le-pow_right, mod-eq_of_lt, mul-le-mul_left}
use Rattle.std.proofs.lemmas.Nat.{or_shifted, pow-add, and_mask, div-add-mod'}
use Rattle.std.proofs.lemmas.List.{take_more, length_push, drop-set}
use Rattle.std.proofs.Math.ListN.{length-set}
use Rattle.std.proofs.lemmas.List.Elements.{All-head, All-tail}
use Rattle.point_types.specs.Point.{number_of}

pub number_of-push : (xs : List ℕ) (w : ℕ) → number_of (xs ++ w ∷ []) ≡ number_of xs * 65536 + w
number_of-push [] w = omega arith
number_of-push (x ∷ xs) w =
    let e = number_of-push xs w in
    let p : 65536 ^ length (xs ++ w ∷ []) ≡ 65536 ^ length xs * 65536 = ap (λ n. 65536 ^ n) (length_push xs w) ∙ pow-add 65536 (length xs) 1 in
    rw (p, e) (omega arith)

pub number_of_more : (ws : List ℕ) (i : ℕ) → i < length ws → number_of (take (i + 1) ws) ≡ number_of (take i ws) * 65536 + get_or ws i 0
number_of_more ws i h = rw (take_more ws i 0 h) (number_of-push (take i ws) (get_or ws i 0))

pub number_of-lt : (ws : List ℕ) → All (λ w. w < 65536) ws → number_of ws < 65536 ^ length ws
number_of-lt [] h = lit< tt
number_of-lt (w ∷ ws) h =
    let rest = number_of-lt ws (All-tail (λ w. w < 65536) w ws h) in
    let first : w + 1 ≤ 65536 = let l = All-head (λ w. w < 65536) w ws h in omega arith in
    rw (pow-suc 65536 (length ws)) (omega (arith, mul-le-mul_left (65536 ^ length ws) first))

-- one word more: the number before it is shifted by 16 bits
pub shifted_in : (n i w : ℕ) → i < 4 → n < 65536 ^ i → w < 65536 → bit_or (n * 65536 % 2 ^ 64) w ≡ n * 65536 + w
shifted_in n i w h k l =
    let p : 65536 ^ i ≤ 65536 ^ 3 = pow-le-pow_right {n = 65536} (lit< tt) {i = i} {j = 3} (omega arith) in
    let m : n * 65536 < 2 ^ 64 = omega arith in
    rw (mod-eq_of_lt m) (or_shifted n 16 w l)

pub grown_below : (n i w : ℕ) → n < 65536 ^ i → w < 65536 → n * 65536 + w < 65536 ^ (i + 1)
grown_below n i w h l = rw (pow-add 65536 i 1) (omega arith)

pub number_of-drop_set : (ws : List ℕ) (j w : ℕ) → j < length ws → number_of (drop j (set ws j w)) ≡ w * 65536 ^ (length ws - (j + 1)) + number_of (drop (j + 1) ws)
number_of-drop_set ws j w h = rw (drop-set ws j w h, length-drop (j + 1) ws) refl

-- a number's lowest 16 bits go into the word before those that are written
pub split_step : (ws : List ℕ) (j rest : ℕ) → j < length ws → rest / 65536 * 65536 ^ (length (set ws j (bit_and rest 65535)) - j) + number_of (drop j (set ws j (bit_and rest 65535))) ≡ rest * 65536 ^ (length ws - (j + 1)) + number_of (drop (j + 1) ws)
split_step ws j rest h =
    let p : 65536 ^ (length ws - j) ≡ 65536 ^ (length ws - (j + 1)) * 65536 = ap (λ n. 65536 ^ n) (minus_more (length ws) j h) ∙ pow-add 65536 (length ws - (j + 1)) 1 in
    let m : rest / 65536 * 65536 + rest % 65536 ≡ rest = div-add-mod' rest 65536 in
    rw (number_of-drop_set ws j (bit_and rest 65535) h, length-set ws j (bit_and rest 65535), and_mask rest 16, p)
    (omega (arith, ap (λ n. n * 65536 ^ (length ws - (j + 1))) m))
  where
    minus_more : (n k : ℕ) → k < n → n - k ≡ n - (k + 1) + 1
    minus_more n k l = omega arith
