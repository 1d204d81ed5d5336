-- What is read was spelled so.
use Rattle.std.proofs.Common.{◌≡◌, ℕ, zero, suc, ◌+◌, ◌-◌, ◌*◌, ◌/◌, ◌%◌, ◌^◌, ◌≤◌, ◌<◌, Bool, true, false, ◌&&◌, List, [], ◌∷◌, ◌++◌, length, take, drop, ℤ, pos, negsuc, ◌-ℤ◌, Ok, Err, if◌then◌else◌, slice_get, nat_le, nat_lt, nat_eq, refl, sym, ap, subst, ◌∙◌, arith, leb-true, ltb-false, eqb-true, length-take-le}
use Rattle.std.proofs.lemmas.List.{append_assoc, append-nil, take-append-drop}
use Rattle.std.proofs.lemmas.Int.{ints}
use Rattle.point_types.specs.declared.il_type.IlType.{IlType}
use Rattle.point_types.specs.declared.il_type.IlType.TheVariants as il
use Rattle.point_types.specs.declared.variable.Var.{Var}
use Rattle.point_types.specs.Value.{code_of, is_ranged}
use Rattle.scan_code.specs.declared.image.Tag.{Tag}
use Rattle.scan_code.specs.declared.image_fault.ImageFault.{ImageFault}
use Rattle.scan_code.specs.declared.image_fault.ImageFault.TheVariants as fault
use Rattle.scan_code.specs.Instruction.{number_from, signed_from, types}
use Rattle.scan_code.specs.Spelling.{byte_of, bytes_of, place_bytes, unsigned}
use Rattle.scan_code.specs.Image.{Image, is_new, is_version, most_entries, names_of}
use Rattle.scan_code.specs.ImageSpelling.{mark, spelled_image, spelled_name, spelled_number, spelled_tag, spelled_tags, spelled_var, spelled_vars}
use Rattle.scan_code.specs.ImageReading.{Taken, then_take, kept_if, byte_at, place_at, number_at, piece_at, name_length_at, name_at, type_or_fault, type_at, is_low, is_high, low_at, high_at, var_behind, var_at, vars_at, direction_at, tag_at, tags_at, tables_at, image_at, version_at, count_at, behind_mark, ended, whole}
use Rattle.scan_code.specs.ImageLaws.{AreBytes, ImagesHaveOneSpelling}
use Rattle.scan_code.proofs.ImageTaken.{after_direction, after_high, after_length, after_low, after_tag_name, after_var_name, found_first, kept, made, never_ok, ok_inner, ranged_is, tag_made}
use Rattle.scan_code.proofs.ImageReadBack.{after_code, after_first, after_second, after_size, after_tags, after_vars, after_version}

behind : (xs ys : List ℕ) → AreBytes (xs ++ ys) → AreBytes ys
behind [] ys h = h
behind (x ∷ xs) ys h = behind xs ys h.1

-- numbers in eight bytes

counted : List ℕ → ℕ → ℕ
counted [] j = j
counted (b ∷ bs) j = counted bs (suc j)

bytes_back : (bs : List ℕ) (j high : ℕ) (rest : List ℕ) → AreBytes bs → bytes_of (counted bs j) (number_from high bs) rest ≡ bytes_of j high (bs ++ rest)
unfolding counted
bytes_back [] j high rest h = refl
bytes_back (b ∷ bs) j high rest h =
    let small = h.0 in
    let quotient : (high * 256 + b) / 256 ≡ high = omega (arith, small) in
    let left : (high * 256 + b) % 256 ≡ b = omega (arith, small) in
    bytes_back bs (suc j) (high * 256 + b) rest h.1
    ∙ ap (λ n. bytes_of j n ((high * 256 + b) % 256 ∷ (bs ++ rest))) quotient
    ∙ ap (λ n. bytes_of j high (n ∷ (bs ++ rest))) left

signed : ℕ → ℤ
signed n = if nat_lt n (2 ^ 63) then pos n else (pos n -ℤ pos (2 ^ 64))

unsigned_back : (n : ℕ) → n < 2 ^ 64 → unsigned (signed n) ≡ n
unfolding signed
unsigned_back n h = go (nat_lt n (2 ^ 63)) refl
  where
    go : (b : Bool) → nat_lt n (2 ^ 63) ≡ b → unsigned (if b then pos n else (pos n -ℤ pos (2 ^ 64))) ≡ n
    go true e = refl
    go false e =
        let large : 2 ^ 63 ≤ n = ltb-false n (2 ^ 63) e in
        let negative : pos n -ℤ pos (2 ^ 64) ≡ negsuc (2 ^ 64 - (n + 1)) = grind (arith, ints) in
        ap unsigned negative ∙ omega arith

small_eight : (a b c d e f g h : ℕ) → AreBytes (a ∷ b ∷ c ∷ d ∷ e ∷ f ∷ g ∷ h ∷ []) → number_from 0 (a ∷ b ∷ c ∷ d ∷ e ∷ f ∷ g ∷ h ∷ []) < 2 ^ 64
small_eight a b c d e f g h s = omega (arith, s.0, s.1.0, s.1.1.0, s.1.1.1.0, s.1.1.1.1.0, s.1.1.1.1.1.0, s.1.1.1.1.1.1.0, s.1.1.1.1.1.1.1.0)

front : (xs ys : List ℕ) → AreBytes (xs ++ ys) → AreBytes xs
front [] ys h = tt
front (x ∷ xs) ys h = (h.0, front xs ys h.1)

eight_spelled : (eight rest : List ℕ) → counted eight 0 ≡ 8 → number_from 0 eight < 2 ^ 64 → AreBytes eight → eight ++ rest ≡ spelled_number (signed_from eight) ++ rest
unfolding counted signed spelled_number
eight_spelled eight rest count small bytes =
    ap (λ l. l ++ rest) (sym (
    ap (λ n. bytes_of 8 n []) (unsigned_back (number_from 0 eight) small)
    ∙ ap (λ k. bytes_of k (number_from 0 eight) []) (sym count)
    ∙ bytes_back eight 0 0 [] bytes ∙ append-nil eight))

number_spelled : (bytes : List ℕ) (x : ℤ × List ℕ) → AreBytes bytes → number_at bytes ≡ Ok x → bytes ≡ spelled_number x.0 ++ x.1
unfolding counted
number_spelled (a ∷ b ∷ c ∷ d ∷ e ∷ f ∷ g ∷ h ∷ rest) x s t =
    let eight = a ∷ b ∷ c ∷ d ∷ e ∷ f ∷ g ∷ h ∷ [] in
    let bytes = front eight rest s in
    eight_spelled eight rest refl (small_eight a b c d e f g h bytes) bytes ∙ ap (λ p. spelled_number p.0 ++ p.1) (ok_inner (signed_from eight, rest) x t)
number_spelled rest x s t = absurd (never_ok fault.Cut x t)

byte_spelled : (bytes : List ℕ) (x : ℕ × List ℕ) → byte_at bytes ≡ Ok x → bytes ≡ x.0 ∷ x.1
byte_spelled [] x t = absurd (never_ok fault.Cut x t)
byte_spelled (b ∷ rest) x t = ap (λ p. p.0 ∷ p.1) (ok_inner (b, rest) x t)

place_spelled : (bytes : List ℕ) (x : ℕ × List ℕ) → AreBytes bytes → place_at bytes ≡ Ok x → bytes ≡ place_bytes x.0 ++ x.1
place_spelled [] x s t = absurd (never_ok fault.Cut x t)
place_spelled (a ∷ []) x s t = absurd (never_ok fault.Cut x t)
place_spelled (a ∷ b ∷ rest) x s t =
    let n = number_from 0 (a ∷ b ∷ []) in
    let high : a ≡ n / 256 = omega (arith, s.0, s.1.0) in
    let low : b ≡ n % 256 = omega (arith, s.0, s.1.0) in
    ap (λ c. c ∷ b ∷ rest) high ∙ ap (λ c. n / 256 ∷ c ∷ rest) low ∙ ap (λ p. place_bytes p.0 ++ p.1) (ok_inner (n, rest) x t)

checked_byte : (test : ℕ → Bool) (e : ImageFault) (bytes : List ℕ) (x : ℕ × List ℕ) → then_take (byte_at bytes) (λ n rest. kept_if (test n) e n rest) ≡ Ok x → (test x.0 ≡ true) × (bytes ≡ x.0 ∷ x.1)
checked_byte test e bytes x t =
    let b = found_first (byte_at bytes) (λ n rest. kept_if (test n) e n rest) x t in
    let k = kept (test b.0) e b.0 b.1 x b.3 in
    (ap test (sym k.1) ∙ k.0, byte_spelled bytes (b.0, b.1) b.2 ∙ ap (λ n. n ∷ b.1) k.1 ∙ ap (λ l. x.0 ∷ l) k.2)

checked_number : (test : ℤ → Bool) (bytes : List ℕ) (x : ℤ × List ℕ) → AreBytes bytes → then_take (number_at bytes) (λ n rest. kept_if (test n) fault.Field n rest) ≡ Ok x → bytes ≡ spelled_number x.0 ++ x.1
checked_number test bytes x s t =
    let b = found_first (number_at bytes) (λ n rest. kept_if (test n) fault.Field n rest) x t in
    let k = kept (test b.0) fault.Field b.0 b.1 x b.3 in
    number_spelled bytes (b.0, b.1) s b.2 ∙ ap (λ n. spelled_number n ++ b.1) k.1 ∙ ap (λ l. spelled_number x.0 ++ l) k.2

count_spelled : (bytes : List ℕ) (x : ℕ × List ℕ) → AreBytes bytes → count_at bytes ≡ Ok x → bytes ≡ place_bytes x.0 ++ x.1
count_spelled bytes x s t =
    let b = found_first (place_at bytes) (λ n rest. kept_if (nat_le n most_entries) fault.Field n rest) x t in
    let k = kept (nat_le b.0 most_entries) fault.Field b.0 b.1 x b.3 in
    place_spelled bytes (b.0, b.1) s b.2 ∙ ap (λ n. place_bytes n ++ b.1) k.1 ∙ ap (λ l. place_bytes x.0 ++ l) k.2

piece_spelled : (n : ℕ) (bytes : List ℕ) (x : List ℕ × List ℕ) → piece_at n bytes ≡ Ok x → (length x.0 ≡ n) × (bytes ≡ x.0 ++ x.1)
piece_spelled n bytes x t = go (nat_le n (length bytes)) refl t
  where
    go : (b : Bool) → nat_le n (length bytes) ≡ b → ◌≡◌ {A = Taken (List ℕ)} (if b then Ok (take n bytes, drop n bytes) else Err fault.Cut) (Ok x) → (length x.0 ≡ n) × (bytes ≡ x.0 ++ x.1)
    go true e t =
        let i = ok_inner (take n bytes, drop n bytes) x t in
        (ap (λ p. length p.0) (sym i) ∙ length-take-le n bytes (leb-true n (length bytes) e), sym (take-append-drop n bytes) ∙ ap (λ p. p.0 ++ p.1) i)
    go false e t = absurd (never_ok fault.Cut x t)

name_spelled : (before : List (List ℕ)) (bytes : List ℕ) (x : List ℕ × List ℕ) → name_at before bytes ≡ Ok x → bytes ≡ spelled_name x.0 ++ x.1
name_spelled before bytes x t =
    let n = found_first (name_length_at bytes) (after_length before) x t in
    let p = found_first (piece_at n.0 n.1) (λ name rest. kept_if (is_new before name) fault.Field name rest) x n.3 in
    let k = kept (is_new before p.0) fault.Field p.0 p.1 x p.3 in
    let s = piece_spelled n.0 n.1 (p.0, p.1) p.2 in
    (checked_byte (λ n. nat_le 1 n && nat_le n 32) fault.Field bytes (n.0, n.1) n.2).1
    ∙ ap (λ m. m ∷ n.1) (sym s.0) ∙ ap (λ l. length p.0 ∷ l) s.1
    ∙ ap (λ l. spelled_name l ++ p.1) k.1 ∙ ap (λ l. spelled_name x.0 ++ l) k.2

type_is : (n : ℕ) (rest : List ℕ) (x : IlType × List ℕ) → type_or_fault (slice_get types n) rest ≡ Ok x → n ∷ rest ≡ code_of x.0 ∷ x.1
type_is zero rest x t = ap (λ p. code_of p.0 ∷ p.1) (ok_inner (il.Bool, rest) x t)
type_is (suc zero) rest x t = ap (λ p. code_of p.0 ∷ p.1) (ok_inner (il.Sint, rest) x t)
type_is (suc (suc zero)) rest x t = ap (λ p. code_of p.0 ∷ p.1) (ok_inner (il.Int, rest) x t)
type_is (suc (suc (suc zero))) rest x t = ap (λ p. code_of p.0 ∷ p.1) (ok_inner (il.Dint, rest) x t)
type_is (suc (suc (suc (suc zero)))) rest x t = ap (λ p. code_of p.0 ∷ p.1) (ok_inner (il.Lint, rest) x t)
type_is (suc (suc (suc (suc (suc zero))))) rest x t = ap (λ p. code_of p.0 ∷ p.1) (ok_inner (il.Usint, rest) x t)
type_is (suc (suc (suc (suc (suc (suc zero)))))) rest x t = ap (λ p. code_of p.0 ∷ p.1) (ok_inner (il.Uint, rest) x t)
type_is (suc (suc (suc (suc (suc (suc (suc zero))))))) rest x t = ap (λ p. code_of p.0 ∷ p.1) (ok_inner (il.Udint, rest) x t)
type_is (suc (suc (suc (suc (suc (suc (suc (suc n)))))))) rest x t = absurd (never_ok fault.Field x t)

type_spelled : (bytes : List ℕ) (x : IlType × List ℕ) → type_at bytes ≡ Ok x → bytes ≡ code_of x.0 ∷ x.1
type_spelled bytes x t =
    let b = found_first (byte_at bytes) (λ n rest. type_or_fault (slice_get types n) rest) x t in
    byte_spelled bytes (b.0, b.1) b.2 ∙ type_is b.0 b.1 x b.3

var_spelled : (before : List (List ℕ)) (bytes : List ℕ) (x : Var × List ℕ) → AreBytes bytes → var_at before bytes ≡ Ok x → bytes ≡ spelled_var x.0 ++ x.1
var_spelled before bytes x s t =
    let n = found_first (name_at before bytes) after_var_name x t in
    let k = found_first (type_at n.1) (λ kind rest. var_behind n.0 kind rest) x n.3 in
    let low = found_first (low_at k.0 k.1) (after_low n.0 k.0) x k.3 in
    let high = found_first (high_at k.0 low.0 low.1) (after_high n.0 k.0 low.0) x low.3 in
    let start = found_first (number_at high.1) (made n.0 k.0 low.0 high.0) x high.3 in
    let is = ranged_is n.0 k.0 low.0 high.0 start.0 (is_ranged k.0 low.0 high.0 start.0) refl start.1 x start.3 in
    let e1 = name_spelled before bytes (n.0, n.1) n.2 in
    let s1 = behind (spelled_name n.0) n.1 (subst AreBytes e1 s) in
    let e2 = type_spelled n.1 (k.0, k.1) k.2 in
    let s2 = behind (code_of k.0 ∷ []) k.1 (subst AreBytes e2 s1) in
    let e3 = checked_number (is_low k.0) k.1 (low.0, low.1) s2 low.2 in
    let s3 = behind (spelled_number low.0) low.1 (subst AreBytes e3 s2) in
    let e4 = checked_number (is_high k.0 low.0) low.1 (high.0, high.1) s3 high.2 in
    let s4 = behind (spelled_number high.0) high.1 (subst AreBytes e4 s3) in
    let e5 = number_spelled high.1 (start.0, start.1) s4 start.2 in
    let parts : List ℕ → IlType → ℤ → ℤ → ℤ → List ℕ → List ℕ = λ n k l h s r. spelled_name n ++ (code_of k ∷ (spelled_number l ++ (spelled_number h ++ (spelled_number s ++ r)))) in
    e1 ∙ ap (λ l. spelled_name n.0 ++ l) (e2 ∙ ap (λ l. code_of k.0 ∷ l) (e3 ∙ ap (λ l. spelled_number low.0 ++ l) (e4 ∙ ap (λ l. spelled_number high.0 ++ l) e5)))
    ∙ ap (λ a. parts a k.0 low.0 high.0 start.0 start.1) is.0
    ∙ ap (λ a. parts x.0.name a low.0 high.0 start.0 start.1) is.1
    ∙ ap (λ a. parts x.0.name x.0.kind a high.0 start.0 start.1) is.2
    ∙ ap (λ a. parts x.0.name x.0.kind x.0.low a start.0 start.1) is.3
    ∙ ap (λ a. parts x.0.name x.0.kind x.0.low x.0.high a start.1) is.4
    ∙ ap (λ a. parts x.0.name x.0.kind x.0.low x.0.high x.0.start a) is.5
    ∙ simp append_assoc refl

direction_spelled : (n : ℕ) → nat_le n 1 ≡ true → n ≡ byte_of (nat_eq n 1)
direction_spelled zero h = refl
direction_spelled (suc zero) h = refl
direction_spelled (suc (suc n)) h = let l = leb-true (suc (suc n)) 1 h in absurd (omega (arith, l))

tag_spelled : (before : List (List ℕ)) (bytes : List ℕ) (x : Tag × List ℕ) → tag_at before bytes ≡ Ok x → bytes ≡ spelled_tag x.0 ++ x.1
tag_spelled before bytes x t =
    let n = found_first (name_at before bytes) after_tag_name x t in
    let d = found_first (direction_at n.1) (after_direction n.0) x n.3 in
    let k = found_first (type_at d.1) (tag_made n.0 d.0) x d.3 in
    let i = ok_inner (record { name = n.0; output = nat_eq d.0 1; kind = k.0 }, k.1) x k.3 in
    let direction = checked_byte (λ n. nat_le n 1) fault.Field n.1 (d.0, d.1) d.2 in
    name_spelled before bytes (n.0, n.1) n.2
    ∙ ap (λ l. spelled_name n.0 ++ l) (direction.1 ∙ ap (λ m. m ∷ d.1) (direction_spelled d.0 direction.0) ∙ ap (λ l. byte_of (nat_eq d.0 1) ∷ l) (type_spelled d.1 (k.0, k.1) k.2))
    ∙ sym (append_assoc (spelled_name n.0) (byte_of (nat_eq d.0 1) ∷ code_of k.0 ∷ []) k.1)
    ∙ ap (λ p. spelled_tag p.0 ++ p.1) i

vars_spelled : (n : ℕ) (before : List Var) (bytes : List ℕ) (x : List Var × List ℕ) → AreBytes bytes → vars_at n before bytes ≡ Ok x → (vs : List Var) × (x.0 ≡ before ++ vs) × (length vs ≡ n) × (bytes ≡ spelled_vars vs ++ x.1)
vars_spelled zero before bytes x s t =
    let i = ok_inner (before, bytes) x t in
    ([], ap (λ p. p.0) (sym i) ∙ sym (append-nil before), refl, ap (λ p. p.1) i)
vars_spelled (suc n) before bytes x s t =
    let v = found_first (var_at (names_of before []) bytes) (λ v rest. vars_at n (before ++ v ∷ []) rest) x t in
    let e = var_spelled (names_of before []) bytes (v.0, v.1) s v.2 in
    let r = vars_spelled n (before ++ v.0 ∷ []) v.1 x (behind (spelled_var v.0) v.1 (subst AreBytes e s)) v.3 in
    let count : length (v.0 ∷ r.0) ≡ suc n = omega (arith, r.2) in
    (v.0 ∷ r.0, r.1 ∙ append_assoc before (v.0 ∷ []) r.0, count, e ∙ ap (λ l. spelled_var v.0 ++ l) r.3 ∙ sym (append_assoc (spelled_var v.0) (spelled_vars r.0) x.1))

tags_spelled : (n : ℕ) (vars : List Var) (before : List Tag) (bytes : List ℕ) (x : List Tag × List ℕ) → tags_at n vars before bytes ≡ Ok x → (ts : List Tag) × (x.0 ≡ before ++ ts) × (length ts ≡ n) × (bytes ≡ spelled_tags ts ++ x.1)
tags_spelled zero vars before bytes x t =
    let i = ok_inner (before, bytes) x t in
    ([], ap (λ p. p.0) (sym i) ∙ sym (append-nil before), refl, ap (λ p. p.1) i)
tags_spelled (suc n) vars before bytes x t =
    let g = found_first (tag_at (names_of vars before) bytes) (λ t rest. tags_at n vars (before ++ t ∷ []) rest) x t in
    let e = tag_spelled (names_of vars before) bytes (g.0, g.1) g.2 in
    let r = tags_spelled n vars (before ++ g.0 ∷ []) g.1 x g.3 in
    let count : length (g.0 ∷ r.0) ≡ suc n = omega (arith, r.2) in
    (g.0 ∷ r.0, r.1 ∙ append_assoc before (g.0 ∷ []) r.0, count, e ∙ ap (λ l. spelled_tag g.0 ++ l) r.3 ∙ sym (append_assoc (spelled_tag g.0) (spelled_tags r.0) x.1))

abbrev body : List Var → List Tag → List ℕ → List ℕ → List ℕ
body vars tags code rest = spelled_vars vars ++ (spelled_tags tags ++ (code ++ rest))

-- the tables and the code, with the counts before them
tables_spelled : (version variables tags size : ℕ) (bytes : List ℕ) (x : Image × List ℕ) → AreBytes bytes → tables_at version variables tags size bytes ≡ Ok x
    → (x.0.version ≡ version) × (length x.0.vars ≡ variables) × (length x.0.tags ≡ tags) × (length x.0.code ≡ size) × (bytes ≡ body x.0.vars x.0.tags x.0.code x.1)
tables_spelled version variables tags size bytes x s t =
    let v = found_first (vars_at variables [] bytes) (after_vars version tags size) x t in
    let g = found_first (tags_at tags v.0 [] v.1) (after_tags version size v.0) x v.3 in
    let c = found_first (piece_at size g.1) (after_code version v.0 g.0) x g.3 in
    let i = ok_inner (record { version = version; vars = v.0; tags = g.0; code = c.0 }, c.1) x c.3 in
    let vs = vars_spelled variables [] bytes (v.0, v.1) s v.2 in
    let gs = tags_spelled tags v.0 [] v.1 (g.0, g.1) g.2 in
    let cs = piece_spelled size g.1 (c.0, c.1) c.2 in (
      ap (λ p. p.0.version) (sym i),
      ap (λ p. length p.0.vars) (sym i) ∙ ap length vs.1 ∙ vs.2,
      ap (λ p. length p.0.tags) (sym i) ∙ ap length gs.1 ∙ gs.2,
      ap (λ p. length p.0.code) (sym i) ∙ cs.0,
      vs.3 ∙ ap (λ l. spelled_vars l ++ v.1) (sym vs.1) ∙ ap (λ l. spelled_vars v.0 ++ l) (gs.3 ∙ ap (λ l. spelled_tags l ++ g.1) (sym gs.1) ∙ ap (λ l. spelled_tags g.0 ++ l) cs.1)
          ∙ ap (λ p. body p.0.vars p.0.tags p.0.code p.1) i,
    )

mark_spelled : (marks bytes : List ℕ) (x : Unit {0} × List ℕ) → behind_mark marks bytes ≡ Ok x → bytes ≡ marks ++ x.1
mark_spelled [] bytes x t = ap (λ p. p.1) (ok_inner (tt, bytes) x t)
mark_spelled (m ∷ ms) [] x t = absurd (never_ok fault.Cut x t)
mark_spelled (m ∷ ms) (b ∷ rest) x t = go (mark_spelled ms rest x) (nat_eq b m) refl t
  where
    go : (behind_mark ms rest ≡ Ok x → rest ≡ ms ++ x.1) → (c : Bool) → nat_eq b m ≡ c → (if c then behind_mark ms rest else Err fault.Mark) ≡ Ok x → b ∷ rest ≡ m ∷ (ms ++ x.1)
    go others true e t = ap (λ n. n ∷ rest) (eqb-true b m e) ∙ ap (λ l. m ∷ l) (others t)
    go others false e t = absurd (never_ok fault.Mark x t)

abbrev after_mark : Unit {0} → List ℕ → Taken Image
after_mark u rest = then_take (version_at rest) after_version

image_spelled : (bytes : List ℕ) (x : Image × List ℕ) → AreBytes bytes → image_at bytes ≡ Ok x → bytes ≡ spelled_image x.0 ++ x.1
image_spelled bytes x s t =
    let m = found_first (behind_mark mark bytes) after_mark x t in
    let e0 = mark_spelled mark bytes (m.0, m.1) m.2 in
    let s0 = behind mark m.1 (subst AreBytes e0 s) in
    let v = found_first (version_at m.1) after_version x m.3 in
    let e1 = (checked_byte is_version fault.Version m.1 (v.0, v.1) v.2).1 in
    let s1 = behind (v.0 ∷ []) v.1 (subst AreBytes e1 s0) in
    let a = found_first (count_at v.1) (after_first v.0) x v.3 in
    let e2 = count_spelled v.1 (a.0, a.1) s1 a.2 in
    let s2 = behind (place_bytes a.0) a.1 (subst AreBytes e2 s1) in
    let b = found_first (count_at a.1) (after_second v.0 a.0) x a.3 in
    let e3 = count_spelled a.1 (b.0, b.1) s2 b.2 in
    let s3 = behind (place_bytes b.0) b.1 (subst AreBytes e3 s2) in
    let c = found_first (place_at b.1) (after_size v.0 a.0 b.0) x b.3 in
    let e4 = place_spelled b.1 (c.0, c.1) s3 c.2 in
    let s4 = behind (place_bytes c.0) c.1 (subst AreBytes e4 s3) in
    let r = tables_spelled v.0 a.0 b.0 c.0 c.1 x s4 c.3 in
    let all : ℕ → ℕ → ℕ → ℕ → List ℕ → List ℕ = λ version i j k l. mark ++ (version ∷ (place_bytes i ++ (place_bytes j ++ (place_bytes k ++ l)))) in
    e0 ∙ ap (λ l. mark ++ l) (e1 ∙ ap (λ l. v.0 ∷ l) (e2 ∙ ap (λ l. place_bytes a.0 ++ l) (e3 ∙ ap (λ l. place_bytes b.0 ++ l) (e4 ∙ ap (λ l. place_bytes c.0 ++ l) r.4))))
    ∙ ap (λ n. all n a.0 b.0 c.0 (body x.0.vars x.0.tags x.0.code x.1)) (sym r.0)
    ∙ ap (λ n. all x.0.version n b.0 c.0 (body x.0.vars x.0.tags x.0.code x.1)) (sym r.1)
    ∙ ap (λ n. all x.0.version (length x.0.vars) n c.0 (body x.0.vars x.0.tags x.0.code x.1)) (sym r.2)
    ∙ ap (λ n. all x.0.version (length x.0.vars) (length x.0.tags) n (body x.0.vars x.0.tags x.0.code x.1)) (sym r.3)
    ∙ simp append_assoc refl

nothing_behind : {A : Type 0} (t : Taken A) (a : A) → whole t ≡ Ok a → t ≡ Ok (a, [])
nothing_behind {A = A} (Err e) a h = absurd (never_ok e a h)
nothing_behind {A = A} (Ok found) a h = go found.0 found.1 h
  where
    go : (b : A) (rest : List ℕ) → ended b rest ≡ Ok a → ◌≡◌ {A = Taken A} (Ok (b, rest)) (Ok (a, []))
    go b [] h = ap (λ c. Ok (c, [])) (ok_inner b a h)
    go b (c ∷ rest) h = absurd (never_ok fault.Rest a h)

pub images_have_one_spelling : ImagesHaveOneSpelling
images_have_one_spelling bytes image s h =
    image_spelled bytes (image, []) s (nothing_behind (image_at bytes) image h) ∙ append-nil (spelled_image image)
