-- What was spelled is read.
use Rattle.std.proofs.Common.{◌≡◌, ℕ, suc, ◌≤◌, Bool, true, false, ◌&&◌, not, le-leb, List, [], ◌∷◌, ◌++◌, map, length, take, drop, ℤ, pos, Ok, Err, if◌then◌else◌, nat_le, nat_eq, refl, sym, ap, ◌∙◌, arith, true≢false, int_le}
use Rattle.std.proofs.lemmas.List.{append_assoc, append-nil, length-append}
use Rattle.std.specs.List.{list_all}
use Rattle.std.proofs.Math.Seq.{drop-append_seam, take-append_seam}
use Rattle.point_types.specs.declared.il_type.IlType.{IlType}
use Rattle.point_types.specs.declared.il_type.IlType.TheVariants as il
use Rattle.point_types.specs.declared.variable.Var.{Var}
use Rattle.point_types.specs.Name.{begins_with_letter, is_name, is_name_word, is_name_byte, is_parted}
use Rattle.point_types.specs.Keyword.{is_reserved}
use Rattle.point_types.specs.Value.{code_of, high_of, int_eq, is_ranged, is_within, low_of}
use Rattle.scan_code.specs.declared.image.Tag.{Tag}
use Rattle.scan_code.specs.declared.image_fault.ImageFault.{ImageFault}
use Rattle.scan_code.specs.declared.image_fault.ImageFault.TheVariants as fault
use Rattle.scan_code.specs.Spelling.{byte_of, place_bytes}
use Rattle.scan_code.specs.Image.{Image, IsProper, are_new, is_among, is_new, is_version, is_whole_if_bool, most_entries, names_of, tag_name, var_name}
use Rattle.scan_code.specs.ImageSpelling.{mark, spelled_image, spelled_name, spelled_number, spelled_tag, spelled_tags, spelled_var, spelled_vars}
use Rattle.scan_code.specs.ImageReading.{Taken, then_take, kept_if, place_at, number_at, is_low, is_high, piece_at, name_at, type_at, var_behind, var_at, vars_at, direction_at, tag_at, tags_at, tables_at, image_at, image_in, count_at, whole}
use Rattle.std.proofs.lemmas.Int.{ints}
use Rattle.scan_code.specs.ImageLaws.{ImagesReadBack, MoreIsRest}
use Rattle.scan_code.proofs.Fetch.{number_read, is_long, place_read}
use Rattle.scan_code.proofs.ImageTaken.{after_direction, after_high, after_length, after_low, after_tag_name, after_var_name, all_new, made, names_more_tags, names_more_vars, tag_made, whole_range}
use Rattle.scan_code.proofs.ImageParts.{ranged_told}
use Rattle.point_types.proofs.Truths.{and_both as both}
use Rattle.point_types.proofs.Truths.{first_of}
use Rattle.point_types.proofs.Truths.{second_of}

kept_true : {A : Type 0} (b : Bool) (e : ImageFault) (a : A) (rest : List ℕ) → b ≡ true → kept_if b e a rest ≡ Ok (a, rest)
kept_true b e a rest h = ap (λ t. kept_if t e a rest) h

place_reads : (n : ℕ) (rest : List ℕ) → place_at (place_bytes n ++ rest) ≡ Ok (n, rest)
place_reads n rest = ap (λ m. Ok (m, rest)) (place_read n)

count_reads : (n : ℕ) (rest : List ℕ) → nat_le n most_entries ≡ true → count_at (place_bytes n ++ rest) ≡ Ok (n, rest)
count_reads n rest h = ap (λ t. then_take t (λ n rest. kept_if (nat_le n most_entries) fault.Field n rest)) (place_reads n rest) ∙ kept_true (nat_le n most_entries) fault.Field n rest h

number_reads : (kind : IlType) (n : ℤ) (rest : List ℕ) → is_within (low_of kind) (high_of kind) n ≡ true → number_at (spelled_number n ++ rest) ≡ Ok (n, rest)
unfolding spelled_number
number_reads kind n rest h = ap (λ m. Ok (m, rest)) (number_read n (is_long kind n h))

piece_reads : (piece rest : List ℕ) → piece_at (length piece) (piece ++ rest) ≡ Ok (piece, rest)
piece_reads piece rest =
    ap (λ b. if b then Ok (take (length piece) (piece ++ rest), drop (length piece) (piece ++ rest)) else Err fault.Cut) (fits piece rest)
    ∙ ap (λ l. Ok (l, drop (length piece) (piece ++ rest))) (take-append_seam piece rest)
    ∙ ap (λ l. Ok (piece, l)) (drop-append_seam piece rest)
  where
    fits : (xs ys : List ℕ) → nat_le (length xs) (length (xs ++ ys)) ≡ true
    fits xs ys = le-leb (length xs) (length (xs ++ ys)) (rw (length-append xs ys) (omega arith))

name_length_fits : (name : List ℕ) → is_name name ≡ true → (nat_le 1 (length name) && nat_le (length name) 32) ≡ true
name_length_fits name h = both (nat_le 1 (length name)) (nat_le (length name) 32) (some name begins) (first_of (nat_le (length name) 32) (is_name_word name) h)
  where
    word : is_name_word name ≡ true
    word = second_of (nat_le (length name) 32) (is_name_word name) h

    begins : begins_with_letter name ≡ true
    begins =
        first_of (begins_with_letter name) (list_all is_name_byte name)
        (first_of (begins_with_letter name && list_all is_name_byte name) (is_parted name)
        (first_of ((begins_with_letter name && list_all is_name_byte name) && is_parted name) (not (is_reserved name)) word))

    some : (name : List ℕ) → begins_with_letter name ≡ true → nat_le 1 (length name) ≡ true
    some [] h = absurd (true≢false (sym h))
    some (b ∷ bs) h = le-leb 1 (length (b ∷ bs)) (omega arith)

name_reads : (before : List (List ℕ)) (name rest : List ℕ) → is_new before name ≡ true → name_at before (spelled_name name ++ rest) ≡ Ok (name, rest)
name_reads before name rest h =
    ap (λ t. then_take t (after_length before)) (kept_true (nat_le 1 (length name) && nat_le (length name) 32) fault.Field (length name) (name ++ rest) (name_length_fits name (first_of (is_name name) (not (is_among before name)) h)))
    ∙ ap (λ t. then_take t (λ name rest. kept_if (is_new before name) fault.Field name rest)) (piece_reads name rest)
    ∙ kept_true (is_new before name) fault.Field name rest h

type_reads : (kind : IlType) (rest : List ℕ) → type_at (code_of kind ∷ rest) ≡ Ok (kind, rest)
type_reads il.Bool rest = refl
type_reads il.Sint rest = refl
type_reads il.Int rest = refl
type_reads il.Dint rest = refl
type_reads il.Lint rest = refl
type_reads il.Usint rest = refl
type_reads il.Uint rest = refl
type_reads il.Udint rest = refl

int_le_trans : (a b c : ℤ) → int_le a b ≡ true → int_le b c ≡ true → int_le a c ≡ true
int_le_trans a b c h k = grind (arith, ints)

-- what a range in its type says of each end
pub record IsInType (v : Var) : Type 0 where
  pub low : is_within (low_of v.kind) (high_of v.kind) v.low ≡ true
  pub high : is_within (low_of v.kind) (high_of v.kind) v.high ≡ true
  pub start : is_within (low_of v.kind) (high_of v.kind) v.start ≡ true
  pub order : int_le v.low v.high ≡ true

pub in_type : (v : Var) → IsInType v
in_type v =
    let low = first_of (int_le (low_of v.kind) v.low) (is_within v.low v.high v.start) (first_of (int_le (low_of v.kind) v.low && is_within v.low v.high v.start) (int_le v.high (high_of v.kind)) v.ranged) in
    let inner = second_of (int_le (low_of v.kind) v.low) (is_within v.low v.high v.start) (first_of (int_le (low_of v.kind) v.low && is_within v.low v.high v.start) (int_le v.high (high_of v.kind)) v.ranged) in
    let high = second_of (int_le (low_of v.kind) v.low && is_within v.low v.high v.start) (int_le v.high (high_of v.kind)) v.ranged in
    let left = first_of (int_le v.low v.start) (int_le v.start v.high) inner in
    let right = second_of (int_le v.low v.start) (int_le v.start v.high) inner in
    let order = int_le_trans v.low v.start v.high left right in
    record {
      low = both (int_le (low_of v.kind) v.low) (int_le v.low (high_of v.kind)) low (int_le_trans v.low v.high (high_of v.kind) order high);
      high = both (int_le (low_of v.kind) v.high) (int_le v.high (high_of v.kind)) (int_le_trans (low_of v.kind) v.low v.high low order) high;
      start = both (int_le (low_of v.kind) v.start) (int_le v.start (high_of v.kind)) (int_le_trans (low_of v.kind) v.low v.start low left) (int_le_trans v.start v.high (high_of v.kind) right high);
      order = order;
    }

-- the ends of a variable's range are read
low_told : (kind : IlType) (low high : ℤ) → whole_range kind low high ≡ true → is_within (low_of kind) (high_of kind) low ≡ true → is_low kind low ≡ true
low_told il.Bool low high w h = first_of (int_eq low (pos 0)) (int_eq high (pos 1)) w
low_told _ low high w h = h

high_told : (kind : IlType) (low high : ℤ) → whole_range kind low high ≡ true → is_within (low_of kind) (high_of kind) high ≡ true → int_le low high ≡ true → is_high kind low high ≡ true
high_told il.Bool low high w h e = second_of (int_eq low (pos 0)) (int_eq high (pos 1)) w
high_told kind low high w h e = both (is_within (low_of kind) (high_of kind) high) (int_le low high) h e

range_reads : (v : Var) (rest : List ℕ) → is_whole_if_bool v ≡ true → var_behind v.name v.kind (spelled_number v.low ++ (spelled_number v.high ++ (spelled_number v.start ++ rest))) ≡ Ok (v, rest)
range_reads v rest w =
    let h = in_type v in
    let behind_high = spelled_number v.start ++ rest in
    let behind_low = spelled_number v.high ++ behind_high in
    ap (λ t. then_take (then_take t (λ n rest. kept_if (is_low v.kind n) fault.Field n rest)) (after_low v.name v.kind)) (number_reads v.kind v.low behind_low h.low)
    ∙ ap (λ t. then_take t (after_low v.name v.kind)) (kept_true (is_low v.kind v.low) fault.Field v.low behind_low (low_told v.kind v.low v.high w h.low))
    ∙ ap (λ t. then_take (then_take t (λ n rest. kept_if (is_high v.kind v.low n) fault.Field n rest)) (after_high v.name v.kind v.low)) (number_reads v.kind v.high behind_high h.high)
    ∙ ap (λ t. then_take t (after_high v.name v.kind v.low)) (kept_true (is_high v.kind v.low v.high) fault.Field v.high behind_high (high_told v.kind v.low v.high w h.high h.order))
    ∙ ap (λ t. then_take t (made v.name v.kind v.low v.high)) (number_reads v.kind v.start rest h.start)
    ∙ ranged_told v.name v.kind v.low v.high v.start (is_ranged v.kind v.low v.high v.start) refl v.ranged rest

var_reads : (before : List (List ℕ)) (v : Var) (rest : List ℕ) → is_new before v.name ≡ true → is_whole_if_bool v ≡ true → var_at before (spelled_var v ++ rest) ≡ Ok (v, rest)
var_reads before v rest h w =
    let behind = spelled_number v.low ++ (spelled_number v.high ++ (spelled_number v.start ++ rest)) in
    let joined : spelled_var v ++ rest ≡ spelled_name v.name ++ (code_of v.kind ∷ behind) = simp append_assoc refl in
    ap (var_at before) joined
    ∙ ap (λ t. then_take t after_var_name) (name_reads before v.name (code_of v.kind ∷ behind) h)
    ∙ ap (λ t. then_take t (λ kind rest. var_behind v.name kind rest)) (type_reads v.kind behind)
    ∙ range_reads v rest w

direction_reads : (b : Bool) (rest : List ℕ) → direction_at (byte_of b ∷ rest) ≡ Ok (byte_of b, rest)
direction_reads true rest = refl
direction_reads false rest = refl

direction_back : (b : Bool) → nat_eq (byte_of b) 1 ≡ b
direction_back true = refl
direction_back false = refl

tag_reads : (before : List (List ℕ)) (t : Tag) (rest : List ℕ) → is_new before t.name ≡ true → tag_at before (spelled_tag t ++ rest) ≡ Ok (t, rest)
tag_reads before t rest h =
    let joined : spelled_tag t ++ rest ≡ spelled_name t.name ++ (byte_of t.output ∷ code_of t.kind ∷ rest) = simp append_assoc refl in
    ap (tag_at before) joined
    ∙ ap (λ x. then_take x after_tag_name) (name_reads before t.name (byte_of t.output ∷ code_of t.kind ∷ rest) h)
    ∙ ap (λ x. then_take x (after_direction t.name)) (direction_reads t.output (code_of t.kind ∷ rest))
    ∙ ap (λ x. then_take x (tag_made t.name (byte_of t.output))) (type_reads t.kind rest)
    ∙ ap (λ b. Ok (record { name = t.name; output = b; kind = t.kind }, rest)) (direction_back t.output)

vars_read : (vs before : List Var) (rest : List ℕ) → are_new (names_of before []) (map var_name vs) ≡ true → list_all is_whole_if_bool vs ≡ true → vars_at (length vs) before (spelled_vars vs ++ rest) ≡ Ok (before ++ vs, rest)
vars_read [] before rest h w = ap (λ l. Ok (l, rest)) (sym (append-nil before))
vars_read (v ∷ vs) before rest h w =
    let new = first_of (is_new (names_of before []) v.name) (are_new (names_of before [] ++ v.name ∷ []) (map var_name vs)) h in
    let more = second_of (is_new (names_of before []) v.name) (are_new (names_of before [] ++ v.name ∷ []) (map var_name vs)) h in
    let count : length (v ∷ vs) ≡ suc (length vs) = omega arith in
    ap (λ n. vars_at n before (spelled_vars (v ∷ vs) ++ rest)) count
    ∙ ap (vars_at (suc (length vs)) before) (append_assoc (spelled_var v) (spelled_vars vs) rest)
    ∙ ap (λ t. then_take t (λ v rest. vars_at (length vs) (before ++ v ∷ []) rest)) (var_reads (names_of before []) v (spelled_vars vs ++ rest) new (first_of (is_whole_if_bool v) (list_all is_whole_if_bool vs) w))
    ∙ vars_read vs (before ++ v ∷ []) rest (ap (λ l. are_new l (map var_name vs)) (names_more_vars before v) ∙ more) (second_of (is_whole_if_bool v) (list_all is_whole_if_bool vs) w)
    ∙ ap (λ l. Ok (l, rest)) (append_assoc before (v ∷ []) vs)

tags_read : (vars : List Var) (ts before : List Tag) (rest : List ℕ) → are_new (names_of vars before) (map tag_name ts) ≡ true → tags_at (length ts) vars before (spelled_tags ts ++ rest) ≡ Ok (before ++ ts, rest)
tags_read vars [] before rest h = ap (λ l. Ok (l, rest)) (sym (append-nil before))
tags_read vars (t ∷ ts) before rest h =
    let new = first_of (is_new (names_of vars before) t.name) (are_new (names_of vars before ++ t.name ∷ []) (map tag_name ts)) h in
    let more = second_of (is_new (names_of vars before) t.name) (are_new (names_of vars before ++ t.name ∷ []) (map tag_name ts)) h in
    let count : length (t ∷ ts) ≡ suc (length ts) = omega arith in
    ap (λ n. tags_at n vars before (spelled_tags (t ∷ ts) ++ rest)) count
    ∙ ap (tags_at (suc (length ts)) vars before) (append_assoc (spelled_tag t) (spelled_tags ts) rest)
    ∙ ap (λ x. then_take x (λ t rest. tags_at (length ts) vars (before ++ t ∷ []) rest)) (tag_reads (names_of vars before) t (spelled_tags ts ++ rest) new)
    ∙ tags_read vars ts (before ++ t ∷ []) rest (ap (λ l. are_new l (map tag_name ts)) (names_more_tags vars before t) ∙ more)
    ∙ ap (λ l. Ok (l, rest)) (append_assoc before (t ∷ []) ts)

abbrev pub after_code : ℕ → List Var → List Tag → List ℕ → List ℕ → Taken Image
after_code version vars tags code rest = Ok (record { version = version; vars = vars; tags = tags; code = code }, rest)

abbrev pub after_tags : ℕ → ℕ → List Var → List Tag → List ℕ → Taken Image
after_tags version size vars tags rest = then_take (piece_at size rest) (after_code version vars tags)

abbrev pub after_vars : ℕ → ℕ → ℕ → List Var → List ℕ → Taken Image
after_vars version tags size vars rest = then_take (tags_at tags vars [] rest) (after_tags version size vars)

tables_read : (image : Image) (rest : List ℕ) → are_new [] (names_of image.vars image.tags) ≡ true → list_all is_whole_if_bool image.vars ≡ true
    → tables_at image.version (length image.vars) (length image.tags) (length image.code) (spelled_vars image.vars ++ (spelled_tags image.tags ++ (image.code ++ rest))) ≡ Ok (image, rest)
tables_read image rest h w =
    let parts = sym (all_new image.vars image.tags) ∙ h in
    let first = first_of (are_new [] (names_of image.vars [])) (are_new (names_of image.vars []) (names_of [] image.tags)) parts in
    let second = second_of (are_new [] (names_of image.vars [])) (are_new (names_of image.vars []) (names_of [] image.tags)) parts in
    ap (λ t. then_take t (after_vars image.version (length image.tags) (length image.code))) (vars_read image.vars [] (spelled_tags image.tags ++ (image.code ++ rest)) (ap (are_new []) (sym (append-nil (map var_name image.vars))) ∙ first) w)
    ∙ ap (λ t. then_take t (after_tags image.version (length image.code) image.vars)) (tags_read image.vars image.tags [] (image.code ++ rest) second)
    ∙ ap (λ t. then_take t (after_code image.version image.vars image.tags)) (piece_reads image.code rest)

abbrev pub after_size : ℕ → ℕ → ℕ → ℕ → List ℕ → Taken Image
after_size version variables tags size rest = tables_at version variables tags size rest

abbrev pub after_second : ℕ → ℕ → ℕ → List ℕ → Taken Image
after_second version variables tags rest = then_take (place_at rest) (after_size version variables tags)

abbrev pub after_first : ℕ → ℕ → List ℕ → Taken Image
after_first version variables rest = then_take (count_at rest) (after_second version variables)

abbrev pub after_version : ℕ → List ℕ → Taken Image
after_version version rest = then_take (count_at rest) (after_first version)

few : (n : ℕ) → n ≤ most_entries → nat_le n most_entries ≡ true
few n h = le-leb n most_entries h

pub image_reads : (image : Image) (rest : List ℕ) → IsProper image → image_at (spelled_image image ++ rest) ≡ Ok (image, rest)
image_reads image rest proper =
    let body = spelled_vars image.vars ++ (spelled_tags image.tags ++ (image.code ++ rest)) in
    let behind_second = place_bytes (length image.code) ++ body in
    let behind_first = place_bytes (length image.tags) ++ behind_second in
    let behind_version = place_bytes (length image.vars) ++ behind_first in
    let joined : spelled_image image ++ rest ≡ mark ++ (image.version ∷ behind_version) = simp append_assoc refl in
    ap image_at joined
    ∙ ap (λ t. then_take t after_version) (kept_true (is_version image.version) fault.Version image.version behind_version proper.versioned)
    ∙ ap (λ t. then_take t (after_first image.version)) (count_reads (length image.vars) behind_first (few (length image.vars) proper.few_variables))
    ∙ ap (λ t. then_take t (after_second image.version (length image.vars))) (count_reads (length image.tags) behind_second (few (length image.tags) proper.few_tags))
    ∙ ap (λ t. then_take t (after_size image.version (length image.vars) (length image.tags))) (place_reads (length image.code) body)
    ∙ tables_read image rest proper.distinct proper.whole_bools

pub images_read_back : ImagesReadBack
images_read_back image proper =
    ap image_in (sym (append-nil (spelled_image image))) ∙ ap whole (image_reads image [] proper)

pub more_is_rest : MoreIsRest
more_is_rest image after b proper = ap whole (image_reads image (b ∷ after) proper)
