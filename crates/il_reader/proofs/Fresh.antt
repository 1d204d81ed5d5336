-- A name that is at odds with none of at most 1,023 and 1,024 others.
use Rattle.std.proofs.Common.{◌≡◌, ℕ, zero, suc, ◌+◌, ◌<◌, ◌≤◌, Bool, true, false, ◌&&◌, ◌||◌, List, [], ◌∷◌, ◌++◌, length, map, Option, Some, None, Result, Ok, Err, refl, sym, ap, ◌∙◌, if◌then◌else◌, nat_eq, nat_le, nat_lt, arith, eqb-true, ltb-true, leb-true, le-leb, bytes_eq, append_assoc, length-append, option_map}
use Rattle.std.proofs.lemmas.List.{append-nil}
use Rattle.std.proofs.lemmas.Bool.Decides.{nat_tests}
use Rattle.std.specs.List.{list_all, list_any}
use Rattle.point_types.specs.Keyword.{is_reserved, plain_words, conversions}
use Rattle.point_types.specs.Name.{folded, is_name_byte, is_parted, is_name, is_name_word, name_of}
use Rattle.il_reader.specs.declared.fault.ReadFaultKind.TheVariants as fault
use Rattle.il_reader.specs.declared.token.Token.TheVariants as token
use Rattle.il_reader.specs.declared.lexer.Mode.TheVariants as mode
use Rattle.il_reader.specs.declared.reader.Reader.{Reader}
use Rattle.il_reader.specs.declared.scope.Scope.{Scope}
use Rattle.il_reader.specs.declared.state.State.{State}
use Rattle.il_reader.specs.Declaration.{among, is_presence, is_among_presences, has_presence_among, is_taken, has_room}
use Rattle.il_reader.specs.Tokens.{fails, stands, keyword, keyword_or, word_token}
use Rattle.il_reader.specs.Reading.{byte_read, fed_on, fed}

abbrev pub letters : List Bool → List ℕ
letters [] = []
letters (true ∷ w) = 97 ∷ letters w
letters (false ∷ w) = 98 ∷ letters w

-- the first begins the second
abbrev begins : List ℕ → List ℕ → Bool
begins [] v = true
begins (c ∷ w) [] = false
begins (c ∷ w) (y ∷ v) = nat_eq c y && begins w v

abbrev begins_some : List ℕ → List (List ℕ) → Bool
begins_some w ds = list_any (begins w) ds

-- the names that begin with a letter, without it
abbrev tails : ℕ → List (List ℕ) → List (List ℕ)
tails c [] = []
tails c ([] ∷ ds) = tails c ds
tails c ((y ∷ v) ∷ ds) = if nat_eq c y then v ∷ tails c ds else tails c ds

some_tails : (c : ℕ) (w : List ℕ) (ds : List (List ℕ)) → begins_some (c ∷ w) ds ≡ begins_some w (tails c ds)
some_tails c w [] = refl
some_tails c w ([] ∷ ds) = some_tails c w ds
some_tails c w ((y ∷ v) ∷ ds) = either (some_tails c w ds) (nat_eq c y)
  where
    either : begins_some (c ∷ w) ds ≡ begins_some w (tails c ds) → (b : Bool) → ((b && begins w v) || begins_some (c ∷ w) ds) ≡ begins_some w (if b then v ∷ tails c ds else tails c ds)
    either h true = ap (λ z. begins w v || z) h
    either h false = h

tails_length : (c : ℕ) (ds : List (List ℕ)) → length (tails c ds) ≤ length ds
tails_length c [] = omega arith
tails_length c ([] ∷ ds) = let h = tails_length c ds in omega arith
tails_length c ((y ∷ v) ∷ ds) = either (tails_length c ds) (nat_eq c y)
  where
    either : length (tails c ds) ≤ length ds → (b : Bool) → length (if b then v ∷ tails c ds else tails c ds) ≤ length ((y ∷ v) ∷ ds)
    either h true = omega arith
    either h false = omega arith

-- each name begins with one letter at most
parts : (ds : List (List ℕ)) → length (tails 97 ds) + length (tails 98 ds) ≤ length ds
parts [] = omega arith
parts ([] ∷ ds) = let h = parts ds in omega arith
parts ((y ∷ v) ∷ ds) = either (parts ds) (nat_eq 97 y) (nat_eq 98 y) refl refl
  where
    either : length (tails 97 ds) + length (tails 98 ds) ≤ length ds → (b c : Bool) → nat_eq 97 y ≡ b → nat_eq 98 y ≡ c → length (if b then v ∷ tails 97 ds else tails 97 ds) + length (if c then v ∷ tails 98 ds else tails 98 ds) ≤ length ((y ∷ v) ∷ ds)
    either h true true e f =
        let p : 97 ≡ y = eqb-true 97 y e in
        let q : 98 ≡ y = eqb-true 98 y f in
        omega arith
    either h true false e f = omega arith
    either h false true e f = omega arith
    either h false false e f = omega arith

-- the letter with which fewer names begin, again and again
abbrev pick : ℕ → List (List ℕ) → List Bool
pick zero ds = []
pick (suc k) ds = if nat_le (length (tails 97 ds)) (length (tails 98 ds)) then true ∷ pick k (tails 97 ds) else false ∷ pick k (tails 98 ds)

abbrev doubled : ℕ → ℕ
doubled zero = 1
doubled (suc k) = doubled k + doubled k

pick_length : (k : ℕ) (ds : List (List ℕ)) → length (letters (pick k ds)) ≡ k
pick_length zero ds = refl
pick_length (suc k) ds = either (pick_length k (tails 97 ds)) (pick_length k (tails 98 ds)) (nat_le (length (tails 97 ds)) (length (tails 98 ds)))
  where
    either : length (letters (pick k (tails 97 ds))) ≡ k → length (letters (pick k (tails 98 ds))) ≡ k → (b : Bool) → length (letters (if b then true ∷ pick k (tails 97 ds) else false ∷ pick k (tails 98 ds))) ≡ suc k
    either g h true = omega arith
    either g h false = omega arith

picked : (k : ℕ) (ds : List (List ℕ)) → length ds < doubled k → begins_some (letters (pick k ds)) ds ≡ false
picked zero [] h = refl
picked zero (d ∷ ds) h = absurd (omega arith)
picked (suc k) ds h = either (picked k (tails 97 ds)) (picked k (tails 98 ds)) (nat_le (length (tails 97 ds)) (length (tails 98 ds))) refl
  where
    all : length (tails 97 ds) + length (tails 98 ds) ≤ length ds
    all = parts ds

    either : (length (tails 97 ds) < doubled k → begins_some (letters (pick k (tails 97 ds))) (tails 97 ds) ≡ false) → (length (tails 98 ds) < doubled k → begins_some (letters (pick k (tails 98 ds))) (tails 98 ds) ≡ false) → (b : Bool) → nat_le (length (tails 97 ds)) (length (tails 98 ds)) ≡ b → begins_some (letters (if b then true ∷ pick k (tails 97 ds) else false ∷ pick k (tails 98 ds))) ds ≡ false
    either f g true e =
        let low : length (tails 97 ds) ≤ length (tails 98 ds) = leb-true _ _ e in
        let sums : length (tails 97 ds) + length (tails 98 ds) ≤ length ds = all in
        some_tails 97 (letters (pick k (tails 97 ds))) ds ∙ f (omega arith)
    either f g false e = some_tails 98 (letters (pick k (tails 98 ds))) ds ∙ g (few (nat_le (length (tails 97 ds)) (length (tails 98 ds))) refl e)
      where
        few : (b : Bool) → nat_le (length (tails 97 ds)) (length (tails 98 ds)) ≡ b → b ≡ false → length (tails 98 ds) < doubled k
        few b c d = let sums : length (tails 97 ds) + length (tails 98 ds) ≤ length ds = all in let w : nat_le (length (tails 97 ds)) (length (tails 98 ds)) ≡ false = c ∙ d in grind (arith, le-leb (length (tails 97 ds)) (length (tails 98 ds)))

-- the letters of the fresh name after its q
abbrev pub fresh_for : Scope → List Bool
fresh_for s = pick 11 (tails 113 (s.variables ++ s.externals))

pub fresh_length : (s : Scope) → length (letters (fresh_for s)) ≡ 11
fresh_length s = pick_length 11 (tails 113 (s.variables ++ s.externals))

both_true : (b c : Bool) → (b && c) ≡ true → (b ≡ true) × (c ≡ true)
both_true true true h = (refl, refl)
both_true true false h = absurd (no h)
  where
    no : false ≡ true → ⊥
    no h = cc
both_true false c h = absurd (no h)
  where
    no : false ≡ true → ⊥
    no h = cc

few_names : (x : Bool) (s : Scope) → has_room x s ≡ true → length (s.variables ++ s.externals) < 2048
few_names false s h =
    let f : length s.variables < 1024 = ltb-true _ _ (both_true (nat_lt (length s.variables) 1024) (nat_le (length s.externals) 1024) h).0 in
    let g : length s.externals ≤ 1024 = leb-true _ _ (both_true (nat_lt (length s.variables) 1024) (nat_le (length s.externals) 1024) h).1 in
    let all = length-append s.variables s.externals in
    omega arith
few_names true s h =
    let f : length s.variables ≤ 1024 = leb-true _ _ (both_true (nat_le (length s.variables) 1024) (nat_lt (length s.externals) 1024) h).0 in
    let g : length s.externals < 1024 = ltb-true _ _ (both_true (nat_le (length s.variables) 1024) (nat_lt (length s.externals) 1024) h).1 in
    let all = length-append s.variables s.externals in
    omega arith

begins_none : (x : Bool) (s : Scope) → has_room x s ≡ true → begins_some (113 ∷ letters (fresh_for s)) (s.variables ++ s.externals) ≡ false
begins_none x s h =
    let few : length (s.variables ++ s.externals) < 2048 = few_names x s h in
    let all = tails_length 113 (s.variables ++ s.externals) in
    let fewer : length (tails 113 (s.variables ++ s.externals)) < 2048 = omega arith in
    some_tails 113 (letters (fresh_for s)) (s.variables ++ s.externals) ∙ picked 11 (tails 113 (s.variables ++ s.externals)) fewer

-- A name that begins no other is at odds with none.

both_false : (b c : Bool) → (b || c) ≡ false → (b ≡ false) × (c ≡ false)
both_false false false h = (refl, refl)
both_false false true h = absurd (no h)
  where
    no : true ≡ false → ⊥
    no h = cc
both_false true c h = absurd (no h)
  where
    no : true ≡ false → ⊥
    no h = cc

not_equal : (n m : List ℕ) → begins n m ≡ false → bytes_eq n m ≡ false
not_equal [] m h = absurd (no h)
  where
    no : true ≡ false → ⊥
    no h = cc
not_equal (c ∷ n) [] h = refl
not_equal (c ∷ n) (y ∷ m) h = either (nat_eq c y) (not_equal n m) h
  where
    either : (b : Bool) → (begins n m ≡ false → bytes_eq n m ≡ false) → (b && begins n m) ≡ false → (b && bytes_eq n m) ≡ false
    either true f h = f h
    either false f h = refl

no_presence : (n m : List ℕ) → begins n m ≡ false → is_presence m n ≡ false
no_presence [] m h = absurd (no h)
  where
    no : true ≡ false → ⊥
    no h = cc
no_presence (c ∷ n) [] h = refl
no_presence (c ∷ n) (y ∷ m) h = either (nat_eq c y) (no_presence n m) h
  where
    either : (b : Bool) → (begins n m ≡ false → is_presence m n ≡ false) → (b && begins n m) ≡ false → (b && is_presence m n) ≡ false
    either true f h = f h
    either false f h = refl

no_suffix : (w : List Bool) (p : List ℕ) → is_presence (letters w) p ≡ false
no_suffix [] [] = refl
no_suffix (true ∷ w) [] = refl
no_suffix (false ∷ w) [] = refl
no_suffix [] (b ∷ p) = refl
no_suffix (true ∷ w) (b ∷ p) = either (nat_eq b 97) (no_suffix w p)
  where
    either : (c : Bool) → is_presence (letters w) p ≡ false → (c && is_presence (letters w) p) ≡ false
    either true h = h
    either false h = refl
no_suffix (false ∷ w) (b ∷ p) = either (nat_eq b 98) (no_suffix w p)
  where
    either : (c : Bool) → is_presence (letters w) p ≡ false → (c && is_presence (letters w) p) ≡ false
    either true h = h
    either false h = refl

never_presence : (w : List Bool) (p : List ℕ) → is_presence (113 ∷ letters w) p ≡ false
never_presence w [] = refl
never_presence w (b ∷ p) = either (nat_eq b 113) (no_suffix w p)
  where
    either : (c : Bool) → is_presence (letters w) p ≡ false → (c && is_presence (letters w) p) ≡ false
    either true h = h
    either false h = refl

any_none : (f g : List ℕ → Bool) (ds : List (List ℕ)) → ((d : List ℕ) → g d ≡ false → f d ≡ false) → list_any g ds ≡ false → list_any f ds ≡ false
any_none f g [] h e = refl
any_none f g (d ∷ ds) h e =
    ap (λ z. z || list_any f ds) (h d (both_false (g d) (list_any g ds) e).0) ∙ any_none f g ds h (both_false (g d) (list_any g ds) e).1

none_is : (w : List Bool) (ds : List (List ℕ)) → is_among_presences (113 ∷ letters w) ds ≡ false
none_is w [] = refl
none_is w (d ∷ ds) = ap (λ z. z || is_among_presences (113 ∷ letters w) ds) (never_presence w d) ∙ none_is w ds

split_some : (w : List ℕ) (ds es : List (List ℕ)) → begins_some w (ds ++ es) ≡ false → (begins_some w ds ≡ false) × (begins_some w es ≡ false)
split_some w [] es h = (refl, h)
split_some w (d ∷ ds) es h = go (both_false (begins w d) (begins_some w (ds ++ es)) h).0 (split_some w ds es (both_false (begins w d) (begins_some w (ds ++ es)) h).1)
  where
    go : begins w d ≡ false → (begins_some w ds ≡ false) × (begins_some w es ≡ false) → ((begins w d || begins_some w ds) ≡ false) × (begins_some w es ≡ false)
    go e (f, g) = (ap (λ z. z || begins_some w ds) e ∙ f, g)

all_false : (x a b c d e : Bool) → a ≡ false → b ≡ false → c ≡ false → d ≡ false → e ≡ false → (a || b || c || (x && (d || e))) ≡ false
all_false true a b c d e p q r s t =
    ap (λ z. z || b || c || (d || e)) p ∙ ap (λ z. z || c || (d || e)) q ∙ ap (λ z. z || (d || e)) r ∙ ap (λ z. z || e) s ∙ t
all_false false a b c d e p q r s t = ap (λ z. z || b || c || false) p ∙ ap (λ z. z || c || false) q ∙ ap (λ z. z || false) r

pub is_fresh : (x : Bool) (s : Scope) → has_room x s ≡ true → is_taken x (113 ∷ letters (fresh_for s)) s ≡ false
is_fresh x s h =
    go (split_some n s.variables s.externals (begins_none x s h))
  where
    n : List ℕ
    n = 113 ∷ letters (fresh_for s)

    go : (begins_some n s.variables ≡ false) × (begins_some n s.externals ≡ false) → is_taken x n s ≡ false
    go (e, f) =
        all_false x (among n s.variables) (among n s.externals) (is_among_presences n s.externals) (has_presence_among n s.variables) (has_presence_among n s.externals) (any_none (bytes_eq n) (begins n) s.variables (not_equal n) e) (any_none (bytes_eq n) (begins n) s.externals (not_equal n) f) (none_is (fresh_for s) s.externals) (any_none (λ p. is_presence p n) (begins n) s.variables (no_presence n) e) (any_none (λ p. is_presence p n) (begins n) s.externals (no_presence n) f)

-- The name's letters are one word, and that is a name.

abbrev pub in_word : ℕ → List ℕ → State → Reader
in_word n w s = record { line = n; last = n; mode = mode.Word w false; state = s }

one_letter : (b n : ℕ) (r : List ℕ) (s : State) (rest : List ℕ) → length r < 32 → fed_on (byte_read (in_word n r s) b rest (if nat_lt (length r) 32 then stands (mode.Word (r ++ b ∷ []) false) else fails fault.Word)) (λ r'. fed r' rest) ≡ fed_on (byte_read (in_word n r s) b rest (stands (mode.Word (r ++ b ∷ []) false))) (λ r'. fed r' rest)
one_letter b n r s rest h = ap (λ z. fed_on (byte_read (in_word n r s) b rest (if z then stands (mode.Word (r ++ b ∷ []) false) else fails fault.Word)) (λ r'. fed r' rest)) few
  where
    few : nat_lt (length r) 32 ≡ true
    few = grind (arith, nat_tests)

pub fed_letters : (w : List Bool) (r : List ℕ) (n : ℕ) (s : State) (rest : List ℕ) → length r + length (letters w) ≤ 32 → fed (in_word n r s) (letters w ++ rest) ≡ fed (in_word n (r ++ letters w) s) rest
fed_letters [] r n s rest h = ap (λ z. fed (in_word n z s) rest) (sym (append-nil r))
fed_letters (true ∷ w) r n s rest h =
    let longer : length (r ++ 97 ∷ []) ≡ length r + 1 = length-append r (97 ∷ []) in
    one_letter 97 n r s (letters w ++ rest) (omega arith) ∙ fed_letters w (r ++ 97 ∷ []) n s rest (omega arith) ∙ ap (λ z. fed (in_word n z s) rest) (append_assoc r (97 ∷ []) (letters w))
fed_letters (false ∷ w) r n s rest h =
    let longer : length (r ++ 98 ∷ []) ≡ length r + 1 = length-append r (98 ∷ []) in
    one_letter 98 n r s (letters w ++ rest) (omega arith) ∙ fed_letters w (r ++ 98 ∷ []) n s rest (omega arith) ∙ ap (λ z. fed (in_word n z s) rest) (append_assoc r (98 ∷ []) (letters w))

folded_letters : (w : List Bool) → map folded (letters w) ≡ letters w
folded_letters [] = refl
folded_letters (true ∷ w) = ap (λ z. 97 ∷ z) (folded_letters w)
folded_letters (false ∷ w) = ap (λ z. 98 ∷ z) (folded_letters w)

all_letters : (w : List Bool) → list_all is_name_byte (letters w) ≡ true
all_letters [] = refl
all_letters (true ∷ w) = all_letters w
all_letters (false ∷ w) = all_letters w

parted_letters : (w : List Bool) → is_parted (letters w) ≡ true
parted_letters [] = refl
parted_letters (true ∷ w) = parted_letters w
parted_letters (false ∷ w) = parted_letters w

no_keyword : (w : List ℕ) → keyword (113 ∷ w) ≡ None
unfolding keyword
no_keyword w = refl

not_reserved : (w : List ℕ) → is_reserved (113 ∷ w) ≡ false
unfolding is_reserved plain_words conversions
not_reserved w = refl

name_letters : (w : List Bool) → length (letters w) ≡ 11 → name_of (113 ∷ letters w) ≡ Some (113 ∷ letters w)
name_letters w e =
    ap (λ z. if is_name (113 ∷ z) then Some (113 ∷ z) else None) (folded_letters w) ∙ ap (λ z. if z && is_name_word (113 ∷ letters w) then Some (113 ∷ letters w) else None) short ∙ ap (λ z. if z then Some (113 ∷ letters w) else None) named_word
  where
    short : nat_le (length (113 ∷ letters w)) 32 ≡ true
    short = le-leb _ _ (omega arith)

    named_word : is_name_word (113 ∷ letters w) ≡ true
    named_word =
        ap (λ z. (z && is_parted (letters w)) && Rattle.std.proofs.Common.not (is_reserved (113 ∷ letters w))) (all_letters w) ∙ ap (λ z. z && Rattle.std.proofs.Common.not (is_reserved (113 ∷ letters w))) (parted_letters w) ∙ ap (λ z. Rattle.std.proofs.Common.not z) (not_reserved (letters w))

pub word_is_name : (w : List Bool) → length (letters w) ≡ 11 → word_token (113 ∷ letters w) ≡ Some (token.Name (113 ∷ letters w))
word_is_name w e =
    ap (λ z. keyword_or z (113 ∷ letters w)) (no_keyword (letters w)) ∙ ap (option_map token.Name) (name_letters w e)
