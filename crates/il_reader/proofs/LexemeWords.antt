-- Words, and the types that begin numbers.
use Rattle.std.proofs.Common.{◌≡◌, ℕ, suc, ◌+◌, ◌≤◌, ◌<◌, Bool, true, false, not, ◌&&◌, List, [], ◌∷◌, ◌++◌, length, map, Option, Some, None, option_map, refl, sym, ap, ◌∙◌, if◌then◌else◌, nat_eq, nat_le, nat_lt, lt-ltb, leb-true, true≢false, arith, append_assoc, append-nil, length-append, bytes_eq}
use Rattle.std.proofs.lemmas.Bool.Decides.{nat_tests}
use Rattle.std.proofs.lemmas.Slice.Eq.{bytes_eq-Decides}
use Rattle.std.specs.List.{list_all}
use Rattle.point_types.specs.declared.il_type.IlType.{IlType}
use Rattle.point_types.specs.declared.il_type.IlType.TheVariants as il
use Rattle.point_types.specs.Name.{begins_with_letter, folded, is_cut_off, is_letter, is_name, is_name_byte, is_parted, is_underscore, most_characters}
use Rattle.il_reader.specs.declared.lexer.Mode.TheVariants as mode
use Rattle.il_reader.specs.declared.token.Keyword.{Keyword}
use Rattle.il_reader.specs.declared.token.Keyword.TheVariants as word
use Rattle.il_reader.specs.declared.token.Token.{Token}
use Rattle.il_reader.specs.declared.token.Token.TheVariants as token
use Rattle.il_reader.specs.Tokens.{conversion_keywords, grows, keyword, keyword_or, lexed, literal_begun, literal_type, look_up, or_else, plain_keywords, stands, word_ended, word_token}
use Rattle.il_reader.specs.Lexemes.{Ends, is_word_byte, line_ends, placed}
use Rattle.il_reader.specs.Scanning.{joined, last_tokens, scanned, scanned_on}
use Rattle.il_reader.proofs.Scans.{and_left, and_right, differs, ended, goes, no_line_ends, not_true, on, or_left, or_right, passed, taken}
use Rattle.il_reader.proofs.LexemeNumbers.{IsWhole}

-- What words are like.

-- no longer than a name, of a name's characters, with a letter at the front, and underscores apart
abbrev pub is_plain : List ℕ → Bool
is_plain w = nat_le (length w) most_characters && (begins_with_letter w && (list_all is_name_byte w && is_parted w))

looked_up : (ks : List (List ℕ × Keyword)) (w : List ℕ) (k : Keyword) → list_all (λ e. is_plain e.0) ks ≡ true → look_up w ks ≡ Some k → is_plain w ≡ true
looked_up [] w k h e = absurd (cc)
looked_up ((v, j) ∷ ks) w k h e = go (bytes_eq w v) refl e (λ e. looked_up ks w k (and_right (is_plain v) (list_all (λ e. is_plain e.0) ks) h) e)
  where
    go : (c : Bool) → bytes_eq w v ≡ c → (if c then Some j else look_up w ks) ≡ Some k → (look_up w ks ≡ Some k → is_plain w ≡ true) → is_plain w ≡ true
    go true c e more = ap is_plain ((bytes_eq-Decides w v).0 c) ∙ and_left (is_plain v) (list_all (λ e. is_plain e.0) ks) h
    go false c e more = more e

keyword_is_plain : (w : List ℕ) (k : Keyword) → keyword w ≡ Some k → is_plain w ≡ true
unfolding keyword
keyword_is_plain w k h = go (look_up w plain_keywords) refl h
  where
    go : (x : Option Keyword) → look_up w plain_keywords ≡ x → or_else x (look_up w conversion_keywords) ≡ Some k → is_plain w ≡ true
    go (Some j) e h = looked_up plain_keywords w j refl e
    go None e h = looked_up conversion_keywords w k refl h

name_is_plain : (a b c d e : Bool) → (a && (b && c && d && e)) ≡ true → (a && (b && (c && d))) ≡ true
name_is_plain true true true true e h = refl
name_is_plain true true true false e h = h
name_is_plain true true false d e h = h
name_is_plain true false c d e h = h
name_is_plain false b c d e h = h

pub folded_again : (own : List ℕ) → map folded (map folded own) ≡ map folded own
folded_again [] = refl
folded_again (b ∷ bs) = ap (λ z. z ∷ map folded (map folded bs)) (once b) ∙ ap (λ z. folded b ∷ z) (folded_again bs)
  where
    once : (b : ℕ) → folded (folded b) ≡ folded b
    once b = grind (arith, nat_tests)

-- a keyword or a name
word_is_plain : (own : List ℕ) (t : Token) → word_token (map folded own) ≡ Some t → is_plain (map folded own) ≡ true
word_is_plain own t h = go (keyword w) refl h
  where
    w : List ℕ
    w = map folded own

    named : (c : Bool) → is_name (map folded w) ≡ c → option_map token.Name (if c then Some (map folded w) else None) ≡ Some t → is_plain w ≡ true
    named true e h = name_is_plain (nat_le (length w) most_characters) (begins_with_letter w) (list_all is_name_byte w) (is_parted w) _ (ap is_name (sym (folded_again own)) ∙ e)
    named false e h = absurd (cc)

    go : (x : Option Keyword) → keyword w ≡ x → keyword_or x w ≡ Some t → is_plain w ≡ true
    go (Some k) e h = keyword_is_plain w k e
    go None e h = named (is_name (map folded w)) refl h

all_folded : (own : List ℕ) → list_all is_name_byte (map folded own) ≡ true → list_all is_word_byte own ≡ true
all_folded [] h = refl
all_folded (b ∷ bs) h = ap (λ z. z && list_all is_word_byte bs) (and_left (is_word_byte b) (list_all is_name_byte (map folded bs)) h) ∙ all_folded bs (and_right (is_word_byte b) (list_all is_name_byte (map folded bs)) h)

-- From a word's bytes to what stands open after them.

abbrev gap_behind : Bool → List ℕ → Bool
gap_behind gap [] = gap
gap_behind gap (b ∷ bs) = gap_behind (is_underscore b) bs

-- one more character
pub character : (w : List ℕ) (gap : Bool) (b : ℕ) → is_word_byte b ≡ true → (gap && is_underscore (folded b)) ≡ false → length w < most_characters → lexed (mode.Word w gap) b ≡ stands (mode.Word (w ++ folded b ∷ []) (is_underscore (folded b)))
character w gap b h g few = taken (is_word_byte b) _ _ h ∙ passed (gap && is_underscore (folded b)) _ _ g ∙ taken (nat_lt (length w) most_characters) _ _ (lt-ltb (length w) most_characters few)

pub no_line : (b : ℕ) → is_word_byte b ≡ true → nat_eq b 10 ≡ false
no_line b h = differs is_word_byte b 10 h refl

characters_scanned : (own rest w : List ℕ) (gap : Bool) (n : ℕ) → list_all is_word_byte own ≡ true → is_parted (map folded own) ≡ true → (gap && is_cut_off (map folded own)) ≡ false → length w + length own ≤ most_characters → scanned n (mode.Word w gap) (own ++ rest) ≡ scanned n (mode.Word (w ++ map folded own) (gap_behind gap (map folded own))) rest
characters_scanned [] rest w gap n all parted apart few = ap (λ z. scanned n (mode.Word z gap) rest) (sym (append-nil w))
characters_scanned (b ∷ bs) rest w gap n all parted apart few =
    let more : length w + suc (length bs) ≤ most_characters = few in
    goes n b (mode.Word w gap) (mode.Word (w ++ folded b ∷ []) (is_underscore (folded b))) (bs ++ rest) (character w gap b (and_left (is_word_byte b) (list_all is_word_byte bs) all) apart (omega arith)) (no_line b (and_left (is_word_byte b) (list_all is_word_byte bs) all))
    ∙ characters_scanned bs rest (w ++ folded b ∷ []) (is_underscore (folded b)) n (and_right (is_word_byte b) (list_all is_word_byte bs) all) (and_right (not (is_underscore (folded b) && is_cut_off (map folded bs))) (is_parted (map folded bs)) parted) (not_true (is_underscore (folded b) && is_cut_off (map folded bs)) (and_left (not (is_underscore (folded b) && is_cut_off (map folded bs))) (is_parted (map folded bs)) parted)) (omega (arith, length-append w (folded b ∷ [])))
    ∙ ap (λ z. scanned n (mode.Word z (gap_behind (is_underscore (folded b)) (map folded bs))) rest) (append_assoc w (folded b ∷ []) (map folded bs))

length_folded : (own : List ℕ) → length (map folded own) ≡ length own
length_folded [] = refl
length_folded (b ∷ bs) = ap suc (length_folded bs)

plain_bytes : (own : List ℕ) → is_plain (map folded own) ≡ true → list_all is_word_byte own ≡ true
plain_bytes own h = all_folded own (and_left all (is_parted w) (and_right (begins_with_letter w) (all && is_parted w) (and_right (nat_le (length w) most_characters) (begins_with_letter w && (all && is_parted w)) h)))
  where
    w : List ℕ
    w = map folded own

    all : Bool
    all = list_all is_name_byte w

plain_in_line : (own : List ℕ) → is_plain (map folded own) ≡ true → line_ends own ≡ 0
plain_in_line own h = no_line_ends is_word_byte own refl (plain_bytes own h)

-- a word is scanned up to its end
word_open : (own rest : List ℕ) (n : ℕ) → is_plain (map folded own) ≡ true → (gap : Bool) × (scanned n mode.Clear (own ++ rest) ≡ scanned n (mode.Word (map folded own) gap) rest)
word_open [] rest n h = absurd (true≢false (sym h))
word_open (b ∷ bs) rest n h = (
  gap_behind gap w,
  goes n b mode.Clear (mode.Word (folded b ∷ []) gap) (bs ++ rest) (taken (is_letter (folded b)) _ _ letter) (no_line b (and_left (is_word_byte b) (list_all is_word_byte bs) all))
      ∙ characters_scanned bs rest (folded b ∷ []) gap n (and_right (is_word_byte b) (list_all is_word_byte bs) all) (and_right (not (gap && is_cut_off w)) (is_parted w) parted) (not_true (gap && is_cut_off w) (and_left (not (gap && is_cut_off w)) (is_parted w) parted)) few,
)
  where
    gap : Bool
    gap = is_underscore (folded b)

    w : List ℕ
    w = map folded bs

    all : list_all is_word_byte (b ∷ bs) ≡ true
    all = plain_bytes (b ∷ bs) h

    rules : (begins_with_letter (folded b ∷ w) && (list_all is_name_byte (folded b ∷ w) && is_parted (folded b ∷ w))) ≡ true
    rules = and_right (nat_le (length (folded b ∷ w)) most_characters) (begins_with_letter (folded b ∷ w) && (list_all is_name_byte (folded b ∷ w) && is_parted (folded b ∷ w))) h

    letter : is_letter (folded b) ≡ true
    letter = and_left (is_letter (folded b)) (list_all is_name_byte (folded b ∷ w) && is_parted (folded b ∷ w)) rules

    parted : is_parted (folded b ∷ w) ≡ true
    parted = and_right (list_all is_name_byte (folded b ∷ w)) (is_parted (folded b ∷ w)) (and_right (is_letter (folded b)) (list_all is_name_byte (folded b ∷ w) && is_parted (folded b ∷ w)) rules)

    few : 1 + length bs ≤ most_characters
    few =
        let short : length (folded b ∷ w) ≤ most_characters = leb-true _ _ (and_left (nat_le (length (folded b ∷ w)) most_characters) (begins_with_letter (folded b ∷ w) && (list_all is_name_byte (folded b ∷ w) && is_parted (folded b ∷ w))) h) in
        let same : length w ≡ length bs = length_folded bs in
        omega arith

-- after its last character
word_over : (behind w : List ℕ) (gap : Bool) (n : ℕ) (t : Token) → Ends behind → word_token w ≡ Some t → scanned n (mode.Word w gap) behind ≡ joined (placed t n ∷ []) (scanned n mode.Clear behind)
word_over [] w gap n t h e = ap (λ z. last_tokens n (grows z)) e
word_over (b ∷ bs) w gap n t h e =
    ap (λ z. scanned_on n z (on n b bs)) (passed (is_word_byte b) _ _ (or_left (is_word_byte b) (nat_eq b 35) h) ∙ passed (nat_eq b 35) _ _ (or_right (is_word_byte b) (nat_eq b 35) h))
    ∙ ap (λ z. scanned_on n (word_ended z b) (on n b bs)) e
    ∙ ended n b bs t

pub word_in_line : (own : List ℕ) (t : Token) → word_token (map folded own) ≡ Some t → line_ends own ≡ 0
word_in_line own t h = plain_in_line own (word_is_plain own t h)

pub word_scanned : (own behind : List ℕ) (t : Token) (n : ℕ) → word_token (map folded own) ≡ Some t → Ends behind → scanned n mode.Clear (own ++ behind) ≡ joined (placed t n ∷ []) (scanned n mode.Clear behind)
word_scanned own behind t n h ends = go (word_open own behind n (word_is_plain own t h))
  where
    go : (gap : Bool) × (scanned n mode.Clear (own ++ behind) ≡ scanned n (mode.Word (map folded own) gap) behind) → scanned n mode.Clear (own ++ behind) ≡ joined (placed t n ∷ []) (scanned n mode.Clear behind)
    go (gap, e) = e ∙ word_over behind (map folded own) gap n t ends h

-- Types before numbers.

type_is_plain : (own : List ℕ) (k : IlType) → literal_type (keyword (map folded own)) ≡ Some k → is_plain (map folded own) ≡ true
type_is_plain own k h = go (keyword (map folded own)) refl h
  where
    go : (x : Option Keyword) → keyword (map folded own) ≡ x → literal_type x ≡ Some k → is_plain (map folded own) ≡ true
    go (Some j) e h = keyword_is_plain (map folded own) j e
    go None e h = absurd (cc)

pub type_in_line : (own : List ℕ) (k : IlType) → literal_type (keyword (map folded own)) ≡ Some k → line_ends own ≡ 0
type_in_line own k h = plain_in_line own (type_is_plain own k h)

pub type_scanned : (own rest : List ℕ) (k : IlType) (n : ℕ) → literal_type (keyword (map folded own)) ≡ Some k → scanned n mode.Clear (own ++ (35 ∷ rest)) ≡ scanned n (mode.Typed k) rest
type_scanned own rest k n h = go (word_open own (35 ∷ rest) n (type_is_plain own k h))
  where
    go : (gap : Bool) × (scanned n mode.Clear (own ++ (35 ∷ rest)) ≡ scanned n (mode.Word (map folded own) gap) (35 ∷ rest)) → scanned n mode.Clear (own ++ (35 ∷ rest)) ≡ scanned n (mode.Typed k) rest
    go (gap, e) = e ∙ goes n 35 (mode.Word (map folded own) gap) (mode.Typed k) rest (ap literal_begun h) refl

pub type_is_whole : (x : Option Keyword) (k : IlType) → literal_type x ≡ Some k → IsWhole (Some k)
type_is_whole x il.Bool h = absurd (no_bool x h)
  where
    no_bool : (x : Option Keyword) → literal_type x ≡ Some il.Bool → ⊥
    no_bool None h = cc
    no_bool (Some (word.Type il.Bool)) h = cc
    no_bool (Some (word.Type il.Sint)) h = cc
    no_bool (Some (word.Type il.Int)) h = cc
    no_bool (Some (word.Type il.Dint)) h = cc
    no_bool (Some (word.Type il.Lint)) h = cc
    no_bool (Some (word.Type il.Usint)) h = cc
    no_bool (Some (word.Type il.Uint)) h = cc
    no_bool (Some (word.Type il.Udint)) h = cc
    no_bool (Some _) h = cc
type_is_whole x il.Sint h = tt
type_is_whole x il.Int h = tt
type_is_whole x il.Dint h = tt
type_is_whole x il.Lint h = tt
type_is_whole x il.Usint h = tt
type_is_whole x il.Uint h = tt
type_is_whole x il.Udint h = tt
