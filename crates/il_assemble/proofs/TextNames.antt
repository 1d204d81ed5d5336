-- Declarations of a text: its names are new, and so many as there may be, and a BOOL has no range of its own.
use Rattle.std.proofs.Common.{◌≡◌, ℕ, ◌<◌, ◌≤◌, Bool, true, false, not, ◌&&◌, ◌||◌, ℤ, pos, List, [], ◌∷◌, ◌++◌, length, map, Option, Some, None, refl, sym, ap, subst, ◌∙◌, arith, nat_lt, nat_le, ltb-true, length-append, append_assoc, true≢false, bytes_eq}
use Rattle.std.proofs.lemmas.List.{append-nil, map-append}
use Rattle.std.proofs.lemmas.List.Folds.{list_any-append}
use Rattle.std.proofs.lemmas.Slice.Eq.{bytes_eq-Decides}
use Rattle.point_types.specs.declared.il_type.IlType.{IlType}
use Rattle.point_types.specs.declared.il_type.IlType.TheVariants as il
use Rattle.point_types.specs.Name.{is_name}
use Rattle.point_types.specs.Value.{int_eq, is_bool, is_ranged, low_of, high_of}
use Rattle.scan_code.specs.Image.{are_new, is_among, is_new}
use Rattle.il_reader.specs.declared.scope.Scope.{Scope}
use Rattle.il_reader.specs.declared.token.Token.{Token}
use Rattle.il_reader.specs.declared.token.Token.TheVariants as token
use Rattle.il_reader.specs.declared.tree.External.{External}
use Rattle.il_reader.specs.declared.tree.Variable.{Variable}
use Rattle.il_reader.specs.declared.typing.Entry.{Entry}
use Rattle.il_reader.specs.declared.typing.Typing.{Typing}
use Rattle.il_reader.specs.Declaration.{among, begun, bounded, external_of, has_presence_among, is_among_presences, is_taken, made, ranged_typing, started, typing_of, variable_of, with_name}
use Rattle.il_reader.specs.Grammar.{IsFree, IsNext, past, with_entries}
use Rattle.il_reader.specs.Lexemes.{Placed, placed}
use Rattle.il_reader.specs.Limit.{most_names}
use Rattle.il_assemble.specs.Assembled.{declared_name, external_name}
use Rattle.il_assemble.proofs.Rules.{or_none}
use Rattle.il_assemble.proofs.Sound.{negated}
use Rattle.il_assemble.proofs.TextTokens.{AreNamed, IsNamed}
use Rattle.point_types.proofs.Truths.{both}
use Rattle.point_types.proofs.Truths.{and_both}

-- ---- tokens after tokens

past_named : (ts : List Placed) → AreNamed ts → AreNamed (past ts)
past_named [] h = tt
past_named (placed token.LineEnd l ∷ ts) h = past_named ts h.1
past_named (t ∷ ts) h = h

pub next_named : (t : Token) (l : ℕ) (from to : List Placed) → IsNext t l from to → AreNamed from → IsNamed t × AreNamed to
next_named t l from to is h = subst AreNamed is (past_named from h)

-- ---- one more name

unlike : (m n : List ℕ) (b : Bool) → bytes_eq n m ≡ b → bytes_eq m n ≡ false → bytes_eq n m ≡ false
unlike m n true e h = absurd (true≢false (sym ((bytes_eq-Decides m n).1 (sym ((bytes_eq-Decides n m).0 e))) ∙ h))
unlike m n false e h = e

-- names that stay new after one more name, which isn't among them
stay_new : (before after names : List (List ℕ)) (n : List ℕ) → ((m : List ℕ) → is_among after m ≡ (is_among before m || bytes_eq m n)) → among n names ≡ false → are_new before names ≡ true → are_new after names ≡ true
stay_new before after [] n one free h = refl
stay_new before after (m ∷ names) n one free h =
    let x = both (is_new before m) (are_new (before ++ m ∷ []) names) h in
    let y = both (is_name m) (not (is_among before m)) x.0 in
    let z = or_none (bytes_eq n m) (among n names) free in
    let none : is_among after m ≡ false = one m ∙ ap (λ b. b || bytes_eq m n) (negated (is_among before m) y.1) ∙ unlike n m (bytes_eq m n) refl z.0 in
    and_both (is_new after m) (are_new (after ++ m ∷ []) names) (and_both (is_name m) (not (is_among after m)) y.0 (ap not none))
    (stay_new (before ++ m ∷ []) (after ++ m ∷ []) names n (λ k. grown k) z.1 x.1)
  where
    swapped : (a b c : Bool) → ((a || b) || c) ≡ ((a || c) || b)
    swapped true b c = refl
    swapped false true true = refl
    swapped false true false = refl
    swapped false false true = refl
    swapped false false false = refl

    alone : (b : Bool) → (b || false) ≡ b
    alone true = refl
    alone false = refl

    grown : (k : List ℕ) → is_among (after ++ m ∷ []) k ≡ (is_among (before ++ m ∷ []) k || bytes_eq k n)
    grown k =
        list_any-append (bytes_eq k) after (m ∷ []) ∙ ap (λ b. b || is_among (m ∷ []) k) (one k) ∙ swapped (is_among before k) (bytes_eq k n) (is_among (m ∷ []) k) ∙ ap (λ b. b || bytes_eq k n) (sym (list_any-append (bytes_eq k) before (m ∷ [])))

-- one more name stands between names
set_between : (before names rest : List (List ℕ)) (n : List ℕ) → is_name n ≡ true → is_among before n ≡ false → among n names ≡ false → among n rest ≡ false → are_new before (names ++ rest) ≡ true → are_new before (names ++ n ∷ rest) ≡ true
set_between before [] rest n named old free behind h =
    and_both (is_new before n) (are_new (before ++ n ∷ []) rest) (and_both (is_name n) (not (is_among before n)) named (ap not old))
    (stay_new before (before ++ n ∷ []) rest n (λ m. list_any-append (bytes_eq m) before (n ∷ []) ∙ ap (λ b. is_among before m || b) (alone (bytes_eq m n))) behind h)
  where
    alone : (b : Bool) → (b || false) ≡ b
    alone true = refl
    alone false = refl
set_between before (m ∷ names) rest n named old free behind h =
    let x = both (is_new before m) (are_new (before ++ m ∷ []) (names ++ rest)) h in
    let z = or_none (bytes_eq n m) (among n names) free in
    and_both (is_new before m) (are_new (before ++ m ∷ []) (names ++ n ∷ rest)) x.0
    (set_between (before ++ m ∷ []) names rest n named (list_any-append (bytes_eq n) before (m ∷ []) ∙ ap (λ b. b || is_among (m ∷ []) n) old ∙ ap (λ b. b || false) z.0) z.1 behind x.1)

-- ---- what is declared

-- the names so far are new, and so many as there may be
pub record IsGood (s : Scope) : Type 0 where
  pub variables : length s.variables ≤ most_names
  pub externals : length s.externals ≤ most_names
  pub apart : are_new [] (s.variables ++ s.externals) ≡ true

untaken : (x : Bool) (n : List ℕ) (s : Scope) → is_taken x n s ≡ false → (among n s.variables ≡ false) × (among n s.externals ≡ false)
untaken x n s h =
    let either = or_none (among n s.variables || among n s.externals || is_among_presences n s.externals) (x && (has_presence_among n s.variables || has_presence_among n s.externals)) h in
    let names = or_none (among n s.variables || among n s.externals) (is_among_presences n s.externals) either.0 in
    or_none (among n s.variables) (among n s.externals) names.0

pub name_good : (x : Bool) (s : Scope) (n : List ℕ) → IsFree x s n → is_name n ≡ true → IsGood s → IsGood (with_name x s n)
name_good false s n free named h =
    let new = untaken false n s free.0 in
    let room : length s.variables < most_names = ltb-true _ _ (both (nat_lt (length s.variables) most_names) (nat_le (length s.externals) most_names) free.1).0 in
    record {
      variables = omega (arith, room, length-append s.variables (n ∷ []));
      externals = h.externals;
      apart = ap (are_new []) (append_assoc s.variables (n ∷ []) s.externals) ∙ set_between [] s.variables s.externals n named refl new.0 new.1 h.apart;
    }
name_good true s n free named h =
    let new = untaken true n s free.0 in
    let room : length s.externals < most_names = ltb-true _ _ (both (nat_le (length s.variables) most_names) (nat_lt (length s.externals) most_names) free.1).1 in
    record {
      variables = h.variables;
      externals = omega (arith, room, length-append s.externals (n ∷ []));
      apart = ap (are_new []) (sym (append_assoc s.variables s.externals (n ∷ []))) ∙ set_between [] (s.variables ++ s.externals) [] n named refl
          (list_any-append (bytes_eq n) s.variables s.externals ∙ ap (λ c. c || among n s.externals) new.0 ∙ new.1) refl (ap (are_new []) (append-nil (s.variables ++ s.externals)) ∙ h.apart);
    }

-- what names are declared from one scope to another
pub record Grows (s t : Scope) (vs : List Variable) (es : List External) : Type 0 where
  pub variables : t.variables ≡ s.variables ++ map declared_name vs
  pub externals : t.externals ≡ s.externals ++ map external_name es

pub grows_not : (s : Scope) → Grows s s [] []
grows_not s = record { variables = sym (append-nil s.variables); externals = sym (append-nil s.externals) }

pub grows_on : (s t u : Scope) (vs ws : List Variable) (es fs : List External) → Grows s t vs es → Grows t u ws fs → Grows s u (vs ++ ws) (es ++ fs)
grows_on s t u vs ws es fs h k = record {
  variables = k.variables ∙ ap (λ x. x ++ map declared_name ws) h.variables ∙ append_assoc s.variables (map declared_name vs) (map declared_name ws) ∙ ap (λ x. s.variables ++ x) (sym (map-append declared_name vs ws));
  externals = k.externals ∙ ap (λ x. x ++ map external_name fs) h.externals ∙ append_assoc s.externals (map external_name es) (map external_name fs) ∙ ap (λ x. s.externals ++ x) (sym (map-append external_name es fs));
}

pub variables_grow : (s : Scope) (y : Typing) (es : List Entry) → Grows s (with_entries false s es) (map (variable_of y) es) []
variables_grow s y [] = grows_not s
variables_grow s y (e ∷ es) =
    grows_on s (with_name false s e.name) (with_entries false (with_name false s e.name) es) (variable_of y e ∷ []) (map (variable_of y) es) [] []
    (record { variables = refl; externals = sym (append-nil s.externals) }) (variables_grow (with_name false s e.name) y es)

pub externals_grow : (s : Scope) (k : IlType) (es : List Entry) → Grows s (with_entries true s es) [] (map (external_of k) es)
externals_grow s k [] = grows_not s
externals_grow s k (e ∷ es) =
    grows_on s (with_name true s e.name) (with_entries true (with_name true s e.name) es) [] [] (external_of k e ∷ []) (map (external_of k) es)
    (record { variables = sym (append-nil s.variables); externals = refl }) (externals_grow (with_name true s e.name) k es)

-- ---- a range is the type's, or no BOOL's

abbrev pub IsWhole : Typing → Type 0
IsWhole y = (not (is_bool y.kind) || (int_eq y.low (pos 0) && int_eq y.high (pos 1))) ≡ true

-- a typing as it was asked for
made_as : (kind : IlType) (low high start : ℤ) (b : Bool) (e : is_ranged kind low high start ≡ b) (y : Typing) → ranged_typing kind low high start b e ≡ Some y → (y.kind ≡ kind) × (y.low ≡ low) × (y.high ≡ high)
made_as kind low high start true e y h =
    let same : record { kind = kind; low = low; high = high; start = start; ranged = e } ≡ y = cc in (ap (λ (z : Typing). z.kind) (sym same), ap (λ (z : Typing). z.low) (sym same), ap (λ (z : Typing). z.high) (sym same))
made_as kind low high start false e y h = absurd (cc)

pub typed_as : (kind : IlType) (low high start : ℤ) (y : Typing) → typing_of kind low high start ≡ Some y → (y.kind ≡ kind) × (y.low ≡ low) × (y.high ≡ high)
typed_as kind low high start y h = made_as kind low high start (is_ranged kind low high start) refl y h

pub whole_type : (kind : IlType) → (not (is_bool kind) || (int_eq (low_of kind) (pos 0) && int_eq (high_of kind) (pos 1))) ≡ true
whole_type il.Bool = refl
whole_type il.Sint = refl
whole_type il.Int = refl
whole_type il.Dint = refl
whole_type il.Lint = refl
whole_type il.Usint = refl
whole_type il.Uint = refl
whole_type il.Udint = refl

pub whole_as : (y : Typing) (kind : IlType) (low high : ℤ) → (y.kind ≡ kind) × (y.low ≡ low) × (y.high ≡ high) → (not (is_bool kind) || (int_eq low (pos 0) && int_eq high (pos 1))) ≡ true → IsWhole y
whole_as y kind low high h e =
    ap (λ k. not (is_bool k) || (int_eq y.low (pos 0) && int_eq y.high (pos 1))) h.0 ∙ ap (λ n. not (is_bool kind) || (int_eq n (pos 0) && int_eq y.high (pos 1))) h.1 ∙ ap (λ n. not (is_bool kind) || (int_eq low (pos 0) && int_eq n (pos 1))) h.2 ∙ e

pub no_bool : (y : Typing) → is_bool y.kind ≡ false → IsWhole y
no_bool y h = ap (λ b. not b || (int_eq y.low (pos 0) && int_eq y.high (pos 1))) h

made_from : (f : ℤ → Option Typing) (n : Option ℤ) (y : Typing) → made f n ≡ Some y → (m : ℤ) × (f m ≡ Some y)
made_from f None y h = absurd (cc)
made_from f (Some m) y h = (m, h)

pub begun_kind : (k : IlType) (z : Typing) (n : Option ℤ) → made (begun k) n ≡ Some z → z.kind ≡ k
begun_kind k z n h = let m = made_from (begun k) n z h in (typed_as k m.0 (high_of k) m.0 z m.1).0

pub bounded_kind : (y z : Typing) (n : Option ℤ) → made (bounded y) n ≡ Some z → z.kind ≡ y.kind
bounded_kind y z n h = let m = made_from (bounded y) n z h in (typed_as y.kind y.low m.0 y.low z m.1).0

pub started_whole : (y z : Typing) (n : Option ℤ) → made (started y) n ≡ Some z → IsWhole y → IsWhole z
started_whole y z n h w = let m = made_from (started y) n z h in whole_as z y.kind y.low y.high (typed_as y.kind y.low y.high m.0 z m.1) w
