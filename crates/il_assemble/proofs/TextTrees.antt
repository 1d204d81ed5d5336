-- What is proved of the trees that texts give.
use Rattle.std.proofs.Common.{◌≡◌, ℕ, suc, ◌+◌, ◌-◌, ◌<◌, ◌≤◌, true, List, [], ◌∷◌, ◌++◌, map, length, Option, Some, None, Result, Ok, Err, slice_get, refl, sym, ap, ◌∙◌, arith, if◌then◌else◌, nat_le, ltb-true, le-leb}
use Rattle.std.proofs.lemmas.List.{length-map}
use Rattle.std.proofs.lemmas.Option.{slice_get_past}
use Rattle.point_types.specs.Value.{◌>>=◌}
use Rattle.scan_code.specs.Image.{are_new}
use Rattle.il_reader.specs.declared.token.Keyword.TheVariants as word
use Rattle.il_reader.specs.declared.token.Token.TheVariants as token
use Rattle.il_reader.specs.declared.tree.Action.{Action}
use Rattle.il_reader.specs.declared.tree.Action.TheVariants as action
use Rattle.il_reader.specs.declared.tree.External.{External}
use Rattle.il_reader.specs.declared.tree.Program.{Program as Tree}
use Rattle.il_reader.specs.declared.tree.Statement.{Statement}
use Rattle.il_reader.specs.declared.tree.Variable.{Variable}
use Rattle.il_reader.specs.Declaration.{empty_scope}
use Rattle.il_reader.specs.Grammar.{IsAction, IsBody, IsInner, IsLine, IsProgram, IsProgramText, IsSimple, labels_with, past}
use Rattle.il_reader.specs.Lexemes.{Placed}
use Rattle.il_reader.specs.Laws.{ReadingIsExact}
use Rattle.il_reader.specs.Limit.{most_names, most_nested}
use Rattle.il_assemble.specs.declared.fault.AsmFault.{AsmFault}
use Rattle.il_assemble.specs.Assembled.{declared_name, external_name}
use Rattle.il_assemble.specs.Elaboration.{counted, elaborated, is_action_within, is_inner_within, is_nested_within, named_apart, names_seen, nested, scope_of, too_long, undivided, unless_external, unless_variable}
use Rattle.il_assemble.specs.Texts.{KeepsTheLimits, TextsKeepTheLimits, elaborated_text}
use Rattle.il_assemble.specs.Written.{Written, Load, Apply, Defer, Limit, Select, Invert, Absolute, Convert, Inner, Close, Then}
use Rattle.il_assemble.proofs.Rules.{names_stay_different}
use Rattle.il_assemble.proofs.TextDeclared.{blocks}
use Rattle.il_assemble.proofs.TextNames.{next_named}
use Rattle.il_assemble.proofs.TextTokens.{AreNamed, tokens_named}
use Rattle.point_types.proofs.Truths.{and_both}

-- ---- parentheses

mutual
  simple_within : (w : Written) (room depth l : ℕ) (from to : List Placed) → room + depth ≡ most_nested → IsSimple depth l w from to → is_nested_within room w ≡ true
  simple_within (Load negated operand) room depth l from to e h = refl
  simple_within (Apply o negated operand) room depth l from to e h = refl
  simple_within (Defer o negated first inner) room depth l from to e (m, a, b, takes, deep, filled, at, entry, lines) =
      let less : depth < most_nested = ltb-true depth most_nested deep in
      let some : 1 ≤ room = omega arith in
      let left : (room - 1) + suc depth ≡ most_nested = omega arith in
      and_both (nat_le 1 room) (is_inner_within (room - 1) inner) (le-leb 1 room some) (inner_within inner (room - 1) (suc depth) b to left lines)
  simple_within (Limit input most) room depth l from to e h = refl
  simple_within (Select x y) room depth l from to e h = refl
  simple_within Invert room depth l from to e h = refl
  simple_within Absolute room depth l from to e h = refl
  simple_within (Convert j k) room depth l from to e h = refl

  inner_within : (x : Inner) (room depth : ℕ) (from to : List Placed) → room + depth ≡ most_nested → IsInner depth x from to → is_inner_within room x ≡ true
  inner_within Close room depth from to e h = refl
  inner_within (Then line head tail) room depth from to e (a, b, first, ends, rest) =
      and_both (is_nested_within room head) (is_inner_within room tail) (simple_within head room depth line (past from) a e first) (inner_within tail room depth b to e rest)

action_within : (x : Action) (l : ℕ) (from to : List Placed) → IsAction l x from to → is_action_within (Some x) ≡ true
action_within (action.Compute w) l from to h = simple_within w most_nested 0 l from to refl h
action_within (action.Store negated name) l from to h = refl
action_within (action.Set value name) l from to h = refl
action_within (action.Jump condition label turns) l from to h = refl
action_within (action.Return condition) l from to h = refl

line_within : (labels : List (List ℕ)) (l : ℕ) (label : Option (List ℕ)) (x : Option Action) (from to : List Placed) → IsLine labels l label x from to → is_action_within x ≡ true
line_within labels l label None from to h = refl
line_within labels l None (Some x) from to h = action_within x l from to h
line_within labels l (Some n) (Some x) from to (m, a, new, at, (k, h)) = action_within x k a to h

body_within : (labels : List (List ℕ)) (ss : List Statement) (end : ℕ) (from : List Placed) → IsBody labels ss end from → nested ss ≡ Ok tt
body_within labels [] end from h = refl
body_within labels (s ∷ ss) end from (a, b, first, ends, rest) =
    ap (λ x. if x then nested ss else Err (too_long s.line)) (line_within labels s.line s.label s.action (past from) a first) ∙ body_within (labels_with labels s.label) ss end b rest

-- ---- the tree of a text

few_variables : (vs : List Variable) → length vs ≤ most_names → unless_variable (slice_get vs most_names) ≡ Ok tt
few_variables vs h = ap unless_variable (slice_get_past vs most_names h)

few_externals : (es : List External) → length es ≤ most_names → unless_external (slice_get es most_names) ≡ Ok tt
few_externals es h = ap unless_external (slice_get_past es most_names h)

then_ok : {A : Type 0} (x : Result (Unit {0}) AsmFault) (y : Result A AsmFault) → x ≡ Ok tt → (x >>= λ _. y) ≡ y
then_ok x y h = ap (λ z. z >>= λ _. y) h

program_keeps : (ts : List Placed) (tree : Tree) → AreNamed ts → IsProgram ts tree → KeepsTheLimits tree
program_keeps ts tree named (i, j, a, b, c, bs, begins, called, are, body, variables, externals) =
    let p = next_named (token.Keyword word.Program) i ts a begins named in
    let q = next_named (token.Name tree.name) j a b called p.1 in
    let d = blocks empty_scope bs b c are (record { variables = omega arith; externals = omega arith; apart = refl }) q.1 in
    let vs : d.0.variables ≡ map declared_name tree.variables = d.1.grows.variables ∙ ap (map declared_name) (sym variables) in
    let es : d.0.externals ≡ map external_name tree.externals = d.1.grows.externals ∙ ap (map external_name) (sym externals) in
    let some : length tree.variables ≤ most_names = omega (arith, d.1.good.variables, ap length vs, length-map tree.variables declared_name) in
    let others : length tree.externals ≤ most_names = omega (arith, d.1.good.externals, ap length es, length-map tree.externals external_name) in
    let new : are_new [] (map declared_name tree.variables ++ map external_name tree.externals) ≡ true = ap (λ x. are_new [] (x ++ map external_name tree.externals)) (sym vs) ∙ ap (λ x. are_new [] (d.0.variables ++ x)) (sym es) ∙ d.1.good.apart in
    record {
      few =
          then_ok (unless_variable (slice_get tree.variables most_names)) (unless_external (slice_get tree.externals most_names) >>= λ _. nested tree.statements) (few_variables tree.variables some)
          ∙ then_ok (unless_external (slice_get tree.externals most_names)) (nested tree.statements) (few_externals tree.externals others) ∙ body_within [] tree.statements tree.end_line c body;
      whole = ap undivided variables ∙ d.1.whole;
      apart = names_stay_different tree new;
    }

text_keeps : (text : List ℕ) (tree : Tree) → IsProgramText text tree → KeepsTheLimits tree
text_keeps text tree (ts, are, h) = program_keeps ts tree (tokens_named text ts are) h

-- so its limits decide nothing
alone : (t : Tree) → KeepsTheLimits t → elaborated t ≡ elaborated_text t
alone t h =
    then_ok (counted t.variables t.externals t.statements) (undivided t.variables >>= λ _. named_apart t.variables t.externals (names_seen (scope_of t)) >>= λ _. elaborated_text t) h.few
    ∙ then_ok (undivided t.variables) (named_apart t.variables t.externals (names_seen (scope_of t)) >>= λ _. elaborated_text t) h.whole
    ∙ then_ok (named_apart t.variables t.externals (names_seen (scope_of t))) (elaborated_text t) h.apart

pub texts_keep_the_limits : ReadingIsExact → TextsKeepTheLimits
texts_keep_the_limits exact text tree read =
    let keeps = text_keeps text tree ((exact text tree).0 read).0 in (keeps, alone tree keeps)
