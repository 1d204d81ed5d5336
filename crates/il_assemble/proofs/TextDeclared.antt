-- Blocks of declarations, by the grammar: what they declare.
use Rattle.std.proofs.Common.{◌≡◌, Bool, true, false, List, [], ◌∷◌, ◌++◌, map, Result, Ok, Err, inl, inr, refl, ap, subst, ◌∙◌, if◌then◌else◌, pos}
use Rattle.point_types.specs.Value.{is_bool, low_of, high_of}
use Rattle.scan_code.specs.Image.{is_whole_if_bool}
use Rattle.il_reader.specs.declared.scope.Scope.{Scope}
use Rattle.il_reader.specs.declared.token.Keyword.TheVariants as word
use Rattle.il_reader.specs.declared.token.Token.TheVariants as token
use Rattle.il_reader.specs.declared.tree.External.{External}
use Rattle.il_reader.specs.declared.tree.Variable.{Variable}
use Rattle.il_reader.specs.declared.typing.Entry.{Entry}
use Rattle.il_reader.specs.declared.typing.Typing.{Typing}
use Rattle.il_reader.specs.Declaration.{value_of, variable_of, with_name}
use Rattle.il_reader.specs.Grammar.{AreBlocks, AreDeclarations, AreOthers, Block, Declaration, IsDeclaration, IsNature, IsRange, IsStart, Nature, OfExternal, OfVariable, block_externals, block_token, block_variables, entries_of, externals_of, externals_with, variables_of, variables_with, with_declarations, with_entries}
use Rattle.il_reader.specs.Lexemes.{Placed}
use Rattle.il_assemble.specs.declared.fault.AsmFault.{AsmFault}
use Rattle.il_assemble.specs.declared.fault.AsmFaultKind.TheVariants as kind
use Rattle.il_assemble.specs.Elaboration.{undivided}
use Rattle.il_assemble.proofs.TextTokens.{AreNamed}
use Rattle.il_assemble.proofs.TextNames.{Grows, IsGood, IsWhole, begun_kind, bounded_kind, externals_grow, grows_not, grows_on, name_good, next_named, no_bool, started_whole, typed_as, variables_grow, whole_as, whole_type}

-- further names of a declaration
others : (x : Bool) (s : Scope) (es : List Entry) (from to : List Placed) → AreOthers x s es from to → IsGood s → AreNamed from → IsGood (with_entries x s es) × AreNamed to
others x s [] from to h good named = (good, subst AreNamed h named)
others x s (e ∷ es) from to (i, a, b, free, comma, name, rest) good named =
    let p = next_named token.Comma i from a comma named in
    let q = next_named (token.Name e.name) e.line a b name p.1 in
    others x (with_name x s e.name) es b to rest (name_good x s e.name free q.0 good) q.1

ranged : (w y : Typing) (from to : List Placed) → IsRange w y from to → IsWhole w → AreNamed from → IsWhole y × AreNamed to
ranged w y from to (inl (same, at)) whole named = (subst IsWhole same whole, subst AreNamed at named)
ranged w y from to (inr (t, u, z, g, h, i, j, l, a, b, c, d, number, opens, low, begins, dots, high, ends, closes)) whole named =
    let p = next_named token.Open g from a opens named in
    let q = next_named t h a b low p.1 in
    let r = next_named token.Dots i b c dots q.1 in
    let v = next_named u j c d high r.1 in
    let x = next_named token.Close l d to closes v.1 in
    (no_bool y (ap is_bool (bounded_kind z y (value_of z.kind u) ends ∙ begun_kind w.kind z (value_of w.kind t) begins) ∙ number), x.1)

begun_in : (y z : Typing) (from to : List Placed) → IsStart y z from to → IsWhole y → AreNamed from → IsWhole z × AreNamed to
begun_in y z from to (inl (i, same, ends)) whole named = (subst IsWhole same whole, (next_named token.Semicolon i from to ends named).1)
begun_in y z from to (inr (t, i, j, l, a, b, assigns, value, starts, ends)) whole named =
    let p = next_named token.Assign i from a assigns named in
    let q = next_named t j a b value p.1 in
    (started_whole y z (value_of y.kind t) starts whole, (next_named token.Semicolon l b to ends q.1).1)

-- what is declared in a block of externals, or of variables
abbrev Fits : Bool → Nature → Type 0
Fits false (OfVariable y) = IsWhole y
Fits true (OfExternal k) = Unit {0}
Fits x n = ⊥

natured : (x : Bool) (n : Nature) (from to : List Placed) → IsNature x n from to → AreNamed from → Fits x n × AreNamed to
natured false (OfVariable z) from to (k, w, y, j, a, b, typed, is, range, start) named =
    let p = next_named (token.Keyword (word.Type k)) j from a typed named in
    let q = ranged w y a b range (whole_as w k (low_of k) (high_of k) (typed_as k (low_of k) (high_of k) (pos 0) w is) (whole_type k)) p.1 in
    begun_in y z b to start q.0 q.1
natured true (OfExternal k) from to (j, l, a, typed, ends) named =
    (tt, (next_named token.Semicolon l a to ends (next_named (token.Keyword (word.Type k)) j from a typed named).1).1)
natured false (OfExternal k) from to h named = absurd h
natured true (OfVariable y) from to h named = absurd h

-- ---- what they declare together

-- the BOOLs are whole
all_whole : (y : Typing) (es : List Entry) → IsWhole y → undivided (map (variable_of y) es) ≡ Ok tt
all_whole y [] h = refl
all_whole y (e ∷ es) h = ap (λ b. if b then undivided (map (variable_of y) es) else Err (record { line = e.line; kind = kind.LiteralType })) h ∙ all_whole y es h

whole_with : (x : Bool) (n : Nature) (es : List Entry) → Fits x n → undivided (variables_with n es) ≡ Ok tt
whole_with false (OfVariable y) es h = all_whole y es h
whole_with true (OfExternal k) es h = refl
whole_with false (OfExternal k) es h = absurd h
whole_with true (OfVariable y) es h = absurd h

grow_with : (x : Bool) (s : Scope) (n : Nature) (es : List Entry) → Fits x n → Grows s (with_entries x s es) (variables_with n es) (externals_with n es)
grow_with false s (OfVariable y) es h = variables_grow s y es
grow_with true s (OfExternal k) es h = externals_grow s k es
grow_with false s (OfExternal k) es h = absurd h
grow_with true s (OfVariable y) es h = absurd h

whole_both : (vs ws : List Variable) → undivided vs ≡ Ok tt → undivided ws ≡ Ok tt → undivided (vs ++ ws) ≡ Ok tt
whole_both [] ws h k = k
whole_both (v ∷ vs) ws h k = either (is_whole_if_bool v.var) (λ e. whole_both vs ws e k) h
  where
    either : (b : Bool) → (undivided vs ≡ Ok tt → undivided (vs ++ ws) ≡ Ok tt)
        → ◌≡◌ {A = Result (Unit {0}) AsmFault} (if b then undivided vs else Err (record { line = v.line; kind = kind.LiteralType })) (Ok tt)
        → ◌≡◌ {A = Result (Unit {0}) AsmFault} (if b then undivided (vs ++ ws) else Err (record { line = v.line; kind = kind.LiteralType })) (Ok tt)
    either true on e = on e
    either false on e = absurd (cc)

-- from one scope to another these are declared, in good order
pub record Declares (s t : Scope) (vs : List Variable) (es : List External) (to : List Placed) : Type 0 where
  pub good : IsGood t
  pub grows : Grows s t vs es
  pub whole : undivided vs ≡ Ok tt
  pub named : AreNamed to

declares_on : (s t u : Scope) (vs ws : List Variable) (es fs : List External) (a to : List Placed) → Declares s t vs es a → Declares t u ws fs to → Declares s u (vs ++ ws) (es ++ fs) to
declares_on s t u vs ws es fs a to h k = record { good = k.good; grows = grows_on s t u vs ws es fs h.grows k.grows; whole = whole_both vs ws h.whole k.whole; named = k.named }

declared : (x : Bool) (s : Scope) (y : Declaration) (from to : List Placed) → IsDeclaration x s y from to → IsGood s → AreNamed from
    → Declares s (with_entries x s (entries_of y)) (variables_with y.nature (entries_of y)) (externals_with y.nature (entries_of y)) to
declared x s y from to (a, b, free, first, rest, (i, c, colon, nature)) good named =
    let p = next_named (token.Name y.first.name) y.first.line from a first named in
    let q = others x (with_name x s y.first.name) y.others a b rest (name_good x s y.first.name free p.0 good) p.1 in
    let r = natured x y.nature c to nature (next_named token.Colon i b c colon q.1).1 in
    record { good = q.0; grows = grow_with x s y.nature (entries_of y) r.0; whole = whole_with x y.nature (entries_of y) r.0; named = r.1 }

declarations : (x : Bool) (s : Scope) (ys : List Declaration) (from to : List Placed) → AreDeclarations x s ys from to → IsGood s → AreNamed from
    → Declares s (with_declarations x s ys) (block_variables ys) (block_externals ys) to
declarations x s [] from to (l, ends) good named = record { good = good; grows = grows_not s; whole = refl; named = (next_named (token.Keyword word.EndVar) l from to ends named).1 }
declarations x s (y ∷ ys) from to (a, first, rest) good named =
    let t = with_entries x s (entries_of y) in
    let h = declared x s y from a first good named in
    declares_on s t (with_declarations x t ys) (variables_with y.nature (entries_of y)) (block_variables ys) (externals_with y.nature (entries_of y)) (block_externals ys) a to h
    (declarations x t ys a to rest h.good h.named)

pub blocks : (s : Scope) (bs : List Block) (from to : List Placed) → AreBlocks s bs from to → IsGood s → AreNamed from → (t : Scope) × Declares s t (variables_of bs) (externals_of bs) to
blocks s [] from to h good named = (s, record { good = good; grows = grows_not s; whole = refl; named = subst AreNamed h named })
blocks s (x ∷ bs) from to (l, a, b, begins, first, rest) good named =
    let t = with_declarations x.external s x.declarations in
    let h = declarations x.external s x.declarations a b first good (next_named (block_token x.external) l from a begins named).1 in
    let k = blocks t bs b to rest h.good h.named in
    (k.0, declares_on s t k.0 (block_variables x.declarations) (variables_of bs) (block_externals x.declarations) (externals_of bs) b to h k.1)
