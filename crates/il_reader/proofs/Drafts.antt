-- Drafts that grow by declarations, and what is declared by then.
use Rattle.std.proofs.Common.{◌≡◌, ℕ, Bool, List, [], ◌∷◌, ◌++◌, map, refl, sym, ap, ◌∙◌, append_assoc}
use Rattle.std.proofs.lemmas.List.{append-nil}
use Rattle.il_reader.specs.declared.tree.Program.{Program}
use Rattle.il_reader.specs.declared.tree.Statement.{Statement}
use Rattle.il_reader.specs.declared.tree.Variable.{Variable}
use Rattle.il_reader.specs.declared.tree.External.{External}
use Rattle.il_reader.specs.declared.typing.Entry.{Entry}
use Rattle.il_reader.specs.declared.scope.Scope.{Scope}
use Rattle.il_reader.specs.declared.draft.Draft.{Draft}
use Rattle.il_reader.specs.Declaration.{with_name, variable_of, external_of}
use Rattle.il_reader.specs.Drafting.{with_entry, with_variables, with_externals, titled_draft}
use Rattle.il_reader.specs.Grammar.{Nature, OfVariable, OfExternal, Declaration, Block, entries_of, with_entries, with_declarations, variables_with, externals_with, block_variables, block_externals, variables_of, externals_of}

-- after some names of a declaration
abbrev pub listed : Bool → Draft → List Entry → Draft
listed x d [] = d
listed x d (e ∷ es) = listed x (with_entry x d e.line e.name) es

-- after the end of a declaration
abbrev pub closed : Draft → Nature → Draft
closed d (OfVariable y) = with_variables d y
closed d (OfExternal k) = with_externals d k

-- after a declaration, a block, all blocks
abbrev pub after_one : Bool → Draft → Declaration → Draft
after_one x d y = closed (listed x d (entries_of y)) y.nature

abbrev pub after : Bool → Draft → List Declaration → Draft
after x d [] = d
after x d (y ∷ ys) = after x (after_one x d y) ys

abbrev pub after_blocks : Draft → List Block → Draft
after_blocks d [] = d
after_blocks d (b ∷ bs) = after_blocks (after b.external d b.declarations) bs

abbrev pub finished : Draft → List Statement → ℕ → Program
finished d body e = record { name = d.name; variables = d.variables; externals = d.externals; statements = d.statements ++ body; end_line = e }

-- The names.

pub scope_listed : (x : Bool) (es : List Entry) (d : Draft) → (listed x d es).scope ≡ with_entries x d.scope es
scope_listed x [] d = refl
scope_listed x (e ∷ es) d = scope_listed x es (with_entry x d e.line e.name)

scope_closed : (d : Draft) (n : Nature) → (closed d n).scope ≡ d.scope
scope_closed d (OfVariable y) = refl
scope_closed d (OfExternal k) = refl

pub scope_one : (x : Bool) (d : Draft) (y : Declaration) → (after_one x d y).scope ≡ with_entries x d.scope (entries_of y)
scope_one x d y = scope_closed (listed x d (entries_of y)) y.nature ∙ scope_listed x (entries_of y) d

pub scope_after : (x : Bool) (ys : List Declaration) (d : Draft) → (after x d ys).scope ≡ with_declarations x d.scope ys
scope_after x [] d = refl
scope_after x (y ∷ ys) d = scope_after x ys (after_one x d y) ∙ ap (λ z. with_declarations x z ys) (scope_one x d y)

pub labels_listed : (x : Bool) (es : List Entry) (d : Draft) → (listed x d es).labels ≡ d.labels
labels_listed x [] d = refl
labels_listed x (e ∷ es) d = labels_listed x es (with_entry x d e.line e.name)

labels_closed : (d : Draft) (n : Nature) → (closed d n).labels ≡ d.labels
labels_closed d (OfVariable y) = refl
labels_closed d (OfExternal k) = refl

pub labels_after : (x : Bool) (ys : List Declaration) (d : Draft) → (after x d ys).labels ≡ d.labels
labels_after x [] d = refl
labels_after x (y ∷ ys) d = labels_after x ys (after_one x d y) ∙ labels_closed (listed x d (entries_of y)) y.nature ∙ labels_listed x (entries_of y) d

-- What a program has of its draft.

-- a draft with nothing pending
abbrev opened : List ℕ → Scope → List Variable → List External → Draft
opened n s vs es = record { name = n; scope = s; variables = vs; externals = es; pending = []; labels = []; statements = [] }

listed_same : (x : Bool) (es : List Entry) (d : Draft) → listed x d es ≡ record d { scope = with_entries x d.scope es; pending = d.pending ++ es }
listed_same x [] d = ap (λ z. record d { pending = z }) (sym (append-nil d.pending))
listed_same x (e ∷ es) d =
    listed_same x es (with_entry x d e.line e.name) ∙ ap (λ z. record d { scope = with_entries x (with_name x d.scope e.name) es; pending = z }) (append_assoc d.pending (e ∷ []) es)

closed_same : (n : List ℕ) (s : Scope) (vs : List Variable) (es : List External) (ps : List Entry) (m : Nature) → closed (record (opened n s vs es) { pending = ps }) m ≡ opened n s (vs ++ variables_with m ps) (es ++ externals_with m ps)
closed_same n s vs es ps (OfVariable y) = ap (λ z. opened n s (vs ++ map (variable_of y) ps) z) (sym (append-nil es))
closed_same n s vs es ps (OfExternal k) = ap (λ z. opened n s z (es ++ map (external_of k) ps)) (sym (append-nil vs))

one_same : (x : Bool) (n : List ℕ) (s : Scope) (vs : List Variable) (es : List External) (y : Declaration) → after_one x (opened n s vs es) y ≡ opened n (with_entries x s (entries_of y)) (vs ++ variables_with y.nature (entries_of y)) (es ++ externals_with y.nature (entries_of y))
one_same x n s vs es y =
    ap (λ z. closed z y.nature) (listed_same x (entries_of y) (opened n s vs es)) ∙ closed_same n (with_entries x s (entries_of y)) vs es (entries_of y) y.nature

after_same : (x : Bool) (ys : List Declaration) (n : List ℕ) (s : Scope) (vs : List Variable) (es : List External) → after x (opened n s vs es) ys ≡ opened n (with_declarations x s ys) (vs ++ block_variables ys) (es ++ block_externals ys)
after_same x [] n s vs es = ap (λ z. opened n s z es) (sym (append-nil vs)) ∙ ap (λ z. opened n s (vs ++ []) z) (sym (append-nil es))
after_same x (y ∷ ys) n s vs es =
    ap (λ z. after x z ys) (one_same x n s vs es y) ∙ after_same x ys n (with_entries x s (entries_of y)) (vs ++ variables_with y.nature (entries_of y)) (es ++ externals_with y.nature (entries_of y)) ∙ ap (λ z. opened n (with_declarations x (with_entries x s (entries_of y)) ys) z ((es ++ externals_with y.nature (entries_of y)) ++ block_externals ys)) (append_assoc vs (variables_with y.nature (entries_of y)) (block_variables ys)) ∙ ap (λ z. opened n (with_declarations x (with_entries x s (entries_of y)) ys) (vs ++ (variables_with y.nature (entries_of y) ++ block_variables ys)) z) (append_assoc es (externals_with y.nature (entries_of y)) (block_externals ys))

abbrev scope_behind : Scope → List Block → Scope
scope_behind s [] = s
scope_behind s (b ∷ bs) = scope_behind (with_declarations b.external s b.declarations) bs

blocks_same : (bs : List Block) (n : List ℕ) (s : Scope) (vs : List Variable) (es : List External) → after_blocks (opened n s vs es) bs ≡ opened n (scope_behind s bs) (vs ++ variables_of bs) (es ++ externals_of bs)
blocks_same [] n s vs es = ap (λ z. opened n s z es) (sym (append-nil vs)) ∙ ap (λ z. opened n s (vs ++ []) z) (sym (append-nil es))
blocks_same (b ∷ bs) n s vs es =
    ap (λ z. after_blocks z bs) (after_same b.external b.declarations n s vs es) ∙ blocks_same bs n (with_declarations b.external s b.declarations) (vs ++ block_variables b.declarations) (es ++ block_externals b.declarations) ∙ ap (λ z. opened n (scope_behind s (b ∷ bs)) z ((es ++ block_externals b.declarations) ++ externals_of bs)) (append_assoc vs (block_variables b.declarations) (variables_of bs)) ∙ ap (λ z. opened n (scope_behind s (b ∷ bs)) (vs ++ (block_variables b.declarations ++ variables_of bs)) z) (append_assoc es (block_externals b.declarations) (externals_of bs))

pub finished_is : (n : List ℕ) (bs : List Block) (body : List Statement) (e : ℕ) → finished (after_blocks (titled_draft n) bs) body e ≡ record { name = n; variables = variables_of bs; externals = externals_of bs; statements = body; end_line = e }
finished_is n bs body e = ap (λ z. finished z body e) (blocks_same bs n Rattle.il_reader.specs.Declaration.empty_scope [] [])
