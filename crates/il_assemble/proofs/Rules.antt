-- What the passes make is the program's image, and keeps the rules of images.
use Rattle.std.proofs.Common.{◌≡◌, ℕ, Bool, true, false, not, ◌&&◌, ◌||◌, if◌then◌else◌, List, [], ◌∷◌, ◌++◌, map, Option, Some, None, Result, Ok, Err, slice_get, bytes_eq, refl, sym, ap, ◌∙◌, subst, arith}
use Rattle.std.proofs.lemmas.List.{length-map}
use Rattle.std.proofs.lemmas.List.Folds.{list_any-append}
use Rattle.point_types.specs.Name.{is_name}
use Rattle.point_types.specs.Value.{◌>>=◌}
use Rattle.point_types.specs.declared.variable.Var.{Var}
use Rattle.scan_code.specs.declared.image.Tag.{Tag}
use Rattle.std.specs.List.{list_all}
use Rattle.scan_code.specs.Image.{Image, IsProper, are_new, is_among, is_new, is_version, is_whole_if_bool, names_of, tag_name}
use Rattle.scan_code.specs.Spelling.{spelled_all}
use Rattle.il_reader.specs.declared.tree.Program.{Program as Tree}
use Rattle.il_reader.specs.declared.tree.Variable.{Variable}
use Rattle.il_reader.specs.declared.tree.External.{External}
use Rattle.il_assemble.specs.declared.fault.AsmFault.{AsmFault}
use Rattle.il_assemble.specs.declared.fault.AsmFaultKind.TheVariants as kind
use Rattle.il_assemble.specs.Meaning.{Program}
use Rattle.il_assemble.specs.Assembled.{ImagesAreProper, IsAssembled, NamesStayDifferent, declared_name, external_name}
use Rattle.il_assemble.specs.Code.{code_of_program, image_of, version_of}
use Rattle.il_assemble.specs.Kept.{written_code}
use Rattle.il_reader.specs.Limit.{most_names}
use Rattle.il_assemble.specs.Names.{Scope, tags_of}
use Rattle.il_assemble.specs.StaticFault.{checked_lines}
use Rattle.il_assemble.specs.Elaboration.{counted, declared_var, first_line, limits_of, measured, named_apart, names_seen, nested, program_of, scope_of, too_long, undivided, unless_external, unless_variable}
use Rattle.il_assemble.proofs.Bytes.{code_is_of_bytes}
use Rattle.il_assemble.proofs.Sound.{first_ok, negated}
use Rattle.il_assemble.proofs.Elaborating.{IsElaborated, code_same, few_externals, few_variables, fewer_tags, parts, passes_assemble, well}
use Rattle.point_types.proofs.Truths.{both}
use Rattle.point_types.proofs.Truths.{and_both}

-- The rules of images.

versions : (limits : List ℕ) → is_version (version_of limits) ≡ true
versions [] = refl
versions (limit ∷ limits) = refl

apart_ok : (b : Bool) (fault : AsmFault) → ◌≡◌ {A = Result (Unit {0}) AsmFault} (if b then Ok tt else Err fault) (Ok tt) → b ≡ true
apart_ok true fault e = refl
apart_ok false fault e = cc

undivided_whole : (vs : List Variable) → undivided vs ≡ Ok tt → list_all is_whole_if_bool (map declared_var vs) ≡ true
undivided_whole [] e = refl
undivided_whole (v ∷ vs) e = either (is_whole_if_bool v.var) (undivided_whole vs) e
  where
    either : (b : Bool) → (undivided vs ≡ Ok tt → list_all is_whole_if_bool (map declared_var vs) ≡ true) → ◌≡◌ {A = Result (Unit {0}) AsmFault} (if b then undivided vs else Err (record { line = v.line; kind = kind.LiteralType })) (Ok tt) → (b && list_all is_whole_if_bool (map declared_var vs)) ≡ true
    either true h e = h e
    either false h e = cc

is_proper : (t : Tree) → IsElaborated t → IsProper (image_of (program_of (scope_of t)))
is_proper t x = record {
  versioned = versions (limits_of t.statements);
  few_variables = omega (arith, length-map t.variables declared_var, few_variables t.variables x.variables);
  few_tags = omega (arith, fewer_tags t.externals (scope_of t).uses, few_externals t.externals x.externals);
  short = (code_is_of_bytes (program_of (scope_of t)) (well t x)).1;
  distinct = apart_ok (are_new [] (names_seen (scope_of t))) (too_long (first_line t.variables t.externals)) x.apart;
  whole_bools = undivided_whole t.variables x.whole;
}

pub images_are_proper : ImagesAreProper
images_are_proper t p e = let x = parts t p e in subst (λ (q : Program). IsProper (image_of q)) x.1 (is_proper t x.0)

-- Names.

pub or_none : (a b : Bool) → (a || b) ≡ false → (a ≡ false) × (b ≡ false)
or_none true b h = cc
or_none false b h = (refl, h)

-- what isn't among the first names isn't among the second ones
abbrev Lack : List (List ℕ) → List (List ℕ) → Type 0
Lack before after = (n : List ℕ) → is_among before n ≡ false → is_among after n ≡ false

lack_front : (before after : List (List ℕ)) (name : List ℕ) → Lack before after → Lack (before ++ name ∷ []) after
lack_front before after name h n e = h n (or_none (is_among before n) (is_among (name ∷ []) n) (sym (list_any-append (bytes_eq n) before (name ∷ [])) ∙ e)).0

lack_both : (before after : List (List ℕ)) (name : List ℕ) → Lack before after → Lack (before ++ name ∷ []) (after ++ name ∷ [])
lack_both before after name h n e =
    let x = or_none (is_among before n) (is_among (name ∷ []) n) (sym (list_any-append (bytes_eq n) before (name ∷ [])) ∙ e) in
    list_any-append (bytes_eq n) after (name ∷ []) ∙ ap (λ b. b || is_among (name ∷ []) n) (h n x.0) ∙ x.1

stays_new : (before after : List (List ℕ)) (name : List ℕ) → Lack before after → is_new before name ≡ true → is_new after name ≡ true
stays_new before after name h e =
    let x = both (is_name name) (not (is_among before name)) e in
    and_both (is_name name) (not (is_among after name)) x.0 (ap not (h name (negated (is_among before name) x.1)))

tags_new : (es : List External) (us : List (Option Bool)) (before after : List (List ℕ)) → Lack before after → are_new before (map external_name es) ≡ true → are_new after (map tag_name (tags_of es us)) ≡ true
tags_new [] us before after lack h = refl
tags_new (e ∷ es) [] before after lack h = refl
tags_new (e ∷ es) (None ∷ us) before after lack h =
    tags_new es us (before ++ e.name ∷ []) after (lack_front before after e.name lack) (both (is_new before e.name) (are_new (before ++ e.name ∷ []) (map external_name es)) h).1
tags_new (e ∷ es) (Some stored ∷ us) before after lack h =
    let x = both (is_new before e.name) (are_new (before ++ e.name ∷ []) (map external_name es)) h in
    and_both (is_new after e.name) (are_new (after ++ e.name ∷ []) (map tag_name (tags_of es us)))
    (stays_new before after e.name lack x.0)
    (tags_new es us (before ++ e.name ∷ []) (after ++ e.name ∷ []) (lack_both before after e.name lack) x.1)

names_new : (vs : List Variable) (es : List External) (us : List (Option Bool)) (before : List (List ℕ)) → are_new before (map declared_name vs ++ map external_name es) ≡ true → are_new before (names_of (map declared_var vs) (tags_of es us)) ≡ true
names_new [] es us before h = tags_new es us before before (λ n e. e) h
names_new (v ∷ vs) es us before h =
    let x = both (is_new before v.var.name) (are_new (before ++ v.var.name ∷ []) (map declared_name vs ++ map external_name es)) h in
    and_both (is_new before v.var.name) (are_new (before ++ v.var.name ∷ []) (names_of (map declared_var vs) (tags_of es us))) x.0 (names_new vs es us (before ++ v.var.name ∷ []) x.1)

pub names_stay_different : NamesStayDifferent
names_stay_different t h =
    ap (λ b. if b then Ok tt else Err (too_long (first_line t.variables t.externals))) (names_new t.variables t.externals (scope_of t).uses [] h)

-- The passes.

pub record IsMade (t : Tree) (image : Image) : Type 0 where
  pub assembled : IsAssembled t image
  pub proper : IsProper image

-- what the passes make of what the lines see
abbrev Made : Tree → Scope → Type 0
Made t g =
    checked_lines g 0 None g.statements ≡ Ok tt → measured g t.end_line 0 0 None g.statements ≡ Ok tt
    → (version : ℕ) (vars : List Var) (tags : List Tag) (code : List ℕ) → version ≡ version_of (limits_of g.statements) → vars ≡ map declared_var g.variables → tags ≡ tags_of g.externals g.uses
    → code ≡ written_code g → named_apart g.variables g.externals (names_of vars tags) ≡ Ok tt
    → IsMade t (record { version = version; vars = vars; tags = tags; code = code })

pub made : (t : Tree) (g : Scope) → g ≡ scope_of t → counted t.variables t.externals t.statements ≡ Ok tt → undivided t.variables ≡ Ok tt → Made t g
made t g e few whole =
    subst (Made t) (sym e) (λ checked short version vars tags code v w x y named.
    let bytes : code ≡ spelled_all (code_of_program (program_of (scope_of t))) = y ∙ ap spelled_all (code_same (scope_of t) checked) in
    let apart : named_apart t.variables t.externals (names_seen (scope_of t)) ≡ Ok tt =
    ap (λ (vs : List Var). named_apart t.variables t.externals (names_of vs (tags_of t.externals (scope_of t).uses))) (sym w) ∙ ap (λ (ts : List Tag). named_apart t.variables t.externals (names_of vars ts)) (sym x) ∙ named in
    let variables = first_ok (unless_variable (slice_get t.variables most_names)) (unless_external (slice_get t.externals most_names) >>= λ _. nested t.statements) few in
    let externals = first_ok (unless_external (slice_get t.externals most_names)) (nested t.statements) variables.1 in
    let sound : IsElaborated t = record { variables = variables.0; externals = externals.0; shallow = externals.1; whole = whole; apart = apart; checked = checked; short = short } in
    let image : Image = record { version = version; vars = vars; tags = tags; code = code } in
    let same : image ≡ image_of (program_of (scope_of t)) = λ i. record { version = v i; vars = w i; tags = x i; code = bytes i } in
    record {
      assembled = passes_assemble t sound image same;
      proper = subst IsProper (sym same) (is_proper t sound);
    })
