-- What is written is a set point; it has some words, and few.
use Rattle.std.proofs.Common.{◌≡◌, ℕ, zero, suc, ◌+◌, ◌<◌, ◌≤◌, Bool, true, false, List, [], ◌∷◌, length, get_or, Option, Some, None, Result, Ok, Err, refl, sym, ap, subst, ◌∙◌, arith}
use Rattle.std.specs.Prelude.{ℤ, slice_get, option_and_then, IfOk, if◌then◌else◌}
use Rattle.std.proofs.lemmas.Option.{slice_get-get_or}
use Rattle.point_types.specs.declared.kind.Kind.{Kind}
use Rattle.point_types.specs.declared.kind.Kind.TheVariants as kind
use Rattle.point_types.specs.Point.{size_of}
use Rattle.register_map.specs.Layout.{Layout}
use Rattle.site_model.specs.declared.site.Site.{Site}
use Rattle.site_model.specs.declared.tag.SiteTag.{SiteTag}
use Rattle.site_model.specs.Readings.{known_at}
use Rattle.site_model.specs.Wants.{is_output, outs_from, outs_of}
use Rattle.point_writer.specs.declared.write.Write.{Write}
use Rattle.point_writer.specs.declared.write.NoWrite.{NoWrite}
use Rattle.point_writer.specs.SetPoint.{WritesASetPoint}
use Rattle.gateway.specs.Laws.{WritesAreSetPoints}
use Rattle.point_types.proofs.Truths.{same_some as same_number}

-- ---- the number of an output is that of a tag

abbrev IsThere : ℕ → List SiteTag → ℕ → Type 0
IsThere n ts number = (k : ℕ) × (number ≡ n + k) × (t : SiteTag) × (slice_get ts k ≡ Some t)

behind : (n : ℕ) (u : SiteTag) (ts : List SiteTag) (number : ℕ) → IsThere (n + 1) ts number → IsThere n (u ∷ ts) number
behind n u ts number h = let e = h.1 in (suc h.0, omega (arith, e), h.2, h.3)

out_there : (n : ℕ) (ts : List SiteTag) (i number : ℕ) → slice_get (outs_from n ts) i ≡ Some number → IsThere n ts number
out_there n [] i number e = cc
out_there n (u ∷ ts) i number e = go (λ k p. out_there (n + 1) ts k number p) (is_output u.access) i e
  where
    go : ((k : ℕ) → slice_get (outs_from (n + 1) ts) k ≡ Some number → IsThere (n + 1) ts number) → (b : Bool) (k : ℕ) → slice_get (if b then n ∷ outs_from (n + 1) ts else outs_from (n + 1) ts) k ≡ Some number → IsThere n (u ∷ ts) number
    go rest true zero p = let s = same_number p in (0, omega (arith, s), u, refl)
    go rest true (suc k) p = behind n u ts number (rest k p)
    go rest false k p = behind n u ts number (rest k p)

-- ---- the words of a set point

pub size_within : (k : Kind) → (1 ≤ size_of k) × (size_of k ≤ 123)
size_within kind.Int16 = (omega arith, omega arith)
size_within kind.Uint16 = (omega arith, omega arith)
size_within kind.Acc16 = (omega arith, omega arith)
size_within kind.Enum16 = (omega arith, omega arith)
size_within kind.Bitfield16 = (omega arith, omega arith)
size_within kind.Sunssf = (omega arith, omega arith)
size_within kind.Pad = (omega arith, omega arith)
size_within kind.Int32 = (omega arith, omega arith)
size_within kind.Uint32 = (omega arith, omega arith)
size_within kind.Enum32 = (omega arith, omega arith)
size_within kind.Bitfield32 = (omega arith, omega arith)
size_within kind.Acc32 = (omega arith, omega arith)
size_within kind.Int64 = (omega arith, omega arith)
size_within kind.Uint64 = (omega arith, omega arith)
size_within kind.Acc64 = (omega arith, omega arith)
size_within kind.String = (omega arith, omega arith)

-- an output's number is that of a tag
abbrev pub HasTag : Site → ℕ → Type 0
HasTag site i = (number : ℕ) × (slice_get site.outs i ≡ Some number) × (t : SiteTag) × (slice_get site.tags number ≡ Some t)

pub tag_of : (site : Site) (i : ℕ) → site.outs ≡ outs_of site.tags → i < length site.outs → HasTag site i
tag_of site i written within =
    let number = get_or site.outs i 0 in
    let at : slice_get site.outs i ≡ Some number = slice_get-get_or site.outs i 0 within in
    let there = out_there 0 site.tags i number (subst (λ (outs : List ℕ). slice_get outs i ≡ Some number) written at) in
    let is = there.1 in
    let same : there.0 ≡ number = omega (arith, is) in
    (number, at, there.2, ap (λ k. slice_get site.tags k) (sym same) ∙ there.3)

pub write_sized : (site : Site) (maps : List (Option Layout)) (blocks : List (Option (List ℕ))) (outputs : List (Option ℤ)) (i : ℕ) (r : Result Write NoWrite) → site.outs ≡ outs_of site.tags → i < length site.outs →
    WritesASetPoint site.tags site.outs site.wants maps blocks outputs i r → IfOk r (λ w. (1 ≤ length w.words) × (length w.words ≤ 123))
write_sized site maps blocks outputs i (Err e) written within h = tt
write_sized site maps blocks outputs i (Ok w) written within h =
    let tag = tag_of site i written within in
    let sets = h tag.0 tag.2 w tag.1 tag.3 refl in
    let sized : length w.words ≡ size_of (tag.2).point = (((sets.2).sets).stands).sized in
    let few = size_within (tag.2).point in
    (omega (arith, sized, few.0), omega (arith, sized, few.1))

known_in : (outputs : List (Option ℤ)) (n : ℕ) (v : ℤ) → known_at outputs n ≡ Some v → slice_get outputs n ≡ Some (Some v)
known_in outputs n v e = go (slice_get outputs n) e
  where
    go : (o : Option (Option ℤ)) → option_and_then (λ entry. entry) o ≡ Some v → o ≡ Some (Some v)
    go None k = cc
    go (Some entry) k = ap Some k

pub are_set_points : WritesAreSetPoints
are_set_points g i w within h =
    let tag = tag_of g.site i g.site.written within in
    let set = h.set_point tag.0 tag.2 w tag.1 tag.3 refl in
    let range = h.ranged tag.0 tag.2 set.0 tag.3 (known_in (g.standing.last).outputs tag.0 set.0 set.1) in
    record { number = tag.0; output = tag.1; tag = tag.2; named = tag.3; value = set.0; stored = set.1; sets = set.2; low = range.0; high = range.1 }
