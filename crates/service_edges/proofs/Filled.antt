-- What is read after bytes that weren't used.
use Rattle.std.proofs.Common.{◌≡◌, ℕ, ◌+◌, ◌≤◌, List, ◌++◌, length, take, drop, Option, Some, None, sym, ap, ◌∙◌, arith, append_assoc, length-take-le, take-take, refl}
use Rattle.std.proofs.lemmas.List.{drop-append-le}
use Rattle.std.proofs.lemmas.Slice.{between_is, take-put_mid, take-put_mid_below}
use Rattle.std.proofs.Math.Seq.{take-append-add}
use Rattle.std.specs.List.{slice_range}
use Rattle.std.specs.Io.KnownBytes.{Consumes, Keeps}
use Rattle.service_edges.specs.Bytes.{Conserves}
use borrow.Rule.Slice.PartMut.{put_mid}

-- the part up to the bytes that were read, and these
front_filled : (bytes buf : List ℕ) (end n k : ℕ) → end ≤ length bytes → n ≤ length buf → take (end + n) (put_mid end k bytes buf) ≡ take end bytes ++ take n buf
front_filled bytes buf end n k within most =
    let len : length (take end bytes) ≡ end = length-take-le end bytes within in
    sym (take-take (end + n) (end + length buf) (put_mid end k bytes buf) (omega (arith, most)))
    ∙ (ap (take (end + n)) (take-put_mid end k bytes buf (end + length buf) refl within)
    ∙ (ap (λ m. take (m + n) (take end bytes ++ buf)) (sym len) ∙ take-append-add (take end bytes) buf n))

pub range_filled : (bytes buf : List ℕ) (start end n k : ℕ) → start ≤ end → end ≤ length bytes → n ≤ length buf → slice_range (put_mid end k bytes buf) start (end + n) ≡ slice_range bytes start end ++ take n buf
range_filled bytes buf start end n k first within most =
    let len : length (take end bytes) ≡ end = length-take-le end bytes within in
    between_is (put_mid end k bytes buf) start (end + n)
    ∙ (ap (drop start) (front_filled bytes buf end n k within most)
    ∙ (drop-append-le start (take end bytes) (take n buf) (omega (arith, first, len)) ∙ ap (λ l. l ++ take n buf) (sym (between_is bytes start end))))

pub range_kept : (bytes buf : List ℕ) (start end k : ℕ) → end ≤ length bytes → slice_range (put_mid end k bytes buf) start end ≡ slice_range bytes start end
range_kept bytes buf start end k within =
    between_is (put_mid end k bytes buf) start end ∙ (ap (drop start) (take-put_mid_below end k bytes buf end (omega arith) within) ∙ sym (between_is bytes start end))

pub conserves_read : (rest now read : List ℕ) (coming left : Option (List ℕ)) → now ≡ rest ++ read → Consumes coming left read → Conserves rest coming now left
conserves_read rest now read None left is reads = tt
conserves_read rest now read (Some coming) None is reads = reads
conserves_read rest now read (Some coming) (Some left) is reads = ap (λ l. rest ++ l) reads ∙ (sym (append_assoc rest read left) ∙ ap (λ l. l ++ left) (sym is))

pub conserves_none : (rest now : List ℕ) (coming left : Option (List ℕ)) → now ≡ rest → Keeps coming left → Conserves rest coming now left
conserves_none rest now None left is keeps = tt
conserves_none rest now (Some coming) None is keeps = keeps
conserves_none rest now (Some coming) (Some left) is keeps = ap (λ l. l ++ coming) (sym is) ∙ ap (λ l. now ++ l) (sym keeps)
