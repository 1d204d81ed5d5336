-- Bytes that are handed on stay the same.
use Rattle.std.proofs.Common.{◌≡◌, ℕ, ◌≤◌, List, ◌++◌, length, take, drop, refl, sym, ap, ◌∙◌, append_assoc, Some, None, Option}
use Rattle.std.proofs.lemmas.List.{take-append-le, take-append-drop}
use Rattle.std.specs.Io.KnownBytes.{Appends}
use Rattle.service_edges.specs.Bytes.{BeginsWith, Conserves, Drops, Forwards, HandsOver}

-- nothing is handed over
pub nothing_handed : (taken coming : Option (List ℕ)) (rest : List ℕ) → HandsOver taken rest coming taken rest coming
nothing_handed None coming rest = tt
nothing_handed (Some taken) None rest = tt
nothing_handed (Some taken) (Some coming) rest = refl

-- some of the piece is taken
taken_of : (taken rest coming : List ℕ) (n : ℕ) → taken ++ rest ++ coming ≡ taken ++ take n rest ++ drop n rest ++ coming
taken_of taken rest coming n =
    ap (λ bs. bs ++ coming) (ap (λ bs. taken ++ bs) (sym (take-append-drop n rest)) ∙ sym (append_assoc taken (take n rest) (drop n rest)))

pub piece_handed : (taken taken' coming coming' : Option (List ℕ)) (rest rest' rest'' : List ℕ) (n : ℕ) → Conserves rest coming rest' coming' → Appends taken taken' (take n rest')
    → rest'' ≡ drop n rest' → HandsOver taken rest coming taken' rest'' coming'
piece_handed None taken' coming coming' rest rest' rest'' n h a e = tt
piece_handed (Some taken) taken' None coming' rest rest' rest'' n h a e = tt
piece_handed (Some taken) None (Some coming) coming' rest rest' rest'' n h a e = a
piece_handed (Some taken) (Some taken') (Some coming) None rest rest' rest'' n h a e = h
piece_handed (Some taken) (Some taken') (Some coming) (Some coming') rest rest' rest'' n h a e =
    append_assoc taken rest coming ∙ ap (λ bs. taken ++ bs) h ∙ sym (append_assoc taken rest' coming') ∙ taken_of taken rest' coming' n ∙ ap (λ bs. bs ++ drop n rest' ++ coming') (sym a) ∙ ap (λ bs. taken' ++ bs ++ coming') (sym e)

-- one piece after another
pub handed_on : (t1 t2 t3 c1 c2 c3 : Option (List ℕ)) (r1 r2 r3 : List ℕ) → HandsOver t1 r1 c1 t2 r2 c2 → HandsOver t2 r2 c2 t3 r3 c3 → HandsOver t1 r1 c1 t3 r3 c3
handed_on None t2 t3 c1 c2 c3 r1 r2 r3 h k = tt
handed_on (Some t1) t2 t3 None c2 c3 r1 r2 r3 h k = tt
handed_on (Some t1) None t3 (Some c1) c2 c3 r1 r2 r3 h k = absurd h
handed_on (Some t1) (Some t2) t3 (Some c1) None c3 r1 r2 r3 h k = absurd h
handed_on (Some t1) (Some t2) None (Some c1) (Some c2) c3 r1 r2 r3 h k = k
handed_on (Some t1) (Some t2) (Some t3) (Some c1) (Some c2) None r1 r2 r3 h k = k
handed_on (Some t1) (Some t2) (Some t3) (Some c1) (Some c2) (Some c3) r1 r2 r3 h k = h ∙ k

-- some of what waits goes out
pub sent_on : (sent sent' left left' : Option (List ℕ)) (bytes : List ℕ) (n : ℕ) → Appends sent sent' (take n bytes) → BeginsWith left bytes → n ≤ length bytes
    → Drops n left left' → Forwards sent left sent' left'
sent_on None sent' left left' bytes n a b f d = tt
sent_on (Some sent) sent' None left' bytes n a b f d = tt
sent_on (Some sent) None (Some left) left' bytes n a b f d = a
sent_on (Some sent) (Some sent') (Some left) None bytes n a b f d = d
sent_on (Some sent) (Some sent') (Some left) (Some left') bytes n a b f d =
    ap (λ bs. sent ++ bs) (sym (take-append-drop n left)) ∙ sym (append_assoc sent (take n left) (drop n left))
    ∙ ap (λ bs. sent ++ bs ++ drop n left) (ap (take n) b.1 ∙ take-append-le n bytes b.0 f) ∙ ap (λ bs. bs ++ drop n left) (sym a) ∙ ap (λ bs. sent' ++ bs) (sym d)
