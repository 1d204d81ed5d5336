-- Words that are laid out as models.
use Rattle.std.proofs.Common.{◌≡◌, ◌≢◌, ℕ, ◌+◌, ◌-◌, ◌<◌, ◌≤◌, List, [], ◌∷◌, ◌++◌, length, min, All, Ok, refl, arith, append_assoc, length-append}
use Rattle.std.proofs.Math.Seq.{drop-append_seam}
use Rattle.std.proofs.lemmas.Bool.{le-leb}
use Rattle.std.proofs.lemmas.List.Elements.{All-head, All-tail}
use Rattle.register_map.specs.Reads.{Answer}
use Rattle.register_map.specs.Chain.{end_id, most_models, IsModelId, Holds, AreModels}
use Rattle.register_map.specs.Search.{answer_from, all_registers}
use Rattle.register_map.specs.Laws.{ModelWords, laid_out, blocks_from, end_from}

-- the word after a prefix is read at the prefix's length
word-behind : (words pre post : List ℕ) (w : ℕ) → words ≡ pre ++ w ∷ post → ◌≡◌ {A = Answer} (Ok (w ∷ [])) (answer_from words (length pre) 1)
word-behind words pre post w e =
    let long : length pre + 1 ≤ length (pre ++ w ∷ post) = rw length-append (omega arith) in
    let one : length pre + 1 - length pre ≡ 1 = omega arith in
    rw (e, le-leb _ _ long, one, drop-append_seam) refl

-- an end is no lower than where it is counted from
end_from-grows : (a : ℕ) (ms : List ModelWords) → a ≤ end_from a ms
end_from-grows a [] = omega arith
end_from-grows a (m ∷ ms) = omega (arith, end_from-grows (a + 2 + length m.words) ms)

-- their IDs are those of models, after so many others
abbrev pub HaveModelIds : ℕ → List ModelWords → Type 0
HaveModelIds before [] = Unit {0}
HaveModelIds before (m ∷ ms) = IsModelId before m.id × HaveModelIds (before + 1) ms

pub have_model_ids : (before : ℕ) (ms : List ModelWords) → All (λ m. m.id ≢ end_id) ms → HaveModelIds (before + 1) ms
have_model_ids before [] ids = tt
have_model_ids before (m ∷ ms) ids =
    ((All-head (λ n. n.id ≢ end_id) m ms ids, λ e. absurd (omega (arith, e))), have_model_ids (before + 1) ms (All-tail (λ n. n.id ≢ end_id) m ms ids))

abbrev ReadsOf : List ℕ → Unit {0} → ℕ → ℕ → Answer → Unit {0} → Type 0
ReadsOf words _ address count answer _ = answer ≡ answer_from words address count

-- all models are read where they are laid out
pub laid_out-models : (words pre : List ℕ) (ms : List ModelWords) (rest : List ℕ) (k limit : ℕ) →
    words ≡ pre ++ (laid_out ms ++ rest) → HaveModelIds k ms → k + length ms ≤ most_models →
    limit ≡ min (length words) all_registers → end_from (length pre) ms < all_registers →
    AreModels (ReadsOf words) limit tt k (length pre) (blocks_from (length pre) ms) (end_from (length pre) ms) tt
    × (end_from (length pre) ms < limit)
    × Holds (ReadsOf words) tt (end_from (length pre) ms) end_id tt
laid_out-models words pre [] rest k limit e ids few l lt =
    let room : length words ≡ length pre + length (end_id ∷ rest) = rw (e, length-append) refl in
    ((refl, refl), rw l (omega (arith, room, lt)), word-behind words pre rest end_id e)
laid_out-models words pre (m ∷ ms) rest k limit e ids few l lt =
    let size = length m.words in
    let to_length : words ≡ (pre ++ m.id ∷ []) ++ (size ∷ ((m.words ++ laid_out ms) ++ rest)) = rw (append_assoc pre (m.id ∷ []) (size ∷ ((m.words ++ laid_out ms) ++ rest))) e in
    let at_length : length (pre ++ m.id ∷ []) ≡ length pre + 1 = rw length-append refl in
    let to_next : words ≡ (pre ++ (m.id ∷ size ∷ m.words)) ++ (laid_out ms ++ rest) = rw (append_assoc, e, append_assoc) refl in
    let at_next : length (pre ++ (m.id ∷ size ∷ m.words)) ≡ length pre + 2 + size = rw length-append (omega arith) in
    let others = laid_out-models words (pre ++ (m.id ∷ size ∷ m.words)) ms rest (k + 1) limit to_next ids.1 (omega (arith, few)) l (rw at_next lt) in
    let models = rw at_next at others.0 in
    let below : end_from (length pre + 2 + size) ms < limit = rw at_next at others.1 in
    let ends = rw at_next at others.2 in
    let inside : length pre + 1 < limit = omega (arith, below, end_from-grows (length pre + 2 + size) ms) in
    let second = rw at_length at (word-behind words (pre ++ m.id ∷ []) ((m.words ++ laid_out ms) ++ rest) size to_length) in
    ((tt, (refl, ids.0, inside, omega (arith, few), (tt, word-behind words pre _ m.id e, second)), models), below, ends)
