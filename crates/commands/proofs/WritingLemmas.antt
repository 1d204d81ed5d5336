-- Bytes that go out to a writer, one write after another.
use Rattle.std.proofs.Common.{◌≡◌, ℕ, List, ◌++◌, take, drop, Option, sym, ap, ◌∙◌, append_assoc, take-append-drop}
use Rattle.std.specs.Io.KnownBytes.{Appends}
use Rattle.std.proofs.KnownBytes.{Appends-trans}

-- a front of the bytes went out, and the rest didn't yet
pub record WrittenSoFar (bytes rest : List ℕ) (old now : Option (List ℕ)) : Type 0 where
  pub front : List ℕ
  pub split : bytes ≡ front ++ rest
  pub went : Appends old now front

-- a write took n of the rest
pub written_more : (bytes rest behind : List ℕ) (n : ℕ) (old now new : Option (List ℕ)) → WrittenSoFar bytes rest old now → behind ≡ drop n rest → Appends now new (take n rest)
    → WrittenSoFar bytes behind old new
written_more bytes rest behind n old now new so_far is took =
    let split : rest ≡ take n rest ++ behind = sym (take-append-drop n rest) ∙ ap (λ l. take n rest ++ l) (sym is) in
    record {
      front = so_far.front ++ take n rest;
      split = so_far.split ∙ ap (λ l. so_far.front ++ l) split ∙ sym (append_assoc so_far.front (take n rest) behind);
      went = Appends-trans old now new so_far.front (take n rest) so_far.went took;
    }
