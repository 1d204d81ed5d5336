-- Counts and bytes over several calls of a link.
use Rattle.std.proofs.Common.{◌≡◌, ℕ, ◌+◌, ◌<◌, ◌≤◌, List, ◌++◌, length, take, Option, None, Some, sym, ◌∙◌, ap, subst, arith, refl, length-append}
use Rattle.std.proofs.lemmas.List.{take_at}
use Rattle.std.specs.Io.KnownBytes.{Appends, Keeps}
use Rattle.modbus_frame.specs.Link.{CountsBy, Failures, FailsBy}

pub CountsBy-none : (a : Option ℕ) → CountsBy 0 a a
CountsBy-none None = refl
CountsBy-none (Some n) = omega arith

pub CountsBy-trans : (k j m : ℕ) (a b c : Option ℕ) → CountsBy k a b → CountsBy j b c → k + j ≡ m → CountsBy m a c
CountsBy-trans k j m None None None one two all = refl
CountsBy-trans k j m None None (Some c) one two all = two
CountsBy-trans k j m None (Some b) c one two all = cc
CountsBy-trans k j m (Some a) None None one two all = tt
CountsBy-trans k j m (Some a) None (Some c) one two all = cc
CountsBy-trans k j m (Some a) (Some b) None one two all = tt
CountsBy-trans k j m (Some a) (Some b) (Some c) one two all = omega arith

pub FailsBy-none : (a : Failures) → FailsBy 0 0 0 a a
FailsBy-none a = (CountsBy-none a.reads, CountsBy-none a.writes, CountsBy-none a.ends)

-- Nothing went wrong, and then so much did.
pub FailsBy-then : (reads writes ends : ℕ) (a b c : Failures) → FailsBy 0 0 0 a b → FailsBy reads writes ends b c → FailsBy reads writes ends a c
FailsBy-then reads writes ends a b c first second = (
  CountsBy-trans 0 reads reads a.reads b.reads c.reads first.0 second.0 (omega arith),
  CountsBy-trans 0 writes writes a.writes b.writes c.writes first.1 second.1 (omega arith),
  CountsBy-trans 0 ends ends a.ends b.ends c.ends first.2 second.2 (omega arith),
)

-- The front of the bytes is sent, and the rest isn't yet.
pub record SentSoFar (bytes rest : List ℕ) (sent now coming left : Option (List ℕ)) (failed failing : Failures) (called calling : Option ℕ) (turns spare spent : ℕ) : Type 0 where
  pub front : List ℕ
  pub split : bytes ≡ front ++ rest
  pub sends : Appends sent now front
  pub keeps : Keeps coming left
  pub failures : FailsBy 0 0 0 failed failing
  pub calls : CountsBy spent called calling
  pub within : spare ≤ turns
  pub used : length rest < length bytes → spare < turns

pub front_sent : (sent now : Option (List ℕ)) (bytes front rest : List ℕ) → bytes ≡ front ++ rest → 0 < length rest → Appends sent now front → (n : ℕ) × (n < length bytes) × Appends sent now (take n bytes)
front_sent sent now bytes front rest split some sends =
    let whole : length bytes ≡ length front + length rest = ap length split ∙ length-append front rest in
    let same : take (length front) bytes ≡ front = ap (take (length front)) split ∙ take_at front rest (length front) refl in
    (length front, omega (arith, some), subst (Appends sent now) (sym same) sends)
