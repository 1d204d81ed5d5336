-- Counts that a link keeps, and what comes and goes over it (MODBUS Messaging on TCP/IP Implementation Guide,
-- section 4.2).
use Rattle.std.specs.Prelude.{◌≡◌, ℕ, ◌+◌, ◌<◌, ◌≤◌, List, ⊤, Option, None, Some, Result, Err, MatchResult}
use Rattle.modbus_frame.specs.declared.link.Down.{Down}
use Rattle.modbus_frame.specs.declared.link.LinkFault.{LinkFault}
use Rattle.modbus_frame.specs.declared.link.LinkFault.TheVariants as fault

-- How often something went wrong: reads that failed, writes that failed, and reads that gave nothing.
pub record Failures : Type 0 where
  pub reads : Option ℕ
  pub writes : Option ℕ
  pub ends : Option ℕ

-- none of it told
abbrev pub untold : Failures
untold = record { reads = None; writes = None; ends = None }

-- What contracts see of a link, where it tells: the bytes to come, the bytes sent, what went wrong, and its calls.
pub record LinkState : Type 0 where
  pub coming : Option (List ℕ)
  pub sent : Option (List ℕ)
  pub failures : Failures
  pub calls : Option ℕ

-- A known count has risen by so much, or is no longer known: a link may count up to a limit. What isn't known stays so.
abbrev pub CountsBy : ℕ → Option ℕ → Option ℕ → Type 0
CountsBy k None new = new ≡ None
CountsBy k (Some n) None = ⊤
CountsBy k (Some n) (Some m) = m ≡ n + k

-- So many more reads failed, so many more writes failed, and so many more reads gave nothing.
abbrev pub FailsBy : ℕ → ℕ → ℕ → Failures → Failures → Type 0
FailsBy reads writes ends old new = CountsBy reads old.reads new.reads × CountsBy writes old.writes new.writes × CountsBy ends old.ends new.ends

-- A read counts where it failed, and where it gave nothing.
abbrev pub CountsRead : Failures → Failures → Result ℕ Down → Type 0
CountsRead old new result = MatchResult result (λ n. (n ≡ 0 → FailsBy 0 0 1 old new) × (0 < n → FailsBy 0 0 0 old new)) (λ _. FailsBy 1 0 0 old new)

-- A write counts where it failed.
abbrev pub CountsWritten : Failures → Failures → Result ℕ Down → Type 0
CountsWritten old new result = MatchResult result (λ _. FailsBy 0 0 0 old new) (λ _. FailsBy 0 1 0 old new)

-- Work over a link that ended with this fault: one read failed, or one write, or one read gave nothing, as it says.
abbrev pub FailsWith : LinkFault → Failures → Failures → Type 0
FailsWith fault.Read old new = FailsBy 1 0 0 old new
FailsWith fault.Write old new = FailsBy 0 1 0 old new
FailsWith (fault.Frame _) old new = FailsBy 0 0 0 old new
FailsWith fault.End old new = FailsBy 0 0 1 old new
FailsWith fault.Turns old new = FailsBy 0 0 0 old new
FailsWith fault.OutOfMemory old new = ⊥

abbrev pub most_calls : ℕ
most_calls = 1000000

-- There are at most 1,000,000 reads and writes, and with `Turns` as many.
abbrev pub CountsCalls : {T : Type 0} → Option ℕ → Option ℕ → Result T LinkFault → Type 0
CountsCalls old new result = (calls : ℕ) × (calls ≤ most_calls) × CountsBy calls old new × (result ≡ Err fault.Turns → calls ≡ most_calls)
