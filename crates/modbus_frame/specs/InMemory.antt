-- A link in memory, as contracts see it.
-- MODBUS Messaging on TCP/IP Implementation Guide, section 4.2 (TCP connection management).
use Rattle.std.specs.Prelude.{◌≡◌, ℕ, zero, suc, ◌+◌, min, List, length, Bool, true, false, Option, None, Some, ◌==◌, if◌then◌else◌}
use Rattle.modbus_frame.specs.Link.{Failures}

-- the bytes to come and sent, the most that one call carries, how many calls from now on one answers that the link is
-- down, how many calls were made and what went wrong, where they could be counted
pub record InMemory : Type 0 where
  pub coming : List ℕ
  pub sent : List ℕ
  pub largest : ℕ
  pub down : Option ℕ
  pub calls : Option ℕ
  pub failures : Failures

-- a number that stops at the largest of 64 bits, where it no longer counts
abbrev pub counted : ℕ → Option ℕ
counted n = if n == 18446744073709551615 then None else Some n

abbrev pub one_more : Option ℕ → Option ℕ
one_more None = None
one_more (Some n) = counted (n + 1)

-- whether this call is the one that answers that the link is down
abbrev pub is_now : Option ℕ → Bool
is_now None = false
is_now (Some zero) = true
is_now (Some (suc _)) = false

-- the same number at the next call
abbrev pub one_less : Option ℕ → Option ℕ
one_less None = None
one_less (Some zero) = None
one_less (Some (suc n)) = Some n

-- a read more failed, a write more failed, or a read of so many bytes more was made
abbrev pub failed_read : Failures → Failures
failed_read f = record f { reads = one_more f.reads }

abbrev pub failed_write : Failures → Failures
failed_write f = record f { writes = one_more f.writes }

abbrev pub read_of : ℕ → Failures → Failures
read_of n f = if n == 0 then record f { ends = one_more f.ends } else f

-- A call failed: nothing is read or sent.
pub record FailsInMemory (old new : InMemory) (counts : Failures) : Type 0 where
  pub coming : new.coming ≡ old.coming
  pub sent : new.sent ≡ old.sent
  pub failures : new.failures ≡ counts

-- A call went on: these bytes are to come, and these are sent.
pub record GoesOnInMemory (old new : InMemory) (left gone : List ℕ) (counts : Failures) : Type 0 where
  pub coming : new.coming ≡ left
  pub sent : new.sent ≡ gone
  pub failures : new.failures ≡ counts

-- No call changes the most that one carries, and each is counted.
abbrev pub CallsInMemory : InMemory → InMemory → Type 0
CallsInMemory old new = (new.largest ≡ old.largest) × (new.down ≡ one_less old.down) × (new.calls ≡ one_more old.calls)

-- how many bytes a read gives
abbrev pub read_len : InMemory → ℕ → ℕ
read_len link room = min (min link.largest room) (length link.coming)

-- how many bytes a write takes
abbrev pub write_len : InMemory → ℕ → ℕ
write_len link len = min link.largest len
