-- The search for a device's map, one read at a time: what is read next, by the answers so far
-- (SunSpec Device Information Model Specification, the layout of a device's Modbus registers).
use Rattle.std.specs.Prelude.{◌≡◌, ◌⊎◌, ℕ, ◌<◌, ◌==◌, nat_le, Bool, true, false, List, [], ◌∷◌, ◌++◌, length, ⊤, Option, None, Some, option_and_then, Result, Ok, Err, if◌then◌else◌}
use Rattle.modbus_frame.specs.declared.message.Request.TheVariants.{Read}
use Rattle.modbus_frame.specs.Message.{HasQuantity}
use Rattle.register_map.specs.declared.access.ReadFault.TheVariants.{Refused, Failed}
use Rattle.register_map.specs.declared.layout.MapFault.{MapFault}
use Rattle.register_map.specs.declared.layout.MapFault.TheVariants as map
use Rattle.register_map.specs.declared.layout.Block.{Block}
use Rattle.register_map.specs.Layout.{Layout, block_of}
use Rattle.register_map.specs.Reads.{Answer, RegisterRead, TakesNext}
use Rattle.register_map.specs.Search.{IsSearch, all_registers}
use Rattle.gateway.specs.declared.poller.outcome.Outcome.{Outcome}
use Rattle.gateway.specs.declared.poller.outcome.Outcome.TheVariants as outcome
use Rattle.gateway.specs.poller.Finding.{bases_by}
use Rattle.service_requests.specs.declared.read_answer.ReadAnswer.{ReadAnswer}
use Rattle.service_requests.specs.declared.read_answer.ReadAnswer.TheVariants as told
use Rattle.service_requests.specs.declared.search.CommonRead.{CommonRead}
use Rattle.service_requests.specs.declared.search.CommonRead.TheVariants as common
use Rattle.service_requests.specs.declared.search.SearchStep.{SearchStep}
use Rattle.service_requests.specs.declared.search.SearchStep.TheVariants as step

-- ---- answers

-- The search reads one or two registers at once.
abbrev pub answer_of_words : List ℕ → Answer
answer_of_words [] = Err Failed
answer_of_words (a ∷ []) = Ok (a ∷ [])
answer_of_words (a ∷ b ∷ []) = Ok (a ∷ b ∷ [])
answer_of_words (a ∷ b ∷ c ∷ more) = Err Failed

-- what an outcome answers: an exception refuses the read, and with anything else it failed
abbrev pub answer_held : Outcome → Answer
answer_held (outcome.Words words) = answer_of_words words
answer_held (outcome.Exception e) = Err Refused
answer_held outcome.Wrote = Err Failed
answer_held outcome.Mismatch = Err Failed
answer_held outcome.Stale = Err Failed

abbrev pub answer_told : ReadAnswer → Answer
answer_told (told.One a) = Ok (a ∷ [])
answer_told (told.Two a b) = Ok (a ∷ b ∷ [])
answer_told told.Refused = Err Refused
answer_told told.Failed = Err Failed

-- as the answer to a read of so many registers: another number of them is none
abbrev pub fitting : ℕ → Answer → Answer
fitting count (Ok words) = if length words == count then Ok words else Err Failed
fitting count (Err fault) = Err fault

-- These reads have these answers, in order.
abbrev pub AreAnswered : List RegisterRead → List Answer → Type 0
AreAnswered [] [] = ⊤
AreAnswered [] (a ∷ answers) = ⊥
AreAnswered (r ∷ reads) [] = ⊥
AreAnswered (r ∷ reads) (a ∷ answers) = (r.answer ≡ fitting r.count a) × AreAnswered reads answers

-- ---- a search

-- the device's own base, where it has one, the answers so far, and whether its common model is read too
pub record Sought : Type 0 where
  pub base : Option ℕ
  pub answers : List Answer
  pub common : CommonRead

-- it is read of a device that has to say which one it is
abbrev pub common_by : Bool → CommonRead
common_by true = common.Wanted
common_by false = common.Unwanted

-- a search makes so many reads at most: three marks, ID and length of 64 models, and one ID more
abbrev pub most_reads : ℕ
most_reads = 132

-- These answers are to the first reads of the search, and this is its next one.
pub record GoesOn (s : Sought) (address count : ℕ) : Type 0 where
  pub reads : List RegisterRead
  pub answered : AreAnswered reads s.answers
  pub search : IsSearch TakesNext all_registers (reads ++ record { address = address; count = count; answer = Err Failed } ∷ []) (bases_by s.base) [] (Err map.Read)
  pub few : length s.answers < most_reads

-- The first of these answers are to the reads of the whole search, with this result.
pub record IsOver (s : Sought) (result : Result Layout MapFault) : Type 0 where
  pub reads : List RegisterRead
  pub used : List Answer
  pub others : List Answer
  pub split : s.answers ≡ used ++ others
  pub answered : AreAnswered reads used
  pub search : IsSearch TakesNext all_registers reads (bases_by s.base) [] result

-- how many registers of the common model are read: its ID and length, and its texts
abbrev pub common_words : ℕ
common_words = 66

-- where the common model of a map stands, if that is long enough
abbrev pub common_of : Layout → Option ℕ
common_of found = option_and_then (λ (b : Block). if nat_le 64 b.length then Some b.addr else None) (block_of found 1)

-- The search found a map, whose common model stands at this address and is to be read now.
pub record ReadsCommon (s : Sought) (address : ℕ) : Type 0 where
  pub found : Layout
  pub over : IsOver s (Ok found)
  pub wanted : s.common ≡ common.Wanted
  pub stands : common_of found ≡ Some address

-- The search found this map, and no common model is left to be read.
pub record Finds (s : Sought) (found : Layout) : Type 0 where
  pub over : IsOver s (Ok found)
  pub read : s.common ≡ common.Wanted → ⊥

-- The search found a map, and there is no common model to be read.
pub record LacksCommon (s : Sought) : Type 0 where
  pub found : Layout
  pub over : IsOver s (Ok found)
  pub wanted : s.common ≡ common.Wanted
  pub none : common_of found ≡ None

-- the next read of the search, or that of the common model after it
abbrev pub IsNextRead : Sought → ℕ → ℕ → Type 0
IsNextRead s address count = GoesOn s address count ⊎ (ReadsCommon s address × (count ≡ common_words))

abbrev pub IsNext : Sought → SearchStep → Type 0
IsNext s (step.Ask request) = (address : ℕ) × (count : ℕ) × (request ≡ Read address count) × IsNextRead s address count
IsNext s (step.Found found) = Finds s found
IsNext s step.Unnamed = LacksCommon s
IsNext s step.NoMap = (fault : MapFault) × IsOver s (Err fault)

-- a request has a number of registers that may be asked for
abbrev pub HasStepQuantity : SearchStep → Type 0
HasStepQuantity (step.Ask request) = HasQuantity request
HasStepQuantity (step.Found found) = ⊤
HasStepQuantity step.Unnamed = ⊤
HasStepQuantity step.NoMap = ⊤

-- inner: the read that had no answer, or the result
abbrev pub named_by : Option ℕ → SearchStep
named_by None = step.Unnamed
named_by (Some address) = step.Ask (Read address common_words)

abbrev pub end_by : CommonRead → Layout → SearchStep
end_by common.Unwanted found = step.Found found
end_by common.Done found = step.Found found
end_by common.Wanted found = named_by (common_of found)

abbrev pub step_by : CommonRead → Option (ℕ × ℕ) → Result Layout MapFault → SearchStep
step_by common (Some at) found = step.Ask (Read at.0 at.1)
step_by common None (Ok found) = end_by common found
step_by common None (Err fault) = step.NoMap

-- ---- inner: registers that answer by what was told

-- the answers that are left, and the read that had none
pub record Replaying : Type 0 where
  pub left : List Answer
  pub wanted : Option (ℕ × ℕ)

abbrev pub ReplaysFrom : List Answer → Replaying → ℕ → ℕ → Answer → Replaying → Type 0
ReplaysFrom [] s address count answer t = (answer ≡ Err Failed) × (t ≡ record s { wanted = Some (address, count) })
ReplaysFrom (a ∷ more) s address count answer t = (answer ≡ fitting count a) × (t ≡ record s { left = more })

abbrev pub Replays : Replaying → ℕ → ℕ → Answer → Replaying → Type 0
Replays s address count answer t = ReplaysFrom s.left s address count answer t

-- What comes of a search over them.
abbrev pub EndsBy : List Answer → Option (ℕ × ℕ) → List RegisterRead → Result Layout MapFault → Type 0
EndsBy answers None log result = (used : List Answer) × (others : List Answer) × (answers ≡ used ++ others) × AreAnswered log used
EndsBy answers (Some at) log result = (reads : List RegisterRead) × (log ≡ reads ++ record { address = at.0; count = at.1; answer = Err Failed } ∷ []) × AreAnswered reads answers × (result ≡ Err map.Read)
