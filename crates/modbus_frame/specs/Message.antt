-- Requests and replies as bytes (Modbus Application Protocol V1.1b3, sections 6.3, 6.6, 6.12 and 7).
use Rattle.std.specs.Prelude.{◌≡◌, ◌≢◌, ℕ, ◌+◌, ◌*◌, ◌<◌, ◌≤◌, ◌⊎◌, slice_index, List, [], ◌∷◌, ◌++◌, length, ⊤, Bool, ◌&&◌, ◌==◌, nat_le, if◌then◌else◌, Option, None, Some, Result, Ok, Err, bit_or}
use Rattle.modbus_frame.specs.declared.message.Request.{Request}
use Rattle.modbus_frame.specs.declared.message.Request.TheVariants.{Read, WriteOne, WriteMany}
use Rattle.modbus_frame.specs.declared.message.Response.{Response}
use Rattle.modbus_frame.specs.declared.message.Response.TheVariants.{Words, Wrote}
use Rattle.modbus_frame.specs.declared.message.Exception.{Exception}
use Rattle.modbus_frame.specs.declared.message.ReplyFault.{ReplyFault}
use Rattle.modbus_frame.specs.declared.message.ReplyFault.TheVariants as fault
use Rattle.modbus_frame.specs.Bytes.{number, number_bytes, word_bytes, words_of}

abbrev pub function_of : Request → ℕ
function_of (Read _ _) = 3
function_of (WriteOne _ _) = 6
function_of (WriteMany _ _) = 16

-- how many registers a request is about
abbrev pub quantity_of : Request → ℕ
quantity_of (Read _ qty) = qty
quantity_of (WriteOne _ _) = 1
quantity_of (WriteMany _ words) = length words

abbrev pub address_of : Request → ℕ
address_of (Read addr _) = addr
address_of (WriteOne addr _) = addr
address_of (WriteMany addr _) = addr

-- The spelling of a request.
abbrev pub request_bytes : Request → List ℕ
request_bytes (Read addr qty) = 3 ∷ number_bytes addr ++ number_bytes qty
request_bytes (WriteOne addr value) = 6 ∷ number_bytes addr ++ number_bytes value
request_bytes (WriteMany addr words) = 16 ∷ number_bytes addr ++ number_bytes (length words) ++ (2 * length words) ∷ word_bytes words

-- One request reads 1 to 125 registers, or writes 1 to 123.
abbrev pub HasQuantity : Request → Type 0
HasQuantity (Read _ qty) = (1 ≤ qty) × (qty ≤ 125)
HasQuantity (WriteOne _ _) = ⊤
HasQuantity (WriteMany _ words) = (1 ≤ length words) × (length words ≤ 123)

-- Its registers have addresses 0 to 65535.
abbrev pub HasAddresses : Request → Type 0
HasAddresses r = address_of r + quantity_of r ≤ 65536

abbrev pub IsRequest : Request → Type 0
IsRequest r = HasQuantity r × HasAddresses r

abbrev pub illegal_function : Exception
illegal_function = record { 0 = 1 }

abbrev pub illegal_address : Exception
illegal_address = record { 0 = 2 }

abbrev pub illegal_value : Exception
illegal_value = record { 0 = 3 }

-- a request whose form is right: it may reach past the last address
abbrev pub addressed : ℕ → ℕ → Request → Result Request Exception
addressed addr qty r = if nat_le (addr + qty) 65536 then Ok r else Err illegal_address

abbrev pub is_quantity : ℕ → ℕ → Bool
is_quantity most qty = nat_le 1 qty && nat_le qty most

-- The request that the bytes after a function stand for, or the exception that answers them.
abbrev pub read_of : List ℕ → Result Request Exception
read_of (a ∷ b ∷ c ∷ d ∷ []) = if is_quantity 125 (number c d) then addressed (number a b) (number c d) (Read (number a b) (number c d)) else Err illegal_value
read_of _ = Err illegal_value

abbrev pub write_one_of : List ℕ → Result Request Exception
write_one_of (a ∷ b ∷ c ∷ d ∷ []) = Ok (WriteOne (number a b) (number c d))
write_one_of _ = Err illegal_value

abbrev pub write_many_of : List ℕ → Result Request Exception
write_many_of (a ∷ b ∷ c ∷ d ∷ count ∷ values) = if is_quantity 123 (number c d) && (count == 2 * number c d && length values == 2 * number c d) then addressed (number a b) (number c d) (WriteMany (number a b) (words_of values)) else Err illegal_value
write_many_of _ = Err illegal_value

-- The request that a PDU is, or the exception that answers it, the first that holds: its function, its length, quantity
-- and count, its addresses.
abbrev pub request_of : List ℕ → Result Request Exception
request_of [] = Err illegal_function
request_of (function ∷ fields) = if function == 3 then read_of fields else (if function == 6 then write_one_of fields else (if function == 16 then write_many_of fields else Err illegal_function))

-- functions 3, 6 and 16
abbrev pub HasKnownFunction : List ℕ → Type 0
HasKnownFunction bytes = (slice_index bytes 0 ≡ 3) ⊎ (slice_index bytes 0 ≡ 6) ⊎ (slice_index bytes 0 ≡ 16)

-- No request for an allowed number of registers is spelled so.
abbrev pub IsNoRequest : List ℕ → Type 0
IsNoRequest bytes = (r : Request) → HasQuantity r → bytes ≢ request_bytes r

-- One that is spelled so reaches past the last address.
abbrev pub ReachesTooFar : List ℕ → Type 0
ReachesTooFar bytes = (r : Request) × HasQuantity r × (65536 < address_of r + quantity_of r) × (bytes ≡ request_bytes r)

-- The same told by the spelling of requests alone: what a request is, and which exception belongs to what is none.
abbrev pub IsRequestOf : List ℕ → Result Request Exception → Type 0
IsRequestOf bytes (Ok r) = IsRequest r × (bytes ≡ request_bytes r)
IsRequestOf bytes (Err e) = ((e ≡ illegal_function) × (¬ (HasKnownFunction bytes))) ⊎ ((e ≡ illegal_value) × HasKnownFunction bytes × IsNoRequest bytes) ⊎ ((e ≡ illegal_address) × ReachesTooFar bytes)

-- The spelling of an exception reply: the function with its top bit set, and the code.
abbrev pub exception_bytes : ℕ → Exception → List ℕ
exception_bytes function e = bit_or function 128 ∷ e.0 ∷ []

-- the exception reply to a PDU
abbrev pub refusal_bytes : List ℕ → Exception → List ℕ
refusal_bytes [] e = []
refusal_bytes (function ∷ _) e = exception_bytes function e

-- What answers which request.
abbrev pub IsResponseTo : Request → Response → Type 0
IsResponseTo (Read _ qty) (Words words) = length words ≡ qty
IsResponseTo (Read _ _) Wrote = ⊥
IsResponseTo (WriteOne _ _) (Words _) = ⊥
IsResponseTo (WriteOne _ _) Wrote = ⊤
IsResponseTo (WriteMany _ _) (Words _) = ⊥
IsResponseTo (WriteMany _ _) Wrote = ⊤

-- The spelling of a reply: the registers that were read, or what was written.
abbrev pub words_reply : List ℕ → List ℕ
words_reply words = 3 ∷ (2 * length words) ∷ word_bytes words

abbrev pub wrote_reply : Request → List ℕ
wrote_reply (Read _ _) = []
wrote_reply (WriteOne addr value) = 6 ∷ number_bytes addr ++ number_bytes value
wrote_reply (WriteMany addr words) = 16 ∷ number_bytes addr ++ number_bytes (length words)

abbrev pub response_bytes : Request → Response → List ℕ
response_bytes r (Words words) = words_reply words
response_bytes r Wrote = wrote_reply r

-- what goes back for a request: a reply, or an exception
abbrev pub answer_bytes : Request → Result Response Exception → List ℕ
answer_bytes r (Ok response) = response_bytes r response
answer_bytes r (Err e) = exception_bytes (function_of r) e

-- A result may be sent where it answers the request, and an exception always.
abbrev pub IsAnswerTo : Request → Result Response Exception → Type 0
IsAnswerTo r (Ok response) = IsResponseTo r response
IsAnswerTo r (Err _) = ⊤

-- the code of an exception reply to a function
abbrev pub refused_of : ℕ → List ℕ → Option ℕ
refused_of function (first ∷ code ∷ []) = if first == bit_or function 128 then Some code else None
refused_of function _ = None

-- The registers that a reply gives, where they are as many as were asked for.
abbrev pub words_reply_of : ℕ → List ℕ → Result Response ReplyFault
words_reply_of qty (function ∷ count ∷ values) = if function == 3 && (count == 2 * qty && length values == 2 * qty) then Ok (Words (words_of values)) else Err fault.Mismatch
words_reply_of qty _ = Err fault.Mismatch

-- A reply that repeats a function and two numbers.
abbrev pub wrote_reply_of : ℕ → ℕ → ℕ → List ℕ → Result Response ReplyFault
wrote_reply_of function first second (f ∷ a ∷ b ∷ c ∷ d ∷ []) = if f == function && (number a b == first && number c d == second) then Ok Wrote else Err fault.Mismatch
wrote_reply_of function first second _ = Err fault.Mismatch

abbrev pub reply_of : Request → List ℕ → Result Response ReplyFault
reply_of (Read _ qty) bytes = words_reply_of qty bytes
reply_of (WriteOne addr value) bytes = wrote_reply_of 6 addr value bytes
reply_of (WriteMany addr words) bytes = wrote_reply_of 16 addr (length words) bytes

abbrev pub unless_refused : Option ℕ → Result Response ReplyFault → Result Response ReplyFault
unless_refused (Some code) reply = Err (fault.Exception (record { 0 = code }))
unless_refused None reply = reply

-- What a PDU answers to a request.
abbrev pub response_of : Request → List ℕ → Result Response ReplyFault
response_of r bytes = unless_refused (refused_of (function_of r) bytes) (reply_of r bytes)

-- what a client learns from an answer
abbrev pub outcome_of : Result Response Exception → Result Response ReplyFault
outcome_of (Ok response) = Ok response
outcome_of (Err e) = Err (fault.Exception e)

-- The same told by the spelling of replies alone.
abbrev pub IsResponseOf : Request → List ℕ → Result Response ReplyFault → Type 0
IsResponseOf r bytes (Ok response) = IsResponseTo r response × (bytes ≡ response_bytes r response)
IsResponseOf r bytes (Err (fault.Exception e)) = bytes ≡ exception_bytes (function_of r) e
IsResponseOf r bytes (Err fault.Mismatch) = (answer : Result Response Exception) → IsAnswerTo r answer → bytes ≢ answer_bytes r answer
