-- The instructions of an image in their order, or the number of the first wrong one.
-- IEC 61131-3 edition 2, 3.2 leaves the form of compiled code open; this is this project's bytecode.
use Rattle.std.specs.Prelude.{ℕ, zero, suc, ◌+◌, Bool, true, false, ◌&&◌, List, [], ◌∷◌, length, if◌then◌else◌, Result, Ok, Err, Option, Some, None, slice_get, nat_eq, nat_le, nat_lt}
use Rattle.point_types.specs.Value.{◌>>=◌}
use Rattle.scan_code.specs.Image.{Image}
use Rattle.scan_code.specs.declared.image.Tag.{Tag}
use Rattle.scan_code.specs.declared.op.Op.{Op}
use Rattle.scan_code.specs.declared.op.Op.TheVariants as does
use Rattle.scan_code.specs.Instruction.{decoded_at}
use Rattle.facts.specs.Fact.{same_bool}
use Rattle.facts.specs.declared.refusal.RefusalKind.TheVariants.{Code}
use Rattle.facts.specs.declared.refusal.Refusal.{Refusal}
use Rattle.facts.specs.declared.refusal.RefusedAt.TheVariants as spot

-- an address and the instruction there
abbrev pub Entry : Type 0
Entry = ℕ × Op

abbrev pub is_there : {A : Type 0} → Option A → Bool
is_there None = false
is_there (Some a) = true

-- a tag that programs store, or load
abbrev pub is_tag : Bool → Option Tag → Bool
is_tag output None = false
is_tag output (Some tag) = same_bool tag.output output

-- the variable or the tag is there, a tag of the right direction; a counted jump stands in an image of
-- version 2, and its counter is the number of the counted jumps before it
abbrev pub is_placed : Image → ℕ → Op → Bool
is_placed image jumps (does.LoadVariable v) = is_there (slice_get image.vars v)
is_placed image jumps (does.StoreVariable v) = is_there (slice_get image.vars v)
is_placed image jumps (does.SetVariable v) = is_there (slice_get image.vars v)
is_placed image jumps (does.ResetVariable v) = is_there (slice_get image.vars v)
is_placed image jumps (does.LoadInput t) = is_tag false (slice_get image.tags t)
is_placed image jumps (does.LoadPresence t) = is_tag false (slice_get image.tags t)
is_placed image jumps (does.StoreOutput t) = is_tag true (slice_get image.tags t)
is_placed image jumps (does.SetOutput t) = is_tag true (slice_get image.tags t)
is_placed image jumps (does.ResetOutput t) = is_tag true (slice_get image.tags t)
is_placed image jumps (does.Repeat condition k n to) = nat_eq image.version 2 && nat_eq k jumps && nat_lt k 256
is_placed image jumps other = true

abbrev pub jumps_after : ℕ → Op → ℕ
jumps_after jumps (does.Repeat condition k n to) = jumps + 1
jumps_after jumps other = jumps

abbrev pub is_end : Op → Bool
is_end does.End = true
is_end other = false

abbrev pub wrong_at : {A : Type 0} → ℕ → Result A Refusal
wrong_at n = Err (record { at = spot.Instruction n; kind = Code })

-- what follows an instruction; others is the listing from the next one on
abbrev pub listed_with : Image → ℕ → ℕ → ℕ → Option (Op × ℕ) → (Op → ℕ → Result (List Entry) Refusal) → Result (List Entry) Refusal
listed_with image at n jumps None others = wrong_at n
listed_with image at n jumps (Some found) others =
    if is_placed image jumps found.0 then (others found.0 found.1 >>= λ rest. Ok ((at, found.0) ∷ rest)) else wrong_at n

-- from an address on, where instruction number n stands after so many counted jumps, and ended says
-- whether the one before it is END; most is a bound on the number of instructions
abbrev pub listed_from : Image → (most : ℕ) → (at n jumps : ℕ) → (ended : Bool) → Result (List Entry) Refusal
listed_from image zero at n jumps ended = if ended && nat_le (length image.code) at then Ok [] else wrong_at n
listed_from image (suc most) at n jumps ended =
    if nat_le (length image.code) at then (if ended then Ok [] else wrong_at n)
    else listed_with image at n jumps (decoded_at image.code at) (λ i next. listed_from image most next (n + 1) (jumps_after jumps i) (is_end i))

-- an instruction has one byte at least
abbrev pub listing_of : Image → Result (List Entry) Refusal
listing_of image = listed_from image (length image.code) 0 0 0 false
