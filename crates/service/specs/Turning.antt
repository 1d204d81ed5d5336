-- What is told of how a device shows an output. No standard says what is told; it is this project's.
use Rattle.std.specs.Prelude.{ℕ, Bool, true, false, not, List, map, option_and_then, Option, None, Some, slice_get, if◌then◌else◌}
use Rattle.std.specs.Option.{option_map_or}
use Rattle.service.specs.declared.output.Output.{Output}
use Rattle.service.specs.declared.read_back.Difference.{Difference}
use Rattle.service.specs.declared.read_back.Shown.{Shown}
use Rattle.service.specs.declared.read_back.Shown.TheVariants as shown

abbrev pub difference_in : Shown → Option Difference
difference_in shown.Same = None
difference_in (shown.Other difference) = Some difference

-- It is told once where it differs from now on, and once where it doesn't any more.
abbrev pub turns : Shown → (differed : Bool) → Bool
turns shown.Same differed = differed
turns (shown.Other difference) differed = not differed

-- an output whose block shows this
abbrev pub showing : Shown → Output → Output
showing this own = if own.is_read_back then record own { differs = difference_in this } else own

-- an output after a block that shows this of it, or nothing
abbrev pub after_block : Option Shown → Output → Output
after_block None own = own
after_block (Some this) own = showing this own

-- what the device of the output with this number shows of it otherwise than it took it
abbrev pub difference_at : List Output → ℕ → Option Difference
difference_at outputs i = option_and_then (λ (o : Output). o.differs) (slice_get outputs i)

-- ---- at first

-- nothing was told of the output of a tag: it is compared, unless it is said of its tag that it isn't
abbrev pub output_for : (read_back : List Bool) → (tag : ℕ) → Output
output_for read_back tag = record { told = None; is_awaited = false; is_read_back = option_map_or (λ (b : Bool). b) (slice_get read_back tag) true; differs = None }

abbrev pub outputs_for : (read_back : List Bool) → (outs : List ℕ) → List Output
outputs_for read_back outs = map (output_for read_back) outs
