-- What becomes of a core where a device is known no more.
use Rattle.std.specs.Prelude.{ℕ, zero, suc, ◌==◌, List, [], ◌∷◌, set, Option, None, if◌then◌else◌}
use Rattle.site_model.specs.declared.want.Want.{Want}
use Rattle.gateway.specs.event_core.Core.{Gateway}

-- what is known of a want, where it isn't this device's
abbrev pub entry_but : ℕ → Want → Option (List ℕ) → Option (List ℕ)
entry_but device want block = if want.device == device then None else block

-- the known blocks of these wants, without those of a device
abbrev pub blocks_but : ℕ → List Want → List (Option (List ℕ)) → List (Option (List ℕ))
blocks_but device [] blocks = blocks
blocks_but device (want ∷ wants) [] = []
blocks_but device (want ∷ wants) (block ∷ blocks) = entry_but device want block ∷ blocks_but device wants blocks

-- other blocks are known
abbrev pub with_blocks : List (Option (List ℕ)) → Gateway → Gateway
with_blocks blocks core = record core { standing = record core.standing { blocks = blocks } }

-- None of the device's blocks is known. All else is as it was.
abbrev pub without_blocks : ℕ → Gateway → Gateway
without_blocks device core = with_blocks (blocks_but device core.site.wants core.standing.blocks) core

-- There is no map of the device either.
abbrev pub forgotten : ℕ → Gateway → Gateway
forgotten device core = without_blocks device (record core { maps = set core.maps device None })

-- ---- on the way there

-- so many of the wants are gone through
abbrev pub first_but : (device count : ℕ) → List Want → List (Option (List ℕ)) → List (Option (List ℕ))
first_but device zero wants blocks = blocks
first_but device (suc n) [] blocks = blocks
first_but device (suc n) (want ∷ wants) [] = []
first_but device (suc n) (want ∷ wants) (block ∷ blocks) = entry_but device want block ∷ first_but device n wants blocks
