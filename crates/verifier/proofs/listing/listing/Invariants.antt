use Rattle.std.proofs.Common.{◌≡◌, ◌-◌, ◌≤◌, length}
use Rattle.verifier.specs.Listing.{listing_of}
use Rattle.verifier.proofs.Listed.{left}
use Rattle.verifier.proofs.listing.listing.Given as goal

abbrev pub invariant-loop-at : goal.invariant-loop-at
invariant-loop-at l =
    (left l.image l.listing.items l.at l.jumps l.ended ≡ listing_of l.image) × (length l.listing.items ≤ l.at) × (l.jumps ≤ length l.listing.items) × (l.at ≤ length l.image.code)

abbrev pub decreases-loop-at : goal.decreases-loop-at
decreases-loop-at l = length l.image.code - l.at
