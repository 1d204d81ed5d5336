use Rattle.std.proofs.Common.{◌≡◌, ℕ, ◌<◌, Some, slice_get}
use Rattle.point_types.specs.declared.reading.Reading.{Reading}
use Rattle.site_model.specs.declared.tag.SiteTag.{SiteTag}
use Rattle.site_model.specs.Readings.{IsTagReading, block_of, known_at}
use Rattle.site_model.proofs.readings.readings.Given as goal

-- the entries so far are the readings of their tags
abbrev pub invariant-loop-i : goal.invariant-loop-i
invariant-loop-i l = (k : ℕ) (t : SiteTag) (r : Reading) → k < l.i → slice_get l.tags k ≡ Some t → slice_get l.into k ≡ Some r → IsTagReading t (block_of l.wants l.blocks t) (known_at l.sets k) l.elapsed r
