-- What a write that is refused was for.
use Rattle.std.specs.Prelude.{◌≡◌, ℕ, ◌+◌, ◌-◌, ◌≤◌, ℤ, ◌≤ℤ◌, List, [], ◌∷◌, length, take, drop, slice_get, Option, Some, None, IfSome}
use Rattle.modbus_frame.specs.declared.message.Request.{Request}
use Rattle.modbus_frame.specs.declared.message.Request.TheVariants.{Read, WriteOne, WriteMany}
use Rattle.gateway.specs.event_core.Restoring.{SetsAlone}
use Rattle.site_model.specs.declared.site.Site.{Site}
use Rattle.site_model.specs.declared.tag.SiteTag.{SiteTag}
use Rattle.service_texts.specs.Numbers.{IsNumberBy, tag_factor}
use Rattle.service_texts.specs.declared.hit.RefusedNumber.{RefusedNumber}
use Rattle.service_texts.specs.declared.hit.RegisterSpan.{RegisterSpan}
use Rattle.service_texts.specs.declared.hit.Written.{Written}

-- the registers that a request writes, and what they are to hold
abbrev pub asked_by : Request → Option Written
asked_by (Read addr qty) = None
asked_by (WriteOne addr value) = Some (record { first = addr; words = value ∷ [] })
asked_by (WriteMany addr words) = Some (record { first = addr; words = words })

-- the registers of a tag: those of a request that sets it, and nothing else
abbrev pub IsPlaced : Site → (tag : ℕ) → RegisterSpan → Type 0
IsPlaced site tag registers = (number : ℤ) × (alone : Request) × (asked : Written) × SetsAlone site tag number alone × (asked_by alone ≡ Some asked) × (registers ≡ record { first = asked.first; count = length asked.words })

-- registers are all written, and are to hold this
abbrev pub IsPart : Written → RegisterSpan → List ℕ → Type 0
IsPart asked registers held = (asked.first ≤ registers.first) × (registers.first + registers.count ≤ asked.first + length asked.words)
    × (held ≡ take registers.count (drop (registers.first - asked.first) asked.words))

abbrev pub LiesIn : SiteTag → ℤ → Type 0
LiesIn tag number = (tag.low ≤ℤ number) × (number ≤ℤ tag.high)

-- Words that were to be written are all registers of a tag, and as those they are this number of it, whatever its range; by
-- exception 03 one that isn't in its range.
pub record HitsAt (site : Site) (asked : Written) (exception : ℕ) (refused : RefusedNumber) : Type 0 where
  pub own : SiteTag
  pub there : slice_get site.tags refused.tag ≡ Some own
  pub registers : RegisterSpan
  pub placed : IsPlaced site refused.tag registers
  pub held : List ℕ
  pub part : IsPart asked registers held
  pub read : IfSome refused.number (IsNumberBy own (tag_factor site own) held)
  pub wrong : exception ≡ 3 → IfSome refused.number (λ number. LiesIn own number → ⊥)

-- what a request would have set
abbrev pub Hits : Site → Request → (exception : ℕ) → RefusedNumber → Type 0
Hits site request exception refused = (asked : Written) × (asked_by request ≡ Some asked) × HitsAt site asked exception refused
