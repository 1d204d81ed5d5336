-- What is counted of devices that are lost.
use Rattle.std.proofs.Common.{◌≡◌, ◌≢◌, ◌⊎◌, inl, inr, ◌≤◌, ℕ, true, false, eqb, List, Option, None, Some, set, slice_get, refl, ap, subst, sym, ◌∙◌}
use Rattle.std.specs.Prelude.{option_map}
use Rattle.std.proofs.lemmas.Bool.Decides.{eqb_tells}
use Rattle.std.proofs.Math.Nat.{le_refl}
use Rattle.service_parts.proofs.Frames.{set_other, set_there}
use Rattle.service.specs.declared.counts.Counts.{Counts}
use Rattle.service.specs.declared.polled_device.PolledDevice.{PolledDevice}
use Rattle.service.specs.declared.device_side.DeviceSide.{DeviceSide}
use Rattle.service.specs.declared.notice.Loss.{Loss}
use Rattle.service.specs.Noting.{lost_by}
use Rattle.service.specs.Counting.{CountsLoss, CountsOneLossAtMost, KeepsLosses, counts_at, lost_once_more}

abbrev counted : List PolledDevice → ℕ → Option Counts
counted devices k = option_map (λ (own : PolledDevice). own.counts) (slice_get devices k)

-- ---- one device changes

module _ (old new : List PolledDevice) (device : ℕ) (own : PolledDevice) (at : slice_get old device ≡ Some own) where
  others_stay : (next : PolledDevice) → new ≡ set old device next → (k : ℕ) → k ≢ device → counted new k ≡ counted old k
  others_stay next devices k away = ap (λ l. counted l k) devices ∙ ap (option_map (λ (d : PolledDevice). d.counts)) (set_other old device k next away)

  own_is : (next : PolledDevice) → new ≡ set old device next → counted new device ≡ Some next.counts
  own_is next devices = ap (λ l. counted l device) devices ∙ ap (option_map (λ (d : PolledDevice). d.counts)) (set_there old device own next at)

  own_was : counted old device ≡ Some own.counts
  own_was = ap (option_map (λ (d : PolledDevice). d.counts)) at

  -- something else of it
  pub keeps_losses : (next : PolledDevice) → new ≡ set old device next → next.counts ≡ own.counts → (k : ℕ) → counted new k ≡ counted old k
  keeps_losses next devices same k = go (eqb_tells k device)
    where
      go : ((eqb k device ≡ true) × (k ≡ device)) ⊎ ((eqb k device ≡ false) × (k ≢ device)) → counted new k ≡ counted old k
      go (inl here) = ap (counted new) here.1 ∙ (own_is next devices ∙ (ap Some same ∙ (sym own_was ∙ sym (ap (counted old) here.1))))
      go (inr away) = others_stay next devices k away.1

-- it is lost
pub counts_loss : (old new : DeviceSide) (device : ℕ) (own : PolledDevice) → slice_get old.devices.items device ≡ Some own → (cause : Loss) → new.devices.items ≡ set old.devices.items device (lost_by cause own) → CountsLoss device cause old new
counts_loss old new device own at cause devices = record {
  own = own_is old.devices.items new.devices.items device own at (lost_by cause own) devices ∙ sym (ap (option_map (lost_once_more cause)) (own_was old.devices.items new.devices.items device own at));
  others = others_stay old.devices.items new.devices.items device own at (lost_by cause own) devices;
}

-- there is none
pub counts_none : (side : DeviceSide) (device : ℕ) (cause : Loss) → slice_get side.devices.items device ≡ None → CountsLoss device cause side side
counts_none side device cause none = record {
  own = was ∙ sym (ap (option_map (lost_once_more cause)) was);
  others = λ k away. refl;
}
  where
    was : counts_at side device ≡ None
    was = ap (option_map (λ (d : PolledDevice). d.counts)) none

-- ---- one after another

pub same_devices : (old new : DeviceSide) → new.devices ≡ old.devices → KeepsLosses old new
same_devices old new same k = ap (λ d. counted d.items k) same

pub keeps_on : (old middle new : DeviceSide) → KeepsLosses old middle → KeepsLosses middle new → KeepsLosses old new
keeps_on old middle new first next k = next k ∙ first k

pub once : (device : ℕ) (cause : Loss) (old new : DeviceSide) → CountsLoss device cause old new → CountsOneLossAtMost cause old new
once device cause old new step k = go (eqb_tells k device)
  where
    go : ((eqb k device ≡ true) × (k ≡ device)) ⊎ ((eqb k device ≡ false) × (k ≢ device)) → (counts_at new k ≡ counts_at old k) ⊎ (counts_at new k ≡ option_map (lost_once_more cause) (counts_at old k))
    go (inl here) = inr (subst (λ (d : ℕ). counts_at new d ≡ option_map (lost_once_more cause) (counts_at old d)) (sym here.1) step.own)
    go (inr away) = inl (step.others k away.1)

pub once_after : (cause : Loss) (old middle new : DeviceSide) → KeepsLosses old middle → CountsOneLossAtMost cause middle new → CountsOneLossAtMost cause old new
once_after cause old middle new same step k = go (step k)
  where
    go : (counts_at new k ≡ counts_at middle k) ⊎ (counts_at new k ≡ option_map (lost_once_more cause) (counts_at middle k)) → (counts_at new k ≡ counts_at old k) ⊎ (counts_at new k ≡ option_map (lost_once_more cause) (counts_at old k))
    go (inl stays) = inl (stays ∙ same k)
    go (inr lost) = inr (lost ∙ ap (option_map (lost_once_more cause)) (same k))

-- from this one on what is counted stays
abbrev pub StaysFrom : ℕ → DeviceSide → DeviceSide → Type 0
StaysFrom from old new = (k : ℕ) → from ≤ k → counts_at new k ≡ counts_at old k

-- the next of a list of devices is lost, or isn't
pub one_more_lost : (cause : Loss) (i : ℕ) (old middle new : DeviceSide) → CountsOneLossAtMost cause old middle → StaysFrom i old middle → CountsOneLossAtMost cause middle new → ((k : ℕ) → k ≢ i → counts_at new k ≡ counts_at middle k) → CountsOneLossAtMost cause old new
one_more_lost cause i old middle new sofar same step others k = go (eqb_tells k i)
  where
    at : k ≡ i → (counts_at new k ≡ counts_at middle k) ⊎ (counts_at new k ≡ option_map (lost_once_more cause) (counts_at middle k)) → (counts_at new k ≡ counts_at old k) ⊎ (counts_at new k ≡ option_map (lost_once_more cause) (counts_at old k))
    at here (inl stays) = inl (stays ∙ same k (subst (λ (n : ℕ). i ≤ n) (sym here) (le_refl i)))
    at here (inr lost) = inr (lost ∙ ap (option_map (lost_once_more cause)) (same k (subst (λ (n : ℕ). i ≤ n) (sym here) (le_refl i))))

    go : ((eqb k i ≡ true) × (k ≡ i)) ⊎ ((eqb k i ≡ false) × (k ≢ i)) → (counts_at new k ≡ counts_at old k) ⊎ (counts_at new k ≡ option_map (lost_once_more cause) (counts_at old k))
    go (inl here) = at here.1 (step k)
    go (inr away) = subst (λ (c : Option Counts). (c ≡ counts_at old k) ⊎ (c ≡ option_map (lost_once_more cause) (counts_at old k))) (sym (others k away.1)) (sofar k)
