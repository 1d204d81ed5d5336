-- Devices and outputs stand by what was told of them.
use Rattle.std.proofs.Common.{◌≡◌, ◌≢◌, ◌≤◌, ◌⊎◌, inl, inr, ℕ, length, Bool, true, false, not, ◌&&◌, ◌||◌, eqb, List, Option, None, Some, set, slice_get, refl, sym, ap, subst, ◌∙◌, if◌then◌else◌}
use Rattle.std.specs.Prelude.{All, ◌==◌, is_some, option_and_then, option_map}
use Rattle.std.specs.List.{list_all}
use Rattle.std.specs.Option.{option_map_or}
use Rattle.std.proofs.lemmas.Bool.Decides.{eqb_tells}
use Rattle.std.proofs.lemmas.Option.{slice_get_past}
use Rattle.std.proofs.lemmas.List.Elements.{All-cons, All-nil}
use Rattle.std.proofs.Math.Logic.{∥∥₁_elim, ∥∥₁_prop}
use mathlib.Core.Bool.{Bool-set}
use Rattle.service_parts.proofs.Frames.{set_other, set_there}
use Rattle.service.specs.declared.polled_device.PolledDevice.{PolledDevice}
use Rattle.service.specs.declared.device_side.DeviceSide.{DeviceSide}
use Rattle.gateway.specs.declared.poller.cycle.Report.{Report}
use Rattle.service.specs.declared.last_scan.LastScan.{LastScan}
use Rattle.service.specs.declared.notice.Loss.{Loss}
use Rattle.service.specs.declared.notice.Notice.{Notice}
use Rattle.service.specs.declared.notice.Notice.TheVariants as note
use Rattle.service.specs.declared.notice.Unwritten.TheVariants as unwritten
use Rattle.service.specs.declared.output.Output.{Output}
use Rattle.service.specs.declared.output.OutputState.{OutputState}
use Rattle.service.specs.declared.output.OutputState.TheVariants as state
use Rattle.service.specs.declared.read_back.Shown.{Shown}
use Rattle.service.specs.declared.read_back.Shown.TheVariants as shown
use Rattle.service.specs.declared.refusals.ReadRefusal.{ReadRefusal}
use Rattle.service.specs.Noting.{Finds, HearsFrom, Loses, Refuses, heard_by, lost_by, refusing, told, told_if, found_by}
use Rattle.service.specs.Refusing.{is_more}
use Rattle.service.specs.Telling.{told_at}
use Rattle.service.specs.Losing.{IsLost}
use Rattle.service.specs.Turning.{difference_in, showing, turns}
use Rattle.service.specs.Told.{Allowed, AwaitsAlso, AwaitsNoMore, BecomesBy, Course, Goes, IsCompared, IsReported, IsShown, IsSo, IsThis, LosesBy, PlansBy, RunsBy, ShowsBy, StatesAreByNotes, Tells, TellsNothing, allows, are_turns, awaited_then, awaits, awaits_at, compares_at, differs_after, differs_at, differs_then, goes, happened, is_turn, is_unanswered, lost_after, lost_at, lost_then, note_by, note_of, scans, state_after, state_at, state_then, stays, tells}

-- outputs that stay
same_awaited : (old new : DeviceSide) → new.outputs ≡ old.outputs → (k : ℕ) → awaits_at new k ≡ awaits_at old k
same_awaited old new outputs k = ap (λ o. option_map_or (λ (x : Output). x.is_awaited) (slice_get o.items k) false) outputs

still_awaited : (old new : DeviceSide) → new.outputs ≡ old.outputs → AwaitsNoMore old new
still_awaited old new outputs k is = sym (same_awaited old new outputs k) ∙ is

same_differs : (old new : DeviceSide) → new.outputs ≡ old.outputs → (k : ℕ) → differs_at new k ≡ differs_at old k
same_differs old new outputs k = ap (λ o. option_map_or (λ (x : Output). is_some x.differs) (slice_get o.items k) false) outputs

same_compares : (old new : DeviceSide) → new.outputs ≡ old.outputs → (k : ℕ) → compares_at new k ≡ compares_at old k
same_compares old new outputs k = ap (λ o. option_map_or (λ (x : Output). x.is_read_back) (slice_get o.items k) false) outputs

-- ---- one step

told_step : (n : Notice) (old new : DeviceSide) → ((may : Allowed) → allows may n ≡ true) → Tells n old new → Goes old new
told_step n old new allowed step may from before = ∥∥₁_elim before ∥∥₁_prop (λ course. ∣ tells course n new (allowed may) step ∣₁)

lost_step : (device : ℕ) (loss : Loss) (old new : DeviceSide) → Tells (note.Lost device loss) old new → LosesBy (IsLost device loss) old new
lost_step device loss old new step may has from before = ∥∥₁_elim before ∥∥₁_prop (λ course. ∣ tells course (note.Lost device loss) new (has device loss (refl, refl)) step ∣₁)

by_step : (n : Notice) (old new : DeviceSide) (Is : ℕ → OutputState → Type 0) → ((may : Allowed) → ((output : ℕ) (became : OutputState) → Is output became → may.became output became ≡ true) → allows may n ≡ true) → Tells n old new → BecomesBy Is old new
by_step n old new Is allowed step may has from before = ∥∥₁_elim before ∥∥₁_prop (λ course. ∣ tells course n new (allowed may has) step ∣₁)

silent_step : (old new : DeviceSide) → TellsNothing old new → AwaitsNoMore old new → Goes old new
silent_step old new step awaited may from before = ∥∥₁_elim before ∥∥₁_prop (λ course. ∣ goes course new step awaited ∣₁)

-- a scan is counted
pub counted_goes : (came : LastScan) (old new : DeviceSide) → new.last_scan ≡ came → new.devices ≡ old.devices → new.outputs ≡ old.outputs → new.notes ≡ old.notes → RunsBy came (λ output became. ⊥) (λ output. ⊥) old new
counted_goes came old new is devices outputs notes may has waits counted from before = ∥∥₁_elim before ∥∥₁_prop (λ course. ∣ scans course new (ap may.scanned is ∙ counted) (record {
  notes = ap (λ n. n.items.items) notes;
  room = ap (λ n. n.items.cap) notes;
  devices = λ k. ap (λ d. option_map_or (λ (own : PolledDevice). own.is_lost) (slice_get d.items k) false) devices;
  outputs = λ k. ap (λ o. told_at o.items k) outputs;
  differs = same_differs old new outputs;
  compares = same_compares old new outputs;
  last = refl;
}) (λ k awaited. sym (ap (λ o. option_map_or (λ (x : Output). x.is_awaited) (slice_get o.items k) false) outputs) ∙ awaited) ∣₁)

waiting_step : (which : ℕ) (old new : DeviceSide) → TellsNothing old new → AwaitsAlso which old new → PlansBy (λ output became. ⊥) (λ output. output ≡ which) old new
waiting_step which old new step awaited may has waits from before = ∥∥₁_elim before ∥∥₁_prop (λ course. ∣ awaits course which new (waits which refl) step awaited ∣₁)

pub same_goes : (old new : DeviceSide) → new.devices ≡ old.devices → new.outputs ≡ old.outputs → new.notes ≡ old.notes → new.last_scan ≡ old.last_scan → Goes old new
same_goes old new devices outputs notes last = silent_step old new (record {
  notes = ap (λ n. n.items.items) notes;
  room = ap (λ n. n.items.cap) notes;
  last = last;
  devices = λ k. ap (λ d. option_map_or (λ (own : PolledDevice). own.is_lost) (slice_get d.items k) false) devices;
  outputs = λ k. ap (λ o. told_at o.items k) outputs;
  differs = same_differs old new outputs;
  compares = same_compares old new outputs;
}) (still_awaited old new outputs)

-- ---- one element of a list changes

pub chosen : {Y : Type 0} (b : Bool) (x y : Y) → b ≡ true → (if b then x else y) ≡ x
chosen true x y is = refl
chosen false x y is = absurd (cc)

pub left_out : {Y : Type 0} (b : Bool) (x y : Y) → b ≡ false → (if b then x else y) ≡ y
left_out false x y is = refl
left_out true x y is = absurd (cc)

module _ {X : Type 0} {Y : Type 0} (f : X → Y) (default : Y) where
  abbrev seen : List X → ℕ → Y
  seen xs k = option_map_or f (slice_get xs k) default

  abbrev put : ℕ → Y → ℕ → Y → Y
  put at value k was = if k == at then value else was

  seen_so : (xs : List X) (k : ℕ) (x : X) → slice_get xs k ≡ Some x → seen xs k ≡ f x
  seen_so xs k x is = ap (λ (o : Option X). option_map_or f o default) is

  put_there : (xs : List X) (at k : ℕ) (old new : X) → slice_get xs at ≡ Some old → seen (set xs at new) k ≡ put at (f new) k (seen xs k)
  put_there xs at k old new is = go (eqb_tells k at)
    where
      go : ((eqb k at ≡ true) × (k ≡ at)) ⊎ ((eqb k at ≡ false) × (k ≢ at)) → seen (set xs at new) k ≡ put at (f new) k (seen xs k)
      go (inl here) = seen_so (set xs at new) k new (ap (slice_get (set xs at new)) here.1 ∙ set_there xs at old new is) ∙ sym (chosen (eqb k at) (f new) (seen xs k) here.0)
      go (inr away) = ap (λ (o : Option X). option_map_or f o default) (set_other xs at k new away.1) ∙ sym (left_out (eqb k at) (f new) (seen xs k) away.0)

  put_same : (xs : List X) (at k : ℕ) (old : X) → slice_get xs at ≡ Some old → put at (f old) k (seen xs k) ≡ seen xs k
  put_same xs at k old is = go (eqb_tells k at)
    where
      go : ((eqb k at ≡ true) × (k ≡ at)) ⊎ ((eqb k at ≡ false) × (k ≢ at)) → put at (f old) k (seen xs k) ≡ seen xs k
      go (inl here) = chosen (eqb k at) (f old) (seen xs k) here.0 ∙ sym (seen_so xs k old (ap (slice_get xs) here.1 ∙ is))
      go (inr away) = left_out (eqb k at) (f old) (seen xs k) away.0

-- ---- devices

module _ (old new : DeviceSide) (device : ℕ) (own : PolledDevice) (at : slice_get old.devices.items device ≡ Some own) where
  -- whether it is lost stays
  still_lost : (next : PolledDevice) → new.devices.items ≡ set old.devices.items device next → next.is_lost ≡ own.is_lost → (k : ℕ) → lost_at new k ≡ lost_at old k
  still_lost next devices same k = ap (λ l. option_map_or (λ (d : PolledDevice). d.is_lost) (slice_get l k) false) devices
      ∙ (put_there (λ (d : PolledDevice). d.is_lost) false old.devices.items device k own next at
      ∙ (ap (λ b. if k == device then b else lost_at old k) same ∙ put_same (λ (d : PolledDevice). d.is_lost) false old.devices.items device k own at))

  -- of a device something else changes
  pub device_goes : (next : PolledDevice) → new.devices.items ≡ set old.devices.items device next → next.is_lost ≡ own.is_lost → new.outputs ≡ old.outputs → new.notes.items.items ≡ old.notes.items.items → new.notes.items.cap ≡ old.notes.items.cap → new.last_scan ≡ old.last_scan → Goes old new
  device_goes next devices same outputs notes room last = silent_step old new (record {
    notes = notes;
    room = room;
    last = last;
    devices = still_lost next devices same;
    outputs = λ k. ap (λ o. told_at o.items k) outputs;
    differs = same_differs old new outputs;
    compares = same_compares old new outputs;
  }) (still_awaited old new outputs)

  -- it refused to read registers, which is told or not
  pub refused_goes : (refusal : ReadRefusal) (is_told : Bool) → new.devices.items ≡ set old.devices.items device (refusing refusal own) → new.outputs ≡ old.outputs
      → new.notes.items.items ≡ told_if is_told (note.Refused device refusal) old.notes → new.notes.items.cap ≡ old.notes.items.cap → new.last_scan ≡ old.last_scan → Goes old new
  refused_goes refusal true devices outputs notes room last = told_step (note.Refused device refusal) old new (λ may. refl) (record {
    notes = notes;
    room = room;
    last = last;
    devices = still_lost (refusing refusal own) devices refl;
    outputs = λ k. ap (λ o. told_at o.items k) outputs;
    differs = same_differs old new outputs;
    compares = same_compares old new outputs;
    awaited = same_awaited old new outputs;
    so = tt;
  })
  refused_goes refusal false devices outputs notes room last = device_goes (refusing refusal own) devices refl outputs notes room last

  -- it is told that it is lost from now on, or isn't any more
  noted_so : (n : Notice) (is_lost : Bool) (next : PolledDevice) → ((k : ℕ) (was : Bool) → lost_then n k was ≡ (if k == device then is_lost else was)) → ((k : ℕ) (was : Option OutputState) → state_then n k was ≡ was) → ((k : ℕ) (was : Bool) → awaited_then n k was ≡ was) → ((k : ℕ) (was : Bool) → differs_then n k was ≡ was) → IsSo n old
      → new.devices.items ≡ set old.devices.items device next → next.is_lost ≡ is_lost → new.outputs ≡ old.outputs → new.notes.items.items ≡ told n old.notes → new.notes.items.cap ≡ old.notes.items.cap → new.last_scan ≡ old.last_scan → Tells n old new
  noted_so n is_lost next says silent stays_awaited stays_shown so devices is outputs notes room last = record {
    notes = notes;
    room = room;
    last = last;
    devices = λ k. ap (λ l. option_map_or (λ (d : PolledDevice). d.is_lost) (slice_get l k) false) devices
        ∙ (put_there (λ (d : PolledDevice). d.is_lost) false old.devices.items device k own next at
        ∙ (ap (λ b. if k == device then b else lost_at old k) is ∙ sym (says k (lost_at old k))));
    outputs = λ k. ap (λ o. told_at o.items k) outputs ∙ sym (silent k (state_at old k));
    awaited = λ k. same_awaited old new outputs k ∙ sym (stays_awaited k (awaits_at old k));
    differs = λ k. same_differs old new outputs k ∙ sym (stays_shown k (differs_at old k));
    compares = same_compares old new outputs;
    so = so;
  }

  pub lost_goes : (loss : Loss) (was : Bool) → own.is_lost ≡ was → new.devices.items ≡ set old.devices.items device (lost_by loss own) → new.outputs ≡ old.outputs → new.notes.items.items ≡ told_if (not was) (note.Lost device loss) old.notes
      → new.notes.items.cap ≡ old.notes.items.cap → new.last_scan ≡ old.last_scan → LosesBy (IsLost device loss) old new
  lost_goes loss true was devices outputs notes room last may has = device_goes (lost_by loss own) devices (sym was) outputs notes room last may
  lost_goes loss false was devices outputs notes room last may has = lost_step device loss old new (noted_so (note.Lost device loss) true (lost_by loss own) (λ k b. refl) (λ k b. refl) (λ k b. refl) (λ k b. refl) tt devices refl outputs notes room last) may has

  pub found_goes : (next : PolledDevice) → new.devices.items ≡ set old.devices.items device next → next.is_lost ≡ false → new.outputs ≡ old.outputs → new.notes.items.items ≡ told (note.Found device) old.notes → new.notes.items.cap ≡ old.notes.items.cap → new.last_scan ≡ old.last_scan → Goes old new
  found_goes next devices is outputs notes room last = told_step (note.Found device) old new (λ may. refl) (noted_so (note.Found device) false next (λ k b. refl) (λ k b. refl) (λ k b. refl) (λ k b. refl) tt devices is outputs notes room last)

  pub back_goes : (next : PolledDevice) → new.devices.items ≡ set old.devices.items device next → next.is_lost ≡ false → new.outputs ≡ old.outputs → new.notes.items.items ≡ told (note.Back device) old.notes → new.notes.items.cap ≡ old.notes.items.cap → new.last_scan ≡ old.last_scan → Goes old new
  back_goes next devices is outputs notes room last = told_step (note.Back device) old new (λ may. refl) (noted_so (note.Back device) false next (λ k b. refl) (λ k b. refl) (λ k b. refl) (λ k b. refl) tt devices is outputs notes room last)

pub was_by : (b c : Bool) → not b ≡ c → b ≡ not c
was_by true true is = absurd (cc)
was_by true false is = refl
was_by false true is = refl
was_by false false is = absurd (cc)

pub loses_so : (old new : DeviceSide) (device : ℕ) (found : PolledDevice) (loss : Loss) (own : PolledDevice) → slice_get old.devices.items device ≡ Some found → slice_get old.devices.items device ≡ Some own → found.is_lost ≡ true
    → new.devices.items ≡ set old.devices.items device (lost_by loss found) → new.notes.items.items ≡ old.notes.items.items → Loses device loss own old new
loses_so old new device found loss own at there was devices notes = subst (λ (x : PolledDevice). Loses device loss x old new) (same_of (sym at ∙ there)) (record {
  stands = devices;
  tells = notes ∙ ap (λ b. told_if (not b) (note.Lost device loss) old.notes) (sym was);
})
  where
    same_of : {a b : PolledDevice} → Some a ≡ Some b → a ≡ b
    same_of e = cc

not_lost : (lost mapped : Bool) → (lost && mapped) ≡ true → (lost && not mapped) ≡ false
not_lost true true is = refl
not_lost true false is = absurd (cc)
not_lost false mapped is = refl

still_so : (lost mapped : Bool) → (lost && mapped) ≡ false → (lost && not mapped) ≡ lost
still_so true true is = absurd (cc)
still_so true false is = refl
still_so false mapped is = refl

pub heard_goes : (old new : DeviceSide) (device : ℕ) (own : PolledDevice) → slice_get old.devices.items device ≡ Some own → (is_mapped back : Bool) → (own.is_lost && is_mapped) ≡ back
    → new.devices.items ≡ set old.devices.items device (heard_by is_mapped own) → new.outputs ≡ old.outputs → new.notes.items.items ≡ told_if back (note.Back device) old.notes → new.notes.items.cap ≡ old.notes.items.cap → new.last_scan ≡ old.last_scan → Goes old new
heard_goes old new device own at is_mapped true is devices outputs notes room last = back_goes old new device own at (heard_by is_mapped own) devices (not_lost own.is_lost is_mapped is) outputs notes room last
heard_goes old new device own at is_mapped false is devices outputs notes room last = device_goes old new device own at (heard_by is_mapped own) devices (still_so own.is_lost is_mapped is) outputs notes room last

pub hears_so : (old new : DeviceSide) (device : ℕ) (found : PolledDevice) (is_mapped : Bool) (own : PolledDevice) → slice_get old.devices.items device ≡ Some found → slice_get old.devices.items device ≡ Some own → (found.is_lost && is_mapped) ≡ false
    → new.devices.items ≡ set old.devices.items device (heard_by is_mapped found) → new.notes.items.items ≡ old.notes.items.items → HearsFrom device is_mapped own old new
hears_so old new device found is_mapped own at there is devices notes = subst (λ (x : PolledDevice). HearsFrom device is_mapped x old new) (same_of (sym at ∙ there)) (record {
  stands = devices;
  tells = notes ∙ ap (λ b. told_if b (note.Back device) old.notes) (sym is);
})
  where
    same_of : {a b : PolledDevice} → Some a ≡ Some b → a ≡ b
    same_of e = cc

pub refuses_so : (old new : DeviceSide) (device : ℕ) (found : PolledDevice) (refusal : ReadRefusal) (own : PolledDevice) → slice_get old.devices.items device ≡ Some found → slice_get old.devices.items device ≡ Some own → is_more refusal found.refusals ≡ false
    → new.devices.items ≡ set old.devices.items device (refusing refusal found) → new.notes.items.items ≡ old.notes.items.items → Refuses device refusal own old new
refuses_so old new device found refusal own at there is devices notes = subst (λ (x : PolledDevice). Refuses device refusal x old new) (same_of (sym at ∙ there)) (record {
  stands = devices;
  tells = notes ∙ ap (λ b. told_if b (note.Refused device refusal) old.notes) (sym is);
})
  where
    same_of : {a b : PolledDevice} → Some a ≡ Some b → a ≡ b
    same_of e = cc

-- its map is found, as was told already
not_either : (a b : Bool) → (a || b) ≡ false → a ≡ false
not_either true b is = absurd (cc)
not_either false b is = refl

pub found_quiet : (old new : DeviceSide) (device : ℕ) (own : PolledDevice) → slice_get old.devices.items device ≡ Some own → (own.is_lost || not own.is_told) ≡ false
    → new.devices.items ≡ set old.devices.items device (found_by own) → new.outputs ≡ old.outputs → new.notes.items.items ≡ old.notes.items.items → new.notes.items.cap ≡ old.notes.items.cap → new.last_scan ≡ old.last_scan → Goes old new
found_quiet old new device own at quiet devices outputs notes room last =
    device_goes old new device own at (found_by own) devices (sym (not_either own.is_lost (not own.is_told) quiet)) outputs notes room last

pub finds_so : (old new : DeviceSide) (device : ℕ) (found own : PolledDevice) → slice_get old.devices.items device ≡ Some found → slice_get old.devices.items device ≡ Some own → (found.is_lost || not found.is_told) ≡ false
    → new.devices.items ≡ set old.devices.items device (found_by found) → new.notes.items.items ≡ old.notes.items.items → Finds device own old new
finds_so old new device found own at there quiet devices notes = subst (λ (x : PolledDevice). Finds device x old new) (same_of (sym at ∙ there)) (record {
  stands = devices;
  tells = notes ∙ ap (λ b. told_if b (note.Found device) old.notes) (sym quiet);
})
  where
    same_of : {a b : PolledDevice} → Some a ≡ Some b → a ≡ b
    same_of e = cc

-- ---- outputs

told_set : (xs : List Output) (at k : ℕ) (old new : Output) → slice_get xs at ≡ Some old → told_at (set xs at new) k ≡ (if k == at then new.told else told_at xs k)
told_set xs at k old new is = go (eqb_tells k at)
  where
    go : ((eqb k at ≡ true) × (k ≡ at)) ⊎ ((eqb k at ≡ false) × (k ≢ at)) → told_at (set xs at new) k ≡ (if k == at then new.told else told_at xs k)
    go (inl here) = ap (λ (o : Option Output). option_and_then (λ (x : Output). x.told) o) (ap (slice_get (set xs at new)) here.1 ∙ set_there xs at old new is) ∙ sym (chosen (eqb k at) new.told (told_at xs k) here.0)
    go (inr away) = ap (λ (o : Option Output). option_and_then (λ (x : Output). x.told) o) (set_other xs at k new away.1) ∙ sym (left_out (eqb k at) new.told (told_at xs k) away.0)

told_same : (xs : List Output) (at k : ℕ) (old : Output) → slice_get xs at ≡ Some old → (if k == at then old.told else told_at xs k) ≡ told_at xs k
told_same xs at k old is = go (eqb_tells k at)
  where
    go : ((eqb k at ≡ true) × (k ≡ at)) ⊎ ((eqb k at ≡ false) × (k ≢ at)) → (if k == at then old.told else told_at xs k) ≡ told_at xs k
    go (inl here) = chosen (eqb k at) old.told (told_at xs k) here.0 ∙ sym (ap (λ (o : Option Output). option_and_then (λ (x : Output). x.told) o) (ap (slice_get xs) here.1 ∙ is))
    go (inr away) = left_out (eqb k at) old.told (told_at xs k) away.0

pub state_there : (xs : List Output) (at : ℕ) (old new : Output) (s : OutputState) → slice_get xs at ≡ Some old → new.told ≡ Some s → told_at (set xs at new) at ≡ Some s
state_there xs at old new s is told_so = ap (λ (o : Option Output). option_and_then (λ (x : Output). x.told) o) (set_there xs at old new is) ∙ told_so

-- whether it differs and whether it is compared, where one output changes
differs_set : (old new : DeviceSide) (output : ℕ) (own next : Output) → slice_get old.outputs.items output ≡ Some own → new.outputs.items ≡ set old.outputs.items output next → (k : ℕ) → differs_at new k ≡ (if k == output then is_some next.differs else differs_at old k)
differs_set old new output own next at outputs k = ap (λ l. option_map_or (λ (o : Output). is_some o.differs) (slice_get l k) false) outputs ∙ put_there (λ (o : Output). is_some o.differs) false old.outputs.items output k own next at

compares_kept : (old new : DeviceSide) (output : ℕ) (own next : Output) → slice_get old.outputs.items output ≡ Some own → new.outputs.items ≡ set old.outputs.items output next → next.is_read_back ≡ own.is_read_back → (k : ℕ) → compares_at new k ≡ compares_at old k
compares_kept old new output own next at outputs same k = ap (λ l. option_map_or (λ (o : Output). o.is_read_back) (slice_get l k) false) outputs
    ∙ (put_there (λ (o : Output). o.is_read_back) false old.outputs.items output k own next at
    ∙ (ap (λ b. if k == output then b else compares_at old k) same ∙ put_same (λ (o : Output). o.is_read_back) false old.outputs.items output k own at))

differs_kept : (old new : DeviceSide) (output : ℕ) (own next : Output) → slice_get old.outputs.items output ≡ Some own → new.outputs.items ≡ set old.outputs.items output next → is_some next.differs ≡ is_some own.differs → (k : ℕ) → differs_at new k ≡ differs_at old k
differs_kept old new output own next at outputs same k = differs_set old new output own next at outputs k
    ∙ (ap (λ b. if k == output then b else differs_at old k) same ∙ put_same (λ (o : Output). is_some o.differs) false old.outputs.items output k own at)

-- whether its write is waited for, where one output changes
awaited_set : (old new : DeviceSide) (output : ℕ) (own next : Output) → slice_get old.outputs.items output ≡ Some own → new.outputs.items ≡ set old.outputs.items output next → (k : ℕ) → awaits_at new k ≡ (if k == output then next.is_awaited else awaits_at old k)
awaited_set old new output own next at outputs k = ap (λ l. option_map_or (λ (o : Output). o.is_awaited) (slice_get l k) false) outputs ∙ put_there (λ (o : Output). o.is_awaited) false old.outputs.items output k own next at

if_awaited : (b was : Bool) → (if b then false else was) ≡ true → was ≡ true
if_awaited true was is = absurd (cc)
if_awaited false was is = is

settled_awaits : (old new : DeviceSide) (output : ℕ) (own next : Output) → slice_get old.outputs.items output ≡ Some own → new.outputs.items ≡ set old.outputs.items output next → next.is_awaited ≡ false → AwaitsNoMore old new
settled_awaits old new output own next at outputs over k is =
    if_awaited (k == output) (awaits_at old k) (sym (awaited_set old new output own next at outputs k ∙ ap (λ b. if k == output then b else awaits_at old k) over) ∙ is)

waiting_also : (old new : DeviceSide) (output : ℕ) (own next : Output) → slice_get old.outputs.items output ≡ Some own → new.outputs.items ≡ set old.outputs.items output next → AwaitsAlso output old new
waiting_also old new output own next at outputs k is = go (eqb_tells k output)
  where
    go : ((eqb k output ≡ true) × (k ≡ output)) ⊎ ((eqb k output ≡ false) × (k ≢ output)) → (k ≡ output) ⊎ (awaits_at old k ≡ true)
    go (inl here) = inl here.1
    go (inr away) = inr (sym (awaited_set old new output own next at outputs k ∙ left_out (eqb k output) next.is_awaited (awaits_at old k) away.0) ∙ is)

still_told : (old new : DeviceSide) (output : ℕ) (own : Output) → slice_get old.outputs.items output ≡ Some own → (next : Output) → new.outputs.items ≡ set old.outputs.items output next → next.told ≡ own.told → is_some next.differs ≡ is_some own.differs → next.is_read_back ≡ own.is_read_back
    → new.devices ≡ old.devices → new.notes.items.items ≡ old.notes.items.items → new.notes.items.cap ≡ old.notes.items.cap → new.last_scan ≡ old.last_scan → TellsNothing old new
still_told old new output own at next outputs same shown compared devices notes room last = record {
  notes = notes;
  room = room;
  last = last;
  devices = λ k. ap (λ d. option_map_or (λ (x : PolledDevice). x.is_lost) (slice_get d.items k) false) devices;
  outputs = λ k. ap (λ l. told_at l k) outputs ∙ (told_set old.outputs.items output k own next at ∙ (ap (λ t. if k == output then t else state_at old k) same ∙ told_same old.outputs.items output k own at));
  differs = differs_kept old new output own next at outputs shown;
  compares = compares_kept old new output own next at outputs compared;
}

-- of an output something else changes, where nothing of it is told: its write isn't waited for any more
pub output_goes : (old new : DeviceSide) (output : ℕ) (own : Output) → slice_get old.outputs.items output ≡ Some own → (next : Output) → new.outputs.items ≡ set old.outputs.items output next → next.told ≡ own.told → next.differs ≡ own.differs → next.is_read_back ≡ own.is_read_back → next.is_awaited ≡ false
    → new.devices ≡ old.devices → new.notes.items.items ≡ old.notes.items.items → new.notes.items.cap ≡ old.notes.items.cap → new.last_scan ≡ old.last_scan → Goes old new
output_goes old new output own at next outputs same shown compared over devices notes room last = silent_step old new (still_told old new output own at next outputs same (ap is_some shown) compared devices notes room last) (settled_awaits old new output own next at outputs over)

-- its write is waited for from now on
pub waited_goes : (old new : DeviceSide) (output : ℕ) (own : Output) → slice_get old.outputs.items output ≡ Some own → (next : Output) → new.outputs.items ≡ set old.outputs.items output next → next.told ≡ own.told → next.differs ≡ own.differs → next.is_read_back ≡ own.is_read_back
    → new.devices ≡ old.devices → new.notes.items.items ≡ old.notes.items.items → new.notes.items.cap ≡ old.notes.items.cap → new.last_scan ≡ old.last_scan → PlansBy (λ which became. ⊥) (λ which. which ≡ output) old new
waited_goes old new output own at next outputs same shown compared devices notes room last = waiting_step output old new (still_told old new output own at next outputs same (ap is_some shown) compared devices notes room last) (waiting_also old new output own next at outputs)

-- this became of it, which is told
pub settled_goes : (old new : DeviceSide) (output : ℕ) (own : Output) → slice_get old.outputs.items output ≡ Some own → (next : Output) (s : OutputState) → new.outputs.items ≡ set old.outputs.items output next → next.told ≡ Some s → next.is_awaited ≡ false → next.differs ≡ None → next.is_read_back ≡ own.is_read_back → (s ≡ state.Unwritten unwritten.Unanswered → awaits_at old output ≡ true)
    → new.devices ≡ old.devices → {n : Notice} → new.notes.items.items ≡ told n old.notes → new.notes.items.cap ≡ old.notes.items.cap → new.last_scan ≡ old.last_scan → n ≡ note_of output s → BecomesBy (IsThis output s) old new
settled_goes old new output own at next s outputs is over none compared waited devices {n = n} notes room last named = by_step (note_of output s) old new (IsThis output s) (free s) (record {
  notes = notes ∙ ap (λ m. told m old.notes) named;
  room = room;
  last = last;
  devices = λ k. ap (λ d. option_map_or (λ (x : PolledDevice). x.is_lost) (slice_get d.items k) false) devices ∙ sym (no_loss s k (lost_at old k));
  outputs = λ k. ap (λ l. told_at l k) outputs ∙ (told_set old.outputs.items output k own next at ∙ (ap (λ t. if k == output then t else state_at old k) is ∙ sym (says s k (state_at old k))));
  awaited = λ k. awaited_set old new output own next at outputs k ∙ (ap (λ b. if k == output then b else awaits_at old k) over ∙ sym (ends s k (awaits_at old k)));
  differs = λ k. differs_set old new output own next at outputs k ∙ (ap (λ b. if k == output then b else differs_at old k) (ap is_some none) ∙ sym (differs_no_more s k (differs_at old k)));
  compares = compares_kept old new output own next at outputs compared;
  so = is_so s waited;
})
  where
    differs_no_more : (x : OutputState) (k : ℕ) (was : Bool) → differs_then (note_of output x) k was ≡ (if k == output then false else was)
    differs_no_more state.Written k was = refl
    differs_no_more (state.Unwritten cause) k was = refl

    ends : (x : OutputState) (k : ℕ) (was : Bool) → awaited_then (note_of output x) k was ≡ (if k == output then false else was)
    ends state.Written k was = refl
    ends (state.Unwritten cause) k was = refl

    is_so : (x : OutputState) → (x ≡ state.Unwritten unwritten.Unanswered → awaits_at old output ≡ true) → IsSo (note_of output x) old
    is_so state.Written so = tt
    is_so (state.Unwritten unwritten.Unanswered) so = so refl
    is_so (state.Unwritten (unwritten.Refused code)) so = tt
    is_so (state.Unwritten (unwritten.NoSetPoint cause)) so = tt

    free : (x : OutputState) (may : Allowed) → ((k : ℕ) (became : OutputState) → IsThis output x k became → may.became k became ≡ true) → allows may (note_of output x) ≡ true
    free state.Written may has = has output state.Written (refl, refl)
    free (state.Unwritten cause) may has = has output (state.Unwritten cause) (refl, refl)

    no_loss : (x : OutputState) (k : ℕ) (was : Bool) → lost_then (note_of output x) k was ≡ was
    no_loss state.Written k was = refl
    no_loss (state.Unwritten cause) k was = refl

    says : (x : OutputState) (k : ℕ) (was : Option OutputState) → state_then (note_of output x) k was ≡ (if k == output then Some x else was)
    says state.Written k was = refl
    says (state.Unwritten cause) k was = refl

-- its device shows this, which is told
shown_step : (output : ℕ) (this : Shown) (old new : DeviceSide) → Tells (note_by output this) old new → ShowsBy (IsShown output this) old new
shown_step output this old new step may has from before = ∥∥₁_elim before ∥∥₁_prop (λ course. ∣ tells course (note_by output this) new (free this has) step ∣₁)
  where
    free : (x : Shown) → ((k : ℕ) (y : Shown) → IsShown output x k y → may.shows k y ≡ true) → allows may (note_by output x) ≡ true
    free shown.Same has = has output shown.Same (refl, refl)
    free (shown.Other difference) has = has output (shown.Other difference) (refl, refl)

compares_own : (old : DeviceSide) (output : ℕ) (own : Output) → slice_get old.outputs.items output ≡ Some own → compares_at old output ≡ own.is_read_back
compares_own old output own at = seen_so (λ (o : Output). o.is_read_back) false old.outputs.items output own at

differs_own : (old : DeviceSide) (output : ℕ) (own : Output) → slice_get old.outputs.items output ≡ Some own → differs_at old output ≡ is_some own.differs
differs_own old output own at = seen_so (λ (o : Output). is_some o.differs) false old.outputs.items output own at

if_true : {Y : Type 0} (b : Bool) (x y : Y) → b ≡ true → (if b then x else y) ≡ x
if_true b x y is = chosen b x y is

both_true : (a b : Bool) → (a && b) ≡ true → (a ≡ true) × (b ≡ true)
both_true true true is = (refl, refl)
both_true true false is = absurd (cc)
both_true false b is = absurd (cc)

pub shown_told : (old new : DeviceSide) (output : ℕ) (own : Output) → slice_get old.outputs.items output ≡ Some own → (this : Shown) → (own.is_read_back && turns this (is_some own.differs)) ≡ true → new.outputs.items ≡ set old.outputs.items output (showing this own)
    → new.devices ≡ old.devices → {n : Notice} → new.notes.items.items ≡ told n old.notes → new.notes.items.cap ≡ old.notes.items.cap → new.last_scan ≡ old.last_scan → n ≡ note_by output this → ShowsBy (IsShown output this) old new
shown_told old new output own at this is outputs devices {n = n} notes room last named = shown_step output this old new (record {
  notes = notes ∙ ap (λ m. told m old.notes) named;
  room = room;
  last = last;
  devices = λ k. ap (λ d. option_map_or (λ (x : PolledDevice). x.is_lost) (slice_get d.items k) false) devices ∙ sym (no_loss this k (lost_at old k));
  outputs = λ k. ap (λ l. told_at l k) outputs ∙ (told_set old.outputs.items output k own (showing this own) at ∙ (ap (λ t. if k == output then t else state_at old k) (told_kept own.is_read_back) ∙ (told_same old.outputs.items output k own at ∙ sym (says_none this k (state_at old k)))));
  awaited = λ k. awaited_set old new output own (showing this own) at outputs k ∙ (ap (λ b. if k == output then b else awaits_at old k) (awaited_kept own.is_read_back) ∙ (put_same (λ (o : Output). o.is_awaited) false old.outputs.items output k own at ∙ sym (awaits_same this k (awaits_at old k))));
  differs = λ k. differs_set old new output own (showing this own) at outputs k ∙ (ap (λ b. if k == output then b else differs_at old k) (ap (λ (o : Output). is_some o.differs) (if_true own.is_read_back _ own ((both_true own.is_read_back _ is).0))) ∙ sym (turned this k (differs_at old k)));
  compares = compares_kept old new output own (showing this own) at outputs (compared_kept own.is_read_back);
  so = is_so this is;
})
  where
    told_kept : (b : Bool) → (if b then record own { differs = difference_in this } else own).told ≡ own.told
    told_kept true = refl
    told_kept false = refl

    awaited_kept : (b : Bool) → (if b then record own { differs = difference_in this } else own).is_awaited ≡ own.is_awaited
    awaited_kept true = refl
    awaited_kept false = refl

    compared_kept : (b : Bool) → (if b then record own { differs = difference_in this } else own).is_read_back ≡ own.is_read_back
    compared_kept true = refl
    compared_kept false = refl

    no_loss : (x : Shown) (k : ℕ) (was : Bool) → lost_then (note_by output x) k was ≡ was
    no_loss shown.Same k was = refl
    no_loss (shown.Other difference) k was = refl

    says_none : (x : Shown) (k : ℕ) (was : Option OutputState) → state_then (note_by output x) k was ≡ was
    says_none shown.Same k was = refl
    says_none (shown.Other difference) k was = refl

    awaits_same : (x : Shown) (k : ℕ) (was : Bool) → awaited_then (note_by output x) k was ≡ was
    awaits_same shown.Same k was = refl
    awaits_same (shown.Other difference) k was = refl

    turned : (x : Shown) (k : ℕ) (was : Bool) → differs_then (note_by output x) k was ≡ (if k == output then is_some (difference_in x) else was)
    turned shown.Same k was = refl
    turned (shown.Other difference) k was = refl

    not_true : (b : Bool) → not b ≡ true → b ≡ false
    not_true true no_ = absurd (cc)
    not_true false no_ = refl

    is_so : (x : Shown) → (own.is_read_back && turns x (is_some own.differs)) ≡ true → IsSo (note_by output x) old
    is_so shown.Same both_are = let are = both_true own.is_read_back (is_some own.differs) both_are in (compares_own old output own at ∙ are.0, differs_own old output own at ∙ are.1)
    is_so (shown.Other difference) both_are = let are = both_true own.is_read_back (not (is_some own.differs)) both_are in (compares_own old output own at ∙ are.0, differs_own old output own at ∙ not_true (is_some own.differs) are.1)

-- it shows it as was told before, or isn't compared
pub shown_quiet : (old new : DeviceSide) (output : ℕ) (own : Output) → slice_get old.outputs.items output ≡ Some own → (this : Shown) → (own.is_read_back && turns this (is_some own.differs)) ≡ false → new.outputs.items ≡ set old.outputs.items output (showing this own)
    → new.devices ≡ old.devices → new.notes.items.items ≡ old.notes.items.items → new.notes.items.cap ≡ old.notes.items.cap → new.last_scan ≡ old.last_scan → ShowsBy (IsShown output this) old new
shown_quiet old new output own at this is outputs devices notes room last may has = silent_step old new (still_told old new output own at (showing this own) outputs (told_kept own.is_read_back) (quiet own.is_read_back this is) (compared_kept own.is_read_back) devices notes room last)
    (λ k awaits_. sym (awaited_set old new output own (showing this own) at outputs k ∙ (ap (λ b. if k == output then b else awaits_at old k) (awaited_kept own.is_read_back) ∙ put_same (λ (o : Output). o.is_awaited) false old.outputs.items output k own at)) ∙ awaits_) may
  where
    told_kept : (b : Bool) → (if b then record own { differs = difference_in this } else own).told ≡ own.told
    told_kept true = refl
    told_kept false = refl

    awaited_kept : (b : Bool) → (if b then record own { differs = difference_in this } else own).is_awaited ≡ own.is_awaited
    awaited_kept true = refl
    awaited_kept false = refl

    compared_kept : (b : Bool) → (if b then record own { differs = difference_in this } else own).is_read_back ≡ own.is_read_back
    compared_kept true = refl
    compared_kept false = refl

    still : (x : Shown) (b : Bool) → turns x b ≡ false → is_some (difference_in x) ≡ b
    still shown.Same b none = sym none
    still (shown.Other difference) true none = refl
    still (shown.Other difference) false none = absurd (cc)

    quiet : (b : Bool) (x : Shown) → (b && turns x (is_some own.differs)) ≡ false → is_some (if b then record own { differs = difference_in x } else own).differs ≡ is_some own.differs
    quiet true x none = still x (is_some own.differs) none
    quiet false x none = refl

pub put_showing : (xs : List Output) (at : ℕ) (own : Output) (this : Shown) → slice_get xs at ≡ Some own → (next : Output) → next ≡ showing this own → (k : ℕ) → slice_get (set xs at next) k ≡ (if k == at then option_map (showing this) (slice_get xs k) else slice_get xs k)
put_showing xs at own this is next same k = go (eqb_tells k at)
  where
    go : ((eqb k at ≡ true) × (k ≡ at)) ⊎ ((eqb k at ≡ false) × (k ≢ at)) → slice_get (set xs at next) k ≡ (if k == at then option_map (showing this) (slice_get xs k) else slice_get xs k)
    go (inl here) = ap (slice_get (set xs at next)) here.1 ∙ (set_there xs at own next is ∙ (ap Some same ∙ (ap (option_map (showing this)) (sym (ap (slice_get xs) here.1 ∙ is)) ∙ sym (chosen (eqb k at) (option_map (showing this) (slice_get xs k)) (slice_get xs k) here.0))))
    go (inr away) = set_other xs at k next away.1 ∙ sym (left_out (eqb k at) (option_map (showing this) (slice_get xs k)) (slice_get xs k) away.0)

pub shown_nowhere : (xs : List Output) (at : ℕ) (this : Shown) → length xs ≤ at → (k : ℕ) → slice_get xs k ≡ (if k == at then option_map (showing this) (slice_get xs k) else slice_get xs k)
shown_nowhere xs at this past k = go (eqb_tells k at)
  where
    go : ((eqb k at ≡ true) × (k ≡ at)) ⊎ ((eqb k at ≡ false) × (k ≢ at)) → slice_get xs k ≡ (if k == at then option_map (showing this) (slice_get xs k) else slice_get xs k)
    go (inl here) =
        let none : slice_get xs k ≡ None = ap (slice_get xs) here.1 ∙ slice_get_past xs at past in
        none ∙ (ap (option_map (showing this)) (sym none) ∙ sym (chosen (eqb k at) (option_map (showing this) (slice_get xs k)) (slice_get xs k) here.0))
    go (inr away) = sym (left_out (eqb k at) (option_map (showing this) (slice_get xs k)) (slice_get xs k) away.0)

-- a note that says nothing of a device's loss or of an output
pub other_goes : (n : Notice) (old new : DeviceSide) → ((may : Allowed) → allows may n ≡ true) → ((k : ℕ) (was : Bool) → lost_then n k was ≡ was) → ((k : ℕ) (was : Option OutputState) → state_then n k was ≡ was) → ((k : ℕ) (was : Bool) → awaited_then n k was ≡ was) → ((k : ℕ) (was : Bool) → differs_then n k was ≡ was) → IsSo n old → new.devices ≡ old.devices → new.outputs ≡ old.outputs
    → new.notes.items.items ≡ told n old.notes → new.notes.items.cap ≡ old.notes.items.cap → new.last_scan ≡ old.last_scan → Goes old new
other_goes n old new allowed lost_same state_same awaited_same shown_same so devices outputs notes room last = told_step n old new allowed (record {
  notes = notes;
  room = room;
  last = last;
  devices = λ k. ap (λ d. option_map_or (λ (own : PolledDevice). own.is_lost) (slice_get d.items k) false) devices ∙ sym (lost_same k (lost_at old k));
  outputs = λ k. ap (λ o. told_at o.items k) outputs ∙ sym (state_same k (state_at old k));
  awaited = λ k. same_awaited old new outputs k ∙ sym (awaited_same k (awaits_at old k));
  differs = λ k. same_differs old new outputs k ∙ sym (shown_same k (differs_at old k));
  compares = same_compares old new outputs;
  so = so;
})

-- ---- over all calls

lost_so : (may : Allowed) (old new : DeviceSide) (course : Course may old new) (device : ℕ) → lost_at new device ≡ lost_after (happened course) device (lost_at old device)
lost_so may old new (stays side) device = refl
lost_so may old new (tells {middle = middle} course n side allowed step) device = step.devices device ∙ ap (λ was. lost_then n device was) (lost_so may old middle course device)
lost_so may old new (goes {middle = middle} course side step awaited) device = step.devices device ∙ lost_so may old middle course device
lost_so may old new (awaits {middle = middle} course which side allowed step awaited) device = step.devices device ∙ lost_so may old middle course device
lost_so may old new (scans {middle = middle} course side allowed step awaited) device = step.devices device ∙ lost_so may old middle course device

state_so : (may : Allowed) (old new : DeviceSide) (course : Course may old new) (output : ℕ) → state_at new output ≡ state_after (happened course) output (state_at old output)
state_so may old new (stays side) output = refl
state_so may old new (tells {middle = middle} course n side allowed step) output = step.outputs output ∙ ap (λ was. state_then n output was) (state_so may old middle course output)
state_so may old new (goes {middle = middle} course side step awaited) output = step.outputs output ∙ state_so may old middle course output
state_so may old new (awaits {middle = middle} course which side allowed step awaited) output = step.outputs output ∙ state_so may old middle course output
state_so may old new (scans {middle = middle} course side allowed step awaited) output = step.outputs output ∙ state_so may old middle course output

both : (a b : Bool) → a ≡ true → b ≡ true → (a && b) ≡ true
both true b is other = other
both false b is other = absurd (cc)

allowed_so : (may : Allowed) (old new : DeviceSide) (course : Course may old new) → list_all (allows may) (happened course) ≡ true
allowed_so may old new (stays side) = refl
allowed_so may old new (tells {middle = middle} course n side allowed step) = both (allows may n) (list_all (allows may) (happened course)) allowed (allowed_so may old middle course)
allowed_so may old new (goes {middle = middle} course side step awaited) = allowed_so may old middle course
allowed_so may old new (awaits {middle = middle} course which side allowed step awaited) = allowed_so may old middle course
allowed_so may old new (scans {middle = middle} course side allowed step awaited) = allowed_so may old middle course

room_so : (may : Allowed) (old new : DeviceSide) → Course may old new → new.notes.items.cap ≡ old.notes.items.cap
room_so may old new (stays side) = refl
room_so may old new (tells {middle = middle} course n side allowed step) = step.room ∙ room_so may old middle course
room_so may old new (goes {middle = middle} course side step awaited) = step.room ∙ room_so may old middle course
room_so may old new (awaits {middle = middle} course which side allowed step awaited) = step.room ∙ room_so may old middle course
room_so may old new (scans {middle = middle} course side allowed step awaited) = step.room ∙ room_so may old middle course

after_note : (n : Notice) (k : ℕ) (was : Bool) → awaited_then n k was ≡ true → was ≡ true
after_note (note.Unwritten which cause) k was is = if_awaited (k == which) was is
after_note (note.Written which) k was is = if_awaited (k == which) was is
after_note (note.Found which) k was is = is
after_note (note.NoMap which) k was is = is
after_note (note.Another which) k was is = is
after_note (note.Lost which cause) k was is = is
after_note (note.Back which) k was is = is
after_note (note.Refused which refusal) k was is = is
after_note (note.Scanned report) k was is = is
after_note (note.Late by) k was is = is
after_note (note.Differs which difference) k was is = is
after_note (note.Agrees which) k was is = is

not_other : {A : Type 0} {b : Bool} → b ≡ true → b ≡ false → A
not_other yes_ none = absurd (cc)

awaited_so : (may : Allowed) (old new : DeviceSide) → Course may old new → (output : ℕ) → may.awaits output ≡ false → awaits_at new output ≡ true → awaits_at old output ≡ true
awaited_so may old new (stays side) output none is = is
awaited_so may old new (tells {middle = middle} course n side allowed step) output none is = awaited_so may old middle course output none (after_note n output (awaits_at middle output) (sym (step.awaited output) ∙ is))
awaited_so may old new (goes {middle = middle} course side step awaited) output none is = awaited_so may old middle course output none (awaited output is)
awaited_so may old new (scans {middle = middle} course side allowed step awaited) output none is = awaited_so may old middle course output none (awaited output is)
awaited_so may old new (awaits {middle = middle} course which side allowed step awaited) output none is = go (awaited output is) (awaited_so may old middle course output none)
  where
    go : (output ≡ which) ⊎ (awaits_at middle output ≡ true) → (awaits_at middle output ≡ true → awaits_at old output ≡ true) → awaits_at old output ≡ true
    go (inl same) earlier = not_other (ap may.awaits same ∙ allowed) none
    go (inr before) earlier = earlier before

-- a note of a write that wasn't waited for says nothing of the kind
not_told : (n : Notice) (side : DeviceSide) (output : ℕ) → IsSo n side → (awaits_at side output ≡ true → ⊥) → not (is_unanswered output n) ≡ true
not_told (note.Unwritten which unwritten.Unanswered) side output so none = go (eqb_tells output which)
  where
    go : ((eqb output which ≡ true) × (output ≡ which)) ⊎ ((eqb output which ≡ false) × (output ≢ which)) → not (eqb output which) ≡ true
    go (inl here) = absurd (none (ap (awaits_at side) here.1 ∙ so))
    go (inr away) = ap not away.0
not_told (note.Unwritten which (unwritten.Refused code)) side output so none = refl
not_told (note.Unwritten which (unwritten.NoSetPoint cause)) side output so none = refl
not_told (note.Written which) side output so none = refl
not_told (note.Found which) side output so none = refl
not_told (note.NoMap which) side output so none = refl
not_told (note.Another which) side output so none = refl
not_told (note.Lost which cause) side output so none = refl
not_told (note.Back which) side output so none = refl
not_told (note.Refused which refusal) side output so none = refl
not_told (note.Scanned report) side output so none = refl
not_told (note.Late by) side output so none = refl
not_told (note.Differs which difference) side output so none = refl
not_told (note.Agrees which) side output so none = refl

unanswered_so : (may : Allowed) (old new : DeviceSide) (course : Course may old new) (output : ℕ) → may.awaits output ≡ false → awaits_at old output ≡ false → list_all (λ n. not (is_unanswered output n)) (happened course) ≡ true
unanswered_so may old new (stays side) output none before = refl
unanswered_so may old new (tells {middle = middle} course n side allowed step) output none before =
    both (not (is_unanswered output n)) (list_all (λ m. not (is_unanswered output m)) (happened course)) (not_told n middle output step.so (λ is. not_other (awaited_so may old middle course output none is) before)) (unanswered_so may old middle course output none before)
unanswered_so may old new (goes {middle = middle} course side step awaited) output none before = unanswered_so may old middle course output none before
unanswered_so may old new (awaits {middle = middle} course which side allowed step awaited) output none before = unanswered_so may old middle course output none before
unanswered_so may old new (scans {middle = middle} course side allowed step awaited) output none before = unanswered_so may old middle course output none before

differs_so : (may : Allowed) (old new : DeviceSide) (course : Course may old new) (output : ℕ) → differs_at new output ≡ differs_after (happened course) output (differs_at old output)
differs_so may old new (stays side) output = refl
differs_so may old new (tells {middle = middle} course n side allowed step) output = step.differs output ∙ ap (λ was. differs_then n output was) (differs_so may old middle course output)
differs_so may old new (goes {middle = middle} course side step awaited) output = step.differs output ∙ differs_so may old middle course output
differs_so may old new (awaits {middle = middle} course which side allowed step awaited) output = step.differs output ∙ differs_so may old middle course output
differs_so may old new (scans {middle = middle} course side allowed step awaited) output = step.differs output ∙ differs_so may old middle course output

-- a note that is so is in turn
in_turn : (n : Notice) (side : DeviceSide) (output : ℕ) → IsSo n side → is_turn n output (differs_at side output) ≡ true
in_turn (note.Differs which difference) side output so = go (eqb_tells output which)
  where
    go : ((eqb output which ≡ true) × (output ≡ which)) ⊎ ((eqb output which ≡ false) × (output ≢ which)) → not (eqb output which && differs_at side output) ≡ true
    go (inl here) = ap (λ b. not (eqb output which && b)) (ap (differs_at side) here.1 ∙ so.1) ∙ never (eqb output which)
      where
        never : (b : Bool) → not (b && false) ≡ true
        never true = refl
        never false = refl
    go (inr away) = ap (λ b. not (b && differs_at side output)) away.0
in_turn (note.Agrees which) side output so = go (eqb_tells output which)
  where
    go : ((eqb output which ≡ true) × (output ≡ which)) ⊎ ((eqb output which ≡ false) × (output ≢ which)) → not (eqb output which && not (differs_at side output)) ≡ true
    go (inl here) = ap (λ b. not (eqb output which && not b)) (ap (differs_at side) here.1 ∙ so.1) ∙ never (eqb output which)
      where
        never : (b : Bool) → not (b && false) ≡ true
        never true = refl
        never false = refl
    go (inr away) = ap (λ b. not (b && not (differs_at side output))) away.0
in_turn (note.Unwritten which cause) side output so = refl
in_turn (note.Written which) side output so = refl
in_turn (note.Found which) side output so = refl
in_turn (note.NoMap which) side output so = refl
in_turn (note.Another which) side output so = refl
in_turn (note.Lost which cause) side output so = refl
in_turn (note.Back which) side output so = refl
in_turn (note.Refused which refusal) side output so = refl
in_turn (note.Scanned report) side output so = refl
in_turn (note.Late by) side output so = refl

turns_so : (may : Allowed) (old new : DeviceSide) (course : Course may old new) (output : ℕ) → are_turns (happened course) output (differs_at old output) ≡ true
turns_so may old new (stays side) output = refl
turns_so may old new (tells {middle = middle} course n side allowed step) output =
    both (is_turn n output (differs_after (happened course) output (differs_at old output))) (are_turns (happened course) output (differs_at old output)) (ap (is_turn n output) (sym (differs_so may old middle course output)) ∙ in_turn n middle output step.so) (turns_so may old middle course output)
turns_so may old new (goes {middle = middle} course side step awaited) output = turns_so may old middle course output
turns_so may old new (awaits {middle = middle} course which side allowed step awaited) output = turns_so may old middle course output
turns_so may old new (scans {middle = middle} course side allowed step awaited) output = turns_so may old middle course output

compares_so : (may : Allowed) (old new : DeviceSide) → Course may old new → (output : ℕ) → compares_at new output ≡ compares_at old output
compares_so may old new (stays side) output = refl
compares_so may old new (tells {middle = middle} course n side allowed step) output = step.compares output ∙ compares_so may old middle course output
compares_so may old new (goes {middle = middle} course side step awaited) output = step.compares output ∙ compares_so may old middle course output
compares_so may old new (awaits {middle = middle} course which side allowed step awaited) output = step.compares output ∙ compares_so may old middle course output
compares_so may old new (scans {middle = middle} course side allowed step awaited) output = step.compares output ∙ compares_so may old middle course output

-- that what a device shows of an output is compared stays, whatever is told
pub goes_compare : (old new : DeviceSide) → Goes old new → (output : ℕ) → compares_at new output ≡ compares_at old output
goes_compare old new goes_ output = ∥∥₁_elim (goes_ any old ∣ stays old ∣₁) (Bool-set _ _) (λ course. compares_so any old new course output)
  where
    any : Allowed
    any = record { lost = λ device why. true; became = λ k became. true; shows = λ k this. true; awaits = λ k. true; scanned = λ came. true }

compared_one : (old middle : DeviceSide) (n : Notice) → IsSo n middle → ((output : ℕ) → compares_at middle output ≡ compares_at old output) → IsCompared old n
compared_one old middle (note.Differs which difference) so same = sym (same which) ∙ so.0
compared_one old middle (note.Agrees which) so same = sym (same which) ∙ so.0
compared_one old middle (note.Unwritten which cause) so same = tt
compared_one old middle (note.Written which) so same = tt
compared_one old middle (note.Found which) so same = tt
compared_one old middle (note.NoMap which) so same = tt
compared_one old middle (note.Another which) so same = tt
compared_one old middle (note.Lost which cause) so same = tt
compared_one old middle (note.Back which) so same = tt
compared_one old middle (note.Refused which refusal) so same = tt
compared_one old middle (note.Scanned report) so same = tt
compared_one old middle (note.Late by) so same = tt

compared_so : (may : Allowed) (old new : DeviceSide) (course : Course may old new) → All (IsCompared old) (happened course)
compared_so may old new (stays side) = All-nil (IsCompared old)
compared_so may old new (tells {middle = middle} course n side allowed step) = All-cons (IsCompared old) n (happened course) (compared_one old middle n step.so (compares_so may old middle course)) (compared_so may old middle course)
compared_so may old new (goes {middle = middle} course side step awaited) = compared_so may old middle course
compared_so may old new (awaits {middle = middle} course which side allowed step awaited) = compared_so may old middle course
compared_so may old new (scans {middle = middle} course side allowed step awaited) = compared_so may old middle course

abbrev IsOfScan : Allowed → DeviceSide → LastScan → Type 0
IsOfScan may old came = (came ≡ old.last_scan) ⊎ (may.scanned came ≡ true)

same_scan : (report : Report) (last : LastScan) → report.steps ≡ last.steps → report.lost ≡ last.lost → record { steps = report.steps; lost = report.lost } ≡ last
same_scan report last steps lost = ap (λ n. came n report.lost) steps ∙ ap (λ n. came last.steps n) lost
  where
    came : ℕ → ℕ → LastScan
    came n m = record { steps = n; lost = m }

-- what the last scan came to is what it did at first, or what one did that is counted on the way
last_so : (may : Allowed) (old new : DeviceSide) → Course may old new → (new.last_scan ≡ old.last_scan) ⊎ (may.scanned new.last_scan ≡ true)
last_so may old new (stays side) = inl refl
last_so may old new (tells {middle = middle} course n side allowed step) = subst (IsOfScan may old) (sym step.last) (last_so may old middle course)
last_so may old new (goes {middle = middle} course side step awaited) = subst (IsOfScan may old) (sym step.last) (last_so may old middle course)
last_so may old new (awaits {middle = middle} course which side allowed step awaited) = subst (IsOfScan may old) (sym step.last) (last_so may old middle course)
last_so may old new (scans {middle = middle} course side allowed step awaited) = inr allowed

-- what a note says of a scan
reported_one : (may : Allowed) (old middle : DeviceSide) (n : Notice) → IsSo n middle → IsOfScan may old middle.last_scan → IsReported may old n
reported_one may old middle (note.Scanned report) so is = subst (IsOfScan may old) (sym (same_scan report middle.last_scan so.0 so.1)) is
reported_one may old middle (note.Unwritten which cause) so is = tt
reported_one may old middle (note.Written which) so is = tt
reported_one may old middle (note.Found which) so is = tt
reported_one may old middle (note.NoMap which) so is = tt
reported_one may old middle (note.Another which) so is = tt
reported_one may old middle (note.Lost which cause) so is = tt
reported_one may old middle (note.Back which) so is = tt
reported_one may old middle (note.Refused which refusal) so is = tt
reported_one may old middle (note.Late by) so is = tt
reported_one may old middle (note.Differs which difference) so is = tt
reported_one may old middle (note.Agrees which) so is = tt

reported_so : (may : Allowed) (old new : DeviceSide) (course : Course may old new) → All (IsReported may old) (happened course)
reported_so may old new (stays side) = All-nil (IsReported may old)
reported_so may old new (tells {middle = middle} course n side allowed step) = All-cons (IsReported may old) n (happened course) (reported_one may old middle n step.so (last_so may old middle course)) (reported_so may old middle course)
reported_so may old new (goes {middle = middle} course side step awaited) = reported_so may old middle course
reported_so may old new (awaits {middle = middle} course which side allowed step awaited) = reported_so may old middle course
reported_so may old new (scans {middle = middle} course side allowed step awaited) = reported_so may old middle course

pub states_are_by_notes : StatesAreByNotes
states_are_by_notes = record { devices = lost_so; outputs = state_so; allowed = allowed_so; room = room_so; awaited = awaited_so; unanswered = unanswered_so; reported = reported_so; last = last_so; differs = differs_so; turns = turns_so; compares = compares_so; compared = compared_so }
