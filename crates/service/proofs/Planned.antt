-- What is planned for outputs becomes requests, one after another.
use Rattle.std.proofs.Common.{◌≡◌, ◌≢◌, ℕ, ◌+◌, ◌<◌, ◌≤◌, ◌⊎◌, inl, inr, Bool, true, false, List, length, slice_get, slice_set, Option, None, Some, Result, Ok, Err, refl, sym, subst, ◌∙◌, arith, if◌then◌else◌}
use Rattle.std.proofs.lemmas.Option.{slice_get_within, slice_get-get_or}
use Rattle.std.proofs.Common.{get_or}
use Rattle.point_writer.specs.declared.write.Write.{Write}
use Rattle.point_writer.specs.declared.write.NoWrite.{NoWrite}
use Rattle.gateway.specs.event_core.Control.{IsPlanned}
use Rattle.gateway.specs.event_core.Core.{Gateway}
use Rattle.site_model.proofs.Entries.{set-cases}
use Rattle.service_requests.specs.declared.task.TaskMark.TheVariants as mark
use Rattle.service_requests.specs.declared.task.Task.{Task}
use Rattle.service.specs.declared.last_told.LastTold.{LastTold}
use Rattle.service.specs.Pairing.{companion_of}
use Rattle.service.specs.Rounds.{ArePlanned, PlansFollowBlocks, is_ready, task_of}
use Rattle.service_parts.proofs.Frames.{set_other}
use Rattle.service.proofs.Marks.{some_task}

-- the first tasks are planned
abbrev pub ArePlannedBelow : Gateway → List LastTold → ℕ → List Task → List Task → Type 0
ArePlannedBelow g told n before tasks = (j : ℕ) (b t : Task) → j < n → slice_get before j ≡ Some b → slice_get tasks j ≡ Some t → (p : Result Write NoWrite) × IsPlanned g j p × (t ≡ task_of (companion_of g.site j) told b p)

-- those from a place on are as they were
abbrev pub AreStill : ℕ → List Task → List Task → Type 0
AreStill n before tasks = (j : ℕ) → n ≤ j → slice_get tasks j ≡ slice_get before j

module _ (g : Gateway) (told : List LastTold) (before tasks : List Task) (i : ℕ) (plan : Result Write NoWrite) (b : Task) (at : slice_get before i ≡ Some b) where
  same_of : {x y : Task} → Some x ≡ Some y → x ≡ y
  same_of e = cc

  planned_at : ArePlannedBelow g told i before tasks → IsPlanned g i plan → (j : ℕ) (c t : Task) → j < i + 1 → slice_get before j ≡ Some c → ((j ≡ i) × (t ≡ task_of (companion_of g.site i) told b plan)) ⊎ ((j ≢ i) × (slice_get tasks j ≡ Some t))
      → (p : Result Write NoWrite) × IsPlanned g j p × (t ≡ task_of (companion_of g.site j) told c p)
  planned_at so_far planned j c t within was (inl here) =
      let P : ℕ → Type 0 = λ k. IsPlanned g k plan in
      let Q : ℕ → Type 0 = λ k. slice_get before k ≡ Some c in
      let Q_here : slice_get before i ≡ Some c = subst Q here.0 was in
      let is : b ≡ c = same_of (sym at ∙ Q_here) in
      let R : Task → Type 0 = λ x. t ≡ task_of (companion_of g.site i) told x plan in
      let S : ℕ → Type 0 = λ k. t ≡ task_of (companion_of g.site k) told c plan in
      (plan, subst P (sym here.0) planned, subst S (sym here.0) (subst R is here.1))
  planned_at so_far planned j c t within was (inr other) = so_far j c t (omega (arith, within, other.0)) was other.1

  -- one more of the first tasks is planned
  pub planned_next : (task : Task) → ArePlannedBelow g told i before tasks → IsPlanned g i plan → task ≡ task_of (companion_of g.site i) told b plan → ArePlannedBelow g told (i + 1) before (slice_set tasks i task)
  planned_next task so_far planned is j c t within was now =
      planned_at so_far planned j c t within was (set-cases tasks i (task_of (companion_of g.site i) told b plan) j t (rw (sym is) now))

pub still_next : (before tasks : List Task) (i : ℕ) (task : Task) → AreStill i before tasks → AreStill (i + 1) before (slice_set tasks i task)
still_next before tasks i task still j after = set_other tasks i j task (λ same. omega (arith, after, same)) ∙ still j (omega (arith, after))

pub planned_all : (g : Gateway) (told : List LastTold) (before tasks : List Task) (n : ℕ) → ArePlannedBelow g told n before tasks → length tasks ≤ n → ArePlanned g told before tasks
planned_all g told before tasks n so_far all j b t was at = so_far j b t (omega (arith, all, slice_get_within tasks j t at)) was at

-- ---- what becomes due

due_when_ready : (companion : Option ℕ) (told : List LastTold) (b t : Task) (w : Write) (ready : Bool) → is_ready told w.device ≡ ready → t ≡ (if ready then record { device = w.device; mark = mark.Due; after = companion } else b) → (b ≡ t → ⊥) → is_ready told t.device ≡ true
due_when_ready companion told b t w true is same other = let P : Task → Type 0 = λ x. is_ready told x.device ≡ true in subst P (sym same) is
due_when_ready companion told b t w false is same other = absurd (other (sym same))

pub plans_follow_blocks : PlansFollowBlocks
plans_follow_blocks g told before tasks sized planned i t at other due =
    let within : i < length before = omega (arith, sized, slice_get_within tasks i t at) in
    let b = get_or before i some_task in
    let was : slice_get before i ≡ Some b = slice_get-get_or before i some_task within in
    let (plan, is, task) = planned i b t was at in
    go plan task was
  where
    mark_of : (x : Task) → x ≡ record { device = 0; mark = mark.Done; after = None } → x.mark ≡ mark.Due → is_ready told x.device ≡ true
    mark_of x is due = absurd (cc)

    go : {b : Task} (plan : Result Write NoWrite) → t ≡ task_of (companion_of g.site i) told b plan → slice_get before i ≡ Some b → is_ready told t.device ≡ true
    go {b = b} (Ok w) task was = due_when_ready (companion_of g.site i) told b t w (is_ready told w.device) refl task (λ same. other (let P : Task → Type 0 = λ x. slice_get before i ≡ Some x in subst P same was))
    go (Err cause) task was = mark_of t task due
