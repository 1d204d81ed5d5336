-- What is under way over links goes with what is had.
use Rattle.std.proofs.Common.{◌≡◌, ◌≢◌, ◌⊎◌, inl, inr, eqb, ℕ, zero, suc, ◌≤◌, true, false, List, [], ◌∷◌, Option, None, Some, slice_get, refl, sym, ap, subst, ◌∙◌, arith}
use Rattle.std.specs.Prelude.{IfSome, option_and_then}
use Rattle.std.proofs.lemmas.Bool.Decides.{eqb_tells}
use Rattle.std.proofs.Math.Logic.{∥∥₁_elim, ∥∥₁_prop}
use Rattle.service_requests.specs.declared.request_end.RequestEnd.{RequestEnd}
use Rattle.service_requests.specs.declared.task.Task.{Task}
use Rattle.service_requests.specs.declared.task.TaskMark.TheVariants as mark
use Rattle.site_model.specs.Readings.{known_at}
use Rattle.service_parts.specs.declared.asked.Aim.{Aim}
use Rattle.service_parts.specs.declared.asked.Aim.TheVariants as aim
use Rattle.service_parts.specs.declared.asked.Asked.{Asked}
use Rattle.service_parts.specs.declared.connections.Connections.{Connections}
use Rattle.service_parts.specs.declared.device_connection.DeviceConnection.{DeviceConnection}
use Rattle.service_parts.specs.declared.limits.Limits.{Limits}
use Rattle.service_parts.specs.declared.stations.Stations.{Stations}
use Rattle.service_parts.specs.Frames as frames
use Rattle.service_parts.specs.Frames.{CourseBy, Hears, LinesGo, LinesGoAt, LinkGoes, OthersGo, OwnStep, Sends, TakesDue, begun, begun_by, due_at, left_under_way, outputs_of, times_asked}
use Rattle.service_parts.specs.Overdue.{IsTimed}
use Rattle.service_parts.proofs.Frames.{times_joined}
use Rattle.service_parts.proofs.Waited.{stands_led}
use Rattle.service.specs.declared.held_writes.HeldWrite.{HeldWrite}
use Rattle.service.specs.declared.held_writes.HeldWrites.{HeldWrites}
use Rattle.service.specs.declared.service_state.Service.{Service}
use Rattle.service.specs.declared.wish.Wish.{Wish}
use Rattle.service.specs.Having.{Has, HasMoreBy, HasOrTook, IsWithin, taken_if}
use Rattle.service.specs.Pairing.{IsHadIf, IsPaired}
use Rattle.service.specs.Together as together
use Rattle.service.specs.Together.{AllGoWith, GoTogether, GoesOver, GoesWith, MayBegin, StillGoWith, WritesGoWithWhatIsHad}
use Rattle.service.proofs.Having.{all_within, within_own}
use Rattle.service.proofs.Sent.{times_here, times_there}

-- a step that begins nothing asks for no limits
no_limits : Limits
no_limits = record { period = 0; timeout = 0; first_wait = 0; clients = 0; idle = 0; back_off_most = 0; search_again = 0 }

some_same : {X : Type 0} {o : Option X} {a b : X} → o ≡ Some a → o ≡ Some b → a ≡ b
some_same p q = cc

-- ---- what may begin

-- what is had by the one is by the other
pub had_by_all : (companions : List (Option ℕ)) (Holds Has_ : ℕ → HeldWrite → Type 0) → ((output : ℕ) (write : HeldWrite) → Holds output write → Has_ output write) → (number : ℕ) (made_for : Aim) → IsPaired companions Holds number made_for → IsPaired companions Has_ number made_for
had_by_all companions Holds Has_ each number (aim.Output output) paired = go (known_at companions output) paired
  where
    go : (o : Option ℕ) → IsHadIf Holds number o → IsHadIf Has_ number o
    go None is = tt
    go (Some other) is = record { write = is.write; has = each other is.write is.has; over = is.over }
had_by_all companions Holds Has_ each number (aim.Block want) paired = tt
had_by_all companions Holds Has_ each number aim.Map paired = tt

-- what goes with what is had now went with it before
pub paired_within : (first held : HeldWrites) → IsWithin first held → (number : ℕ) (made_for : Aim) → IsPaired held.companions.items (Has held) number made_for → IsPaired first.companions.items (Has first) number made_for
paired_within first held within number made_for paired =
    let all = all_within first held within in
    subst (λ (c : List (Option ℕ)). IsPaired c (Has first) number made_for) all.companions (had_by_all held.companions.items (Has held) (Has first) all.each number made_for paired)

-- a read goes with nothing
pub reads_paired : (companions : List (Option ℕ)) (Holds : ℕ → HeldWrite → Type 0) (number : ℕ) (made_for : Aim) → outputs_of made_for ≡ [] → IsPaired companions Holds number made_for
reads_paired companions Holds number (aim.Output output) reads = absurd (cc)
reads_paired companions Holds number (aim.Block want) reads = tt
reads_paired companions Holds number aim.Map reads = tt

pub reads_begin : (link : ℕ) (s : Service) (wish : Option Wish) → IfSome wish (λ w. outputs_of w.aim ≡ []) → IfSome wish (λ w. MayBegin link s w.aim)
reads_begin link s None reads = reads
reads_begin link s (Some wish) reads = λ number at. reads_paired s.held.companions.items (Has s.held) number wish.aim reads

-- what is due over the connection that a link has
pub due_begins : (link number : ℕ) (old new : Service) (wish : Option Wish) → slice_get old.lines.links.numbers.items link ≡ Some number → new.lines ≡ old.lines → new.held ≡ old.held
    → IfSome wish (λ w. IsPaired old.held.companions.items (Has old.held) number w.aim) → IfSome wish (λ w. MayBegin link new w.aim)
due_begins link number old new None at lines held due = due
due_begins link number old new (Some wish) at lines held due = λ other there.
    let same : other ≡ number = some_same there (ap (λ (l : Connections). slice_get l.links.numbers.items link) lines ∙ at) in
    let own = subst (λ n. IsPaired old.held.companions.items (Has old.held) n wish.aim) (sym same) due in
    subst (λ (h : HeldWrites). IsPaired h.companions.items (Has h) other wish.aim) (sym held) own

-- ---- what is under way after a course

-- It was before, or reads, or was made for this.
abbrev IsUnder : Aim → DeviceConnection → Asked → Type 0
IsUnder made_for old asked = (old.asked ≡ Some asked) ⊎ ((outputs_of asked.aim ≡ []) ⊎ (asked.aim ≡ made_for))

same_output : (output : ℕ) (made_for : Aim) → times_asked output (output ∷ []) ≤ times_asked output (outputs_of made_for) → aim.Output output ≡ made_for
same_output output aim.Map within = absurd (omega (arith, times_here output output [] refl, within))
same_output output (aim.Block want) within = absurd (omega (arith, times_here output output [] refl, within))
same_output output (aim.Output other) within = go (eqb_tells other output)
  where
    go : ((eqb other output ≡ true) × (other ≡ output)) ⊎ ((eqb other output ≡ false) × (other ≢ output)) → aim.Output output ≡ aim.Output other
    go (inl here) = ap aim.Output (sym here.1)
    go (inr away) = absurd (omega (arith, times_here output output [] refl, times_there output other [] away.1, within))

by_aim : (a made_for : Aim) → ((output : ℕ) → times_asked output (outputs_of a) ≤ times_asked output (outputs_of made_for)) → (outputs_of a ≡ []) ⊎ (a ≡ made_for)
by_aim aim.Map made_for within = inl refl
by_aim (aim.Block want) made_for within = inl refl
by_aim (aim.Output output) made_for within = inr (same_output output made_for (within output))

before_that : (made_for : Aim) (old middle : DeviceConnection) (asked : Asked) → (middle.asked ≡ Some asked → IsUnder made_for old asked) → IsUnder made_for middle asked → IsUnder made_for old asked
before_that made_for old middle asked before (inl is) = before is
before_that made_for old middle asked before (inr begins) = inr begins

module _ (now : ℕ) (limits : Limits) (made_for : Aim) where
  abbrev AtMost : List ℕ → Type 0
  AtMost outputs = (output : ℕ) → times_asked output outputs ≤ times_asked output (outputs_of made_for)

  by_step : (middle new : DeviceConnection) (step : OwnStep now limits middle new) → AtMost (begun_by step) → (asked : Asked) → new.asked ≡ Some asked → IsUnder made_for middle asked
  by_step middle new (frames.begins step timed) most asked is =
      let same : step.asked ≡ asked = some_same step.noted is in
      inr (subst (λ (a : Asked). (outputs_of a.aim ≡ []) ⊎ (a.aim ≡ made_for)) same (by_aim step.asked.aim made_for most))
  by_step middle new (frames.gives_up step waited) most asked is = absurd (none step.over is)
    where
      none : new.asked ≡ None → new.asked ≡ Some asked → ⊥
      none over some = cc
  by_step middle new (frames.keeps step) most asked is = inl (sym step.still ∙ is)
  by_step middle new (frames.dials step) most asked is = inl (sym (ap (λ (l : DeviceConnection). l.asked) step.same) ∙ is)

  under_way : (old new : DeviceConnection) (course : CourseBy (OwnStep now limits) old new) → AtMost (begun course) → (asked : Asked) → new.asked ≡ Some asked → IsUnder made_for old asked
  under_way old new (frames.stays line) most asked is = inl is
  under_way old new (frames.goes {middle = middle} course line step) most asked is =
      before_that made_for old middle asked (λ before. under_way old middle course (λ output. omega (arith, times_joined output (begun_by step) (begun course), most output)) asked before)
      (by_step middle new step (λ output. omega (arith, times_joined output (begun_by step) (begun course), most output)) asked is)

-- ---- what is due for one request

abbrev due_only : ℕ → List Task
due_only zero = record { device = 0; mark = mark.Due; after = None } ∷ []
due_only (suc output) = record { device = 0; mark = mark.Done; after = None } ∷ due_only output

due_here : (output : ℕ) → due_at output (due_only output) ≡ 1
due_here zero = refl
due_here (suc output) = due_here output

due_away : (output k : ℕ) → output ≢ k → due_at k (due_only output) ≡ 0
due_away zero zero away = absurd (away refl)
due_away zero (suc k) away = refl
due_away (suc output) zero away = refl
due_away (suc output) (suc k) away = due_away output k (λ same. away (ap suc same))

due_once : (output k : ℕ) → due_at k (due_only output) ≡ times_asked k (output ∷ [])
due_once output k = go (eqb_tells output k)
  where
    go : ((eqb output k ≡ true) × (output ≡ k)) ⊎ ((eqb output k ≡ false) × (output ≢ k)) → due_at k (due_only output) ≡ times_asked k (output ∷ [])
    go (inl here) = subst (λ i. due_at i (due_only output) ≡ times_asked i (output ∷ [])) here.1 (due_here output ∙ sym (times_here output output [] refl))
    go (inr away) = due_away output k away.1 ∙ sym (times_there k output [] away.1)

abbrev due_for : Aim → List Task
due_for (aim.Output output) = due_only output
due_for (aim.Block want) = []
due_for aim.Map = []

due_times : (made_for : Aim) (k : ℕ) → due_at k (due_for made_for) ≡ times_asked k (outputs_of made_for)
due_times (aim.Output output) k = due_once output k
due_times (aim.Block want) k = refl
due_times aim.Map k = refl

takes_for : (made_for : Aim) → TakesDue made_for (due_for made_for) []
takes_for made_for = record { each = λ k. omega (arith, due_times made_for k) }

-- ---- one link

-- What is under way over a line then was before, or reads, or was made for this.
abbrev LeadsTo : Aim → List DeviceConnection → ℕ → DeviceConnection → Type 0
LeadsTo made_for new link old = (line : DeviceConnection) × (slice_get new link ≡ Some line) × ((asked : Asked) → line.asked ≡ Some asked → IsUnder made_for old asked)

one_link : (now : ℕ) (limits : Limits) (made_for : Aim) (link : ℕ) (old new : List DeviceConnection) (line : DeviceConnection) → slice_get old link ≡ Some line → LinkGoes now limits link (due_for made_for) old [] new → ∥ LeadsTo made_for new link line ∥₁
one_link now limits made_for link old new line at goes =
    ∥∥₁_elim (goes (λ k. due_at k (due_for made_for)) line ∣ stands_led now limits (due_for made_for) old link line at ∣₁) ∥∥₁_prop
    (λ l. ∣ (l.line, l.there, under_way now limits made_for line l.line l.course (λ k. omega (arith, l.within k, due_times made_for k))) ∣₁)

-- the same over another link, over which nothing begins
other_link : (made_for : Aim) (link : ℕ) (old new : List DeviceConnection) (line : DeviceConnection) → slice_get new link ≡ slice_get old link → slice_get old link ≡ Some line → ∥ LeadsTo made_for new link line ∥₁
other_link made_for link old new line same at = ∣ (line, same ∙ at, λ asked is. inl is) ∣₁

-- a request may begin over the one link alone
begins_link : (now : ℕ) (limits : Limits) (made_for : Aim) (at : ℕ) (old new : List DeviceConnection) → ((link : ℕ) → LinkGoes now limits link (due_for made_for) old [] new) → ((other : ℕ) → other ≢ at → slice_get new other ≡ slice_get old other)
    → (link : ℕ) → ((link ≡ at) × ((line : DeviceConnection) → slice_get old link ≡ Some line → ∥ LeadsTo made_for new link line ∥₁)) ⊎ ((line : DeviceConnection) → slice_get old link ≡ Some line → ∥ LeadsTo aim.Map new link line ∥₁)
begins_link now limits made_for at old new goes others link = go (eqb_tells link at)
  where
    go : ((eqb link at ≡ true) × (link ≡ at)) ⊎ ((eqb link at ≡ false) × (link ≢ at)) → ((link ≡ at) × ((line : DeviceConnection) → slice_get old link ≡ Some line → ∥ LeadsTo made_for new link line ∥₁)) ⊎ ((line : DeviceConnection) → slice_get old link ≡ Some line → ∥ LeadsTo aim.Map new link line ∥₁)
    go (inl here) = inl (here.1, λ line there. one_link now limits made_for link old new line there (goes link))
    go (inr away) = inr (λ line there. other_link aim.Map link old new line (others link away.1) there)

-- ---- all links

module _ (companions : List (Option ℕ)) (Holds : ℕ → HeldWrite → Type 0) (first : List DeviceConnection) where
  abbrev Over : List ℕ → List DeviceConnection → ℕ → Type 0
  Over numbers lines link = GoesOver companions Holds first numbers lines link

  pub given : (numbers : List ℕ) (lines : List DeviceConnection) → AllGoWith companions Holds first numbers lines → (link : ℕ) (line : DeviceConnection) → slice_get first link ≡ Some line → ∥ Over numbers lines link ∥₁
  given numbers lines (together.all each) = each

  all_go : (before numbers : List ℕ) (old new : List DeviceConnection) → ((link : ℕ) → Over before old link → ∥ Over numbers new link ∥₁) → AllGoWith companions Holds first before old → AllGoWith companions Holds first numbers new
  all_go before numbers old new each were = together.all (λ link line at. ∥∥₁_elim (given before old were link line at) ∥∥₁_prop (each link))

  -- over the connection that a link still has
  still_with_it : (before numbers : List ℕ) (link : ℕ) (asked : Asked) → slice_get numbers link ≡ slice_get before link → GoesWith companions Holds first before link asked → GoesWith companions Holds first numbers link asked
  still_with_it before numbers link asked same (together.was is) = together.was is
  still_with_it before numbers link asked same (together.goes with_) = together.goes (λ number at. with_ number (sym same ∙ at))

  -- What is under way over a link then was before, or reads, or was made for this, and that goes with what is had.
  module _ (made_for : Aim) (link : ℕ) (before numbers : List ℕ) (same : slice_get numbers link ≡ slice_get before link) (goes_with : (number : ℕ) → slice_get numbers link ≡ Some number → IsPaired companions Holds number made_for) where
    by_under : (line : DeviceConnection) (asked : Asked) → ((a : Asked) → line.asked ≡ Some a → GoesWith companions Holds first before link a) → IsUnder made_for line asked → GoesWith companions Holds first numbers link asked
    by_under line asked each (inl is) = still_with_it before numbers link asked same (each asked is)
    by_under line asked each (inr (inl reads)) = together.goes (λ number at. reads_paired companions Holds number asked.aim reads)
    by_under line asked each (inr (inr made)) = together.goes (λ number at. subst (λ (a : Aim). IsPaired companions Holds number a) (sym made) (goes_with number at))

    link_goes : (old new : List DeviceConnection) → ((line : DeviceConnection) → slice_get old link ≡ Some line → ∥ LeadsTo made_for new link line ∥₁) → Over before old link → ∥ Over numbers new link ∥₁
    link_goes old new leads over = ∥∥₁_elim (leads over.line over.there) ∥∥₁_prop (λ l. ∣ record { line = l.0; there = l.1; each = λ asked is. by_under over.line asked over.each (l.2 asked is) } ∣₁)

  -- where nothing begins over a link but reads
  link_reads : (link : ℕ) (before numbers : List ℕ) → slice_get numbers link ≡ slice_get before link → (old new : List DeviceConnection) → ((line : DeviceConnection) → slice_get old link ≡ Some line → ∥ LeadsTo aim.Map new link line ∥₁) → Over before old link → ∥ Over numbers new link ∥₁
  link_reads link before numbers same = link_goes aim.Map link before numbers same (λ number at. tt)

  -- Over one link what is under way then was before, over the same connection; and nothing begins over the others.
  pub but_one : (at : ℕ) (before numbers : List ℕ) (old new : List DeviceConnection) → ((other : ℕ) → (other ≡ at → ⊥) → slice_get numbers other ≡ slice_get before other) → OthersGo at old new
      → ((line : DeviceConnection) → slice_get old at ≡ Some line → (became : DeviceConnection) × (slice_get new at ≡ Some became) × ((asked : Asked) → became.asked ≡ Some asked → (line.asked ≡ Some asked) × (slice_get numbers at ≡ slice_get before at)))
      → AllGoWith companions Holds first before old → AllGoWith companions Holds first numbers new
  but_one at before numbers old new same others own = all_go before numbers old new (λ link. go link (eqb_tells link at))
    where
      here_goes : Over before old at → ∥ Over numbers new at ∥₁
      here_goes over =
          let (became, there, was) = own over.line over.there in
          ∣ record { line = became; there = there; each = λ asked is. still_with_it before numbers at asked (was asked is).1 (over.each asked (was asked is).0) } ∣₁

      go : (link : ℕ) → ((eqb link at ≡ true) × (link ≡ at)) ⊎ ((eqb link at ≡ false) × (link ≢ at)) → Over before old link → ∥ Over numbers new link ∥₁
      go link (inl here) = subst (λ k. Over before old k → ∥ Over numbers new k ∥₁) (sym here.1) here_goes
      go link (inr away) = link_reads link before numbers (same link away.1) old new (λ line there. one_link 0 no_limits aim.Map link old new line there (others 0 no_limits link [] away.1))

  -- nothing begins
  pub none_goes : (numbers : List ℕ) (now : ℕ) (old new : List DeviceConnection) → LinesGoAt now old new → AllGoWith companions Holds first numbers old → AllGoWith companions Holds first numbers new
  none_goes numbers now old new goes = all_go numbers numbers old new (λ link. link_reads link numbers numbers refl old new (λ line there. one_link now no_limits aim.Map link old new line there (goes no_limits link [])))

-- ---- connections

module _ (held : HeldWrites) (first : List DeviceConnection) (old new : Connections) where
  abbrev Before : Type 0
  Before = AllGoWith held.companions.items (Has held) first old.links.numbers.items old.lines.items

  abbrev Then : Type 0
  Then = AllGoWith held.companions.items (Has held) first new.links.numbers.items new.lines.items

  renumbered : new.links ≡ old.links → AllGoWith held.companions.items (Has held) first old.links.numbers.items new.lines.items → Then
  renumbered links = subst (λ (n : Stations). AllGoWith held.companions.items (Has held) first n.numbers.items new.lines.items) (sym links)

  -- no write begins
  pub at_together : (now : ℕ) → new.links ≡ old.links → LinesGoAt now old.lines.items new.lines.items → Before → Then
  at_together now links goes before = renumbered links (none_goes held.companions.items (Has held) first old.links.numbers.items now old.lines.items new.lines.items goes before)

  pub all_together : new.links ≡ old.links → LinesGo old.lines.items new.lines.items → Before → Then
  all_together links goes = at_together 0 links (goes 0)

  pub same_together : new.links ≡ old.links → new.lines ≡ old.lines → Before → Then
  same_together links lines before = renumbered links (subst (λ (l : List DeviceConnection). AllGoWith held.companions.items (Has held) first old.links.numbers.items l) (items lines) before)
    where
      items : new.lines ≡ old.lines → old.lines.items ≡ new.lines.items
      items same = cc

  -- a request begins over one link that goes with what is had
  pub begun_together : (now : ℕ) (limits : Limits) (at : ℕ) (asked : Asked) → new.links ≡ old.links → IsTimed now limits asked
      → ((n : ℕ) (l : Limits) → IsTimed n l asked → (due left : List Task) → TakesDue asked.aim due left → (link : ℕ) → LinkGoes n l link due old.lines.items left new.lines.items)
      → ((other : ℕ) → (other ≡ at → ⊥) → slice_get new.lines.items other ≡ slice_get old.lines.items other)
      → ((number : ℕ) → slice_get old.links.numbers.items at ≡ Some number → IsPaired held.companions.items (Has held) number asked.aim) → Before → Then
  begun_together now limits at asked links timed goes others paired before =
      renumbered links (all_go held.companions.items (Has held) first old.links.numbers.items old.links.numbers.items old.lines.items new.lines.items (λ link. go link (begins_link now limits asked.aim at old.lines.items new.lines.items (goes now limits timed (due_for asked.aim) [] (takes_for asked.aim)) others link)) before)
    where
      go : (link : ℕ) → ((link ≡ at) × ((line : DeviceConnection) → slice_get old.lines.items link ≡ Some line → ∥ LeadsTo asked.aim new.lines.items link line ∥₁)) ⊎ ((line : DeviceConnection) → slice_get old.lines.items link ≡ Some line → ∥ LeadsTo aim.Map new.lines.items link line ∥₁)
          → GoesOver held.companions.items (Has held) first old.links.numbers.items old.lines.items link → ∥ GoesOver held.companions.items (Has held) first old.links.numbers.items new.lines.items link ∥₁
      go link (inl (here, leads)) = link_goes held.companions.items (Has held) first asked.aim link old.links.numbers.items old.links.numbers.items refl (λ number there. paired number (ap (slice_get old.links.numbers.items) (sym here) ∙ there)) old.lines.items new.lines.items leads
      go link (inr leads) = link_reads held.companions.items (Has held) first link old.links.numbers.items old.links.numbers.items refl old.lines.items new.lines.items leads

  -- a connection is a new one, over which nothing is under way; or it ended
  pub cut_together : (at : ℕ) → ((other : ℕ) → (other ≡ at → ⊥) → slice_get new.links.numbers.items other ≡ slice_get old.links.numbers.items other) → OthersGo at old.lines.items new.lines.items
      → ((line : DeviceConnection) → slice_get old.lines.items at ≡ Some line → (cut : DeviceConnection) × (slice_get new.lines.items at ≡ Some cut) × (cut.asked ≡ None)) → Before → Then
  cut_together at same others cut = but_one held.companions.items (Has held) first at old.links.numbers.items new.links.numbers.items old.lines.items new.lines.items same others
      (λ line there. let (became, is, none) = cut line there in (became, is, λ asked under. absurd (nothing became.asked asked none under)))
    where
      nothing : (o : Option Asked) (asked : Asked) → o ≡ None → o ≡ Some asked → ⊥
      nothing o asked none some = cc

  -- some of what waits was written
  pub sent_together : (at n : ℕ) → new.links ≡ old.links → OthersGo at old.lines.items new.lines.items
      → ((line : DeviceConnection) → slice_get old.lines.items at ≡ Some line → (rest : DeviceConnection) × (slice_get new.lines.items at ≡ Some rest) × Sends n line rest) → Before → Then
  sent_together at n links others sends before = renumbered links (but_one held.companions.items (Has held) first at old.links.numbers.items old.links.numbers.items old.lines.items new.lines.items (λ other away. refl) others own before)
    where
      own : (line : DeviceConnection) → slice_get old.lines.items at ≡ Some line → (became : DeviceConnection) × (slice_get new.lines.items at ≡ Some became) × ((asked : Asked) → became.asked ≡ Some asked → (line.asked ≡ Some asked) × (slice_get old.links.numbers.items at ≡ slice_get old.links.numbers.items at))
      own line there =
          let (rest, is, sent) = sends line there in
          (rest, is, λ asked under. (sym (ap (λ (l : DeviceConnection). l.asked) sent.same) ∙ under, refl))

-- ---- what is heard

still_asked : (fate : Option RequestEnd) (own : Option Asked) (asked : Asked) → left_under_way fate own ≡ Some asked → own ≡ Some asked
still_asked None own asked is = is
still_asked (Some f) own asked is = absurd (cc)

-- bytes are taken over one link: nothing begins
module _ (companions : List (Option ℕ)) (Holds : ℕ → HeldWrite → Type 0) (first : List DeviceConnection) (at : ℕ) (bytes unused : List ℕ) (fate : Option RequestEnd) (old new : Connections) where
  pub taken_together : new.links ≡ old.links → OthersGo at old.lines.items new.lines.items
      → ((line : DeviceConnection) → slice_get old.lines.items at ≡ Some line → (heard : DeviceConnection) × (slice_get new.lines.items at ≡ Some heard) × Hears bytes unused fate line heard)
      → AllGoWith companions Holds first old.links.numbers.items old.lines.items → AllGoWith companions Holds first new.links.numbers.items new.lines.items
  taken_together links others hears before =
      subst (λ (n : Stations). AllGoWith companions Holds first n.numbers.items new.lines.items) (sym links)
      (but_one companions Holds first at old.links.numbers.items old.links.numbers.items old.lines.items new.lines.items (λ other away. refl) others own before)
    where
      own : (line : DeviceConnection) → slice_get old.lines.items at ≡ Some line → (became : DeviceConnection) × (slice_get new.lines.items at ≡ Some became) × ((asked : Asked) → became.asked ≡ Some asked → (line.asked ≡ Some asked) × (slice_get old.links.numbers.items at ≡ slice_get old.links.numbers.items at))
      own line there =
          let (heard, is, hears_so) = hears line there in
          (heard, is, λ asked under. (still_asked fate line.asked asked (sym hears_so.asked ∙ under), refl))

-- ---- since the beginning of a call

-- what is under way at first
pub own_together : (companions : List (Option ℕ)) (Holds : ℕ → HeldWrite → Type 0) (numbers : List ℕ) (lines : List DeviceConnection) → AllGoWith companions Holds lines numbers lines
own_together companions Holds numbers lines = together.all (λ link line at. ∣ record { line = line; there = at; each = λ asked is. together.was (ap (option_and_then (λ (l : DeviceConnection). l.asked)) at ∙ is) } ∣₁)

-- what is had by the one is by the other
module _ (companions others : List (Option ℕ)) (Holds Has_ : ℕ → HeldWrite → Type 0) (same : others ≡ companions) (each : (output : ℕ) (write : HeldWrite) → Holds output write → Has_ output write) where
  with_all : (first : List DeviceConnection) (numbers : List ℕ) (link : ℕ) (asked : Asked) → GoesWith others Holds first numbers link asked → GoesWith companions Has_ first numbers link asked
  with_all first numbers link asked (together.was is) = together.was is
  with_all first numbers link asked (together.goes with_) = together.goes (λ number at. had_by_all companions Holds Has_ each number asked.aim (subst (λ (c : List (Option ℕ)). IsPaired c Holds number asked.aim) same (with_ number at)))

  pub all_with : (first : List DeviceConnection) (numbers : List ℕ) (lines : List DeviceConnection) → AllGoWith others Holds first numbers lines → AllGoWith companions Has_ first numbers lines
  all_with first numbers lines are = together.all (λ link line at. ∥∥₁_elim (given others Holds first numbers lines are link line at) ∥∥₁_prop
      (λ o. ∣ record { line = o.line; there = o.there; each = λ asked is. with_all first numbers link asked (o.each asked is) } ∣₁))

-- One after the other: what is under way in the end was so in between, or goes with what is had.
module _ (companions : List (Option ℕ)) (Holds : ℕ → HeldWrite → Type 0) (first middle : List DeviceConnection) (before numbers : List ℕ) (same : numbers ≡ before) (lines : List DeviceConnection) where
  after_all : (link : ℕ) (asked : Asked) (own : DeviceConnection) → slice_get middle link ≡ Some own → ((a : Asked) → own.asked ≡ Some a → GoesWith companions Holds first before link a) → GoesWith companions Holds middle numbers link asked → GoesWith companions Holds first numbers link asked
  after_all link asked own at each (together.was is) = subst (λ n. GoesWith companions Holds first n link asked) (sym same) (each asked (sym (ap (option_and_then (λ (l : DeviceConnection). l.asked)) at) ∙ is))
  after_all link asked own at each (together.goes with_) = together.goes with_

  after_over : (link : ℕ) (own : GoesOver companions Holds first before middle link) → GoesOver companions Holds middle numbers lines link → GoesOver companions Holds first numbers lines link
  after_over link own o = record { line = o.line; there = o.there; each = λ asked is. after_all link asked own.line own.there own.each (o.each asked is) }

  pub then_together : AllGoWith companions Holds first before middle → AllGoWith companions Holds middle numbers lines → AllGoWith companions Holds first numbers lines
  then_together were are = together.all (λ link line at. ∥∥₁_elim (given companions Holds first before middle were link line at) ∥∥₁_prop
      (λ own. ∥∥₁_elim (given companions Holds middle numbers lines are link own.line own.there) ∥∥₁_prop (λ o. ∣ after_over link own o ∣₁)))

-- ---- a service

-- since the beginning of a call
pub since_then : (old new : Service) → GoTogether old new → AllGoWith old.held.companions.items (Has old.held) old.lines.lines.items new.lines.links.numbers.items new.lines.lines.items
since_then old new goes = goes old.held old.lines.lines.items (within_own old.held) (own_together old.held.companions.items (Has old.held) old.lines.links.numbers.items old.lines.lines.items)

-- the same with what is taken on the way
pub none_taken : (took : ℕ → Option HeldWrite) (old new : Service) → GoTogether old new → AllGoWith old.held.companions.items (HasOrTook took old.held) old.lines.lines.items new.lines.links.numbers.items new.lines.lines.items
none_taken took old new goes = all_with old.held.companions.items old.held.companions.items (Has old.held) (HasOrTook took old.held) refl (λ output write has. inl has) old.lines.lines.items new.lines.links.numbers.items new.lines.lines.items (since_then old new goes)

-- something is taken, and then a service goes on from lines like those before
pub taken_then : (took : ℕ → Option HeldWrite) (old : Service) (middle new : Service) → HasMoreBy took old.held middle.held → middle.lines ≡ old.lines → GoTogether middle new → AllGoWith old.held.companions.items (HasOrTook took old.held) old.lines.lines.items new.lines.links.numbers.items new.lines.lines.items
taken_then took old middle new more same goes =
    let are = all_with old.held.companions.items middle.held.companions.items (Has middle.held) (HasOrTook took old.held) more.companions more.each middle.lines.lines.items new.lines.links.numbers.items new.lines.lines.items (since_then middle new goes) in
    subst (λ (l : Connections). AllGoWith old.held.companions.items (HasOrTook took old.held) l.lines.items new.lines.links.numbers.items new.lines.lines.items) same are

-- over a link that isn't there nothing is taken
pub unless_taken : (took : ℕ → Option HeldWrite) (old : HeldWrites) → ((output : ℕ) → took output ≡ None) → (output : ℕ) (write : HeldWrite) → HasOrTook took old output write → Has old output write
unless_taken took old none output write (inl has) = has
unless_taken took old none output write (inr is) = absurd (nothing (none output) is)
  where
    nothing : took output ≡ None → took output ≡ Some write → ⊥
    nothing p q = cc

-- bytes are heard, and then something is taken
pub heard_then : (companions : List (Option ℕ)) (Holds : ℕ → HeldWrite → Type 0) (at : ℕ) (bytes unused : List ℕ) (fate : Option RequestEnd) (old middle new : Connections) → middle.links ≡ old.links → OthersGo at old.lines.items middle.lines.items
    → ((line : DeviceConnection) → slice_get old.lines.items at ≡ Some line → (heard : DeviceConnection) × (slice_get middle.lines.items at ≡ Some heard) × Hears bytes unused fate line heard) → new.links ≡ middle.links
    → AllGoWith companions Holds middle.lines.items new.links.numbers.items new.lines.items → AllGoWith companions Holds old.lines.items new.links.numbers.items new.lines.items
heard_then companions Holds at bytes unused fate old middle new links others hears then_links are =
    then_together companions Holds old.lines.items middle.lines.items middle.links.numbers.items new.links.numbers.items (ap (λ (l : Stations). l.numbers.items) then_links) new.lines.items
    (taken_together companions Holds old.lines.items at bytes unused fate old middle links others hears (own_together companions Holds old.links.numbers.items old.lines.items)) are

-- where what is had now was had before, what goes with it went with it
pub still_together : (held : HeldWrites) (old : Service) (first : List DeviceConnection) (numbers : List ℕ) (lines : List DeviceConnection) → IsWithin held old.held → numbers ≡ old.lines.links.numbers.items → AllGoWith old.held.companions.items (Has old.held) old.lines.lines.items numbers lines → StillGoWith held first old → AllGoWith held.companions.items (Has held) first numbers lines
still_together held old first numbers lines within same are before =
    let all = all_within held old.held within in
    then_together held.companions.items (Has held) first old.lines.lines.items old.lines.links.numbers.items numbers same lines before
    (all_with held.companions.items old.held.companions.items (Has old.held) (Has held) all.companions all.each old.lines.lines.items numbers lines are)

-- no request is under way over a link that isn't there: nothing is taken
pub heard_none : (at : ℕ) (bytes unused : List ℕ) (told : Option RequestEnd) (asked : Option Asked) (fate : RequestEnd) (now : ℕ) (old : Service) (middle : Connections) (new : Service) → asked ≡ None → middle.links ≡ old.lines.links → OthersGo at old.lines.lines.items middle.lines.items
    → ((line : DeviceConnection) → slice_get old.lines.lines.items at ≡ Some line → (heard : DeviceConnection) × (slice_get middle.lines.items at ≡ Some heard) × Hears bytes unused told line heard) → new.lines.links ≡ middle.links
    → AllGoWith old.held.companions.items (HasOrTook (taken_if asked (Some fate) now) old.held) middle.lines.items new.lines.links.numbers.items new.lines.lines.items → GoTogether old new
heard_none at bytes unused told asked fate now old middle new none links others hears then_links are held first within before =
    let took : ℕ → Option HeldWrite = taken_if asked (Some fate) now in
    let own = all_with old.held.companions.items old.held.companions.items (HasOrTook took old.held) (Has old.held) refl (unless_taken took old.held (λ output. ap (λ (o : Option Asked). taken_if o (Some fate) now output) none)) middle.lines.items new.lines.links.numbers.items new.lines.lines.items are in
    still_together held old first new.lines.links.numbers.items new.lines.lines.items within (ap (λ (l : Stations). l.numbers.items) (then_links ∙ links))
    (heard_then old.held.companions.items (Has old.held) at bytes unused told old.lines middle new.lines links others hears then_links own) before

-- ---- over all calls

pub writes_go_with_what_is_had : WritesGoWithWhatIsHad
writes_go_with_what_is_had old new goes link line at = given old.held.companions.items (Has old.held) old.lines.lines.items new.lines.links.numbers.items new.lines.lines.items (since_then old new goes) link line at
