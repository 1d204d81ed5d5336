-- Steps of a service lead its core and its round on.
use Rattle.std.proofs.Common.{◌≡◌, ◌≢◌, ◌⊎◌, inl, inr, ℕ, Bool, true, false, eqb, not, ◌&&◌, List, [], ◌∷◌, Option, None, Some, Result, Ok, Err, set, slice_get, refl, sym, ap, subst, ◌∙◌}
use Rattle.std.specs.Prelude.{All, IfErr, OnOk}
use Rattle.std.proofs.lemmas.Bool.Decides.{eqb_tells}
use Rattle.std.proofs.Math.Logic.{∥∥₁_elim, ∥∥₁_prop}
use Rattle.register_map.specs.Layout.{Layout}
use Rattle.site_model.specs.declared.site.Site.{Site}
use Rattle.site_model.specs.declared.want.Want.{Want}
use Rattle.modbus_frame.specs.declared.frame.Frame.{Frame}
use Rattle.scan_vm.specs.Machine.{Running}
use Rattle.verifier.specs.Verified.{HasLinks}
use Rattle.gateway.specs.declared.event_core.event.Event.{Event}
use Rattle.gateway.specs.declared.event_core.event.Event.TheVariants as event
use Rattle.gateway.specs.declared.event_core.event.Answer.TheVariants as answer
use Rattle.gateway.specs.declared.poller.outcome.Outcome.{Outcome}
use Rattle.gateway.specs.event_core.Control.{AnswersFrame}
use Rattle.gateway.specs.event_core.Core.{Gateway, adopting}
use Rattle.gateway.specs.event_core.Driving.{Happens}
use Rattle.gateway.specs.poller.Cycle.{read_of}
use Rattle.service_requests.specs.declared.request_end.RequestEnd.{RequestEnd}
use Rattle.service_requests.specs.declared.request_end.RequestEnd.TheVariants as fate
use Rattle.service_requests.specs.Guarding.{AnswersUnless, Guards, is_write}
use Rattle.service_requests.specs.Sessions.{IsChain, Turn}
use Rattle.service_parts.specs.declared.client_place.ClientPlace.{ClientPlace}
use Rattle.service_parts.specs.Answering.{is_answer}
use Rattle.service_parts.specs.Clients.{Hears}
use Rattle.service_parts.specs.declared.asked.Aim.{Aim}
use Rattle.service_parts.specs.declared.asked.Aim.TheVariants as aim
use Rattle.service_parts.specs.declared.asked.Asked.{Asked}
use Rattle.service_parts.specs.Course as core
use Rattle.service_parts.specs.Course.{Goes, GoesBy, GoesOn, IsAny, IsNew, IsOfClients, IsOfRounds, Reached}
use Rattle.service_requests.specs.Searches.{Sought}
use Rattle.service_parts.specs.Seeking.{AreOf, IsFound}
use Rattle.service_parts.specs.declared.connections.Connections.{Connections}
use Rattle.service_parts.specs.Requests.{AreRightfulBy}
use Rattle.service_parts.proofs.Rightful.{goes_further, right_adopting, right_behind_clients, right_on}
use Rattle.service.specs.declared.round.Turn as Turns
use Rattle.service.specs.declared.cycle.Cycle.{Cycle}
use Rattle.service.specs.Cycle.{Answers, AnswersIf, DevicesLeadOn, EndsOwn, Settles, stage_of}
use Rattle.service.specs.Rounds.{IsRoundFor, IsUntold, Progress, event_of, since}
use Rattle.service.specs.Stages.{Adopts, AnyStep, Asks, ClientStep, CourseBy, Ends, IsFirst, IsReached, LeadsOnBy, OpensNext, OwnStep, RoundStep, RunStep, RunsIf, RunsOnce, Scans, Skips, Stage, TakesEvent, Tells, TimeStep, Waits, loses, lacks, opens, ends, skips, scans, learns, waits, stays, goes}
use Rattle.service.proofs.Told.{of_fate}

-- ---- one step

pub one_step : (Step : Stage → Stage → Type 0) (s t : Stage) → Step s t → LeadsOnBy Step s t
one_step Step s t step from before = ∥∥₁_elim before ∥∥₁_prop (λ course. ∣ goes course t step ∣₁)

pub no_step : (Step : Stage → Stage → Type 0) (s t : Stage) → t ≡ s → LeadsOnBy Step s t
no_step Step s t same from before = subst (λ x. ∥ CourseBy Step from x ∥₁) (sym same) before

-- ---- what a step does to the core

-- an event of this kind
moved : (Kinds : Event → Type 0) (f g h : Gateway) (e : Event) → Kinds e → TakesEvent e g h → GoesBy Kinds f g → GoesBy Kinds f h
moved Kinds f g h e kind (a, one) before = core.steps before e kind a h one

same_core : (Kinds : Event → Type 0) (f g h : Gateway) → h ≡ g → GoesBy Kinds f g → GoesBy Kinds f h
same_core Kinds f g h same before = subst (GoesBy Kinds f) (sym same) before

module _ (Kinds : Event → Type 0) (all : (e : Event) → IsOfRounds e → Kinds e) where
  told_core : (f : Gateway) (s t : Stage) (i : ℕ) (o : RequestEnd) (is_new : Bool) → Tells i o is_new s t → GoesBy Kinds f s.core → GoesBy Kinds f t.core
  told_core f s t i o is_new is before = moved Kinds f s.core t.core (event_of is.want o) (all (event_of is.want o) (of_fate is.want o)) is.told before

  round_core : (f : Gateway) (s t : Stage) → RoundStep s t → GoesBy Kinds f s.core → GoesBy Kinds f t.core
  round_core f s t (loses i is) before = told_core f s t i fate.Lost false is before
  round_core f s t (lacks i is) before = told_core f s t i fate.Lost true is.told before
  round_core f s t (opens device turn is) before = same_core Kinds f s.core t.core is.core before
  round_core f s t (ends device is) before = same_core Kinds f s.core t.core is.core before
  round_core f s t (skips device is) before = same_core Kinds f s.core t.core (ap (λ (x : Stage). x.core) is) before
  round_core f s t (learns device found is) before = subst (λ (x : Stage). GoesBy Kinds f x.core) (sym is.same) (core.learns before device found is.own)

  time_core : (f : Gateway) (s t : Stage) → TimeStep s t → GoesBy Kinds f s.core → GoesBy Kinds f t.core
  time_core f s t (scans now is) before =
      let wait = event.Time (since s.round.at now) in
      let waited = moved Kinds f s.core is.waited wait (all wait tt) is.waits before in
      moved Kinds f is.waited t.core event.Scan (all event.Scan tt) is.runs waited
  time_core f s t (waits ms is) before = moved Kinds f s.core t.core (event.Time ms) (all (event.Time ms) tt) is.told before

  own_core : (f : Gateway) (s t : Stage) → OwnStep s t → GoesBy Kinds f s.core → GoesBy Kinds f t.core
  own_core f s t (inl step) before = round_core f s t step before
  own_core f s t (inr (i, o, is)) before = told_core f s t i (fate.Told o) true is before

client_core : (Kinds : Event → Type 0) → ((pdu : List ℕ) → Kinds (event.Client pdu)) → (f : Gateway) (s t : Stage) → ClientStep s t → GoesBy Kinds f s.core → GoesBy Kinds f t.core
client_core Kinds kind f s t (pdu, is) before = moved Kinds f s.core t.core (event.Client pdu) (kind pdu) is.told before

run_core : (f : Gateway) (s t : Stage) → RunStep s t → Goes f s.core → Goes f t.core
run_core f s t (inl step) before = own_core IsAny (λ e is. tt) f s t step before
run_core f s t (inr (inl step)) before = client_core IsAny (λ pdu. tt) f s t step before
run_core f s t (inr (inr step)) before = time_core IsAny (λ e is. tt) f s t step before

any_core : (f : Gateway) (s t : Stage) → AnyStep s t → GoesOn f s.core → GoesOn f t.core
any_core f s t (inl step) before = goes_further f s.core t.core before (run_core s.core s t step (core.stays s.core))
any_core f s t (inr (machine, is)) before =
    core.adopts before machine is.links t.core (subst (λ (x : Stage). Goes (adopting machine s.core) x.core) (sym is.same) (core.stays (adopting machine s.core)))

-- steps of a kind, one after another
module _ (Step : Stage → Stage → Type 0) (Kinds : Event → Type 0) (each : (f : Gateway) (s t : Stage) → Step s t → GoesBy Kinds f s.core → GoesBy Kinds f t.core) where
  course_core : (f : Gateway) (s t : Stage) → CourseBy Step s t → GoesBy Kinds f s.core → GoesBy Kinds f t.core
  course_core f s t (stays x) before = before
  course_core f s t (goes {t = middle} course u step) before = each f middle t step (course_core f s middle course before)

  leads_core : (s t : Stage) → LeadsOnBy Step s t → core.LeadsOnBy Kinds s.core t.core
  leads_core s t led from before = ∥∥₁_elim before ∥∥₁_prop (λ b. ∥∥₁_elim (led s ∣ stays s ∣₁) ∥∥₁_prop (λ course. ∣ course_core from s t course b ∣₁))

of_rounds : (e : Event) → IsOfRounds e → IsOfRounds e
of_rounds e is = is

-- whatever a service's steps are, its core's course is one of events, learned maps and programs that are put in
pub any_goes : (s t : Stage) → CourseBy AnyStep s t → GoesOn s.core t.core
any_goes s t (stays x) = core.goes (core.stays s.core)
any_goes s t (goes {t = middle} course u step) = any_core s.core middle t step (any_goes s middle course)

pub core_reached : (s : Stage) → ∥ IsReached s ∥₁ → ∥ Reached s.core ∥₁
core_reached s reached = ∥∥₁_elim reached ∥∥₁_prop (λ r. ∣ record { first = (r.first).core; opening = (r.opening).core; goes = any_goes r.first s r.course } ∣₁)

-- ---- what goes out stays rightful

pub right_rounds : (s t : Stage) (lines : Connections) → LeadsOnBy RoundStep s t → AreRightfulBy s.core lines → AreRightfulBy t.core lines
right_rounds s t lines led before = right_on s.core t.core lines (leads_core RoundStep IsOfRounds (round_core IsOfRounds of_rounds) s t led) before

pub right_time : (s t : Stage) (lines : Connections) → TimeStep s t → AreRightfulBy s.core lines → AreRightfulBy t.core lines
right_time s t lines step before = right_on s.core t.core lines (leads_core TimeStep IsOfRounds (time_core IsOfRounds of_rounds) s t (one_step TimeStep s t step)) before

pub right_scan : (s t : Stage) (now : ℕ) (lines : Connections) → Scans now s t → AreRightfulBy s.core lines → AreRightfulBy t.core lines
right_scan s t now lines is before = right_time s t lines (scans now is) before

pub right_wait : (s t : Stage) (ms : ℕ) (lines : Connections) → Waits ms s t → AreRightfulBy s.core lines → AreRightfulBy t.core lines
right_wait s t ms lines is before = right_time s t lines (waits ms is) before

pub right_own : (s t : Stage) (lines : Connections) → LeadsOnBy OwnStep s t → AreRightfulBy s.core lines → AreRightfulBy t.core lines
right_own s t lines led before = right_on s.core t.core lines (leads_core OwnStep IsOfRounds (own_core IsOfRounds of_rounds) s t led) before

pub right_clients : (s t : Stage) (lines : Connections) → LeadsOnBy ClientStep s t → AreRightfulBy s.core lines → AreRightfulBy t.core lines
right_clients s t lines led before = right_behind_clients s.core t.core lines (leads_core ClientStep IsOfClients (client_core IsOfClients (λ pdu. tt)) s t led) before

pub right_same : (s t : Stage) (lines : Connections) → t ≡ s → AreRightfulBy s.core lines → AreRightfulBy t.core lines
right_same s t lines same before = subst (λ (x : Stage). AreRightfulBy x.core lines) (sym same) before

-- ---- how a service stands was reached by its steps

pub reached_first : (s : Stage) → IsFirst s → ∥ IsReached s ∥₁
reached_first s opening = ∣ record { first = s; opening = opening; course = stays s } ∣₁

module _ (Step : Stage → Stage → Type 0) (each : (s t : Stage) → Step s t → AnyStep s t) where
  and_then : (f s t : Stage) → CourseBy AnyStep f s → CourseBy Step s t → CourseBy AnyStep f t
  and_then f s t first (stays x) = first
  and_then f s t first (goes {t = middle} course u step) = goes (and_then f s middle first course) t (each middle t step)

  reached_by : (s t : Stage) → ∥ IsReached s ∥₁ → LeadsOnBy Step s t → ∥ IsReached t ∥₁
  reached_by s t reached led = ∥∥₁_elim reached ∥∥₁_prop (λ r. ∥∥₁_elim (led s ∣ stays s ∣₁) ∥∥₁_prop (λ course. ∣ record { first = r.first; opening = r.opening; course = and_then r.first s t r.course course } ∣₁))

pub reached_rounds : (s t : Stage) → ∥ IsReached s ∥₁ → LeadsOnBy RoundStep s t → ∥ IsReached t ∥₁
reached_rounds s t reached led = reached_by RoundStep (λ x y step. inl (inl (inl step))) s t reached led

pub reached_own : (s t : Stage) → ∥ IsReached s ∥₁ → LeadsOnBy OwnStep s t → ∥ IsReached t ∥₁
reached_own s t reached led = reached_by OwnStep (λ x y step. inl (inl step)) s t reached led

pub reached_clients : (s t : Stage) → ∥ IsReached s ∥₁ → LeadsOnBy ClientStep s t → ∥ IsReached t ∥₁
reached_clients s t reached led = reached_by ClientStep (λ x y step. inl (inr (inl step))) s t reached led

reached_time : (s t : Stage) → ∥ IsReached s ∥₁ → TimeStep s t → ∥ IsReached t ∥₁
reached_time s t reached step = reached_by TimeStep (λ x y one. inl (inr (inr one))) s t reached (one_step TimeStep s t step)

pub reached_scan : (s t : Stage) (now : ℕ) → ∥ IsReached s ∥₁ → Scans now s t → ∥ IsReached t ∥₁
reached_scan s t now reached is = reached_time s t reached (scans now is)

pub reached_wait : (s t : Stage) (ms : ℕ) → ∥ IsReached s ∥₁ → Waits ms s t → ∥ IsReached t ∥₁
reached_wait s t ms reached is = reached_time s t reached (waits ms is)

pub same_stage : (s t : Stage) → t.core ≡ s.core → t.round ≡ s.round → t ≡ s
same_stage s t core_same round_same = ap (λ (g : Gateway). record { core = g; round = t.round }) core_same ∙ ap (λ (p : Progress). record { core = s.core; round = p }) round_same

-- steps of a round are steps of the service itself
rounds_own : (s t : Stage) → CourseBy RoundStep s t → CourseBy OwnStep s t
rounds_own s t (stays x) = stays s
rounds_own s t (goes {t = middle} course u step) = goes (rounds_own s middle course) t (inl step)

append_own : (f s t : Stage) → CourseBy OwnStep f s → CourseBy OwnStep s t → CourseBy OwnStep f t
append_own f s t first (stays x) = first
append_own f s t first (goes {t = middle} course u step) = goes (append_own f s middle first course) t step

pub own_of_rounds : (s t : Stage) → LeadsOnBy RoundStep s t → LeadsOnBy OwnStep s t
own_of_rounds s t led from before = ∥∥₁_elim before ∥∥₁_prop (λ b. ∥∥₁_elim (led s ∣ stays s ∣₁) ∥∥₁_prop (λ course. ∣ append_own from s t b (rounds_own s t course) ∣₁))

-- ---- what an outcome does is a step of the service

pub own_of_ends : (made_for : Aim) (device : ℕ) (o : Outcome) (s t : Stage) → EndsOwn made_for device o s t → LeadsOnBy OwnStep s t
own_of_ends (aim.Block i) device o s t (inl told) = one_step OwnStep s t (inr (i, o, told))
own_of_ends (aim.Block i) device o s t (inr (none, same)) = no_step OwnStep s t same
own_of_ends (aim.Output output) device o s t (inl (under_way, is)) = one_step OwnStep s t (inl (ends device is))
own_of_ends (aim.Output output) device o s t (inr (over, same)) = no_step OwnStep s t same
own_of_ends aim.Map device o s t same = no_step OwnStep s t same

pub own_of_answers : (asked : Asked) (o : Outcome) (old new : Cycle) → Answers asked o old new → DevicesLeadOn old new
own_of_answers asked o old new answers from before =
    own_of_rounds answers.middle (stage_of new) answers.goes from (own_of_ends asked.aim asked.device o (stage_of old) answers.middle answers.ends from before)

own_if : (b : Bool) (asked : Asked) (o : Outcome) (old new : Cycle) → AnswersIf b asked o old new → DevicesLeadOn old new
own_if true asked o old new answers = own_of_answers asked o old new answers
own_if false asked o old new led = own_of_rounds (stage_of old) (stage_of new) led

pub own_of_settles : (f : RequestEnd) (asked : Asked) (old new : Cycle) → Settles f asked old new → DevicesLeadOn old new
own_of_settles (fate.Told o) asked old new settles = own_if (is_answer o) asked o old new settles
own_of_settles fate.Lost asked old new led = own_of_rounds (stage_of old) (stage_of new) led

-- ---- what the core takes

-- the core that is kept in a box
pub takes_from : (g m : Gateway) (e : Event) (h : Gateway) → m ≡ g → TakesEvent e m h → TakesEvent e g h
takes_from g m e h same takes = subst (λ (x : Gateway). TakesEvent e x h) same takes

pub sought_for : (g h : Gateway) (searches : List Sought) → h.site ≡ g.site → AreOf g.site searches → AreOf h.site searches
sought_for g h searches same own = subst (λ (s : Site). AreOf s searches) (sym same) own

pub taken_site : (e : Event) (g h : Gateway) → TakesEvent e g h → h.site ≡ g.site
taken_site e g h (a, one) = (((one.1).0).1).site

pub round_for : (s h : Gateway) (p : Progress) → h.site ≡ s.site → IsRoundFor s.site p → IsRoundFor h.site p
round_for s h p same fits = subst (λ (x : Site). IsRoundFor x p) (sym same) fits

-- ---- clients

-- a client's request leaves the machine as it was
asked : (g : Gateway) (frame : Frame) (bytes : List ℕ) (goes_on : Bool) (h : Gateway) (answers : AnswersFrame g frame bytes goes_on h) → frame.unit ≡ g.site.unit
    → Happens g (event.Client frame.pdu) (answer.Reply answers.pdu) h
asked g frame bytes goes_on h answers unit = let (advances, still) = (answers.answers).own unit in (0, (advances, still))

pub same_site : (g : Gateway) (frame : Frame) (bytes : List ℕ) (goes_on : Bool) (h : Gateway) → AnswersFrame g frame bytes goes_on h → h.site ≡ g.site
same_site g frame bytes goes_on h answers = go (eqb_tells frame.unit g.site.unit)
  where
    go : ((eqb frame.unit g.site.unit ≡ true) × (frame.unit ≡ g.site.unit)) ⊎ ((eqb frame.unit g.site.unit ≡ false) × (frame.unit ≢ g.site.unit)) → h.site ≡ g.site
    go (inl own) = ((((answers.answers).own own.1).0).1).site
    go (inr other) = ap (λ (x : Gateway). x.site) ((answers.answers).other other.1).1

pub answered : (s t : Stage) (frame : Frame) (bytes : List ℕ) (goes_on : Bool) → AnswersFrame s.core frame bytes goes_on t.core → t.round ≡ s.round → LeadsOnBy ClientStep s t
answered s t frame bytes goes_on answers same = go (eqb_tells frame.unit s.core.site.unit)
  where
    go : ((eqb frame.unit s.core.site.unit ≡ true) × (frame.unit ≡ s.core.site.unit)) ⊎ ((eqb frame.unit s.core.site.unit ≡ false) × (frame.unit ≢ s.core.site.unit)) → LeadsOnBy ClientStep s t
    go (inl own) = one_step ClientStep s t (frame.pdu, record { told = (answer.Reply answers.pdu, asked s.core frame bytes goes_on t.core answers own.1); round = same })
    go (inr other) = no_step ClientStep s t (same_stage s t ((answers.answers).other other.1).1 same)

guarded : (refused : Bool) (s t : Stage) (frame : Frame) (bytes : List ℕ) (goes_on : Bool) → t.round ≡ s.round → AnswersUnless AnswersFrame refused s.core frame bytes goes_on t.core → LeadsOnBy ClientStep s t
guarded true s t frame bytes goes_on round (bytes_are, more, same) = no_step ClientStep s t (same_stage s t same round)
guarded false s t frame bytes goes_on round answers = answered s t frame bytes goes_on answers round

pub clients_guarded : (may_write : Bool) (s t : Stage) (frame : Frame) (bytes : List ℕ) (goes_on : Bool) → t.round ≡ s.round → Guards AnswersFrame may_write s.core frame bytes goes_on t.core → LeadsOnBy ClientStep s t
clients_guarded may_write s t frame bytes goes_on round answers = guarded (not may_write && is_write frame.pdu) s t frame bytes goes_on round answers

-- frames that are answered in a row
module _ {S : Type 0} (Answers : S → Frame → List ℕ → Bool → S → Type 0) (stage : S → Stage)
    (each : (s : S) (frame : Frame) (bytes : List ℕ) (goes_on : Bool) (t : S) → Answers s frame bytes goes_on t → LeadsOnBy ClientStep (stage s) (stage t)) where
  pub clients_chain : (s : S) (turns : List (Turn S)) (t : S) → IsChain Answers s turns t → LeadsOnBy ClientStep (stage s) (stage t)
  clients_chain s [] t same = subst (λ x. LeadsOnBy ClientStep (stage s) (stage x)) (sym same) (λ from before. before)
  clients_chain s (turn ∷ turns) t (first, (bytes, goes_on, answered), rest) =
      let here : LeadsOnBy ClientStep (stage s) (stage turn.after) = subst (λ x. LeadsOnBy ClientStep (stage x) (stage turn.after)) first (each turn.before turn.frame bytes goes_on turn.after answered) in
      λ from before. clients_chain turn.after turns t rest from (here from before)

-- bytes that are taken in a state are taken in one that equals it
pub hears_from : {S : Type 0} (Answers : S → Frame → List ℕ → Bool → S → Type 0) (now : ℕ) (s t : S) (old : ClientPlace) (bytes : List ℕ) (u : S) (new : ClientPlace)
    → s ≡ t → Hears Answers now s old bytes u new → Hears Answers now t old bytes u new
hears_from Answers now s t old bytes u new same hears = subst (λ x. Hears Answers now x old bytes u new) same hears

-- ---- the steps of a service's calls

pub goes_learns : (g : Gateway) (p : Progress) (device : ℕ) (found : Option Layout) (h : Gateway) → ∥ IsFound g.site device found ∥₁ → h ≡ record g { maps = set g.maps device found } → LeadsOnBy RoundStep (record { core = g; round = p }) (record { core = h; round = p })
goes_learns g p device found h own is from before = ∥∥₁_elim own ∥∥₁_prop (λ o.
    one_step RoundStep (record { core = g; round = p }) (record { core = h; round = p }) (learns device found (record { own = o; same = same_stage (record { core = record g { maps = set g.maps device found }; round = p }) (record { core = h; round = p }) is refl })) from before)

pub reached_learns : (g : Gateway) (p : Progress) (device : ℕ) (found : Option Layout) (h : Gateway) → ∥ IsReached (record { core = g; round = p }) ∥₁ → ∥ IsFound g.site device found ∥₁ → h ≡ record g { maps = set g.maps device found } → ∥ IsReached (record { core = h; round = p }) ∥₁
reached_learns g p device found h reached own is = reached_rounds (record { core = g; round = p }) (record { core = h; round = p }) reached (goes_learns g p device found h own is)

pub goes_opens : (s t : Stage) (device : ℕ) (turn : Turns.Turn) → OpensNext device turn s t → LeadsOnBy RoundStep s t
goes_opens s t device turn is = one_step RoundStep s t (opens device turn is)

pub goes_ends : (s t : Stage) (device : ℕ) → Ends device s t → LeadsOnBy RoundStep s t
goes_ends s t device is = one_step RoundStep s t (ends device is)

pub goes_skips : (s t : Stage) (device : ℕ) → Skips device s t → LeadsOnBy RoundStep s t
goes_skips s t device is = one_step RoundStep s t (skips device is)

pub goes_loses : (s t : Stage) (i : ℕ) → Tells i fate.Lost false s t → LeadsOnBy RoundStep s t
goes_loses s t i is = one_step RoundStep s t (loses i is)

same_want : {o : Option Want} {a b : Want} → o ≡ Some a → o ≡ Some b → a ≡ b
same_want p q = cc

pub goes_lacks : (s t : Stage) (i : ℕ) (want : Want) → slice_get s.core.site.wants i ≡ Some want → read_of s.core.site s.core.maps want ≡ None → Tells i fate.Lost true s t → LeadsOnBy RoundStep s t
goes_lacks s t i want at none is = one_step RoundStep s t (lacks i (record { told = is; none = subst (λ (w : Want). read_of s.core.site s.core.maps w ≡ None) (same_want at is.wanted) none }))

-- ---- one run of the program, amid other steps

pub runs_once : (After : Stage → Type 0) (now : ℕ) (s a b t : Stage) → LeadsOnBy RoundStep s a → Scans now a b → After b → LeadsOnBy RoundStep b t → RunsOnce After now s t
runs_once After now s a b t first is after then_on = record { before = a; first = first; scanned = b; scans = is; after = after; then_on = then_on }

pub runs_where : (due : Bool) (First After : Stage → Type 0) (now : ℕ) (s a t : Stage) → due ≡ true → LeadsOnBy RoundStep s a → RunsOnce First now a t → ((b : Stage) → First b → After b) → RunsIf due After now s t
runs_where true First After now s a t is first once so = record {
  before = once.before;
  first = λ from course. once.first from (first from course);
  scanned = once.scanned;
  scans = once.scans;
  after = so once.scanned once.after;
  then_on = once.then_on;
}
runs_where false First After now s a t is first once so = absurd (cc)

pub rests_where : (due : Bool) (After : Stage → Type 0) (now : ℕ) (s t : Stage) → due ≡ false → LeadsOnBy RoundStep s t → RunsIf due After now s t
rests_where false After now s t is led = led
rests_where true After now s t is led = absurd (cc)

pub goes_asks : (s t : Stage) (pdu : List ℕ) → Asks pdu s t → LeadsOnBy ClientStep s t
goes_asks s t pdu is = one_step ClientStep s t (pdu, is)

pub answered_in : (g m h : Gateway) (p : Progress) (frame : Frame) (bytes : List ℕ) (goes_on : Bool) → m ≡ g → AnswersFrame m frame bytes goes_on h → LeadsOnBy ClientStep (record { core = g; round = p }) (record { core = h; round = p })
answered_in g m h p frame bytes goes_on same answers = subst (λ (x : Gateway). LeadsOnBy ClientStep (record { core = x; round = p }) (record { core = h; round = p })) same (answered (record { core = m; round = p }) (record { core = h; round = p }) frame bytes goes_on answers refl)

pub answered_site : (g m h : Gateway) (frame : Frame) (bytes : List ℕ) (goes_on : Bool) → m ≡ g → AnswersFrame m frame bytes goes_on h → h.site ≡ g.site
answered_site g m h frame bytes goes_on same answers = same_site m frame bytes goes_on h answers ∙ ap (λ (x : Gateway). x.site) same

pub first_stage : (s : Stage) (g : Gateway) (p : Progress) → s.core ≡ g → s.round ≡ p → IsNew g → IsRoundFor g.site p → All IsUntold p.told → IsFirst s
first_stage s g p core round opening fits none = subst IsFirst (sym (same_stage (record { core = g; round = p }) s core round)) (record { core = opening; round = fits; none = none })

-- ---- another program is put in, or nothing changes

abbrev pub at_stage : Gateway → Progress → Stage
at_stage g p = record { core = g; round = p }

-- what came of a call that puts one in
abbrev pub IsAdopted : {A E : Type 0} → Result A E → Running → Gateway → Gateway → Type 0
IsAdopted (Ok done) machine g h = HasLinks g.site.tags machine.accepted.links × (h ≡ adopting machine g)
IsAdopted (Err fault) machine g h = h ≡ g

is_adopted : {A E : Type 0} (r : Result A E) (machine : Running) (g h : Gateway) → OnOk r (h ≡ adopting machine g) → IfErr r (λ e. h ≡ g) → OnOk r (HasLinks g.site.tags machine.accepted.links) → IsAdopted r machine g h
is_adopted (Ok done) machine g h is kept links = (links, is)
is_adopted (Err fault) machine g h is kept links = kept

module _ {A E : Type 0} (r : Result A E) (machine : Running) (g h : Gateway) (is : OnOk r (h ≡ adopting machine g)) (kept : IfErr r (λ e. h ≡ g)) (links : OnOk r (HasLinks g.site.tags machine.accepted.links)) where
  pub adopted_site : h.site ≡ g.site
  adopted_site = go r (is_adopted r machine g h is kept links)
    where
      go : (r : Result A E) → IsAdopted r machine g h → h.site ≡ g.site
      go (Ok done) (matched, same) = ap (λ (x : Gateway). x.site) same
      go (Err fault) same = ap (λ (x : Gateway). x.site) same

  pub adopted_stage : (p : Progress) → OnOk r (Adopts machine (record { core = g; round = p }) (record { core = h; round = p }))
  adopted_stage p = go r (is_adopted r machine g h is kept links)
    where
      go : (r : Result A E) → IsAdopted r machine g h → OnOk r (Adopts machine (record { core = g; round = p }) (record { core = h; round = p }))
      go (Ok done) (matched, same) = record { links = matched; same = same_stage (record { core = adopting machine g; round = p }) (record { core = h; round = p }) same refl }
      go (Err fault) same = tt

  pub adopted_reached : (p : Progress) → ∥ IsReached (record { core = g; round = p }) ∥₁ → ∥ IsReached (record { core = h; round = p }) ∥₁
  adopted_reached p reached = go r (is_adopted r machine g h is kept links)
    where
      go : (r : Result A E) → IsAdopted r machine g h → ∥ IsReached (record { core = h; round = p }) ∥₁
      go (Ok done) (matched, same) = ∥∥₁_elim reached ∥∥₁_prop (λ r. ∣ record {
        first = r.first;
        opening = r.opening;
        course = goes r.course (record { core = h; round = p }) (inr (machine, record { links = matched; same = same_stage (record { core = adopting machine g; round = p }) (record { core = h; round = p }) same refl }));
      } ∣₁)
      go (Err fault) same = subst (λ (x : Gateway). ∥ IsReached (record { core = x; round = p }) ∥₁) (sym same) reached

  pub adopted_kept : (p q : Progress) → q ≡ p → IfErr r (λ e. at_stage h q ≡ at_stage g p)
  adopted_kept p q same_round = go r kept
    where
      go : (r : Result A E) → IfErr r (λ e. h ≡ g) → IfErr r (λ e. at_stage h q ≡ at_stage g p)
      go (Ok done) is = tt
      go (Err fault) same = same_stage (record { core = g; round = p }) (record { core = h; round = q }) same same_round

pub right_adopted : {A E : Type 0} (r : Result A E) (machine : Running) (s t : Stage) (lines : Connections) → OnOk r (Adopts machine s t) → IfErr r (λ e. t ≡ s) → AreRightfulBy s.core lines → AreRightfulBy t.core lines
right_adopted (Ok done) machine s t lines is kept before = right_adopting s.core t.core lines machine is.links (ap (λ (x : Stage). x.core) is.same) before
right_adopted (Err fault) machine s t lines is kept before = right_same s t lines kept before
