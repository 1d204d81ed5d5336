-- What clients ask between two scans.
use Rattle.std.proofs.Common.{◌≡◌, ℕ, Bool, true, false, true≢false, List, [], ◌∷◌, ◌++◌, Option, Result, Ok, Err, refl, sym, ap, subst, ◌∙◌}
use Rattle.modbus_frame.specs.declared.message.Exception.{Exception}
use Rattle.modbus_frame.specs.declared.message.Request.{Request}
use Rattle.modbus_frame.specs.declared.message.Request.TheVariants as request
use Rattle.modbus_frame.specs.Message.{request_of}
use Rattle.site_model.specs.declared.site.Site.{Site}
use Rattle.gateway.specs.declared.event_core.event.Event.{Event}
use Rattle.gateway.specs.declared.event_core.event.Event.TheVariants as event
use Rattle.gateway.specs.declared.event_core.event.Answer.{Answer}
use Rattle.gateway.specs.event_core.Core.{Gateway, IsSame, StepsOn}
use Rattle.gateway.specs.event_core.Driving.{Drives, TakesEvent}
use Rattle.gateway.specs.event_core.SiteRun.{Replies, Standing}
use Rattle.gateway.specs.poller.Cycle.{RunsTo}
use Rattle.gateway.proofs.Parts.{same_then}
use Rattle.commands.specs.Accepted.{most_deferred}
use Rattle.commands.specs.Clients.{AreOfClients, ClientsAsk, IsOfClients}
use Rattle.commands.proofs.StepLemmas.{IsHeld}

pub asks_nothing : (asked : Bool) (g : Gateway) → ClientsAsk asked g g
asks_nothing asked g = record { events = []; own = tt; runs = refl }

pub asks_once : (g h : Gateway) (pdu : List ℕ) (a : Answer) → StepsOn g (event.Client pdu) a h → Drives most_deferred g (event.Client pdu) h → IsSame g h → ClientsAsk true g h
asks_once g h pdu a run machine same = record { events = event.Client pdu ∷ []; own = (refl, tt); runs = (a, h, ((run, same), machine), refl) }

-- where clients are asked
pub asks_if : (asked : Bool) (g h : Gateway) → asked ≡ true → ClientsAsk true g h → ClientsAsk asked g h
asks_if asked g h on asks = subst (λ (b : Bool). ClientsAsk b g h) (sym on) asks

runs_then : (g h i : Gateway) (es fs : List Event) → RunsTo (TakesEvent most_deferred) g es h → RunsTo (TakesEvent most_deferred) h fs i → RunsTo (TakesEvent most_deferred) g (es ++ fs) i
runs_then g h i [] fs first second = subst (λ (x : Gateway). RunsTo (TakesEvent most_deferred) x fs i) (sym first) second
runs_then g h i (e ∷ es) fs (a, u, step, rest) second = (a, u, step, runs_then u h i es fs rest second)

both_own : (asked : Bool) (es fs : List Event) → AreOfClients asked es → AreOfClients asked fs → AreOfClients asked (es ++ fs)
both_own asked [] fs first second = second
both_own asked (e ∷ es) fs first second = (first.0, both_own asked es fs first.1 second)

pub asks_more : (asked : Bool) (g h i : Gateway) → ClientsAsk asked g h → ClientsAsk asked h i → ClientsAsk asked g i
asks_more asked g h i first second = record {
  events = first.events ++ second.events;
  own = both_own asked first.events second.events first.own second.own;
  runs = runs_then g h i first.events second.events first.runs second.runs;
}

-- ---- the machine's variables stay those of the site run

replied_variables : (site : Site) (s t : Standing) (pdu : List ℕ) (o : Result Request Exception) (reply : List ℕ) → Replies site s pdu o reply t → t.variables ≡ s.variables
replied_variables site s t pdu (Err e) reply is = ap (λ (x : Standing). x.variables) is.1
replied_variables site s t pdu (Ok (request.Read addr qty)) reply (r, does, said) = ap (λ (x : Standing). x.variables) does.1
replied_variables site s t pdu (Ok (request.WriteOne addr value)) reply (r, does, said) = ap (λ (x : Standing). x.variables) does.1
replied_variables site s t pdu (Ok (request.WriteMany addr words)) reply (r, does, said) = ap (λ (x : Standing). x.variables) does.1

held_client : (g : Gateway) (pdu : List ℕ) (a : Answer) (h : Gateway) → TakesEvent most_deferred g (event.Client pdu) a h → IsHeld g → IsHeld h
held_client g pdu a h ((((reply, is, replies), same)), machine) held =
    ap (λ x. x.variables) machine ∙ held ∙ sym (replied_variables g.site g.standing h.standing pdu (request_of pdu) reply replies)

held_event : (asked : Bool) (g : Gateway) (e : Event) (a : Answer) (h : Gateway) → IsOfClients asked e → TakesEvent most_deferred g e a h → IsHeld g → IsHeld h
held_event asked g (event.Client pdu) a h own step held = held_client g pdu a h step held
held_event asked g (event.Block want words) a h own step held = absurd own
held_event asked g (event.Lost want) a h own step held = absurd own
held_event asked g (event.Time ms) a h own step held = absurd own
held_event asked g event.Scan a h own step held = absurd own

held_events : (asked : Bool) (g : Gateway) (es : List Event) (h : Gateway) → AreOfClients asked es → RunsTo (TakesEvent most_deferred) g es h → IsHeld g → IsHeld h
held_events asked g [] h own runs held = subst IsHeld runs held
held_events asked g (e ∷ es) h own (a, u, step, rest) held = held_events asked u es h own.1 rest (held_event asked g e a u own.0 step held)

pub held_asked : (asked : Bool) (g h : Gateway) → ClientsAsk asked g h → IsHeld g → IsHeld h
held_asked asked g h asks held = held_events asked g asks.events h asks.own asks.runs held

same_self : (g : Gateway) → IsSame g g
same_self g = record { site = refl; maps = refl; accepted = refl }

same_events : (g : Gateway) (es : List Event) (h : Gateway) → RunsTo (TakesEvent most_deferred) g es h → IsSame g h
same_events g [] h runs = subst (IsSame g) runs (same_self g)
same_events g (e ∷ es) h (a, u, step, rest) = same_then g u h step.0.1 (same_events u es h rest)

pub same_asked : (asked : Bool) (g h : Gateway) → ClientsAsk asked g h → IsSame g h
same_asked asked g h asks = same_events g asks.events h asks.runs

-- ---- where clients aren't asked

not_of_clients : (e : Event) → IsOfClients false e → ⊥
not_of_clients (event.Client pdu) asked = true≢false (sym asked)
not_of_clients (event.Block want words) own = own
not_of_clients (event.Lost want) own = own
not_of_clients (event.Time ms) own = own
not_of_clients event.Scan own = own

unasked : (g h : Gateway) (es : List Event) → AreOfClients false es → RunsTo (TakesEvent most_deferred) g es h → g ≡ h
unasked g h [] own runs = runs
unasked g h (e ∷ es) own runs = absurd (not_of_clients e own.0)

-- nothing happens
pub not_asked : (g h : Gateway) → ClientsAsk false g h → g ≡ h
not_asked g h asks = unasked g h asks.events asks.own asks.runs
