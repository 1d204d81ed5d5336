-- One scan over a link: each wanted block is asked for, the program runs once, and what it set is written
-- (Modbus Application Protocol V1.1b3, sections 6.3, 6.6 and 6.12).
use Rattle.std.specs.Prelude.{◌≡◌, ◌⊎◌, ℕ, ◌+◌, ◌<◌, min, nat_eq, Bool, true, false, if◌then◌else◌, List, [], ◌∷◌, ◌++◌, ⊤, map, length, take, drop, slice_get, count_by, Option, None, Some, option_map, option_and_then, Result, Ok, Err}
use Rattle.std.specs.Option.{option_map_or, option_to_list}
use Rattle.modbus_frame.specs.declared.link.LinkFault.{LinkFault}
use Rattle.modbus_frame.specs.declared.message.Request.{Request}
use Rattle.modbus_frame.specs.declared.message.Request.TheVariants.{Read, WriteOne, WriteMany}
use Rattle.register_map.specs.declared.layout.Block.{Block}
use Rattle.register_map.specs.Layout.{Layout}
use Rattle.register_map.specs.Layout as layout
use Rattle.site_model.specs.declared.device.SiteDevice.{SiteDevice}
use Rattle.site_model.specs.declared.device.WriteFunction.{WriteFunction}
use Rattle.site_model.specs.declared.device.WriteFunction.TheVariants as function
use Rattle.site_model.specs.declared.site.Site.{Site}
use Rattle.site_model.specs.declared.tag.SiteTag.{SiteTag}
use Rattle.site_model.specs.Readings.{known_at}
use Rattle.site_model.specs.TagView.{companion_at}
use Rattle.site_model.specs.declared.want.Want.{Want}
use Rattle.site_model.specs.Wants.{length_of}
use Rattle.point_writer.specs.declared.write.Write.{Write}
use Rattle.point_writer.specs.declared.write.NoWrite.{NoWrite}
use Rattle.gateway.specs.declared.event_core.event.Event.{Event}
use Rattle.gateway.specs.declared.event_core.event.Event.TheVariants as event
use Rattle.gateway.specs.declared.event_core.event.Answer.{Answer}
use Rattle.gateway.specs.declared.poller.outcome.Outcome.{Outcome}
use Rattle.gateway.specs.declared.poller.outcome.Outcome.TheVariants as outcome
use Rattle.gateway.specs.declared.poller.cycle.Call.{Call}
use Rattle.gateway.specs.declared.poller.cycle.Report.{Report}
use Rattle.gateway.specs.poller.LinkRun.{Exchange}
use Rattle.gateway.specs.poller.Polling.{Polling, Talks, Fails}

-- ---- reads

-- ID, L and the registers that the device's map and the model's definition both have. A definition has at most 123 registers, so that one request reads them.
abbrev pub block_request : Block → ℕ → Request
block_request block defined = Read block.addr (min (min block.length defined) 123 + 2)

-- the request for a wanted block; none where the device hasn't the model
abbrev pub read_of : Site → List (Option Layout) → Want → Option Call
read_of site maps want =
    option_and_then (λ (device : SiteDevice).
    option_and_then (λ (found : Layout).
    option_and_then (λ (block : Block).
    option_map (λ defined. record { unit = device.unit; request = block_request block defined })
    (length_of site.lengths want.model))
    (layout.block_of found want.model))
    (known_at maps want.device))
    (slice_get site.devices want.device)

-- The words that were read are the block; after any other outcome it is lost.
abbrev pub event_by : Want → Outcome → Event
event_by want (outcome.Words words) = event.Block want words
event_by want (outcome.Exception e) = event.Lost want
event_by want outcome.Wrote = event.Lost want
event_by want outcome.Mismatch = event.Lost want
event_by want outcome.Stale = event.Lost want

-- a call went out
abbrev pub IsCall : Call → Exchange → Type 0
IsCall call e = (e.unit ≡ call.unit) × (e.request ≡ call.request)

-- What comes of a wanted block: by its request, or without one it is lost.
abbrev pub ReadsBlock : Want → Option Call → List Exchange → Event → Type 0
ReadsBlock want None es happens = (es ≡ []) × (happens ≡ event.Lost want)
ReadsBlock want (Some call) es happens = (e : Exchange) × (es ≡ e ∷ []) × IsCall call e × (happens ≡ event_by want e.outcome)

-- That was one exchange, or none.
abbrev pub TakesBlock : Want → Option Call → Polling → Event → Polling → Type 0
TakesBlock want call p happens q = (es : List Exchange) × ReadsBlock want call es happens × Talks p es q

-- The link failed at a call.
abbrev pub StopsAt : Option Call → Polling → LinkFault → Polling → Type 0
StopsAt None p fault q = ⊥
StopsAt (Some call) p fault q = Fails p call.unit call.request fault q

-- all wanted blocks, in order
abbrev pub ReadsBlocks : Site → List (Option Layout) → List Want → List Exchange → List Event → Type 0
ReadsBlocks site maps [] es events = (es ≡ []) × (events ≡ [])
ReadsBlocks site maps (want ∷ wants) es events =
    (own : List Exchange) × (others : List Exchange) × (happens : Event) × (more : List Event)
    × (es ≡ own ++ others) × (events ≡ happens ∷ more) × ReadsBlock want (read_of site maps want) own happens × ReadsBlocks site maps wants others more

-- ---- writes

-- One register goes by function 6 where the device wants that, else all go by function 16.
abbrev pub write_request : WriteFunction → ℕ → List ℕ → Request
write_request function.Single addr (word ∷ []) = WriteOne addr word
write_request other addr words = WriteMany addr words

abbrev pub write_of : List SiteDevice → Result Write NoWrite → Option Call
write_of devices (Ok w) = option_map (λ (device : SiteDevice). record { unit = device.unit; request = write_request device.write w.addr w.words }) (slice_get devices w.device)
write_of devices (Err cause) = None

-- What is to be written goes out, and nothing else.
abbrev pub WritesBy : Option Call → List Exchange → Type 0
WritesBy None es = es ≡ []
WritesBy (Some call) es = (e : Exchange) × (es ≡ e ∷ []) × IsCall call e

-- What came of it, where there was one.
abbrev pub WritesPoint : Option Call → Polling → Option Outcome → Polling → Type 0
WritesPoint call p o q = (es : List Exchange) × WritesBy call es × (map (λ (e : Exchange). e.outcome) es ≡ option_to_list o) × Talks p es q

-- ---- what is counted

abbrev pub is_lost : Event → Bool
is_lost (event.Lost want) = true
is_lost (event.Block want words) = false
is_lost (event.Time ms) = false
is_lost event.Scan = false
is_lost (event.Client pdu) = false

abbrev pub is_refusal : Outcome → Bool
is_refusal outcome.Wrote = false
is_refusal (outcome.Words words) = true
is_refusal (outcome.Exception e) = true
is_refusal outcome.Mismatch = true
is_refusal outcome.Stale = true

-- a write that is not acknowledged
abbrev pub is_refused : Exchange → Bool
is_refused e = is_refusal e.outcome

-- ---- in which order

-- as many as a site file may have
abbrev pub most_outputs : ℕ
most_outputs = 1024

abbrev pub same_tag : Option ℕ → Option ℕ → Bool
same_tag None None = true
same_tag None (Some m) = false
same_tag (Some n) None = false
same_tag (Some n) (Some m) = nat_eq n m

-- Of the outputs of these tags, numbered from i on, those whose tag goes with this one; where it is none, those that go with no other.
abbrev pub going_with : List SiteTag → (leader : Option ℕ) → (i : ℕ) → List ℕ → List ℕ
going_with tags leader i [] = []
going_with tags leader i (number ∷ numbers) =
    if same_tag leader (companion_at tags number) then i ∷ going_with tags leader (i + 1) numbers else going_with tags leader (i + 1) numbers

abbrev pub outputs_with : Site → (leader : Option ℕ) → List ℕ
outputs_with site leader = going_with site.tags leader 0 site.outs

-- The order begins with the outputs that go with no other.
abbrev pub first_order : Site → List ℕ
first_order site = take most_outputs (outputs_with site None)

-- Those that go with an output come at its end.
abbrev pub followed : Site → List ℕ → (output : ℕ) → List ℕ
followed site order output = option_map_or (λ number. take most_outputs (order ++ outputs_with site (Some number))) (slice_get site.outs output) order

-- Once the write of an output was acknowledged, those that go with it are in order too.
abbrev pub after_turn : Site → List ℕ → (output : ℕ) → (taken : Bool) → List ℕ
after_turn site order output taken = if taken then followed site order output else order

-- An output's turn: what was to be written for it, and what went out.
pub record Turn : Type 0 where
  pub output : ℕ
  pub plan : Result Write NoWrite
  pub calls : List Exchange

abbrev pub is_taken : List Exchange → Bool
is_taken [] = false
is_taken (e ∷ es) = if is_refused e then false else true

-- the same of what came of it
abbrev pub is_taken_by : Option Outcome → Bool
is_taken_by None = false
is_taken_by (Some o) = if is_refusal o then false else true

-- Turn by turn what is to be written for the next output in order goes out, and nothing else; k of these had theirs before.
-- `left` are those that are in order then, and had none.
abbrev pub TakesTurns : Site → (order : List ℕ) → (k : ℕ) → List Turn → List Exchange → (left : List ℕ) → Type 0
TakesTurns site order k [] es left = (es ≡ []) × (left ≡ drop k order)
TakesTurns site order k (turn ∷ turns) es left =
    (others : List Exchange) × (es ≡ turn.calls ++ others) × (slice_get order k ≡ Some turn.output) × WritesBy (write_of site.devices turn.plan) turn.calls
    × TakesTurns site (after_turn site order turn.output (is_taken turn.calls)) (k + 1) turns others left

-- First come the outputs that go with no other, and after an output whose write was acknowledged those that go with it.
abbrev pub WritesInTurn : Site → List Turn → List Exchange → (left : List ℕ) → Type 0
WritesInTurn site turns es left = TakesTurns site (first_order site) 0 turns es left

-- ---- the whole scan

-- `Steps` says what an event does to the core.
module _ {S : Type 0} (Steps : S → Event → Answer → S → Type 0) where
  -- events, one after another
  abbrev pub RunsTo : S → List Event → S → Type 0
  RunsTo s [] t = s ≡ t
  RunsTo s (happens ∷ events) t = (answer : Answer) × (u : S) × Steps s happens answer u × RunsTo u events t

  -- The wanted blocks were asked for, and the core took what came of them.
  pub record TakesBlocks (site : Site) (maps : List (Option Layout)) (wants : List Want) (p : Polling) (s : S) (q : Polling) (t : S) (lost : ℕ) : Type 0 where
    pub es : List Exchange
    pub events : List Event
    pub blocks : ReadsBlocks site maps wants es events
    pub talks : Talks p es q
    pub runs : RunsTo s events t
    pub counted : lost ≡ count_by is_lost events

  -- The link failed at a wanted block: the core took what came of those before it.
  pub record StopsTaking (site : Site) (maps : List (Option Layout)) (p : Polling) (s : S) (fault : LinkFault) (q : Polling) (t : S) : Type 0 where
    pub before : List Want
    pub want : Want
    pub behind : List Want
    pub split : site.wants ≡ before ++ want ∷ behind
    pub middle : Polling
    pub lost : ℕ
    pub taken : TakesBlocks site maps before p s middle t lost
    pub stops : StopsAt (read_of site maps want) middle fault q

-- `Plans` says what is to be written after the last scan for each of the site's outputs.
module _ {S : Type 0} (Plans : S → ℕ → Result Write NoWrite → Type 0) where
  -- Each turn is one of the site's outputs, with what is to be written for it.
  abbrev pub ArePlans : Site → S → List Turn → Type 0
  ArePlans site t [] = ⊤
  ArePlans site t (turn ∷ turns) = (turn.output < length site.outs) × Plans t turn.output turn.plan × ArePlans site t turns

  -- What is to be written went out in turn, but for these outputs, whose turn it is then.
  pub record WritesUpTo (site : Site) (left : List ℕ) (t : S) (p q : Polling) (writes refused : ℕ) : Type 0 where
    pub turns : List Turn
    pub planned : ArePlans site t turns
    pub es : List Exchange
    pub in_turn : WritesInTurn site turns es left
    pub talks : Talks p es q
    pub sent : writes ≡ length es
    pub unacknowledged : refused ≡ count_by is_refused es

  -- The link failed at the write for an output, whose turn it was: those before it went out.
  pub record StopsWriting (site : Site) (t : S) (p : Polling) (fault : LinkFault) (q : Polling) : Type 0 where
    pub output : ℕ
    pub within : output < length site.outs
    pub left : List ℕ
    pub middle : Polling
    pub writes : ℕ
    pub refused : ℕ
    pub written : WritesUpTo site (output ∷ left) t p middle writes refused
    pub plan : Result Write NoWrite
    pub planned : Plans t output plan
    pub stops : StopsAt (write_of site.devices plan) middle fault q

module _ {S : Type 0} (Steps : S → Event → Answer → S → Type 0) (Plans : S → ℕ → Result Write NoWrite → Type 0) where
  -- All wanted blocks, the scan, and all that is to be written.
  pub record Scans (took : S → ℕ) (site : Site) (maps : List (Option Layout)) (p : Polling) (s : S) (q : Polling) (t : S) (report : Report) : Type 0 where
    pub middle : Polling
    pub before : S
    pub taken : TakesBlocks Steps site maps site.wants p s middle before report.lost
    pub answer : Answer
    pub scan : Steps before event.Scan answer t
    pub written : WritesUpTo Plans site [] t middle q report.writes report.refused
    pub steps : report.steps ≡ took t

  -- The link failed at a write: the wanted blocks and the scan stand.
  pub record StopsBehind (site : Site) (maps : List (Option Layout)) (p : Polling) (s : S) (fault : LinkFault) (q : Polling) (t : S) : Type 0 where
    pub middle : Polling
    pub before : S
    pub lost : ℕ
    pub taken : TakesBlocks Steps site maps site.wants p s middle before lost
    pub answer : Answer
    pub scan : Steps before event.Scan answer t
    pub stops : StopsWriting Plans site t middle fault q

  -- The link failed, at a read or at a write.
  abbrev pub StopsScan : Site → List (Option Layout) → Polling → S → LinkFault → Polling → S → Type 0
  StopsScan site maps p s fault q t = StopsTaking Steps site maps p s fault q t ⊎ StopsBehind site maps p s fault q t
