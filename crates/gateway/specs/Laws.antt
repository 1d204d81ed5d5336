-- What is proved of the served image and of scans over a link.
-- SunSpec Device Information Model Specification, device modbus maps; IEC 61131-3 edition 2, 3.2 (one scan after another).
use Rattle.std.specs.Prelude.{◌≡◌, ◌<◌, ◌≤◌, ℕ, ℤ, List, [], ◌∷◌, ◌++◌, length, map, slice_get, Option, None, Some, Ok}
use Rattle.std.specs.List.{range_with_len}
use Rattle.register_map.specs.Layout.{Layout}
use Rattle.point_writer.specs.declared.write.Write.{Write}
use Rattle.gateway.specs.declared.poller.cycle.Report.{Report}
use Rattle.gateway.specs.declared.event_core.event.Event.TheVariants as event
use Rattle.gateway.specs.declared.event_core.event.Answer.{Answer}
use Rattle.gateway.specs.event_core.Control.{IsPlanned, SetsItsTag, steps_of}
use Rattle.gateway.specs.event_core.Core.{Gateway, RunsOn}
use Rattle.gateway.specs.event_core.Driving.{TakesEvent}
use Rattle.gateway.specs.poller.Cycle.{Scans, Turn, WritesInTurn, most_outputs}
use Rattle.gateway.specs.poller.LinkRun.{Exchange}
use Rattle.gateway.specs.poller.Polling.{Polling}
use Rattle.point_types.specs.declared.reading.Reading.{Reading}
use Rattle.site_model.specs.declared.site.Site.{Site}
use Rattle.site_model.specs.declared.tag.SiteTag.{SiteTag}
use Rattle.site_model.specs.TagView.{companion_at}
use Rattle.gateway.specs.event_core.SiteRun.{Standing, after_time}
use Rattle.gateway.specs.served.ServedImage.{IsServedImage}

-- a site, the last scan and the settings have one served image at most
abbrev pub AtMostOneServedImage : Type 0
AtMostOneServedImage = (site : Site) (outputs : List (Option ℤ)) (readings : List Reading) (sets : List (Option ℤ)) (a b : List ℕ) →
    IsServedImage site outputs readings sets a → IsServedImage site outputs readings sets b → a ≡ b

-- After a scan over a link the core stands at the site run of what came of the wanted blocks, and then of the scan.
abbrev pub ScansFollowTheSiteRun : Type 0
ScansFollowTheSiteRun = (depth : ℕ) (site : Site) (maps : List (Option Layout)) (p : Polling) (s : Gateway) (q : Polling) (t : Gateway) (report : Report) (scans : Scans (TakesEvent depth) IsPlanned steps_of site maps p s q t report) →
    (answers : List Answer) × RunsOn s ((scans.taken).events ++ event.Scan ∷ []) answers t

-- time alone takes nothing away that clients set, where no tag of the site lapses
abbrev pub SitesWithoutLapsesKeepWhatIsSet : Type 0
SitesWithoutLapsesKeepWhatIsSet = (site : Site) (ms : ℕ) (s : Standing) → ((i : ℕ) (t : SiteTag) → slice_get site.tags i ≡ Some t → t.lapse ≡ None) →
    length s.ages ≡ length site.tags → length s.sets ≡ length site.tags → (after_time site ms s).sets ≡ s.sets

abbrev pub WritesAreSetPoints : Type 0
WritesAreSetPoints = (g : Gateway) (i : ℕ) (w : Write) → i < length g.site.outs → IsPlanned g i (Ok w) → SetsItsTag g i w

-- no output's tag goes with another one
abbrev pub GoesWithNone : Site → Type 0
GoesWithNone site = (i number : ℕ) → slice_get site.outs i ≡ Some number → companion_at site.tags number ≡ None

-- Where no output goes with another one, each of them has its turn, in the order of the site.
abbrev pub SitesWithoutCompanionsWriteInOrder : Type 0
SitesWithoutCompanionsWriteInOrder = (site : Site) (turns : List Turn) (es : List Exchange) → length site.outs ≤ most_outputs → GoesWithNone site →
    WritesInTurn site turns es [] → map (λ (turn : Turn). turn.output) turns ≡ range_with_len 0 (length site.outs)
