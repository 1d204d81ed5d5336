-- A service of a site without outputs asks for reads alone.
use Rattle.std.proofs.Common.{◌≡◌, inl, inr, ℕ, List, [], Option, None, Some, option_map, option_and_then, slice_get, sym, ap, subst, ◌∙◌}
use Rattle.std.proofs.Math.Logic.{∥∥₁_elim, ∥∥₁_prop}
use Rattle.modbus_frame.specs.declared.message.Request.{Request}
use Rattle.modbus_frame.specs.declared.message.Request.TheVariants.{Read}
use Rattle.register_map.specs.declared.layout.Block.{Block}
use Rattle.register_map.specs.Layout.{Layout}
use Rattle.register_map.specs.Layout as layout
use Rattle.site_model.specs.declared.device.SiteDevice.{SiteDevice}
use Rattle.site_model.specs.declared.site.Site.{Site}
use Rattle.site_model.specs.declared.want.Want.{Want}
use Rattle.site_model.specs.Readings.{known_at}
use Rattle.site_model.specs.Wants.{length_of}
use Rattle.gateway.specs.declared.poller.cycle.Call.{Call}
use Rattle.gateway.specs.event_core.Core.{Gateway}
use Rattle.gateway.specs.poller.Cycle.{block_request, read_of}
use Rattle.service_parts.specs.declared.limits.Station.{Station}
use Rattle.service_parts.specs.declared.asked.Aim.{Aim}
use Rattle.service_parts.specs.declared.asked.Aim.TheVariants as aim
use Rattle.service_parts.specs.Calls.{IsCallFor}
use Rattle.service_parts.specs.Requests.{IsRest, IsRightful, MayBeAsked}
use Rattle.service.specs.Stages.{AnyStep, CourseBy, Stage}
use Rattle.service.proofs.Courses.{any_goes}
use Rattle.service.proofs.Runs.{goes_site}
use Rattle.served_site.specs.Surveying.{IsOfReads, IsRestOfRead, IsSurveyStart, SurveysAskForReadsAlone}

-- the request reads
abbrev pub IsRead : Request → Type 0
IsRead request = (address : ℕ) × (count : ℕ) × (request ≡ Read address count)

-- ---- a wanted block is read

module _ (call : Call) where
  call_to : SiteDevice → Block → ℕ → Call
  call_to device block defined = record { unit = device.unit; request = block_request block defined }

  by_length : (device : SiteDevice) (block : Block) (o : Option ℕ) → option_map (λ defined. call_to device block defined) o ≡ Some call → IsRead call.request
  unfolding call_to
  by_length device block None is = absurd (cc)
  by_length device block (Some defined) is = let same : call_to device block defined ≡ call = cc in (_, _, sym (ap (λ (c : Call). c.request) same))

  by_block : (device : SiteDevice) (defined : Option ℕ) (o : Option Block) → option_and_then (λ block. option_map (λ n. call_to device block n) defined) o ≡ Some call → IsRead call.request
  by_block device defined None is = absurd (cc)
  by_block device defined (Some block) is = by_length device block defined is

  by_map : (device : SiteDevice) (defined : Option ℕ) (model : ℕ) (o : Option Layout)
      → option_and_then (λ (found : Layout). option_and_then (λ block. option_map (λ n. call_to device block n) defined) (layout.block_of found model)) o ≡ Some call → IsRead call.request
  by_map device defined model None is = absurd (cc)
  by_map device defined model (Some found) is = by_block device defined (layout.block_of found model) is

  by_device : (defined : Option ℕ) (model : ℕ) (map : Option Layout) (o : Option SiteDevice)
      → option_and_then (λ device. option_and_then (λ (found : Layout). option_and_then (λ block. option_map (λ n. call_to device block n) defined) (layout.block_of found model)) map) o ≡ Some call → IsRead call.request
  by_device defined model map None is = absurd (cc)
  by_device defined model map (Some device) is = by_map device defined model map is

  pub of_read : (site : Site) (maps : List (Option Layout)) (want : Want) → read_of site maps want ≡ Some call → IsRead call.request
  unfolding call_to
  of_read site maps want is = by_device (length_of site.lengths want.model) want.model (known_at maps want.device) (slice_get site.devices want.device) is

-- ---- without outputs nothing is written

none_there : {A : Type 0} (xs : List ℕ) (i n : ℕ) → xs ≡ [] → slice_get xs i ≡ Some n → A
none_there xs i n none there = let here : None ≡ Some n = subst (λ (x : List ℕ). slice_get x i ≡ Some n) none there in absurd (cc)

of_call : (g : Gateway) (made_for : Aim) (device : ℕ) (call : Call) → g.site.outs ≡ [] → IsCallFor g made_for device call → IsRead call.request
of_call g (aim.Block want) device call none is = of_read call g.site g.maps is.want is.read
of_call g (aim.Output output) device call none is = none_there g.site.outs output is.sets.number none is.sets.output
of_call g aim.Map device call none is = absurd is

of_asked : (g : Gateway) (found_on : List (Option ℕ)) (number : ℕ) (made_for : Aim) (device : ℕ) (request : Request) → g.site.outs ≡ [] → MayBeAsked g found_on number made_for device request → IsRead request
of_asked g found_on number made_for device request none (inl (round, found)) = of_call g made_for device (record { unit = round.unit; request = request }) none round.call
of_asked g found_on number made_for device request none (inr (map, sought)) = (sought.comes.0, sought.comes.1, sought.comes.2)

-- ---- the site stays

of_rest : (now : Gateway) (stations : List Station) (found_on : List (Option ℕ)) (link number : ℕ) (bytes : List ℕ) → now.site.outs ≡ [] → IsRest now stations found_on link number bytes → IsRestOfRead bytes
of_rest now stations found_on link number bytes none rest =
    let before : rest.made.core.site.outs ≡ [] = ap (λ (x : Site). x.outs) (sym (goes_site rest.made.core now rest.made.since)) ∙ none in
    let (address, count, reads) = of_asked rest.made.core found_on number rest.made_for rest.device rest.frame.request before rest.made.asked in
    record { frame = rest.frame; address = address; count = count; reads = reads; gone = rest.gone; whole = rest.whole }

of_rightful : (now : Gateway) (stations : List Station) (found_on : List (Option ℕ)) (link number : ℕ) (bytes : List ℕ) → now.site.outs ≡ [] → IsRightful now stations found_on link number bytes → IsOfReads bytes
of_rightful now stations found_on link number bytes none (inl empty) = inl empty
of_rightful now stations found_on link number bytes none (inr rest) = inr (of_rest now stations found_on link number bytes none rest)

outs_stay : (site : Site) (first now : Stage) → IsSurveyStart site first → CourseBy AnyStep first now → now.core.site.outs ≡ []
outs_stay site first now start course =
    ap (λ (x : Site). x.outs) (goes_site first.core now.core (any_goes first now course) ∙ start.own) ∙ start.none

pub surveys_ask_for_reads_alone : SurveysAskForReadsAlone
surveys_ask_for_reads_alone site first now start course lines link number bytes at rightful =
    ∥∥₁_elim (rightful number at) ∥∥₁_prop
    (λ is. ∣ of_rightful now.core lines.links.stations.items lines.found_on.items link number bytes (outs_stay site first now start course) is ∣₁)
