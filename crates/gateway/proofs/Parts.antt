-- What holds of a core's parts, after each of its calls.
use Rattle.std.proofs.Common.{◌≡◌, ℕ, suc, ◌+◌, List, [], ◌∷◌, length, map, Option, Result, Ok, Err, refl, sym, ap, subst, ◌∙◌}
use Rattle.std.specs.Prelude.{ℤ}
use Rattle.std.proofs.lemmas.List.{length-map}
use Rattle.point_types.specs.declared.reading.Reading.{Reading}
use Rattle.point_types.specs.Value.{◌>>=◌}
use Rattle.scan_code.specs.declared.image.Tag.{Tag}
use Rattle.site_model.specs.declared.site.Site.{Site}
use Rattle.site_model.specs.declared.tag.SiteTag.{SiteTag}
use Rattle.site_model.specs.Readings.{AreSettings}
use Rattle.verifier.specs.declared.tag_link.TagLink.{TagLink}
use Rattle.facts.specs.declared.refusal.Refusal.{Refusal}
use Rattle.verifier.specs.Links.{links_from, link_of, refused_at}
use Rattle.gateway.specs.declared.event_core.memory.Memory.{Memory}
use Rattle.gateway.specs.declared.served.point.OwnPoint.{OwnPoint}
use Rattle.gateway.specs.declared.event_core.event.Event.{Event}
use Rattle.gateway.specs.declared.event_core.event.Answer.{Answer}
use Rattle.register_map.specs.Layout.{Layout}
use Rattle.scan_vm.specs.Machine.{Running}
use Rattle.verifier.specs.Verified.{Acceptance, HasLinks}
use Rattle.gateway.specs.declared.event_core.opening.Opening.{Opening}
use Rattle.gateway.specs.event_core.Core.{Gateway, IsCore, IsKnown, IsOpening, IsReady, IsSame, numbers_of}
use Rattle.gateway.specs.served.Points.{own_points}
use Rattle.gateway.specs.served.ServedImage.{AreServed, IsServedImage}
use Rattle.gateway.specs.event_core.SiteRun.{Standing, Steps, none_of, unread}
use Rattle.gateway.proofs.Scanning.{none_in}

pub served_again : (site : Site) (outputs : List (Option ℤ)) (readings : List Reading) (sets : List (Option ℤ)) (points given : List OwnPoint) (image kept : List ℕ) → given ≡ points → points ≡ own_points site → kept ≡ image →
    AreServed site outputs readings sets given image → IsServedImage site outputs readings sets kept
served_again site outputs readings sets points given image kept a b e h =
    subst (λ (ws : List ℕ). AreServed site outputs readings sets (own_points site) ws) (sym e) (subst (λ (ps : List OwnPoint). AreServed site outputs readings sets ps image) (a ∙ b) h)

pub opened_known : (site : Site) (k : Memory) → IsOpening site k → IsKnown site k
opened_known site k h =
    let outputs : k.outputs.items ≡ none_of site.tags = ap (λ l. l.outputs) h.last in
    let readings : k.readings.items ≡ map unread site.tags = ap (λ l. l.readings) h.last in
    let scanned : k.scanned.items ≡ none_of site.wants = ap (λ l. l.blocks) h.last in
    record {
      blocks = ap length h.blocks ∙ length-map site.wants _;
      scanned = ap length scanned ∙ length-map site.wants _;
      sets = ap length h.sets ∙ length-map site.tags _;
      ages = ap length h.ages ∙ length-map site.tags _;
      outputs = ap length outputs ∙ length-map site.tags _;
      readings = ap length readings ∙ length-map site.tags _;
      ranged = subst (λ (ns : List (Option ℤ)). AreSettings site.tags ns) (sym h.sets) (none_in site.tags site.tags);
      stored = subst (λ (ns : List (Option ℤ)). AreSettings site.tags ns) (sym outputs) (none_in site.tags site.tags);
    }

-- a core that begins so, for a program of a machine
pub ready_core : (site : Site) (maps : List (Option Layout)) (machine : Running) (o : Opening) → HasLinks site.tags machine.accepted.links → length machine.accepted.links ≡ length machine.accepted.image.tags →
    length maps ≡ length site.devices → IsReady site machine.accepted.links o → IsCore site maps machine o.points o.known o.image.items o.room.items o.inputs.items
ready_core site maps machine o matched linked mapped h = record {
  matched = matched;
  linked = linked;
  mapped = mapped;
  own = h.own;
  known = opened_known site o.known h.known;
  served = h.served;
  sized = h.sized;
  roomy = h.roomy;
  fed = h.fed;
}

-- a link for each tag of an image
pub links_length : (site : List SiteTag) (n : ℕ) (tags : List Tag) (links : List TagLink) → links_from site n tags ≡ Ok links → length links ≡ length tags
links_length site n [] links e = let same : links ≡ [] = cc in ap length same
links_length site n (t ∷ ts) links e = first (λ ls q. links_length site (n + 1) ts ls q) (refused_at n (link_of site t)) e
  where
    rest : ((ls : List TagLink) → links_from site (n + 1) ts ≡ Ok ls → length ls ≡ length ts) → (link : TagLink) (r : Result (List TagLink) Refusal) → links_from site (n + 1) ts ≡ r → (r >>= λ ls. Ok (link ∷ ls)) ≡ Ok links → length links ≡ suc (length ts)
    rest again link (Err x) q h = cc
    rest again link (Ok ls) q h = let same : links ≡ link ∷ ls = cc in ap length same ∙ ap suc (again ls q)

    first : ((ls : List TagLink) → links_from site (n + 1) ts ≡ Ok ls → length ls ≡ length ts) → (r : Result TagLink Refusal) → (r >>= λ link. links_from site (n + 1) ts >>= λ ls. Ok (link ∷ ls)) ≡ Ok links → length links ≡ suc (length ts)
    first again (Err x) h = cc
    first again (Ok link) h = rest again link (links_from site (n + 1) ts) refl h

-- a step of a core that is the same in all but its standing
pub steps_same : (old cur : Gateway) (e : Event) (a : Answer) (next : Standing) → IsSame old cur → Steps cur.site cur.machine.accepted.image (numbers_of cur.machine.accepted) cur.machine.accepted.budget cur.standing e a next →
    Steps old.site old.machine.accepted.image (numbers_of old.machine.accepted) old.machine.accepted.budget cur.standing e a next
steps_same old cur e a next same h =
    subst (λ (x : Acceptance). Steps old.site x.image (numbers_of x) x.budget cur.standing e a next) same.accepted
    (subst (λ (x : Site). Steps x cur.machine.accepted.image (numbers_of cur.machine.accepted) cur.machine.accepted.budget cur.standing e a next) same.site h)

pub same_then : (a b d : Gateway) → IsSame a b → IsSame b d → IsSame a d
same_then a b d h k = record { site = k.site ∙ h.site; maps = k.maps ∙ h.maps; accepted = k.accepted ∙ h.accepted }
