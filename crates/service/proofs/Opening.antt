-- A core that was just made is one on which nothing happened, and of the site for which a round and searches were made.
use Rattle.std.proofs.Common.{◌≡◌, List, Option, subst, sym}
use Rattle.register_map.specs.Layout.{Layout}
use Rattle.scan_vm.specs.Machine.{Running}
use Rattle.site_model.specs.declared.site.Site.{Site}
use Rattle.gateway.specs.event_core.Core.{Gateway, gateway_of}
use Rattle.service_requests.specs.Searches.{Sought}
use Rattle.service_parts.specs.Course.{IsNew}
use Rattle.service_parts.specs.Seeking.{AreOf}
use Rattle.service.specs.Rounds.{IsRoundFor, Progress}

pub is_new : (g : Gateway) (site : Site) (maps : List (Option Layout)) (entry : Running) → g ≡ gateway_of site maps entry → IsNew g
is_new g site maps entry opened = record { site = site; maps = maps; entry = entry; opened = opened }

pub round_of : (g : Gateway) (site : Site) (maps : List (Option Layout)) (entry : Running) (p : Progress) → g ≡ gateway_of site maps entry → IsRoundFor site p → IsRoundFor g.site p
round_of g site maps entry p opened fits = subst (λ (s : Gateway). IsRoundFor s.site p) (sym opened) fits

pub searches_of : (g : Gateway) (site : Site) (maps : List (Option Layout)) (entry : Running) (searches : List Sought) → g ≡ gateway_of site maps entry → AreOf site searches → AreOf g.site searches
searches_of g site maps entry searches opened own = subst (λ (s : Gateway). AreOf s.site searches) (sym opened) own
