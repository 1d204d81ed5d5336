-- The core of an accepted program: the maps of its site's devices, and the core over them.
use Rattle.std.proofs.Common.{◌≡◌, List, inl, inr, refl, sym, subst, Option, Some, None, Result, Ok, Err, IfOk, IfSome, OnErr, ◌≢◌}
use Rattle.modbus_frame.specs.Fault.{link_fault_word}
use Rattle.modbus_frame.specs.declared.link.LinkFault.{LinkFault}
use Rattle.modbus_frame.specs.declared.link.LinkFault.TheVariants as link
use Rattle.register_map.specs.Layout.{Layout}
use Rattle.site_model.specs.declared.device.SiteDevice.{SiteDevice}
use Rattle.site_model.specs.declared.site.Site.{Site}
use Rattle.scan_vm.specs.Machine.{Running, opened}
use Rattle.verifier.specs.Verified.{Acceptance, HasLinks}
use Rattle.gateway.specs.event_core.Core.{Gateway}
use Rattle.gateway.specs.event_core.Fault.{core_fault_word}
use Rattle.gateway.specs.poller.Finding.{FindsAll, StopsUnless}
use Rattle.gateway.specs.poller.Polling.{Polling}
use Rattle.gateway.specs.declared.event_core.fault.CoreFault.{CoreFault}
use Rattle.gateway.specs.declared.event_core.fault.CoreFault.TheVariants.{Foreign}
use Rattle.commands.specs.Report.{bad_core_line, link_line}
use Rattle.commands.specs.Opening.{IsSearched, IsUnfound, MakesCore, OpensCore}
use Rattle.commands.specs.Printed.{unlinked_with}
use Rattle.commands.specs.Told.{Told, refused_with}

-- no maps are given by a poller that failed
unfailed_by : {V : Type 0} (p : Polling) (v : V) (Same : Type 0) → IfSome p.fault (λ f. (◌≡◌ {A = Result V LinkFault} (Ok v) (Err f)) × Same) → p.fault ≡ None
unfailed_by {V} p v Same stands = by_fault p.fault refl stands
  where
    by_fault : (o : Option LinkFault) → p.fault ≡ o → IfSome o (λ f. (◌≡◌ {A = Result V LinkFault} (Ok v) (Err f)) × Same) → p.fault ≡ None
    by_fault None e h = e
    by_fault (Some f) e h = let no : ◌≡◌ {A = Result V LinkFault} (Ok v) (Err f) = h.0 in cc

-- why a poller found no maps
unfound_by : (V : Type 0) (devices : List SiteDevice) (p q : Polling) (fault : LinkFault) → (p.fault ≡ None → StopsUnless devices p fault q)
    → IfSome p.fault (λ f. (◌≡◌ {A = Result V LinkFault} (Err fault) (Err f)) × (q ≡ p)) → IsUnfound p.fault devices p fault q
unfound_by V devices p q fault stops stands = by_fault p.fault refl stands
  where
    by_fault : (o : Option LinkFault) → p.fault ≡ o → IfSome o (λ f. (◌≡◌ {A = Result V LinkFault} (Err fault) (Err f)) × (q ≡ p)) → IsUnfound o devices p fault q
    by_fault None e h = stops e
    by_fault (Some f) e h = let same : ◌≡◌ {A = Result V LinkFault} (Err fault) (Err f) = h.0 in (cc, h.1)

-- what is told of a link that failed at the search for the maps
pub opens_unfound : {E : Type 0} (V : Type 0) (site : Site) (a : Acceptance) (p q : Polling) (fault : LinkFault) (r : Result (Result Gateway Told) E)
    → (p.fault ≡ None → StopsUnless site.devices p fault q) → IfSome p.fault (λ f. (◌≡◌ {A = Result V LinkFault} (Err fault) (Err f)) × (q ≡ p))
    → IfOk r (λ none. (fault ≢ link.OutOfMemory) × (none ≡ Err (unlinked_with (link_line (link_fault_word fault))))) → IfOk r (OpensCore site a p q)
opens_unfound V site a p q fault (Ok none) stops stands told =
    subst (OpensCore site a p q) (sym told.1) (inl (fault, told.0, unfound_by V site.devices p q fault stops stands, refl))
opens_unfound V site a p q fault (Err e) stops stands told = tt

-- the poller after the search for the maps
pub searched_well : {T E V : Type 0} (devices : List SiteDevice) (p q : Polling) (maps : List (Option Layout)) (v : V) (Same : Type 0) (r : Result T E)
    → (p.fault ≡ None → FindsAll devices p maps q) → IfSome p.fault (λ f. (◌≡◌ {A = Result V LinkFault} (Ok v) (Err f)) × Same) → OnErr r (IsSearched devices p q)
searched_well devices p q maps v Same (Ok x) found stands = tt
searched_well devices p q maps v Same (Err e) found stands = inl (maps, found (unfailed_by p v Same stands))

pub searched_badly : {T E : Type 0} (V : Type 0) (devices : List SiteDevice) (p q : Polling) (fault : LinkFault) (r : Result T E) → (p.fault ≡ None → StopsUnless devices p fault q)
    → IfSome p.fault (λ f. (◌≡◌ {A = Result V LinkFault} (Err fault) (Err f)) × (q ≡ p)) → OnErr r (IsSearched devices p q)
searched_badly V devices p q fault (Ok x) stops stands = tt
searched_badly V devices p q fault (Err e) stops stands = inr (fault, unfound_by V devices p q fault stops stands)

-- the core that is made over the maps that were found
pub opens_over : {E V : Type 0} (site : Site) (a : Acceptance) (p q : Polling) (maps : List (Option Layout)) (v : V) (Same : Type 0) (r : Result (Result Gateway Told) E)
    → (p.fault ≡ None → FindsAll site.devices p maps q) → IfSome p.fault (λ f. (◌≡◌ {A = Result V LinkFault} (Ok v) (Err f)) × Same)
    → IfOk r (MakesCore site (opened a) maps) → IfOk r (OpensCore site a p q)
opens_over site a p q maps v Same (Ok (Ok core)) found stands made =
    let works = unfailed_by p v Same stands in (maps, works, found works, made.0, made.1)
opens_over site a p q maps v Same (Ok (Err told)) found stands made = inr (maps, found (unfailed_by p v Same stands), made.0, made.1)
opens_over site a p q maps v Same (Err e) found stands made = tt

-- what is told where no core is made of a machine
pub makes_none : {E : Type 0} (site : Site) (m : Running) (maps : List (Option Layout)) (fault : CoreFault) (r : Result (Result Gateway Told) E)
    → (fault ≡ Foreign → HasLinks site.tags m.accepted.links → ⊥)
    → IfOk r (λ none. (fault ≡ Foreign) × (none ≡ Err (refused_with (bad_core_line (core_fault_word Foreign))))) → IfOk r (MakesCore site m maps)
makes_none site m maps fault (Ok none) foreign told = subst (MakesCore site m maps) (sym told.1) (foreign told.0, refl)
makes_none site m maps fault (Err e) foreign told = tt
