-- A search finds one map, or none, for each device.
use Rattle.std.proofs.Common.{◌≡◌, suc, List, [], ◌∷◌, length, ap, ◌∙◌, refl, Option, Some, None, Ok, Err, IfSome}
use Rattle.modbus_frame.specs.declared.link.LinkFault.{LinkFault}
use Rattle.register_map.specs.Layout.{Layout}
use Rattle.site_model.specs.declared.device.SiteDevice.{SiteDevice}
use Rattle.gateway.specs.poller.LinkRun.{Exchange}
use Rattle.gateway.specs.poller.Polling.{Polling}
use Rattle.gateway.specs.poller.Finding.{FindsAll, FindsMaps}

pub found_length : (devices : List SiteDevice) (es : List Exchange) (maps : List (Option Layout)) → FindsMaps devices es maps → length maps ≡ length devices
found_length [] es maps f = ap length f.1
found_length (d ∷ ds) es maps (own, others, found, more, split, is, one, rest) = ap length is ∙ ap suc (found_length ds others more rest)

-- the maps that a poller gives
pub maps_length : {V : Type 0} (p q : Polling) (devices : List SiteDevice) (maps : List (Option Layout)) (v : V) (Same : Type 0)
    → (p.fault ≡ None → FindsAll devices p maps q) → IfSome p.fault (λ f. (Ok v ≡ Err f) × Same) → length maps ≡ length devices
maps_length {V} p q devices maps v Same found stands = by_fault p.fault refl stands
  where
    by_fault : (fault : Option LinkFault) → p.fault ≡ fault → IfSome fault (λ f. (Ok v ≡ Err f) × Same) → length maps ≡ length devices
    by_fault None e h = let all : FindsAll devices p maps q = found e in found_length devices all.0 maps all.1
    by_fault (Some f) e h = let no : Ok v ≡ Err f = h.0 in cc
