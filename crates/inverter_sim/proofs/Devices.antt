-- The device of a unit, found one after another.
use Rattle.std.proofs.Common.{◌≡◌, ℕ, zero, suc, ◌<◌, ◌==◌, true, List, [], ◌∷◌, ◌++◌, length, get_or, take, drop, sym, ap, ◌∙◌, arith}
use Rattle.std.specs.Prelude.{slice_set}
use Rattle.inverter_sim.specs.State.{DeviceState}
use Rattle.inverter_sim.specs.Serve.{after_among, after_pdu}

pub changed_here : (ds : List DeviceState) (i unit : ℕ) (pdu : List ℕ) (d : DeviceState) → i < length ds → d ≡ get_or ds i d → (d.unit == unit) ≡ true
    → take i ds ++ after_among (drop i ds) unit pdu ≡ slice_set ds i (after_pdu d pdu)
changed_here [] i unit pdu d within is same = absurd (omega arith)
changed_here (a ∷ ds) zero unit pdu d within is same =
    let here : (a.unit == unit) ≡ true = ap (λ x. x.unit == unit) (sym is) ∙ same in
    rw here (ap (λ x. after_pdu x pdu ∷ ds) (sym is))
changed_here (a ∷ ds) (suc i) unit pdu d within is same = ap (λ l. a ∷ l) (changed_here ds i unit pdu d (omega arith) is same)
