-- A poller over a link that was opened for it, and the link that is handed back.
use Rattle.std.proofs.Common.{◌≡◌, ℕ, List, Option, None, ap, subst, sym}
use Rattle.modbus_frame.specs.Link.{Failures, LinkState}
use Rattle.model_defs.specs.declared.model.ModelDef.{ModelDef}
use Rattle.gateway.specs.event_core.Core.{Gateway}
use Rattle.gateway.specs.poller.Polling.{Polling}
use Rattle.refusal_notes.specs.declared.notes.Notes.{Notes}
use Rattle.commands.specs.Probe.{IsProbe}
use Rattle.command_files.specs.Opened.{left_of, opened}
use Rattle.command_files.specs.Probed.{ProbesLink}
use Rattle.commands.specs.declared.pace.RunPace.{RunPace}
use Rattle.command_files.specs.Ran.{ScansBy, ScansLink}

left : (q : Polling) (coming sent : Option (List ℕ)) (failures : Failures) (calls : Option ℕ) → coming ≡ q.coming → sent ≡ q.sent → failures ≡ q.failures → calls ≡ q.calls
    → left_of q ≡ record { coming = coming; sent = sent; failures = failures; calls = calls }
left q coming sent failures calls c s f n = cc

pub probes_link : (a : LinkState) (p q : Polling) (coming sent : Option (List ℕ)) (failures : Failures) (calls : Option ℕ) (old new : Option (List ℕ)) (status unit : ℕ) (models : List ModelDef)
    → p ≡ opened a → coming ≡ q.coming → sent ≡ q.sent → failures ≡ q.failures → calls ≡ q.calls → (p.fault ≡ None → IsProbe unit models p old q new status)
    → ProbesLink unit models a (record { coming = coming; sent = sent; failures = failures; calls = calls }) old new status
probes_link a p q coming sent failures calls old new status unit models is c s f n probes = record {
  behind = q;
  probes = subst (λ (x : Polling). IsProbe unit models x old q new status) is (probes (ap (λ (x : Polling). x.fault) is));
  left = sym (left q coming sent failures calls c s f n);
}

pub scans_link : (a : LinkState) (p q : Polling) (coming sent : Option (List ℕ)) (failures : Failures) (calls : Option ℕ) (files : Notes) (n : RunPace) (old new : Option (List ℕ)) (core : Option Gateway) (status : ℕ)
    → p ≡ opened a → coming ≡ q.coming → sent ≡ q.sent → failures ≡ q.failures → calls ≡ q.calls → ScansBy files n p q old new core status
    → ScansLink files n a (record { coming = coming; sent = sent; failures = failures; calls = calls }) old new core status
scans_link a p q coming sent failures calls files n old new core status is c s f k scans = record {
  behind = q;
  scans = subst (λ (x : Polling). ScansBy files n x q old new core status) is scans;
  left = sym (left q coming sent failures calls c s f k);
}
