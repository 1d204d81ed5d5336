use Rattle.std.proofs.Common.{◌≡◌, ◌∙◌, ap, sym, subst, map, Option, IfSome, ◌≤◌, ℕ}
use Rattle.register_map.specs.Reads.{Runs}
use Rattle.service_requests.specs.declared.search.SearchStep.{SearchStep}
use Rattle.service_requests.specs.Searches.{IsNext, Replaying, Replays, Sought, answer_told, step_by}
use Rattle.service_requests.proofs.Replayed.{next_replayed, replayed_few, begins_with}
use Rattle.service_requests.proofs.search.Search.next.Goals as goal

pub step_by-requires : goal.step_by-requires
step_by-requires c =
    let sought : Sought = record { base = c.self.inside.base; answers = map answer_told c.self.inside.told.items; common = c.self.inside.common } in
    let log = c.search-result.ensures.0 in
    let end = c.search-result.new.self in
    let P : Replaying → Type 0 = λ r. Runs Replays r log end in
    let runs = subst P (begins_with c.of-replay.result _ c.self.inside.told.items c.of-replay.ensures c.deref.ensures.0) c.search-result.ensures.1.0 in
    let Q : Option (ℕ × ℕ) → Type 0 = λ wanted. IfSome wanted (λ at. (1 ≤ at.1) × (at.1 ≤ 125)) in
    subst Q (sym c.wanted.ensures) (replayed_few sought end c.search-result.result log runs c.search-result.ensures.1.1)

pub returns-clause-next : goal.returns-clause-next
returns-clause-next c =
    let sought : Sought = record { base = c.self.inside.base; answers = map answer_told c.self.inside.told.items; common = c.self.inside.common } in
    let log = c.search-result.ensures.0 in
    let end = c.search-result.new.self in
    let P : Replaying → Type 0 = λ r. Runs Replays r log end in
    let runs = subst P (begins_with c.of-replay.result _ c.self.inside.told.items c.of-replay.ensures c.deref.ensures.0) c.search-result.ensures.1.0 in
    let next = next_replayed sought end c.search-result.result log runs c.search-result.ensures.1.1 in
    let Q : SearchStep → Type 0 = λ s. IsNext sought s in
    let step : step_by sought.common end.wanted c.search-result.result ≡ c.step_by.result = ap (λ w. step_by sought.common w c.search-result.result) (sym c.wanted.ensures) ∙ sym c.step_by.ensures.step in
    let S : Sought → Type 0 = λ s. IsNext s c.step_by.result in
    subst S c.self.view_is (subst Q step next)
