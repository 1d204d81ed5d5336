use Rattle.std.proofs.Common.{◌≡◌, ◌∙◌, sym, subst, map, Bool, false, Option, None, Some, Result, Ok, ℕ, refl}
use Rattle.std.specs.Prelude.{is_some}
use Rattle.register_map.specs.declared.layout.MapFault.{MapFault}
use Rattle.register_map.specs.Layout.{Layout}
use Rattle.register_map.specs.Reads.{Runs}
use Rattle.service_requests.specs.Searches.{IsOver, Replaying, Replays, Sought, answer_told}
use Rattle.service_requests.proofs.Replayed.{begins_with, over_replayed}
use Rattle.service_requests.proofs.search.Search.ends_at_common.Goals as goal

none_there : {X : Type 0} (o : Option X) → is_some o ≡ false → o ≡ None
none_there None is = refl
none_there (Some x) is = absurd (cc)

pub returns-then-is_none : goal.returns-then-is_none
returns-then-is_none c yes_ =
    let sought : Sought = record { base = c.self.inside.base; answers = map answer_told c.self.inside.told.items; common = c.self.inside.common } in
    let log = c.search-result.ensures.0 in
    let end = c.search-result.new.self in
    let P : Replaying → Type 0 = λ r. Runs Replays r log end in
    let runs = subst P (begins_with c.of-replay.result _ c.self.inside.told.items c.of-replay.ensures c.deref.ensures.0) c.search-result.ensures.1.0 in
    let known = c.has_common.ensures yes_ in
    let none : end.wanted ≡ None = sym c.wanted.ensures ∙ none_there c.wanted.result c.if-is_none.ensures in
    let over : IsOver sought c.search-result.result = over_replayed sought end c.search-result.result log runs c.search-result.ensures.1.1 none in
    let Q : Result Layout MapFault → Type 0 = λ r. IsOver sought r in
    let S : Sought → Type 0 = λ s. IsOver s (Ok known.0) in
    (known.0, known.1, subst S c.self.view_is (subst Q known.2 over), known.3)
