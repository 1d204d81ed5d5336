use Rattle.std.proofs.Common.{◌≡◌, ◌∙◌, ap, sym, Some, None}
use Rattle.gateway.specs.poller.Asking.{Asking}
use Rattle.gateway.proofs.Reading.{turned_runs, turned_to, searches, stops_search}
use Rattle.gateway.proofs.poller.line.Line.search.Goals as goal

pub returns-in-Some-clause-stopped : goal.returns-in-Some-clause-stopped
returns-in-Some-clause-stopped g c =
    let s = c.turn_to.new.self in
    let t = c.discover-found.new.self in
    let same : s.polling ≡ (c.args.self.now).polling = ap (λ (a : Asking). a.polling) c.turn_to.ensures in
    let unit : s.unit ≡ c.args.unit = ap (λ (a : Asking). a.unit) c.turn_to.ensures in
    let works : (s.polling).fault ≡ None = ap (λ (a : Asking). (a.polling).fault) c.turn_to.ensures ∙ c.requires in
    let after : (t.polling).fault ≡ Some c.in-Some.fault = sym c.fault.ensures ∙ c.in-Some.is in
    let found = c.discover-found.ensures in
    rw (← same, ← unit) (stops_search s t c.args.base c.discover-found.result found.0 c.in-Some.fault works found.1.0 found.1.1 after)

pub returns-in-Some-clause-turned : goal.returns-in-Some-clause-turned
returns-in-Some-clause-turned g c =
    let found = c.discover-found.ensures in
    turned_to (c.args.self.now) c.discover-found.new.self c.args.unit (rw c.turn_to.ensures at (turned_runs c.turn_to.new.self c.discover-found.new.self found.0 found.1.0))

pub returns-in-None-clause-found : goal.returns-in-None-clause-found
returns-in-None-clause-found g c =
    let s = c.turn_to.new.self in
    let t = c.discover-found.new.self in
    let same : s.polling ≡ (c.args.self.now).polling = ap (λ (a : Asking). a.polling) c.turn_to.ensures in
    let unit : s.unit ≡ c.args.unit = ap (λ (a : Asking). a.unit) c.turn_to.ensures in
    let works : (s.polling).fault ≡ None = ap (λ (a : Asking). (a.polling).fault) c.turn_to.ensures ∙ c.requires in
    let after : (t.polling).fault ≡ None = sym c.fault.ensures ∙ c.in-None.is in
    let found = c.discover-found.ensures in
    rw (← same, ← unit) (searches s t c.args.base c.discover-found.result found.0 works found.1.0 found.1.1 after)

pub returns-in-None-clause-turned : goal.returns-in-None-clause-turned
returns-in-None-clause-turned g c =
    let found = c.discover-found.ensures in
    turned_to (c.args.self.now) c.discover-found.new.self c.args.unit (rw c.turn_to.ensures at (turned_runs c.turn_to.new.self c.discover-found.new.self found.0 found.1.0))
