use Rattle.std.proofs.Common.{◌≡◌, ◌-◌, ◌≤◌, List}
use Rattle.history.specs.Recorded.{AreKeptOf, steps_later}
use Rattle.history.specs.Steps.{Put}
use Rattle.history.proofs.quantities.Quantities.turn_to.Given as goal

abbrev pub invariant-loop : goal.invariant-loop
invariant-loop l = (l.self.over ≡ l.fn.self.over) × (l.self.names ≡ l.fn.self.names)
    × (l.counter - l.fn.self.over ≤ l.step - l.fn.self.over)
    × ((puts : List Put) → AreKeptOf puts l.fn.self.series → AreKeptOf (steps_later (l.counter - l.fn.self.over) puts) l.self.series)
