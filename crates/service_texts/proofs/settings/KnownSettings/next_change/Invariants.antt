use Rattle.std.proofs.Common.{◌≡◌, take}
use Rattle.service_texts.proofs.settings.KnownSettings.next_change.Given as goal

abbrev pub invariant-loop-tag : goal.invariant-loop-tag
invariant-loop-tag l = (l.self.numbers.items ≡ l.initial.self.numbers.items) × (take l.tag l.self.numbers.items ≡ take l.tag l.settings)
