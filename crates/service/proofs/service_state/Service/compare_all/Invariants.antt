use Rattle.std.proofs.Common.{◌≡◌, Some}
use Rattle.service.specs.Having.{HasNoMore}
use Rattle.service.specs.ReadBack.{shown_in}
use Rattle.service.specs.Timing.{StaysAt}
use Rattle.service.specs.Told.{ShowsBy}
use Rattle.service.proofs.Compared.{AreComparedTo}
use Rattle.service.proofs.service_state.Service.compare_all.Given as goal

abbrev pub invariant-loop-output : goal.invariant-loop-output
invariant-loop-output l = AreComparedTo l.fn.asked l.fn.block l.output l.fn.self l.self × (l.self.lines ≡ l.fn.self.lines) × (l.self.cycle ≡ l.fn.self.cycle) × (l.self.places.items ≡ l.fn.self.places.items) × StaysAt l.fn.self l.self × HasNoMore l.fn.self.held l.self.held × (ShowsBy (λ k this. shown_in l.fn.self.held l.fn.asked l.fn.block k ≡ Some this) l.fn.self.side l.self.side)
