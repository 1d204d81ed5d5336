use Rattle.std.proofs.Common.{rules, FitsSigned, ◌≤ℤ◌}
use Rattle.std.specs.Int.{w8, w64}
use Rattle.std.proofs.lemmas.Int.{to_z-of_z}
use Rattle.point_types.specs.Reading.{factor_of}
use Rattle.gateway.proofs.SetAgain.{read_by, read_in_range}
use Rattle.gateway.proofs.served.words.words_to_read.Goals as goal

pub returns-then-not-is_in_range : goal.returns-then-not-is_in_range
returns-then-not-is_in_range c = λ ws h.
    let f : FitsSigned w64 c.args.number = search rules in
    (simp to_z-of_z at c.if-not-is_in_range.ensures.outside) (read_in_range c.args.point c.args.tag.now c.args.number ws h)

pub returns-in-Number : goal.returns-in-Number
returns-in-Number c =
    let f : FitsSigned w64 c.args.number = search rules in
    let g : FitsSigned w8 c.args.tag.now.exponent = search rules in
    let range : (c.args.tag.now.low ≤ℤ c.args.number) × (c.args.number ≤ℤ c.args.tag.now.high) = simp to_z-of_z at c.if-not-is_in_range.ensures.inside in
    rw c.in-Number.is (read_by c.in-Number.kind c.args.tag.now c.args.number (factor_of c.in-Number.factor) c.encoded.result range.0 range.1 (simp to_z-of_z at c.encoded.ensures))
