use Rattle.std.proofs.Common.{rules, FitsSigned, ◌⊎◌, ◌≤ℤ◌, IsTrue, List, ℕ, Ok, sym}
use Rattle.std.specs.Int.{w8, w64}
use Rattle.std.proofs.lemmas.Int.{to_z-of_z}
use Rattle.point_types.specs.Encoding.{IsEncoding}
use Rattle.site_model.specs.Tagging.{is_numeric}
use Rattle.served_ranges.proofs.Between.{shown_between}
use Rattle.served_ranges.proofs.numbers.all_are_shown.Goals as goal

pub returns : goal.returns
returns c = λ yes n l m.
    let a : FitsSigned w64 c.args.low = search rules in
    let b : FitsSigned w64 c.args.high = search rules in
    let e : FitsSigned w8 c.args.exponent = search rules in
    let p : FitsSigned w8 c.in-Some.power = search rules in
    let numeric : IsTrue (is_numeric c.args.kind) = search rules in
    let fine : (c.args.high ≤ℤ c.args.low) ⊎ (c.in-Some.power ≤ℤ c.args.exponent) = simp to_z-of_z at (c.is_fine.ensures (search rules)) in
    let lower : (words : List ℕ) × IsEncoding c.args.kind c.args.low c.args.exponent c.args.factor (Ok words) = simp to_z-of_z at (c.has_words.ensures (search rules)) in
    let upper : (words : List ℕ) × IsEncoding c.args.kind c.args.high c.args.exponent c.args.factor (Ok words) = simp to_z-of_z at (c.has_words-2.ensures yes) in
    shown_between c.args.kind numeric c.args.factor c.in-Some.power c.args.exponent c.args.low c.args.high (sym c.in-Some.ensures.value) c.in-Some.ensures.scalable c.requires fine lower upper n l m
