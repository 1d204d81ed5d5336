use Rattle.std.proofs.Common.{◌≡◌, ◌∙◌, ℕ, ◌+◌, ◌-◌, ◌<◌, ◌≤◌, refl, ap, arith, length, None, get_or, ◌||◌, Bool, List, nat_eq}
use Rattle.scan_code.specs.declared.op.Op.{Op}
use Rattle.scan_code.specs.declared.op.Op.TheVariants.{End}
use Rattle.verifier.specs.Budget.{is_start}
use Rattle.verifier.specs.Heads.{is_among}
use Rattle.verifier.proofs.HeadsAre.{among_heads}
use Rattle.verifier.proofs.Lengths.{one_start, count_short}
use Rattle.verifier.proofs.budget.longest_path.Goals as goal

pub loop-n-preserved : goal.loop-n-preserved
loop-n-preserved c =
    let n = c.loop-n.n - 1 in
    let last : ℕ × Op = (0, End) in
    let next : n + 1 ≡ c.loop-n.n = omega (arith, c.loop-n-test.true) in
    let listing = c.args.listing.now in
    let within : n < length listing = omega (arith, c.loop-n-test.true, c.loop-n.invariant.within) in
    let there : n < length c.args.lengths.now = omega (arith, within, c.requires.each) in
    let address = (get_or listing n last).0 in
    let starts : c.is_start.result ≡ is_start listing n (get_or listing n last) =
    c.is_start.ensures ∙ ap (λ (b : Bool). nat_eq n 0 || b) (ap (λ (heads : List ℕ). is_among heads address) c.requires.heads ∙ among_heads listing address) in
    let short : c.start_count-count.result ≤ 65535 = rw c.start_count-count.ensures (count_short c.is_start.result c.args.lengths.now n c.requires.short) in
    record {
      within = omega (arith, within);
      done = rw (c.max-longest.ensures, c.start_count-count.ensures, starts, one_start listing listing n c.args.lengths.now None last within there, next, ← c.loop-n.invariant.done) refl;
      short = omega (arith, short, c.max-longest.ensures, c.loop-n.invariant.short);
    }
