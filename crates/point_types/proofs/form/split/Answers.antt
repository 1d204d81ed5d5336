use Rattle.std.proofs.Common.{◌≡◌, ◌+◌, ◌*◌, ◌-◌, ◌^◌, ◌<◌, arith, ◌∙◌}
use Rattle.std.proofs.lemmas.Nat.{pow-add, div_below, and_le_r}
use Rattle.std.proofs.lemmas.List.Elements.{All-set}
use Rattle.std.proofs.Math.ListN.{length-set}
use Rattle.point_types.proofs.Numbers.{split_step}
use Rattle.point_types.proofs.form.split.Goals as goal

pub loop-i-preserved : goal.loop-i-preserved
loop-i-preserved g c =
    let j = c.loop-i.i - 1 in
    let back : j + 1 ≡ c.loop-i.i = omega arith in
    let below : c.loop-i.rest < 65536 ^ j * 65536 = rw (← pow-add 65536 j 1, back) c.loop-i.invariant.small in
    let e = rw back at (split_step c.loop-i.words j c.loop-i.rest (omega arith)) in
    record {
      filled = length-set c.loop-i.words j _ ∙ c.loop-i.invariant.filled;
      words = All-set (λ w. w < 65536) c.loop-i.words j _ (let l = and_le_r c.loop-i.rest 65535 in omega arith) c.loop-i.invariant.words;
      small = div_below c.loop-i.rest 65536 (65536 ^ j) (omega arith) below;
      parts = e ∙ c.loop-i.invariant.parts;
    }
