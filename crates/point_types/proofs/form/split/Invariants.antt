use Rattle.std.proofs.Common.{◌≡◌, ◌<◌, ◌+◌, ◌*◌, ◌-◌, ◌^◌, length, drop, All}
use Rattle.point_types.specs.Point.{number_of}
use Rattle.point_types.proofs.form.split.Given as goal

abbrev pub invariant-loop-i : goal.invariant-loop-i
invariant-loop-i g l = record {
  filled : length l.words ≡ g.row.W;
  words : All (λ w. w < 65536) l.words;
  small : l.rest < 65536 ^ l.i;
  parts : l.rest * 65536 ^ (length l.words - l.i) + number_of (drop l.i l.words) ≡ l.number;
}
