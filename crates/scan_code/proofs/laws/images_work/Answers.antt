use Rattle.std.proofs.Common.{refl}
use Rattle.scan_code.proofs.laws.images_work.Goals as goal

pub returns : goal.returns
returns c = record {
  spelled = refl;
  read = refl;
  cut = refl;
  rest = refl;
  mark_cut = refl;
  no_mark = refl;
  no_version = refl;
  too_many = refl;
  upper_case = refl;
}
