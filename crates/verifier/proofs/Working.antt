-- The worked verdicts, computed.
use Rattle.std.proofs.Common.{refl}
use Rattle.verifier.specs.Worked.{WorkedVerdicts}

pub worked_verdicts : WorkedVerdicts
worked_verdicts = record {
  overflows = refl;
  leaves_the_range = refl;
  may_be_missing = refl;
  present = refl;
  by_zero = refl;
  guarded = refl;
  still_by_zero = refl;
  branches = refl;
  no_result = refl;
  another_type = refl;
  forgets_what_was_tested = refl;
  tests_in_each_turn = refl;
  many_loops = refl;
  too_many_loops = refl;
  unknown_code = refl;
  no_code = refl;
  no_end = refl;
  code_behind_the_end = refl;
  jump_into_arguments = refl;
  jump_over_arguments = refl;
  counted_by_nine = refl;
  counted_by_255 = refl;
  counted_in_version_one = refl;
  counted_without_limit = refl;
  unknown_tag = refl;
}
