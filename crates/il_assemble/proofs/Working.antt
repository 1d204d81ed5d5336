-- The worked programs, computed.
use Rattle.std.proofs.Common.{true, false, [], refl}
use Rattle.point_types.specs.Keyword.{conversions, is_reserved, plain_words}
use Rattle.scan_code.specs.Table.{no_turns}
use Rattle.il_assemble.specs.declared.fault.AsmFaultKind.{AsmFaultKind}
use Rattle.il_assemble.specs.declared.fault.AsmFaultKind.TheVariants as kind
use Rattle.il_assemble.specs.Examples.{ExamplesHold, behind, seen, store_w}
use Rattle.il_assemble.specs.Faulty.{HasFault}
use Rattle.il_assemble.proofs.FirstUses.{at_head, in_none, use_of}

first_stored : (k : AsmFaultKind) → HasFault seen (behind [] store_w) k → ⊥
first_stored kind.UnknownName h = cc
first_stored kind.UnknownLabel h = h
first_stored kind.BackwardJump h = h
first_stored kind.LoadAndStore h = in_none _ h.2
first_stored kind.LiteralType h = h
first_stored kind.TooLong h = h
first_stored kind.OutOfMemory h = h
first_stored kind.ForwardLoop h = h

pub examples_hold : ExamplesHold
unfolding no_turns is_reserved plain_words conversions
examples_hold = record {
  next_gives_the_type = refl;
  deferred_gives_the_type = refl;
  presence_is_an_input = refl;
  name_is_unknown = refl;
  number_is_no_truth = refl;
  input_is_no_output = refl;
  stored_behind_a_load = (use_of 1 true, at_head (use_of 1 true) [], at_head (use_of 1 false) []);
  first_stored = first_stored;
  number_too_large = refl;
  no_such_label = tt;
  literal_inside = refl;
  comparison_gives_bool = refl;
  divide_means = refl;
  divide_is_coded = refl;
  divide_runs = refl;
  counted_means = refl;
  counted_runs = refl;
  forms_mean = refl;
  forms_run = refl;
  forms_mean_without_the_input = refl;
  forms_run_without_acting = refl;
}
