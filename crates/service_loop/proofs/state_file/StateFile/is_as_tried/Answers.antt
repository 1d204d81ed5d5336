use Rattle.std.proofs.Common.{◌∙◌, sym}
use Rattle.service_loop.proofs.Settings.{all_compared}
use Rattle.service_loop.proofs.state_file.StateFile.is_as_tried.Goals as goal

pub returns : goal.returns
returns c is = sym c.as_slice.ensures.value ∙ all_compared c.as_slice.result.now c.args.settings.now c.eq.result c.eq.ensures is
