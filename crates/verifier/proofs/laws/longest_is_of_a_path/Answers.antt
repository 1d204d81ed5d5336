use Rattle.verifier.proofs.Longest.{longest_is_a_path}
use Rattle.verifier.proofs.Paths.{no_path_is_longer}
use Rattle.verifier.proofs.laws.longest_is_of_a_path.Goals as goal

pub returns : goal.returns
returns c = record { no_longer = no_path_is_longer; as_long = longest_is_a_path }
