use Rattle.pt_args.proofs.NamedLemmas.{edits_keep_to_paths}
use Rattle.pt_args.proofs.laws.edits_keep_to_paths.Goals as goal

pub returns : goal.returns
returns c = edits_keep_to_paths
