use Rattle.kr_files.proofs.LawLemmas.{open_there}
use Rattle.kr_files.proofs.laws.open_descriptors_have_files.Goals as goal

pub returns : goal.returns
returns g c = open_there c.args.files.now c.args.d.now c.are_kept.ensures c.requires
