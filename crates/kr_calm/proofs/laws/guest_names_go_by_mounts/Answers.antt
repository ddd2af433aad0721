use Rattle.kr_calm.proofs.GuestLemmas.{guest_names_go_by_mounts}
use Rattle.kr_calm.proofs.laws.guest_names_go_by_mounts.Goals as goal

pub returns : goal.returns
returns c = guest_names_go_by_mounts
