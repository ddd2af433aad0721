-- What is read where a walk of the host's own view ends.
use Rattle.std.proofs.Common.{◌≡◌, Some, Result, Ok, Err, ap, ◌∙◌}
use Rattle.pr_words.specs.pr_base.declared.errno.Errno.{Errno}
use Rattle.pr_words.specs.pr_base.declared.errno.Errno.TheVariants.{ENOENT}
use Rattle.kr_first.specs.kr_inode.declared.user.User.{User}
use Rattle.kr_first.specs.kr_tree.declared.place.Host.{Host}
use Rattle.kr_first.specs.kr_tree.Tree.{Tree}
use Rattle.kr_first.specs.kr_view.View.{plain}
use Rattle.kr_first.specs.kr_view.Walk.{PlaceTarget}
use Rattle.kr_first.specs.kr_model.Peeks.{at_found, kind_of_answer, kind_seen}
use Rattle.kr_first.specs.Starting.{around}
use Rattle.kr_hostview.specs.Peeking.{IsFound}
use Rattle.pt_first.specs.FirstPeeks.{kind_at}

-- the kind of what was found
pub kind-found : (tree : Tree) (user : User) (answer : Result PlaceTarget Errno) (object : Host) → IsFound answer (Ok (Some object)) → kind_of_answer (around plain tree user) answer ≡ kind_at tree user object
kind-found tree user answer object found = ap (kind_of_answer (around plain tree user)) found.1 ∙ ap (at_found (around plain tree user) (Err ENOENT) kind_seen) found.2
