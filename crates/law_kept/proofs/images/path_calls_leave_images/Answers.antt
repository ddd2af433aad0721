use Rattle.law_kept.proofs.ImageCallLemmas.{path_calls_leave_images}
use Rattle.law_kept.proofs.images.path_calls_leave_images.Goals as goal

pub returns : goal.returns
returns c = path_calls_leave_images
