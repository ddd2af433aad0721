use Rattle.std.proofs.Common.{sym}
use Rattle.std.proofs.lemmas.List.{append-nil}
use Rattle.pr_gen.specs.Listing.{target_lines}
use Rattle.pr_gen.proofs.listing.target_lines.Goals as goal

pub loop-k-init : goal.loop-k-init
unfolding target_lines
loop-k-init c = sym (append-nil c.args.out.now.items)
