use Rattle.std.proofs.Common.{◌++◌, refl, sym, ap, ◌∙◌}
use Rattle.std.proofs.lemmas.List.{append-nil}
use Rattle.pr_gen.specs.Listing.{directory_lines, file_lines}
use Rattle.pr_gen.specs.Draws.{after_directories}
use Rattle.pr_gen.proofs.StepLemmas.{one_directory_more}
use Rattle.pr_gen.proofs.listing.directory_lines.Goals as goal

pub loop-d-init : goal.loop-d-init
unfolding directory_lines after_directories
loop-d-init c = (sym (append-nil c.args.out.now.items), refl)

pub loop-d-preserved : goal.loop-d-preserved
loop-d-preserved c =
    one_directory_more c.args.out.now.items c.loop-d.out.items c.file_lines.new.out.items c.loop-d.d c.args.draws.now.state c.loop-d.draws.state c.file_lines.new.draws.state
    c.loop-d.invariant.0 c.loop-d.invariant.1 (c.in_ok-file_lines.ensures.lines ∙ ap (λ a. a ++ file_lines c.loop-d.d 256 c.loop-d.draws.state) c.in_ok-directory_line.ensures) c.in_ok-file_lines.ensures.draws
