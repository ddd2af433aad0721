use Rattle.std.proofs.Common.{refl, sym, ap, ◌∙◌}
use Rattle.std.proofs.lemmas.List.{append-nil}
use Rattle.pr_gen.specs.Listing.{file_line, file_lines, file_path}
use Rattle.pr_gen.specs.Draws.{after_files}
use Rattle.pr_gen.proofs.StepLemmas.{one_file_more}
use Rattle.pr_gen.proofs.listing.file_lines.Goals as goal

pub loop-f-init : goal.loop-f-init
unfolding file_lines after_files
loop-f-init c = (sym (append-nil c.args.out.now.items), refl)

pub loop-f-preserved : goal.loop-f-preserved
loop-f-preserved c =
    one_file_more c.args.out.now.items c.loop-f.out.items c.file_line.new.out.items c.args.d c.loop-f.f c.args.draws.now.state c.loop-f.draws.state c.file.new.self.state
    c.loop-f.invariant.0 c.loop-f.invariant.1 _ (ap (file_line (file_path c.args.d c.loop-f.f)) (c.as_slice.ensures.value ∙ c.in_ok-bytes.ensures.bytes)) c.in_ok-file_line.ensures c.in_ok-bytes.ensures.state
