use Rattle.std.proofs.Common.{◌∙◌, sym, ap}
use Rattle.std.specs.FinMap as map
use Rattle.kr_files.specs.Files.{Kept}
use Rattle.kr_files.specs.StoredPipes.{Pipe}
use Rattle.kr_files.proofs.ClaimLemmas.{taken_by_count}
use Rattle.kr_tree.proofs.pr_base.MapLemmas.{len-mapped}
use Rattle.kr_files.proofs.files.Files.takes_pipe.Goals as goal

pub returns-then-is_some : goal.returns-then-is_some
returns-then-is_some g c =
    let count = c.len.ensures ∙ sym (len-mapped (λ p (q : Pipe). q.bytes) c.self.inside.pipes) ∙ ap (λ (k : Kept g.row.M.Denot). map.len k.table.pipes) c.self.view_is in
    taken_by_count c.args.self.now.table c.args.d.now c.in-Some.first c.lowest_free-in-Some.result c.len.result c.in-Some.ensures.free c.lowest_free-in-Some.ensures.free
    (sym c.is_some.ensures ∙ c.if-is_some.true) count
