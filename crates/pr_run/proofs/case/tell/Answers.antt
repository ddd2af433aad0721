use Rattle.std.proofs.Common.{ap, ◌∙◌}
use Rattle.pr_sources.specs.kr_text.Canonical.{canonical}
use Rattle.pr_run.specs.Case.{agree, summary}
use Rattle.pr_run.specs.Keeping.{kept_told}
use Rattle.pr_run.proofs.CaseLemmas.{agrees, told-by}
use Rattle.pr_run.proofs.case.tell.Goals as goal

pub returns : goal.returns
returns c =
    let o = kept_told c.args.watched.now c.args.watched_tree.now in
    let other = kept_told c.args.mounted.now c.args.mounted_tree.now in
    told-by c.args.case o c.in_ok-summary.summary c.in_ok-listing.listing (canonical c.args.watched_tree.now c.args.user) c.status_by-status.result c.same-same.result (agree o other)
    (c.in_ok-summary.ensures ∙ ap (λ l. summary c.args.case o.puts o.ending o.status l c.same-same.result) c.as_slice.ensures)
    c.in_ok-listing.ensures c.status_by-status.ensures (agrees c.same-same.result o other c.same-same.ensures)
