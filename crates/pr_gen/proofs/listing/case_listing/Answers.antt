use Rattle.std.proofs.Common.{◌++◌, sym, ap, ◌∙◌}
use Rattle.pr_gen.proofs.TextLemmas.{bound_text, guest_text, head_text, whole_text}
use Rattle.pr_gen.proofs.listing.case_listing.Goals as goal

pub returns-clause-listing : goal.returns-clause-listing
returns-clause-listing c =
    c.from.ensures
    ∙ whole_text c.args.draws.now.state c.in_ok-out.out.items c.directory_lines.new.out.items c.put.new.out.items c.target_lines.new.out.items c.put-2.new.out.items
    (c.in_ok-out.ensures.items ∙ sym head_text) c.in_ok-directory_lines.ensures.lines
    (c.in_ok-put.ensures ∙ ap (λ l. c.directory_lines.new.out.items ++ l) (sym bound_text)) c.in_ok-target_lines.ensures
    (c.in_ok-put-2.ensures ∙ ap (λ l. c.target_lines.new.out.items ++ l) (sym guest_text))
