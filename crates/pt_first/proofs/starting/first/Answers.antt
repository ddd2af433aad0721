use Rattle.std.proofs.Common.{◌≡◌, ◌∙◌, Ok, subst}
use Rattle.std.specs.Prelude.{not}
use Rattle.pr_words.specs.pr_base.Peeks.{Peeked}
use Rattle.pt_script.specs.pt_canon.Canon.{texts_by}
use Rattle.pt_script.specs.pt_canon.TextWalk.{TextSurroundings}
use Rattle.pt_first.specs.FirstPeeks.{first_peeked}
use Rattle.pt_first.specs.GuestStart.{IsBegun, guest_start, noting, start_unmet}
use Rattle.pt_first.proofs.starting.first.Goals as goal

pub returns-clause-begins : goal.returns-clause-begins
returns-clause-begins c =
    let asked = c.new-kernel.result in
    let same : first_peeked asked.tree asked.user ≡ first_peeked c.args.tree.now c.args.user = λ i. first_peeked (c.new-kernel.ensures.tree i) (c.new-kernel.ensures.user i) in
    let texts : Peeked → TextSurroundings = λ p. texts_by c.args.walker.now.table p c.args.tags.now in
    let begun = subst (λ (p : Peeked). IsBegun (guest_start (texts p) c.args.launch) c.args.tags.now c.first_by.new.tags (Ok c.in_ok-first.first)) same c.in_ok-first.ensures.begins in
    let noted = c.in_ok-first.ensures.noted ∙ (λ i. start_unmet (texts (same i)) c.args.launch (c.new-kernel.ensures.unmet i)) in
    (begun.0, begun.1, c.noting.ensures ∙ (λ i. noting (not ((c.unmet.ensures ∙ noted) i)) (begun.2 i)), begun.3)
