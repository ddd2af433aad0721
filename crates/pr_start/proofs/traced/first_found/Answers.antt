use Rattle.std.proofs.Common.{◌≡◌, ◌+◌, ◌-◌, ◌<◌, ◌^◌, ◌∙◌, [], not, true, ap, arith, lit<, subst, sym}
use Rattle.pt_tracer.specs.pt_canon.Canon.{texts_by}
use Rattle.pt_tracer.specs.pt_canon.Remembering.{Walking}
use Rattle.pt_tracer.specs.pt_canon.TextWalk.{TextSurroundings}
use Rattle.pt_tracer.proofs.pt_canon.RememberLemmas.{nothing_agrees}
use Rattle.pt_first.specs.FirstPeeks.{first_peeked}
use Rattle.pt_first.specs.GuestStart.{IsBegunNoting, guest_start, start_unmet}
use Rattle.pr_start.proofs.traced.first_found.Goals as goal

pub pause-requires : goal.pause-requires
pause-requires c = subst (λ n. n < 2 ^ 63) (sym c.requires.unpaused) (lit< tt)

-- the walker pauses, and remembers nothing
pub first-found-requires : goal.first-found-requires
first-found-requires c = record { agrees = nothing_agrees c.pause.new.self (first_peeked c.args.tree.now c.args.user) (ap (λ (w : Walking). w.remembered) c.pause.ensures) }

pub resume-requires : goal.resume-requires
resume-requires c =
    let kept = c.first-found.ensures.walker.pauses in
    let one : c.pause.new.self.pauses ≡ c.args.walker.now.pauses + 1 = ap (λ (w : Walking). w.pauses) c.pause.ensures in
    λ none. absurd (omega arith)

pub returns-clause-begins : goal.returns-clause-begins
returns-clause-begins c =
    let texts : Walking → TextSurroundings = λ w. texts_by w.table (first_peeked c.args.tree.now c.args.user) c.args.tags.now in
    subst (λ (w : Walking). IsBegunNoting (not (start_unmet (texts w) c.args.launch true)) (guest_start (texts w) c.args.launch) c.args.tags.now c.first-found.new.tags c.first-found.result) c.pause.ensures
    c.first-found.ensures.begins

pub returns-clause-walker : goal.returns-clause-walker
returns-clause-walker c =
    let kept = c.first-found.ensures.walker.pauses in
    let none = c.requires.unpaused in
    let one : c.pause.new.self.pauses ≡ c.args.walker.now.pauses + 1 = ap (λ (w : Walking). w.pauses) c.pause.ensures in
    let back : c.first-found.new.walker.pauses - 1 ≡ 0 = omega arith in
    let table = c.first-found.ensures.walker.table ∙ ap (λ (w : Walking). w.table) c.pause.ensures in
    c.resume.ensures ∙ (λ i. record { table = table i; pauses = back i; remembered = [] })
