use Rattle.std.proofs.Common.{inl, inr, map, refl}
use Rattle.std.specs.String.{string_bytes}
use Rattle.law_loosely.specs.law_machines.pr_io.Drawn.{gave}
use Rattle.law_loosely.specs.law_machines.pr_sources.declared.answer.Which.TheVariants.{Tree as TreeSource, Elf, Input, Out, Err as ErrSink, Left}
use Rattle.law_loosely.specs.law_machines.pr_sources.Asking.{asked}
use Rattle.law_loosely.specs.law_machines.pr_sources.Within.{IsEarly}
use Rattle.pr_call.specs.Promise.{NothingIsPut, opened_by, passed}
use Rattle.pr_call.proofs.HeadlineLemmas.{headline, read-too}
use Rattle.pr_call.proofs.LooseLemmas.{loose-headline}
use Rattle.pr_call.proofs.ReportLemmas.{comes-after, no-source-named, read-elf, read-input, refuses-not, run-told}
use Rattle.pr_call.proofs.TopLemmas.{complete, complete-refused, early-ends, ends-refused, ends-told, no-write, not-told, opening-told, refusal}
use Rattle.pr_call.proofs.Utf8Lemmas.{words-bytes}
use Rattle.pr_call.proofs.top.proot.Goals as goal

-- ---- a run

pub returns-in-Ok-clause-opening : goal.returns-in-Ok-clause-opening
returns-in-Ok-clause-opening g c =
    let p = passed g.T.Source c.args.tree.now c.open.new.tree g.E.Source c.args.elf.now c.open.new.elf g.I.Source c.args.input.now c.open.new.input
    g.O.Sink c.args.out.now c.report.new.out g.R.Sink c.args.err.now c.report.new.err g.L.Sink c.args.left.now c.report.new.left in
    run-told c.in-Ok.opened p c.report.result c.report.ensures (opened_by (map string_bytes c.args.words.now) p.sources) c.in-Ok.ensures.opens

pub returns-in-Ok-clause-headline : goal.returns-in-Ok-clause-headline
returns-in-Ok-clause-headline g c =
    let p = passed g.T.Source c.args.tree.now c.open.new.tree g.E.Source c.args.elf.now c.open.new.elf g.I.Source c.args.input.now c.open.new.input
    g.O.Sink c.args.out.now c.report.new.out g.R.Sink c.args.err.now c.report.new.err g.L.Sink c.args.left.now c.report.new.left in
    let words = map string_bytes c.args.words.now in
    let bytes = words-bytes c.args.words.now in
    headline c.openings_agree.ensures words (gave p.sources.tree) (gave p.sources.elf) (gave p.sources.input) bytes ⊥ (read-too words (gave p.sources.tree) (gave p.sources.elf) (gave p.sources.input) c.in-Ok.ensures.read)
    p c.report.result (λ none. absurd none) (run-told c.in-Ok.opened p c.report.result c.report.ensures (opened_by words p.sources) c.in-Ok.ensures.opens)

pub returns-in-Ok-clause-loose : goal.returns-in-Ok-clause-loose
returns-in-Ok-clause-loose g c =
    let p = passed g.T.Source c.args.tree.now c.open.new.tree g.E.Source c.args.elf.now c.open.new.elf g.I.Source c.args.input.now c.open.new.input
    g.O.Sink c.args.out.now c.report.new.out g.R.Sink c.args.err.now c.report.new.err g.L.Sink c.args.left.now c.report.new.left in
    let words = map string_bytes c.args.words.now in
    loose-headline c.loose_words_agree.ensures words (gave p.sources.tree) (gave p.sources.elf) (gave p.sources.input) (words-bytes c.args.words.now) ⊥
    (read-too words (gave p.sources.tree) (gave p.sources.elf) (gave p.sources.input) c.in-Ok.ensures.read)
    p c.report.result (inr (record { after = comes-after c.in-Ok.opened p c.report.result c.report.ensures; sinks = no-source-named c.in-Ok.opened p c.report.result c.report.ensures }))
    (λ none. absurd none) (run-told c.in-Ok.opened p c.report.result c.report.ensures (opened_by words p.sources) c.in-Ok.ensures.opens)

pub returns-in-Ok-clause-complete : goal.returns-in-Ok-clause-complete
returns-in-Ok-clause-complete g c =
    let p = passed g.T.Source c.args.tree.now c.open.new.tree g.E.Source c.args.elf.now c.open.new.elf g.I.Source c.args.input.now c.open.new.input
    g.O.Sink c.args.out.now c.report.new.out g.R.Sink c.args.err.now c.report.new.err g.L.Sink c.args.left.now c.report.new.left in
    λ none. complete c.in-Ok.opened p none c.report.result c.report.ensures (opened_by (map string_bytes c.args.words.now) p.sources) c.in-Ok.ensures.opens

pub returns-in-Ok-clause-ends : goal.returns-in-Ok-clause-ends
returns-in-Ok-clause-ends g c =
    let p = passed g.T.Source c.args.tree.now c.open.new.tree g.E.Source c.args.elf.now c.open.new.elf g.I.Source c.args.input.now c.open.new.input
    g.O.Sink c.args.out.now c.report.new.out g.R.Sink c.args.err.now c.report.new.err g.L.Sink c.args.left.now c.report.new.left in
    λ own. ends-told p c.report.result (comes-after c.in-Ok.opened p c.report.result c.report.ensures) (c.in-Ok.ensures.ends own)

pub returns-in-Ok-clause-refusal : goal.returns-in-Ok-clause-refusal
returns-in-Ok-clause-refusal g c =
    let p = passed g.T.Source c.args.tree.now c.open.new.tree g.E.Source c.args.elf.now c.open.new.elf g.I.Source c.args.input.now c.open.new.input
    g.O.Sink c.args.out.now c.report.new.out g.R.Sink c.args.err.now c.report.new.err g.L.Sink c.args.left.now c.report.new.left in
    λ refuses. absurd (refuses-not c.in-Ok.opened p c.report.result c.report.ensures refuses)

pub returns-in-Ok-clause-out_untouched : goal.returns-in-Ok-clause-out_untouched
returns-in-Ok-clause-out_untouched g c =
    let p = passed g.T.Source c.args.tree.now c.open.new.tree g.E.Source c.args.elf.now c.open.new.elf g.I.Source c.args.input.now c.open.new.input
    g.O.Sink c.args.out.now c.report.new.out g.R.Sink c.args.err.now c.report.new.err g.L.Sink c.args.left.now c.report.new.left in
    λ before. absurd (comes-after c.in-Ok.opened p c.report.result c.report.ensures before)

pub returns-in-Ok-clause-err_untouched : goal.returns-in-Ok-clause-err_untouched
returns-in-Ok-clause-err_untouched g c =
    let p = passed g.T.Source c.args.tree.now c.open.new.tree g.E.Source c.args.elf.now c.open.new.elf g.I.Source c.args.input.now c.open.new.input
    g.O.Sink c.args.out.now c.report.new.out g.R.Sink c.args.err.now c.report.new.err g.L.Sink c.args.left.now c.report.new.left in
    λ before. absurd (comes-after c.in-Ok.opened p c.report.result c.report.ensures before)

pub returns-in-Ok-clause-left_untouched : goal.returns-in-Ok-clause-left_untouched
returns-in-Ok-clause-left_untouched g c =
    let p = passed g.T.Source c.args.tree.now c.open.new.tree g.E.Source c.args.elf.now c.open.new.elf g.I.Source c.args.input.now c.open.new.input
    g.O.Sink c.args.out.now c.report.new.out g.R.Sink c.args.err.now c.report.new.err g.L.Sink c.args.left.now c.report.new.left in
    λ before. absurd (comes-after c.in-Ok.opened p c.report.result c.report.ensures before)

pub returns-in-Ok-clause-before_elf : goal.returns-in-Ok-clause-before_elf
returns-in-Ok-clause-before_elf g c =
    let p = passed g.T.Source c.args.tree.now c.open.new.tree g.E.Source c.args.elf.now c.open.new.elf g.I.Source c.args.input.now c.open.new.input
    g.O.Sink c.args.out.now c.report.new.out g.R.Sink c.args.err.now c.report.new.err g.L.Sink c.args.left.now c.report.new.left in
    λ before. absurd (read-elf c.in-Ok.opened p c.report.result c.report.ensures before)

pub returns-in-Ok-clause-before_input : goal.returns-in-Ok-clause-before_input
returns-in-Ok-clause-before_input g c =
    let p = passed g.T.Source c.args.tree.now c.open.new.tree g.E.Source c.args.elf.now c.open.new.elf g.I.Source c.args.input.now c.open.new.input
    g.O.Sink c.args.out.now c.report.new.out g.R.Sink c.args.err.now c.report.new.err g.L.Sink c.args.left.now c.report.new.left in
    λ before. absurd (read-input c.in-Ok.opened p c.report.result c.report.ensures before)

pub returns-in-Ok-clause-sinks : goal.returns-in-Ok-clause-sinks
returns-in-Ok-clause-sinks g c =
    let p = passed g.T.Source c.args.tree.now c.open.new.tree g.E.Source c.args.elf.now c.open.new.elf g.I.Source c.args.input.now c.open.new.input
    g.O.Sink c.args.out.now c.report.new.out g.R.Sink c.args.err.now c.report.new.err g.L.Sink c.args.left.now c.report.new.left in
    no-source-named c.in-Ok.opened p c.report.result c.report.ensures

-- ---- a refusal, or an early end

pub returns-in-Err-clause-opening : goal.returns-in-Err-clause-opening
returns-in-Err-clause-opening g c =
    let p = passed g.T.Source c.args.tree.now c.open.new.tree g.E.Source c.args.elf.now c.open.new.elf g.I.Source c.args.input.now c.open.new.input
    g.O.Sink c.args.out.now c.args.out.now g.R.Sink c.args.err.now c.args.err.now g.L.Sink c.args.left.now c.args.left.now in
    let none : NothingIsPut p = record { out_stays = refl; err_stays = refl; left_stays = refl } in
    opening-told c.in-Err.answer c.in-Err.ensures.kinds p none (opened_by (map string_bytes c.args.words.now) p.sources) c.in-Err.ensures.opens

pub returns-in-Err-clause-headline : goal.returns-in-Err-clause-headline
returns-in-Err-clause-headline g c =
    let p = passed g.T.Source c.args.tree.now c.open.new.tree g.E.Source c.args.elf.now c.open.new.elf g.I.Source c.args.input.now c.open.new.input
    g.O.Sink c.args.out.now c.args.out.now g.R.Sink c.args.err.now c.args.err.now g.L.Sink c.args.left.now c.args.left.now in
    let words = map string_bytes c.args.words.now in
    let a = c.in-Err.answer in
    let none : NothingIsPut p = record { out_stays = refl; err_stays = refl; left_stays = refl } in
    headline c.openings_agree.ensures words (gave p.sources.tree) (gave p.sources.elf) (gave p.sources.input) (words-bytes c.args.words.now) (IsEarly a) c.in-Err.ensures.read
    p a (λ early o. opening-told a c.in-Err.ensures.kinds p none o (inr early)) (opening-told a c.in-Err.ensures.kinds p none (opened_by words p.sources) c.in-Err.ensures.opens)

pub returns-in-Err-clause-loose : goal.returns-in-Err-clause-loose
returns-in-Err-clause-loose g c =
    let p = passed g.T.Source c.args.tree.now c.open.new.tree g.E.Source c.args.elf.now c.open.new.elf g.I.Source c.args.input.now c.open.new.input
    g.O.Sink c.args.out.now c.args.out.now g.R.Sink c.args.err.now c.args.err.now g.L.Sink c.args.left.now c.args.left.now in
    let words = map string_bytes c.args.words.now in
    let a = c.in-Err.answer in
    let none : NothingIsPut p = record { out_stays = refl; err_stays = refl; left_stays = refl } in
    loose-headline c.loose_words_agree.ensures words (gave p.sources.tree) (gave p.sources.elf) (gave p.sources.input) (words-bytes c.args.words.now) (IsEarly a) c.in-Err.ensures.read
    p a (inl none) (λ early. (early-ends a early, not-told a c.in-Err.ensures.kinds, none)) (opening-told a c.in-Err.ensures.kinds p none (opened_by words p.sources) c.in-Err.ensures.opens)

pub returns-in-Err-clause-refusal : goal.returns-in-Err-clause-refusal
returns-in-Err-clause-refusal g c =
    let p = passed g.T.Source c.args.tree.now c.open.new.tree g.E.Source c.args.elf.now c.open.new.elf g.I.Source c.args.input.now c.open.new.input
    g.O.Sink c.args.out.now c.args.out.now g.R.Sink c.args.err.now c.args.err.now g.L.Sink c.args.left.now c.args.left.now in
    λ refuses. refusal c.in-Err.answer (opened_by (map string_bytes c.args.words.now) p.sources) refuses c.in-Err.ensures.opens

pub returns-in-Err-clause-ends : goal.returns-in-Err-clause-ends
returns-in-Err-clause-ends g c =
    let p = passed g.T.Source c.args.tree.now c.open.new.tree g.E.Source c.args.elf.now c.open.new.elf g.I.Source c.args.input.now c.open.new.input
    g.O.Sink c.args.out.now c.args.out.now g.R.Sink c.args.err.now c.args.err.now g.L.Sink c.args.left.now c.args.left.now in
    let none : NothingIsPut p = record { out_stays = refl; err_stays = refl; left_stays = refl } in
    λ own. ends-refused p none c.in-Err.answer (c.in-Err.ensures.ends own)

pub returns-in-Err-clause-out_fault : goal.returns-in-Err-clause-out_fault
returns-in-Err-clause-out_fault g c =
    λ e. absurd (no-write c.in-Err.answer Out c.in-Err.ensures.kinds e)

pub returns-in-Err-clause-err_fault : goal.returns-in-Err-clause-err_fault
returns-in-Err-clause-err_fault g c =
    λ e. absurd (no-write c.in-Err.answer ErrSink c.in-Err.ensures.kinds e)

pub returns-in-Err-clause-left_fault : goal.returns-in-Err-clause-left_fault
returns-in-Err-clause-left_fault g c =
    λ e. absurd (no-write c.in-Err.answer Left c.in-Err.ensures.kinds e)

pub returns-in-Err-clause-sinks : goal.returns-in-Err-clause-sinks
returns-in-Err-clause-sinks g c =
    (no-write c.in-Err.answer TreeSource c.in-Err.ensures.kinds, no-write c.in-Err.answer Elf c.in-Err.ensures.kinds, no-write c.in-Err.answer Input c.in-Err.ensures.kinds)

pub returns-in-Err-clause-complete : goal.returns-in-Err-clause-complete
returns-in-Err-clause-complete g c =
    let p = passed g.T.Source c.args.tree.now c.open.new.tree g.E.Source c.args.elf.now c.open.new.elf g.I.Source c.args.input.now c.open.new.input
    g.O.Sink c.args.out.now c.args.out.now g.R.Sink c.args.err.now c.args.err.now g.L.Sink c.args.left.now c.args.left.now in
    λ none. complete-refused (asked (map string_bytes c.args.words.now)) p c.in-Err.answer (opened_by (map string_bytes c.args.words.now) p.sources) c.in-Err.ensures.causes c.in-Err.ensures.opens none
