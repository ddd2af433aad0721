use Rattle.std.proofs.Common.{◌≡◌, rules, map, refl}
use Rattle.std.specs.Prelude.{Err}
use Rattle.std.specs.String.{string_bytes}
use Rattle.pr_run.specs.pr_io.Drawn.{drawn, gave}
use Rattle.pr_run.specs.pr_sources.Asking.{asked}
use Rattle.pr_run.specs.pr_sources.Reading.{HasCause, IsOfWords, ReadHasCause, Sources, read_asked}
use Rattle.pr_run.proofs.pr_sources.DrawnLemmas.{drawn_none}
use Rattle.pr_top.specs.Opening.{ReadsAs, opened_for}
use Rattle.pr_top.proofs.OpeningLemmas.{ends-refused, err-then, has-cause, if-err, no-fault, not-of-words, opens-case, opens-refused, opens-sources, reads, reads-case, reads-not, reads-refused, reads-sources}
use Rattle.pr_top.proofs.opening.open.Goals as goal

pub returns-in_err-options-clause-opens : goal.returns-in_err-options-clause-opens
returns-in_err-options-clause-opens g c =
    let tree = drawn g.T.Source c.args.tree.now c.args.tree.now in
    let elf = drawn g.E.Source c.args.elf.now c.args.elf.now in
    let input = drawn g.I.Source c.args.input.now c.args.input.now in
    let stopped = opens-refused (asked (map string_bytes c.args.words.now)) (λ o. opened_for o.case o (gave tree) (gave elf) (gave input)) c.in_err-options.field-0.0 c.in_err-options.ensures.kinds c.in_err-options.ensures.answer in
    let h = c.from_residual.ensures in search (rules, stopped)

pub returns-in-Some-clause-opens : goal.returns-in-Some-clause-opens
returns-in-Some-clause-opens g c =
    let tree = drawn g.T.Source c.args.tree.now c.args.tree.now in
    let elf = drawn g.E.Source c.args.elf.now c.args.elf.now in
    let input = drawn g.I.Source c.args.input.now c.args.input.now in
    opens-case (asked (map string_bytes c.args.words.now)) c.in_ok-options.options c.in_ok-options.ensures.answer c.in-Some.number c.in-Some.is (gave tree) (gave elf) (gave input) c.begin_case.result c.begin_case.ensures.begun

pub returns-in-Some-clause-words : goal.returns-in-Some-clause-words
returns-in-Some-clause-words g c =
    if-err (λ answer. IsOfWords answer → asked (map string_bytes c.args.words.now) ≡ Err answer) c.begin_case.result (not-of-words (λ answer. asked (map string_bytes c.args.words.now) ≡ Err answer)) c.begin_case.ensures.kinds

pub returns-in-Some-clause-causes : goal.returns-in-Some-clause-causes
returns-in-Some-clause-causes g c =
    let s : Sources = record { tree = drawn g.T.Source c.args.tree.now c.args.tree.now; elf = drawn g.E.Source c.args.elf.now c.args.elf.now; input = drawn g.I.Source c.args.input.now c.args.input.now } in
    if-err (HasCause (asked (map string_bytes c.args.words.now)) s) c.begin_case.result (no-fault (asked (map string_bytes c.args.words.now)) s) c.begin_case.ensures.kinds

pub returns-in-None-clause-opens : goal.returns-in-None-clause-opens
returns-in-None-clause-opens g c =
    let tree = drawn g.T.Source c.args.tree.now c.open_sources.new.tree in
    let elf = drawn g.E.Source c.args.elf.now c.open_sources.new.elf in
    let input = drawn g.I.Source c.args.input.now c.open_sources.new.input in
    opens-sources (asked (map string_bytes c.args.words.now)) c.in_ok-options.options c.in_ok-options.ensures.answer c.in-None.is (gave tree) (gave elf) (gave input) c.open_sources.result c.open_sources.ensures.opens

pub returns-in-None-clause-words : goal.returns-in-None-clause-words
returns-in-None-clause-words g c =
    err-then (λ answer. IsOfWords answer → ⊥) (λ answer. IsOfWords answer → asked (map string_bytes c.args.words.now) ≡ Err answer) c.open_sources.result (λ answer none words. absurd (none words)) c.open_sources.ensures.words

pub returns-in-None-clause-causes : goal.returns-in-None-clause-causes
returns-in-None-clause-causes g c =
    let s : Sources = record { tree = drawn g.T.Source c.args.tree.now c.open_sources.new.tree; elf = drawn g.E.Source c.args.elf.now c.open_sources.new.elf; input = drawn g.I.Source c.args.input.now c.open_sources.new.input } in
    err-then (ReadHasCause s) (HasCause (asked (map string_bytes c.args.words.now)) s) c.open_sources.result
    (has-cause (asked (map string_bytes c.args.words.now)) s (reads (asked (map string_bytes c.args.words.now)) c.in_ok-options.options c.in_ok-options.ensures.answer c.in-None.is)) c.open_sources.ensures.causes

-- ---- what was read

pub returns-in_err-options-clause-read : goal.returns-in_err-options-clause-read
returns-in_err-options-clause-read g c =
    let tree = drawn g.T.Source c.args.tree.now c.args.tree.now in
    let elf = drawn g.E.Source c.args.elf.now c.args.elf.now in
    let input = drawn g.I.Source c.args.input.now c.args.input.now in
    let stopped = reads-refused (asked (map string_bytes c.args.words.now)) (λ o. read_asked o (gave tree) (gave elf) (gave input)) c.in_err-options.field-0.0 c.in_err-options.ensures.kinds c.in_err-options.ensures.answer in
    let h = c.from_residual.ensures in search (rules, stopped)

pub returns-in-Some-clause-read : goal.returns-in-Some-clause-read
returns-in-Some-clause-read g c =
    let tree = drawn g.T.Source c.args.tree.now c.args.tree.now in
    let elf = drawn g.E.Source c.args.elf.now c.args.elf.now in
    let input = drawn g.I.Source c.args.input.now c.args.input.now in
    reads-case (asked (map string_bytes c.args.words.now)) c.in_ok-options.options (λ o. ReadsAs (read_asked o (gave tree) (gave elf) (gave input)) c.begin_case.result) c.in-Some.number c.in_ok-options.ensures.answer c.in-Some.is

pub returns-in-None-clause-read : goal.returns-in-None-clause-read
returns-in-None-clause-read g c =
    let tree = drawn g.T.Source c.args.tree.now c.open_sources.new.tree in
    let elf = drawn g.E.Source c.args.elf.now c.open_sources.new.elf in
    let input = drawn g.I.Source c.args.input.now c.open_sources.new.input in
    reads-sources (asked (map string_bytes c.args.words.now)) c.in_ok-options.options (λ o. ReadsAs (read_asked o (gave tree) (gave elf) (gave input)) c.open_sources.result) c.in_ok-options.ensures.answer c.open_sources.ensures.read

-- ---- what was read to its end

pub returns-in_err-options-clause-ends : goal.returns-in_err-options-clause-ends
returns-in_err-options-clause-ends g c =
    let s : Sources = record { tree = drawn g.T.Source c.args.tree.now c.args.tree.now; elf = drawn g.E.Source c.args.elf.now c.args.elf.now; input = drawn g.I.Source c.args.input.now c.args.input.now } in
    let stopped = ends-refused (asked (map string_bytes c.args.words.now)) s c.in_err-options.field-0.0 c.in_err-options.ensures.kinds c.in_err-options.ensures.answer in
    let h = c.from_residual.ensures in search (rules, stopped)

pub returns-in-Some-clause-ends : goal.returns-in-Some-clause-ends
returns-in-Some-clause-ends g c = λ own. absurd (reads-not (asked (map string_bytes c.args.words.now)) c.in_ok-options.options c.in_ok-options.ensures.answer c.in-Some.number c.in-Some.is own)

-- a source that isn't read gives none

pub returns-in_err-options-clause-gives : goal.returns-in_err-options-clause-gives
returns-in_err-options-clause-gives g c = record { tree_drawn = drawn_none _ refl refl; elf_drawn = drawn_none _ refl refl; input_drawn = drawn_none _ refl refl }

pub returns-in-Some-clause-gives : goal.returns-in-Some-clause-gives
returns-in-Some-clause-gives g c = record { tree_drawn = drawn_none _ refl refl; elf_drawn = drawn_none _ refl refl; input_drawn = drawn_none _ refl refl }
