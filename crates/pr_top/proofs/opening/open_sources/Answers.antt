use Rattle.std.proofs.Common.{◌≡◌, rules}
use Rattle.pr_run.specs.pr_io.Drawn.{drawn, gave}
use Rattle.pr_run.specs.pr_sources.Reading.{EndsBeforeElf, EndsBeforeInput, IsOfWords, ReadHasCause, Sources, read_asked}
use Rattle.pr_top.proofs.OpeningLemmas.{ends-start, if-err, no-read-fault, not-before-elf, not-before-input, not-of-words, opens-stop, opens-then, reads-stop, reads-then}
use Rattle.pr_top.proofs.opening.open_sources.Goals as goal

pub returns-in_err-asked-clause-opens : goal.returns-in_err-asked-clause-opens
returns-in_err-asked-clause-opens g c =
    let tree = drawn g.T.Source c.args.tree.now c.read.new.tree in
    let elf = drawn g.E.Source c.args.elf.now c.read.new.elf in
    let input = drawn g.I.Source c.args.input.now c.read.new.input in
    let stopped = opens-stop (read_asked c.args.options (gave tree) (gave elf) (gave input)) c.in_err-asked.field-0.0 c.in_err-asked.ensures.told in
    let h = c.from_residual.ensures in search (rules, stopped)

pub returns-clause-opens : goal.returns-clause-opens
returns-clause-opens g c =
    let tree = drawn g.T.Source c.args.tree.now c.read.new.tree in
    let elf = drawn g.E.Source c.args.elf.now c.read.new.elf in
    let input = drawn g.I.Source c.args.input.now c.read.new.input in
    opens-then (read_asked c.args.options (gave tree) (gave elf) (gave input)) c.in_ok-asked.asked c.begin.result c.in_ok-asked.ensures.told c.begin.ensures.begun

pub returns-clause-words : goal.returns-clause-words
returns-clause-words g c = if-err (λ answer. IsOfWords answer → ⊥) c.begin.result (not-of-words (λ answer. ⊥)) c.begin.ensures.kinds

pub returns-clause-causes : goal.returns-clause-causes
returns-clause-causes g c =
    let s : Sources = record { tree = drawn g.T.Source c.args.tree.now c.read.new.tree; elf = drawn g.E.Source c.args.elf.now c.read.new.elf; input = drawn g.I.Source c.args.input.now c.read.new.input } in
    if-err (ReadHasCause s) c.begin.result (no-read-fault s) c.begin.ensures.kinds

pub returns-clause-before_elf : goal.returns-clause-before_elf
returns-clause-before_elf g c = if-err (λ answer. EndsBeforeElf answer → c.read.new.elf ≡ c.args.elf.now) c.begin.result (not-before-elf (c.read.new.elf ≡ c.args.elf.now)) c.begin.ensures.kinds

pub returns-clause-before_input : goal.returns-clause-before_input
returns-clause-before_input g c = if-err (λ answer. EndsBeforeInput answer → c.read.new.input ≡ c.args.input.now) c.begin.result (not-before-input (c.read.new.input ≡ c.args.input.now)) c.begin.ensures.kinds

-- ---- what was read

pub returns-in_err-asked-clause-read : goal.returns-in_err-asked-clause-read
returns-in_err-asked-clause-read g c =
    let tree = drawn g.T.Source c.args.tree.now c.read.new.tree in
    let elf = drawn g.E.Source c.args.elf.now c.read.new.elf in
    let input = drawn g.I.Source c.args.input.now c.read.new.input in
    let stopped = reads-stop (read_asked c.args.options (gave tree) (gave elf) (gave input)) c.in_err-asked.field-0.0 c.in_err-asked.ensures.told in
    let h = c.from_residual.ensures in search (rules, stopped)

pub returns-clause-read : goal.returns-clause-read
returns-clause-read g c =
    let tree = drawn g.T.Source c.args.tree.now c.read.new.tree in
    let elf = drawn g.E.Source c.args.elf.now c.read.new.elf in
    let input = drawn g.I.Source c.args.input.now c.read.new.input in
    reads-then (read_asked c.args.options (gave tree) (gave elf) (gave input)) c.in_ok-asked.asked c.begin.result c.in_ok-asked.ensures.told
    (record { listing = c.in_ok-asked.ensures.listing; kept = c.in_ok-asked.ensures.kept; input = c.in_ok-asked.ensures.bytes })

pub returns-clause-ends : goal.returns-clause-ends
returns-clause-ends g c =
    let s : Sources = record { tree = drawn g.T.Source c.args.tree.now c.read.new.tree; elf = drawn g.E.Source c.args.elf.now c.read.new.elf; input = drawn g.I.Source c.args.input.now c.read.new.input } in
    ends-start s c.begin.result c.in_ok-asked.ensures.ends c.begin.ensures.kinds
