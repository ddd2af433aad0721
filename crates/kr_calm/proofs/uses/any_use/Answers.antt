use Rattle.std.proofs.Common.{ap, arith, sym, ◌∙◌, ◌||◌}
use Rattle.kr_seen.specs.kr_files.Descriptors.{meanings}
use Rattle.kr_seen.specs.kr_files.Files.{NamesOpenFiles}
use Rattle.kr_seen.specs.kr_ops.Meaning.{process_meaning}
use Rattle.kr_seen.specs.kr_ops.declared.state.Process.{Process}
use Rattle.kr_seen.proofs.kr_ops.AskLemmas.{next-fails, some-passes}
use Rattle.kr_seen.proofs.kr_ops.ServeLemmas.{all-at}
use Rattle.kr_calm.specs.InUse.{any_opened}
use Rattle.kr_calm.specs.Questions.{opened_answers, own_answers, process_answers}
use Rattle.kr_calm.proofs.uses.any_use.Goals as goal

pub any_opened-requires : goal.any_opened-requires
any_opened-requires g c =
    all-at (λ (p : Process _ _). NamesOpenFiles c.args.state.now.files p.descs) c.args.state.now.living.items c.loop-k.k c.index-process.result.now c.requires.files
    (omega (arith, c.loop-k-test.true, c.len-k-end.ensures)) c.index-process.ensures

pub returns-then-own_answers : goal.returns-then-own_answers
returns-then-own_answers g c =
    let opened = any_opened (opened_answers c.args.state.now.tree c.args.question) c.args.state.now.files.table (meanings c.index-process.result.now.descs) in
    sym
    (some-passes process_meaning (process_answers c.args.state.now.tree c.args.question c.args.state.now.files.table) c.args.state.now.living.items c.loop-k.k c.index-process.result.now
    (omega (arith, c.loop-k-test.true, c.len-k-end.ensures)) c.index-process.ensures (ap (λ b. b || opened) (ap (own_answers c.args.state.now.tree c.args.question c.index-process.result.now.cwd.host c.index-process.result.now.exe_dir) (sym c.as_slice-exe_name.ensures) ∙ sym c.own_answers.ensures ∙ c.if-own_answers.true)))

pub returns-then-any_opened : goal.returns-then-any_opened
returns-then-any_opened g c =
    let opened = any_opened (opened_answers c.args.state.now.tree c.args.question) c.args.state.now.files.table (meanings c.index-process.result.now.descs) in
    sym
    (some-passes process_meaning (process_answers c.args.state.now.tree c.args.question c.args.state.now.files.table) c.args.state.now.living.items c.loop-k.k c.index-process.result.now
    (omega (arith, c.loop-k-test.true, c.len-k-end.ensures)) c.index-process.ensures
    (ap (λ b. b || opened) (ap (own_answers c.args.state.now.tree c.args.question c.index-process.result.now.cwd.host c.index-process.result.now.exe_dir) (sym c.as_slice-exe_name.ensures) ∙ sym c.own_answers.ensures ∙ c.if-own_answers.false) ∙ sym c.any_opened.ensures ∙ c.if-any_opened.true))

pub loop-k-preserved : goal.loop-k-preserved
loop-k-preserved g c =
    let opened = any_opened (opened_answers c.args.state.now.tree c.args.question) c.args.state.now.files.table (meanings c.index-process.result.now.descs) in
    next-fails process_meaning (process_answers c.args.state.now.tree c.args.question c.args.state.now.files.table) c.args.state.now.living.items c.loop-k.k c.index-process.result.now
    (omega (arith, c.loop-k-test.true, c.len-k-end.ensures)) c.index-process.ensures
    (ap (λ b. b || opened) (ap (own_answers c.args.state.now.tree c.args.question c.index-process.result.now.cwd.host c.index-process.result.now.exe_dir) (sym c.as_slice-exe_name.ensures) ∙ sym c.own_answers.ensures ∙ c.if-own_answers.false) ∙ sym c.any_opened.ensures ∙ c.if-any_opened.false) c.loop-k.invariant
