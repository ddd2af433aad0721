use Rattle.std.proofs.Common.{◌≡◌, ◌∙◌, ◌&&◌, false, ap}
use Rattle.std.proofs.lemmas.Result.{on_ok_weaker}
use Rattle.pt_args.specs.pr_base.declared.path.WalkMode.TheVariants as mode
use Rattle.pt_args.specs.pt_canon.Canon.{texts_by}
use Rattle.pt_args.specs.pt_canon.declared.canon.Canon.{Canon}
use Rattle.pt_args.specs.pt_canon.Remembering.{is_steady_key, key_of}
use Rattle.pt_results.proofs.UnmetLemmas.{noted_behind}
use Rattle.pt_results.proofs.link.Reader.jump_answer.Goals as goal

pub returns-in_default-clause-noted : goal.returns-in_default-clause-noted
returns-in_default-clause-noted g c = λ met. met

pub returns-in_ok-edit-in-Ok-clause-noted : goal.returns-in_ok-edit-in-Ok-clause-noted
returns-in_ok-edit-in-Ok-clause-noted g c = λ met.
    let old = g.K.Peeks.unmet c.args.kernel.now in
    let steady = is_steady_key (texts_by c.args.walker.now.table (g.K.Peeks.peeked c.args.kernel.now) c.args.self.now.tags.now) (key_of c.in-Some.dir.now c.in-Some.name.now mode.Look) in
    let walked : g.K.Peeks.unmet c.canon.new.kernel ≡ (old && steady) = c.in-Ok.ensures.noted in
    walked ∙ ap (λ b. b && steady) met

pub returns-in-Err-Err-clause-noted : goal.returns-in-Err-Err-clause-noted
returns-in-Err-Err-clause-noted g c = λ met.
    let old = g.K.Peeks.unmet c.args.kernel.now in
    let mid = g.K.Peeks.unmet c.canon.new.kernel in
    let steady = is_steady_key (texts_by c.args.walker.now.table (g.K.Peeks.peeked c.args.kernel.now) c.args.self.now.tags.now) (key_of c.in-Some.dir.now c.in-Some.name.now mode.Look) in
    let walked : mid ≡ (old && steady) = noted_behind Canon (old && steady) mid c.in-Err-Err.field-0 _ c.in-Err-Err.field-0-is c.in-Err-Err.ensures.noted in
    let unmet : mid ≡ false = walked ∙ ap (λ b. b && steady) met in
    let own = (g.K.Peeks.peeked c.canon.new.kernel).steady c.as_slice-in-Err-Err.result.now in
    on_ok_weaker c.nowhere_answer.result (λ e. e ∙ ap (λ b. b && own) unmet) c.nowhere_answer.ensures.noted
