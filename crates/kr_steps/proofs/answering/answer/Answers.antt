use Rattle.std.proofs.Common.{false, ap, ◌∙◌, w64}
use Rattle.std.specs.Int.{cast_unsigned}
use Rattle.std.proofs.Math.Facts.{to_z-of_z}
use Rattle.kr_perform.specs.kr_model.Applied.{with_living}
use Rattle.kr_perform.specs.kr_model.State.{with_process}
use Rattle.kr_perform.specs.kr_ops.Meaning.{meaning}
use Rattle.kr_perform.proofs.kr_ops.ChangeLemmas.{nobody-changed}
use Rattle.kr_steps.specs.Answering.{going, with_answer, with_word}
use Rattle.kr_steps.proofs.ComputingLemmas.{going-means, going-runs}
use Rattle.kr_steps.proofs.answering.answer.Goals as goal

pub returns-in-Some-clause-answers : goal.returns-in-Some-clause-answers
returns-in-Some-clause-answers g c =
    let s = c.args.state.now in
    let p = c.index_mut-process.result.now in
    going-means s c.args.pid c.in-Some.k p c.requires c.in-Some.ensures.some c.index_mut-process.ensures.value (with_word c.cast_unsigned.result) false
    ∙ ap (λ word. with_living (with_process c.args.pid (going (with_word word) false)) (meaning s)) (c.cast_unsigned.ensures ∙ ap (cast_unsigned w64) (to_z-of_z {w = w64} {z = c.args.value} c.ranges.value))

pub returns-in-Some-clause-runs : goal.returns-in-Some-clause-runs
returns-in-Some-clause-runs g c =
    let s = c.args.state.now in
    let p = c.index_mut-process.result.now in
    going-runs s c.args.pid c.in-Some.k p c.requires c.in-Some.ensures.some c.index_mut-process.ensures.value (with_word c.cast_unsigned.result) false

pub returns-in_default-clause-answers : goal.returns-in_default-clause-answers
returns-in_default-clause-answers g c = nobody-changed c.args.state.now c.args.pid (going (with_answer c.args.value) false) (c.index_of.ensures.none c.in_default.is)
