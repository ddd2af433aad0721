use Rattle.std.proofs.Common.{ℕ, List, ◌≤◌, ◌<◌, length, [], refl, ap, ◌∙◌, arith}
use Rattle.kr_seen.specs.pr_base.declared.errno.Errno.TheVariants.{EFAULT, ERANGE}
use Rattle.kr_seen.specs.rv_mem.Actions.{write_if_allowed}
use Rattle.kr_seen.specs.kr_model.Reply.{done, refuse}
use Rattle.kr_seen.proofs.PerformLemmas.{by-refusal, by-row}
use Rattle.kr_attributes.proofs.TextLemmas.{fits, too-long}
use Rattle.kr_attributes.proofs.names.tell_directory.Goals as goal

pub returns-then-size-as_slice-clause-performs : goal.returns-then-size-as_slice-clause-performs
returns-then-size-as_slice-clause-performs g c = λ some.
    let same = ap (λ (bytes : List ℕ). length bytes) c.as_slice.ensures in
    let few : c.args.size ≤ length c.args.name = omega arith in
    by-refusal c.args.pid _ c.args.state.now c.args.state.now c.refused.result c.requires.sound.pids ERANGE (too-long c.args.buf c.args.size c.args.name few) c.refused.ensures refl

pub returns-in-Ok-clause-performs : goal.returns-in-Ok-clause-performs
returns-in-Ok-clause-performs g c = λ some.
    let same = ap (λ (bytes : List ℕ). length bytes) c.as_slice.ensures in
    let more : length c.args.name < c.args.size = omega arith in
    let bytes = c.as_slice-in-Ok.result.now in
    by-row c.args.pid _ c.args.state.now c.tell_name.new.state c.tell_name.result c.requires.sound.pids (λ _. write_if_allowed c.args.buf bytes (refuse EFAULT) (done (length bytes) []))
    (fits c.args.buf c.args.size c.args.name bytes more (c.as_slice-in-Ok.ensures ∙ c.in-Ok.ensures.ok)) (c.tell_name.ensures.performs some)
