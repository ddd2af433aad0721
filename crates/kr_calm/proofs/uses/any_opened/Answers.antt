use Rattle.std.proofs.Common.{◌+◌, Some, None, arith, refl, sym, ◌∙◌}
use Rattle.kr_seen.specs.kr_files.Descriptors.{meanings}
use Rattle.kr_calm.specs.Questions.{opened_answers}
use Rattle.kr_calm.proofs.UseLemmas.{found-below, next-below, none-below, passes-opened}
use Rattle.kr_calm.proofs.uses.any_opened.Goals as goal
use Rattle.kr_calm.proofs.uses.any_opened.Goals.{in-Some+else-opened_answers, in_default}

pub loop-fd-init : goal.loop-fd-init
loop-fd-init g c = none-below (opened_answers c.args.tree.now c.args.question) c.args.files.now.table (meanings c.args.descs.now)

pub returns-then-opened_answers : goal.returns-then-opened_answers
returns-then-opened_answers g c =
    sym (found-below (opened_answers c.args.tree.now c.args.question) c.args.files.now.table (meanings c.args.descs.now) 1024 c.loop-fd.fd (omega (arith, c.loop-fd-test.true))
    (passes-opened (opened_answers c.args.tree.now c.args.question) c.args.files.now c.args.descs.now c.loop-fd.fd (Some c.in-Some.opened.now) c.in-Some.ensures.value
    ∙ sym c.opened_answers.ensures ∙ c.if-opened_answers.true))

pub loop-fd-preserved : goal.loop-fd-preserved
loop-fd-preserved g c = elim c.match-get.branch [
  | in-Some+else-opened_answers w ↦
      next-below (opened_answers c.args.tree.now c.args.question) c.args.files.now.table (meanings c.args.descs.now) c.loop-fd.fd (c.loop-fd.fd + 1) refl c.loop-fd.invariant
      (passes-opened (opened_answers c.args.tree.now c.args.question) c.args.files.now c.args.descs.now c.loop-fd.fd (Some w.in-Some.opened.now) w.in-Some.ensures.value
      ∙ sym w.opened_answers.ensures ∙ w.if-opened_answers.false)
  | in_default w ↦
      next-below (opened_answers c.args.tree.now c.args.question) c.args.files.now.table (meanings c.args.descs.now) c.loop-fd.fd (c.loop-fd.fd + 1) refl c.loop-fd.invariant
      (passes-opened (opened_answers c.args.tree.now c.args.question) c.args.files.now c.args.descs.now c.loop-fd.fd None w.in_default.ensures.value)
]
