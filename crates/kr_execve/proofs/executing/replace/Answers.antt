use Rattle.std.proofs.Common.{◌≡◌, true, sym, subst, arith}
use Rattle.std.proofs.lemmas.Result.{err_from_is_err_and}
use Rattle.kr_exec.specs.kr_view.declared.target.Target.{Target}
use Rattle.kr_exec.specs.Finding.{is_program_found}
use Rattle.kr_exec.specs.declared.plan.ExecPlan.{ExecPlan}
use Rattle.kr_perform.specs.kr_model.State as model
use Rattle.kr_execve.proofs.ExitLemmas.{exit-find, exit-plan, exit-put, exit-read, exit-refused, read-lawful, ready}
use Rattle.kr_execve.proofs.executing.replace.Goals as goal

pub returns-in_err-found : goal.returns-in_err-found
returns-in_err-found g c =
    let e = err_from_is_err_and c.from_residual.result c.from_residual.ensures.1 in
    rw (e.1, e.2)
    (exit-find g.P.Places.number (g.P.Places.mounts c.args.places.now) c.args.pid c.args.path.now c.args.args c.args.env c.args.state.now c.requires.caller.lawful c.requires.caller.served c.requires.caller.lives c.cwd_of-base.result c.cwd_of-base.ensures
    (Target g.row.P-Mount.Denot) c.args.reach.now c.find.new.reach c.in_err-found.field-0.0 c.in_err-found.ensures.answer c.in_err-found.ensures.reach)

pub returns-in_err-lists : goal.returns-in_err-lists
returns-in_err-lists g c =
    let e = err_from_is_err_and c.from_residual-in_err-lists.result c.from_residual-in_err-lists.ensures.1 in
    let w = c.in_ok-found.ensures.answer in
    rw (e.1, e.2)
    (exit-read g.P.Places.number (g.P.Places.mounts c.args.places.now) c.args.pid c.args.path.now c.args.args c.args.env c.args.state.now c.requires.caller.lawful c.requires.caller.served c.requires.caller.lives c.cwd_of-base.result c.cwd_of-base.ensures
    w.0 w.1 c.args.reach.now c.find.new.reach c.in_ok-found.ensures.reach c.read.new.state c.in_err-lists.field-0.0 c.in_err-lists.ensures)

pub plan-requires : goal.plan-requires
plan-requires g c =
    let w = c.in_ok-found.ensures.answer in
    let has = c.in_ok-lists.ensures.1 in (
      omega arith,
      (
        record {
          lawful = read-lawful g.P.Places.number (g.P.Places.mounts c.args.places.now) c.args.pid c.args.path.now c.args.args c.args.env c.args.state.now c.requires.caller.lawful c.requires.caller.served c.requires.caller.lives c.cwd_of-base.result c.cwd_of-base.ensures
              w.0 w.1 c.args.reach.now c.find.new.reach c.in_ok-found.ensures.reach c.read.new.state c.in_ok-lists.lists c.in_ok-lists.ensures.0 has c.in_ok-found.found w.2;
          served = has.sound.served;
        },
        subst (λ (u : model.State g.row.P-Mount.Denot model.Image). is_program_found u.tree u.user c.in_ok-found.found.found ≡ true) (sym has.means) c.in_ok-found.ensures.program,
      ),
    )

pub returns-in_err-plan : goal.returns-in_err-plan
returns-in_err-plan g c =
    let e = err_from_is_err_and c.from_residual-in_err-plan.result c.from_residual-in_err-plan.ensures.1 in
    let w = c.in_ok-found.ensures.answer in
    rw (e.1, e.2)
    (exit-plan g.P.Places.number (g.P.Places.mounts c.args.places.now) c.args.pid c.args.path.now c.args.args c.args.env c.args.state.now c.requires.caller.lawful c.requires.caller.served c.requires.caller.lives c.cwd_of-base.result c.cwd_of-base.ensures
    w.0 w.1 c.args.reach.now c.find.new.reach c.in_ok-found.ensures.reach c.read.new.state c.in_ok-lists.lists c.in_ok-lists.ensures.0 c.in_ok-lists.ensures.1 c.in_ok-found.found w.2
    (ExecPlan g.row.P-Mount.Denot) c.plan.new.reach c.in_err-plan.field-0.0 c.in_err-plan.ensures.answer c.in_err-plan.ensures.reach)

pub put-requires : goal.put-requires
put-requires g c =
    let w = c.in_ok-found.ensures.answer in
    let plan = c.in_ok-plan.plan in (
      omega arith,
      ready g.P.Places.number (g.P.Places.mounts c.args.places.now) c.args.pid c.args.path.now c.args.args c.args.env c.args.state.now c.requires.caller.lawful c.requires.caller.served c.requires.caller.lives c.cwd_of-base.result c.cwd_of-base.ensures
          w.0 w.1 c.args.reach.now c.find.new.reach c.in_ok-found.ensures.reach c.read.new.state c.in_ok-lists.lists c.in_ok-lists.ensures.0 c.in_ok-lists.ensures.1 c.in_ok-found.found w.2
          plan c.in_ok-plan.ensures.answer c.requires.text c.requires.bytes c.requires.links c.requires.named c.in_ok-plan.ensures.program c.in_ok-plan.ensures.file c.in_ok-plan.ensures.fit,
    )

pub marks_read-read-requires : goal.marks_read-read-requires
marks_read-read-requires g c =
    let has = c.in_ok-lists.ensures.1 in
    (omega arith, has.sound)

pub returns-in-Ok : goal.returns-in-Ok
returns-in-Ok g c =
    let w = c.in_ok-found.ensures.answer in
    let plan = c.in_ok-plan.plan in
    exit-put g.P.Places.number (g.P.Places.mounts c.args.places.now) c.args.pid c.args.path.now c.args.args c.args.env c.args.state.now c.requires.caller.lawful c.requires.caller.served c.requires.caller.lives c.cwd_of-base.result c.cwd_of-base.ensures
    w.0 w.1 c.args.reach.now c.find.new.reach c.in_ok-found.ensures.reach c.read.new.state c.in_ok-lists.lists c.in_ok-lists.ensures.0 c.in_ok-lists.ensures.1 c.in_ok-found.found w.2
    plan c.in_ok-plan.ensures.answer c.requires.text c.requires.bytes c.requires.links c.requires.named c.in_ok-plan.ensures.program c.plan.new.reach c.put.new.state c.in_ok-plan.ensures.reach
    c.marks_read-read.result c.marks_read-read.ensures c.in-Ok.ensures

pub returns-in-Err : goal.returns-in-Err
returns-in-Err g c =
    let w = c.in_ok-found.ensures.answer in
    let plan = c.in_ok-plan.plan in
    exit-refused g.P.Places.number (g.P.Places.mounts c.args.places.now) c.args.pid c.args.path.now c.args.args c.args.env c.args.state.now c.requires.caller.lawful c.requires.caller.served c.requires.caller.lives c.cwd_of-base.result c.cwd_of-base.ensures
    w.0 w.1 c.args.reach.now c.find.new.reach c.in_ok-found.ensures.reach c.read.new.state c.in_ok-lists.lists c.in_ok-lists.ensures.0 c.in_ok-lists.ensures.1 c.in_ok-found.found w.2
    plan c.in_ok-plan.ensures.answer c.requires.text c.requires.bytes c.requires.links c.requires.named c.in_ok-plan.ensures.program c.plan.new.reach c.put.new.state c.in_ok-plan.ensures.reach
    c.in-Err.fault c.in-Err.ensures
