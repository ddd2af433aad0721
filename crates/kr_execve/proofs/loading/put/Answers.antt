use Rattle.std.proofs.Common.{Some, None, refl, sym, ap, subst, ◌∙◌, arith}
use Rattle.std.specs.Prelude.{IsSome}
use Rattle.kr_exec.specs.kr_tree.Tree.{inode}
use Rattle.kr_perform.proofs.law_lawful.AfterLemmas.{object-there}
use Rattle.kr_perform.specs.kr_model.Applied.{Mounts, applied, images}
use Rattle.kr_perform.specs.kr_model.Change.{CloseOnExec, OfFound, ReplaceExecutable}
use Rattle.kr_perform.specs.kr_model.Lawful.{IsLawful}
use Rattle.kr_perform.specs.kr_model.State.{Image, State, inode_of, process}
use Rattle.kr_perform.specs.kr_ops.Meaning.{meaning}
use Rattle.kr_execve.proofs.PuttingLemmas.{executing-lawful, loaded-lawful, loaded-lives}
use Rattle.kr_execve.proofs.loading.put.Goals as goal

pub replace_executable-requires : goal.replace_executable-requires
replace_executable-requires g c =
    let ready = c.requires in
    let plan = c.args.plan in
    let s = meaning c.args.state.now in
    let loads = c.in_ok-replace_image.ensures in
    let mounts : Mounts g.row.T.Denot = record { found = Some plan.place.mount; directory = None } in
    let lawful = loaded-lawful ready.number ready.table c.args.pid s plan ready.lawful ready.lives loads.1 ready.stands ready.is_file ready.named mounts refl in
    let lives = loaded-lives ready.number ready.table c.args.pid s plan ready.lawful ready.lives loads.1 ready.stands ready.is_file ready.named mounts refl in
    let means = loads.2 mounts in (
      omega arith,
      (
        record {
          sound = c.lawful_states_are_sound.ensures ready.number ready.table c.replace_image.new.state (subst (IsLawful ready.number ready.table) (sym means) lawful) loads.3;
          lives = subst (λ (u : State g.row.T.Denot Image). IsSome (process c.args.pid u)) (sym means) lives;
        },
        subst (λ (u : State g.row.T.Denot Image). IsSome (inode u.tree (inode_of plan.place.host))) (sym means) (object-there s.tree plan.place.host ready.stands.object),
      ),
    )

pub close_on_exec-requires : goal.close_on_exec-requires
close_on_exec-requires g c =
    let ready = c.requires in
    let plan = c.args.plan in
    let s = meaning c.args.state.now in
    let loads = c.in_ok-replace_image.ensures in
    let mounts : Mounts g.row.T.Denot = record { found = Some plan.place.mount; directory = None } in
    let lawful = executing-lawful ready.number ready.table c.args.pid s plan ready.lawful ready.lives loads.1 ready.stands ready.is_file ready.named mounts refl in
    let change = ReplaceExecutable OfFound plan.place.host plan.dir plan.name in
    let means = c.replace_executable.ensures.makes mounts OfFound refl ∙ ap (applied images mounts c.args.pid change) (loads.2 mounts) in
    (omega arith, record { number = ready.number; table = ready.table; lawful = subst (IsLawful ready.number ready.table) (sym means) lawful; served = c.replace_executable.ensures.served })

pub returns : goal.returns
returns g c =
    let plan = c.args.plan in
    let loads = c.in_ok-replace_image.ensures in
    let change = ReplaceExecutable OfFound plan.place.host plan.dir plan.name in (
      loads.0,
      loads.1,
      λ mounts taken.
          c.close_on_exec.ensures.makes mounts
          ∙ ap (applied images mounts c.args.pid CloseOnExec) (c.replace_executable.ensures.makes mounts OfFound taken ∙ ap (applied images mounts c.args.pid change) (loads.2 mounts)),
      c.close_on_exec.ensures.served,
    )
