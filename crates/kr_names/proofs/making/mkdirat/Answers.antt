use Rattle.std.proofs.Common.{refl, sym, ap, subst, ◌∙◌, ◌+◌, ◌<◌, ◌^◌, [], None, lit<}
use Rattle.kr_seen.specs.pr_base.declared.errno.Errno.TheVariants.{EEXIST}
use Rattle.kr_seen.specs.kr_tree.Changes.{next_serial}
use Rattle.kr_seen.specs.kr_tree.Tree.{Directory}
use Rattle.kr_seen.specs.kr_tree.declared.place.Host.{Host}
use Rattle.kr_seen.specs.kr_model.Asking.{writable}
use Rattle.kr_seen.specs.kr_model.Known.{known}
use Rattle.kr_seen.specs.kr_model.NameRows.{mkdirat_row}
use Rattle.kr_seen.specs.kr_model.State.{image_layout, inode_of}
use Rattle.kr_seen.specs.kr_ops.Meaning.{meaning}
use Rattle.kr_seen.specs.Numbered.{state_numbered}
use Rattle.kr_seen.specs.Placed.{target_mounts}
use Rattle.kr_seen.proofs.CarryLemmas.{by-refusal}
use Rattle.kr_names.specs.Adding.{adding}
use Rattle.kr_names.proofs.MadeLemmas.{made-dir, made-free}
use Rattle.kr_names.proofs.RowLemmas.{by-row}
use Rattle.kr_names.proofs.making.mkdirat.Goals as goal

pub returns-in-NoName-clause-performs : goal.returns-in-NoName-clause-performs
returns-in-NoName-clause-performs g c = λ n table some.
    let k = known image_layout c.args.pid (meaning c.args.state.now) in
    by-refusal (target_mounts c.args.target.now) c.args.pid _ c.args.state.now c.args.state.now c.refused.result c.requires.caller.sound.pids EEXIST
    (ap (λ m. mkdirat_row k m c.args.mode) (sym (c.in-NoName.ensures n table c.args.pid (state_numbered n (meaning c.args.state.now))))) c.refused.ensures refl

pub returns-in-Over-clause-performs : goal.returns-in-Over-clause-performs
returns-in-Over-clause-performs g c = λ n table some.
    let k = known image_layout c.args.pid (meaning c.args.state.now) in
    by-refusal (target_mounts c.args.target.now) c.args.pid _ c.args.state.now c.args.state.now c.refused-in-Over.result c.requires.caller.sound.pids EEXIST
    (ap (λ m. mkdirat_row k m c.args.mode) (sym (c.in-Over.ensures n table c.args.pid (state_numbered n (meaning c.args.state.now))))) c.refused-in-Over.ensures refl

pub add_named-requires : goal.add_named-requires
add_named-requires g c =
    let told = c.in-Makes.ensures (λ _. 0) [] c.args.pid (state_numbered (λ _. 0) (meaning c.args.state.now)) in (
      lit< tt,
      (
        c.requires.caller.sound,
        (
          made-free (λ _. 0) [] c.args.pid (state_numbered (λ _. 0) (meaning c.args.state.now)) c.args.target.now c.in-Makes.dir c.in-Makes.name.now c.in-Makes.slash told c.args.state.now.tree c.requires.free,
          (
            refl,
            (
              c.requires.numbers,
              let P : Host → Type 0 = λ h. next_serial c.args.state.now.tree (inode_of h) + 1 < 2 ^ 64 in
                  subst P (sym (made-dir (λ _. 0) [] c.args.pid (state_numbered (λ _. 0) (meaning c.args.state.now)) c.args.target.now c.in-Makes.dir c.in-Makes.name.now c.in-Makes.slash told)) c.requires.serials,
            ),
          ),
        ),
      ),
    )

pub returns-in-Makes-clause-performs : goal.returns-in-Makes-clause-performs
returns-in-Makes-clause-performs g c = λ n table some.
    let k = known image_layout c.args.pid (meaning c.args.state.now) in
    let mounts = target_mounts c.args.target.now in
    by-row mounts c.args.pid _ (λ k. writable k c.in-Makes.dir (adding k c.in-Makes.name.now c.unmasked-mode.result (Directory [] None))) c.args.state.now c.add_named.new.state c.add_named.result
    (ap (λ m. mkdirat_row k m c.args.mode) (sym (c.in-Makes.ensures n table c.args.pid (state_numbered n (meaning c.args.state.now))))
    ∙ ap (λ m. writable k c.in-Makes.dir (adding k c.in-Makes.name.now m (Directory [] None))) (sym c.unmasked-mode.ensures.bits))
    (c.add_named.ensures.performs mounts some)
