use Rattle.std.proofs.Common.{◌+◌, ◌<◌, ◌^◌, refl, sym, ap, subst, ◌∙◌, true, lit<}
use Rattle.std.specs.Option.{option_map_or}
use Rattle.kr_seen.specs.pr_base.declared.errno.Errno.TheVariants.{ENOENT, EBUSY, EXDEV}
use Rattle.kr_seen.specs.kr_tree.Changes.{next_serial}
use Rattle.kr_seen.specs.kr_tree.declared.place.Host.{Host}
use Rattle.kr_seen.specs.kr_model.Known.{known}
use Rattle.kr_seen.specs.kr_model.NameRows.{move_found, move_uncovered, renameat2_row}
use Rattle.kr_seen.specs.kr_model.Operation.{moved as if_moved}
use Rattle.kr_seen.specs.kr_model.Reply.{refuse}
use Rattle.kr_seen.specs.kr_model.Seen.{Takes, TakesCovered}
use Rattle.kr_seen.specs.kr_model.State.{image_layout, inode_of}
use Rattle.kr_seen.specs.kr_ops.Meaning.{meaning}
use Rattle.kr_seen.specs.Numbered.{state_numbered}
use Rattle.kr_seen.specs.Placed.{target_mounts}
use Rattle.kr_seen.specs.Told.{entered_told, taken_told}
use Rattle.kr_seen.proofs.CarryLemmas.{by-refusal}
use Rattle.kr_names.proofs.MoveLemmas.{covered-busy, moved-both, no-name-busy, taken-free}
use Rattle.kr_names.proofs.RowLemmas.{by-row}
use Rattle.kr_names.proofs.TakeLemmas.{taken-dir, taken-entry}
use Rattle.kr_names.proofs.moving.renameat2.Goals as goal

pub returns-then-not-moved-clause-performs : goal.returns-then-not-moved-clause-performs
returns-then-not-moved-clause-performs g c = λ some.
    let s = state_numbered g.P.Places.number (meaning c.args.state.now) in
    let k = known image_layout c.args.pid (meaning c.args.state.now) in
    let mounts = target_mounts c.args.old.now in
    let m = c.moved-moved.result in
    by-refusal mounts c.args.pid _ c.args.state.now _ c.refused.result c.requires.sound.pids EXDEV
    (ap (λ x. if_moved x k) (sym (c.moved-moved.ensures c.args.pid s)) ∙ ap (λ b. renameat2_row k (taken_told m.old) (taken_told m.new) b) c.if-not-moved.true) c.refused.ensures refl

pub returns-in-NoName-clause-performs : goal.returns-in-NoName-clause-performs
returns-in-NoName-clause-performs g c = λ some.
    let s = state_numbered g.P.Places.number (meaning c.args.state.now) in
    let k = known image_layout c.args.pid (meaning c.args.state.now) in
    let mounts = target_mounts c.args.old.now in
    let m = c.moved-moved.result in
    by-refusal mounts c.args.pid _ c.args.state.now _ c.refused-in-NoName.result c.requires.sound.pids EBUSY
    (ap (λ x. if_moved x k) (sym (c.moved-moved.ensures c.args.pid s)) ∙ ap (λ b. renameat2_row k (taken_told m.old) (taken_told m.new) b) c.if-not-moved.false ∙ ap (λ t. renameat2_row k (taken_told t) (taken_told m.new) true) c.in-NoName.is) c.refused-in-NoName.ensures refl

pub returns-in-Covered-clause-performs : goal.returns-in-Covered-clause-performs
returns-in-Covered-clause-performs g c = λ some.
    let s = state_numbered g.P.Places.number (meaning c.args.state.now) in
    let k = known image_layout c.args.pid (meaning c.args.state.now) in
    let mounts = target_mounts c.args.old.now in
    let m = c.moved-moved.result in
    by-refusal mounts c.args.pid _ c.args.state.now _ c.refused-in-Covered.result c.requires.sound.pids EBUSY
    (ap (λ x. if_moved x k) (sym (c.moved-moved.ensures c.args.pid s)) ∙ ap (λ b. renameat2_row k (taken_told m.old) (taken_told m.new) b) c.if-not-moved.false ∙ ap (λ t. renameat2_row k (taken_told t) (taken_told m.new) true) c.in-Covered.is ∙ covered-busy k (taken_told m.new)) c.refused-in-Covered.ensures refl

pub returns-in-NoName-new-clause-performs : goal.returns-in-NoName-new-clause-performs
returns-in-NoName-new-clause-performs g c = λ some.
    let s = state_numbered g.P.Places.number (meaning c.args.state.now) in
    let k = known image_layout c.args.pid (meaning c.args.state.now) in
    let mounts = target_mounts c.args.old.now in
    let m = c.moved-moved.result in
    by-refusal mounts c.args.pid _ c.args.state.now _ c.refused-in-NoName-new.result c.requires.sound.pids EBUSY
    (ap (λ x. if_moved x k) (sym (c.moved-moved.ensures c.args.pid s)) ∙ ap (λ b. renameat2_row k (taken_told m.old) (taken_told m.new) b) c.if-not-moved.false ∙ ap (λ t. renameat2_row k (taken_told m.old) (taken_told t) true) c.in-NoName-new.is ∙ no-name-busy k (taken_told m.old) c.in-NoName-new._last) c.refused-in-NoName-new.ensures refl

pub returns-in-Some-clause-performs : goal.returns-in-Some-clause-performs
returns-in-Some-clause-performs g c = λ some.
    let s = state_numbered g.P.Places.number (meaning c.args.state.now) in
    let k = known image_layout c.args.pid (meaning c.args.state.now) in
    let mounts = target_mounts c.args.old.now in
    let m = c.moved-moved.result in
    by-refusal mounts c.args.pid _ c.args.state.now _ c.refused-in-Some.result c.requires.sound.pids EBUSY
    (ap (λ x. if_moved x k) (sym (c.moved-moved.ensures c.args.pid s)) ∙ ap (λ b. renameat2_row k (taken_told m.old) (taken_told m.new) b) c.if-not-moved.false ∙ ap (λ t. renameat2_row k (taken_told t) (taken_told m.new) true) c.in-Takes.is
    ∙ ap (λ t. renameat2_row k (Takes (entered_told c.in-Takes.from)) (taken_told t) true) c.in-Covered-new.is
    ∙ ap (λ o. option_map_or (move_uncovered k (entered_told c.in-Takes.from) TakesCovered) o (refuse ENOENT)) c.in-Some.is) c.refused-in-Some.ensures refl

pub returns-in-None-clause-performs : goal.returns-in-None-clause-performs
returns-in-None-clause-performs g c = λ some.
    let s = state_numbered g.P.Places.number (meaning c.args.state.now) in
    let k = known image_layout c.args.pid (meaning c.args.state.now) in
    let mounts = target_mounts c.args.old.now in
    let m = c.moved-moved.result in
    by-refusal mounts c.args.pid _ c.args.state.now _ c.refused-in-None.result c.requires.sound.pids ENOENT
    (ap (λ x. if_moved x k) (sym (c.moved-moved.ensures c.args.pid s)) ∙ ap (λ b. renameat2_row k (taken_told m.old) (taken_told m.new) b) c.if-not-moved.false ∙ ap (λ t. renameat2_row k (taken_told t) (taken_told m.new) true) c.in-Takes.is
    ∙ ap (λ t. renameat2_row k (Takes (entered_told c.in-Takes.from)) (taken_told t) true) c.in-Covered-new.is
    ∙ ap (λ o. option_map_or (move_uncovered k (entered_told c.in-Takes.from) TakesCovered) o (refuse ENOENT)) c.in-None.is) c.refused-in-None.ensures refl

pub returns-in-None-found-clause-performs : goal.returns-in-None-found-clause-performs
returns-in-None-found-clause-performs g c = λ some.
    let s = state_numbered g.P.Places.number (meaning c.args.state.now) in
    let k = known image_layout c.args.pid (meaning c.args.state.now) in
    let mounts = target_mounts c.args.old.now in
    let m = c.moved-moved.result in
    by-refusal mounts c.args.pid _ c.args.state.now _ c.refused-in-None-found.result c.requires.sound.pids ENOENT
    (ap (λ x. if_moved x k) (sym (c.moved-moved.ensures c.args.pid s)) ∙ ap (λ b. renameat2_row k (taken_told m.old) (taken_told m.new) b) c.if-not-moved.false ∙ ap (λ t. renameat2_row k (taken_told t) (taken_told m.new) true) c.in-Takes.is
    ∙ ap (λ t. renameat2_row k (Takes (entered_told c.in-Takes.from)) (taken_told t) true) c.in-Takes-new.is
    ∙ ap (λ o. option_map_or (move_uncovered k (entered_told c.in-Takes.from) (Takes (entered_told c.in-Takes-new.to))) o (refuse ENOENT)) c.in-None-found.is) c.refused-in-None-found.ensures refl

pub returns-in-Some-found-clause-performs : goal.returns-in-Some-found-clause-performs
returns-in-Some-found-clause-performs g c = λ some.
    let s = state_numbered g.P.Places.number (meaning c.args.state.now) in
    let k = known image_layout c.args.pid (meaning c.args.state.now) in
    let mounts = target_mounts c.args.old.now in
    let m = c.moved-moved.result in
    by-row mounts c.args.pid _ (λ k. move_found k (entered_told c.in-Takes.from) (entered_told c.in-Takes-new.to) c.in-Some-found.found) c.args.state.now c.move_found.new.state c.move_found.result
    (ap (λ x. if_moved x k) (sym (c.moved-moved.ensures c.args.pid s)) ∙ ap (λ b. renameat2_row k (taken_told m.old) (taken_told m.new) b) c.if-not-moved.false ∙ ap (λ t. renameat2_row k (taken_told t) (taken_told m.new) true) c.in-Takes.is
    ∙ ap (λ t. renameat2_row k (Takes (entered_told c.in-Takes.from)) (taken_told t) true) c.in-Takes-new.is
    ∙ ap (λ o. option_map_or (move_uncovered k (entered_told c.in-Takes.from) (Takes (entered_told c.in-Takes-new.to))) o (refuse ENOENT)) c.in-Some-found.is) (c.move_found.ensures.performs mounts some)

pub move_found-requires : goal.move_found-requires
move_found-requires g c =
    let s = state_numbered g.P.Places.number (meaning c.args.state.now) in
    let number = g.P.Places.number in
    let table = g.P.Places.mounts c.args.places.now in
    let t = c.args.state.now.tree in
    let m = c.moved-moved.result in
    let both = moved-both (taken_told m.old) (taken_told m.new) _ _ m.same_mount _ (c.moved-moved.ensures c.args.pid s) in
    let from = sym (ap taken_told c.in-Takes.is) ∙ both.old_told in
    let to = sym (ap taken_told c.in-Takes-new.is) ∙ both.new_told in
    let P : Host → Type 0 = λ h. next_serial t (inode_of h) + 1 < 2 ^ 64 in (
      lit< tt,
      (
        c.requires.sound,
        (
          c.requires.tree,
          (
            taken-entry number table c.args.pid s c.args.old.now c.in-Takes.from from t c.in-Some-found.found c.in-Some-found.is c.requires.entry,
            (
              λ h is. taken-entry number table c.args.pid s c.args.new.now c.in-Takes-new.to to t h is c.requires.over,
              (
                taken-free number table c.args.pid s c.args.new.now c.in-Takes-new.to to t c.requires.free,
                subst P (sym (taken-dir number table c.args.pid s c.args.new.now c.in-Takes-new.to to)) c.requires.serials,
              ),
            ),
          ),
        ),
      ),
    )
