use Rattle.std.proofs.Common.{◌+◌, ◌<◌, ◌^◌, refl, sym, ap, subst, ◌∙◌, Some, lit<}
use Rattle.std.specs.Bool.{if◌then◌else◌}
use Rattle.std.specs.Option.{option_map, option_map_or}
use Rattle.kr_seen.specs.pr_base.declared.errno.Errno.TheVariants.{ENOENT, EEXIST, EISDIR}
use Rattle.kr_seen.specs.kr_tree.Changes.{next_serial}
use Rattle.kr_seen.specs.kr_tree.declared.place.Host.{Host}
use Rattle.kr_seen.specs.kr_model.FileRows.{open_found, open_new, openat_row}
use Rattle.kr_seen.specs.kr_model.Known.{known}
use Rattle.kr_seen.specs.kr_model.Operation.{opened as if_opened}
use Rattle.kr_seen.specs.kr_model.Reply.{refuse}
use Rattle.kr_seen.specs.kr_model.Seen.{Opens, WalkFails}
use Rattle.kr_seen.specs.kr_model.State.{image_layout, inode_of}
use Rattle.kr_seen.specs.kr_ops.Meaning.{meaning}
use Rattle.kr_seen.proofs.kr_ops.UseLemmas.{sound-of}
use Rattle.kr_seen.specs.Numbered.{state_numbered}
use Rattle.kr_seen.specs.Placed.{target_mounts}
use Rattle.kr_seen.specs.Told.{looked_told, opening_told}
use Rattle.kr_seen.proofs.CarryLemmas.{by-refusal}
use Rattle.kr_names.proofs.OpeningLemmas.{new-dir, new-free, opened-object, opened-place}
use Rattle.kr_names.proofs.RowLemmas.{by-row}
use Rattle.kr_names.proofs.opening.openat.Goals as goal

pub returns-in_default-clause-performs : goal.returns-in_default-clause-performs
returns-in_default-clause-performs g c = λ some.
    let s = state_numbered g.P.Places.number (meaning c.args.state.now) in
    let table = g.P.Places.mounts c.args.places.now in
    let k = known image_layout c.args.pid (meaning c.args.state.now) in
    let mounts = target_mounts c.args.target.now in
    by-refusal mounts c.args.pid _ c.args.state.now _ c.refused.result c.requires.caller.lawful.pids ENOENT
    (ap (λ x. if_opened x (λ o. openat_row k o c.args.flags c.args.mode)) (sym (ap (λ r. option_map_or (λ o. Opens (opening_told o)) r (WalkFails ENOENT)) (sym (c.in_default.is)) ∙ c.opened.ensures c.args.pid))) c.refused.ensures refl

pub returns-then-excludes-clause-performs : goal.returns-then-excludes-clause-performs
returns-then-excludes-clause-performs g c = λ some.
    let s = state_numbered g.P.Places.number (meaning c.args.state.now) in
    let table = g.P.Places.mounts c.args.places.now in
    let k = known image_layout c.args.pid (meaning c.args.state.now) in
    let mounts = target_mounts c.args.target.now in
    by-refusal mounts c.args.pid _ c.args.state.now _ c.refused-then-excludes.result c.requires.caller.lawful.pids EEXIST
    (ap (λ x. if_opened x (λ o. openat_row k o c.args.flags c.args.mode)) (sym (ap (λ r. option_map_or (λ o. Opens (opening_told o)) r (WalkFails ENOENT)) (sym (c.in-Some.is ∙ ap Some c.in-NoName.is)) ∙ c.opened.ensures c.args.pid)) ∙ ap (λ b. refuse (if b then EEXIST else EISDIR)) (sym c.excludes.ensures ∙ c.if-excludes.true)) c.refused-then-excludes.ensures refl

pub returns-else-excludes-clause-performs : goal.returns-else-excludes-clause-performs
returns-else-excludes-clause-performs g c = λ some.
    let s = state_numbered g.P.Places.number (meaning c.args.state.now) in
    let table = g.P.Places.mounts c.args.places.now in
    let k = known image_layout c.args.pid (meaning c.args.state.now) in
    let mounts = target_mounts c.args.target.now in
    by-refusal mounts c.args.pid _ c.args.state.now _ c.refused-else-excludes.result c.requires.caller.lawful.pids EISDIR
    (ap (λ x. if_opened x (λ o. openat_row k o c.args.flags c.args.mode)) (sym (ap (λ r. option_map_or (λ o. Opens (opening_told o)) r (WalkFails ENOENT)) (sym (c.in-Some.is ∙ ap Some c.in-NoName.is)) ∙ c.opened.ensures c.args.pid)) ∙ ap (λ b. refuse (if b then EEXIST else EISDIR)) (sym c.excludes.ensures ∙ c.if-excludes.false)) c.refused-else-excludes.ensures refl

pub returns-in-Slashed-clause-performs : goal.returns-in-Slashed-clause-performs
returns-in-Slashed-clause-performs g c = λ some.
    let s = state_numbered g.P.Places.number (meaning c.args.state.now) in
    let table = g.P.Places.mounts c.args.places.now in
    let k = known image_layout c.args.pid (meaning c.args.state.now) in
    let mounts = target_mounts c.args.target.now in
    by-refusal mounts c.args.pid _ c.args.state.now _ c.refused-in-Slashed.result c.requires.caller.lawful.pids EISDIR
    (ap (λ x. if_opened x (λ o. openat_row k o c.args.flags c.args.mode)) (sym (ap (λ r. option_map_or (λ o. Opens (opening_told o)) r (WalkFails ENOENT)) (sym (c.in-Some.is ∙ ap Some c.in-Slashed.is)) ∙ c.opened.ensures c.args.pid))) c.refused-in-Slashed.ensures refl

pub returns-in-Some-found-clause-performs : goal.returns-in-Some-found-clause-performs
returns-in-Some-found-clause-performs g c = λ some.
    let s = state_numbered g.P.Places.number (meaning c.args.state.now) in
    let table = g.P.Places.mounts c.args.places.now in
    let k = known image_layout c.args.pid (meaning c.args.state.now) in
    let mounts = target_mounts c.args.target.now in
    by-row mounts c.args.pid _ (λ k. open_found k c.args.flags (looked_told c.in-Found.looked)) c.args.state.now c.open_found.new.state c.open_found.result
    (ap (λ x. if_opened x (λ o. openat_row k o c.args.flags c.args.mode)) (sym (ap (λ r. option_map_or (λ o. Opens (opening_told o)) r (WalkFails ENOENT)) (sym (c.in-Some.is ∙ ap Some c.in-Found.is)) ∙ c.opened.ensures c.args.pid))) (c.open_found.ensures.performs mounts (ap (option_map (λ p. p.mount)) c.in-Some-found.is) some)

pub returns-in-New-clause-performs : goal.returns-in-New-clause-performs
returns-in-New-clause-performs g c = λ some.
    let s = state_numbered g.P.Places.number (meaning c.args.state.now) in
    let table = g.P.Places.mounts c.args.places.now in
    let k = known image_layout c.args.pid (meaning c.args.state.now) in
    let mounts = target_mounts c.args.target.now in
    by-row mounts c.args.pid _ (λ k. open_new k c.args.flags c.args.mode c.in-New.dir c.in-New.name.now) c.args.state.now c.open_new.new.state c.open_new.result
    (ap (λ x. if_opened x (λ o. openat_row k o c.args.flags c.args.mode)) (sym (ap (λ r. option_map_or (λ o. Opens (opening_told o)) r (WalkFails ENOENT)) (sym (c.in-Some.is ∙ ap Some c.in-New.is)) ∙ c.opened.ensures c.args.pid))) (c.open_new.ensures.performs mounts refl some)

pub open_found-requires : goal.open_found-requires
open_found-requires g c =
    let s = state_numbered g.P.Places.number (meaning c.args.state.now) in
    let table = g.P.Places.mounts c.args.places.now in (
      lit< tt,
      (
        record { sound = sound-of g.P.Places.number (g.P.Places.mounts c.args.places.now) c.args.state.now c.requires.caller.lawful c.requires.caller.served; lives = c.requires.caller.lives },
        (
          c.requires.files,
          (
            opened-object g.P.Places.number table c.args.pid s c.args.flags c.args.target.now (looked_told c.in-Found.looked) (ap (λ r. option_map_or (λ o. Opens (opening_told o)) r (WalkFails ENOENT)) (sym (c.in-Some.is ∙ ap Some c.in-Found.is)) ∙ c.opened.ensures c.args.pid) c.args.state.now.tree c.requires.found,
            c.requires.caller.lawful.tree.sound.bytes_limited,
          ),
        ),
      ),
    )

pub unreachable-requires : goal.unreachable-requires
unreachable-requires g c =
    let s = state_numbered g.P.Places.number (meaning c.args.state.now) in
    let table = g.P.Places.mounts c.args.places.now in
    let place = opened-place g.P.Places.number table c.args.pid s c.args.flags c.args.target.now (looked_told c.in-Found.looked) (ap (λ r. option_map_or (λ o. Opens (opening_told o)) r (WalkFails ENOENT)) (sym (c.in-Some.is ∙ ap Some c.in-Found.is)) ∙ c.opened.ensures c.args.pid) in
    let there = place.1 in
    let none = c.in-None.is in
    cc

pub open_new-requires : goal.open_new-requires
open_new-requires g c =
    let s = state_numbered g.P.Places.number (meaning c.args.state.now) in
    let table = g.P.Places.mounts c.args.places.now in
    let told = ap (λ r. option_map_or (λ o. Opens (opening_told o)) r (WalkFails ENOENT)) (sym (c.in-Some.is ∙ ap Some c.in-New.is)) ∙ c.opened.ensures c.args.pid in
    let P : Host → Type 0 = λ h. next_serial c.args.state.now.tree (inode_of h) + 1 < 2 ^ 64 in (
      lit< tt,
      (
        record { number = g.P.Places.number; table = g.P.Places.mounts c.args.places.now; lawful = c.requires.caller.lawful; served = c.requires.caller.served },
        (
          record { sound = sound-of g.P.Places.number (g.P.Places.mounts c.args.places.now) c.args.state.now c.requires.caller.lawful c.requires.caller.served; lives = c.requires.caller.lives },
          (
            new-free g.P.Places.number table c.args.pid s c.args.flags c.args.target.now c.in-New.dir c.in-New.name.now told c.args.state.now.tree c.requires.free,
            (
              c.requires.numbers,
              (
                subst P (sym (new-dir g.P.Places.number table c.args.pid s c.args.flags c.args.target.now c.in-New.dir c.in-New.name.now told)) c.requires.serials,
                c.requires.files,
              ),
            ),
          ),
        ),
      ),
    )
