use Rattle.std.proofs.Common.{refl, sym, ap, ◌∙◌, lit<}
use Rattle.std.specs.Option.{option_map_or}
use Rattle.kr_seen.specs.pr_base.declared.errno.Errno.TheVariants.{ENOENT, EBUSY, EISDIR}
use Rattle.kr_seen.specs.kr_model.Known.{known}
use Rattle.kr_seen.specs.kr_model.NameRows.{unlink_found, unlink_row}
use Rattle.kr_seen.specs.kr_model.Reply.{refuse}
use Rattle.kr_seen.specs.kr_model.State.{image_layout}
use Rattle.kr_seen.specs.kr_ops.Meaning.{meaning}
use Rattle.kr_seen.specs.Numbered.{state_numbered}
use Rattle.kr_seen.specs.Placed.{target_mounts}
use Rattle.kr_seen.specs.Told.{entered_told}
use Rattle.kr_seen.proofs.CarryLemmas.{by-refusal}
use Rattle.kr_names.proofs.RowLemmas.{by-row}
use Rattle.kr_names.proofs.TakeLemmas.{taken-entry}
use Rattle.kr_names.proofs.removing.unlink.Goals as goal

pub returns-in-NoName-clause-performs : goal.returns-in-NoName-clause-performs
returns-in-NoName-clause-performs g c = λ some.
    let k = known image_layout c.args.pid (meaning c.args.state.now) in
    let s = state_numbered g.P.Places.number (meaning c.args.state.now) in
    by-refusal (target_mounts c.args.target.now) c.args.pid _ c.args.state.now _ c.refused.result c.requires.sound.pids EISDIR
    (ap (unlink_row k) (sym (c.in-NoName.ensures c.args.pid s))) c.refused.ensures refl

pub returns-in-Covered-clause-performs : goal.returns-in-Covered-clause-performs
returns-in-Covered-clause-performs g c = λ some.
    let k = known image_layout c.args.pid (meaning c.args.state.now) in
    let s = state_numbered g.P.Places.number (meaning c.args.state.now) in
    by-refusal (target_mounts c.args.target.now) c.args.pid _ c.args.state.now _ c.refused-in-Covered.result c.requires.sound.pids EBUSY
    (ap (unlink_row k) (sym (c.in-Covered.ensures c.args.pid s))) c.refused-in-Covered.ensures refl

pub returns-in-None-clause-performs : goal.returns-in-None-clause-performs
returns-in-None-clause-performs g c = λ some.
    let k = known image_layout c.args.pid (meaning c.args.state.now) in
    let s = state_numbered g.P.Places.number (meaning c.args.state.now) in
    by-refusal (target_mounts c.args.target.now) c.args.pid _ c.args.state.now _ c.refused-in-None.result c.requires.sound.pids ENOENT
    (ap (unlink_row k) (sym (c.in-Takes.ensures c.args.pid s)) ∙ ap (λ o. option_map_or (unlink_found k (entered_told c.in-Takes.entered)) o (refuse ENOENT)) c.in-None.is) c.refused-in-None.ensures refl

pub returns-in-Some-clause-performs : goal.returns-in-Some-clause-performs
returns-in-Some-clause-performs g c = λ some.
    let k = known image_layout c.args.pid (meaning c.args.state.now) in
    let s = state_numbered g.P.Places.number (meaning c.args.state.now) in
    let mounts = target_mounts c.args.target.now in
    by-row mounts c.args.pid _ (λ k. unlink_found k (entered_told c.in-Takes.entered) c.in-Some.found) c.args.state.now c.unlink_found.new.state c.unlink_found.result
    (ap (unlink_row k) (sym (c.in-Takes.ensures c.args.pid s)) ∙ ap (λ o. option_map_or (unlink_found k (entered_told c.in-Takes.entered)) o (refuse ENOENT)) c.in-Some.is)
    (c.unlink_found.ensures.performs mounts some)

pub unlink_found-requires : goal.unlink_found-requires
unlink_found-requires g c =
    let s = state_numbered g.P.Places.number (meaning c.args.state.now) in (
      lit< tt,
      (
        c.requires.sound,
        taken-entry g.P.Places.number (g.P.Places.mounts c.args.places.now) c.args.pid s c.args.target.now c.in-Takes.entered (c.in-Takes.ensures c.args.pid s) c.args.state.now.tree c.in-Some.found c.in-Some.is c.requires.entry,
      ),
    )
