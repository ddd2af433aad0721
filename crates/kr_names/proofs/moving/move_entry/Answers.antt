use Rattle.std.proofs.Common.{◌≡◌, ◌+◌, ◌<◌, ◌^◌, refl, sym, ap, subst, ◌∙◌, false, [], ◌∷◌, lit<}
use Rattle.kr_seen.specs.kr_tree.Changes.{next_serial}
use Rattle.kr_seen.specs.kr_tree.declared.place.Host.{Host}
use Rattle.kr_seen.specs.kr_tree.declared.place.Host.TheVariants as host
use Rattle.kr_seen.specs.kr_model.Change.{MoveName}
use Rattle.kr_seen.specs.kr_model.Known.{known}
use Rattle.kr_seen.specs.kr_model.NameRows.{is_at_or_above}
use Rattle.kr_seen.specs.kr_model.Reply.{answers}
use Rattle.kr_seen.specs.kr_model.State.{image_layout, inode_of}
use Rattle.kr_seen.specs.kr_ops.Meaning.{meaning}
use Rattle.kr_seen.specs.Told.{entered_told}
use Rattle.kr_seen.proofs.CarryLemmas.{by-refusal, by-reply}
use Rattle.kr_names.specs.Moving.{HasNodes}
use Rattle.kr_names.proofs.MoveLemmas.{lawful-move, not-below}
use Rattle.kr_names.proofs.moving.move_entry.Goals as goal

pub returns-in-Err-clause-performs : goal.returns-in-Err-clause-performs
returns-in-Err-clause-performs g c = λ mounts some.
    by-refusal mounts c.args.pid _ c.args.state.now _ c.refused.result c.requires.sound.pids c.in-Err.errno (c.in-Err.ensures.row c.args.pid) c.refused.ensures refl

pub move_name-requires : goal.move_name-requires
move_name-requires g c =
    let s = meaning c.args.state.now in
    let t = c.args.state.now.tree in
    let m = c.in-Ok.ensures.row c.args.pid in
    let k = known image_layout c.args.pid s in
    let Q : Host → Type 0 = λ h. next_serial t (inode_of h) + 1 < 2 ^ 64 in
    let apart : is_at_or_above k (host.Node c.in-Ok.entry.ino) (host.Node c.in-Ok.entry.to) ≡ false =
    (ap (λ h. is_at_or_above k h (host.Node c.in-Ok.entry.to)) (sym m.object) ∙ ap (λ h. is_at_or_above k c.args.found h) (sym m.onto) ∙ c.requires.apart c.args.pid) in (
      lit< tt,
      (
        lawful-move t c.requires.tree c.args.old c.args.new c.args.found c.in-Ok.entry.dir c.in-Ok.entry.to c.in-Ok.entry.ino m.from m.onto m.object c.in-Ok.ensures.leaves c.in-Ok.ensures.takes
            c.requires.entry c.requires.over c.requires.free (not-below c.args.pid s c.requires.tree c.in-Ok.entry.ino c.in-Ok.entry.to apart) c.in-Ok-test_onto.ensures.like,
        subst Q m.onto c.requires.serials,
      ),
    )

pub returns-in-Ok-move_name-clause-performs : goal.returns-in-Ok-move_name-clause-performs
returns-in-Ok-move_name-clause-performs g c = λ mounts some.
    let m = c.in-Ok.ensures.row c.args.pid in
    let nodes : HasNodes (known image_layout c.args.pid (meaning c.args.state.now)) c.in-Ok.entry m.above m.below m.node = record { above_there = m.above_there; below_there = m.below_there; there = m.there } in
    by-reply mounts c.args.pid _ c.args.state.now c.move_name.new.self c.number.result c.requires.sound.pids (answers 0 (MoveName c.in-Ok.entry.dir c.args.old.name.now c.in-Ok.entry.to c.args.new.name.now ∷ []))
    (m.goes_on ∙ c.in-Ok-test_onto.ensures.row c.args.pid m.above m.below m.node nodes (entered_told c.args.old) (entered_told c.args.new))
    c.number.ensures (c.in-Ok-move_name.ensures.makes c.args.pid mounts)

pub returns-in-Err-test_onto-clause-performs : goal.returns-in-Err-test_onto-clause-performs
returns-in-Err-test_onto-clause-performs g c = λ mounts some.
    let m = c.in-Ok.ensures.row c.args.pid in
    let nodes : HasNodes (known image_layout c.args.pid (meaning c.args.state.now)) c.in-Ok.entry m.above m.below m.node = record { above_there = m.above_there; below_there = m.below_there; there = m.there } in
    by-refusal mounts c.args.pid _ c.args.state.now _ c.refused-in-Err-test_onto.result c.requires.sound.pids c.in-Err-test_onto.errno
    (m.goes_on ∙ c.in-Err-test_onto.ensures.row c.args.pid m.above m.below m.node nodes (entered_told c.args.old) (entered_told c.args.new)) c.refused-in-Err-test_onto.ensures refl
