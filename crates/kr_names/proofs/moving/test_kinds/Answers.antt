use Rattle.std.proofs.Common.{sym, refl, ◌∙◌, true, false}
use Rattle.kr_seen.specs.kr_tree.Tree.{is_directory, is_filled}
use Rattle.kr_seen.specs.kr_model.Known.{known}
use Rattle.kr_seen.specs.kr_model.State.{image_layout}
use Rattle.kr_seen.specs.kr_ops.Meaning.{meaning}
use Rattle.kr_names.proofs.MoveLemmas.{alike, alike-filled, alike-goes, over-by, unlike}
use Rattle.kr_names.proofs.NodeLemmas.{known-tested}
use Rattle.kr_names.proofs.moving.test_kinds.Goals as goal

pub returns-then-not-can_move-clause-row : goal.returns-then-not-can_move-clause-row
returns-then-not-can_move-clause-row g c = λ pid node x is there old new.
    let k = known image_layout pid (meaning c.args.state.now) in
    over-by k old new c.args.entry.dir c.args.entry.to node x false _ _ _ (sym (c.can_move.ensures pid node is) ∙ c.if-not-can_move.true) refl refl refl

pub returns-then-is_dir-clause-row : goal.returns-then-is_dir-clause-row
returns-then-is_dir-clause-row g c = λ pid node x is there old new.
    let s = meaning c.args.state.now in
    let k = known image_layout pid s in
    over-by k old new c.args.entry.dir c.args.entry.to node x true true false _ (sym (c.can_move.ensures pid node is) ∙ c.if-not-can_move.false)
    (sym (known-tested pid s c.args.entry.ino is_directory node is) ∙ sym c.is_directory-is_dir.ensures ∙ c.if-is_dir.true)
    (sym (known-tested pid s c.args.over is_directory x there) ∙ sym c.is_directory-over_dir.ensures ∙ unlike _ _ c.if-is_dir-over_dir.true c.if-is_dir.true) refl

pub returns-then-is_filled-clause-row : goal.returns-then-is_filled-clause-row
returns-then-is_filled-clause-row g c = λ pid node x is there old new.
    let s = meaning c.args.state.now in
    let k = known image_layout pid s in
    over-by k old new c.args.entry.dir c.args.entry.to node x true c.is_directory-over_dir.result c.is_directory-over_dir.result true (sym (c.can_move.ensures pid node is) ∙ c.if-not-can_move.false)
    (sym (known-tested pid s c.args.entry.ino is_directory node is) ∙ sym c.is_directory-is_dir.ensures ∙ alike _ _ c.if-is_dir-over_dir.false)
    (sym (known-tested pid s c.args.over is_directory x there) ∙ sym c.is_directory-over_dir.ensures)
    (sym (known-tested pid s c.args.over is_filled x there) ∙ sym c.is_filled.ensures ∙ c.if-is_filled.true)
    ∙ alike-filled k old new c.args.entry.dir c.args.entry.to node c.is_directory-over_dir.result

pub returns-clause-row : goal.returns-clause-row
returns-clause-row g c = λ pid node x is there old new.
    let s = meaning c.args.state.now in
    let k = known image_layout pid s in
    over-by k old new c.args.entry.dir c.args.entry.to node x true c.is_directory-over_dir.result c.is_directory-over_dir.result false (sym (c.can_move.ensures pid node is) ∙ c.if-not-can_move.false)
    (sym (known-tested pid s c.args.entry.ino is_directory node is) ∙ sym c.is_directory-is_dir.ensures ∙ alike _ _ c.if-is_dir-over_dir.false)
    (sym (known-tested pid s c.args.over is_directory x there) ∙ sym c.is_directory-over_dir.ensures)
    (sym (known-tested pid s c.args.over is_filled x there) ∙ sym c.is_filled.ensures ∙ c.if-is_filled.false)
    ∙ alike-goes k old new c.args.entry.dir c.args.entry.to node c.is_directory-over_dir.result
