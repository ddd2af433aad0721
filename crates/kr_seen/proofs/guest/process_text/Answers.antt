use Rattle.std.proofs.Common.{sym, ◌∙◌}
use Rattle.kr_ops.specs.kr_model.ProcessDirectory.{space_of}
use Rattle.kr_ops.specs.Meaning.{meaning}
use Rattle.kr_seen.proofs.GuestLemmas.{hidden-text, nameless-text, named-text}
use Rattle.kr_seen.proofs.guest.process_text.Goals as goal

pub returns-in-None : goal.returns-in-None
returns-in-None g c = λ dir name.
    nameless-text (space_of (g.P.Places.mounts c.args.places.now) (meaning c.args.state.now)) c.requires.carries.tree c.requires.carries.mounts (g.P.Places.number c.args.mount) c.args.ino c.requires.processes c.args.at c.requires.directory dir name
    c.requires.mounted (sym (c.if-shows_directory.ensures (g.P.Places.mounts c.args.places.now))) (sym c.in-None.is ∙ c.in_ok-above.ensures)

pub returns-in_ok-text_below-in-Some : goal.returns-in_ok-text_below-in-Some
returns-in_ok-text_below-in-Some g c = λ dir name.
    named-text (space_of (g.P.Places.mounts c.args.places.now) (meaning c.args.state.now)) c.requires.carries.tree c.requires.carries.mounts (g.P.Places.number c.args.mount) c.args.ino c.requires.processes c.args.at c.requires.directory dir name
    c.in-Some.text c.in_ok-text_below-in-Some.field-0 c.requires.mounted (sym (c.if-shows_directory.ensures (g.P.Places.mounts c.args.places.now))) (sym c.in-Some.is ∙ c.in_ok-above.ensures) c.in_ok-text_below-in-Some.ensures

pub returns-else-shows_directory : goal.returns-else-shows_directory
returns-else-shows_directory g c = λ dir name.
    hidden-text (space_of (g.P.Places.mounts c.args.places.now) (meaning c.args.state.now)) c.requires.carries.tree c.requires.carries.mounts (g.P.Places.number c.args.mount) c.args.ino c.requires.processes c.args.at c.requires.directory dir name
    (sym (c.if-shows_directory.ensures (g.P.Places.mounts c.args.places.now)))
