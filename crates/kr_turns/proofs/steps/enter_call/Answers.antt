use Rattle.std.proofs.Common.{ℕ, lit<, ap, ◌∙◌}
use Rattle.kr_calm.specs.Shelf.{shelved_by}
use Rattle.kr_calm.specs.kr_seen.Numbered.{state_numbered}
use Rattle.kr_hostview.specs.kr_ops.Meaning.{meaning}
use Rattle.kr_steps.specs.kr_stops.Stopped.{image_in, nothing_handed}
use Rattle.kr_steps.specs.kr_stops.Watching.{watching}
use Rattle.kr_steps.specs.kr_model.State.{Image, State}
use Rattle.kr_turns.specs.Held.{stopped_in}
use Rattle.kr_turns.proofs.AgreeLemmas.{agrees-now}
use Rattle.kr_turns.proofs.AlteredLemmas.{edited-tree, meant-tree}
use Rattle.kr_turns.proofs.ApartLemmas.{computed-leaves, edited-leaves, leaves-then}
use Rattle.kr_turns.proofs.MakingLemmas.{entry-made}
use Rattle.kr_turns.proofs.ShelfLemmas.{lacks-numbered, shelved-lives, shelved-numbered}
use Rattle.kr_turns.proofs.steps.enter_call.Goals as goal

pub enter-requires : goal.enter-requires
enter-requires g c =
    let shelved = c.shelve-no_shelf.new.state in
    let marks = c.shelve-no_shelf.ensures.marks in (
      lit< tt,
      (
        c.shelve-no_shelf.ensures.runs g.P.Places.number (g.P.Places.mounts c.args.places.now) c.args.calls c.requires.runs,
        (
          shelved-lives c.args.pid c.args.state.now shelved marks c.requires.lives,
          agrees-now g.S.Stops.agrees c.args.stops.now shelved _ marks c.requires.agrees,
        ),
      ),
    )

pub returns-clause-enters : goal.returns-clause-enters
returns-clause-enters g c =
    let number = g.P.Places.number in
    let old = c.args.state.now in
    let shelved = c.shelve-no_shelf.new.state in
    let marks = c.shelve-no_shelf.ensures.marks in
    entry-made (watching g.S.Stops.enters g.S.Stops.exits g.S.Stops.bears g.S.Stops.forgets) number c.args.pid old shelved c.enter.new.state c.args.stops.now c.enter.new.stops c.shelve-no_shelf.result
    (shelved-numbered c.args.pid old shelved marks number) c.in_ok-met.ensures.enters (lacks-numbered c.args.pid old shelved marks number c.shelve-no_shelf.result c.shelve-no_shelf.ensures.lacks)

pub returns-clause-agrees : goal.returns-clause-agrees
returns-clause-agrees g c = c.in_ok-met.ensures.agrees

pub returns-clause-free : goal.returns-clause-free
returns-clause-free g c = c.in_ok-met.ensures.others

pub returns-clause-others : goal.returns-clause-others
returns-clause-others g c =
    let number = g.P.Places.number in
    let pid = c.args.pid in
    let old = state_numbered number (meaning c.args.state.now) in
    let shelved = state_numbered number (meaning c.shelve-no_shelf.new.state) in
    let own = image_in pid old in
    leaves-then pid old shelved (state_numbered number (meaning c.enter.new.state))
    (computed-leaves pid own.regs (shelved_by g.row.M own.regs own.memory) old shelved (shelved-numbered pid c.args.state.now c.shelve-no_shelf.new.state c.shelve-no_shelf.ensures.marks number))
    (edited-leaves (stopped_in number c.shelve-no_shelf.new.state pid nothing_handed) (stopped_in number c.enter.new.state pid nothing_handed) c.enter.ensures.edits)

pub returns-clause-tree : goal.returns-clause-tree
returns-clause-tree g c =
    let number = g.P.Places.number in
    let pid = c.args.pid in
    edited-tree (stopped_in number c.shelve-no_shelf.new.state pid nothing_handed) (stopped_in number c.enter.new.state pid nothing_handed) c.enter.ensures.edits ∙ meant-tree c.shelve-no_shelf.new.state _ c.shelve-no_shelf.ensures.marks

pub returns-clause-met : goal.returns-clause-met
returns-clause-met g c =
    c.in_ok-met.ensures.met
    ∙ ap (λ (s : State ℕ Image). g.S.Stops.asks c.args.stops.now (record { state = s; pid = c.args.pid; handed = nothing_handed }))
    (shelved-numbered c.args.pid c.args.state.now c.shelve-no_shelf.new.state c.shelve-no_shelf.ensures.marks g.P.Places.number)
