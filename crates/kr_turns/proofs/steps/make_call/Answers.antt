use Rattle.std.proofs.Common.{◌≡◌, None, ap, lit<, subst, sym, ◌∙◌}
use Rattle.kr_execve.specs.kr_view.declared.target.Reach.{Reach}
use Rattle.kr_steps.specs.Calls.{Altered, IsAltered, MayCall}
use Rattle.kr_calm.specs.kr_seen.Numbered.{state_numbered}
use Rattle.kr_hostview.specs.kr_ops.Meaning.{meaning}
use Rattle.kr_hostview.proofs.kr_ops.UseLemmas.{sound-of}
use Rattle.kr_steps.specs.kr_stops.Remembering.{can_alter_shape}
use Rattle.kr_steps.specs.kr_stops.Watching.{watching}
use Rattle.kr_turns.specs.CallSteps.{Carried}
use Rattle.kr_turns.specs.Coming.{came_to}
use Rattle.kr_turns.specs.Making.{ended_with, machine_of}
use Rattle.kr_turns.specs.PlainCall.{Came}
use Rattle.kr_turns.specs.Turn.{Tally}
use Rattle.kr_turns.specs.declared.plain.CallEnd.TheVariants as end
use Rattle.kr_turns.proofs.AgreeLemmas.{called-agrees}
use Rattle.kr_turns.proofs.ApartLemmas.{called-leaves}
use Rattle.kr_turns.proofs.MakingLemmas.{call-made, lives-numbered}
use Rattle.kr_turns.proofs.WaitingLemmas.{OwnStays, lives-behind, waits-behind, waits-stays, waits-untold}
use Rattle.kr_turns.proofs.steps.make_call.Goals as goal

pub plain_call-requires : goal.plain_call-requires
plain_call-requires g c =
    let may : MayCall g.P.Places.number (g.P.Places.mounts c.args.places.now) c.args.state.now = record { calls = c.args.calls; few = c.requires.few; runs = c.requires.runs } in
    (lit< tt, (record { named = c.requires.named; may = may; lives = c.requires.lives }, c.requires.few_rows))

pub leave_behind-requires : goal.leave_behind-requires
leave_behind-requires g c =
    let runs = c.in_ok-plain.ensures.runs c.args.calls c.requires.few c.requires.runs in
    (lit< tt, sound-of g.P.Places.number (g.P.Places.mounts c.args.places.now) c.plain_call.new.state runs.lasts.lawful runs.served)

pub returns-clause-call : goal.returns-clause-call
returns-clause-call g c =
    let number = g.P.Places.number in
    call-made (watching g.S.Stops.enters g.S.Stops.exits g.S.Stops.bears g.S.Stops.forgets) number c.args.pid (g.P.Places.mounts c.args.places.now) c.args.no_shelf c.args.state.now c.plain_call.new.state c.args.stops.now c.bear.new.stops c.leave_behind.new.stops
    c.in_ok-plain.plain c.leave_behind.result c.in_ok-plain.ensures.came c.in_ok-bear.ensures.born (c.leave_behind.ensures.broken ∙ c.in_ok-plain.ensures.rule) (c.leave_behind.ensures.left number)

pub returns-clause-runs : goal.returns-clause-runs
returns-clause-runs g c = c.in_ok-plain.ensures.runs c.args.calls c.requires.few c.requires.runs

pub returns-clause-agrees : goal.returns-clause-agrees
returns-clause-agrees g c =
    let called =
    called-agrees g.S.Stops.agrees g.met.S.Stops.lasts_with_shape g.S.Stops.is_free g.met.S.Stops.free_agrees g.P.Places.number (g.P.Places.mounts c.args.places.now) c.args.pid c.args.state.now c.plain_call.new.state c.args.stops.now c.in_ok-plain.plain
    c.requires.runs.lasts.lawful.tree c.requires.frees c.in_ok-plain.ensures.came c.requires.agrees
    in
    c.leave_behind.ensures.agrees _ _ (c.in_ok-bear.ensures.agrees _ _ called)

pub returns-clause-free : goal.returns-clause-free
returns-clause-free g c = record { keeps = λ q apart free. c.leave_behind.ensures.free.keeps q apart (c.in_ok-bear.ensures.free q free) }

pub returns-clause-others : goal.returns-clause-others
returns-clause-others g c =
    let number = g.P.Places.number in
    called-leaves (g.P.Places.mounts c.args.places.now) c.args.pid (state_numbered number (meaning c.args.state.now)) (state_numbered number (meaning c.plain_call.new.state)) (ap (λ (came : Came). came.state) c.in_ok-plain.ensures.came)

pub returns-clause-stays : goal.returns-clause-stays
returns-clause-stays g c =
    let number = g.P.Places.number in
    let pid = c.args.pid in
    let w = watching g.S.Stops.enters g.S.Stops.exits g.S.Stops.bears g.S.Stops.forgets in
    let old = state_numbered number (meaning c.args.state.now) in
    let new = state_numbered number (meaning c.plain_call.new.state) in
    let plain = c.in_ok-plain.plain in
    let came = came_to number c.plain_call.new.state plain in
    let bearing = c.bear.new.stops in
    let told = c.leave_behind.result in
    let tally : Tally = record { status = 0; broken = None } in
    let carried : Carried g.row.S.Denot = record { machine = machine_of number c.plain_call.new.state c.leave_behind.new.stops (ended_with told.status tally); after = told.after } in
    let left = c.leave_behind.ensures.left number tally in
    let stays = subst (λ (d : Came). d.end ≡ end.Waits → OwnStays pid old d.state) (sym c.in_ok-plain.ensures.came) (waits-stays (g.P.Places.mounts c.args.places.now) pid old) in
    record {
      lives = λ behind. lives-behind w pid came bearing tally plain.end carried left (λ waits. (stays waits).lives (lives-numbered number pid c.args.state.now c.requires.lives)) behind;
      frees = λ waiting.
          let waits = waits-behind w pid came bearing tally plain.end carried left waiting in
          record {
            frees = λ alters.
                subst (λ y. g.S.Stops.is_free y pid) (sym (waits-untold w pid came bearing tally plain.end carried left waits))
                (c.in_ok-bear.ensures.free pid (c.requires.frees.frees (ap can_alter_shape (sym (stays waits).regs) ∙ alters)));
          };
    }

pub returns-clause-altered : goal.returns-clause-altered
returns-clause-altered g c =
    subst (λ (a : Altered). IsAltered a c.args.state.now.tree c.plain_call.new.state.tree) (sym c.leave_behind.ensures.altered) c.in_ok-plain.ensures.altered

pub returns-clause-met : goal.returns-clause-met
returns-clause-met g c = c.leave_behind.ensures.met ∙ ap (λ (r : Reach). r.met_proc) c.in_ok-plain.ensures.reach
