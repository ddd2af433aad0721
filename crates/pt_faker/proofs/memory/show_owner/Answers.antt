use Rattle.std.proofs.Common.{◌≡◌, ◌∙◌, length, ap, refl, arith}
use Rattle.kr_stops.specs.Editing.{after_poke}
use Rattle.kr_stops.proofs.EditLemmas.{edited-then}
use Rattle.pt_ident.specs.Showing.{shown_stat}
use Rattle.pt_faker.proofs.StopLemmas.{may-write, on_ok, owner-shown, peek-edits}
use Rattle.pt_faker.proofs.memory.show_owner.Goals as goal

pub write-requires : goal.write-requires
write-requires g c =
    let count : length c.fix_stat.new.bytes ≡ 128 = omega (arith, c.fix_stat.array_long) in
    record { may = may-write (g.T.Tracee.stopped c.args.t.now) c.pid-pid.ensures.lives (g.T.Tracee.stopped c.peek.new.self) c.args.at 128 (length c.fix_stat.new.bytes) c.in-Ok.ensures.after count (c.in-Ok.ensures.when.0 refl) }

pub returns-clause-shows : goal.returns-clause-shows
returns-clause-shows g c =
    let t = g.T.Tracee.stopped c.args.t.now in
    let u = g.T.Tracee.stopped c.peek.new.self in
    let table = c.args.identities.now in
    on_ok c.write.result
    (λ poked. owner-shown t c.pid-pid.ensures.lives c.args.user table c.args.at u _ (c.in-Ok.ensures.when.0 refl) c.in-Ok.ensures.after
    (poked
    ∙ ap (λ bytes. after_poke c.args.at bytes u)
    (c.fix_stat.ensures
    ∙ (λ i. shown_stat c.args.user (c.start.ensures.uid i) (c.start.ensures.gid i) (c.shown_owners.ensures i) (c.in-Ok.ensures.bytes i)))))
    c.write.ensures.after

pub returns-clause-edits : goal.returns-clause-edits
returns-clause-edits g c =
    let t = g.T.Tracee.stopped c.args.t.now in
    let u = g.T.Tracee.stopped c.peek.new.self in
    record {
      edits = edited-then t u _ (peek-edits t c.pid-pid.ensures.lives u c.args.at 128 c.in-Ok.ensures.after) c.write.ensures.edits.edits;
      rest = c.write.ensures.edits.rest ∙ c.in-Ok.ensures.rest;
    }
