use Rattle.std.proofs.Common.{◌≡◌, of_z, to_z, w32, rules, ap, ◌∙◌}
use Rattle.std.specs.Option.{option_and_then}
use Rattle.kr_seen.specs.kr_model.Asking.{descriptor_number}
use Rattle.kr_seen.specs.kr_model.State.{opened}
use Rattle.kr_seen.specs.kr_ops.Meaning.{meaning}
use Rattle.kr_seen.specs.Numbered.{state_numbered}
use Rattle.kr_seen.specs.Told.{taken_told}
use Rattle.kr_calm.specs.Foreseen.{foreseen_of, mode_opened}
use Rattle.kr_calm.proofs.ToldLemmas.{mode-along, open-mode-along, removal-along, rename-along}
use Rattle.kr_calm.proofs.foreseeing.foresee.Goals as goal

pub returns-in-Some : goal.returns-in-Some
returns-in-Some g c = λ told.
    let s = meaning c.args.state.now in
    c.foresee_taken.ensures
    ∙ removal-along g.P.Places.number (g.P.Places.mounts c.args.places.now) c.args.pid s c.args.request.now c.in-Unlinkat.dirfd c.in-Unlinkat.path c.in-Unlinkat.flags c.in-Unlinkat.is told.0 told.1
    c.args.targets.now.first told.2 c.in-Some.target c.in-Some.is (taken_told c.taken.result) (c.taken.ensures c.args.pid (state_numbered g.P.Places.number s))

pub returns-in-Some-Some : goal.returns-in-Some-Some
returns-in-Some-Some g c = λ told.
    let s = meaning c.args.state.now in
    c.foresee_moved.ensures
    ∙ rename-along g.P.Places.number (g.P.Places.mounts c.args.places.now) c.args.pid s c.args.request.now c.in-Renameat2.olddir c.in-Renameat2.old c.in-Renameat2.newdir c.in-Renameat2.new c.in-Renameat2.is told.0 told.1
    c.args.targets.now.first c.args.targets.now.second told.2 told.3 c.in-Some-Some.old c.in-Some-Some.new c.in-Some-Some.is-0 c.in-Some-Some.is-1
    (taken_told c.taken-in-Some-Some.result) (taken_told c.taken-in-Some-Some-2.result)
    (c.taken-in-Some-Some.ensures c.args.pid (state_numbered g.P.Places.number s)) (c.taken-in-Some-Some-2.ensures c.args.pid (state_numbered g.P.Places.number s))

pub returns-in-Some-first : goal.returns-in-Some-first
returns-in-Some-first g c = λ told.
    let s = meaning c.args.state.now in
    c.foresee_found_mode.ensures c.in-Fchmodat.mode
    ∙ mode-along g.P.Places.number (g.P.Places.mounts c.args.places.now) c.args.pid s c.args.request.now c.in-Fchmodat.dirfd c.in-Fchmodat.path c.in-Fchmodat.mode c.in-Fchmodat.is told.0 told.1
    c.args.targets.now.first told.2 c.in-Some-first.target c.in-Some-first.is

pub returns-in-Fchmod : goal.returns-in-Fchmod
returns-in-Fchmod g c = λ told.
    let s = meaning c.args.state.now in
    let table = g.P.Places.mounts c.args.places.now in
    let same : to_z w32 (of_z w32 c.in-Fchmod.fd) ≡ c.in-Fchmod.fd = search rules in
    c.foresee_open_mode.ensures c.in-Fchmod.mode
    ∙ ap (λ fd. foreseen_of table s (mode_opened c.in-Fchmod.mode (option_and_then (λ n. opened c.args.pid n s) (descriptor_number fd)))) same
    ∙ open-mode-along g.P.Places.number table c.args.pid s c.args.request.now c.in-Fchmod.fd c.in-Fchmod.mode c.in-Fchmod.is told.0 told.1
