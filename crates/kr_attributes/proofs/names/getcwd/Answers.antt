use Rattle.std.proofs.Common.{List, ℕ, Option, refl, sym, ap, ◌∙◌}
use Rattle.std.specs.Option.{option_map_or}
use Rattle.kr_seen.specs.pr_base.declared.errno.Errno.TheVariants.{ENOENT}
use Rattle.kr_seen.specs.kr_model.DirectoryRows.{tell_directory}
use Rattle.kr_seen.specs.kr_model.Reply.{refuse}
use Rattle.kr_seen.specs.kr_ops.Meaning.{meaning}
use Rattle.kr_seen.specs.Numbered.{state_numbered}
use Rattle.kr_seen.proofs.PerformLemmas.{by-refusal, by-row}
use Rattle.kr_attributes.proofs.TextLemmas.{name-of-cwd}
use Rattle.kr_attributes.proofs.names.getcwd.Goals as goal

pub returns-in-Ok-Some-clause-performs : goal.returns-in-Ok-Some-clause-performs
returns-in-Ok-Some-clause-performs g c = λ some.
    let s = state_numbered g.P.Places.number (meaning c.args.state.now) in
    let table = g.P.Places.mounts c.args.places.now in
    by-row c.args.pid _ c.args.state.now c.tell_directory.new.state c.tell_directory.result c.requires.lawful.pids (λ k. tell_directory c.args.buf c.args.size c.in-Ok-Some.name)
    (ap (λ (name : Option (List ℕ)). option_map_or (tell_directory c.args.buf c.args.size) name (refuse ENOENT)) (name-of-cwd table s c.args.pid ∙ sym c.in-Ok-Some.ensures ∙ c.in-Ok-Some.field-0-is))
    (c.tell_directory.ensures.performs some)

pub returns-in-Ok-None-clause-performs : goal.returns-in-Ok-None-clause-performs
returns-in-Ok-None-clause-performs g c = λ some.
    let s = state_numbered g.P.Places.number (meaning c.args.state.now) in
    let table = g.P.Places.mounts c.args.places.now in
    by-refusal c.args.pid _ c.args.state.now c.args.state.now c.refused.result c.requires.lawful.pids ENOENT
    (ap (λ (name : Option (List ℕ)). option_map_or (tell_directory c.args.buf c.args.size) name (refuse ENOENT)) (name-of-cwd table s c.args.pid ∙ sym c.in-Ok-None.ensures ∙ c.in-Ok-None.field-0-is))
    c.refused.ensures refl
