use Rattle.std.proofs.Common.{◌∙◌, refl, ap, sym, subst}
use Rattle.std.specs.FinMap as map
use Rattle.std.specs.Prelude.{IsSome, take}
use Rattle.std.specs.Option.{option_map}
use Rattle.std.proofs.lemmas.Bool.{false≢true}
use Rattle.kr_files.specs.Files.{Kept, has_writer, reads_wait, on_table, pipe_after_read}
use Rattle.kr_files.specs.Pipes.{moved_of, read_waits}
use Rattle.kr_files.specs.StoredPipes.{Pipe}
use Rattle.kr_files.specs.Sound.{IsSound, kept_of}
use Rattle.kr_files.proofs.AnswerLemmas.{error_not_ok}
use Rattle.kr_files.proofs.PipeLemmas.{pipe_there, told, reads_wait-is, read-waits, read-waits_after, read-moves, read-moves_after, sound-read}
use Rattle.kr_files.proofs.files.Files.pipe_read.Goals as goal

pub waits_for_writer-requires : goal.waits_for_writer-requires
waits_for_writer-requires g c =
    let there = pipe_there c.self.inside.pipes c.args.pipe (subst (λ (k : Kept g.row.M.Denot). IsSome (map.get k.table.pipes c.args.pipe)) (sym c.self.view_is) c.requires.exists) in
    subst IsSome (sym there.1) refl

pub returns-then-waits_for_writer-clause-answer : goal.returns-then-waits_for_writer-clause-answer
returns-then-waits_for_writer-clause-answer g c =
    let there = pipe_there c.self.inside.pipes c.args.pipe (subst (λ (k : Kept g.row.M.Denot). IsSome (map.get k.table.pipes c.args.pipe)) (sym c.self.view_is) c.requires.exists) in
    let waits = told (λ (p : Pipe). read_waits p.bytes p.writer) _ there.0 c.waits_for_writer.result there.1 c.waits_for_writer.ensures ∙ c.if-waits_for_writer.true in
    sym (ap (λ (k : Kept g.row.M.Denot). option_map (λ bytes. moved_of bytes (has_writer k.table c.args.pipe) c.args.n) (map.get k.table.pipes c.args.pipe)) c.self.view_is)
    ∙ read-waits c.self.inside.open c.self.inside.pipes c.self.inside.last_file c.self.inside.last_pipe c.self.invariant c.args.pipe there.0 there.1 c.args.n waits

pub returns-then-waits_for_writer-clause-after : goal.returns-then-waits_for_writer-clause-after
returns-then-waits_for_writer-clause-after g c =
    let there = pipe_there c.self.inside.pipes c.args.pipe (subst (λ (k : Kept g.row.M.Denot). IsSome (map.get k.table.pipes c.args.pipe)) (sym c.self.view_is) c.requires.exists) in
    let waits = told (λ (p : Pipe). read_waits p.bytes p.writer) _ there.0 c.waits_for_writer.result there.1 c.waits_for_writer.ensures ∙ c.if-waits_for_writer.true in
    sym c.self.view_is ∙ read-waits_after c.self.inside.open c.self.inside.pipes c.self.inside.last_file c.self.inside.last_pipe c.self.invariant c.args.pipe there.0 there.1 c.args.n waits ∙ ap (λ (k : Kept g.row.M.Denot). on_table (pipe_after_read c.args.pipe c.args.n) k) c.self.view_is

pub invariant_of-self-2 : goal.invariant_of-self-2
invariant_of-self-2 g c =
    let there = pipe_there c.self.inside.pipes c.args.pipe (subst (λ (k : Kept g.row.M.Denot). IsSome (map.get k.table.pipes c.args.pipe)) (sym c.self.view_is) c.requires.exists) in
    subst (λ pipes. IsSound c.self.inside.open.files pipes c.self.inside.last_file c.self.inside.last_pipe) (sym c.in_ok-take.ensures.ok)
    (sound-read c.self.inside.open c.self.inside.pipes c.self.inside.last_file c.self.inside.last_pipe c.self.invariant c.args.pipe there.0 there.1 c.args.n)

pub returns-clause-answer : goal.returns-clause-answer
returns-clause-answer g c =
    let there = pipe_there c.self.inside.pipes c.args.pipe (subst (λ (k : Kept g.row.M.Denot). IsSome (map.get k.table.pipes c.args.pipe)) (sym c.self.view_is) c.requires.exists) in
    let ready = told (λ (p : Pipe). read_waits p.bytes p.writer) _ there.0 c.waits_for_writer.result there.1 c.waits_for_writer.ensures ∙ c.if-waits_for_writer.false in
    let bytes = told (λ (p : Pipe). take c.args.n p.bytes) _ there.0 c.in_ok-take.field-0 there.1 c.in_ok-take.ensures.bytes in
    sym (ap (λ (k : Kept g.row.M.Denot). option_map (λ bytes. moved_of bytes (has_writer k.table c.args.pipe) c.args.n) (map.get k.table.pipes c.args.pipe)) c.self.view_is)
    ∙ read-moves c.self.inside.open c.self.inside.pipes c.self.inside.last_file c.self.inside.last_pipe c.self.invariant c.args.pipe there.0 there.1 c.args.n c.in_ok-take.field-0 ready (sym bytes)

pub returns-clause-after : goal.returns-clause-after
returns-clause-after g c =
    let there = pipe_there c.self.inside.pipes c.args.pipe (subst (λ (k : Kept g.row.M.Denot). IsSome (map.get k.table.pipes c.args.pipe)) (sym c.self.view_is) c.requires.exists) in
    ap (λ pipes. kept_of c.self.inside.open pipes c.self.inside.last_file c.self.inside.last_pipe) c.in_ok-take.ensures.ok
    ∙ read-moves_after c.self.inside.open c.self.inside.pipes c.self.inside.last_file c.self.inside.last_pipe c.self.invariant c.args.pipe there.0 there.1 c.args.n
    ∙ ap (λ (k : Kept g.row.M.Denot). on_table (pipe_after_read c.args.pipe c.args.n) k) c.self.view_is

pub returns-then-waits_for_writer-clause-waits : goal.returns-then-waits_for_writer-clause-waits
returns-then-waits_for_writer-clause-waits g c =
    let there = pipe_there c.self.inside.pipes c.args.pipe (subst (λ (k : Kept g.row.M.Denot). IsSome (map.get k.table.pipes c.args.pipe)) (sym c.self.view_is) c.requires.exists) in
    let told = told (λ (p : Pipe). read_waits p.bytes p.writer) _ there.0 c.waits_for_writer.result there.1 c.waits_for_writer.ensures ∙ c.if-waits_for_writer.true in
    let is = sym (ap (λ (k : Kept g.row.M.Denot). reads_wait k.table c.args.pipe) c.self.view_is) ∙ reads_wait-is c.self.inside.open c.self.inside.pipes c.self.inside.last_file c.self.inside.last_pipe c.self.invariant c.args.pipe there.0 there.1 ∙ told in
    (λ _. is, λ _. refl)

pub returns-in_err-take-clause-waits : goal.returns-in_err-take-clause-waits
returns-in_err-take-clause-waits g c =
    let there = pipe_there c.self.inside.pipes c.args.pipe (subst (λ (k : Kept g.row.M.Denot). IsSome (map.get k.table.pipes c.args.pipe)) (sym c.self.view_is) c.requires.exists) in
    let told = told (λ (p : Pipe). read_waits p.bytes p.writer) _ there.0 c.waits_for_writer.result there.1 c.waits_for_writer.ensures ∙ c.if-waits_for_writer.false in
    let is = sym (ap (λ (k : Kept g.row.M.Denot). reads_wait k.table c.args.pipe) c.self.view_is) ∙ reads_wait-is c.self.inside.open c.self.inside.pipes c.self.inside.last_file c.self.inside.last_pipe c.self.invariant c.args.pipe there.0 there.1 ∙ told in
    (λ e. absurd (error_not_ok _ _ c.from_residual.ensures.0 e), λ waits. absurd (false≢true (sym is ∙ waits)))

pub returns-clause-waits : goal.returns-clause-waits
returns-clause-waits g c =
    let there = pipe_there c.self.inside.pipes c.args.pipe (subst (λ (k : Kept g.row.M.Denot). IsSome (map.get k.table.pipes c.args.pipe)) (sym c.self.view_is) c.requires.exists) in
    let told = told (λ (p : Pipe). read_waits p.bytes p.writer) _ there.0 c.waits_for_writer.result there.1 c.waits_for_writer.ensures ∙ c.if-waits_for_writer.false in
    let is = sym (ap (λ (k : Kept g.row.M.Denot). reads_wait k.table c.args.pipe) c.self.view_is) ∙ reads_wait-is c.self.inside.open c.self.inside.pipes c.self.inside.last_file c.self.inside.last_pipe c.self.invariant c.args.pipe there.0 there.1 ∙ told in
    (λ e. absurd (cc), λ waits. absurd (false≢true (sym is ∙ waits)))
