use Rattle.std.proofs.Common.{◌∙◌, ap, sym}
use Rattle.kr_files.specs.Files.{Kept, pipe_state_of}
use Rattle.kr_files.proofs.PipeLemmas.{state_found, state-none}
use Rattle.kr_files.proofs.files.Files.pipe_state.Goals as goal

pub returns-in-Some : goal.returns-in-Some
returns-in-Some g c =
    state_found c.self.inside.open c.self.inside.pipes c.self.inside.last_file c.self.inside.last_pipe c.self.invariant c.args.pipe c.in-Some.held.now (sym c.in-Some.ensures) c.len.result c.has_reader.result c.has_writer.result c.len.ensures.value c.has_reader.ensures c.has_writer.ensures
    ∙ ap (λ (k : Kept g.row.M.Denot). pipe_state_of k.table c.args.pipe) c.self.view_is

pub returns-in-None : goal.returns-in-None
returns-in-None g c =
    sym (state-none c.self.inside.open c.self.inside.pipes c.self.inside.last_file c.self.inside.last_pipe c.self.invariant c.args.pipe (sym c.in-None.ensures))
    ∙ ap (λ (k : Kept g.row.M.Denot). pipe_state_of k.table c.args.pipe) c.self.view_is
