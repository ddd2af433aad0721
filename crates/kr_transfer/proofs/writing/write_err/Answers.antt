use Rattle.std.proofs.Common.{◌≤◌, ℕ, List, lit<, arith, sym, ap, ◌∙◌, [], ◌∷◌, length, pos}
use Rattle.kr_seen.specs.rv_mem.declared.rights.Use.TheVariants.{Read}
use Rattle.kr_seen.specs.kr_model.Applied.{applied, images}
use Rattle.kr_seen.specs.kr_model.Change.{WriteErr}
use Rattle.kr_seen.specs.kr_model.Pieces.{asked, cut_to, read_all}
use Rattle.kr_seen.specs.kr_model.Reply.{answers, done}
use Rattle.kr_seen.specs.kr_model.declared.outcome.Outcome.TheVariants.{Answer}
use Rattle.kr_seen.specs.kr_ops.Meaning.{meaning}
use Rattle.kr_seen.specs.PerformedRows.{memory_of}
use Rattle.kr_seen.proofs.UsingLemmas.{begins, by-uses}
use Rattle.kr_transfer.specs.Moving.{told}
use Rattle.kr_transfer.proofs.MovingLemmas.{comes-then}
use Rattle.kr_transfer.proofs.PieceLemmas.{allowed-cut, asked-cut, uncut}
use Rattle.kr_transfer.proofs.ViewLemmas.{view-sound}
use Rattle.kr_transfer.proofs.writing.write_err.Goals as goal

pub read_all-requires : goal.read_all-requires
read_all-requires g c =
    (lit< tt, (record { sound = view-sound c.args.state.now c.requires.caller.view; lives = c.requires.caller.lives }, allowed-cut (memory_of c.args.pid (meaning c.args.state.now)).pages Read c.args.count (told c.args.pieces.now) c.requires.allowed))

pub returns-in-Ok-write_err-clause-performs : goal.returns-in-Ok-write_err-clause-performs
returns-in-Ok-write_err-clause-performs g c = λ some o h.
    let pieces = told c.args.pieces.now in
    let bytes = c.in-Ok.bytes in
    let next = λ (bytes : List ℕ). done (length bytes) (WriteErr bytes ∷ []) in
    let counted = c.requires.count.asked in
    let within : asked pieces ≤ c.args.count = omega arith in
    by-uses c.args.pid _ c.args.state.now c.read_all.new.state c.write_err.new.self c.number.result (answers (length bytes) (WriteErr bytes ∷ [])) c.in-Ok.ensures.reads.leaves.sound.pids
    (comes-then c.args.pid _ _ _ c.args.state.now c.args.state.now c.read_all.new.state
    (begins c.args.pid (read_all pieces next) c.args.state.now (read_all (cut_to c.args.count pieces) next) (ap (λ ps. read_all ps next) (sym (uncut c.args.count pieces within)))) (c.in-Ok.ensures.comes next))
    (c.number.ensures ∙ ap (λ n. Answer (pos n)) c.len.ensures)
    (λ mounts. c.in-Ok-write_err.ensures.ok c.args.pid mounts ∙ ap (λ b. applied images mounts c.args.pid (WriteErr b) (meaning c.read_all.new.state)) c.as_slice.ensures)

pub overflow_cast-len : goal.overflow_cast-len
overflow_cast-len g c =
    let counted = c.in-Ok.ensures.count ∙ asked-cut c.args.count (told c.args.pieces.now) in
    let own = c.len.ensures in
    let most = c.requires.count.limited in
    omega arith
