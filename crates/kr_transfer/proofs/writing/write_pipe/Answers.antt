use Rattle.std.proofs.Common.{◌≡◌, ◌<◌, ◌-◌, ℕ, List, lit<, arith, refl, sym, ap, subst, ◌∙◌, [], ◌∷◌, length, pos}
use Rattle.std.specs.Prelude.{IsSome, not}
use Rattle.kr_seen.specs.rv_mem.declared.rights.Use.TheVariants.{Read}
use Rattle.std.specs.FinMap as map
use Rattle.kr_seen.specs.kr_model.Applied.{applied, images}
use Rattle.kr_seen.specs.kr_model.Change.{End, PutIntoPipe}
use Rattle.kr_seen.specs.kr_model.FileRows.{write_pipe}
use Rattle.kr_seen.specs.kr_model.Known.{known}
use Rattle.kr_seen.specs.kr_model.Pieces.{cut_to, read_all}
use Rattle.kr_seen.specs.kr_model.Reply.{answers, done}
use Rattle.kr_seen.specs.kr_model.State as model
use Rattle.kr_seen.specs.kr_model.declared.outcome.Outcome.TheVariants.{Answer, Ended, Wait}
use Rattle.kr_seen.specs.kr_ops.Meaning.{meaning}
use Rattle.kr_seen.specs.PerformedRows.{memory_of}
use Rattle.kr_seen.proofs.PerformLemmas.{by-reply}
use Rattle.kr_seen.proofs.UsingLemmas.{begins, by-uses}
use Rattle.kr_transfer.specs.Moving.{told}
use Rattle.kr_transfer.proofs.MovingLemmas.{comes-then}
use Rattle.kr_transfer.proofs.PieceLemmas.{allowed-cut, asked-cut}
use Rattle.kr_transfer.proofs.ReadingLemmas.{stands, stands-not}
use Rattle.kr_transfer.proofs.ViewLemmas.{view-sound}
use Rattle.kr_transfer.proofs.WritingLemmas.{writes-full, writes-no-pipe, writes-some, writes-unread}
use Rattle.kr_transfer.proofs.writing.write_pipe.Goals as goal

pub returns-in_default-clause-performs : goal.returns-in_default-clause-performs
returns-in_default-clause-performs g c = λ some o h.
    by-reply c.args.pid _ c.args.state.now c.args.state.now c.number.result c.requires.caller.view.lawful.pids (answers 0 [])
    (writes-no-pipe (known model.image_layout c.args.pid (meaning c.args.state.now)) c.args.pipe (told c.args.pieces.now) (stands-not c.args.state.now c.args.pid c.args.pipe c.in_default.ensures)) c.number.ensures (λ mounts. refl)

pub read_all-requires : goal.read_all-requires
read_all-requires g c =
    (lit< tt, (record { sound = view-sound c.args.state.now c.requires.caller.view; lives = c.requires.caller.lives }, allowed-cut (memory_of c.args.pid (meaning c.args.state.now)).pages Read c.from.result (told c.args.pieces.now) c.requires.allowed))

pub returns-in-Ok-clause-performs : goal.returns-in-Ok-clause-performs
returns-in-Ok-clause-performs g c = λ some o h.
    let st = stands c.args.state.now c.args.pid c.args.pipe c.in-Some.held c.in-Some.ensures in
    by-reply c.args.pid _ c.args.state.now c.end.new.self Ended c.requires.caller.view.lawful.pids (record { outcome = Ended; changes = End 13 ∷ [] })
    (writes-unread (known model.image_layout c.args.pid (meaning c.args.state.now)) c.args.pipe (told c.args.pieces.now) st.held st.there (ap not (sym st.reader) ∙ c.if-not-held.true)) refl c.in-Ok.ensures.makes

pub returns-then-held-ge-PIPE_LIMIT-clause-performs : goal.returns-then-held-ge-PIPE_LIMIT-clause-performs
returns-then-held-ge-PIPE_LIMIT-clause-performs g c = λ some o h.
    let st = stands c.args.state.now c.args.pid c.args.pipe c.in-Some.held c.in-Some.ensures in
    let long = st.count in
    let past = c.if-held-ge-PIPE_LIMIT.true in
    by-reply c.args.pid _ c.args.state.now c.args.state.now Wait c.requires.caller.view.lawful.pids (record { outcome = Wait; changes = [] })
    (writes-full (known model.image_layout c.args.pid (meaning c.args.state.now)) c.args.pipe (told c.args.pieces.now) st.held st.there (ap not (sym st.reader) ∙ c.if-not-held.false) (omega arith)) refl (λ mounts. refl)

pub put_into_pipe-requires : goal.put_into_pipe-requires
put_into_pipe-requires g c =
    let st = stands c.args.state.now c.args.pid c.args.pipe c.in-Some.held c.in-Some.ensures in
    let below = c.if-held-ge-PIPE_LIMIT.false in
    let free = c.from.ensures in
    let counted = c.in-Ok-read_all.ensures.count ∙ asked-cut c.from.result (told c.args.pieces.now) in
    let same = ap length c.as_slice.ensures in
    let asks = c.requires.count.asked in
    let first = c.requires.some in
    let moves : 0 < length c.as_slice.result.now = omega arith in
    (lit< tt, (subst IsSome (sym (ap (λ (u : model.State _ model.Image). map.get u.files.pipes c.args.pipe) c.in-Ok-read_all.ensures.reads.leaves.means ∙ st.there)) refl, moves))

pub overflow_cast-len : goal.overflow_cast-len
overflow_cast-len g c =
    let counted = c.in-Ok-read_all.ensures.count ∙ asked-cut c.from.result (told c.args.pieces.now) in
    let own = c.len.ensures in
    let asks = c.requires.count.asked in
    let most = c.requires.count.limited in
    omega arith

pub returns-in-Ok-put_into_pipe-clause-performs : goal.returns-in-Ok-put_into_pipe-clause-performs
returns-in-Ok-put_into_pipe-clause-performs g c = λ some o h.
    let k = known model.image_layout c.args.pid (meaning c.args.state.now) in
    let pieces = told c.args.pieces.now in
    let pipe = c.args.pipe in
    let bytes = c.in-Ok-read_all.bytes in
    let next = λ (bytes : List ℕ). done (length bytes) (PutIntoPipe pipe bytes ∷ []) in
    let st = stands c.args.state.now c.args.pid pipe c.in-Some.held c.in-Some.ensures in
    let below = c.if-held-ge-PIPE_LIMIT.false in
    let is = c.from.ensures in
    let free : c.from.result ≡ 65536 - length st.held = is ∙ ap (λ n. 65536 - n) st.count in
    let first : 0 < c.from.result = omega arith in
    by-uses c.args.pid _ c.args.state.now c.read_all.new.state c.put_into_pipe.new.self c.number-in-Ok-put_into_pipe.result (answers (length bytes) (PutIntoPipe pipe bytes ∷ [])) c.in-Ok-read_all.ensures.reads.leaves.sound.pids
    (comes-then c.args.pid _ _ _ c.args.state.now c.args.state.now c.read_all.new.state
    (begins c.args.pid (write_pipe k pipe pieces (k.pipe pipe)) c.args.state.now (read_all (cut_to c.from.result pieces) next) (writes-some k pipe pieces st.held st.there (ap not (sym st.reader) ∙ c.if-not-held.false) c.from.result free first))
    (c.in-Ok-read_all.ensures.comes next))
    (c.number-in-Ok-put_into_pipe.ensures ∙ ap (λ n. Answer (pos n)) c.len.ensures)
    (λ mounts. c.in-Ok-put_into_pipe.ensures.makes c.args.pid mounts ∙ ap (λ b. applied images mounts c.args.pid (PutIntoPipe pipe b) (meaning c.read_all.new.state)) c.as_slice.ensures)
