use Rattle.std.proofs.Common.{◌≡◌, ◌<◌, lit<, arith, refl, sym, ap, subst, ◌∙◌, [], ◌∷◌, Some, length, min, take, pos}
use Rattle.std.specs.Prelude.{IsSome, if◌then◌else◌}
use Rattle.kr_seen.specs.rv_mem.declared.rights.Use.TheVariants.{Write}
use Rattle.kr_seen.specs.rv_mem.Memory.{Memory}
use Rattle.kr_seen.specs.kr_model.Change.{TakeFromPipe}
use Rattle.kr_seen.specs.kr_model.FileRows.{read_pipe}
use Rattle.kr_seen.specs.kr_model.Known.{known}
use Rattle.kr_seen.specs.kr_model.Pieces.{asked, cut_to, hand}
use Rattle.kr_seen.specs.kr_model.Reply.{answers, done, waits}
use Rattle.kr_seen.specs.kr_model.State as model
use Rattle.kr_seen.specs.kr_model.declared.outcome.Outcome.TheVariants.{Answer, Wait}
use Rattle.kr_seen.specs.kr_ops.Meaning.{meaning}
use Rattle.kr_seen.specs.PerformedRows.{memory_of}
use Rattle.kr_seen.proofs.PerformLemmas.{by-reply}
use Rattle.kr_transfer.specs.Moving.{all_allowed, told}
use Rattle.kr_transfer.proofs.MovingLemmas.{hand-unusable}
use Rattle.kr_transfer.proofs.ReadingLemmas.{answered, by-fault, by-taken, no-pipe, own-length, own-row, pipe-is-empty, stands, stands-not, taken-lives, taken-memory, taken-sound}
use Rattle.kr_transfer.proofs.reading.read_pipe.Goals as goal

pub returns-in_default-clause-performs : goal.returns-in_default-clause-performs
returns-in_default-clause-performs g c = λ some o h.
    by-reply c.args.pid _ c.args.state.now c.args.state.now c.number.result c.requires.caller.view.lawful.pids (answers 0 [])
    (no-pipe (known model.image_layout c.args.pid (meaning c.args.state.now)) c.args.pipe (told c.args.pieces.now) (stands-not c.args.state.now c.args.pid c.args.pipe c.in_default.ensures)) c.number.ensures (λ mounts. refl)

pub returns-then-held-clause-performs : goal.returns-then-held-clause-performs
returns-then-held-clause-performs g c = λ some o h.
    let st = stands c.args.state.now c.args.pid c.args.pipe c.in-Some.held c.in-Some.ensures in
    by-reply c.args.pid _ c.args.state.now c.args.state.now Wait c.requires.caller.view.lawful.pids (record { outcome = Wait; changes = [] })
    (pipe-is-empty c.args.state.now c.args.pid c.args.pipe c.in-Some.held st (told c.args.pieces.now) c.if-held-eq0.true ∙ ap (λ b. if b then waits else done 0 []) c.if-held.true) refl (λ mounts. refl)

pub returns-else-held-clause-performs : goal.returns-else-held-clause-performs
returns-else-held-clause-performs g c = λ some o h.
    let st = stands c.args.state.now c.args.pid c.args.pipe c.in-Some.held c.in-Some.ensures in
    by-reply c.args.pid _ c.args.state.now c.args.state.now c.number-else-held.result c.requires.caller.view.lawful.pids (answers 0 [])
    (pipe-is-empty c.args.state.now c.args.pid c.args.pipe c.in-Some.held st (told c.args.pieces.now) c.if-held-eq0.true ∙ ap (λ b. if b then waits else done 0 []) c.if-held.false) c.number-else-held.ensures (λ mounts. refl)

pub returns-then-not-may_use_all-clause-performs : goal.returns-then-not-may_use_all-clause-performs
returns-then-not-may_use_all-clause-performs g c = λ some o h.
    let s = c.args.state.now in
    let pieces = told c.args.pieces.now in
    let n = c.min-moved.result in
    let st = stands s c.args.pid c.args.pipe c.in-Some.held c.in-Some.ensures in
    let counted : n ≡ min (asked pieces) c.in-Some.held.bytes = c.min-moved.ensures ∙ ap (min c.args.count) c.from.ensures ∙ ap (λ a. min a c.in-Some.held.bytes) c.requires.count.asked in
    let no = c.if-held-eq0.false in
    let there : 0 < c.in-Some.held.bytes = omega arith in
    let long = own-length s c.args.pid c.args.pipe c.in-Some.held st pieces n counted there in
    let asks = c.requires.count.asked in
    let first = c.requires.some in
    let moves : 0 < length (take n st.held) = omega arith in
    by-fault c.args.pid _ s s c.refused.result pieces (take n st.held) (TakeFromPipe c.args.pipe n ∷ [])
    (own-row s c.args.pid c.args.pipe c.in-Some.held st pieces n counted there) c.requires.caller.view.lawful.pids
    (hand-unusable c.args.pid s pieces (take n st.held) (TakeFromPipe c.args.pipe n ∷ []) moves
    (ap (λ n. all_allowed (memory_of c.args.pid (meaning s)).pages Write (cut_to n pieces)) long ∙ sym c.if-not-may_use_all.ensures)) c.refused.ensures refl

pub write_all-requires : goal.write_all-requires
write_all-requires g c =
    let s = c.args.state.now in
    let pieces = told c.args.pieces.now in
    let n = c.min-moved.result in
    let st = stands s c.args.pid c.args.pipe c.in-Some.held c.in-Some.ensures in
    let counted : n ≡ min (asked pieces) c.in-Some.held.bytes = c.min-moved.ensures ∙ ap (min c.args.count) c.from.ensures ∙ ap (λ a. min a c.in-Some.held.bytes) c.requires.count.asked in
    let no = c.if-held-eq0.false in
    let there : 0 < c.in-Some.held.bytes = omega arith in
    let long = own-length s c.args.pid c.args.pipe c.in-Some.held st pieces n counted there in
    let stored = st.count in
    let held_some : 0 < length st.held = omega arith in
    let bytes : c.as_slice.result.now ≡ take n st.held =
    c.as_slice.ensures ∙ answered s c.args.pid c.args.pipe n st.held c.in-Ok-Bytes.bytes st.there held_some (c.in-Ok-Bytes.ensures.answer ∙ ap (λ m. Some m) c.in-Ok-Bytes.field-0-is) in
    let made = c.in-Ok-Bytes.ensures.makes c.args.pid in (
      lit< tt,
      (
        record {
          sound = taken-sound c.args.pid c.args.pipe n s c.take_from_pipe.new.self c.requires.caller.view c.requires.caller.lives made (c.in-Ok-Bytes.ensures.served c.requires.caller.view.served) (subst IsSome (sym st.there) refl);
          lives = taken-lives c.args.pid c.args.pipe n s c.take_from_pipe.new.self c.requires.caller.view c.requires.caller.lives made;
        },
        ap (λ (m : Memory). all_allowed m.pages Write (cut_to (length c.as_slice.result.now) pieces)) (taken-memory c.args.pid c.args.pipe n s c.take_from_pipe.new.self c.requires.caller.view c.requires.caller.lives made)
            ∙ ap (λ n. all_allowed (memory_of c.args.pid (meaning s)).pages Write (cut_to n pieces)) (ap length bytes ∙ long) ∙ sym c.if-not-may_use_all.ensures,
      ),
    )

pub returns-in-Ok-clause-performs : goal.returns-in-Ok-clause-performs
returns-in-Ok-clause-performs g c = λ some o h.
    let s = c.args.state.now in
    let pieces = told c.args.pieces.now in
    let n = c.min-moved.result in
    let st = stands s c.args.pid c.args.pipe c.in-Some.held c.in-Some.ensures in
    let counted : n ≡ min (asked pieces) c.in-Some.held.bytes = c.min-moved.ensures ∙ ap (min c.args.count) c.from.ensures ∙ ap (λ a. min a c.in-Some.held.bytes) c.requires.count.asked in
    let no = c.if-held-eq0.false in
    let there : 0 < c.in-Some.held.bytes = omega arith in
    let long = own-length s c.args.pid c.args.pipe c.in-Some.held st pieces n counted there in
    let stored = st.count in
    let held_some : 0 < length st.held = omega arith in
    let bytes : c.as_slice.result.now ≡ take n st.held =
    c.as_slice.ensures ∙ answered s c.args.pid c.args.pipe n st.held c.in-Ok-Bytes.bytes st.there held_some (c.in-Ok-Bytes.ensures.answer ∙ ap (λ m. Some m) c.in-Ok-Bytes.field-0-is) in
    let own : length c.as_slice.result.now ≡ n = ap length bytes ∙ long in
    let asks = c.requires.count.asked in
    let first = c.requires.some in
    let moves : 0 < length c.as_slice.result.now = omega arith in
    by-taken c.args.pid c.args.pipe n s c.take_from_pipe.new.self c.requires.caller.view c.requires.caller.lives (c.in-Ok-Bytes.ensures.makes c.args.pid) c.write_all.new.state
    (λ k. read_pipe k c.args.pipe pieces (k.pipe c.args.pipe)) c.number-in-Ok.result pieces c.as_slice.result.now
    (own-row s c.args.pid c.args.pipe c.in-Some.held st pieces n counted there ∙ ap (λ bytes. hand pieces bytes (TakeFromPipe c.args.pipe n ∷ [])) (sym bytes)) moves
    (ap (λ n. all_allowed (memory_of c.args.pid (meaning s)).pages Write (cut_to n pieces)) own ∙ sym c.if-not-may_use_all.ensures)
    (c.in-Ok.ensures.comes (done (length c.as_slice.result.now) (TakeFromPipe c.args.pipe n ∷ []))) c.in-Ok.ensures.leaves
    (c.number-in-Ok.ensures ∙ ap (λ n. Answer (pos n)) (sym own))
