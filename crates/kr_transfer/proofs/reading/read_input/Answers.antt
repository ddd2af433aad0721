use Rattle.std.proofs.Common.{refl, sym, ap, ◌∙◌, [], ◌∷◌, Err, length, take, drop, pos}
use Rattle.kr_seen.specs.kr_model.Applied.{applied, images}
use Rattle.kr_seen.specs.kr_model.Change.{TakeInput}
use Rattle.kr_seen.specs.kr_model.declared.outcome.Outcome.TheVariants.{Answer}
use Rattle.kr_seen.specs.kr_model.Known.{known}
use Rattle.kr_seen.specs.kr_model.State as model
use Rattle.kr_seen.specs.kr_ops.Meaning.{meaning}
use Rattle.kr_transfer.specs.Moving.{told}
use Rattle.kr_transfer.proofs.ReadingLemmas.{by-fault, by-hand, by-none, input-row}
use Rattle.kr_transfer.proofs.reading.read_input.Goals as goal

pub returns-then-is_empty-clause-performs : goal.returns-then-is_empty-clause-performs
returns-then-is_empty-clause-performs g c = λ some o h.
    let bytes = c.in-Ok.bytes in
    by-none c.args.pid _ c.args.state.now c.args.state.now c.number.result (told c.args.pieces.now) bytes (TakeInput (length bytes) ∷ [])
    (input-row (known model.image_layout c.args.pid (meaning c.args.state.now)) (told c.args.pieces.now) bytes
    (c.in-Ok.ensures ∙ c.part-left.ensures ∙ ap (λ b. take c.args.count (drop c.args.state.now.taken b)) c.as_slice.ensures ∙ ap (λ n. take n (drop c.args.state.now.taken c.args.state.now.input)) c.requires.count.asked))
    (c.is_empty.ensures.0 c.if-is_empty.true) c.requires.caller.view.lawful.pids c.number.ensures refl

pub returns-in-Ok-hand-clause-performs : goal.returns-in-Ok-hand-clause-performs
returns-in-Ok-hand-clause-performs g c = λ some o h.
    let bytes = c.as_slice-2.result.now in
    by-hand c.args.pid _ c.args.state.now c.take_input.new.self c.number-in-Ok-hand.result (told c.args.pieces.now) bytes (TakeInput (length bytes) ∷ [])
    (input-row (known model.image_layout c.args.pid (meaning c.args.state.now)) (told c.args.pieces.now) bytes
    (c.as_slice-2.ensures ∙ c.in-Ok.ensures ∙ c.part-left.ensures ∙ ap (λ b. take c.args.count (drop c.args.state.now.taken b)) c.as_slice.ensures ∙ ap (λ n. take n (drop c.args.state.now.taken c.args.state.now.input)) c.requires.count.asked))
    c.hand.new.state (c.in-Ok-hand.ensures.ok (TakeInput (length bytes) ∷ [])) c.in-Ok-hand.ensures.leaves.sound.pids
    (c.number-in-Ok-hand.ensures ∙ ap (λ n. Answer (pos n)) (c.len-in-Ok-hand.ensures ∙ ap length (sym c.as_slice-2.ensures)))
    (λ mounts. c.take_input.ensures.makes c.args.pid mounts ∙ ap (λ n. applied images mounts c.args.pid (TakeInput n) (meaning c.hand.new.state)) (c.len.ensures ∙ ap length (sym c.as_slice-2.ensures)))

pub returns-in-Err-BadAddress-clause-performs : goal.returns-in-Err-BadAddress-clause-performs
returns-in-Err-BadAddress-clause-performs g c = λ some o h.
    let bytes = c.as_slice-2.result.now in
    by-fault c.args.pid _ c.args.state.now c.hand.new.state c.refused.result (told c.args.pieces.now) bytes (TakeInput (length bytes) ∷ [])
    (input-row (known model.image_layout c.args.pid (meaning c.args.state.now)) (told c.args.pieces.now) bytes
    (c.as_slice-2.ensures ∙ c.in-Ok.ensures ∙ c.part-left.ensures ∙ ap (λ b. take c.args.count (drop c.args.state.now.taken b)) c.as_slice.ensures ∙ ap (λ n. take n (drop c.args.state.now.taken c.args.state.now.input)) c.requires.count.asked))
    c.requires.caller.view.lawful.pids (c.in-Err-BadAddress.ensures.bad (ap Err c.in-Err-BadAddress.field-0-is) (TakeInput (length bytes) ∷ [])) c.refused.ensures (c.in-Err-BadAddress.ensures.err (ap Err c.in-Err-BadAddress.field-0-is)).same
