use Rattle.std.proofs.Common.{◌≡◌, w32, refl, sym, ap, subst, ◌∙◌}
use Rattle.std.specs.Prelude.{Err, unsigned_abs}
use Rattle.std.proofs.Math.Facts.{to_z-of_z}
use Rattle.kr_seen.specs.pr_base.declared.errno.Errno.TheVariants.{ENOENT}
use Rattle.kr_seen.specs.kr_model.AttributeRows.{readlinkat_row, tell_text}
use Rattle.kr_seen.specs.kr_model.Known.{known}
use Rattle.kr_seen.specs.kr_model.State.{image_layout}
use Rattle.kr_seen.specs.kr_model.Walks.{text_at}
use Rattle.kr_seen.specs.kr_ops.Meaning.{meaning}
use Rattle.kr_seen.specs.Numbered.{state_numbered}
use Rattle.kr_seen.specs.Placed.{target_mounts}
use Rattle.kr_seen.proofs.CarryLemmas.{by-refusal}
use Rattle.kr_attributes.specs.Named.{AnswersText}
use Rattle.kr_attributes.specs.declared.links.TextFault.{TextFault}
use Rattle.kr_attributes.proofs.FoundLemmas.{link-found, no-link-found}
use Rattle.kr_attributes.proofs.RowLemmas.{at-mounts, by-row}
use Rattle.kr_attributes.proofs.links.readlinkat.Goals as goal

pub returns-in_default-clause-performs : goal.returns-in_default-clause-performs
returns-in_default-clause-performs g c = λ some.
    let k = known image_layout c.args.pid (meaning c.args.state.now) in
    by-refusal (target_mounts c.args.target.now) c.args.pid _ c.args.state.now c.args.state.now c.refused.result c.requires.lawful.pids ENOENT
    (no-link-found g.P.Places.number (g.P.Places.mounts c.args.places.now) c.args.pid c.args.state.now c.args.target.now (λ l text. readlinkat_row k l text c.args.buf c.args.size) c.in_default.is)
    c.refused.ensures refl

pub returns-in-Ok-clause-performs : goal.returns-in-Ok-clause-performs
returns-in-Ok-clause-performs g c = λ some.
    let k = known image_layout c.args.pid (meaning c.args.state.now) in
    let mounts = target_mounts c.args.target.now in
    let n = c.unsigned_abs.result in
    let size : unsigned_abs c.args.size ≡ n = cc (c.unsigned_abs.ensures.value, to_z-of_z {w = w32} {z = c.args.size} c.ranges.size) in
    by-row c.args.pid _ c.args.state.now c.tell_text.new.state c.tell_text.result mounts (λ k. tell_text c.args.buf n c.as_slice.result.now)
    (link-found g.P.Places.number (g.P.Places.mounts c.args.places.now) c.args.pid c.args.state.now c.args.target.now (λ l text. readlinkat_row k l text c.args.buf c.args.size) c.in-Some.place c.in-Some.is
    ∙ c.in-Ok.ensures c.args.buf (unsigned_abs c.args.size)
    ∙ ap (λ n. tell_text c.args.buf n c.in-Ok.text) size
    ∙ ap (λ text. tell_text c.args.buf n text) (sym c.as_slice.ensures))
    (at-mounts c.args.pid _ c.args.state.now c.tell_text.new.state c.tell_text.result mounts (c.tell_text.ensures.performs some))

pub returns-in-Err-Refused-clause-performs : goal.returns-in-Err-Refused-clause-performs
returns-in-Err-Refused-clause-performs g c = λ some.
    let k = known image_layout c.args.pid (meaning c.args.state.now) in
    let table = g.P.Places.mounts c.args.places.now in
    let s = state_numbered g.P.Places.number (meaning c.args.state.now) in
    let host = c.in-Some.place.host in
    let P : TextFault → Type 0 = λ fault. AnswersText k host (text_at table c.args.pid s host) (Err fault) in
    by-refusal (target_mounts c.args.target.now) c.args.pid _ c.args.state.now c.args.state.now c.refused-in-Err-Refused.result c.requires.lawful.pids c.in-Err-Refused.errno
    (link-found g.P.Places.number table c.args.pid c.args.state.now c.args.target.now (λ l text. readlinkat_row k l text c.args.buf c.args.size) c.in-Some.place c.in-Some.is
    ∙ subst P c.in-Err-Refused.field-0-is c.in-Err-Refused.ensures c.args.buf (unsigned_abs c.args.size))
    c.refused-in-Err-Refused.ensures refl
