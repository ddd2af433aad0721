use Rattle.std.proofs.Common.{◌≡◌, of_z, to_z, w32, rules, ap, sym, subst, ◌∙◌}
use Rattle.kr_seen.specs.kr_model.Known.{known}
use Rattle.kr_seen.specs.kr_model.State.{image_layout}
use Rattle.kr_seen.specs.kr_ops.Meaning.{meaning}
use Rattle.kr_seen.specs.Carrying.{memory_of}
use Rattle.kr_seen.specs.Using.{HasMemory}
use Rattle.kr_calm.specs.Noted.{kills}
use Rattle.kr_calm.proofs.NotedLemmas.{as-before, is-noted, not-noted, noted-elsewhere, noted-there}
use Rattle.kr_calm.proofs.noting.note_list.Goals as goal

pub returns-then-kills : goal.returns-then-kills
returns-then-kills g c =
    let old = c.args.state.now in
    let same : to_z w32 (of_z w32 c.in-Writev.fd) ≡ c.in-Writev.fd = search rules in
    is-noted c.args.pid old c.requires.sound c.requires.lives c.args.request.now c.read_list.new.state
    (subst (λ m. HasMemory c.args.pid m old c.read_list.new.state)
    (sym (noted-there (known image_layout c.args.pid (meaning old)) c.in-Writev.fd c.in-Writev.list c.in-Writev.count (memory_of c.args.pid (meaning old)) c.args.request.now c.in-Writev.is (ap (kills (known image_layout c.args.pid (meaning old))) (sym same) ∙ sym c.kills.ensures ∙ c.if-kills.true)))
    c.read_list.ensures)

pub returns-else-kills : goal.returns-else-kills
returns-else-kills g c =
    let old = c.args.state.now in
    let same : to_z w32 (of_z w32 c.in-Writev.fd) ≡ c.in-Writev.fd = search rules in
    is-noted c.args.pid old c.requires.sound c.requires.lives c.args.request.now old
    (subst (λ m. HasMemory c.args.pid m old old)
    (sym (not-noted (known image_layout c.args.pid (meaning old)) c.in-Writev.fd c.in-Writev.list c.in-Writev.count (memory_of c.args.pid (meaning old)) c.args.request.now c.in-Writev.is (ap (kills (known image_layout c.args.pid (meaning old))) (sym same) ∙ sym c.kills.ensures ∙ c.if-kills.false)))
    (as-before c.args.pid old c.requires.sound c.requires.lives))

pub returns-in_default : goal.returns-in_default
returns-in_default g c =
    let old = c.args.state.now in
    is-noted c.args.pid old c.requires.sound c.requires.lives c.args.request.now old
    (subst (λ m. HasMemory c.args.pid m old old) (sym (noted-elsewhere (known image_layout c.args.pid (meaning old)) c.args.request.now (memory_of c.args.pid (meaning old)) c.in_default.not-Writev))
    (as-before c.args.pid old c.requires.sound c.requires.lives))
