use Rattle.std.proofs.Common.{◌≡◌, ◌≤◌, ◌<◌, ◌*◌, List, arith, min, length, sym, ap, subst, ◌∙◌}
use Rattle.kr_seen.specs.pr_base.declared.errno.Errno.TheVariants.{EINVAL}
use Rattle.kr_seen.proofs.rv_mem.PagesLemmas.{length-bytes_from}
use Rattle.kr_seen.specs.kr_model.Pieces.{asked, cut_to, pieces_of, with_list}
use Rattle.kr_seen.specs.kr_model.Reply.{refuse}
use Rattle.kr_seen.specs.kr_ops.Meaning.{meaning}
use Rattle.kr_seen.specs.PerformedRows.{memory_of}
use Rattle.kr_seen.specs.Using.{HasComeTo}
use Rattle.kr_transfer.specs.Moving.{told}
use Rattle.kr_transfer.specs.declared.pieces.Piece.{Piece}
use Rattle.kr_transfer.proofs.ListLemmas.{reads-same, same-refused, sums-past, sums-within}
use Rattle.kr_transfer.proofs.MovingLemmas.{reads-itself, reads-then}
use Rattle.kr_transfer.proofs.PieceLemmas.{asked-cut}
use Rattle.kr_transfer.proofs.lists.read_list.Goals as goal

pub returns-then-count-gt-MOST_PIECES-clause-reads : goal.returns-then-count-gt-MOST_PIECES-clause-reads
returns-then-count-gt-MOST_PIECES-clause-reads g c = λ other. reads-itself c.args.pid c.args.state.now c.requires.sound c.requires.lives

pub returns-in-Err-BadAddress-clause-reads : goal.returns-in-Err-BadAddress-clause-reads
returns-in-Err-BadAddress-clause-reads g c = λ other. reads-same c.args.pid c.args.state.now c.read.new.state c.requires.sound c.requires.lives c.in-Err-BadAddress.ensures.err

pub decode-requires : goal.decode-requires
decode-requires g c =
    sym (ap length (c.as_slice.ensures ∙ c.in-Ok.ensures.ok.bytes_are) ∙ length-bytes_from (memory_of c.args.pid (meaning c.args.state.now)).pages c.args.list (16 * c.args.count))

pub returns-in_default-clause-reads : goal.returns-in_default-clause-reads
returns-in_default-clause-reads g c = λ other.
    reads-then c.args.pid c.args.state.now c.args.state.now c.read.new.state c.args.list (16 * c.args.count) c.in-Ok.bytes (reads-itself c.args.pid c.args.state.now c.requires.sound c.requires.lives) c.in-Ok.ensures.ok

pub returns-in-Ok-cut-clause-reads : goal.returns-in-Ok-cut-clause-reads
returns-in-Ok-cut-clause-reads g c = λ other.
    reads-then c.args.pid c.args.state.now c.args.state.now c.read.new.state c.args.list (16 * c.args.count) c.in-Ok.bytes (reads-itself c.args.pid c.args.state.now c.requires.sound c.requires.lives) c.in-Ok.ensures.ok

pub returns-in_default-clause-refused : goal.returns-in_default-clause-refused
returns-in_default-clause-refused g c = λ e is next.
    let few = c.if-count-gt-MOST_PIECES.false in
    let past = c.in_default.ensures.none in
    let told_is : told c.as_slice-2.result.now ≡ pieces_of c.args.count c.in-Ok.bytes = ap told c.as_slice-2.ensures.value ∙ c.in-Ok-decode.ensures ∙ ap (pieces_of c.args.count) c.as_slice.ensures in
    let sums : 9223372036854775807 < asked (pieces_of c.args.count c.in-Ok.bytes) = subst (λ ps. 9223372036854775807 < asked ps) told_is past in
    subst (λ e. HasComeTo c.args.pid (with_list c.args.list c.args.count next) c.args.state.now (refuse e) c.read.new.state) (same-refused EINVAL e is)
    (sums-past c.args.pid c.args.state.now c.read.new.state c.args.list c.args.count next (omega arith) c.in-Ok.bytes c.requires.lives c.in-Ok.ensures.ok sums)

pub returns-in-Ok-cut-clause-ok : goal.returns-in-Ok-cut-clause-ok
returns-in-Ok-cut-clause-ok g c = λ next.
    let few = c.if-count-gt-MOST_PIECES.false in
    let told_is : told c.as_slice-2.result.now ≡ pieces_of c.args.count c.in-Ok.bytes = ap told c.as_slice-2.ensures.value ∙ c.in-Ok-decode.ensures ∙ ap (pieces_of c.args.count) c.as_slice.ensures in
    let all : c.in-Some.asked ≡ asked (pieces_of c.args.count c.in-Ok.bytes) = c.in-Some.ensures.some.0 ∙ ap asked told_is in
    let most = c.in-Some.ensures.some.1 in
    let fits : asked (pieces_of c.args.count c.in-Ok.bytes) ≤ 9223372036854775807 = omega arith in
    sums-within c.args.pid c.args.state.now c.read.new.state c.args.list c.args.count next (omega arith) c.in-Ok.bytes c.requires.lives c.in-Ok.ensures.ok (told c.in-Ok-cut.pieces.items) fits
    (c.in-Ok-cut.ensures ∙ ap (λ (ps : List Piece). cut_to 2147479552 (told ps)) (c.as_slice-3.ensures.value ∙ sym c.as_slice-2.ensures.value) ∙ ap (cut_to 2147479552) told_is)

pub returns-in-Ok-cut-clause-counted : goal.returns-in-Ok-cut-clause-counted
returns-in-Ok-cut-clause-counted g c =
    let same : told c.as_slice-3.result.now ≡ told c.as_slice-2.result.now = ap told (c.as_slice-3.ensures.value ∙ sym c.as_slice-2.ensures.value) in
    let own = c.min.ensures in
    let all = c.in-Some.ensures.some.0 in
    let cut = ap asked c.in-Ok-cut.ensures ∙ asked-cut 2147479552 (told c.as_slice-3.result.now) ∙ ap (λ ps. min 2147479552 (asked ps)) same in
    (omega arith, omega arith)
