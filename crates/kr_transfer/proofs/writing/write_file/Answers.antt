use Rattle.std.proofs.Common.{◌+◌, ◌-◌, ◌<◌, ◌≤◌, lit<, arith, refl, sym, ap, subst, ◌∙◌, length}
use Rattle.kr_seen.specs.pr_base.declared.errno.Errno.TheVariants.{EFBIG}
use Rattle.kr_seen.specs.rv_mem.declared.rights.Use.TheVariants.{Read}
use Rattle.kr_seen.specs.kr_tree.Changes.{file_limit}
use Rattle.kr_seen.specs.kr_model.FileRows.{put_in_file, write_file, write_place}
use Rattle.kr_seen.specs.kr_model.Known.{known}
use Rattle.kr_seen.specs.kr_model.Pieces.{cut_to, read_all}
use Rattle.kr_seen.specs.kr_model.State as model
use Rattle.kr_seen.specs.kr_ops.Meaning.{meaning}
use Rattle.kr_seen.specs.PerformedRows.{memory_of}
use Rattle.kr_seen.specs.Using.{HasComeTo}
use Rattle.kr_seen.proofs.UsingLemmas.{begins}
use Rattle.kr_transfer.specs.Moving.{told}
use Rattle.kr_transfer.proofs.ChannelLemmas.{file-there}
use Rattle.kr_transfer.proofs.MovingLemmas.{comes-then}
use Rattle.kr_transfer.proofs.PieceLemmas.{allowed-cut, asked-cut}
use Rattle.kr_transfer.proofs.ReadingLemmas.{file-open}
use Rattle.kr_transfer.proofs.ViewLemmas.{view-read, view-sound}
use Rattle.kr_transfer.proofs.WritingLemmas.{file-past, file-within, place-is, still-channel, still-open}
use Rattle.kr_transfer.proofs.WrittenLemmas.{tree-read, wrote-refusal, wrote-then}
use Rattle.kr_transfer.proofs.writing.write_file.Goals as goal

pub place_of-at-requires : goal.place_of-at-requires
place_of-at-requires g c =
    let here = c.requires.here in
    (lit< tt, file-there c.args.state.now c.args.pid c.requires.caller.view c.args.channel here.opened here.channel (file-open (known model.image_layout c.args.pid (meaning c.args.state.now)) c.args.channel here.opened here.channel c.requires.file))

pub read_all-requires : goal.read_all-requires
read_all-requires g c =
    (lit< tt, (record { sound = view-sound c.args.state.now c.requires.caller.view; lives = c.requires.caller.lives }, allowed-cut (memory_of c.args.pid (meaning c.args.state.now)).pages Read (16777216 - c.place_of-at.result) (told c.args.pieces.now) c.requires.allowed))

pub put_in_file-requires : goal.put_in_file-requires
put_in_file-requires g c =
    let reads = c.in-Ok.ensures.reads in
    let counted = c.in-Ok.ensures.count ∙ asked-cut (16777216 - c.place_of-at.result) (told c.args.pieces.now) in
    let same = ap length c.as_slice.ensures in
    let all = c.requires.count.asked in
    let some = c.requires.some in
    let below = c.if-at.false in
    let within : c.place_of-at.result < 16777216 = omega arith in
    let moved : 0 < length c.as_slice.result.now = omega arith in
    let limited : c.place_of-at.result + length c.as_slice.result.now ≤ 16777216 = omega arith in (
      lit< tt,
      (
        record { view = view-read c.args.state.now c.requires.caller.view c.read_all.new.state c.args.pid reads; lives = reads.leaves.lives },
        (
          still-open c.args.pid c.args.channel c.args.state.now c.read_all.new.state reads.leaves.known c.requires.here,
          (c.requires.file, (moved, limited)),
        ),
      ),
    )

pub returns-clause-writes : goal.returns-clause-writes
returns-clause-writes g c = λ some o h.
    let k = known model.image_layout c.args.pid (meaning c.args.state.now) in
    let fd = c.args.channel.fd in
    let at = c.place_of-at.result in
    let pieces = told c.args.pieces.now in
    let reads = c.in-Ok.ensures.reads in
    let file = file-open k c.args.channel o h c.requires.file in
    let below = c.if-at.false in
    let within : at < 16777216 = omega arith in
    wrote-then c.args.pid (λ k. write_file k fd o pieces (write_place k o)) (λ k. put_in_file k fd o at c.as_slice.result.now) c.args.state.now c.read_all.new.state c.put_in_file.new.state c.put_in_file.result
    (comes-then c.args.pid _ _ _ c.args.state.now c.args.state.now c.read_all.new.state
    (begins c.args.pid (write_file k fd o pieces (write_place k o)) c.args.state.now (read_all (cut_to (file_limit - at) pieces) (put_in_file k fd o at))
    (ap (write_file k fd o pieces) (place-is c.args.state.now c.args.pid c.requires.caller.view c.args.channel o h file at c.place_of-at.ensures) ∙ file-within c.args.state.now c.args.pid c.requires.caller.view c.args.channel o h file fd at pieces within))
    (subst (λ bytes. HasComeTo c.args.pid (read_all (cut_to (file_limit - at) pieces) (put_in_file k fd o at)) c.args.state.now (put_in_file k fd o at bytes) c.read_all.new.state) (sym c.as_slice.ensures) (c.in-Ok.ensures.comes (put_in_file k fd o at))))
    reads.leaves.known (tree-read c.args.pid c.args.state.now c.read_all.new.state reads) (c.put_in_file.ensures.writes some o (still-channel c.args.pid c.args.channel o c.args.state.now c.read_all.new.state reads.leaves.known h))

pub returns-then-at-clause-writes : goal.returns-then-at-clause-writes
returns-then-at-clause-writes g c = λ some o h.
    let k = known model.image_layout c.args.pid (meaning c.args.state.now) in
    let file = file-open k c.args.channel o h c.requires.file in
    wrote-refusal c.args.pid _ c.args.state.now c.args.state.now c.refused.result c.requires.caller.view.lawful.pids EFBIG
    (ap (write_file k c.args.channel.fd o (told c.args.pieces.now)) (place-is c.args.state.now c.args.pid c.requires.caller.view c.args.channel o h file c.place_of-at.result c.place_of-at.ensures)
    ∙ file-past c.args.state.now c.args.pid c.requires.caller.view c.args.channel o h file c.args.channel.fd c.place_of-at.result (told c.args.pieces.now) c.if-at.true) c.refused.ensures refl
