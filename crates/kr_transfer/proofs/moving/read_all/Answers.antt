use Rattle.std.proofs.Common.{◌≡◌, ◌∷◌, ◌+◌, ◌-◌, ◌++◌, length, sym, ap, ◌∙◌, arith, drop, get_or}
use Rattle.std.proofs.lemmas.Bool.{and_parts}
use Rattle.std.proofs.lemmas.List.{length-append}
use Rattle.kr_seen.specs.kr_model.Pieces.{asked, cut_to, read_all}
use Rattle.kr_seen.specs.kr_ops.Meaning.{meaning}
use Rattle.kr_seen.specs.PerformedRows.{memory_of}
use Rattle.kr_seen.proofs.UsingLemmas.{goes-on}
use Rattle.kr_transfer.specs.Moving.{all_allowed, told}
use Rattle.kr_transfer.proofs.MovingLemmas.{comes-itself, reads-itself, reads-then, read-one, allowed-read}
use Rattle.kr_transfer.proofs.PieceLemmas.{asked-cons, next-cut}
use Rattle.kr_seen.specs.rv_mem.Pages.{allows_all}
use Rattle.kr_seen.specs.rv_mem.declared.rights.Use.TheVariants.{Read}
use Rattle.kr_seen.proofs.rv_mem.PagesLemmas.{length-bytes_from}
use Rattle.kr_transfer.specs.declared.pieces.Piece.{Piece}
use Rattle.kr_transfer.proofs.moving.read_all.Goals as goal

pub loop-piece-init : goal.loop-piece-init
loop-piece-init g c = record {
  reads = reads-itself c.args.pid c.args.state.now c.requires.caller.sound c.requires.caller.lives;
  allowed = c.requires.allowed;
  comes = λ next.
      let pieces = cut_to c.args.n (told c.args.pieces.now) in
      goes-on c.args.pid (read_all pieces next) c.args.state.now c.args.state.now (read_all pieces next) _
      (λ j. read_all pieces (λ others. next (sym c.new-bytes.ensures j ++ others))) (comes-itself c.args.pid (read_all pieces next) c.args.state.now);
  count = ap (λ bytes. length bytes + asked (cut_to c.args.n (told c.args.pieces.now))) c.new-bytes.ensures ∙ omega arith;
}

pub loop-piece-preserved : goal.loop-piece-preserved
loop-piece-preserved g c =
    let none : Piece = record { at = 0; count = 0 } in
    let i = c.loop-piece.piece-index in
    let inv = c.loop-piece.invariant in
    let now = c.loop-piece.state in
    let count = c.min-count.result in
    let p : Piece = get_or c.args.pieces.now i none in
    let pieces = cut_to c.loop-piece.left (told (drop i c.args.pieces.now)) in
    let rest = cut_to (c.loop-piece.left - count) (told (drop (i + 1) c.args.pieces.now)) in
    let next_one : pieces ≡ record { at = p.at; count = count } ∷ rest = next-cut c.args.pieces.now i none c.loop-piece.left count c.min-count.ensures c.loop-piece-test.true in
    let read = c.in-Ok.ensures.ok in
    let added : c.append.new.self ≡ c.loop-piece.bytes ++ c.in-Ok.part = c.in_ok-append-in-Ok.ensures.ok ∙ ap (λ b. c.loop-piece.bytes ++ b) c.as_slice.ensures in
    record {
      reads = reads-then c.args.pid c.args.state.now now c.read.new.state p.at count c.in-Ok.part inv.reads read;
      allowed = allowed-read c.args.pid now c.read.new.state p.at count c.in-Ok.part Read rest inv.reads.leaves.lives read
          (and_parts (allows_all (memory_of c.args.pid (meaning now)).pages p.at count Read) (all_allowed (memory_of c.args.pid (meaning now)).pages Read rest)
          (sym (ap (all_allowed (memory_of c.args.pid (meaning now)).pages Read) next_one) ∙ inv.allowed)).1;
      comes = λ next.
          goes-on c.args.pid (read_all (cut_to c.args.n (told c.args.pieces.now)) next) c.args.state.now c.read.new.state
          (read_all rest (λ others. next ((c.loop-piece.bytes ++ c.in-Ok.part) ++ others))) _ (λ j. read_all rest (λ others. next (sym added j ++ others)))
          (read-one c.args.pid (read_all (cut_to c.args.n (told c.args.pieces.now)) next) c.args.state.now now c.read.new.state pieces rest (record { at = p.at; count = count }) next c.loop-piece.bytes c.in-Ok.part
          next_one inv.reads.leaves.lives read (inv.comes next));
      count =
          let long = ap length added in
          let both = length-append c.loop-piece.bytes c.in-Ok.part in
          let own : length c.in-Ok.part ≡ count = ap length read.bytes_are ∙ length-bytes_from (memory_of c.args.pid (meaning now)).pages p.at count in
          let more : asked pieces ≡ count + asked rest = ap asked next_one ∙ asked-cons (record { at = p.at; count = count }) rest in
          let before = inv.count in
          omega arith;
    }
