use Rattle.std.proofs.Common.{◌≡◌, ◌∷◌, ◌+◌, ◌-◌, ◌≤◌, length, sym, ap, ◌∙◌, arith, drop, take, get_or}
use Rattle.std.proofs.lemmas.Bool.{and_parts}
use Rattle.kr_seen.specs.kr_model.Pieces.{cut_to, laid_into, write_all}
use Rattle.kr_seen.specs.kr_ops.Meaning.{meaning}
use Rattle.kr_seen.specs.PerformedRows.{memory_of}
use Rattle.kr_seen.proofs.UsingLemmas.{goes-on}
use Rattle.kr_transfer.specs.Moving.{all_allowed, told}
use Rattle.kr_transfer.proofs.MovingLemmas.{comes-itself, leaves-itself, leaves-then, write-next, allowed-after}
use Rattle.kr_transfer.proofs.PieceLemmas.{next-cut}
use Rattle.kr_seen.specs.rv_mem.Pages.{allows_all}
use Rattle.kr_seen.specs.rv_mem.declared.rights.Use.TheVariants.{Write}
use Rattle.kr_transfer.specs.declared.pieces.Piece.{Piece}
use Rattle.kr_transfer.proofs.moving.write_all.Goals as goal

pub loop-piece-init : goal.loop-piece-init
loop-piece-init g c =
    let all : length c.args.bytes.now ≡ length c.args.bytes.now - 0 = omega arith in
    let bytes = c.args.bytes.now in
    let pieces = told c.args.pieces.now in
    record {
      within = omega arith;
      leaves = leaves-itself c.args.pid c.args.state.now c.requires.caller.sound c.requires.caller.lives;
      allowed = ap (λ n. all_allowed (memory_of c.args.pid (meaning c.args.state.now)).pages Write (cut_to n pieces)) (sym all) ∙ c.requires.allowed;
      comes = λ next.
          goes-on c.args.pid (write_all (laid_into (cut_to (length bytes) pieces) bytes) next) c.args.state.now c.args.state.now (write_all (laid_into (cut_to (length bytes) pieces) bytes) next)
          (write_all (laid_into (cut_to (length bytes - 0) pieces) bytes) next) (ap (λ n. write_all (laid_into (cut_to n pieces) bytes) next) all)
          (comes-itself c.args.pid (write_all (laid_into (cut_to (length bytes) pieces) bytes) next) c.args.state.now);
    }

pub loop-piece-preserved : goal.loop-piece-preserved
loop-piece-preserved g c =
    let none : Piece = record { at = 0; count = 0 } in
    let i = c.loop-piece.piece-index in
    let inv = c.loop-piece.invariant in
    let now = c.loop-piece.state in
    let count = c.min-count.result in
    let bytes = c.args.bytes.now in
    let past = c.loop-piece.done in
    let p : Piece = get_or c.args.pieces.now i none in
    let pieces = cut_to (length bytes - past) (told (drop i c.args.pieces.now)) in
    let later = cut_to (length bytes - past - count) (told (drop (i + 1) c.args.pieces.now)) in
    let rest = cut_to (length bytes - (past + count)) (told (drop (i + 1) c.args.pieces.now)) in
    let fewer : length bytes - past - count ≡ length bytes - (past + count) = omega arith in
    let next_one : pieces ≡ record { at = p.at; count = count } ∷ rest =
    next-cut c.args.pieces.now i none (length bytes - past) count c.min-count.ensures c.loop-piece-test.true
    ∙ ap (λ n. record { at = p.at; count = count } ∷ cut_to n (told (drop (i + 1) c.args.pieces.now))) fewer in
    let part = take (past + count - past) (drop past bytes) in
    let own : past + count - past ≡ count = omega arith in
    let wrote = c.in-Ok.ensures.ok in
    let counted = c.min-count.ensures in
    let before : past ≤ length bytes = inv.within in
    record {
      within = omega arith;
      leaves = leaves-then c.args.pid c.args.state.now now c.write.new.state _ inv.leaves wrote.leaves;
      allowed = allowed-after c.args.pid now c.write.new.state p.at part Write rest inv.leaves.lives wrote
          (and_parts (allows_all (memory_of c.args.pid (meaning now)).pages p.at count Write) (all_allowed (memory_of c.args.pid (meaning now)).pages Write rest)
          (sym (ap (all_allowed (memory_of c.args.pid (meaning now)).pages Write) next_one) ∙ inv.allowed)).1;
      comes = λ next.
          write-next c.args.pid (write_all (laid_into (cut_to (length bytes) (told c.args.pieces.now)) bytes) next) c.args.state.now now c.write.new.state pieces rest p.at count next bytes part past
          next_one (ap (λ n. take n (drop past bytes)) own) inv.leaves.lives wrote (inv.comes next);
    }
