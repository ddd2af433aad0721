use Rattle.std.proofs.Common.{◌≡◌, ◌+◌, ◌-◌, ◌*◌, ◌++◌, ◌∷◌, List, [], drop, take, sym, ap, ◌∙◌}
use Rattle.std.specs.Int.{from_le_bytes, w64}
use Rattle.kr_seen.specs.kr_model.Pieces.{pieces_of}
use Rattle.std.proofs.lemmas.List.{drop-drop}
use Rattle.kr_transfer.specs.Moving.{told}
use Rattle.kr_transfer.proofs.ListLemmas.{more-told, next-entry}
use Rattle.kr_transfer.specs.declared.pieces.Piece.{Piece}
use Rattle.kr_transfer.proofs.lists.decode.Goals as goal

pub loop-i-preserved : goal.loop-i-preserved
loop-i-preserved c =
    let i = c.loop-i.i in
    let bytes = c.args.bytes.now in
    let p : Piece = record { at = c.number_at-at.result; count = c.number_at-count.result } in
    let rest = pieces_of (c.args.count - (i + 1)) (drop (16 * (i + 1)) bytes) in
    let pushed : c.push.new.self.items ≡ c.loop-i.pieces.items ++ p ∷ [] = c.in_ok-push.ensures.items in
    let first : c.number_at-at.result ≡ from_le_bytes w64 (take 8 (drop (16 * i) bytes)) = c.number_at-at.ensures in
    let second : c.number_at-count.result ≡ from_le_bytes w64 (take 8 (drop 8 (drop (16 * i) bytes))) = c.number_at-count.ensures ∙ ap (λ bs. from_le_bytes w64 (take 8 bs)) (sym (drop-drop 8 (16 * i) bytes)) in
    ap (λ (ps : List Piece). told ps ++ rest) pushed ∙ more-told c.loop-i.pieces.items p rest
    ∙ ap (λ n. told c.loop-i.pieces.items ++ (record { at = n; count = c.number_at-count.result } ∷ rest)) first
    ∙ ap (λ n. told c.loop-i.pieces.items ++ (record { at = from_le_bytes w64 (take 8 (drop (16 * i) bytes)); count = n } ∷ rest)) second
    ∙ ap (λ ps. told c.loop-i.pieces.items ++ ps) (sym (next-entry c.args.count i bytes c.loop-i-test.true))
    ∙ c.loop-i.invariant
