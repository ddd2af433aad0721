use Rattle.std.proofs.Common.{◌≡◌, ◌+◌, ◌*◌, ◌++◌, ◌∙◌, ℕ, List, length, ap, arith}
use Rattle.std.proofs.Common.{length-append}
use Rattle.std.proofs.SliceLists.{length_more}
use Rattle.pt_results.specs.pt_args.Shelving.{address_below, with_zero}
use Rattle.pt_results.specs.pt_args.declared.shelf.Shelf.{Shelf}
use Rattle.pt_tracer.specs.ScriptEdit.{addresses_of, with_texts}
use Rattle.pt_tracer.proofs.ShelfLemmas.{addresses-long, near, texts-top}
use Rattle.pt_tracer.proofs.script.shelved_script.Goals as goal

pub put-requires : goal.put-requires
put-requires c =
    let first = c.put_text.new.self in
    let texts = c.args.texts.now in
    let host : length (with_zero c.args.host) ≡ length c.args.host + 1 = length_more c.args.host 0 in
    let start = near c.args.sp (length (with_zero c.args.host)) in
    let first_top : first.top ≡ address_below c.args.sp (length (with_zero c.args.host)) = ap (λ (s : Shelf). s.top) c.in_ok-path.ensures.ok ∙ ap (λ (s : Shelf). address_below s.top (length (with_zero c.args.host))) c.below-shelf.ensures in
    let put = texts-top first texts in
    let put_top : c.put_all.new.shelf.top ≡ (with_texts first texts).top = ap (λ (s : Shelf). s.top) c.in_ok-put_all.ensures.shelf in
    let list : length c.put_all.new.list ≡ 8 * length texts = ap length c.in_ok-put_all.ensures.list ∙ ap (λ (l : List ℕ). length (l ++ addresses_of first.top texts)) c.new-list.ensures ∙ addresses-long first.top texts in
    let more : length c.append.new.self ≡ length c.put_all.new.list + length c.args.addresses.now = ap length c.in_ok-append.ensures.ok ∙ length-append c.put_all.new.list c.args.addresses.now in
    let all : length c.append-2.new.self ≡ length c.append.new.self + length c.to_le_bytes.result = ap length c.in_ok-append-2.ensures.ok ∙ length-append c.append.new.self c.to_le_bytes.result in
    let end : length c.to_le_bytes.result ≡ 8 = ap length c.to_le_bytes.ensures in
    omega (arith, c.requires, host, start, first_top, put, put_top, list, more, all, end)
