use Rattle.std.proofs.Common.{◌≡◌, ◌-◌, ◌+◌, ◌/◌, ◌*◌, ap, ◌∙◌, arith, rules, refl, take, drop, length, List, ℕ}
use Rattle.elf_load.specs.Image.{end_page, first_page, file_bytes}
use Rattle.rv_mem.specs.Memory.{Memory}
use Rattle.rv_mem.specs.Pages.{allows_all, has_pages, written}
use Rattle.rv_mem.specs.declared.rights.Use.TheVariants.{Write}
use Rattle.std.proofs.lemmas.List.{length-take}
use Rattle.elf_load.proofs.PlacedLemmas.{segment-exceeds, segment-put, allowed-mapped, there-written}
use Rattle.elf_load.proofs.segments.put_segment.Goals as goal

pub returns-in_err-map-clause-full : goal.returns-in_err-map-clause-full
returns-in_err-map-clause-full g c =
    let s = c.args.s.now in
    let is_first : s.at / 4096 * 4096 / 4096 ≡ first_page s = omega arith in
    let is_count : c.end_page.result - s.at / 4096 ≡ end_page s - first_page s = ap (λ e. e - s.at / 4096) c.end_page.ensures in
    let r = c.from_residual.ensures in
    let passes = λ (e : _). segment-exceeds c.args.file.now c.args.mem.now.pages s _ _ c.args.room.now _ c.requires.counted is_first is_count (c.in_err-map.ensures.full.0 e) in
    search (rules, passes)

pub write_there-requires : goal.write_there-requires
write_there-requires g c =
    let s = c.args.s.now in
    let bytes : List ℕ = take (s.offset + s.file - s.offset) (drop s.offset c.args.file.now) in
    let size = length-take (s.offset + s.file - s.offset) (drop s.offset c.args.file.now) in
    let end = c.end_page.ensures in (
      omega arith,
      ap (λ (m : Memory). allows_all m.pages s.at (length bytes) Write) c.in_ok-map.ensures.ok
          ∙ allowed-mapped c.args.mem.now.pages (s.at / 4096 * 4096 / 4096) (c.end_page.result - s.at / 4096) _ s.at (length bytes) Write refl (omega arith) (omega arith),
    )

pub protect_there-requires : goal.protect_there-requires
protect_there-requires g c =
    let s = c.args.s.now in
    let first : ℕ = s.at / 4096 * 4096 / 4096 in
    let count : ℕ = c.end_page.result - s.at / 4096 in
    let bytes : List ℕ = take (s.offset + s.file - s.offset) (drop s.offset c.args.file.now) in
    let there =
    ap (λ (m : Memory). has_pages m.pages first count) c.in_ok-write_there.ensures.ok
    ∙ ap (λ (m : Memory). has_pages (written m.pages s.at bytes) first count) c.in_ok-map.ensures.ok
    ∙ there-written c.args.mem.now.pages first count _ s.at bytes in
    (omega arith, (omega arith, (omega (arith, c.end_page.ensures), there)))

pub returns-clause-ok : goal.returns-clause-ok
returns-clause-ok g c =
    let s = c.args.s.now in
    let is_first : s.at / 4096 * 4096 / 4096 ≡ first_page s = omega arith in
    let is_count : c.end_page.result - s.at / 4096 ≡ end_page s - first_page s = ap (λ e. e - s.at / 4096) c.end_page.ensures in
    let size : s.offset + s.file - s.offset ≡ s.file = omega arith in
    let is_bytes : take (s.offset + s.file - s.offset) (drop s.offset c.args.file.now) ≡ file_bytes c.args.file.now s = ap (λ n. take n (drop s.offset c.args.file.now)) size in
    segment-put c.args.file.now c.args.mem.now c.map.new.self c.write_there.new.mem c.protect_there.new.mem s _ _ _ _ _ is_first is_count c.rights_in.ensures is_bytes
    c.in_ok-map.ensures.ok
    c.in_ok-write_there.ensures.ok
    c.protect_there.ensures.pages
