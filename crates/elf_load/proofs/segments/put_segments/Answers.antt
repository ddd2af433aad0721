use Rattle.std.proofs.Common.{◌≡◌, ◌+◌, ◌-◌, sym, ap, ◌∙◌, arith, rules}
use Rattle.rv_mem.specs.Memory.{Memory, page_count}
use Rattle.elf_load.specs.Image.{with_segments}
use Rattle.elf_load.proofs.PlacedLemmas.{segments-exceed, with_segments-at, with_segments-end, memory-with_pages}
use Rattle.std.proofs.Common.{drop}
use Rattle.elf_load.proofs.segments.put_segments.Goals as goal

pub returns-in_err-put_segment-clause-full : goal.returns-in_err-put_segment-clause-full
returns-in_err-put_segment-clause-full g c =
    let r = c.from_residual.ensures in
    let others : c.loop-s.room - page_count c.loop-s.mem.pages ≡ c.args.room.now - page_count c.args.mem.now.pages = omega arith in
    let passes = λ (e : _). segments-exceed c.args.file.now c.args.mem.now.pages c.loop-s.mem.pages c.args.segments.now c.loop-s.s-index _ _ _ c.loop-s-test.true others c.loop-s.invariant.pages (c.in_err-put_segment.ensures.full e) in
    search (rules, passes)

pub loop-s-preserved : goal.loop-s-preserved
loop-s-preserved g c =
    let put = c.in_ok-put_segment.ensures.ok in
    record {
      counted = omega (arith, c.in_ok-put_segment.ensures.room);
      others = omega (arith, c.in_ok-put_segment.ensures.room);
      pages = ap (λ (m : Memory). with_segments c.args.file.now m.pages (drop (c.loop-s.s-index + 1) c.args.segments.now)) put
          ∙ sym (with_segments-at c.args.file.now c.loop-s.mem.pages c.args.segments.now c.loop-s.s-index _ c.loop-s-test.true)
          ∙ c.loop-s.invariant.pages;
      read = ap (λ (m : Memory). m.read_marked) put ∙ c.loop-s.invariant.read;
    }

pub returns-clause-ok : goal.returns-clause-ok
returns-clause-ok g c =
    memory-with_pages c.loop-s.mem c.args.mem.now _
    (sym (with_segments-end c.args.file.now c.loop-s.mem.pages c.args.segments.now c.loop-s.s-index c.loop-s-test.false) ∙ c.loop-s.invariant.pages)
    c.loop-s.invariant.read
