use Rattle.std.proofs.Common.{rules}
use Rattle.elf_load.specs.Image.{with_segments}
use Rattle.elf_load.proofs.PlacedLemmas.{exceeds-more, more-with_stack}
use Rattle.elf_load.proofs.segments.put_all.Goals as goal

pub returns-in_err-put_segments-clause-full : goal.returns-in_err-put_segments-clause-full
returns-in_err-put_segments-clause-full g c =
    let r = c.from_residual.ensures in
    let all = with_segments c.args.file.now c.args.mem.now.pages c.args.segments.now in
    let passes = λ (e : _). exceeds-more _ _ _ (more-with_stack all c.args.stack.now.sp c.args.stack.now.bytes) (c.in_err-put_segments.ensures.full e) in
    search (rules, passes)
