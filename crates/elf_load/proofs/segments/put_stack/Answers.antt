use Rattle.std.proofs.Common.{sym, ap, ◌∙◌, rules, arith, refl, length}
use Rattle.rv_mem.specs.Pages.{allows_all, written}
use Rattle.rv_mem.specs.Memory.{Memory, with_pages}
use Rattle.rv_mem.specs.declared.rights.Use.TheVariants.{Write}
use Rattle.elf_load.proofs.ListLemmas.{on_ok}
use Rattle.elf_load.proofs.PlacedLemmas.{stack-limits, stack-put, allowed-mapped}
use Rattle.elf_load.proofs.segments.put_stack.Goals as goal

pub returns-in_err-map-clause-full : goal.returns-in_err-map-clause-full
returns-in_err-map-clause-full g c =
    let r = c.from_residual.ensures in
    let limits = stack-limits c.args.mem.now.pages c.args.stack.now.sp c.args.room.now c.args.stack.now.bytes c.requires.counted in
    let passes = λ (e : _). sym limits ∙ c.in_err-map.ensures.full.0 e in
    search (rules, passes)

pub write_there-requires : goal.write_there-requires
write_there-requires g c =
    let size = ap length c.as_slice.ensures in (
      omega arith,
      ap (λ (m : Memory). allows_all m.pages c.args.stack.now.sp (length c.as_slice.result.now) Write) c.in_ok-map.ensures.ok
          ∙ allowed-mapped c.args.mem.now.pages 67108607 256 _ c.args.stack.now.sp (length c.as_slice.result.now) Write refl (omega arith) (omega arith),
    )

pub returns-clause-ok : goal.returns-clause-ok
returns-clause-ok g c =
    on_ok c.write_there.result _ _ (λ wrote.
    stack-put c.args.mem.now c.map.new.self c.write_there.new.mem c.args.stack.now.sp c.args.stack.now.bytes c.in_ok-map.ensures.ok
    (wrote ∙ ap (λ b. with_pages c.map.new.self (written c.map.new.self.pages c.args.stack.now.sp b)) c.as_slice.ensures)) c.write_there.ensures.ok
