use Rattle.std.proofs.Common.{◌≡◌, ◌+◌, ◌*◌, ◌%◌, ◌++◌, ℕ, List, length, take, drop, replicate, arith, refl, ap}
use Rattle.std.proofs.lemmas.Grind.{common_steps}
use Rattle.std.proofs.lemmas.List.{take_at, drop-replicate}
use Rattle.elf_read.specs.Plans.{segments_of, no_segment, address_in, plan_with}
use Rattle.elf_read.specs.Rules.{displacement, most_headers}
use Rattle.elf_read.specs.declared.headers.FileHeader.{FileHeader}
use Rattle.elf_read.specs.declared.plan.Segment.{Segment}
use Rattle.elf_read.specs.declared.plan.Plan.{Plan}
use Rattle.elf_read.proofs.Soundness.{ends_in_range}
use Rattle.elf_read.proofs.plan.Plan.new.Goals as goal

-- the part that is filled
front_part : (filled room segments : List Segment) (count : ℕ) → segments ≡ filled ++ room → count ≡ length filled → take count segments ≡ filled
front_part filled room segments count gathered counted = rw (counted, gathered) (take_at filled room (length filled) refl)

pub address_in-requires : goal.address_in-requires
address_in-requires c =
    let moved : ℕ = c.displacement-moved.result in
    let segments : List Segment = segments_of moved c.args.headers.now in
    let front : take c.gather-count.result c.gather-count.new.segments ≡ segments = front_part segments _ _ _ c.gather-count.ensures.gathered c.gather-count.ensures.count in
    let placed = rw (← c.displacement-moved.ensures) at c.requires.placed in
    rw front (ends_in_range moved c.args.headers.now c.requires.sized placed)

-- the plan is put together of its parts
made : (header : FileHeader) (wanted filled room segments : List Segment) (moved count phdr size : ℕ) (rest : Segment) → moved ≡ displacement header → filled ≡ wanted → segments ≡ filled ++ drop (length filled) room → room ≡ replicate size rest → size ≡ most_headers → rest ≡ no_segment → count ≡ length filled → phdr ≡ address_in header.e_phoff (56 * header.e_phnum) filled → ◌≡◌ {A = Plan} (record { entry = (header.e_entry + moved) % 18446744073709551616; phdr = phdr; phnum = header.e_phnum; count = count; segments = segments }) (plan_with header wanted)
made header wanted filled room segments moved count phdr size rest is_moved as_wanted gathered empty whole none counted address =
    rw (is_moved, gathered, empty, none, counted, address, as_wanted, drop-replicate, whole) refl

pub returns : goal.returns
returns c =
    let moved : ℕ = c.displacement-moved.result in
    let segments : List Segment = segments_of moved c.args.headers.now in
    let front : take c.gather-count.result c.gather-count.new.segments ≡ segments = front_part segments _ _ _ c.gather-count.ensures.gathered c.gather-count.ensures.count in
    let none : c.default-segments.result ≡ no_segment = grind (arith, common_steps, c.default-segments.ensures) in
    let address : c.address_in.result ≡ address_in c.args.header.now.e_phoff (56 * c.args.header.now.e_phnum) segments = rw (← front, ← c.from.ensures) c.address_in.ensures in
    made c.args.header.now _ segments _ c.gather-count.new.segments moved c.gather-count.result c.address_in.result 64 c.default-segments.result c.displacement-moved.ensures (ap (λ (m : ℕ). segments_of m c.args.headers.now) c.displacement-moved.ensures) c.gather-count.ensures.gathered refl refl none c.gather-count.ensures.count address
