use Rattle.std.proofs.Common.{◌≡◌, ℕ, ◌+◌, ◌<◌, ◌≤◌, ◌++◌, true, false, List, [], ◌∷◌, length, take, set, slice_index_or, ap, arith, length-append, length-take-le}
use Rattle.elf_read.specs.Plans.{segment_of, segments_of}
use Rattle.elf_read.specs.Rules.{is_segment, is_misplaced}
use Rattle.elf_read.specs.declared.headers.ProgramHeader.{ProgramHeader}
use Rattle.elf_read.specs.declared.plan.Segment.{Segment}
use Rattle.elf_read.proofs.Positions.{position-None}
use Rattle.elf_read.proofs.SegmentLists.{segments_of-more, segments_of-same, length-segments_of, filled_one_more}
use Rattle.elf_read.proofs.Soundness.{below_limit}
use Rattle.elf_read.proofs.plan.gather.Invariants.{GatheredSoFar}
use Rattle.elf_read.proofs.plan.gather.Goals as goal
use Rattle.elf_read.proofs.plan.gather.Goals.{then-is_segment, else-is_segment}

abbrev none : ProgramHeader
none = record { p_type = 0; p_flags = 0; p_offset = 0; p_vaddr = 0; p_filesz = 0; p_memsz = 0 }

pub segment-requires : goal.segment-requires
segment-requires c =
    let h : ProgramHeader = slice_index_or c.args.headers.now c.loop-header.header-index none in
    let segment : is_segment h ≡ true = cc in
    let placed : is_misplaced c.args.moved h ≡ false = position-None (is_misplaced c.args.moved) c.args.headers.now c.requires.placed c.loop-header.header-index none (omega arith) in
    omega (arith, below_limit c.args.moved h segment placed)

pub bounds-segments-count : goal.bounds-segments-count
bounds-segments-count c = omega (arith, length-segments_of c.args.moved (take c.loop-header.header-index c.args.headers.now), length-take-le c.loop-header.header-index c.args.headers.now (omega arith))

gathered_one_more : (moved : ℕ) (headers : List ProgramHeader) (i : ℕ) (room segments : List Segment) (count : ℕ) (d : ProgramHeader) (s : Segment) → GatheredSoFar moved headers i room segments count → length headers ≤ length room → i < length headers → is_segment (slice_index_or headers i d) ≡ true → s ≡ segment_of moved (slice_index_or headers i d) → GatheredSoFar moved headers (i + 1) room (set segments count s) (count + 1)
gathered_one_more moved headers i room segments count d s so_far wide within segment is =
    let done : List Segment = segments_of moved (take i headers) in
    let more : segments_of moved (take (i + 1) headers) ≡ done ++ s ∷ [] = rw is (segments_of-more moved headers i d within segment) in
    let few : length done < length room = omega (arith, length-segments_of moved (take i headers), length-take-le i headers (omega arith)) in
    record {
      counted = rw (more, length-append) (ap (λ n. n + 1) so_far.counted);
      gathered = rw (more, so_far.counted, so_far.gathered) (filled_one_more done room s few);
    }

gathered_same : (moved : ℕ) (headers : List ProgramHeader) (i : ℕ) (room segments : List Segment) (count : ℕ) (d : ProgramHeader) → GatheredSoFar moved headers i room segments count → i < length headers → is_segment (slice_index_or headers i d) ≡ false → GatheredSoFar moved headers (i + 1) room segments count
gathered_same moved headers i room segments count d so_far within other =
    let same : segments_of moved (take (i + 1) headers) ≡ segments_of moved (take i headers) = segments_of-same moved headers i d within other in
    record {
      counted = rw same so_far.counted;
      gathered = rw same so_far.gathered;
    }

pub loop-header-preserved : goal.loop-header-preserved
loop-header-preserved c =
    let h : ProgramHeader = slice_index_or c.args.headers.now c.loop-header.header-index none in
    elim c.if-is_segment.branch [
      | then-is_segment w ↦
          let segment : is_segment h ≡ true = cc in
          rw (w.segments-is, w.count-is) (gathered_one_more c.args.moved c.args.headers.now c.loop-header.header-index c.args.segments.now c.loop-header.segments c.loop-header.count none w.segment.result c.loop-header.invariant c.requires.room (omega arith) segment w.segment.ensures)
      | else-is_segment w ↦
          let other : is_segment h ≡ false = cc in
          rw (w.segments-is, w.count-is) (gathered_same c.args.moved c.args.headers.now c.loop-header.header-index c.args.segments.now c.loop-header.segments c.loop-header.count none c.loop-header.invariant (omega arith) other)
    ]
