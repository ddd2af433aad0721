use Rattle.std.proofs.Common.{◌≡◌, ◌+◌, ◌≤◌, drop}
use Rattle.rv_mem.specs.Memory.{page_count}
use Rattle.elf_load.specs.Image.{with_segments}
use Rattle.elf_load.proofs.segments.put_segments.Given as goal

abbrev pub invariant-loop-s : goal.invariant-loop-s
invariant-loop-s g l = record {
  counted : page_count l.mem.pages ≤ l.room;
  others : l.room + page_count l.fn.mem.pages ≡ l.fn.room + page_count l.mem.pages;
  pages : with_segments l.file l.mem.pages (drop l.s-index l.segments) ≡ with_segments l.file l.fn.mem.pages l.segments;
  read : l.mem.read_marked ≡ l.fn.mem.read_marked;
}
