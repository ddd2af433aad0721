-- What a first process computes on.
use Rattle.std.specs.FinMap as map
use Rattle.std.specs.Prelude.{◌≤◌}
use Rattle.kr_first.specs.rv_mem.Pages.{IsPlaced, IsWhole}
use Rattle.law_edits.specs.kr_model.MemoryRows.{process_pages}
use Rattle.law_edits.specs.kr_model.State.{Image}

-- its memory is one that a process can have
pub record IsImage (image : Image) : Type 0 where
  pub whole : IsWhole image.memory.pages
  pub paged : IsPlaced image.memory.pages
  pub pages : map.len image.memory.pages ≤ process_pages
