-- Changes of pages, on their layout.
use Rattle.std.proofs.Common.{◌≡◌, ℕ, refl, Option, Some, None}
use Rattle.std.specs.Int.{to_le_bytes, w32}
use Rattle.kr_calls.specs.rv_mem.Pages as pages
use Rattle.kr_calls.proofs.rv_mem.LayoutLemmas.{layouts_follow}
use Rattle.kr_model.specs.State.{layout_of}
use Rattle.kr_model.specs.Change.{PageChange, MapPages, UnmapPages, ProtectPages}
use Rattle.kr_model.specs.Applied.{layout_after, pages_after, told}

-- a change of pages does on the layout what it does on the pages
pub layout-changed : (c : PageChange) (m : pages.Pages) → layout_of (pages_after c m) ≡ layout_after c (layout_of m)
layout-changed (MapPages first count r) m = layouts_follow.maps m first count r
layout-changed (UnmapPages first count) m = layouts_follow.unmaps m first count
layout-changed (ProtectPages first count r) m = layouts_follow.protects m first count r

-- a child has its parent's layout
pub layout-told : (pid : ℕ) (at : Option ℕ) (m : pages.Pages) → layout_of (told pid at m) ≡ layout_of m
layout-told pid None m = refl
layout-told pid (Some at) m = layouts_follow.writes m at (to_le_bytes w32 pid)
