-- Memories that are equal but for marked bytes stay so when pages change, and so do those of a child.
use Rattle.std.proofs.Common.{ℕ, Option, Some, None}
use Rattle.std.specs.Int.{to_le_bytes, w32}
use Rattle.kr_calls.specs.rv_mem.Pages.{Pages}
use Rattle.kr_calls.specs.rv_mem.Actions.{AreEqualUnmarked}
use Rattle.kr_calls.proofs.rv_mem.AlikeLemmas.{stay_alike}
use Rattle.kr_model.specs.Change.{PageChange, MapPages, UnmapPages, ProtectPages}
use Rattle.kr_model.specs.Applied.{pages_after, told}

pub pages_alike : (c : PageChange) (m w : Pages) → AreEqualUnmarked m w → AreEqualUnmarked (pages_after c m) (pages_after c w)
pages_alike (MapPages first count r) m w same = (stay_alike m w same).maps first count r
pages_alike (UnmapPages first count) m w same = (stay_alike m w same).unmaps first count
pages_alike (ProtectPages first count r) m w same = (stay_alike m w same).protects first count r

pub told_alike : (pid : ℕ) (at : Option ℕ) (m w : Pages) → AreEqualUnmarked m w → AreEqualUnmarked (told pid at m) (told pid at w)
told_alike pid None m w same = same
told_alike pid (Some at) m w same = (stay_alike m w same).writes at (to_le_bytes w32 pid)
