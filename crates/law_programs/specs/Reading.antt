-- The lists that the plain kernel reads of a script's shelf.
use Rattle.std.specs.Prelude.{◌≡◌, ◌≢◌, ℕ, ◌-◌, ◌<◌, ◌≤◌, true, false, List, length, Ok}
use Rattle.kr_first.specs.rv_mem.Actions.{AreEqualUnmarked, carried_out}
use Rattle.kr_first.specs.rv_mem.Memory.{Memory}
use Rattle.kr_first.specs.rv_mem.Pages.{IsPlaced, IsWhole, allows}
use Rattle.kr_first.specs.rv_mem.declared.rights.Use.TheVariants.{Read}
use Rattle.law_edits.specs.pt_args.Laws.{IsPathText, poked}
use Rattle.law_edits.specs.pt_args.Shelving.{shelf_size}
use Rattle.law_edits.specs.pt_canon.TextWalk.{TextSurroundings}
use Rattle.law_edits.specs.pt_faker.Reading.{addresses_behind}
use Rattle.law_edits.specs.pt_script.Expanding.{expanded_at}
use Rattle.law_edits.specs.pt_script.declared.expansion.Expanded.{Expanded}
use Rattle.law_edits.specs.pt_tracer.ScriptEdit.{put_texts}
use Rattle.kr_first.specs.kr_calls.Expansion.{bytes_with_ends}
use Rattle.kr_first.specs.kr_exec.Lists.{lists_at}
use Rattle.kr_first.specs.kr_exec.declared.lists.Lists.{Lists}
use Rattle.law_programs.specs.Shelves.{script_shelf}

-- a memory from which the kernel with mounts reads both lists, and no marked byte; that of which the tracer reads; and the one that it
-- leaves, with all of the script on the shelf
pub record IsShelved (args env sp : ℕ) (here before behind : Memory) (lists : Lists) (e : Expanded) (kept : List ℕ) : Type 0 where
  pub placed : IsPlaced here.pages
  pub reads : (carried_out (lists_at args env) here).reply ≡ Ok lists
  pub unread : (carried_out (lists_at args env) here).memory.read_marked ≡ false
  pub first : AreEqualUnmarked here.pages before.pages
  pub second : AreEqualUnmarked here.pages behind.pages
  pub addresses : (carried_out (addresses_behind args (length lists.args - 1)) before).reply ≡ Ok kept
  pub whole : IsWhole before.pages
  pub first_placed : IsPlaced before.pages
  pub high : shelf_size ≤ sp
  pub may : (a : ℕ) → sp - shelf_size ≤ a → a < sp → allows before.pages a Read ≡ true
  pub shelf : behind.pages ≡ poked before.pages (script_shelf sp e.host (put_texts (length lists.args - 1) e.args) kept).items

abbrev pub ScriptListsAreRead : Type 0
ScriptListsAreRead =
    (texts : TextSurroundings) (pid args env sp : ℕ) (path : List ℕ) (here before behind : Memory) (lists : Lists) (e : Expanded) (kept : List ℕ) → IsShelved args env sp here before behind lists e kept
    → IsPathText path → IsPathText e.host → expanded_at texts pid (bytes_with_ends lists.env) path lists.args ≡ Ok e → e.scripts ≢ 0
    → (carried_out (lists_at (script_shelf sp e.host (put_texts (length lists.args - 1) e.args) kept).top env) behind).reply ≡ Ok (record { args = e.args; env = lists.env })
