-- What a tracer puts on the shelf of a script.
use Rattle.std.specs.Prelude.{◌≡◌, ◌≢◌, ℕ, ◌-◌, ◌*◌, ◌<◌, ◌≤◌, false, List, ◌++◌, drop, length, Ok}
use Rattle.std.specs.List.{All}
use Rattle.kr_first.specs.rv_mem.Actions.{carried_out}
use Rattle.kr_first.specs.kr_calls.Expansion.{is_too_big}
use Rattle.law_edits.specs.pt_canon.TextWalk.{TextSurroundings}
use Rattle.law_edits.specs.pt_args.Edits.{longest_path}
use Rattle.law_edits.specs.pt_args.Laws.{IsPathText}
use Rattle.law_edits.specs.pt_args.Shelving.{shelf_size}
use Rattle.law_edits.specs.pt_faker.Reading.{addresses_behind}
use Rattle.law_edits.specs.pt_script.Expanding.{expanded_at}
use Rattle.law_edits.specs.pt_script.declared.expansion.Expanded.{Expanded}
use Rattle.law_edits.specs.pt_faker.Stopping.{Stopped, memory_at, with_memory}
use Rattle.law_edits.specs.pt_tracer.Planning.{led_in, script_plan, stack_at}
use Rattle.law_edits.specs.pt_tracer.ScriptEdit.{put_texts, script_room, shelved_script}

-- of a path and a host text that are no longer than paths may be, with an address for each argument but the first
abbrev pub ScriptsHaveRoom : Type 0
ScriptsHaveRoom =
    (texts : TextSurroundings) (pid env_bytes : ℕ) (path : List ℕ) (args : List (List ℕ)) (e : Expanded) (addresses : List ℕ)
    → IsPathText path → length e.host ≤ longest_path → expanded_at texts pid env_bytes path args ≡ Ok e → e.scripts ≢ 0 → length addresses ≡ 8 * (length args - 1)
    → script_room e.host (put_texts (length args - 1) e.args) addresses < shelf_size

-- behind the texts that were put there stand the arguments but the first
abbrev pub ScriptTextsArePathTexts : Type 0
ScriptTextsArePathTexts =
    (texts : TextSurroundings) (pid env_bytes : ℕ) (path : List ℕ) (args : List (List ℕ)) (e : Expanded) → IsPathText path → expanded_at texts pid env_bytes path args ≡ Ok e → e.scripts ≢ 0
    → All IsPathText (put_texts (length args - 1) e.args) × (e.args ≡ put_texts (length args - 1) e.args ++ drop 1 args)

-- the new arguments are within the limits of a program's, those of its environment counted
abbrev pub ScriptsKeepTheLimits : Type 0
ScriptsKeepTheLimits =
    (texts : TextSurroundings) (pid env_bytes : ℕ) (path : List ℕ) (args : List (List ℕ)) (e : Expanded) → IsPathText path → expanded_at texts pid env_bytes path args ≡ Ok e → e.scripts ≢ 0
    → is_too_big env_bytes e.args ≡ false

-- the plan of a script is no error but that of addresses that can't be read
abbrev pub ScriptsAreShelved : Type 0
ScriptsAreShelved =
    (texts : TextSurroundings) (pid env_bytes at : ℕ) (path : List ℕ) (args : List (List ℕ)) (e : Expanded) (t : Stopped) (addresses : List ℕ)
    → IsPathText path → length e.host ≤ longest_path → expanded_at texts pid env_bytes path args ≡ Ok e → e.scripts ≢ 0
    → (carried_out (addresses_behind at (length args - 1)) (memory_at t)).reply ≡ Ok addresses
    → script_plan t at (length args - 1) e
    ≡ (
      record { edit = shelved_script (stack_at t) e.host (put_texts (length args - 1) e.args) addresses; led = led_in e.index },
      with_memory (carried_out (addresses_behind at (length args - 1)) (memory_at t)).memory t,
    )
