-- Quiet runs: what was told at the first stop of a call holds still as the call is carried out.
use Rattle.std.specs.Prelude.{◌≡◌, ℕ, ◌==◌, Bool, true, false, not, ◌&&◌, List, [], ◌∷◌, if◌then◌else◌}
use Rattle.std.specs.List.{All, filter}
use Rattle.kr_core.specs.kr_turns.kr_view.View.{Row}
use Rattle.kr_core.specs.kr_turns.kr_model.Judged.{HasShape}
use Rattle.kr_core.specs.kr_turns.Breaking.{nothing_reached}
use Rattle.kr_core.specs.kr_turns.PlainCall.{plain_reach}
use Rattle.kr_core.specs.kr_turns.Turn.{calling}
use Rattle.kr_core.specs.kr_turns.kr_stops.Stopped.{Stopped}
use Rattle.kr_core.specs.kr_turns.law_steady.Bytes.{HasBytes}
use Rattle.kr_core.specs.Moving.{StepKind, Instructions, Entry, Plain, Exit}
use Rattle.kr_loose.specs.LooseRun.{Step}

-- ---- what others do during a call

abbrev pub is_entry : StepKind → Bool
is_entry (Instructions done) = false
is_entry Entry = true
is_entry (Plain exec) = false
is_entry Exit = false

module _ {S : Type 0} where
  -- a step leaves the shape of the tree as it was, and for an execve(2) the bytes of files
  abbrev pub LeavesFor : (exec : Bool) → Step S → Type 0
  LeavesFor exec s = HasShape s.before.state.tree s.after.state.tree × (exec ≡ true → HasBytes s.before.state.tree s.after.state.tree)

  abbrev pub is_own : ℕ → Step S → Bool
  is_own pid s = s.pid == pid

  -- the steps since the first stop of a process's call, of steps of which the last stands first
  abbrev pub since_entry : ℕ → List (Step S) → List (Step S)
  since_entry pid [] = []
  since_entry pid (s ∷ earlier) = if is_own pid s && is_entry s.kind then [] else s ∷ since_entry pid earlier

  abbrev pub others_since_entry : ℕ → List (Step S) → List (Step S)
  others_since_entry pid earlier = filter (λ s. not (is_own pid s)) (since_entry pid earlier)

  -- a call that is carried out finds what its first stop found. It may have waited since
  abbrev pub IsUndisturbed : ℕ → StepKind → List (Step S) → Type 0
  IsUndisturbed pid (Instructions done) earlier = Unit {0}
  IsUndisturbed pid Entry earlier = Unit {0}
  IsUndisturbed pid (Plain exec) earlier = All (LeavesFor exec) (others_since_entry pid earlier)
  IsUndisturbed pid Exit earlier = Unit {0}

  -- and so does every call of a run. What others do behind its first stop counts where it is carried out, and there alone
  abbrev pub AreUndisturbed : List (Step S) → Type 0
  AreUndisturbed [] = Unit {0}
  AreUndisturbed (s ∷ earlier) = AreUndisturbed earlier × IsUndisturbed s.pid s.kind earlier

-- ---- the process directory

-- `asks` tells of a watcher and a process at the first stop whether a walk for which the watcher asks there looks up a name in the process
-- directory
module _ {S : Type 0} (asks : S → Stopped → Bool) (marks : ℕ) (table : List Row) where
  abbrev pub met_by : StepKind → Step S → Bool
  met_by (Instructions done) s = false
  met_by Entry s = asks s.before.watcher (calling marks s.pid s.before.state)
  met_by (Plain exec) s = (plain_reach table s.pid s.before.state nothing_reached).met_proc
  met_by Exit s = false

  abbrev pub MeetNone : List (Step S) → Type 0
  MeetNone steps = All (λ s. met_by s.kind s ≡ false) steps

  -- ---- a run

  -- by whether the walks of the start looked up such a name, too
  pub record IsQuiet (met_at_start : Bool) (steps : List (Step S)) : Type 0 where
    pub start : met_at_start ≡ false
    pub walks : MeetNone steps
    pub calls : AreUndisturbed steps
