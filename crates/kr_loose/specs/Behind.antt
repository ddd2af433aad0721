-- What is kept of a loose run in code, and the steps behind which it stands: it tells whether they are quiet.
use Rattle.std.specs.Prelude.{◌≡◌, ◌≤◌, ◌↔◌, ℕ, Bool, true, false, List, ◌∷◌, Some}
use Rattle.std.specs.List.{All}
use Rattle.kr_core.specs.kr_turns.kr_view.View.{Row}
use Rattle.kr_core.specs.kr_turns.kr_stops.Stopped.{Stopped}
use Rattle.kr_core.specs.Between.{between_of}
use Rattle.kr_core.specs.Kernel.{Kernel}
use Rattle.kr_core.specs.declared.paused.Begun.{Begun}
use Rattle.kr_core.specs.declared.paused.Between.TheVariants.{Entered}
use Rattle.kr_core.specs.declared.paused.Paused.{Paused}
use Rattle.kr_loose.specs.declared.judge.Counted.{Counted}
use Rattle.kr_loose.specs.declared.judge.Counts.{Counts}
use Rattle.kr_loose.specs.declared.judge.Judge.{Judge}
use Rattle.kr_loose.specs.Judging.{counts_of}
use Rattle.kr_loose.specs.LooseRun.{Step}
use Rattle.kr_loose.specs.Quiet.{AreUndisturbed, LeavesFor, MeetNone, others_since_entry}

-- nothing was counted in between that a call has to find as it was
pub record AreAlike (exec : Bool) (before now : Counts) : Type 0 where
  pub shape : before.shape ≡ now.shape
  pub bytes : exec ≡ true → before.bytes ≡ now.bytes

-- what was counted for a call that is begun tells exactly whether others left the tree to it since
pub record TellsOthers {S : Type 0} (pid : ℕ) (exec : Bool) (steps : List (Step S)) (now : Counts) (counted : List Counted) : Type 0 where
  pub before : Counts
  pub found : counts_of pid counted ≡ Some before
  pub shape_grew : before.shape ≤ now.shape
  pub bytes_grew : before.bytes ≤ now.bytes
  pub told : AreAlike exec before now ↔ All (LeavesFor exec) (others_since_entry pid steps)

-- what is kept: where processes stand between the stops of their calls, whether a walk so far looked up a name in the process directory, how often the
-- tree was altered, and what is judged of calls
pub record Kept : Type 0 where
  pub paused : List Paused
  pub met : Bool
  pub counts : Counts
  pub judge : Judge

module _ {S : Type 0} (asks : S → Stopped → Bool) (marks : ℕ) (table : List Row) where
  -- it stands where it does by these steps, of which the last stands first, and by a start of which is told whether its walks looked up such a name
  pub record IsBehind (met_at_start : Bool) (steps : List (Step S)) (kept : Kept) : Type 0 where
    pub walks : (kept.met ≡ false) ↔ ((met_at_start ≡ false) × MeetNone asks marks table steps)
    pub undisturbed : (kept.judge.undisturbed ≡ true) ↔ AreUndisturbed steps
    pub others : kept.judge.undisturbed ≡ true → (pid : ℕ) (begun : Begun) → between_of pid kept.paused ≡ Some (Entered begun)
        → TellsOthers pid begun.exec steps kept.counts kept.judge.counted.items

  -- and behind one step more, whatever steps came before
  abbrev pub ComesBehind : Step S → Kept → Kept → Type 0
  ComesBehind s old new = (met_at_start : Bool) (steps : List (Step S)) → IsBehind met_at_start steps old → IsBehind met_at_start (s ∷ steps) new

-- ---- of a kernel

abbrev pub counts_in : {P S T : Type 0} {M : ℕ} → Kernel P S T M → Counts
counts_in k = record { shape = k.shape_changes; bytes = k.byte_changes }

abbrev pub kept_of : {P S T : Type 0} {M : ℕ} → Kernel P S T M → Judge → Kept
kept_of k judge = record { paused = k.paused; met = k.met; counts = counts_in k; judge = judge }
