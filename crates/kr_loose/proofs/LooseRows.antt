-- The definitions, evaluated.
use Rattle.std.proofs.Common.{◌≡◌, ℕ, List, [], ◌∷◌, ◌++◌, Some, None, true, false, refl, map, replicate}
use Rattle.std.proofs.lemmas.List.Elements.{All-head, All-nil}
use Rattle.kr_core.specs.kr_turns.rv_mem.Memory.{Memory}
use Rattle.kr_core.specs.kr_turns.kr_model.kr_inode.declared.user.User.{User}
use Rattle.kr_core.specs.kr_turns.kr_model.kr_files.Descriptors.{Meanings}
use Rattle.kr_core.specs.kr_turns.kr_model.kr_files.Files.{Table}
use Rattle.kr_core.specs.kr_turns.kr_model.kr_tree.Tree.{Tree}
use Rattle.kr_core.specs.kr_turns.kr_model.kr_tree.declared.place.Place.{Place}
use Rattle.kr_core.specs.kr_turns.kr_model.Judged.{HasShape}
use Rattle.kr_core.specs.kr_turns.kr_model.State.{Image, Process}
use Rattle.kr_core.specs.kr_turns.kr_stops.Stopped.{nothing_handed}
use Rattle.kr_core.specs.kr_turns.kr_stops.Watching.{unwatched}
use Rattle.kr_core.specs.kr_turns.Turn.{Machine}
use Rattle.kr_core.specs.Between.{between_of, paused_at, unpaused}
use Rattle.kr_core.specs.Moving.{StepKind, Instructions, Entry, Plain, Exit}
use Rattle.kr_core.specs.declared.paused.Between.TheVariants.{AtCall, Done, Entered}
use Rattle.kr_core.specs.declared.paused.Paused.{Paused}
use Rattle.kr_loose.specs.LooseRun.{Loose, Step, step}
use Rattle.kr_loose.specs.Quiet.{AreUndisturbed, LeavesFor, others_since_entry}
use Rattle.kr_loose.specs.Slots.{slots_of_steps}

-- ---- where processes stand

abbrev two_paused : List Paused
two_paused = record { pid = 1; between = AtCall } ∷ record { pid = 2; between = Entered (record { no_shelf = false; exec = true }) } ∷ []

the_second_is_entered : between_of 2 two_paused ≡ Some (Entered (record { no_shelf = false; exec = true }))
the_second_is_entered = refl

a_third_runs : between_of 3 two_paused ≡ None
a_third_runs = refl

the_second_comes_to_a_call : between_of 2 (paused_at 2 AtCall two_paused) ≡ Some AtCall
the_second_comes_to_a_call = refl

the_first_goes_on : unpaused 1 two_paused ≡ record { pid = 2; between = Entered (record { no_shelf = false; exec = true }) } ∷ []
the_first_goes_on = refl

-- ---- steps

module _ {S : Type 0} (m n : Machine S) where
  abbrev did : (pick pid : ℕ) → StepKind → Step S
  did pick pid kind = record { pick = pick; pid = pid; kind = kind; before = m; after = n }

  -- the last one first: a call of process 1 that waits for a step of process 2
  abbrev a_call_that_waits : List (Step S)
  a_call_that_waits = did 0 1 Exit ∷ did 0 1 (Plain false) ∷ did 0 2 (Plain true) ∷ did 0 1 (Plain false) ∷ did 0 1 Entry ∷ did 1 2 Entry ∷ did 1 2 (Instructions 0) ∷ did 0 1 (Instructions 3) ∷ []

  -- three instructions, a call that waits, the call of the other, and the call again
  its_turns : slots_of_steps a_call_that_waits ≡ record { pick = 0; fuel = 3 } ∷ record { pick = 0; fuel = 1 } ∷ record { pick = 0; fuel = 1 } ∷ record { pick = 0; fuel = 1 } ∷ []
  its_turns = refl

  -- the call of process 1 is measured from its one first stop on
  what_others_did : others_since_entry 1 a_call_that_waits ≡ did 0 2 (Plain true) ∷ []
  what_others_did = refl

  what_others_did_to_the_other : others_since_entry 2 a_call_that_waits ≡ did 0 1 Exit ∷ did 0 1 (Plain false) ∷ did 0 1 (Plain false) ∷ did 0 1 Entry ∷ []
  what_others_did_to_the_other = refl

  -- ---- quiet

  -- process 2 makes its call while process 1 stands behind its first stop: that counts where process 1 is carried out
  abbrev another_call : List (Step S)
  another_call = did 1 2 (Plain false) ∷ did 1 2 Entry ∷ did 0 1 Entry ∷ []

  -- and where it isn't, it doesn't
  a_change_that_no_call_follows : AreUndisturbed another_call
  a_change_that_no_call_follows = (((tt, tt), tt), All-nil (LeavesFor false))

  a_change_that_a_call_follows : (HasShape m.state.tree n.state.tree → ⊥) → AreUndisturbed (did 0 1 (Plain false) ∷ another_call) → ⊥
  a_change_that_a_call_follows altered all = altered (All-head (LeavesFor false) (did 1 2 (Plain false)) (did 1 2 Entry ∷ []) all.1).0

-- ---- two processes

module _ (tree : Tree) (user : User) (files : Table ℕ) (descs : Meanings) (place : Place ℕ) (memory : Memory) where
  abbrev caller : ℕ → Process ℕ Image
  caller pid = record {
    pid = pid;
    parent = 0;
    image = record { regs = record { x = replicate 17 0 ++ (172 ∷ replicate 14 0); pc = 4096 }; memory = memory };
    brk_start = 0;
    brk = 0;
    descs = descs;
    cwd = place;
    exe = place;
    exe_dir = 0;
    exe_name = [];
    umask = 0;
    waits = false;
  }

  abbrev two_callers : Machine (Unit {0})
  two_callers = record {
    state = record { tree = tree; user = user; files = files; input = []; taken = 0; out = []; err = []; living = caller 1 ∷ caller 2 ∷ []; ended = []; next_pid = 3 };
    watcher = tt;
    tally = record { status = 0; broken = None };
  }

  -- the first one at its call, and the second one behind its own
  abbrev between_stops : Loose (Unit {0})
  between_stops = record { machine = two_callers; paused = record { pid = 1; between = AtCall } ∷ record { pid = 2; between = Done nothing_handed } ∷ []; steps = [] }

  abbrev picking : ℕ → Loose (Unit {0}) → Loose (Unit {0})
  picking pick l = step unwatched 0 [] pick 1 l

  -- the second stop of the one comes behind the first stop of the other
  steps_come_apart : map {B = ℕ × StepKind} (λ s. (s.pid, s.kind)) (picking 3 (picking 0 between_stops)).steps ≡ (2, Exit) ∷ (1, Entry) ∷ []
  steps_come_apart = refl

  the_second_runs : between_of 2 (picking 3 (picking 0 between_stops)).paused ≡ None
  the_second_runs = refl
