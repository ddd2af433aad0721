-- Which process a turn picks, and what is left where bytes are forgotten.
use Rattle.std.proofs.Common.{◌≡◌, ◌≢◌, ℕ, zero, suc, ◌≤◌, Bool, true, false, not, ◌&&◌, cond, List, [], ◌∷◌, Option, Some, None, refl, sym, ap, subst, ◌∙◌, arith, eq-eqb, eqb-true, slice_get, nat_eq}
use Rattle.std.specs.Prelude.{map as map_list, ◌%◌, length}
use Rattle.std.specs.List.{filter, find}
use Rattle.std.specs.Option.{option_map}
use Rattle.std.proofs.lemmas.Option.{same_Some, slice_get-map}
use Rattle.kr_turns.specs.kr_view.View.{Row}
use Rattle.kr_first.specs.kr_model.Lawful.{ArePids, RiseFrom}
use Rattle.kr_first.specs.kr_model.State.{Image, Process, image_layout, is_pid, process}
use Rattle.kr_turns.proofs.law_lawful.SumLemmas.{other-test}
use Rattle.kr_turns.specs.kr_ops.declared.state.State.{State}
use Rattle.kr_turns.specs.kr_ops.Meaning.{meaning}
use Rattle.kr_turns.specs.kr_seen.Numbered.{process_numbered, state_numbered}
use Rattle.kr_turns.proofs.kr_seen.LookLemmas.{known-numbered, process-numbered}
use Rattle.kr_turns.proofs.kr_seen.StepLemmas.{passing-numbered}
use Rattle.kr_turns.specs.Steps.{Runs, goes_on, picked_process, ready_processes, still_waits}
use Rattle.kr_turns.proofs.NumberLemmas.{picked-process-numbered}
use Rattle.kr_core.specs.Kernel.{IsPicked, Kernel, Picks}

-- ---- the process that is picked

module _ {T : Type 0} (next : ℕ) (test : Process T Image → Bool) where
  -- a process of a list that passes is found there by its number
  pub found-of : (low : ℕ) (ps : List (Process T Image)) (k : ℕ) (q : Process T Image) → RiseFrom low next (map_list (λ p. p.pid) ps) → slice_get (filter test ps) k ≡ Some q
      → (low ≤ q.pid) × (find (is_pid q.pid) ps ≡ Some q)
  found-of low [] k q rise e = absurd cc
  found-of low (p ∷ ps) k q rise e = by (λ k e. found-of (suc p.pid) ps k q rise.2 e) (test p) k e
    where
      later : (suc p.pid ≤ q.pid) × (find (is_pid q.pid) ps ≡ Some q) → (low ≤ q.pid) × (find (is_pid q.pid) (p ∷ ps) ≡ Some q)
      later rest =
          let above = rest.0 in
          let first = rise.0 in
          (omega arith, ap (λ b. cond b (Some p) (find (is_pid q.pid) ps)) (other-test p.pid q.pid (λ same. absurd (omega arith))) ∙ rest.1)

      by : ((k : ℕ) → slice_get (filter test ps) k ≡ Some q → (suc p.pid ≤ q.pid) × (find (is_pid q.pid) ps ≡ Some q)) → (b : Bool) (k : ℕ)
          → slice_get (cond b (p ∷ filter test ps) (filter test ps)) k ≡ Some q → (low ≤ q.pid) × (find (is_pid q.pid) (p ∷ ps) ≡ Some q)
      by rest true zero e =
          subst (λ (x : Process T Image). (low ≤ x.pid) × (find (is_pid x.pid) (p ∷ ps) ≡ Some x)) (same_Some p q e)
          (rise.0, ap (λ b. cond b (Some p) (find (is_pid p.pid) ps)) (eq-eqb p.pid p.pid refl))
      by rest true (suc k) e = later (rest k e)
      by rest false k e = later (rest k e)

-- where a number was picked, it is that of a process that lives, which is the one that is picked; where none was, none is
module _ {P S T : Type 0} {M : ℕ} (number : T → ℕ) (k : Kernel P S T M) (pick : ℕ) where
  none-picked : (o : Option (Process T Image)) → option_map (λ (p : Process T Image). p.pid) o ≡ None → option_map (process_numbered number) o ≡ None
  none-picked None e = refl
  none-picked (Some p) e = absurd cc

  one-picked : (pid : ℕ) → ArePids (meaning k.state) → (o : Option (Process T Image)) → picked_process (meaning k.state) pick ≡ o → option_map (λ (p : Process T Image). p.pid) o ≡ Some pid → Picks number pick pid k
  one-picked pid pids None is e = absurd cc
  one-picked pid pids (Some p) is e =
      let own : p.pid ≡ pid = same_Some p.pid pid e in
      let at = found-of (meaning k.state).next_pid (goes_on (meaning k.state)) 2 (meaning k.state).living (pick % length (ready_processes (meaning k.state))) p pids.living is in
      let lives : process pid (meaning k.state) ≡ Some p = subst (λ n. process n (meaning k.state) ≡ Some p) own at.1 in
      record {
        own = process_numbered number p;
        picked = picked-process-numbered number (meaning k.state) pick ∙ ap (option_map (process_numbered number)) is;
        lives = process-numbered number pid (meaning k.state) ∙ ap (option_map (process_numbered number)) lives;
        same = own;
      }

  is-picked : ArePids (meaning k.state) → (told : Option ℕ) → told ≡ option_map (λ (p : Process T Image). p.pid) (picked_process (meaning k.state) pick) → IsPicked number pick k told
  is-picked pids None e = picked-process-numbered number (meaning k.state) pick ∙ none-picked (picked_process (meaning k.state) pick) (sym e)
  is-picked pids (Some pid) e = one-picked pid pids (picked_process (meaning k.state) pick) refl (sym e)

  pub picked-told : (own : Kernel P S T M) → k ≡ own → ArePids (meaning k.state) → (told : Option ℕ) → told ≡ option_map (λ (p : Process T Image). p.pid) (picked_process (meaning k.state) pick) → IsPicked number pick own told
  picked-told own is pids told e = subst (λ (k : Kernel P S T M). IsPicked number pick k told) is (is-picked pids told e)

-- ---- the processes that live

-- where a list is empty, each of its images is, and where it isn't, none is
pub none-live : {A B C : Type 0} (f : A → B) (g : B → C) (xs : List A) → nat_eq (length xs) 0 ≡ true → map_list g (map_list f xs) ≡ []
none-live f g [] e = refl
none-live f g (x ∷ xs) e = let no : suc (length xs) ≡ 0 = eqb-true (suc (length xs)) 0 e in absurd cc

pub some-live : {A B C : Type 0} (f : A → B) (g : B → C) (xs : List A) → nat_eq (length xs) 0 ≡ false → map_list g (map_list f xs) ≢ []
some-live f g [] e = absurd cc
some-live f g (x ∷ xs) e = λ none. absurd cc

-- ---- the processes that are ready

mapped-twice : {A B C : Type 0} (f : A → B) (g : B → C) (h : A → C) → ((x : A) → g (f x) ≡ h x) → (o : Option A) → option_map g (option_map f o) ≡ option_map h o
mapped-twice f g h same None = refl
mapped-twice f g h same (Some x) = ap (λ y. Some y) (same x)

-- they have the numbers of those of the state itself
pub ready-numbered : {T : Type 0} {M : ℕ} (number : T → ℕ) (s : State T M) (k : ℕ)
    → option_map (λ (p : Process T Image). p.pid) (slice_get (ready_processes (meaning s)) k) ≡ option_map (λ (p : Process ℕ Image). p.pid) (slice_get (ready_processes (state_numbered number (meaning s))) k)
ready-numbered number s k =
    let same = λ (p : Process _ Image). ap (λ known. not (p.waits && still_waits known p.pid p.image.regs)) (known-numbered number image_layout p.pid (meaning s)) in
    sym (
    ap (λ (ps : List (Process ℕ Image)). option_map (λ (p : Process ℕ Image). p.pid) (slice_get ps k)) (passing-numbered number (goes_on (meaning s)) (goes_on (state_numbered number (meaning s))) same (meaning s))
    ∙ ap (option_map (λ (p : Process ℕ Image). p.pid)) (slice_get-map (process_numbered number) (ready_processes (meaning s)) k)
    ∙ mapped-twice (process_numbered number) (λ p. p.pid) (λ p. p.pid) (λ p. refl) (slice_get (ready_processes (meaning s)) k)
    )

-- ---- bytes that are forgotten

-- what was put out is no part of what holds of a state
pub runs-without : {T : Type 0} {M : ℕ} (number : T → ℕ) (table : List Row) (calls : ℕ) (s : State T M) (out err : List ℕ) → Runs number table calls s → Runs number table calls (record s { out = out; err = err })
runs-without number table calls s out err runs =
    let l = runs.lasts.lawful in
    let kept = runs.lasts.lasts in
    record {
      lasts = record {
        lawful = record {
          tree = l.tree;
          mounts = l.mounts;
          processes = l.processes;
          files = l.files;
          pipes = l.pipes;
          descriptors = l.descriptors;
          uses = record { holds = l.uses.holds; counts = l.uses.counts; numbered = l.uses.numbered };
          room = l.room;
          pids = record { living = l.pids.living; ended = l.pids.ended; apart = l.pids.apart; few = l.pids.few };
          input = l.input;
        };
        lasts = record {
          texts = kept.texts;
          owners = kept.owners;
          user = kept.user;
          drawn = record { inodes = kept.drawn.inodes; serials = kept.drawn.serials; files = kept.drawn.files; pipes = kept.drawn.pipes; pids = kept.drawn.pids };
        };
      };
      served = record { files = runs.served.files; room = runs.served.room };
    }
