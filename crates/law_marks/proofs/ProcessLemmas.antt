-- The processes of a state with something done to what each computes on.
use Rattle.std.specs.FinMap as map
use Rattle.std.proofs.Common.{◌≡◌, ℕ, Bool, true, false, cond, List, Option, Some, None, refl, ap, ◌∙◌}
use Rattle.std.specs.Prelude.{map as map_list, ◌==◌}
use Rattle.std.specs.Option.{option_and_then, option_map}
use Rattle.kr_turns.specs.kr_model.kr_files.Descriptors.{Named}
use Rattle.kr_turns.specs.kr_model.kr_files.Files.{file_at}
use Rattle.kr_turns.specs.kr_model.Applied.{cwd_of, exe_of, with_image, with_living}
use Rattle.kr_turns.specs.kr_model.State.{Process, State, at_pid, is_pid, named, opened, process, with_process}
use Rattle.kr_turns.proofs.kr_seen.kr_model.BareLemmas.{found-mapped, maps}

module _ {M X : Type 0} (g : X → X) where
  abbrev pub each : State M X → State M X
  each s = with_living (map_list (with_image g)) s

  pub process-each : (pid : ℕ) (s : State M X) → process pid (each s) ≡ option_map (with_image g) (process pid s)
  process-each pid s = found-mapped (with_image g) (is_pid pid) (is_pid pid) (λ p. refl) s.living

  -- ---- what is told of one beside what it computes on

  told-each : {A : Type 0} (tell : Process M X → A) → ((p : Process M X) → tell (with_image g p) ≡ tell p) → (pid : ℕ) (s : State M X) → option_map tell (process pid (each s)) ≡ option_map tell (process pid s)
  told-each tell same pid s = ap (option_map tell) (process-each pid s) ∙ by (process pid s)
    where
      by : (o : Option (Process M X)) → option_map tell (option_map (with_image g) o) ≡ option_map tell o
      by None = refl
      by (Some p) = ap Some (same p)

  pub cwd-each : (pid : ℕ) (s : State M X) → cwd_of pid (each s) ≡ cwd_of pid s
  cwd-each pid s = told-each (λ p. p.cwd) (λ p. refl) pid s

  pub exe-each : (pid : ℕ) (s : State M X) → exe_of pid (each s) ≡ exe_of pid s
  exe-each pid s = told-each (λ p. p.exe) (λ p. refl) pid s

  pub named-each : (pid fd : ℕ) (s : State M X) → named pid fd (each s) ≡ named pid fd s
  named-each pid fd s = ap (option_and_then (λ (p : Process M X). map.get p.descs fd)) (process-each pid s) ∙ by (process pid s)
    where
      by : (o : Option (Process M X)) → option_and_then (λ (p : Process M X). map.get p.descs fd) (option_map (with_image g) o) ≡ option_and_then (λ (p : Process M X). map.get p.descs fd) o
      by None = refl
      by (Some p) = refl

  pub opened-each : (pid fd : ℕ) (s : State M X) → opened pid fd (each s) ≡ opened pid fd s
  opened-each pid fd s = ap (option_and_then (λ (x : Named). file_at s.files x.number)) (named-each pid fd s)

  -- ---- what is done to one of them

  at-each : (f h : Process M X → Process M X) → ((p : Process M X) → f (with_image g p) ≡ with_image g (h p)) → (pid : ℕ) (p : Process M X) → at_pid pid f (with_image g p) ≡ with_image g (at_pid pid h p)
  at-each f h same pid p = by (p.pid == pid)
    where
      by : (b : Bool) → cond b (f (with_image g p)) (with_image g p) ≡ with_image g (cond b (h p) p)
      by true = same p
      by false = refl

  pub list-each : (f h : Process M X → Process M X) → ((p : Process M X) → f (with_image g p) ≡ with_image g (h p)) → (ps : List (Process M X)) → map_list f (map_list (with_image g) ps) ≡ map_list (with_image g) (map_list h ps)
  list-each f h same ps = maps f (with_image g) (with_image g) h same ps

  pub one-each : (f h : Process M X → Process M X) → ((p : Process M X) → f (with_image g p) ≡ with_image g (h p)) → (pid : ℕ) (ps : List (Process M X))
      → with_process pid f (map_list (with_image g) ps) ≡ map_list (with_image g) (with_process pid h ps)
  one-each f h same pid ps = list-each (at_pid pid f) (at_pid pid h) (at-each f h same pid) ps

  pub process_in-each : (f h : Process M X → Process M X) → ((p : Process M X) → f (with_image g p) ≡ with_image g (h p)) → (pid : ℕ) (s : State M X)
      → with_living (with_process pid f) (each s) ≡ each (with_living (with_process pid h) s)
  process_in-each f h same pid s = ap (λ (ps : List (Process M X)). with_living (λ _. ps) s) (one-each f h same pid s.living)
