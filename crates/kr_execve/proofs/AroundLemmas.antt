-- What the walks of a caller go through rests on no memory of a process.
use Rattle.std.specs.FinMap as map
use Rattle.std.proofs.Common.{◌≡◌, ℕ, Bool, true, false, cond, List, [], ◌∷◌, Option, Some, None, refl, ap, ◌∙◌}
use Rattle.std.specs.Prelude.{◌==◌, map as map_list}
use Rattle.std.specs.Option.{option_map, option_map_or, option_and_then}
use Rattle.elf_load.specs.rv_mem.Memory.{Memory}
use Rattle.kr_exec.specs.kr_tree.declared.place.ProcAt.{ProcAt}
use Rattle.kr_exec.specs.kr_tree.declared.place.ProcAt.TheVariants.{SelfLink, Dir, Cwd, Root, Exe, FdDir, Fd}
use Rattle.kr_exec.specs.kr_view.declared.procs.Lead.{Lead}
use Rattle.kr_exec.specs.kr_view.declared.procs.Lead.TheVariants.{NoLink}
use Rattle.kr_exec.specs.kr_view.Component.{Namespace}
use Rattle.kr_exec.specs.kr_view.Living.{Living, finds_among}
use Rattle.kr_exec.specs.kr_view.View.{Row, root_place}
use Rattle.kr_perform.specs.kr_files.Descriptors.{Named}
use Rattle.kr_perform.specs.kr_files.Files.{file_at}
use Rattle.kr_perform.specs.kr_model.Applied.{with_image, with_living}
use Rattle.kr_perform.specs.kr_model.ProcessDirectory.{around_of, jump_to, lead_of_open, leads_of, space_of}
use Rattle.kr_perform.specs.kr_model.State.{Image, Process, State, at_pid, opened, process}
use Rattle.kr_perform.proofs.law_lawful.ProcessChangeLemmas.{found, same-mapped}
use Rattle.kr_perform.specs.kr_seen.Numbered.{process_numbered, state_numbered}
use Rattle.kr_perform.specs.kr_seen.Carrying.{with_memory, with_memory_of}

module _ (pid : ℕ) (memory : Memory) where
  abbrev own : {T : Type 0} → Process T Image → Process T Image
  own p = at_pid pid (with_image (with_memory memory)) p

  -- what is told of a process without its image is told of it with another memory
  told-same : {T A : Type 0} (f : Process T Image → A) → ((p : Process T Image) → f (with_image (with_memory memory) p) ≡ f p) → (p : Process T Image) → f (own p) ≡ f p
  told-same f same p = by (p.pid == pid)
    where
      by : (b : Bool) → f (cond b (with_image (with_memory memory) p) p) ≡ f p
      by true = same p
      by false = refl

  or-same : {A : Type 0} (f : Process ℕ Image → A) (other : A) → ((p : Process ℕ Image) → f (with_image (with_memory memory) p) ≡ f p) → (o : Option (Process ℕ Image)) → option_map_or f (option_map own o) other ≡ option_map_or f o other
  or-same f other same None = refl
  or-same f other same (Some p) = told-same f same p

  -- ---- the numbers of mounts

  numbered-own : {T : Type 0} (number : T → ℕ) (p : Process T Image) → process_numbered number (own p) ≡ own (process_numbered number p)
  numbered-own number p = by (p.pid == pid)
    where
      by : (b : Bool) → process_numbered number (cond b (with_image (with_memory memory) p) p) ≡ cond b (with_image (with_memory memory) (process_numbered number p)) (process_numbered number p)
      by true = refl
      by false = refl

  all-numbered : {T : Type 0} (number : T → ℕ) (ps : List (Process T Image)) → map_list (process_numbered number) (map_list own ps) ≡ map_list own (map_list (process_numbered number) ps)
  all-numbered number [] = refl
  all-numbered number (p ∷ ps) = λ i. numbered-own number p i ∷ all-numbered number ps i

  pub memory-numbered : {T : Type 0} (number : T → ℕ) (s : State T Image) → state_numbered number (with_memory_of pid memory s) ≡ with_memory_of pid memory (state_numbered number s)
  memory-numbered number s = ap (λ ps. with_living (λ _. ps) (state_numbered number s)) (all-numbered number s.living)

  -- ---- what walks go through

  module _ (table : List Row) (s : State ℕ Image) where
    abbrev t : State ℕ Image
    t = with_memory_of pid memory s

    abbrev shown : Process ℕ Image → Living
    shown p = record { pid = p.pid; fds = map_list (λ e. e.0) (map.entries p.descs) }

    space-same : space_of table t ≡ space_of table s
    space-same = ap (λ living. record { table = table; tree = s.tree; user = s.user; finds = finds_among living }) (same-mapped shown own (told-same shown (λ p. refl)) s.living)

    process-own : (q : ℕ) → process q t ≡ option_map own (process q s)
    process-own q = found pid (with_image (with_memory memory)) (λ p. refl) q s.living

    pub cwd-same : (q : ℕ) → option_map (λ (p : Process ℕ Image). p.cwd) (process q t) ≡ option_map (λ (p : Process ℕ Image). p.cwd) (process q s)
    cwd-same q = ap (option_map (λ (p : Process ℕ Image). p.cwd)) (process-own q) ∙ by (process q s)
      where
        by : (o : Option (Process ℕ Image)) → option_map (λ (p : Process ℕ Image). p.cwd) (option_map own o) ≡ option_map (λ (p : Process ℕ Image). p.cwd) o
        by None = refl
        by (Some p) = ap Some (told-same (λ p. p.cwd) (λ p. refl) p)

    living-same : (q : ℕ) (f : Namespace → Process ℕ Image → Lead ℕ) → ((p : Process ℕ Image) → f (space_of table s) (with_image (with_memory memory) p) ≡ f (space_of table s) p)
        → option_map_or (f (space_of table t)) (process q t) NoLink ≡ option_map_or (f (space_of table s)) (process q s) NoLink
    living-same q f same = (λ i. option_map_or (f (space-same i)) (process-own q i) NoLink) ∙ or-same (f (space_of table s)) NoLink same (process q s)

    opened-same : (q fd : ℕ) → opened q fd t ≡ opened q fd s
    opened-same q fd = ap (option_and_then (λ (x : Named). file_at s.files x.number)) (ap (option_and_then (λ (p : Process ℕ Image). map.get p.descs fd)) (process-own q) ∙ by (process q s))
      where
        by : (o : Option (Process ℕ Image)) → option_and_then (λ (p : Process ℕ Image). map.get p.descs fd) (option_map own o) ≡ option_and_then (λ (p : Process ℕ Image). map.get p.descs fd) o
        by None = refl
        by (Some p) = told-same (λ p. map.get p.descs fd) (λ p. refl) p

    leads-same : (caller : ℕ) (at : ProcAt) → leads_of table t caller at ≡ leads_of table s caller at
    leads-same caller SelfLink = refl
    leads-same caller (Dir q) = refl
    leads-same caller (Cwd q) = living-same q (λ space p. jump_to space p.cwd 0 []) (λ p. refl)
    leads-same caller (Root q) = living-same q (λ space p. jump_to space (root_place table) 0 []) (λ p. refl)
    leads-same caller (Exe q) = living-same q (λ space p. jump_to space p.exe p.exe_dir p.exe_name) (λ p. refl)
    leads-same caller (FdDir q) = refl
    leads-same caller (Fd q fd) = λ i. option_map_or (lead_of_open (space-same i)) (opened-same q fd i) NoLink

    around-memory : (caller : ℕ) → around_of table caller t ≡ around_of table caller s
    around-memory caller = λ i. record { space = space-same i; leads = λ at. leads-same caller at i }

  -- what was read of a memory makes no difference to walks
  pub around-read : {T : Type 0} (number : T → ℕ) (table : List Row) (s : State T Image) (caller : ℕ) → around_of table caller (state_numbered number (with_memory_of pid memory s)) ≡ around_of table caller (state_numbered number s)
  around-read number table s caller = ap (around_of table caller) (memory-numbered number s) ∙ around-memory table (state_numbered number s) caller
