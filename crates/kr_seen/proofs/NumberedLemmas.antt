-- A state with the numbers of its mounts: its processes, and what is open in it.
use Rattle.std.specs.FinMap as map
use Rattle.std.proofs.Common.{◌≡◌, ℕ, Bool, true, false, cond, List, [], ◌∷◌, Option, Some, None, refl, ap, ◌∙◌}
use Rattle.std.specs.Prelude.{map as map_list}
use Rattle.std.specs.List.{find}
use Rattle.std.specs.Option.{option_map, option_and_then}
use Rattle.kr_walk.specs.kr_inode.GroundLemmas.{get-mapped}
use Rattle.kr_ops.specs.kr_view.Living.{Living, finds_among}
use Rattle.kr_ops.specs.kr_files.Descriptors.{Named}
use Rattle.kr_ops.specs.kr_files.Files.{Counted, file_at}
use Rattle.kr_ops.specs.kr_model.ProcessDirectory.{living_of, space_of}
use Rattle.kr_ops.specs.kr_model.State.{Image, Process, State, process, named, opened, is_pid}
use Rattle.kr_seen.specs.Numbered.{counted_numbered, opened_numbered, table_numbered, process_numbered, state_numbered}
use Rattle.kr_seen.specs.Shown.{Shown, space_in}

-- the first of changed ones that passes is the first one whose change does
pub find-map : {A B : Type 0} (f : A → B) (test : B → Bool) (xs : List A) → find test (map_list f xs) ≡ option_map f (find (λ x. test (f x)) xs)
find-map f test [] = refl
find-map f test (x ∷ xs) = by (test (f x)) (find-map f test xs)
  where
    by : (b : Bool) → find test (map_list f xs) ≡ option_map f (find (λ x. test (f x)) xs)
        → cond b (Some (f x)) (find test (map_list f xs)) ≡ option_map f (cond b (Some x) (find (λ x. test (f x)) xs))
    by true rest = refl
    by false rest = rest

-- a process as the process directory shows it
abbrev pub to_living : {M : Type 0} → Process M Image → Living
to_living p = record { pid = p.pid; fds = map_list (λ e. e.0) (map.entries p.descs) }

module _ {T : Type 0} (number : T → ℕ) (s : State T Image) where
  pub process-numbered : (pid : ℕ) → process pid (state_numbered number s) ≡ option_map (process_numbered number) (process pid s)
  process-numbered pid = find-map (process_numbered number) (is_pid pid) s.living

  pub named-numbered : (pid fd : ℕ) → named pid fd (state_numbered number s) ≡ named pid fd s
  named-numbered pid fd = ap (option_and_then (λ p. map.get p.descs fd)) (process-numbered pid) ∙ by (process pid s)
    where
      by : (o : Option (Process T Image)) → option_and_then (λ p. map.get p.descs fd) (option_map (process_numbered number) o) ≡ option_and_then (λ p. map.get p.descs fd) o
      by None = refl
      by (Some p) = refl

  file-numbered : (n : ℕ) → file_at (table_numbered number s.files) n ≡ option_map (opened_numbered number) (file_at s.files n)
  file-numbered n = ap (option_map (λ h. h.opened)) (get-mapped (λ n. counted_numbered number) s.files.files n) ∙ by (map.get s.files.files n)
    where
      by : (o : Option (Counted T)) → option_map (λ h. h.opened) (option_map (counted_numbered number) o) ≡ option_map (opened_numbered number) (option_map (λ h. h.opened) o)
      by None = refl
      by (Some h) = refl

  pub opened-numbered : (pid fd : ℕ) → opened pid fd (state_numbered number s) ≡ option_map (opened_numbered number) (opened pid fd s)
  opened-numbered pid fd = ap (option_and_then (λ (x : Named). file_at (table_numbered number s.files) x.number)) (named-numbered pid fd) ∙ by (named pid fd s)
    where
      by : (o : Option Named) → option_and_then (λ (x : Named). file_at (table_numbered number s.files) x.number) o ≡ option_map (opened_numbered number) (option_and_then (λ (x : Named). file_at s.files x.number) o)
      by None = refl
      by (Some x) = file-numbered x.number

  pub living-numbered : living_of s ≡ living_of (state_numbered number s)
  living-numbered = by s.living
    where
      by : (ps : List (Process T Image)) → map_list to_living ps ≡ map_list to_living (map_list (process_numbered number) ps)
      by [] = refl
      by (p ∷ ps) = ap (λ ls. to_living p ∷ ls) (by ps)

pub space-numbered : {T : Type 0} (number : T → ℕ) (v : Shown T) → space_in v ≡ space_of v.table (state_numbered number v.state)
space-numbered number v = ap (λ living. record { table = v.table; tree = v.state.tree; user = v.state.user; finds = finds_among living }) (living-numbered number v.state)
