-- What is asked of a state is told of it with the numbers of its mounts.
use Rattle.std.specs.FinMap as map
use Rattle.std.proofs.Common.{◌≡◌, ℕ, Option, Some, None, refl, ap, ◌∙◌}
use Rattle.std.specs.Prelude.{drop, sum}
use Rattle.std.specs.Option.{option_map, option_map_or, option_and_then}
use mathlib.Core.List.{map-map}
use Rattle.kr_ops.specs.kr_tree.declared.place.Place.{Place}
use Rattle.kr_ops.specs.kr_view.Leads.{numbered}
use Rattle.kr_ops.specs.kr_files.declared.opened.Opened.{Opened}
use Rattle.kr_ops.specs.kr_files.Descriptors.{Named}
use Rattle.kr_ops.specs.kr_files.Files.{file_at}
use Rattle.kr_ops.specs.kr_files.Opened.{is_reader, is_writer}
use Rattle.kr_ops.specs.kr_files.WithoutMounts.{without_mount}
use Rattle.kr_ops.specs.kr_model.Applied.{cwd_of, exe_of}
use Rattle.kr_ops.specs.kr_model.Bare.{host_only}
use Rattle.kr_ops.specs.kr_model.Known.{caller_of, fact_at, family_of, known, no_caller, pages_in_all}
use Rattle.kr_ops.specs.kr_model.State.{Layout, Process, State, is_pid, named, opened, process}
use Rattle.kr_seen.specs.Numbered.{opened_numbered, process_numbered, state_numbered, table_numbered}
use Rattle.kr_seen.proofs.NumberedLemmas.{find-map}
use Rattle.kr_seen.proofs.TableLemmas.{file-numbered, kind-numbered, place-numbered}
use Rattle.kr_seen.specs.MountLaws.{KnownIsNumbered, LooksAreNumbered, ProcessesAreAsked}

-- an open file without its mount is the same with a number
without-numbered : {T : Type 0} (number : T → ℕ) (o : Option (Opened T)) → option_map without_mount (option_map (opened_numbered number) o) ≡ option_map without_mount o
without-numbered number None = refl
without-numbered number (Some o) =
    ap (λ place. Some (record { place = place; dir = o.dir; name = o.name; what = o.what; read = o.read; write = o.write; append = o.append; at = o.at })) (by o.place)
  where
    by : (p : Option (Place _)) → option_map host_only (option_map (numbered number) p) ≡ option_map host_only p
    by None = refl
    by (Some p) = refl

module _ {T X : Type 0} (number : T → ℕ) where
  pub process-numbered : (pid : ℕ) (s : State T X) → process pid (state_numbered number s) ≡ option_map (process_numbered number) (process pid s)
  process-numbered pid s = find-map (process_numbered number) (is_pid pid) s.living

  pub asked-numbered : {A : Type 0} (f : Process T X → A) (g : Process ℕ X → A) → ((p : Process T X) → g (process_numbered number p) ≡ f p)
      → (other : A) (pid : ℕ) (s : State T X) → option_map_or g (process pid (state_numbered number s)) other ≡ option_map_or f (process pid s) other
  asked-numbered f g same other pid s = ap (λ o. option_map_or g o other) (process-numbered pid s) ∙ by (process pid s)
    where
      by : (o : Option (Process T X)) → option_map_or g (option_map (process_numbered number) o) other ≡ option_map_or f o other
      by None = refl
      by (Some p) = same p

  pub cwd-numbered : (pid : ℕ) (s : State T X) → cwd_of pid (state_numbered number s) ≡ option_map (numbered number) (cwd_of pid s)
  cwd-numbered pid s = ap (option_map (λ (p : Process ℕ X). p.cwd)) (process-numbered pid s) ∙ by (process pid s)
    where
      by : (o : Option (Process T X)) → option_map (λ (p : Process ℕ X). p.cwd) (option_map (process_numbered number) o) ≡ option_map (numbered number) (option_map (λ (p : Process T X). p.cwd) o)
      by None = refl
      by (Some p) = refl

  pub exe-numbered : (pid : ℕ) (s : State T X) → exe_of pid (state_numbered number s) ≡ option_map (numbered number) (exe_of pid s)
  exe-numbered pid s = ap (option_map (λ (p : Process ℕ X). p.exe)) (process-numbered pid s) ∙ by (process pid s)
    where
      by : (o : Option (Process T X)) → option_map (λ (p : Process ℕ X). p.exe) (option_map (process_numbered number) o) ≡ option_map (numbered number) (option_map (λ (p : Process T X). p.exe) o)
      by None = refl
      by (Some p) = refl

  pub named-numbered : (pid fd : ℕ) (s : State T X) → named pid fd (state_numbered number s) ≡ named pid fd s
  named-numbered pid fd s = ap (option_and_then (λ (p : Process ℕ X). map.get p.descs fd)) (process-numbered pid s) ∙ by (process pid s)
    where
      by : (o : Option (Process T X)) → option_and_then (λ (p : Process ℕ X). map.get p.descs fd) (option_map (process_numbered number) o) ≡ option_and_then (λ (p : Process T X). map.get p.descs fd) o
      by None = refl
      by (Some p) = refl

  pub opened-numbered : (pid fd : ℕ) (s : State T X) → opened pid fd (state_numbered number s) ≡ option_map (opened_numbered number) (opened pid fd s)
  opened-numbered pid fd s = ap (option_and_then (λ (x : Named). file_at (table_numbered number s.files) x.number)) (named-numbered pid fd s) ∙ by (named pid fd s)
    where
      by : (o : Option Named)
          → option_and_then (λ (x : Named). file_at (table_numbered number s.files) x.number) o ≡ option_map (opened_numbered number) (option_and_then (λ (x : Named). file_at s.files x.number) o)
      by None = refl
      by (Some x) = file-numbered number s.files x.number

  -- ---- all that calls know

  pub pages-numbered : (layout : X → Layout) (s : State T X) → pages_in_all layout (state_numbered number s).living ≡ pages_in_all layout s.living
  pages-numbered layout s = ap sum (map-map (λ (p : Process ℕ X). map.len (layout p.image)) (process_numbered number) s.living)

  pub known-numbered : (layout : X → Layout) (pid : ℕ) (s : State T X) → known layout pid (state_numbered number s) ≡ known layout pid s
  known-numbered layout pid s =
      let callers = asked-numbered (caller_of layout) (caller_of layout) (λ p. refl) no_caller pid s in
      let files : (fd : ℕ) → (known layout pid (state_numbered number s)).opened fd ≡ (known layout pid s).opened fd = λ fd. ap (option_map without_mount) (opened-numbered pid fd s) ∙ without-numbered number (opened pid fd s) in
      let readers : (p : ℕ) → (known layout pid (state_numbered number s)).reader p ≡ (known layout pid s).reader p = λ p. kind-numbered number (is_reader p) s.files.files in
      let writers : (p : ℕ) → (known layout pid (state_numbered number s)).writer p ≡ (known layout pid s).writer p = λ p. kind-numbered number (is_writer p) s.files.files in
      let families = map-map (family_of layout) (process_numbered number) s.living in
      let pages = pages-numbered layout s in
      λ j. record {
        caller = callers j;
        user = s.user;
        opened = λ fd. files fd j;
        pipe = λ p. map.get s.files.pipes p;
        reader = λ p. readers p j;
        writer = λ p. writers p j;
        pipes = map.len s.files.pipes;
        fact = fact_at s.tree;
        sizes = record { inodes = map.len s.tree.inodes; names = s.tree.names; bytes = s.tree.bytes; next = s.tree.next };
        input = drop s.taken s.input;
        living = families j;
        ended = s.ended;
        next_pid = s.next_pid;
        pages = pages j;
      }

-- ---- the laws

pub looks-are-numbered : {T X : Type 0} → LooksAreNumbered T X
looks-are-numbered = record {
  processes = λ number. process-numbered number;
  descriptors = λ number. named-numbered number;
  opened_files = λ number. opened-numbered number;
  files = λ number n s. file-numbered number s.files n;
  places = λ number n s. place-numbered number s.files n;
  directories = λ number. cwd-numbered number;
  executables = λ number. exe-numbered number;
}

pub processes-are-asked : {T X A : Type 0} → ProcessesAreAsked T X A
processes-are-asked = λ number. asked-numbered number

pub known-is-numbered : {T X : Type 0} → KnownIsNumbered T X
known-is-numbered = record { calls = λ number. known-numbered number; room = λ number. pages-numbered number }
