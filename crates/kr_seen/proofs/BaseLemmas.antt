-- Where paths begin, over a state with the numbers of its mounts.
use Rattle.std.proofs.Common.{◌≡◌, ℕ, Bool, true, false, cond, Option, Some, None, refl, ap, ◌∙◌}
use Rattle.std.specs.Prelude.{List, Result, Ok, Err}
use Rattle.std.specs.Bool.{if◌then◌else◌}
use Rattle.std.proofs.lemmas.Option.{none-some, same_Some}
use Rattle.kr_ops.specs.pr_base.Paths.{is_absolute}
use Rattle.kr_ops.specs.kr_calls.PathTable.{PathUse}
use Rattle.std.specs.Option.{option_map, option_map_or}
use Rattle.kr_ops.specs.pr_base.declared.errno.Errno.{Errno}
use Rattle.kr_ops.specs.pr_base.declared.errno.Errno.TheVariants.{EBADF, ENOENT, ENOTDIR}
use Rattle.kr_ops.specs.kr_tree.declared.place.Place.{Place}
use Rattle.kr_ops.specs.kr_view.Leads.{numbered}
use Rattle.kr_ops.specs.kr_view.View.{Row, root_place}
use Rattle.kr_ops.specs.kr_model.Applied.{cwd_of}
use Rattle.kr_ops.specs.kr_model.Asking.{descriptor_number, is_working_directory}
use Rattle.kr_ops.specs.kr_files.declared.opened.Opened.{Opened}
use Rattle.kr_ops.specs.kr_files.declared.opened.What.{What}
use Rattle.kr_ops.specs.kr_files.declared.opened.What.TheVariants.{Dir, File, In, Out, Err as ErrorPart, PipeRead, PipeWrite}
use Rattle.kr_ops.specs.kr_model.FileRows.{is_dir}
use Rattle.kr_ops.specs.kr_model.State.{Image, Process, State, opened, process}
use Rattle.kr_ops.specs.kr_model.Walks.{base_of, place_of_open, place_of_descriptor}
use Rattle.kr_seen.specs.Numbered.{opened_numbered, process_numbered, state_numbered}
use Rattle.kr_seen.proofs.NumberedLemmas.{opened-numbered, process-numbered}

module _ {T : Type 0} (number : T → ℕ) (table : List Row) (s : State T Image) (pid fd : ℕ) where
  -- what is open under a descriptor
  pub at-open : (o : Option (Opened T)) → opened pid fd s ≡ o
      → place_of_descriptor table pid (state_numbered number s) (Some fd) ≡ option_map_or (λ o. place_of_open (opened_numbered number o)) o (Err EBADF)
  at-open o e = ap (λ o. option_map_or place_of_open o (Err EBADF)) (opened-numbered number s pid fd ∙ ap (option_map (opened_numbered number)) e) ∙ by o
    where
      by : (o : Option (Opened T)) → option_map_or place_of_open (option_map (opened_numbered number) o) (Err EBADF) ≡ option_map_or (λ o. place_of_open (opened_numbered number o)) o (Err EBADF)
      by None = refl
      by (Some o) = refl

-- what is open as a directory leads to its place, all else to ENOTDIR
pub is-directory : {T : Type 0} (number : T → ℕ) (o : Opened T) (p : Place T) → o.what ≡ Dir → o.place ≡ Some p → place_of_open (opened_numbered number o) ≡ Ok (numbered number p)
is-directory number o p what place =
    ap (λ what. cond (is_dir what) (option_map_or (λ p. Ok p) (option_map (numbered number) o.place) (Err ENOTDIR)) (Err ENOTDIR)) what
    ∙ ap (λ o. option_map_or (λ p. Ok p) (option_map (numbered number) o) (Err ENOTDIR)) place

pub has-no-place : {T : Type 0} (number : T → ℕ) (o : Opened T) → o.place ≡ None → place_of_open (opened_numbered number o) ≡ Err ENOTDIR
has-no-place number o place =
    let what : What = o.what in
    ap (λ o. cond (is_dir what) (option_map_or (λ p. Ok p) (option_map (numbered number) o) (Err ENOTDIR)) (Err ENOTDIR)) place ∙ either (is_dir o.what)
  where
    either : (b : Bool) → cond {A = Result (Place ℕ) Errno} b (Err ENOTDIR) (Err ENOTDIR) ≡ Err ENOTDIR
    either true = refl
    either false = refl

pub not-dir : (what : What) → (what ≡ Dir → ⊥) → is_dir what ≡ false
not-dir Dir other = absurd (other refl)
not-dir File other = refl
not-dir In other = refl
not-dir Out other = refl
not-dir ErrorPart other = refl
not-dir (PipeRead p) other = refl
not-dir (PipeWrite p) other = refl

pub no-directory : {T : Type 0} (number : T → ℕ) (o : Opened T) → is_dir o.what ≡ false → place_of_open (opened_numbered number o) ≡ Err ENOTDIR
no-directory number o what = ap (λ b. cond b (option_map_or (λ p. Ok p) (option_map (numbered number) o.place) (Err ENOTDIR)) (Err ENOTDIR)) what

-- ---- the base of a path

module _ {T : Type 0} (number : T → ℕ) (table : List Row) (s : State T Image) (pid : ℕ) (u : PathUse) where
  abbrev relative : Result (Place ℕ) Errno
  relative =
      if is_working_directory u.dirfd then option_map_or (λ p. Ok p) (cwd_of pid (state_numbered number s)) (Err ENOENT)
      else place_of_descriptor table pid (state_numbered number s) (descriptor_number u.dirfd)

  -- a relative path is taken from the working directory
  pub from-cwd : (p : Place T) → is_absolute u.text ≡ false → is_working_directory u.dirfd ≡ true → cwd_of pid s ≡ Some p → base_of table pid (state_numbered number s) u ≡ Ok (numbered number p)
  from-cwd p relative_path here e =
      ap (λ b. cond b (Ok (root_place table)) relative) relative_path
      ∙ ap (λ b. cond b (option_map_or (λ p. Ok p) (cwd_of pid (state_numbered number s)) (Err ENOENT)) (place_of_descriptor table pid (state_numbered number s) (descriptor_number u.dirfd))) here
      ∙ ap (λ o. option_map_or (λ p. Ok p) (option_map (λ p. p.cwd) o) (Err ENOENT)) (process-numbered number s pid)
      ∙ by (process pid s) e
    where
      by : (o : Option (Process T Image)) → option_map (λ p. p.cwd) o ≡ Some p → option_map_or (λ p. Ok p) (option_map (λ p. p.cwd) (option_map (process_numbered number) o)) (Err ENOENT) ≡ Ok (numbered number p)
      by None e = absurd (none-some p e)
      by (Some q) e = ap (λ p. Ok (numbered number p)) (same_Some q.cwd p e)

  -- or from the directory that is open under a descriptor
  pub from-descriptor : (fd : Option ℕ) → is_absolute u.text ≡ false → is_working_directory u.dirfd ≡ false → descriptor_number u.dirfd ≡ fd → base_of table pid (state_numbered number s) u ≡ place_of_descriptor table pid (state_numbered number s) fd
  from-descriptor fd relative_path there e =
      ap (λ b. cond b (Ok (root_place table)) relative) relative_path
      ∙ ap (λ b. cond b (option_map_or (λ p. Ok p) (cwd_of pid (state_numbered number s)) (Err ENOENT)) (place_of_descriptor table pid (state_numbered number s) (descriptor_number u.dirfd))) there
      ∙ ap (place_of_descriptor table pid (state_numbered number s)) e
