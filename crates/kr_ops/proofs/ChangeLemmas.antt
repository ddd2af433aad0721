-- What a state means after one of its living processes, or what is open under one of its descriptors, was changed.
use Rattle.std.specs.FinMap as map
use Rattle.std.proofs.Common.{◌≡◌, ℕ, List, get_or, refl, sym, ap, ◌∙◌, Option, Some, None, false, Bool}
use Rattle.std.specs.Prelude.{slice_set, map as map_list}
use Rattle.std.specs.Option.{option_map, option_map_or, option_and_then, is_some}
use Rattle.law_lawful.specs.kr_files.declared.descs.Descriptor.{Descriptor}
use Rattle.law_lawful.specs.kr_files.declared.opened.Opened.{Opened}
use Rattle.law_lawful.specs.kr_files.Descriptors.{Descriptors, Named, meanings, cloexec_of, with_cloexec}
use Rattle.law_lawful.specs.kr_files.Files.{Kept, by_descriptor, on_table, with_opened}
use Rattle.law_lawful.proofs.kr_files.MountLemmas.{mapped-changed}
use Rattle.law_lawful.specs.pr_base.Maps.{changed}
use Rattle.law_lawful.proofs.pr_base.MapLemmas.{get-mapped, changed-none}
use Rattle.law_lawful.specs.kr_model.Applied.{on_opened_of, with_files, with_living}
use Rattle.law_lawful.specs.kr_model.Lawful.{ArePids}
use Rattle.law_lawful.specs.kr_model.State as model
use Rattle.kr_ops.specs.declared.state.Process.{Process}
use Rattle.kr_ops.specs.declared.state.State.{State}
use Rattle.kr_ops.specs.Living.{HaveOthers, HasPid}
use Rattle.kr_ops.specs.Meaning.{process_meaning, meaning}
use Rattle.kr_ops.proofs.ListLemmas.{apart, untouched, stored, has-number, none-found, one-found}

abbrev pub to_named : Descriptor → Named
to_named x = record { number = x.number; cloexec = x.cloexec }

abbrev pub living_as : {T : Type 0} → List (model.Process T model.Image) → model.State T model.Image → model.State T model.Image
living_as ps s = with_living (λ _. ps) s

-- a descriptor that isn't open
pub shut : (d : Descriptors) (fd : ℕ) → is_some (cloexec_of d fd) ≡ false → map.get d fd ≡ None
shut d fd e = by (map.get d fd) e
  where
    by : (o : Option Descriptor) → is_some (option_map (λ (x : Descriptor). x.cloexec) o) ≡ false → o ≡ None
    by None e = refl
    by (Some x) e = cc

module _ {T : Type 0} {M : ℕ} where
  -- ---- a process changed

  pub nobody-changed : (s : State T M) (pid : ℕ) (f : model.Process T model.Image → model.Process T model.Image) → HaveOthers pid s.living.items → meaning s ≡ with_living (model.with_process pid f) (meaning s)
  nobody-changed s pid f others = ap (λ ps. living_as ps (meaning s)) (sym (untouched pid f s.living.items others))

  pub one-changed : (s : State T M) (pid k : ℕ) (p q : Process T M) (f : model.Process T model.Image → model.Process T model.Image) → ArePids (meaning s) → HasPid pid k s.living.items → p ≡ get_or s.living.items k p
      → process_meaning q ≡ f (process_meaning p) → living_as (map_list process_meaning (slice_set s.living.items k q)) (meaning s) ≡ with_living (model.with_process pid f) (meaning s)
  one-changed s pid k p q f pids at e same =
      ap (λ ps. living_as ps (meaning s)) (stored pid f s.living.items k p q (apart s pids) at.within e (has-number pid k s.living.items at p e) same)

  -- ---- what a descriptor means

  pub named-nowhere : (s : State T M) (pid fd : ℕ) → HaveOthers pid s.living.items → model.named pid fd (meaning s) ≡ None
  named-nowhere s pid fd others = ap (option_and_then (λ (q : model.Process T model.Image). map.get q.descs fd)) (none-found pid s.living.items others)

  pub named-at : (s : State T M) (pid k fd : ℕ) (p : Process T M) → ArePids (meaning s) → HasPid pid k s.living.items → p ≡ get_or s.living.items k p
      → model.named pid fd (meaning s) ≡ option_map to_named (map.get p.descs fd)
  named-at s pid k fd p pids at e =
      ap (option_and_then (λ (q : model.Process T model.Image). map.get q.descs fd)) (one-found pid s.living.items k p (apart s pids) at.within e (has-number pid k s.living.items at p e))
      ∙ get-mapped (λ n x. to_named x) p.descs fd

  -- ---- what is open changed

  pub nothing-changed : (s : State T M) (pid fd : ℕ) (f : Opened T → Opened T) → model.named pid fd (meaning s) ≡ None → meaning s ≡ on_opened_of pid fd f (meaning s)
  nothing-changed s pid fd f none = sym (ap (λ (o : Option Named). option_map_or (λ (x : Named). with_files (with_opened x.number f) (meaning s)) o (meaning s)) none)

  pub opened-changed : (s : State T M) (pid k fd : ℕ) (p : Process T M) (f : Opened T → Opened T) (files : Kept T) → ArePids (meaning s) → HasPid pid k s.living.items → p ≡ get_or s.living.items k p
      → files ≡ by_descriptor p.descs fd (λ x. on_table (with_opened x.number f)) s.files → with_files (λ _. files.table) (meaning s) ≡ on_opened_of pid fd f (meaning s)
  opened-changed s pid k fd p f files pids at e is =
      ap (λ (kept : Kept T). with_files (λ _. kept.table) (meaning s)) is
      ∙ by (map.get p.descs fd)
      ∙ sym (ap (λ (o : Option Named). option_map_or (λ (x : Named). with_files (with_opened x.number f) (meaning s)) o (meaning s)) (named-at s pid k fd p pids at e))
    where
      by : (o : Option Descriptor)
          → with_files (λ _. (option_map_or (λ (x : Descriptor). on_table (with_opened x.number f) s.files) o s.files).table) (meaning s)
          ≡ option_map_or (λ (x : Named). with_files (with_opened x.number f) (meaning s)) (option_map to_named o) (meaning s)
      by None = refl
      by (Some x) = refl

-- ---- the flag of a descriptor

abbrev pub flagged : Bool → Named → Named
flagged on x = record { number = x.number; cloexec = on }

pub flag-changed : (d : Descriptors) (fd : ℕ) (on : Bool) → meanings (changed d fd (with_cloexec on)) ≡ changed (meanings d) fd (flagged on)
flag-changed d fd on = mapped-changed to_named d fd (with_cloexec on) (flagged on) (λ x. refl)

pub flag-nowhere : (d : Descriptors) (fd : ℕ) (on : Bool) → map.get d fd ≡ None → changed (meanings d) fd (flagged on) ≡ meanings d
flag-nowhere d fd on none = changed-none (meanings d) fd (flagged on) (get-mapped (λ n x. to_named x) d fd ∙ ap (option_map to_named) none)
