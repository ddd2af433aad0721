-- States of a view stay such where the caller's memory was read, and where a call made a change.
use Rattle.std.specs.FinMap as map
use Rattle.std.proofs.Common.{◌≡◌, ℕ, ◌≤◌, Option, Some, refl, sym, ap, subst, ◌∙◌, arith}
use Rattle.std.specs.Prelude.{IsSome}
use Rattle.std.specs.Option.{option_map_or}
use Rattle.kr_seen.specs.rv_mem.Pages.{Pages, IsPlaced, IsWhole}
use Rattle.kr_seen.proofs.law_lawful.AfterLemmas.{parts-of}
use Rattle.kr_seen.proofs.law_lawful.ChangeLemmas.{every-change-keeps}
use Rattle.kr_seen.proofs.law_lawful.OwnChangeLemmas.{process-keeps}
use Rattle.kr_seen.specs.kr_model.Applied.{Mounts, applied, images, with_image}
use Rattle.kr_seen.specs.kr_model.Change.{Change}
use Rattle.kr_seen.specs.kr_model.Conditions.{CanBeMade}
use Rattle.kr_seen.specs.kr_model.Known.{Known, pages_in_all}
use Rattle.kr_seen.specs.kr_model.Lawful.{IsLawful}
use Rattle.kr_seen.specs.kr_model.MemoryRows.{process_pages}
use Rattle.kr_seen.specs.kr_model.State as model
use Rattle.kr_seen.specs.kr_ops.declared.state.State.{State}
use Rattle.kr_seen.specs.kr_ops.Meaning.{meaning}
use Rattle.kr_seen.specs.kr_ops.Sound.{IsOfView, IsServed, IsSound}
use Rattle.kr_seen.proofs.kr_ops.UseLemmas.{sound-of}
use Rattle.kr_seen.specs.PerformedRows.{memory_of, no_memory, with_memory, with_memory_of}
use Rattle.kr_transfer.specs.Moving.{OnlyReads}

module _ {T : Type 0} {M : ℕ} (s : State T M) (view : IsOfView s) where
  pub view-sound : IsSound s
  view-sound = sound-of view.number view.table s view.lawful view.served

  -- a change of a living caller that could be made
  pub view-changed : (t : State T M) (pid : ℕ) (c : Change) (mounts : Mounts T) → IsServed t → IsSome (model.process pid (meaning s)) → CanBeMade view.number view.table mounts pid (meaning s) c
      → meaning t ≡ applied images mounts pid c (meaning s) → IsOfView t
  view-changed t pid c mounts served lives can made = record {
    number = view.number;
    table = view.table;
    lawful = subst (λ u. IsLawful view.number view.table u) (sym made) (every-change-keeps T view.number view.table mounts pid c (meaning s) view.lawful lives can);
    served = served;
  }

  -- a memory of the same pages
  pub view-read : (t : State T M) (pid : ℕ) → OnlyReads pid s t → IsOfView t
  view-read t pid reads = record {
    number = view.number;
    table = view.table;
    lawful = subst (λ u. IsLawful view.number view.table u) (sym reads.leaves.means) kept;
    served = reads.leaves.sound.served;
  }
    where
      own-pages : (p : model.Process T model.Image) → model.process pid (meaning s) ≡ Some p → p.image.memory.pages ≡ (memory_of pid (meaning t)).pages
      own-pages p e = sym (reads.pages ∙ ap (λ (o : Option (model.Process T model.Image)). (option_map_or (λ (p : model.Process T model.Image). p.image.memory) o no_memory).pages) e)

      as-many : pages_in_all model.image_layout (with_memory_of pid (memory_of pid (meaning t)) (meaning s)).living ≡ pages_in_all model.image_layout (meaning s).living
      as-many = sym (ap (λ (u : model.State T model.Image). pages_in_all model.image_layout u.living) reads.leaves.means) ∙ ap (λ (k : Known). k.pages) reads.leaves.known

      kept : IsLawful view.number view.table (with_memory_of pid (memory_of pid (meaning t)) (meaning s))
      kept =
          process-keeps view.number view.table (meaning s) view.lawful pid (with_image (with_memory (memory_of pid (meaning t)))) (record { pids = λ p. refl; cwds = λ p. refl; exes = λ p. refl; counts = λ p n. refl })
          (λ p e.
          let own = view.lawful.processes pid p e in
          record {
            cwd = own.cwd;
            exe = own.exe;
            exe_name = own.exe_name;
            breaks = own.breaks;
            whole = subst (λ (m : Pages). IsWhole m) (own-pages p e) own.whole;
            paged = subst (λ (m : Pages). IsPlaced m) (own-pages p e) own.paged;
            pages = subst (λ (m : Pages). map.len m ≤ process_pages) (own-pages p e) own.pages;
          })
          (λ p e. let own = (parts-of view.number view.table (meaning s) view.lawful).descriptors pid p e in record { each = own.each })
          (let same = as-many in let room = view.lawful.room in omega arith)
