-- A program behind the changes that put it in place of another.
use Rattle.std.proofs.Common.{◌≡◌, ℕ, [], ◌∷◌, Option, Some, None, Ok, refl, sym, ap, ◌∙◌}
use Rattle.std.specs.Prelude.{IsSome}
use Rattle.std.specs.Option.{option_map}
use Rattle.std.proofs.lemmas.Option.{same_Some}
use Rattle.law_programs.specs.kr_execve.Execution.{Program, changes_of}
use Rattle.law_stops.specs.kr_model.Applied.{Mounts, all_applied, applied, images, with_image, with_living, with_program}
use Rattle.law_stops.specs.kr_model.Change.{CloseOnExec, OfFound, ReplaceExecutable, ReplaceImage}
use Rattle.law_stops.specs.kr_model.State.{Image, Process, State, process, with_process}
use Rattle.law_stops.specs.law_turns.Registers.{registers_in}
use Rattle.law_stops.proofs.law_turns.RegisterLemmas.{changes_keep_registers}
use Rattle.law_stops.proofs.AnsweredLemmas.{each_twice, lives_changed}

module _ (pid : ℕ) where
  -- registers and a memory that were there before a program don't show behind it
  pub forgotten : (mounts : Mounts ℕ) (program : Program) (h : Image → Image) (s : State ℕ Image)
      → all_applied images mounts pid (changes_of (Ok program)) (with_living (with_process pid (with_image h)) s) ≡ all_applied images mounts pid (changes_of (Ok program)) s
  forgotten mounts program h s =
      ap (λ ps. all_applied images mounts pid (ReplaceExecutable OfFound program.exe.host program.dir program.name ∷ CloseOnExec ∷ []) (with_living (λ _. ps) s))
      (each_twice pid (with_program program.image program.brk) (with_image h) (λ p. refl) s.living)

  -- ---- a program goes on

  -- with its own registers
  pub record Behind (mounts : Mounts ℕ) (program : Program) (s : State ℕ Image) : Type 0 where
    pub process_there : Process ℕ Image
    pub lives : process pid (all_applied images mounts pid (changes_of (Ok program)) s) ≡ Some process_there
    pub registers : process_there.image.regs ≡ program.image.regs

  pub behind : (mounts : Mounts ℕ) (program : Program) (s : State ℕ Image) → IsSome (process pid s) → Behind mounts program s
  behind mounts program s some = by (process pid s) refl some
    where
      after : State ℕ Image
      after = all_applied images mounts pid (changes_of (Ok program)) s

      loaded : State ℕ Image
      loaded = applied images mounts pid (ReplaceImage program.image program.brk) s

      kept : (p : Process ℕ Image) → process pid s ≡ Some p → registers_in pid after ≡ Some program.image.regs
      kept p lives =
          changes_keep_registers mounts pid pid (ReplaceExecutable OfFound program.exe.host program.dir program.name ∷ CloseOnExec ∷ []) loaded program.image.regs refl
          (ap (option_map (λ (p : Process ℕ Image). p.image.regs)) (lives_changed pid (with_program program.image program.brk) (λ p. refl) s p lives))

      found : (o : Option (Process ℕ Image)) → process pid after ≡ o → registers_in pid after ≡ Some program.image.regs → Behind mounts program s
      found None none is = absurd (never (sym (ap (option_map (λ (p : Process ℕ Image). p.image.regs)) none) ∙ is))
        where
          never : {A : Type 0} {a : A} → None ≡ Some a → ⊥
          never e = cc
      found (Some q) lives is = record { process_there = q; lives = lives; registers = same_Some _ _ (sym (ap (option_map (λ (p : Process ℕ Image). p.image.regs)) lives) ∙ is) }

      by : (o : Option (Process ℕ Image)) → process pid s ≡ o → IsSome o → Behind mounts program s
      by None none some = absurd cc
      by (Some p) lives some = found (process pid after) refl (kept p lives)
