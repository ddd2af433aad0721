-- A caller that had other registers for the time of its call, and is given its old ones back behind it.
use Rattle.std.proofs.Common.{◌≡◌, ℕ, Bool, true, false, List, [], ◌∷◌, cond, refl, sym, ap, ◌∙◌, ℤ}
use Rattle.std.specs.Prelude.{◌==◌}
use Rattle.kr_first.specs.rv_mem.Memory.{Memory}
use Rattle.kr_first.specs.rv_mem.declared.regs.Regs.{Regs}
use Rattle.kr_first.specs.kr_model.Applied.{all_applied, images, with_image, with_living}
use Rattle.kr_first.specs.kr_model.State.{Image, Process, State, at_pid, with_process}
use Rattle.kr_turns.specs.kr_steps.Answering.{answered, going, with_answer}
use Rattle.kr_turns.specs.kr_steps.Computing.{computed}
use Rattle.law_kept.specs.ImagesApart.{RegistersGivenBack}
use Rattle.law_kept.proofs.ImageApartLemmas.{changes_stand_apart}

module _ {M : Type 0} (pid : ℕ) (regs old : Regs) (memory : Memory) (value : ℤ) where
  abbrev own : Regs → Process M Image → Process M Image
  own regs = with_image (λ (image : Image). record { regs = regs; memory = memory })

  abbrev told : Process M Image → Process M Image
  told = going (with_answer value) false

  given_one : (p : Process M Image) → at_pid pid (own (with_answer value old)) (at_pid pid told (at_pid pid (own regs) p)) ≡ at_pid pid told (at_pid pid (own old) p)
  given_one p = by (p.pid == pid) refl
    where
      by : (b : Bool) → p.pid == pid ≡ b → at_pid pid (own (with_answer value old)) (at_pid pid told (cond b (own regs p) p)) ≡ at_pid pid told (cond b (own old p) p)
      by true is =
          ap (λ b. at_pid pid (own (with_answer value old)) (cond b (told (own regs p)) (own regs p))) is
          ∙ ap (λ b. cond b (own (with_answer value old) (told (own regs p))) (told (own regs p))) is
          ∙ sym (ap (λ b. cond b (told (own old p)) (own old p)) is)
      by false is =
          ap (λ b. at_pid pid (own (with_answer value old)) (cond b (told p) p)) is
          ∙ ap (λ b. cond b (own (with_answer value old) p) p) is
          ∙ sym (ap (λ b. cond b (told p) p) is)

  given_each : (ps : List (Process M Image)) → with_process pid (own (with_answer value old)) (with_process pid told (with_process pid (own regs) ps)) ≡ with_process pid told (with_process pid (own old) ps)
  given_each [] = refl
  given_each (p ∷ ps) =
      ap (λ q. q ∷ with_process pid (own (with_answer value old)) (with_process pid told (with_process pid (own regs) ps))) (given_one p)
      ∙ ap (λ qs. at_pid pid told (at_pid pid (own old) p) ∷ qs) (given_each ps)

  given_state : (s : State M Image) → computed pid (with_answer value old) memory (answered pid value (computed pid regs memory s)) ≡ answered pid value (computed pid old memory s)
  given_state s = ap (λ (ps : List (Process M Image)). with_living (λ _. ps) s) (given_each s.living)

-- ---- the law

pub registers_given_back : (M : Type 0) → RegistersGivenBack M
registers_given_back M mounts pid cs regs old given memory value s leave same =
    ap (λ (r : Regs). computed pid r memory (answered pid value (all_applied images mounts pid cs (computed pid regs memory s)))) same
    ∙ ap (λ t. computed pid (with_answer value old) memory (answered pid value t)) (changes_stand_apart M mounts pid cs regs memory s leave)
    ∙ given_state pid regs old memory value (all_applied images mounts pid cs s)
    ∙ sym (ap (answered pid value) (changes_stand_apart M mounts pid cs old memory s leave))
