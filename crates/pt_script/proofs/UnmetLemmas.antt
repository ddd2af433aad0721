-- Whether the process directory is unmet behind scripts, one at a time.
use Rattle.std.proofs.Common.{◌≡◌, ◌∙◌, ◌-◌, ◌≤◌, ◌≢◌, ◌+◌, ℕ, zero, suc, Bool, true, false, List, Option, Ok, Err, if◌then◌else◌, arith, refl, sym, ap}
use Rattle.pt_args.specs.pt_canon.Canon.{IsAnswer, IsWalkNoted}
use Rattle.pt_args.specs.pt_canon.TextWalk.{TextSurroundings}
use Rattle.pt_args.specs.pt_canon.declared.canon.WalkErr.{WalkErr}
use Rattle.pt_args.specs.pt_canon.declared.canon.WalkErr.TheVariants as fault
use Rattle.pt_args.specs.kr_calls.Expansion.{is_script}
use Rattle.pt_script.specs.Expanding.{ends_unmet, interpreted, interpreted_unmet, unmet_behind}
use Rattle.pt_script.specs.declared.command.Command.{Command}

module _ (texts : TextSurroundings) (working : Option (List ℕ)) (env_bytes : ℕ) where
  abbrev ends : ℕ → Command → Bool → Bool
  ends left c unmet = ends_unmet texts working env_bytes left c unmet

  -- what is no script asks for nothing more
  still : (left : ℕ) (c : Command) (unmet : Bool) → is_script c.program.head ≡ false → ends left c unmet ≡ unmet
  unfolding ends_unmet
  still zero c unmet is = refl
  still (suc left) c unmet is = ap (λ b. if b then unmet_behind (ends_unmet texts working env_bytes left) (interpreted texts working env_bytes c) (interpreted_unmet texts working c unmet) else unmet) is

  last : (c : Command) (unmet : Bool) → ends 0 c unmet ≡ unmet
  unfolding ends_unmet
  last c unmet = refl

  step : (left : ℕ) (c : Command) (unmet : Bool) → is_script c.program.head ≡ true → ends (suc left) c unmet ≡ unmet_behind (ends_unmet texts working env_bytes left) (interpreted texts working env_bytes c) (interpreted_unmet texts working c unmet)
  unfolding ends_unmet
  step left c unmet is = ap (λ b. if b then unmet_behind (ends_unmet texts working env_bytes left) (interpreted texts working env_bytes c) (interpreted_unmet texts working c unmet) else unmet) is

  module _ (scripts : ℕ) (c : Command) (unmet whole : Bool) (comes : ends (5 - scripts) c unmet ≡ whole) where
    pub ended-unmet : is_script c.program.head ≡ false → unmet ≡ whole
    ended-unmet is = sym (still (5 - scripts) c unmet is) ∙ comes

    pub looped-unmet : scripts ≡ 5 → unmet ≡ whole
    looped-unmet all =
        let none : 0 ≡ 5 - scripts = omega arith in
        sym (last c unmet) ∙ ap (λ left. ends left c unmet) none ∙ comes

    module _ (now : TextSurroundings) (same : now ≡ texts) (few : scripts ≤ 5) (more : scripts ≢ 5) (is : is_script c.program.head ≡ true) where
      stepped : unmet_behind (ends_unmet texts working env_bytes (5 - (scripts + 1))) (interpreted now working env_bytes c) (interpreted_unmet now working c unmet) ≡ whole
      stepped =
          let left : suc (5 - (scripts + 1)) ≡ 5 - scripts = omega arith in
          ap (λ t. unmet_behind (ends_unmet texts working env_bytes (5 - (scripts + 1))) (interpreted t working env_bytes c) (interpreted_unmet t working c unmet)) same
          ∙ sym (step (5 - (scripts + 1)) c unmet is) ∙ ap (λ n. ends n c unmet) left ∙ comes

      pub next-unmet : (next : Command) (new : Bool) → interpreted now working env_bytes c ≡ Ok next → new ≡ interpreted_unmet now working c unmet → ends (5 - (scripts + 1)) next new ≡ whole
      next-unmet next new answer noted =
          (λ i. unmet_behind (ends_unmet texts working env_bytes (5 - (scripts + 1))) (sym answer i) (noted i)) ∙ stepped

      pub lost-unmet : (why : WalkErr) (new : Bool) → IsAnswer {T = Command} (interpreted now working env_bytes c) (Err why) → IsWalkNoted {T = Command} (interpreted_unmet now working c unmet) new (Err why) → IsWalkNoted {T = Command} whole new (Err why)
      lost-unmet (fault.Err e) new answer noted = (λ i. unmet_behind (ends_unmet texts working env_bytes (5 - (scripts + 1))) (sym answer i) (noted i)) ∙ stepped
      lost-unmet fault.NoMemory new answer noted = tt
