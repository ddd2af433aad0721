use Rattle.std.proofs.Common.{◌≡◌, ℕ, ◌≤◌, ◌<◌, true, List, length, arith, sym, ◌∙◌}
use Rattle.std.specs.Prelude.{nat_le}
use Rattle.std.proofs.lemmas.Bool.Decides.{nat_tests}
use Rattle.pr_gen.specs.declared.steps.ProbeStep.{ProbeStep}
use Rattle.pr_gen.specs.Budget.{Fits, budget}
use Rattle.pr_gen.specs.Steps.{AreEarlier, IsProbe, texts}
use Rattle.pr_gen.proofs.conditions.is_probe.Goals as goal
use Rattle.pr_gen.proofs.conditions.is_probe.Goals.{then-steps-le-MOST_STEPS, else-steps-le-MOST_STEPS}

probe_from_parts : (steps : List ProbeStep) → length steps ≤ 256 → Fits (budget 65536 1048576) (texts steps) → AreEarlier 0 steps → IsProbe steps
probe_from_parts steps few fits earlier = record {
  few = few;
  without_zeros = fits.clean;
  few_texts = fits.count;
  few_bytes = fits.size;
  earlier = earlier;
}

too_many : (n : ℕ) → nat_le n 256 ≡ true → 256 < n → ⊥
too_many n few many = grind (arith, nat_tests)

pub returns-then-are_few_texts : goal.returns-then-are_few_texts
returns-then-are_few_texts c =
    elim c.if-steps-le-MOST_STEPS.branch [
      | then-steps-le-MOST_STEPS w ↦
          (λ e. probe_from_parts c.args.steps.now (omega (arith, w.if-steps-le-MOST_STEPS.true)) (w.are_few_texts.ensures.0 (sym w.value-is ∙ c.if-are_few_texts.true)) (c.are_earlier.ensures.0 e), λ p. c.are_earlier.ensures.1 p.earlier)
      | else-steps-le-MOST_STEPS w ↦ absurd (too_many (length c.args.steps.now) (sym w.value-is ∙ c.if-are_few_texts.true) w.if-steps-le-MOST_STEPS.false)
    ]
