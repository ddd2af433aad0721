use Rattle.std.proofs.Common.{◌≡◌, lit<, sym, ◌∙◌, inl, inr}
use Rattle.kr_steps.specs.kr_model.declared.outcome.Outcome.TheVariants as outcome
use Rattle.kr_turns.proofs.judging.was_read.Goals as goal

pub marks_read-requires : goal.marks_read-requires
marks_read-requires g c = (
  lit< tt,
  c.requires (λ e. elim c.in-Answer.is [
    | inl answers ↦ (let no : outcome.Answer answers.0 ≡ outcome.NoMemory = sym answers.1 ∙ e in cc)
    | inr waits ↦ (let no : outcome.Wait ≡ outcome.NoMemory = sym waits ∙ e in cc)
  ]),
)
