use Rattle.std.proofs.Common.{◌≡◌, lit<, sym, ◌∙◌}
use Rattle.kr_steps.specs.kr_model.declared.outcome.Outcome.TheVariants as outcome
use Rattle.kr_turns.proofs.plain.settle.Goals as goal

pub answer-requires : goal.answer-requires
answer-requires g c = (lit< tt, c.requires (λ e. let other : outcome.Answer c.in-Answer.value ≡ outcome.NoMemory = sym c.in-Answer.is ∙ e in absurd cc))

pub stay-requires : goal.stay-requires
stay-requires g c = (lit< tt, c.requires (λ e. let other : outcome.Wait ≡ outcome.NoMemory = sym c.in-Wait.is ∙ e in absurd cc))
