use Rattle.std.proofs.Common.{◌∙◌, length, ap}
use Rattle.pt_canon.proofs.AnswerLemmas.{shown_as_many}
use Rattle.pt_canon.proofs.answers.Answers.len.Goals as goal

pub returns : goal.returns
returns c = c.len.ensures.len ∙ shown_as_many c.self.inside.cache.entries ∙ ap length c.self.view_is
