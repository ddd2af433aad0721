use Rattle.std.proofs.Common.{ap, subst, sym}
use Rattle.std.proofs.lemmas.List.Elements.{All-nil}
use Rattle.pt_canon.specs.KeptAnswers.{AreKept, IsKept, entries_in}
use Rattle.pt_canon.proofs.answers.Answers.clear.Goals as goal

pub invariant_of-self : goal.invariant_of-self
invariant_of-self c = subst AreKept (sym c.clear.ensures) (record { cap = c.self.invariant.cap; each = All-nil IsKept })

pub returns : goal.returns
returns c = ap (λ cache. entries_in cache.entries) c.clear.ensures
