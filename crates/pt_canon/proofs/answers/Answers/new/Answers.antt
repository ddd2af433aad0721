use Rattle.std.proofs.Common.{ap, subst, sym}
use Rattle.std.proofs.lemmas.List.Elements.{All-nil}
use Rattle.pt_canon.specs.KeptAnswers.{AreKept, IsKept, entries_in}
use Rattle.pt_canon.proofs.answers.Answers.new.Goals as goal

pub invariant_of-result : goal.invariant_of-result
invariant_of-result c = subst AreKept (sym c.in_ok-sparse.ensures) (record { cap = c.most_remembered.ensures; each = All-nil IsKept })

pub returns : goal.returns
returns c = ap (λ cache. entries_in cache.entries) c.in_ok-sparse.ensures
