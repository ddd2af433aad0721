use Rattle.law_walks.proofs.PointLemmas.{covered_names_are_points}
use Rattle.law_walks.proofs.handed.covered_names_are_points.Goals as goal

pub returns : goal.returns
returns c = covered_names_are_points
