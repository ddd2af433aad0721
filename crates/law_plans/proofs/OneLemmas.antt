-- The text in place of a path is told alike, whatever the path is for.
use Rattle.law_plans.specs.OnePath.{SwapsAgree}
use Rattle.law_plans.proofs.CreateLemmas.{created_same}
use Rattle.law_plans.proofs.LookLemmas.{looked_up}
use Rattle.law_plans.proofs.TakeLemmas.{is_entry}

pub swaps_agree : SwapsAgree
swaps_agree table tags s w pid u opening lead both = record {
  looked = looked_up table tags s w pid u opening both lead;
  entry = is_entry table tags s w pid u opening both lead;
  created = created_same table tags s w pid u opening both lead;
}
