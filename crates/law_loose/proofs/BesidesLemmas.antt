-- The laws of states that are the same but for what some processes compute on, as one.
use Rattle.std.specs.Prelude.{ℕ}
use Rattle.law_beside.proofs.BesideLemmas.{beside_is_an_equality}
use Rattle.law_beside.proofs.BetweenLemmas.{edits_stay_beside, ends_come_beside}
use Rattle.law_beside.proofs.CallLemmas.{plain_calls_come_beside}
use Rattle.law_beside.proofs.PickLemmas.{picks_are_beside}
use Rattle.law_loose.proofs.BelowLemmas.{Besides}

pub all-beside : (S : Type 0) → Besides S
all-beside S = record {
  equal = beside_is_an_equality ℕ;
  calls = plain_calls_come_beside;
  ends = ends_come_beside;
  edits = edits_stay_beside;
  picks = picks_are_beside S;
}
