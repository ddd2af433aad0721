-- A calm call with a path is what a call must be that keeps a match.
use Rattle.std.proofs.Common.{refl, sym, subst}
use Rattle.std.specs.Prelude.{IsSome}
use Rattle.std.proofs.lemmas.Bool.{or_parts}
use Rattle.law_turns.specs.Calls.{decoded_in}
use Rattle.law_turns.specs.Operating.{done_in}
use Rattle.law_turns.proofs.CalledLemmas.{decoded_lives, is_allowed}
use Rattle.law_turns.specs.PathCalls.{PathCallsAreCalm, told_at}
use Rattle.law_turns.proofs.BringLemmas.{path_calls_bring_standing}
use Rattle.law_turns.proofs.MoveLemmas.{path_calls_move_inside}
use Rattle.law_turns.proofs.RuleLemmas.{no_exec, rules_kept}

pub path_calls_are_calm : PathCallsAreCalm
path_calls_are_calm table made pid no_shelf s w p tags r others c calm same also =
    let rules = rules_kept table pid no_shelf s p r c.can.lives c.decoded (no_exec r c.kind) calm in
    record {
      kind = no_exec r c.kind;
      lives = subst IsSome (sym (decoded_lives table made pid s p c.can)) refl;
      same = same;
      unread = (or_parts (done_in pid r (told_at table pid s p r) (decoded_in pid p s)).memory.read_marked no_shelf rules.first).0;
      inside = path_calls_move_inside table made pid no_shelf s p tags r c calm;
      calm = rules.none;
      new = path_calls_bring_standing table made pid s p tags r c;
      allowed = is_allowed table made pid s p c.can r c.decoded (no_exec r c.kind);
      also_allowed = also;
    }
