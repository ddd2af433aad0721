-- What an execve(2) comes to without an identity, so it does with one: a new program is told who it is on both machines.
use Rattle.std.proofs.Common.{refl}
use Rattle.law_stops.specs.pt_args.Laws.{ShelvesHoldTheirItems, TextsAreReadBack}
use Rattle.law_stops.specs.kr_calls.declared.request.Request.TheVariants as call
use Rattle.law_stops.specs.pt_faker.Faking.{Faking}
use Rattle.law_stops.specs.Beginning.{GoesUntoldToProgram}
use Rattle.law_stops.specs.Going.{untold}
use Rattle.law_stops.specs.Scene.{Scene}
use Rattle.law_stops.proofs.CallerLemmas.{comes_untold}
use Rattle.law_stops.proofs.KernelLemmas.{programs_go_together}
use Rattle.law_execves.specs.Going.{GoesOn}
use Rattle.law_execves.proofs.FollowLemmas.{execves_go_on}
use Rattle.law_execves.specs.Told.{FakedExecvesGoTogether, UntoldExecvesGoOn}

-- what is so of both kernels where nobody is told anything is all that has to be so
pub goes_untold : (scene : Scene Faking) → GoesOn (untold scene) → GoesUntoldToProgram scene
goes_untold scene goes = record {
  ends = goes.ends;
  children = goes.children;
  pending = goes.pending;
  kept = goes.kept;
  begun = goes.begun;
  begins = goes.begins;
  also_begins = goes.also_begins;
  together = goes.together;
}

pub untold_execves_go_on : TextsAreReadBack → ShelvesHoldTheirItems → UntoldExecvesGoOn
untold_execves_go_on back hold scene path args env comes decoded calm = goes_untold scene (execves_go_on back hold (untold scene) path args env (comes_untold scene comes) decoded calm)

pub faked_execves_go_together : TextsAreReadBack → ShelvesHoldTheirItems → FakedExecvesGoTogether
faked_execves_go_together back hold scene path args env comes decoded =
    programs_go_together scene (call.Execve path args env) comes decoded refl (untold_execves_go_on back hold scene path args env comes decoded)
