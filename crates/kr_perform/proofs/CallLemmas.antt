-- What a call with its walks leaves of a state.
use Rattle.std.proofs.Common.{◌≡◌, ◌≢◌, ℕ, suc, ◌<◌, ◌^◌, List, Option, Some, None, refl, sym, ap, subst, ◌∙◌, arith}
use Rattle.std.specs.Prelude.{Ok, Err, IsSome}
use Rattle.law_allowed.specs.pr_base.declared.errno.Errno.{Errno}
use Rattle.law_allowed.specs.kr_calls.declared.request.Request.{Request}
use Rattle.law_allowed.specs.kr_tree.Tree.{Inode}
use Rattle.law_allowed.specs.kr_view.View.{Row}
use Rattle.law_allowed.specs.kr_model.Applied.{Mounts}
use Rattle.law_allowed.specs.kr_model.Known.{Known, known}
use Rattle.law_allowed.specs.kr_model.Lawful.{ArePids}
use Rattle.law_allowed.specs.kr_model.Operation.{operation}
use Rattle.law_allowed.specs.kr_model.Reply.{refusal}
use Rattle.law_allowed.specs.kr_model.Seen.{Seen}
use Rattle.law_allowed.specs.kr_model.State as model
use Rattle.law_allowed.specs.kr_model.Walks.{seen, seen_of, targets_of, told}
use Rattle.law_allowed.specs.kr_model.declared.outcome.Outcome.{Outcome}
use Rattle.law_allowed.specs.kr_model.declared.outcome.Outcome.TheVariants.{NoMemory}
use Rattle.law_allowed.specs.Lasting.{Lasts}
use Rattle.law_allowed.proofs.RoomLemmas.{lasting-room}
use Rattle.law_allowed.specs.Calls.{HasTextPaths}
use Rattle.law_allowed.specs.Told.{mounts_walked}
use Rattle.kr_rows.specs.kr_ops.declared.state.State.{State}
use Rattle.kr_rows.specs.kr_ops.Meaning.{meaning}
use Rattle.kr_transfer.specs.kr_seen.Numbered.{state_numbered}
use Rattle.kr_transfer.specs.kr_seen.CallWalks.{AreTargets}
use Rattle.kr_transfer.specs.kr_seen.declared.walks.Targets.{Targets}
use Rattle.kr_transfer.specs.kr_seen.Carrying.{IsCarriedOut}
use Rattle.kr_transfer.proofs.kr_seen.CarryLemmas.{by-refusal}
use Rattle.kr_perform.specs.Resolving.{AreTexts}
use Rattle.kr_perform.specs.Operating.{HasNumbers, OperatesAt, mounts_at, placed_targets}
use Rattle.kr_perform.specs.Lawful.{LastsLawful}
use Rattle.kr_perform.specs.Calling.{IsCalled, MayCall, Runs}
use Rattle.kr_perform.proofs.RefusedLemmas.{walk-refuses}
use Rattle.kr_perform.proofs.ToldLemmas.{mounts-told, told-placed}

-- ---- what lasts a call more

later : {T : Type 0} (calls : ℕ) (s : model.State T model.Image) → Lasts calls s → Lasts (suc calls) s
later calls s lasts =
    let drawn = lasts.drawn in
    record {
      texts = lasts.texts;
      owners = lasts.owners;
      user = lasts.user;
      drawn = record {
        inodes = let few = drawn.inodes in omega arith;
        serials = λ i x e. let few = drawn.serials i x e in omega arith;
        files = let few = drawn.files in omega arith;
        pipes = let few = drawn.pipes in omega arith;
        pids = let few = drawn.pids in omega arith;
      };
    }

module _ {T : Type 0} {M : ℕ} (number : T → ℕ) (table : List Row) where
  -- a state that a refused call left
  pub runs-later : (calls : ℕ) (s : State T M) → Runs number table calls s → Runs number table (suc calls) s
  runs-later calls s runs = record { lasts = record { lawful = runs.lasts.lawful; lasts = later calls (meaning s) runs.lasts.lasts }; served = runs.served }

  pub has-numbers : (s : State T M) → MayCall number table s → HasNumbers s
  has-numbers s may =
      let room = lasting-room T model.Image may.calls (meaning s) may.few may.runs.lasts.lawful.tree.sound may.runs.lasts.lasts in
      record { inodes = room.inodes; serials = room.next_serials; files = room.files; pipes = room.pipes; pids = room.pids }

  pub are-texts : (s : State T M) (request : Request) → MayCall number table s → HasTextPaths request → AreTexts s.tree request
  are-texts s request may paths = record { paths = λ k u e. (paths k u e).0; links = λ k u e opens. may.runs.lasts.lasts.texts }

  module _ (pid : ℕ) (request : Request) (old new : State T M) (result : Outcome) where
    abbrev numbered : model.State ℕ model.Image
    numbered = state_numbered number (meaning old)

    -- ---- where its paths lead somewhere

    pub called : (targets : Targets T) → AreTargets number (targets_of table pid numbered request) (Ok targets) → OperatesAt number table pid request targets.first targets.second old new result → result ≢ NoMemory
        → IsCalled number table pid request old new result
    called targets are operates wanted =
        let same : told table pid numbered request (placed_targets number targets.first targets.second) ≡ seen table pid numbered request =
        sym (told-placed number table pid numbered request are.0 targets.first targets.second are.2 are.3) ∙ sym (ap (seen_of table pid numbered request) are.1)
        in
        record {
          mounts = mounts_at targets.first;
          walked = mounts-told number are.0 targets.first are.2 ∙ sym (ap mounts_walked are.1);
          carried = subst (λ (facts : Seen). IsCarriedOut (mounts_at targets.first) pid (operation pid request facts) old new result) same (operates wanted);
        }

  module _ (pid : ℕ) (request : Request) (s : State T M) (result : Outcome) where
    -- ---- where one of them leads nowhere

    pub refused-call : (e : Errno) → targets_of table pid (state_numbered number (meaning s)) request ≡ Err e → ArePids (meaning s) → result ≡ (refusal e).outcome → IsCalled number table pid request s s result
    refused-call e fails pids outcome =
        let shown = state_numbered number (meaning s) in
        let none : Mounts T = record { found = None; directory = None } in
        let k : Known = known model.image_layout pid (meaning s) in
        let is = ap (λ r. operation pid request (seen_of table pid shown request r) k) fails ∙ walk-refuses table pid shown k request e fails in
        record { mounts = none; walked = sym (ap mounts_walked fails); carried = by-refusal none pid (operation pid request (seen table pid shown request)) s s result pids e is outcome refl }
