-- What is left where what a call reads was noted before it.
use Rattle.std.proofs.Common.{◌≡◌, ℕ, ◌*◌, ◌&&◌, Bool, true, false, cond, List, Option, refl, sym, ap, subst, ◌∙◌, inl, inr}
use Rattle.std.specs.Prelude.{Ok, Result, IsSome}
use Rattle.std.specs.Option.{option_map_or}
use Rattle.kr_hostview.specs.pr_base.declared.errno.Errno.{Errno}
use Rattle.kr_steps.specs.rv_mem.Actions.{CarriedOut}
use Rattle.kr_steps.specs.rv_mem.Memory.{Memory, after_read}
use Rattle.kr_execve.specs.kr_calls.declared.request.Request.{Request}
use Rattle.kr_execve.specs.kr_calls.declared.request.Request.TheVariants as call
use Rattle.kr_execve.specs.kr_view.View.{Row}
use Rattle.kr_steps.specs.kr_model.Known.{Known, known}
use Rattle.kr_steps.specs.kr_model.Lawful.{ArePids, IsLawful}
use Rattle.kr_steps.specs.kr_model.Operation.{operation}
use Rattle.kr_steps.specs.kr_model.Reply.{Reply}
use Rattle.kr_steps.specs.kr_model.Seen.{Seen}
use Rattle.kr_steps.specs.kr_model.State as model
use Rattle.kr_steps.specs.kr_model.State.{Image, image_layout}
use Rattle.kr_steps.specs.kr_model.Walks.{Targets, seen, targets_of}
use Rattle.kr_steps.specs.kr_model.declared.outcome.Outcome.{Outcome}
use Rattle.kr_steps.specs.law_allowed.Lasting.{Lasts}
use Rattle.kr_calm.proofs.law_lawful.AfterLemmas.{some-of}
use Rattle.kr_steps.specs.law_allowed.Told.{mounts_walked}
use Rattle.kr_steps.proofs.law_allowed.RowLemmas.{StaysLike, lawful-memory}
use Rattle.kr_hostview.specs.kr_ops.declared.state.State.{State}
use Rattle.kr_hostview.specs.kr_ops.Meaning.{meaning}
use Rattle.kr_calm.specs.kr_seen.Numbered.{state_numbered}
use Rattle.kr_calm.specs.kr_seen.Carrying.{after_row, carried, memory_of, no_memory, with_memory_of}
use Rattle.kr_calm.proofs.kr_seen.CarryLemmas.{own-memory}
use Rattle.kr_calm.specs.kr_seen.CallWalks.{AreTargets}
use Rattle.kr_calm.specs.kr_seen.declared.walks.Targets.{Targets as Told}
use Rattle.kr_steps.specs.Calls.{LastsLawful, IsCalled, Runs}
use Rattle.kr_calm.specs.Noted.{IsNoted, is_read, kills, noted}
use Rattle.kr_turns.specs.Noting.{IsNotedOrSame}

-- it is on the same pages
noted-pages : (k : Known) (r : Request) (m : Memory) → (noted k r m).pages ≡ m.pages
noted-pages k (call.Writev fd list count) m = by (kills k fd && is_read list count m)
  where
    by : (b : Bool) → (cond b (after_read m list (16 * count)) m).pages ≡ m.pages
    by true = refl
    by false = refl
noted-pages k _ m = refl

module _ {T : Type 0} {M : ℕ} (number : T → ℕ) (table : List Row) (pid : ℕ) (old mid : State T M) where
  abbrev shown : State T M → model.State ℕ Image
  shown s = state_numbered number (meaning s)

  -- a call that reads so has no path, and of another nothing is noted
  seen-noted : ArePids (meaning old) → (r : Request) → IsNoted pid r old mid → (targets_of table pid (shown mid) r ≡ targets_of table pid (shown old) r) × (seen table pid (shown mid) r ≡ seen table pid (shown old) r)
  seen-noted pids (call.Writev fd list count) is = (refl, refl)
  seen-noted pids r is =
      let same : meaning mid ≡ meaning old = is.leaves.means ∙ own-memory pid (meaning old) pids in
      (ap (λ (t : model.State T Image). targets_of table pid (state_numbered number t) r) same, ap (λ (t : model.State T Image). seen table pid (state_numbered number t) r) same)

  module _ (pids : ArePids (meaning old)) (r : Request) (is : IsNoted pid r old mid) where
    pub targets-noted : targets_of table pid (shown mid) r ≡ targets_of table pid (shown old) r
    targets-noted = (seen-noted pids r is).0

    abbrev row : State T M → CarriedOut Reply
    row s = carried pid (operation pid r (seen table pid (shown s) r) (known image_layout pid (meaning s))) (meaning s)

    rows-same : row mid ≡ row old
    rows-same =
        ap (λ (facts : Seen). carried pid (operation pid r facts (known image_layout pid (meaning mid))) (meaning mid)) (seen-noted pids r is).1 ∙ is.alike (seen table pid (shown old) r)

    -- a call that was carried out then was carried out on the state before
    pub called-noted : (after : State T M) (outcome : Outcome) → IsCalled number table pid r mid after outcome → IsCalled number table pid r old after outcome
    called-noted after outcome called = record {
      mounts = called.mounts;
      walked = called.walked ∙ ap mounts_walked targets-noted;
      carried = record {
        outcome = called.carried.outcome ∙ ap (λ (d : CarriedOut Reply). d.reply.outcome) rows-same;
        state = called.carried.state ∙ ap (λ (d : CarriedOut Reply). after_row called.mounts pid d (meaning mid)) rows-same ∙ is.after called.mounts (row old);
      };
    }

  -- what lasts of the state lasts
  pub runs-noted : (r : Request) (calls : ℕ) → IsNoted pid r old mid → IsSome (model.process pid (meaning old)) → Runs number table calls old → Runs number table calls mid
  runs-noted r calls is lives runs = record { lasts = subst (LastsLawful number table calls) (sym is.leaves.means) (record { lawful = lawful; lasts = lasts }); served = is.leaves.sound.served }
    where
      lawful : IsLawful number table (with_memory_of pid (noted (known image_layout pid (meaning old)) r (memory_of pid (meaning old))) (meaning old))
      lawful =
          let l = runs.lasts.lawful in
          let p = some-of (model.process pid (meaning old)) lives in
          let own = l.processes pid p.0 p.1 in
          let k = known image_layout pid (meaning old) in
          let same : memory_of pid (meaning old) ≡ p.0.image.memory = ap (λ (o : Option (model.Process T Image)). option_map_or (λ (q : model.Process T Image). q.image.memory) o no_memory) p.1 in
          let pages : p.0.image.memory.pages ≡ (noted k r (memory_of pid (meaning old))).pages = ap (λ (m : Memory). m.pages) (sym same) ∙ sym (noted-pages k r (memory_of pid (meaning old))) in
          lawful-memory number table (meaning old) l pid p.0 p.1 (noted k r (memory_of pid (meaning old)))
          (subst (StaysLike p.0.image.memory.pages) pages (record { whole = own.whole; placed = own.paged; layout = refl }))

      lasts : Lasts calls (with_memory_of pid (noted (known image_layout pid (meaning old)) r (memory_of pid (meaning old))) (meaning old))
      lasts =
          let own = runs.lasts.lasts in
          record {
            texts = own.texts;
            owners = own.owners;
            user = own.user;
            drawn = record { inodes = own.drawn.inodes; serials = own.drawn.serials; files = own.drawn.files; pipes = own.drawn.pipes; pids = own.drawn.pids };
          }

  -- ---- where it was noted, or nothing was

  module _ (r : Request) where
    pub targets-kept : ArePids (meaning old) → IsNotedOrSame pid r old mid → targets_of table pid (shown mid) r ≡ targets_of table pid (shown old) r
    targets-kept pids (inl is) = targets-noted pids r is
    targets-kept pids (inr same) = ap (λ (s : State T M). targets_of table pid (shown s) r) same

    pub called-kept : ArePids (meaning old) → IsNotedOrSame pid r old mid → (after : State T M) (outcome : Outcome) → IsCalled number table pid r mid after outcome → IsCalled number table pid r old after outcome
    called-kept pids (inl is) after outcome called = called-noted pids r is after outcome called
    called-kept pids (inr same) after outcome called = subst (λ (s : State T M). IsCalled number table pid r s after outcome) same called

    pub along-kept : ArePids (meaning old) → IsNotedOrSame pid r old mid → (targets : Told T) → AreTargets number (targets_of table pid (shown old) r) (Ok targets) → AreTargets number (targets_of table pid (shown mid) r) (Ok targets)
    along-kept pids noted targets are = subst (λ (answer : Result Targets Errno). AreTargets number answer (Ok targets)) (sym (targets-kept pids noted)) are

    pub lives-kept : IsNotedOrSame pid r old mid → IsSome (model.process pid (meaning old)) → IsSome (model.process pid (meaning mid))
    lives-kept (inl is) lives = is.leaves.lives
    lives-kept (inr same) lives = subst (λ (s : State T M). IsSome (model.process pid (meaning s))) (sym same) lives

    pub runs-kept : IsNotedOrSame pid r old mid → IsSome (model.process pid (meaning old)) → (calls : ℕ) → Runs number table calls old → Runs number table calls mid
    runs-kept (inl is) lives calls runs = runs-noted r calls is lives runs
    runs-kept (inr same) lives calls runs = subst (Runs number table calls) (sym same) runs
