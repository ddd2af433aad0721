-- What an execve leaves, by what the definition comes to.
use Rattle.std.proofs.Common.{◌≡◌, ℕ, suc, List, Option, Some, None, sym, ap, subst, ◌∙◌, arith}
use Rattle.std.specs.Prelude.{Result, Ok, Err, IsSome}
use Rattle.std.specs.Option.{option_map, option_map_or}
use Rattle.std.proofs.lemmas.Option.{none-some, same_Some}
use Rattle.elf_load.specs.pr_base.declared.errno.Errno.{Errno}
use Rattle.elf_load.specs.pr_base.declared.errno.Errno.TheVariants.{ENOENT}
use Rattle.elf_load.specs.pr_base.declared.path.WalkMode.TheVariants.{Look}
use Rattle.elf_load.specs.rv_mem.Actions.{CarriedOut, Done, carried_out}
use Rattle.elf_load.specs.rv_mem.Memory.{Memory}
use Rattle.kr_perform.specs.kr_inode.declared.user.User.{User}
use Rattle.kr_exec.specs.kr_tree.declared.place.Place.{Place}
use Rattle.kr_exec.specs.kr_view.declared.target.Reach.{Reach}
use Rattle.kr_exec.specs.kr_view.Leads.{numbered}
use Rattle.kr_exec.specs.kr_view.Reach.{reach_after}
use Rattle.kr_exec.specs.kr_view.View.{Row}
use Rattle.kr_exec.specs.kr_view.Walk.{PlaceTarget}
use Rattle.kr_perform.specs.law_lawful.Laws.{CanAllBeMade}
use Rattle.kr_perform.proofs.law_lawful.AfterLemmas.{some-of}
use Rattle.kr_perform.proofs.law_lawful.ChangeLemmas.{all-changes-keep}
use Rattle.kr_perform.specs.law_allowed.Lasting.{AreModest, Lasts}
use Rattle.kr_perform.proofs.law_allowed.ChangeLemmas.{modest-last}
use Rattle.kr_perform.specs.kr_model.Applied.{Mounts, cwd_of}
use Rattle.kr_perform.specs.kr_model.Lawful.{IsLawful}
use Rattle.kr_perform.specs.kr_model.ProcessDirectory.{around_of}
use Rattle.kr_perform.specs.kr_model.State as model
use Rattle.kr_perform.specs.kr_model.State.{process}
use Rattle.kr_perform.specs.kr_model.Walks as results
use Rattle.kr_perform.proofs.law_allowed.RowLemmas.{lawful-memory, stays-like}
use Rattle.kr_perform.specs.kr_ops.declared.state.State.{State}
use Rattle.kr_perform.specs.kr_ops.Meaning.{meaning}
use Rattle.kr_perform.specs.kr_ops.Sound.{IsServed}
use Rattle.kr_perform.specs.kr_seen.Carrying.{memory_of, no_memory, with_memory_of}
use Rattle.kr_perform.specs.Lawful.{LastsLawful}
use Rattle.kr_perform.specs.kr_seen.Numbered.{process_numbered, state_numbered}
use Rattle.kr_perform.proofs.kr_seen.NumberedLemmas.{process-numbered}
use Rattle.kr_exec.specs.Finding.{program_walk}
use Rattle.kr_exec.specs.Lists.{Trying, and_then, lists_at}
use Rattle.kr_exec.specs.declared.lists.Lists.{Lists}
use Rattle.kr_exec.proofs.ListLemmas.{and_then_is, on_reply}
use Rattle.kr_execve.specs.Execution.{Program, after_execution, changes_of, execution, execution_from, execution_reach, found_from, found_reach, loaded, mount_of, planned_from, planned_reach, reach_from}
use Rattle.kr_execve.specs.Executing.{IsLeft, IsTold, done, lists_in}
use Rattle.kr_execve.specs.declared.executing.Executed.{Executed}

-- ---- what lasts

-- the changes of an execve make nothing and draw nothing
modest : (user : User) (r : Result Program Errno) → AreModest user (changes_of r)
modest user (Ok p) = record { users = (tt, (tt, (tt, tt))); drawn = record { names = omega arith; files = omega arith; pids = omega arith } }
modest user (Err e) = record { users = tt; drawn = record { names = omega arith; files = omega arith; pids = omega arith } }

module _ {T : Type 0} (number : T → ℕ) (table : List Row) (pid : ℕ) (path : List ℕ) (args env : ℕ) where
  module _ (s : model.State T model.Image) (lives : IsSome (process pid s)) where
    abbrev whole : CarriedOut (Result Program Errno)
    whole = done number table pid path args env s

    -- reading leaves a lawful state
    read-lawful : IsLawful number table s → IsLawful number table (with_memory_of pid whole.memory s)
    read-lawful lawful =
        let p = some-of (process pid s) lives in
        let own = lawful.processes pid p.0 p.1 in
        let same : memory_of pid s ≡ p.0.image.memory = ap (λ (o : Option (model.Process T model.Image)). option_map_or (λ p. p.image.memory) o no_memory) p.1 in
        let row : Trying Program = execution table pid (state_numbered number s) path args env in
        subst (λ (m : Memory). IsLawful number table (with_memory_of pid (carried_out row m).memory s)) (sym same)
        (lawful-memory number table s lawful pid p.0 p.1 (carried_out row p.0.image.memory).memory (stays-like row p.0.image.memory own.whole own.paged))

    lasts-after : (mounts : Mounts T) → CanAllBeMade number table mounts pid (with_memory_of pid whole.memory s) (changes_of whole.reply) → (calls : ℕ) → LastsLawful number table calls s
        → LastsLawful number table (suc calls) (after_execution mounts pid whole s)
    lasts-after mounts can calls before =
        let read = read-lawful before.lawful in
        let own = before.lasts in
        let kept : Lasts calls (with_memory_of pid whole.memory s) = record {
          texts = own.texts;
          owners = own.owners;
          user = own.user;
          drawn = record { inodes = own.drawn.inodes; serials = own.drawn.serials; files = own.drawn.files; pipes = own.drawn.pipes; pids = own.drawn.pids };
        }
        in
        record {
          lawful = all-changes-keep T number table mounts pid (changes_of whole.reply) (with_memory_of pid whole.memory s) read can;
          lasts = modest-last T number table mounts pid calls (changes_of whole.reply) (with_memory_of pid whole.memory s) read can (modest s.user whole.reply) kept;
        }

  -- ---- what is left

  module _ {M : ℕ} (old new : State T M) (old_reach new_reach : Reach) (lives : IsSome (process pid (meaning old))) where
    pub is-left : (mounts : Mounts T) (r : Result Program Errno) (m : Memory) (result : Executed) → done number table pid path args env (meaning old) ≡ record { reply = r; memory = m }
        → meaning new ≡ after_execution mounts pid (record { reply = r; memory = m }) (meaning old) → option_map number mounts.found ≡ mount_of r → IsTold (record { reply = r; memory = m }) result
        → CanAllBeMade number table mounts pid (with_memory_of pid m (meaning old)) (changes_of r) → IsServed new
        → new_reach ≡ execution_reach table pid (state_numbered number (meaning old)) path args env (memory_of pid (meaning old)) old_reach
        → IsLeft number table pid path args env old new old_reach new_reach result
    is-left mounts r m result is state placed told can served reach =
        let s = meaning old in
        let state_is = state ∙ ap (λ (d : CarriedOut (Result Program Errno)). after_execution mounts pid d s) (sym is) in
        let can_all = subst (λ (d : CarriedOut (Result Program Errno)). CanAllBeMade number table mounts pid (with_memory_of pid d.memory s) (changes_of d.reply)) (sym is) can in
        record {
          executed = record {
            mounts = mounts;
            placed = placed ∙ ap (λ (d : CarriedOut (Result Program Errno)). mount_of d.reply) (sym is);
            told = subst (λ (d : CarriedOut (Result Program Errno)). IsTold d result) (sym is) told;
            state = state_is;
          };
          reach = reach;
          lasts = λ calls before. subst (LastsLawful number table (suc calls)) (sym state_is) (lasts-after s lives mounts can_all calls before);
          served = served;
        }

  -- ---- what the definition comes to, step by step

  module _ (s : model.State T model.Image) (base : Place T) (cwd : cwd_of pid s ≡ Some base) where
    abbrev shown : model.State ℕ model.Image
    shown = state_numbered number s

    abbrev at : Place ℕ
    at = numbered number base

    abbrev plans : PlaceTarget → Lists → Trying Program
    plans w lists = Done (results.and_then (planned_from table pid shown path args env at w lists) (loaded shown))

    cwd-numbered : cwd_of pid shown ≡ Some at
    cwd-numbered = ap (option_map (λ (p : model.Process ℕ model.Image). p.cwd)) (process-numbered number s pid) ∙ by (process pid s) cwd
      where
        by : (o : Option (model.Process T model.Image)) → option_map (λ (p : model.Process T model.Image). p.cwd) o ≡ Some base → option_map (λ (p : model.Process ℕ model.Image). p.cwd) (option_map (process_numbered number) o) ≡ Some at
        by None e = absurd (none-some base e)
        by (Some p) e = ap (λ p. Some (numbered number p)) (same_Some p.cwd base e)

    begun : done number table pid path args env s ≡ carried_out (execution_from table pid shown path args env at) (memory_of pid s)
    begun = ap (λ (o : Option (Place ℕ)). carried_out (option_map_or (execution_from table pid shown path args env) o (Done (Err ENOENT))) (memory_of pid s)) cwd-numbered

    pub not-found : (e : Errno) → found_from table pid shown path args env at ≡ Err e → done number table pid path args env s ≡ record { reply = Err e; memory = memory_of pid s }
    not-found e is = begun ∙ ap (λ (r : Result PlaceTarget Errno). carried_out (and_then (Done r) (λ w. and_then (lists_at args env) (plans w))) (memory_of pid s)) is

    module _ (w : PlaceTarget) (is : found_from table pid shown path args env at ≡ Ok w) where
      goes : done number table pid path args env s ≡ on_reply (plans w) (lists_in args env (memory_of pid s)).reply (lists_in args env (memory_of pid s)).memory
      goes =
          begun
          ∙ ap (λ (r : Result PlaceTarget Errno). carried_out (and_then (Done r) (λ w. and_then (lists_at args env) (plans w))) (memory_of pid s)) is
          ∙ and_then_is (lists_at args env) (plans w) (memory_of pid s)

      pub not-read : (e : Errno) → (lists_in args env (memory_of pid s)).reply ≡ Err e → done number table pid path args env s ≡ record { reply = Err e; memory = (lists_in args env (memory_of pid s)).memory }
      not-read e reply = goes ∙ ap (λ (r : Result Lists Errno). on_reply (plans w) r (lists_in args env (memory_of pid s)).memory) reply

      pub planned-is : (lists : Lists) → (lists_in args env (memory_of pid s)).reply ≡ Ok lists
          → done number table pid path args env s ≡ record { reply = results.and_then (planned_from table pid shown path args env at w lists) (loaded shown); memory = (lists_in args env (memory_of pid s)).memory }
      planned-is lists reply = goes ∙ ap (λ (r : Result Lists Errno). on_reply (plans w) r (lists_in args env (memory_of pid s)).memory) reply

    -- ---- what was reached

    module _ (r : Reach) where
      abbrev walked : Reach
      walked = reach_after (around_of table pid shown) Look (program_walk (around_of table pid shown) at path) r

      from : execution_reach table pid shown path args env (memory_of pid s) r ≡ found_reach table pid shown path args env (memory_of pid s) at (found_from table pid shown path args env at) walked
      from = ap (λ (o : Option (Place ℕ)). option_map_or (reach_from table pid shown path args env (memory_of pid s) r) o r) cwd-numbered

      pub not-found-reach : (e : Errno) → found_from table pid shown path args env at ≡ Err e → execution_reach table pid shown path args env (memory_of pid s) r ≡ walked
      not-found-reach e is = from ∙ ap (λ (a : Result PlaceTarget Errno). found_reach table pid shown path args env (memory_of pid s) at a walked) is

      pub read-reach : (w : PlaceTarget) → found_from table pid shown path args env at ≡ Ok w → (a : Result Lists Errno) → (lists_in args env (memory_of pid s)).reply ≡ a
          → execution_reach table pid shown path args env (memory_of pid s) r ≡ planned_reach table pid shown path args env at w a walked
      read-reach w is a reply =
          from ∙ ap (λ (a : Result PlaceTarget Errno). found_reach table pid shown path args env (memory_of pid s) at a walked) is
          ∙ ap (λ (a : Result Lists Errno). planned_reach table pid shown path args env at w a walked) reply
