-- Calls on processes are allowed.
use Rattle.std.specs.FinMap as map
use Rattle.std.proofs.Common.{subst, replicate, ℕ, ◌+◌, ◌≤◌, ◌<◌, Bool, true, false, not, ◌&&◌, nat_lt, List, [], ◌∷◌, length, refl, sym, ap, arith, Some, None, Option, IsSome, ℤ}
use Rattle.std.specs.Prelude.{◌==◌, nat_le}
use Rattle.std.specs.Option.{IfSome}
use Rattle.std.specs.Int.{to_le_bytes, w32}
use Rattle.std.proofs.lemmas.List.{length-map}
use Rattle.law_lawful.specs.pr_base.declared.errno.Errno.TheVariants.{EFAULT}
use Rattle.law_lawful.proofs.rv_mem.LayoutLemmas.{layouts_follow}
use Rattle.law_lawful.specs.kr_view.View.{Row}
use Rattle.law_lawful.specs.kr_calls.Arguments.{has}
use Rattle.law_lawful.specs.kr_model.Applied.{Mounts}
use Rattle.law_lawful.specs.kr_model.Change.{Change, Reap}
use Rattle.law_lawful.specs.kr_model.Conditions.{CanFork}
use Rattle.law_lawful.specs.kr_model.Known.{Known, Caller, known, family_of}
use Rattle.law_lawful.specs.kr_model.MemoryRows.{all_pages}
use Rattle.law_lawful.specs.kr_model.ProcessRows.{usage_size, most_processes, is_fork, set_tid, told_born, clone_row, null_or_writable, unless_null, tell_end, reap, wait_for, wait4_row, umask_row, exit_row}
use Rattle.law_lawful.specs.kr_model.Reply.{Replying, done}
use Rattle.law_lawful.specs.kr_model.State.{Image, image_layout, Process, Ended, State, process}
use Rattle.law_lawful.specs.Laws.{CanAllBeMade}
use Rattle.law_lawful.proofs.AfterLemmas.{some-of}
use Rattle.law_allowed.specs.Allowed.{IsAllowed}
use Rattle.law_allowed.proofs.KnownLemmas.{not-less, not-most, caller-is}
use Rattle.law_allowed.specs.Lasting.{AreModest}
use Rattle.law_allowed.proofs.RowLemmas.{quietly, Allowed, unchanged, refuses, ended, tested, wrote, either, row-allowed}

module _ {M : Type 0} (number : M → ℕ) (table : List Row) (mounts : Mounts M) (pid : ℕ) (s : State M Image) (lives : IsSome (process pid s)) where
  abbrev k : Known
  k = known image_layout pid s

  abbrev Can : List Change → Type 0
  Can cs = CanAllBeMade number table mounts pid s cs × AreModest s.user cs

  umask : (m : ℕ) → Allowed Can false (umask_row k m)
  umask m = ended ((lives, omega arith, tt), quietly refl)

  exit : (code : ℤ) → Allowed Can false (exit_row code)
  exit code = ended ((lives, lives, tt), quietly refl)

  -- ---- children

  can-fork : length k.living + length k.ended < most_processes → k.pages + map.len k.caller.layout ≤ all_pages → (sp : ℕ) (told_at : Option ℕ)
      → IfSome (process pid s) (CanFork (record { pid = k.next_pid; sp = sp; told_at = told_at }) s)
  can-fork few room sp told_at =
      let own = some-of (process pid s) lives in
      let p : Process M Image = own.0 in
      let living = length-map s.living (family_of image_layout) in
      let layout = ap (λ (c : Caller). map.len c.layout) (caller-is pid s p own.1) in
      let pages = layouts_follow.count p.image.memory.pages in
      subst (λ (o : Option (Process M Image)). IfSome o (CanFork (record { pid = k.next_pid; sp = sp; told_at = told_at }) s)) (sym own.1)
      (record { next = refl; few = omega arith; room = omega arith })

  clone : (flags sp ctid : ℕ) → Allowed Can false (clone_row k flags sp ctid)
  clone flags sp ctid =
      either (not (is_fork flags)) (λ _. unchanged)
      (λ _. either (nat_le most_processes (length k.living + length k.ended)) (λ _. unchanged)
      (λ few. either (nat_lt all_pages (k.pages + map.len k.caller.layout)) (λ _. unchanged)
      (λ room. told (not-most most_processes (length k.living + length k.ended) few) (not-less all_pages (k.pages + map.len k.caller.layout) room))))
    where
      told : length k.living + length k.ended < most_processes → k.pages + map.len k.caller.layout ≤ all_pages → Allowed Can false (told_born k flags sp ctid)
      told few room = either (has flags set_tid) (λ _. tested (λ b. ended ((lives, can-fork few room sp _, tt), quietly refl))) (λ _. ended ((lives, can-fork few room sp None, tt), quietly refl))

  null-tested : (at n : ℕ) {next : Bool → Replying} → ((b : Bool) → Allowed Can false (next b)) → Allowed Can false (null_or_writable at n next)
  null-tested at n allowed = either (at == 0) (λ _. allowed true) (λ _. tested allowed)

  null-written : {w : Bool} (at : ℕ) (bytes : List ℕ) {next : Replying} → ((w : Bool) → Allowed Can w next) → Allowed Can w (unless_null at bytes next)
  null-written {w} at bytes allowed = either (at == 0) (λ _. allowed w) (λ _. wrote (allowed true))

  usage-told : {w : Bool} (usage : ℕ) (e : Ended) → Allowed Can w (unless_null usage (replicate usage_size 0) (done e.pid (Reap e.pid ∷ [])))
  usage-told usage e = null-written usage (replicate usage_size 0) (λ w. ended ((lives, tt, tt), quietly refl))

  end-told : (status usage : ℕ) (e : Ended) → Allowed Can false (tell_end status usage e)
  end-told status usage e = null-written status (to_le_bytes w32 e.status) (λ w. usage-told usage e)

  reaped : (status usage : ℕ) (e : Ended) → Allowed Can false (reap status usage e)
  reaped status usage e = null-tested status 4 (λ first. null-tested usage usage_size (λ second. either (first && second) (λ _. end-told status usage e) (λ _. refuses EFAULT)))

  waited : (lives no_hang : Bool) (status usage : ℕ) (o : Option Ended) → Allowed Can false (wait_for lives no_hang status usage o)
  waited lives no_hang status usage (Some e) = reaped status usage e
  waited lives no_hang status usage None = either lives (λ _. either no_hang (λ _. unchanged) (λ _. unchanged)) (λ _. unchanged)

  wait4 : (child : ℤ) (status : ℕ) (options : ℤ) (usage : ℕ) → Allowed Can false (wait4_row k pid child status options usage)
  wait4 child status options usage = waited _ _ status usage _

-- calls on processes
pub record AreProcessRowsAllowed {M : Type 0} (number : M → ℕ) (table : List Row) (mounts : Mounts M) (pid : ℕ) : Type 0 where
  pub umask : (m : ℕ) → IsAllowed number table mounts pid (λ k. umask_row k m)
  pub exit : (code : ℤ) → IsAllowed number table mounts pid (λ k. exit_row code)
  pub clone : (flags sp ctid : ℕ) → IsAllowed number table mounts pid (λ k. clone_row k flags sp ctid)
  pub wait4 : (child : ℤ) (status : ℕ) (options : ℤ) (usage : ℕ) → IsAllowed number table mounts pid (λ k. wait4_row k pid child status options usage)

pub process-rows : (M : Type 0) (number : M → ℕ) (table : List Row) (mounts : Mounts M) (pid : ℕ) → AreProcessRowsAllowed number table mounts pid
process-rows M number table mounts pid = record {
  umask = λ m. row-allowed number table mounts pid (λ t next. Unit {0}) (λ k. umask_row k m) (λ s l lives rests. umask number table mounts pid s lives m);
  exit = λ code. row-allowed number table mounts pid (λ t next. Unit {0}) (λ k. exit_row code) (λ s l lives rests. exit number table mounts pid s lives code);
  clone = λ flags sp ctid. row-allowed number table mounts pid (λ t next. Unit {0}) (λ k. clone_row k flags sp ctid) (λ s l lives rests. clone number table mounts pid s lives flags sp ctid);
  wait4 = λ child status options usage.
      row-allowed number table mounts pid (λ t next. Unit {0}) (λ k. wait4_row k pid child status options usage) (λ s l lives rests. wait4 number table mounts pid s lives child status options usage);
}
