-- What clone(2) replies, test by test.
use Rattle.std.specs.FinMap as map
use Rattle.std.proofs.Common.{◌≡◌, ℕ, ◌+◌, ◌<◌, ◌≤◌, Bool, true, false, not, length, get_or, Option, sym, ap, subst, ◌∙◌, arith}
use Rattle.std.specs.Prelude.{IfSome, nat_le, nat_lt, if◌then◌else◌}
use Rattle.std.proofs.lemmas.Bool.Decides.{nat_tests}
use Rattle.std.proofs.lemmas.List.{length-map}
use Rattle.kr_seen.specs.rv_mem.Memory.{Memory, page_count}
use Rattle.kr_seen.proofs.rv_mem.LayoutLemmas.{layouts_follow}
use Rattle.kr_seen.specs.pr_base.declared.errno.Errno.TheVariants.{EAGAIN, EINVAL, ENOMEM}
use Rattle.kr_seen.specs.kr_model.Known.{Caller, Known, family_of, known}
use Rattle.kr_seen.specs.kr_model.MemoryRows.{all_pages}
use Rattle.kr_seen.specs.kr_model.ProcessRows.{clone_row, is_fork, most_processes, told_born}
use Rattle.kr_seen.specs.kr_model.Reply.{Replying, refuse}
use Rattle.kr_seen.specs.kr_model.State as model
use Rattle.kr_seen.specs.kr_ops.declared.state.Process.{Process}
use Rattle.kr_seen.specs.kr_ops.declared.state.State.{State}
use Rattle.kr_seen.specs.kr_ops.Living.{HasPid}
use Rattle.kr_seen.specs.kr_ops.Meaning.{ended_meaning, meaning, process_meaning}
use Rattle.kr_seen.specs.kr_ops.Sound.{IsSound}
use Rattle.kr_seen.proofs.kr_ops.OpeningLemmas.{found}
use Rattle.kr_rows.proofs.ProcessLemmas.{known-caller}

module _ (k : Known) (flags sp ctid : ℕ) where
  -- what follows the test of processes, and what that of flags
  abbrev by_pages : Bool → Replying
  by_pages passed = if passed then refuse ENOMEM else told_born k flags sp ctid

  abbrev by_processes : Bool → Replying
  by_processes many = if many then refuse EAGAIN else by_pages (nat_lt all_pages (k.pages + map.len k.caller.layout))

  abbrev by_flags : Bool → Replying
  by_flags fork = if not fork then refuse EINVAL else by_processes (nat_le most_processes (length k.living + length k.ended))

  pub no-fork : is_fork flags ≡ false → clone_row k flags sp ctid ≡ refuse EINVAL
  no-fork e = ap by_flags e

  pub too-many : is_fork flags ≡ true → most_processes ≤ length k.living + length k.ended → clone_row k flags sp ctid ≡ refuse EAGAIN
  too-many e many = let passes : nat_le most_processes (length k.living + length k.ended) ≡ true = grind (arith, nat_tests) in ap by_flags e ∙ ap by_processes passes

  pub no-room : is_fork flags ≡ true → length k.living + length k.ended < most_processes → all_pages < k.pages + map.len k.caller.layout → clone_row k flags sp ctid ≡ refuse ENOMEM
  no-room e few more =
      let passes : nat_le most_processes (length k.living + length k.ended) ≡ false = grind (arith, nat_tests) in
      let over : nat_lt all_pages (k.pages + map.len k.caller.layout) ≡ true = grind (arith, nat_tests) in
      ap by_flags e ∙ ap by_processes passes ∙ ap by_pages over

  pub forks : is_fork flags ≡ true → length k.living + length k.ended < most_processes → k.pages + map.len k.caller.layout ≤ all_pages → clone_row k flags sp ctid ≡ told_born k flags sp ctid
  forks e few most =
      let passes : nat_le most_processes (length k.living + length k.ended) ≡ false = grind (arith, nat_tests) in
      let over : nat_lt all_pages (k.pages + map.len k.caller.layout) ≡ false = grind (arith, nat_tests) in
      ap by_flags e ∙ ap by_processes passes ∙ ap by_pages over

-- ---- what is known of processes and pages

module _ {T : Type 0} {M : ℕ} (s : State T M) where
  pub counts-known : (pid : ℕ) → length (known model.image_layout pid (meaning s)).living + length (known model.image_layout pid (meaning s)).ended ≡ length s.living.items + length s.ended.items
  counts-known pid =
      let living = length-map (meaning s).living (family_of model.image_layout) in
      let living_too = length-map s.living.items process_meaning in
      let ended = length-map s.ended.items ended_meaning in
      omega arith

  module _ (pid k : ℕ) (p : Process T M) (sound : IsSound s) (at : HasPid pid k s.living.items) (e : p ≡ get_or s.living.items k p) where
    pub pages-known : (known model.image_layout pid (meaning s)).pages + map.len (known model.image_layout pid (meaning s)).caller.layout ≡ s.room + page_count p.mem.pages
    pages-known =
        ap (λ n. n + map.len (known model.image_layout pid (meaning s)).caller.layout) (sym sound.served.room)
        ∙ ap (λ (caller : Caller). s.room + map.len caller.layout) (known-caller s pid k p sound at e)
        ∙ ap (λ n. s.room + n) (layouts_follow.count p.mem.pages)

    -- what is said of the caller's memory
    pub of-memory : (Q : Memory → Type 0) → Q p.mem → IfSome (model.process pid (meaning s)) (λ q. Q q.image.memory)
    of-memory Q holds = subst (λ (o : Option (model.Process T model.Image)). IfSome o (λ q. Q q.image.memory)) (sym (found s pid k p sound at e)) holds
