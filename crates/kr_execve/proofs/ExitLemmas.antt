-- How an execve in code ends, by the step at which it ends.
use Rattle.std.specs.FinMap as map
use Rattle.std.proofs.Common.{◌≡◌, ℕ, Bool, true, false, cond, List, [], ◌∷◌, Option, Some, None, refl, sym, ap, subst, ◌∙◌}
use Rattle.std.specs.Prelude.{Result, Ok, Err, IsSome, map as map_list, sum}
use Rattle.std.specs.Option.{option_map, option_map_or}
use Rattle.std.proofs.lemmas.Option.{same_Some}
use Rattle.elf_load.specs.pr_base.declared.errno.Errno.{Errno}
use Rattle.elf_load.specs.pr_base.declared.errno.Errno.TheVariants.{ENOMEM}
use Rattle.elf_load.specs.pr_base.declared.path.WalkMode.TheVariants.{Look}
use Rattle.elf_load.specs.rv_mem.Memory.{Memory}
use Rattle.elf_load.specs.Image.{image_exceeds}
use Rattle.kr_exec.specs.kr_tree.declared.place.Host.TheVariants.{Node}
use Rattle.kr_exec.specs.kr_tree.declared.place.Place.{Place}
use Rattle.kr_exec.specs.kr_tree.Lawful.{AreBytes}
use Rattle.kr_exec.specs.kr_view.declared.target.Reach.{Reach}
use Rattle.kr_exec.specs.kr_view.declared.target.Target.{Target}
use Rattle.kr_exec.specs.kr_view.declared.target.WalkFault.{WalkFault}
use Rattle.kr_exec.specs.kr_view.declared.target.WalkFault.TheVariants as fault
use Rattle.kr_exec.specs.kr_view.Answers.{IsAnswer, IsReached, target_numbered, told}
use Rattle.kr_exec.specs.kr_view.Component.{Surroundings}
use Rattle.kr_exec.specs.kr_view.InTree.{IsPlaceOf}
use Rattle.kr_exec.specs.kr_view.Leads.{numbered}
use Rattle.kr_exec.specs.kr_view.Reach.{reach_after}
use Rattle.kr_exec.specs.kr_view.View.{Row}
use Rattle.kr_exec.specs.kr_view.Walk.{PlaceTarget}
use Rattle.kr_perform.specs.law_allowed.Texts.{IsText, LinksHaveTexts}
use Rattle.kr_perform.specs.law_lawful.Laws.{CanAllBeMade}
use Rattle.kr_perform.proofs.law_lawful.AfterLemmas.{some-of}
use Rattle.kr_perform.specs.kr_model.Applied.{Mounts, all_applied, cwd_of, images}
use Rattle.kr_perform.specs.kr_model.Known.{Known, pages_in_all}
use Rattle.kr_perform.specs.kr_model.Lawful.{IsLawful, IsNameOrNone, is_file_at}
use Rattle.kr_perform.specs.kr_model.ProcessDirectory.{around_of}
use Rattle.kr_perform.specs.kr_model.State as model
use Rattle.kr_perform.specs.kr_model.State.{image_layout, process}
use Rattle.kr_perform.specs.kr_model.Walks as results
use Rattle.kr_perform.specs.law_allowed.Told.{SourcesAreNamed}
use Rattle.kr_perform.proofs.law_allowed.RowLemmas.{lawful-memory, stays-like}
use Rattle.kr_perform.specs.kr_ops.declared.state.State.{State}
use Rattle.kr_perform.specs.kr_ops.Meaning.{meaning}
use Rattle.kr_perform.specs.kr_ops.Sound.{IsServed}
use Rattle.kr_perform.specs.kr_seen.Carrying.{memory_of, no_memory, with_memory_of}
use Rattle.kr_perform.proofs.kr_seen.CarryLemmas.{own-memory}
use Rattle.kr_perform.specs.kr_seen.Numbered.{process_numbered, state_numbered}
use Rattle.kr_perform.proofs.kr_seen.NumberedLemmas.{process-numbered}
use Rattle.kr_perform.proofs.NumberedLemmas.{lawful_numbered}
use Rattle.kr_perform.proofs.TextLemmas.{text_bytes}
use Rattle.kr_perform.specs.kr_seen.Using.{HasMemory}
use Rattle.kr_perform.proofs.kr_seen.UsingLemmas.{memory-is}
use Rattle.kr_exec.specs.Answers.{Answers, Reaches, plan_numbered}
use Rattle.kr_exec.specs.Exec.{are_too_big, exec_plan, exec_reach}
use Rattle.kr_exec.specs.Finding.{is_program, program_at, program_walk}
use Rattle.kr_exec.specs.Interpreters.{bytes_at}
use Rattle.kr_exec.specs.Lists.{lists_at}
use Rattle.kr_exec.specs.declared.lists.Lists.{Lists}
use Rattle.kr_exec.specs.declared.plan.ExecPlan.{ExecPlan}
use Rattle.kr_execve.specs.Execution.{exceeds, execution_reach, ids_of, loaded, planned_from, program_of}
use Rattle.kr_execve.specs.Executing.{IsReadyFor, Leaves, Puts, ReadsLists, done, lists_in, program_changes, told_of}
use Rattle.kr_execve.specs.declared.executing.Executed.TheVariants.{Refused, Replaced}
use Rattle.kr_execve.proofs.AroundLemmas.{around-read}
use Rattle.kr_execve.proofs.LeftLemmas.{is-left, not-found, not-found-reach, not-read, planned-is, read-reach}
use Rattle.kr_execve.proofs.PlannedLemmas.{planned-of}
use Rattle.kr_execve.proofs.PuttingLemmas.{can-all}
use Rattle.kr_execve.proofs.ProgramLemmas.{program-file, IsStanding}
use Rattle.kr_execve.proofs.StandingLemmas.{found-stands, plan-stands}

maps-map : {A B C : Type 0} (f : B → C) (g : A → B) (xs : List A) → map_list f (map_list g xs) ≡ map_list (λ x. f (g x)) xs
maps-map f g [] = refl
maps-map f g (x ∷ xs) = ap (λ ys. f (g x) ∷ ys) (maps-map f g xs)

module _ {T : Type 0} {M : ℕ} (number : T → ℕ) (table : List Row) (pid : ℕ) (path : List ℕ) (args env : ℕ) (old : State T M) (lawful : IsLawful number table (meaning old)) (served : IsServed old) (lives : IsSome (process pid (meaning old)))
    (base : Place T) (cwd : cwd_of pid (meaning old) ≡ Some base) where
  abbrev s : model.State T model.Image
  s = meaning old

  abbrev shown : model.State ℕ model.Image
  shown = state_numbered number s

  abbrev at : Place ℕ
  at = numbered number base

  abbrev around : Surroundings
  around = around_of table pid shown

  abbrev memory : Memory
  memory = (lists_in args env (memory_of pid s)).memory

  abbrev none : Mounts T
  none = record { found = None; directory = None }

  -- ---- nothing was found

  pub exit-find : (A : Type 0) (before after : Reach) (f : WalkFault) → IsAnswer {M = T} number (program_at around at path) (Err f) → IsReached {T = A} around Look (program_walk around at path) before after (Err f)
      → Leaves number table pid path args env old old before after (told_of (Err f))
  exit-find A before after fault.NoMemory answer reach = λ wanted. absurd (wanted refl)
  exit-find A before after (fault.Err e) answer reach = λ wanted.
      is-left number table pid path args env old old before after lives none (Err e) (memory_of pid s) (Refused e) (not-found number table pid path args env s base cwd e answer) (sym (own-memory pid s lawful.pids)) refl refl tt served
      (reach ∙ sym (not-found-reach number table pid path args env s base cwd before e answer))

  module _ (w : PlaceTarget) (found : program_at around at path ≡ Ok w) (before walked : Reach) (walk : walked ≡ reach_after around Look (program_walk around at path) before) (mid : State T M) where
    -- ---- the lists weren't read

    pub exit-read : (f : WalkFault) → ReadsLists pid args env old mid (Err f) → Leaves number table pid path args env old mid before walked (told_of (Err f))
    exit-read fault.NoMemory reads = λ wanted. absurd (wanted refl)
    exit-read (fault.Err e) reads = λ wanted.
        is-left number table pid path args env old mid before walked lives none (Err e) memory (Refused e) (not-read number table pid path args env s base cwd w found e reads.0) reads.1.means refl refl tt reads.1.sound.served
        (walk ∙ sym (read-reach number table pid path args env s base cwd before w found (Err e) reads.0))

    module _ (lists : Lists) (reply : (lists_in args env (memory_of pid s)).reply ≡ Ok lists) (has : HasMemory pid memory old mid) (target : Target T) (told_is : told w ≡ target_numbered number target) where
      abbrev around_mid : Surroundings
      around_mid = around_of table pid (state_numbered number (meaning mid))

      same-around : around_mid ≡ around
      same-around = ap (λ u. around_of table pid (state_numbered number u)) has.means ∙ around-read pid memory number table s pid

      abbrev plan_mid : Result (ExecPlan ℕ) Errno
      plan_mid = exec_plan around_mid at (target_numbered number target) path lists.args lists.env

      plan-same : plan_mid ≡ planned_from table pid shown path args env at w lists
      plan-same = λ i. exec_plan (same-around i) at (sym told_is i) path lists.args lists.env

      abbrev reach_mid : Reach
      reach_mid = exec_reach around_mid at (target_numbered number target) path lists.args lists.env walked

      reach-same : (after : Reach) → after ≡ reach_mid → after ≡ execution_reach table pid shown path args env (memory_of pid s) before
      reach-same after reached =
          reached ∙ (λ i. exec_reach (same-around i) at (sym told_is i) path lists.args lists.env (walk i)) ∙ sym (read-reach number table pid path args env s base cwd before w found (Ok lists) reply)

      -- ---- nothing was planned

      pub exit-plan : (A : Type 0) (after : Reach) (f : WalkFault) → Answers {A = ExecPlan T} (plan_numbered number) plan_mid (Err f) → Reaches {T = A} reach_mid walked after (Err f)
          → Leaves number table pid path args env old mid before after (told_of (Err f))
      exit-plan A after fault.NoMemory answer reach = λ wanted. absurd (wanted refl)
      exit-plan A after (fault.Err e) answer reach = λ wanted.
          is-left number table pid path args env old mid before after lives none (Err e) memory (Refused e)
          (planned-is number table pid path args env s base cwd w found lists reply ∙ ap (λ (r : Result (ExecPlan ℕ) Errno). record { reply = results.and_then r (loaded shown); memory = memory }) (sym plan-same ∙ answer))
          has.means refl refl tt has.sound.served (reach-same after reach)

      -- ---- what is planned can be put there

      pub read-lawful : IsLawful number table (meaning mid)
      read-lawful =
          let p = some-of (process pid s) lives in
          let own = lawful.processes pid p.0 p.1 in
          let same : memory_of pid s ≡ p.0.image.memory = ap (λ (o : Option (model.Process T model.Image)). option_map_or (λ p. p.image.memory) o no_memory) p.1 in
          subst (IsLawful number table) (sym has.means)
          (subst (λ (m : Memory). IsLawful number table (with_memory_of pid (lists_in args env m).memory s)) (sym same)
          (lawful-memory number table s lawful pid p.0 p.1 (lists_in args env p.0.image.memory).memory (stays-like (lists_at args env) p.0.image.memory own.whole own.paged)))

      module _ (plan : ExecPlan T) (answer : plan_mid ≡ Ok (plan_numbered number plan)) (text : IsText path) (bytes : AreBytes path) (links : LinksHaveTexts s.tree) (sources : SourcesAreNamed table)
          (program : is_program mid.tree mid.user plan.place.host ≡ true) where
        file : is_file_at s.tree plan.place.host ≡ true
        file = subst (λ (u : model.State T model.Image). is_file_at u.tree plan.place.host ≡ true) has.means (program-file mid.tree mid.user plan.place.host program)

        stands-there : IsPlaceOf s.tree table (numbered number plan.place) × IsNameOrNone plan.name
        stands-there =
            let q = some-of (process pid s) lives in
            let p : model.Process ℕ model.Image = process_numbered number q.0 in
            let own : process pid shown ≡ Some p = process-numbered number s pid ∙ ap (option_map (process_numbered number)) q.1 in
            let here : q.0.cwd ≡ base = same_Some q.0.cwd base (sym (ap (option_map (λ (p : model.Process T model.Image). p.cwd)) q.1) ∙ cwd) in
            let same : p.cwd ≡ at = ap (numbered number) here in
            let by_numbers = lawful_numbered number table s lawful in
            let good : IsStanding s.tree table (told w) = found-stands table pid shown by_numbers links p own path w (text_bytes path text bytes) (ap (λ b. program_at around b path) same ∙ found) in
            plan-stands table pid shown by_numbers links p own sources (told w) path lists.args lists.env (plan_numbered number plan) good
            (ap (λ b. exec_plan around b (told w) path lists.args lists.env) same ∙ sym plan-same ∙ answer) file

        pub ready : plan.place.host ≡ Node plan.file → are_too_big plan.args plan.env ≡ false → IsReadyFor pid plan mid
        ready node fit =
            let kind = planned-of around_mid at (λ target. Unit {0}) (λ script found line own is finds. tt) (target_numbered number target) path lists.args lists.env (plan_numbered number plan) tt answer in
            record {
              number = number;
              table = table;
              lawful = read-lawful;
              served = has.sound.served;
              lives = has.lives;
              loadable = record { file = node; accepted = kind.2.accepted; read = kind.2.read; fit = fit };
              stands = subst (λ (u : model.State T model.Image). IsPlaceOf u.tree table (numbered number plan.place)) (sym has.means) stands-there.0;
              is_file = program-file mid.tree mid.user plan.place.host program;
              named = stands-there.1;
            }

        -- ---- the program was put there, or not

        pages-same : pages_in_all image_layout shown.living ≡ pages_in_all image_layout (with_memory_of pid memory s).living
        pages-same =
            ap sum (maps-map (λ (p : model.Process ℕ model.Image). map.len (image_layout p.image)) (process_numbered number) s.living)
            ∙ sym (ap (λ (k : Known). k.pages) has.known)
            ∙ ap (λ (u : model.State T model.Image). pages_in_all image_layout u.living) has.means

        exceeds-same : exceeds shown (plan_numbered number plan) ≡ exceeds (meaning mid) plan
        exceeds-same =
            ap (λ n. exceeds_with n) pages-same ∙ sym (ap (λ (u : model.State T model.Image). exceeds u plan) has.means)
          where
            exceeds_with : ℕ → Bool
            exceeds_with n = image_exceeds n (bytes_at s.tree plan.place.host) plan.plan plan.args plan.env (ids_of s.user)

        whole-is : (b : Bool) → exceeds (meaning mid) plan ≡ b
            → done number table pid path args env s ≡ record { reply = cond b (Err ENOMEM) (Ok (program_of s.tree s.user (plan_numbered number plan))); memory = memory }
        whole-is b is =
            planned-is number table pid path args env s base cwd w found lists reply
            ∙ ap (λ (r : Result (ExecPlan ℕ) Errno). record { reply = results.and_then r (loaded shown); memory = memory }) (sym plan-same ∙ answer)
            ∙ ap (λ b. record { reply = cond b (Err ENOMEM) (Ok (program_of s.tree s.user (plan_numbered number plan))); memory = memory }) (exceeds-same ∙ is)

        module _ (after : Reach) (new : State T M) (reached : after ≡ reach_mid) where
          pub exit-refused : (f : WalkFault) → Puts pid plan mid new (Err f) → Leaves number table pid path args env old new before after (told_of (Err f))
          exit-refused fault.NoMemory puts = λ wanted. absurd (wanted refl)
          exit-refused (fault.Err e) puts = λ wanted.
              is-left number table pid path args env old new before after lives none (Err ENOMEM) memory (Refused e) (whole-is true puts.1) (puts.2 ∙ has.means) refl (ap (λ (e : Errno). Err e) (sym puts.0)) tt puts.3
              (reach-same after reached)

          -- what was read of the memory that is gone
          marks-mid : (memory_of pid (meaning mid)).read_marked ≡ memory.read_marked
          marks-mid = ap (λ (u : model.State T model.Image). (memory_of pid u).read_marked) has.means ∙ ap (λ (m : Memory). m.read_marked) (memory-is pid memory s lives)

          pub exit-put : (marks_read : Bool) → marks_read ≡ (memory_of pid (meaning mid)).read_marked → Puts pid plan mid new (Ok tt) → Leaves number table pid path args env old new before after (told_of (Ok marks_read))
          exit-put marks_read marks puts = λ wanted.
              let mounts : Mounts T = record { found = Some plan.place.mount; directory = None } in
              let there = subst (λ (u : model.State T model.Image). IsPlaceOf u.tree table (numbered number plan.place)) (sym has.means) stands-there.0 in
              let can = can-all number table pid (meaning mid) plan read-lawful has.lives puts.1 there (program-file mid.tree mid.user plan.place.host program) stands-there.1 mounts refl in
              is-left number table pid path args env old new before after lives mounts (Ok (program_of s.tree s.user (plan_numbered number plan))) memory (Replaced marks_read) (whole-is false puts.0)
              (puts.2 mounts refl ∙ ap (λ (u : model.State T model.Image). all_applied images mounts pid (program_changes u plan) u) has.means) refl
              (program_of s.tree s.user (plan_numbered number plan), refl, marks ∙ marks-mid)
              (subst (λ (u : model.State T model.Image). CanAllBeMade number table mounts pid u (program_changes u plan)) has.means can) puts.3 (reach-same after reached)
