-- A call in two states that are equal but for what others than its caller compute on.
use Rattle.std.proofs.Common.{◌≡◌, inl, inr, ℕ, Bool, true, false, cond, ◌||◌, List, Option, Some, None, Result, Ok, Err, refl, sym, ap, subst, ◌∙◌}
use Rattle.std.specs.Prelude.{◌⊎◌, ◌==◌, neg_ℤ, pos}
use Rattle.std.specs.Option.{option_map, option_map_or}
use Rattle.std.proofs.lemmas.Bool.{or_cases, or_left, or_right}
use Rattle.kr_core.specs.pr_base.declared.errno.Errno.{Errno}
use Rattle.kr_core.specs.pr_base.declared.errno.Errno.TheVariants.{ENOENT, ENOMEM}
use Rattle.kr_core.specs.pr_base.declared.path.WalkMode.TheVariants.{Look}
use Rattle.kr_core.specs.pr_base.Errno.{errno_number}
use Rattle.kr_core.specs.rv_mem.Actions.{CarriedOut, Done, carried_out}
use Rattle.kr_core.specs.rv_mem.Memory.{Memory}
use Rattle.kr_core.specs.elf_load.Image.{image_exceeds}
use Rattle.kr_core.specs.kr_calls.Decoding.{Decoded, decoding}
use Rattle.kr_core.specs.kr_calls.declared.request.Request.{Request}
use Rattle.kr_core.specs.kr_calls.declared.request.Request.TheVariants as call
use Rattle.kr_core.specs.kr_tree.declared.place.Place.{Place}
use Rattle.kr_core.specs.kr_view.Answers.{told}
use Rattle.kr_core.specs.kr_view.Component.{Surroundings}
use Rattle.kr_core.specs.kr_view.Reach.{reach_after}
use Rattle.kr_core.specs.kr_view.View.{Row}
use Rattle.kr_core.specs.kr_view.Walk.{PlaceTarget}
use Rattle.kr_core.specs.kr_view.declared.target.Reach.{Reach}
use Rattle.kr_core.specs.kr_exec.Exec.{exec_plan, exec_reach}
use Rattle.kr_core.specs.kr_exec.Finding.{program_at, program_walk}
use Rattle.kr_core.specs.kr_exec.Interpreters.{bytes_at}
use Rattle.kr_core.specs.kr_exec.Lists.{Trying, and_then, lists_at}
use Rattle.kr_core.specs.kr_exec.declared.lists.Lists.{Lists}
use Rattle.kr_core.specs.kr_execve.Execution.{Program, after_execution, changes_of, execution, execution_reach, found_reach, ids_of, mount_of, planned_reach, program_of}
use Rattle.kr_core.specs.kr_model.Applied.{Mounts, all_applied, cwd_of, images, with_image}
use Rattle.kr_core.specs.kr_model.Change.{Change}
use Rattle.kr_core.specs.kr_model.Known.{Known, known}
use Rattle.kr_core.specs.kr_model.Lawful.{ArePids}
use Rattle.kr_core.specs.kr_model.Operation.{operation}
use Rattle.kr_core.specs.kr_model.ProcessDirectory.{around_of}
use Rattle.kr_core.specs.kr_model.Reply.{Reply}
use Rattle.kr_core.specs.kr_model.State.{Image, Layout, Process, State, image_layout, no_memory, process}
use Rattle.kr_core.specs.kr_model.Walks.{Targets, seen, targets_of}
use Rattle.kr_core.specs.kr_model.Walks as results
use Rattle.kr_core.specs.kr_model.declared.outcome.Outcome.{Outcome}
use Rattle.kr_core.specs.kr_model.declared.outcome.Outcome.TheVariants.{Answer, Wait, Ended, NoMemory}
use Rattle.kr_core.specs.kr_seen.Carrying.{after_row, memory_of, with_memory, with_memory_of}
use Rattle.kr_core.specs.kr_steps.Answering.{with_answer}
use Rattle.kr_core.specs.kr_steps.Settling.{settled}
use Rattle.kr_core.specs.kr_stops.Stopped.{computed, nothing_handed}
use Rattle.kr_core.specs.kr_turns.PlainCall.{Came, after_decoding, child_of, decoded_reach, end_of, executed, leads_to_root, operated, plain_call, plain_call_of, plain_reach, plain_reach_of, refusal_told, replaced, request_reach, requested, row_on}
use Rattle.kr_core.specs.kr_turns.Target.{target_of}
use Rattle.kr_core.specs.kr_turns.declared.plain.CallEnd.TheVariants as end
use Rattle.kr_core.specs.law_allowed.Told.{mounts_walked}
use Rattle.kr_core.proofs.law_lawful.AfterLemmas.{pids-with}
use Rattle.law_beside.specs.Beside.{AreBeside}
use Rattle.law_beside.specs.Calls.{ComeBeside, PlainCallsComeBeside, is_child}
use Rattle.law_beside.specs.Changes.{BearNext}
use Rattle.law_beside.proofs.ShownLemmas.{images-found, told-both}
use Rattle.law_beside.proofs.BesideLemmas.{beside-fewer, changes_come_beside}
use Rattle.law_beside.proofs.BetweenLemmas.{computed-beside, going-beside, noted-beside}
use Rattle.law_beside.proofs.BearLemmas.{bear-next, child-next, program-bears}
use Rattle.law_beside.proofs.ToldLemmas.{around-alike, cwd-alike, known-alike, pages-alike, reached-alike, seen-alike, targets-alike}

abbrev States : Type 0
States = State ℕ Image

module _ (among : ℕ → Bool) (table : List Row) (pid : ℕ) (is : among pid ≡ true) where
  -- ---- who computes on the same then

  -- whoever did, and a child, where one was made
  fewer-born : (child : Option ℕ) (next : ℕ) → ((q : ℕ) → is_child child q ≡ true → (q == next) ≡ true) → (s t : States) → AreBeside (λ q. among q || (q == next)) s t → AreBeside (λ q. among q || is_child child q) s t
  fewer-born child next born s t b = beside-fewer (λ q. among q || (q == next)) (λ q. among q || is_child child q) s t (λ q one. by q (or_cases (among q) (is_child child q) one)) b
    where
      by : (q : ℕ) → (among q ≡ true) ⊎ (is_child child q ≡ true) → (among q || (q == next)) ≡ true
      by q (inl own) = or_left (among q) (q == next) own
      by q (inr made) = or_right (among q) (q == next) (born q made)

  never : {A : Type 0} → false ≡ true → A
  never e = absurd cc

  -- where none was made
  childless : (s t : States) → AreBeside among s t → AreBeside (λ q. among q || is_child None q) s t
  childless s t b = beside-fewer among (λ q. among q || is_child None q) s t (λ q one. by q (or_cases (among q) false one)) b
    where
      by : (q : ℕ) → (among q ≡ true) ⊎ (false ≡ true) → among q ≡ true
      by q (inl own) = own
      by q (inr made) = never made

  come-along : (c more d much : Came) → c ≡ more → d ≡ much → ComeBeside among more much → ComeBeside among c d
  come-along c more d much first second come = subst (λ (x : Came). ComeBeside among x d) (sym first) (subst (λ (x : Came). ComeBeside among more x) (sym second) come)

  -- ---- the caller's own

  memory-alike : (s t : States) → AreBeside among s t → memory_of pid s ≡ memory_of pid t
  memory-alike s t b = told-both (λ image. image.memory) no_memory pid s t b.same (b.images pid is)

  noted-pids : (memory : Memory) (s : States) → ArePids s → ArePids (with_memory_of pid memory s)
  noted-pids memory s pids = pids-with s (with_memory_of pid memory s) pid (with_image (with_memory memory)) (λ p. refl) refl refl refl pids

  -- behind changes
  after-beside : (mounts : Mounts ℕ) (cs : List Change) (memory : Memory) (s t : States) → ArePids s → BearNext s.next_pid cs → AreBeside among s t
      → AreBeside (λ q. among q || (q == s.next_pid)) (all_applied images mounts pid cs (with_memory_of pid memory s)) (all_applied images mounts pid cs (with_memory_of pid memory t))
  after-beside mounts cs memory s t pids bear b =
      changes_come_beside ℕ among mounts pid cs (with_memory_of pid memory s) (with_memory_of pid memory t) (noted-pids memory s pids) bear is (noted-beside pid among memory s t b)

  settled-beside : (more : ℕ → Bool) (outcome : Outcome) (s t : States) → AreBeside more s t → AreBeside more (settled pid outcome s) (settled pid outcome t)
  settled-beside more (Answer value) s t b = going-beside pid more (with_answer value) false s t b
  settled-beside more Wait s t b = going-beside pid more (λ regs. regs) true s t b
  settled-beside more Ended s t b = b
  settled-beside more NoMemory s t b = b

  refusal-beside : (e : Errno) (s t : States) → AreBeside among s t → ComeBeside among (refusal_told pid e s) (refusal_told pid e t)
  refusal-beside e s t b = record {
    end = refl;
    child = refl;
    handed = refl;
    state = childless (refusal_told pid e s).state (refusal_told pid e t).state (going-beside pid among (with_answer (neg_ℤ (pos (errno_number e)))) false s t b);
  }

  -- ---- rows

  abbrev operated_by : Request → Result Targets Errno → Known → CarriedOut Reply → States → Came
  operated_by r targets k done s = record {
    state = settled pid done.reply.outcome (after_row (mounts_walked targets) pid done s);
    end = end_of r done.reply.outcome;
    child = child_of s.next_pid r done.reply.outcome;
    handed = record { at_root = leads_to_root table targets; target = target_of r k targets };
  }

  row-alike : (r : Request) (s t : States) → AreBeside among s t → row_on table pid r s ≡ row_on table pid r t
  row-alike r s t b = λ i. carried_out (operation pid r (seen-alike table pid s t b.same r i) (known-alike table pid s t b.same i)) (memory-alike s t b i)

  operated-come : (r : Request) (targets : Result Targets Errno) (k : Known) (done : CarriedOut Reply) (s t : States) → ArePids s → BearNext s.next_pid done.reply.changes → AreBeside among s t
      → ComeBeside among (operated_by r targets k done s) (operated_by r targets k done t)
  operated-come r targets k done s t pids bear b =
      let mounts : Mounts ℕ = mounts_walked targets in
      let outcome : Outcome = done.reply.outcome in
      let after : AreBeside (λ q. among q || (q == s.next_pid)) (after_row mounts pid done s) (after_row mounts pid done t) = after-beside mounts done.reply.changes done.memory s t pids bear b in
      record {
        end = refl;
        child = ap (λ (l : State ℕ Layout). child_of l.next_pid r outcome) b.same;
        handed = refl;
        state = fewer-born (child_of s.next_pid r outcome) s.next_pid (child-next s.next_pid r outcome) (settled pid outcome (after_row mounts pid done s)) (settled pid outcome (after_row mounts pid done t))
            (settled-beside (λ q. among q || (q == s.next_pid)) outcome (after_row mounts pid done s) (after_row mounts pid done t) after);
      }

  operated-beside : (r : Request) (s t : States) → ArePids s → AreBeside among s t → ComeBeside among (operated table pid r s) (operated table pid r t)
  operated-beside r s t pids b =
      let targets : Result Targets Errno = targets_of table pid s r in
      let k : Known = known image_layout pid s in
      let done : CarriedOut Reply = row_on table pid r s in
      let same : operated_by r targets k done t ≡ operated table pid r t = λ i. operated_by r (targets-alike table pid s t b.same r i) (known-alike table pid s t b.same i) (row-alike r s t b i) t in
      subst (λ (c : Came). ComeBeside among (operated table pid r s) c) same
      (operated-come r targets k done s t pids (bear-next pid r (seen table pid s r) k (memory_of pid s)) b)

  -- ---- new programs

  -- by what a state has beside what its processes compute on
  abbrev execution_on : State ℕ Layout → Surroundings → ℕ → Option (Place ℕ) → List ℕ → ℕ → ℕ → Trying Program
  execution_on l around pages cwd path args env =
      option_map_or
      (
      λ base.
      and_then (Done (program_at around base path)) (λ target.
      and_then (lists_at args env) (λ lists.
      Done (results.and_then (exec_plan around base (told target) path lists.args lists.env) (λ plan.
      cond (image_exceeds pages (bytes_at l.tree plan.place.host) plan.plan plan.args plan.env (ids_of l.user)) (Err ENOMEM) (Ok (program_of l.tree l.user plan))))))
      )
      cwd (Done (Err ENOENT))

  execution-alike : (path : List ℕ) (args env : ℕ) (s t : States) → AreBeside among s t → execution table pid s path args env ≡ execution table pid t path args env
  execution-alike path args env s t b = λ i. execution_on (b.same i) (around-alike table pid s t b.same i) (pages-alike table pid s t b.same i) (cwd-alike table pid s t b.same i) path args env

  abbrev executed_by : CarriedOut (Result Program Errno) → States → Came
  executed_by done s = replaced pid done.reply (after_execution (record { found = mount_of done.reply; directory = None }) pid done s)

  replaced-beside : (result : Result Program Errno) (memory : Memory) (s t : States) → ArePids s → AreBeside among s t
      → ComeBeside among (executed_by (record { reply = result; memory = memory }) s) (executed_by (record { reply = result; memory = memory }) t)
  replaced-beside (Ok program) memory s t pids b =
      let mounts : Mounts ℕ = record { found = mount_of (Ok program); directory = None } in
      let cs : List Change = changes_of (Ok program) in
      let one : States = all_applied images mounts pid cs (with_memory_of pid memory s) in
      let other : States = all_applied images mounts pid cs (with_memory_of pid memory t) in
      let after : AreBeside (λ q. among q || (q == s.next_pid)) one other = after-beside mounts cs memory s t pids (program-bears s.next_pid (Ok program)) b in
      record {
        end = refl;
        child = refl;
        handed = refl;
        state = fewer-born None s.next_pid (λ q made. never made) _ _ (going-beside pid (λ q. among q || (q == s.next_pid)) (λ regs. regs) false one other after);
      }
  replaced-beside (Err e) memory s t pids b = refusal-beside e (with_memory_of pid memory s) (with_memory_of pid memory t) (noted-beside pid among memory s t b)

  executed-beside : (path : List ℕ) (args env : ℕ) (s t : States) → ArePids s → AreBeside among s t → ComeBeside among (executed table pid path args env s) (executed table pid path args env t)
  executed-beside path args env s t pids b =
      let done : CarriedOut (Result Program Errno) = carried_out (execution table pid s path args env) (memory_of pid s) in
      let same : executed_by done t ≡ executed table pid path args env t = λ i. executed_by (carried_out (execution-alike path args env s t b i) (memory-alike s t b i)) t in
      subst (λ (c : Came). ComeBeside among (executed table pid path args env s) c) same (replaced-beside done.reply done.memory s t pids b)

  -- ---- any call

  requested-beside : (r : Request) (s t : States) → ArePids s → AreBeside among s t → ComeBeside among (requested table pid r s) (requested table pid r t)
  requested-beside (call.Execve path args env) s t pids b = executed-beside path args env s t pids b
  requested-beside r s t pids b = operated-beside r s t pids b

  decoded-beside : (reply : Decoded) (s t : States) → ArePids s → AreBeside among s t → ComeBeside among (after_decoding table pid reply s) (after_decoding table pid reply t)
  decoded-beside (Ok r) s t pids b = requested-beside r s t pids b
  decoded-beside (Err e) s t pids b = refusal-beside e s t b

  abbrev called_by : Image → States → Came
  called_by image s =
      let done : CarriedOut Decoded = carried_out (decoding image.regs) image.memory in
      after_decoding table pid done.reply (computed pid image.regs done.memory s)

  -- one that lives no more calls nothing
  abbrev not_called : States → Came
  not_called s = record { state = s; end = end.Waits; child = None; handed = nothing_handed }

  abbrev calls_by : Option Image → States → Came
  calls_by o s = option_map_or (λ image. called_by image s) o (not_called s)

  calls-are : (s : States) → plain_call table pid s ≡ calls_by (option_map (λ p. p.image) (process pid s)) s
  calls-are s = by (process pid s)
    where
      by : (o : Option (Process ℕ Image)) → option_map_or (plain_call_of table pid s) o (not_called s) ≡ calls_by (option_map (λ p. p.image) o) s
      by None = refl
      by (Some p) = refl

  calls-beside : (o : Option Image) (s t : States) → ArePids s → AreBeside among s t → ComeBeside among (calls_by o s) (calls_by o t)
  calls-beside None s t pids b = record { end = refl; child = refl; handed = refl; state = childless s t b }
  calls-beside (Some image) s t pids b =
      let done : CarriedOut Decoded = carried_out (decoding image.regs) image.memory in
      decoded-beside done.reply (computed pid image.regs done.memory s) (computed pid image.regs done.memory t)
      (pids-with s (computed pid image.regs done.memory s) pid (with_image (λ (own : Image). record { regs = image.regs; memory = done.memory })) (λ p. refl) refl refl refl pids) (computed-beside pid among image.regs done.memory s t b)

  pub plain-beside : (s t : States) → ArePids s → AreBeside among s t → ComeBeside among (plain_call table pid s) (plain_call table pid t)
  plain-beside s t pids b =
      let own : Option Image = option_map (λ p. p.image) (process pid s) in
      come-along (plain_call table pid s) (calls_by own s) (plain_call table pid t) (calls_by own t) (calls-are s)
      (calls-are t ∙ ap (λ (o : Option Image). calls_by o t) (sym (images-found pid s t b.same (b.images pid is)))) (calls-beside own s t pids b)

  -- ---- what its walks reach

  module _ (path : List ℕ) (args env : ℕ) (s t : States) (b : AreBeside among s t) where
    same-around : around_of table pid s ≡ around_of table pid t
    same-around = around-alike table pid s t b.same

    planned-alike : (base : Place ℕ) (target : PlaceTarget) (lists : Result Lists Errno) (r : Reach) → planned_reach table pid s path args env base target lists r ≡ planned_reach table pid t path args env base target lists r
    planned-alike base target (Ok lists) r = ap (λ (around : Surroundings). exec_reach around base (told target) path lists.args lists.env r) same-around
    planned-alike base target (Err e) r = refl

    found-alike : (memory : Memory) (base : Place ℕ) (target : Result PlaceTarget Errno) (r : Reach)
        → found_reach table pid s path args env memory base target r ≡ found_reach table pid t path args env memory base target r
    found-alike memory base (Ok target) r = planned-alike base target (carried_out (lists_at args env) memory).reply r
    found-alike memory base (Err e) r = refl

    abbrev from_by : States → Surroundings → Memory → Reach → Place ℕ → Reach
    from_by u around memory r base = found_reach table pid u path args env memory base (program_at around base path) (reach_after around Look (program_walk around base path) r)

    from-alike : (memory : Memory) (r : Reach) (base : Place ℕ) → from_by s (around_of table pid s) memory r base ≡ from_by t (around_of table pid t) memory r base
    from-alike memory r base =
        ap (λ (around : Surroundings). from_by s around memory r base) same-around
        ∙ found-alike memory base (program_at (around_of table pid t) base path) (reach_after (around_of table pid t) Look (program_walk (around_of table pid t) base path) r)

    execution-reached : (memory : Memory) (r : Reach) → execution_reach table pid s path args env memory r ≡ execution_reach table pid t path args env memory r
    execution-reached memory r = by (cwd_of pid s) ∙ ap (λ (o : Option (Place ℕ)). option_map_or (from_by t (around_of table pid t) memory r) o r) (cwd-alike table pid s t b.same)
      where
        by : (o : Option (Place ℕ)) → option_map_or (from_by s (around_of table pid s) memory r) o r ≡ option_map_or (from_by t (around_of table pid t) memory r) o r
        by None = refl
        by (Some base) = from-alike memory r base

  request-reached : (request : Request) (s t : States) (r : Reach) → AreBeside among s t → request_reach table pid request s r ≡ request_reach table pid request t r
  request-reached (call.Execve path args env) s t r b =
      execution-reached path args env s t b (memory_of pid s) r ∙ ap (λ (memory : Memory). execution_reach table pid t path args env memory r) (memory-alike s t b)
  request-reached request s t r b = reached-alike table pid s t b.same request r

  decoded-reached : (reply : Decoded) (s t : States) (r : Reach) → AreBeside among s t → decoded_reach table pid reply s r ≡ decoded_reach table pid reply t r
  decoded-reached (Ok request) s t r b = request-reached request s t r b
  decoded-reached (Err e) s t r b = refl

  abbrev reached_by : Reach → Image → States → Reach
  reached_by r image s =
      let done : CarriedOut Decoded = carried_out (decoding image.regs) image.memory in
      decoded_reach table pid done.reply (computed pid image.regs done.memory s) r

  reaches-are : (s : States) (r : Reach) → plain_reach table pid s r ≡ option_map_or (λ image. reached_by r image s) (option_map (λ p. p.image) (process pid s)) r
  reaches-are s r = by (process pid s)
    where
      by : (o : Option (Process ℕ Image)) → option_map_or (plain_reach_of table pid s r) o r ≡ option_map_or (λ image. reached_by r image s) (option_map (λ p. p.image) o) r
      by None = refl
      by (Some p) = refl

  pub plain-reached : (s t : States) (r : Reach) → AreBeside among s t → plain_reach table pid s r ≡ plain_reach table pid t r
  plain-reached s t r b =
      reaches-are s r ∙ by (option_map (λ p. p.image) (process pid s))
      ∙ ap (λ (o : Option Image). option_map_or (λ image. reached_by r image t) o r) (images-found pid s t b.same (b.images pid is)) ∙ sym (reaches-are t r)
    where
      by : (o : Option Image) → option_map_or (λ image. reached_by r image s) o r ≡ option_map_or (λ image. reached_by r image t) o r
      by None = refl
      by (Some image) =
          let done : CarriedOut Decoded = carried_out (decoding image.regs) image.memory in
          decoded-reached done.reply (computed pid image.regs done.memory s) (computed pid image.regs done.memory t) r (computed-beside pid among image.regs done.memory s t b)

pub plain_calls_come_beside : PlainCallsComeBeside
plain_calls_come_beside = record {
  call = λ among table pid s t pids is b. plain-beside among table pid is s t pids b;
  reach = λ among table pid s t before is b. plain-reached among table pid is s t before b;
}
