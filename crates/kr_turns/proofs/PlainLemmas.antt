-- What the code leaves of a call is what the definition says of the state with the numbers of its mounts.
use Rattle.std.proofs.Common.{◌≡◌, ℕ, Bool, false, ◌||◌, List, Option, Some, None, refl, sym, ap, subst, ◌∙◌}
use Rattle.std.specs.Prelude.{Result, Ok, Err, IfOk, IsSome, pos, neg_ℤ}
use Rattle.std.specs.Option.{option_map, option_map_or}
use Rattle.kr_hostview.specs.pr_base.declared.errno.Errno.{Errno}
use Rattle.kr_hostview.specs.pr_base.Errno.{errno_number}
use Rattle.kr_steps.specs.rv_mem.Actions.{CarriedOut, carried_out}
use Rattle.kr_steps.specs.rv_mem.Memory.{Memory}
use Rattle.kr_hostview.specs.pr_base.declared.errno.Errno.TheVariants.{EPERM, ENOENT, ESRCH, E2BIG, ENOEXEC, EBADF, ECHILD, EAGAIN, ENOMEM, EACCES, EFAULT, EBUSY, EEXIST, EXDEV, ENOTDIR, EISDIR, EINVAL, EMFILE, ENOTTY, EFBIG, ENOSPC, ESPIPE, EPIPE, ERANGE, ENAMETOOLONG, ENOSYS, ENOTEMPTY, ELOOP}
use Rattle.kr_execve.specs.kr_calls.Decoding.{decoding}
use Rattle.kr_execve.specs.kr_calls.declared.fault.CallFault.{CallFault}
use Rattle.kr_execve.specs.kr_calls.declared.request.Request.{Request}
use Rattle.kr_execve.specs.kr_calls.declared.request.Request.TheVariants as call
use Rattle.kr_execve.specs.kr_view.View.{Row}
use Rattle.kr_execve.specs.kr_view.declared.target.Reach.{Reach}
use Rattle.kr_steps.specs.kr_model.Applied.{Mounts, all_applied, images}
use Rattle.kr_steps.specs.kr_model.Known.{Known, known}
use Rattle.kr_steps.specs.kr_model.Lawful.{ArePids}
use Rattle.kr_steps.specs.kr_model.Operation.{operation}
use Rattle.kr_steps.specs.kr_model.Reply.{Reply, refusal}
use Rattle.kr_steps.specs.kr_model.State as model
use Rattle.kr_steps.specs.kr_model.State.{Image, image_layout}
use Rattle.kr_steps.specs.kr_model.Walks.{seen, targets_of}
use Rattle.kr_steps.specs.kr_model.declared.outcome.Outcome.{Outcome}
use Rattle.kr_steps.specs.law_allowed.Told.{mounts_walked}
use Rattle.kr_hostview.specs.kr_ops.declared.state.State.{State}
use Rattle.kr_hostview.specs.kr_ops.Meaning.{meaning}
use Rattle.kr_calm.specs.kr_seen.Numbered.{process_numbered, state_numbered}
use Rattle.kr_calm.specs.kr_seen.Carrying.{after_row, carried, memory_of, with_memory_of}
use Rattle.kr_calm.specs.kr_seen.CallWalks.{call_reach}
use Rattle.kr_steps.specs.Calls.{IsNoExec, IsCalled}
use Rattle.kr_steps.proofs.ComputingLemmas.{refused-call}
use Rattle.kr_execve.specs.Execution.{Program, after_execution, changes_of, execution, execution_reach, mount_of}
use Rattle.kr_execve.specs.Executing.{IsExecuted, done}
use Rattle.kr_steps.specs.Answering.{answered, resumed}
use Rattle.kr_steps.specs.Computing.{Requests, computed}
use Rattle.kr_steps.specs.Settling.{settled}
use Rattle.kr_calm.proofs.kr_seen.UsingLemmas.{memory-is}
use Rattle.kr_turns.specs.Breaking.{decoded_rule, executed_rule, nothing_reached, operated_rule, plain_rule, plain_rule_of, requested_rule, rule_told}
use Rattle.kr_turns.specs.Coming.{came_to}
use Rattle.kr_turns.specs.PlainCall.{Came, after_decoding, child_if_made, child_of, decoded_reach, end_of, executed, handed_on, operated, plain_call, plain_call_of, plain_reach, plain_reach_of, refusal_told, replaced, request_reach, requested, row_on}
use Rattle.kr_turns.specs.declared.plain.CallEnd.TheVariants as end
use Rattle.kr_turns.specs.declared.plain.Plain.{Plain}
use Rattle.kr_turns.proofs.BreakLemmas.{exec-told, idle-here}
use Rattle.kr_steps.specs.kr_stops.Stopped.{nothing_handed}
use Rattle.kr_steps.proofs.kr_stops.EditLemmas.{computed-lives}
use Rattle.kr_turns.proofs.NumberLemmas.{answered-numbered, computed-numbered, execution-numbered, memory-numbered, resumed-numbered, row-numbered, settled-numbered}
use Rattle.kr_calm.proofs.kr_seen.LookLemmas.{known-numbered, process-numbered}
use Rattle.kr_calm.specs.declared.rule.Rule.{Rule}

-- the number of an error is none of a child
none-made : (next : ℕ) (e : Errno) → child_if_made next (refusal e).outcome ≡ None
none-made next EPERM = refl
none-made next ENOENT = refl
none-made next ESRCH = refl
none-made next E2BIG = refl
none-made next ENOEXEC = refl
none-made next EBADF = refl
none-made next ECHILD = refl
none-made next EAGAIN = refl
none-made next ENOMEM = refl
none-made next EACCES = refl
none-made next EFAULT = refl
none-made next EBUSY = refl
none-made next EEXIST = refl
none-made next EXDEV = refl
none-made next ENOTDIR = refl
none-made next EISDIR = refl
none-made next EINVAL = refl
none-made next EMFILE = refl
none-made next ENOTTY = refl
none-made next EFBIG = refl
none-made next ENOSPC = refl
none-made next ESPIPE = refl
none-made next EPIPE = refl
none-made next ERANGE = refl
none-made next ENAMETOOLONG = refl
none-made next ENOSYS = refl
none-made next ENOTEMPTY = refl
none-made next ELOOP = refl

no-child : (next : ℕ) (e : Errno) (r : Request) → child_of next r (refusal e).outcome ≡ None
no-child next e (call.Clone flags sp ctid) = none-made next e
no-child next e _ = refl

-- of the mounts the first alone counts
found-alone : (pid : ℕ) (d : CarriedOut (Result Program Errno)) (s : model.State ℕ Image) (m : Mounts ℕ) (found : Option ℕ) → m.found ≡ found
    → after_execution m pid d s ≡ after_execution (record { found = found; directory = None }) pid d s
found-alone pid d s m found e = by d.reply
  where
    by : (reply : Result Program Errno) → after_execution m pid (record { reply = reply; memory = d.memory }) s ≡ after_execution (record { found = found; directory = None }) pid (record { reply = reply; memory = d.memory }) s
    by (Ok p) = ap (λ (f : Option ℕ). after_execution (record { found = f; directory = None }) pid (record { reply = Ok p; memory = d.memory }) s) e
    by (Err e) = refl

map-some : {A B : Type 0} (f : A → B) (o : Option A) → IsSome o → IsSome (option_map f o)
map-some f None h = h
map-some f (Some x) h = refl

module _ {T : Type 0} {M : ℕ} (number : T → ℕ) where
  abbrev shown : State T M → model.State ℕ Image
  shown s = state_numbered number (meaning s)

  pub lives-shown : (pid : ℕ) (s : State T M) → IsSome (model.process pid (meaning s)) → IsSome (model.process pid (shown s))
  lives-shown pid s lives = subst IsSome (sym (process-numbered number pid (meaning s))) (map-some (process_numbered number) (model.process pid (meaning s)) lives)

  -- ---- a refusal

  pub refused : (pid : ℕ) (e : Errno) (old new : State T M) (plain : Plain) → meaning new ≡ answered pid (neg_ℤ (pos (errno_number e))) (meaning old)
      → plain.end ≡ end.Answered → plain.child ≡ None → plain.handed ≡ nothing_handed → came_to number new plain ≡ refusal_told pid e (shown old)
  refused pid e old new plain tells end child handed =
      let state : shown new ≡ answered pid (neg_ℤ (pos (errno_number e))) (shown old) = ap (state_numbered number) tells ∙ answered-numbered number pid (neg_ℤ (pos (errno_number e))) (meaning old) in
      λ j. record { state = state j; end = end j; child = child j; handed = handed j }

  -- ---- a row

  module _ (table : List Row) (pid : ℕ) (r : Request) (old after : State T M) (outcome : Outcome) (is : IsCalled number table pid r old after outcome) where
    abbrev own : CarriedOut Reply
    own = carried pid (operation pid r (seen table pid (shown old) r) (known image_layout pid (meaning old))) (meaning old)

    same-row : own ≡ row_on table pid r (shown old)
    same-row =
        sym
        (ap (λ (k : Known). carried_out (operation pid r (seen table pid (shown old) r) k) (memory_of pid (shown old))) (known-numbered number image_layout pid (meaning old))
        ∙ ap (λ (m : Memory). carried_out (operation pid r (seen table pid (shown old) r) (known image_layout pid (meaning old))) m) (memory-numbered number pid (meaning old)))

    pub outcome-told : outcome ≡ (row_on table pid r (shown old)).reply.outcome
    outcome-told = is.carried.outcome ∙ ap (λ (d : CarriedOut Reply). d.reply.outcome) same-row

    pub row-left : shown after ≡ after_row (mounts_walked (targets_of table pid (shown old) r)) pid (row_on table pid r (shown old)) (shown old)
    row-left =
        ap (state_numbered number) is.carried.state
        ∙ row-numbered number is.mounts pid own (meaning old)
        ∙ ap (λ (m : Mounts ℕ). after_row m pid own (shown old)) is.walked
        ∙ ap (λ (d : CarriedOut Reply). after_row (mounts_walked (targets_of table pid (shown old) r)) pid d (shown old)) same-row

    pub operated-now : (new : State T M) (plain : Plain) → meaning new ≡ settled pid outcome (meaning after) → plain.end ≡ end_of r outcome → plain.child ≡ child_of (meaning old).next_pid r outcome
        → plain.handed ≡ handed_on table pid r (shown old) (targets_of table pid (shown old) r) → came_to number new plain ≡ operated table pid r (shown old)
    operated-now new plain settles end child handed =
        let state : shown new ≡ settled pid (row_on table pid r (shown old)).reply.outcome (after_row (mounts_walked (targets_of table pid (shown old) r)) pid (row_on table pid r (shown old)) (shown old)) =
        ap (state_numbered number) settles ∙ settled-numbered number pid outcome (meaning after) ∙ ap (settled pid outcome) row-left
        ∙ ap (λ o. settled pid o (after_row (mounts_walked (targets_of table pid (shown old) r)) pid (row_on table pid r (shown old)) (shown old))) outcome-told
        in
        let ends : plain.end ≡ end_of r (row_on table pid r (shown old)).reply.outcome = end ∙ ap (end_of r) outcome-told in
        let makes : plain.child ≡ child_of (shown old).next_pid r (row_on table pid r (shown old)).reply.outcome = child ∙ ap (child_of (meaning old).next_pid r) outcome-told in
        λ j. record { state = state j; end = ends j; child = makes j; handed = handed j }

  -- a call whose walk is refused
  pub came-refused : (table : List Row) (pid : ℕ) (r : Request) (s : State T M) (e : Errno) → targets_of table pid (shown s) r ≡ Err e → ArePids (meaning s) → (came : Came) → came ≡ refusal_told pid e (shown s) → came ≡ operated table pid r (shown s)
  came-refused table pid r s e fails pids came refuses =
      let is = refused-call number table pid r s (refusal e).outcome e fails pids refl in
      let told = outcome-told table pid r s s (refusal e).outcome is in
      let left = row-left table pid r s s (refusal e).outcome is in
      let state : (refusal_told pid e (shown s)).state ≡ (operated table pid r (shown s)).state =
      ap (settled pid (refusal e).outcome) left ∙ ap (λ o. settled pid o (after_row (mounts_walked (targets_of table pid (shown s) r)) pid (row_on table pid r (shown s)) (shown s))) told
      in
      let ends : end.Answered ≡ (operated table pid r (shown s)).end = ap (end_of r) told in
      let child : None ≡ (operated table pid r (shown s)).child = sym (no-child (shown s).next_pid e r) ∙ ap (child_of (shown s).next_pid r) told in
      let handed : nothing_handed ≡ (operated table pid r (shown s)).handed = sym (ap (handed_on table pid r (shown s)) fails) in
      refuses ∙ (λ j. record { state = state j; end = ends j; child = child j; handed = handed j })

  -- ---- a new program

  module _ (table : List Row) (pid : ℕ) (path : List ℕ) (args env : ℕ) (old after : State T M) where
    abbrev came : CarriedOut (Result Program Errno)
    came = carried_out (execution table pid (shown old) path args env) (memory_of pid (shown old))

    abbrev left : model.State ℕ Image
    left = after_execution (record { found = mount_of came.reply; directory = None }) pid came (shown old)

    same-done : done number table pid path args env (meaning old) ≡ came
    same-done = sym (ap (carried_out (execution table pid (shown old) path args env)) (memory-numbered number pid (meaning old)))

    state-left : (mounts : Mounts T) → option_map number mounts.found ≡ mount_of (done number table pid path args env (meaning old)).reply
        → meaning after ≡ after_execution mounts pid (done number table pid path args env (meaning old)) (meaning old) → shown after ≡ left
    state-left mounts placed state =
        ap (state_numbered number) state
        ∙ execution-numbered number mounts pid (done number table pid path args env (meaning old)) (meaning old)
        ∙ ap (λ (d : CarriedOut (Result Program Errno)). after_execution (record { found = option_map number mounts.found; directory = option_map number mounts.directory }) pid d (shown old)) same-done
        ∙ found-alone pid came (shown old) (record { found = option_map number mounts.found; directory = option_map number mounts.directory }) (mount_of came.reply) (placed ∙ ap (λ (d : CarriedOut (Result Program Errno)). mount_of d.reply) same-done)

    pub replaced-now : (p : Program) (new : State T M) (plain : Plain) → shown after ≡ left → (done number table pid path args env (meaning old)).reply ≡ Ok p → meaning new ≡ resumed pid (meaning after)
        → plain.end ≡ end.Replaced → plain.child ≡ None → plain.handed ≡ nothing_handed → came_to number new plain ≡ executed table pid path args env (shown old)
    replaced-now p new plain is told resumes end child handed =
        let state : shown new ≡ resumed pid left = ap (state_numbered number) resumes ∙ resumed-numbered number pid (meaning after) ∙ ap (resumed pid) is in
        let as-record : came_to number new plain ≡ replaced pid (Ok p) left = λ j. record { state = state j; end = end j; child = child j; handed = handed j } in
        as-record ∙ ap (λ (reply : Result Program Errno). replaced pid reply left) (sym told ∙ ap (λ (d : CarriedOut (Result Program Errno)). d.reply) same-done)

    pub refused-now : (e : Errno) (came-now : Came) → shown after ≡ left → (done number table pid path args env (meaning old)).reply ≡ Err e → came-now ≡ refusal_told pid e (shown after)
        → came-now ≡ executed table pid path args env (shown old)
    refused-now e came-now is told refuses =
        refuses ∙ ap (refusal_told pid e) is ∙ ap (λ (reply : Result Program Errno). replaced pid reply left) (sym told ∙ ap (λ (d : CarriedOut (Result Program Errno)). d.reply) same-done)

    -- ---- the rule that it breaks

    pub replaced-rule : (no_shelf marks_read : Bool) (reach : Reach) → marks_read ≡ (done number table pid path args env (meaning old)).memory.read_marked
        → reach ≡ execution_reach table pid (shown old) path args env (memory_of pid (shown old)) nothing_reached
        → rule_told M (marks_read || no_shelf) false None reach ≡ executed_rule M table pid no_shelf (call.Execve path args env) path args env (shown old)
    replaced-rule no_shelf marks_read reach marks reaches =
        let marks-now : marks_read ≡ came.memory.read_marked = marks ∙ ap (λ (d : CarriedOut (Result Program Errno)). d.memory.read_marked) same-done in
        (λ i. rule_told M (marks-now i || no_shelf) false None (reaches i))
        ∙ sym
        (exec-told M table pid no_shelf (with_memory_of pid came.memory (shown old)) (shown old) came.memory path args env (record { found = mount_of came.reply; directory = None }) came.reply
        (execution_reach table pid (shown old) path args env (memory_of pid (shown old)) nothing_reached))

    -- one that is refused changes nothing but what was read of its memory
    module _ (e : Errno) (is : shown after ≡ left) (told : (done number table pid path args env (meaning old)).reply ≡ Err e) (lives : IsSome (model.process pid (meaning old))) where
      refused-left : shown after ≡ with_memory_of pid came.memory (shown old)
      refused-left =
          is
          ∙ ap (λ (r : Result Program Errno). all_applied images (record { found = mount_of came.reply; directory = None }) pid (changes_of r) (with_memory_of pid came.memory (shown old)))
          (sym (ap (λ (d : CarriedOut (Result Program Errno)). d.reply) same-done) ∙ told)

      pub refused-memory : memory_of pid (meaning after) ≡ came.memory
      refused-memory = sym (memory-numbered number pid (meaning after)) ∙ ap (memory_of pid) refused-left ∙ memory-is pid came.memory (shown old) (lives-shown pid old lives)

      pub refused-rule : (no_shelf : Bool) (reach : Reach) → reach ≡ execution_reach table pid (shown old) path args env (memory_of pid (shown old)) nothing_reached
          → rule_told M ((memory_of pid (meaning after)).read_marked || no_shelf) false None reach ≡ executed_rule M table pid no_shelf (call.Execve path args env) path args env (shown old)
      refused-rule no_shelf reach reaches =
          replaced-rule no_shelf (memory_of pid (meaning after)).read_marked reach
          (ap (λ (m : Memory). m.read_marked) refused-memory ∙ sym (ap (λ (d : CarriedOut (Result Program Errno)). d.memory.read_marked) same-done)) reaches

    pub execution-left : (told : _) → IsExecuted number table pid path args env old after told → shown after ≡ left
    execution-left told is = state-left is.mounts is.placed is.state

-- ---- which of them

-- a call that is no execve has a row
pub no-exec-requested : (table : List Row) (pid : ℕ) (s : model.State ℕ Image) (r : Request) → IsNoExec r → operated table pid r s ≡ requested table pid r s
no-exec-requested table pid s (call.Execve path args env) kind = absurd kind
no-exec-requested table pid s _ kind = refl

pub no-exec-reach : (table : List Row) (pid : ℕ) (s : model.State ℕ Image) (reach : Reach) (r : Request) → IsNoExec r → call_reach table pid s r reach ≡ request_reach table pid r s reach
no-exec-reach table pid s reach (call.Execve path args env) kind = absurd kind
no-exec-reach table pid s reach _ kind = refl

pub if-ok : {A E : Type 0} (r : Result A E) {P Q : A → Type 0} → ((x : A) → P x → Q x) → IfOk r P → IfOk r Q
if-ok (Ok x) f h = f x h
if-ok (Err x) f h = h

pub no-exec-rule : (marks : ℕ) (table : List Row) (pid : ℕ) (no_shelf : Bool) (s : model.State ℕ Image) (r : Request) → IsNoExec r → operated_rule marks table pid no_shelf r s ≡ requested_rule marks table pid no_shelf r s
no-exec-rule marks table pid no_shelf s (call.Execve path args env) kind = absurd kind
no-exec-rule marks table pid no_shelf s _ kind = refl

-- what is told of a request is told of one that is the same
pub same-rule : (marks : ℕ) (table : List Row) (pid : ℕ) (no_shelf : Bool) (s : model.State ℕ Image) {E : Type 0} (r q : Request) → r ≡ q → (result : Result Plain E)
    → IfOk result (λ plain. plain.broken ≡ requested_rule marks table pid no_shelf r s) → IfOk result (λ plain. plain.broken ≡ requested_rule marks table pid no_shelf q s)
same-rule marks table pid no_shelf s r q same result told = subst (λ (r : Request). IfOk result (λ plain. plain.broken ≡ requested_rule marks table pid no_shelf r s)) same told

-- ---- the request

module _ {T : Type 0} {M : ℕ} (number : T → ℕ) (table : List Row) (pid : ℕ) (s mid : State T M) (result : Result Request CallFault) (r : Requests pid s mid result) where
  abbrev decoded : CarriedOut (Result Request Errno)
  decoded = carried_out (decoding r.process.image.regs) r.process.image.memory

  shown-mid : shown number mid ≡ computed pid r.process.image.regs decoded.memory (shown number s)
  shown-mid = ap (state_numbered number) r.leaves ∙ computed-numbered number pid r.process.image.regs decoded.memory (meaning s)

  found : model.process pid (shown number s) ≡ Some (process_numbered number r.process)
  found = process-numbered number pid (meaning s) ∙ ap (option_map (process_numbered number)) r.lives

  call-is : plain_call table pid (shown number s) ≡ after_decoding table pid decoded.reply (shown number mid)
  call-is =
      ap (λ (o : Option (model.Process ℕ Image)). option_map_or (plain_call_of table pid (shown number s)) o (record { state = shown number s; end = end.Waits; child = None; handed = nothing_handed })) found
      ∙ ap (after_decoding table pid decoded.reply) (sym shown-mid)

  reach-is : (reach : Reach) → plain_reach table pid (shown number s) reach ≡ decoded_reach table pid decoded.reply (shown number mid) reach
  reach-is reach =
      ap (λ (o : Option (model.Process ℕ Image)). option_map_or (plain_reach_of table pid (shown number s) reach) o reach) found
      ∙ ap (λ t. decoded_reach table pid decoded.reply t reach) (sym shown-mid)

  module _ (no_shelf : Bool) where
    rule-is : plain_rule M table pid no_shelf (shown number s) ≡ decoded_rule M table pid no_shelf decoded.reply (shown number mid)
    rule-is =
        ap (λ (o : Option (model.Process ℕ Image)). option_map_or (plain_rule_of M table pid no_shelf (shown number s)) o None) found
        ∙ ap (decoded_rule M table pid no_shelf decoded.reply) (sym shown-mid)

    pub rule-refused : (e : Errno) → decoded.reply ≡ Err e → rule_told M ((memory_of pid (meaning mid)).read_marked || no_shelf) false None nothing_reached ≡ plain_rule M table pid no_shelf (shown number s)
    rule-refused e told =
        idle-here number table pid no_shelf mid
        ∙ ap (λ reply. decoded_rule M table pid no_shelf reply (shown number mid)) (sym told) ∙ sym rule-is

    pub rule-carried : (q : Request) → decoded.reply ≡ Ok q → (rule : Option Rule) → rule ≡ requested_rule M table pid no_shelf q (shown number mid) → rule ≡ plain_rule M table pid no_shelf (shown number s)
    rule-carried q told rule is = is ∙ ap (λ reply. decoded_rule M table pid no_shelf reply (shown number mid)) (sym told) ∙ sym rule-is

  pub call-refused : (e : Errno) → decoded.reply ≡ Err e → (made : Came) → made ≡ refusal_told pid e (shown number mid) → made ≡ plain_call table pid (shown number s)
  call-refused e told made refuses = refuses ∙ ap (λ reply. after_decoding table pid reply (shown number mid)) (sym told) ∙ sym call-is

  pub reach-refused : (e : Errno) → decoded.reply ≡ Err e → (reach : Reach) → reach ≡ plain_reach table pid (shown number s) reach
  reach-refused e told reach = ap (λ reply. decoded_reach table pid reply (shown number mid) reach) (sym told) ∙ sym (reach-is reach)

  pub call-carried : (q : Request) → decoded.reply ≡ Ok q → (made : Came) → made ≡ requested table pid q (shown number mid) → made ≡ plain_call table pid (shown number s)
  call-carried q told made carries = carries ∙ ap (λ reply. after_decoding table pid reply (shown number mid)) (sym told) ∙ sym call-is

  pub carried-left : (new : State T M) (q : Request) → decoded.reply ≡ Ok q → {E : Type 0} (left : Result Plain E) → IfOk left (λ plain. came_to number new plain ≡ requested table pid q (shown number mid))
      → IfOk left (λ plain. came_to number new plain ≡ plain_call table pid (shown number s))
  carried-left new q told (Ok plain) carries = call-carried q told (came_to number new plain) carries
  carried-left new q told (Err e) carries = carries

  pub reach-carried : (q : Request) → decoded.reply ≡ Ok q → (old new : Reach) → new ≡ request_reach table pid q (shown number mid) old → new ≡ plain_reach table pid (shown number s) old
  reach-carried q told old new reaches = reaches ∙ ap (λ reply. decoded_reach table pid reply (shown number mid) old) (sym told) ∙ sym (reach-is old)

  -- it lives still
  pub lives-mid : IsSome (model.process pid (meaning mid))
  lives-mid =
      subst (λ (t : model.State T Image). IsSome (model.process pid t)) (sym r.leaves)
      (computed-lives pid r.process.image.regs decoded.memory (meaning s) (subst IsSome (sym r.lives) refl))
