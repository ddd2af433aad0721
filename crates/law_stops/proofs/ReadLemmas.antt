-- Behind a stat(2) that is answered, none of the bytes that it wrote is marked.
use Rattle.std.proofs.Common.{◌≡◌, ℕ, Bool, true, false, cond, List, [], ◌∷◌, length, Option, Some, None, Ok, get_or, refl, sym, ap, subst, ◌∙◌, ℤ, arith}
use Rattle.std.specs.Prelude.{◌%◌, ◌==◌, ◌||◌, pos, replicate}
use Rattle.std.specs.Option.{option_map_or}
use Rattle.std.proofs.Math.Seq.{length-sets, sets}
use Rattle.std.proofs.lemmas.List.{length-replicate}
use Rattle.std.proofs.lemmas.Bool.{or_parts}
use Rattle.law_turns.specs.pr_base.declared.errno.Errno.{Errno}
use Rattle.law_turns.specs.pr_base.declared.errno.Errno.TheVariants.{EBADF, EFAULT, ENOENT, ENOSYS}
use Rattle.law_edits.specs.rv_mem.Actions.{CarriedOut, WriteBytes, allows_uses, carried_out}
use Rattle.law_edits.specs.rv_mem.Memory.{Memory}
use Rattle.law_edits.specs.rv_mem.Pages.{IsWhole, any_marked}
use Rattle.law_edits.specs.rv_mem.declared.rights.Use.TheVariants.{Write}
use Rattle.law_edits.specs.kr_view.View.{Row}
use Rattle.law_edits.specs.kr_files.declared.opened.Opened.{Opened}
use Rattle.law_edits.specs.kr_files.declared.opened.What.{What}
use Rattle.law_edits.specs.kr_files.declared.opened.What.TheVariants as what
use Rattle.law_edits.specs.kr_tree.declared.place.Host.{Host}
use Rattle.law_edits.specs.kr_tree.declared.place.Host.TheVariants as host
use Rattle.law_edits.specs.kr_tree.declared.place.Place.{Place}
use Rattle.law_turns.specs.kr_calls.declared.request.Request.{Request}
use Rattle.law_turns.specs.kr_calls.declared.request.Request.TheVariants as call
use Rattle.law_turns.specs.kr_calls.declared.stat.Stat.{Stat}
use Rattle.law_turns.specs.kr_calls.Stats.{laid, stat_fields, stat_layout}
use Rattle.law_edits.specs.kr_model.Applied.{Mounts, all_applied, images, with_image}
use Rattle.law_edits.specs.kr_model.AttributeRows.{console_stat, fstat_row, newfstatat_here, newfstatat_row, node_stat, pipe_stat, process_stat, stat_host, stat_open, stat_unplaced, tell_stat}
use Rattle.law_edits.specs.kr_model.Asking.{descriptor_number, is_working_directory, of_number, or_closed}
use Rattle.law_edits.specs.kr_model.Known.{Fact, Known, known}
use Rattle.law_edits.specs.kr_model.Operation.{by_path, looked_up, operation}
use Rattle.law_edits.specs.kr_model.Reply.{Reply, Replying, done, refuse}
use Rattle.law_edits.specs.kr_model.Seen.{LooksUp, Seen, WalkFails}
use Rattle.law_edits.specs.kr_model.State.{Image, Process, State, image_layout, process}
use Rattle.law_edits.specs.kr_model.Walks.{seen, targets_of}
use Rattle.law_edits.specs.kr_model.declared.outcome.Outcome.TheVariants.{Answer}
use Rattle.law_turns.specs.law_allowed.Told.{mounts_walked}
use Rattle.law_turns.specs.kr_seen.Carrying.{memory_of, with_memory, with_memory_of}
use Rattle.law_turns.specs.kr_steps.Answering.{answered, going, with_answer}
use Rattle.law_turns.specs.kr_steps.Calls.{IsNoExec}
use Rattle.law_turns.specs.kr_steps.Settling.{settled}
use Rattle.law_turns.specs.kr_turns.Breaking.{decoded_rule, operated_rule, plain_rule, plain_rule_of}
use Rattle.law_turns.specs.kr_turns.PlainCall.{Came, operated, plain_call}
use Rattle.law_turns.specs.kr_stops.Stopped.{image_in}
use Rattle.law_turns.specs.kr_turns.Turn.{called}
use Rattle.law_turns.proofs.kr_turns.PlainLemmas.{no-exec-requested, no-exec-rule}
use Rattle.law_edits.specs.pt_ident.Identity.{refusal}
use Rattle.law_edits.specs.pt_faker.Faking.{Faking, due_of, has_answered_zero, if_root, is_root, show_owner, word_of}
use Rattle.law_edits.specs.pt_faker.Stopping.{Stopped, memory_at}
use Rattle.law_edits.specs.pt_ident.Owners.{modes}
use Rattle.law_edits.specs.pt_ident.declared.change.Change.{Change}
use Rattle.law_edits.specs.pt_ident.declared.change.Change.TheVariants.{Mode, Own}
use Rattle.law_edits.specs.pt_faker.declared.due.Due.TheVariants.{ForgivesRoot, Remembers}
use Rattle.law_turns.specs.Calls.{decoded_by, decoded_in}
use Rattle.law_turns.specs.Lasting.{CanBeCalled}
use Rattle.law_turns.specs.Operating.{done_in}
use Rattle.law_turns.specs.Sizes.{IsSized}
use Rattle.law_turns.proofs.CallLemmas.{by_request}
use Rattle.law_turns.proofs.CalledLemmas.{decoded_lasts, decoded_lives, decoded_memory, decoded_process}
use Rattle.law_turns.proofs.QuietLemmas.{first_unbroken}
use Rattle.law_stops.proofs.AnsweredLemmas.{lives_changed}
use Rattle.law_stops.proofs.CallLemmas.{own_image}
use Rattle.law_stops.proofs.RegisterLemmas.{put_there}
use Rattle.law_edits.proofs.ShowingLemmas.{owner-unread, written-unmarked}
use Rattle.law_stops.specs.Editing.{IsEditedAlike}
use Rattle.law_stops.specs.Reading.{EditsReadUnmarked, RootIsKnown, TargetIsKnown}

-- ---- rows that write a stat at an address, or refuse

data TellsStat (at : ℕ) : Replying → Type 0 where
  refuses : (e : Errno) → TellsStat at (refuse e)
  tells : (s : Stat) → TellsStat at (tell_stat at s)

module _ (k : Known) (at : ℕ) where
  fact_tells : (i : ℕ) (o : Option Fact) → TellsStat at (option_map_or (λ f. tell_stat at (node_stat k i f)) o (refuse ENOENT))
  fact_tells i None = refuses ENOENT
  fact_tells i (Some f) = tells (node_stat k i f)

  host_tells : (h : Host) → TellsStat at (stat_host k at h)
  host_tells (host.Node i) = fact_tells i (k.fact i)
  host_tells (host.Proc i within) = tells (process_stat k within)

  unplaced_tells : (w : What) → TellsStat at (stat_unplaced k at w)
  unplaced_tells what.File = refuses EBADF
  unplaced_tells what.Dir = refuses EBADF
  unplaced_tells what.In = tells (console_stat k)
  unplaced_tells what.Out = tells (console_stat k)
  unplaced_tells what.Err = tells (console_stat k)
  unplaced_tells (what.PipeRead p) = tells (pipe_stat k p)
  unplaced_tells (what.PipeWrite p) = tells (pipe_stat k p)

  place_tells : (w : What) (o : Option (Place (Unit {0}))) → TellsStat at (option_map_or (λ p. stat_host k at p.host) o (stat_unplaced k at w))
  place_tells w None = unplaced_tells w
  place_tells w (Some p) = host_tells p.host

  open_tells : (o : Option (Opened (Unit {0}))) → TellsStat at (or_closed o (λ o. stat_open k at o))
  open_tells None = refuses EBADF
  open_tells (Some o) = place_tells o.what o.place

  number_tells : (o : Option ℕ) → TellsStat at (of_number k o (λ n o. stat_open k at o))
  number_tells None = refuses EBADF
  number_tells (Some n) = open_tells (k.opened n)

  fstat_tells : (fd : ℤ) → TellsStat at (fstat_row k fd at)
  fstat_tells fd = number_tells (descriptor_number fd)

  here_tells : (dirfd : ℤ) → TellsStat at (newfstatat_here k dirfd at)
  here_tells dirfd = by (is_working_directory dirfd)
    where
      by : (b : Bool) → TellsStat at (cond b (stat_host k at k.caller.cwd) (fstat_row k dirfd at))
      by true = host_tells k.caller.cwd
      by false = fstat_tells dirfd

  looked_tells : (told : Seen) → TellsStat at (looked_up told (λ l. newfstatat_row k l at))
  looked_tells (LooksUp l) = host_tells l.host
  looked_tells (WalkFails e) = refuses e
  looked_tells _ = refuses ENOENT

  newfstatat_tells : (dirfd : ℤ) (path : List ℕ) (told : Seen) → TellsStat at (by_path path (newfstatat_here k dirfd at) (looked_up told (λ l. newfstatat_row k l at)))
  newfstatat_tells dirfd [] told = here_tells dirfd
  newfstatat_tells dirfd (b ∷ path) told = looked_tells told

-- ---- what such a row leaves

laid_length : (bytes : List ℕ) (fields : List (ℕ × List ℕ)) → length (laid bytes fields) ≡ length bytes
laid_length bytes [] = refl
laid_length bytes (field ∷ fields) = laid_length (sets bytes field.0 field.1) fields ∙ length-sets bytes field.0 field.1

stat_length : (s : Stat) → length (stat_layout s) ≡ 128
stat_length s = laid_length (replicate 128 0) (stat_fields s) ∙ length-replicate {A = ℕ} 128 0

-- an error is no 0
pub nonzero : (e : Errno) → (word_of (refusal e) == 0) ≡ false
nonzero ENOSYS = refl
nonzero _ = refl

record IsTold (at : ℕ) (left : CarriedOut Reply) : Type 0 where
  value : ℤ
  replies : left.reply ≡ record { outcome = Answer value; changes = [] }
  unmarked : (word_of value == 0) ≡ true → any_marked left.memory.pages at 128 ≡ false

pub differ : {A : Type 0} (b : Bool) → b ≡ false → b ≡ true → A
differ b none some = absurd (let never : false ≡ true = sym none ∙ some in cc)

refused_told : (at : ℕ) (e : Errno) (m : Memory) → IsTold at (carried_out (refuse e) m)
refused_told at e m = record { value = refusal e; replies = refl; unmarked = differ (word_of (refusal e) == 0) (nonzero e) }

is_told : (at : ℕ) (action : Replying) → TellsStat at action → (m : Memory) → IsWhole m.pages → IsTold at (carried_out action m)
is_told at action (refuses e) m whole = refused_told at e m
is_told at action (tells s) m whole = by (allows_uses m.pages at (length (stat_layout s)) (Write ∷ []))
  where
    by : (b : Bool) → IsTold at (carried_out (cond b (WriteBytes at (stat_layout s) (done 0 [])) (refuse EFAULT)) m)
    by true = record { value = pos 0; replies = refl; unmarked = λ zero. written-unmarked m.pages at (stat_layout s) whole (stat_length s) }
    by false = refused_told at EFAULT m

-- ---- behind such a call

module _ (table : List Row) (made pid : ℕ) (no_shelf at_root : Bool) (target : Option ℕ) (s : State ℕ Image) (p : Process ℕ Image) (f : Faking) (can : CanBeCalled table made pid s p) (sized : IsSized p.image) (calm : plain_rule 1 table pid no_shelf s ≡ None) where
  abbrev at : State ℕ Image
  at = decoded_in pid p s

  abbrev caller : Process ℕ Image
  caller = decoded_process table made pid s p can

  whole : IsWhole (memory_of pid at).pages
  whole =
      subst (λ (m : Memory). IsWhole m.pages) (sym (decoded_memory table made pid s p can))
      ((decoded_lasts table made pid s p can).lawful.processes pid caller (decoded_lives table made pid s p can)).whole

  module _ (r : Request) (reads : (decoded_by p).reply ≡ Ok r) (kind : IsNoExec r) where
    abbrev told : Seen
    told = seen table pid at r

    abbrev left : CarriedOut Reply
    left = done_in pid r told at

    abbrev mounts : Mounts ℕ
    mounts = mounts_walked (targets_of table pid at r)

    came_is : plain_call table pid s ≡ operated table pid r at
    came_is = by_request table pid table s p (Ok r) can.lives reads ∙ sym (no-exec-requested table pid at r kind)

    calm_row : operated_rule 1 table pid no_shelf r at ≡ None
    calm_row =
        no-exec-rule 1 table pid no_shelf at r kind
        ∙ sym (ap (λ o. option_map_or (plain_rule_of 1 table pid no_shelf s) o None) can.lives ∙ ap (λ reply. decoded_rule 1 table pid no_shelf reply at) reads)
        ∙ calm

    unread : left.memory.read_marked ≡ false
    unread = (or_parts left.memory.read_marked no_shelf (first_unbroken (left.memory.read_marked || no_shelf) _ calm_row)).0

    module _ (place : ℕ) (tells_stat : TellsStat place (operation pid r told (known image_layout pid at))) where
      is : IsTold place left
      is = is_told place (operation pid r told (known image_layout pid at)) tells_stat (memory_of pid at) whole

      abbrev caller_told : Process ℕ Image
      caller_told = going (with_answer is.value) false (with_image (with_memory left.memory) caller)

      state_is : (operated table pid r at).state ≡ answered pid is.value (with_memory_of pid left.memory at)
      state_is = ap (λ (reply : Reply). settled pid reply.outcome (all_applied images mounts pid reply.changes (with_memory_of pid left.memory at))) is.replies

      lives : process pid (plain_call table pid s).state ≡ Some caller_told
      lives =
          ap (λ (came : Came). process pid came.state) came_is
          ∙ ap (process pid) state_is
          ∙ lives_changed pid (going (with_answer is.value) false) (λ p. refl) (with_memory_of pid left.memory at) (with_image (with_memory left.memory) caller)
          (lives_changed pid (with_image (with_memory left.memory)) (λ p. refl) at caller (decoded_lives table made pid s p can))

      own : image_in pid (plain_call table pid s).state ≡ caller_told.image
      own = own_image pid (plain_call table pid s).state caller_told lives

      zero_told : has_answered_zero (called pid (plain_call table pid s)) ≡ true → (word_of is.value == 0) ≡ true
      zero_told zero =
          ap (λ word. word == 0) (sym (put_there p.image.regs.x 10 (word_of is.value) (let many = sized.registers in omega (arith, many))))
          ∙ sym (ap (λ (image : Image). get_or image.regs.x 10 0 == 0) own)
          ∙ zero

      shows_unread : has_answered_zero (called pid (plain_call table pid s)) ≡ true → (carried_out (show_owner f.user f.identities place) (memory_at (called pid (plain_call table pid s)))).memory.read_marked ≡ false
      shows_unread zero =
          ap (λ (image : Image). (carried_out (show_owner f.user f.identities place) image.memory).memory.read_marked) own
          ∙ owner-unread f.user f.identities place left.memory (is.unmarked (zero_told zero)) unread

  remembered : (t : Stopped) (root : Bool) (change : Change) → t.handed.target ≡ target → IsEditedAlike f t at_root target (if_root root (Remembers change))
  remembered t true change same = same
  remembered t false change same = tt

  root_forgiven : (t : Stopped) (root : Bool) → t.handed.at_root ≡ at_root → IsEditedAlike f t at_root target (if_root root ForgivesRoot)
  root_forgiven t true same = same
  root_forgiven t false same = tt

  edit_read : (r : Request) → (decoded_by p).reply ≡ Ok r → IsNoExec r → RootIsKnown r (plain_call table pid s) at_root → TargetIsKnown r (plain_call table pid s) target
      → IsEditedAlike f (called pid (plain_call table pid s)) at_root target (due_of (is_root f) r)
  edit_read (call.Fchown fd uid gid) reads kind same inode = remembered (called pid (plain_call table pid s)) (is_root f) (Own uid gid) inode
  edit_read (call.Fchownat dirfd path uid gid flags) reads kind same inode = remembered (called pid (plain_call table pid s)) (is_root f) (Own uid gid) inode
  edit_read (call.Fchmod fd mode) reads kind same inode = remembered (called pid (plain_call table pid s)) (is_root f) (Mode (mode % modes)) inode
  edit_read (call.Fchmodat dirfd path mode) reads kind same inode = remembered (called pid (plain_call table pid s)) (is_root f) (Mode (mode % modes)) inode
  edit_read (call.Chroot path) reads kind same inode = root_forgiven (called pid (plain_call table pid s)) (is_root f) same
  edit_read (call.Fstat fd buf) reads kind same inode = shows_unread (call.Fstat fd buf) reads kind buf (fstat_tells (known image_layout pid at) buf fd)
  edit_read (call.Newfstatat dirfd path buf flags) reads kind same inode =
      let r = call.Newfstatat dirfd path buf flags in
      shows_unread r reads kind buf (newfstatat_tells (known image_layout pid at) buf dirfd path (seen table pid at r))
  edit_read (call.Execve path args env) reads kind same inode = absurd kind
  edit_read _ reads kind same inode = tt

pub edits_read_unmarked : EditsReadUnmarked
edits_read_unmarked table made pid no_shelf at_root target s p f r can sized reads kind calm same inode = edit_read table made pid no_shelf at_root target s p f can sized calm r reads kind same inode
