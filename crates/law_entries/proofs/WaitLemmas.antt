-- A call that can wait was left as it was at its first stop: it has the number of a call without a path, and no first stop gives a call such a number.
use Rattle.std.proofs.Common.{◌≡◌, ◌≢◌, inl, inr, ◌⊎◌, ℕ, zero, suc, ◌+◌, ◌-◌, Bool, true, false, ◌||◌, cond, List, [], ◌∷◌, length, Option, Some, None, Result, Ok, Err, pos, get_or, refl, sym, ap, subst, ◌∙◌}
use Rattle.std.specs.Prelude.{◌==◌, nat_lt, slice_set}
use Rattle.std.specs.List.{list_all}
use Rattle.std.specs.Option.{unwrap_or, option_map_or}
use Rattle.std.proofs.lemmas.Bool.{and_parts}
use Rattle.std.proofs.lemmas.List.{get_or-set_other}
use Rattle.pt_tracer.specs.pr_base.MountText.{MountText}
use Rattle.pt_tracer.specs.pr_base.Paths.{is_absolute}
use Rattle.pt_tracer.specs.pr_base.Texts.{Text}
use Rattle.pt_tracer.specs.pr_base.declared.errno.Errno.{Errno}
use Rattle.pt_tracer.specs.pr_base.declared.errno.Errno.TheVariants.{E2BIG, EFAULT, ENAMETOOLONG, ENOENT, ERANGE}
use Rattle.pt_tracer.specs.pr_base.declared.path.WalkMode.TheVariants as mode
use Rattle.pt_tracer.specs.pr_base.declared.peeks.PeekKind.{PeekKind}
use Rattle.pt_tracer.specs.pr_base.declared.peeks.PeekKind.TheVariants as peek
use Rattle.pt_tracer.specs.rv_mem.Actions.{carried_out}
use Rattle.pt_tracer.specs.rv_mem.Memory.{Memory, with_pages}
use Rattle.pt_tracer.specs.rv_mem.Pages.{written}
use Rattle.pt_tracer.specs.rv_mem.declared.regs.Regs.{Regs}
use Rattle.pt_tracer.specs.pt_bind.Binding.{names_of}
use Rattle.pt_tracer.specs.pt_bind.Tags.{TagTable}
use Rattle.pt_tracer.specs.pt_canon.Canon.{canon_of}
use Rattle.pt_tracer.specs.pt_canon.TextWalk.{TextSurroundings}
use Rattle.pt_tracer.specs.pt_canon.declared.canon.Canon.{Canon}
use Rattle.pt_tracer.specs.pt_results.kr_calls.Arguments.{has_other, int, long, number, word}
use Rattle.pt_tracer.specs.pt_results.kr_calls.CallTable.{line}
use Rattle.pt_tracer.specs.pt_results.kr_calls.Decoding.{accepts, decoding_of, unless, wait_flags}
use Rattle.pt_tracer.specs.pt_results.kr_calls.PathTable.{PathUse, path_at}
use Rattle.pt_tracer.specs.pt_results.kr_calls.declared.request.Request.{Request}
use Rattle.pt_tracer.specs.pt_results.kr_calls.declared.request.Request.TheVariants as call
use Rattle.kr_loose.proofs.kr_turns.kr_calls.DecodingLemmas.{decoded_are_numbered}
use Rattle.pt_tracer.specs.pt_args.Bases.{working_text}
use Rattle.pt_tracer.specs.pt_args.Edits.{longest_path}
use Rattle.pt_tracer.specs.pt_args.Shelving.{shelf_size, with_zero}
use Rattle.pt_tracer.specs.pt_args.Walks.{walked}
use Rattle.pt_tracer.specs.pt_args.declared.edit.Edit.{Edit}
use Rattle.pt_tracer.specs.pt_args.declared.edit.Edit.TheVariants.{Cancel, Emulate, Pass, Swap}
use Rattle.pt_tracer.specs.pt_args.declared.reached.Reached.{Reached}
use Rattle.pt_tracer.specs.pt_results.Answers.{directory_answer, jump_answer, kind_answer, led_answer, nowhere_answer, path_answer, walked_answer}
use Rattle.pt_tracer.specs.pt_results.Numbers.{count_of}
use Rattle.pt_tracer.specs.pt_faker.Faking.{no_call, no_longer_called}
use Rattle.pt_tracer.specs.pt_faker.Reading.{addresses_behind, lists_at}
use Rattle.pt_tracer.specs.pt_faker.Stopping.{after_poke, after_request, decoded_at, memory_at, with_memory, with_register}
use Rattle.pt_tracer.specs.pt_faker.declared.lists.Handed.{Handed}
use Rattle.pt_tracer.specs.pt_ident.IdentityTable.{IdentityTable}
use Rattle.pt_tracer.specs.pt_script.Expanding.{expanded_at}
use Rattle.pt_tracer.specs.pt_script.declared.expansion.Expanded.{Expanded}
use Rattle.pt_tracer.specs.Planning.{after_addresses, after_expansion, after_lists, after_path, answered, edit_for, has_shelf, is_swap, led_in, led_of, list_addresses, nowhere, planned, planned_by, rewritten, script_plan, stack_at, texts_at}
use Rattle.pt_tracer.specs.Poking.{may_poke, poked}
use Rattle.pt_tracer.specs.Registers.{is_register, with_argument, with_arguments}
use Rattle.pt_tracer.specs.ScriptEdit.{put_texts, script_edit, script_room, shelved_script}
use Rattle.pt_tracer.specs.Watched.{Tracing, after_decoding, applied, by_identities, entered, refused}
use Rattle.pt_tracer.specs.declared.plan.Led.{Led}
use Rattle.pt_tracer.specs.declared.plan.Plan.{Plan}
use Rattle.pt_tracer.proofs.kr_stops.EditLemmas.{image-edited}
use Rattle.kr_loose.specs.kr_core.kr_steps.Waits.{IsDecoded}
use Rattle.kr_loose.specs.kr_model.Laws.{may_wait}
use Rattle.kr_loose.specs.kr_model.State.{Image, Process, process}
use Rattle.kr_loose.specs.kr_stops.Stopped.{IsThere, Stopped, image_at, image_in, no_image}
use Rattle.law_entries.proofs.EditLemmas.{entry-left}
use Rattle.law_entries.proofs.ExitLemmas.{image-register}
use Rattle.law_entries.proofs.NumberLemmas.{KeepsNumber, either-keeps, is_apart, is_other, swaps-keep}
use Rattle.law_entries.proofs.StayLemmas.{image-computed, image_of}

impossible : {A : Type 0} → false ≡ true → A
impossible e = absurd cc

-- ---- numbers of calls that can wait

abbrev waits_number : ℕ → Bool
waits_number n = (n == 63) || (n == 64) || (n == 65) || (n == 66) || (n == 260)

number-waits : (r : Request) → waits_number (line r).number ≡ may_wait r
number-waits (call.Read fd buf n) = refl
number-waits _ = refl

-- no memory is read for one of them
quick : (r : Request) → may_wait r ≡ true → (regs : Regs) (m : Memory) → (carried_out (decoding_of (line r).number regs) m).memory ≡ m
quick (call.Read fd buf n) may regs m = refl
quick (call.Write fd buf n) may regs m = refl
quick (call.Readv fd list count) may regs m = refl
quick (call.Writev fd list count) may regs m = refl
quick (call.Wait4 child status options usage) may regs m = by (has_other (word regs 2) wait_flags)
  where
    by : (b : Bool) → (carried_out (unless b (accepts (call.Wait4 (int regs 0) (long regs 1) (int regs 2) (long regs 3)))) m).memory ≡ m
    by true = refl
    by false = refl
quick _ may regs m = impossible may

abbrev number_at : Stopped → ℕ
number_at t = number (image_at t).regs

-- so its reading leaves the process as it is
quick-read : (t : Stopped) → IsThere t → (r : Request) → may_wait r ≡ true → number_at t ≡ (line r).number → image_at (after_request t) ≡ image_at t
quick-read t there r may is =
    ap (λ (m : Memory). image_at (with_memory m t)) (ap (λ n. (carried_out (decoding_of n (image_at t).regs) (memory_at t)).memory) is ∙ quick r may (image_at t).regs (memory_at t))
    ∙ image-edited (image_at t).regs (memory_at t) t there.lives

-- and nothing is put in the place of another thing
passes : (x : Tracing) (t : Stopped) (r : Request) → may_wait r ≡ true → (by_identities x r t None).1 ≡ t
passes x t (call.Read fd buf n) may = refl
passes x t (call.Write fd buf n) may = refl
passes x t (call.Readv fd list count) may = refl
passes x t (call.Writev fd list count) may = refl
passes x t (call.Wait4 child status options usage) may = refl
passes x t _ may = impossible may

-- ---- edits that leave the register of the number

other-register : (k : ℕ) → is_apart k ≡ true → 17 ≢ k
other-register k e same = absurd (let clash : false ≡ true = ap is_apart same ∙ e in cc)

-- ---- plans

abbrev MayKeep : Option Edit → Type 0
MayKeep None = Unit {0}
MayKeep (Some edit) = KeepsNumber edit

either-may : (b : Bool) (one two : Option Edit) → MayKeep one → MayKeep two → MayKeep (cond b one two)
either-may true one two first second = first
either-may false one two first second = second

module _ (texts : TextSurroundings) where
  -- what is answered here puts nothing in the place of a path
  directory-keeps : (text : Option (List ℕ)) (size buf : ℕ) → KeepsNumber (directory_answer text size buf)
  directory-keeps (Some text) size buf = either-keeps (nat_lt size (length text + 1)) (Cancel ERANGE) (Emulate ((buf, with_zero text) ∷ []) (pos (length text + 1))) tt tt
  directory-keeps None size buf = tt

  nowhere-keeps : (own : Result (List ℕ) Errno) → MayKeep (nowhere_answer own)
  nowhere-keeps (Ok text) = either-may (is_absolute text) (Some (Cancel ENOENT)) None tt tt
  nowhere-keeps (Err e) = tt

  led-keeps : (own : Result (List ℕ) Errno) (room : _) (led : Result Canon Errno) → MayKeep (led_answer own room led)
  led-keeps own room (Ok led) = tt
  led-keeps own room (Err e) = nowhere-keeps own

  jump-keeps : (canon : Canon) (room : _) (guest : Text) → MayKeep (jump_answer texts canon room guest)
  jump-keeps canon room [] = tt
  jump-keeps canon room (name ∷ dir) = led-keeps (texts.peeked.link_text canon.host) room (canon_of texts mode.Look dir name)

  kind-keeps : (canon : Canon) (room : _) (k : Result PeekKind Errno) → MayKeep (kind_answer texts canon room k)
  kind-keeps canon room (Ok peek.Jump) = jump-keeps canon room (names_of canon.guest)
  kind-keeps canon room (Ok peek.Dir) = tt
  kind-keeps canon room (Ok peek.File) = tt
  kind-keeps canon room (Ok peek.Link) = tt
  kind-keeps canon room (Err e) = tt

  walk-keeps : (room : _) (w : Result (Option Reached) Errno) → MayKeep (walked_answer texts room w)
  walk-keeps room (Ok (Some reached)) = kind-keeps reached.canon room (texts.peeked.kind reached.canon.host)
  walk-keeps room (Ok None) = tt
  walk-keeps room (Err e) = tt

  path-keeps : (pid : ℕ) (room : _) (o : Option PathUse) → MayKeep (path_answer texts pid room o)
  path-keeps pid room None = tt
  path-keeps pid room (Some u) = walk-keeps room (walked texts pid false u)

  answer-keeps : (t : Stopped) (r : Request) → MayKeep (answered texts t r)
  answer-keeps t (call.Getcwd buf size) = directory-keeps (working_text texts t.pid) size buf
  answer-keeps t (call.Readlinkat dirfd path buf size) = path-keeps t.pid (record { buf = buf; count = count_of size }) (path_at (call.Readlinkat dirfd path buf size) 0)
  answer-keeps t _ = tt

  unless-keeps : (o : Option Edit) (edit : Edit) → MayKeep o → KeepsNumber edit → KeepsNumber (unwrap_or o edit)
  unless-keeps None edit first second = second
  unless-keeps (Some own) edit first second = first

script-keeps : (sp : ℕ) (host : List ℕ) (texts : List (List ℕ)) (kept : List ℕ) → KeepsNumber (script_edit sp host texts kept)
script-keeps sp host texts kept =
    either-keeps (nat_lt longest_path (length host)) (Cancel ENAMETOOLONG) (cond (nat_lt shelf_size (script_room host texts kept)) (Cancel E2BIG) (shelved_script sp host texts kept)) tt
    (either-keeps (nat_lt shelf_size (script_room host texts kept)) (Cancel E2BIG) (shelved_script sp host texts kept) tt refl)

-- where a call has its lists: pt_tracer gives its record no name for others
abbrev FoundIn : {A B : Type 0} → (A → Option B) → Type 0
FoundIn {B = B} f = B

abbrev Addresses : Type 0
Addresses = FoundIn list_addresses

-- registers stay where memories are changed, whether the process lives or not
memory-regs : (m : Memory) (t : Stopped) → (image_at (with_memory m t)).regs ≡ (image_at t).regs
memory-regs m t = ap (λ (i : Image). i.regs) (image-computed t.pid (image_at t).regs m t.state) ∙ by (process t.pid t.state)
  where
    by : (o : Option (Process ℕ Image)) → (option_map_or (λ (p : Process ℕ Image). record { regs = (image_of o).regs; memory = m }) o no_image).regs ≡ (image_of o).regs
    by None = refl
    by (Some p) = refl

memory-number : (m : Memory) (t : Stopped) → number_at (with_memory m t) ≡ number_at t
memory-number m t = ap number (memory-regs m t)

-- an edit that leaves the number, of a process that has the number that it had
record PlanKeeps (t : Stopped) (p : Plan × Stopped) : Type 0 where
  edit : KeepsNumber p.0.edit
  number : number_at p.1 ≡ number_at t

either-plan : (b : Bool) (t : Stopped) (p q : Plan × Stopped) → PlanKeeps t p → PlanKeeps t q → PlanKeeps t (cond b p q)
either-plan true t p q first second = first
either-plan false t p q first second = second

module _ (bindings : List MountText) (tags : TagTable) where
  rewritten-keeps : (t : Stopped) (r : Request) → KeepsNumber (rewritten (texts_at bindings tags t) t r)
  rewritten-keeps t r = swaps-keep (stack_at t) (has_shelf t) (texts_at bindings tags t) t.pid r

  plain-keeps : (t : Stopped) (r : Request) → KeepsNumber (edit_for (texts_at bindings tags t) t r)
  plain-keeps t r = unless-keeps (texts_at bindings tags t) (answered (texts_at bindings tags t) t r) (rewritten (texts_at bindings tags t) t r) (answer-keeps (texts_at bindings tags t) t r) (rewritten-keeps t r)

  addresses-keep : (t : Stopped) (e : Expanded) (kept : ℕ) (r : Result (List ℕ) Errno) → KeepsNumber (after_addresses t e kept r).edit
  addresses-keep t e kept (Ok addresses) = script-keeps (stack_at t) e.host (put_texts kept e.args) addresses
  addresses-keep t e kept (Err errno) = tt

  expansion-keeps : (edit : Edit) (args kept : ℕ) (t : Stopped) (r : Result Expanded Errno) → KeepsNumber edit → PlanKeeps t (after_expansion bindings tags edit args kept t r)
  expansion-keeps edit args kept t (Ok e) own =
      let done = carried_out (addresses_behind args kept) (memory_at t) in
      either-plan (e.scripts == 0) t (record { edit = edit; led = led_in e.index }, t) (script_plan t args kept e) (record { edit = own; number = refl })
      (record { edit = addresses-keep t e kept done.reply; number = memory-number done.memory t })
  expansion-keeps edit args kept t (Err errno) own = record { edit = tt; number = refl }

  lists-keep : (edit : Edit) (led : Led) (path : List ℕ) (args : ℕ) (r : Result Handed Errno) (t : Stopped) → KeepsNumber edit → PlanKeeps t (after_lists bindings tags edit led path args r t)
  lists-keep edit led path args (Ok handed) t own =
      expansion-keeps edit args (length handed.args - 1) t (expanded_at (texts_at bindings tags t) t.pid handed.env_bytes path handed.args) own
  lists-keep edit led path args (Err errno) t own = record { edit = own; number = refl }

  path-plan-keeps : (t : Stopped) (r : Request) (path : List ℕ) (lists : Addresses) (edit : Edit) → KeepsNumber edit → PlanKeeps t (after_path bindings tags t r path lists edit)
  path-plan-keeps t r path lists edit own =
      let read = carried_out (lists_at lists.args lists.env) (memory_at t) in
      let led = led_of (texts_at bindings tags t) t.pid r in
      let behind = lists-keep edit led path lists.args read.reply (with_memory read.memory t) own in
      either-plan (is_swap edit) t (after_lists bindings tags edit led path lists.args read.reply (with_memory read.memory t)) (record { edit = edit; led = nowhere }, t)
      (record { edit = behind.edit; number = behind.number ∙ memory-number read.memory t }) (record { edit = own; number = refl })

  planned-keeps : (t : Stopped) (r : Request) → PlanKeeps t (planned bindings tags t r)
  planned-keeps t r = by (list_addresses r) (path_at r 0)
    where
      by : (o : Option Addresses) (u : Option PathUse) → PlanKeeps t (planned_by bindings tags t r o u)
      by None u = record { edit = plain-keeps t r; number = refl }
      by (Some lists) None = record { edit = plain-keeps t r; number = refl }
      by (Some lists) (Some v) = path-plan-keeps t r v.text lists (rewritten (texts_at bindings tags t) t r) (rewritten-keeps t r)

-- ---- the number behind an edit

-- it is the one before, or that of no call
abbrev IsKeptNumber : Stopped → Stopped → Type 0
IsKeptNumber t u = (number_at u ≡ number_at t) ⊎ (number_at u ≡ no_call)

kept-then : (t u v : Stopped) → number_at u ≡ number_at t → IsKeptNumber u v → IsKeptNumber t v
kept-then t u v same (inl kept) = inl (kept ∙ same)
kept-then t u v same (inr none) = inr none

set-there : (xs : List ℕ) (k v : ℕ) → (get_or (slice_set xs k v) k 0 ≡ v) ⊎ (slice_set xs k v ≡ xs)
set-there [] k v = inr refl
set-there (x ∷ xs) zero v = inl refl
set-there (x ∷ xs) (suc k) v = behind (set-there xs k v)
  where
    behind : (get_or (slice_set xs k v) k 0 ≡ v) ⊎ (slice_set xs k v ≡ xs) → (get_or (slice_set xs k v) k 0 ≡ v) ⊎ (x ∷ slice_set xs k v ≡ x ∷ xs)
    behind (inl is) = inl is
    behind (inr same) = inr (ap (λ ys. x ∷ ys) same)

uncalled-kept : (t : Stopped) → IsKeptNumber t (no_longer_called t)
uncalled-kept t = by (set-there (image_at t).regs.x 17 no_call)
  where
    number-set : number_at (no_longer_called t) ≡ get_or (slice_set (image_at t).regs.x 17 no_call) 17 0
    number-set = ap (λ (i : Image). number i.regs) (image-register 17 no_call t)

    by : (get_or (slice_set (image_at t).regs.x 17 no_call) 17 0 ≡ no_call) ⊎ (slice_set (image_at t).regs.x 17 no_call ≡ (image_at t).regs.x) → IsKeptNumber t (no_longer_called t)
    by (inl is) = inr (number-set ∙ is)
    by (inr same) = inl (number-set ∙ ap (λ (xs : List ℕ). get_or xs 17 0) same)

poked-number : (pokes : List (ℕ × List ℕ)) (t : Stopped) → number_at (poked pokes t) ≡ number_at t
poked-number [] t = refl
poked-number (p ∷ ps) t = poked-number ps (after_poke p.0 p.1 t) ∙ memory-number (with_pages (memory_at t) (written (memory_at t).pages p.0 p.1)) t

argument-number : (p : ℕ × ℕ) (t : Stopped) → is_other p ≡ true → number_at (with_argument p t) ≡ number_at t
argument-number p t other = by (is_register p.0)
  where
    by : (b : Bool) → number_at (cond b (with_register p.0 p.1 t) t) ≡ number_at t
    by true = ap (λ (i : Image). number i.regs) (image-register p.0 p.1 t) ∙ get_or-set_other (image_at t).regs.x p.0 17 p.1 0 (other-register p.0 other)
    by false = refl

arguments-number : (ps : List (ℕ × ℕ)) (t : Stopped) → list_all is_other ps ≡ true → number_at (with_arguments ps t) ≡ number_at t
arguments-number [] t all = refl
arguments-number (p ∷ ps) t all =
    let parts = and_parts (is_other p) (list_all is_other ps) all in
    arguments-number ps (with_argument p t) parts.1 ∙ argument-number p t parts.0

applied-kept : (edit : Edit) (t : Stopped) → KeepsNumber edit → IsKeptNumber t (applied edit t).stopped
applied-kept Pass t keeps = inl refl
applied-kept (Swap regs pokes) t keeps = by (may_poke pokes t)
  where
    by : (b : Bool) → IsKeptNumber t (cond b (record { answer = None; stopped = with_arguments regs (poked pokes t) }) (refused EFAULT t)).stopped
    by true = inl (arguments-number regs (poked pokes t) keeps ∙ poked-number pokes t)
    by false = uncalled-kept t
applied-kept (Cancel e) t keeps = uncalled-kept t
applied-kept (Emulate pokes answer) t keeps = by (may_poke pokes t)
  where
    by : (b : Bool) → IsKeptNumber t (cond b (record { answer = Some answer; stopped = no_longer_called (poked pokes t) }) (refused EFAULT t)).stopped
    by true = kept-then t (poked pokes t) (no_longer_called (poked pokes t)) (poked-number pokes t) (uncalled-kept (poked pokes t))
    by false = uncalled-kept t

-- ---- the first stop

module _ (x : Tracing) where
  call-kept : (r : Request) (t : Stopped) → IsKeptNumber t (by_identities x r t None).1
  call-kept r t =
      let plan = planned x.bindings x.tags t r in
      let keeps = planned-keeps x.bindings x.tags t r in
      kept-then t plan.1 (applied plan.0.edit plan.1).stopped keeps.number (applied-kept plan.0.edit plan.1 keeps.edit)

  module _ (t : Stopped) (there : IsThere t) (none : x.identities ≡ None) (r : Request) (may : may_wait r ≡ true) where
    -- of another call the number isn't that of one that can wait
    waits-not : (q : Request) → (decoded_at t).reply ≡ Ok q → may_wait q ≡ false → number_at (by_identities x q (after_request t) None).1 ≡ (line r).number → image_at (by_identities x q (after_request t) None).1 ≡ image_at t
    waits-not q read cannot is = by (call-kept q (after_request t))
      where
        waiting : waits_number (number_at (by_identities x q (after_request t) None).1) ≡ true
        waiting = ap waits_number is ∙ number-waits r ∙ may

        by : IsKeptNumber (after_request t) (by_identities x q (after_request t) None).1 → image_at (by_identities x q (after_request t) None).1 ≡ image_at t
        by (inl kept) =
            impossible
            (sym cannot ∙ sym (number-waits q) ∙ ap waits_number (decoded_are_numbered (image_at t).regs (memory_at t) q read) ∙ sym (ap waits_number (kept ∙ memory-number (decoded_at t).memory t)) ∙ waiting)
        by (inr gone) = impossible (sym (ap waits_number gone) ∙ waiting)

    call-waits : (q : Request) → (decoded_at t).reply ≡ Ok q → (o : Option IdentityTable) → o ≡ None → number_at (by_identities x q (after_request t) o).1 ≡ (line r).number → image_at (by_identities x q (after_request t) o).1 ≡ image_at t
    call-waits q read None e is = by (may_wait q) refl
      where
        by : (b : Bool) → may_wait q ≡ b → image_at (by_identities x q (after_request t) None).1 ≡ image_at t
        by true can =
            ap image_at (passes x (after_request t) q can) ∙ quick-read t there q can (sym (decoded_are_numbered (image_at t).regs (memory_at t) q read))
        by false cannot = waits-not q read cannot is
    call-waits q read (Some table) e is = absurd cc

    decoded-waits : (d : Result Request Errno) → (decoded_at t).reply ≡ d → number_at (after_decoding x (after_request t) d).1 ≡ (line r).number → image_at (after_decoding x (after_request t) d).1 ≡ image_at t
    decoded-waits (Ok q) read is = call-waits q read x.identities none is
    decoded-waits (Err e) read is = quick-read t there r may (sym (memory-number (decoded_at t).memory t) ∙ is)

  pub entry-waits : (t : Stopped) (r : Request) → x.identities ≡ None → IsThere t → IsDecoded (image_in t.pid (entered x t).1.state).regs (image_in t.pid (entered x t).1.state).memory r → may_wait r ≡ true
      → image_in t.pid (entered x t).1.state ≡ image_at t
  entry-waits t r none there given may =
      let v : Stopped = (entered x t).1 in
      let pid : v.pid ≡ t.pid = ap (λ (u : Stopped). u.pid) (entry-left x t none there).becomes in
      let read : IsDecoded (image_at v).regs (image_at v).memory r = subst (λ n. IsDecoded (image_in n v.state).regs (image_in n v.state).memory r) (sym pid) given in
      ap (λ n. image_in n v.state) (sym pid)
      ∙ decoded-waits t there none r may (decoded_at t).reply refl (sym (decoded_are_numbered (image_at v).regs (image_at v).memory r read))
