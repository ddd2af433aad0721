-- Without an identity the stops of a tracer edit the process that is stopped, and nothing else.
use Rattle.std.specs.FinMap as map
use Rattle.std.proofs.Common.{◌≡◌, ℕ, ◌-◌, Bool, true, false, cond, List, [], ◌∷◌, length, Option, Some, None, Result, Ok, Err, ℤ, refl, ap, ◌∙◌}
use Rattle.std.specs.Prelude.{◌==◌, slice_set, map as map_list}
use Rattle.pt_tracer.specs.pr_base.MountText.{MountText}
use Rattle.pt_tracer.specs.pr_base.declared.errno.Errno.{Errno}
use Rattle.pt_tracer.specs.pr_base.declared.errno.Errno.TheVariants.{EFAULT}
use Rattle.pt_tracer.specs.rv_mem.Actions.{Action, Done, MayUse, ReadBytes, WriteBytes, allows_uses, carried_out}
use Rattle.pt_tracer.specs.rv_mem.Layout.{layout_of}
use Rattle.pt_tracer.specs.rv_mem.Memory.{Memory, after_read, with_pages}
use Rattle.pt_tracer.specs.rv_mem.Pages.{bytes_from, written}
use Rattle.pt_tracer.proofs.rv_mem.LayoutLemmas.{layouts_follow}
use Rattle.pt_tracer.specs.pt_bind.Tags.{TagTable, with_tag}
use Rattle.pt_tracer.specs.pt_bind.declared.slot.Slot.TheVariants.{Exe}
use Rattle.pt_tracer.specs.pt_results.kr_calls.Decoding.{decoding}
use Rattle.pt_tracer.specs.pt_results.kr_calls.PathTable.{PathUse, path_at}
use Rattle.pt_tracer.specs.pt_results.kr_calls.declared.request.Request.{Request}
use Rattle.pt_tracer.specs.pt_args.declared.edit.Edit.{Edit}
use Rattle.pt_tracer.specs.pt_args.declared.edit.Edit.TheVariants.{Cancel, Emulate, Pass, Swap}
use Rattle.pt_tracer.specs.pt_faker.Faking.{no_call, no_longer_called, word_of}
use Rattle.pt_tracer.specs.pt_faker.Reading.{addresses_behind, lists_at}
use Rattle.pt_tracer.specs.pt_faker.Stopping.{after_poke, after_request, decoded_at, memory_at, with_memory, with_register}
use Rattle.pt_tracer.specs.pt_faker.declared.lists.Handed.{Handed}
use Rattle.pt_tracer.specs.pt_ident.IdentityTable.{IdentityTable}
use Rattle.pt_tracer.specs.pt_script.Expanding.{expanded_at}
use Rattle.pt_tracer.specs.pt_script.declared.expansion.Expanded.{Expanded}
use Rattle.pt_tracer.specs.Planning.{after_expansion, after_lists, after_path, is_swap, led_in, led_of, list_addresses, nowhere, planned, planned_by, rewritten, script_plan, texts_at}
use Rattle.pt_tracer.specs.Poking.{may_poke, poked}
use Rattle.pt_tracer.specs.Registers.{given_back, is_register, with_argument, with_arguments}
use Rattle.pt_tracer.specs.Watched.{Tracing, after_decoding, after_pending, applied, begin_as, begin_program, by_identities, entered, exited, give_back, has_begun, if_answered, refused, returned, shown_to, with_tags, without_pending}
use Rattle.pt_tracer.specs.declared.pending.Pending.{Pending}
use Rattle.pt_tracer.specs.declared.plan.Led.{Led}
use Rattle.pt_tracer.specs.declared.plan.Plan.{Plan}
use Rattle.pt_tracer.specs.declared.registers.Arguments.{Arguments}
use Rattle.pt_tracer.proofs.kr_stops.EditLemmas.{computed-lives, edited-by, edited-same, edited-then, edited-twice, image-edited}
use Rattle.pt_tracer.proofs.law_lawful.ProcessChangeLemmas.{pids-same}
use Rattle.kr_loose.specs.kr_model.State.{Image, Process}
use Rattle.kr_loose.specs.kr_stops.Stopped.{IsEdited, IsThere, Stopped, edited, image_at}
use Rattle.law_entries.proofs.StayLemmas.{with_own}

-- ---- memories

-- what is done on a memory leaves its pages where they are, with their rights
action-layout : {A : Type 0} (action : Action A) (m : Memory) → layout_of (carried_out action m).memory.pages ≡ layout_of m.pages
action-layout (Done reply) m = refl
action-layout (MayUse at n uses next) m = action-layout (next (allows_uses m.pages at n uses)) m
action-layout (ReadBytes at n next) m = action-layout (next (bytes_from m.pages at n)) (after_read m at n)
action-layout (WriteBytes at bytes next) m = action-layout next (with_pages m (written m.pages at bytes)) ∙ layouts_follow.writes m.pages at bytes

-- ---- one edit

-- a process that was edited, and is there still
record IsLeft (t u : Stopped) : Type 0 where
  edits : IsEdited t u
  there : IsThere u

left-same : (t : Stopped) → IsThere t → IsLeft t t
left-same t there = record { edits = edited-same t there; there = there }

left-then : (t u v : Stopped) → IsLeft t u → IsLeft u v → IsLeft t v
left-then t u v first second = record { edits = edited-then t u v first.edits second.edits; there = second.there }

module _ (t : Stopped) (there : IsThere t) where
  given-there : (own : Image) → IsThere (edited own.regs own.memory t)
  given-there own = record {
    lives = computed-lives t.pid own.regs own.memory t.state there.lives;
    one =
        ap (λ (i : Image). edited i.regs i.memory (edited own.regs own.memory t)) (image-edited own.regs own.memory t there.lives)
        ∙ edited-twice own.regs own.regs own.memory own.memory t;
  }

  left-memory : (m : Memory) → layout_of m.pages ≡ layout_of (memory_at t).pages → IsLeft t (with_memory m t)
  left-memory m same = record { edits = edited-by (image_at t).regs m t there refl same; there = given-there (record { regs = (image_at t).regs; memory = m }) }

  left-action : {A : Type 0} (action : Action A) → IsLeft t (with_memory (carried_out action (memory_at t)).memory t)
  left-action action = left-memory (carried_out action (memory_at t)).memory (action-layout action (memory_at t))

  left-register : (k v : ℕ) → IsLeft t (with_register k v t)
  left-register k v = record {
    edits = edited-by (record { x = slice_set (image_at t).regs.x k v; pc = (image_at t).regs.pc }) (memory_at t) t there refl refl;
    there = given-there (record { regs = record { x = slice_set (image_at t).regs.x k v; pc = (image_at t).regs.pc }; memory = memory_at t });
  }

  left-poke : (at : ℕ) (bytes : List ℕ) → IsLeft t (after_poke at bytes t)
  left-poke at bytes = left-memory (with_pages (memory_at t) (written (memory_at t).pages at bytes)) (layouts_follow.writes (memory_at t).pages at bytes)

  left-request : IsLeft t (after_request t)
  left-request = left-action (decoding (image_at t).regs)

  left-uncalled : IsLeft t (no_longer_called t)
  left-uncalled = left-register 17 no_call

-- ---- what an edit does

left-poked : (pokes : List (ℕ × List ℕ)) (t : Stopped) → IsThere t → IsLeft t (poked pokes t)
left-poked [] t there = left-same t there
left-poked (p ∷ ps) t there =
    let first = left-poke t there p.0 p.1 in
    left-then t (after_poke p.0 p.1 t) (poked ps (after_poke p.0 p.1 t)) first (left-poked ps (after_poke p.0 p.1 t) first.there)

left-argument : (p : ℕ × ℕ) (t : Stopped) → IsThere t → IsLeft t (with_argument p t)
left-argument p t there = by (is_register p.0)
  where
    by : (b : Bool) → IsLeft t (cond b (with_register p.0 p.1 t) t)
    by true = left-register t there p.0 p.1
    by false = left-same t there

left-arguments : (ps : List (ℕ × ℕ)) (t : Stopped) → IsThere t → IsLeft t (with_arguments ps t)
left-arguments [] t there = left-same t there
left-arguments (p ∷ ps) t there =
    let first = left-argument p t there in
    left-then t (with_argument p t) (with_arguments ps (with_argument p t)) first (left-arguments ps (with_argument p t) first.there)

left-applied : (edit : Edit) (t : Stopped) → IsThere t → IsLeft t (applied edit t).stopped
left-applied Pass t there = left-same t there
left-applied (Swap regs pokes) t there = by (may_poke pokes t)
  where
    by : (b : Bool) → IsLeft t (cond b (record { answer = None; stopped = with_arguments regs (poked pokes t) }) (refused EFAULT t)).stopped
    by true =
        let first = left-poked pokes t there in
        left-then t (poked pokes t) (with_arguments regs (poked pokes t)) first (left-arguments regs (poked pokes t) first.there)
    by false = left-uncalled t there
left-applied (Cancel e) t there = left-uncalled t there
left-applied (Emulate pokes answer) t there = by (may_poke pokes t)
  where
    by : (b : Bool) → IsLeft t (cond b (record { answer = Some answer; stopped = no_longer_called (poked pokes t) }) (refused EFAULT t)).stopped
    by true =
        let first = left-poked pokes t there in
        left-then t (poked pokes t) (no_longer_called (poked pokes t)) first (left-uncalled (poked pokes t) first.there)
    by false = left-uncalled t there

-- ---- what a plan reads

-- where a call has its lists: pt_tracer gives its record no name for others
abbrev FoundIn : {A B : Type 0} → (A → Option B) → Type 0
FoundIn {B = B} f = B

abbrev Addresses : Type 0
Addresses = FoundIn list_addresses

left-either : (b : Bool) (t : Stopped) (p q : Plan × Stopped) → IsLeft t p.1 → IsLeft t q.1 → IsLeft t (cond b p q).1
left-either true t p q first second = first
left-either false t p q first second = second

module _ (bindings : List MountText) (tags : TagTable) where
  left-expansion : (edit : Edit) (args kept : ℕ) (t : Stopped) (r : Result Expanded Errno) → IsThere t → IsLeft t (after_expansion bindings tags edit args kept t r).1
  left-expansion edit args kept t (Ok e) there =
      left-either (e.scripts == 0) t (record { edit = edit; led = led_in e.index }, t) (script_plan t args kept e) (left-same t there) (left-action t there (addresses_behind args kept))
  left-expansion edit args kept t (Err errno) there = left-same t there

  left-lists : (edit : Edit) (led : Led) (path : List ℕ) (args : ℕ) (r : Result Handed Errno) (t : Stopped) → IsThere t → IsLeft t (after_lists bindings tags edit led path args r t).1
  left-lists edit led path args (Ok handed) t there =
      left-expansion edit args (length handed.args - 1) t (expanded_at (texts_at bindings tags t) t.pid handed.env_bytes path handed.args) there
  left-lists edit led path args (Err errno) t there = left-same t there

  left-path : (t : Stopped) (r : Request) (path : List ℕ) (lists : Addresses) (edit : Edit) → IsThere t → IsLeft t (after_path bindings tags t r path lists edit).1
  left-path t r path lists edit there =
      let read = carried_out (lists_at lists.args lists.env) (memory_at t) in
      let led = led_of (texts_at bindings tags t) t.pid r in
      let first = left-action t there (lists_at lists.args lists.env) in
      let rest = left-lists edit led path lists.args read.reply (with_memory read.memory t) first.there in
      left-either (is_swap edit) t (after_lists bindings tags edit led path lists.args read.reply (with_memory read.memory t)) (record { edit = edit; led = nowhere }, t)
      (left-then t (with_memory read.memory t) (after_lists bindings tags edit led path lists.args read.reply (with_memory read.memory t)).1 first rest) (left-same t there)

  left-planned : (t : Stopped) (r : Request) → IsThere t → IsLeft t (planned bindings tags t r).1
  left-planned t r there = by (list_addresses r) (path_at r 0)
    where
      by : (o : Option Addresses) (u : Option PathUse) → IsLeft t (planned_by bindings tags t r o u).1
      by None u = left-same t there
      by (Some lists) None = left-same t there
      by (Some lists) (Some v) = left-path t r v.text lists (rewritten (texts_at bindings tags t) t r) there

-- ---- the first stop

module _ (x : Tracing) where
  left-call : (r : Request) (t : Stopped) (o : Option IdentityTable) → o ≡ None → IsThere t → IsLeft t (by_identities x r t o).1
  left-call r t None e there =
      let plan = planned x.bindings x.tags t r in
      let first = left-planned x.bindings x.tags t r there in
      left-then t plan.1 (applied plan.0.edit plan.1).stopped first (left-applied plan.0.edit plan.1 first.there)
  left-call r t (Some table) e there = absurd cc

  left-decoded : (t : Stopped) (d : Result Request Errno) → x.identities ≡ None → IsThere t → IsLeft t (after_decoding x t d).1
  left-decoded t (Ok r) none there = left-call r t x.identities none there
  left-decoded t (Err e) none there = left-same t there

  pub entry-left : (t : Stopped) → x.identities ≡ None → IsThere t → IsEdited t (entered x t).1
  entry-left t none there =
      let first = left-request t there in
      (left-then t (after_request t) (entered x t).1 first (left-decoded (after_request t) (decoded_at t).reply none first.there)).edits

-- ---- the second stop

left-back : (p : Arguments) (t : Stopped) → IsThere t → IsLeft t (given_back p t)
left-back p t there =
    let t1 : Stopped = with_register 11 p.a1 t in
    let e1 = left-register t there 11 p.a1 in
    let t2 : Stopped = with_register 12 p.a2 t1 in
    let e2 = left-then t t1 t2 e1 (left-register t1 e1.there 12 p.a2) in
    let t3 : Stopped = with_register 13 p.a3 t2 in
    let e3 = left-then t t2 t3 e2 (left-register t2 e2.there 13 p.a3) in
    let t4 : Stopped = with_register 14 p.a4 t3 in
    let e4 = left-then t t3 t4 e3 (left-register t3 e3.there 14 p.a4) in
    let t5 : Stopped = with_register 15 p.a5 t4 in
    let e5 = left-then t t4 t5 e4 (left-register t4 e4.there 15 p.a5) in
    left-then t t5 (with_register 17 p.a7 t5) e5 (left-register t5 e5.there 17 p.a7)

left-answered : (o : Option ℤ) (t : Stopped) → IsThere t → IsLeft t (if_answered o t)
left-answered None t there = left-same t there
left-answered (Some answer) t there = left-register t there 10 (word_of answer)

left-returned : (p : Pending) (t : Stopped) → IsThere t → IsLeft t (returned p t)
left-returned p t there =
    let first = left-back p.passed t there in
    left-then t (given_back p.passed t) (returned p t) first (left-answered p.answer (given_back p.passed t) first.there)

left-shown : (x : Tracing) (o : Option IdentityTable) → o ≡ None → (p : Pending) (t : Stopped) → IsThere t → IsLeft t (shown_to x.user o p (returned p t))
left-shown x None e p t there = left-returned p t there
left-shown x (Some table) e p t there = absurd cc

left-begun : (x : Tracing) (t : Stopped) (o : Option IdentityTable) → o ≡ None → IsThere t → IsLeft t (begin_as x t o).1
left-begun x t None e there = left-same t there
left-begun x t (Some table) e there = absurd cc

left-settled : (x : Tracing) (p : Pending) (t : Stopped) (b : Bool) → x.identities ≡ None → IsThere t → IsLeft t (cond b (begin_program x p t) (give_back x p t)).1
left-settled x p t true none there = left-begun (with_tags (with_tag x.tags t.pid Exe p.led.index) x) t x.identities none there
left-settled x p t false none there = left-shown x x.identities none p t there

left-pending : (x : Tracing) (t : Stopped) (o : Option Pending) → x.identities ≡ None → IsThere t → IsLeft t (after_pending x t o).1
left-pending x t None none there = left-same t there
left-pending x t (Some p) none there = left-settled x p t (has_begun p t) none there

pub exit-left : (x : Tracing) (t : Stopped) → x.identities ≡ None → IsThere t → IsEdited t (exited x t).1
exit-left x t none there = (left-pending (without_pending t.pid x) t (map.get x.pending t.pid) none there).edits

-- ---- no process comes or goes

abbrev pids_at : Stopped → List ℕ
pids_at t = map_list (λ (p : Process ℕ Image). p.pid) t.state.living

pids-register : (k v : ℕ) (t : Stopped) → pids_at (with_register k v t) ≡ pids_at t
pids-register k v t = pids-same t.pid (with_own (record { regs = record { x = slice_set (image_at t).regs.x k v; pc = (image_at t).regs.pc }; memory = (image_at t).memory })) (λ p. refl) t.state.living

pids-back : (p : Arguments) (t : Stopped) → pids_at (given_back p t) ≡ pids_at t
pids-back p t =
    let t1 : Stopped = with_register 11 p.a1 t in
    let t2 : Stopped = with_register 12 p.a2 t1 in
    let t3 : Stopped = with_register 13 p.a3 t2 in
    let t4 : Stopped = with_register 14 p.a4 t3 in
    let t5 : Stopped = with_register 15 p.a5 t4 in
    pids-register 17 p.a7 t5 ∙ pids-register 15 p.a5 t4 ∙ pids-register 14 p.a4 t3 ∙ pids-register 13 p.a3 t2 ∙ pids-register 12 p.a2 t1 ∙ pids-register 11 p.a1 t

pids-answered : (o : Option ℤ) (t : Stopped) → pids_at (if_answered o t) ≡ pids_at t
pids-answered None t = refl
pids-answered (Some answer) t = pids-register 10 (word_of answer) t

pids-shown : (x : Tracing) (o : Option IdentityTable) → o ≡ None → (p : Pending) (t : Stopped) → pids_at (shown_to x.user o p (returned p t)) ≡ pids_at t
pids-shown x None e p t = pids-answered p.answer (given_back p.passed t) ∙ pids-back p.passed t
pids-shown x (Some table) e p t = absurd cc

pids-begun : (x : Tracing) (t : Stopped) (o : Option IdentityTable) → o ≡ None → pids_at (begin_as x t o).1 ≡ pids_at t
pids-begun x t None e = refl
pids-begun x t (Some table) e = absurd cc

pids-settled : (x : Tracing) (p : Pending) (t : Stopped) (b : Bool) → x.identities ≡ None → pids_at (cond b (begin_program x p t) (give_back x p t)).1 ≡ pids_at t
pids-settled x p t true none = pids-begun (with_tags (with_tag x.tags t.pid Exe p.led.index) x) t x.identities none
pids-settled x p t false none = pids-shown x x.identities none p t

pids-pending : (x : Tracing) (t : Stopped) (o : Option Pending) → x.identities ≡ None → pids_at (after_pending x t o).1 ≡ pids_at t
pids-pending x t None none = refl
pids-pending x t (Some p) none = pids-settled x p t (has_begun p t) none

pub exit-living : (x : Tracing) (t : Stopped) → x.identities ≡ None → map_list (λ (p : Process ℕ Image). p.pid) (exited x t).1.state.living ≡ map_list (λ (p : Process ℕ Image). p.pid) t.state.living
exit-living x t none = pids-pending (without_pending t.pid x) t (map.get x.pending t.pid) none
