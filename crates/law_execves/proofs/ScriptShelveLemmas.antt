-- The plain kernel's execve behind the first stop of a script: the last interpreter's host text, the texts that scripts put before the kept
-- arguments, and the list of all their addresses are on the shelf.
use Rattle.std.specs.FinMap as map
use Rattle.std.proofs.Common.{◌≡◌, ◌≢◌, ◌-◌, ◌≤◌, ◌<◌, ℕ, Bool, true, false, cond, ◌&&◌, ◌+◌, ◌*◌, List, [], ◌∷◌, length, get_or, nat_lt, Some, None, Ok, refl, sym, ap, subst, ◌∙◌, arith}
use Rattle.std.specs.Prelude.{IsSome, not, slice_set}
use Rattle.std.proofs.lemmas.Bool.{and_parts, ltb-false}
use Rattle.law_programs.proofs.pr_base.MapLemmas.{get-insert_same}
use Rattle.law_programs.specs.pr_base.declared.errno.Errno.{Errno}
use Rattle.law_programs.specs.pr_base.declared.errno.Errno.TheVariants.{EFAULT}
use Rattle.law_programs.specs.rv_mem.Actions.{AreEqualUnmarked, carried_out}
use Rattle.law_programs.specs.rv_mem.Memory.{Memory, text_of, with_pages}
use Rattle.law_programs.specs.rv_mem.Pages.{HoldsBytes, IsWhole, Pages, allows, allows_all}
use Rattle.law_programs.specs.rv_mem.declared.regs.Regs.{Regs}
use Rattle.law_programs.specs.rv_mem.declared.rights.Use.TheVariants.{Read, Write}
use Rattle.law_stops.specs.pt_args.Laws.{IsPathText, ShelvesHoldTheirItems, StandBetween, poked as pages_poked, room_of}
use Rattle.law_stops.specs.pt_args.Shelving.{shelved, with_zero}
use Rattle.law_stops.specs.kr_calls.Decoding.{decoding}
use Rattle.law_stops.specs.kr_calls.declared.request.Request.{Request}
use Rattle.law_stops.specs.kr_calls.declared.request.Request.TheVariants as call
use Rattle.law_programs.proofs.law_allowed.RowLemmas.{StaysLike}
use Rattle.law_plans.specs.kr_calm.Shelf.{stack_pointer}
use Rattle.law_stops.specs.law_kept.Bytes.{HasBytes}
use Rattle.law_stops.proofs.law_kept.LivingLemmas.{process-bytes}
use Rattle.law_stops.specs.kr_model.State.{Image, Process}
use Rattle.law_stops.specs.kr_turns.PlainCall.{Came}
use Rattle.law_stops.specs.kr_stops.Stopped.{IsThere, Stopped, edited, image_at}
use Rattle.law_stops.specs.kr_turns.Turn.{called}
use Rattle.law_stops.proofs.kr_stops.EditLemmas.{image-edited}
use Rattle.law_stops.specs.pt_faker.Faking.{word_of}
use Rattle.law_stops.specs.pt_faker.Stopping.{after_request, memory_at, with_memory}
use Rattle.law_stops.specs.pt_ident.Identity.{refusal}
use Rattle.law_stops.specs.pt_tracer.Planning.{has_shelf, planned, stack_at}
use Rattle.law_stops.specs.pt_tracer.Poking.{may_poke, poked}
use Rattle.law_stops.specs.pt_tracer.Registers.{arguments_at, with_arguments}
use Rattle.law_stops.specs.pt_tracer.ScriptEdit.{list_item, script_room, shelved_script}
use Rattle.law_stops.specs.pt_tracer.Watched.{Applied, Tracing, after_decoding, after_plan, applied, awaiting, by_identities, entered, exited, keeping, refused, with_pending}
use Rattle.law_stops.specs.pt_tracer.declared.plan.Led.{Led}
use Rattle.law_stops.specs.law_edits.Exits.{left_with}
use Rattle.law_stops.specs.law_edits.Shelves.{bottom_of}
use Rattle.law_stops.specs.law_edits.Swapped.{AreMarkedFrom}
use Rattle.law_stops.proofs.law_edits.RangeLemmas.{byte_allowed}
use Rattle.law_stops.proofs.law_edits.ShelfLemmas.{all_poked}
use Rattle.law_stops.proofs.law_edits.StopLemmas.{items_put, may_between, words_put}
use Rattle.law_programs.specs.Shelves.{host_shelf, script_shelf}
use Rattle.law_programs.proofs.HeldLemmas.{AreHeld, items-held, read_of}
use Rattle.law_programs.proofs.StandLemmas.{items-room, items_of, list-long, long-zero, shelf-items}
use Rattle.law_stops.specs.law_turns.Calls.{decoded_by}
use Rattle.law_stops.proofs.law_turns.ImageLemmas.{given}
use Rattle.law_stops.specs.Scene.{Scene}
use Rattle.law_stops.proofs.AnsweredLemmas.{lives_changed}
use Rattle.law_stops.proofs.CallLemmas as before
use Rattle.law_stops.proofs.CallLemmas.{own_image}
use Rattle.law_stops.proofs.SwapLemmas.{poked_stays}
use Rattle.law_execves.proofs.EnteredLemmas as goes
use Rattle.law_execves.proofs.ExecveLemmas.{ExecveCall}
use Rattle.law_execves.proofs.GoLemmas as go
use Rattle.law_execves.proofs.RuleLemmas as rules
use Rattle.law_execves.proofs.ScriptRegisterLemmas.{script_is_read, script_leaves, with_two, words_in}

-- ---- numbers alone, as a stack pointer is long to write

not-below : (a b : ℕ) → not (nat_lt a b) ≡ true → b ≤ a
not-below a b e = by (nat_lt a b) refl e
  where
    by : (c : Bool) → nat_lt a b ≡ c → not c ≡ true → b ≤ a
    by true is e = absurd cc
    by false is e = ltb-false a b is

one-within : (sp a : ℕ) → 65536 ≤ sp → a < sp → a + 1 ≤ sp - 65536 + 65536
one-within sp a high below = omega (arith, high, below)

all-within : (sp : ℕ) → 65536 ≤ sp → sp ≤ sp - 65536 + 65536
all-within sp high = omega (arith, high)

from-bottom : (sp room : ℕ) → 65536 ≤ sp → room ≤ 65536 → sp - 65536 + room ≤ sp
from-bottom sp room high fits = omega (arith, high, fits)

-- ---- the shelf of a script

module _ (hold : ShelvesHoldTheirItems) (sp : ℕ) (host : List ℕ) (put : List (List ℕ)) (kept : List ℕ) (high : 65536 ≤ sp) (room : script_room host put kept ≤ 65536) where
  abbrev top : ℕ
  top = (host_shelf sp host).top

  abbrev last : List ℕ
  last = list_item top put kept

  abbrev all : List (List ℕ)
  all = with_zero host ∷ items_of put last

  abbrev items : List (ℕ × List ℕ)
  items = (script_shelf sp host put kept).items

  items-are : items ≡ shelved sp all
  items-are = shelf-items put (host_shelf sp host) last

  last-long : length last ≡ 8 * length put + length kept + 8
  last-long = list-long top put kept

  fits : room_of all ≤ 65536
  fits = omega (arith, items-room put last, last-long, long-zero host, room)

  script-stand : StandBetween (sp - 65536) sp items
  script-stand = subst (StandBetween (sp - 65536) sp) (sym items-are) (hold.stand (sp - 65536) sp all (from-bottom sp (room_of all) high fits))

  script-path : (m : Pages) → IsWhole m → ((a : ℕ) → sp - 65536 ≤ a → a < sp → allows m a Read ≡ true) → IsPathText host → text_of (pages_poked m items) top 4096 ≡ Ok host
  script-path m whole may text =
      let held : AreHeld (pages_poked m items) (shelved sp all) =
      subst (λ poking. AreHeld (pages_poked m poking) (shelved sp all)) (sym items-are) (items-held hold m (sp - 65536) sp all whole (from-bottom sp (room_of all) high fits) may) in
      read_of (pages_poked m items) top 4096 host text.short text.no_zero held.0

-- ---- behind the first stop

module _ {S : Type 0} {scene : Scene S} (execve : ExecveCall scene) where
  open scene use {pid, traced as n}
  open execve use {callers, path, args, env}
  open execve.callers use {comes as c, caller as p, also_caller as q, also_lives as also}

  abbrev r : Request
  r = call.Execve path args env

  abbrev x : Tracing
  x = n.watcher

  abbrev pub stop : Stopped
  stop = go.stop execve

  abbrev p1 : Process ℕ Image
  p1 = go.p1 execve

  abbrev dec : Memory
  dec = (decoded_by q).memory

  abbrev pub sp : ℕ
  sp = stack_at (after_request stop)

  there_stop : IsThere stop
  there_stop = go.there_stop execve

  after_image : image_at (after_request stop) ≡ record { regs = q.image.regs; memory = dec }
  after_image = go.after_image execve

  long : length q.image.regs.x ≡ 32
  long = (c.also_sized pid q also).registers

  pages_left : dec.pages ≡ q.image.memory.pages
  pages_left = before.pages_left callers

  first_pages : (memory_at (after_request stop)).pages ≡ q.image.memory.pages
  first_pages = ap (λ (image : Image). image.memory.pages) after_image ∙ pages_left

  -- ---- the shelf

  shelf_there : (not (nat_lt sp 65536) && allows_all (memory_at (after_request stop)).pages (sp - 65536) 65536 Read && allows_all (memory_at (after_request stop)).pages (sp - 65536) 65536 Write) ≡ true
  shelf_there = ap has_shelf (go.after_is execve) ∙ rules.shelf execve dec pages_left

  read_and_written : ((not (nat_lt sp 65536) && allows_all (memory_at (after_request stop)).pages (sp - 65536) 65536 Read) ≡ true) × (allows_all (memory_at (after_request stop)).pages (sp - 65536) 65536 Write ≡ true)
  read_and_written = and_parts _ _ shelf_there

  high_and_read : (not (nat_lt sp 65536) ≡ true) × (allows_all (memory_at (after_request stop)).pages (sp - 65536) 65536 Read ≡ true)
  high_and_read = and_parts _ _ read_and_written.0

  pub high : 65536 ≤ sp
  high = not-below sp 65536 high_and_read.0

  pub may : (after : Memory) → after.pages ≡ q.image.memory.pages → (a : ℕ) → sp - 65536 ≤ a → a < sp → allows after.pages a Read ≡ true
  may after after_pages a low below =
      byte_allowed after.pages (sp - 65536) 65536 a Read low (one-within sp a high below)
      (ap (λ pages. allows_all pages (sp - 65536) 65536 Read) (after_pages ∙ sym first_pages) ∙ high_and_read.1)

  sp_is : sp ≡ stack_pointer p.image.regs
  sp_is = ap (λ (image : Image). get_or image.regs.x 2 0) after_image ∙ ap (λ (regs : Regs). get_or regs.x 2 0) (sym (before.same_regs callers))

  marks : AreMarkedFrom (bottom_of sp) sp p1.image.memory.pages
  marks = subst (λ sp. AreMarkedFrom (bottom_of sp) sp p1.image.memory.pages) (sym sp_is) (rules.marks execve)

  -- ---- all that a script puts there, behind what the tracer has read

  module _ (hold : ShelvesHoldTheirItems) (host : List ℕ) (text : IsPathText host) (some : host ≢ []) (put : List (List ℕ)) (kept : List ℕ) (room : script_room host put kept ≤ 65536)
      (after : Memory) (after_pages : after.pages ≡ q.image.memory.pages) where
    abbrev pub list_top : ℕ
    list_top = (script_shelf sp host put kept).top

    abbrev pub items3 : List (ℕ × List ℕ)
    items3 = (script_shelf sp host put kept).items

    abbrev words : List (ℕ × ℕ)
    words = (10, (host_shelf sp host).top) ∷ (11, list_top) ∷ []

    abbrev pub registers3 : List ℕ
    registers3 = with_two q.image.regs.x (host_shelf sp host).top list_top

    abbrev regs3 : Regs
    regs3 = record { x = registers3; pc = q.image.regs.pc }

    abbrev pub memory3 : Memory
    memory3 = with_pages after (pages_poked after.pages items3)

    stand : StandBetween (sp - 65536) sp items3
    stand = script-stand hold sp host put kept high room

    after_like : StaysLike q.image.memory.pages after.pages
    after_like =
        let own = c.also_lasts.lawful.processes pid q also in
        subst (StaysLike q.image.memory.pages) (sym after_pages) (record { whole = own.whole; placed = own.paged; layout = refl })

    like3 : StaysLike q.image.memory.pages memory3.pages
    like3 = let more = poked_stays items3 after after_like.whole after_like.placed in record { whole = more.whole; placed = more.placed; layout = more.layout ∙ after_like.layout }

    unmarked3 : AreEqualUnmarked p1.image.memory.pages memory3.pages
    unmarked3 =
        all_poked p1.image.memory.pages (bottom_of sp) sp after.pages items3 marks stand
        (subst (AreEqualUnmarked p1.image.memory.pages) (sym after_pages) (go.memories execve))

    reads3 : (carried_out (decoding regs3) memory3).reply ≡ Ok (call.Execve host list_top env)
    reads3 =
        script_is_read q.image.regs (host_shelf sp host).top list_top q.image.memory memory3 path args env host long some (script-path hold sp host put kept high room after.pages after_like.whole (may after after_pages) text)
        (sym (ap (λ (image : Image). (carried_out (decoding image.regs) image.memory).reply) (own_image pid n.state q also)) ∙ go.reads_there execve)

    -- ---- the edit

    may-here : may_poke items3 (edited q.image.regs after stop) ≡ true
    may-here =
        may_between after.pages (sp - 65536) sp 65536 items3 (edited q.image.regs after stop) (ap (λ (image : Image). image.memory.pages) (image-edited q.image.regs after stop (subst IsSome (sym also) refl))) (all-within sp high)
        (ap (λ pages. allows_all pages (sp - 65536) 65536 Write) (after_pages ∙ sym first_pages) ∙ read_and_written.1) stand

    edit-put : with_arguments words (poked items3 (edited q.image.regs after stop)) ≡ edited regs3 memory3 stop
    edit-put = ap (with_arguments words) (items_put stop there_stop items3 q.image.regs after) ∙ words_put stop there_stop words q.image.regs memory3 (refl, (refl, tt))

    abbrev made3 : Applied
    made3 = record { answer = None; stopped = edited regs3 memory3 stop }

    done3 : applied (shelved_script sp host put kept) (with_memory after (after_request stop)) ≡ made3
    done3 =
        ap (applied (shelved_script sp host put kept)) (go.with_is execve after)
        ∙ ap (λ b. cond b (let a : Applied = record { answer = None; stopped = with_arguments words (poked items3 (edited q.image.regs after stop)) } in a) (refused EFAULT (edited q.image.regs after stop))) may-here
        ∙ (λ i. record { answer = None; stopped = edit-put i })

    -- ---- both stops

    module _ (led : Led) where
      abbrev y : Tracing
      y = with_pending (map.insert x.pending pid (awaiting (arguments_at (after_request stop)) r led None)) x

      kept_there : map.get y.pending pid ≡ Some (awaiting (words_in q.image.regs.x) r led None)
      kept_there =
          get-insert_same x.pending pid (awaiting (arguments_at (after_request stop)) r led None)
          ∙ ap (λ (image : Image). Some (awaiting (words_in image.regs.x) r led None)) after_image

      exits3 : (came : Came) (e : Errno) → IsThere (called pid came) → (image_at (called pid came)).regs.x ≡ slice_set registers3 10 (word_of (refusal e)) → exited y (called pid came) ≡ left_with y (called pid came) r led (word_of (refusal e)) (image_at stop).regs.x
      exits3 came e there regs =
          script_leaves y (called pid came) there q.image.regs.x long (host_shelf sp host).top list_top e regs path args env led c.traces.identities kept_there
          ∙ ap (λ (image : Image). left_with y (called pid came) r led (word_of (refusal e)) image.regs.x) (sym (own_image pid n.state q also))

      module _ (plans : planned x.bindings x.tags (after_request stop) r ≡ (record { edit = shelved_script sp host put kept; led = led }, with_memory after (after_request stop))) where
        entered3 : entered x stop ≡ (y, edited regs3 memory3 stop)
        entered3 =
            ap (after_decoding x (after_request stop)) (go.reads_there execve)
            ∙ ap (by_identities x r (after_request stop)) c.traces.identities
            ∙ ap (after_plan x (after_request stop) r) plans
            ∙ ap (keeping x (after_request stop) r led) done3

        -- as all is that the tracer leaves
        bytes3 : HoldsBytes memory3.pages
        bytes3 =
            let has = subst (λ t. HasBytes (entered x t).1.state) (before.calling_is callers) c.watched in
            (process-bytes pid (edited regs3 memory3 stop).state (subst (λ (e : Tracing × Stopped). HasBytes e.1.state) entered3 has) (given pid regs3 memory3 q) (lives_changed pid (given pid regs3 memory3) (λ p. refl) n.state q also)).memory

        pub script_shelved : goes.IsEntered execve registers3 memory3 led host list_top
        script_shelved = record { entered_is = entered3; like = like3; bytes = bytes3; unmarked = unmarked3; reads = reads3; exits = exits3 }
