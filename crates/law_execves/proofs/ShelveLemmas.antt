-- The plain kernel's execve behind the first stop, where the host text of a path is on the shelf, or the path is left as it is.
use Rattle.std.specs.FinMap as map
use Rattle.std.proofs.Common.{◌≡◌, ◌≢◌, ◌≤◌, ℕ, zero, suc, Bool, true, false, cond, ◌&&◌, List, [], ◌∷◌, ◌++◌, length, get_or, None, refl, sym, ap, subst, ◌∙◌, arith}
use Rattle.std.specs.Prelude.{IsSome, ◌==◌, nat_eq, slice_set}
use Rattle.std.specs.Int.{cast_signed, w64}
use Rattle.std.proofs.lemmas.Bool.Decides.{nat_tests}
use Rattle.std.proofs.lemmas.List.{length-set}
use Rattle.law_programs.proofs.pr_base.MapLemmas.{get-insert_same}
use Rattle.law_programs.specs.pr_base.declared.errno.Errno.{Errno}
use Rattle.law_programs.specs.pr_base.declared.errno.Errno.TheVariants.{EFAULT}
use Rattle.law_programs.specs.rv_mem.Actions.{Action, AreEqualUnmarked, Done, MayUse, ReadBytes, WriteBytes, allows_uses, carried_out}
use Rattle.law_programs.specs.rv_mem.Memory.{Memory, after_read, with_pages}
use Rattle.law_programs.specs.rv_mem.Pages.{HoldsBytes, Pages, allows_all, bytes_from, written}
use Rattle.law_programs.specs.rv_mem.declared.regs.Regs.{Regs}
use Rattle.law_programs.specs.rv_mem.declared.rights.Use.TheVariants.{Write}
use Rattle.law_stops.specs.pt_args.Laws.{ShelvesHoldTheirItems, TextsAreReadBack, poked as pages_poked}
use Rattle.law_stops.specs.pt_args.declared.edit.Edit.{Edit}
use Rattle.law_stops.specs.pt_args.declared.edit.Edit.TheVariants.{Pass}
use Rattle.law_stops.specs.pt_ident.Identity.{refusal}
use Rattle.law_stops.specs.pt_results.Notes.{noted, tags_after}
use Rattle.law_stops.specs.kr_calls.Decoding.{decoding}
use Rattle.law_stops.specs.kr_calls.declared.request.Request.{Request}
use Rattle.law_stops.specs.kr_calls.declared.request.Request.TheVariants as call
use Rattle.law_programs.proofs.law_allowed.RowLemmas.{StaysLike}
use Rattle.law_plans.specs.kr_calm.Shelf.{stack_pointer}
use Rattle.law_stops.proofs.law_kept.ListLemmas.{joined}
use Rattle.law_stops.proofs.law_kept.PageLemmas.{holds-written}
use Rattle.law_programs.specs.law_allowed.Texts.{IsText}
use Rattle.law_programs.specs.kr_tree.Lawful.{AreBytes}
use Rattle.law_stops.specs.kr_model.State.{Image, Process}
use Rattle.law_stops.specs.kr_turns.PlainCall.{Came}
use Rattle.law_stops.specs.kr_stops.Stopped.{IsThere, Stopped, edited, image_at}
use Rattle.law_stops.specs.kr_turns.Turn.{called}
use Rattle.law_stops.proofs.kr_stops.EditLemmas.{image-edited}
use Rattle.law_stops.specs.pt_faker.Faking.{word_of}
use Rattle.law_stops.specs.pt_faker.Stopping.{after_request, decoded_at, memory_at, with_memory}
use Rattle.law_stops.specs.pt_tracer.Planning.{has_shelf, planned, stack_at}
use Rattle.law_stops.specs.pt_tracer.Poking.{may_poke, poked}
use Rattle.law_stops.specs.pt_tracer.Registers.{arguments_at, with_arguments}
use Rattle.law_stops.specs.pt_tracer.Watched.{Applied, Tracing, after_decoding, after_plan, answer_at, applied, awaiting, by_identities, entered, exited, keeping, refused, returned, with_pending, with_tags, without_pending}
use Rattle.law_stops.specs.pt_tracer.declared.pending.Pending.{Pending}
use Rattle.law_stops.specs.pt_tracer.declared.plan.Led.{Led}
use Rattle.law_stops.specs.pt_tracer.declared.registers.Arguments.{Arguments}
use Rattle.law_stops.specs.law_edits.Exits.{left_with}
use Rattle.law_stops.specs.law_edits.Requests.{NewText}
use Rattle.law_stops.specs.law_edits.Shelves.{addresses_at, bottom_of, items_at, memory_behind, new_texts, registers_behind, swap_edit}
use Rattle.law_stops.specs.law_edits.Stops.{CanBeSwapped, IsSwapped}
use Rattle.law_stops.specs.law_edits.Swapped.{AreMarkedFrom}
use Rattle.law_stops.proofs.law_edits.ExitLemmas.{gives_back}
use Rattle.law_stops.proofs.law_edits.StopLemmas.{items_put, words_put}
use Rattle.law_stops.proofs.law_edits.SwapLemmas.{swapped_here}
use Rattle.law_stops.specs.law_turns.Calls.{decoded_by}
use Rattle.law_stops.specs.Scene.{Scene}
use Rattle.law_stops.proofs.CallLemmas as before
use Rattle.law_stops.proofs.CallLemmas.{own_image}
use Rattle.law_stops.proofs.PassLemmas.{arguments_back}
use Rattle.law_stops.proofs.RegisterLemmas.{put_beside, put_there}
use Rattle.law_stops.proofs.SwapLemmas.{poked_stays}
use Rattle.law_execves.proofs.BegunLemmas.{nonzero}
use Rattle.law_execves.proofs.EnteredLemmas as goes
use Rattle.law_execves.proofs.ExecveLemmas.{ExecveCall}
use Rattle.law_execves.proofs.GoLemmas as go
use Rattle.law_execves.proofs.RuleLemmas as rules

-- ---- small facts

set-set : (xs : List ℕ) (k a b : ℕ) → slice_set (slice_set xs k a) k b ≡ slice_set xs k b
set-set [] k a b = refl
set-set (x ∷ xs) zero a b = refl
set-set (x ∷ xs) (suc k) a b = ap (λ rest. x ∷ rest) (set-set xs k a b)

-- what is told goes by the pages alone
same-reply : {A : Type 0} (a : Action A) (m w : Memory) → m.pages ≡ w.pages → (carried_out a m).reply ≡ (carried_out a w).reply
same-reply (Done reply) m w same = refl
same-reply (MayUse at n uses next) m w same = ap (λ pages. (carried_out (next (allows_uses pages at n uses)) m).reply) same ∙ same-reply (next (allows_uses w.pages at n uses)) m w same
same-reply (ReadBytes at n next) m w same = ap (λ pages. (carried_out (next (bytes_from pages at n)) (after_read m at n)).reply) same ∙ same-reply (next (bytes_from w.pages at n)) (after_read m at n) (after_read w at n) same
same-reply (WriteBytes at bytes next) m w same = same-reply next (with_pages m (written m.pages at bytes)) (with_pages w (written w.pages at bytes)) (ap (λ pages. written pages at bytes) same)

same-may : (items : List (ℕ × List ℕ)) (t u : Stopped) → (memory_at t).pages ≡ (memory_at u).pages → may_poke items t ≡ may_poke items u
same-may [] t u same = refl
same-may (p ∷ items) t u same = ap (λ pages. allows_all pages p.0 (length p.1) Write && may_poke items t) same ∙ ap (λ b. allows_all (memory_at u).pages p.0 (length p.1) Write && b) (same-may items t u same)

module _ {S : Type 0} {scene : Scene S} (execve : ExecveCall scene) where
  open scene use {pid, traced as n}
  open execve use {callers, path, args, env, calm}
  open execve.callers use {comes as c, caller as p, also_caller as q, also_lives as also}

  abbrev r : Request
  r = call.Execve path args env

  abbrev x : Tracing
  x = n.watcher

  abbrev stop : Stopped
  stop = go.stop execve

  abbrev p1 : Process ℕ Image
  p1 = go.p1 execve

  abbrev dec : Memory
  dec = (decoded_by q).memory

  there_stop : IsThere stop
  there_stop = go.there_stop execve

  after_image : image_at (after_request stop) ≡ record { regs = q.image.regs; memory = dec }
  after_image = go.after_image execve

  long : length q.image.regs.x ≡ 32
  long = (c.also_sized pid q also).registers

  pages_left : dec.pages ≡ q.image.memory.pages
  pages_left = before.pages_left callers

  -- ---- the second stop of a refused execve

  module _ (led : Led) (registers : List ℕ) (beside : (j : ℕ) → nat_eq j 10 ≡ false → get_or registers j 0 ≡ get_or q.image.regs.x j 0) (over : (word : ℕ) → slice_set registers 10 word ≡ slice_set q.image.regs.x 10 word) (size : length registers ≡ 32)
      (came : Came) (e : Errno) (there : IsThere (called pid came)) (regs : (image_at (called pid came)).regs.x ≡ slice_set registers 10 (word_of (refusal e))) where
    abbrev v : Stopped
    v = called pid came

    abbrev word : ℕ
    word = word_of (refusal e)

    abbrev pending : Pending
    pending = awaiting (arguments_at (after_request stop)) r led None

    abbrev y : Tracing
    y = with_pending (map.insert x.pending pid pending) x

    abbrev arguments_of : List ℕ → Arguments
    arguments_of xs = record { a1 = get_or xs 11 0; a2 = get_or xs 12 0; a3 = get_or xs 13 0; a4 = get_or xs 14 0; a5 = get_or xs 15 0; a7 = get_or xs 17 0 }

    kept : (j : ℕ) → nat_eq j 10 ≡ false → get_or (slice_set registers 10 word) j 0 ≡ get_or q.image.regs.x j 0
    kept j other = put_beside registers 10 j word (λ same. absurd (let is : nat_eq j 10 ≡ true = grind (arith, nat_tests) in let never : true ≡ false = sym is ∙ other in cc)) ∙ beside j other

    same_arguments : arguments_at (after_request stop) ≡ arguments_at v
    same_arguments =
        ap (λ (image : Image). arguments_of image.regs.x) after_image
        ∙ sym (λ i. record { a1 = kept 11 refl i; a2 = kept 12 refl i; a3 = kept 13 refl i; a4 = kept 14 refl i; a5 = kept 15 refl i; a7 = kept 17 refl i })
        ∙ ap arguments_of (sym regs)

    answer_there : get_or (slice_set registers 10 word) 10 0 ≡ word
    answer_there = put_there registers 10 word (omega (arith, size))

    back : returned pending v ≡ v
    back = arguments_back v there (arguments_at (after_request stop)) same_arguments

    begins : (get_or (image_at v).regs.x 10 0 == 0) ≡ false
    begins = ap (λ xs. get_or xs 10 0 == 0) regs ∙ ap (λ word. word == 0) answer_there ∙ nonzero e

    answer_is : answer_at v ≡ cast_signed w64 word
    answer_is = ap (λ xs. cast_signed w64 (get_or xs 10 0)) regs ∙ ap (cast_signed w64) answer_there

    state_is : edited (record { x = slice_set (image_at stop).regs.x 10 word; pc = (image_at v).regs.pc }) (memory_at v) v ≡ v
    state_is =
        ap (λ xs. edited (record { x = xs; pc = (image_at v).regs.pc }) (memory_at v) v)
        (ap (λ (image : Image). slice_set image.regs.x 10 word) (own_image pid n.state q also) ∙ sym (over word) ∙ sym regs)
        ∙ there.one

    refused_exit : exited y v ≡ left_with y v r led word (image_at stop).regs.x
    refused_exit =
        gives_back y v pending c.traces.identities (get-insert_same x.pending pid pending) begins
        ∙ ap (λ (t : Stopped). (with_tags (tags_after x.tags pid (noted r led.index (answer_at t))) (without_pending pid y), t)) back
        ∙ ap (λ answer. (with_tags (tags_after x.tags pid (noted r led.index answer)) (without_pending pid y), v)) answer_is
        ∙ ap (λ (t : Stopped). (with_tags (tags_after x.tags pid (noted r led.index (cast_signed w64 word))) (without_pending pid y), t)) (sym state_is)

  -- ---- a path that is left as it is

  module _ (led : Led) (plans : planned x.bindings x.tags (after_request stop) r ≡ (record { edit = Pass; led = led }, after_request stop)) where
    abbrev kept_passed : Tracing
    kept_passed = with_pending (map.insert x.pending pid (awaiting (arguments_at (after_request stop)) r led None)) x

    own_like : StaysLike q.image.memory.pages dec.pages
    own_like =
        let own = c.also_lasts.lawful.processes pid q also in
        subst (StaysLike q.image.memory.pages) (sym pages_left) (record { whole = own.whole; placed = own.paged; layout = refl })

    pub passed : goes.IsEntered execve q.image.regs.x dec led path args
    passed = record {
      entered_is =
          ap (after_decoding x (after_request stop)) (go.reads_there execve)
          ∙ ap (by_identities x r (after_request stop)) c.traces.identities
          ∙ ap (after_plan x (after_request stop) r) plans
          ∙ ap (λ t. (kept_passed, t)) (go.after_is execve);
      like = own_like;
      bytes = subst (λ (pages : Pages). HoldsBytes pages) (sym pages_left) (c.also_sized pid q also).bytes;
      unmarked = subst (AreEqualUnmarked p1.image.memory.pages) (sym pages_left) (go.memories execve);
      reads =
          same-reply (decoding q.image.regs) dec q.image.memory pages_left
          ∙ sym (ap (λ (image : Image). (carried_out (decoding image.regs) image.memory).reply) (own_image pid n.state q also))
          ∙ go.reads_there execve;
      exits = λ came e there regs. refused_exit led q.image.regs.x (λ j other. refl) (λ word. refl) long came e there regs;
    }

  -- ---- a path whose host text is put on the shelf, behind what the tracer has read

  module _ (back : TextsAreReadBack) (hold : ShelvesHoldTheirItems) (host : List ℕ) (text : IsText host) (some : host ≢ []) (short : length host ≤ 4095) (after : Memory) (after_pages : after.pages ≡ q.image.memory.pages) where
    abbrev first : NewText
    first = record { register = 10; text = host }

    abbrev sp : ℕ
    sp = stack_at (after_request stop)

    abbrev pub swap : Edit
    swap = swap_edit sp first None

    abbrev items : List (ℕ × List ℕ)
    items = items_at sp (new_texts first None)

    abbrev words : List (ℕ × ℕ)
    words = addresses_at sp (new_texts first None)

    abbrev pub registers3 : List ℕ
    registers3 = (registers_behind sp first None q.image.regs).x

    abbrev regs3 : Regs
    regs3 = record { x = registers3; pc = q.image.regs.pc }

    abbrev pub memory3 : Memory
    memory3 = with_pages after (pages_poked after.pages items)

    regs_here : (image_at stop).regs ≡ q.image.regs
    regs_here = ap (λ (image : Image). image.regs) (own_image pid n.state q also)

    sp_is : sp ≡ stack_pointer p.image.regs
    sp_is = ap (λ (image : Image). get_or image.regs.x 2 0) after_image ∙ ap (λ (regs : Regs). get_or regs.x 2 0) (sym (before.same_regs callers))

    can : CanBeSwapped stop p1.image.memory r first None
    can = record {
      there = there_stop;
      decoded = go.reads_there execve;
      shelf = ap has_shelf (go.after_is execve) ∙ rules.shelf execve dec pages_left;
      named = record { one = refl; two = tt };
      one = record { path = record { short = omega (arith, short); no_zero = text }; some = some };
      two = tt;
      calm = record {
        alike = subst (λ (image : Image). AreEqualUnmarked p1.image.memory.pages image.memory.pages) (sym (own_image pid n.state q also)) (go.memories execve);
        unread = subst (λ (regs : Regs). (carried_out (decoding regs) p1.image.memory).memory.read_marked ≡ false) (before.same_regs callers ∙ sym regs_here) (before.unread callers calm);
      };
      marks = subst (λ sp. AreMarkedFrom (bottom_of sp) sp p1.image.memory.pages) (sym sp_is) (rules.marks execve);
    }

    swapped : IsSwapped stop p1.image.memory r first None (applied swap (after_request stop))
    swapped = swapped_here back hold stop p1.image.memory r first None can

    may-first : may_poke items (after_request stop) ≡ true
    may-first = by (may_poke items (after_request stop)) refl swapped.answer
      where
        by : (b : Bool) → may_poke items (after_request stop) ≡ b → (cond b (let a : Applied = record { answer = None; stopped = with_arguments words (poked items (after_request stop)) } in a) (refused EFAULT (after_request stop))).answer ≡ None → may_poke items (after_request stop) ≡ true
        by true is answer = is
        by false is answer = absurd cc

    may-here : may_poke items (edited q.image.regs after stop) ≡ true
    may-here =
        same-may items (edited q.image.regs after stop) (after_request stop)
        (ap (λ (image : Image). image.memory.pages) (image-edited q.image.regs after stop (subst IsSome (sym also) refl)) ∙ after_pages ∙ sym pages_left ∙ sym (ap (λ (image : Image). image.memory.pages) after_image))
        ∙ may-first

    put : with_arguments words (poked items (edited q.image.regs after stop)) ≡ edited regs3 memory3 stop
    put = ap (with_arguments words) (items_put stop there_stop items q.image.regs after) ∙ words_put stop there_stop words q.image.regs memory3 (refl, tt)

    abbrev made3 : Applied
    made3 = record { answer = None; stopped = edited regs3 memory3 stop }

    placed : applied swap (with_memory after (after_request stop)) ≡ made3
    placed =
        ap (applied swap) (go.with_is execve after)
        ∙ ap (λ b. cond b (let a : Applied = record { answer = None; stopped = with_arguments words (poked items (edited q.image.regs after stop)) } in a) (refused EFAULT (edited q.image.regs after stop))) may-here
        ∙ (λ i. record { answer = None; stopped = put i })

    -- the same bytes as if nothing had been read before
    dec_pages : (decoded_at stop).memory.pages ≡ after.pages
    dec_pages = ap (λ (image : Image). (carried_out (decoding image.regs) image.memory).memory.pages) (own_image pid n.state q also) ∙ pages_left ∙ sym after_pages

    swapped_image : image_at (edited (registers_behind sp first None (image_at stop).regs) (memory_behind sp first None (decoded_at stop).memory) stop) ≡ record { regs = registers_behind sp first None (image_at stop).regs; memory = memory_behind sp first None (decoded_at stop).memory }
    swapped_image = image-edited (registers_behind sp first None (image_at stop).regs) (memory_behind sp first None (decoded_at stop).memory) stop (subst IsSome (sym also) refl)

    after_like : StaysLike q.image.memory.pages after.pages
    after_like =
        let own = c.also_lasts.lawful.processes pid q also in
        subst (StaysLike q.image.memory.pages) (sym after_pages) (record { whole = own.whole; placed = own.paged; layout = refl })

    pub like3 : StaysLike q.image.memory.pages memory3.pages
    like3 = let more = poked_stays items after after_like.whole after_like.placed in record { whole = more.whole; placed = more.placed; layout = more.layout ∙ after_like.layout }

    module _ (led : Led) (plans : planned x.bindings x.tags (after_request stop) r ≡ (record { edit = swap; led = led }, with_memory after (after_request stop))) (are : AreBytes host) where
      abbrev kept_swapped : Tracing
      kept_swapped = with_pending (map.insert x.pending pid (awaiting (arguments_at (after_request stop)) r led None)) x

      entered_swapped : entered x stop ≡ (kept_swapped, edited regs3 memory3 stop)
      entered_swapped =
          ap (after_decoding x (after_request stop)) (go.reads_there execve)
          ∙ ap (by_identities x r (after_request stop)) c.traces.identities
          ∙ ap (after_plan x (after_request stop) r) plans
          ∙ ap (keeping x (after_request stop) r led) placed

      pub shelved : goes.IsEntered execve registers3 memory3 led host args
      shelved = record {
        entered_is = entered_swapped;
        like = like3;
        bytes = holds-written after.pages _ (host ++ 0 ∷ []) (joined host (0 ∷ []) are (omega arith, tt)) (subst (λ (pages : Pages). HoldsBytes pages) (sym after_pages) (c.also_sized pid q also).bytes);
        unmarked =
            subst (AreEqualUnmarked p1.image.memory.pages)
            (ap (λ t. (memory_at t).pages) swapped.stopped ∙ ap (λ (image : Image). image.memory.pages) swapped_image ∙ ap (λ pages. pages_poked pages items) dec_pages) swapped.alike;
        reads =
            same-reply (decoding regs3) memory3 (memory_behind sp first None (decoded_at stop).memory) (ap (λ pages. pages_poked pages items) (sym dec_pages))
            ∙ ap (λ (regs : Regs). (carried_out (decoding (registers_behind sp first None regs)) (memory_behind sp first None (decoded_at stop).memory)).reply) (sym regs_here)
            ∙ sym (ap (λ t. (decoded_at t).reply) swapped.stopped ∙ ap (λ (image : Image). (carried_out (decoding image.regs) image.memory).reply) swapped_image)
            ∙ swapped.decodes;
        exits = λ came e there regs.
            refused_exit led registers3 (λ j other. put_beside q.image.regs.x 10 j _ (λ same. absurd (let is : nat_eq j 10 ≡ true = grind (arith, nat_tests) in let never : true ≡ false = sym is ∙ other in cc)))
            (λ word. set-set q.image.regs.x 10 _ word) (length-set q.image.regs.x 10 _ ∙ long) came e there regs;
      }
