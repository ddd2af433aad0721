-- A call at its first stop, where its paths are swapped.
use Rattle.std.proofs.Common.{◌≡◌, ℕ, ◌+◌, ◌-◌, ◌≤◌, ◌<◌, Bool, true, false, ◌&&◌, Option, Some, None, arith, if◌then◌else◌, refl, sym, ap, subst, ◌∙◌}
use Rattle.std.specs.Prelude.{nat_lt, not}
use Rattle.std.proofs.lemmas.Bool.{lt-ltb, ltb-false}
use Rattle.pt_tracer.specs.pr_base.declared.errno.Errno.TheVariants.{EFAULT}
use Rattle.pt_tracer.specs.rv_mem.Actions.{AreEqualUnmarked, carried_out}
use Rattle.pt_tracer.specs.rv_mem.Memory.{Memory}
use Rattle.pt_tracer.specs.rv_mem.Pages.{allows_all}
use Rattle.pt_tracer.specs.rv_mem.declared.regs.Regs.{Regs}
use Rattle.pt_tracer.specs.rv_mem.declared.rights.Use.TheVariants.{Read, Write}
use Rattle.law_walks.specs.kr_calls.Decoding.{decoding}
use Rattle.law_walks.specs.kr_calls.declared.request.Request.{Request}
use Rattle.law_walks.specs.kr_model.State.{Image}
use Rattle.kr_turns.specs.kr_stops.Stopped.{Stopped, edited, image_at}
use Rattle.pt_tracer.specs.pt_faker.Stopping.{after_request, decoded_at, memory_at}
use Rattle.law_walks.proofs.kr_calls.DecodingLemmas.{decodings_leave_pages}
use Rattle.pt_tracer.specs.pt_args.Laws.{ShelvesHoldTheirItems, TextsAreReadBack}
use Rattle.pt_tracer.specs.Planning.{stack_at}
use Rattle.pt_tracer.specs.Poking.{may_poke, poked}
use Rattle.pt_tracer.specs.Registers.{is_register, with_arguments}
use Rattle.pt_tracer.specs.Watched.{Applied, applied, refused}
use Rattle.law_edits.specs.Requests.{AreOfPaths, NewText}
use Rattle.law_edits.specs.Shelves.{HasMarkedShelf, addresses_at, bottom_of, items_at, memory_behind, new_texts, registers_behind, swap_edit}
use Rattle.law_edits.specs.Stops.{CanBeSwapped, IsSwapped}
use Rattle.law_edits.proofs.RangeLemmas.{byte_allowed}
use Rattle.law_edits.proofs.RegisterLemmas.{IsArgument, path_registers}
use Rattle.law_edits.proofs.ShelfLemmas.{decoded_behind, found_alike, shelf_poked, stand}
use Rattle.law_edits.proofs.StopLemmas.{AreRegisters, image_is, items_put, may_between, still_there, words_put}

first_true : (a b c : Bool) → (a && b && c) ≡ true → a ≡ true
first_true true b c e = refl
first_true false b c e = absurd cc

second_true : (a b c : Bool) → (a && b && c) ≡ true → b ≡ true
second_true true true c e = refl
second_true true false c e = absurd cc
second_true false b c e = absurd cc

third_true : (a b c : Bool) → (a && b && c) ≡ true → c ≡ true
third_true true true c e = e
third_true true false c e = absurd cc
third_true false b c e = absurd cc

not_below : (a b : ℕ) → not (nat_lt a b) ≡ true → b ≤ a
not_below a b e = by (nat_lt a b) refl e
  where
    by : (c : Bool) → nat_lt a b ≡ c → not c ≡ true → b ≤ a
    by true is e = absurd cc
    by false is e = ltb-false a b is

argument_register : (k : ℕ) → IsArgument k → is_register k ≡ true
argument_register k within =
    let low : nat_lt 0 k ≡ true = lt-ltb 0 k (omega (arith, within.0)) in
    let high : nat_lt k 32 ≡ true = lt-ltb k 32 (omega (arith, within.1)) in
    ap (λ b. b && nat_lt k 32) low ∙ high

are_registers : (sp : ℕ) (r : Request) (first : NewText) (second : Option NewText) → AreOfPaths r first second → AreRegisters (addresses_at sp (new_texts first second))
are_registers sp r first None named = (argument_register first.register (path_registers r 0 first.register named.one), tt)
are_registers sp r first (Some n) named =
    (argument_register first.register (path_registers r 0 first.register named.one), (argument_register n.register (path_registers r 1 n.register named.two), tt))

module _ (back : TextsAreReadBack) (hold : ShelvesHoldTheirItems) (t : Stopped) (m : Memory) (r : Request) (first : NewText) (second : Option NewText) (can : CanBeSwapped t m r first second) where
  abbrev sp : ℕ
  sp = stack_at (after_request t)

  abbrev own : Memory
  own = (decoded_at t).memory

  abbrev regs_behind : Regs
  regs_behind = registers_behind (stack_at (after_request t)) first second (image_at t).regs

  abbrev behind : Memory
  behind = memory_behind (stack_at (after_request t)) first second (decoded_at t).memory

  -- ---- its shelf

  memory_here : memory_at (after_request t) ≡ own
  memory_here = ap (λ (i : Image). i.memory) (image_is t can.there (image_at t).regs own)

  room : 65536 ≤ sp
  room = not_below sp 65536 (first_true (not (nat_lt sp 65536)) (allows_all (memory_at (after_request t)).pages (sp - 65536) 65536 Read) (allows_all (memory_at (after_request t)).pages (sp - 65536) 65536 Write) can.shelf)

  all_read : allows_all own.pages (bottom_of sp) 65536 Read ≡ true
  all_read =
      ap (λ (own : Memory). allows_all own.pages (bottom_of sp) 65536 Read) (sym memory_here)
      ∙ second_true (not (nat_lt sp 65536)) (allows_all (memory_at (after_request t)).pages (sp - 65536) 65536 Read) (allows_all (memory_at (after_request t)).pages (sp - 65536) 65536 Write) can.shelf

  all_written : allows_all own.pages (bottom_of sp) 65536 Write ≡ true
  all_written =
      ap (λ (own : Memory). allows_all own.pages (bottom_of sp) 65536 Write) (sym memory_here)
      ∙ third_true (not (nat_lt sp 65536)) (allows_all (memory_at (after_request t)).pages (sp - 65536) 65536 Read) (allows_all (memory_at (after_request t)).pages (sp - 65536) 65536 Write) can.shelf

  shelf : HasMarkedShelf sp m.pages own.pages
  shelf = record {
    room = room;
    reads = λ a low high. byte_allowed own.pages (bottom_of sp) 65536 a Read low (up_to sp a room high) all_read;
    marks = can.marks;
  }
    where
      up_to : (sp a : ℕ) → 65536 ≤ sp → a < sp → a + 1 ≤ bottom_of sp + 65536
      up_to sp a room high = omega (arith, room, high)

  same : AreEqualUnmarked m.pages own.pages
  same = subst (λ pages. AreEqualUnmarked m.pages pages) (sym (decodings_leave_pages (image_at t).regs (memory_at t))) can.calm.alike

  -- ---- what is done

  may : may_poke (items_at sp (new_texts first second)) (after_request t) ≡ true
  may =
      may_between own.pages (bottom_of sp) sp 65536 (items_at sp (new_texts first second)) (after_request t) (ap (λ (own : Memory). own.pages) memory_here) (up_to sp room) all_written
      (stand hold first second sp room can.one can.two)
    where
      up_to : (sp : ℕ) → 65536 ≤ sp → sp ≤ bottom_of sp + 65536
      up_to sp room = omega (arith, room)

  put : with_arguments (addresses_at sp (new_texts first second)) (poked (items_at sp (new_texts first second)) (after_request t)) ≡ edited regs_behind behind t
  put =
      ap (with_arguments (addresses_at sp (new_texts first second))) (items_put t can.there (items_at sp (new_texts first second)) (image_at t).regs own)
      ∙ words_put t can.there (addresses_at sp (new_texts first second)) (image_at t).regs behind (are_registers sp r first second can.named)

  abbrev made : Applied
  made = record { answer = None; stopped = edited regs_behind behind t }

  done : applied (swap_edit sp first second) (after_request t) ≡ made
  done =
      ap (λ b. if b then record { answer = None; stopped = with_arguments (addresses_at sp (new_texts first second)) (poked (items_at sp (new_texts first second)) (after_request t)) } else refused EFAULT (after_request t)) may
      ∙ (λ i. record { answer = None; stopped = put i })

  image_behind : image_at (edited regs_behind behind t) ≡ record { regs = regs_behind; memory = behind }
  image_behind = image_is t can.there regs_behind behind

  is_made : IsSwapped t m r first second made
  is_made = record {
    answer = refl;
    stopped = refl;
    there = still_there t can.there regs_behind behind;
    decodes =
        ap (λ (i : Image). (carried_out (decoding i.regs) i.memory).reply) image_behind
        ∙ decoded_behind back hold (image_at t).regs m own r first second sp can.named can.one can.two shelf same can.calm.unread
        (found_alike (image_at t).regs m (memory_at t) r can.calm.alike can.calm.unread can.decoded);
    pages = decodings_leave_pages (image_at (edited regs_behind behind t)).regs (memory_at (edited regs_behind behind t));
    alike = subst (λ (i : Image). AreEqualUnmarked m.pages i.memory.pages) (sym image_behind) (shelf_poked hold m own first second sp shelf can.one can.two same);
  }

  pub swapped_here : IsSwapped t m r first second (applied (swap_edit (stack_at (after_request t)) first second) (after_request t))
  swapped_here = subst (λ (left : Applied). IsSwapped t m r first second left) (sym done) is_made
