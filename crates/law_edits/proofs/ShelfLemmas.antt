-- New texts on a shelf: they are read back, and what is marked on the other machine alone is changed.
use Rattle.std.specs.FinMap as map
use Rattle.std.proofs.Common.{◌≡◌, ℕ, zero, suc, Bool, ◌+◌, ◌≤◌, ◌<◌, true, false, List, [], ◌∷◌, length, map as map_list, Option, Some, None, Ok, arith, refl, sym, ap, subst, ◌∙◌}
use Rattle.std.proofs.SliceLists.{length_more}
use Rattle.std.proofs.lemmas.List.{get_or-set_other, get_or-set_same, get_or_past, length-set}
use Rattle.std.proofs.lemmas.List.Elements.{All-cons, All-nil}
use Rattle.std.specs.Prelude.{nat_lt, slice_index, slice_set}
use Rattle.std.proofs.lemmas.Bool.Decides.{nat_tests}
use Rattle.pt_tracer.specs.pr_base.declared.errno.Errno.TheVariants.{ENOSYS}
use Rattle.pt_tracer.specs.rv_mem.Actions.{AreEqualUnmarked, carried_out, rights_of}
use Rattle.pt_tracer.specs.rv_mem.Memory.{Memory, text_of}
use Rattle.pt_tracer.specs.rv_mem.Pages.{Pages, IsWhole, allows, written}
use Rattle.pt_tracer.specs.rv_mem.declared.regs.Regs.{Regs}
use Rattle.pt_tracer.specs.rv_mem.declared.rights.Use.TheVariants.{Read}
use Rattle.pt_tracer.proofs.rv_mem.ActionLemmas.{reads_alike}
use Rattle.pt_tracer.proofs.rv_mem.AddressLemmas.{byte_at-written_other}
use Rattle.pt_tracer.proofs.rv_mem.LayoutLemmas.{layouts_follow}
use Rattle.pt_tracer.proofs.rv_mem.SpaceLemmas.{IsWhole-written}
use Rattle.law_walks.specs.kr_calls.Arguments.{number}
use Rattle.law_walks.specs.kr_calls.Decoding.{decoding, decoding_of, text_limit}
use Rattle.law_walks.specs.kr_calls.declared.request.Request.{Request}
use Rattle.pt_tracer.specs.pt_args.Laws.{AreReadBack, IsPathText, ShelvesHoldTheirItems, StandBetween, TextsAreReadBack, poked, room_of}
use Rattle.pt_tracer.specs.pt_args.Shelving.{address_below}
use Rattle.law_edits.specs.Requests.{AreOfPaths, NewText, path_register, with_swaps}
use Rattle.law_edits.specs.Shelves.{CanBePath, CanSecondBePath, HasMarkedShelf, bottom_of, item_of, items_at, memory_behind, new_texts, registers_behind}
use Rattle.law_edits.specs.Swapped.{AreMarkedFrom, AreSwapped}
use Rattle.law_edits.proofs.DecodeLemmas.{swapped_decoded}
use Rattle.law_edits.proofs.RegisterLemmas.{IsArgument, path_registers, registers_apart}
use Rattle.law_edits.proofs.RowLemmas.{refused_is}

-- ---- writes where the other machine's bytes are marked

rights_stay : (m : Pages) (at : ℕ) (bytes : List ℕ) (k : ℕ) → rights_of (written m at bytes) k ≡ rights_of m k
rights_stay m at bytes k = sym (layouts_follow.rights (written m at bytes) k) ∙ ap (λ l. map.get l k) (layouts_follow.writes m at bytes) ∙ layouts_follow.rights m k

-- no test passes and fails
pub differ : {P : Type 0} → true ≡ false → P
differ e = absurd cc

module _ (m : Pages) where
  one_poked : (bottom top : ℕ) (w : Pages) (at : ℕ) (bytes : List ℕ) → AreMarkedFrom bottom top m → bottom ≤ at → at + length bytes ≤ top → AreEqualUnmarked m w → AreEqualUnmarked m (written w at bytes)
  one_poked bottom top w at bytes marks low high same = record {
    rights = λ k. same.rights k ∙ sym (rights_stay w at bytes k);
    bytes = λ a unmarked. same.bytes a unmarked ∙ sym (byte_at-written_other w at bytes a (λ k below is. differ (sym (marks a (omega arith) (omega arith)) ∙ unmarked)));
    whole = same.whole;
    other_whole = IsWhole-written w at bytes same.other_whole;
  }

  pub all_poked : (bottom top : ℕ) (w : Pages) (items : List (ℕ × List ℕ)) → AreMarkedFrom bottom top m → StandBetween bottom top items → AreEqualUnmarked m w → AreEqualUnmarked m (poked w items)
  all_poked bottom top w [] marks stand same = same
  all_poked bottom top w (p ∷ items) marks stand same =
      let fits : p.0 + length p.1 ≤ top = stand.2 in
      let below : AreMarkedFrom bottom p.0 m = λ a low high. marks a low (omega (arith, fits, high)) in
      all_poked bottom p.0 (written w p.0 p.1) items below stand.3 (one_poked bottom top w p.0 p.1 marks stand.0 fits same)

-- ---- room for one or two texts

item_short : (n : NewText) → CanBePath n → length (item_of n) ≤ 4096
item_short n can = omega (arith, can.path.short, length_more n.text 0)

room_for : (first : NewText) (second : Option NewText) → CanBePath first → CanSecondBePath second → room_of (map_list item_of (new_texts first second)) ≤ 65536
room_for first None one two = omega (arith, item_short first one)
room_for first (Some n) one two = omega (arith, item_short first one, item_short n two)

bottom_room : (sp room : ℕ) → 65536 ≤ sp → room ≤ 65536 → bottom_of sp + room ≤ sp
bottom_room sp room high fits = omega arith

-- ---- the registers of a call

past_number : (x : List ℕ) (n : ℕ) → slice_index x 17 ≡ suc n → 17 < length x
past_number x n is = by (nat_lt 17 (length x)) refl
  where
    by : (b : Bool) → nat_lt 17 (length x) ≡ b → 17 < length x
    by true above = grind (arith, nat_tests)
    by false below =
        let short : length x ≤ 17 = grind (arith, nat_tests) in
        absurd (let both : suc n ≡ 0 = sym is ∙ get_or_past x 17 0 short in cc)

-- a call that is decoded has a number, and so it has all of its arguments
pub has_number : (regs : Regs) (m : Memory) (r : Request) → (carried_out (decoding regs) m).reply ≡ Ok r → 17 < length regs.x
has_number regs m r e = by (number regs) refl
  where
    by : (n : ℕ) → number regs ≡ n → 17 < length regs.x
    by zero is = refused_is ENOSYS r (subst (λ n. (carried_out (decoding_of n regs) m).reply ≡ Ok r) is e)
    by (suc n) is = past_number regs.x n is

within_long : (register count : ℕ) → IsArgument register → 17 < count → register < count
within_long register count within long = omega (arith, within.1, long)

-- ---- both together

module _ (back : TextsAreReadBack) (regs : Regs) (w : Memory) (r : Request) (first : NewText) (sp : ℕ) (long : 17 < length regs.x) (whole : IsWhole w.pages) (room : 65536 ≤ sp) (reads : (a : ℕ) → bottom_of sp ≤ a → a < sp → allows w.pages a Read ≡ true)
    (can : CanBePath first) where
  fits : (second : Option NewText) → CanSecondBePath second → bottom_of sp + room_of (map_list item_of (new_texts first second)) ≤ sp
  fits second two = bottom_room sp (room_of (map_list item_of (new_texts first second))) room (room_for first second can two)

  one_back : AreReadBack (memory_behind sp first None w).pages (items_at sp (first ∷ [])) (first.text ∷ [])
  one_back = back w.pages (bottom_of sp) sp (first.text ∷ []) whole (fits None tt) reads (All-cons IsPathText first.text [] can.path (All-nil IsPathText))

  one_swapped : path_register r 0 ≡ Some first.register → AreSwapped first None regs (registers_behind sp first None regs) (memory_behind sp first None w).pages
  one_swapped named =
      let set = get_or-set_same regs.x first.register (address_below sp (length (item_of first))) 0 (within_long first.register (length regs.x) (path_registers r 0 first.register named) long) in
      record {
        same = λ k other _. get_or-set_other regs.x first.register k (address_below sp (length (item_of first))) 0 other;
        one = record { stands = ap (λ at. text_of (memory_behind sp first None w).pages at text_limit) set ∙ one_back.0; some = can.some };
        two = tt;
      }

  module _ (n : NewText) (can_too : CanBePath n) where
    both_back : AreReadBack (memory_behind sp first (Some n) w).pages (items_at sp (first ∷ n ∷ [])) (first.text ∷ n.text ∷ [])
    both_back =
        back w.pages (bottom_of sp) sp (first.text ∷ n.text ∷ []) whole (fits (Some n) can_too) reads
        (All-cons IsPathText first.text (n.text ∷ []) can.path (All-cons IsPathText n.text [] can_too.path (All-nil IsPathText)))

    both_swapped : path_register r 0 ≡ Some first.register → path_register r 1 ≡ Some n.register → AreSwapped first (Some n) regs (registers_behind sp first (Some n) regs) (memory_behind sp first (Some n) w).pages
    both_swapped one two =
        let x = slice_set regs.x first.register (address_below sp (length (item_of first))) in
        let long_too = within_long n.register (length x) (path_registers r 1 n.register two) (subst (λ n. 17 < n) (sym (length-set regs.x first.register (address_below sp (length (item_of first))))) long) in
        let old = get_or-set_same regs.x first.register (address_below sp (length (item_of first))) 0 (within_long first.register (length regs.x) (path_registers r 0 first.register one) long) in
        let old_stays = get_or-set_other x n.register first.register (address_below (address_below sp (length (item_of first))) (length (item_of n))) 0 (registers_apart r first.register n.register one two) in
        let new = get_or-set_same x n.register (address_below (address_below sp (length (item_of first))) (length (item_of n))) 0 long_too in
        record {
          same = λ k other more.
              get_or-set_other x n.register k (address_below (address_below sp (length (item_of first))) (length (item_of n))) 0 more
              ∙ get_or-set_other regs.x first.register k (address_below sp (length (item_of first))) 0 other;
          one = record { stands = ap (λ at. text_of (memory_behind sp first (Some n) w).pages at text_limit) (old_stays ∙ old) ∙ both_back.0; some = can.some };
          two = record { stands = ap (λ at. text_of (memory_behind sp first (Some n) w).pages at text_limit) new ∙ both_back.1.0; some = can_too.some };
        }

  pub are_swapped : (second : Option NewText) → CanSecondBePath second → AreOfPaths r first second → AreSwapped first second regs (registers_behind sp first second regs) (memory_behind sp first second w).pages
  are_swapped None two named = one_swapped named.one
  are_swapped (Some n) two named = both_swapped n two named.one named.two

-- the new texts stand on the shelf
pub stand : ShelvesHoldTheirItems → (first : NewText) (second : Option NewText) (sp : ℕ) → 65536 ≤ sp → CanBePath first → CanSecondBePath second → StandBetween (bottom_of sp) sp (items_at sp (new_texts first second))
stand hold first second sp room can too =
    hold.stand (bottom_of sp) sp (map_list item_of (new_texts first second)) (bottom_room sp (room_of (map_list item_of (new_texts first second))) room (room_for first second can too))

-- what is written there is marked on the other machine
pub shelf_poked : ShelvesHoldTheirItems → (m w : Memory) (first : NewText) (second : Option NewText) (sp : ℕ) → HasMarkedShelf sp m.pages w.pages → CanBePath first → CanSecondBePath second → AreEqualUnmarked m.pages w.pages → AreEqualUnmarked m.pages (memory_behind sp first second w).pages
shelf_poked hold m w first second sp shelf can too same = all_poked m.pages (bottom_of sp) sp w.pages (items_at sp (new_texts first second)) shelf.marks (stand hold first second sp shelf.room can too) same

-- so the call is decoded behind the swap
pub decoded_behind : TextsAreReadBack → ShelvesHoldTheirItems → (regs : Regs) (m w : Memory) (r : Request) (first : NewText) (second : Option NewText) (sp : ℕ) → AreOfPaths r first second → CanBePath first → CanSecondBePath second
    → HasMarkedShelf sp m.pages w.pages → AreEqualUnmarked m.pages w.pages → (carried_out (decoding regs) m).memory.read_marked ≡ false → (carried_out (decoding regs) m).reply ≡ Ok r
    → (carried_out (decoding (registers_behind sp first second regs)) (memory_behind sp first second w)).reply ≡ Ok (with_swaps first second r)
decoded_behind back hold regs m w r first second sp named can too shelf same unread is =
    let swapped = are_swapped back regs w r first sp (has_number regs m r is) same.other_whole shelf.room shelf.reads can second too named in
    swapped_decoded regs (registers_behind sp first second regs) m (memory_behind sp first second w) r first second named (shelf_poked hold m w first second sp shelf can too same) swapped is unread

-- the other machine finds the same request
pub found_alike : (regs : Regs) (m w : Memory) (r : Request) → AreEqualUnmarked m.pages w.pages → (carried_out (decoding regs) m).memory.read_marked ≡ false → (carried_out (decoding regs) w).reply ≡ Ok r
    → (carried_out (decoding regs) m).reply ≡ Ok r
found_alike regs m w r same unread is = (reads_alike (decoding regs) m w same unread).0 ∙ is
