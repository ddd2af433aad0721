-- Instructions, and shelves that are marked, in two states that match.
use Rattle.std.specs.FinMap as map
use Rattle.std.proofs.Common.{◌≡◌, ◌≢◌, ◌+◌, ◌-◌, ◌/◌, ◌<◌, ◌≤◌, ℕ, false, true, Bool, cond, Option, Some, None, refl, sym, ap, subst, ◌∙◌, arith}
use Rattle.std.specs.Prelude.{List, ◌%◌, is_some, nat_le, nat_lt, slice_index_or}
use Rattle.std.specs.Option.{option_map, option_map_or}
use Rattle.std.proofs.lemmas.Bool.{leb-false, leb-true, ltb-false, ltb-true}
use Rattle.std.proofs.lemmas.Option.{same_Some}
use Rattle.pt_results.specs.rv_mem.Actions.{AreEqualUnmarked, carried_out}
use Rattle.pt_results.specs.rv_mem.Layout.{layout_of}
use Rattle.pt_results.specs.rv_mem.Memory.{Memory}
use Rattle.pt_results.specs.rv_mem.Pages.{IsPlaced, IsWhole, Pages, is_marked, marked}
use Rattle.pt_results.specs.rv_mem.Page.{PageState}
use Rattle.pt_results.specs.rv_mem.declared.regs.Regs.{Regs}
use Rattle.pt_results.proofs.rv_mem.ActionLemmas.{reads_alike}
use Rattle.pt_results.proofs.rv_mem.AddressLemmas.{byte_at-marked, is_marked-marked_in, is_marked-marked_other}
use Rattle.pt_results.proofs.rv_mem.LayoutLemmas.{layout_alike, layouts_follow}
use Rattle.pt_results.proofs.rv_mem.SpaceLemmas.{IsPlaced-marked, IsWhole-marked}
use Rattle.kr_core.specs.rv_cpu.Laws.{EndAlike}
use Rattle.kr_core.specs.rv_cpu.Run.{ran}
use Rattle.kr_core.proofs.rv_cpu.AlikeLemmas.{runs-alike}
use Rattle.pt_results.specs.pt_bind.Tags.{TagTable}
use Rattle.law_places.specs.kr_view.View.{Row}
use Rattle.pt_results.specs.kr_calls.Arguments.{number}
use Rattle.pt_results.specs.kr_calls.Decoding.{decoding}
use Rattle.law_places.specs.kr_calm.Shelf.{has_path, is_usable, shelf_size, shelf_start, shelved_by, stack_pointer, with_shelf_marked}
use Rattle.law_places.specs.kr_model.State.{Image, Process, State, process}
use Rattle.kr_core.proofs.law_allowed.RowLemmas.{StaysLike, stays-like}
use Rattle.kr_core.specs.kr_steps.Computing.{computed}
use Rattle.kr_core.proofs.kr_steps.ComputingLemmas.{ran-stays-like}
use Rattle.kr_core.specs.kr_turns.Shelving.{shelved_in}
use Rattle.kr_core.specs.kr_stops.Stopped.{image_in, no_image}
use Rattle.law_places.specs.Matching.{IsMatch}
use Rattle.law_turns.specs.Turning.{ComputeAlike, DecodeAlike, DecodingsKeepMatches, InstructionsKeepMatches, ShelvesKeepMatches}
use Rattle.law_turns.proofs.MatchLemmas.{match_computed}

-- ---- the process of a number in both

module _ (table : List Row) (tags : TagTable) (pid : ℕ) (s w : State ℕ Image) (p q : Process ℕ Image) (m : IsMatch table tags s w) (lives : process pid s ≡ Some p) (also : process pid w ≡ Some q) where
  same_regs : p.image.regs ≡ q.image.regs
  same_regs = same_Some _ _ (sym (ap (option_map (λ p. p.image.regs)) lives) ∙ m.images.registers pid ∙ ap (option_map (λ p. p.image.regs)) also)

  alike : AreEqualUnmarked p.image.memory.pages q.image.memory.pages
  alike = m.images.memories pid p q lives also

  -- ---- instructions

  pub instructions_alike : (fuel : ℕ) → (ran fuel p.image.regs p.image.memory).memory.read_marked ≡ false → ComputeAlike table tags pid fuel s w p q
  instructions_alike fuel unread =
      let own = m.placed.lawful.processes pid p lives in
      let like = ran-stays-like fuel None p.image.regs p.image.memory own.whole own.paged in
      let end : EndAlike (ran fuel p.image.regs p.image.memory) (ran fuel q.image.regs q.image.memory) =
      subst (λ regs. EndAlike (ran fuel p.image.regs p.image.memory) (ran fuel regs q.image.memory)) same_regs (runs-alike fuel p.image.regs p.image.memory q.image.memory alike unread) in
      let laid : layout_of (ran fuel q.image.regs q.image.memory).memory.pages ≡ layout_of q.image.memory.pages =
      sym (layout_alike (ran fuel p.image.regs p.image.memory).memory.pages (ran fuel q.image.regs q.image.memory).memory.pages end.memory) ∙ like.layout ∙ layout_alike p.image.memory.pages q.image.memory.pages alike in
      record {
        ends = end;
        matches =
            subst (λ regs. IsMatch table tags (computed pid (ran fuel p.image.regs p.image.memory).regs (ran fuel p.image.regs p.image.memory).memory s) (computed pid regs (ran fuel q.image.regs q.image.memory).memory w)) end.regs
            (match_computed table tags s w m pid p q lives also (ran fuel p.image.regs p.image.memory).regs (ran fuel p.image.regs p.image.memory).memory (ran fuel q.image.regs q.image.memory).memory end.memory like laid);
      }

  -- ---- calls

  pub decoded_alike : (carried_out (decoding p.image.regs) p.image.memory).memory.read_marked ≡ false → DecodeAlike table tags pid s w p q
  decoded_alike unread =
      let own = m.placed.lawful.processes pid p lives in
      let one = (carried_out (decoding p.image.regs) p.image.memory).memory in
      let other = (carried_out (decoding q.image.regs) q.image.memory).memory in
      let like = stays-like (decoding p.image.regs) p.image.memory own.whole own.paged in
      let both : ((carried_out (decoding p.image.regs) p.image.memory).reply ≡ (carried_out (decoding q.image.regs) q.image.memory).reply) × AreEqualUnmarked one.pages other.pages =
      subst (λ regs. ((carried_out (decoding p.image.regs) p.image.memory).reply ≡ (carried_out (decoding regs) q.image.memory).reply) × AreEqualUnmarked one.pages (carried_out (decoding regs) q.image.memory).memory.pages) same_regs
      (reads_alike (decoding p.image.regs) p.image.memory q.image.memory alike unread) in
      let laid : layout_of other.pages ≡ layout_of q.image.memory.pages = sym (layout_alike one.pages other.pages both.1) ∙ like.layout ∙ layout_alike p.image.memory.pages q.image.memory.pages alike in
      record {
        requests = both.0;
        matches =
            subst (λ regs. IsMatch table tags (computed pid p.image.regs one s) (computed pid regs other w)) same_regs
            (match_computed table tags s w m pid p q lives also p.image.regs one other both.1 like laid);
      }

  -- ---- shelves

  -- what isn't marked with a range wasn't marked before
  unmarked_before : (pages : Pages) → IsWhole pages → (at n a : ℕ) → is_marked (marked pages at n) a ≡ false → is_marked pages a ≡ false
  unmarked_before pages whole at n a unmarked = by (nat_le at a) refl (nat_lt a (at + n)) refl
    where
      outside : ((k : ℕ) → k < n → a ≢ at + k) → is_marked pages a ≡ false
      outside other = sym (is_marked-marked_other pages at n a other) ∙ unmarked

      inside : at ≤ a → a < at + n → (o : Option PageState) → map.get pages (a / 4096) ≡ o → is_marked pages a ≡ false
      inside low high None none = ap (λ o. option_map_or (λ (p : PageState). slice_index_or p.marks (a % 4096) false) o false) none
      inside low high (Some page) there =
          let k : ℕ = a - at in
          let is : at + k ≡ a = omega (arith, low) in
          let marked_now = is_marked-marked_in pages at n k whole (omega (arith, low, high)) (subst (λ b. map.contains_key pages (b / 4096) ≡ true) (sym is) (ap is_some there)) in
          let never : true ≡ false = sym marked_now ∙ ap (is_marked (marked pages at n)) is ∙ unmarked in
          absurd (differ never)
        where
          differ : true ≡ false → ⊥
          differ e = cc

      by : (b : Bool) → nat_le at a ≡ b → (c : Bool) → nat_lt a (at + n) ≡ c → is_marked pages a ≡ false
      by false low c high = outside (λ k l same. let no = leb-false at a low in omega (arith, no, same))
      by true low false high = outside (λ k l same. let no = ltb-false a (at + n) high in omega (arith, no, same, l))
      by true low true high = inside (leb-true at a low) (ltb-true a (at + n) high) (map.get pages (a / 4096)) refl

  shelf_alike : (one other : Memory) → AreEqualUnmarked one.pages other.pages → (regs : Regs) → AreEqualUnmarked (shelved_by 1 regs one).pages other.pages
  shelf_alike one other same regs = by (has_path (number regs)) (is_usable (stack_pointer regs) one.pages)
    where
      by : (b c : Bool) → AreEqualUnmarked (cond b (cond c (with_shelf_marked (stack_pointer regs) one) one) one).pages other.pages
      by true true = record {
        rights = λ k. sym (layouts_follow.rights (marked one.pages (shelf_start (stack_pointer regs)) shelf_size) k) ∙ ap (λ l. map.get l k) (layouts_follow.marks one.pages (shelf_start (stack_pointer regs)) shelf_size) ∙ layouts_follow.rights one.pages k ∙ same.rights k;
        bytes = λ a unmarked. byte_at-marked one.pages (shelf_start (stack_pointer regs)) shelf_size a ∙ same.bytes a (unmarked_before one.pages same.whole (shelf_start (stack_pointer regs)) shelf_size a unmarked);
        whole = IsWhole-marked one.pages (shelf_start (stack_pointer regs)) shelf_size same.whole;
        other_whole = same.other_whole;
      }
      by true false = same
      by false c = same

  shelf_stays_like : StaysLike p.image.memory.pages (shelved_by 1 p.image.regs p.image.memory).pages
  shelf_stays_like = by (has_path (number p.image.regs)) (is_usable (stack_pointer p.image.regs) p.image.memory.pages)
    where
      whole : IsWhole p.image.memory.pages
      whole = (m.placed.lawful.processes pid p lives).whole

      placed : IsPlaced p.image.memory.pages
      placed = (m.placed.lawful.processes pid p lives).paged

      by : (b c : Bool) → StaysLike p.image.memory.pages (cond b (cond c (with_shelf_marked (stack_pointer p.image.regs) p.image.memory) p.image.memory) p.image.memory).pages
      by true true = record {
        whole = IsWhole-marked p.image.memory.pages (shelf_start (stack_pointer p.image.regs)) shelf_size whole;
        placed = IsPlaced-marked p.image.memory.pages (shelf_start (stack_pointer p.image.regs)) shelf_size placed;
        layout = layouts_follow.marks p.image.memory.pages (shelf_start (stack_pointer p.image.regs)) shelf_size;
      }
      by true false = record { whole = whole; placed = placed; layout = refl }
      by false c = record { whole = whole; placed = placed; layout = refl }

  shelved_match : IsMatch table tags (shelved_in 1 pid s) (shelved_in 0 pid w)
  shelved_match =
      let mine : image_in pid s ≡ p.image = ap (λ o. option_map_or (λ (p : Process ℕ Image). p.image) o no_image) lives in
      let theirs : image_in pid w ≡ q.image = ap (λ o. option_map_or (λ (p : Process ℕ Image). p.image) o no_image) also in
      let here = match_computed table tags s w m pid p q lives also p.image.regs (shelved_by 1 p.image.regs p.image.memory) q.image.memory (shelf_alike p.image.memory q.image.memory alike p.image.regs) shelf_stays_like refl in
      subst (λ (image : Image). IsMatch table tags (computed pid image.regs (shelved_by 1 image.regs image.memory) s) (shelved_in 0 pid w)) (sym mine)
      (subst (λ (image : Image). IsMatch table tags (computed pid p.image.regs (shelved_by 1 p.image.regs p.image.memory) s) (computed pid image.regs (shelved_by 0 image.regs image.memory) w)) (sym theirs)
      (subst (λ regs. IsMatch table tags (computed pid p.image.regs (shelved_by 1 p.image.regs p.image.memory) s) (computed pid regs q.image.memory w)) same_regs here))

pub instructions_keep_matches : InstructionsKeepMatches
instructions_keep_matches table tags pid fuel s w p q m lives also unread = instructions_alike table tags pid s w p q m lives also fuel unread

pub decodings_keep_matches : DecodingsKeepMatches
decodings_keep_matches table tags pid s w p q m lives also unread = decoded_alike table tags pid s w p q m lives also unread

-- where a process lives in one it lives in the other
pub lives_too : (table : List Row) (tags : TagTable) (pid : ℕ) (s w : State ℕ Image) (p : Process ℕ Image) → IsMatch table tags s w → process pid s ≡ Some p → (q : Process ℕ Image) × (process pid w ≡ Some q)
lives_too table tags pid s w p m lives = by (process pid w) refl
  where
    by : (o : Option (Process ℕ Image)) → process pid w ≡ o → (q : Process ℕ Image) × (process pid w ≡ Some q)
    by None none = let never = sym (ap (option_map (λ p. p.image.regs)) lives) ∙ m.images.registers pid ∙ ap (option_map (λ p. p.image.regs)) none in absurd (no never)
      where
        no : {A : Type 0} {a : A} → Some a ≡ None → ⊥
        no e = cc
    by (Some q) there = (q, there)

pub shelves_keep_matches : ShelvesKeepMatches
shelves_keep_matches table tags pid s w p m lives = let too = lives_too table tags pid s w p m lives in shelved_match table tags pid s w p too.0 m lives too.1
