-- What is so of a call with a path before its row and behind it.
use Rattle.std.proofs.Common.{◌≡◌, ℕ, List, [], ◌∷◌, refl, sym, ap, subst, ◌∙◌, arith, map as map_list}
use Rattle.pt_results.specs.rv_mem.Memory.{Memory}
use Rattle.pt_results.specs.rv_mem.Pages.{HoldsBytes, IsPlaced, IsWhole}
use Rattle.pt_results.specs.pt_bind.Tags.{TagTable}
use Rattle.law_places.specs.kr_view.Living.{Each, HasSmallNumbers, Living, finds_among}
use Rattle.law_places.specs.kr_view.View.{Row}
use Rattle.pt_results.specs.kr_calls.Decoding.{decoding}
use Rattle.pt_results.specs.kr_calls.declared.request.Request.{Request}
use Rattle.kr_core.specs.law_lawful.Laws.{CanAllBeMade}
use Rattle.kr_core.proofs.law_allowed.RoomLemmas.{lasting-room}
use Rattle.law_places.specs.kr_model.Applied.{with_image}
use Rattle.law_places.specs.kr_model.Known.{known}
use Rattle.law_places.proofs.kr_model.KnownLemmas.{known-bare}
use Rattle.law_places.specs.kr_model.Operation.{operation}
use Rattle.law_places.specs.kr_model.ProcessDirectory.{living_of, space_of}
use Rattle.law_places.specs.kr_model.State.{Image, Process, State, image_layout, with_process}
use Rattle.kr_core.proofs.law_allowed.RowLemmas.{StaysLike, stays-like}
use Rattle.kr_core.specs.kr_seen.Carrying.{memory_of, with_memory}
use Rattle.kr_core.proofs.kr_seen.StandingLemmas.{living-small}
use Rattle.kr_core.specs.kr_steps.Computing.{computed}
use Rattle.law_places.specs.Matching.{AreTagged}
use Rattle.law_places.specs.Standing.{PlacesStand}
use Rattle.law_places.proofs.FollowLemmas.{told_at}
use Rattle.law_turns.specs.Calls.{decoded_by, decoded_in}
use Rattle.law_turns.specs.Operating.{done_in}
use Rattle.law_turns.proofs.CalledLemmas.{decoded_holds, decoded_lasts, decoded_lives, decoded_memory, decoded_process, is_allowed}
use Rattle.law_turns.proofs.ImageLemmas.{bare_computed, places_computed, tags_computed}
use Rattle.law_turns.proofs.OperateLemmas.{with_own_registers}
use Rattle.law_turns.specs.PathCalls.{CallsPath, changes_at, mounts_at, told_at as told_of, written_at}
use Rattle.law_turns.proofs.RuleLemmas.{no_exec}

-- another memory shows no other process
shown_same : (pid : ℕ) (memory : Memory) (shown : Process ℕ Image → Living) → ((p : Process ℕ Image) → shown (with_image (with_memory memory) p) ≡ shown p) → (ps : List (Process ℕ Image))
    → map_list shown (with_process pid (with_image (with_memory memory)) ps) ≡ map_list shown ps
shown_same pid memory shown same [] = refl
shown_same pid memory shown same (p ∷ ps) =
    ap (λ x. x ∷ map_list shown (with_process pid (with_image (with_memory memory)) ps)) (told_at shown pid (with_image (with_memory memory)) same p) ∙ ap (λ xs. shown p ∷ xs) (shown_same pid memory shown same ps)

module _ (table : List Row) (made pid : ℕ) (s : State ℕ Image) (p : Process ℕ Image) (tags : TagTable) (r : Request) (c : CallsPath table made pid s p tags r) where
  -- ---- before its row

  abbrev pub at : State ℕ Image
  at = decoded_in pid p s

  pub at_placed : PlacesStand table at
  at_placed =
      let own = c.can.lasts.lawful.processes pid p c.can.lives in
      places_computed pid p.image.regs (decoded_by p).memory table s p c.can.lives c.placed (stays-like (decoding p.image.regs) p.image.memory own.whole own.paged)

  pub at_tagged : AreTagged table at tags
  at_tagged = tags_computed pid p.image.regs (decoded_by p).memory table s p c.can.lives tags c.tagged

  pub at_small : Each HasSmallNumbers (living_of at)
  at_small =
      let lawful = at_placed.lawful in
      let few = (lasting-room ℕ Image made s c.can.few c.can.lasts.lawful.tree.sound c.can.lasts.lasts).pids in
      living-small at lawful.pids (λ pid fd x there. (lawful.descriptors pid fd x there).0) (omega (arith, few))

  pub at_holds : HoldsBytes (memory_of pid at).pages
  at_holds = subst (λ (x : Memory). HoldsBytes x.pages) (sym (decoded_memory table made pid s p c.can)) (decoded_holds table made pid s p c.can)

  -- ---- behind it, before its changes

  abbrev pub written : State ℕ Image
  written = written_at table pid s p r

  abbrev after : Memory
  after = (done_in pid r (told_of table pid s p r) at).memory

  row_stays : StaysLike (decoded_by p).memory.pages after.pages
  row_stays =
      let x = (decoded_lasts table made pid s p c.can).lawful.processes pid (decoded_process table made pid s p c.can) (decoded_lives table made pid s p c.can) in
      subst (λ (memory : Memory). StaysLike memory.pages after.pages) (decoded_memory table made pid s p c.can)
      (stays-like (operation pid r (told_of table pid s p r) (known image_layout pid at)) (memory_of pid at) (subst (λ (y : Memory). IsWhole y.pages) (sym (decoded_memory table made pid s p c.can)) x.whole) (subst (λ (y : Memory). IsPlaced y.pages) (sym (decoded_memory table made pid s p c.can)) x.paged))

  by_registers : written ≡ computed pid p.image.regs after at
  by_registers = with_own_registers pid after at.next_pid at (decoded_process table made pid s p c.can) (decoded_lasts table made pid s p c.can).lawful.pids.living (decoded_lives table made pid s p c.can)

  pub written_placed : PlacesStand table written
  written_placed = subst (PlacesStand table) (sym by_registers) (places_computed pid p.image.regs after table at (decoded_process table made pid s p c.can) (decoded_lives table made pid s p c.can) at_placed row_stays)

  -- the same is known there
  pub known_written : known image_layout pid written ≡ known image_layout pid at
  known_written =
      let none : ℕ → ℕ = λ i. 0 in
      ap (known image_layout pid) by_registers ∙ known-bare ℕ none pid (computed pid p.image.regs after at)
      ∙ ap (known (λ m. m) pid) (bare_computed pid p.image.regs after none at.next_pid at (decoded_process table made pid s p c.can) (decoded_lasts table made pid s p c.can).lawful.pids.living (decoded_lives table made pid s p c.can) row_stays.layout)
      ∙ sym (known-bare ℕ none pid at)

  -- and walks go through the same
  pub same_space : space_of table at ≡ space_of table written
  same_space = ap (λ living. record { table = table; tree = at.tree; user = at.user; finds = finds_among living }) (sym (shown_same pid after _ (λ p. refl) at.living))

  pub can_all : CanAllBeMade (λ m. m) table (mounts_at table pid s p r) pid written (changes_at table pid s p r)
  can_all = (is_allowed table made pid s p c.can r c.decoded (no_exec r c.kind)).made
