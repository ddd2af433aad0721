-- The changes of a call keep a match, one after the other.
use Rattle.std.proofs.Common.{◌≡◌, ℕ, true, false, List, [], ◌∷◌, Option, Some, None, sym, ap, ◌∙◌}
use Rattle.std.specs.Prelude.{◌||◌, IfSome, IsSome}
use Rattle.std.proofs.lemmas.Bool.{or_parts}
use Rattle.pt_results.specs.rv_mem.Pages.{IsWhole}
use Rattle.pt_results.specs.pt_bind.Tags.{TagTable}
use Rattle.law_places.specs.kr_view.View.{Row, plain}
use Rattle.law_places.specs.kr_calm.Rules.{breaks_3, breaks_4, breaks_5, changes_break_3, changes_break_4, changes_break_5}
use Rattle.kr_core.proofs.law_lawful.ChangeLemmas.{every-change-keeps}
use Rattle.law_places.specs.kr_model.Applied.{Mounts, applied, images, layouts}
use Rattle.law_places.specs.kr_model.Bare.{bare, bare_mounts, pins_of}
use Rattle.law_places.specs.kr_model.Change.{Change, AddNode, LinkNode, RemoveName, MoveName, SetMode, SetOwner, SetSize, WriteFile, OpenFile, CopyDescriptor, CloseDescriptor, SetCloexec, Seek, SetAppend, MakePipe, TakeFromPipe, PutIntoPipe, TakeInput, WriteOut, WriteErr, ChangePages, SetBreak, SetUmask, ChangeDirectory, Fork, End, Reap, ReplaceImage, ReplaceExecutable, CloseOnExec}
use Rattle.law_places.specs.kr_model.Conditions.{CanBeMade, CanLoad, OfCaller}
use Rattle.law_places.specs.kr_model.Images.{LoadsWhole}
use Rattle.law_places.specs.kr_model.Lawful.{IsLawful}
use Rattle.law_places.specs.kr_model.State.{Image, Process, State, image_layout, process}
use Rattle.law_places.proofs.kr_model.BareLemmas.{change-bare}
use Rattle.law_places.proofs.kr_model.ProcessLemmas.{processes_alike}
use Rattle.law_places.specs.Matching.{IsMatch}
use Rattle.law_places.specs.Standing.{PlacesStand}
use Rattle.law_places.specs.Tagging.{tags_made}
use Rattle.law_places.proofs.SlotLemmas.{tags_follow}
use Rattle.law_places.proofs.KeepLemmas.{calm_moves_keep_places, stay_inside}
use Rattle.law_turns.specs.Changing.{ChangesKeepMatches, MovesKeepMatches}
use Rattle.law_turns.proofs.AlikeLemmas.{AreSame, alike_all, images_alike, pinned_root, pinned_sources, same_inherited}

-- a program that can be loaded is whole
module _ (table : List Row) (mounts : Mounts ℕ) (pid : ℕ) (s : State ℕ Image) where
  of_caller : (image : Image) (brk : ℕ) → IsSome (process pid s) → OfCaller pid s (CanLoad image brk s) → IsWhole image.memory.pages
  of_caller image brk lives can = by (process pid s) lives can
    where
      by : (o : Option (Process ℕ Image)) → IsSome o → IfSome o (CanLoad image brk s) → IsWhole image.memory.pages
      by None none can = absurd (differ none)
        where
          differ : false ≡ true → ⊥
          differ e = cc
      by (Some p) some can = can.whole

  loads_whole : (c : Change) → IsSome (process pid s) → CanBeMade (λ m. m) table mounts pid s c → LoadsWhole c
  loads_whole (AddNode dir name mode uid gid body) lives can = tt
  loads_whole (LinkNode dir name inode) lives can = tt
  loads_whole (RemoveName dir name) lives can = tt
  loads_whole (MoveName dir name to new) lives can = tt
  loads_whole (SetMode inode mode) lives can = tt
  loads_whole (SetOwner inode uid gid) lives can = tt
  loads_whole (SetSize inode size) lives can = tt
  loads_whole (WriteFile inode at bytes) lives can = tt
  loads_whole (OpenFile fd cloexec from o) lives can = tt
  loads_whole (CopyDescriptor fd to cloexec) lives can = tt
  loads_whole (CloseDescriptor fd) lives can = tt
  loads_whole (SetCloexec fd on) lives can = tt
  loads_whole (Seek fd at) lives can = tt
  loads_whole (SetAppend fd on) lives can = tt
  loads_whole (MakePipe first second cloexec) lives can = tt
  loads_whole (TakeFromPipe pipe count) lives can = tt
  loads_whole (PutIntoPipe pipe bytes) lives can = tt
  loads_whole (TakeInput count) lives can = tt
  loads_whole (WriteOut bytes) lives can = tt
  loads_whole (WriteErr bytes) lives can = tt
  loads_whole (ChangePages c) lives can = tt
  loads_whole (SetBreak brk) lives can = tt
  loads_whole (SetUmask umask) lives can = tt
  loads_whole (ChangeDirectory from host) lives can = tt
  loads_whole (Fork b) lives can = tt
  loads_whole (End status) lives can = tt
  loads_whole (Reap child) lives can = tt
  loads_whole (ReplaceImage image brk) lives can = of_caller image brk lives can
  loads_whole (ReplaceExecutable from host dir name) lives can = tt
  loads_whole CloseOnExec lives can = tt

-- ---- one change

module _ (table : List Row) (mounts others : Mounts ℕ) (same : bare_mounts mounts ≡ bare_mounts others) (pid : ℕ) (c : Change) (s w : State ℕ Image) (tags : TagTable)
    (lives : IsSome (process pid s)) (can : CanBeMade (λ m. m) table mounts pid s c) (lawful : IsLawful (λ m. m) plain w) (other_lawful : IsLawful (λ m. m) plain (applied images others pid c w)) (placed : PlacesStand table (applied images mounts pid c s)) (m : IsMatch table tags s w) where
  pub one_change : IsMatch table (tags_made table mounts pid s c tags) (applied images mounts pid c s) (applied images others pid c w)
  one_change = record {
    bares =
        change-bare ℕ (pins_of table) mounts pid c s (pinned_sources table s m.placed) (pinned_sources table (applied images mounts pid c s) placed)
        ∙ ap (λ b. applied layouts (bare_mounts mounts) pid c b) m.bares
        ∙ ap (λ n. applied layouts n pid c (bare image_layout (pins_of plain) w)) same
        ∙ sym (change-bare ℕ (pins_of plain) others pid c w (pinned_root w lawful) (pinned_root (applied images others pid c w) other_lawful));
    images = images_alike (applied images mounts pid c s) (applied images others pid c w) (processes_alike AreSame same_inherited mounts others pid s w (alike_all table tags s w m) c (loads_whole table mounts pid s c lives can));
    tagged = tags_follow table mounts pid c s tags m.placed.lawful lives can m.tagged;
    placed = placed;
  }

-- ---- changes in their order

pub moves_keep_matches : MovesKeepMatches
moves_keep_matches table mounts others pid [] s w tags same inside calm new can also lawful m = m
moves_keep_matches table mounts others pid (c ∷ cs) s w tags same inside calm new can also lawful m =
    let next = applied images mounts pid c s in
    let third = or_parts (breaks_3 table s.tree c) (changes_break_3 images mounts pid table cs next) calm.third in
    let fourth = or_parts (breaks_4 pid s c next) (changes_break_4 images mounts pid cs next) calm.fourth in
    let fifth = or_parts (breaks_5 table s c next) (changes_break_5 images mounts pid table cs next) calm.fifth in
    let placed = calm_moves_keep_places table mounts pid (c ∷ []) s (inside.0, tt) (record { third = ap (λ b. b || false) third.0; fourth = ap (λ b. b || false) fourth.0; fifth = ap (λ b. b || false) fifth.0 }) (can.0, can.1, tt) (new.0, tt) m.placed in
    let other_lawful = every-change-keeps ℕ (λ m. m) plain others pid c w lawful also.0 also.1 in
    moves_keep_matches table mounts others pid cs next (applied images others pid c w) (tags_made table mounts pid s c tags) same inside.1 (record { third = third.1; fourth = fourth.1; fifth = fifth.1 }) new.1 can.2 also.2 other_lawful
    (one_change table mounts others same pid c s w tags can.0 can.1 lawful other_lawful placed m)

pub changes_keep_matches : ChangesKeepMatches
changes_keep_matches table mounts others pid cs s w tags same still calm new can also lawful m =
    moves_keep_matches table mounts others pid cs s w tags same (stay_inside table mounts pid cs s still) calm new can also lawful m
