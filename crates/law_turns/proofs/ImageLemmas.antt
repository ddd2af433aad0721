-- A process that is given other registers and another memory in two states that match.
use Rattle.std.proofs.Common.{◌≡◌, ◌<◌, ℕ, suc, Bool, true, false, cond, List, [], ◌∷◌, Some, refl, sym, ap, ◌∙◌, arith}
use Rattle.std.specs.Prelude.{map as map_list, ◌==◌}
use Rattle.std.specs.List.{find}
use Rattle.pt_results.specs.rv_mem.Layout.{Layout, layout_of}
use Rattle.pt_results.specs.rv_mem.Memory.{Memory}
use Rattle.pt_results.specs.rv_mem.declared.regs.Regs.{Regs}
use Rattle.pt_results.specs.pt_bind.Tags.{TagTable}
use Rattle.kr_core.proofs.kr_tree.NameLemmas.{some_is}
use Rattle.law_places.specs.kr_view.View.{Row}
use Rattle.law_places.specs.kr_model.Applied.{with_image, with_living}
use Rattle.law_places.specs.kr_model.Bare.{bare, bare_process}
use Rattle.law_places.specs.kr_model.Lawful.{IsLawful, RiseFrom}
use Rattle.law_places.specs.kr_model.ProcessDirectory.{space_of}
use Rattle.law_places.specs.kr_model.State.{Image, Process, State, image_layout, is_pid, process, with_process}
use Rattle.kr_core.proofs.law_allowed.RowLemmas.{StaysLike, lawful-image}
use Rattle.kr_core.proofs.law_lawful.SumLemmas.{other-test, passed-test}
use Rattle.kr_core.specs.kr_steps.Computing.{computed}
use Rattle.law_places.specs.Losses.{nothing}
use Rattle.law_places.specs.Following.{Follows, StoodAndStays}
use Rattle.law_places.specs.Matching.{AreTagged}
use Rattle.law_places.specs.Standing.{PlacesStand}
use Rattle.law_places.specs.Uses.{IsUse, Use, cwd_use, exe_use, is_cwd, is_exe, is_open}
use Rattle.law_places.proofs.FollowLemmas.{IsIdle, follows_idle, follows_itself}
use Rattle.law_places.proofs.KeptLemmas.{stood_kept, table_kept}
use Rattle.law_places.proofs.SpaceLemmas.{places_follow}
use Rattle.law_places.proofs.TagLemmas.{Own, TagIs, slots_at, slots_of_tags, tags_of_slots}

-- ---- one process that is changed, but not where it stands

module _ (table : List Row) (pid : ℕ) (f : Process ℕ Image → Process ℕ Image) (s : State ℕ Image) where
  pub places_idle : IsIdle f → PlacesStand table s → IsLawful (λ m. m) table (with_living (with_process pid f) s) → PlacesStand table (with_living (with_process pid f) s)
  places_idle idle stand lawful = places_follow nothing table s (with_living (with_process pid f) s) stand (table_kept (space_of table s)) lawful (follows_idle nothing P s pid f s idle start)
    where
      P : Use → Type 0
      P = StoodAndStays nothing table s

      of : (x : Use) → IsUse s x → P x
      of x is = stood_kept table s x (stand.uses x is)

      start : Follows nothing P s s
      start = follows_itself nothing P s (λ k p at. (of (cwd_use p) (is_cwd k p at), of (exe_use p) (is_exe k p at))) (λ n o q at there. of _ (is_open n o q at there))

  pub tags_idle : (tags : TagTable) → ((p : Process ℕ Image) → (f p).pid ≡ p.pid) → ((p : Process ℕ Image) → Own (TagIs table tags) s.files pid p → Own (TagIs table tags) s.files pid (f p)) → AreTagged table s tags
      → AreTagged table (with_living (with_process pid f) s) tags
  tags_idle tags stays own tagged =
      tags_of_slots table tags (with_living (with_process pid f) s)
      (slots_at (TagIs table tags) (TagIs table tags) s s.files pid f stays (λ k p away at own. own) (λ p at. own p) (slots_of_tags table tags s tagged))

module _ (pid : ℕ) (regs : Regs) (memory : Memory) where
  abbrev pub given : Process ℕ Image → Process ℕ Image
  given p = with_image (λ (image : Image). record { regs = regs; memory = memory }) p

  -- ---- what both machines share

  module _ (next : ℕ) where
    bare_above : (low : ℕ) (ps : List (Process ℕ Image)) → pid < low → RiseFrom low next (map_list (λ p. p.pid) ps) → map_list (bare_process image_layout) (with_process pid given ps) ≡ map_list (bare_process image_layout) ps
    bare_above low [] l rise = refl
    bare_above low (x ∷ ps) l rise =
        let above = rise.0 in
        let apart : (x.pid == pid) ≡ false = other-test x.pid pid (λ e. absurd (omega arith)) in
        ap (λ b. bare_process image_layout (cond b (given x) x) ∷ map_list (bare_process image_layout) (with_process pid given ps)) apart
        ∙ ap (λ rest. bare_process image_layout x ∷ rest) (bare_above (suc x.pid) ps (omega arith) rise.2)

    pub bare_given : (low : ℕ) (ps : List (Process ℕ Image)) (p : Process ℕ Image) → RiseFrom low next (map_list (λ p. p.pid) ps) → find (is_pid pid) ps ≡ Some p → layout_of memory.pages ≡ image_layout p.image
        → map_list (bare_process image_layout) (with_process pid given ps) ≡ map_list (bare_process image_layout) ps
    bare_given low [] p rise e same = refl
    bare_given low (x ∷ ps) p rise e same = by (bare_given (suc x.pid) ps p rise.2) (x.pid == pid) refl e
      where
        by : (find (is_pid pid) ps ≡ Some p → layout_of memory.pages ≡ image_layout p.image → map_list (bare_process image_layout) (with_process pid given ps) ≡ map_list (bare_process image_layout) ps)
            → (b : Bool) → (x.pid == pid) ≡ b → cond b (Some x) (find (is_pid pid) ps) ≡ Some p
            → (bare_process image_layout (cond b (given x) x) ∷ map_list (bare_process image_layout) (with_process pid given ps)) ≡ (bare_process image_layout x ∷ map_list (bare_process image_layout) ps)
        by later true is e =
            let one : x ≡ p = some_is x p e in
            let number : x.pid ≡ pid = passed-test x.pid pid is in
            let own : layout_of memory.pages ≡ image_layout x.image = same ∙ ap (λ (q : Process ℕ Image). image_layout q.image) (sym one) in
            ap (λ (layout : Layout). with_image (λ (image : Layout). layout) (bare_process image_layout x) ∷ map_list (bare_process image_layout) (with_process pid given ps)) own
            ∙ ap (λ rest. bare_process image_layout x ∷ rest) (bare_above (suc x.pid) ps (omega arith) rise.2)
        by later false is e = ap (λ rest. bare_process image_layout x ∷ rest) (later e same)

  pub bare_computed : (pins : ℕ → ℕ) (next : ℕ) (s : State ℕ Image) (p : Process ℕ Image) → RiseFrom 2 next (map_list (λ p. p.pid) s.living) → process pid s ≡ Some p → layout_of memory.pages ≡ image_layout p.image
      → bare image_layout pins (computed pid regs memory s) ≡ bare image_layout pins s
  bare_computed pins next s p rise lives same = ap (λ living. record (bare image_layout pins s) { living = living }) (bare_given next 2 s.living p rise lives same)

  -- ---- where all places stand

  module _ (table : List Row) (s : State ℕ Image) (p : Process ℕ Image) (lives : process pid s ≡ Some p) where
    pub places_computed : PlacesStand table s → StaysLike p.image.memory.pages memory.pages → PlacesStand table (computed pid regs memory s)
    places_computed stand like = places_idle table pid given s (record { pid = λ p. refl; cwd = λ p. refl; exe = λ p. refl }) stand (lawful-image (λ m. m) table s stand.lawful pid p lives memory like (λ _. regs))

    pub tags_computed : (tags : TagTable) → AreTagged table s tags → AreTagged table (computed pid regs memory s) tags
    tags_computed tags tagged = tags_idle table pid given s tags (λ p. refl) (λ p own. record { cwd = own.cwd; exe = own.exe; fds = own.fds }) tagged
