-- Two states that match, and the process of a number in both: what becomes of the match where both are given other images.
use Rattle.std.proofs.Common.{◌≡◌, ℕ, Bool, true, false, cond, List, [], ◌∷◌, Option, Some, None, refl, sym, ap, subst, ◌∙◌}
use Rattle.std.specs.Prelude.{map as map_list, ◌==◌}
use Rattle.std.specs.Option.{option_map}
use Rattle.std.proofs.lemmas.Bool.{eqb-true}
use Rattle.pt_results.specs.rv_mem.Actions.{AreEqualUnmarked}
use Rattle.pt_results.specs.rv_mem.Layout.{layout_of}
use Rattle.pt_results.specs.rv_mem.Memory.{Memory}
use Rattle.pt_results.specs.rv_mem.declared.regs.Regs.{Regs}
use Rattle.pt_results.specs.pt_bind.Tags.{TagTable}
use Rattle.law_places.specs.kr_view.View.{Row, plain}
use Rattle.law_places.specs.kr_model.Applied.{with_living}
use Rattle.law_places.specs.kr_model.Bare.{bare_process, pins_of}
use Rattle.law_places.specs.kr_model.Lawful.{RiseFrom}
use Rattle.law_places.specs.kr_model.State.{Image, Process, State, at_pid, image_layout, process, with_process}
use Rattle.kr_core.proofs.law_allowed.RowLemmas.{StaysLike}
use Rattle.kr_core.proofs.law_lawful.ProcessChangeLemmas.{found}
use Rattle.kr_core.specs.kr_steps.Computing.{computed}
use Rattle.law_places.specs.Matching.{AreImagesAlike, IsMatch}
use Rattle.law_places.proofs.FollowLemmas.{from_process, told_at}
use Rattle.law_places.proofs.TagLemmas.{found_is}
use Rattle.law_turns.proofs.ImageLemmas.{bare_computed, given, places_computed, tags_computed}

abbrev pub pids_in : List (Process ℕ Image) → List ℕ
pids_in ps = map_list (λ p. p.pid) ps

bare_pids : (ps : List (Process ℕ Image)) → map_list (λ p. p.pid) (map_list (bare_process image_layout) ps) ≡ pids_in ps
bare_pids [] = refl
bare_pids (p ∷ ps) = ap (λ rest. p.pid ∷ rest) (bare_pids ps)

module _ (table : List Row) (tags : TagTable) (s w : State ℕ Image) (m : IsMatch table tags s w) where
  pub same_pids : pids_in s.living ≡ pids_in w.living
  same_pids = sym (bare_pids s.living) ∙ ap (λ b. map_list (λ p. p.pid) b.living) m.bares ∙ bare_pids w.living

  -- ---- the process of a number is changed in both

  abbrev pub AreLeftAlike : ℕ → (Process ℕ Image → Process ℕ Image) → (Process ℕ Image → Process ℕ Image) → Type 0
  AreLeftAlike pid f g = (x y : Process ℕ Image) → process pid s ≡ Some x → process pid w ≡ Some y → ((f x).image.regs ≡ (g y).image.regs) × AreEqualUnmarked (f x).image.memory.pages (g y).image.memory.pages

  module _ (pid : ℕ) (f g : Process ℕ Image → Process ℕ Image) (f_stays : (p : Process ℕ Image) → (f p).pid ≡ p.pid) (g_stays : (p : Process ℕ Image) → (g p).pid ≡ p.pid) (left : AreLeftAlike pid f g) where
    after : (k : ℕ) → (b : Bool) → (k == pid) ≡ b → (x y : Option (Process ℕ Image)) → process k s ≡ x → process k w ≡ y → option_map (λ p. p.image.regs) x ≡ option_map (λ p. p.image.regs) y
        → option_map (λ p. p.image.regs) (option_map (at_pid pid f) x) ≡ option_map (λ p. p.image.regs) (option_map (at_pid pid g) y)
    after k b is None None at_x at_y e = refl
    after k b is None (Some y) at_x at_y e = absurd (never e)
      where
        never : {A : Type 0} {a : A} → None ≡ Some a → ⊥
        never e = cc
    after k b is (Some x) None at_x at_y e = absurd (never e)
      where
        never : {A : Type 0} {a : A} → Some a ≡ None → ⊥
        never e = cc
    after k true is (Some x) (Some y) at_x at_y e =
        let k_is : k ≡ pid = eqb-true k pid is in
        let at_pid_x : (x.pid == pid) ≡ true = ap (λ n. n == pid) (found_is k s.living x at_x) ∙ is in
        let at_pid_y : (y.pid == pid) ≡ true = ap (λ n. n == pid) (found_is k w.living y at_y) ∙ is in
        ap (λ t. Some (cond t (f x) x).image.regs) at_pid_x
        ∙ ap Some (left x y (subst (λ n. process n s ≡ Some x) k_is at_x) (subst (λ n. process n w ≡ Some y) k_is at_y)).0
        ∙ sym (ap (λ t. Some (cond t (g y) y).image.regs) at_pid_y)
    after k false is (Some x) (Some y) at_x at_y e =
        let at_pid_x : (x.pid == pid) ≡ false = ap (λ n. n == pid) (found_is k s.living x at_x) ∙ is in
        let at_pid_y : (y.pid == pid) ≡ false = ap (λ n. n == pid) (found_is k w.living y at_y) ∙ is in
        ap (λ t. Some (cond t (f x) x).image.regs) at_pid_x ∙ e ∙ sym (ap (λ t. Some (cond t (g y) y).image.regs) at_pid_y)

    memories : (k : ℕ) (b : Bool) → (k == pid) ≡ b → (x y : Process ℕ Image) → process k s ≡ Some x → process k w ≡ Some y → AreEqualUnmarked (at_pid pid f x).image.memory.pages (at_pid pid g y).image.memory.pages
    memories k true is x y at_x at_y =
        let k_is : k ≡ pid = eqb-true k pid is in
        let at_pid_x : (x.pid == pid) ≡ true = ap (λ n. n == pid) (found_is k s.living x at_x) ∙ is in
        let at_pid_y : (y.pid == pid) ≡ true = ap (λ n. n == pid) (found_is k w.living y at_y) ∙ is in
        subst (λ t. AreEqualUnmarked (cond t (f x) x).image.memory.pages (at_pid pid g y).image.memory.pages) (sym at_pid_x)
        (subst (λ t. AreEqualUnmarked (f x).image.memory.pages (cond t (g y) y).image.memory.pages) (sym at_pid_y) (left x y (subst (λ n. process n s ≡ Some x) k_is at_x) (subst (λ n. process n w ≡ Some y) k_is at_y)).1)
    memories k false is x y at_x at_y =
        let at_pid_x : (x.pid == pid) ≡ false = ap (λ n. n == pid) (found_is k s.living x at_x) ∙ is in
        let at_pid_y : (y.pid == pid) ≡ false = ap (λ n. n == pid) (found_is k w.living y at_y) ∙ is in
        subst (λ t. AreEqualUnmarked (cond t (f x) x).image.memory.pages (at_pid pid g y).image.memory.pages) (sym at_pid_x)
        (subst (λ t. AreEqualUnmarked x.image.memory.pages (cond t (g y) y).image.memory.pages) (sym at_pid_y) (m.images.memories k x y at_x at_y))

    pub images : AreImagesAlike (with_living (with_process pid f) s) (with_living (with_process pid g) w)
    images = record {
      registers = λ k.
          ap (option_map (λ p. p.image.regs)) (found pid f f_stays k s.living)
          ∙ after k (k == pid) refl (process k s) (process k w) refl refl (m.images.registers k)
          ∙ sym (ap (option_map (λ p. p.image.regs)) (found pid g g_stays k w.living));
      memories = λ k x y at_x at_y.
          let a = from_process (at_pid pid f) (told_at (λ p. p.pid) pid f f_stays) k s.living x at_x in
          let b = from_process (at_pid pid g) (told_at (λ p. p.pid) pid g g_stays) k w.living y at_y in
          subst (λ (z : Process ℕ Image). AreEqualUnmarked z.image.memory.pages y.image.memory.pages) a.2
          (subst (λ (z : Process ℕ Image). AreEqualUnmarked (at_pid pid f a.0).image.memory.pages z.image.memory.pages) b.2 (memories k (k == pid) refl a.0 b.0 a.1 b.1));
    }

  -- ---- other registers and another memory

  module _ (pid : ℕ) (p q : Process ℕ Image) (lives : process pid s ≡ Some p) (also : process pid w ≡ Some q) (regs : Regs) (one other : Memory) (alike : AreEqualUnmarked one.pages other.pages) where
    pub match_computed : StaysLike p.image.memory.pages one.pages → layout_of other.pages ≡ layout_of q.image.memory.pages → IsMatch table tags (computed pid regs one s) (computed pid regs other w)
    match_computed like same = record {
      bares =
          bare_computed pid regs one (pins_of table) s.next_pid s p m.placed.lawful.pids.living lives like.layout
          ∙ m.bares
          ∙ sym (bare_computed pid regs other (pins_of plain) s.next_pid w q (subst (RiseFrom 2 s.next_pid) same_pids m.placed.lawful.pids.living) also same);
      images = images pid (given pid regs one) (given pid regs other) (λ p. refl) (λ p. refl) (λ x y at_x at_y. (refl, alike));
      tagged = tags_computed pid regs one table s p lives tags m.tagged;
      placed = places_computed pid regs one table s p lives m.placed like;
    }
