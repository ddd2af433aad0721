-- Of changes one behind the other, at most one of which can alter the shape, that one tells whether they alter it.
use Rattle.std.proofs.Common.{◌≡◌, ℕ, suc, Bool, true, false, not, ◌&&◌, ◌||◌, cond, List, [], ◌∷◌, refl, sym, ap, ◌∙◌}
use Rattle.std.specs.Prelude.{◌↔◌}
use Rattle.std.specs.List.{list_all}
use Rattle.law_lawful.specs.Laws.{CanAllBeMade}
use Rattle.law_lawful.proofs.ChangeLemmas.{every-change-keeps}
use Rattle.law_lawful.specs.kr_tree.Tree.{Tree}
use Rattle.law_lawful.specs.kr_view.View.{Row}
use Rattle.law_lawful.specs.kr_model.Applied.{Mounts, all_applied, applied, images}
use Rattle.law_lawful.specs.kr_model.Change.{Change}
use Rattle.law_lawful.specs.kr_model.Judged.{HasShape, alters_shape, leaves_shape}
use Rattle.law_lawful.specs.kr_model.Lawful.{IsLawful}
use Rattle.law_lawful.specs.kr_model.State.{Image, State}
use Rattle.law_lawful.proofs.kr_model.ShapeLemmas.{shape_stays}
use Rattle.law_steady.specs.Along.{ShapeIsToldAlong, passes_along, times_along}
use Rattle.law_steady.specs.Calls.{is_once}
use Rattle.law_steady.specs.Exact.{alters_shape_of}
use Rattle.law_steady.proofs.ExactLemmas.{less_is_told, same_shape, shape_is_told}

-- ---- shapes

pub shape_after : (t u v : Tree) → HasShape t u → HasShape u v → HasShape t v
shape_after t u v one two =
    record {
      names = λ text. two.names text ∙ one.names text;
      nodes = λ text i way. two.nodes text i (one.names text ∙ way) ∙ one.nodes text i way;
    }

shape_back : (t u : Tree) → HasShape t u → HasShape u t
shape_back t u shape = record { names = λ text. sym (shape.names text); nodes = λ text i way. sym (shape.nodes text i (sym (shape.names text) ∙ way)) }

pub both_true : (a b : Bool) → (a && b) ≡ true → (a ≡ true) × (b ≡ true)
both_true true b h = (refl, h)
both_true false b h = absurd cc

pub not_true : (b : Bool) → not b ≡ true → b ≡ false
not_true true h = absurd cc
not_true false h = refl

-- ---- of lists

module _ {M : Type 0} (test : Tree → Change → Bool) (can : Change → Bool) (less : (t : Tree) (c : Change) → can c ≡ false → test t c ≡ false) (mounts : Mounts M) (pid : ℕ) where
  -- where none can, none passes
  pub quiet : (cs : List Change) (s : State M Image) → list_all (λ c. not (can c)) cs ≡ true → passes_along test mounts pid s cs ≡ false
  quiet [] s none = refl
  quiet (c ∷ cs) s none =
      let parts = both_true (not (can c)) (list_all (λ c. not (can c)) cs) none in
      ap (λ b. b || passes_along test mounts pid (applied images mounts pid c s) cs) (less s.tree c (not_true (can c) parts.0))
      ∙ quiet cs (applied images mounts pid c s) parts.1

  uncounted : (cs : List Change) (s : State M Image) → list_all (λ c. not (can c)) cs ≡ true → times_along test mounts pid s cs ≡ 0
  uncounted [] s none = refl
  uncounted (c ∷ cs) s none =
      let parts = both_true (not (can c)) (list_all (λ c. not (can c)) cs) none in
      let n = times_along test mounts pid (applied images mounts pid c s) cs in
      ap (λ b. cond b (suc n) n) (less s.tree c (not_true (can c) parts.0)) ∙ uncounted cs (applied images mounts pid c s) parts.1

  without : (b : Bool) → (b || false) ≡ b
  without true = refl
  without false = refl

  -- the only one that can tells of all
  pub only_first : (c : Change) (cs : List Change) (s : State M Image) → list_all (λ c. not (can c)) cs ≡ true → passes_along test mounts pid s (c ∷ cs) ≡ test s.tree c
  only_first c cs s none = ap (λ b. test s.tree c || b) (quiet cs (applied images mounts pid c s) none) ∙ without (test s.tree c)

  pub only_later : (c : Change) (cs : List Change) (s : State M Image) → can c ≡ false → passes_along test mounts pid s (c ∷ cs) ≡ passes_along test mounts pid (applied images mounts pid c s) cs
  only_later c cs s none = ap (λ b. b || passes_along test mounts pid (applied images mounts pid c s) cs) (less s.tree c none)

  one : (b : Bool) (n : ℕ) → n ≡ 0 → cond b (suc n) n ≡ cond b 1 0
  one true n is = ap (λ n. suc n) is
  one false n is = is

  count_first : (c : Change) (cs : List Change) (s : State M Image) → list_all (λ c. not (can c)) cs ≡ true → times_along test mounts pid s (c ∷ cs) ≡ cond (passes_along test mounts pid s (c ∷ cs)) 1 0
  count_first c cs s none =
      let next = applied images mounts pid c s in
      one (test s.tree c) (times_along test mounts pid next cs) (uncounted cs next none) ∙ ap (λ b. cond b 1 0) (sym (only_first c cs s none))

  count_later : (c : Change) (cs : List Change) (s : State M Image) → can c ≡ false
      → times_along test mounts pid (applied images mounts pid c s) cs ≡ cond (passes_along test mounts pid (applied images mounts pid c s) cs) 1 0
      → times_along test mounts pid s (c ∷ cs) ≡ cond (passes_along test mounts pid s (c ∷ cs)) 1 0
  count_later c cs s none rest =
      let n = times_along test mounts pid (applied images mounts pid c s) cs in
      ap (λ b. cond b (suc n) n) (less s.tree c none) ∙ rest ∙ ap (λ b. cond b 1 0) (sym (only_later c cs s none))

  -- so to count is to tell whether
  pub counted : (cs : List Change) (s : State M Image) → is_once can cs ≡ true → times_along test mounts pid s cs ≡ cond (passes_along test mounts pid s cs) 1 0
  counted [] s once = refl
  counted (c ∷ cs) s once = by (can c) refl once (counted cs (applied images mounts pid c s))
    where
      by : (b : Bool) → can c ≡ b → cond b (list_all (λ c. not (can c)) cs) (is_once can cs) ≡ true
          → (is_once can cs ≡ true → times_along test mounts pid (applied images mounts pid c s) cs ≡ cond (passes_along test mounts pid (applied images mounts pid c s) cs) 1 0)
          → times_along test mounts pid s (c ∷ cs) ≡ cond (passes_along test mounts pid s (c ∷ cs)) 1 0
      by true is none rest = count_first c cs s none
      by false is once rest = count_later c cs s is (rest once)

-- ---- of the shape

module _ {M : Type 0} (number : M → ℕ) (table : List Row) (mounts : Mounts M) (pid : ℕ) where
  abbrev after : List Change → State M Image → State M Image
  after cs s = all_applied images mounts pid cs s

  abbrev alter : State M Image → List Change → Bool
  alter s cs = passes_along alters_shape_of mounts pid s cs

  abbrev IsTold : State M Image → List Change → Type 0
  IsTold s cs = (alter s cs ≡ false) ↔ HasShape s.tree (after cs s).tree

  -- where no change can alter it
  leaving : (cs : List Change) (s : State M Image) → IsLawful number table s → CanAllBeMade number table mounts pid s cs → leaves_shape cs ≡ true → HasShape s.tree (after cs s).tree
  leaving [] s lawful made none = same_shape s.tree
  leaving (c ∷ cs) s lawful made none =
      let parts = both_true (not (alters_shape c)) (leaves_shape cs) none in
      let next = applied images mounts pid c s in
      let kept = every-change-keeps M number table mounts pid c s lawful made.0 made.1 in
      shape_after s.tree next.tree (after cs next).tree (shape_stays images mounts pid c s lawful.tree (not_true (alters_shape c) parts.0)) (leaving cs next kept made.2 parts.1)

  -- the one that can, then others
  first_told : (c : Change) (cs : List Change) (s : State M Image) → IsLawful number table s → CanAllBeMade number table mounts pid s (c ∷ cs) → leaves_shape cs ≡ true → IsTold s (c ∷ cs)
  first_told c cs s lawful made none =
      let next = applied images mounts pid c s in
      let kept = every-change-keeps M number table mounts pid c s lawful made.0 made.1 in
      let rest = leaving cs next kept made.2 none in
      let exact = shape_is_told M number table mounts pid c s lawful.tree made.1 in
      let only = only_first alters_shape_of alters_shape less_is_told mounts pid c cs s none in (
        λ is. shape_after s.tree next.tree (after cs next).tree (exact.0 (sym only ∙ is)) rest,
        λ shape. only ∙ exact.1 (shape_after s.tree (after cs next).tree next.tree shape (shape_back next.tree (after cs next).tree rest)),
      )

  -- one that can't, then those of which it is told
  later_told : (c : Change) (cs : List Change) (s : State M Image) → IsLawful number table s → alters_shape c ≡ false → IsTold (applied images mounts pid c s) cs → IsTold s (c ∷ cs)
  later_told c cs s lawful none rest =
      let next = applied images mounts pid c s in
      let first = shape_stays images mounts pid c s lawful.tree none in
      let only = only_later alters_shape_of alters_shape less_is_told mounts pid c cs s none in (
        λ is. shape_after s.tree next.tree (after cs next).tree first (rest.0 (sym only ∙ is)),
        λ shape. only ∙ rest.1 (shape_after next.tree s.tree (after cs next).tree (shape_back s.tree next.tree first) shape),
      )

  told_along : (cs : List Change) (s : State M Image) → IsLawful number table s → CanAllBeMade number table mounts pid s cs → is_once alters_shape cs ≡ true → IsTold s cs
  told_along [] s lawful made once = (λ is. same_shape s.tree, λ shape. refl)
  told_along (c ∷ cs) s lawful made once =
      by (alters_shape c) refl once (told_along cs (applied images mounts pid c s) (every-change-keeps M number table mounts pid c s lawful made.0 made.1) made.2)
    where
      by : (b : Bool) → alters_shape c ≡ b → cond b (leaves_shape cs) (is_once alters_shape cs) ≡ true → (is_once alters_shape cs ≡ true → IsTold (applied images mounts pid c s) cs) → IsTold s (c ∷ cs)
      by true is once rest = first_told c cs s lawful made once
      by false is once rest = later_told c cs s lawful is (rest once)

pub shape_is_told_along : (M : Type 0) → ShapeIsToldAlong M
shape_is_told_along M number table mounts pid s cs lawful made once =
    record { told = told_along number table mounts pid cs s lawful made once; times = counted alters_shape_of alters_shape less_is_told mounts pid cs s once }
