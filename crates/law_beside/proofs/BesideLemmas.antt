-- States that are equal but for what some processes compute on: by themselves, and behind changes.
use Rattle.std.proofs.Common.{◌≡◌, inl, inr, ℕ, Bool, true, ◌||◌, List, [], ◌∷◌, refl, sym, ap, subst, ◌∙◌}
use Rattle.std.specs.Prelude.{◌⊎◌, ◌==◌}
use Rattle.std.proofs.lemmas.Bool.{or_cases, or_left, or_right}
use Rattle.kr_core.specs.kr_model.Applied.{Mounts, all_applied, images, layouts}
use Rattle.kr_core.specs.kr_model.Change.{Change, ChangePages, Fork, ReplaceImage}
use Rattle.kr_core.specs.kr_model.Lawful.{ArePids}
use Rattle.kr_core.specs.kr_model.State.{Image, Layout, State, image_layout}
use Rattle.kr_core.specs.kr_stops.Stopped.{image_in}
use Rattle.kr_core.proofs.kr_model.LayoutLemmas.{layout-changed, layout-told}
use Rattle.kr_core.proofs.law_lawful.SumLemmas.{passed-test, same-test}
use Rattle.law_beside.specs.Beside.{AreBeside, imaged_in, laid}
use Rattle.law_beside.specs.Changes.{BearNext, BearsNext, BesideIsAnEquality, ChangesAreLaid, ChangesComeBeside}
use Rattle.law_beside.proofs.ImagedLemmas.{Agree, Agrees, changes-imaged}
use Rattle.law_beside.proofs.ShownLemmas.{chosen, chosen-own, chosen-shown, image-kept, lives-laid, next-alike, pids-laid}

-- ---- by themselves

module _ {M : Type 0} where
  pub beside-itself : (among : ℕ → Bool) (s : State M Image) → AreBeside among s s
  beside-itself among s = record { same = refl; images = λ pid is. refl }

  pub beside-turned : (among : ℕ → Bool) (s t : State M Image) → AreBeside among s t → AreBeside among t s
  beside-turned among s t b = record { same = sym b.same; images = λ pid is. sym (b.images pid is) }

  pub beside-joined : (among : ℕ → Bool) (s t u : State M Image) → AreBeside among s t → AreBeside among t u → AreBeside among s u
  beside-joined among s t u b c = record { same = b.same ∙ c.same; images = λ pid is. b.images pid is ∙ c.images pid is }

  pub beside-fewer : (among other : ℕ → Bool) (s t : State M Image) → ((pid : ℕ) → other pid ≡ true → among pid ≡ true) → AreBeside among s t → AreBeside other s t
  beside-fewer among other s t few b = record { same = b.same; images = λ pid is. b.images pid (few pid is) }

  pub beside-more : (among : ℕ → Bool) (pid : ℕ) (s t : State M Image) → image_in pid s ≡ image_in pid t → AreBeside among s t → AreBeside (λ q. among q || (q == pid)) s t
  beside-more among pid s t own b = record { same = b.same; images = λ q is. by q (or_cases (among q) (q == pid) is) }
    where
      by : (q : ℕ) → (among q ≡ true) ⊎ ((q == pid) ≡ true) → image_in q s ≡ image_in q t
      by q (inl is) = b.images q is
      by q (inr is) = subst (λ n. image_in n s ≡ image_in n t) (sym (passed-test q pid is)) own

pub beside_is_an_equality : (M : Type 0) → BesideIsAnEquality M
beside_is_an_equality M = record {
  itself = beside-itself;
  turned = beside-turned;
  joined = beside-joined;
  fewer = beside-fewer;
  one_more = beside-more;
  lives = lives-laid;
  pids = pids-laid;
}

-- ---- changes of layouts

abbrev layout_by : ℕ → Image → Layout
layout_by pid image = image_layout image

layout-agrees : (pid : ℕ) (c : Change) → Agrees layout_by images layouts pid c
layout-agrees pid (ChangePages c) = λ image. sym (layout-changed c image.memory.pages)
layout-agrees pid (Fork b) = λ image. sym (layout-told b.pid b.told_at image.memory.pages)
layout-agrees pid (ReplaceImage image brk) = refl
layout-agrees pid _ = tt

layouts-agree : (pid : ℕ) (cs : List Change) → Agree layout_by images layouts pid cs
layouts-agree pid [] = tt
layouts-agree pid (c ∷ cs) = (layout-agrees pid c, layouts-agree pid cs)

pub changes_are_laid : (M : Type 0) → ChangesAreLaid M
changes_are_laid M mounts pid cs s = sym (changes-imaged layout_by images layouts mounts pid cs s (layouts-agree pid cs))

-- ---- changes of what processes compute on

module _ (h : ℕ → Image → Image) (pid next : ℕ) (own : (x : Image) → h pid x ≡ x) (child : (x : Image) → h next x ≡ x) where
  image-agrees : (c : Change) → BearsNext next c → Agrees h images images pid c
  image-agrees (ChangePages c) bears = λ image. ap (images.paged c) (own image) ∙ sym (own (images.paged c image))
  image-agrees (Fork b) bears = λ image. ap (images.born b) (own image) ∙ sym (subst (λ n. h n (images.born b image) ≡ images.born b image) (sym bears) (child (images.born b image)))
  image-agrees (ReplaceImage image brk) bears = sym (own image)
  image-agrees _ bears = tt

  pub images-agree : (cs : List Change) → BearNext next cs → Agree h images images pid cs
  images-agree [] bear = tt
  images-agree (c ∷ cs) bear = (image-agrees c bear.0, images-agree cs bear.1)

module _ {M : Type 0} (mounts : Mounts M) (pid : ℕ) (cs : List Change) where
  pub same-laid : (s t : State M Image) → laid s ≡ laid t → laid (all_applied images mounts pid cs s) ≡ laid (all_applied images mounts pid cs t)
  same-laid s t same = changes_are_laid M mounts pid cs s ∙ ap (all_applied layouts mounts pid cs) same ∙ sym (changes_are_laid M mounts pid cs t)

  -- where all that the changes ask for is so of what the second state has in place of what the first one has
  pub agreed-beside : (among : ℕ → Bool) (s t : State M Image) → ArePids s → AreBeside among s t → Agree (chosen among t) images images pid cs
      → AreBeside among (all_applied images mounts pid cs s) (all_applied images mounts pid cs t)
  agreed-beside among s t pids beside agree =
      let h : ℕ → Image → Image = chosen among t in
      let along : imaged_in h (all_applied images mounts pid cs s) ≡ all_applied images mounts pid cs t = sym (changes-imaged h images images mounts pid cs s agree)
      ∙ ap (all_applied images mounts pid cs) (chosen-shown among s t pids beside) in
      record {
        same = same-laid s t beside.same;
        images = λ q is. sym (image-kept h q (chosen-own among t q is) (all_applied images mounts pid cs s)) ∙ ap (image_in q) along;
      }

pub changes_come_beside : (M : Type 0) → ChangesComeBeside M
changes_come_beside M among mounts pid cs s t pids bear is beside =
    let more : ℕ → Bool = λ q. among q || (q == s.next_pid) in
    agreed-beside mounts pid cs more s t pids (beside-more among s.next_pid s t (next-alike s t pids beside.same) beside)
    (images-agree (chosen more t) pid s.next_pid (chosen-own more t pid (or_left (among pid) (pid == s.next_pid) is)) (chosen-own more t s.next_pid (or_right (among s.next_pid) (s.next_pid == s.next_pid) (same-test s.next_pid s.next_pid refl)))
    cs bear)
