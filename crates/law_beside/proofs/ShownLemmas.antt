-- A state is its layouts with what each process computes on put in by its number; and so is one that is equal to it but for what some compute on.
use Rattle.std.proofs.Common.{◌≡◌, ◌≤◌, ◌+◌, ℕ, suc, Bool, true, false, List, [], ◌∷◌, length, cond, Option, Some, None, refl, sym, ap, subst, ◌∙◌, arith}
use Rattle.std.specs.Prelude.{map as map_list, is_some, IsSome}
use Rattle.std.specs.List.{AllByRecursion, find}
use Rattle.std.specs.Option.{option_map, option_map_or}
use Rattle.std.proofs.lemmas.List.{length-map}
use Rattle.kr_core.specs.kr_model.Applied.{with_living}
use Rattle.kr_core.specs.kr_model.Lawful.{ArePids, RiseFrom}
use Rattle.kr_core.specs.kr_model.ProcessRows.{most_processes}
use Rattle.kr_core.specs.kr_model.State.{Image, Layout, Process, State, image_layout, is_pid, process}
use Rattle.kr_core.specs.kr_stops.Stopped.{image_in, no_image}
use Rattle.kr_core.proofs.law_lawful.ProcessChangeLemmas.{found-above}
use Rattle.kr_core.proofs.law_lawful.SumLemmas.{other-test, same-test}
use Rattle.law_beside.specs.Beside.{AreBeside, imaged, imaged_by, imaged_in, laid, laid_process}
use Rattle.law_beside.proofs.ImagedLemmas.{own-number, process-imaged}

-- ---- numbers

module _ {M X Y : Type 0} (h : ℕ → X → Y) where
  numbers-imaged : (ps : List (Process M X)) → map_list (λ p. p.pid) (map_list (imaged_by h) ps) ≡ map_list (λ p. p.pid) ps
  numbers-imaged [] = refl
  numbers-imaged (p ∷ ps) = ap (λ (ns : List ℕ). p.pid ∷ ns) (numbers-imaged ps)

  some-imaged : (o : Option (Process M X)) → is_some (option_map (imaged_by h) o) ≡ is_some o
  some-imaged None = refl
  some-imaged (Some p) = refl

  lives-imaged : (pid : ℕ) (s : State M X) → is_some (process pid (imaged_in h s)) ≡ is_some (process pid s)
  lives-imaged pid s = ap is_some (process-imaged h pid s) ∙ some-imaged (process pid s)

  pub pids-imaged : (s : State M X) → ArePids s → ArePids (imaged_in h s)
  pids-imaged s pids = record {
    living = subst (λ ns. RiseFrom 2 s.next_pid ns) (sym (numbers-imaged s.living)) pids.living;
    ended = pids.ended;
    apart = λ pid lives. pids.apart pid (sym (lives-imaged pid s) ∙ lives);
    few = subst (λ n. n + length s.ended ≤ most_processes) (sym (length-map s.living (imaged_by h))) pids.few;
  }

  pub pids-own : (s : State M X) → ArePids (imaged_in h s) → ArePids s
  pids-own s pids = record {
    living = subst (λ ns. RiseFrom 2 s.next_pid ns) (numbers-imaged s.living) pids.living;
    ended = pids.ended;
    apart = λ pid lives. pids.apart pid (lives-imaged pid s ∙ lives);
    few = subst (λ n. n + length s.ended ≤ most_processes) (length-map s.living (imaged_by h)) pids.few;
  }

-- ---- each process is found by its own number

pub all-given : {A : Type 0} (P Q : A → Type 0) → ((x : A) → P x → Q x) → (xs : List A) → AllByRecursion P xs → AllByRecursion Q xs
all-given P Q gives [] all = tt
all-given P Q gives (x ∷ xs) all = (gives x all.0, all-given P Q gives xs all.1)

module _ {M X : Type 0} (next : ℕ) (all : List (Process M X)) where
  -- in a list that ends as these do, from a number on
  members-from : (low : ℕ) (ps : List (Process M X)) → RiseFrom low next (map_list (λ p. p.pid) ps) → ((n : ℕ) → low ≤ n → find (is_pid n) all ≡ find (is_pid n) ps) → AllByRecursion (λ p. find (is_pid p.pid) all ≡ Some p) ps
  members-from low [] rise same = tt
  members-from low (x ∷ ps) rise same =
      let first = rise.0 in (
        same x.pid first ∙ ap (λ (b : Bool). cond b (Some x) (find (is_pid x.pid) ps)) (same-test x.pid x.pid refl),
        members-from (suc x.pid) ps rise.2 (λ n above. same n (omega (arith, above, first)) ∙ behind n above),
      )
    where
      behind : (n : ℕ) → suc x.pid ≤ n → find (is_pid n) (x ∷ ps) ≡ find (is_pid n) ps
      behind n above = ap (λ (b : Bool). cond b (Some x) (find (is_pid n) ps)) (other-test x.pid n (λ e. absurd (omega (arith, e, above))))

pub all-members : {M X : Type 0} (s : State M X) → ArePids s → AllByRecursion (λ p. process p.pid s ≡ Some p) s.living
all-members s pids = members-from s.next_pid s.living 2 s.living pids.living (λ n above. refl)

abbrev layout_by : ℕ → Image → Layout
layout_by pid image = image_layout image

module _ {M : Type 0} where
  -- ---- the same processes in both

  pub found-laid : (q : ℕ) (s t : State M Image) → laid s ≡ laid t → option_map laid_process (process q s) ≡ option_map laid_process (process q t)
  found-laid q s t same = sym (process-imaged layout_by q s) ∙ ap (process q) same ∙ process-imaged layout_by q t

  pub some-laid : (q : ℕ) (s t : State M Image) → laid s ≡ laid t → is_some (process q s) ≡ is_some (process q t)
  some-laid q s t same = sym (lives-imaged layout_by q s) ∙ ap (λ (l : State M Layout). is_some (process q l)) same ∙ lives-imaged layout_by q t

  pub lives-laid : (q : ℕ) (s t : State M Image) → laid s ≡ laid t → IsSome (process q s) → IsSome (process q t)
  lives-laid q s t same lives = sym (some-laid q s t same) ∙ lives

  pub pids-laid : (s t : State M Image) → laid s ≡ laid t → ArePids s → ArePids t
  pids-laid s t same pids = pids-own layout_by t (subst (λ (l : State M Layout). ArePids l) same (pids-imaged layout_by s pids))

  -- who computes on the same does in both, or lives in none
  pub images-found : (q : ℕ) (s t : State M Image) → laid s ≡ laid t → image_in q s ≡ image_in q t → option_map (λ p. p.image) (process q s) ≡ option_map (λ p. p.image) (process q t)
  images-found q s t same images = by (process q s) (process q t) (found-laid q s t same) images
    where
      by : (o p : Option (Process M Image)) → option_map laid_process o ≡ option_map laid_process p → option_map_or (λ p. p.image) o no_image ≡ option_map_or (λ p. p.image) p no_image
          → option_map (λ p. p.image) o ≡ option_map (λ p. p.image) p
      by None None laid images = refl
      by None (Some p) laid images = absurd cc
      by (Some o) None laid images = absurd cc
      by (Some o) (Some p) laid images = ap Some images

  told-of : {A : Type 0} (tell : Image → A) (other : A) (o : Option (Process M Image)) → option_map_or (λ p. tell p.image) o other ≡ option_map_or tell (option_map (λ p. p.image) o) other
  told-of tell other None = refl
  told-of tell other (Some p) = refl

  -- so all that is told of it is the same
  pub told-both : {A : Type 0} (tell : Image → A) (other : A) (q : ℕ) (s t : State M Image) → laid s ≡ laid t → image_in q s ≡ image_in q t
      → option_map_or (λ p. tell p.image) (process q s) other ≡ option_map_or (λ p. tell p.image) (process q t) other
  told-both tell other q s t same images =
      told-of tell other (process q s) ∙ ap (λ (o : Option Image). option_map_or tell o other) (images-found q s t same images) ∙ sym (told-of tell other (process q t))

  -- ---- what processes compute on, put in by their numbers

  abbrev shown : (ℕ → Image) → State M Layout → State M Image
  shown f l = imaged_in (λ n x. f n) l

  own-shown : (f : ℕ → Image) (ps : List (Process M Image)) → AllByRecursion (λ p. f p.pid ≡ p.image) ps → map_list (imaged_by (λ n x. f n)) (map_list laid_process ps) ≡ ps
  own-shown f [] own = refl
  own-shown f (p ∷ ps) own =
      ap (λ (image : Image). imaged (λ (l : Layout). image) (laid_process p) ∷ map_list (imaged_by (λ n l. f n)) (map_list laid_process ps)) own.0
      ∙ ap (λ (qs : List (Process M Image)). p ∷ qs) (own-shown f ps own.1)

  state-shown : (s : State M Image) → ArePids s → shown (λ n. image_in n s) (laid s) ≡ s
  state-shown s pids =
      ap (λ (ps : List (Process M Image)). with_living (λ _. ps) s)
      (own-shown (λ n. image_in n s) s.living
      (all-given (λ (p : Process M Image). process p.pid s ≡ Some p) (λ (p : Process M Image). image_in p.pid s ≡ p.image)
      (λ p at. ap (λ (o : Option (Process M Image)). option_map_or (λ (p : Process M Image). p.image) o no_image) at) s.living (all-members s pids)))

  list-shown : (h : ℕ → Image → Image) (f g : ℕ → Image) → ((n : ℕ) → h n (f n) ≡ g n) → (ps : List (Process M Layout)) → map_list (imaged_by h) (map_list (imaged_by (λ n x. f n)) ps) ≡ map_list (imaged_by (λ n x. g n)) ps
  list-shown h f g same [] = refl
  list-shown h f g same (p ∷ ps) =
      ap (λ (image : Image). imaged (λ (l : Layout). image) p ∷ map_list (imaged_by h) (map_list (imaged_by (λ n l. f n)) ps)) (same p.pid)
      ∙ ap (λ (qs : List (Process M Image)). imaged (λ (l : Layout). g p.pid) p ∷ qs) (list-shown h f g same ps)

  both-shown : (h : ℕ → Image → Image) (f g : ℕ → Image) → ((n : ℕ) → h n (f n) ≡ g n) → (l : State M Layout) → imaged_in h (shown f l) ≡ shown g l
  both-shown h f g same l = ap (λ (ps : List (Process M Image)). with_living (λ _. ps) (shown g l)) (list-shown h f g same l.living)

  -- ---- what the second of two states has in place of what the first one has

  abbrev pub chosen : (ℕ → Bool) → State M Image → ℕ → Image → Image
  chosen among t n x = cond (among n) x (image_in n t)

  pub chosen-own : (among : ℕ → Bool) (t : State M Image) (n : ℕ) → among n ≡ true → (x : Image) → chosen among t n x ≡ x
  chosen-own among t n is x = ap (λ (b : Bool). cond b x (image_in n t)) is

  pub chosen-shown : (among : ℕ → Bool) (s t : State M Image) → ArePids s → AreBeside among s t → imaged_in (chosen among t) s ≡ t
  chosen-shown among s t pids beside =
      ap (imaged_in (chosen among t)) (sym (state-shown s pids))
      ∙ both-shown (chosen among t) (λ n. image_in n s) (λ n. image_in n t) (λ n. by n (among n) refl) (laid s)
      ∙ ap (shown (λ n. image_in n t)) beside.same
      ∙ state-shown t (pids-laid s t beside.same pids)
    where
      by : (n : ℕ) (b : Bool) → among n ≡ b → cond b (image_in n s) (image_in n t) ≡ image_in n t
      by n true is = beside.images n is
      by n false is = refl

  -- where it is the same, so it is behind it
  pub image-kept : (h : ℕ → Image → Image) (q : ℕ) → ((x : Image) → h q x ≡ x) → (s : State M Image) → image_in q (imaged_in h s) ≡ image_in q s
  image-kept h q own s = ap (λ (o : Option (Process M Image)). option_map_or (λ (p : Process M Image). p.image) o no_image) (process-imaged h q s) ∙ by (process q s) refl
    where
      by : (o : Option (Process M Image)) → process q s ≡ o → option_map_or (λ p. p.image) (option_map (imaged_by h) o) no_image ≡ option_map_or (λ p. p.image) o no_image
      by None at = refl
      by (Some p) at = subst (λ n. h n p.image ≡ p.image) (sym (own-number q s p at)) (own p.image)

  -- ---- the next number

  next-nobody : (s : State M Image) → ArePids s → process s.next_pid s ≡ None
  next-nobody s pids = by (process s.next_pid s) refl
    where
      by : (o : Option (Process M Image)) → process s.next_pid s ≡ o → o ≡ None
      by None at = refl
      by (Some p) at = absurd (let last = (found-above s.next_pid 2 s.next_pid s.living p pids.living at).1 in omega arith)

  -- nobody has it yet, in neither of two
  pub next-alike : (s t : State M Image) → ArePids s → laid s ≡ laid t → image_in s.next_pid s ≡ image_in s.next_pid t
  next-alike s t pids same =
      let next : s.next_pid ≡ t.next_pid = ap (λ (l : State M Layout). l.next_pid) same in
      let none : process s.next_pid t ≡ None = ap (λ n. process n t) next ∙ next-nobody t (pids-laid s t same pids) in
      ap (λ (o : Option (Process M Image)). option_map_or (λ (p : Process M Image). p.image) o no_image) (next-nobody s pids ∙ sym none)
