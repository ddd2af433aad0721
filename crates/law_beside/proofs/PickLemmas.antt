-- Which processes go on in two states that are equal but for what processes compute on.
use Rattle.std.proofs.Common.{◌≡◌, ℕ, zero, suc, Bool, true, false, cond, ◌&&◌, not, List, [], ◌∷◌, length, Option, Some, None, refl, sym, ap, subst, ◌∙◌}
use Rattle.std.specs.Prelude.{◌%◌, map as map_list, slice_get}
use Rattle.std.specs.List.{AllByRecursion, filter}
use Rattle.std.specs.Option.{option_map, option_map_or}
use Rattle.std.proofs.lemmas.List.{length-map}
use Rattle.std.proofs.lemmas.Option.{same_Some, slice_get-map}
use Rattle.kr_core.specs.kr_view.View.{plain}
use Rattle.kr_core.specs.rv_mem.declared.regs.Regs.{Regs}
use Rattle.kr_core.specs.kr_model.Known.{Known, known}
use Rattle.kr_core.specs.kr_model.Lawful.{ArePids}
use Rattle.kr_core.specs.kr_model.State.{Image, Layout, Process, State, image_layout, process}
use Rattle.kr_core.specs.kr_steps.Waiting.{goes_on, picked_process, ready_processes, still_waits}
use Rattle.kr_core.specs.kr_stops.Stopped.{no_image}
use Rattle.kr_core.specs.kr_turns.Run.{Deadlock, Ending, Over, ending_of, if_any}
use Rattle.kr_core.specs.kr_turns.Turn.{Machine}
use Rattle.kr_core.proofs.kr_model.BareLemmas.{kept-mapped}
use Rattle.law_kept.proofs.ListLemmas.{all-passed}
use Rattle.law_beside.specs.Beside.{laid, laid_process}
use Rattle.law_beside.specs.Picks.{GoAlike, PicksAreBeside}
use Rattle.law_beside.proofs.ShownLemmas.{all-given, all-members, found-laid, pids-laid}
use Rattle.law_beside.proofs.ToldLemmas.{known-alike}

abbrev Lives : Type 0
Lives = Process ℕ Image

-- ---- lists

filter-same : {A : Type 0} (f g : A → Bool) (xs : List A) → AllByRecursion (λ x. f x ≡ g x) xs → filter f xs ≡ filter g xs
filter-same f g [] same = refl
filter-same f g (x ∷ xs) same =
    ap (λ (b : Bool). cond b (x ∷ filter f xs) (filter f xs)) same.0 ∙ ap (λ (ys : List _). cond (g x) (x ∷ ys) ys) (filter-same f g xs same.1)

all-got : {A : Type 0} (P : A → Type 0) (xs : List A) (k : ℕ) (x : A) → AllByRecursion P xs → slice_get xs k ≡ Some x → P x
all-got P [] k x all e = absurd cc
all-got P (y ∷ xs) zero x all e = subst P (same_Some y x e) all.0
all-got P (y ∷ xs) (suc k) x all e = all-got P xs k x all.1 e

any-mapped : {A B C : Type 0} (f : A → B) (xs : List A) (none some : C) → if_any (map_list f xs) none some ≡ if_any xs none some
any-mapped f [] none some = refl
any-mapped f (x ∷ xs) none some = refl

-- ---- who has to wait still, by its number

abbrev waits_by : Known → ℕ → Bool → Regs → Bool
waits_by k n waits regs = waits && still_waits k n regs

abbrev rests : ℕ → State ℕ Image → Bool
rests n s = option_map_or (λ p. waits_by (known image_layout n s) n p.waits p.image.regs) (process n s) false

rests-alike : (s t : State ℕ Image) → GoAlike s t → (n : ℕ) → rests n s ≡ rests n t
rests-alike s t g n =
    by (process n s) refl (process n t) refl (found-laid n s t g.same)
    ∙ ap (λ (k : Known). option_map_or (λ (p : Lives). waits_by k n p.waits p.image.regs) (process n t) false) (known-alike plain n s t g.same)
  where
    k : Known
    k = known image_layout n s

    regs_of : Option Lives → Regs
    regs_of o = (option_map_or (λ p. p.image) o no_image).regs

    both : (p q : Lives) → process n s ≡ Some p → process n t ≡ Some q → p.waits ≡ true → p.image.regs ≡ q.image.regs
    both p q here there is = sym (ap regs_of here) ∙ g.waiters n p here is ∙ ap regs_of there

    one : (p q : Lives) (b : Bool) → (b ≡ true → p.image.regs ≡ q.image.regs) → waits_by k n b p.image.regs ≡ waits_by k n b q.image.regs
    one p q true same = ap (λ (regs : Regs). still_waits k n regs) (same refl)
    one p q false same = refl

    by : (o : Option Lives) → process n s ≡ o → (u : Option Lives) → process n t ≡ u → option_map laid_process o ≡ option_map laid_process u
        → option_map_or (λ p. waits_by k n p.waits p.image.regs) o false ≡ option_map_or (λ p. waits_by k n p.waits p.image.regs) u false
    by None here None there same = refl
    by None here (Some q) there same = absurd cc
    by (Some p) here None there same = absurd cc
    by (Some p) here (Some q) there same =
        let waits : p.waits ≡ q.waits = ap (λ (l : Process ℕ Layout). l.waits) (same_Some (laid_process p) (laid_process q) same) in
        one p q p.waits (both p q here there) ∙ ap (λ (b : Bool). waits_by k n b q.image.regs) waits

-- ---- who is ready

goes-on : (s : State ℕ Image) (p : Lives) → process p.pid s ≡ Some p → goes_on s p ≡ not (rests p.pid s)
goes-on s p at = ap (λ (o : Option Lives). not (option_map_or (λ (q : Lives). waits_by (known image_layout p.pid s) p.pid q.waits q.image.regs) o false)) (sym at)

ready-laid : (s : State ℕ Image) → ArePids s → map_list laid_process (ready_processes s) ≡ filter (λ l. not (rests l.pid s)) (laid s).living
ready-laid s pids =
    ap (map_list laid_process)
    (filter-same (goes_on s) (λ (p : Lives). not (rests p.pid s)) s.living
    (all-given (λ (p : Lives). process p.pid s ≡ Some p) (λ (p : Lives). goes_on s p ≡ not (rests p.pid s)) (goes-on s) s.living (all-members s pids)))
    ∙ sym (kept-mapped laid_process (λ (p : Lives). not (rests p.pid s)) (λ (l : Process ℕ Layout). not (rests l.pid s)) (λ p. refl) s.living)

ready-beside : (s t : State ℕ Image) → GoAlike s t → map_list laid_process (ready_processes s) ≡ map_list laid_process (ready_processes t)
ready-beside s t g =
    ready-laid s g.pids ∙ (λ i. filter (λ (l : Process ℕ Layout). not (rests-alike s t g l.pid i)) (g.same i).living) ∙ sym (ready-laid t (pids-laid s t g.same g.pids))

-- ---- who is picked

taken-laid : (pick : ℕ) (ps : List Lives) → option_map laid_process (slice_get ps (pick % length ps)) ≡ slice_get (map_list laid_process ps) (pick % length (map_list laid_process ps))
taken-laid pick ps =
    ap (λ n. option_map laid_process (slice_get ps (pick % n))) (sym (length-map ps laid_process)) ∙ sym (slice_get-map laid_process ps (pick % length (map_list laid_process ps)))

picked-beside : (s t : State ℕ Image) → GoAlike s t → (pick : ℕ) → option_map laid_process (picked_process s pick) ≡ option_map laid_process (picked_process t pick)
picked-beside s t g pick =
    taken-laid pick (ready_processes s) ∙ ap (λ (ls : List (Process ℕ Layout)). slice_get ls (pick % length ls)) (ready-beside s t g) ∙ sym (taken-laid pick (ready_processes t))

-- of one that is there in the first there is one in the second
there-beside : (o u : Option Lives) → option_map laid_process o ≡ option_map laid_process u → (p : Lives) → o ≡ Some p → (q : Lives) × (u ≡ Some q) × (laid_process p ≡ laid_process q)
there-beside o u same p at = by u (sym (ap (option_map laid_process) at) ∙ same)
  where
    by : (u : Option Lives) → Some (laid_process p) ≡ option_map laid_process u → (q : Lives) × (u ≡ Some q) × (laid_process p ≡ laid_process q)
    by None same = absurd cc
    by (Some q) same = (q, refl, same_Some (laid_process p) (laid_process q) same)

none-beside : (o u : Option Lives) → option_map laid_process o ≡ option_map laid_process u → o ≡ None → u ≡ None
none-beside o u same at = by u (sym (ap (option_map laid_process) at) ∙ same)
  where
    by : (u : Option Lives) → None ≡ option_map laid_process u → u ≡ None
    by None same = refl
    by (Some q) same = absurd cc

picked-lives : (s : State ℕ Image) → ArePids s → (pick : ℕ) (p : Lives) → picked_process s pick ≡ Some p → process p.pid s ≡ Some p
picked-lives s pids pick p at =
    all-got (λ (p : Lives). process p.pid s ≡ Some p) (ready_processes s) (pick % length (ready_processes s)) p
    (all-passed (λ (p : Lives). process p.pid s ≡ Some p) (goes_on s) s.living (all-members s pids)) at

ending-beside : {S : Type 0} (m n : Machine S) → GoAlike m.state n.state → ending_of m ≡ ending_of n
ending-beside m n g =
    ends m.state
    ∙ (λ i. if_any (g.same i).living (Some Over) (if_any (ready-beside m.state n.state g i) (Some Deadlock) None))
    ∙ sym (ends n.state)
  where
    ends : (s : State ℕ Image) → if_any s.living (Some Over) (if_any (ready_processes s) (Some Deadlock) None) ≡ if_any (laid s).living (Some Over) (if_any (map_list laid_process (ready_processes s)) (Some Deadlock) None)
    ends s =
        sym (any-mapped laid_process s.living (Some Over) (if_any (ready_processes s) (Some Deadlock) None))
        ∙ ap (λ (e : Option Ending). if_any (laid s).living (Some Over) e) (sym (any-mapped laid_process (ready_processes s) (Some Deadlock) None))

pub picks_are_beside : (S : Type 0) → PicksAreBeside S
picks_are_beside S = record {
  ready = ready-beside;
  picked = picked-beside;
  one = λ s t g pick p at. there-beside (picked_process s pick) (picked_process t pick) (picked-beside s t g pick) p at;
  other = λ s t g pick q at.
      let found = there-beside (picked_process t pick) (picked_process s pick) (sym (picked-beside s t g pick)) q at in
      (found.0, found.1, sym found.2);
  none = λ s t g pick at. none-beside (picked_process s pick) (picked_process t pick) (picked-beside s t g pick) at;
  lives = picked-lives;
  ending = ending-beside;
}
