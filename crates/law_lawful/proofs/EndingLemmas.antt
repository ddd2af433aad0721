-- The end of a process keeps a lawful state.
use Rattle.std.specs.FinMap as map
use Rattle.std.proofs.Common.{◌≡◌, ◌≢◌, ℕ, zero, suc, ◌+◌, ◌≤◌, ◌<◌, Bool, true, false, not, ◌||◌, nat_lt, List, [], ◌∷◌, length, refl, sym, ap, subst, ◌∙◌, cond, arith, Option, Some, None, IsSome}
use Rattle.std.specs.Prelude.{map as map_list, ◌==◌, sum}
use Rattle.std.specs.List.{find, filter, list_any}
use Rattle.std.specs.Option.{option_map, option_map_or, option_and_then}
use Rattle.std.proofs.lemmas.Bool.Decides.{nat_tests}
use Rattle.std.proofs.lemmas.Bool.{or_parts}
use Rattle.kr_model.proofs.pr_base.MapLemmas.{by_key, get-remove_same, get-remove_other}
use Rattle.kr_model.specs.kr_tree.Tree.{Tree}
use Rattle.kr_model.proofs.kr_tree.NameLemmas.{some_is}
use Rattle.kr_model.specs.kr_view.View.{Row}
use Rattle.kr_model.specs.kr_files.Descriptors.{Named, named_count}
use Rattle.kr_model.specs.Applied.{released_at, close_named, close, close_below, orphaned, with_parent, stays, put_in, ended_with, gone, end}
use Rattle.kr_model.specs.Lawful.{IsLawful, IsProcessIn, RiseFrom}
use Rattle.kr_model.specs.State.{Image, image_layout, Process, State, Ended, process, named, is_pid, with_descs}
use Rattle.kr_model.specs.Uses.{process_use}
use Rattle.kr_model.proofs.BareLemmas.{found-mapped}
use Rattle.law_lawful.proofs.SumLemmas.{passed-test, same-test, other-test, sum-cons}
use Rattle.law_lawful.proofs.TreeChangeLemmas.{Still, still-on, still-leaves}
use Rattle.law_lawful.proofs.ProcessChangeLemmas.{same-mapped, as-long, some-mapped, found-passes, found, below-none, found-above}
use Rattle.law_lawful.proofs.CountLemmas.{released-uses}
use Rattle.law_lawful.proofs.AfterLemmas.{some-of, NamesFiles, parts-of, lawful-after}
use Rattle.law_lawful.proofs.OwnChangeLemmas.{rise-filtered, none-filtered, filtered-few}
use Rattle.law_lawful.proofs.DescriptorChangeLemmas.{here-none, released-at-still, close-below-keeps}

-- ---- lists without one

module _ {M X : Type 0} (pid : ℕ) where
  abbrev others : Process M X → Bool
  others p = not (p.pid == pid)

  -- what is found among the others isn't that one, and was found before
  kept-other : (q : ℕ) (ps : List (Process M X)) (x : Process M X) → find (is_pid q) (filter others ps) ≡ Some x → (q ≢ pid) × (find (is_pid q) ps ≡ Some x)
  kept-other q [] x e = absurd cc
  kept-other q (y ∷ ps) x e = by (y.pid == pid) refl (y.pid == q) refl (kept-other q ps x) e
    where
      by : (b : Bool) → (y.pid == pid) ≡ b → (c : Bool) → (y.pid == q) ≡ c → (find (is_pid q) (filter others ps) ≡ Some x → (q ≢ pid) × (find (is_pid q) ps ≡ Some x))
          → find (is_pid q) (cond (not b) (y ∷ filter others ps) (filter others ps)) ≡ Some x → (q ≢ pid) × (cond c (Some y) (find (is_pid q) ps) ≡ Some x)
      by true gone true is later e = absurd (let rest = later e in rest.0 (sym (passed-test y.pid q is) ∙ passed-test y.pid pid gone))
      by true gone false is later e = later e
      by false stays true is later e =
          let here : cond (y.pid == q) (Some y) (find (is_pid q) (filter others ps)) ≡ Some x = e in
          let same : Some y ≡ Some x = sym (ap (λ b. cond b (Some y) (find (is_pid q) (filter others ps))) is) ∙ here in
          (λ eq. absurd (let no : false ≡ true = sym stays ∙ same-test y.pid pid (passed-test y.pid q is ∙ eq) in cc), same)
      by false stays false is later e =
          let here : cond (y.pid == q) (Some y) (find (is_pid q) (filter others ps)) ≡ Some x = e in
          later (sym (ap (λ b. cond b (Some y) (find (is_pid q) (filter others ps))) is) ∙ here)

  -- a sum without one that is found
  sum-untouched : (g : Process M X → ℕ) (low next : ℕ) (ps : List (Process M X)) → pid < low → RiseFrom low next (map_list (λ p. p.pid) ps) → sum (map_list g (filter others ps)) ≡ sum (map_list g ps)
  sum-untouched g low next [] l rise = refl
  sum-untouched g low next (y ∷ ps) l rise =
      let above = rise.0 in
      let rest = sum-untouched g (suc y.pid) next ps (omega arith) rise.2 in
      let kept = ap (λ b. sum (map_list g (cond (not b) (y ∷ filter others ps) (filter others ps)))) (other-test y.pid pid (λ e. absurd (omega arith))) in
      let first = sum-cons (g y) (map_list g (filter others ps)) in
      let before = sum-cons (g y) (map_list g ps) in
      omega arith

  sum-without : (g : Process M X → ℕ) (low next : ℕ) (ps : List (Process M X)) (p : Process M X) → RiseFrom low next (map_list (λ p. p.pid) ps) → find (is_pid pid) ps ≡ Some p
      → sum (map_list g (filter others ps)) + g p ≡ sum (map_list g ps)
  sum-without g low next [] p rise e = absurd cc
  sum-without g low next (y ∷ ps) p rise e = by (sum-without g (suc y.pid) next ps p rise.2) (y.pid == pid) refl e
    where
      by : (find (is_pid pid) ps ≡ Some p → sum (map_list g (filter others ps)) + g p ≡ sum (map_list g ps)) → (b : Bool) → (y.pid == pid) ≡ b → cond b (Some y) (find (is_pid pid) ps) ≡ Some p
          → sum (map_list g (cond (not b) (y ∷ filter others ps) (filter others ps))) + g p ≡ sum (map_list g (y ∷ ps))
      by later true is e =
          let same = ap g (some_is y p e) in
          let number = passed-test y.pid pid is in
          let rest = sum-untouched g (suc y.pid) next ps (omega arith) rise.2 in
          let before = sum-cons (g y) (map_list g ps) in
          omega arith
      by later false is e =
          let rest = later e in
          let first = sum-cons (g y) (map_list g (filter others ps)) in
          let before = sum-cons (g y) (map_list g ps) in
          omega arith

  fewer-others : (ps : List (Process M X)) (p : Process M X) → find (is_pid pid) ps ≡ Some p → length (filter others ps) + 1 ≤ length ps
  fewer-others [] p e = absurd cc
  fewer-others (y ∷ ps) p e = by (fewer-others ps p) (y.pid == pid) e
    where
      by : (find (is_pid pid) ps ≡ Some p → length (filter others ps) + 1 ≤ length ps) → (b : Bool) → cond b (Some y) (find (is_pid pid) ps) ≡ Some p → length (cond (not b) (y ∷ filter others ps) (filter others ps)) + 1 ≤ length (y ∷ ps)
      by later true e = let few = filtered-few others ps in omega arith
      by later false e = let rest = later e in omega arith

-- ---- the ended

rise-put : (e : Ended) (low next : ℕ) (es : List Ended) → low ≤ e.pid → e.pid < next → list_any (λ f. f.pid == e.pid) es ≡ false → RiseFrom low next (map_list (λ f. f.pid) es) → RiseFrom low next (map_list (λ f. f.pid) (put_in e es))
rise-put e low next [] above below none rise = (above, below, tt)
rise-put e low next (f ∷ es) above below none rise =
    let both = or_parts (f.pid == e.pid) (list_any (λ f. f.pid == e.pid) es) none in
    by both.0 (nat_lt e.pid f.pid) refl (rise-put e (suc f.pid) next es) both.1
  where
    by : (f.pid == e.pid) ≡ false → (b : Bool) → nat_lt e.pid f.pid ≡ b
        → (suc f.pid ≤ e.pid → e.pid < next → list_any (λ f. f.pid == e.pid) es ≡ false → RiseFrom (suc f.pid) next (map_list (λ f. f.pid) es) → RiseFrom (suc f.pid) next (map_list (λ f. f.pid) (put_in e es)))
        → list_any (λ f. f.pid == e.pid) es ≡ false → RiseFrom low next (map_list (λ f. f.pid) (cond b (e ∷ f ∷ es) (f ∷ put_in e es)))
    by apart true less later none = let first : e.pid < f.pid = grind (arith, nat_tests) in (above, below, (omega arith, rise.1, rise.2))
    by apart false more later none = let first : f.pid < e.pid = grind (arith, nat_tests) in (rise.0, rise.1, later (omega arith) below none rise.2)

none-put : (q : ℕ) (e : Ended) (es : List Ended) → (e.pid == q) ≡ false → list_any (λ f. f.pid == q) es ≡ false → list_any (λ f. f.pid == q) (put_in e es) ≡ false
none-put q e [] apart none = ap (λ b. b || false) apart
none-put q e (f ∷ es) apart none =
    let both = or_parts (f.pid == q) (list_any (λ f. f.pid == q) es) none in
    let rest = none-put q e es apart both.1 in
    elim (nat_lt e.pid f.pid) as (λ b. list_any (λ f. f.pid == q) (cond b (e ∷ f ∷ es) (f ∷ put_in e es)) ≡ false) [
      | true ↦ ap (λ b. b || list_any (λ f. f.pid == q) (f ∷ es)) apart ∙ none
      | false ↦ ap (λ b. b || list_any (λ f. f.pid == q) (put_in e es)) both.0 ∙ rest
    ]

long-put : (e : Ended) (es : List Ended) → length (put_in e es) ≡ length es + 1
long-put e [] = refl
long-put e (f ∷ es) =
    let rest = long-put e es in
    elim (nat_lt e.pid f.pid) as (λ b. length (cond b (e ∷ f ∷ es) (f ∷ put_in e es)) ≡ length (f ∷ es) + 1) [
      | true ↦ omega arith
      | false ↦ omega arith
    ]

-- what the ended are after one more
record AreEnded (pid next : ℕ) (before after : List Ended) : Type 0 where
  pub rise : RiseFrom 2 next (map_list (λ e. e.pid) after)
  pub none : (q : ℕ) → q ≢ pid → list_any (λ e. e.pid == q) before ≡ false → list_any (λ e. e.pid == q) after ≡ false
  pub few : length after ≤ length before + 1

ended-after : (pid parent status next : ℕ) (es : List Ended) → 2 ≤ pid → pid < next → RiseFrom 2 next (map_list (λ e. e.pid) es) → list_any (λ e. e.pid == pid) es ≡ false → AreEnded pid next es (ended_with pid parent status es)
ended-after pid parent status next es above below rise none = by (parent == 1)
  where
    left : RiseFrom 2 next (map_list (λ e. e.pid) (filter (stays pid) es))
    left = rise-filtered (λ (e : Ended). e.pid) (stays pid) 2 next es rise

    by : (b : Bool) → AreEnded pid next es (cond b (filter (stays pid) es) (put_in (record { pid = pid; parent = parent; status = status }) (filter (stays pid) es)))
    by true = record {
      rise = left;
      none = λ q d before. none-filtered (λ (e : Ended). e.pid == q) (stays pid) es before;
      few = let few = filtered-few (stays pid) es in omega arith;
    }
    by false = record {
      rise = rise-put (record { pid = pid; parent = parent; status = status }) 2 next (filter (stays pid) es) above below (none-filtered (λ (e : Ended). e.pid == pid) (stays pid) es none) left;
      none = λ q d before. none-put q (record { pid = pid; parent = parent; status = status }) (filter (stays pid) es) (other-test pid q (λ e. d (sym e))) (none-filtered (λ (e : Ended). e.pid == q) (stays pid) es before);
      few = let few = filtered-few (stays pid) es in let long = long-put (record { pid = pid; parent = parent; status = status }) (filter (stays pid) es) in omega arith;
    }

-- ---- no descriptor is left

module _ {M X : Type 0} (pid : ℕ) where
  -- a descriptor that was closed isn't there, and no other comes
  closed-none : (fd q : ℕ) (s : State M X) → (q ≢ fd → named pid q s ≡ None) → named pid q (close pid fd s) ≡ None
  unfolding close
  closed-none fd q s none = by (named pid fd s) refl
    where
      left : (p : Process M X) → process pid s ≡ Some p → map.get (map.remove p.descs fd) q ≡ None
      left p e = by_key (λ q. (q ≢ fd → named pid q s ≡ None) → map.get (map.remove p.descs fd) q ≡ None) fd
          (λ _. get-remove_same p.descs fd)
          (λ q d none. get-remove_other p.descs fd q d ∙ sym (ap (option_and_then (λ (p : Process M X). map.get p.descs q)) e) ∙ none d)
          q none

      chosen : (p : Process M X) → process pid s ≡ Some p → (b : Bool) → (p.pid == pid) ≡ b → map.get (cond b (with_descs (λ d. map.remove d fd) p) p).descs q ≡ None
      chosen p e true is = left p e
      chosen p e false is = absurd (let no : false ≡ true = sym is ∙ found-passes (is_pid pid) s.living p e in cc)

      process-by : (o : Option (Process M X)) → process pid s ≡ o → option_and_then (λ (p : Process M X). map.get p.descs q) (option_map (λ (p : Process M X). cond (p.pid == pid) (with_descs (λ d. map.remove d fd) p) p) o) ≡ None
      process-by None e = refl
      process-by (Some p) e = chosen p e (p.pid == pid) refl

      by : (o : Option Named) → named pid fd s ≡ o → named pid q (option_map_or (λ x. close_named pid fd x s) o s) ≡ None
      by None e = by_key (λ q. (q ≢ fd → named pid q s ≡ None) → named pid q s ≡ None) fd (λ _. e) (λ q d none. none d) q none
      by (Some x) e =
          ap (option_and_then (λ (p : Process M X). map.get p.descs q)) (found pid (with_descs (λ d. map.remove d fd)) (λ p. refl) pid s.living)
          ∙ process-by (process pid s) refl

  below-closed : (count q : ℕ) (s : State M X) → q < count → named pid q (close_below pid count s) ≡ None
  unfolding close_below
  below-closed zero q s l = absurd (let no : q < 0 = l in omega arith)
  below-closed (suc fd) q s l = closed-none fd q (close_below pid fd s) (λ d. below-closed fd q s (below-other q fd l d))
    where
      below-other : (q fd : ℕ) → q < suc fd → q ≢ fd → q < fd
      below-other q fd l d = grind (arith, nat_tests)

module _ {M : Type 0} (number : M → ℕ) (table : List Row) where
  orphan-fits : (t : Tree) (pid : ℕ) (p : Process M Image) → IsProcessIn number t table p → IsProcessIn number t table (orphaned pid p)
  orphan-fits t pid p is = by (p.parent == pid)
    where
      by : (b : Bool) → IsProcessIn number t table (cond b (with_parent 1 p) p)
      by true = record { cwd = is.cwd; exe = is.exe; exe_name = is.exe_name; breaks = is.breaks; whole = is.whole; paged = is.paged; pages = is.pages }
      by false = is

  module _ (s : State M Image) (l : IsLawful number table s) (pid status : ℕ) (p : Process M Image) (e : process pid s ≡ Some p) (none : (fd : ℕ) → fd < 1024 → map.get p.descs fd ≡ None) where
    abbrev left : List (Process M Image)
    left = filter (others pid) s.living

    abbrev orphans : List (Process M Image)
    orphans = map_list (orphaned pid) left

    part : {A : Type 0} (of : Process M Image → A) (q : Process M Image) → of (with_parent 1 q) ≡ of q → (b : Bool) → of (cond b (with_parent 1 q) q) ≡ of q
    part of q same true = same
    part of q same false = refl

    found-orphan : (q : ℕ) → find (is_pid q) orphans ≡ option_map (orphaned pid) (find (is_pid q) left)
    found-orphan q = found-mapped (orphaned pid) (is_pid q) (is_pid q) (λ x. ap (λ n. n == q) (part (λ (y : Process M Image). y.pid) x refl (x.parent == pid))) left

    each-left : (P : Process M Image → Type 0) → ((x : Process M Image) → P x → P (orphaned pid x)) → ((q : ℕ) (x : Process M Image) → find (is_pid q) s.living ≡ Some x → P x) → (q : ℕ) (x : Process M Image) → find (is_pid q) orphans ≡ Some x → P x
    each-left P own all q x at = by (find (is_pid q) left) refl (sym (found-orphan q) ∙ at)
      where
        by : (o : Option (Process M Image)) → find (is_pid q) left ≡ o → option_map (orphaned pid) o ≡ Some x → P x
        by None is at = absurd cc
        by (Some y) is at = subst P (some_is (orphaned pid y) x at) (own y (all q y (kept-other pid q s.living y is).1))

    names-orphan : (x : Process M Image) → NamesFiles s.files.files x → NamesFiles s.files.files (orphaned pid x)
    names-orphan x own = record { each = subst (λ d. (fd : ℕ) (y : Named) → map.get d fd ≡ Some y → (fd < 1024) × IsSome (map.get s.files.files y.number)) (sym (part (λ (y : Process M Image). y.descs) x refl (x.parent == pid))) own.each }

    sums-left : (g : Process M Image → ℕ) → ((x : Process M Image) → g (with_parent 1 x) ≡ g x) → sum (map_list g orphans) + g p ≡ sum (map_list g s.living)
    sums-left g same =
        let mapped = ap sum (same-mapped g (orphaned pid) (λ x. part g x (same x) (x.parent == pid)) left) in
        let without = sum-without pid g 2 s.next_pid s.living p l.pids.living e in
        omega arith

    named-none : (n : ℕ) → named_count p.descs n ≡ 0
    named-none n = below-none p.descs n 1024 (λ fd small. here-none p.descs fd n (none fd small))

    ended : AreEnded pid s.next_pid s.ended (ended_with pid p.parent status s.ended)
    ended =
        let bounds = found-above s.next_pid 2 pid s.living p l.pids.living e in
        ended-after pid p.parent status s.next_pid s.ended bounds.0 bounds.1 l.pids.ended (l.pids.apart pid (subst (λ o. IsSome o) (sym e) refl))

    apart-left : (q : ℕ) → IsSome (find (is_pid q) orphans) → list_any (λ (f : Ended). f.pid == q) (ended_with pid p.parent status s.ended) ≡ false
    apart-left q there =
        let x = some-of (find (is_pid q) left) (some-mapped (orphaned pid) (find (is_pid q) left) (subst (λ o. IsSome o) (found-orphan q) there)) in
        let kept = kept-other pid q s.living x.0 x.1 in
        ended.none q kept.0 (l.pids.apart q (subst (λ o. IsSome o) (sym kept.1) refl))

    pub gone-keeps : IsLawful number table (gone pid status p s)
    gone-keeps =
        let t : State M Image = gone pid status p s in
        let parts = parts-of number table s l in
        let first = released-at-still table s.tree l.tree (Some p.cwd) in
        let still : Still table s.tree t.tree = still-on first (released-at-still table (released_at (Some p.cwd) s.tree) first.kept (Some p.exe)) in
        lawful-after number table s l t (still-leaves table s.tree t.tree still)
        (record {
          processes = each-left (IsProcessIn number s.tree table) (orphan-fits s.tree pid) parts.processes;
          descriptors = each-left (NamesFiles s.files.files) names-orphan parts.descriptors;
          opens = parts.opens;
          pipes = parts.pipes;
        })
        (record {
          holds = λ i.
              let one = released-uses s.tree (Some p.cwd) i in
              let two = released-uses (released_at (Some p.cwd) s.tree) (Some p.exe) i in
              let sums = sums-left (process_use i) (λ x. refl) in
              let before = l.uses.holds i in
              omega arith;
          counts = λ n h at.
              let before = l.uses.counts n h at in
              let count = before.0 in
              let sums = sums-left (λ (x : Process M Image). named_count x.descs n) (λ x. refl) in
              let zero = named-none n in
              (omega arith, before.1);
          numbered = l.uses.numbered;
        })
        (let sums = sums-left (λ (x : Process M Image). map.len (image_layout x.image)) (λ x. refl) in let room = l.room in omega arith)
        (record {
          living = subst (λ ns. RiseFrom 2 s.next_pid ns) (sym (same-mapped (λ (x : Process M Image). x.pid) (orphaned pid) (λ x. part (λ (y : Process M Image). y.pid) x refl (x.parent == pid)) left)) (rise-filtered (λ (x : Process M Image). x.pid) (others pid) 2 s.next_pid s.living l.pids.living);
          ended = ended.rise;
          apart = apart-left;
          few = let long = as-long (orphaned pid) left in let fewer = fewer-others pid s.living p e in let few = l.pids.few in let more = ended.few in omega arith;
        })
        l.input

  pub end-keeps : (s : State M Image) → IsLawful number table s → (pid status : ℕ) → IsLawful number table (end pid status s)
  end-keeps s l pid status = by (close_below pid 1024 s) (close-below-keeps number table pid 1024 s l) (λ fd small. below-closed pid 1024 fd s small) (process pid (close_below pid 1024 s)) refl
    where
      by : (k : State M Image) → IsLawful number table k → ((fd : ℕ) → fd < 1024 → named pid fd k ≡ None) → (o : Option (Process M Image)) → process pid k ≡ o → IsLawful number table (option_map_or (λ p. gone pid status p k) o k)
      by k law none None e = law
      by k law none (Some p) e = gone-keeps k law pid status p e (λ fd small. sym (ap (option_and_then (λ (p : Process M Image). map.get p.descs fd)) e) ∙ none fd small)
