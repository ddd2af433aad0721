-- How often inodes and open files are held.
use Rattle.std.specs.FinMap as map
use Rattle.std.proofs.Common.{◌≡◌, ◌≢◌, ℕ, zero, suc, ◌+◌, ◌-◌, ◌*◌, ◌≤◌, ◌<◌, ◌^◌, Bool, true, false, nat_eq, List, [], ◌∷◌, length, refl, sym, ap, ◌∙◌, arith, cond, Option, Some, None, IsSome}
use Rattle.std.specs.Prelude.{map as map_list, ◌==◌}
use Rattle.std.specs.List.{list_any}
use Rattle.std.specs.Option.{option_map, option_map_or, option_and_then}
use Rattle.std.proofs.lemmas.Bool.Decides.{nat_tests}
use Rattle.std.proofs.lemmas.Option.{none-some}
use Rattle.kr_model.proofs.pr_base.MapLemmas.{by_key, get-changed_same, get-changed_other, get-remove_same, get-remove_other}
use Rattle.kr_model.specs.kr_tree.Tree.{Tree, Inode, inode}
use Rattle.kr_model.specs.kr_tree.Changes.{with_inode, with_inodes, with_holds, held, released, dropped_if_unused, is_unused, is_unused_at, counted}
use Rattle.kr_model.specs.kr_tree.Holds.{holds_at}
use Rattle.kr_model.specs.kr_tree.declared.place.Place.{Place}
use Rattle.kr_model.specs.kr_files.declared.opened.Opened.{Opened}
use Rattle.kr_model.specs.kr_files.Descriptors.{Meanings, Named, named_below, named_count}
use Rattle.kr_model.specs.kr_files.Files.{Counted}
use Rattle.kr_model.proofs.kr_files.CountLemmas.{below_small}
use Rattle.kr_model.specs.kr_view.View.{Row}
use Rattle.kr_model.specs.Lawful.{ArePids}
use Rattle.kr_model.specs.State.{Process, State, inode_of, process, place_of, is_pid}
use Rattle.kr_model.specs.Uses.{at_inode, uses_of, file_uses, process_use, process_uses, names_of_file, AreUses}
use Rattle.law_lawful.specs.Holding.{one_at, HoldsAreChanged, PinsAreFew, AreHeld, HoldsFit, UsedIsHeld}
use Rattle.law_lawful.proofs.SumLemmas.{same-test, other-test, sum-cons, sum-bounded, sum-found, sum_numbers, numbers-none, numbers-plus, numbers-same, numbers-one, sum-least, sum-within}

-- ---- what a hold and a release do

abbrev holds_of : Option Inode → ℕ
holds_of o = option_map_or (λ x. x.holds) o 0

abbrev pub one-same : (i : ℕ) → one_at i i ≡ 1
one-same i = ap (λ b. cond b 1 0) (same-test i i refl)

abbrev pub one-other : (i q : ℕ) → q ≢ i → one_at i q ≡ 0
one-other i q d = ap (λ b. cond b 1 0) (other-test i q (λ e. d (sym e)))

pub holds-held : (i : ℕ) (t : Tree) → IsSome (inode t i) → (q : ℕ) → holds_at (held i t) q ≡ holds_at t q + one_at i q
holds-held i t there = by_key (λ q. holds_at (held i t) q ≡ holds_at t q + one_at i q) i
    (let is = ap holds_of (get-changed_same t.inodes i (with_holds (λ n. n + 1))) ∙ more (inode t i) there in let one = one-same i in omega arith)
    (λ q d. let is = ap holds_of (get-changed_other t.inodes i (with_holds (λ n. n + 1)) q d) in let none = one-other i q d in omega arith)
  where
    more : (o : Option Inode) → IsSome o → holds_of (option_map (with_holds (λ n. n + 1)) o) ≡ holds_of o + 1
    more None h = absurd cc
    more (Some x) h = refl

-- what is dropped had no hold
pub holds-dropped : (i : ℕ) (t : Tree) (q : ℕ) → holds_at (dropped_if_unused i t) q ≡ holds_at t q
holds-dropped i t = by_key (λ q. holds_at (dropped_if_unused i t) q ≡ holds_at t q) i (here (inode t i) refl) (λ q d. away q d (is_unused_at i t.inodes))
  where
    away : (q : ℕ) → q ≢ i → (b : Bool) → holds_of (map.get (cond b (map.remove t.inodes i) t.inodes) q) ≡ holds_at t q
    away q d true = ap holds_of (get-remove_other t.inodes i q d)
    away q d false = refl

    unused-holds : (x : Inode) → is_unused x ≡ true → 0 ≡ x.holds
    unused-holds x e = grind (arith, nat_tests)

    by_test : (x : Inode) (b : Bool) → is_unused x ≡ b → holds_of (inode t i) ≡ x.holds → holds_of (map.get (cond b (map.remove t.inodes i) t.inodes) i) ≡ x.holds
    by_test x true e is = ap holds_of (get-remove_same t.inodes i) ∙ unused-holds x e
    by_test x false e is = is

    here : (o : Option Inode) → inode t i ≡ o → holds_of (map.get (cond (is_unused_at i t.inodes) (map.remove t.inodes i) t.inodes) i) ≡ holds_at t i
    here None e = ap (λ b. holds_of (map.get (cond b (map.remove t.inodes i) t.inodes) i)) (ap (λ o. option_map_or is_unused o false) e)
    here (Some x) e =
        ap (λ b. holds_of (map.get (cond b (map.remove t.inodes i) t.inodes) i)) (ap (λ o. option_map_or is_unused o false) e)
        ∙ by_test x (is_unused x) refl (ap holds_of e) ∙ sym (ap holds_of e)

pub holds-released : (i : ℕ) (t : Tree) (q : ℕ) → holds_at (released i t) q ≡ holds_at t q - one_at i q
holds-released i t q =
    holds-dropped i (with_inodes (with_inode i (with_holds (λ n. n - 1)) t.inodes) t) q
    ∙ by_key (λ q. holds_at (with_inodes (with_inode i (with_holds (λ n. n - 1)) t.inodes) t) q ≡ holds_at t q - one_at i q) i
    (let is = ap holds_of (get-changed_same t.inodes i (with_holds (λ n. n - 1))) ∙ fewer (inode t i) in let one = one-same i in omega arith)
    (λ q d. let is = ap holds_of (get-changed_other t.inodes i (with_holds (λ n. n - 1)) q d) in let none = one-other i q d in omega arith) q
  where
    fewer : (o : Option Inode) → holds_of (option_map (with_holds (λ n. n - 1)) o) ≡ holds_of o - 1
    fewer None = omega arith
    fewer (Some x) = refl

pub holds_are_changed : HoldsAreChanged
holds_are_changed t = record { held = λ i there q. holds-held i t there q; released = λ i q. holds-released i t q }

-- ---- bounds

pub pins-few : PinsAreFew
pins-few table i = by (list_any (λ (r : Row). nat_eq r.source i) table)
  where
    by : (b : Bool) → counted b ≤ 1
    by true = omega arith
    by false = omega arith

-- how often a file is named by one of the descriptors
abbrev named_here : Meanings → ℕ → ℕ → ℕ
named_here d k n = option_map_or (λ (x : Named). cond (x.number == n) 1 0) (map.get d k) 0

here-once : (d : Meanings) (k last : ℕ) → sum_numbers (named_here d k) last ≤ 1
here-once d k last = by (map.get d k)
  where
    by : (o : Option Named) → sum_numbers (λ n. option_map_or (λ (x : Named). cond (x.number == n) 1 0) o 0) last ≤ 1
    by None = let none = numbers-none (λ n. 0) last (λ q l. refl) in omega arith
    by (Some x) = numbers-one x.number last

-- a descriptor names one file: so all files together are named as often as there are descriptors
descriptors-once : (d : Meanings) (last k : ℕ) → sum_numbers (λ n. named_below d n k) last ≤ k
unfolding named_below
descriptors-once d last zero = let none = numbers-none (λ n. 0) last (λ q l. refl) in omega arith
descriptors-once d last (suc k) =
    let rest = descriptors-once d last k in
    let here = here-once d k last in
    let both = numbers-plus (λ n. named_below d n k) (named_here d k) last in
    omega arith

module _ {M : Type 0} where
  at-most : (i n : ℕ) (o : Option (Place M)) → at_inode i n o ≤ n
  at-most i n None = omega arith
  at-most i n (Some p) = by (inode_of p.host == i)
    where
      by : (b : Bool) → cond b n 0 ≤ n
      by true = omega arith
      by false = omega arith

module _ {M X : Type 0} where
  names-cons : (n : ℕ) (p : Process M X) (ps : List (Process M X)) → names_of_file n (p ∷ ps) ≡ named_count p.descs n + names_of_file n ps
  names-cons n p ps = sum-cons (named_count p.descs n) (map_list (λ (q : Process M X). named_count q.descs n) ps)

  all-names : (last : ℕ) (ps : List (Process M X)) → sum_numbers (λ n. names_of_file n ps) last ≤ length ps * 1024
  all-names last [] = let none = numbers-none (λ n. 0) last (λ q l. refl) in omega arith
  all-names last (p ∷ ps) =
      let rest = all-names last ps in
      let own = descriptors-once p.descs last 1024 in
      let both = numbers-same (λ n. names_of_file n (p ∷ ps)) (λ n. named_count p.descs n + names_of_file n ps) last (λ n. names-cons n p ps) ∙ numbers-plus (λ n. named_count p.descs n) (λ n. names_of_file n ps) last in
      omega arith

  use-few : (i : ℕ) (p : Process M X) → process_use i p ≤ 2
  use-few i p = by (inode_of p.cwd.host == i) (inode_of p.exe.host == i)
    where
      by : (a b : Bool) → cond a 1 0 + cond b 1 0 ≤ 2
      by true true = omega arith
      by true false = omega arith
      by false true = omega arith
      by false false = omega arith

  module _ (pins : ℕ → ℕ) (s : State M X) (uses : AreUses pins s) where
    file-within : (i n : ℕ) → option_map_or (uses_of i) (map.get s.files.files n) 0 ≤ names_of_file n s.living
    file-within i n = by (map.get s.files.files n) refl
      where
        by : (o : Option (Counted M)) → map.get s.files.files n ≡ o → option_map_or (uses_of i) o 0 ≤ names_of_file n s.living
        by None e = omega arith
        by (Some h) e = let most = at-most i h.count h.opened.place in let counts = (uses.counts n h e).0 in omega arith

    -- ---- there is room

    holds-fit : ArePids s → ((i : ℕ) → pins i ≤ 1) → (i : ℕ) → holds_at s.tree i + 2048 < 2 ^ 32
    holds-fit pids few i =
        let files = sum-within (uses_of i) s.files.files (λ n. names_of_file n s.living) (suc s.files.last_file) (file-within i) in
        let names = all-names (suc s.files.last_file) s.living in
        let processes = sum-bounded (process_use i) 2 (use-few i) s.living in
        let one = few i in
        let all = uses.holds i in
        let living = pids.few in
        omega arith

    counts-fit : ArePids s → (n : ℕ) (h : Counted M) → map.get s.files.files n ≡ Some h → h.count + 2048 < 2 ^ 32
    counts-fit pids n h e =
        let count = (uses.counts n h e).0 in
        let names = sum-bounded (λ (p : Process M X). named_count p.descs n) 1024 (λ p. below_small p.descs n 1024) s.living in
        let living = pids.few in
        omega arith

    -- ---- what is used is held

    -- what an open file stands at is held by each descriptor
    named-held : (n : ℕ) (p : Place M) → place_of s.files n ≡ Some p → (names_of_file n s.living ≤ file_uses s.files (inode_of p.host)) × (1 ≤ names_of_file n s.living)
    named-held n p e = by (map.get s.files.files n) refl e
      where
        by : (o : Option (Counted M)) → map.get s.files.files n ≡ o → option_and_then (λ (o : Opened M). o.place) (option_map (λ (h : Counted M). h.opened) o) ≡ Some p
            → (names_of_file n s.living ≤ file_uses s.files (inode_of p.host)) × (1 ≤ names_of_file n s.living)
        by None is place = absurd (none-some p place)
        by (Some h) is place =
            let i : ℕ = inode_of p.host in
            let below = uses.numbered n h is in
            let counts = uses.counts n h is in
            let count = counts.0 in
            let some = counts.1 in
            let own : option_map_or (uses_of i) (map.get s.files.files n) 0 ≡ h.count =
            ap (λ o. option_map_or (uses_of i) o 0) is ∙ ap (λ (o : Option (Place M)). at_inode i h.count o) place ∙ ap (λ b. cond b h.count 0) (same-test i i refl) in
            let least = sum-least (uses_of i) s.files.files (suc s.files.last_file) n (omega arith) in
            (omega arith, omega arith)

    process-held : (pid i : ℕ) (p : Process M X) → process pid s ≡ Some p → process_use i p ≤ process_uses s.living i
    process-held pid i p e = sum-found (process_use i) (is_pid pid) s.living p e

    are-held : AreHeld pins s
    are-held = record {
      open_ = λ n p e. let own = named-held n p e in let names = own.0 in let some = own.1 in let all = uses.holds (inode_of p.host) in omega arith;
      named = λ n p e. let names = (named-held n p e).0 in let all = uses.holds (inode_of p.host) in omega arith;
      lives = λ pid i p e. let own = process-held pid i p e in let all = uses.holds i in omega arith;
      both = λ n pid place p at e.
          let names = (named-held n place at).0 in
          let own = process-held pid (inode_of place.host) p e in
          let all = uses.holds (inode_of place.host) in
          omega arith;
      pinned = λ i. let all = uses.holds i in omega arith;
    }

pub holds_fit : (M X : Type 0) → HoldsFit M X
holds_fit M X pins s uses pids few = record { holds = holds-fit pins s uses pids few; counts = counts-fit pins s uses pids }

pub used_is_held : (M X : Type 0) → UsedIsHeld M X
used_is_held M X pins s uses = are-held pins s uses
