-- Names and holds of inodes after a hold more or less.
use Rattle.std.specs.FinMap as map
use Rattle.std.proofs.Common.{◌≡◌, subst, ℕ, ◌+◌, ◌-◌, ◌≤◌, Bool, true, false, sym, ap, refl, arith, cond, Option, Some, None}
use Rattle.std.specs.Option.{option_map, option_map_or}
use Rattle.kr_calls.proofs.pr_base.MapLemmas.{by_key, get-changed_same, get-changed_other, get-remove_same, get-remove_other}
use Rattle.kr_files.specs.kr_tree.Tree.{Tree, Inode}
use Rattle.kr_files.specs.kr_tree.Changes.{with_inode, with_inodes, with_holds, is_unused_at, dropped_if_unused, held, released}
use Rattle.kr_files.specs.kr_tree.Holds.{names_at, holds_at}
use Rattle.kr_files.proofs.kr_tree.InodesLemmas.{stays-names}

-- what is dropped had no name
pub names-dropped : (i : ℕ) (t : Tree) (q : ℕ) → names_at (dropped_if_unused i t) q ≤ names_at t q
names-dropped i t q = by_test (is_unused_at i t.inodes)
  where
    by_test : (b : Bool) → option_map_or (λ x. x.names) (map.get (cond b (map.remove t.inodes i) t.inodes) q) 0 ≤ option_map_or (λ x. x.names) (map.get t.inodes q) 0
    by_test false = omega arith
    by_test true = by_key (λ q. option_map_or (λ x. x.names) (map.get (map.remove t.inodes i) q) 0 ≤ option_map_or (λ x. x.names) (map.get t.inodes q) 0) i
        (let e : option_map_or (λ x. x.names) (map.get (map.remove t.inodes i) i) 0 ≡ 0 = ap (λ o. option_map_or (λ x. x.names) o 0) (get-remove_same t.inodes i) in omega arith)
        (λ q d. let e : option_map_or (λ x. x.names) (map.get (map.remove t.inodes i) q) 0 ≡ option_map_or (λ x. x.names) (map.get t.inodes q) 0 = ap (λ o. option_map_or (λ x. x.names) o 0) (get-remove_other t.inodes i q d) in omega arith) q

pub names-released : (i : ℕ) (t : Tree) (q : ℕ) → names_at (released i t) q ≤ names_at t q
names-released i t q =
    let one = names-dropped i (with_inodes (with_inode i (with_holds (λ n. n - 1)) t.inodes) t) q in
    let two = stays-names t.inodes i (with_holds (λ n. n - 1)) q (λ x. refl) in
    omega arith

pub holds-held : (i : ℕ) (t : Tree) (q : ℕ) → holds_at t q ≤ holds_at (held i t) q
holds-held i t q = by_key (λ q. holds_at t q ≤ holds_at (held i t) q) i
    (subst (λ o. holds_at t i ≤ option_map_or (λ x. x.holds) o 0) (sym (get-changed_same t.inodes i (with_holds (λ n. n + 1)))) (more (map.get t.inodes i)))
    (λ q d. subst (λ o. holds_at t q ≤ option_map_or (λ x. x.holds) o 0) (sym (get-changed_other t.inodes i (with_holds (λ n. n + 1)) q d)) (omega arith)) q
  where
    more : (o : Option Inode) → option_map_or (λ (x : Inode). x.holds) o 0 ≤ option_map_or (λ (x : Inode). x.holds) (option_map (with_holds (λ n. n + 1)) o) 0
    more None = omega arith
    more (Some x) = omega arith
