-- Maps of nodes, and whether two are the same.
use Rattle.std.specs.FinMap as map
use Rattle.std.proofs.Common.{◌≡◌, ℕ, Bool, true, false, ◌&&◌, T, List, [], ◌∷◌, refl, sym, ap, subst, ◌∙◌, cond, Some}
use Rattle.std.proofs.Common.{map as map_list}
use Rattle.std.specs.Prelude.{◌↔◌}
use Rattle.std.specs.Option.{option_map}
use Rattle.std.specs.Cmp.{nat_cmp_total}
use Rattle.std.specs.Ordering.{nat_cmp, eq_by_cmp, is_lt}
use Rattle.std.specs.declared.cmp.Ordering.TheVariants.{Less}
use Rattle.std.specs.List.{AllByRecursion}
use Rattle.std.specs.Map.{keys_of}
use Rattle.std.specs.List.Sorted.{IsStrictlySortedBy}
use Rattle.std.specs.FinMap.Entries.{below_all, same_entries}
use Rattle.std.proofs.lemmas.Map.Keys.{sorted_head, sorted_tail}
use Rattle.kr_tree.specs.Tree.{Inode, Node, with_values}
use Rattle.kr_tree.proofs.StoreLemmas.{inodes_of}

find-mapped : {X Y : Type 0} (f : X → Y) (q : ℕ) (es : List (ℕ × X)) → map.find nat_cmp q (map_list (λ e. (e.0, f e.1)) es) ≡ option_map f (map.find nat_cmp q es)
find-mapped f q [] = refl
find-mapped f q (e ∷ es) =
    elim (eq_by_cmp nat_cmp q e.0) as (λ b. cond b (Some (f e.1)) (map.find nat_cmp q (map_list (λ e. (e.0, f e.1)) es)) ≡ option_map f (cond b (Some e.1) (map.find nat_cmp q es))) [
      | true ↦ refl
      | false ↦ find-mapped f q es
    ]

-- what is found where each value was changed
pub get-with_values : {X Y : Type 0} (f : X → Y) (m : map.FinMap nat_cmp X) (q : ℕ) → map.get (with_values f m) q ≡ option_map f (map.get m q)
unfolding with_values
get-with_values f m q = map.get-from_entries nat_cmp_total (map_list (λ e. (e.0, f e.1)) (map.entries m)) q ∙ find-mapped f q (map.entries m) ∙ ap (option_map f) (sym (map.get-entries m q))

-- the nodes of a list of inodes, by their numbers
abbrev pub shown : List (ℕ × Inode) → List (ℕ × Node)
shown es = map_list (λ e. (e.0, e.1.node)) es

both : (a b : Bool) → T a → T b → T (a && b)
both true b p q = q
both false b p q = p

below_shown : (k : ℕ) (es : List (ℕ × Inode)) → AllByRecursion (λ y. nat_cmp k y ≡ Less) (keys_of es) → T (below_all nat_cmp k (shown es))
below_shown k [] h = tt
below_shown k (e ∷ es) h = both (is_lt (nat_cmp k e.0)) (below_all nat_cmp k (shown es)) (subst (λ r. T (is_lt r)) (sym h.0) tt) (below_shown k es h.1)

sorted_shown : (es : List (ℕ × Inode)) → IsStrictlySortedBy nat_cmp (keys_of es) → T (map.is_sorted nat_cmp (shown es))
sorted_shown [] h = tt
sorted_shown (e ∷ es) h =
    both (below_all nat_cmp e.0 (shown es)) (map.is_sorted nat_cmp (shown es)) (below_shown e.0 es (sorted_head nat_cmp e.0 (keys_of es) h)) (sorted_shown es (sorted_tail nat_cmp e.0 (keys_of es) h))

get-shown : (es : List (ℕ × Inode)) (q : ℕ) → map.get (with_values (λ x. x.node) (inodes_of es)) q ≡ map.find nat_cmp q (shown es)
get-shown es q = get-with_values (λ x. x.node) (inodes_of es) q ∙ ap (option_map (λ x. x.node)) (map.get-from_entries nat_cmp_total es q) ∙ sym (find-mapped (λ x. x.node) q es)

-- two maps have the same nodes where their lists do
pub same_nodes : (es fs : List (ℕ × Inode)) → IsStrictlySortedBy nat_cmp (keys_of es) → IsStrictlySortedBy nat_cmp (keys_of fs)
    → (shown es ≡ shown fs) ↔ (with_values (λ x. x.node) (inodes_of es) ≡ with_values (λ x. x.node) (inodes_of fs))
same_nodes es fs h k = (
  λ same. map.same_map nat_cmp_total map.nat_cmp-IsAntisymmetric _ _ (λ q. get-shown es q ∙ ap (map.find nat_cmp q) same ∙ sym (get-shown fs q)),
  λ same. same_entries nat_cmp nat_cmp_total map.nat_cmp-IsAntisymmetric (shown es) (shown fs) (sorted_shown es h) (sorted_shown fs k) (λ q. sym (get-shown es q) ∙ ap (λ m. map.get m q) same ∙ get-shown fs q),
)
