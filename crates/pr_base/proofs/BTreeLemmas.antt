-- The entries that a B-tree map stores, as a finite map.
use Rattle.std.specs.FinMap as map
use Rattle.std.proofs.Common.{◌≡◌, ℕ, ◌+◌, List, [], ◌∷◌, length, refl, sym, ap, subst, ◌∙◌, cond, Option, Some, None, is_some, add-one, MutBor}
use Rattle.std.specs.Ordering.{nat_cmp, eq_by_cmp, is_eq}
use Rattle.std.specs.declared.cmp.Ordering.TheVariants.{Less}
use Rattle.std.specs.List.{AllByRecursion}
use Rattle.std.specs.Option.{IsSome, option_copied_mut}
use Rattle.std.specs.Cmp.{nat_cmp_total}
use Rattle.std.specs.Map.{lookup, keys_of}
use Rattle.std.specs.List.Sorted.{IsStrictlySortedBy}
use Rattle.std.proofs.lemmas.Map.Keys.{sorted_head, sorted_tail}
use Rattle.std.specs.BTreeMap.{BTreeMap, is_at, get_by, Updates, UpdatesBy}
use Rattle.pr_base.proofs.MapLemmas.{same_values, by_key, ties-other, get-insert_same, get-insert_other, get-remove_same, get-remove_other}

module _ {X : Type 0} where
  found : (q : ℕ) (es : List (ℕ × X)) → map.find nat_cmp q es ≡ lookup (is_at (nat_cmp q)) es
  found q [] = refl
  found q (e ∷ es) = ap (cond (eq_by_cmp nat_cmp q e.0) (Some e.1)) (found q es)

  pub get-from_entries : (es : List (ℕ × X)) (q : ℕ) → map.get (map.from_entries {R = nat_cmp} es) q ≡ lookup (is_at (nat_cmp q)) es
  get-from_entries es q = map.get-from_entries nat_cmp_total es q ∙ found q es

  -- a look-up in the tree is one in the map
  pub get-view : (es : List (ℕ × X)) (m : map.FinMap nat_cmp X) (q : ℕ) → map.from_entries es ≡ m → lookup (is_at (nat_cmp q)) es ≡ map.get m q
  get-view es m q e = sym (get-from_entries es q) ∙ ap (λ r. map.get r q) e

  pub inserted : (m n : BTreeMap ℕ X) (old : map.FinMap nat_cmp X) (k : ℕ) (x : X) → map.from_entries m.entries ≡ old → Updates nat_cmp m n k (Some x) → map.from_entries n.entries ≡ map.insert old k x
  inserted m n old k x e u =
      same_values _ _ (by_key (λ q. map.get (map.from_entries {R = nat_cmp} n.entries) q ≡ map.get (map.insert old k x) q) k
      (get-from_entries n.entries k ∙ u.1 ∙ sym (get-insert_same old k x))
      (λ q h. get-from_entries n.entries q ∙ u.2 q (ties-other k q (λ w. h (sym w))) ∙ get-view m.entries old q e ∙ sym (get-insert_other old k x q h)))

  pub removed : (m n : BTreeMap ℕ X) (old : map.FinMap nat_cmp X) (k : ℕ) → map.from_entries m.entries ≡ old → Updates nat_cmp m n k None → map.from_entries n.entries ≡ map.remove old k
  removed m n old k e u =
      same_values _ _ (by_key (λ q. map.get (map.from_entries {R = nat_cmp} n.entries) q ≡ map.get (map.remove old k) q) k
      (get-from_entries n.entries k ∙ u.1 ∙ sym (get-remove_same old k))
      (λ q h. get-from_entries n.entries q ∙ u.2 q (ties-other k q (λ w. h (sym w))) ∙ get-view m.entries old q e ∙ sym (get-remove_other old k q h)))

  above : (x : ℕ) (es : List (ℕ × X)) → AllByRecursion (λ y. nat_cmp x y ≡ Less) (keys_of es) → lookup (is_at (nat_cmp x)) es ≡ None
  above x [] h = refl
  above x (e ∷ es) h = ap (λ r. cond (is_eq r) (Some e.1) (lookup (is_at (nat_cmp x)) es)) h.0 ∙ above x es h.1

  -- each entry is counted once
  pub len-from_entries : (es : List (ℕ × X)) → IsStrictlySortedBy nat_cmp (keys_of es) → map.len (map.from_entries {R = nat_cmp} es) ≡ length es
  len-from_entries [] h = map.len-empty nat_cmp X
  len-from_entries (e ∷ es) h =
      map.len-insert nat_cmp_total (map.from_entries es) e.0 e.1
      ∙ ap (λ o. cond (is_some o) (map.len (map.from_entries {R = nat_cmp} es)) (map.len (map.from_entries {R = nat_cmp} es) + 1)) (get-from_entries es e.0 ∙ above e.0 es (sorted_head nat_cmp e.0 (keys_of es) h))
      ∙ ap (λ n. n + 1) (len-from_entries es (sorted_tail nat_cmp e.0 (keys_of es) h))
      ∙ add-one (length es)

  -- the value at a key written in place
  pub written : (m n : BTreeMap ℕ X) (old : map.FinMap nat_cmp X) (k : ℕ) (x w : X)
      → map.from_entries m.entries ≡ old → Some x ≡ get_by (nat_cmp k) m → (IsSome (get_by (nat_cmp k) m) → UpdatesBy nat_cmp (nat_cmp k) m n (Some w))
      → map.from_entries n.entries ≡ map.insert old k w
  written m n old k x w e there u = inserted m n old k w e (u (subst IsSome there refl))

  -- nothing was written
  pub untouched : (m n : BTreeMap ℕ X) (old : map.FinMap nat_cmp X) → map.from_entries m.entries ≡ old → n ≡ m → map.from_entries n.entries ≡ old
  untouched m n old e same = ap (λ (t : BTreeMap ℕ X). map.from_entries {R = nat_cmp} t.entries) same ∙ e

  -- a value that is there is found
  pub is_found : (t : BTreeMap ℕ X) (m : map.FinMap nat_cmp X) (k : ℕ) (o : Option (MutBor X)) → map.from_entries t.entries ≡ m → option_copied_mut o ≡ get_by (nat_cmp k) t → IsSome (map.get m k) → IsSome o
  is_found t m k None e value there = subst IsSome (sym (value ∙ get-view t.entries m k e)) there
  is_found t m k (Some x) e value there = refl

  -- what is found is what is there
  pub found_mut : (t : BTreeMap ℕ X) (m : map.FinMap nat_cmp X) (k : ℕ) (o : Option (MutBor X)) (x : MutBor X) → map.from_entries t.entries ≡ m → option_copied_mut o ≡ get_by (nat_cmp k) t → o ≡ Some x → map.get m k ≡ Some x.now
  found_mut t m k o x e value is = sym (get-view t.entries m k e) ∙ sym value ∙ ap option_copied_mut is

  pub there_mut : (t : BTreeMap ℕ X) (k : ℕ) (o : Option (MutBor X)) (x : MutBor X) → option_copied_mut o ≡ get_by (nat_cmp k) t → o ≡ Some x → Some x.now ≡ get_by (nat_cmp k) t
  there_mut t k o x value is = sym (ap option_copied_mut is) ∙ value
