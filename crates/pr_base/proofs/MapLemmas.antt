-- Finite maps from numbers after a change.
use Rattle.std.specs.FinMap as map
use Rattle.std.specs.FinMap.Entries.{below_all}
use Rattle.std.proofs.Common.{◌≡◌, ◌≢◌, inl, inr, subst, ℕ, ◌+◌, Bool, true, false, ◌&&◌, length, List, [], ◌∷◌, refl, sym, ap, ◌∙◌, arith, cond, Option, Some, None, is_some}
use Rattle.std.specs.Prelude.{IsSome, map as map_list}
use Rattle.std.proofs.lemmas.Option.{none-some}
use lib.Dec.{T}
use Rattle.std.proofs.lemmas.List.{length-map}
use Rattle.std.specs.Option.{option_map, option_map_or}
use Rattle.std.specs.Ordering.{nat_cmp, eq_by_cmp, is_lt}
use Rattle.std.specs.Cmp.{nat_cmp_total}
use Rattle.std.proofs.lemmas.Bool.{cases_eq}
use Rattle.std.proofs.lemmas.Bool.Decides.{nat_tests}
use Rattle.pr_base.specs.Maps.{changed, mapped, MapsChange}

pub ties-same : (q : ℕ) → eq_by_cmp nat_cmp q q ≡ true
ties-same q = grind (arith, nat_tests)

pub ties-other : (q k : ℕ) → q ≢ k → eq_by_cmp nat_cmp q k ≡ false
ties-other q k h = grind (arith, nat_tests)

-- by the key that is looked up: this one, or another
pub by_key : (P : ℕ → Type 0) (k : ℕ) → P k → ((q : ℕ) → q ≢ k → P q) → (q : ℕ) → P q
by_key P k here there q = elim (cases_eq q k) [ inl e ↦ subst P (sym e) here | inr h ↦ there q h ]

module _ {X : Type 0} where
  -- two maps with the same values are the same
  pub same_values : (m n : map.FinMap nat_cmp X) → ((q : ℕ) → map.get m q ≡ map.get n q) → m ≡ n
  same_values m n h = map.same_map nat_cmp_total map.nat_cmp-IsAntisymmetric m n h

  pub get-insert_same : (m : map.FinMap nat_cmp X) (k : ℕ) (x : X) → map.get (map.insert m k x) k ≡ Some x
  get-insert_same m k x = map.get-insert nat_cmp_total m k x k ∙ ap (λ b. cond b (Some x) (map.get m k)) (ties-same k)

  pub get-insert_other : (m : map.FinMap nat_cmp X) (k : ℕ) (x : X) (q : ℕ) → q ≢ k → map.get (map.insert m k x) q ≡ map.get m q
  get-insert_other m k x q h = map.get-insert nat_cmp_total m k x q ∙ ap (λ b. cond b (Some x) (map.get m q)) (ties-other q k h)

  pub get-remove_same : (m : map.FinMap nat_cmp X) (k : ℕ) → map.get (map.remove m k) k ≡ None
  get-remove_same m k = map.get-remove nat_cmp_total m k k ∙ ap (λ b. cond b None (map.get m k)) (ties-same k)

  pub get-remove_other : (m : map.FinMap nat_cmp X) (k : ℕ) (q : ℕ) → q ≢ k → map.get (map.remove m k) q ≡ map.get m q
  get-remove_other m k q h = map.get-remove nat_cmp_total m k q ∙ ap (λ b. cond b None (map.get m q)) (ties-other q k h)

  pub changed-some : (m : map.FinMap nat_cmp X) (k : ℕ) (f : X → X) (x : X) → map.get m k ≡ Some x → changed m k f ≡ map.insert m k (f x)
  unfolding changed
  changed-some m k f x e = ap (λ o. option_map_or (λ y. map.insert m k (f y)) o m) e

  pub changed-none : (m : map.FinMap nat_cmp X) (k : ℕ) (f : X → X) → map.get m k ≡ None → changed m k f ≡ m
  unfolding changed
  changed-none m k f e = ap (λ o. option_map_or (λ y. map.insert m k (f y)) o m) e

  -- what is there stays when something is put
  pub some-insert : (m : map.FinMap nat_cmp X) (k q : ℕ) (x : X) → IsSome (map.get m q) → IsSome (map.get (map.insert m k x) q)
  some-insert m k q x some =
      elim (cases_eq q k) [
        | inl same ↦ subst IsSome (sym (ap (map.get (map.insert m k x)) same ∙ get-insert_same m k x)) refl
        | inr other ↦ subst IsSome (sym (get-insert_other m k x q other)) some
      ]

  -- a key that is free after something was put was free before, and isn't the one that was put
  pub free-insert : (m : map.FinMap nat_cmp X) (k q : ℕ) (x : X) → map.get (map.insert m k x) q ≡ None → (q ≢ k) × (map.get m q ≡ None)
  free-insert m k q x free =
      let other : q ≢ k = λ same. none-some x (sym free ∙ ap (map.get (map.insert m k x)) same ∙ get-insert_same m k x) in
      (other, sym (get-insert_other m k x q other) ∙ free)

  -- a key that isn't there is taken away by nothing
  pub remove-none : (m : map.FinMap nat_cmp X) (k : ℕ) → map.get m k ≡ None → map.remove m k ≡ m
  remove-none m k e = same_values _ _ (by_key (λ q. map.get (map.remove m k) q ≡ map.get m q) k (get-remove_same m k ∙ sym e) (λ q h. get-remove_other m k q h))

  -- to take away what was just put where nothing was
  pub remove-insert : (m : map.FinMap nat_cmp X) (k : ℕ) (x : X) → map.get m k ≡ None → map.remove (map.insert m k x) k ≡ m
  remove-insert m k x e =
      same_values _ _ (by_key (λ q. map.get (map.remove (map.insert m k x) k) q ≡ map.get m q) k
      (get-remove_same (map.insert m k x) k ∙ sym e)
      (λ q h. get-remove_other (map.insert m k x) k q h ∙ get-insert_other m k x q h))

  -- to put what is there changes nothing
  pub insert-same : (m : map.FinMap nat_cmp X) (k : ℕ) (x : X) → map.get m k ≡ Some x → map.insert m k x ≡ m
  insert-same m k x e =
      same_values _ _ (by_key (λ q. map.get (map.insert m k x) q ≡ map.get m q) k (get-insert_same m k x ∙ sym e) (λ q h. get-insert_other m k x q h))

  -- a later value stands for an earlier one
  pub insert-insert : (m : map.FinMap nat_cmp X) (k : ℕ) (x y : X) → map.insert (map.insert m k x) k y ≡ map.insert m k y
  insert-insert m k x y =
      same_values _ _ (by_key (λ q. map.get (map.insert (map.insert m k x) k y) q ≡ map.get (map.insert m k y) q) k
      (get-insert_same (map.insert m k x) k y ∙ sym (get-insert_same m k y))
      (λ q h. get-insert_other (map.insert m k x) k y q h ∙ get-insert_other m k x q h ∙ sym (get-insert_other m k y q h)))

  pub insert-swap : (m : map.FinMap nat_cmp X) (j k : ℕ) (x y : X) → j ≢ k → map.insert (map.insert m j x) k y ≡ map.insert (map.insert m k y) j x
  insert-swap m j k x y apart =
      same_values _ _ (by_key (λ q. map.get (map.insert (map.insert m j x) k y) q ≡ map.get (map.insert (map.insert m k y) j x) q) k
      (get-insert_same (map.insert m j x) k y ∙ sym (get-insert_other (map.insert m k y) j x k (λ e. apart (sym e)) ∙ get-insert_same m k y))
      (λ q h. get-insert_other (map.insert m j x) k y q h
      ∙ by_key (λ r. (r ≢ k → map.get (map.insert m j x) r ≡ map.get (map.insert (map.insert m k y) j x) r)) j
      (λ _. get-insert_same m j x ∙ sym (get-insert_same (map.insert m k y) j x))
      (λ r other away. get-insert_other m j x r other ∙ sym (get-insert_other (map.insert m k y) j x r other ∙ get-insert_other m k y r away)) q h))

  pub get-changed_same : (m : map.FinMap nat_cmp X) (k : ℕ) (f : X → X) → map.get (changed m k f) k ≡ option_map f (map.get m k)
  unfolding changed
  get-changed_same m k f =
      elim (map.get m k) as (λ o. map.get m k ≡ o → map.get (option_map_or (λ x. map.insert m k (f x)) o m) k ≡ option_map f o) [
        | None ↦ λ e. e
        | Some x ↦ λ e. get-insert_same m k (f x)
      ] refl

  pub get-changed_other : (m : map.FinMap nat_cmp X) (k : ℕ) (f : X → X) (q : ℕ) → q ≢ k → map.get (changed m k f) q ≡ map.get m q
  unfolding changed
  get-changed_other m k f q h =
      elim (map.get m k) as (λ o. map.get (option_map_or (λ x. map.insert m k (f x)) o m) q ≡ map.get m q) [
        | None ↦ refl
        | Some x ↦ get-insert_other m k (f x) q h
      ]

  -- as many keys as before
  pub len-changed : (m : map.FinMap nat_cmp X) (k : ℕ) (f : X → X) → map.len (changed m k f) ≡ map.len m
  unfolding changed
  len-changed m k f =
      elim (map.get m k) as (λ o. map.get m k ≡ o → map.len (option_map_or (λ x. map.insert m k (f x)) o m) ≡ map.len m) [
        | None ↦ λ e. refl
        | Some x ↦ λ e. map.len-insert nat_cmp_total m k (f x) ∙ ap (λ o. cond (is_some o) (map.len m) (map.len m + 1)) e
      ] refl

  pub len-insert_same : (m : map.FinMap nat_cmp X) (k : ℕ) (x : X) → is_some (map.get m k) ≡ true → map.len (map.insert m k x) ≡ map.len m
  len-insert_same m k x e = map.len-insert nat_cmp_total m k x ∙ ap (λ b. cond b (map.len m) (map.len m + 1)) e

  pub len-insert_new : (m : map.FinMap nat_cmp X) (k : ℕ) (x : X) → map.get m k ≡ None → map.len (map.insert m k x) ≡ map.len m + 1
  len-insert_new m k x e = map.len-insert nat_cmp_total m k x ∙ ap (λ o. cond (is_some o) (map.len m) (map.len m + 1)) e

  -- a key at which nothing is, and one at which something is, differ
  pub apart : (m : map.FinMap nat_cmp X) (i k : ℕ) → map.get m i ≡ None → is_some (map.get m k) ≡ true → k ≢ i
  apart m i k none there e = let no : false ≡ true = sym (ap is_some (ap (map.get m) e ∙ none)) ∙ there in absurd cc

  pub changed-id : (m : map.FinMap nat_cmp X) (k : ℕ) → changed m k (λ x. x) ≡ m
  changed-id m k =
      same_values _ _ (by_key (λ q. map.get (changed m k (λ x. x)) q ≡ map.get m q) k
      (get-changed_same m k (λ x. x) ∙ same (map.get m k))
      (λ q h. get-changed_other m k (λ x. x) q h))
    where
      same : (o : Option X) → option_map (λ x. x) o ≡ o
      same None = refl
      same (Some x) = refl

  -- a change at one key and a value put at another, in either order
  pub changed-insert : (m : map.FinMap nat_cmp X) (k i : ℕ) (f : X → X) (x : X) → k ≢ i → changed (map.insert m i x) k f ≡ map.insert (changed m k f) i x
  changed-insert m k i f x h =
      same_values _ _ (by_key (λ q. map.get (changed (map.insert m i x) k f) q ≡ map.get (map.insert (changed m k f) i x) q) k
      (get-changed_same (map.insert m i x) k f ∙ ap (option_map f) (get-insert_other m i x k h)
      ∙ sym (get-insert_other (changed m k f) i x k h ∙ get-changed_same m k f))
      (λ q other. get-changed_other (map.insert m i x) k f q other
      ∙ by_key (λ q. q ≢ k → map.get (map.insert m i x) q ≡ map.get (map.insert (changed m k f) i x) q) i
      (λ _. get-insert_same m i x ∙ sym (get-insert_same (changed m k f) i x))
      (λ q away other. get-insert_other m i x q away ∙ sym (get-changed_other m k f q other) ∙ sym (get-insert_other (changed m k f) i x q away)) q other))

  -- two changes at two keys, in either order
  pub changed-swap : (m : map.FinMap nat_cmp X) (k j : ℕ) (f g : X → X) → k ≢ j → changed (changed m j g) k f ≡ changed (changed m k f) j g
  changed-swap m k j f g h =
      same_values _ _ (by_key (λ q. map.get (changed (changed m j g) k f) q ≡ map.get (changed (changed m k f) j g) q) k
      (get-changed_same (changed m j g) k f ∙ ap (option_map f) (get-changed_other m j g k h) ∙ sym (get-changed_other (changed m k f) j g k h ∙ get-changed_same m k f))
      (λ q d. get-changed_other (changed m j g) k f q d
      ∙ by_key (λ q. q ≢ k → map.get (changed m j g) q ≡ map.get (changed (changed m k f) j g) q) j
      (λ a. get-changed_same m j g ∙ ap (option_map g) (sym (get-changed_other m k f j a)) ∙ sym (get-changed_same (changed m k f) j g))
      (λ q b a. get-changed_other m j g q b ∙ sym (get-changed_other m k f q a) ∙ sym (get-changed_other (changed m k f) j g q b)) q d))

  -- two changes at one key, one after the other
  pub changed-twice : (m : map.FinMap nat_cmp X) (k : ℕ) (f g : X → X) → changed (changed m k g) k f ≡ changed m k (λ x. f (g x))
  changed-twice m k f g =
      same_values _ _ (by_key (λ q. map.get (changed (changed m k g) k f) q ≡ map.get (changed m k (λ x. f (g x))) q) k
      (get-changed_same (changed m k g) k f ∙ ap (option_map f) (get-changed_same m k g) ∙ twice (map.get m k) ∙ sym (get-changed_same m k (λ x. f (g x))))
      (λ q d. get-changed_other (changed m k g) k f q d ∙ get-changed_other m k g q d ∙ sym (get-changed_other m k (λ x. f (g x)) q d)))
    where
      twice : (o : Option X) → option_map f (option_map g o) ≡ option_map (λ x. f (g x)) o
      twice None = refl
      twice (Some x) = refl

  -- two changes that do the same to the value that is there
  pub changed-alike : (m : map.FinMap nat_cmp X) (k : ℕ) (f g : X → X) → ((x : X) → map.get m k ≡ Some x → f x ≡ g x) → changed m k f ≡ changed m k g
  changed-alike m k f g h =
      same_values _ _ (by_key (λ q. map.get (changed m k f) q ≡ map.get (changed m k g) q) k
      (get-changed_same m k f ∙ alike (map.get m k) refl ∙ sym (get-changed_same m k g))
      (λ q d. get-changed_other m k f q d ∙ sym (get-changed_other m k g q d)))
    where
      alike : (o : Option X) → map.get m k ≡ o → option_map f o ≡ option_map g o
      alike None at = refl
      alike (Some x) at = ap Some (h x at)

  -- what f tells of each value, where it tells the same of the changed one
  pub stays-changed : {A : Type 0} (f : Option X → A) (m : map.FinMap nat_cmp X) (k : ℕ) (g : X → X) → ((x : X) → f (Some (g x)) ≡ f (Some x)) → (q : ℕ) → f (map.get (changed m k g) q) ≡ f (map.get m q)
  stays-changed f m k g same = by_key (λ q. f (map.get (changed m k g) q) ≡ f (map.get m q)) k
      (ap f (get-changed_same m k g) ∙ stays (map.get m k))
      (λ q d. ap f (get-changed_other m k g q d))
    where
      stays : (o : Option X) → f (option_map g o) ≡ f o
      stays None = refl
      stays (Some x) = same x

  changed_from : (g : X → X) (o : Option X) (z : X) → option_map g o ≡ Some z → (x : X) × (o ≡ Some x) × (g x ≡ z)
  changed_from g None z h = absurd cc
  changed_from g (Some x) z h = (x, refl, ap (λ o. option_map_or (λ s. s) o (g x)) h)

  -- what is there was there
  pub there-changed : (m : map.FinMap nat_cmp X) (k : ℕ) (g : X → X) (q : ℕ) (z : X) → map.get (changed m k g) q ≡ Some z → (x : X) × (map.get m q ≡ Some x)
  there-changed m k g = by_key (λ q. (z : X) → map.get (changed m k g) q ≡ Some z → (x : X) × (map.get m q ≡ Some x)) k
      (λ z h. let x = changed_from g (map.get m k) z (sym (get-changed_same m k g) ∙ h) in (x.0, x.1))
      (λ q d z h. (z, sym (get-changed_other m k g q d) ∙ h))

  -- what holds of each value, and of the changed one
  pub each-changed : (P : X → Type 0) (m : map.FinMap nat_cmp X) (k : ℕ) (g : X → X) → ((q : ℕ) (z : X) → map.get m q ≡ Some z → P z) → ((x : X) → map.get m k ≡ Some x → P x → P (g x))
      → (q : ℕ) (z : X) → map.get (changed m k g) q ≡ Some z → P z
  each-changed P m k g each step = by_key (λ q. (z : X) → map.get (changed m k g) q ≡ Some z → P z) k
      (λ z h. let x = changed_from g (map.get m k) z (sym (get-changed_same m k g) ∙ h) in subst P x.2 (step x.0 x.1 (each k x.0 x.1)))
      (λ q d z h. each q z (sym (get-changed_other m k g q d) ∙ h))

module _ {X Y : Type 0} where
  pub option_map_cond : (f : X → Y) (b : Bool) (o p : Option X) → option_map f (cond b o p) ≡ cond b (option_map f o) (option_map f p)
  option_map_cond f true o p = refl
  option_map_cond f false o p = refl

  found_mapped : (f : ℕ → X → Y) (q : ℕ) (es : List (ℕ × X)) → map.find nat_cmp q (map_list (λ e. (e.0, f e.0 e.1)) es) ≡ option_map (f q) (map.find nat_cmp q es)
  found_mapped f q [] = refl
  found_mapped f q (e ∷ es) =
      elim (cases_eq q e.0) [
        | inl same ↦ ap (λ b. cond b (Some (f e.0 e.1)) (map.find nat_cmp q (map_list (λ e. (e.0, f e.0 e.1)) es))) (ap (eq_by_cmp nat_cmp q) (sym same) ∙ ties-same q)
            ∙ ap (λ k. Some (f k e.1)) (sym same)
            ∙ sym (ap (λ b. option_map (f q) (cond b (Some e.1) (map.find nat_cmp q es))) (ap (eq_by_cmp nat_cmp q) (sym same) ∙ ties-same q))
        | inr other ↦ ap (λ b. cond b (Some (f e.0 e.1)) (map.find nat_cmp q (map_list (λ e. (e.0, f e.0 e.1)) es))) (ties-other q e.0 other)
            ∙ found_mapped f q es
            ∙ sym (ap (λ b. option_map (f q) (cond b (Some e.1) (map.find nat_cmp q es))) (ties-other q e.0 other))
      ]

  below_mapped : (f : ℕ → X → Y) (k : ℕ) (es : List (ℕ × X)) → below_all nat_cmp k (map_list (λ e. (e.0, f e.0 e.1)) es) ≡ below_all nat_cmp k es
  below_mapped f k [] = refl
  below_mapped f k (e ∷ es) = ap (λ b. is_lt (nat_cmp k e.0) && b) (below_mapped f k es)

  sorted_mapped : (f : ℕ → X → Y) (es : List (ℕ × X)) → map.is_sorted nat_cmp (map_list (λ e. (e.0, f e.0 e.1)) es) ≡ map.is_sorted nat_cmp es
  sorted_mapped f [] = refl
  sorted_mapped f (e ∷ es) = ap (λ b. b && map.is_sorted nat_cmp (map_list (λ e. (e.0, f e.0 e.1)) es)) (below_mapped f e.0 es) ∙ ap (λ b. below_all nat_cmp e.0 es && b) (sorted_mapped f es)

  is_sorted_mapped : (f : ℕ → X → Y) (m : map.FinMap nat_cmp X) → T (map.is_sorted nat_cmp (map_list (λ e. (e.0, f e.0 e.1)) (map.entries m)))
  is_sorted_mapped f m = subst T (sym (sorted_mapped f (map.entries m))) (map.entries_sorted m)

  pub entries-mapped : (f : ℕ → X → Y) (m : map.FinMap nat_cmp X) → map.entries (mapped f m) ≡ map_list (λ e. (e.0, f e.0 e.1)) (map.entries m)
  unfolding mapped
  entries-mapped f m = map.entries-from_sorted nat_cmp _ (is_sorted_mapped f m)

  -- a change of the values keeps their number
  pub len-mapped : (f : ℕ → X → Y) (m : map.FinMap nat_cmp X) → map.len (mapped f m) ≡ map.len m
  len-mapped f m = map.len-entries (mapped f m) ∙ ap length (entries-mapped f m) ∙ length-map (map.entries m) _ ∙ sym (map.len-entries m)

  pub get-mapped : (f : ℕ → X → Y) (m : map.FinMap nat_cmp X) (q : ℕ) → map.get (mapped f m) q ≡ option_map (f q) (map.get m q)
  unfolding mapped
  get-mapped f m q = map.get-from_sorted nat_cmp _ q (is_sorted_mapped f m) ∙ found_mapped f q (map.entries m) ∙ ap (option_map (f q)) (sym (map.get-entries m q))

  pub mapped-insert : (f : ℕ → X → Y) (m : map.FinMap nat_cmp X) (k : ℕ) (x : X) → mapped f (map.insert m k x) ≡ map.insert (mapped f m) k (f k x)
  mapped-insert f m k x =
      same_values _ _ (by_key (λ q. map.get (mapped f (map.insert m k x)) q ≡ map.get (map.insert (mapped f m) k (f k x)) q) k
      (get-mapped f _ k ∙ ap (option_map (f k)) (get-insert_same m k x) ∙ sym (get-insert_same (mapped f m) k (f k x)))
      (λ q h. get-mapped f _ q ∙ ap (option_map (f q)) (get-insert_other m k x q h) ∙ sym (get-mapped f m q) ∙ sym (get-insert_other (mapped f m) k (f k x) q h)))

  pub mapped-remove : (f : ℕ → X → Y) (m : map.FinMap nat_cmp X) (k : ℕ) → mapped f (map.remove m k) ≡ map.remove (mapped f m) k
  mapped-remove f m k =
      same_values _ _ (by_key (λ q. map.get (mapped f (map.remove m k)) q ≡ map.get (map.remove (mapped f m) k) q) k
      (get-mapped f _ k ∙ ap (option_map (f k)) (get-remove_same m k) ∙ sym (get-remove_same (mapped f m) k))
      (λ q h. get-mapped f _ q ∙ ap (option_map (f q)) (get-remove_other m k q h) ∙ sym (get-mapped f m q) ∙ sym (get-remove_other (mapped f m) k q h)))

  pub mapped-empty : (f : ℕ → X → Y) → mapped f map.empty ≡ map.empty
  mapped-empty f = same_values _ _ (λ q. get-mapped f _ q ∙ ap (option_map (f q)) (map.get-empty nat_cmp q) ∙ sym (map.get-empty nat_cmp q))

pub maps_change : (X : Type 0) → MapsChange X
maps_change X = record { one = same_values; here = get-changed_same; elsewhere = get-changed_other; count = len-changed }
