-- A list of slots as a finite map.
use Rattle.std.specs.FinMap as map
use Rattle.std.proofs.Common.{◌≡◌, ◌≢◌, ◌<◌, ◌≤◌, ◌+◌, ℕ, zero, suc, List, [], ◌∷◌, length, get_or, set, refl, sym, ap, ◌∙◌, arith, Option, Some, None, zero-add}
use Rattle.std.specs.Ordering.{nat_cmp}
use Rattle.std.proofs.lemmas.List.{get_or-set_same, get_or-set_other, get_or_past}
use Rattle.kr_files.specs.Slots.{slots, slots_from}
use Rattle.kr_tree.proofs.pr_base.MapLemmas.{same_values, by_key, get-insert_same, get-insert_other, get-remove_same, get-remove_other}

module _ {X : Type 0} where
  none_before : (k : ℕ) (xs : List (Option X)) (q : ℕ) → q < k → map.get (slots_from k xs) q ≡ None
  none_before k [] q h = map.get-empty nat_cmp q
  none_before k (None ∷ xs) q h = none_before (k + 1) xs q (omega arith)
  none_before k (Some x ∷ xs) q h =
      let apart : q ≢ k = omega arith in
      get-insert_other (slots_from (k + 1) xs) k x q apart ∙ none_before (k + 1) xs q (omega arith)

  get_from : (k : ℕ) (xs : List (Option X)) (i : ℕ) → map.get (slots_from k xs) (k + i) ≡ get_or xs i None
  get_from k [] i = map.get-empty nat_cmp (k + i)
  get_from k (None ∷ xs) zero = none_before (k + 1) xs (k + zero) (omega arith)
  get_from k (None ∷ xs) (suc i) =
      let e : k + suc i ≡ k + 1 + i = omega arith in
      ap (map.get (slots_from (k + 1) xs)) e ∙ get_from (k + 1) xs i
  get_from k (Some x ∷ xs) zero =
      let e : k + zero ≡ k = omega arith in
      ap (map.get (map.insert (slots_from (k + 1) xs) k x)) e ∙ get-insert_same (slots_from (k + 1) xs) k x
  get_from k (Some x ∷ xs) (suc i) =
      let e : k + suc i ≡ k + 1 + i = omega arith in
      let apart : k + suc i ≢ k = omega arith in
      get-insert_other (slots_from (k + 1) xs) k x (k + suc i) apart ∙ ap (map.get (slots_from (k + 1) xs)) e ∙ get_from (k + 1) xs i

  -- the value in a slot
  pub get-slots : (xs : List (Option X)) (i : ℕ) → map.get (slots xs) i ≡ get_or xs i None
  get-slots xs i = ap (map.get (slots xs)) (sym (zero-add i)) ∙ get_from 0 xs i

  -- a value put into a slot
  pub slots-put : (xs ys : List (Option X)) (i : ℕ) (x : X) → get_or ys i None ≡ Some x
      → ((q : ℕ) → q ≢ i → get_or ys q None ≡ get_or xs q None) → slots ys ≡ map.insert (slots xs) i x
  slots-put xs ys i x here others =
      same_values _ _ (by_key (λ q. map.get (slots ys) q ≡ map.get (map.insert (slots xs) i x) q) i
      (get-slots ys i ∙ here ∙ sym (get-insert_same (slots xs) i x))
      (λ q h. get-slots ys q ∙ others q h ∙ sym (get-slots xs q) ∙ sym (get-insert_other (slots xs) i x q h)))

  -- a slot emptied
  pub slots-clear : (xs ys : List (Option X)) (i : ℕ) → get_or ys i None ≡ None
      → ((q : ℕ) → q ≢ i → get_or ys q None ≡ get_or xs q None) → slots ys ≡ map.remove (slots xs) i
  slots-clear xs ys i here others =
      same_values _ _ (by_key (λ q. map.get (slots ys) q ≡ map.get (map.remove (slots xs) i) q) i
      (get-slots ys i ∙ here ∙ sym (get-remove_same (slots xs) i))
      (λ q h. get-slots ys q ∙ others q h ∙ sym (get-slots xs q) ∙ sym (get-remove_other (slots xs) i q h)))

  pub slots-set_some : (xs : List (Option X)) (i : ℕ) (x : X) → i < length xs → slots (set xs i (Some x)) ≡ map.insert (slots xs) i x
  slots-set_some xs i x h =
      slots-put xs (set xs i (Some x)) i x (get_or-set_same xs i (Some x) None h) (λ q other. get_or-set_other xs i q (Some x) None other)

  pub slots-set_none : (xs : List (Option X)) (i : ℕ) → i < length xs → slots (set xs i None) ≡ map.remove (slots xs) i
  slots-set_none xs i h =
      slots-clear xs (set xs i None) i (get_or-set_same xs i None None h) (λ q other. get_or-set_other xs i q None None other)

  -- there is nothing past the end
  pub slots-past : (xs : List (Option X)) (i : ℕ) → length xs ≤ i → slots xs ≡ map.remove (slots xs) i
  slots-past xs i h = slots-clear xs xs i (get_or_past xs i None h) (λ q other. refl)

  -- the slots are the same wherever they are looked up
  pub slots-same : (xs ys : List (Option X)) → ((q : ℕ) → get_or ys q None ≡ get_or xs q None) → slots ys ≡ slots xs
  slots-same xs ys h = same_values _ _ (λ q. get-slots ys q ∙ h q ∙ sym (get-slots xs q))
