-- Whether some open file is of a kind.
use Rattle.std.specs.FinMap as map
use Rattle.std.specs.FinMap.Entries.{below_all}
use Rattle.std.proofs.Common.{◌≡◌, ◌≢◌, inl, inr, subst, ℕ, Bool, true, false, ◌||◌, ◌&&◌, List, [], ◌∷◌, refl, sym, ap, ◌∙◌, arith, cond, Some, None}
use Rattle.std.specs.Prelude.{map as map_list}
use Rattle.std.specs.List.{list_any}
use Rattle.std.specs.Ordering.{nat_cmp, eq_by_cmp, is_lt}
use Rattle.std.proofs.lemmas.Bool.{cases_eq, false≢true}
use Rattle.std.proofs.lemmas.Bool.Decides.{nat_tests}
use Rattle.std.proofs.lemmas.Option.{same_Some, none-some}
use lib.Dec.{T}
use Rattle.kr_files.specs.declared.opened.What.{What}
use Rattle.kr_files.specs.Files.{Counted, has_kind}
use Rattle.kr_tree.proofs.pr_base.MapLemmas.{ties-same, ties-other, get-insert_same, get-insert_other, get-remove_same, get-remove_other}

pub same_bools : (a b : Bool) → (a ≡ true → b ≡ true) → (b ≡ true → a ≡ true) → a ≡ b
same_bools true b f g = sym (f refl)
same_bools false true f g = g refl
same_bools false false f g = refl

pub not_true : (b : Bool) → (b ≡ true → ⊥) → b ≡ false
not_true true f = absurd (f refl)
not_true false f = refl

-- one of two tests passes
pub either_true : (a b : Bool) → a ≡ true → (a || b) ≡ true
either_true true b e = refl
either_true false b e = absurd (false≢true e)

pub or_true : (a b : Bool) → b ≡ true → (a || b) ≡ true
or_true true b e = refl
or_true false b e = e

both_true : (a b : Bool) → T (a && b) → T a × T b
both_true true true h = (tt, tt)
both_true true false h = absurd h
both_true false b h = absurd h

tied : (b : Bool) → b ≡ true → T b
tied true e = tt
tied false e = absurd (false≢true e)

apart : (a n : ℕ) → T (is_lt (nat_cmp a n)) → n ≢ a
apart a n h same = below_itself a (subst (λ k. T (is_lt (nat_cmp a k))) same h)
  where
    below_itself : (k : ℕ) → T (is_lt (nat_cmp k k)) → ⊥
    below_itself k h = let e : is_lt (nat_cmp k k) ≡ false = grind (arith, nat_tests) in subst T e h

module _ {X : Type 0} (test : X → Bool) where
  -- each key of a list lies above what lies below all of them
  above : (a n : ℕ) (x : X) (es : List (ℕ × X)) → T (below_all nat_cmp a es) → map.find nat_cmp n es ≡ Some x → T (is_lt (nat_cmp a n))
  above a n x [] h found = absurd (none-some x found)
  above a n x (e ∷ es) h found =
      elim (cases_eq n e.0) [
        | inl same ↦ subst (λ k. T (is_lt (nat_cmp a k))) (sym same) (both_true _ _ h).0
        | inr other ↦ above a n x es (both_true _ _ h).1 (sym (ap (λ b. cond b (Some e.1) (map.find nat_cmp n es)) (ties-other n e.0 other)) ∙ found)
      ]

  any_found : (es : List (ℕ × X)) → T (map.is_sorted nat_cmp es) → list_any test (map_list (λ e. e.1) es) ≡ true
      → (n : ℕ) × (x : X) × (map.find nat_cmp n es ≡ Some x) × (test x ≡ true)
  any_found [] h any = absurd (false≢true any)
  any_found (e ∷ es) h any =
      elim (test e.1) as (λ b. test e.1 ≡ b → (b || list_any test (map_list (λ e. e.1) es)) ≡ true → (n : ℕ) × (x : X) × (map.find nat_cmp n (e ∷ es) ≡ Some x) × (test x ≡ true)) [
        | true ↦ λ is _. (e.0, e.1, ap (λ b. cond b (Some e.1) (map.find nat_cmp e.0 es)) (ties-same e.0), is)
        | false ↦ λ is rest.
            let later = any_found es (both_true _ _ h).1 rest in
            let other = apart e.0 later.0 (above e.0 later.0 later.1 es (both_true _ _ h).0 later.2) in
            (later.0, later.1, ap (λ b. cond b (Some e.1) (map.find nat_cmp later.0 es)) (ties-other later.0 e.0 other) ∙ later.2, later.3)
      ] refl any

  found_any : (n : ℕ) (x : X) (es : List (ℕ × X)) → map.find nat_cmp n es ≡ Some x → test x ≡ true → list_any test (map_list (λ e. e.1) es) ≡ true
  found_any n x [] found is = absurd (none-some x found)
  found_any n x (e ∷ es) found is =
      elim (cases_eq n e.0) [
        | inl same ↦
            let equal = same_Some e.1 x (sym (ap (λ b. cond b (Some e.1) (map.find nat_cmp n es)) (ap (eq_by_cmp nat_cmp n) (sym same) ∙ ties-same n)) ∙ found) in
            ap (λ b. b || list_any test (map_list (λ e. e.1) es)) (ap test equal ∙ is)
        | inr other ↦
            either (test e.1) (found_any n x es (sym (ap (λ b. cond b (Some e.1) (map.find nat_cmp n es)) (ties-other n e.0 other)) ∙ found) is)
      ]
    where
      either : (a : Bool) {b : Bool} → b ≡ true → (a || b) ≡ true
      either true e = refl
      either false e = e

  -- a value of the map passes the test where some key leads to one
  pub any_value : (m : map.FinMap nat_cmp X) → list_any test (map.values m) ≡ true → (n : ℕ) × (x : X) × (map.get m n ≡ Some x) × (test x ≡ true)
  any_value m any =
      let found = any_found (map.entries m) (map.entries_sorted m) any in
      (found.0, found.1, map.get-entries m found.0 ∙ found.2, found.3)

  pub value_any : (m : map.FinMap nat_cmp X) (n : ℕ) (x : X) → map.get m n ≡ Some x → test x ≡ true → list_any test (map.values m) ≡ true
  value_any m n x here is = found_any n x (map.entries m) (sym (map.get-entries m n) ∙ here) is

module _ {M : Type 0} (test : What → Bool) where
  pub some_kind : (files : map.FinMap nat_cmp (Counted M)) → has_kind test files ≡ true → (n : ℕ) × (h : Counted M) × (map.get files n ≡ Some h) × (test h.opened.what ≡ true)
  some_kind files any = any_value (λ (h : Counted M). test h.opened.what) files any

  pub kind_some : (files : map.FinMap nat_cmp (Counted M)) (n : ℕ) (h : Counted M) → map.get files n ≡ Some h → test h.opened.what ≡ true → has_kind test files ≡ true
  kind_some files n h here is = value_any (λ (h : Counted M). test h.opened.what) files n h here is

  pub no_kind : (files : map.FinMap nat_cmp (Counted M)) → ((n : ℕ) (h : Counted M) → map.get files n ≡ Some h → test h.opened.what ≡ false) → has_kind test files ≡ false
  no_kind files none =
      not_true (has_kind test files) (λ any. let found = some_kind files any in false≢true (sym (none found.0 found.1 found.2) ∙ found.3))

  -- files of the same kinds under the same numbers
  pub same_kind : (files others : map.FinMap nat_cmp (Counted M))
      → ((n : ℕ) (h : Counted M) → map.get files n ≡ Some h → test h.opened.what ≡ true → (g : Counted M) × (map.get others n ≡ Some g) × (test g.opened.what ≡ true))
      → ((n : ℕ) (h : Counted M) → map.get others n ≡ Some h → test h.opened.what ≡ true → (g : Counted M) × (map.get files n ≡ Some g) × (test g.opened.what ≡ true))
      → has_kind test files ≡ has_kind test others
  same_kind files others there back =
      same_bools (has_kind test files) (has_kind test others)
      (λ any. let found = some_kind files any in let other = there found.0 found.1 found.2 found.3 in kind_some others found.0 other.0 other.1 other.2)
      (λ any. let found = some_kind others any in let other = back found.0 found.1 found.2 found.3 in kind_some files found.0 other.0 other.1 other.2)

  -- one more file, which isn't of the kind
  pub kind-insert_other : (files : map.FinMap nat_cmp (Counted M)) (n : ℕ) (h : Counted M) → map.get files n ≡ None → test h.opened.what ≡ false
      → has_kind test (map.insert files n h) ≡ has_kind test files
  kind-insert_other files n h free is =
      same_kind (map.insert files n h) files
      (λ m g found of_kind.
      let away : m ≢ n = λ here. false≢true (sym is ∙ ap (λ (x : Counted M). test x.opened.what) (same_Some h g (sym (get-insert_same files n h) ∙ sym (ap (map.get (map.insert files n h)) here) ∙ found)) ∙ of_kind) in
      (g, sym (get-insert_other files n h m away) ∙ found, of_kind))
      (λ m g found of_kind.
      let away : m ≢ n = λ here. none-some g (sym free ∙ sym (ap (map.get files) here) ∙ found) in
      (g, get-insert_other files n h m away ∙ found, of_kind))

  -- one more file that is of the kind
  pub kind-insert_same : (files : map.FinMap nat_cmp (Counted M)) (n : ℕ) (h : Counted M) → test h.opened.what ≡ true → has_kind test (map.insert files n h) ≡ true
  kind-insert_same files n h is = kind_some (map.insert files n h) n h (get-insert_same files n h) is

  pub kind-insert : (files : map.FinMap nat_cmp (Counted M)) (n : ℕ) (h : Counted M) → map.get files n ≡ None → has_kind test (map.insert files n h) ≡ (test h.opened.what || has_kind test files)
  kind-insert files n h free =
      elim (test h.opened.what) as (λ b. test h.opened.what ≡ b → has_kind test (map.insert files n h) ≡ (b || has_kind test files)) [
        | true ↦ λ is. kind-insert_same files n h is
        | false ↦ λ is. kind-insert_other files n h free is
      ] refl

  -- a file that isn't of the kind taken away
  pub kind-remove_other : (files : map.FinMap nat_cmp (Counted M)) (n : ℕ) (h : Counted M) → map.get files n ≡ Some h → test h.opened.what ≡ false
      → has_kind test (map.remove files n) ≡ has_kind test files
  kind-remove_other files n h here is =
      same_kind (map.remove files n) files
      (λ m g found of_kind.
      let away : m ≢ n = λ at. none-some g (sym (get-remove_same files n) ∙ sym (ap (map.get (map.remove files n)) at) ∙ found) in
      (g, sym (get-remove_other files n m away) ∙ found, of_kind))
      (λ m g found of_kind.
      let away : m ≢ n = λ at. false≢true (sym is ∙ ap (λ (x : Counted M). test x.opened.what) (same_Some h g (sym here ∙ sym (ap (map.get files) at) ∙ found)) ∙ of_kind) in
      (g, get-remove_other files n m away ∙ found, of_kind))

  -- the only file of the kind taken away
  pub kind-remove_only : (files : map.FinMap nat_cmp (Counted M)) (n : ℕ)
      → ((m : ℕ) (g : Counted M) → map.get files m ≡ Some g → test g.opened.what ≡ true → m ≡ n) → has_kind test (map.remove files n) ≡ false
  kind-remove_only files n only =
      no_kind (map.remove files n) (λ m g found. not_true (test g.opened.what) (λ of_kind.
      let away : m ≢ n = λ at. none-some g (sym (get-remove_same files n) ∙ sym (ap (map.get (map.remove files n)) at) ∙ found) in
      away (only m g (sym (get-remove_other files n m away) ∙ found) of_kind)))
