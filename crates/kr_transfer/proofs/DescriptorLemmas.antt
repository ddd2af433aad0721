-- Open descriptors of a process as entries, in the order of their numbers.
use Rattle.std.specs.FinMap as map
use Rattle.std.proofs.Common.{◌≡◌, ℕ, ◌+◌, ◌<◌, ◌≤◌, Bool, true, false, cond, List, [], ◌∷◌, Option, Some, None, refl, sym, ap, subst, ◌∙◌, arith, inl, inr}
use Rattle.std.specs.Prelude.{◌&&◌, ◌==◌, map as map_list, nat_lt}
use Rattle.std.specs.FinMap.Entries.{below_all}
use lib.Dec.{T}
use Rattle.std.specs.List.{find}
use Rattle.std.specs.Option.{option_map, option_map_or, option_and_then}
use Rattle.std.specs.Ordering.{nat_cmp, is_lt}
use Rattle.std.proofs.lemmas.Bool.{cases_eq, cond-true, cond-false}
use Rattle.std.proofs.lemmas.Bool.Decides.{nat_tests}
use Rattle.std.proofs.lemmas.Option.{none-some}
use Rattle.kr_seen.proofs.pr_base.MapLemmas.{ties-same, ties-other}
use Rattle.kr_seen.specs.kr_tree.declared.place.ProcAt.TheVariants.{Fd}
use Rattle.kr_seen.specs.kr_files.Descriptors.{Named}
use Rattle.kr_seen.specs.kr_model.DirectoryRows as model
use Rattle.kr_seen.specs.kr_model.DirectoryRows.{listed_process, of_descriptors}
use Rattle.kr_seen.specs.kr_model.Known.{Family, family_of, known}
use Rattle.kr_seen.specs.kr_model.State as state
use Rattle.kr_seen.specs.kr_model.State.{Image, image_layout, is_pid, named, process}
use Rattle.kr_transfer.specs.Listing.{first_behind}
use Rattle.kr_transfer.proofs.ListingLemmas.{RiseBehind}

both_true : (a b : Bool) → T (a && b) → T a × T b
both_true true true h = (tt, tt)
both_true true false h = absurd h
both_true false b h = absurd h

less : (a n : ℕ) → T (is_lt (nat_cmp a n)) → a < n
less a n h = by (nat_lt a n) refl
  where
    by : (b : Bool) → nat_lt a n ≡ b → a < n
    by true e = grind (arith, nat_tests)
    by false e = let not_less : is_lt (nat_cmp a n) ≡ false = grind (arith, nat_tests) in absurd (subst T not_less h)

module _ {X : Type 0} where
  above : (a n : ℕ) (x : X) (es : List (ℕ × X)) → T (below_all nat_cmp a es) → map.find nat_cmp n es ≡ Some x → a < n
  above a n x [] h found = absurd (none-some x found)
  above a n x (e ∷ es) h found =
      elim (cases_eq n e.0) [
        | inl same ↦ subst (λ k. a < k) (sym same) (less a e.0 (both_true _ _ h).0)
        | inr other ↦ above a n x es (both_true _ _ h).1 (sym (ap (λ b. cond b (Some e.1) (map.find nat_cmp n es)) (ties-other n e.0 other)) ∙ found)
      ]

  -- what stands behind the first one
  later : (e : ℕ × X) (es : List (ℕ × X)) → T (below_all nat_cmp e.0 es) → (q : ℕ) (y : X) → map.find nat_cmp q es ≡ Some y → map.find nat_cmp q (e ∷ es) ≡ Some y
  later e es below q y found =
      let past = above e.0 q y es below found in
      ap (λ b. cond b (Some e.1) (map.find nat_cmp q es)) (ties-other q e.0 (λ same. absurd (omega arith))) ∙ found

  module _ (after of : ℕ) where
    abbrev as_entries : List (ℕ × X) → List model.Listed
    as_entries es = map_list (λ fd. listed_process (Fd of fd)) (map_list (λ (e : ℕ × X). e.0) es)

    found-first : (n : ℕ) (x : X) → after < 3 + n → (es : List (ℕ × X)) → T (map.is_sorted nat_cmp es) → map.find nat_cmp n es ≡ Some x
        → ((q : ℕ) (y : X) → map.find nat_cmp q es ≡ Some y → q < n → 3 + q ≤ after) → first_behind after (as_entries es) ≡ Some (listed_process (Fd of n))
    found-first n x past [] sorted found before = absurd (none-some x found)
    found-first n x past (e ∷ es) sorted found before =
        let parts = both_true (below_all nat_cmp e.0 es) (map.is_sorted nat_cmp es) sorted in
        elim (cases_eq n e.0) [
          | inl same ↦
              let test : nat_lt after (3 + e.0) ≡ true = grind (arith, nat_tests) in
              cond-true (nat_lt after (3 + e.0)) (Some (listed_process (Fd of e.0))) (first_behind after (as_entries es)) test ∙ ap (λ fd. Some (listed_process (Fd of fd))) (sym same)
          | inr other ↦
              let own : map.find nat_cmp n es ≡ Some x = sym (ap (λ b. cond b (Some e.1) (map.find nat_cmp n es)) (ties-other n e.0 other)) ∙ found in
              let lower = above e.0 n x es parts.0 own in
              let passed = before e.0 e.1 (ap (λ b. cond b (Some e.1) (map.find nat_cmp e.0 es)) (ties-same e.0)) lower in
              let test : nat_lt after (3 + e.0) ≡ false = grind (arith, nat_tests) in
              cond-false (nat_lt after (3 + e.0)) (Some (listed_process (Fd of e.0))) (first_behind after (as_entries es)) test
              ∙ found-first n x past es parts.1 own (λ q y at below. before q y (later e es parts.0 q y at) below)
        ]

    found-none : (es : List (ℕ × X)) → T (map.is_sorted nat_cmp es) → ((q : ℕ) (y : X) → map.find nat_cmp q es ≡ Some y → 3 + q ≤ after) → first_behind after (as_entries es) ≡ None
    found-none [] sorted before = refl
    found-none (e ∷ es) sorted before =
        let parts = both_true (below_all nat_cmp e.0 es) (map.is_sorted nat_cmp es) sorted in
        let passed = before e.0 e.1 (ap (λ b. cond b (Some e.1) (map.find nat_cmp e.0 es)) (ties-same e.0)) in
        let test : nat_lt after (3 + e.0) ≡ false = grind (arith, nat_tests) in
        cond-false (nat_lt after (3 + e.0)) (Some (listed_process (Fd of e.0))) (first_behind after (as_entries es)) test
        ∙ found-none es parts.1 (λ q y at. before q y (later e es parts.0 q y at))

    -- keys are sorted
    rise-behind-key : (a : ℕ) (es : List (ℕ × X)) → T (below_all nat_cmp a es) → T (map.is_sorted nat_cmp es) → RiseBehind (3 + a) (as_entries es)
    rise-behind-key a [] below sorted = tt
    rise-behind-key a (e ∷ es) below sorted =
        let parts = both_true (below_all nat_cmp e.0 es) (map.is_sorted nat_cmp es) sorted in
        let first : a < e.0 = less a e.0 (both_true _ _ below).0 in (omega arith, rise-behind-key e.0 es parts.0 parts.1)

    rise-keys : (es : List (ℕ × X)) → T (map.is_sorted nat_cmp es) → RiseBehind 2 (as_entries es)
    rise-keys [] sorted = tt
    rise-keys (e ∷ es) sorted = let parts = both_true (below_all nat_cmp e.0 es) (map.is_sorted nat_cmp es) sorted in (omega arith, rise-behind-key e.0 es parts.0 parts.1)

module _ {M : Type 0} (s : state.State M Image) (pid of : ℕ) where
  found-family : (ps : List (state.Process M Image)) → find (λ (p : Family). p.pid == of) (map_list (family_of image_layout) ps) ≡ option_map (family_of image_layout) (find (is_pid of) ps)
  found-family [] = refl
  found-family (p ∷ ps) = by (p.pid == of) (found-family ps)
    where
      by : (b : Bool) → find (λ (p : Family). p.pid == of) (map_list (family_of image_layout) ps) ≡ option_map (family_of image_layout) (find (is_pid of) ps)
          → cond b (Some (family_of image_layout p)) (find (λ (p : Family). p.pid == of) (map_list (family_of image_layout) ps)) ≡ option_map (family_of image_layout) (cond b (Some p) (find (is_pid of) ps))
      by true rest = refl
      by false rest = rest

  -- those of a process, by what its descriptors mean
  descriptors-are : of_descriptors (known image_layout pid s) of ≡ option_map_or (λ (p : state.Process M Image). as_entries 0 of (map.entries p.descs)) (process of s) []
  descriptors-are = ap (λ (q : Option Family). option_map_or (λ (p : Family). map_list (λ fd. listed_process (Fd of fd)) p.fds) q []) (found-family s.living) ∙ by (process of s)
    where
      by : (q : Option (state.Process M Image)) → option_map_or (λ (p : Family). map_list (λ fd. listed_process (Fd of fd)) p.fds) (option_map (family_of image_layout) q) [] ≡ option_map_or (λ (p : state.Process M Image). as_entries 0 of (map.entries p.descs)) q []
      by None = refl
      by (Some p) = refl

  pub first-open : (after n : ℕ) (x : Named) → named of n s ≡ Some x → after < 3 + n → ((q : ℕ) (y : Named) → named of q s ≡ Some y → q < n → 3 + q ≤ after)
      → first_behind after (of_descriptors (known image_layout pid s) of) ≡ Some (listed_process (Fd of n))
  first-open after n x there past before = ap (first_behind after) descriptors-are ∙ by (process of s) there before
    where
      by : (q : Option (state.Process M Image)) → option_and_then (λ (p : state.Process M Image). map.get p.descs n) q ≡ Some x
          → ((j : ℕ) (y : Named) → option_and_then (λ (p : state.Process M Image). map.get p.descs j) q ≡ Some y → j < n → 3 + j ≤ after)
          → first_behind after (option_map_or (λ (p : state.Process M Image). as_entries 0 of (map.entries p.descs)) q []) ≡ Some (listed_process (Fd of n))
      by None there before = absurd (none-some x there)
      by (Some p) there before =
          found-first after of n x past (map.entries p.descs) (map.entries_sorted p.descs) (sym (map.get-entries p.descs n) ∙ there) (λ j y at below. before j y (map.get-entries p.descs j ∙ at) below)

  pub none-open : (after : ℕ) → ((q : ℕ) (y : Named) → named of q s ≡ Some y → 3 + q ≤ after) → first_behind after (of_descriptors (known image_layout pid s) of) ≡ None
  none-open after before = ap (first_behind after) descriptors-are ∙ by (process of s) before
    where
      by : (q : Option (state.Process M Image)) → ((j : ℕ) (y : Named) → option_and_then (λ (p : state.Process M Image). map.get p.descs j) q ≡ Some y → 3 + j ≤ after)
          → first_behind after (option_map_or (λ (p : state.Process M Image). as_entries 0 of (map.entries p.descs)) q []) ≡ None
      by None before = refl
      by (Some p) before = found-none after of (map.entries p.descs) (map.entries_sorted p.descs) (λ j y at. before j y (map.get-entries p.descs j ∙ at))

  pub descriptors-rise : RiseBehind 2 (of_descriptors (known image_layout pid s) of)
  descriptors-rise = subst (RiseBehind 2) (sym descriptors-are) (by (process of s))
    where
      by : (q : Option (state.Process M Image)) → RiseBehind 2 (option_map_or (λ (p : state.Process M Image). as_entries 0 of (map.entries p.descs)) q [])
      by None = tt
      by (Some p) = rise-keys 0 of (map.entries p.descs) (map.entries_sorted p.descs)

-- what a flag says is open
pub some-flag : {A B : Type 0} (f : A → B) (o : Option A) (b : B) → Some b ≡ option_map f o → (x : A) × (o ≡ Some x)
some-flag f None b e = absurd (none-some b (sym e))
some-flag f (Some x) b e = (x, refl)

pub no-flag : {A B : Type 0} (f : A → B) (o : Option A) (x : A) → ◌≡◌ {A = Option B} None (option_map f o) → o ≡ Some x → ⊥
no-flag f None x e is = none-some x is
no-flag f (Some y) x e is = none-some (f y) e
