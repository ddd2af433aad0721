-- The owner of a text is the longest location that it begins with.
use Rattle.std.proofs.Common.{◌≡◌, ◌≢◌, ◌<◌, ◌≤◌, ℕ, Bool, true, false, cond, Option, Some, None, List, [], ◌∷◌, ◌++◌, length, get_or, refl, ap, sym, ◌∙◌, arith, nat_lt, nat_eq, inl, inr}
use Rattle.std.specs.Prelude.{slice_get}
use Rattle.std.specs.List.{find, position_or_len}
use Rattle.std.specs.Option.{option_map, option_map_or, option_and_then}
use Rattle.std.proofs.lemmas.Bool.Decides.{nat_tests}
use Rattle.std.proofs.lemmas.List.{length-append}
use Rattle.std.proofs.lemmas.List.Folds.{find_at}
use Rattle.std.proofs.lemmas.List.Sums.{fails_before_first, passes_at_first}
use Rattle.std.proofs.lemmas.Bool.{cases_lt}
use Rattle.std.proofs.lemmas.List.Quantifiers.{position-Some}
use Rattle.std.proofs.lemmas.Option.{slice_get-get_or, slice_get_within, get_or_from_slice_get}
use Rattle.pr_base.specs.MountText.{MountText}
use Rattle.pr_base.specs.Texts.{Text, names_below}
use Rattle.pr_base.proofs.TextLemmas.{below_there}
use Rattle.pt_bind.specs.Binding.{is_located, located, source_of, number_at, owner, host_at, host_of, index_of, guest_in, guest_of, AreSettled}
use Rattle.pt_bind.specs.Laws.{OwnedAt, OwnersAreLongest, HostTextsGoBack}
use Rattle.pt_bind.proofs.RowLemmas.{located_is}

eq_itself : (n : ℕ) → nat_eq n n ≡ true
eq_itself n = grind (arith, nat_tests)

same_index : (m n : ℕ) → nat_eq m n ≡ true → m ≡ n
same_index m n h = grind (arith, nat_tests)

-- a row that is located at a text
record LocatedAt (table : List MountText) (t : Text) (k : ℕ) : Type 0 where
  row : MountText
  there : slice_get table k ≡ Some row
  at : row.location ≡ t

located_row : (table : List MountText) (d : MountText) (t : Text) (k : ℕ) → located table t ≡ Some k → LocatedAt table t k
located_row table d t k h =
    let f = position-Some (is_located t) table k d h in
    record { row = get_or table k d; there = slice_get-get_or table k d f.0; at = (located_is (get_or table k d) t).0 f.1 }

-- where no row is located no row of the table is
none_located : (table : List MountText) (t : Text) → located table t ≡ None → (k : ℕ) (row : MountText) → slice_get table k ≡ Some row → row.location ≢ t
none_located table t h k row there same =
    let p : MountText → Bool = is_located t in
    let n = position_or_len p table in
    let below = slice_get_within table k row there in
    let passes : p (get_or table k row) ≡ true = ap p (get_or_from_slice_get table k row row there) ∙ (located_is row t).1 same in
    elim (cases_lt n (length table)) as (λ _. ⊥) [
      | inl less ↦
          let is : nat_lt n (length table) ≡ true = grind (arith, nat_tests) in
          let never : Some n ≡ None = sym (ap (λ b. cond b (Some n) None) is) ∙ h in
          cc
      | inr over ↦
          let fails = fails_before_first p table k row (omega (arith, below, over)) in
          let never : true ≡ false = sym passes ∙ fails in
          cc
    ]

source_is : (table : List MountText) (k : ℕ) (row : MountText) → slice_get table k ≡ Some row → source_of table k ≡ row.source
source_is table k row e = ap (λ o. option_map_or (λ row. row.source) o []) e

module _ (table : List MountText) (set : AreSettled table) where
  root_there : slice_get table 0 ≡ Some set.root
  root_there = ap (λ rows. slice_get rows 0) set.first

  owned_at : (t : Text) → OwnedAt table t
  owned_at [] = record {
    row = set.root;
    there = root_there;
    rest = [];
    parted = sym set.root_location;
    host = source_is table 0 set.root root_there;
    longest = λ k other more e p. let long = length-append more other.location in let whole = ap length p in omega (arith, long, whole);
  }
  owned_at (name ∷ t) = at (located table (name ∷ t)) refl (owned_at t)
    where
      at : (o : Option ℕ) → located table (name ∷ t) ≡ o → OwnedAt table t → OwnedAt table (name ∷ t)
      at (Some k) e w =
          let l = located_row table set.root (name ∷ t) k e in
          record {
            row = l.row;
            there = ap (λ o. slice_get table (number_at o (owner table t))) e ∙ l.there;
            rest = [];
            parted = sym l.at;
            host = ap (λ o. host_at table o (name ∷ host_of table t)) e ∙ source_is table k l.row l.there;
            longest = λ j other more there p. let long = length-append more other.location in let whole = ap length (l.at ∙ p) in omega (arith, long, whole);
          }
      at None e w = record {
        row = w.row;
        there = ap (λ o. slice_get table (number_at o (owner table t))) e ∙ w.there;
        rest = name ∷ w.rest;
        parted = ap (λ u. name ∷ u) w.parted;
        host = ap (λ o. host_at table o (name ∷ host_of table t)) e ∙ ap (λ u. name ∷ u) w.host;
        longest = shorter;
      }
        where
          shorter : (j : ℕ) (other : MountText) (more : Text) → slice_get table j ≡ Some other → name ∷ t ≡ more ++ other.location → length other.location ≤ length w.row.location
          shorter j other [] there p = absurd (none_located table (name ∷ t) e j other there (sym p))
          shorter j other (first ∷ more) there p = let same : t ≡ more ++ other.location = cc in w.longest j other more there same

  -- the row of an index is found by it
  found : (k : ℕ) (row : MountText) → slice_get table k ≡ Some row → find (λ r. nat_eq r.index row.index) table ≡ Some row
  found k row there =
      let p : MountText → Bool = λ r. nat_eq r.index row.index in
      let n = position_or_len p table in
      let below = slice_get_within table k row there in
      let passes : p (get_or table k row) ≡ true = ap p (get_or_from_slice_get table k row row there) ∙ eq_itself row.index in
      elim (cases_lt k n) as (λ _. find p table ≡ Some row) [
        | inl less ↦
            let fails = fails_before_first p table k row less in
            let never : true ≡ false = sym passes ∙ fails in
            absurd cc
        | inr over ↦
            let within : n < length table = omega (arith, below, over) in
            let first : slice_get table n ≡ Some (get_or table n row) = slice_get-get_or table n row within in
            let index : (get_or table n row).index ≡ row.index = same_index (get_or table n row).index row.index (passes_at_first p table row within) in
            find_at p table ∙ ap (slice_get table) (set.own_index n k (get_or table n row) row first there index) ∙ there
      ]

  goes_back : (t : Text) → guest_of table (index_of table t) (host_of table t) ≡ Some t
  goes_back t =
      let w = owned_at t in
      let index : index_of table t ≡ w.row.index = ap (λ o. option_map_or (λ row. row.index) o 0) w.there in
      let by : find (λ r. nat_eq r.index (index_of table t)) table ≡ Some w.row = ap (λ i. find (λ r. nat_eq r.index i) table) index ∙ found (owner table t) w.row w.there in
      ap (option_and_then (λ row. guest_in row (host_of table t))) by
      ∙ ap (λ h. option_map (λ rest. rest ++ w.row.location) (names_below w.row.source h)) w.host
      ∙ ap (option_map (λ rest. rest ++ w.row.location)) (below_there w.row.source w.rest)
      ∙ ap Some (sym w.parted)

pub owners_are_longest : OwnersAreLongest
owners_are_longest table t set = owned_at table set t

pub host_texts_go_back : HostTextsGoBack
host_texts_go_back table t set = goes_back table set t
