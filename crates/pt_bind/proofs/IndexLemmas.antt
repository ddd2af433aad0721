-- How the numbers of locations are kept, row by row.
use Rattle.std.proofs.Common.{◌≡◌, ◌≤◌, ◌+◌, ℕ, Bool, true, false, not, cond, ◌==◌, Option, Some, None, is_some, List, [], ◌∷◌, ◌++◌, length, refl, ap, sym, subst, ◌∙◌, arith, nat_lt, nat_cmp, Vec}
use Rattle.std.specs.Prelude.{position}
use Rattle.std.specs.List.{position_or_len}
use Rattle.std.specs.Map.{lookup}
use Rattle.std.specs.Ordering.{is_eq, match_ordering}
use Rattle.std.specs.declared.cmp.Ordering.{Ordering}
use Rattle.std.specs.declared.cmp.Ordering.TheVariants.{Less, Equal, Greater}
use Rattle.std.specs.Option.{unwrap_or, option_or}
use Rattle.std.specs.Str.{bytes_eq}
use Rattle.std.specs.BTreeMap.{insert_entry, is_at as is_key, get_by, BTreeMap}
use Rattle.std.specs.Cmp.Lexicographic.{slice_cmp}
use Rattle.std.proofs.lemmas.Bool.{false_from_ne_true}
use Rattle.std.proofs.lemmas.Bool.Decides.{nat_tests}
use Rattle.std.proofs.lemmas.List.{length-append}
use Rattle.std.proofs.lemmas.List.Folds.{position_or_len_push}
use Rattle.std.proofs.lemmas.List.Sums.{prefix_len-le-length}
use Rattle.std.proofs.lemmas.Map.Text.{is_eq-slice_cmp}
use Rattle.std.proofs.lemmas.Slice.Eq.{bytes_eq-Decides}
use Rattle.pr_base.specs.declared.bind.Bound.{Bound}
use Rattle.pt_bind.specs.Kept.{is_at, IsIndex, IsNoted}

-- ---- the first row that passes a test, with one more row

pushed : (n len : ℕ) (b : Bool) → n ≤ len
    → cond (nat_lt (cond (n == len) (len + cond b 0 1) n) (len + 1)) (Some (cond (n == len) (len + cond b 0 1) n)) None
    ≡ cond (nat_lt n len) (Some n) (cond b (Some len) None)
pushed n len true h = grind (arith, nat_tests)
pushed n len false h = grind (arith, nat_tests)

push_position : {X : Type 0} (p : X → Bool) (xs : List X) (x : X) → position p (xs ++ x ∷ []) ≡ option_or (position p xs) (cond (p x) (Some (length xs)) None)
push_position p xs x =
    let n = position_or_len p xs in
    let one = position_or_len_push p xs x in
    let long : length (xs ++ x ∷ []) ≡ length xs + 1 = length-append xs (x ∷ []) in
    (λ i. cond (nat_lt (one i) (long i)) (Some (one i)) None) ∙ pushed n (length xs) (p x) (prefix_len-le-length (λ x. not (p x)) xs) ∙ told n (length xs) (p x)
  where
    told : (n len : ℕ) (b : Bool) → cond (nat_lt n len) (Some n) (cond b (Some len) None) ≡ option_or (cond (nat_lt n len) (Some n) None) (cond b (Some len) None)
    told n len b = elim (nat_lt n len) as (λ t. cond t (Some n) (cond b (Some len) None) ≡ option_or (cond t (Some n) None) (cond b (Some len) None)) [ true ↦ refl | false ↦ refl ]

-- ---- an entry that is put into a map

module _ {Z : Type 0} (bytes : List ℕ) where
  abbrev finds : Vec ℕ Z → Bool
  finds = is_key (λ key. slice_cmp nat_cmp bytes key.items)

  abbrev by_bytes : Vec ℕ Z → Vec ℕ Z → Ordering
  by_bytes = λ a b. slice_cmp nat_cmp a.items b.items

  found_is : (k : Vec ℕ Z) → finds k ≡ bytes_eq bytes k.items
  found_is k = is_eq-slice_cmp bytes k.items

  -- a key that comes after another isn't found with it
  apart : (k e : Vec ℕ Z) → is_eq (by_bytes k e) ≡ false → finds k ≡ true → finds e ≡ true → ⊥
  apart k e other one two =
      let here : bytes ≡ k.items = (bytes_eq-Decides bytes k.items).0 (sym (found_is k) ∙ one) in
      let there : bytes ≡ e.items = (bytes_eq-Decides bytes e.items).0 (sym (found_is e) ∙ two) in
      let same : is_eq (by_bytes k e) ≡ true = is_eq-slice_cmp k.items e.items ∙ (bytes_eq-Decides k.items e.items).1 (sym here ∙ there) in
      let never : true ≡ false = sym same ∙ other in
      cc

  together : (k e : Vec ℕ Z) → is_eq (by_bytes k e) ≡ true → finds e ≡ finds k
  together k e same =
      let is : k.items ≡ e.items = (bytes_eq-Decides k.items e.items).0 (sym (is_eq-slice_cmp k.items e.items) ∙ same) in
      ap (λ items. is_eq (slice_cmp nat_cmp bytes items)) (sym is)

  inserted_lookup : (es : List (Vec ℕ Z × ℕ)) (k : Vec ℕ Z) (v : ℕ) → lookup finds (insert_entry by_bytes es k v) ≡ cond (finds k) (Some v) (lookup finds es)
  inserted_lookup [] k v = refl
  inserted_lookup (e ∷ es) k v = at (by_bytes k e.0) refl (inserted_lookup es k v)
    where
      at : (r : Ordering) → by_bytes k e.0 ≡ r → lookup finds (insert_entry by_bytes es k v) ≡ cond (finds k) (Some v) (lookup finds es)
          → lookup finds (match_ordering r ((k, v) ∷ e ∷ es) ((e.0, v) ∷ es) (e ∷ insert_entry by_bytes es k v)) ≡ cond (finds k) (Some v) (cond (finds e.0) (Some e.1) (lookup finds es))
      at Less is rec = refl
      at Equal is rec = same (finds e.0) (finds k) (together k e.0 (ap is_eq is))
        where
          same : (one two : Bool) → one ≡ two → cond one (Some v) (lookup finds es) ≡ cond two (Some v) (cond one (Some e.1) (lookup finds es))
          same true true h = refl
          same false false h = refl
          same true false h = absurd cc
          same false true h = absurd cc
      at Greater is rec = ap (cond (finds e.0) (Some e.1)) rec ∙ swap (finds e.0) (finds k) (λ two one. apart k e.0 (ap is_eq is) one two)
        where
          swap : (one two : Bool) → (one ≡ true → two ≡ true → ⊥) → cond one (Some e.1) (cond two (Some v) (lookup finds es)) ≡ cond two (Some v) (cond one (Some e.1) (lookup finds es))
          swap true true h = absurd (h refl refl)
          swap true false h = refl
          swap false true h = refl
          swap false false h = refl

-- ---- a location that is given its row's number

pub new_noted : {Z : Type 0} (old new : BTreeMap (Vec ℕ Z) ℕ) (location : List ℕ) (key : Vec ℕ Z) (number : ℕ) → key.items ≡ location
    → new.entries ≡ insert_entry (by_bytes location) old.entries key number → is_some (get_by (λ (k : Vec ℕ Z). slice_cmp nat_cmp location k.items) old) ≡ false → IsNoted old location number new
new_noted {Z} old new location key number is entries free bytes =
    ap (lookup (finds bytes)) entries ∙ inserted_lookup bytes old.entries key number ∙ at (bytes_eq location bytes) refl
  where
    none : (o : Option ℕ) → is_some o ≡ false → o ≡ None
    none None h = refl
    none (Some x) h = absurd cc

    at : (t : Bool) → bytes_eq location bytes ≡ t → cond (finds bytes key) (Some number) (lookup (finds bytes) old.entries) ≡ cond t (Some (unwrap_or (lookup (finds bytes) old.entries) number)) (lookup (finds bytes) old.entries)
    at true h =
        let same : location ≡ bytes = (bytes_eq-Decides location bytes).0 h in
        let found : finds bytes key ≡ true = found_is bytes key ∙ (bytes_eq-Decides bytes key.items).1 (sym same ∙ sym is) in
        let gone : lookup (finds bytes) old.entries ≡ None = none _ (let P : List ℕ → Type 0 = λ b. is_some (lookup (finds b) old.entries) ≡ false in subst P same free) in
        ap (λ b. cond b (Some number) (lookup (finds bytes) old.entries)) found ∙ ap (λ o. Some (unwrap_or o number)) (sym gone)
    at false h =
        let other : finds bytes key ≡ false = false_from_ne_true _ (λ f.
        let same : bytes ≡ key.items = (bytes_eq-Decides bytes key.items).0 (sym (found_is bytes key) ∙ f) in
        let one : bytes_eq location bytes ≡ true = (bytes_eq-Decides location bytes).1 (sym is ∙ sym same) in
        let never : true ≡ false = sym one ∙ h in cc) in
        ap (λ b. cond b (Some number) (lookup (finds bytes) old.entries)) other

pub old_noted : {Z : Type 0} (old : BTreeMap (Vec ℕ Z) ℕ) (location : List ℕ) (number : ℕ) → is_some (get_by (λ (k : Vec ℕ Z). slice_cmp nat_cmp location k.items) old) ≡ true → IsNoted old location number old
old_noted {Z} old location number there bytes = at (bytes_eq location bytes) refl
  where
    kept : (o : Option ℕ) → is_some o ≡ true → o ≡ Some (unwrap_or o number)
    kept None h = absurd cc
    kept (Some x) h = refl

    at : (t : Bool) → bytes_eq location bytes ≡ t → lookup (finds bytes) old.entries ≡ cond t (Some (unwrap_or (lookup (finds bytes) old.entries) number)) (lookup (finds bytes) old.entries)
    at true h =
        let same : location ≡ bytes = (bytes_eq-Decides location bytes).0 h in
        kept _ (let P : List ℕ → Type 0 = λ b. is_some (lookup (finds b) old.entries) ≡ true in subst P same there)
    at false h = refl

-- the numbers of the rows with one more
pub index_step : {Z : Type 0} (old new : BTreeMap (Vec ℕ Z) ℕ) (rows : List Bound) (b : Bound) → IsIndex rows old → IsNoted old b.location (length rows) new → IsIndex (rows ++ b ∷ []) new
index_step {Z} old new rows b index noted bytes =
    noted bytes
    ∙ ap (λ o. cond (bytes_eq b.location bytes) (Some (unwrap_or o (length rows))) o) (index bytes)
    ∙ told (position (is_at bytes) rows) (bytes_eq b.location bytes)
    ∙ sym (push_position (is_at bytes) rows b)
  where
    told : (o : Option ℕ) (t : Bool) → cond t (Some (unwrap_or o (length rows))) o ≡ option_or o (cond t (Some (length rows)) None)
    told None true = refl
    told None false = refl
    told (Some k) true = refl
    told (Some k) false = refl
