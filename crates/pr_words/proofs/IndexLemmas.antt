-- How the places of variables are kept, change by change.
use Rattle.std.proofs.Common.{◌≡◌, ◌≤◌, ◌+◌, ℕ, Bool, true, false, not, cond, ◌==◌, Option, Some, None, List, [], ◌∷◌, ◌++◌, length, set, get_or, refl, ap, sym, subst, ◌∙◌, arith, nat_lt, nat_cmp, Vec}
use Rattle.std.specs.Prelude.{position}
use Rattle.std.specs.List.{position_or_len}
use Rattle.std.specs.Ordering.{is_eq}
use Rattle.std.specs.Option.{option_or, option_map}
use Rattle.std.specs.Str.{bytes_eq}
use Rattle.std.specs.BTreeMap.{BTreeMap, get}
use Rattle.std.specs.Cmp.Lexicographic.{slice_cmp}
use Rattle.std.proofs.lemmas.Bool.{false_from_ne_true}
use Rattle.std.proofs.lemmas.Bool.Decides.{nat_tests}
use Rattle.std.proofs.lemmas.List.{length-append, length-set}
use Rattle.std.proofs.lemmas.List.Folds.{position_or_len_push, position_or_len-set}
use Rattle.std.proofs.lemmas.List.Quantifiers.{position-Some}
use Rattle.std.proofs.lemmas.List.Sums.{prefix_len-le-length}
use Rattle.std.proofs.lemmas.Map.Text.{is_eq-slice_cmp}
use Rattle.std.proofs.lemmas.Slice.Eq.{bytes_eq-Decides}
use Rattle.pr_words.specs.Values.{variable_name}
use Rattle.pr_words.specs.Variables.{same_name, with_variable}
use Rattle.pr_words.specs.Kept.{has_name, IsIndex}
use Rattle.pr_words.proofs.VariableLemmas.{put_at, put_last}

-- ---- the first text that passes a test, where one more stands behind

pushed : (n len : ℕ) (b : Bool) → n ≤ len
    → cond (nat_lt (cond (n == len) (len + cond b 0 1) n) (len + 1)) (Some (cond (n == len) (len + cond b 0 1) n)) None
    ≡ cond (nat_lt n len) (Some n) (cond b (Some len) None)
pushed n len true h = grind (arith, nat_tests)
pushed n len false h = grind (arith, nat_tests)

push_position : {X : Type 0} (p : X → Bool) (xs : List X) (x : X) → position p (xs ++ x ∷ []) ≡ option_or (position p xs) (cond (p x) (Some (length xs)) None)
push_position p xs x =
    let n = position_or_len p xs in
    let one = position_or_len_push p xs x in
    let long : length (xs ++ x ∷ []) ≡ length xs + 1 = length-append xs (x ∷ []) in
    (λ i. cond (nat_lt (one i) (long i)) (Some (one i)) None) ∙ pushed n (length xs) (p x) (prefix_len-le-length (λ x. not (p x)) xs) ∙ told n (length xs) (p x)
  where
    told : (n len : ℕ) (b : Bool) → cond (nat_lt n len) (Some n) (cond b (Some len) None) ≡ option_or (cond (nat_lt n len) (Some n) None) (cond b (Some len) None)
    told n len b = elim (nat_lt n len) as (λ t. cond t (Some n) (cond b (Some len) None) ≡ option_or (cond t (Some n) None) (cond b (Some len) None)) [ true ↦ refl | false ↦ refl ]

or_none : {X : Type 0} (o : Option X) → option_or o None ≡ o
or_none None = refl
or_none (Some x) = refl

-- ---- the places of names

module _ {Z : Type 0} where
  -- a text without a name
  pub index_nameless : (texts : List (List ℕ)) (places : BTreeMap (Vec ℕ Z) ℕ) (text : List ℕ) → IsIndex texts places → variable_name text ≡ None → IsIndex (texts ++ text ∷ []) places
  index_nameless texts places text index nameless q =
      index q
      ∙ sym (or_none (position (has_name q.items) texts))
      ∙ ap (λ n. option_or (position (has_name q.items) texts) (cond (same_name (Some q.items) n) (Some (length texts)) None)) (sym nameless)
      ∙ sym (push_position (has_name q.items) texts text)

  -- one in the place of another one of its name
  pub index_set : (texts : List (List ℕ)) (places : BTreeMap (Vec ℕ Z) ℕ) (text name : List ℕ) (at : ℕ) → IsIndex texts places → variable_name text ≡ Some name → position (has_name name) texts ≡ Some at → IsIndex (set texts at text) places
  index_set texts places text name at index named found q =
      let there = position-Some (has_name name) texts at [] found in
      let same = ap (same_name (Some q.items)) (named ∙ sym (name_is (variable_name (get_or texts at [])) there.1)) in
      let one = position_or_len-set (has_name q.items) texts at text [] same in
      let long = length-set texts at text in
      index q ∙ sym (λ i. cond (nat_lt (one i) (long i)) (Some (one i)) None)
    where
      name_is : (o : Option (List ℕ)) → same_name (Some name) o ≡ true → o ≡ Some name
      name_is None h = absurd cc
      name_is (Some other) h = ap Some (sym ((bytes_eq-Decides name other).0 h))

  -- one of a new name behind the others
  pub index_push : (texts : List (List ℕ)) (old new : BTreeMap (Vec ℕ Z) ℕ) (text : List ℕ) (key : Vec ℕ Z) (number : ℕ) → IsIndex texts old → variable_name text ≡ Some key.items → position (has_name key.items) texts ≡ None → number ≡ length texts
      → ((q : Vec ℕ Z) → get (λ a b. slice_cmp nat_cmp a.items b.items) new q ≡ cond (is_eq (slice_cmp nat_cmp key.items q.items)) (Some number) (get (λ a b. slice_cmp nat_cmp a.items b.items) old q))
      → IsIndex (texts ++ text ∷ []) new
  index_push texts old new text key number index named none long updated q =
      updated q
      ∙ (λ i. cond (is_eq-slice_cmp key.items q.items i) (Some (long i)) (index q i))
      ∙ at (bytes_eq key.items q.items) refl
      ∙ ap (λ n. option_or (position (has_name q.items) texts) (cond (same_name (Some q.items) n) (Some (length texts)) None)) (sym named)
      ∙ sym (push_position (has_name q.items) texts text)
    where
      at : (t : Bool) → bytes_eq key.items q.items ≡ t
          → cond t (Some (length texts)) (position (has_name q.items) texts) ≡ option_or (position (has_name q.items) texts) (cond (bytes_eq q.items key.items) (Some (length texts)) None)
      at true h =
          let same : key.items ≡ q.items = (bytes_eq-Decides key.items q.items).0 h in
          let gone : position (has_name q.items) texts ≡ None = (let P : List ℕ → Type 0 = λ name. position (has_name name) texts ≡ None in subst P same none) in
          let here : bytes_eq q.items key.items ≡ true = (bytes_eq-Decides q.items key.items).1 (sym same) in
          sym (λ i. option_or (gone i) (cond (here i) (Some (length texts)) None))
      at false h =
          let other : bytes_eq q.items key.items ≡ false = false_from_ne_true _ (λ f.
          let same : q.items ≡ key.items = (bytes_eq-Decides q.items key.items).0 f in
          let one : bytes_eq key.items q.items ≡ true = (bytes_eq-Decides key.items q.items).1 (sym same) in
          let never : true ≡ false = sym one ∙ h in cc) in
          sym (ap (λ t. option_or (position (has_name q.items) texts) (cond t (Some (length texts)) None)) other ∙ or_none _)

-- ---- the variable that is put

-- the name that a copy of it holds
pub copied_name : {Z : Type 0} (o : Option (Vec ℕ Z)) (name : Vec ℕ Z) (text : List ℕ) → option_map (λ v. v.items) o ≡ variable_name text → o ≡ Some name → variable_name text ≡ Some name.items
copied_name o name text e f = sym e ∙ ap (option_map (λ v. v.items)) f

pub copied_none : {Z : Type 0} (o : Option (Vec ℕ Z)) (text : List ℕ) → option_map (λ v. v.items) o ≡ variable_name text → o ≡ None → variable_name text ≡ None
copied_none o text e f = sym e ∙ ap (option_map (λ v. v.items)) f

-- in the place of the one with its name
pub put_named : (texts : List (List ℕ)) (text name : List ℕ) (at : ℕ) → variable_name text ≡ Some name → position (has_name name) texts ≡ Some at → set texts at text ≡ with_variable text texts
put_named texts text name at named found = put_at text texts at (ap (λ n. position (λ other. same_name n (variable_name other)) texts) named ∙ found)

-- behind the others
pub put_new : (texts : List (List ℕ)) (text name : List ℕ) → variable_name text ≡ Some name → position (has_name name) texts ≡ None → texts ++ text ∷ [] ≡ with_variable text texts
put_new texts text name named none = put_last text texts (ap (λ n. position (λ other. same_name n (variable_name other)) texts) named ∙ none)

pub put_nameless : (texts : List (List ℕ)) (text : List ℕ) → variable_name text ≡ None → texts ++ text ∷ [] ≡ with_variable text texts
put_nameless [] text nameless = refl
put_nameless (other ∷ texts) text nameless =
    ap (λ l. other ∷ l) (put_nameless texts text nameless)
    ∙ sym (ap (λ n. cond (same_name n (variable_name other)) (text ∷ texts) (other ∷ with_variable text texts)) nameless)
