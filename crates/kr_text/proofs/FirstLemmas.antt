-- The first names of files among those that were written.
use Rattle.std.proofs.Common.{◌≡◌, ◌≢◌, ℕ, true, false, cond, List, [], ◌∷◌, ◌++◌, Option, Some, None, refl, sym, ap, ◌∙◌, eq-eqb}
use Rattle.std.specs.Prelude.{nat_eq, is_some}
use Rattle.std.specs.BTreeMap.{BTreeMap, get, Updates}
use Rattle.std.specs.List.{find}
use Rattle.std.specs.Option.{option_map}
use Rattle.std.specs.Ordering.{nat_cmp}
use Rattle.std.proofs.lemmas.Bool.{ne_eqb}
use Rattle.kr_tree.specs.Tree.{Tree, body_is, is_file}
use Rattle.kr_tree.proofs.pr_base.MapLemmas.{by_key, ties-other}
use Rattle.kr_text.specs.declared.names.Named.{Named}
use Rattle.kr_text.specs.Canonical.{first_name}
use Rattle.kr_text.specs.FirstNames.{AreFirst, has_several, kept_name}

first_stays : (i : ℕ) (earlier : List Named) (x : Named) (path : List (List ℕ)) → first_name i earlier ≡ Some path → first_name i (earlier ++ x ∷ []) ≡ Some path
first_stays i [] x path is = cc
first_stays i (n ∷ earlier) x path is =
    elim (nat_eq n.ino i) as (λ b. option_map (λ m. m.path) (cond b (Some n) (find (λ m. nat_eq m.ino i) earlier)) ≡ Some path → option_map (λ m. m.path) (cond b (Some n) (find (λ m. nat_eq m.ino i) (earlier ++ x ∷ []))) ≡ Some path)
    [ true ↦ λ e. e | false ↦ λ e. first_stays i earlier x path e ] is

first_here : (earlier : List Named) (x : Named) → first_name x.ino earlier ≡ None → first_name x.ino (earlier ++ x ∷ []) ≡ Some x.path
first_here [] x none = rw (eq-eqb x.ino x.ino refl) refl
first_here (n ∷ earlier) x none =
    elim (nat_eq n.ino x.ino) as (λ b. option_map (λ m. m.path) (cond b (Some n) (find (λ m. nat_eq m.ino x.ino) earlier)) ≡ None → option_map (λ m. m.path) (cond b (Some n) (find (λ m. nat_eq m.ino x.ino) (earlier ++ x ∷ []))) ≡ Some x.path)
    [ true ↦ λ e. cc | false ↦ λ e. first_here earlier x e ] none

first_elsewhere : (i : ℕ) (earlier : List Named) (x : Named) → x.ino ≢ i → first_name i (earlier ++ x ∷ []) ≡ first_name i earlier
first_elsewhere i [] x other = rw (ne_eqb x.ino i other) refl
first_elsewhere i (n ∷ earlier) x other =
    elim (nat_eq n.ino i) as (λ b. option_map (λ m. m.path) (cond b (Some n) (find (λ m. nat_eq m.ino i) (earlier ++ x ∷ []))) ≡ option_map (λ m. m.path) (cond b (Some n) (find (λ m. nat_eq m.ino i) earlier)))
    [ true ↦ refl | false ↦ first_elsewhere i earlier x other ]

unknown : {A : Type 0} (o : Option A) → is_some o ≡ false → o ≡ None
unknown None e = refl
unknown (Some x) e = cc

kept_elsewhere : (t : Tree) (i : ℕ) (earlier : List Named) (x : Named) → x.ino ≢ i → kept_name t i (earlier ++ x ∷ []) ≡ kept_name t i earlier
kept_elsewhere t i earlier x other = ap (λ path. cond (has_several t i) path None) (first_elsewhere i earlier x other)

kept_of_several : (t : Tree) (i : ℕ) (names : List Named) → has_several t i ≡ true → kept_name t i names ≡ first_name i names
kept_of_several t i names several = ap (λ b. cond b (first_name i names) None) several

kept_of_one : (t : Tree) (i : ℕ) (names : List Named) → has_several t i ≡ false → kept_name t i names ≡ None
kept_of_one t i names one = ap (λ b. cond b (first_name i names) None) one

-- a name of what has several, of which none was noted yet
pub first_noted : (t : Tree) (m n : BTreeMap ℕ (List (List ℕ))) (x : Named) → has_several t x.ino ≡ true → is_some (get nat_cmp m x.ino) ≡ false → Updates nat_cmp m n x.ino (Some x.path)
    → (earlier : List Named) → AreFirst t m earlier → AreFirst t n (earlier ++ x ∷ [])
first_noted t m n x several none updates earlier first =
    by_key (λ i. body_is is_file t i ≡ true → get nat_cmp n i ≡ kept_name t i (earlier ++ x ∷ [])) x.ino
    (λ file. updates.1 ∙ sym (first_here earlier x (sym (first x.ino file ∙ kept_of_several t x.ino earlier several) ∙ unknown (get nat_cmp m x.ino) none)) ∙ sym (kept_of_several t x.ino (earlier ++ x ∷ []) several))
    (λ i other f. updates.2 i (ties-other x.ino i (λ e. other (sym e))) ∙ first i f ∙ sym (kept_elsewhere t i earlier x (λ e. other (sym e))))

-- a name of what has several, of which one was noted
pub first_already : (t : Tree) (m : BTreeMap ℕ (List (List ℕ))) (x : Named) → has_several t x.ino ≡ true → is_some (get nat_cmp m x.ino) ≡ true → (earlier : List Named) → AreFirst t m earlier → AreFirst t m (earlier ++ x ∷ [])
first_already t m x several there earlier first =
    by_key (λ i. body_is is_file t i ≡ true → get nat_cmp m i ≡ kept_name t i (earlier ++ x ∷ [])) x.ino
    (λ f. go (get nat_cmp m x.ino) refl there f ∙ sym (kept_of_several t x.ino (earlier ++ x ∷ []) several))
    (λ i other f. first i f ∙ sym (kept_elsewhere t i earlier x (λ e. other (sym e))))
  where
    go : (o : Option (List (List ℕ))) → get nat_cmp m x.ino ≡ o → is_some o ≡ true → body_is is_file t x.ino ≡ true → get nat_cmp m x.ino ≡ first_name x.ino (earlier ++ x ∷ [])
    go None e is f = cc
    go (Some path) e is f = e ∙ sym (first_stays x.ino earlier x path (sym (first x.ino f ∙ kept_of_several t x.ino earlier several) ∙ e))

-- the name of what has one
pub first_of_one : (t : Tree) (m : BTreeMap ℕ (List (List ℕ))) (x : Named) → has_several t x.ino ≡ false → (earlier : List Named) → AreFirst t m earlier → AreFirst t m (earlier ++ x ∷ [])
first_of_one t m x one earlier first =
    by_key (λ i. body_is is_file t i ≡ true → get nat_cmp m i ≡ kept_name t i (earlier ++ x ∷ [])) x.ino
    (λ f. first x.ino f ∙ kept_of_one t x.ino earlier one ∙ sym (kept_of_one t x.ino (earlier ++ x ∷ []) one))
    (λ i other f. first i f ∙ sym (kept_elsewhere t i earlier x (λ e. other (sym e))))

-- a name of what is no file
pub first_of_others : (t : Tree) (m : BTreeMap ℕ (List (List ℕ))) (x : Named) → body_is is_file t x.ino ≡ false → (earlier : List Named) → AreFirst t m earlier → AreFirst t m (earlier ++ x ∷ [])
first_of_others t m x other earlier first i f =
    first i f ∙ sym (kept_elsewhere t i earlier x (λ same. apart same f))
  where
    apart : x.ino ≡ i → body_is is_file t i ≡ true → ⊥
    apart same is = let no : body_is is_file t i ≡ false = sym (ap (body_is is_file t) same) ∙ other in cc
