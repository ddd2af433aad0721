-- How the places of mount points are kept, mount by mount.
use Rattle.std.proofs.Common.{◌≡◌, ◌≤◌, ◌<◌, ◌+◌, ◌&&◌, ℕ, Bool, true, false, not, cond, ◌==◌, Option, Some, None, is_some, List, [], ◌∷◌, ◌++◌, length, get_or, refl, ap, sym, ◌∙◌, arith, nat_lt, nat_cmp, Vec, bytes_eq}
use Rattle.std.specs.Prelude.{position}
use Rattle.std.specs.List.{position_or_len}
use Rattle.std.specs.Option.{unwrap_or, option_or, option_map_or}
use Rattle.std.specs.Ordering.{is_eq, ordering_then}
use Rattle.std.specs.declared.cmp.Ordering.{Ordering}
use Rattle.std.specs.declared.cmp.Ordering.TheVariants.{Less, Equal, Greater}
use Rattle.std.specs.BTreeMap.{BTreeMap, get}
use Rattle.std.proofs.lemmas.Bool.{and_parts, false_from_ne_true, eqb-true, eq-eqb}
use Rattle.std.proofs.lemmas.Bool.Decides.{nat_tests}
use Rattle.std.proofs.lemmas.List.{length-append}
use Rattle.std.proofs.lemmas.List.Folds.{position_or_len_push}
use Rattle.std.proofs.lemmas.List.Sums.{prefix_len-le-length, fails_before_first}
use Rattle.std.proofs.lemmas.List.Quantifiers.{position-Some}
use Rattle.std.proofs.lemmas.Slice.Eq.{bytes_eq-Decides}
use Rattle.kr_walk.specs.kr_view.View.{Point, Row, plain_row, covered, is_name_at, is_point, is_there, stands_at}
use Rattle.pt_bind.specs.Kept.{IsNoted}
use Rattle.kr_mounts.specs.declared.mounted.PointKey.{PointKey}
use Rattle.kr_mounts.specs.declared.mounted.EntryKey.{EntryKey}
use Rattle.kr_mounts.specs.Index.{has_name, name_number, point_cmp, entry_cmp, IsIndexOf, IsNameNoted, IsKeyNoted}
use Rattle.kr_walk.proofs.kr_tree.NameLemmas.{some_is}

-- ---- the first row that passes a test, with one row more

pushed : (n len : ℕ) (b : Bool) → n ≤ len
    → cond (nat_lt (cond (n == len) (len + cond b 0 1) n) (len + 1)) (Some (cond (n == len) (len + cond b 0 1) n)) None
    ≡ cond (nat_lt n len) (Some n) (cond b (Some len) None)
pushed n len true h = grind (arith, nat_tests)
pushed n len false h = grind (arith, nat_tests)

pub position_push : {X : Type 0} (p : X → Bool) (xs : List X) (x : X) → position p (xs ++ x ∷ []) ≡ option_or (position p xs) (cond (p x) (Some (length xs)) None)
position_push p xs x =
    let n = position_or_len p xs in
    let one = position_or_len_push p xs x in
    let long : length (xs ++ x ∷ []) ≡ length xs + 1 = length-append xs (x ∷ []) in
    (λ i. cond (nat_lt (one i) (long i)) (Some (one i)) None) ∙ pushed n (length xs) (p x) (prefix_len-le-length (λ x. not (p x)) xs) ∙ told n (length xs) (p x)
  where
    told : (n len : ℕ) (b : Bool) → cond (nat_lt n len) (Some n) (cond b (Some len) None) ≡ option_or (cond (nat_lt n len) (Some n) None) (cond b (Some len) None)
    told n len b = elim (nat_lt n len) as (λ t. cond t (Some n) (cond b (Some len) None) ≡ option_or (cond t (Some n) None) (cond b (Some len) None)) [ true ↦ refl | false ↦ refl ]

-- where none passes a test, none passes one that asks for more
none_more : {X : Type 0} (p q : X → Bool) (d : X) (xs : List X) → ((x : X) → q x ≡ true → p x ≡ true) → position p xs ≡ None → position q xs ≡ None
none_more p q d xs more none = at (position q xs) refl
  where
    past : (b : Bool) (n : ℕ) → cond b (Some n) None ≡ None → b ≡ false
    past true n h = absurd cc
    past false n h = refl

    far : (n len k : ℕ) → nat_lt n len ≡ false → k < len → k < n
    far n len k h l = grind (arith, nat_tests)

    at : (o : Option ℕ) → position q xs ≡ o → o ≡ None
    at None h = refl
    at (Some k) h =
        let found = position-Some q xs k d h in
        let fails : p (get_or xs k d) ≡ false = fails_before_first p xs k d (far (position_or_len p xs) (length xs) k (past (nat_lt (position_or_len p xs) (length xs)) (position_or_len p xs) none) found.0) in
        let clash : true ≡ false = sym (more (get_or xs k d) found.1) ∙ fails in absurd cc

option_or_none : {X : Type 0} (o : Option X) → option_or o None ≡ o
option_or_none None = refl
option_or_none (Some x) = refl

-- ---- the first mount at a name, by what more is known of its point

module _ (R : List Row) (numbers : List ℕ → Option ℕ) (is : (name : List ℕ) → numbers name ≡ position (stands_at (has_name name)) R) where
  below_length : (name : List ℕ) (n : ℕ) → numbers name ≡ Some n → n < length R
  below_length name n h = (position-Some (stands_at (has_name name)) R n plain_row (sym (is name) ∙ h)).0

  -- two names with one number are one
  one_name : (a b : List ℕ) (n : ℕ) → numbers a ≡ Some n → numbers b ≡ Some n → a ≡ b
  one_name a b n h k =
      let one = (position-Some (stands_at (has_name a)) R n plain_row (sym (is a) ∙ h)).1 in
      let two = (position-Some (stands_at (has_name b)) R n plain_row (sym (is b) ∙ k)).1 in
      at (get_or R n plain_row).point one two
    where
      at : (o : Option Point) → option_map_or (has_name a) o false ≡ true → option_map_or (has_name b) o false ≡ true → a ≡ b
      at None h k = absurd cc
      at (Some p) h k = sym ((bytes_eq-Decides p.name a).0 h) ∙ (bytes_eq-Decides p.name b).0 k

-- ---- a mount more, in a map by the number of its point's name and by more

module _ {K X : Type 0} (cmp : K → K → Ordering) (key : ℕ → X → K) (same : X → X → Bool) (tells : (n m : ℕ) (x y : X) → is_eq (cmp (key n x) (key m y)) ≡ (n == m) && same x y)
    (at : X → List ℕ → Point → Bool) (part : Point → X) (tests : (x : X) (name : List ℕ) (p : Point) → at x name p ≡ same (part p) x && bytes_eq p.name name) where
  has_its_name : (x : X) (name : List ℕ) (r : Row) → stands_at (at x name) r ≡ true → stands_at (has_name name) r ≡ true
  has_its_name x name r h = go r.point h
    where
      go : (o : Option Point) → option_map_or (at x name) o false ≡ true → option_map_or (has_name name) o false ≡ true
      go None h = absurd cc
      go (Some p) h = (and_parts (same (part p) x) (bytes_eq p.name name) (sym (tests x name p) ∙ h)).1

  module _ {Z : Type 0} (R : List Row) (r : Row) (p : Point) (here : r.point ≡ Some p) (old new : BTreeMap (Vec ℕ Z) ℕ) (n : ℕ) (is : (name : List ℕ) → name_number old name ≡ position (stands_at (has_name name)) R)
      (noted : IsNameNoted old p.name (length R) new n) (m w : BTreeMap K ℕ) (kept : IsKeyNoted cmp m (key n (part p)) (length R) w)
      (found : (x : X) (name : List ℕ) (k : ℕ) → name_number old name ≡ Some k → get cmp m (key k x) ≡ position (stands_at (at x name)) R) (free : (x : X) (k : ℕ) → length R ≤ k → get cmp m (key k x) ≡ None) where
    -- what is kept for the point's name
    was : (x : X) → get cmp m (key n x) ≡ position (stands_at (at x p.name)) R
    was x = go (name_number old p.name) refl noted.given
      where
        go : (o : Option ℕ) → name_number old p.name ≡ o → n ≡ unwrap_or o (length R) → get cmp m (key n x) ≡ position (stands_at (at x p.name)) R
        go (Some k) h e = ap (λ k. get cmp m (key k x)) e ∙ found x p.name k h
        go None h e =
            ap (λ k. get cmp m (key k x)) e ∙ free x (length R) (omega arith)
            ∙ sym (none_more (stands_at (has_name p.name)) (stands_at (at x p.name)) plain_row R (has_its_name x p.name) (sym (is p.name) ∙ h))

    least : n ≤ length R
    least = go (name_number old p.name) refl noted.given
      where
        go : (o : Option ℕ) → name_number old p.name ≡ o → n ≡ unwrap_or o (length R) → n ≤ length R
        go None h e = omega (arith, e)
        go (Some k) h e = let l = below_length R (name_number old) is p.name k h in omega (arith, l, e)

    apart : (name : List ℕ) (k : ℕ) → name_number old name ≡ Some k → bytes_eq p.name name ≡ false → n == k ≡ false
    apart name k h other = go (name_number old p.name) refl noted.given
      where
        go : (o : Option ℕ) → name_number old p.name ≡ o → n ≡ unwrap_or o (length R) → n == k ≡ false
        go None g e = false_from_ne_true _ (λ t. let l = below_length R (name_number old) is name k h in let s : n ≡ k = eqb-true n k t in omega (arith, l, e, s))
        go (Some j) g e =
            false_from_ne_true _ (λ t.
            let s : n ≡ k = eqb-true n k t in
            let one : p.name ≡ name = one_name R (name_number old) is p.name name k (g ∙ ap Some (sym e ∙ s)) h in
            let clash : true ≡ false = sym ((bytes_eq-Decides p.name name).1 one) ∙ other in cc)

    passes : (x : X) (name : List ℕ) → stands_at (at x name) r ≡ same (part p) x && bytes_eq p.name name
    passes x name = ap (λ o. option_map_or (at x name) o false) here ∙ tests x name p

    kept_at : (x : X) (k : ℕ) → get cmp w (key k x) ≡ cond ((n == k) && same (part p) x) (Some (unwrap_or (get cmp m (key k x)) (length R))) (get cmp m (key k x))
    kept_at x k = kept (key k x) ∙ ap (λ b. cond b (Some (unwrap_or (get cmp m (key k x)) (length R))) (get cmp m (key k x))) (tells n k (part p) x)

    pub found_more : (x : X) (name : List ℕ) (k : ℕ) → name_number new name ≡ Some k → get cmp w (key k x) ≡ position (stands_at (at x name)) (R ++ r ∷ [])
    found_more x name k h =
        kept_at x k ∙ go (bytes_eq p.name name) refl
        ∙ sym (position_push (stands_at (at x name)) R r ∙ ap (λ b. option_or (position (stands_at (at x name)) R) (cond b (Some (length R)) None)) (passes x name))
      where
        joined : (s : Bool) (o : Option ℕ) → cond (true && s) (Some (unwrap_or o (length R))) o ≡ option_or o (cond (s && true) (Some (length R)) None)
        joined true None = refl
        joined true (Some k) = refl
        joined false None = refl
        joined false (Some k) = refl

        left : (s : Bool) (o : Option ℕ) → o ≡ option_or o (cond (s && false) (Some (length R)) None)
        left true o = sym (option_or_none o)
        left false o = sym (option_or_none o)

        go : (b : Bool) → bytes_eq p.name name ≡ b
            → cond ((n == k) && same (part p) x) (Some (unwrap_or (get cmp m (key k x)) (length R))) (get cmp m (key k x))
            ≡ option_or (position (stands_at (at x name)) R) (cond (same (part p) x && bytes_eq p.name name) (Some (length R)) None)
        go true e =
            let one : p.name ≡ name = (bytes_eq-Decides p.name name).0 e in
            let number : Some (unwrap_or (name_number old name) (length R)) ≡ Some k = sym (noted.noted name ∙ ap (λ b. cond b (Some (unwrap_or (name_number old name) (length R))) (name_number old name)) e) ∙ h in
            let is_n : n ≡ k = noted.given ∙ ap (λ a. unwrap_or (name_number old a) (length R)) one ∙ some_is _ _ number in
            let value : get cmp m (key k x) ≡ position (stands_at (at x name)) R = ap (λ k. get cmp m (key k x)) (sym is_n) ∙ was x ∙ ap (λ a. position (stands_at (at x a)) R) one in
            (λ i. cond (eq-eqb n k is_n i && same (part p) x) (Some (unwrap_or (value i) (length R))) (value i))
            ∙ joined (same (part p) x) (position (stands_at (at x name)) R)
            ∙ ap (λ b. option_or (position (stands_at (at x name)) R) (cond (same (part p) x && b) (Some (length R)) None)) (sym e)
        go false e =
            let number : name_number old name ≡ Some k = sym (noted.noted name ∙ ap (λ b. cond b (Some (unwrap_or (name_number old name) (length R))) (name_number old name)) e) ∙ h in
            ap (λ b. cond (b && same (part p) x) (Some (unwrap_or (get cmp m (key k x)) (length R))) (get cmp m (key k x))) (apart name k number e)
            ∙ found x name k number
            ∙ left (same (part p) x) (position (stands_at (at x name)) R)
            ∙ ap (λ b. option_or (position (stands_at (at x name)) R) (cond (same (part p) x && b) (Some (length R)) None)) (sym e)

    pub free_more : (x : X) (k : ℕ) → length (R ++ r ∷ []) ≤ k → get cmp w (key k x) ≡ None
    free_more x k h =
        let longer : length (R ++ r ∷ []) ≡ length R + 1 = length-append R (r ∷ []) in
        let other : n == k ≡ false = false_from_ne_true _ (λ t. let s : n ≡ k = eqb-true n k t in let l = least in omega (arith, l, s, h, longer)) in
        kept_at x k ∙ ap (λ b. cond (b && same (part p) x) (Some (unwrap_or (get cmp m (key k x)) (length R))) (get cmp m (key k x))) other
        ∙ free x k (omega (arith, h, longer))

-- ---- keys are told apart by their parts

abbrev point_key : ℕ → ℕ × ℕ → PointKey
point_key k x = record { mount = x.0; dir = x.1; name = k }

abbrev entry_key : ℕ → ℕ → EntryKey
entry_key k dir = record { dir = dir; name = k }

abbrev same_part : ℕ × ℕ → ℕ × ℕ → Bool
same_part x y = (x.0 == y.0) && (x.1 == y.1)

abbrev same_dir : ℕ → ℕ → Bool
same_dir x y = x == y

abbrev point_at : ℕ × ℕ → List ℕ → Point → Bool
point_at x name q = is_point x.0 x.1 name q

abbrev entry_at : ℕ → List ℕ → Point → Bool
entry_at dir name q = is_name_at dir name q

abbrev part_of : Point → ℕ × ℕ
part_of q = (q.mount, q.dir)

abbrev dir_of : Point → ℕ
dir_of q = q.dir

three : (a b c : Bool) → (a && (b && c)) ≡ ((a && b) && c)
three true b c = refl
three false b c = refl

turned : (a b c : Bool) → (a && (b && c)) ≡ (c && (a && b))
turned true true true = refl
turned true true false = refl
turned true false true = refl
turned true false false = refl
turned false true true = refl
turned false true false = refl
turned false false true = refl
turned false false false = refl

swapped : (a b : Bool) → (a && b) ≡ (b && a)
swapped true true = refl
swapped true false = refl
swapped false true = refl
swapped false false = refl

then_eq : (o q : Ordering) → is_eq (ordering_then o q) ≡ (is_eq o && is_eq q)
then_eq Less q = refl
then_eq Equal q = refl
then_eq Greater q = refl

nat_is : (a b : ℕ) → is_eq (nat_cmp a b) ≡ (a == b)
nat_is a b = at (nat_lt a b) refl (a == b) refl
  where
    apart : nat_lt a b ≡ true → (a == b) ≡ true → ⊥
    apart l e = let s : a ≡ b = eqb-true a b e in let less : a < b = below a b l in omega (arith, s, less)
      where
        below : (a b : ℕ) → nat_lt a b ≡ true → a < b
        below a b l = grind (arith, nat_tests)

    at : (l : Bool) → nat_lt a b ≡ l → (e : Bool) → (a == b) ≡ e → is_eq (cond l Less (cond e Equal Greater)) ≡ e
    at true l true e = absurd (apart l e)
    at true l false e = refl
    at false l true e = refl
    at false l false e = refl

point_tells : (k m : ℕ) (x y : ℕ × ℕ) → is_eq (point_cmp (point_key k x) (point_key m y)) ≡ ((k == m) && same_part x y)
point_tells k m x y =
    then_eq (nat_cmp x.0 y.0) (ordering_then (nat_cmp x.1 y.1) (nat_cmp k m))
    ∙ (λ i. nat_is x.0 y.0 i && (then_eq (nat_cmp x.1 y.1) (nat_cmp k m) i))
    ∙ (λ i. (x.0 == y.0) && (nat_is x.1 y.1 i && nat_is k m i))
    ∙ turned (x.0 == y.0) (x.1 == y.1) (k == m)

entry_tells : (k m x y : ℕ) → is_eq (entry_cmp (entry_key k x) (entry_key m y)) ≡ ((k == m) && same_dir x y)
entry_tells k m x y = then_eq (nat_cmp x y) (nat_cmp k m) ∙ (λ i. nat_is x y i && nat_is k m i) ∙ swapped (x == y) (k == m)

point_test : (x : ℕ × ℕ) (name : List ℕ) (q : Point) → point_at x name q ≡ (same_part (part_of q) x && bytes_eq q.name name)
point_test x name q = three (q.mount == x.0) (q.dir == x.1) (bytes_eq q.name name)

entry_test : (x : ℕ) (name : List ℕ) (q : Point) → entry_at x name q ≡ (same_dir (dir_of q) x && bytes_eq q.name name)
entry_test x name q = refl

-- ---- a table with one mount more

module _ {Z : Type 0} (table : List Row) (r : Row) (old new : BTreeMap (Vec ℕ Z) ℕ) (points more_points : BTreeMap PointKey ℕ) (entries more_entries : BTreeMap EntryKey ℕ) (index : IsIndexOf table old points entries) where
  named_more : (p : Point) → r.point ≡ Some p → IsNoted old p.name (length table) new → (name : List ℕ) → name_number new name ≡ position (stands_at (has_name name)) (table ++ r ∷ [])
  named_more p here noted name =
      noted name ∙ go (bytes_eq p.name name) (name_number old name)
      ∙ ap (λ o. option_or o (cond (bytes_eq p.name name) (Some (length table)) None)) (index.named name)
      ∙ sym (position_push (stands_at (has_name name)) table r ∙ ap (λ o. option_or (position (stands_at (has_name name)) table) (cond (option_map_or (has_name name) o false) (Some (length table)) None)) here)
    where
      go : (b : Bool) (o : Option ℕ) → cond b (Some (unwrap_or o (length table))) o ≡ option_or o (cond b (Some (length table)) None)
      go true None = refl
      go true (Some k) = refl
      go false o = sym (option_or_none o)

  module _ (p : Point) (n : ℕ) (here : r.point ≡ Some p) (noted : IsNameNoted old p.name (length table) new n)
      (pointed : IsKeyNoted point_cmp points (record { mount = p.mount; dir = p.dir; name = n }) (length table) more_points)
      (entered : IsKeyNoted entry_cmp entries (record { dir = p.dir; name = n }) (length table) more_entries) where
    points_kept : (x : ℕ × ℕ) (name : List ℕ) (k : ℕ) → name_number old name ≡ Some k → get point_cmp points (point_key k x) ≡ position (stands_at (point_at x name)) table
    points_kept x name k h = index.pointed x.0 x.1 name k h

    points_free : (x : ℕ × ℕ) (k : ℕ) → length table ≤ k → get point_cmp points (point_key k x) ≡ None
    points_free x k h = index.no_point x.0 x.1 k h

    pub index_more : IsIndexOf (table ++ r ∷ []) new more_points more_entries
    index_more = record {
      named = named_more p here noted.noted;
      pointed = λ mount dir name k h.
          found_more point_cmp point_key same_part point_tells point_at part_of point_test table r p here old new n index.named noted points more_points pointed points_kept points_free (mount, dir) name k h;
      entered = λ dir name k h.
          found_more entry_cmp entry_key same_dir entry_tells entry_at dir_of entry_test table r p here old new n index.named noted entries more_entries entered index.entered index.no_entry dir name k h;
      no_point = λ mount dir k h.
          free_more point_cmp point_key same_part point_tells point_at part_of point_test table r p here old new n index.named noted points more_points pointed points_kept points_free (mount, dir) k h;
      no_entry = λ dir k h.
          free_more entry_cmp entry_key same_dir entry_tells entry_at dir_of entry_test table r p here old new n index.named noted entries more_entries entered index.entered index.no_entry dir k h;
    }

  -- a mount without a point changes nothing
  pub index_same : r.point ≡ None → IsIndexOf (table ++ r ∷ []) old points entries
  index_same none = record {
    named = λ name. index.named name ∙ sym (kept (has_name name));
    pointed = λ mount dir name k h. index.pointed mount dir name k h ∙ sym (kept (is_point mount dir name));
    entered = λ dir name k h. index.entered dir name k h ∙ sym (kept (is_name_at dir name));
    no_point = λ mount dir k h. index.no_point mount dir k (omega (arith, length-append table (r ∷ []), h));
    no_entry = λ dir k h. index.no_entry dir k (omega (arith, length-append table (r ∷ []), h));
  }
    where
      kept : (test : Point → Bool) → position (stands_at test) (table ++ r ∷ []) ≡ position (stands_at test) table
      kept test =
          position_push (stands_at test) table r
          ∙ ap (λ o. option_or (position (stands_at test) table) (cond (option_map_or test o false) (Some (length table)) None)) none
          ∙ option_or_none (position (stands_at test) table)

-- ---- what the maps tell

named_by : (test : Point → Bool) (name : List ℕ) → ((p : Point) → test p ≡ true → has_name name p ≡ true) → (r : Row) → stands_at test r ≡ true → stands_at (has_name name) r ≡ true
named_by test name more r h = go r.point h
  where
    go : (o : Option Point) → option_map_or test o false ≡ true → option_map_or (has_name name) o false ≡ true
    go None h = absurd cc
    go (Some p) h = more p h

second : (a b : Bool) → (a && b) ≡ true → b ≡ true
second true b h = h
second false b h = absurd cc

module _ {Z : Type 0} (table : List Row) (names : BTreeMap (Vec ℕ Z) ℕ) (points : BTreeMap PointKey ℕ) (entries : BTreeMap EntryKey ℕ) (index : IsIndexOf table names points entries) where
  -- at a name without a number no mount stands
  pub no_point_there : (mount dir : ℕ) (name : List ℕ) → name_number names name ≡ None → position (stands_at (is_point mount dir name)) table ≡ None
  no_point_there mount dir name none =
      none_more (stands_at (has_name name)) (stands_at (is_point mount dir name)) plain_row table
      (named_by (is_point mount dir name) name (λ p h. second (p.dir == dir) (bytes_eq p.name name) (second (p.mount == mount) (is_name_at dir name p) h)))
      (sym (index.named name) ∙ none)

  pub no_entry_there : (dir : ℕ) (name : List ℕ) → name_number names name ≡ None → position (stands_at (is_name_at dir name)) table ≡ None
  no_entry_there dir name none =
      none_more (stands_at (has_name name)) (stands_at (is_name_at dir name)) plain_row table
      (named_by (is_name_at dir name) name (λ p h. second (p.dir == dir) (bytes_eq p.name name) h)) (sym (index.named name) ∙ none)

  pub not_covered : (dir : ℕ) (name : List ℕ) → name_number names name ≡ None → covered table dir name ≡ false
  not_covered dir name none = ap is_there (no_entry_there dir name none)

  pub covered_is : (dir n : ℕ) (name : List ℕ) → name_number names name ≡ Some n → is_some (get entry_cmp entries (record { dir = dir; name = n })) ≡ covered table dir name
  covered_is dir n name h = ap is_some (index.entered dir name n h) ∙ alike (position (stands_at (is_name_at dir name)) table)
    where
      alike : (o : Option ℕ) → is_some o ≡ is_there o
      alike None = refl
      alike (Some k) = refl
