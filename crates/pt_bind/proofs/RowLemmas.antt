-- What the rows of a table tell of a text: which of them owns it, and its host text.
use Rattle.std.proofs.Common.{◌≡◌, ◌≢◌, ◌<◌, ◌≤◌, ◌+◌, ℕ, zero, suc, Bool, true, false, not, cond, Option, Some, None, List, [], ◌∷◌, ◌++◌, map, length, drop, take, get_or, reverse, refl, ap, sym, subst, ◌∙◌, arith, nat_lt, nat_eq, ◌||◌, All, IfSome, append-nil}
use Rattle.std.specs.Prelude.{position}
use Rattle.std.specs.Bool.{Decides}
use Rattle.std.specs.List.{position_or_len, find, list_any}
use Rattle.std.specs.Option.{option_map, option_map_or, option_and_then}
use Rattle.std.specs.Str.{bytes_eq}
use Rattle.std.proofs.lemmas.Bool.{false_from_ne_true}
use Rattle.std.proofs.lemmas.Bool.Decides.{same_from_decides}
use Rattle.std.proofs.lemmas.Grind.{reverse_onto}
use Rattle.std.proofs.lemmas.Option.{slice_get-get_or, slice_get-map}
use Rattle.std.proofs.lemmas.List.{length-append, length-map, append_assoc, reverse-append, reverse-reverse}
use Rattle.std.proofs.lemmas.List.Elements.{All-nil, All-cons, All-head, All-tail, All-map}
use Rattle.std.proofs.lemmas.List.Quantifiers.{position-Some}
use Rattle.std.proofs.lemmas.Slice.Eq.{bytes_eq-Decides, slice_eq-Decides}
use Rattle.pr_base.specs.MountText.{MountText, bound_of}
use Rattle.pr_base.specs.Paths.{IsPart, AreParts, parts_of, below_root, text_of}
use Rattle.pr_base.specs.Texts.{Text, texts_eq, names_below}
use Rattle.pr_base.specs.declared.bind.Bound.{Bound}
use Rattle.pr_base.proofs.PathLemmas.{below_root_append}
use Rattle.pr_base.proofs.TextLemmas.{below_found, map_some, texts_are_told_apart}
use Rattle.pt_bind.specs.Binding.{is_located, located, source_of, number_at, owner, host_at, host_of, guest_in, guest_of, is_point, IsWritten, names_of, point_of, row_of, rows_of, AreTexts, AreSettled, AreBounds}
use Rattle.pt_bind.specs.Kept.{is_at, IsOwned, IsReadTo}
use Rattle.pt_bind.proofs.ByteLemmas.{names_written, spelled, spelled_parts, spelled_in_turn}

-- ---- rows are read back from their bytes

point_some : (bytes : List ℕ) (t : Text) → bytes ≡ text_of t → AreParts t → bytes ≢ [] → point_of bytes ≡ Some t
point_some [] t e are some = absurd (some refl)
point_some (b ∷ bytes) t e are some = ap Some (ap names_of e ∙ names_written t are)

text_some : (t : Text) → text_of t ≢ []
text_some [] none = absurd (let h : ⊥ = omega (arith, ap length none) in h)
text_some (name ∷ t) none = absurd (let h : ⊥ = omega (arith, ap length none, length-append (below_root t) (47 ∷ name)) in h)

point_read : (point : Option Text) → IfSome point AreParts → point_of (option_map_or text_of point []) ≡ point
point_read None are = refl
point_read (Some t) are = point_some (text_of t) t refl are (text_some t)

row_read : (row : MountText) → AreTexts row → row_of (bound_of row) ≡ row
row_read row are = λ i. record {
  index = row.index;
  location = names_written row.location are.location i;
  source = names_written row.source are.source i;
  point = point_read row.point are.point i;
}

pub rows_read : (table : List MountText) → All AreTexts table → rows_of (map bound_of table) ≡ table
rows_read [] are = refl
rows_read (row ∷ table) are = λ i. row_read row (All-head AreTexts row table are) i ∷ rows_read table (All-tail AreTexts row table are) i

-- ---- which row is located at a text

first_alike : (one : Bound → Bool) (two : MountText → Bool) (table : List MountText) → All (λ row. one (bound_of row) ≡ two row) table → position_or_len one (map bound_of table) ≡ position_or_len two table
first_alike one two [] h = refl
first_alike one two (row ∷ table) h =
    let here = All-head (λ row. one (bound_of row) ≡ two row) row table h in
    let rest = first_alike one two table (All-tail (λ row. one (bound_of row) ≡ two row) row table h) in
    ap (λ b. cond (not b) (1 + position_or_len one (map bound_of table)) 0) here ∙ ap (λ n. cond (not (two row)) (1 + n) 0) rest

position_alike : (one : Bound → Bool) (two : MountText → Bool) (table : List MountText) → All (λ row. one (bound_of row) ≡ two row) table → position one (map bound_of table) ≡ position two table
position_alike one two table h =
    let n = first_alike one two table h in
    ap (λ l. cond (nat_lt (position_or_len one (map bound_of table)) l) (Some (position_or_len one (map bound_of table))) None) (length-map table bound_of)
    ∙ ap (λ k. cond (nat_lt k (length table)) (Some k) None) n

pub located_is : (row : MountText) (t : Text) → Decides (is_located t row) (row.location ≡ t)
located_is row t = slice_eq-Decides bytes_eq-Decides row.location t (is_located t row) refl

row_alike : (t : Text) → AreParts t → (row : MountText) → AreTexts row → is_at (text_of t) (bound_of row) ≡ is_located t row
row_alike t are row texts =
    let bytes : Decides (is_at (text_of t) (bound_of row)) (text_of row.location ≡ text_of t) = bytes_eq-Decides (text_of row.location) (text_of t) in
    let names = located_is row t in
    same_from_decides (is_at (text_of t) (bound_of row)) (is_located t row)
    ((λ h. texts_are_told_apart row.location t texts.location are (bytes.0 h)), (λ h. bytes.1 (ap text_of h))) names

module _ (bounds : List Bound) (are : AreBounds bounds) where
  pub their_rows : rows_of bounds ≡ are.table
  their_rows = ap rows_of are.written ∙ rows_read are.table are.settled.texts

  pub rows_settled : AreSettled (rows_of bounds)
  rows_settled = subst AreSettled (sym their_rows) are.settled

  pub located_at : (t : Text) → AreParts t → position (is_at (text_of t)) bounds ≡ located (rows_of bounds) t
  located_at t parts =
      ap (position (is_at (text_of t))) are.written
      ∙ position_alike (is_at (text_of t)) (is_located t) are.table (λ k d below. row_alike t parts (get_or are.table k d) (are.settled.texts k d below))
      ∙ ap (λ table. located table t) (sym their_rows)

-- ---- a text and the one above it

module _ (table : List MountText) (set : AreSettled table) where
  pub owned_root : IsOwned table [] 0 0
  owned_root = record {
    owned = refl;
    there = let P : List MountText → Type 0 = λ rows. 0 < length rows in subst P (sym set.first) (omega arith);
    top = [];
    rest = [];
    parted = refl;
    ends = refl;
    host = refl;
  }

  pub owned_some : (name : List ℕ) (t : Text) (k end : ℕ) → located table (name ∷ t) ≡ Some k → end ≡ length (below_root (name ∷ t)) → IsOwned table (name ∷ t) k end
  owned_some name t k end e long = record {
    owned = sym (ap (λ o. number_at o (owner table t)) e);
    there = (position-Some (is_located (name ∷ t)) table k set.root e).0;
    top = name ∷ t;
    rest = [];
    parted = refl;
    ends = long;
    host = ap (λ o. host_at table o (name ∷ host_of table t)) e;
  }

  pub owned_none : (name : List ℕ) (t : Text) (number end : ℕ) → located table (name ∷ t) ≡ None → IsOwned table t number end → IsOwned table (name ∷ t) number end
  owned_none name t number end e w = record {
    owned = w.owned ∙ sym (ap (λ o. number_at o (owner table t)) e);
    there = w.there;
    top = w.top;
    rest = name ∷ w.rest;
    parted = ap (λ u. name ∷ u) w.parted;
    ends = w.ends;
    host = ap (λ o. host_at table o (name ∷ host_of table t)) e ∙ ap (λ u. name ∷ u) w.host;
  }

-- ---- reading a text from the root

text_onto : (rest : Text) (name : List ℕ) (t : Text) → text_of (rest ++ name ∷ t) ≡ below_root (name ∷ t) ++ below_root rest
text_onto [] name t = sym (append-nil (below_root (name ∷ t)))
text_onto (first ∷ rest) name t = below_root_append (first ∷ rest) (name ∷ t)

take_front : (front rest : List ℕ) → take (length front) (front ++ rest) ≡ front
take_front [] rest = refl
take_front (b ∷ front) rest = ap (λ bytes. b ∷ bytes) (take_front front rest)

pub drop_front : (front rest : List ℕ) → drop (length front) (front ++ rest) ≡ rest
drop_front [] rest = refl
drop_front (b ∷ front) rest = drop_front front rest

parts_behind : (xs ys : Text) → AreParts (xs ++ ys) → AreParts ys
parts_behind [] ys are = are
parts_behind (x ∷ xs) ys are = parts_behind xs ys (All-tail IsPart x (xs ++ ys) are)

module _ (bytes : List ℕ) (w : IsWritten bytes) (done : Text) (part : List ℕ) (left : List (List ℕ)) (read : parts_of bytes ≡ reverse done ++ part ∷ left) where
  their_parting : names_of bytes ≡ reverse left ++ part ∷ done
  their_parting =
      let turned : reverse (names_of bytes) ≡ reverse done ++ part ∷ left = sym (spelled_in_turn bytes w) ∙ read in
      sym (reverse-reverse (names_of bytes)) ∙ ap reverse turned
      ∙ reverse-append (reverse done) (part ∷ left)
      ∙ (λ i. reverse_onto left part [] i ++ reverse-reverse done i)
      ∙ append_assoc (reverse left) (part ∷ []) done

  begun : bytes ≡ below_root (part ∷ done) ++ below_root (reverse left)
  begun = spelled bytes w ∙ ap text_of their_parting ∙ text_onto (reverse left) part done

  pub step_long : (at : ℕ) → at ≡ length (below_root done) → at + (1 + length part) ≡ length (below_root (part ∷ done))
  step_long at e = omega (arith, e, length-append (below_root done) (47 ∷ part))

  pub step_fits : (at : ℕ) → at ≡ length (below_root done) → at + (1 + length part) ≤ length bytes
  step_fits at e = omega (arith, step_long at e, ap length begun, length-append (below_root (part ∷ done)) (below_root (reverse left)))

  pub step_text : (at : ℕ) → at ≡ length (below_root done) → take (at + (1 + length part)) bytes ≡ below_root (part ∷ done)
  step_text at e = ap (λ n. take n bytes) (step_long at e) ∙ ap (take (length (below_root (part ∷ done)))) begun ∙ take_front (below_root (part ∷ done)) (below_root (reverse left))

  pub step_located : (bounds : List Bound) → AreBounds bounds → (at : ℕ) → at ≡ length (below_root done) → position (is_at (take (at + (1 + length part)) bytes)) bounds ≡ located (rows_of bounds) (part ∷ done)
  step_located bounds are at e =
      ap (λ text. position (is_at text) bounds) (step_text at e)
      ∙ located_at bounds are (part ∷ done) (parts_behind (reverse left) (part ∷ done) (subst AreParts their_parting (spelled_parts bytes w)))

  pub step_parted : parts_of bytes ≡ reverse (part ∷ done) ++ left
  step_parted = read ∙ sym (ap (λ ps. ps ++ left) (reverse_onto done part []) ∙ append_assoc (reverse done) (part ∷ []) left)

  pub read_some : (table : List MountText) (set : AreSettled table) (k at : ℕ) → at ≡ length (below_root done) → located table (part ∷ done) ≡ Some k
      → IsReadTo table (parts_of bytes) left k (at + (1 + length part)) (at + (1 + length part))
  read_some table set k at e found = record {
    done = part ∷ done;
    parted = step_parted;
    long = step_long at e;
    owned = owned_some table set part done k (at + (1 + length part)) found (step_long at e);
  }

  pub read_none : (table : List MountText) (set : AreSettled table) (number end at : ℕ) → at ≡ length (below_root done) → located table (part ∷ done) ≡ None → IsOwned table done number end
      → IsReadTo table (parts_of bytes) left number end (at + (1 + length part))
  read_none table set number end at e none w = record {
    done = part ∷ done;
    parted = step_parted;
    long = step_long at e;
    owned = owned_none table set part done number end none w;
  }

pub read_begun : (bytes : List ℕ) (table : List MountText) → AreSettled table → IsReadTo table (parts_of bytes) (parts_of bytes) 0 0 0
read_begun bytes table set = record { done = []; parted = refl; long = refl; owned = owned_root table set }

pub read_ended : (bytes : List ℕ) → IsWritten bytes → (table : List MountText) (number end at : ℕ) → IsReadTo table (parts_of bytes) [] number end at → IsOwned table (names_of bytes) number end
read_ended bytes w table number end at r =
    let turned : reverse (names_of bytes) ≡ reverse r.done = sym (spelled_in_turn bytes w) ∙ r.parted ∙ append-nil (reverse r.done) in
    let same : r.done ≡ names_of bytes = sym (reverse-reverse r.done) ∙ ap reverse (sym turned) ∙ reverse-reverse (names_of bytes) in
    let P : Text → Type 0 = λ t. IsOwned table t number end in subst P same r.owned

-- ---- the host text of a text in bytes

source_at : (bounds : List Bound) (k : ℕ) (d : Bound) → k < length bounds → source_of (rows_of bounds) k ≡ names_of (get_or bounds k d).source
source_at bounds k d below =
    ap (λ o. option_map_or (λ row. row.source) o []) (slice_get-map row_of bounds k ∙ ap (option_map row_of) (slice_get-get_or bounds k d below))

written_row : (row : MountText) → AreTexts row → IsWritten (bound_of row).source × IsWritten (bound_of row).location
written_row row are =
    (record { names = row.source; are_parts = are.source; written = refl }, record { names = row.location; are_parts = are.location; written = refl })

all_written : (table : List MountText) → All AreTexts table → All (λ (b : Bound). IsWritten b.source × IsWritten b.location) (map bound_of table)
all_written table are = All-map (λ (b : Bound). IsWritten b.source × IsWritten b.location) bound_of table (λ k d below. written_row (get_or table k d) (are k d below))

pub written_at : (bounds : List Bound) → AreBounds bounds → All (λ (b : Bound). IsWritten b.source × IsWritten b.location) bounds
written_at bounds are = let P : List Bound → Type 0 = λ bs. All (λ (b : Bound). IsWritten b.source × IsWritten b.location) bs in subst P (sym are.written) (all_written are.table are.settled.texts)

module _ (bytes : List ℕ) (table : List MountText) (number end : ℕ) (w : IsOwned table (names_of bytes) number end) where
  cut : below_root (names_of bytes) ≡ below_root w.top ++ below_root w.rest
  cut = ap below_root w.parted ∙ below_root_append w.rest w.top

  pub end_fits : end ≤ length (below_root (names_of bytes))
  end_fits = omega (arith, w.ends, ap length cut, length-append (below_root w.top) (below_root w.rest))

  pub rest_is : drop end (below_root (names_of bytes)) ≡ below_root w.rest
  rest_is = ap (λ n. drop n (below_root (names_of bytes))) w.ends ∙ ap (drop (length (below_root w.top))) cut ∙ drop_front (below_root w.top) (below_root w.rest)

pub host_is : (bytes : List ℕ) (bounds : List Bound) (number end : ℕ) (w : IsOwned (rows_of bounds) (names_of bytes) number end) (d : Bound) → text_of (w.rest ++ names_of (get_or bounds number d).source) ≡ text_of (host_of (rows_of bounds) (names_of bytes))
host_is bytes bounds number end w d =
    let below : number < length bounds = subst (λ n. number < n) (length-map bounds row_of) w.there in
    ap text_of (ap (λ s. w.rest ++ s) (sym (source_at bounds number d below)) ∙ sym w.host)

-- ---- rows by their index, and mount points

pub find_rows : (index : ℕ) (bounds : List Bound) → find (λ row. nat_eq row.index index) (rows_of bounds) ≡ option_map row_of (find (λ b. nat_eq b.index index) bounds)
find_rows index [] = refl
find_rows index (b ∷ bounds) =
    elim (nat_eq b.index index) as (λ t. cond t (Some (row_of b)) (find (λ row. nat_eq row.index index) (rows_of bounds)) ≡ option_map row_of (cond t (Some b) (find (λ b. nat_eq b.index index) bounds))) [
      | true ↦ refl
      | false ↦ find_rows index bounds
    ]

pub find_holds : (P : Bound → Type 0) (test : Bound → Bool) (bounds : List Bound) → All P bounds → (b : Bound) → find test bounds ≡ Some b → P b
find_holds P test [] all b h = absurd cc
find_holds P test (x ∷ bounds) all b h = at (test x) h (find_holds P test bounds (All-tail P x bounds all) b)
  where
    at : (t : Bool) → cond t (Some x) (find test bounds) ≡ Some b → (find test bounds ≡ Some b → P b) → P b
    at true h rest = subst P (ap (λ o. option_map_or (λ y. y) o x) h) (All-head P x bounds all)
    at false h rest = rest h

point_alike : (host : List ℕ) → IsWritten host → (row : MountText) → AreTexts row → bytes_eq (option_map_or text_of row.point []) host ≡ option_map_or (texts_eq (names_of host)) row.point false
point_alike host w row are = at row.point are.point
  where
    at : (point : Option Text) → IfSome point AreParts → bytes_eq (option_map_or text_of point []) host ≡ option_map_or (texts_eq (names_of host)) point false
    at None parts = false_from_ne_true _ (λ h. text_some (names_of host) (sym ((bytes_eq-Decides [] host).0 h ∙ spelled host w)))
    at (Some t) parts =
        same_from_decides (bytes_eq (text_of t) host) (texts_eq (names_of host) t)
        ((λ h. sym (names_written t parts) ∙ ap names_of ((bytes_eq-Decides (text_of t) host).0 h)), (λ h. (bytes_eq-Decides (text_of t) host).1 (ap text_of h ∙ sym (spelled host w))))
        (let d : Decides (texts_eq (names_of host) t) (names_of host ≡ t) = slice_eq-Decides bytes_eq-Decides (names_of host) t (texts_eq (names_of host) t) refl in
        ((λ h. sym (d.0 h)), (λ h. d.1 (sym h))))

any_alike : (one : Bound → Bool) (two : MountText → Bool) (table : List MountText) → All (λ row. one (bound_of row) ≡ two row) table → list_any one (map bound_of table) ≡ list_any two table
any_alike one two [] h = refl
any_alike one two (row ∷ table) h =
    (λ i. All-head (λ row. one (bound_of row) ≡ two row) row table h i || any_alike one two table (All-tail (λ row. one (bound_of row) ≡ two row) row table h) i)

pub points_are : (bounds : List Bound) → AreBounds bounds → (host : List ℕ) → IsWritten host → list_any (λ row. bytes_eq row.point host) bounds ≡ is_point (rows_of bounds) (names_of host)
points_are bounds are host w =
    ap (list_any (λ row. bytes_eq row.point host)) are.written
    ∙ any_alike (λ row. bytes_eq row.point host) (λ row. option_map_or (texts_eq (names_of host)) row.point false) are.table (λ k d below. point_alike host w (get_or are.table k d) (are.settled.texts k d below))
    ∙ ap (λ table. is_point table (names_of host)) (sym (their_rows bounds are))

-- ---- guest texts by a tag

guest_by : (index : ℕ) (bounds : List Bound) (host : List ℕ) (o : Option Bound) → find (λ b. nat_eq b.index index) bounds ≡ o → guest_of (rows_of bounds) index (names_of host) ≡ option_and_then (λ b. guest_in (row_of b) (names_of host)) o
guest_by index bounds host None e = ap (option_and_then (λ row. guest_in row (names_of host))) (find_rows index bounds ∙ ap (option_map row_of) e)
guest_by index bounds host (Some b) e = ap (option_and_then (λ row. guest_in row (names_of host))) (find_rows index bounds ∙ ap (option_map row_of) e)

pub no_row : (index : ℕ) (bounds : List Bound) (host : List ℕ) → find (λ b. nat_eq b.index index) bounds ≡ None → None ≡ option_map text_of (guest_of (rows_of bounds) index (names_of host))
no_row index bounds host e = sym (ap (option_map text_of) (guest_by index bounds host None e))

pub not_below : (index : ℕ) (bounds : List Bound) (host : List ℕ) (b : Bound) → find (λ b. nat_eq b.index index) bounds ≡ Some b
    → None ≡ option_map below_root (names_below (names_of b.source) (names_of host)) → None ≡ option_map text_of (guest_of (rows_of bounds) index (names_of host))
not_below index bounds host b e none =
    sym (ap (option_map text_of) (guest_by index bounds host (Some b) e) ∙ at (names_below (names_of b.source) (names_of host)) none)
  where
    at : (o : Option Text) → None ≡ option_map below_root o → option_map text_of (option_map (λ rest. rest ++ names_of b.location) o) ≡ None
    at None h = refl
    at (Some rest) h = absurd cc

pub guest_is : (index : ℕ) (bounds : List Bound) (host : List ℕ) (b : Bound) (rest guest : List ℕ) → find (λ b. nat_eq b.index index) bounds ≡ Some b
    → Some rest ≡ option_map below_root (names_below (names_of b.source) (names_of host))
    → ((names : Text) → rest ≡ below_root names → guest ≡ text_of (names ++ names_of b.location))
    → Some guest ≡ option_map text_of (guest_of (rows_of bounds) index (names_of host))
guest_is index bounds host b rest guest e some is =
    sym (ap (option_map text_of) (guest_by index bounds host (Some b) e) ∙ at (names_below (names_of b.source) (names_of host)) some)
  where
    at : (o : Option Text) → Some rest ≡ option_map below_root o → option_map text_of (option_map (λ rest. rest ++ names_of b.location) o) ≡ Some guest
    at None h = absurd cc
    at (Some names) h = ap Some (sym (is names (ap (λ o. option_map_or (λ r. r) o rest) h)))

-- ---- what is answered is a text again

source_parts : (table : List MountText) (k : ℕ) → All AreTexts table → AreParts (source_of table k)
source_parts [] k are = All-nil IsPart
source_parts (row ∷ rows) zero are = (All-head AreTexts row rows are).source
source_parts (row ∷ rows) (suc k) are = source_parts rows k (All-tail AreTexts row rows are)

host_parts : (table : List MountText) → All AreTexts table → (t : Text) → AreParts t → AreParts (host_of table t)
host_parts table are [] parts = source_parts table 0 are
host_parts table are (name ∷ t) parts = at (located table (name ∷ t)) (host_parts table are t (All-tail IsPart name t parts))
  where
    at : (o : Option ℕ) → AreParts (host_of table t) → AreParts (host_at table o (name ∷ host_of table t))
    at (Some k) up = source_parts table k are
    at None up = All-cons IsPart name (host_of table t) (All-head IsPart name t parts) up

parts_in_front : (xs ys : Text) → AreParts (xs ++ ys) → AreParts xs
parts_in_front [] ys are = All-nil IsPart
parts_in_front (x ∷ xs) ys are = All-cons IsPart x xs (All-head IsPart x (xs ++ ys) are) (parts_in_front xs ys (All-tail IsPart x (xs ++ ys) are))

parts_joined : (xs ys : Text) → AreParts xs → AreParts ys → AreParts (xs ++ ys)
parts_joined [] ys one two = two
parts_joined (x ∷ xs) ys one two = All-cons IsPart x (xs ++ ys) (All-head IsPart x xs one) (parts_joined xs ys (All-tail IsPart x xs one) two)

guest_in_parts : (row : MountText) → AreTexts row → (host guest : Text) → AreParts host → guest_in row host ≡ Some guest → AreParts guest
guest_in_parts row are host guest parts h =
    let m = map_some (λ rest. rest ++ row.location) (names_below row.source host) guest h in
    let front : AreParts m.0 = parts_in_front m.0 row.source (subst AreParts (below_found row.source host m.0 m.1) parts) in
    subst AreParts m.2 (parts_joined m.0 row.location front are.location)

guest_parts : (table : List MountText) → All AreTexts table → (index : ℕ) (host guest : Text) → AreParts host → guest_of table index host ≡ Some guest → AreParts guest
guest_parts [] are index host guest parts h = absurd cc
guest_parts (row ∷ rows) are index host guest parts h = at (nat_eq row.index index) h (guest_parts rows (All-tail AreTexts row rows are) index host guest parts)
  where
    at : (b : Bool) → option_and_then (λ row. guest_in row host) (cond b (Some row) (find (λ row. nat_eq row.index index) rows)) ≡ Some guest → (guest_of rows index host ≡ Some guest → AreParts guest) → AreParts guest
    at true e later = guest_in_parts row (All-head AreTexts row rows are) host guest parts e
    at false e later = later e

module _ (bounds : List Bound) (are : AreBounds bounds) where
  pub host_written : (guest : List ℕ) → IsWritten guest → (host : List ℕ) → host ≡ text_of (host_of (rows_of bounds) (names_of guest)) → IsWritten host
  host_written guest w host e = record {
    names = host_of (rows_of bounds) (names_of guest);
    are_parts = host_parts (rows_of bounds) (rows_settled bounds are).texts (names_of guest) (spelled_parts guest w);
    written = e;
  }

  pub guest_written : (index : ℕ) (host : List ℕ) → IsWritten host → (guest : List ℕ) → Some guest ≡ option_map text_of (guest_of (rows_of bounds) index (names_of host)) → IsWritten guest
  guest_written index host w guest e =
      let m = map_some text_of (guest_of (rows_of bounds) index (names_of host)) guest (sym e) in
      record {
        names = m.0;
        are_parts = guest_parts (rows_of bounds) (rows_settled bounds are).texts index (names_of host) m.0 (spelled_parts host w) m.1;
        written = sym m.2;
      }
