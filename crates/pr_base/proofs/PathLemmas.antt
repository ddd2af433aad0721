-- Paths and their pieces.
use Rattle.std.proofs.Common.{◌≡◌, ◌≢◌, ℕ, ◌+◌, ◌-◌, Bool, true, false, cond, List, [], ◌∷◌, ◌++◌, length, map, reverse, get_or, refl, sym, ap, ◌∙◌, arith, append-nil, append_assoc, eq-eqb, All}
use Rattle.std.specs.Bool.{if◌then◌else◌}
use Rattle.std.specs.List.{AllByRecursion, slice_split, onto_first}
use Rattle.std.specs.Str.{bytes_eq}
use Rattle.std.proofs.lemmas.Bool.{ne_eqb, eqb-false, both_ways, false_from_ne_true}
use Rattle.std.proofs.lemmas.Slice.Eq.{bytes_eq-Decides}
use Rattle.std.proofs.lemmas.Grind.{reverse_onto}
use Rattle.std.proofs.lemmas.List.{map-append, length-append, get_or-append-add}
use Rattle.std.proofs.lemmas.List.Elements.{All-cons, All-nil, All-head, All-tail, All-weaker}
use Rattle.std.proofs.lemmas.List.Splits.{slice_split_none, slice_split_at, length-slice_split}
use Rattle.pr_base.specs.Paths.{slash, dot, dot_dot, is_slash, is_absolute, not_empty, parts_of, has_parts, ends_in_slash, has_slash, Component, Dot, DotDot, Name, component_of, kind_of, last_of, components_of, IsPart, AreParts, IsComponent, IsName, AreNames, below_root, text_of, name_path, PathsHaveComponents, TextsHaveTheirNames, PathsJoin, TextsAreAbsolute}
use Rattle.pr_base.specs.declared.path.Last.{Last}
use Rattle.pr_base.specs.declared.path.Last.TheVariants as last
use Rattle.pr_base.specs.Pieces.{BeginsName, BeginsSlash}

-- no byte is a slash, as a test
no_slashes : (name : List ℕ) → All (λ b. b ≢ slash) name → All (λ b. is_slash b ≡ false) name
no_slashes name h k d l = ne_eqb _ slash (h k d l)

-- the first part of a path that begins with a name
pub first_part : (name rest : List ℕ) → All (λ b. b ≢ slash) name → BeginsSlash rest → BeginsName (name ++ rest) → parts_of (name ++ rest) ≡ name ∷ parts_of rest
first_part [] [] plain begins named = absurd named
first_part [] (b ∷ rest) plain begins named = absurd (named begins)
first_part (c ∷ name) [] plain begins named =
    ap parts_of (append-nil (c ∷ name)) ∙ ap not_empty (slice_split_none is_slash (c ∷ name) (no_slashes (c ∷ name) plain))
first_part (c ∷ name) (b ∷ rest) plain begins named =
    let at_slash : slice_split is_slash ((c ∷ name) ++ b ∷ rest) ≡ (c ∷ name) ∷ slice_split is_slash rest =
    slice_split_at is_slash (c ∷ name) b rest (no_slashes (c ∷ name) plain) (eq-eqb b slash begins) in
    let skipped : parts_of (b ∷ rest) ≡ parts_of rest = rw begins refl in
    ap not_empty at_slash ∙ ap (λ ps. (c ∷ name) ∷ ps) (sym skipped)

-- a byte that begins no name is passed over
pub slash_passed : (b : ℕ) (rest : List ℕ) → b ≡ slash → parts_of (b ∷ rest) ≡ parts_of rest
slash_passed b rest e = rw e refl

-- the kind of the last of these parts, or `last` where there is none
abbrev pub ending : Last → List (List ℕ) → Last
ending last [] = last
ending last (part ∷ parts) = ending (kind_of (component_of part)) parts

ending_of : (part : List ℕ) (parts : List (List ℕ)) → ending (kind_of (component_of part)) parts ≡ last_of (map component_of (part ∷ parts))
ending_of part [] = refl
ending_of part (next ∷ parts) = ending_of next parts

pub ending_from_root : (parts : List (List ℕ)) → ending last.Root parts ≡ last_of (map component_of parts)
ending_from_root [] = refl
ending_from_root (part ∷ parts) = ending_of part parts

onto_first-append : (b : ℕ) (pieces more : List (List ℕ)) → pieces ≢ [] → onto_first b (pieces ++ more) ≡ onto_first b pieces ++ more
onto_first-append b [] more some = absurd (some refl)
onto_first-append b (piece ∷ pieces) more some = refl

pieces_are_some : (path : List ℕ) → slice_split is_slash path ≢ []
pieces_are_some path none =
    let counted = length-slice_split is_slash path in
    let zero : length (slice_split is_slash path) ≡ 0 = ap length none in
    omega arith

-- a slash parts the pieces
pub pieces_seam : (path more : List ℕ) → slice_split is_slash (path ++ slash ∷ more) ≡ slice_split is_slash path ++ slice_split is_slash more
pieces_seam [] more = refl
pieces_seam (b ∷ path) more =
    let rest = pieces_seam path more in
    rw rest
    (elim (is_slash b) as (λ t. cond t ([] ∷ (slice_split is_slash path ++ slice_split is_slash more)) (onto_first b (slice_split is_slash path ++ slice_split is_slash more)) ≡ cond t ([] ∷ slice_split is_slash path) (onto_first b (slice_split is_slash path)) ++ slice_split is_slash more)
    [ true ↦ refl | false ↦ onto_first-append b _ _ (pieces_are_some path) ])

not_empty-append : (pieces more : List (List ℕ)) → not_empty (pieces ++ more) ≡ not_empty pieces ++ not_empty more
not_empty-append [] more = refl
not_empty-append ([] ∷ pieces) more = not_empty-append pieces more
not_empty-append ((b ∷ piece) ∷ pieces) more = ap (λ ps. (b ∷ piece) ∷ ps) (not_empty-append pieces more)

-- the parts of two paths with a slash between them
pub parts_seam : (path more : List ℕ) → parts_of (path ++ slash ∷ more) ≡ parts_of path ++ parts_of more
parts_seam path more = ap not_empty (pieces_seam path more) ∙ not_empty-append (slice_split is_slash path) (slice_split is_slash more)

-- the components of two paths with a slash between them
pub components_seam : (path more : List ℕ) → components_of (path ++ slash ∷ more) ≡ components_of path ++ components_of more
components_seam path more = ap (map component_of) (parts_seam path more) ∙ map-append component_of (parts_of path) (parts_of more)

-- a slash behind adds none
pub components_closed : (path : List ℕ) → components_of (path ++ slash ∷ []) ≡ components_of path
components_closed path = components_seam path [] ∙ append-nil (components_of path)

-- ---- the components of any path

IsUnslashed : List ℕ → Type 0
IsUnslashed piece = All (λ b. b ≢ slash) piece

onto_unslashed : (b : ℕ) (pieces : List (List ℕ)) → b ≢ slash → AllByRecursion IsUnslashed pieces → AllByRecursion IsUnslashed (onto_first b pieces)
unfolding IsUnslashed
onto_unslashed b [] other h = (All-cons (λ b. b ≢ slash) b [] other (All-nil (λ b. b ≢ slash)), tt)
onto_unslashed b (piece ∷ pieces) other h = (All-cons (λ b. b ≢ slash) b piece other h.0, h.1)

pieces_unslashed : (path : List ℕ) → AllByRecursion IsUnslashed (slice_split is_slash path)
unfolding IsUnslashed
pieces_unslashed [] = (All-nil (λ b. b ≢ slash), tt)
pieces_unslashed (b ∷ path) = at (is_slash b) refl (pieces_unslashed path)
  where
    at : (c : Bool) → is_slash b ≡ c → AllByRecursion IsUnslashed (slice_split is_slash path) → AllByRecursion IsUnslashed (cond c ([] ∷ slice_split is_slash path) (onto_first b (slice_split is_slash path)))
    at true e h = (All-nil (λ b. b ≢ slash), h)
    at false e h = onto_unslashed b (slice_split is_slash path) (eqb-false b slash e) h

IsPiece : List ℕ → Type 0
IsPiece piece = (piece ≢ []) × IsUnslashed piece

pieces_some : (pieces : List (List ℕ)) → AllByRecursion IsUnslashed pieces → AllByRecursion IsPiece (not_empty pieces)
unfolding IsPiece
pieces_some [] h = tt
pieces_some ([] ∷ pieces) h = pieces_some pieces h.1
pieces_some ((b ∷ piece) ∷ pieces) h = (((λ e. absurd cc), h.0), pieces_some pieces h.1)

piece_component : (part : List ℕ) → IsPiece part → IsComponent (component_of part)
unfolding IsPiece IsUnslashed
piece_component part is = one (bytes_eq part dot) refl
  where
    two : bytes_eq part dot ≡ false → (b : Bool) → bytes_eq part dot_dot ≡ b → IsComponent (if b then DotDot else Name part)
    two e true d = tt
    two e false d = record {
      some = is.0;
      no_slash = is.1;
      not_dot = λ same. both_ways (bytes_eq part dot) e ((bytes_eq-Decides part dot).1 same);
      not_dot_dot = λ same. both_ways (bytes_eq part dot_dot) d ((bytes_eq-Decides part dot_dot).1 same);
    }

    one : (b : Bool) → bytes_eq part dot ≡ b → IsComponent (if b then Dot else if bytes_eq part dot_dot then DotDot else Name part)
    one true e = tt
    one false e = two e (bytes_eq part dot_dot) refl

all_components : (parts : List (List ℕ)) → AllByRecursion IsPiece parts → All IsComponent (map component_of parts)
all_components [] h = All-nil IsComponent
all_components (part ∷ parts) h = All-cons IsComponent (component_of part) (map component_of parts) (piece_component part h.0) (all_components parts h.1)

pub paths_have_components : PathsHaveComponents
paths_have_components path = all_components (parts_of path) (pieces_some (slice_split is_slash path) (pieces_unslashed path))

-- ---- parts

-- a name of an entry is one
pub name_is_part : (name : List ℕ) → IsName name → IsPart name
name_is_part name is = record { some = is.some; no_slash = is.no_slash; not_dot = is.not_dot; not_dot_dot = is.not_dot_dot }

pub names_are_parts : (names : List (List ℕ)) → AreNames names → AreParts names
names_are_parts names are = All-weaker IsName IsPart name_is_part names are

-- a part is its own only one
pub part_alone : (name : List ℕ) → IsPart name → parts_of name ≡ name ∷ []
part_alone [] is = absurd (is.some refl)
part_alone (b ∷ name) is = ap not_empty (slice_split_none is_slash (b ∷ name) (no_slashes (b ∷ name) is.no_slash))

-- it is neither dot nor dot-dot
pub part_component : (name : List ℕ) → IsPart name → component_of name ≡ Name name
part_component name is =
    let one : bytes_eq name dot ≡ false = false_from_ne_true _ (λ same. is.not_dot ((bytes_eq-Decides name dot).0 same)) in
    let two : bytes_eq name dot_dot ≡ false = false_from_ne_true _ (λ same. is.not_dot_dot ((bytes_eq-Decides name dot_dot).0 same)) in
    rw (one, two) refl

pub part_components : (name : List ℕ) → IsPart name → components_of name ≡ Name name ∷ []
part_components name is = ap (map component_of) (part_alone name is) ∙ ap (λ c. c ∷ []) (part_component name is)

-- ---- the bytes of a text

-- the deepest name of a text comes last in its path
pub names_onto : (names : List (List ℕ)) (name : List ℕ) (rest : List Component) → map Name (reverse (name ∷ names)) ++ rest ≡ map Name (reverse names) ++ (Name name ∷ rest)
names_onto names name rest =
    let last : map Name (reverse (name ∷ names)) ≡ map Name (reverse names) ++ Name name ∷ [] = ap (map Name) (reverse_onto names name []) ∙ map-append Name (reverse names) (name ∷ []) in
    ap (λ cs. cs ++ rest) last ∙ append_assoc (map Name (reverse names)) (Name name ∷ []) rest

pub names_end : (names : List (List ℕ)) (name : List ℕ) → map Name (reverse (name ∷ names)) ≡ map Name (reverse names) ++ Name name ∷ []
names_end names name = sym (append-nil (map Name (reverse (name ∷ names)))) ∙ names_onto names name []

-- the components of a text below the root
pub below_root_components : (names : List (List ℕ)) → AreParts names → components_of (below_root names) ≡ map Name (reverse names)
below_root_components [] are = refl
below_root_components (name ∷ names) are =
    let above = below_root_components names (All-tail IsPart name names are) in
    let own = part_components name (All-head IsPart name names are) in
    components_seam (below_root names) name ∙ (λ i. above i ++ own i) ∙ sym (names_end names name)

pub texts_have_their_names : TextsHaveTheirNames
texts_have_their_names [] are = refl
texts_have_their_names (name ∷ names) are = below_root_components (name ∷ names) are

-- a text in front of another one
pub below_root_append : (rest names : List (List ℕ)) → below_root (rest ++ names) ≡ below_root names ++ below_root rest
below_root_append [] names = sym (append-nil (below_root names))
below_root_append (name ∷ rest) names =
    ap (λ path. path ++ slash ∷ name) (below_root_append rest names) ∙ append_assoc (below_root names) (below_root rest) (slash ∷ name)

pub below_root_absolute : (names : List (List ℕ)) (rest : List ℕ) → is_absolute (below_root names ++ slash ∷ rest) ≡ true
below_root_absolute [] rest = refl
below_root_absolute (name ∷ names) rest = ap is_absolute (append_assoc (below_root names) (slash ∷ name) (slash ∷ rest)) ∙ below_root_absolute names (name ++ slash ∷ rest)

pub text_absolute : (names : List (List ℕ)) → is_absolute (text_of names) ≡ true
text_absolute [] = refl
text_absolute (name ∷ names) = below_root_absolute names name

-- ---- the last byte of a path

-- it is that of what stands at its end
pub ends_behind : (front more : List ℕ) → more ≢ [] → ends_in_slash (front ++ more) ≡ ends_in_slash more
ends_behind front [] some = absurd (some refl)
ends_behind front (b ∷ bs) some =
    let all : length (front ++ b ∷ bs) - 1 ≡ length front + length bs = let sum = length-append front (b ∷ bs) in omega arith in
    let own : length (b ∷ bs) - 1 ≡ length bs = omega arith in
    ap is_slash (ap (λ k. get_or (front ++ b ∷ bs) k 0) all ∙ get_or-append-add front (b ∷ bs) (length bs) 0 ∙ ap (λ k. get_or (b ∷ bs) k 0) (sym own))

some_parts : (more : List ℕ) → has_parts (parts_of more) ≡ true → more ≢ []
some_parts more h none = let clash : true ≡ false = sym h ∙ ap (λ m. has_parts (parts_of m)) none in absurd cc

parts_behind : (front more : List (List ℕ)) → has_parts more ≡ true → has_parts (front ++ more) ≡ true
parts_behind [] more h = h
parts_behind (part ∷ front) more h = refl

-- a path that ends with components has the slash behind these
pub slash_behind : (front more : List ℕ) → has_parts (parts_of more) ≡ true → has_slash (front ++ slash ∷ more) ≡ has_slash more
slash_behind front more h =
    ap (λ b. if b then ends_in_slash (front ++ slash ∷ more) else false) (ap has_parts (parts_seam front more) ∙ parts_behind (parts_of front) (parts_of more) h)
    ∙ ap ends_in_slash (sym (append_assoc front (slash ∷ []) more)) ∙ ends_behind (front ++ slash ∷ []) more (some_parts more h)
    ∙ sym (ap (λ b. if b then ends_in_slash more else false) h)

-- a part doesn't end in a slash, nor begin with one
pub part_no_slash : (name : List ℕ) → IsPart name → has_slash name ≡ false
part_no_slash [] is = absurd (is.some refl)
part_no_slash (b ∷ bs) is =
    let own : length (b ∷ bs) - 1 ≡ length bs = omega arith in
    ap (λ p. if has_parts p then ends_in_slash (b ∷ bs) else false) (part_alone (b ∷ bs) is)
    ∙ ap is_slash (ap (λ k. get_or (b ∷ bs) k 0) own) ∙ ne_eqb (get_or (b ∷ bs) (length bs) 0) slash (is.no_slash (length bs) 0 (omega arith))

pub part_relative : (name : List ℕ) → IsPart name → is_absolute name ≡ false
part_relative [] is = absurd (is.some refl)
part_relative (b ∷ bs) is = ne_eqb b slash (is.no_slash 0 0 (omega arith))

part_there : (name : List ℕ) → IsPart name → has_parts (parts_of name) ≡ true
part_there name is = ap has_parts (part_alone name is)

-- a slash that is put behind a part is one
part_closed : (name : List ℕ) → IsPart name → (has_parts (parts_of (name ++ slash ∷ [])) ≡ true) × (has_slash (name ++ slash ∷ []) ≡ true)
part_closed name is =
    let there : has_parts (parts_of (name ++ slash ∷ [])) ≡ true = ap has_parts (parts_seam name [] ∙ append-nil (parts_of name)) ∙ part_there name is in
    (there, ap (λ b. if b then ends_in_slash (name ++ slash ∷ []) else false) there ∙ ends_behind name (slash ∷ []) (λ e. absurd cc))

pub text_no_slash : (names : List (List ℕ)) → AreParts names → has_slash (text_of names) ≡ false
text_no_slash [] are = refl
text_no_slash (name ∷ names) are =
    let is = All-head IsPart name names are in
    slash_behind (below_root names) name (part_there name is) ∙ part_no_slash name is

-- ---- a name in front of which a text stands

name_parts : (names : List (List ℕ)) (name : List ℕ) (behind : Bool) → IsPart name → parts_of (name_path names name behind) ≡ parts_of (below_root names) ++ name ∷ []
name_parts names name true is =
    parts_seam (below_root names) (name ++ slash ∷ []) ∙ ap (λ ps. parts_of (below_root names) ++ ps) (parts_seam name [] ∙ append-nil (parts_of name) ∙ part_alone name is)
name_parts names name false is =
    parts_seam (below_root names) (name ++ []) ∙ ap (λ n. parts_of (below_root names) ++ parts_of n) (append-nil name) ∙ ap (λ ps. parts_of (below_root names) ++ ps) (part_alone name is)

pub name_components : (names : List (List ℕ)) (name : List ℕ) (behind : Bool) → AreParts (name ∷ names) → components_of (name_path names name behind) ≡ map Name (reverse (name ∷ names))
name_components names name behind are =
    let is = All-head IsPart name names are in
    ap (map component_of) (name_parts names name behind is) ∙ map-append component_of (parts_of (below_root names)) (name ∷ [])
    ∙ ap (λ cs. cs ++ component_of name ∷ []) (below_root_components names (All-tail IsPart name names are))
    ∙ ap (λ c. map Name (reverse names) ++ c ∷ []) (part_component name is) ∙ sym (names_end names name)

pub name_slash : (names : List (List ℕ)) (name : List ℕ) (behind : Bool) → AreParts (name ∷ names) → has_slash (name_path names name behind) ≡ behind
name_slash names name true are =
    let closed = part_closed name (All-head IsPart name names are) in
    slash_behind (below_root names) (name ++ slash ∷ []) closed.0 ∙ closed.1
name_slash names name false are = ap (λ n. has_slash (below_root names ++ slash ∷ n)) (append-nil name) ∙ text_no_slash (name ∷ names) are

pub paths_join : PathsJoin
paths_join = record { joined = components_seam; closed = components_closed; named = name_components }

pub texts_are_absolute : TextsAreAbsolute
texts_are_absolute = record {
  begun = text_absolute;
  ended = text_no_slash;
  name_begun = λ names name behind. below_root_absolute names (name ++ (if behind then slash ∷ [] else []));
  name_ended = name_slash;
}
