-- Texts that a table of bindings gives, read back from their bytes.
use Rattle.std.proofs.Common.{◌≡◌, ℕ, zero, suc, Bool, true, false, Option, Some, None, List, [], ◌∷◌, ◌++◌, map, reverse, refl, ap, sym, subst, ◌∙◌}
use Rattle.std.specs.Bool.{if◌then◌else◌}
use Rattle.std.specs.Prelude.{cond, nat_eq}
use Rattle.std.specs.List.{All, find}
use Rattle.std.specs.Option.{option_map, option_and_then}
use Rattle.std.specs.Str.{bytes_eq}
use Rattle.std.proofs.lemmas.Grind.{reverse_onto}
use Rattle.std.proofs.lemmas.List.{reverse-reverse}
use Rattle.std.proofs.lemmas.List.Elements.{All-head, All-tail}
use Rattle.std.proofs.lemmas.Slice.Eq.{bytes_eq-Decides}
use Rattle.pt_bind.specs.pr_base.Paths.{Dot, DotDot, Name, dot, dot_dot, component_of, parts_of, IsComponent, IsPart, AreParts, below_root, text_of}
use Rattle.pt_bind.specs.pr_base.Texts.{Text, names_below}
use Rattle.pt_bind.specs.pr_base.declared.bind.Bound.{Bound}
use Rattle.pt_bind.proofs.pr_base.PathLemmas.{parts_seam, part_alone, paths_have_components}
use Rattle.pt_bind.proofs.pr_base.TextLemmas.{below_found, map_some}
use Rattle.pt_bind.specs.Binding.{IsWritten, guest_in, guest_of, host_at, host_of, located, names_of, rows_of, row_of, source_of}
use Rattle.pt_bind.proofs.ByteLemmas.{spelled_parts}

-- each name of a text is its own only one
abbrev pub Alone : Text → Type 0
Alone [] = Unit {0}
Alone (name ∷ t) = (parts_of name ≡ name ∷ []) × Alone t

component_alone : (part : List ℕ) → IsComponent (component_of part) → parts_of part ≡ part ∷ []
component_alone part is = at (bytes_eq part dot) (bytes_eq part dot_dot) refl refl is
  where
    at : (b d : Bool) → bytes_eq part dot ≡ b → bytes_eq part dot_dot ≡ d → IsComponent (if b then Dot else if d then DotDot else Name part) → parts_of part ≡ part ∷ []
    at true d e f h = let same : part ≡ dot = (bytes_eq-Decides part dot).0 e in ap parts_of same ∙ ap (λ p. p ∷ []) (sym same)
    at false true e f h = let same : part ≡ dot_dot = (bytes_eq-Decides part dot_dot).0 f in ap parts_of same ∙ ap (λ p. p ∷ []) (sym same)
    at false false e f h = part_alone part h

components_alone : (parts : List (List ℕ)) → All IsComponent (map component_of parts) → Alone parts
components_alone [] are = tt
components_alone (part ∷ parts) are =
    (component_alone part (All-head IsComponent (component_of part) (map component_of parts) are), components_alone parts (All-tail IsComponent (component_of part) (map component_of parts) are))

parts_alone : (t : Text) → AreParts t → Alone t
parts_alone [] are = tt
parts_alone (name ∷ t) are = (part_alone name (All-head IsPart name t are), parts_alone t (All-tail IsPart name t are))

joined_alone : (xs ys : Text) → Alone xs → Alone ys → Alone (xs ++ ys)
joined_alone [] ys one two = two
joined_alone (x ∷ xs) ys one two = (one.0, joined_alone xs ys one.1 two)

front_alone : (xs ys : Text) → Alone (xs ++ ys) → Alone xs
front_alone [] ys are = tt
front_alone (x ∷ xs) ys are = (are.0, front_alone xs ys are.1)

reversed_alone : (xs : Text) → Alone xs → Alone (reverse xs)
reversed_alone [] are = tt
reversed_alone (x ∷ xs) are = subst Alone (sym (reverse_onto xs x [])) (joined_alone (reverse xs) (x ∷ []) (reversed_alone xs are.1) (are.0, tt))

names_alone : (bytes : List ℕ) → Alone (names_of bytes)
unfolding names_of
names_alone bytes = reversed_alone (parts_of bytes) (components_alone (parts_of bytes) (paths_have_components bytes))

below_back : (t : Text) → Alone t → parts_of (below_root t) ≡ reverse t
below_back [] are = refl
below_back (name ∷ t) are =
    let above = below_back t are.1 in
    let own = are.0 in
    parts_seam (below_root t) name ∙ (λ i. above i ++ own i) ∙ sym (reverse_onto t name [])

text_back : (t : Text) → Alone t → parts_of (text_of t) ≡ reverse t
text_back [] are = refl
text_back (name ∷ t) are = below_back (name ∷ t) are

-- so the text is read back
pub names_back : (t : Text) → Alone t → names_of (text_of t) ≡ t
unfolding names_of
names_back t are = ap reverse (text_back t are) ∙ reverse-reverse t

-- ---- what a table gives

source_alone : (bounds : List Bound) (k : ℕ) → Alone (source_of (rows_of bounds) k)
source_alone [] k = tt
source_alone (b ∷ bounds) zero = names_alone b.source
source_alone (b ∷ bounds) (suc k) = source_alone bounds k

host_alone : (bounds : List Bound) (t : Text) → AreParts t → Alone (host_of (rows_of bounds) t)
host_alone bounds [] are = source_alone bounds 0
host_alone bounds (name ∷ t) are = at (located (rows_of bounds) (name ∷ t)) (host_alone bounds t (All-tail IsPart name t are))
  where
    at : (o : Option ℕ) → Alone (host_of (rows_of bounds) t) → Alone (host_at (rows_of bounds) o (name ∷ host_of (rows_of bounds) t))
    at (Some k) up = source_alone bounds k
    at None up = (part_alone name (All-head IsPart name t are), up)

guest_in_alone : (b : Bound) (host guest : Text) → Alone host → guest_in (row_of b) host ≡ Some guest → Alone guest
guest_in_alone b host guest are h =
    let m = map_some (λ rest. rest ++ names_of b.location) (names_below (names_of b.source) host) guest h in
    let front : Alone m.0 = front_alone m.0 (names_of b.source) (subst Alone (below_found (names_of b.source) host m.0 m.1) are) in
    subst Alone m.2 (joined_alone m.0 (names_of b.location) front (names_alone b.location))

guest_alone : (bounds : List Bound) (index : ℕ) (host guest : Text) → Alone host → guest_of (rows_of bounds) index host ≡ Some guest → Alone guest
guest_alone [] index host guest are h = absurd cc
guest_alone (b ∷ bounds) index host guest are h = at (nat_eq b.index index) h (guest_alone bounds index host guest are)
  where
    at : (t : Bool) → option_and_then (λ row. guest_in row host) (cond t (Some (row_of b)) (find (λ row. nat_eq row.index index) (rows_of bounds))) ≡ Some guest → (guest_of (rows_of bounds) index host ≡ Some guest → Alone guest) → Alone guest
    at true e later = guest_in_alone b host guest are e
    at false e later = later e

module _ (bounds : List Bound) where
  -- the host text of a guest text
  pub host_back : (t : Text) → AreParts t → (host : List ℕ) → host ≡ text_of (host_of (rows_of bounds) t) → names_of host ≡ host_of (rows_of bounds) t
  host_back t are host e = ap names_of e ∙ names_back (host_of (rows_of bounds) t) (host_alone bounds t are)

  -- the guest text by a tag and a host name
  pub guest_back : (index : ℕ) (name : List ℕ) → IsWritten name → (guest : List ℕ) → Some guest ≡ option_map text_of (guest_of (rows_of bounds) index (names_of name))
      → Some (names_of guest) ≡ guest_of (rows_of bounds) index (names_of name)
  guest_back index name w guest e =
      let m = map_some text_of (guest_of (rows_of bounds) index (names_of name)) guest (sym e) in
      let are : Alone m.0 = guest_alone bounds index (names_of name) m.0 (parts_alone (names_of name) (spelled_parts name w)) m.1 in
      ap Some (ap names_of (sym m.2) ∙ names_back m.0 are) ∙ sym m.1

pub none_back : (o : Option Text) → None ≡ option_map text_of o → None ≡ o
none_back None e = refl
none_back (Some t) e = absurd cc
