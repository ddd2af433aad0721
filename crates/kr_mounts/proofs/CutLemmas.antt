-- Texts below the root, and what is cut off them.
use Rattle.std.proofs.Common.{◌≡◌, ◌≢◌, ◌≤◌, ◌+◌, ℕ, List, [], ◌∷◌, ◌++◌, length, take, drop, reverse, refl, ap, sym, subst, ◌∙◌, arith, All, Ok}
use Rattle.std.proofs.lemmas.List.{reverse-reverse}
use Rattle.std.proofs.lemmas.Grind.{reverse_onto}
use Rattle.std.proofs.lemmas.List.Elements.{All-append, All-head, All-tail, All-cons, All-nil, All-drop}
use Rattle.std.proofs.Math.Seq.{take-append_seam, drop-append-add}
use Rattle.pt_bind.specs.pr_base.Paths.{slash, IsPart, AreParts, below_root, parts_of, text_of}
use Rattle.pt_bind.specs.pr_base.Texts.{Text}
use Rattle.pt_bind.specs.Binding.{IsWritten, names_of}
use Rattle.pt_bind.proofs.ByteLemmas.{below_root_parts, spelled_in_turn, spelled_parts}
use Rattle.kr_mounts.specs.Locations.{located_at}
use Rattle.kr_mounts.specs.Texts.{IsBelow, last_name}

pub below_names : (t : Text) → AreParts t → names_of (below_root t) ≡ t
unfolding names_of
below_names t are = ap reverse (below_root_parts t are) ∙ reverse-reverse t

module _ (bytes : List ℕ) (w : IsBelow bytes) where
  pub their_below : names_of bytes ≡ w.names
  their_below = ap names_of w.written ∙ below_names w.names w.are_parts

  pub below_spelled : bytes ≡ below_root (names_of bytes)
  below_spelled = w.written ∙ ap below_root (sym their_below)

  pub below_parts : AreParts (names_of bytes)
  below_parts = subst AreParts (sym their_below) w.are_parts

-- a text below the root that isn't the root's
pub below_written : (bytes : List ℕ) → bytes ≢ [] → IsBelow bytes → IsWritten bytes
below_written bytes some w = at w.names w.are_parts w.written
  where
    at : (t : Text) → AreParts t → bytes ≡ below_root t → IsWritten bytes
    at [] are e = absurd (some e)
    at (name ∷ t) are e = record { names = name ∷ t; are_parts = are; written = e }

-- none is the root's
pub below_empty : (bytes : List ℕ) → bytes ≡ [] → IsBelow bytes → names_of bytes ≡ []
below_empty bytes none w = ap names_of none ∙ below_names [] (All-nil IsPart)

pub root_below : IsBelow []
root_below = record { names = []; are_parts = All-nil IsPart; written = refl }

pub root_written : IsWritten (slash ∷ [])
root_written = record { names = []; are_parts = All-nil IsPart; written = refl }

-- a name more
module _ (name : List ℕ) (t : Text) (bytes : List ℕ) (is : IsPart name) (are : AreParts t) (e : bytes ≡ below_root t ++ slash ∷ name) where
  pub pushed_parts : AreParts (name ∷ t)
  pushed_parts = All-cons IsPart name t is are

  pub pushed_names : names_of bytes ≡ name ∷ t
  pushed_names = ap names_of e ∙ below_names (name ∷ t) pushed_parts

  pub pushed_below : IsBelow bytes
  pushed_below = record { names = name ∷ t; are_parts = pushed_parts; written = e }

  pub pushed_written : IsWritten bytes
  pushed_written = record { names = name ∷ t; are_parts = pushed_parts; written = e }

-- the bytes in front of the last slash are those of the text above
pub cut_above : (t : Text) (bytes : List ℕ) (end : ℕ) → AreParts t → bytes ≡ below_root t → end ≤ length bytes
    → ((front last : List ℕ) → bytes ≡ front ++ slash ∷ last → All (λ b. b ≢ slash) last → end ≡ length front) → take end bytes ≡ below_root (drop 1 t)
cut_above [] bytes end are is within last =
    let none : length bytes ≡ 0 = ap length is in
    let zero : end ≡ 0 = omega arith in
    ap (λ n. take n bytes) zero
cut_above (part ∷ t) bytes end are is within last =
    let front = last (below_root t) part is ((All-head IsPart part t are).no_slash) in
    ap (λ n. take n bytes) front ∙ ap (take (length (below_root t))) is ∙ take-append_seam (below_root t) (slash ∷ part)

pub cut_parts : (t : Text) → AreParts t → AreParts (drop 1 t)
cut_parts t are = All-drop IsPart 1 t are

-- and those behind it are the last name
pub cut_name : (t : Text) (bytes : List ℕ) (end : ℕ) → AreParts t → bytes ≡ text_of t
    → ((front last : List ℕ) → bytes ≡ front ++ slash ∷ last → All (λ b. b ≢ slash) last → end ≡ length front) → drop (end + 1) bytes ≡ last_name t
cut_name [] bytes end are is last =
    let zero : end ≡ 0 = last [] [] is (All-nil (λ b. b ≢ slash)) in
    (λ i. drop (zero i + 1) (is i))
cut_name (name ∷ t) bytes end are is last =
    let front = last (below_root t) name is ((All-head IsPart name t are).no_slash) in
    (λ i. drop (front i + 1) (is i)) ∙ drop-append-add (below_root t) (slash ∷ name) 1

pub some_text : (t : Text) → text_of t ≢ []
some_text [] e = absurd cc
some_text (name ∷ t) e = absurd (at (below_root t) e)
  where
    at : (front : List ℕ) → front ++ slash ∷ name ≡ [] → ⊥
    at [] e = absurd cc
    at (b ∷ front) e = absurd cc

-- a text below the root that isn't the root's is a location
pub located_some : (bytes : List ℕ) → bytes ≢ [] → IsBelow bytes → Ok (names_of bytes) ≡ located_at (names_of bytes)
located_some bytes some w = at (names_of bytes) (below_spelled bytes w)
  where
    at : (t : Text) → bytes ≡ below_root t → Ok t ≡ located_at t
    at [] e = absurd (some e)
    at (name ∷ t) e = refl

-- the names of a text, from the root down
all_reverse : {X : Type 0} (P : X → Type 0) (xs : List X) → All P xs → All P (reverse xs)
all_reverse P [] all = all
all_reverse P (x ∷ xs) all =
    subst (All P) (sym (reverse_onto xs x [])) (All-append P (reverse xs) (x ∷ []) (all_reverse P xs (All-tail P x xs all)) (All-cons P x [] (All-head P x xs all) (All-nil P)))

pub written_in_turn : (bytes : List ℕ) → IsWritten bytes → All IsPart (parts_of bytes)
written_in_turn bytes w = subst (All IsPart) (sym (spelled_in_turn bytes w)) (all_reverse IsPart (names_of bytes) (spelled_parts bytes w))
