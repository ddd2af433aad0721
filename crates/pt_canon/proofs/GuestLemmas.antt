-- Guest texts by the bytes below the root.
use Rattle.std.proofs.Common.{◌≡◌, ◌≢◌, ℕ, zero, suc, ◌≤◌, ◌+◌, ◌-◌, List, [], ◌∷◌, ◌++◌, length, take, drop, reverse, refl, ap, sym, subst, ◌∙◌, arith}
use Rattle.std.specs.List.{All}
use Rattle.std.proofs.lemmas.List.{reverse-reverse, length-append, length-drop, append_assoc}
use Rattle.std.proofs.lemmas.List.Elements.{All-nil, All-cons, All-head, All-tail}
use Rattle.pt_bind.specs.pr_base.Paths.{slash, IsPart, AreParts, below_root, text_of}
use Rattle.pt_bind.specs.pr_base.Texts.{Text}
use Rattle.pt_bind.specs.Binding.{IsWritten, names_of}
use Rattle.pt_bind.proofs.ByteLemmas.{below_root_parts, names_written}
use Rattle.pt_bind.proofs.RowLemmas.{drop_front}
use Rattle.pt_canon.specs.Kept.{IsBelowRoot, IsParted}
use Rattle.pt_canon.specs.ProcessLinks.{above}

pub below_names : (t : Text) → AreParts t → names_of (below_root t) ≡ t
unfolding names_of
below_names t are = ap reverse (below_root_parts t are) ∙ reverse-reverse t

pub root_below : IsBelowRoot []
root_below = record { names = []; are_parts = All-nil IsPart; written = refl }

pub root_names : names_of [] ≡ []
root_names = below_names [] (All-nil IsPart)

module _ (bytes : List ℕ) (w : IsBelowRoot bytes) where
  pub their_names : names_of bytes ≡ w.names
  their_names = ap names_of w.written ∙ below_names w.names w.are_parts

  pub below_is : bytes ≡ below_root (names_of bytes)
  below_is = w.written ∙ ap below_root (sym their_names)

  pub below_parts : AreParts (names_of bytes)
  below_parts = subst AreParts (sym their_names) w.are_parts

  pub child_below : (name : List ℕ) → IsPart name → IsBelowRoot (bytes ++ slash ∷ name)
  child_below name is = record { names = name ∷ w.names; are_parts = All-cons IsPart name w.names is w.are_parts; written = ap (λ b. b ++ slash ∷ name) w.written }

  pub child_names : (name : List ℕ) → IsPart name → names_of (bytes ++ slash ∷ name) ≡ name ∷ names_of bytes
  child_names name is =
      ap (λ b. names_of (b ++ slash ∷ name)) w.written ∙ below_names (name ∷ w.names) (All-cons IsPart name w.names is w.are_parts) ∙ ap (λ t. name ∷ t) (sym their_names)

  pub child_made : (name made : List ℕ) → IsPart name → made ≡ (bytes ++ slash ∷ []) ++ name → IsBelowRoot made × (names_of made ≡ name ∷ names_of bytes)
  child_made name made is e =
      let whole : made ≡ bytes ++ slash ∷ name = e ∙ append_assoc bytes (slash ∷ []) name in
      (subst IsBelowRoot (sym whole) (child_below name is), ap names_of whole ∙ child_names name is)

-- bytes below the root in the form of a text's
pub text_none : (bytes : List ℕ) → IsBelowRoot bytes → bytes ≡ [] → slash ∷ [] ≡ text_of (names_of bytes)
text_none bytes w none = ap text_of (sym (ap names_of none ∙ root_names))

pub text_some : (bytes : List ℕ) → IsBelowRoot bytes → bytes ≢ [] → bytes ≡ text_of (names_of bytes)
text_some bytes w some = at (names_of bytes) (below_is bytes w)
  where
    at : (t : Text) → bytes ≡ below_root t → bytes ≡ text_of t
    at [] e = absurd (some e)
    at (name ∷ t) e = e

pub text_written : (bytes : List ℕ) → IsBelowRoot bytes → (text : List ℕ) → text ≡ text_of (names_of bytes) → IsWritten text
text_written bytes w text e = record { names = names_of bytes; are_parts = below_parts bytes w; written = e }

pub text_names : (bytes : List ℕ) → IsBelowRoot bytes → (text : List ℕ) → text ≡ text_of (names_of bytes) → names_of text ≡ names_of bytes
text_names bytes w text e = ap names_of e ∙ names_written (names_of bytes) (below_parts bytes w)

-- ---- cutting at the last slash

take_front : (front rest : List ℕ) → take (length front) (front ++ rest) ≡ front
take_front [] rest = refl
take_front (b ∷ front) rest = ap (λ bytes. b ∷ bytes) (take_front front rest)

-- where the last slash stands
abbrev pub IsLast : List ℕ → ℕ → Type 0
IsLast bytes end = (front name : List ℕ) → bytes ≡ front ++ slash ∷ name → All (λ b. b ≢ slash) name → end ≡ length front

parted_at : (bytes : List ℕ) (name : List ℕ) (t : Text) (end : ℕ) → bytes ≡ below_root (name ∷ t) → AreParts (name ∷ t) → IsLast bytes end
    → (take end bytes ≡ below_root t) × (drop (end + 1) bytes ≡ name)
parted_at bytes name t end e are last =
    let long : end ≡ length (below_root t) = last (below_root t) name e (All-head IsPart name t are).no_slash in
    let whole : bytes ≡ (below_root t ++ slash ∷ []) ++ name = e ∙ sym (append_assoc (below_root t) (slash ∷ []) name) in
    let more : end + 1 ≡ length (below_root t ++ slash ∷ []) = omega (arith, long, length-append (below_root t) (slash ∷ [])) in (
      ap (λ n. take n bytes) long ∙ ap (take (length (below_root t))) e ∙ take_front (below_root t) (slash ∷ name),
      ap (λ n. drop n bytes) more ∙ ap (drop (length (below_root t ++ slash ∷ []))) whole ∙ drop_front (below_root t ++ slash ∷ []) name,
    )

take_none : (n : ℕ) → take {A = ℕ} n [] ≡ []
take_none zero = refl
take_none (suc n) = refl

pub cut : (bytes : List ℕ) → IsBelowRoot bytes → (end : ℕ) → IsLast bytes end → IsBelowRoot (take end bytes) × (names_of (take end bytes) ≡ above (names_of bytes))
cut bytes w end last = at w.names w.are_parts w.written
  where
    at : (t : Text) → AreParts t → bytes ≡ below_root t → IsBelowRoot (take end bytes) × (names_of (take end bytes) ≡ above (names_of bytes))
    at [] are e =
        let front : take end bytes ≡ [] = ap (take end) e ∙ take_none end in
        (subst IsBelowRoot (sym front) root_below, ap names_of front ∙ root_names ∙ ap above (sym (ap names_of e ∙ root_names)))
    at (name ∷ t) are e =
        let front = (parted_at bytes name t end e are last).0 in
        let parts : AreParts t = All-tail IsPart name t are in
        (record { names = t; are_parts = parts; written = front }, ap names_of front ∙ below_names t parts ∙ ap above (sym (ap names_of e ∙ below_names (name ∷ t) are)))

pub parted : (bytes : List ℕ) → IsBelowRoot bytes → bytes ≢ [] → (end : ℕ) → IsLast bytes end → IsParted bytes (take end bytes) (drop (end + 1) bytes)
parted bytes w some end last = at w.names w.are_parts w.written
  where
    at : (t : Text) → AreParts t → bytes ≡ below_root t → IsParted bytes (take end bytes) (drop (end + 1) bytes)
    at [] are e = absurd (some e)
    at (name ∷ t) are e =
        let both = parted_at bytes name t end e are last in
        let parts : AreParts t = All-tail IsPart name t are in
        record {
          names = ap names_of e ∙ below_names (name ∷ t) are ∙ (λ i. sym both.1 i ∷ sym (ap names_of both.0 ∙ below_names t parts) i);
          front_below = record { names = t; are_parts = parts; written = both.0 };
          part = subst IsPart (sym both.1) (All-head IsPart name t are);
        }

-- the last slash of a name stands within its bytes
pub last_within : (bytes : List ℕ) → IsBelowRoot bytes → bytes ≢ [] → (end : ℕ) → IsLast bytes end → end + 1 ≤ length bytes
last_within bytes w some end last = at w.names w.are_parts w.written
  where
    at : (t : Text) → AreParts t → bytes ≡ below_root t → end + 1 ≤ length bytes
    at [] are e = absurd (some e)
    at (name ∷ t) are e =
        let long : end ≡ length (below_root t) = last (below_root t) name e (All-head IsPart name t are).no_slash in
        omega (arith, long, ap length e, length-append (below_root t) (slash ∷ name))

all_taken : (xs : List ℕ) → take (length xs) xs ≡ xs
all_taken [] = refl
all_taken (x ∷ xs) = ap (λ ys. x ∷ ys) (all_taken xs)

-- what stands behind a place
pub behind_is : (n : ℕ) (bytes : List ℕ) → take (length bytes - n) (drop n bytes) ≡ drop n bytes
behind_is n bytes = ap (λ k. take k (drop n bytes)) (sym (length-drop n bytes)) ∙ all_taken (drop n bytes)
