-- Texts parted at their last slash, and the text of a name below another text.
use Rattle.std.proofs.Common.{◌≡◌, ◌≢◌, ℕ, ◌≤◌, ◌+◌, ◌-◌, List, [], ◌∷◌, ◌++◌, length, take, drop, refl, ap, sym, subst, ◌∙◌, arith}
use Rattle.std.specs.List.{All}
use Rattle.std.proofs.lemmas.List.{length-append, length-drop, append_assoc}
use Rattle.std.proofs.lemmas.List.Elements.{All-nil, All-cons, All-head, All-tail}
use Rattle.pt_canon.specs.pr_base.Paths.{slash, IsPart, AreParts, below_root, text_of}
use Rattle.pt_canon.specs.pr_base.Texts.{Text}
use Rattle.pt_canon.specs.pt_bind.Binding.{IsWritten, names_of}
use Rattle.pt_canon.proofs.pt_bind.ByteLemmas.{below_short, below_some, names_written, spelled_parts}
use Rattle.pt_canon.proofs.pt_bind.RowLemmas.{drop_front}
use Rattle.pt_args.specs.Parting.{IsParted}

-- the root alone has one byte
pub root_alone : (text : List ℕ) → IsWritten text → length text ≡ 1 → names_of text ≡ []
root_alone text w one = at (names_of text) (below_short text w one)
  where
    at : (t : Text) → [] ≡ below_root t → t ≡ []
    at [] e = refl
    at (name ∷ t) e = absurd (below_some name t (sym e))

take_front : (front rest : List ℕ) → take (length front) (front ++ rest) ≡ front
take_front [] rest = refl
take_front (b ∷ front) rest = ap (λ bytes. b ∷ bytes) (take_front front rest)

all_taken : (bytes : List ℕ) → take (length bytes) bytes ≡ bytes
all_taken [] = refl
all_taken (b ∷ bytes) = ap (λ rest. b ∷ rest) (all_taken bytes)

-- what stands behind a place
pub behind_is : (n : ℕ) (bytes : List ℕ) → take (length bytes - n) (drop n bytes) ≡ drop n bytes
behind_is n bytes = ap (λ k. take k (drop n bytes)) (sym (length-drop n bytes)) ∙ all_taken (drop n bytes)

-- where the last slash stands
abbrev pub IsLast : List ℕ → ℕ → Type 0
IsLast bytes end = (front name : List ℕ) → bytes ≡ front ++ slash ∷ name → All (λ b. b ≢ slash) name → end ≡ length front

last_at : (text name : List ℕ) (t : Text) (end : ℕ) → text ≡ below_root (name ∷ t) → AreParts (name ∷ t) → IsLast text end → end ≡ length (below_root t)
last_at text name t end e are last = last (below_root t) name e (All-head IsPart name t are).no_slash

parted_at : (text name : List ℕ) (t : Text) (end : ℕ) → text ≡ below_root (name ∷ t) → end ≡ length (below_root t) → (take end text ≡ below_root t) × (drop (end + 1) text ≡ name)
parted_at text name t end e long =
    let whole : text ≡ (below_root t ++ slash ∷ []) ++ name = e ∙ sym (append_assoc (below_root t) (slash ∷ []) name) in
    let more : end + 1 ≡ length (below_root t ++ slash ∷ []) = omega (arith, long, length-append (below_root t) (slash ∷ [])) in (
      ap (λ n. take n text) long ∙ ap (take (length (below_root t))) e ∙ take_front (below_root t) (slash ∷ name),
      ap (λ n. drop n text) more ∙ ap (drop (length (below_root t ++ slash ∷ []))) whole ∙ drop_front (below_root t ++ slash ∷ []) name,
    )

pub last_within : (text : List ℕ) → IsWritten text → length text ≢ 1 → (end : ℕ) → IsLast text end → end + 1 ≤ length text
last_within text w long end last = at w.names w.are_parts w.written
  where
    at : (t : Text) → AreParts t → text ≡ text_of t → end + 1 ≤ length text
    at [] are e = absurd (long (ap length e))
    at (name ∷ t) are e =
        let there : end ≡ length (below_root t) = last_at text name t end e are last in
        omega (arith, there, ap length e, length-append (below_root t) (slash ∷ name))

-- a name in the root, and one in another directory
pub parted_in_root : (text : List ℕ) → IsWritten text → length text ≢ 1 → (end : ℕ) → IsLast text end → end ≡ 0 → IsParted text (slash ∷ []) (drop (end + 1) text)
parted_in_root text w long end last none = at w.names w.are_parts w.written
  where
    at : (t : Text) → AreParts t → text ≡ text_of t → IsParted text (slash ∷ []) (drop (end + 1) text)
    at [] are e = absurd (long (ap length e))
    at (name ∷ []) are e =
        let both = parted_at text name [] end e none in
        record {
          names = ap names_of e ∙ names_written (name ∷ []) are ∙ (λ i. sym both.1 i ∷ sym (names_written [] (All-nil IsPart)) i);
          written = record { names = []; are_parts = All-nil IsPart; written = refl };
          part = subst IsPart (sym both.1) (All-head IsPart name [] are);
        }
    at (name ∷ up ∷ t) are e =
        let there : end ≡ length (below_root (up ∷ t)) = last_at text name (up ∷ t) end e are last in
        absurd (let h : ⊥ = omega (arith, there, none, length-append (below_root t) (slash ∷ up)) in h)

pub parted_below : (text : List ℕ) → IsWritten text → length text ≢ 1 → (end : ℕ) → IsLast text end → end ≢ 0 → IsParted text (take end text) (drop (end + 1) text)
parted_below text w long end last some = at w.names w.are_parts w.written
  where
    at : (t : Text) → AreParts t → text ≡ text_of t → IsParted text (take end text) (drop (end + 1) text)
    at [] are e = absurd (long (ap length e))
    at (name ∷ []) are e = absurd (some (last_at text name [] end e are last))
    at (name ∷ up ∷ t) are e =
        let both = parted_at text name (up ∷ t) end e (last_at text name (up ∷ t) end e are last) in
        let parts : AreParts (up ∷ t) = All-tail IsPart name (up ∷ t) are in
        record {
          names = ap names_of e ∙ names_written (name ∷ up ∷ t) are ∙ (λ i. sym both.1 i ∷ sym (ap names_of both.0 ∙ names_written (up ∷ t) parts) i);
          written = record { names = up ∷ t; are_parts = parts; written = both.0 };
          part = subst IsPart (sym both.1) (All-head IsPart name (up ∷ t) are);
        }

-- ---- a name below a text

pub child_made : (text name made : List ℕ) → IsWritten text → IsPart name → made ≡ (below_root (names_of text) ++ slash ∷ []) ++ name → IsWritten made × (names_of made ≡ name ∷ names_of text)
child_made text name made w is e =
    let are : AreParts (name ∷ names_of text) = All-cons IsPart name (names_of text) is (spelled_parts text w) in
    let whole : made ≡ text_of (name ∷ names_of text) = e ∙ append_assoc (below_root (names_of text)) (slash ∷ []) name in
    (record { names = name ∷ names_of text; are_parts = are; written = whole }, ap names_of whole ∙ names_written (name ∷ names_of text) are)
