-- What the bytes of a text tell, and what follows them in those of another.
use Rattle.std.proofs.Common.{◌≡◌, ◌≢◌, ◌==◌, ℕ, ◌≤◌, Bool, true, false, Option, Some, None, List, [], ◌∷◌, ◌++◌, length, reverse, refl, ap, sym, subst, ◌∙◌, arith, append-nil}
use Rattle.std.specs.Option.{option_map}
use Rattle.std.proofs.lemmas.Bool.Decides.{nat_tests}
use Rattle.std.proofs.lemmas.Grind.{reverse_onto}
use Rattle.std.proofs.lemmas.List.{length-append, reverse-append, reverse-reverse, append_cancel_left}
use Rattle.std.proofs.lemmas.List.Elements.{All-head, All-tail}
use Rattle.pr_base.specs.Paths.{slash, parts_of, IsPart, AreParts, below_root, text_of}
use Rattle.pr_base.specs.Pieces.{BeginsSlash}
use Rattle.pr_base.specs.Texts.{Text, names_below}
use Rattle.pr_base.proofs.PathLemmas.{parts_seam, part_alone, below_root_append}
use Rattle.pr_base.proofs.TextLemmas.{below_found, below_there}
use Rattle.pt_bind.specs.Binding.{IsWritten, names_of}

-- ---- the names of a text's bytes

pub below_root_parts : (t : Text) → AreParts t → parts_of (below_root t) ≡ reverse t
below_root_parts [] are = refl
below_root_parts (name ∷ t) are =
    let above = below_root_parts t (All-tail IsPart name t are) in
    let own = part_alone name (All-head IsPart name t are) in
    parts_seam (below_root t) name ∙ (λ i. above i ++ own i) ∙ sym (reverse_onto t name [])

pub text_parts : (t : Text) → AreParts t → parts_of (text_of t) ≡ reverse t
text_parts [] are = refl
text_parts (name ∷ t) are = below_root_parts (name ∷ t) are

pub names_written : (t : Text) → AreParts t → names_of (text_of t) ≡ t
unfolding names_of
names_written t are = ap reverse (text_parts t are) ∙ reverse-reverse t

module _ (bytes : List ℕ) (w : IsWritten bytes) where
  pub their_names : names_of bytes ≡ w.names
  their_names = ap names_of w.written ∙ names_written w.names w.are_parts

  pub spelled : bytes ≡ text_of (names_of bytes)
  spelled = w.written ∙ ap text_of (sym their_names)

  pub spelled_parts : AreParts (names_of bytes)
  spelled_parts = subst AreParts (sym their_names) w.are_parts

  pub spelled_in_turn : parts_of bytes ≡ reverse (names_of bytes)
  spelled_in_turn = ap parts_of spelled ∙ text_parts (names_of bytes) spelled_parts

-- ---- below the root

pub empty_is : (bytes : List ℕ) (r : Bool) → r ≡ (length bytes == 0) → r ≡ true → bytes ≡ []
empty_is [] r e h = refl
empty_is (b ∷ bytes) r e h = absurd (let same = sym e ∙ h in let never : ⊥ = grind (arith, nat_tests) in never)

pub not_empty_is : (bytes : List ℕ) (r : Bool) → r ≡ (length bytes == 0) → r ≡ false → bytes ≢ []
not_empty_is bytes r e h = λ none. let len = ap length none in let other = sym e ∙ h in grind (arith, nat_tests)

some_bytes : (name : List ℕ) → IsPart name → 1 ≤ length name
some_bytes [] is = absurd (is.some refl)
some_bytes (b ∷ name) is = omega arith

name_is_long : (t : Text) (name : List ℕ) → IsPart name → 2 ≤ length (below_root (name ∷ t))
name_is_long t name is = omega (arith, length-append (below_root t) (slash ∷ name), some_bytes name is)

below_of_short : (t : Text) → AreParts t → length (text_of t) ≡ 1 → [] ≡ below_root t
below_of_short [] are one = refl
below_of_short (name ∷ t) are one = absurd (let h : ⊥ = omega (arith, one, name_is_long t name (All-head IsPart name t are)) in h)

below_of_long : (t : Text) → length (text_of t) ≢ 1 → text_of t ≡ below_root t
below_of_long [] long = absurd (long refl)
below_of_long (name ∷ t) long = refl

pub below_short : (bytes : List ℕ) → IsWritten bytes → length bytes ≡ 1 → [] ≡ below_root (names_of bytes)
below_short bytes w one = below_of_short (names_of bytes) (spelled_parts bytes w) (ap length (sym (spelled bytes w)) ∙ one)

pub below_long : (bytes : List ℕ) → IsWritten bytes → length bytes ≢ 1 → bytes ≡ below_root (names_of bytes)
below_long bytes w long = spelled bytes w ∙ below_of_long (names_of bytes) (λ one. long (ap length (spelled bytes w) ∙ one))

pub below_some : (name : List ℕ) (t : Text) → below_root (name ∷ t) ≢ []
below_some name t none = omega (arith, ap length none, length-append (below_root t) (slash ∷ name))

-- ---- a text and what stands below it

text_below : (name : List ℕ) (rest top : Text) → text_of ((name ∷ rest) ++ top) ≡ below_root top ++ below_root (name ∷ rest)
text_below name rest top = below_root_append (name ∷ rest) top

pub joined_none : (top rest : List ℕ) → IsWritten top → rest ≡ [] → (names : Text) → rest ≡ below_root names → top ≡ text_of (names ++ names_of top)
joined_none top rest w none [] is = spelled top w
joined_none top rest w none (name ∷ names) is = absurd (below_some name names (sym is ∙ none))

pub joined_some : (top rest : List ℕ) → rest ≢ [] → (names : Text) → rest ≡ below_root names → below_root (names_of top) ++ rest ≡ text_of (names ++ names_of top)
joined_some top rest some [] is = absurd (some is)
joined_some top rest some (name ∷ names) is = ap (λ r. below_root (names_of top) ++ r) is ∙ sym (text_below name names (names_of top))

-- ---- what follows the bytes of a text

begins_slash : (t : Text) → BeginsSlash (below_root t)
begins_slash [] = tt
begins_slash (name ∷ []) = refl
begins_slash (name ∷ above ∷ t) = front (below_root (above ∷ t)) (begins_slash (above ∷ t))
  where
    front : (path : List ℕ) → BeginsSlash path → BeginsSlash (path ++ slash ∷ name)
    front [] h = refl
    front (b ∷ path) h = h

none_below : (top t : Text) → ((rest : Text) → t ≡ rest ++ top → ⊥) → None ≡ option_map below_root (names_below top t)
none_below top t away = at (names_below top t) refl
  where
    at : (o : Option Text) → names_below top t ≡ o → None ≡ option_map below_root (names_below top t)
    at None e = ap (option_map below_root) (sym e)
    at (Some rest) e = absurd (away rest (below_found top t rest e))

pub not_in_front : (top t : Text) → ((more : List ℕ) → below_root t ≢ below_root top ++ more) → None ≡ option_map below_root (names_below top t)
not_in_front top t away = none_below top t (λ rest e. away (below_root rest) (ap below_root e ∙ below_root_append rest top))

pub within_name : (top t : Text) (more : List ℕ) → below_root t ≡ below_root top ++ more → (BeginsSlash more → ⊥) → None ≡ option_map below_root (names_below top t)
within_name top t more e other = none_below top t (λ rest h.
    let same : below_root rest ≡ more = append_cancel_left (below_root top) (below_root rest) more (sym (ap below_root h ∙ below_root_append rest top) ∙ e) in
    other (subst BeginsSlash same (begins_slash rest)))

stands_below : (top rest t : Text) (more : List ℕ) → below_root t ≡ below_root top ++ more → t ≡ rest ++ top → Some more ≡ option_map below_root (names_below top t)
stands_below top rest t more e h =
    let same : below_root rest ≡ more = append_cancel_left (below_root top) (below_root rest) more (sym (ap below_root h ∙ below_root_append rest top) ∙ e) in
    ap Some (sym same) ∙ sym (ap (option_map below_root) (ap (names_below top) h ∙ below_there top rest))

pub in_front : (top t : Text) (more : List ℕ) → AreParts top → AreParts t → below_root t ≡ below_root top ++ more → BeginsSlash more → Some more ≡ option_map below_root (names_below top t)
in_front top t [] ts us e h =
    let same : reverse t ≡ reverse top = sym (below_root_parts t us) ∙ ap parts_of (e ∙ append-nil (below_root top)) ∙ below_root_parts top ts in
    stands_below top [] t [] e (sym (reverse-reverse t) ∙ ap reverse same ∙ reverse-reverse top)
in_front top t (b ∷ more) ts us e h =
    let cut : below_root t ≡ below_root top ++ slash ∷ more = e ∙ ap (λ c. below_root top ++ c ∷ more) h in
    let turned : reverse t ≡ reverse top ++ parts_of more = sym (below_root_parts t us) ∙ ap parts_of cut ∙ parts_seam (below_root top) more ∙ ap (λ ps. ps ++ parts_of more) (below_root_parts top ts) in
    let whole : t ≡ reverse (parts_of more) ++ top =
    sym (reverse-reverse t) ∙ ap reverse turned ∙ reverse-append (reverse top) (parts_of more) ∙ ap (λ u. reverse (parts_of more) ++ u) (reverse-reverse top) in
    stands_below top (reverse (parts_of more)) t (b ∷ more) e whole
