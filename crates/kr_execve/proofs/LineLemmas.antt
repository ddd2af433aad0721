-- The interpreter that the line of a script names is a text of bytes.
use Rattle.std.proofs.Common.{◌≡◌, ℕ, ◌<◌, zero, suc, Bool, true, false, cond, List, [], ◌∷◌, ◌++◌, take, drop, reverse, Option, Some, None, refl, sym, ap, subst, ◌∙◌}
use Rattle.std.specs.Prelude.{◌==◌, ◌||◌}
use Rattle.std.specs.List.{All, AllByRecursion, list_any}
use Rattle.std.specs.Option.{option_and_then, option_map, option_map_or}
use Rattle.std.proofs.lemmas.List.{reverse-append}
use Rattle.std.proofs.lemmas.List.Elements.{All-cons, All-nil}
use Rattle.kr_exec.specs.kr_calls.Scripts.{before, from_blank, interpreter_of, is_blank, is_cut, is_newline, line_of, parted, script_of, without_leading_blanks, without_trailing_blanks}
use Rattle.kr_exec.specs.kr_tree.Lawful.{AreBytes, HasBytes, IsOfBytes}
use Rattle.kr_exec.specs.kr_tree.Tree.{Body, Directory, Inode, ProcessDirectory, RegularFile, SymbolicLink, Tree, file_of, inode}
use Rattle.kr_exec.specs.kr_tree.declared.place.Host.{Host}
use Rattle.kr_exec.specs.kr_tree.declared.place.Host.TheVariants.{Node, Proc}
use Rattle.kr_exec.specs.kr_tree.declared.place.Place.{Place}
use Rattle.kr_exec.specs.Interpreters.{bytes_at, found_bytes, head_of}
use Rattle.kr_perform.proofs.TextLemmas.{IsTextByte}

module _ (P : ℕ → Type 0) where
  abbrev Each : List ℕ → Type 0
  Each bytes = AllByRecursion P bytes

  each-drop : (n : ℕ) (bytes : List ℕ) → Each bytes → Each (drop n bytes)
  each-drop zero bytes each = each
  each-drop (suc n) [] each = tt
  each-drop (suc n) (b ∷ bytes) each = each-drop n bytes each.1

  pub each-take : (n : ℕ) (bytes : List ℕ) → Each bytes → Each (take n bytes)
  each-take zero bytes each = tt
  each-take (suc n) [] each = tt
  each-take (suc n) (b ∷ bytes) each = (each.0, each-take n bytes each.1)

  each-before : (test : ℕ → Bool) (bytes : List ℕ) → Each bytes → Each (before test bytes)
  each-before test [] each = tt
  each-before test (b ∷ bytes) each = by (test b) (each-before test bytes each.1)
    where
      by : (c : Bool) → Each (before test bytes) → Each (cond c [] (b ∷ before test bytes))
      by true rest = tt
      by false rest = (each.0, rest)

  each-leading : (bytes : List ℕ) → Each bytes → Each (without_leading_blanks bytes)
  each-leading [] each = tt
  each-leading (b ∷ bytes) each = by (is_blank b) (each-leading bytes each.1)
    where
      by : (c : Bool) → Each (without_leading_blanks bytes) → Each (cond c (without_leading_blanks bytes) (b ∷ bytes))
      by true rest = rest
      by false rest = each

  each-append : (xs ys : List ℕ) → Each xs → Each ys → Each (xs ++ ys)
  each-append [] ys first second = second
  each-append (x ∷ xs) ys first second = (first.0, each-append xs ys first.1 second)

  each-reverse : (bytes : List ℕ) → Each bytes → Each (reverse bytes)
  each-reverse [] each = tt
  each-reverse (b ∷ bytes) each = subst Each (sym (reverse-append (b ∷ []) bytes)) (each-append (reverse bytes) (b ∷ []) (each-reverse bytes each.1) (each.0, tt))

  each-trailing : (bytes : List ℕ) → Each bytes → Each (without_trailing_blanks bytes)
  each-trailing bytes each = each-reverse (without_leading_blanks (reverse bytes)) (each-leading (reverse bytes) (each-reverse bytes each))

  each-all : (bytes : List ℕ) → Each bytes → All P bytes
  each-all [] each = All-nil P
  each-all (b ∷ bytes) each = All-cons P b bytes each.0 (each-all bytes each.1)

  -- the first part of what is on a line between blanks
  each-parted : (bytes : List ℕ) (line : List ℕ × List ℕ) → Each bytes → parted bytes ≡ Some line → Each line.0
  each-parted [] line each is = absurd cc
  each-parted (b ∷ bytes) line each is =
      let one : (before is_blank (b ∷ bytes), without_leading_blanks (from_blank (b ∷ bytes))) ≡ line = cc in
      subst (λ (l : List ℕ × List ℕ). Each l.0) one (each-before is_blank (b ∷ bytes) each)

-- ---- texts

without-zero : (bytes : List ℕ) → AreBytes bytes → list_any (λ b. b == 0) bytes ≡ false → AllByRecursion IsTextByte bytes
without-zero [] are none = tt
without-zero (b ∷ bytes) are none = by (b == 0) refl (without-zero bytes are.1) none
  where
    by : (c : Bool) → (b == 0) ≡ c → (list_any (λ b. b == 0) bytes ≡ false → AllByRecursion IsTextByte bytes) → (c || list_any (λ b. b == 0) bytes) ≡ false → AllByRecursion IsTextByte (b ∷ bytes)
    by true is rest none = absurd cc
    by false is rest none = (((λ zero_is. let same : (b == 0) ≡ true = ap (λ n. n == 0) zero_is in let clash : false ≡ true = sym is ∙ same in cc), are.0), rest none)

script-text : (head : List ℕ) (line : List ℕ × List ℕ) → AreBytes head → script_of head ≡ Some line → AllByRecursion IsTextByte line.0
script-text head line are is = cut (is_cut head) is
  where
    own : AreBytes (line_of head)
    own = each-before (λ b. b < 256) is_newline (drop 2 head) (each-drop (λ b. b < 256) 2 head are)

    zeros : (c : Bool) → list_any (λ b. b == 0) (line_of head) ≡ c → cond c None (parted (without_trailing_blanks (without_leading_blanks (line_of head)))) ≡ Some line → AllByRecursion IsTextByte line.0
    zeros true some is = absurd cc
    zeros false none is =
        each-parted IsTextByte (without_trailing_blanks (without_leading_blanks (line_of head))) line
        (each-trailing IsTextByte (without_leading_blanks (line_of head)) (each-leading IsTextByte (line_of head) (without-zero (line_of head) own none))) is

    cut : (c : Bool) → cond c None (interpreter_of (line_of head)) ≡ Some line → AllByRecursion IsTextByte line.0
    cut true is = absurd cc
    cut false is = zeros (list_any (λ b. b == 0) (line_of head)) refl is

-- ---- files

-- what stands in a file of the tree are bytes
file-bytes : (t : Tree) → HasBytes t → (h : Host) → AreBytes (bytes_at t h)
file-bytes t bytes (Proc i at) = tt
file-bytes t bytes (Node i) = by (inode t i) refl
  where
    kind : (b : Body) → IsOfBytes b → AreBytes (option_map_or (λ (bytes : List ℕ). bytes) (file_of b) [])
    kind (Directory entries standing) are = tt
    kind (RegularFile bytes) are = are
    kind (SymbolicLink text) are = tt
    kind (ProcessDirectory standing) are = tt

    by : (o : Option Inode) → inode t i ≡ o → AreBytes (option_map_or (λ (bytes : List ℕ). bytes) (option_and_then file_of (option_map (λ (x : Inode). x.node.body) o)) [])
    by None is = tt
    by (Some x) is = kind x.node.body (bytes i x is)

-- the interpreter of a file of the tree
pub line-text : (t : Tree) → HasBytes t → (found : Option (Place ℕ)) (line : List ℕ × List ℕ) → script_of (head_of t found) ≡ Some line → All IsTextByte line.0
line-text t bytes found line is = each-all IsTextByte line.0 (script-text (head_of t found) line (each-take (λ b. b < 256) 256 (found_bytes t found) (by found)) is)
  where
    by : (o : Option (Place ℕ)) → AreBytes (found_bytes t o)
    by None = tt
    by (Some p) = file-bytes t bytes p.host
