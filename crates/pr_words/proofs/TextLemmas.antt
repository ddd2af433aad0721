-- Of texts without zero bytes each path of a command is one too.
use Rattle.std.proofs.Common.{◌≡◌, ◌≢◌, ℕ, zero, suc, Bool, true, false, cond, List, [], ◌∷◌, Option, Some, None, refl, subst}
use Rattle.std.specs.Prelude.{drop, codes, nat_eq, ◌==◌, not, if◌then◌else◌}
use Rattle.std.specs.List.{All, onto_first, slice_split, list_all, starts_with}
use Rattle.std.proofs.lemmas.List.Elements.{All-append, All-cons, All-drop, All-head, All-nil, All-tail}
use Rattle.std.proofs.lemmas.Bool.{and_parts}
use Rattle.std.proofs.lemmas.Option.{same_Some}
use Rattle.pr_words.specs.Command.{candidate, directories, or_later, path_of, path_text, word_of}

-- no byte is zero
abbrev pub IsText : List ℕ → Type 0
IsText bytes = All (λ b. b ≢ 0) bytes

-- a list of bytes is a text where a test says so
text-of : (bytes : List ℕ) → list_all (λ b. not (b == 0)) bytes ≡ true → IsText bytes
text-of [] e = All-nil (λ b. b ≢ 0)
text-of (b ∷ bytes) e =
    let p = and_parts (not (b == 0)) (list_all (λ c. not (c == 0)) bytes) e in
    All-cons (λ c. c ≢ 0) b bytes (λ zero-is. differs b zero-is p.0) (text-of bytes p.1)
  where
    differs : (b : ℕ) → b ≡ 0 → not (b == 0) ≡ true → ⊥
    differs zero e test = cc
    differs (suc b) e test = cc

text-path : (variable text : List ℕ) → path_text variable ≡ Some text → IsText variable → IsText text
text-path variable text e all = by (starts_with nat_eq variable (codes "PATH=")) e
  where
    by : (b : Bool) → (if b then Some (drop 5 variable) else None) ≡ Some text → IsText text
    by true e = subst IsText (same_Some (drop 5 variable) text e) (All-drop (λ b. b ≢ 0) 5 variable all)
    by false e = absurd cc

text-in : (env : List (List ℕ)) (text : List ℕ) → path_of env ≡ Some text → All IsText env → IsText text
text-in [] text e all = absurd cc
text-in (variable ∷ env) text e all = by (λ later. text-in env text later (All-tail IsText variable env all)) (path_text variable) refl e
  where
    by : (path_of env ≡ Some text → IsText text) → (o : Option (List ℕ)) → path_text variable ≡ o → or_later o (path_of env) ≡ Some text → IsText text
    by later None is e = later e
    by later (Some first) is e = subst IsText (same_Some first text e) (text-path variable first is (All-head IsText variable env all))

onto-first : (b : ℕ) (parts : List (List ℕ)) → b ≢ 0 → All IsText parts → All IsText (onto_first b parts)
onto-first b [] some all = All-cons IsText (b ∷ []) [] (All-cons (λ c. c ≢ 0) b [] some (All-nil (λ c. c ≢ 0))) (All-nil IsText)
onto-first b (part ∷ parts) some all = All-cons IsText (b ∷ part) parts (All-cons (λ c. c ≢ 0) b part some (All-head IsText part parts all)) (All-tail IsText part parts all)

texts-split : (p : ℕ → Bool) (text : List ℕ) → IsText text → All IsText (slice_split p text)
texts-split p [] all = All-cons IsText [] [] (All-nil (λ c. c ≢ 0)) (All-nil IsText)
texts-split p (b ∷ text) all = by (texts-split p text (All-tail (λ c. c ≢ 0) b text all)) (p b)
  where
    by : All IsText (slice_split p text) → (q : Bool) → All IsText (cond q ([] ∷ slice_split p text) (onto_first b (slice_split p text)))
    by rest true = All-cons IsText [] (slice_split p text) (All-nil (λ c. c ≢ 0)) rest
    by rest false = onto-first b (slice_split p text) (All-head (λ c. c ≢ 0) b text all) rest

pub texts-directories : (env : List (List ℕ)) → All IsText env → All IsText (directories (path_of env))
texts-directories env all = by (path_of env) refl
  where
    by : (o : Option (List ℕ)) → path_of env ≡ o → All IsText (directories o)
    by None e = All-cons IsText (codes "/bin") (codes "/usr/bin" ∷ []) (text-of (codes "/bin") refl) (All-cons IsText (codes "/usr/bin") [] (text-of (codes "/usr/bin") refl) (All-nil IsText))
    by (Some text) e = texts-split (λ b. b == 58) text (text-in env text e all)

pub text-candidate : (dir word : List ℕ) → IsText dir → IsText word → IsText (candidate dir word)
text-candidate [] word dir-is word-is = word-is
text-candidate (b ∷ dir) word dir-is word-is = All-append (λ c. c ≢ 0) (b ∷ dir) (47 ∷ word) dir-is (All-cons (λ c. c ≢ 0) 47 word (λ e. absurd cc) word-is)

pub text-word : (command : List (List ℕ)) → All IsText command → IsText (word_of command)
text-word [] all = text-of (codes "/bin/sh") refl
text-word (word ∷ words) all = All-head IsText word words all
