-- What scripts make of a program's arguments are bytes.
use Rattle.std.proofs.Common.{◌≡◌, ℕ, zero, suc, Bool, true, false, cond, List, [], ◌∷◌, drop, reverse, Option, Some, None, refl, sym, subst}
use Rattle.std.specs.Prelude.{◌==◌, Err, Ok, Result}
use Rattle.std.specs.List.{list_any}
use Rattle.std.proofs.lemmas.List.{reverse-append}
use Rattle.kr_first.specs.pr_base.declared.errno.Errno.{Errno}
use Rattle.kr_first.specs.pr_base.declared.errno.Errno.TheVariants.{E2BIG, ELOOP}
use Rattle.kr_first.specs.kr_calls.Expansion.{Expanded, Finding, Onward, argument_of, by_interpreter, by_line, expanded, is_script, is_too_big, new_args, runs}
use Rattle.kr_first.specs.kr_calls.Scripts.{before, from_blank, interpreter_of, is_blank, is_cut, is_newline, line_of, parted, script_of, without_leading_blanks, without_trailing_blanks}
use Rattle.kr_first.specs.kr_tree.Lawful.{AreBytes}
use Rattle.kr_first.proofs.law_allowed.PieceLemmas.{all-append}
use Rattle.law_kept.specs.Bytes.{AreAllBytes}
use Rattle.law_kept.proofs.ListLemmas.{all-drop, joined, rest-of}

-- ---- the line of a script

before-bytes : (test : ℕ → Bool) (bytes : List ℕ) → AreBytes bytes → AreBytes (before test bytes)
before-bytes test [] are = tt
before-bytes test (b ∷ bytes) are = by (test b) (before-bytes test bytes are.1)
  where
    by : (c : Bool) → AreBytes (before test bytes) → AreBytes (cond c [] (b ∷ before test bytes))
    by true rest = tt
    by false rest = (are.0, rest)

from-blank-bytes : (bytes : List ℕ) → AreBytes bytes → AreBytes (from_blank bytes)
from-blank-bytes [] are = tt
from-blank-bytes (b ∷ bytes) are = by (is_blank b) (from-blank-bytes bytes are.1)
  where
    by : (c : Bool) → AreBytes (from_blank bytes) → AreBytes (cond c (b ∷ bytes) (from_blank bytes))
    by true rest = are
    by false rest = rest

leading-bytes : (bytes : List ℕ) → AreBytes bytes → AreBytes (without_leading_blanks bytes)
leading-bytes [] are = tt
leading-bytes (b ∷ bytes) are = by (is_blank b) (leading-bytes bytes are.1)
  where
    by : (c : Bool) → AreBytes (without_leading_blanks bytes) → AreBytes (cond c (without_leading_blanks bytes) (b ∷ bytes))
    by true rest = rest
    by false rest = are

pub reversed-bytes : (bytes : List ℕ) → AreBytes bytes → AreBytes (reverse bytes)
reversed-bytes [] are = tt
reversed-bytes (b ∷ bytes) are = subst AreBytes (sym (reverse-append (b ∷ []) bytes)) (joined (reverse bytes) (b ∷ []) (reversed-bytes bytes are.1) (are.0, tt))

trailing-bytes : (bytes : List ℕ) → AreBytes bytes → AreBytes (without_trailing_blanks bytes)
trailing-bytes bytes are = reversed-bytes (without_leading_blanks (reverse bytes)) (leading-bytes (reverse bytes) (reversed-bytes bytes are))

-- an interpreter and its argument
abbrev pub IsByteLine : List ℕ × List ℕ → Type 0
IsByteLine line = AreBytes line.0 × AreBytes line.1

parted-bytes : (bytes : List ℕ) (line : List ℕ × List ℕ) → AreBytes bytes → parted bytes ≡ Some line → IsByteLine line
parted-bytes [] line are is = absurd cc
parted-bytes (b ∷ bytes) line are is =
    let one : (before is_blank (b ∷ bytes), without_leading_blanks (from_blank (b ∷ bytes))) ≡ line = cc in
    subst IsByteLine one (before-bytes is_blank (b ∷ bytes) are, leading-bytes (from_blank (b ∷ bytes)) (from-blank-bytes (b ∷ bytes) are))

pub line-bytes : (head : List ℕ) (line : List ℕ × List ℕ) → AreBytes head → script_of head ≡ Some line → IsByteLine line
line-bytes head line are is = cut (is_cut head) is
  where
    own : AreBytes (line_of head)
    own = before-bytes is_newline (drop 2 head) (rest-of 2 head are)

    zeros : (c : Bool) → cond c None (parted (without_trailing_blanks (without_leading_blanks (line_of head)))) ≡ Some line → IsByteLine line
    zeros true is = absurd cc
    zeros false is = parted-bytes (without_trailing_blanks (without_leading_blanks (line_of head))) line (trailing-bytes (without_leading_blanks (line_of head)) (leading-bytes (line_of head) own)) is

    cut : (c : Bool) → cond c None (interpreter_of (line_of head)) ≡ Some line → IsByteLine line
    cut true is = absurd cc
    cut false is = zeros (list_any (λ b. b == 0) (line_of head)) is

-- ---- arguments

argument-bytes : (argument : List ℕ) → AreBytes argument → AreAllBytes (argument_of argument)
argument-bytes [] are = tt
argument-bytes (b ∷ bytes) are = (are, tt)

pub new-args-bytes : (line : List ℕ × List ℕ) (path : List ℕ) (args : List (List ℕ)) → IsByteLine line → AreBytes path → AreAllBytes args → AreAllBytes (new_args line.0 line.1 path args)
new-args-bytes line path args line_are path_are are =
    (line_are.0, all-append AreBytes (argument_of line.1) (path ∷ drop 1 args) (argument-bytes line.1 line_are.1) (path_are, all-drop AreBytes 1 args are))

-- ---- scripts

module _ {F : Type 0} (finding : Finding F) (heads : (file : F) → AreBytes (finding.head file)) (env_bytes : ℕ) (x : Expanded F) where
  -- what is done with a file comes to arguments of bytes
  abbrev GoesOn : Onward F → Type 0
  GoesOn again = (found : F) (path : List ℕ) (args : List (List ℕ)) → AreBytes path → AreAllBytes args → again found path args ≡ Ok x → AreAllBytes x.args

  fitting : (again : Onward F) → GoesOn again → (b : Bool) (found : F) (path : List ℕ) (args : List (List ℕ)) → AreBytes path → AreAllBytes args → cond b (Err E2BIG) (again found path args) ≡ Ok x → AreAllBytes x.args
  fitting again goes true found path args path_are are e = absurd cc
  fitting again goes false found path args path_are are e = goes found path args path_are are e

  by-interpreter : (again : Onward F) → GoesOn again → (r : Result F Errno) (path : List ℕ) (args : List (List ℕ)) → AreBytes path → AreAllBytes args → by_interpreter again env_bytes path args r ≡ Ok x → AreAllBytes x.args
  by-interpreter again goes (Err e) path args path_are are is = absurd cc
  by-interpreter again goes (Ok found) path args path_are are is = fitting again goes (is_too_big env_bytes args) found path args path_are are is

  by-line : (again : Onward F) → GoesOn again → (path : List ℕ) (args : List (List ℕ)) (o : Option (List ℕ × List ℕ)) → ((line : List ℕ × List ℕ) → o ≡ Some line → IsByteLine line) → AreBytes path → AreAllBytes args
      → by_line finding again env_bytes path args o ≡ Ok x → AreAllBytes x.args
  by-line again goes path args None lines path_are are is = absurd cc
  by-line again goes path args (Some line) lines path_are are is =
      let own = lines line refl in
      by-interpreter again goes (finding.find line.0) line.0 (new_args line.0 line.1 path args) own.0 (new-args-bytes line path args own path_are are) is

  itself : (left : ℕ) (file : F) (args : List (List ℕ)) → AreAllBytes args → runs left file args ≡ Ok x → AreAllBytes x.args
  itself left file args are e = by (runs left file args) refl e
    where
      by : (r : Result (Expanded F) Errno) → runs left file args ≡ r → r ≡ Ok x → AreAllBytes x.args
      by (Err why) is e = absurd cc
      by (Ok y) is e =
          let same : y ≡ x = cc in
          let args_are : args ≡ y.args = cc in
          subst (λ (x : Expanded F). AreAllBytes x.args) same (subst AreAllBytes args_are are)

  pub expanded-args : (left : ℕ) → GoesOn (expanded finding env_bytes left)
  unfolding expanded
  expanded-args zero file path args path_are are e = by (is_script (finding.head file)) e
    where
      by : (b : Bool) → cond b (Err ELOOP) (runs zero file args) ≡ Ok x → AreAllBytes x.args
      by true e = absurd cc
      by false e = itself zero file args are e
  expanded-args (suc left) file path args path_are are e = by (is_script (finding.head file)) (expanded-args left) e
    where
      by : (b : Bool) → GoesOn (expanded finding env_bytes left)
          → cond b (by_line finding (expanded finding env_bytes left) env_bytes path args (script_of (finding.head file))) (runs (suc left) file args) ≡ Ok x → AreAllBytes x.args
      by true goes e = by-line (expanded finding env_bytes left) goes path args (script_of (finding.head file)) (λ line is. line-bytes (finding.head file) line (heads file) is) path_are are e
      by false goes e = itself (suc left) file args are e
