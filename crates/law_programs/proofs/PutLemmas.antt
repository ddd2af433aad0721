-- The texts that scripts put before the kept arguments.
use Rattle.std.proofs.Common.{◌≡◌, ◌≢◌, ◌≤◌, ℕ, zero, suc, ◌+◌, ◌-◌, ◌*◌, Bool, true, false, cond, ◌||◌, nat_lt, List, [], ◌∷◌, ◌++◌, drop, length, Option, Some, None, Result, Ok, Err, refl, sym, ap, ◌∙◌, subst, arith}
use Rattle.std.specs.List.{All}
use Rattle.std.proofs.lemmas.Bool.Decides.{nat_tests}
use Rattle.std.proofs.lemmas.List.Elements.{All-cons, All-tail}
use Rattle.kr_first.specs.pr_base.declared.errno.Errno.{Errno}
use Rattle.kr_first.specs.pr_base.declared.errno.Errno.TheVariants.{E2BIG, ELOOP}
use Rattle.kr_first.specs.kr_calls.Expansion.{Expanded, Finding, Onward, argument_of, by_interpreter, by_line, bytes_with_ends, expanded, is_script, is_too_big, most_scripts, new_args, runs}
use Rattle.kr_first.specs.kr_calls.Scripts.{script_of}
use Rattle.law_edits.specs.pt_args.Laws.{IsPathText}
use Rattle.law_edits.specs.pt_tracer.ScriptEdit.{texts_room}
use Rattle.law_programs.proofs.LineLemmas.{IsShortLine, line-words, none}

abbrev pub Texts : Type 0
Texts = List (List ℕ)

-- ---- texts before others

-- behind n scripts: a first text and others stand before what is kept
pub record IsPut (env_bytes n : ℕ) (kept all : Texts) : Type 0 where
  pub first : List ℕ
  pub rest : Texts
  pub args : all ≡ first ∷ (rest ++ kept)
  pub few : length rest ≤ 2 * n
  pub room : texts_room rest ≤ 4367 * n
  pub short : length first ≤ 256
  pub texts : All IsPathText (first ∷ rest)
  pub fits : is_too_big env_bytes all ≡ false

-- the same before a script's own path is put there
record IsLeft (n : ℕ) (kept all : Texts) : Type 0 where
  rest : Texts
  args : drop 1 all ≡ rest ++ kept
  few : length rest ≤ 2 * n
  room : texts_room rest ≤ 4367 * n
  texts : All IsPathText rest

left-of : (env_bytes n : ℕ) (kept all : Texts) → IsPut env_bytes n kept all → IsLeft n kept all
left-of env_bytes n kept all put = record { rest = put.rest; args = ap (drop 1) put.args; few = put.few; room = put.room; texts = All-tail IsPathText put.first put.rest put.texts }

argument-room : (argument : List ℕ) (more : Texts) → length argument ≤ 256 → texts_room (argument_of argument ++ more) ≤ 264 + texts_room more
argument-room [] more short = omega arith
argument-room (b ∷ bytes) more short = omega (arith, short)

argument-few : (argument : List ℕ) (more : Texts) → length (argument_of argument ++ more) ≤ 1 + length more
argument-few [] more = omega arith
argument-few (b ∷ bytes) more = omega arith

argument-texts : (argument : List ℕ) (more : Texts) → IsPathText argument → All IsPathText more → All IsPathText (argument_of argument ++ more)
argument-texts [] more is are = are
argument-texts (b ∷ bytes) more is are = All-cons IsPathText (b ∷ bytes) more is are

argument-joined : (argument : List ℕ) (more kept : Texts) → argument_of argument ++ (more ++ kept) ≡ (argument_of argument ++ more) ++ kept
argument-joined [] more kept = refl
argument-joined (b ∷ bytes) more kept = refl

-- a script more
put-one : (env_bytes n : ℕ) (kept args : Texts) (path : List ℕ) (line : List ℕ × List ℕ) → IsLeft n kept args → IsPathText path → IsShortLine line → is_too_big env_bytes (new_args line.0 line.1 path args) ≡ false → IsPut env_bytes (suc n) kept (new_args line.0 line.1 path args)
put-one env_bytes n kept args path line left path_is words fits =
    let more : Texts = path ∷ left.rest in
    let few = left.few in
    let room = left.room in
    let path_short = path_is.short in
    let interpreter_short = words.interpreter in
    let argument_short = words.argument in
    record {
      first = line.0;
      rest = argument_of line.1 ++ more;
      args = ap (λ rest. line.0 ∷ (argument_of line.1 ++ path ∷ rest)) left.args ∙ ap (λ rest. line.0 ∷ rest) (argument-joined line.1 more kept);
      few = omega (arith, argument-few line.1 more, few);
      room = omega (arith, argument-room line.1 more words.argument, room, path_short);
      short = words.interpreter;
      texts =
          All-cons IsPathText line.0 (argument_of line.1 ++ more) (record { short = omega (arith, interpreter_short); no_zero = words.interpreter_text })
          (argument-texts line.1 more (record { short = omega (arith, argument_short); no_zero = words.argument_text }) (All-cons IsPathText path left.rest path_is left.texts));
      fits = fits;
    }

more-put : (env_bytes n m : ℕ) (kept all : Texts) → n ≤ m → IsPut env_bytes n kept all → IsPut env_bytes m kept all
more-put env_bytes n m kept all less put =
    let few = put.few in
    let room = put.room in
    record { first = put.first; rest = put.rest; args = put.args; few = omega (arith, few, less); room = omega (arith, room, less); short = put.short; texts = put.texts; fits = put.fits }

-- ---- scripts

pub not-too-many : (env_bytes : ℕ) (args : Texts) → is_too_big env_bytes args ≡ false → length args ≤ 4096
not-too-many env_bytes args fits = by (nat_lt 4096 (length args)) refl (nat_lt 131072 (bytes_with_ends args + env_bytes)) fits
  where
    by : (b : Bool) → nat_lt 4096 (length args) ≡ b → (c : Bool) → (b || c) ≡ false → length args ≤ 4096
    by true is c fits = absurd cc
    by false is c fits = grind (arith, nat_tests)

module _ {F : Type 0} (finding : Finding F) (heads : (path : List ℕ) (file : F) → finding.find path ≡ Ok file → length (finding.head file) ≤ 256) (env_bytes : ℕ) (kept : Texts) (x : Expanded F) where
  -- from the interpreter of the n-th script on
  abbrev GoesOn : ℕ → ℕ → Onward F → Type 0
  GoesOn n last again = (file : F) (path : List ℕ) (args : Texts) → length (finding.head file) ≤ 256 → IsPathText path → IsPut env_bytes n kept args → again file path args ≡ Ok x → IsPut env_bytes last kept x.args

  fitting : (n last : ℕ) (again : Onward F) → GoesOn n last again → (file : F) → length (finding.head file) ≤ 256 → (path : List ℕ) (args : Texts) → IsPathText path → (is_too_big env_bytes args ≡ false → IsPut env_bytes n kept args)
      → (b : Bool) → is_too_big env_bytes args ≡ b → cond b (Err E2BIG) (again file path args) ≡ Ok x → IsPut env_bytes last kept x.args
  fitting n last again goes file short path args path_is put true is e = absurd cc
  fitting n last again goes file short path args path_is put false is e = goes file path args short path_is (put is) e

  by-interpreter : (n last : ℕ) (again : Onward F) → GoesOn n last again → (r : Result F Errno) (path : List ℕ) → finding.find path ≡ r → (args : Texts) → IsPathText path → (is_too_big env_bytes args ≡ false → IsPut env_bytes n kept args)
      → by_interpreter again env_bytes path args r ≡ Ok x → IsPut env_bytes last kept x.args
  by-interpreter n last again goes (Err e) path found args path_is put is = absurd cc
  by-interpreter n last again goes (Ok file) path found args path_is put is = fitting n last again goes file (heads path file found) path args path_is put (is_too_big env_bytes args) refl is

  -- a script, behind n others
  by-line : (n last : ℕ) (again : Onward F) → GoesOn (suc n) last again → (path : List ℕ) (args : Texts) (o : Option (List ℕ × List ℕ)) → ((line : List ℕ × List ℕ) → o ≡ Some line → IsShortLine line) → IsPathText path → IsLeft n kept args
      → by_line finding again env_bytes path args o ≡ Ok x → IsPut env_bytes last kept x.args
  by-line n last again goes path args None lines path_is left is = absurd cc
  by-line n last again goes path args (Some line) lines path_is left is =
      let words = lines line refl in
      let interpreter_short = words.interpreter in
      by-interpreter (suc n) last again goes (finding.find line.0) line.0 refl (new_args line.0 line.1 path args) (record { short = omega (arith, interpreter_short); no_zero = words.interpreter_text })
      (put-one env_bytes n kept args path line left path_is words) is

  itself : (left : ℕ) (file : F) (args : Texts) → runs left file args ≡ Ok x → (x.args ≡ args) × (x.scripts ≡ most_scripts - left)
  itself left file args e = by (runs left file args) refl e
    where
      by : (r : Result (Expanded F) Errno) → runs left file args ≡ r → r ≡ Ok x → (x.args ≡ args) × (x.scripts ≡ most_scripts - left)
      by (Err why) is e = absurd cc
      by (Ok y) is e =
          let same : y ≡ x = cc in
          let args_are : args ≡ y.args = cc in
          let scripts_are : most_scripts - left ≡ y.scripts = cc in
          (sym (ap (λ (x : Expanded F). x.args) same) ∙ sym args_are, sym (ap (λ (x : Expanded F). x.scripts) same) ∙ sym scripts_are)

  -- where `left` more may be expanded
  expanded-put : (left n : ℕ) → GoesOn n (n + left) (expanded finding env_bytes left)
  unfolding expanded
  expanded-put zero n file path args short path_is put e = by (is_script (finding.head file)) e
    where
      by : (b : Bool) → cond b (Err ELOOP) (runs zero file args) ≡ Ok x → IsPut env_bytes (n + zero) kept x.args
      by true e = absurd cc
      by false e = subst (IsPut env_bytes (n + zero) kept) (sym (itself zero file args e).0) (more-put env_bytes n (n + zero) kept args (omega arith) put)
  expanded-put (suc left) n file path args short path_is put e = by (is_script (finding.head file)) (expanded-put left (suc n)) e
    where
      by : (b : Bool) → GoesOn (suc n) (suc n + left) (expanded finding env_bytes left)
          → cond b (by_line finding (expanded finding env_bytes left) env_bytes path args (script_of (finding.head file))) (runs (suc left) file args) ≡ Ok x → IsPut env_bytes (n + suc left) kept x.args
      by true goes e =
          more-put env_bytes (suc n + left) (n + suc left) kept x.args (omega arith)
          (by-line n (suc n + left) (expanded finding env_bytes left) goes path args (script_of (finding.head file)) (λ line is. line-words (finding.head file) line short is) path_is (left-of env_bytes n kept args put) e)
      by false goes e = subst (IsPut env_bytes (n + suc left) kept) (sym (itself (suc left) file args e).0) (more-put env_bytes n (n + suc left) kept args (omega arith) put)

  -- where a first script is one
  pub all-put : (file : F) (path : List ℕ) (args : Texts) → length (finding.head file) ≤ 256 → IsPathText path → kept ≡ drop 1 args → expanded finding env_bytes most_scripts file path args ≡ Ok x → x.scripts ≢ 0 → IsPut env_bytes 5 kept x.args
  unfolding expanded
  all-put file path args short path_is kept_is e some = by (is_script (finding.head file)) e
    where
      by : (b : Bool) → cond b (by_line finding (expanded finding env_bytes 4) env_bytes path args (script_of (finding.head file))) (runs 5 file args) ≡ Ok x → IsPut env_bytes 5 kept x.args
      by true e =
          by-line 0 5 (expanded finding env_bytes 4) (expanded-put 4 1) path args (script_of (finding.head file)) (λ line is. line-words (finding.head file) line short is) path_is
          (record { rest = []; args = sym kept_is; few = omega arith; room = omega arith; texts = none IsPathText }) e
      by false e = absurd (some (itself 5 file args e).1)
