-- A program that is no script is loaded with the lists of the call itself.
use Rattle.std.specs.Prelude.{take}
use Rattle.std.proofs.Common.{◌≡◌, ◌≤◌, ℕ, zero, suc, ◌-◌, Bool, true, false, cond, List, Option, Some, None, Result, Ok, Err, arith, sym, ap, subst, ◌∙◌, refl}
use Rattle.kr_first.specs.pr_base.declared.errno.Errno.{Errno}
use Rattle.kr_first.specs.pr_base.declared.errno.Errno.TheVariants.{E2BIG, ENOEXEC, ELOOP}
use Rattle.kr_first.proofs.rv_mem.ActionLemmas.{reads_alike}
use Rattle.law_edits.specs.pt_args.Walks as texts
use Rattle.law_edits.specs.pt_canon.TextWalk.{TextSurroundings}
use Rattle.law_edits.specs.pt_canon.declared.canon.Canon.{Canon}
use Rattle.law_edits.specs.pt_script.Expanding.{expanded_from, shown_result}
use Rattle.law_edits.specs.pt_script.Programs.{head_size, program_from, program_in, programs}
use Rattle.law_edits.specs.pt_script.declared.expansion.Expanded.{Expanded as Shown}
use Rattle.law_edits.specs.pt_script.declared.program.Program.{Program}
use Rattle.kr_first.specs.kr_calls.Expansion.{Expanded, Finding, Onward, by_interpreter, by_line, bytes_with_ends, expanded, is_script, is_too_big, most_scripts, new_args, runs}
use Rattle.kr_first.specs.kr_calls.Scripts.{script_of}
use Rattle.kr_first.specs.kr_exec.Lists.{lists_at}
use Rattle.kr_first.specs.kr_exec.declared.lists.Lists.{Lists}
use Rattle.law_programs.specs.Executing.{PlainExecutionsAgree}
use Rattle.law_programs.specs.Finding.{texts_here}
use Rattle.law_programs.specs.Refusing.{canon_along}
use Rattle.law_programs.proofs.ExecuteLemmas.{executions_agree}

-- ---- how many scripts led to what runs in the end

module _ {F : Type 0} (one : Finding F) (env_bytes : ℕ) where
  -- at least so many
  abbrev Counts : ℕ → Result (Expanded F) Errno → Type 0
  Counts n r = (x : Expanded F) → r ≡ Ok x → n ≤ x.scripts

  refused-counts : (n : ℕ) (e : Errno) → Counts n (Err e)
  refused-counts n e x is = absurd cc

  runs-counts : (left : ℕ) (f : F) (args : List (List ℕ)) → Counts (most_scripts - left) (runs left f args)
  runs-counts left f args x is = let same : record { file = f; args = args; scripts = most_scripts - left } ≡ x = cc in subst (λ (x : Expanded F). most_scripts - left ≤ x.scripts) same (omega arith)

  module _ (again : Onward F) (n : ℕ) (later : (f : F) (path : List ℕ) (args : List (List ℕ)) → Counts n (again f path args)) where
    with-counts : (path : List ℕ) (args : List (List ℕ)) (f : F) (b : Bool) → Counts n (cond b (Err E2BIG) (again f path args))
    with-counts path args f true = refused-counts n E2BIG
    with-counts path args f false = later f path args

    interpreter-counts : (path : List ℕ) (args : List (List ℕ)) (r : Result F Errno) → Counts n (by_interpreter again env_bytes path args r)
    interpreter-counts path args (Err e) = refused-counts n e
    interpreter-counts path args (Ok f) = with-counts path args f (is_too_big env_bytes args)

    line-counts : (path : List ℕ) (args : List (List ℕ)) (line : Option (List ℕ × List ℕ)) → Counts n (by_line one again env_bytes path args line)
    line-counts path args None = refused-counts n ENOEXEC
    line-counts path args (Some line) = interpreter-counts line.0 (new_args line.0 line.1 path args) (one.find line.0)

  fewer-count : (n k : ℕ) (r : Result (Expanded F) Errno) → k ≤ n → Counts n r → Counts k r
  fewer-count n k r few counts x is = let more = counts x is in omega arith

  counts : (left : ℕ) (f : F) (path : List ℕ) (args : List (List ℕ)) → Counts (most_scripts - left) (expanded one env_bytes left f path args)
  unfolding expanded
  counts zero f path args = by (is_script (one.head f))
    where
      by : (b : Bool) → Counts (most_scripts - 0) (cond b (Err ELOOP) (runs zero f args))
      by true = refused-counts (most_scripts - 0) ELOOP
      by false = runs-counts zero f args
  counts (suc left) f path args = by (is_script (one.head f)) (line-counts (expanded one env_bytes left) (most_scripts - left) (counts left) path args (script_of (one.head f)))
    where
      by : (b : Bool) → Counts (most_scripts - left) (by_line one (expanded one env_bytes left) env_bytes path args (script_of (one.head f)))
          → Counts (most_scripts - suc left) (cond b (by_line one (expanded one env_bytes left) env_bytes path args (script_of (one.head f))) (runs (suc left) f args))
      by true later = fewer-count (most_scripts - left) (most_scripts - suc left) (by_line one (expanded one env_bytes left) env_bytes path args (script_of (one.head f))) (omega arith) later
      by false later = runs-counts (suc left) f args

  -- behind no script the file and the arguments are as they were
  abbrev Keeps : ℕ → F → List (List ℕ) → Result (Expanded F) Errno → Type 0
  Keeps n f args r = (x : Expanded F) → r ≡ Ok x → x.scripts ≡ n → (x.args ≡ args) × (x.file ≡ f)

  runs-keep : (n left : ℕ) (f : F) (args : List (List ℕ)) → Keeps n f args (runs left f args)
  runs-keep n left f args x is none = let same : record { file = f; args = args; scripts = most_scripts - left } ≡ x = cc in subst (λ (x : Expanded F). (x.args ≡ args) × (x.file ≡ f)) same (refl, refl)

  more-scripts : (n : ℕ) (f : F) (args : List (List ℕ)) (r : Result (Expanded F) Errno) → Counts (suc n) r → Keeps n f args r
  more-scripts n f args r counts x is none = let more = counts x is in absurd (omega arith)

  args-kept : (left : ℕ) (f : F) (path : List ℕ) (args : List (List ℕ)) → suc left ≤ most_scripts → Keeps (most_scripts - suc left) f args (expanded one env_bytes (suc left) f path args)
  unfolding expanded
  args-kept left f path args few = by (is_script (one.head f)) (line-counts (expanded one env_bytes left) (most_scripts - left) (counts left) path args (script_of (one.head f)))
    where
      by : (b : Bool) → Counts (most_scripts - left) (by_line one (expanded one env_bytes left) env_bytes path args (script_of (one.head f)))
          → Keeps (most_scripts - suc left) f args (cond b (by_line one (expanded one env_bytes left) env_bytes path args (script_of (one.head f))) (runs (suc left) f args))
      by true later = more-scripts (most_scripts - suc left) f args (by_line one (expanded one env_bytes left) env_bytes path args (script_of (one.head f)))
          (fewer-count (most_scripts - left) (suc (most_scripts - suc left)) (by_line one (expanded one env_bytes left) env_bytes path args (script_of (one.head f))) (omega arith) later)
      by false later = runs-keep (most_scripts - suc left) (suc left) f args

-- ---- a tracer's

module _ (around : TextSurroundings) (working : Option (List ℕ)) (env_bytes : ℕ) (path : List ℕ) (args : List (List ℕ)) (x : Shown) (none : x.scripts ≡ 0) where
  -- the program that was found along the path itself
  abbrev IsOf : Program → Type 0
  IsOf program = (x.args ≡ args) × (x.host ≡ program.host)

  ended-keeps : (program : Program) (r : Result (Expanded Program) Errno) → Keeps (programs around working) env_bytes 0 program args r → shown_result r ≡ Ok x → IsOf program
  ended-keeps program (Err e) keeps is = absurd cc
  ended-keeps program (Ok ended) keeps is =
      let same : record { host = ended.file.host; index = ended.file.index; args = ended.args; scripts = ended.scripts } ≡ x = cc in
      let kept = keeps ended refl (ap (λ (e : Shown). e.scripts) same ∙ none) in
      (sym (ap (λ (e : Shown). e.args) same) ∙ kept.0, sym (ap (λ (e : Shown). e.host) same) ∙ ap (λ (program : Program). program.host) kept.1)

  found-keeps : (r : Result Program Errno) → texts.and_then r (λ program. shown_result (expanded (programs around working) env_bytes most_scripts program path args)) ≡ Ok x → (program : Program) × (r ≡ Ok program) × IsOf program
  found-keeps (Err e) is = absurd cc
  found-keeps (Ok program) is = (program, refl, ended-keeps program (expanded (programs around working) env_bytes most_scripts program path args) (args-kept (programs around working) env_bytes 4 program path args (omega arith)) is)

  own-program : expanded_from around working env_bytes path args ≡ Ok x → (program : Program) × (program_from around working path ≡ Ok program) × IsOf program
  own-program is = found-keeps (program_from around working path) is

  same-args : expanded_from around working env_bytes path args ≡ Ok x → x.args ≡ args
  same-args is = (own-program is).2.0

  -- it stands where the path leads
  pub same-host : (canon : Canon) → canon_along around working path ≡ Ok canon → expanded_from around working env_bytes path args ≡ Ok x → x.host ≡ canon.host
  same-host canon leads is =
      let own = own-program is in
      own.2.1 ∙ at-host (around.peeked.head canon.host head_size) own.0 (sym (ap (λ r. texts.and_then r (λ canon. program_in around.peeked canon.host canon.index)) leads) ∙ own.1)
    where
      at-host : (r : Result (List ℕ) Errno) (program : Program) → texts.and_then r (λ head. Ok (let own : Program = record { host = canon.host; index = canon.index; head = take head_size head } in own)) ≡ Ok program → program.host ≡ canon.host
      at-host (Err e) program is = absurd cc
      at-host (Ok head) program is =
          let same : record { host = canon.host; index = canon.index; head = take head_size head } ≡ program = cc in sym (ap (λ (program : Program). program.host) same)

pub plain_executions_agree : PlainExecutionsAgree
plain_executions_agree table s w pid tags path args env m working lists x n is ended none alike unread =
    let same = same-args (texts_here table s pid tags) working (bytes_with_ends lists.env) path lists.args x none ended in
    let read = sym (reads_alike (lists_at args env) m n alike unread).0 ∙ is.read in
    executions_agree table s w pid tags path args env m working lists x args n is ended (read ∙ ap (λ (own : List (List ℕ)). Ok (let l : Lists = record { args = own; env = lists.env } in l)) (sym same))
