-- Scripts one by one, and chains of them.
use Rattle.std.proofs.Common.{◌≡◌, ◌≢◌, ◌≤◌, ℕ, zero, suc, ◌+◌, ◌-◌, Bool, true, false, cond, List, Option, Some, None, Result, Ok, Err, refl, sym, ap, ◌∙◌, arith}
use Rattle.pt_args.specs.pr_base.declared.errno.Errno.{Errno}
use Rattle.pt_args.specs.pr_base.declared.errno.Errno.TheVariants.{E2BIG, ELOOP}
use Rattle.pt_args.specs.pt_canon.Canon.{IsAnswer}
use Rattle.pt_args.specs.pt_canon.TextWalk.{TextSurroundings}
use Rattle.pt_args.specs.pt_canon.declared.canon.WalkErr.{WalkErr}
use Rattle.pt_args.specs.pt_canon.declared.canon.WalkErr.TheVariants as fault
use Rattle.pt_args.specs.kr_calls.Expansion.{by_interpreter, by_line, expanded, is_script, is_too_big, most_scripts, new_args, runs}
use Rattle.pt_args.specs.kr_calls.Scripts.{script_of}
use Rattle.pt_args.specs.Walks.{and_then}
use Rattle.pt_script.specs.Chains.{Chain}
use Rattle.pt_script.specs.Expanding.{command_of, ends_of, expanded_from, if_args_fit, interpreted, interpreted_by, shown_result}
use Rattle.pt_script.specs.Laws.{ChainsEnd, ScriptsEnd}
use Rattle.pt_script.specs.Programs.{program_from, programs}
use Rattle.pt_script.specs.declared.command.Command.{Command}
use Rattle.pt_script.specs.declared.expansion.Expanded.{Expanded}
use Rattle.pt_script.specs.declared.program.Program.{Program}

abbrev pub Line : Type 0
Line = Option (List ℕ × List ℕ)

module _ (texts : TextSurroundings) (working : Option (List ℕ)) (env_bytes : ℕ) where
  -- ---- one script

  fits_step : (left : ℕ) (interpreter : List ℕ) (args : List (List ℕ)) (program : Program) (b : Bool)
      → cond b (Err E2BIG) (ends_of texts working env_bytes left (command_of interpreter args program))
      ≡ and_then (cond b (Err E2BIG) (Ok (command_of interpreter args program))) (ends_of texts working env_bytes left)
  fits_step left interpreter args program true = refl
  fits_step left interpreter args program false = refl

  found_step : (left : ℕ) (interpreter : List ℕ) (args : List (List ℕ)) (found : Result Program Errno)
      → by_interpreter (expanded (programs texts working) env_bytes left) env_bytes interpreter args found
      ≡ and_then (and_then found (if_args_fit env_bytes interpreter args)) (ends_of texts working env_bytes left)
  found_step left interpreter args (Ok program) = fits_step left interpreter args program (is_too_big env_bytes args)
  found_step left interpreter args (Err e) = refl

  line_step : (left : ℕ) (c : Command) (line : Line)
      → by_line (programs texts working) (expanded (programs texts working) env_bytes left) env_bytes c.path c.args line
      ≡ and_then (interpreted_by texts working env_bytes c line) (ends_of texts working env_bytes left)
  line_step left c None = refl
  line_step left c (Some line) = found_step left line.0 (new_args line.0 line.1 c.path c.args) (program_from texts working line.0)

  -- a script goes on with its interpreter
  pub script_step : (left : ℕ) (c : Command) → is_script c.program.head ≡ true
      → ends_of texts working env_bytes (suc left) c ≡ and_then (interpreted texts working env_bytes c) (ends_of texts working env_bytes left)
  unfolding expanded
  script_step left c is =
      ap (λ b. cond b (by_line (programs texts working) (expanded (programs texts working) env_bytes left) env_bytes c.path c.args (script_of c.program.head)) (runs (suc left) c.program c.args)) is
      ∙ line_step left c (script_of c.program.head)

  -- what is no script runs itself
  pub program_ends : (left : ℕ) (c : Command) → is_script c.program.head ≡ false → ends_of texts working env_bytes left c ≡ runs left c.program c.args
  unfolding expanded
  program_ends zero c is = ap (λ b. cond b (Err ELOOP) (runs zero c.program c.args)) is
  program_ends (suc left) c is =
      ap (λ b. cond b (by_line (programs texts working) (expanded (programs texts working) env_bytes left) env_bytes c.path c.args (script_of c.program.head)) (runs (suc left) c.program c.args)) is

  -- one script too many
  pub loop_ends : (c : Command) → is_script c.program.head ≡ true → ends_of texts working env_bytes 0 c ≡ Err ELOOP
  unfolding expanded
  loop_ends c is = ap (λ b. cond b (Err ELOOP) (runs zero c.program c.args)) is

  -- ---- chains

  pub chain_ends : (n left : ℕ) (c last : Command) → Chain texts working env_bytes n c last → ends_of texts working env_bytes (n + left) c ≡ ends_of texts working env_bytes left last
  chain_ends zero left c last same =
      let none : zero + left ≡ left = omega arith in
      ap (λ k. ends_of texts working env_bytes k c) none ∙ ap (ends_of texts working env_bytes left) same
  chain_ends (suc n) left c last (next, leads, chain) =
      let more : suc n + left ≡ suc (n + left) = omega arith in
      ap (λ k. ends_of texts working env_bytes k c) more
      ∙ script_step (n + left) c leads.marked
      ∙ ap (λ r. and_then r (ends_of texts working env_bytes (n + left))) leads.gives
      ∙ chain_ends n left next last chain

  -- from a path on, with what is left
  begins : (path : List ℕ) (args : List (List ℕ)) (program : Program) (n left : ℕ) (last : Command) → program_from texts working path ≡ Ok program → most_scripts ≡ n + left
      → Chain texts working env_bytes n (command_of path args program) last → expanded_from texts working env_bytes path args ≡ shown_result (ends_of texts working env_bytes left last)
  begins path args program n left last found all chain =
      ap (λ r. and_then r (λ p. shown_result (ends_of texts working env_bytes most_scripts (command_of path args p)))) found
      ∙ ap (λ k. shown_result (ends_of texts working env_bytes k (command_of path args program))) all
      ∙ ap shown_result (chain_ends n left (command_of path args program) last chain)

  abbrev shown_at : Command → ℕ → Result Expanded Errno
  shown_at c n = Ok (record { host = c.program.host; index = c.program.index; args = c.args; scripts = n })

  runs_shown : (c : Command) (left n : ℕ) → most_scripts - left ≡ n → is_script c.program.head ≡ false → shown_result (ends_of texts working env_bytes left c) ≡ shown_at c n
  runs_shown c left n all is = ap shown_result (program_ends left c is) ∙ ap (shown_at c) all

  chains_end : (path : List ℕ) (args : List (List ℕ)) (program : Program) → program_from texts working path ≡ Ok program → ChainsEnd texts working env_bytes path args program
  chains_end path args program found = record {
    run = λ n last few chain is.
        let all : most_scripts ≡ n + (5 - n) = omega arith in
        let so_many : most_scripts - (5 - n) ≡ n = omega arith in
        begins path args program n (5 - n) last found all chain ∙ runs_shown last (5 - n) n so_many is;
    loop = λ sixth chain is. begins path args program 5 0 sixth found refl chain ∙ ap shown_result (loop_ends sixth is);
    fail = λ n last e few chain is why.
        let all : most_scripts ≡ n + suc (4 - n) = omega arith in
        begins path args program n (suc (4 - n)) last found all chain
        ∙ ap shown_result (script_step (4 - n) last is ∙ ap (λ r. and_then r (ends_of texts working env_bytes (4 - n))) why);
  }

pub scripts_end : ScriptsEnd
scripts_end = record {
  missing = λ texts working env_bytes path args e found.
      ap (λ r. and_then r (λ p. shown_result (ends_of texts working env_bytes most_scripts (command_of path args p)))) found;
  plain = λ texts working env_bytes path args program found is.
      (chains_end texts working env_bytes path args program found).run 0 (command_of path args program) (omega arith) refl is;
  chains = λ texts working env_bytes path args program found. chains_end texts working env_bytes path args program found;
}

-- ---- scripts that were expanded so far

-- what is left of a command comes to the whole
pub record IsLeft (texts : TextSurroundings) (working : Option (List ℕ)) (env_bytes : ℕ) (begun : Command) (scripts : ℕ) (c : Command) : Type 0 where
  pub few : scripts ≤ 5
  pub ends : ends_of texts working env_bytes (5 - scripts) c ≡ ends_of texts working env_bytes most_scripts begun

module _ (texts : TextSurroundings) (working : Option (List ℕ)) (env_bytes : ℕ) (begun : Command) where
  abbrev pub whole : Result Expanded Errno
  whole = shown_result (ends_of texts working env_bytes most_scripts begun)

  pub ended : (scripts : ℕ) (c : Command) → IsLeft texts working env_bytes begun scripts c → is_script c.program.head ≡ false
      → whole ≡ Ok (record { host = c.program.host; index = c.program.index; args = c.args; scripts = scripts })
  ended scripts c h is =
      let few : scripts ≤ 5 = h.few in
      let so_many : most_scripts - (5 - scripts) ≡ scripts = omega arith in
      sym (ap shown_result h.ends) ∙ runs_shown texts working env_bytes c (5 - scripts) scripts so_many is

  pub looped : (scripts : ℕ) (c : Command) → IsLeft texts working env_bytes begun scripts c → scripts ≡ 5 → is_script c.program.head ≡ true → whole ≡ Err ELOOP
  looped scripts c h all is =
      let none : 5 - scripts ≡ 0 = omega arith in
      sym (ap shown_result h.ends) ∙ ap (λ left. shown_result (ends_of texts working env_bytes left c)) none ∙ ap shown_result (loop_ends texts working env_bytes c is)

  -- the step to an interpreter, seen from the whole
  stepped : (scripts : ℕ) (c : Command) → IsLeft texts working env_bytes begun scripts c → scripts ≢ 5 → is_script c.program.head ≡ true
      → ends_of texts working env_bytes most_scripts begun ≡ and_then (interpreted texts working env_bytes c) (ends_of texts working env_bytes (5 - (scripts + 1)))
  stepped scripts c h more is =
      let few : scripts ≤ 5 = h.few in
      let left : 5 - scripts ≡ suc (5 - (scripts + 1)) = omega arith in
      sym h.ends ∙ ap (λ n. ends_of texts working env_bytes n c) left ∙ script_step texts working env_bytes (5 - (scripts + 1)) c is

  -- the kernel that was asked at the step tells what it told at the beginning
  pub next_left : (scripts : ℕ) (c next : Command) (now : TextSurroundings) → now ≡ texts → IsLeft texts working env_bytes begun scripts c → scripts ≢ 5 → is_script c.program.head ≡ true
      → interpreted now working env_bytes c ≡ Ok next → IsLeft texts working env_bytes begun (scripts + 1) next
  next_left scripts c next now same h more is answer =
      let few : scripts ≤ 5 = h.few in
      record {
        few = omega arith;
        ends = sym (stepped scripts c h more is ∙ ap (λ t. and_then (interpreted t working env_bytes c) (ends_of texts working env_bytes (5 - (scripts + 1)))) (sym same)
            ∙ ap (λ r. and_then r (ends_of texts working env_bytes (5 - (scripts + 1)))) answer);
      }

  pub next_fails : (scripts : ℕ) (c : Command) (why : WalkErr) (now : TextSurroundings) → now ≡ texts → IsLeft texts working env_bytes begun scripts c → scripts ≢ 5 → is_script c.program.head ≡ true
      → IsAnswer {T = Command} (interpreted now working env_bytes c) (Err why) → IsAnswer {T = Expanded} whole (Err why)
  next_fails scripts c (fault.Err e) now same h more is answer =
      ap shown_result (stepped scripts c h more is ∙ ap (λ t. and_then (interpreted t working env_bytes c) (ends_of texts working env_bytes (5 - (scripts + 1)))) (sym same)
      ∙ ap (λ r. and_then r (ends_of texts working env_bytes (5 - (scripts + 1)))) answer)
  next_fails scripts c fault.NoMemory now same h more is answer = tt
