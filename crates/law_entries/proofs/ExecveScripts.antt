-- The scripts of a path over two kernels that tell a tracer the same along steady walks: by how many may still be expanded they end alike, and no name
-- is looked up in the process directory.
use Rattle.std.proofs.Common.{◌≡◌, ℕ, zero, suc, Bool, true, false, List, Option, Some, None, Result, Ok, Err, if◌then◌else◌, take, refl, sym, ap, ◌∙◌}
use Rattle.std.proofs.lemmas.Bool.{and_parts, false≢true}
use Rattle.pt_tracer.specs.pr_base.MountText.{MountText}
use Rattle.pt_tracer.specs.pr_base.Texts.{Text}
use Rattle.pt_tracer.specs.pr_base.declared.errno.Errno.{Errno}
use Rattle.pt_tracer.specs.pr_base.declared.errno.Errno.TheVariants.{E2BIG}
use Rattle.pt_tracer.specs.pr_base.declared.path.WalkMode.TheVariants.{Look, LookLink}
use Rattle.pt_tracer.specs.pt_bind.Binding.{names_of}
use Rattle.pt_tracer.specs.pt_bind.Tags.{TagTable}
use Rattle.pt_tracer.specs.pt_canon.Canon.{canon_of}
use Rattle.pt_tracer.specs.pt_canon.LookedPaths.{is_steady_walk}
use Rattle.pt_tracer.specs.pt_canon.TextWalk.{TextSurroundings}
use Rattle.pt_tracer.specs.pt_canon.declared.canon.Canon.{Canon}
use Rattle.pt_tracer.specs.pt_results.kr_calls.Expansion.{by_interpreter, by_line, expanded, is_script, is_too_big, most_scripts, new_args, runs}
use Rattle.pt_tracer.specs.pt_results.kr_calls.Scripts.{script_of}
use Rattle.pt_tracer.specs.pt_args.Walks.{and_then}
use Rattle.pt_tracer.specs.pt_script.Expanding.{command_of, ends_unmet, expanded_from, if_args_fit, interpreted, interpreted_by, interpreted_unmet, shown_result, unmet_behind, unmet_by_line, unmet_from, unmet_with}
use Rattle.pt_tracer.specs.pt_script.Programs.{base_from, canon_from, head_size, program_from, program_in, program_unmet, programs, unmet_at_canon, unmet_from_base}
use Rattle.pt_tracer.specs.pt_script.declared.expansion.Expanded.{Expanded}
use Rattle.pt_tracer.specs.pt_script.declared.program.Program.{Program}
use Rattle.kr_loose.specs.kr_model.Judged.{IsReachedStill}
use Rattle.kr_loose.specs.kr_model.State.{Image, State}
use Rattle.kr_loose.specs.law_steady.Steady.{HaveOneShape}
use Rattle.kr_loose.specs.law_steady.TextSteady.{texts_over}
use Rattle.kr_loose.proofs.kr_turns.law_steady.SteadyLemmas.{steady_peeks_last, steady_walks_last}
use Rattle.kr_loose.proofs.kr_turns.law_steady.TextLemmas.{steady_keys_last}
use Rattle.law_entries.proofs.WalkLemmas.{ComesAgain}

-- ---- two kernels

-- along steady walks the second one tells a tracer what the first one does, and they are steady there too
pub record ToldAgain (one two : TextSurroundings) : Type 0 where
  pub answer : (base : Text) (path : List ℕ) → is_steady_walk one Look base path ≡ true → canon_of two Look base path ≡ canon_of one Look base path
  pub walk : (base : Text) (path : List ℕ) → is_steady_walk one Look base path ≡ true → is_steady_walk two Look base path ≡ true
  pub head : (host : List ℕ) (n : ℕ) → one.peeked.steady host ≡ true → two.peeked.head host n ≡ one.peeked.head host n
  pub steady : (host : List ℕ) → one.peeked.steady host ≡ true → two.peeked.steady host ≡ true

-- two states of one shape whose files have the same bytes
pub told-again : (bindings : List MountText) (s t : State ℕ Image) (caller asker : ℕ) (tags more : TagTable) → HaveOneShape s t → IsReachedStill (λ n. n) s.tree t.tree
    → ToldAgain (texts_over bindings s caller tags) (texts_over bindings t asker more)
told-again bindings s t caller asker tags more shape bytes = record {
  answer = λ base path steady. (steady_keys_last ℕ ℕ Image Image bindings s t caller asker tags more Look base path shape steady).answer;
  walk = λ base path steady. (steady_keys_last ℕ ℕ Image Image bindings s t caller asker tags more Look base path shape steady).steady;
  head = λ host n steady. (steady_peeks_last ℕ ℕ Image Image s t caller asker host shape steady).head bytes n;
  steady = λ host steady. (steady_walks_last ℕ ℕ Image Image s t caller asker LookLink host shape steady).steady;
}

-- what comes out true of false alone as false had true before
pub still-unmet : (after : Bool → Bool) → after false ≡ false → (before : Bool) → after before ≡ true → before ≡ true
still-unmet after met true h = refl
still-unmet after met false h = absurd (false≢true (sym met ∙ h))

-- ---- once a name in the process directory was looked up, it is met for good

module _ (texts : TextSurroundings) (working : Option (List ℕ)) where
  program-met : (path : List ℕ) → program_unmet texts working path false ≡ false
  program-met path = by (base_from working path)
    where
      at : (c : Result Canon Errno) → unmet_at_canon texts c false ≡ false
      at (Ok canon) = refl
      at (Err e) = refl

      by : (r : Result (List ℕ) Errno) → unmet_from_base texts path r false ≡ false
      by (Ok base) = at (canon_from texts path base)
      by (Err e) = refl

  interpreted-met : (c : _) → interpreted_unmet texts working c false ≡ false
  interpreted-met c = by (script_of c.program.head)
    where
      by : (o : Option (List ℕ × List ℕ)) → unmet_by_line texts working o false ≡ false
      by None = refl
      by (Some line) = program-met line.0

  module _ (env_bytes : ℕ) where
    behind-met : (left : ℕ) → ((next : _) → ends_unmet texts working env_bytes left next false ≡ false) → (r : Result _ Errno) → unmet_behind (ends_unmet texts working env_bytes left) r false ≡ false
    behind-met left later (Ok next) = later next
    behind-met left later (Err e) = refl

    ends-met : (left : ℕ) (c : _) → ends_unmet texts working env_bytes left c false ≡ false
    unfolding ends_unmet
    ends-met zero c = refl
    ends-met (suc left) c = by (ends-met left) (is_script c.program.head)
      where
        by : ((next : _) → ends_unmet texts working env_bytes left next false ≡ false) → (b : Bool)
            → (if b then unmet_behind (ends_unmet texts working env_bytes left) (interpreted texts working env_bytes c) (interpreted_unmet texts working c false) else false) ≡ false
        by later true = let next = interpreted texts working env_bytes c in ap (unmet_behind (ends_unmet texts working env_bytes left) next) (interpreted-met c) ∙ behind-met left later next
        by later false = refl

    with-met : (path : List ℕ) (args : List (List ℕ)) (r : Result Program Errno) → unmet_with texts working env_bytes path args r false ≡ false
    with-met path args (Ok program) = ends-met most_scripts (command_of path args program)
    with-met path args (Err e) = refl

    pub expanded-met : (path : List ℕ) (args : List (List ℕ)) → unmet_from texts working env_bytes path args false ≡ false
    expanded-met path args = ap (unmet_with texts working env_bytes path args (program_from texts working path)) (program-met path) ∙ with-met path args (program_from texts working path)

-- ---- a program

module _ (one two : TextSurroundings) (told : ToldAgain one two) (working : Option (List ℕ)) where
  -- behind a path that is found, the file is looked at
  found-again : (canon : Canon) → one.peeked.steady canon.host ≡ true → program_in two.peeked canon.host canon.index ≡ program_in one.peeked canon.host canon.index
  found-again canon steady =
      let shown : Result (List ℕ) Errno → Result Program Errno = λ r. and_then r (λ (head : List ℕ). Ok (record { host = canon.host; index = canon.index; head = take head_size head })) in
      ap shown (told.head canon.host head_size steady)

  abbrev Finds : List ℕ → Result (List ℕ) Errno → Type 0
  Finds path r =
      ComesAgain
      (and_then (and_then r (canon_from two path)) (λ (canon : Canon). program_in two.peeked canon.host canon.index))
      (and_then (and_then r (canon_from one path)) (λ (canon : Canon). program_in one.peeked canon.host canon.index))
      (unmet_from_base two path r true)

  from-base : (path base : List ℕ) (c : Result Canon Errno) → canon_from one path base ≡ c → unmet_at_canon one c (is_steady_walk one Look (names_of base) path) ≡ true → Finds path (Ok base)
  from-base path base (Err e) is h =
      let leads : canon_from two path base ≡ canon_from one path base = told.answer (names_of base) path h in
      let walks : is_steady_walk two Look (names_of base) path ≡ true = told.walk (names_of base) path h in
      let there : Result Canon Errno → Result Program Errno = λ r. and_then r (λ (canon : Canon). program_in two.peeked canon.host canon.index) in
      let here : Result Canon Errno → Result Program Errno = λ r. and_then r (λ (canon : Canon). program_in one.peeked canon.host canon.index) in
      record {
        same = ap there (leads ∙ is) ∙ sym (ap here is);
        unmet_there = λ j. unmet_at_canon two ((leads ∙ is) j) (walks j);
      }
  from-base path base (Ok canon) is h =
      let parts = and_parts (is_steady_walk one Look (names_of base) path) (one.peeked.steady canon.host) h in
      let leads : canon_from two path base ≡ canon_from one path base = told.answer (names_of base) path parts.0 in
      let walks : is_steady_walk two Look (names_of base) path ≡ true = told.walk (names_of base) path parts.0 in
      let there : Result Canon Errno → Result Program Errno = λ r. and_then r (λ (canon : Canon). program_in two.peeked canon.host canon.index) in
      let here : Result Canon Errno → Result Program Errno = λ r. and_then r (λ (canon : Canon). program_in one.peeked canon.host canon.index) in
      let moved : unmet_at_canon two (canon_from two path base) (is_steady_walk two Look (names_of base) path) ≡ two.peeked.steady canon.host = λ j. unmet_at_canon two ((leads ∙ is) j) (walks j) in
      record {
        same = ap there (leads ∙ is) ∙ found-again canon parts.1 ∙ sym (ap here is);
        unmet_there = moved ∙ told.steady canon.host parts.1;
      }

  by-base : (path : List ℕ) (r : Result (List ℕ) Errno) → unmet_from_base one path r true ≡ true → Finds path r
  by-base path (Ok base) h = from-base path base (canon_from one path base) refl h
  by-base path (Err e) h = record { same = refl; unmet_there = refl }

  pub program-again : (path : List ℕ) → program_unmet one working path true ≡ true → ComesAgain (program_from two working path) (program_from one working path) (program_unmet two working path true)
  program-again path h = by-base path (base_from working path) h

  -- ---- a script behind another one

  module _ (env_bytes : ℕ) where
    abbrev EndsAgain : ℕ → Program → List ℕ → List (List ℕ) → Type 0
    EndsAgain left program path args =
        ends_unmet one working env_bytes left (command_of path args program) true ≡ true
        → ComesAgain (expanded (programs two working) env_bytes left program path args) (expanded (programs one working) env_bytes left program path args) (ends_unmet two working env_bytes left (command_of path args program) true)

    module _ (left : ℕ) (later : (program : Program) (path : List ℕ) (args : List (List ℕ)) → EndsAgain left program path args) where
      -- the interpreter was found, and its arguments fit or don't
      fits-again : (interpreter : List ℕ) (args : List (List ℕ)) (file : Program) (big : Bool)
          → unmet_behind (ends_unmet one working env_bytes left) (if big then Err E2BIG else Ok (command_of interpreter args file)) true ≡ true
          → ComesAgain (if big then Err E2BIG else expanded (programs two working) env_bytes left file interpreter args) (if big then Err E2BIG else expanded (programs one working) env_bytes left file interpreter args)
          (unmet_behind (ends_unmet two working env_bytes left) (if big then Err E2BIG else Ok (command_of interpreter args file)) true)
      fits-again interpreter args file true h = record { same = refl; unmet_there = refl }
      fits-again interpreter args file false h = later file interpreter args h

      interpreter-again : (interpreter : List ℕ) (args : List (List ℕ)) (r : Result Program Errno)
          → unmet_behind (ends_unmet one working env_bytes left) (and_then r (if_args_fit env_bytes interpreter args)) true ≡ true
          → ComesAgain (by_interpreter (expanded (programs two working) env_bytes left) env_bytes interpreter args r) (by_interpreter (expanded (programs one working) env_bytes left) env_bytes interpreter args r)
          (unmet_behind (ends_unmet two working env_bytes left) (and_then r (if_args_fit env_bytes interpreter args)) true)
      interpreter-again interpreter args (Err e) h = record { same = refl; unmet_there = refl }
      interpreter-again interpreter args (Ok file) h = fits-again interpreter args file (is_too_big env_bytes args) h

      line-again : (program : Program) (path : List ℕ) (args : List (List ℕ)) (o : Option (List ℕ × List ℕ))
          → unmet_behind (ends_unmet one working env_bytes left) (interpreted_by one working env_bytes (command_of path args program) o) (unmet_by_line one working o true) ≡ true
          → ComesAgain (by_line (programs two working) (expanded (programs two working) env_bytes left) env_bytes path args o) (by_line (programs one working) (expanded (programs one working) env_bytes left) env_bytes path args o)
          (unmet_behind (ends_unmet two working env_bytes left) (interpreted_by two working env_bytes (command_of path args program) o) (unmet_by_line two working o true))
      line-again program path args None h = record { same = refl; unmet_there = refl }
      line-again program path args (Some line) h =
          let new : List (List ℕ) = new_args line.0 line.1 path args in
          let here : Result Program Errno = program_from one working line.0 in
          let asked : program_unmet one working line.0 true ≡ true =
          still-unmet (unmet_behind (ends_unmet one working env_bytes left) (and_then here (if_args_fit env_bytes line.0 new)))
          (behind-met one working env_bytes left (ends-met one working env_bytes left) (and_then here (if_args_fit env_bytes line.0 new))) (program_unmet one working line.0 true) h in
          let found = program-again line.0 asked in
          let rest = interpreter-again line.0 new here (sym (ap (unmet_behind (ends_unmet one working env_bytes left) (and_then here (if_args_fit env_bytes line.0 new))) asked) ∙ h) in
          record {
            same = ap (by_interpreter (expanded (programs two working) env_bytes left) env_bytes line.0 new) found.same ∙ rest.same;
            unmet_there = (λ j. unmet_behind (ends_unmet two working env_bytes left) (and_then (found.same j) (if_args_fit env_bytes line.0 new)) (found.unmet_there j)) ∙ rest.unmet_there;
          }

      -- a file that may be a script
      file-again : (program : Program) (path : List ℕ) (args : List (List ℕ)) (marked : Bool)
          → (if marked then unmet_behind (ends_unmet one working env_bytes left) (interpreted one working env_bytes (command_of path args program)) (interpreted_unmet one working (command_of path args program) true) else true) ≡ true
          → ComesAgain
          (if marked then by_line (programs two working) (expanded (programs two working) env_bytes left) env_bytes path args (script_of program.head) else runs (suc left) program args)
          (if marked then by_line (programs one working) (expanded (programs one working) env_bytes left) env_bytes path args (script_of program.head) else runs (suc left) program args)
          (if marked then unmet_behind (ends_unmet two working env_bytes left) (interpreted two working env_bytes (command_of path args program)) (interpreted_unmet two working (command_of path args program) true) else true)
      file-again program path args true h = line-again program path args (script_of program.head) h
      file-again program path args false h = record { same = refl; unmet_there = refl }

    -- by how many scripts may still be expanded
    ends-again : (left : ℕ) (program : Program) (path : List ℕ) (args : List (List ℕ)) → EndsAgain left program path args
    unfolding expanded ends_unmet
    ends-again zero program path args h = record { same = refl; unmet_there = refl }
    ends-again (suc left) program path args h = file-again left (ends-again left) program path args (is_script program.head) h

    -- ---- a path

    with-again : (path : List ℕ) (args : List (List ℕ)) (r : Result Program Errno) → unmet_with one working env_bytes path args r true ≡ true
        → ComesAgain
        (and_then r (λ (program : Program). shown_result (expanded (programs two working) env_bytes most_scripts program path args)))
        (and_then r (λ (program : Program). shown_result (expanded (programs one working) env_bytes most_scripts program path args)))
        (unmet_with two working env_bytes path args r true)
    with-again path args (Ok program) h = let ends = ends-again most_scripts program path args h in record { same = ap shown_result ends.same; unmet_there = ends.unmet_there }
    with-again path args (Err e) h = record { same = refl; unmet_there = refl }

    pub expanded-again : (path : List ℕ) (args : List (List ℕ)) → unmet_from one working env_bytes path args true ≡ true
        → ComesAgain (expanded_from two working env_bytes path args) (expanded_from one working env_bytes path args) (unmet_from two working env_bytes path args true)
    expanded-again path args h =
        let here : Result Program Errno = program_from one working path in
        let asked : program_unmet one working path true ≡ true = still-unmet (unmet_with one working env_bytes path args here) (with-met one working env_bytes path args here) (program_unmet one working path true) h in
        let found = program-again path asked in
        let rest = with-again path args here (sym (ap (unmet_with one working env_bytes path args here) asked) ∙ h) in
        let there : Result Program Errno → Result Expanded Errno = λ r. and_then r (λ (program : Program). shown_result (expanded (programs two working) env_bytes most_scripts program path args)) in
        record {
          same = ap there found.same ∙ rest.same;
          unmet_there = (λ j. unmet_with two working env_bytes path args (found.same j) (found.unmet_there j)) ∙ rest.unmet_there;
        }
