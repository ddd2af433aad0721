-- Scripts one by one: what their lines come to, and what the walks to their interpreters reach.
use Rattle.std.proofs.Common.{◌≡◌, ℕ, zero, suc, ◌-◌, Bool, true, false, cond, List, [], ◌∷◌, Option, Some, None, Result, Ok, Err, refl, sym, ap, ◌∙◌, subst}
use Rattle.std.specs.Option.{option_map}
use Rattle.elf_read.specs.pr_base.declared.errno.Errno.{Errno}
use Rattle.elf_read.specs.pr_base.declared.errno.Errno.TheVariants.{E2BIG, ELOOP}
use Rattle.elf_read.specs.pr_base.declared.path.WalkMode.TheVariants.{Look}
use Rattle.kr_walk.specs.kr_tree.declared.place.Place.{Place}
use Rattle.kr_walk.specs.kr_tree.Tree.{Tree}
use Rattle.kr_walk.specs.kr_view.declared.target.Target.{Target}
use Rattle.kr_walk.specs.kr_view.declared.target.WalkFault.{WalkFault}
use Rattle.kr_walk.specs.kr_view.declared.target.WalkFault.TheVariants as fault
use Rattle.kr_walk.specs.kr_view.declared.target.Reach.{Reach}
use Rattle.kr_walk.specs.kr_view.Answers.{IsReached, target_numbered}
use Rattle.kr_walk.specs.kr_view.Component.{Surroundings}
use Rattle.kr_walk.specs.kr_view.Leads.{numbered}
use Rattle.kr_walk.specs.kr_view.Reach.{Covers, reach_after}
use Rattle.kr_walk.proofs.kr_view.ReachLemmas.{covers_refl, covers_trans, covers_after}
use Rattle.kr_calls.specs.Expansion.{Finding, Expanded, expanded, is_script, is_too_big, most_scripts, new_args, runs, by_line, by_interpreter}
use Rattle.kr_calls.specs.Scripts.{script_of}
use Rattle.kr_exec.specs.declared.scripts.Command.{Command}
use Rattle.kr_exec.specs.Answers.{Answers, IsExpanded, Reaches, running}
use Rattle.kr_exec.specs.Finding.{program_walk}
use Rattle.kr_exec.specs.Interpreters.{Running, Paths, ends_of, paths_of, head_of, programs, interpreted, if_args_fit, interpreters, paths_behind, paths_by_line, walks_reach, line_reach}

abbrev pub Line : Type 0
Line = Option (List ℕ × List ℕ)

-- ---- what was found, with the numbers of the mounts

pub head_numbered : {M : Type 0} (number : M → ℕ) (tree : Tree) (found : Option (Place M)) → head_of tree (option_map (numbered number) found) ≡ head_of tree found
head_numbered number tree (Some p) = refl
head_numbered number tree None = refl

-- ---- one script

abbrev pub goes : {F : Type 0} → (Running F → Result (Expanded F) Errno) → Result (Running F) Errno → Result (Expanded F) Errno
goes next (Ok r) = next r
goes next (Err e) = Err e

fits_step : {F : Type 0} (next : Running F → Result (Expanded F) Errno) (b : Bool) (file : F) (path : List ℕ) (args : List (List ℕ))
    → cond b (Err E2BIG) (next (record { file = file; path = path; args = args })) ≡ goes next (cond b (Err E2BIG) (Ok (record { file = file; path = path; args = args })))
fits_step next true file path args = refl
fits_step next false file path args = refl

found_step : {F : Type 0} (f : Finding F) (env_bytes left : ℕ) (path : List ℕ) (args : List (List ℕ)) (found : Result F Errno)
    → by_interpreter (expanded f env_bytes left) env_bytes path args found ≡ goes (ends_of f env_bytes left) (if_args_fit env_bytes path args found)
found_step f env_bytes left path args (Ok file) = fits_step (ends_of f env_bytes left) (is_too_big env_bytes args) file path args
found_step f env_bytes left path args (Err e) = refl

line_step : {F : Type 0} (f : Finding F) (env_bytes left : ℕ) (path : List ℕ) (args : List (List ℕ)) (line : Line)
    → by_line f (expanded f env_bytes left) env_bytes path args line ≡ goes (ends_of f env_bytes left) (interpreted f env_bytes path args line)
line_step f env_bytes left path args None = refl
line_step f env_bytes left path args (Some line) = found_step f env_bytes left line.0 (new_args line.0 line.1 path args) (f.find line.0)

-- a script goes on with its interpreter
pub script_step : {F : Type 0} (f : Finding F) (env_bytes left : ℕ) (r : Running F) → is_script (f.head r.file) ≡ true
    → ends_of f env_bytes (suc left) r ≡ goes (ends_of f env_bytes left) (interpreted f env_bytes r.path r.args (script_of (f.head r.file)))
unfolding expanded
script_step f env_bytes left r is =
    ap (λ b. cond b (by_line f (expanded f env_bytes left) env_bytes r.path r.args (script_of (f.head r.file))) (runs (suc left) r.file r.args)) is
    ∙ line_step f env_bytes left r.path r.args (script_of (f.head r.file))

pub paths_step : {F : Type 0} (f : Finding F) (env_bytes left : ℕ) (r : Running F) → is_script (f.head r.file) ≡ true
    → paths_of f env_bytes (suc left) r ≡ paths_by_line f (interpreters f env_bytes left) env_bytes r.path r.args (script_of (f.head r.file))
unfolding interpreters
paths_step f env_bytes left r is =
    ap (λ b. cond b (paths_by_line f (interpreters f env_bytes left) env_bytes r.path r.args (script_of (f.head r.file))) []) is

-- what is no script runs itself
pub program_ends : {F : Type 0} (f : Finding F) (env_bytes left : ℕ) (r : Running F) → is_script (f.head r.file) ≡ false → ends_of f env_bytes left r ≡ runs left r.file r.args
unfolding expanded
program_ends f env_bytes zero r is = ap (λ b. cond b (Err ELOOP) (runs zero r.file r.args)) is
program_ends f env_bytes (suc left) r is =
    ap (λ b. cond b (by_line f (expanded f env_bytes left) env_bytes r.path r.args (script_of (f.head r.file))) (runs (suc left) r.file r.args)) is

pub program_paths : {F : Type 0} (f : Finding F) (env_bytes left : ℕ) (r : Running F) → is_script (f.head r.file) ≡ false → paths_of f env_bytes left r ≡ []
unfolding interpreters
program_paths f env_bytes zero r is = refl
program_paths f env_bytes (suc left) r is =
    ap (λ b. cond b (paths_by_line f (interpreters f env_bytes left) env_bytes r.path r.args (script_of (f.head r.file))) []) is

-- one script too many
pub loop_ends : {F : Type 0} (f : Finding F) (env_bytes left : ℕ) (r : Running F) → left ≡ 0 → is_script (f.head r.file) ≡ true → ends_of f env_bytes left r ≡ Err ELOOP
unfolding expanded
loop_ends f env_bytes zero r none is = ap (λ b. cond b (Err ELOOP) (runs zero r.file r.args)) is
loop_ends f env_bytes (suc left) r none is = absurd cc

pub loop_paths : {F : Type 0} (f : Finding F) (env_bytes left : ℕ) (r : Running F) → left ≡ 0 → paths_of f env_bytes left r ≡ []
unfolding interpreters
loop_paths f env_bytes zero r none = refl
loop_paths f env_bytes (suc left) r none = absurd cc

-- ---- what is reached

pub covers_walks : (around : Surroundings) (base : Place ℕ) (paths : List (List ℕ)) (r : Reach) → Covers (walks_reach around base paths r) r
covers_walks around base [] r = covers_refl r
covers_walks around base (path ∷ paths) r =
    covers_trans _ (reach_after around Look (program_walk around base path) r) r (covers_walks around base paths _) (covers_after around Look (program_walk around base path) r)

pub covers_line : (around : Surroundings) (base : Place ℕ) (line : Line) (r : Reach) → Covers (line_reach around base line r) r
covers_line around base None r = covers_refl r
covers_line around base (Some line) r = covers_after around Look (program_walk around base line.0) r

line_walks : {F : Type 0} (around : Surroundings) (base : Place ℕ) (f : Finding F) (again : Paths F) (env_bytes : ℕ) (path : List ℕ) (args : List (List ℕ)) (line : Line) (r : Reach)
    → walks_reach around base (paths_by_line f again env_bytes path args line) r ≡ walks_reach around base (paths_behind again (interpreted f env_bytes path args line)) (line_reach around base line r)
line_walks around base f again env_bytes path args None r = refl
line_walks around base f again env_bytes path args (Some line) r = refl

-- the walk that a line asks for was made
pub line_reached : {T : Type 0} (around : Surroundings) (base : Place ℕ) (line : Line) (words : List ℕ × List ℕ) (old new : Reach) (result : Result T WalkFault)
    → Some words ≡ line → IsReached around Look (program_walk around base words.0) old new result → Reaches (line_reach around base line old) old new result
line_reached around base line words old new (Ok x) is h = h ∙ ap (λ l. line_reach around base l old) is
line_reached around base line words old new (Err (fault.Err e)) is h = h ∙ ap (λ l. line_reach around base l old) is
line_reached around base line words old new (Err fault.NoMemory) is h = (h.0, subst (λ l. Covers (line_reach around base l old) new) is h.1)

-- memory is wanting where all was reached
pub wanting_reach : (whole old new : Reach) → new ≡ whole → Covers whole old → Covers new old × Covers whole new
wanting_reach whole old new is more = (subst (λ r. Covers r old) (sym is) more, subst (λ r. Covers r new) is (covers_refl new))

-- and before anything was reached
pub at_start : (old whole : Reach) → Covers whole old → Covers old old × Covers whole old
at_start old whole more = (covers_refl old, more)

-- ---- scripts that were expanded so far

module _ (around : Surroundings) (base : Place ℕ) (env_bytes : ℕ) where
  -- what is left comes to the whole
  pub record IsLeft (left : ℕ) (r : Running (Target ℕ)) (reach : Reach) (whole : Result (Expanded (Target ℕ)) Errno) (old all : Reach) : Type 0 where
    pub ends : ends_of (programs around base) env_bytes left r ≡ whole
    pub reaches : walks_reach around base (paths_of (programs around base) env_bytes left r) reach ≡ all
    pub covers : Covers reach old

  head_is : {M : Type 0} (number : M → ℕ) (file : Target M) (head : List ℕ) (b : Bool) → head ≡ head_of around.space.tree file.found → is_script head ≡ b → is_script ((programs around base).head (target_numbered number file)) ≡ b
  head_is number file head b is script = ap is_script (head_numbered number around.space.tree file.found ∙ sym is) ∙ script

  pub ended : {M : Type 0} (number : M → ℕ) (c : Command M) (head : List ℕ) (left : ℕ) (reach : Reach) (whole : Result (Expanded (Target ℕ)) Errno) (old all : Reach)
      → IsLeft left (running number c) reach whole old all → head ≡ head_of around.space.tree c.file.found → is_script head ≡ false
      → IsExpanded number whole (Ok c) × (reach ≡ all)
  ended number c head left reach whole old all h is none =
      let no = head_is number c.file head false is none in
      let run = program_ends (programs around base) env_bytes left (running number c) no in (
        (record { file = target_numbered number c.file; args = c.args; scripts = most_scripts - left }, sym h.ends ∙ run, refl, refl),
        sym (ap (λ p. walks_reach around base p reach) (program_paths (programs around base) env_bytes left (running number c) no)) ∙ h.reaches,
      )

  pub looped : {M : Type 0} (number : M → ℕ) (c : Command M) (head : List ℕ) (left : ℕ) (reach : Reach) (whole : Result (Expanded (Target ℕ)) Errno) (old all : Reach)
      → IsLeft left (running number c) reach whole old all → left ≡ 0 → head ≡ head_of around.space.tree c.file.found → is_script head ≡ true
      → (whole ≡ Err ELOOP) × (reach ≡ all)
  looped number c head left reach whole old all h none is script = (
    sym h.ends ∙ loop_ends (programs around base) env_bytes left (running number c) none (head_is number c.file head true is script),
    sym (ap (λ p. walks_reach around base p reach) (loop_paths (programs around base) env_bytes left (running number c) none)) ∙ h.reaches,
  )

  -- the step to an interpreter, seen from the whole
  stepped : {M : Type 0} (number : M → ℕ) (c : Command M) (head : List ℕ) (left k : ℕ) (reach : Reach) (whole : Result (Expanded (Target ℕ)) Errno) (old all : Reach)
      → IsLeft left (running number c) reach whole old all → left ≡ suc k → head ≡ head_of around.space.tree c.file.found → is_script head ≡ true
      → (whole ≡ goes (ends_of (programs around base) env_bytes k) (interpreted (programs around base) env_bytes c.path c.args (script_of head)))
      × (all ≡ walks_reach around base (paths_behind (interpreters (programs around base) env_bytes k) (interpreted (programs around base) env_bytes c.path c.args (script_of head))) (line_reach around base (script_of head) reach))
  stepped number c head left k reach whole old all h more is script =
      let f = programs around base in
      let r = running number c in
      let yes = head_is number c.file head true is script in
      let same : f.head r.file ≡ head = head_numbered number around.space.tree c.file.found ∙ sym is in (
        sym h.ends ∙ ap (λ n. ends_of f env_bytes n r) more ∙ script_step f env_bytes k r yes
            ∙ ap (λ b. goes (ends_of f env_bytes k) (interpreted f env_bytes c.path c.args (script_of b))) same,
        sym h.reaches ∙ ap (λ n. walks_reach around base (paths_of f env_bytes n r) reach) more
            ∙ ap (λ p. walks_reach around base p reach) (paths_step f env_bytes k r yes)
            ∙ ap (λ b. walks_reach around base (paths_by_line f (interpreters f env_bytes k) env_bytes c.path c.args (script_of b)) reach) same
            ∙ line_walks around base f (interpreters f env_bytes k) env_bytes c.path c.args (script_of head) reach,
      )

  pub next_left : {M : Type 0} (number : M → ℕ) (c next : Command M) (head : List ℕ) (left k : ℕ) (reach new : Reach) (whole : Result (Expanded (Target ℕ)) Errno) (old all : Reach)
      → IsLeft left (running number c) reach whole old all → left ≡ suc k → head ≡ head_of around.space.tree c.file.found → is_script head ≡ true
      → interpreted (programs around base) env_bytes c.path c.args (script_of head) ≡ Ok (running number next) → new ≡ line_reach around base (script_of head) reach
      → IsLeft k (running number next) new whole old all
  next_left number c next head left k reach new whole old all h more is script answer reached =
      let f = programs around base in
      let step = stepped number c head left k reach whole old all h more is script in
      record {
        ends = sym (step.0 ∙ ap (goes (ends_of f env_bytes k)) answer);
        reaches = ap (walks_reach around base (paths_of f env_bytes k (running number next))) reached
            ∙ sym (step.1 ∙ ap (λ a. walks_reach around base (paths_behind (interpreters f env_bytes k) a) (line_reach around base (script_of head) reach)) answer);
        covers = subst (λ r. Covers r old) (sym reached) (covers_trans _ reach old (covers_line around base (script_of head) reach) h.covers);
      }

  pub next_err : {M : Type 0} (number : M → ℕ) (c : Command M) (head : List ℕ) (left k : ℕ) (reach new : Reach) (whole : Result (Expanded (Target ℕ)) Errno) (old all : Reach) (why : WalkFault)
      → IsLeft left (running number c) reach whole old all → left ≡ suc k → head ≡ head_of around.space.tree c.file.found → is_script head ≡ true
      → Answers {A = Command M} (running number) (interpreted (programs around base) env_bytes c.path c.args (script_of head)) (Err why)
      → Reaches {T = Command M} (line_reach around base (script_of head) reach) reach new (Err why)
      → IsExpanded {M = M} number whole (Err why) × Reaches {T = Command M} all old new (Err why)
  next_err number c head left k reach new whole old all (fault.Err e) h more is script answer reached =
      let f = programs around base in
      let step = stepped number c head left k reach whole old all h more is script in (
        step.0 ∙ ap (goes (ends_of f env_bytes k)) answer,
        reached ∙ sym (step.1 ∙ ap (λ a. walks_reach around base (paths_behind (interpreters f env_bytes k) a) (line_reach around base (script_of head) reach)) answer),
      )
  next_err number c head left k reach new whole old all fault.NoMemory h more is script answer reached =
      let f = programs around base in
      let step = stepped number c head left k reach whole old all h more is script in
      let paths = paths_behind (interpreters f env_bytes k) (interpreted f env_bytes c.path c.args (script_of head)) in
      let line = line_reach around base (script_of head) reach in
      (tt, (covers_trans new reach old reached.0 h.covers, subst (λ r. Covers r new) (sym step.1) (covers_trans _ line new (covers_walks around base paths line) reached.1)))
