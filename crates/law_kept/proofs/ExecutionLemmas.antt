-- What execve(2) reads of its caller's memory, and the program that it comes to, are of bytes.
use Rattle.std.proofs.Common.{◌≡◌, ℕ, zero, suc, ◌+◌, ◌-◌, ◌<◌, Bool, true, false, cond, List, [], ◌∷◌, length, nat_eq, slice_index, refl, sym, ap, subst, ◌∙◌, arith, Option, Some, None}
use Rattle.std.specs.Prelude.{Err, IfOk, Ok, Result}
use Rattle.std.specs.Option.{option_and_then, option_map, option_map_or}
use Rattle.kr_first.specs.pr_base.declared.errno.Errno.{Errno}
use Rattle.kr_first.specs.pr_base.declared.errno.Errno.TheVariants.{E2BIG, EACCES, EFAULT, ENOENT, ENOMEM}
use Rattle.kr_first.specs.pr_base.declared.path.WalkMode.TheVariants.{Look}
use Rattle.kr_first.specs.rv_mem.Actions.{Action, Done}
use Rattle.kr_first.specs.rv_mem.Pages.{HoldsBytes}
use Rattle.kr_first.specs.elf_read.Rules.{first_broken}
use Rattle.kr_first.specs.elf_read.declared.fault.ElfFault.{ElfFault}
use Rattle.kr_first.specs.kr_calls.Expansion.{Expanded, bytes_with_ends, expanded, most_scripts}
use Rattle.kr_first.specs.kr_calls.Texts.{read_text}
use Rattle.kr_first.specs.kr_inode.declared.user.User.{User}
use Rattle.kr_first.specs.kr_tree.Lawful.{AreBytes, HasBytes as TreeHasBytes, IsOfBytes}
use Rattle.kr_first.specs.kr_tree.Tree.{Body, Directory, Inode, ProcessDirectory, RegularFile, SymbolicLink, Tree, file_of, inode}
use Rattle.kr_first.specs.kr_tree.declared.place.Host.{Host}
use Rattle.kr_first.specs.kr_tree.declared.place.Host.TheVariants.{Node, Proc}
use Rattle.kr_first.specs.kr_tree.declared.place.Place.{Place}
use Rattle.kr_first.specs.kr_tree.declared.place.ProcAt.{ProcAt}
use Rattle.kr_first.specs.kr_view.Answers.{told as told_target}
use Rattle.kr_first.specs.kr_view.Component.{Surroundings}
use Rattle.kr_first.specs.kr_view.View.{Row, source}
use Rattle.kr_first.specs.kr_view.Walk.{PlaceTarget, place_walk}
use Rattle.kr_first.specs.kr_view.declared.target.Target.{Target}
use Rattle.kr_first.specs.kr_exec.Exec.{after_scripts, are_too_big, entry_of, exec_plan, file_plan, inode_at, plan_at, target_plan, unless_broken}
use Rattle.kr_first.specs.kr_exec.Finding.{if_program, is_program_found, program_at, program_walk}
use Rattle.kr_first.specs.kr_exec.Interpreters.{bytes_at, found_bytes, head_of, programs, told_program}
use Rattle.kr_first.specs.kr_exec.Lists.{Trying, address_at, and_then, at_least_one, behind, env_at, if_it_fits, list_at, lists_at, most_bytes, most_texts, next_address, text_at, text_within, texts_from, unless_ended}
use Rattle.kr_first.specs.kr_exec.declared.lists.Lists.{Lists}
use Rattle.kr_first.specs.kr_exec.declared.plan.ExecPlan.{ExecPlan}
use Rattle.kr_first.specs.kr_execve.Execution.{Program, exceeds, execution, execution_from, found_from, ids_of, loaded, planned_from, program_of}
use Rattle.kr_first.proofs.kr_execve.PlannedLemmas.{planned-of}
use Rattle.kr_first.specs.kr_model.Applied.{cwd_of}
use Rattle.kr_first.specs.kr_model.ProcessDirectory.{around_of}
use Rattle.kr_first.specs.kr_model.State.{Image, State}
use Rattle.kr_first.specs.kr_model.Walks as results
use Rattle.law_kept.specs.Bytes.{AreAllBytes, HasBytes, TableHasBytes}
use Rattle.law_kept.proofs.ActionLemmas.{PutsBytes, either_way, read, tested, told, wrote}
use Rattle.law_kept.proofs.ListLemmas.{first-of}
use Rattle.law_kept.proofs.LoadLemmas.{first-registers, image-holds}
use Rattle.law_kept.proofs.ScriptLemmas.{expanded-args, line-bytes}
use Rattle.law_kept.proofs.SeenLemmas.{IsByteEntry, leads-bytes, source-bytes}
use Rattle.law_kept.proofs.WalkLemmas.{LeadsByBytes, target-bytes}

-- ---- actions that give something

-- an action that writes bytes, and gives what is good if anything
abbrev pub Gives : {A : Type 0} → (A → Type 0) → Trying A → Type 0
Gives P action = PutsBytes (λ r. IfOk r P) action

pub gives-then : {A B : Type 0} (P : A → Type 0) (Q : B → Type 0) (next : A → Trying B) (action : Trying A) → Gives P action → ((x : A) → P x → Gives Q (next x)) → Gives Q (and_then action next)
gives-then P Q next action (told {reply = Ok x} good) each = each x good
gives-then P Q next action (told {reply = Err e} good) each = told tt
gives-then P Q next action (tested {next = go} gives) each = tested (λ b. gives-then P Q next (go b) (gives b) each)
gives-then P Q next action (read {next = go} gives) each = read (λ bytes are. gives-then P Q next (go bytes) (gives bytes are) each)
gives-then P Q next action (wrote {next = go} are gives) each = wrote are (gives-then P Q next go gives each)
gives-then P Q next action (either_way true {x = x} first second) each = gives-then P Q next x first each
gives-then P Q next action (either_way false {y = y} first second) each = gives-then P Q next y second each

-- ---- texts

pub first-byte : (bytes : List ℕ) → AreBytes bytes → slice_index bytes 0 < 256
first-byte [] are = omega arith
first-byte (b ∷ bytes) are = are.0

text-read : {A : Type 0} {Good : A → Type 0} (max at : ℕ) (one two : Action A) (next : List ℕ → Action A) → PutsBytes Good one → PutsBytes Good two → ((text : List ℕ) → AreBytes text → PutsBytes Good (next text)) → PutsBytes Good (read_text max at one two next)
unfolding read_text
text-read zero at one two next first second each = second
text-read (suc max) at one two next first second each =
    tested (λ b. either_way b
    (read (λ bytes are. either_way (nat_eq (slice_index bytes 0) 0) (each [] tt)
    (text-read max (at + 1) one two (λ text. next (slice_index bytes 0 ∷ text)) first second (λ text own. each (slice_index bytes 0 ∷ text) (first-byte bytes are, own)))))
    first)

text-at-gives : (at : ℕ) → Gives AreBytes (text_at at)
text-at-gives at = text-read most_bytes at (Done (Err EFAULT)) (Done (Err E2BIG)) (λ text. Done (Ok text)) (told tt) (told tt) (λ text are. told are)

pub fitting-gives : (room : ℕ) (text : List ℕ) → AreBytes text → Gives AreBytes (if_it_fits room text)
fitting-gives room text are = either_way _ (told are) (told tt)

within-gives : (room at : ℕ) → Gives AreBytes (text_within room at)
within-gives room at = gives-then AreBytes AreBytes (if_it_fits room) (text_at at) (text-at-gives at) (λ text are. fitting-gives room text are)

abbrev pub Any : ℕ → Type 0
Any n = Unit {0}

pub address-gives : (at : ℕ) → Gives Any (address_at at)
address-gives at = tested (λ b. either_way b (read (λ bytes are. told tt)) (told tt))

unless-ended-gives : (next : Trying (List (List ℕ))) (address : ℕ) → Gives AreAllBytes next → Gives AreAllBytes (unless_ended next address)
unless-ended-gives next address gives = either_way _ (told tt) gives

texts-give : (left at room : ℕ) → Gives AreAllBytes (texts_from left at room)
unfolding texts_from
texts-give zero at room = gives-then Any AreAllBytes (unless_ended (Done (Err E2BIG))) (address_at at) (address-gives at) (λ address own. unless-ended-gives (Done (Err E2BIG)) address (told tt))
texts-give (suc left) at room =
    gives-then Any AreAllBytes _ (address_at at) (address-gives at) (λ address own.
    unless-ended-gives _ address (gives-then AreBytes AreAllBytes _ (text_within room address) (within-gives room address) (λ text are.
    gives-then AreAllBytes AreAllBytes (behind text) (texts_from left (next_address at) (room - (length text + 1))) (texts-give left (next_address at) (room - (length text + 1))) (λ rest more. told (are, more)))))

list-gives : (at room : ℕ) → Gives AreAllBytes (list_at at room)
list-gives at room = either_way _ (told tt) (texts-give most_texts at room)

-- both lists
record ListsHaveBytes (lists : Lists) : Type 0 where
  args : AreAllBytes lists.args
  env : AreAllBytes lists.env

pub one-at-least : (texts : List (List ℕ)) → AreAllBytes texts → AreAllBytes (at_least_one texts)
one-at-least [] are = (tt, tt)
one-at-least (text ∷ texts) are = are

lists-give : (args env : ℕ) → Gives ListsHaveBytes (lists_at args env)
lists-give args env =
    gives-then AreAllBytes ListsHaveBytes (λ texts. env_at env (at_least_one texts)) (list_at args most_bytes) (list-gives args most_bytes) (λ texts are.
    gives-then AreAllBytes ListsHaveBytes (λ more. Done (Ok (record { args = at_least_one texts; env = more }))) (list_at env (most_bytes - bytes_with_ends (at_least_one texts)))
    (list-gives env (most_bytes - bytes_with_ends (at_least_one texts))) (λ more own. told (record { args = one-at-least texts are; env = own })))

-- ---- files

pub tree-bytes : (t : Tree) → TreeHasBytes t → (h : Host) → AreBytes (bytes_at t h)
tree-bytes t has (Proc i at) = tt
tree-bytes t has (Node i) = by (inode t i) refl
  where
    kind : (b : Body) → IsOfBytes b → AreBytes (option_map_or (λ (bytes : List ℕ). bytes) (file_of b) [])
    kind (Directory entries standing) are = tt
    kind (RegularFile bytes) are = are
    kind (SymbolicLink text) are = tt
    kind (ProcessDirectory standing) are = tt

    by : (o : Option Inode) → inode t i ≡ o → AreBytes (option_map_or (λ (bytes : List ℕ). bytes) (option_and_then file_of (option_map (λ (x : Inode). x.node.body) o)) [])
    by None is = tt
    by (Some x) is = kind x.node.body (has i x is)

head-bytes : (t : Tree) → TreeHasBytes t → (found : Option (Place ℕ)) → AreBytes (head_of t found)
head-bytes t has found = first-of 256 (found_bytes t found) (by found)
  where
    by : (o : Option (Place ℕ)) → AreBytes (found_bytes t o)
    by None = tt
    by (Some p) = tree-bytes t has p.host

-- ---- the plan of a program

-- what the program is given and remembers
pub record PlanHasBytes (plan : ExecPlan ℕ) : Type 0 where
  pub args : AreAllBytes plan.args
  pub env : AreAllBytes plan.env
  pub name : AreBytes plan.name

module _ (around : Surroundings) (base : Place ℕ) (has : TreeHasBytes around.space.tree) (leads : (at : ProcAt) → LeadsByBytes (around.leads at)) (sources : (mount : ℕ) → IsByteEntry (source around.space.table mount)) where
  abbrev pub IsNamedByBytes : Target ℕ → Type 0
  IsNamedByBytes target = AreBytes target.name

  pub program-bytes : (path : List ℕ) (w : PlaceTarget) → AreBytes path → program_at around base path ≡ Ok w → AreBytes w.name
  program-bytes path w are is = by (program_walk around base path).answer refl is
    where
      may : (x : PlaceTarget) (b : Bool) → (place_walk around Look base path).answer ≡ Ok x → cond b (Ok x) (Err EACCES) ≡ Ok w → AreBytes w.name
      may x true ends is = let one : x ≡ w = cc in target-bytes around has leads Look base path w (ends ∙ ap Ok one) are
      may x false ends is = absurd cc

      by : (a : Result PlaceTarget Errno) → (place_walk around Look base path).answer ≡ a → if_program around.space.tree around.space.user a ≡ Ok w → AreBytes w.name
      by (Err e) ends is = absurd cc
      by (Ok x) ends is = may x (is_program_found around.space.tree around.space.user x.found) ends is

  told-bytes : (path : List ℕ) (found : Target ℕ) → AreBytes path → told_program (program_at around base path) ≡ Ok found → IsNamedByBytes found
  told-bytes path found are is = by (program_at around base path) refl is
    where
      by : (a : Result PlaceTarget Errno) → program_at around base path ≡ a → told_program a ≡ Ok found → IsNamedByBytes found
      by (Err e) ends is = absurd cc
      by (Ok w) ends is = let one : told_target w ≡ found = cc in subst IsNamedByBytes one (program-bytes path w are ends)

  entry-bytes : (target : Target ℕ) (place : Place ℕ) → IsNamedByBytes target → AreBytes (entry_of around.space.table target place).1
  entry-bytes target place own = by (source around.space.table place.mount) (sources place.mount)
    where
      by : (o : Option (ℕ × List ℕ)) → IsByteEntry o → AreBytes (option_map_or (λ (e : ℕ × List ℕ). e) o (inode_at target.dir.host, target.name)).1
      by None is = own
      by (Some e) is = is

  plan-name : (found : Target ℕ) (path : List ℕ) (args env : List (List ℕ)) (plan : ExecPlan ℕ) → IsNamedByBytes found → exec_plan around base found path args env ≡ Ok plan → AreBytes plan.name
  plan-name found path args env plan own e =
      let last = planned-of around base IsNamedByBytes
      (λ script target line good line_is finds. told-bytes line.0 target (line-bytes (head_of around.space.tree script.found) line (head-bytes around.space.tree has script.found) line_is).0 finds) found path args env plan own e
      in subst AreBytes (sym last.2.name) (entry-bytes last.0 plan.place last.1)

  -- a plan has the arguments of what runs in the end, and the environment as it was
  plan-given : (env : List (List ℕ)) (target : Target ℕ) (args : List (List ℕ)) (plan : ExecPlan ℕ) → target_plan around.space.table around.space.tree env target args ≡ Ok plan → (args ≡ plan.args) × (env ≡ plan.env)
  plan-given env target args plan e = by target.found e
    where
      at : (place : Place ℕ) (o : Option ElfFault) → unless_broken o (plan_at around.space.table around.space.tree target args env place) ≡ Ok plan → (args ≡ plan.args) × (env ≡ plan.env)
      at place (Some why) e = absurd cc
      at place None e =
          let same : plan_at around.space.table around.space.tree target args env place ≡ plan = cc in
          (ap (λ (p : ExecPlan ℕ). p.args) same, ap (λ (p : ExecPlan ℕ). p.env) same)

      by : (o : Option (Place ℕ)) → file_plan around.space.table around.space.tree target args env o ≡ Ok plan → (args ≡ plan.args) × (env ≡ plan.env)
      by None e = absurd cc
      by (Some place) e = at place (first_broken (bytes_at around.space.tree place.host)) e

  pub plan-bytes : (found : Target ℕ) (path : List ℕ) (args env : List (List ℕ)) (plan : ExecPlan ℕ) → IsNamedByBytes found → AreBytes path → AreAllBytes args → AreAllBytes env → exec_plan around base found path args env ≡ Ok plan → PlanHasBytes plan
  plan-bytes found path args env plan own path_are args_are env_are e =
      let given = fits (are_too_big args env) e in
      record { args = given.0; env = given.1; name = plan-name found path args env plan own e }
    where
      ended : (r : Result (Expanded (Target ℕ)) Errno) → expanded (programs around base) (bytes_with_ends env) most_scripts found path args ≡ r → after_scripts around env r ≡ Ok plan → AreAllBytes plan.args × AreAllBytes plan.env
      ended (Err why) is e = absurd cc
      ended (Ok x) is e =
          let given = plan-given env x.file x.args plan e in
          let own_args = expanded-args (programs around base) (λ file. head-bytes around.space.tree has file.found) (bytes_with_ends env) x most_scripts found path args path_are args_are is in
          (subst AreAllBytes given.0 own_args, subst AreAllBytes given.1 env_are)

      fits : (b : Bool) → cond b (Err E2BIG) (after_scripts around env (expanded (programs around base) (bytes_with_ends env) most_scripts found path args)) ≡ Ok plan → AreAllBytes plan.args × AreAllBytes plan.env
      fits true e = absurd cc
      fits false e = ended (expanded (programs around base) (bytes_with_ends env) most_scripts found path args) refl e

-- ---- the program

pub record ProgramHasBytes (p : Program) : Type 0 where
  pub image : HoldsBytes p.image.memory.pages
  pub registers : length p.image.regs.x ≡ 32
  pub name : AreBytes p.name

program-of-bytes : (tree : Tree) (user : User) (plan : ExecPlan ℕ) → TreeHasBytes tree → PlanHasBytes plan → ProgramHasBytes (program_of tree user plan)
program-of-bytes tree user plan has own = record { image = image-holds (bytes_at tree plan.place.host) plan.plan plan.args plan.env (ids_of user) (tree-bytes tree has plan.place.host) own.args own.env; registers = first-registers plan.plan plan.args plan.env; name = own.name }

module _ (table : List Row) (are : TableHasBytes table) (pid : ℕ) (s : State ℕ Image) (has : HasBytes s) (path : List ℕ) (path_are : AreBytes path) (args env : ℕ) where
  loaded-bytes : (plan : ExecPlan ℕ) → PlanHasBytes plan → IfOk (loaded s plan) ProgramHasBytes
  loaded-bytes plan own = by (exceeds s plan)
    where
      by : (b : Bool) → IfOk (cond b (Err ENOMEM) (Ok (program_of s.tree s.user plan))) ProgramHasBytes
      by true = tt
      by false = program-of-bytes s.tree s.user plan has.tree own

  planned-bytes : (r : Result (ExecPlan ℕ) Errno) → ((plan : ExecPlan ℕ) → r ≡ Ok plan → PlanHasBytes plan) → IfOk (results.and_then r (loaded s)) ProgramHasBytes
  planned-bytes (Err e) each = tt
  planned-bytes (Ok plan) each = loaded-bytes plan (each plan refl)

  from-gives : (base : Place ℕ) → Gives ProgramHasBytes (execution_from table pid s path args env base)
  from-gives base =
      gives-then (λ (w : PlaceTarget). AreBytes w.name) ProgramHasBytes _ (Done (found_from table pid s path args env base)) (told (found (found_from table pid s path args env base) refl)) (λ target own.
      gives-then ListsHaveBytes ProgramHasBytes _ (lists_at args env) (lists-give args env) (λ lists both.
      told (planned-bytes (planned_from table pid s path args env base target lists)
      (λ plan is. plan-bytes (around_of table pid s) base has.tree (leads-bytes table are pid s has) (source-bytes table are) (told_target target) path lists.args lists.env plan own path_are both.args both.env is))))
    where
      found : (r : Result PlaceTarget Errno) → found_from table pid s path args env base ≡ r → IfOk r (λ w. AreBytes w.name)
      found (Err e) is = tt
      found (Ok w) is = program-bytes (around_of table pid s) base has.tree (leads-bytes table are pid s has) (source-bytes table are) path w path_are is

  pub execution-gives : PutsBytes (λ r. IfOk r ProgramHasBytes) (execution table pid s path args env)
  execution-gives = by (cwd_of pid s)
    where
      by : (o : Option (Place ℕ)) → Gives ProgramHasBytes (option_map_or (execution_from table pid s path args env) o (Done (Err ENOENT)))
      by None = told tt
      by (Some base) = from-gives base
