-- A program that execve(2) came to can be put in place of its caller's.
use Rattle.std.proofs.Common.{◌≡◌, ℕ, ◌+◌, ◌≤◌, Bool, true, false, ◌||◌, List, Option, Some, None, Result, Ok, Err, refl, sym, ap, subst, ◌∙◌, arith, []}
use Rattle.std.specs.Prelude.{IfSome, IsSome, nat_lt}
use Rattle.std.specs.Bool.{if◌then◌else◌}
use Rattle.std.specs.Option.{option_map}
use Rattle.std.proofs.lemmas.Bool.Decides.{nat_tests}
use Rattle.law_programs.specs.pr_base.declared.errno.Errno.{Errno}
use Rattle.law_programs.specs.pr_base.declared.errno.Errno.TheVariants.{EACCES, ENOMEM}
use Rattle.law_programs.specs.rv_mem.Actions.{carried_out}
use Rattle.law_programs.specs.rv_mem.Memory.{Memory, page_count}
use Rattle.law_programs.specs.elf_load.Image.{image_pages, program_break}
use Rattle.law_programs.specs.kr_tree.Tree.{Tree}
use Rattle.law_programs.specs.kr_tree.Lawful.{AreBytes}
use Rattle.law_programs.specs.kr_tree.declared.place.Host.{Host}
use Rattle.law_programs.specs.kr_tree.declared.place.Host.TheVariants.{Node, Proc}
use Rattle.law_programs.specs.kr_tree.declared.place.Place.{Place}
use Rattle.law_stops.specs.kr_view.Answers.{told}
use Rattle.law_stops.specs.kr_view.Component.{Surroundings}
use Rattle.law_stops.specs.kr_view.View.{Row}
use Rattle.law_stops.specs.kr_view.Walk.{PlaceTarget}
use Rattle.law_stops.specs.kr_view.declared.target.Target.{Target}
use Rattle.law_programs.specs.kr_exec.Finding.{if_program, is_program_found, program_at, program_walk}
use Rattle.law_programs.specs.kr_exec.Interpreters.{bytes_at, told_program}
use Rattle.law_programs.specs.kr_exec.Lists.{and_then, lists_at}
use Rattle.law_programs.specs.kr_exec.declared.lists.Lists.{Lists}
use Rattle.law_programs.specs.kr_exec.declared.plan.ExecPlan.{ExecPlan}
use Rattle.law_programs.specs.kr_execve.Execution.{Program, changes_of, exceeds, execution, ids_of, image_of, loaded, planned_from, program_of}
use Rattle.law_programs.specs.kr_execve.Executing.{CanBeLoaded}
use Rattle.law_programs.proofs.kr_execve.LoadingLemmas.{break-within}
use Rattle.law_programs.proofs.kr_execve.PlannedLemmas.{IsPlannedOf, planned-of}
use Rattle.law_programs.proofs.kr_execve.ProgramLemmas.{program-file}
use Rattle.law_programs.proofs.kr_execve.PuttingLemmas.{can-all}
use Rattle.law_programs.proofs.kr_execve.StandingLemmas.{found-stands, plan-stands}
use Rattle.law_programs.specs.law_allowed.Texts.{IsText, LinksHaveTexts}
use Rattle.law_programs.specs.law_lawful.Laws.{CanAllBeMade}
use Rattle.law_programs.specs.law_allowed.Told.{SourcesAreNamed}
use Rattle.law_stops.specs.kr_model.Applied.{cwd_of}
use Rattle.law_stops.specs.kr_model.Conditions.{CanLoad}
use Rattle.law_stops.specs.kr_model.Known.{pages_in_all}
use Rattle.law_stops.specs.kr_model.Lawful.{IsLawful, is_file_at}
use Rattle.law_stops.specs.kr_model.ProcessDirectory.{around_of}
use Rattle.law_stops.specs.kr_model.State.{Image, Process, State, image_layout, process}
use Rattle.law_stops.specs.kr_model.Walks as results
use Rattle.law_programs.proofs.kr_perform.TextLemmas.{text_bytes}
use Rattle.law_programs.proofs.LimitLemmas.{comes}
use Rattle.law_programs.proofs.RefuseLemmas.{begun, next}
use Rattle.law_programs.proofs.ImageLemmas.{image-is}
use Rattle.law_execves.specs.Replacing.{IsReadyIn, LoadedProgramsAreReady, ReadyProgramsCanBePut, mounts_of}

ok_same : {A : Type 0} {a b : A} → ◌≡◌ {A = Result A Errno} (Ok a) (Ok b) → a ≡ b
ok_same e = cc

err_ok : {A : Type 0} {e : Errno} {a : A} → ◌≡◌ {A = Result A Errno} (Err e) (Ok a) → ⊥
err_ok e = cc

-- ---- what is found is a program

module _ (around : Surroundings) (base : Place ℕ) where
  abbrev Runs : Target ℕ → Type 0
  Runs target = is_program_found around.space.tree around.space.user target.found ≡ true

  found-runs : (path : List ℕ) (target : PlaceTarget) → program_at around base path ≡ Ok target → Runs (told target)
  found-runs path target is = by (program_walk around base path).answer is
    where
      may : (x : PlaceTarget) (b : Bool) → is_program_found around.space.tree around.space.user x.found ≡ b → ◌≡◌ {A = Result PlaceTarget Errno} (if b then Ok x else Err EACCES) (Ok target) → Runs (told target)
      may x true runs e = subst (λ (x : PlaceTarget). is_program_found around.space.tree around.space.user x.found ≡ true) (ok_same e) runs
      may x false runs e = absurd (err_ok e)

      by : (r : Result PlaceTarget Errno) → if_program around.space.tree around.space.user r ≡ Ok target → Runs (told target)
      by (Err e) is = absurd (err_ok is)
      by (Ok x) is = may x (is_program_found around.space.tree around.space.user x.found) refl is

  told-runs : (path : List ℕ) (found : Target ℕ) → told_program (program_at around base path) ≡ Ok found → Runs found
  told-runs path found is = by (program_at around base path) refl is
    where
      by : (r : Result PlaceTarget Errno) → program_at around base path ≡ r → told_program r ≡ Ok found → Runs found
      by (Err e) at is = absurd (err_ok is)
      by (Ok x) at is = subst Runs (ok_same is) (found-runs path x at)

-- ---- a program that was loaded

module _ (table : List Row) (pid : ℕ) (s : State ℕ Image) (p : Process ℕ Image) (path : List ℕ) (args env : ℕ) (m : Memory) (program : Program) (lawful : IsLawful (λ k. k) table s) (links : LinksHaveTexts s.tree) (sources : SourcesAreNamed table)
    (lives : process pid s ≡ Some p) (text : IsText path) (bytes : AreBytes path) where
  abbrev around : Surroundings
  around = around_of table pid s

  at : cwd_of pid s ≡ Some p.cwd
  at = ap (option_map (λ (p : Process ℕ Image). p.cwd)) lives

  abbrev Ready : Type 0
  Ready = IsReadyIn table s program

  module _ (target : PlaceTarget) (found : program_at around p.cwd path ≡ Ok target) (lists : Lists) (plan : ExecPlan ℕ) (planned : planned_from table pid s path args env p.cwd target lists ≡ Ok plan) where
    of : (last : Target ℕ) × Runs around p.cwd last × IsPlannedOf table s.tree last plan
    of =
        planned-of around p.cwd (Runs around p.cwd) (λ script next line runs is finds. told-runs around p.cwd line.0 next finds) (told target) path lists.args lists.env plan
        (found-runs around p.cwd path target found) planned

    file : is_file_at s.tree plan.place.host ≡ true
    file = program-file s.tree s.user plan.place.host (sym (ap (is_program_found s.tree s.user) of.2.found) ∙ of.1)

    ready : (b : Bool) → exceeds s plan ≡ b → ◌≡◌ {A = Result Program Errno} (if b then Err ENOMEM else Ok (program_of s.tree s.user plan)) (Ok program) → Ready
    ready true over e = absurd (err_ok e)
    ready false within e =
        let stands = plan-stands table pid s lawful links p lives sources (told target) path lists.args lists.env plan (found-stands table pid s lawful links p lives path target (text_bytes path text bytes) found) planned file in
        record { plan = plan; is = sym (ok_same e); within = within; accepted = of.2.accepted; read = of.2.read; stands = stands.0; is_file = file; named = stands.1 }

  module _ (target : PlaceTarget) (found : program_at around p.cwd path ≡ Ok target) where
    by-plan : (lists : Lists) (r : Result (ExecPlan ℕ) Errno) → planned_from table pid s path args env p.cwd target lists ≡ r → results.and_then r (loaded s) ≡ Ok program → Ready
    by-plan lists (Err e) is e2 = absurd (err_ok e2)
    by-plan lists (Ok plan) is e = ready target found lists plan is (exceeds s plan) refl e

    by-lists : (carried_out (and_then (lists_at args env) (next table pid s path args env m p.cwd at target)) m).reply ≡ Ok program → Ready
    by-lists e =
        let c = comes (lists_at args env) (next table pid s path args env m p.cwd at target) m program e in
        by-plan c.value (planned_from table pid s path args env p.cwd target c.value) refl c.rest

  loaded-ready : (carried_out (execution table pid s path args env) m).reply ≡ Ok program → Ready
  loaded-ready e = by (program_at around p.cwd path) refl
    where
      by : (r : Result PlaceTarget Errno) → program_at around p.cwd path ≡ r → Ready
      by (Err why) is = absurd (err_ok (sym (begun table pid s path args env m p.cwd at (Err why) is) ∙ e))
      by (Ok target) is = by-lists target is (sym (begun table pid s path args env m p.cwd at (Ok target) is) ∙ e)

pub loaded_programs_are_ready : LoadedProgramsAreReady
loaded_programs_are_ready table pid s p path args env m program lawful links sources lives text bytes e = loaded-ready table pid s p path args env m program lawful links sources lives text bytes e

-- ---- that is put in place of another

few-own : (others pages : ℕ) → (nat_lt 16384 pages || nat_lt 262144 (others + pages)) ≡ false → pages ≤ 16384
few-own others pages within = grind (arith, nat_tests)

few-all : (others pages : ℕ) → (nat_lt 16384 pages || nat_lt 262144 (others + pages)) ≡ false → others + pages ≤ 262144
few-all others pages within = grind (arith, nat_tests)

alone : (others pages : ℕ) → (nat_lt 16384 pages || nat_lt 262144 (others + pages)) ≡ false → (nat_lt 16384 pages || nat_lt 262144 (0 + pages)) ≡ false
alone others pages within = grind (arith, nat_tests)

file-node : (t : Tree) (h : Host) → is_file_at t h ≡ true → (i : ℕ) × (h ≡ Node i)
file-node t (Node i) is = (i, refl)
file-node t (Proc i at) is = absurd cc

module _ (table : List Row) (pid : ℕ) (s : State ℕ Image) (program : Program) (lawful : IsLawful (λ k. k) table s) (lives : IsSome (process pid s)) (r : IsReadyIn table s program) where
  abbrev own : Image
  own = image_of s.tree s.user r.plan

  abbrev pages : ℕ
  pages = page_count (image_pages (bytes_at s.tree r.plan.place.host) r.plan.plan r.plan.args r.plan.env (ids_of s.user))

  breaks : program_break r.plan.plan ≤ 0x3F_FFFF_F000
  breaks =
      let node = file-node s.tree r.plan.place.host r.is_file in
      let same : ExecPlan ℕ = record { file = node.0; place = r.plan.place; dir = r.plan.dir; name = r.plan.name; plan = r.plan.plan; args = []; env = [] } in
      break-within s.tree same (record { file = node.1; accepted = r.accepted; read = r.read; fit = refl })

  can-load : (q : Process ℕ Image) → CanLoad own (program_break r.plan.plan) s q
  can-load q =
      let image = image-is s.tree (ids_of s.user) r.plan r.accepted r.read (alone (pages_in_all image_layout s.living) pages r.within) in
      let all = few-all (pages_in_all image_layout s.living) pages r.within in
      record { whole = image.whole; placed = image.paged; few = few-own (pages_in_all image_layout s.living) pages r.within; room = omega (arith, all); break = breaks }

  can-be-loaded : CanBeLoaded pid s r.plan
  can-be-loaded = by (process pid s)
    where
      by : (o : Option (Process ℕ Image)) → IfSome o (CanLoad own (program_break r.plan.plan) s)
      by None = tt
      by (Some q) = can-load q

  can-be-put : CanAllBeMade (λ k. k) table (mounts_of program) pid s (changes_of (Ok program))
  can-be-put =
      subst (λ (x : Program). CanAllBeMade (λ k. k) table (mounts_of x) pid s (changes_of (Ok x))) (sym r.is)
      (can-all (λ k. k) table pid s r.plan lawful lives can-be-loaded r.stands r.is_file r.named (mounts_of (program_of s.tree s.user r.plan)) refl)

pub ready_programs_can_be_put : ReadyProgramsCanBePut
ready_programs_can_be_put table pid s program lawful lives r = can-be-put table pid s program lawful lives r
