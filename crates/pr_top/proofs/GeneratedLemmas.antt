-- A generated case begins on both machines.
use Rattle.std.proofs.Common.{◌≡◌, ◌⊎◌, inl, inr, ℕ, zero, suc, List, [], None, sym, ap, subst, ◌∙◌, codes, arith}
use Rattle.std.specs.Prelude.{Result, Ok, Err}
use Rattle.std.specs.List.{All}
use Rattle.pr_start.specs.pr_base.declared.bind.Bind.{Bind}
use Rattle.pr_start.specs.pr_base.declared.errno.Errno.{Errno}
use Rattle.pr_start.specs.kr_inode.declared.user.User.{User}
use Rattle.pr_start.specs.law_allowed.Texts.{IsText}
use Rattle.pr_run.specs.kr_mounts.Bounds.{AreNumbered}
use Rattle.pr_run.specs.kr_mounts.Standing.{texts_of}
use Rattle.pr_run.specs.kr_mounts.Stored.{table_of}
use Rattle.pr_start.specs.kr_start.declared.stage.Stage.{Stage as StageOfCode}
use Rattle.pr_start.specs.kr_view.View.{Row}
use Rattle.pr_run.specs.pr_sources.declared.answer.Answer.{Answer}
use Rattle.pr_run.specs.pr_sources.declared.answer.Answer.TheVariants.{NoStart}
use Rattle.pr_gen.specs.Case.{case_binds, case_command}
use Rattle.pr_start.specs.pr_words.declared.launch.Launch.{Launch}
use Rattle.pr_run.specs.pr_sources.Within.{IsEarly}
use Rattle.pr_start.specs.Beginning.{beginning}
use Rattle.pr_start.specs.Machines.{Machine, Nobody, Watch}
use Rattle.pr_start.specs.TracedBeginning.{Tracing, traced_beginning}
use Rattle.pr_start.specs.pr_words.declared.options.Options.{Options}
use Rattle.pr_top.specs.Opening.{Begun, Both, Staged, begun_as, begun_both, begun_with, case_launch, case_plan, mounted_by, mounted_start, staged_told, started_both, watched_by, watched_start}

-- ---- a start

module _ (s : StageOfCode) (launch : Launch) (input : List ℕ) (staged : Result Staged Answer) (is : staged ≡ Ok (staged_told s)) (launched : launch ≡ case_launch s.user) (none : input ≡ []) where
  pub watched-is : (answer : Result (Machine Tracing) Errno) → traced_beginning (texts_of (table_of s.places)) s.tree s.user None launch input ≡ answer → watched_by staged ≡ begun_with s.user answer
  watched-is answer e =
      let begins = traced_beginning (texts_of (table_of s.places)) s.tree s.user None in
      ap watched_by is ∙ ap (begun_with s.user) (ap (λ l. begins l []) (sym launched) ∙ ap (λ bytes. begins launch bytes) (sym none) ∙ e)

  pub mounted-is : (answer : Result (Machine Watch) Errno) → beginning (table_of s.places) s.tree s.user Nobody launch input ≡ answer → mounted_by staged ≡ begun_with (table_of s.places) answer
  mounted-is answer e =
      let begins = beginning (table_of s.places) s.tree s.user Nobody in
      ap mounted_by is ∙ ap (begun_with (table_of s.places)) (ap (λ l. begins l []) (sym launched) ∙ ap (λ bytes. begins launch bytes) (sym none) ∙ e)

-- what is refused before the start
pub watched-refused : (staged : Result Staged Answer) (a : Answer) → (staged ≡ Err a) ⊎ IsEarly a → (watched_by staged ≡ Err a) ⊎ IsEarly a
watched-refused staged a (inl e) = inl (ap watched_by e)
watched-refused staged a (inr early) = inr early

pub mounted-refused : (staged : Result Staged Answer) (a : Answer) → (staged ≡ Err a) ⊎ IsEarly a → (mounted_by staged ≡ Err a) ⊎ IsEarly a
mounted-refused staged a (inl e) = inl (ap mounted_by e)
mounted-refused staged a (inr early) = inr early

-- ---- both machines

same-ok : {A : Type 0} (x y : A) → ◌≡◌ {A = Result A Answer} (Ok x) (Ok y) → x ≡ y
same-ok x y e = cc

same-err : {A : Type 0} (a b : Answer) → ◌≡◌ {A = Result A Answer} (Err a) (Err b) → a ≡ b
same-err a b e = cc

module _ (n : ℕ) (o : Options) where
  abbrev both_by : User → List Row → Result (Machine Tracing) Errno → Result (Machine Watch) Errno → Result Begun Answer
  both_by user table w k = begun_as (case_plan o user) (started_both n table w k)

  both-unwatched : (user : User) (table : List Row) (w : Result (Machine Tracing) Errno) (k : Result (Machine Watch) Errno) (a : Answer) → ◌≡◌ {A = Result (User × Machine Tracing) Answer} (begun_with user w) (Err a) → both_by user table w k ≡ Err a
  both-unwatched user table (Ok m) k a e = absurd cc
  both-unwatched user table (Err errno) k a e = ap (λ (x : Answer). Err x) (same-err (NoStart errno) a e)

  both-unmounted : (user : User) (table : List Row) (w : Result (Machine Tracing) Errno) (k : Result (Machine Watch) Errno) (x : User × Machine Tracing) (a : Answer)
      → ◌≡◌ {A = Result (User × Machine Tracing) Answer} (begun_with user w) (Ok x) → ◌≡◌ {A = Result (List Row × Machine Watch) Answer} (begun_with table k) (Err a) → both_by user table w k ≡ Err a
  both-unmounted user table (Ok m) (Ok k) x a watched e = absurd cc
  both-unmounted user table (Ok m) (Err errno) x a watched e = ap (λ (y : Answer). Err y) (same-err (NoStart errno) a e)
  both-unmounted user table (Err errno) k x a watched e = absurd cc

  both-begun : (user : User) (table : List Row) (w : Result (Machine Tracing) Errno) (k : Result (Machine Watch) Errno) (x : User × Machine Tracing) (y : List Row × Machine Watch)
      → ◌≡◌ {A = Result (User × Machine Tracing) Answer} (begun_with user w) (Ok x) → ◌≡◌ {A = Result (List Row × Machine Watch) Answer} (begun_with table k) (Ok y)
      → both_by user table w k ≡ Ok (record { plan = case_plan o x.0; started = Both n x.1 y.0 y.1 })
  both-begun user table (Ok m) (Ok k) x y watched mounted =
      let p = same-ok (user, m) x watched in
      let q = same-ok (table, k) y mounted in
      λ i. Ok (record { plan = case_plan o (p i).0; started = Both n (p i).1 (q i).0 (q i).1 })
  both-begun user table (Ok m) (Err errno) x y watched mounted = absurd cc
  both-begun user table (Err errno) k x y watched mounted = absurd cc

  -- the watched machine isn't begun
  pub unwatched : (staged : Result Staged Answer) (a : Answer) → (watched_by staged ≡ Err a) ⊎ IsEarly a → (begun_both n o staged ≡ Err a) ⊎ IsEarly a
  unwatched (Ok s) a (inl e) = inl (both-unwatched s.user s.table (watched_start s) (mounted_start s) a e)
  unwatched (Err b) a (inl e) = inl (ap (λ (x : Answer). Err x) (same-err b a e))
  unwatched staged a (inr early) = inr early

  -- it is, and the other one isn't
  pub unmounted : (staged : Result Staged Answer) (x : User × Machine Tracing) (a : Answer) → watched_by staged ≡ Ok x → (mounted_by staged ≡ Err a) ⊎ IsEarly a → (begun_both n o staged ≡ Err a) ⊎ IsEarly a
  unmounted (Ok s) x a watched (inl e) = inl (both-unmounted s.user s.table (watched_start s) (mounted_start s) x a watched e)
  unmounted (Err b) x a watched (inl e) = absurd cc
  unmounted staged x a watched (inr early) = inr early

  -- both are
  pub both : (staged : Result Staged Answer) (x : User × Machine Tracing) (y : List Row × Machine Watch) → watched_by staged ≡ Ok x → mounted_by staged ≡ Ok y
      → begun_both n o staged ≡ Ok (record { plan = case_plan o x.0; started = Both n x.1 y.0 y.1 })
  both (Ok s) x y watched mounted = both-begun s.user s.table (watched_start s) (mounted_start s) x y watched mounted
  both (Err b) x y watched mounted = absurd cc

-- ---- the parts

numbered : AreNumbered case_binds
numbered zero b is = cc
numbered (suc zero) b is = cc
numbered (suc (suc k)) b is = absurd cc

pub case-numbered : (binds : List Bind) → binds ≡ case_binds → AreNumbered binds
case-numbered binds e = subst AreNumbered (sym e) numbered

program-text : IsText (codes "/p")
program-text zero d l = λ e. absurd cc
program-text (suc zero) d l = λ e. absurd cc
program-text (suc (suc k)) d l = absurd (omega (arith, l))

command-text : All IsText case_command
command-text zero d l = program-text
command-text (suc k) d l = absurd (omega (arith, l))

pub case-command-text : (user : User) (launch : Launch) → launch ≡ case_launch user → All IsText launch.command
case-command-text user launch e = subst (λ (l : Launch). All IsText l.command) (sym e) command-text

no-text : All IsText []
no-text k d l = absurd (omega (arith, l))

pub case-env-text : (user : User) (launch : Launch) → launch ≡ case_launch user → All IsText launch.env
case-env-text user launch e = subst (λ (l : Launch). All IsText l.env) (sym e) no-text
