-- The state in which a run begins: its parts one by one, from before a process lives to the console that is open in the first one.
use Rattle.std.specs.FinMap as map
use Rattle.std.proofs.Common.{◌≡◌, ℕ, ◌+◌, Bool, true, false, cond, List, [], ◌∷◌, Option, Some, None, refl, sym, ap, subst, ◌∙◌}
use Rattle.std.specs.Prelude.{Err, IfSome, Ok, Result, ◌==◌}
use Rattle.std.specs.List.{AllByRecursion, find}
use Rattle.std.specs.Option.{option_map, option_map_or}
use Rattle.std.specs.Ordering.{nat_cmp}
use Rattle.std.proofs.lemmas.Option.{none-some}
use Rattle.law_loose.specs.kr_core.pr_base.declared.errno.Errno.{Errno}
use Rattle.law_loose.specs.kr_core.pr_base.declared.errno.Errno.TheVariants.{ENOENT, ENOMEM}
use Rattle.law_loose.specs.kr_core.kr_inode.declared.user.User.{User}
use Rattle.law_loose.specs.kr_loose.kr_tree.Tree.{Tree}
use Rattle.law_loose.specs.kr_loose.kr_tree.declared.place.Host.{Host}
use Rattle.law_loose.specs.kr_loose.kr_tree.declared.place.Place.{Place}
use Rattle.law_loose.specs.kr_core.kr_files.Descriptors.{Meanings}
use Rattle.law_loose.specs.kr_core.kr_files.Files.{Counted, Table, empty_table, file_at, with_file}
use Rattle.law_loose.specs.kr_core.kr_files.declared.opened.Opened.{Opened}
use Rattle.law_loose.specs.kr_core.kr_files.declared.opened.What.{What}
use Rattle.law_loose.specs.kr_core.kr_files.declared.opened.What.TheVariants.{Err as ErrOpen, In, Out}
use Rattle.law_loose.specs.kr_view.View.{Row}
use Rattle.law_loose.specs.kr_model.Applied.{in_mount, open_in}
use Rattle.law_loose.specs.kr_model.State.{Image, Process, State, is_pid, with_descs, with_process}
use Rattle.law_loose.specs.kr_model.Walks.{and_then}
use Rattle.law_loose.specs.kr_core.kr_exec.Interpreters.{bytes_at}
use Rattle.law_loose.specs.kr_core.kr_exec.Lists.{at_least_one}
use Rattle.law_loose.specs.kr_core.kr_exec.declared.plan.ExecPlan.{ExecPlan}
use Rattle.law_loose.specs.kr_core.kr_start.Start.{First, console, first_pid, first_process, started, with_first}
use Rattle.law_loose.specs.kr_core.kr_first.Starting.{directory_at, exceeds, idle_state, plan_of, process_of, start_from, start_of, started_with}
use Rattle.law_loose.specs.kr_core.kr_first.declared.starting.First as asked
use Rattle.law_loose.specs.kr_loose.Marks.{HasNoMarks}
use Rattle.law_loose.proofs.kr_loose.LivingLemmas.{all-found}
use Rattle.law_loose.proofs.kr_loose.MarkCallLemmas.{programs-load-unmarked}
use Rattle.law_loose.proofs.kr_loose.kr_turns.pr_base.MapLemmas.{by_key, get-insert_other, get-insert_same}
use Rattle.law_loose.proofs.kr_loose.kr_turns.pr_base.TextLemmas.{some_is}
use Rattle.law_loose.specs.law_beside.Opened.{IsNode, StandOnNodes}
use Rattle.law_loosely.specs.Fresh.{IsFresh, StartsAreFresh}
use Rattle.law_loosely.proofs.DirectoryLemmas.{IfOnNode, OnNode, directory-node}

-- ---- what is open

-- nothing that is open has a place
abbrev AreUnplaced : Table ℕ → Type 0
AreUnplaced t = (n : ℕ) (o : Opened ℕ) → file_at t n ≡ Some o → o.place ≡ None

none-placed : AreUnplaced empty_table
none-placed n o e = absurd (none-some o (sym (ap (option_map (λ (h : Counted ℕ). h.opened)) (map.get-empty nat_cmp n)) ∙ e))

abbrev opened_of : Option (Counted ℕ) → Option (Opened ℕ)
opened_of x = option_map (λ (h : Counted ℕ). h.opened) x

filed : (o : Opened ℕ) (t : Table ℕ) → o.place ≡ None → AreUnplaced t → AreUnplaced (with_file o t)
filed o t own each =
    let counted : Counted ℕ = record { opened = o; count = 1 } in
    by_key (λ n. (x : Opened ℕ) → file_at (with_file o t) n ≡ Some x → x.place ≡ None) (t.last_file + 1)
    (λ x e. subst (λ (y : Opened ℕ). y.place ≡ None) (some_is o x (sym (ap opened_of (get-insert_same t.files (t.last_file + 1) counted)) ∙ e)) own)
    (λ n other x e. each n x (sym (ap opened_of (get-insert_other t.files (t.last_file + 1) counted n other)) ∙ e))

-- ---- processes

-- it stays at no call, no byte of it is marked, and it stands at an inode where its working directory is one
pub record Begins (host : Host) (p : Process ℕ Image) : Type 0 where
  pub go : p.waits ≡ false
  pub unmarked : HasNoMarks p.image.memory.pages
  pub stands : p.cwd.host ≡ host

module _ (host : Host) where
  either-begins : (b : Bool) (p q : Process ℕ Image) → Begins host p → Begins host q → Begins host (cond b p q)
  either-begins true p q one two = one
  either-begins false p q one two = two

  descs-begin : (pid : ℕ) (f : Meanings → Meanings) (ps : List (Process ℕ Image)) → AllByRecursion (Begins host) ps → AllByRecursion (Begins host) (with_process pid (with_descs f) ps)
  descs-begin pid f [] each = tt
  descs-begin pid f (p ∷ ps) each =
      (either-begins (p.pid == pid) (with_descs f p) p (record { go = each.0.go; unmarked = each.0.unmarked; stands = each.0.stands }) each.0, descs-begin pid f ps each.1)

  -- ---- the state

  record HasBegun (s : State ℕ Image) : Type 0 where
    pub out : s.out ≡ []
    pub err : s.err ≡ []
    pub each : AllByRecursion (Begins host) s.living
    pub unplaced : AreUnplaced s.files

  -- a part of the console comes
  opens : (pid fd m : ℕ) (what : What) (read write : Bool) (s : State ℕ Image) → HasBegun s → HasBegun (open_in pid fd false (console what read write) m s)
  opens pid fd m what read write s has = record {
    out = has.out;
    err = has.err;
    each = descs-begin pid (λ d. map.insert d fd (record { number = s.files.last_file + 1; cloexec = false })) s.living has.each;
    unplaced = filed (in_mount m (console what read write)) s.files refl has.unplaced;
  }

  begun : (first : First ℕ) (table : List Row) (tree : Tree) (user : User) (input : List ℕ) → Begins host (first_process first) → HasBegun (started first (idle_state table tree user input))
  begun first table tree user input own =
      let m : ℕ = first.cwd.mount in
      let one : State ℕ Image = with_first first (idle_state table tree user input) in
      let two : State ℕ Image = open_in first_pid 0 false (console In true false) m one in
      let three : State ℕ Image = open_in first_pid 1 false (console Out false true) m two in
      let has : HasBegun one = record { out = refl; err = refl; each = (own, tt); unplaced = none-placed } in
      opens first_pid 2 m ErrOpen false true three (opens first_pid 1 m Out false true two (opens first_pid 0 m In true false one has))

  -- ---- what follows of it

  goes : (ps : List (Process ℕ Image)) (pid : ℕ) → AllByRecursion (Begins host) ps → option_map_or (λ (p : Process ℕ Image). p.waits) (find (is_pid pid) ps) false ≡ false
  goes ps pid each = by (find (is_pid pid) ps) refl
    where
      by : (o : Option (Process ℕ Image)) → find (is_pid pid) ps ≡ o → option_map_or (λ (p : Process ℕ Image). p.waits) o false ≡ false
      by None is = refl
      by (Some p) is = (all-found (Begins host) (is_pid pid) ps p each is).go

  clear : (ps : List (Process ℕ Image)) → AllByRecursion (Begins host) ps → AllByRecursion (λ (p : Process ℕ Image). HasNoMarks p.image.memory.pages) ps
  clear [] each = tt
  clear (p ∷ ps) each = (each.0.unmarked, clear ps each.1)

  standing : IsNode host → (ps : List (Process ℕ Image)) → AllByRecursion (Begins host) ps → AllByRecursion (λ (p : Process ℕ Image). IsNode p.cwd.host) ps
  standing node [] each = tt
  standing node (p ∷ ps) each = (subst IsNode (sym each.0.stands) node, standing node ps each.1)

  fresh-of : (s : State ℕ Image) → HasBegun s → IsFresh s
  fresh-of s has = record { out = has.out; err = has.err; go = λ pid. goes s.living pid has.each; unmarked = clear s.living has.each }

  nodes-of : IsNode host → (s : State ℕ Image) → HasBegun s → StandOnNodes s
  nodes-of node s has = record {
    working = standing node s.living has.each;
    open_files = λ n o e. subst (λ (p : Option (Place ℕ)). IfSome p (λ q. IsNode q.host)) (sym (has.unplaced n o e)) tt;
  }

-- ---- a start that isn't refused

-- what holds of it
record HasBoth (s : State ℕ Image) : Type 0 where
  pub fresh : IsFresh s
  pub nodes : StandOnNodes s

module _ (table : List Row) (tree : Tree) (user : User) (input : List ℕ) (first : asked.First) (s : State ℕ Image) where
  with-program : (base : Place ℕ) (plan : ExecPlan ℕ) → OnNode base → started_with table tree user input first.ids base plan ≡ Ok s → HasBoth s
  with-program base plan node e = by (exceeds tree first.ids plan) e
    where
      has : HasBegun base.host (started (process_of tree first.ids base plan) (idle_state table tree user input))
      has =
          begun base.host (process_of tree first.ids base plan) table tree user input
          (record { go = refl; unmarked = programs-load-unmarked (bytes_at tree plan.place.host) plan.plan plan.args plan.env first.ids; stands = refl })

      both : HasBoth (started (process_of tree first.ids base plan) (idle_state table tree user input))
      both = record {
        fresh = fresh-of base.host (started (process_of tree first.ids base plan) (idle_state table tree user input)) has;
        nodes = nodes-of base.host node (started (process_of tree first.ids base plan) (idle_state table tree user input)) has;
      }

      by : (b : Bool) → cond b (Err ENOMEM) (Ok (started (process_of tree first.ids base plan) (idle_state table tree user input))) ≡ Ok s → HasBoth s
      by true e = absurd cc
      by false e = let same : started (process_of tree first.ids base plan) (idle_state table tree user input) ≡ s = cc in subst HasBoth same both

  from-base : (base : Place ℕ) → OnNode base → start_from table tree user input first base ≡ Ok s → HasBoth s
  from-base base node e = by (plan_of table tree user base first.path (at_least_one first.args) first.env) e
    where
      by : (r : Result (ExecPlan ℕ) Errno) → and_then r (started_with table tree user input first.ids base) ≡ Ok s → HasBoth s
      by (Err x) e = absurd cc
      by (Ok plan) e = with-program base plan node e

  begins : start_of table tree user input first ≡ Ok s → HasBoth s
  begins e = by (directory_at table tree user first.cwd) (directory-node table tree user first.cwd) e
    where
      by : (o : Option (Place ℕ)) → IfOnNode o → option_map_or (start_from table tree user input first) o (Err ENOENT) ≡ Ok s → HasBoth s
      by None node e = absurd cc
      by (Some base) node e = from-base base node e

pub starts_are_fresh : StartsAreFresh
starts_are_fresh = record {
  fresh = λ table tree user input first s e. (begins table tree user input first s e).fresh;
  nodes = λ table tree user input first s e unmet. (begins table tree user input first s e).nodes;
}
