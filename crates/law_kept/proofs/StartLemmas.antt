-- A start has bytes, and so have tables of mounts.
use Rattle.std.proofs.Common.{◌≡◌, ℕ, zero, suc, Bool, true, false, cond, List, [], ◌∷◌, length, refl, sym, ap, subst, ◌∙◌, Option, Some, None}
use Rattle.std.specs.FinMap as map
use Rattle.std.specs.Prelude.{◌==◌, Err, Ok, Result, bytes_eq}
use Rattle.std.specs.List.{position}
use Rattle.std.specs.Option.{option_and_then, option_map, option_map_or}
use Rattle.std.specs.Ordering.{nat_cmp}
use Rattle.std.proofs.lemmas.Bool.{false≢true}
use Rattle.std.proofs.lemmas.Option.{none-some}
use Rattle.std.proofs.lemmas.Slice.Eq.{bytes_eq-Decides}
use Rattle.kr_first.specs.pr_base.declared.errno.Errno.{Errno}
use Rattle.kr_first.specs.pr_base.declared.errno.Errno.TheVariants.{ENOENT, ENOMEM}
use Rattle.kr_first.specs.rv_mem.Pages.{HoldsBytes}
use Rattle.kr_first.specs.kr_inode.declared.user.User.{User}
use Rattle.kr_first.specs.kr_tree.Changes.{held}
use Rattle.kr_first.specs.kr_tree.Holds.{holds_at}
use Rattle.kr_first.specs.kr_tree.Lawful.{AreBytes, HasBytes as TreeHasBytes}
use Rattle.kr_first.specs.kr_tree.Tree.{Entry, Tree, entries, entry, entry_named}
use Rattle.kr_first.specs.kr_tree.declared.place.Host.{Host}
use Rattle.kr_first.specs.kr_tree.declared.place.Host.TheVariants.{Node, Proc}
use Rattle.kr_first.specs.kr_tree.declared.place.Place.{Place}
use Rattle.kr_first.specs.kr_tree.declared.place.ProcAt.{ProcAt}
use Rattle.kr_first.specs.kr_view.Answers.{told}
use Rattle.kr_first.specs.kr_view.Processes.{no_leads}
use Rattle.kr_first.specs.kr_view.View.{Point, Row, down, is_point, is_there, node_in, plain, plain_row, row, source, source_place, stands_at}
use Rattle.kr_first.specs.kr_mounts.Standing.{IsSettledIn, behind, led, next_by_name}
use Rattle.kr_first.proofs.kr_mounts.StandLemmas.{point_found}
use Rattle.kr_first.specs.kr_view.Walk.{PlaceTarget}
use Rattle.kr_first.specs.kr_exec.Exec.{exec_plan}
use Rattle.kr_first.specs.kr_exec.Finding.{program_at}
use Rattle.kr_first.specs.kr_exec.Interpreters.{bytes_at}
use Rattle.kr_first.specs.kr_exec.Lists.{at_least_one}
use Rattle.kr_first.specs.kr_exec.declared.plan.ExecPlan.{ExecPlan}
use Rattle.kr_first.specs.kr_files.Files.{Counted, empty_table}
use Rattle.kr_first.specs.kr_files.declared.opened.What.TheVariants.{Err as ErrOpen, In, Out}
use Rattle.kr_first.proofs.law_lawful.ProcessChangeLemmas.{found-passes}
use Rattle.kr_first.specs.kr_model.Applied.{open_in}
use Rattle.kr_first.specs.kr_model.State.{Image, State, inode_of}
use Rattle.kr_first.specs.kr_model.Walks.{and_then}
use Rattle.kr_first.specs.kr_start.Start.{First, console, first_pid, held_once, pinned, started, with_first, without_processes}
use Rattle.kr_first.specs.Starting.{around, directory_at, exceeds, found_from, idle_state, is_walked, path_errno, plan_of, process_of, start_from, start_of, started_with}
use Rattle.kr_first.specs.declared.starting.First as asked
use Rattle.law_kept.specs.Bytes.{AreAllBytes, FilesHaveBytes, HasBytes, TableHasBytes}
use Rattle.law_kept.specs.Starts.{BeginningsHaveBytes, StartsHaveBytes, TablesHaveBytes}
use Rattle.law_kept.proofs.ChangeLemmas.{open-bytes}
use Rattle.law_kept.proofs.ExecutionLemmas.{PlanHasBytes, plan-bytes, program-bytes, tree-bytes}
use Rattle.law_kept.proofs.ListLemmas.{all-found}
use Rattle.law_kept.proofs.LoadLemmas.{first-registers, image-holds}
use Rattle.law_kept.proofs.NameLemmas.{entries-bytes}
use Rattle.law_kept.proofs.SeenLemmas.{IsByteEntry, source-bytes}
use Rattle.law_kept.proofs.WalkLemmas.{LeadsByBytes}
use Rattle.law_kept.proofs.TreeLemmas.{once-more}

-- ---- trees

held-once-bytes : (i : ℕ) (t : Tree) → TreeHasBytes t → TreeHasBytes (held_once i t)
held-once-bytes i t has = by (holds_at t i == 0)
  where
    by : (b : Bool) → TreeHasBytes (cond b (held i t) t)
    by true = once-more i t has
    by false = has

pinned-bytes : (table : List Row) (t : Tree) → TreeHasBytes t → TreeHasBytes (pinned table t)
pinned-bytes [] t has = has
pinned-bytes (r ∷ rows) t has = pinned-bytes rows (held_once r.source t) (held-once-bytes r.source t has)

-- ---- the state

module _ {M : Type 0} where
  no-files : FilesHaveBytes {M = M} empty_table
  no-files = record { names = λ n o e. absurd (none-some o (sym (ap (option_map (λ (h : Counted M). h.opened)) (map.get-empty nat_cmp n)) ∙ e)); pipes = λ p bytes e. absurd (none-some bytes (sym (map.get-empty nat_cmp p) ∙ e)) }

  idle-bytes : (table : List Row) (tree : Tree) (user : User) (input : List ℕ) → TreeHasBytes tree → AreBytes input → HasBytes {M = M} (without_processes (pinned table tree) user input)
  idle-bytes table tree user input has are = record { tree = pinned-bytes table tree has; processes = tt; files = no-files; input = are }

  first-bytes : (first : First M) (s : State M Image) → HoldsBytes first.image.memory.pages → length first.image.regs.x ≡ 32 → AreBytes first.exe_name → HasBytes s → HasBytes (with_first first s)
  first-bytes first s holds count are has = record {
    tree = once-more (inode_of first.exe.host) (held (inode_of first.cwd.host) s.tree) (once-more (inode_of first.cwd.host) s.tree has.tree);
    processes = (record { memory = holds; registers = count; exe_name = are }, tt);
    files = has.files;
    input = has.input;
  }

  started-bytes : (first : First M) (s : State M Image) → HoldsBytes first.image.memory.pages → length first.image.regs.x ≡ 32 → AreBytes first.exe_name → HasBytes s → HasBytes (started first s)
  started-bytes first s holds count are has =
      let m : M = first.cwd.mount in
      let one : State M Image = with_first first s in
      let two : State M Image = open_in first_pid 0 false (console In true false) m one in
      let three : State M Image = open_in first_pid 1 false (console Out false true) m two in
      open-bytes first_pid 2 false (console ErrOpen false true) three tt
      (open-bytes first_pid 1 false (console Out false true) two tt (open-bytes first_pid 0 false (console In true false) one tt (first-bytes first s holds count are has) m) m) m

pub starts-have-bytes : (M : Type 0) → StartsHaveBytes M
starts-have-bytes M = record { idle = idle-bytes; begun = started-bytes }

-- ---- tables of mounts

plain-bytes : TableHasBytes plain
plain-bytes = record { locations = at; sources = kind }
  where
    at : (k : ℕ) (r : Row) → row plain k ≡ Some r → AreAllBytes r.text.location
    at zero r e = let own : plain_row ≡ r = cc in subst (λ (r : Row). AreAllBytes r.text.location) own tt
    at (suc k) r e = absurd cc

    kind : (k : ℕ) (r : Row) → row plain k ≡ Some r → r.is_dir ≡ false → AreBytes r.source_name
    kind zero r e file = let own : plain_row ≡ r = cc in absurd (false≢true (sym file ∙ sym (ap (λ (r : Row). r.is_dir) own)))
    kind (suc k) r e file = absurd cc

-- the name of an entry that is there
pub entry-named : (t : Tree) (dir : ℕ) (name : List ℕ) (i : ℕ) → TreeHasBytes t → entry t dir name ≡ Some i → AreBytes name
entry-named t dir name i has is = by (entry_named name (entries t dir)) refl is
  where
    by : (o : Option Entry) → entry_named name (entries t dir) ≡ o → option_map (λ (e : Entry). e.inode) o ≡ Some i → AreBytes name
    by None found is = absurd cc
    by (Some e) found is =
        let same : name ≡ e.name = (bytes_eq-Decides name e.name).0 (found-passes (λ (e : Entry). bytes_eq name e.name) (entries t dir) e found) in
        subst AreBytes (sym same) (all-found (λ (e : Entry). AreBytes e.name) (λ (e : Entry). bytes_eq name e.name) (entries t dir) e (entries-bytes t has dir) found)

some-there : {A : Type 0} (o : Option A) → is_there o ≡ true → (x : A) × (o ≡ Some x)
some-there None is = absurd cc
some-there (Some x) is = (x, refl)

module _ (t : Tree) (user : User) (table : List Row) (has : TreeHasBytes t) (settled : IsSettledIn t user table) where
  -- a name at which a mount stands
  pointed-bytes : (mount dir : ℕ) (name : List ℕ) (k : ℕ) → position (stands_at (is_point mount dir name)) table ≡ Some k → AreBytes name
  pointed-bytes mount dir name k is =
      let found = point_found table mount dir name k is in
      let p : Point = record { mount = mount; dir = dir; name = name } in
      let there = some-there (entry t dir name) (settled.stands.points k found.0 p found.1 found.2).there in
      entry-named t dir name there.0 has there.1

  -- a name that leads on
  led-bytes : (mount dir : ℕ) (name : List ℕ) (q : Place ℕ) → behind mount (entry t dir name) (down table mount dir name) ≡ Some q → AreBytes name
  led-bytes mount dir name q is = by (position (stands_at (is_point mount dir name)) table) refl is
    where
      entered : (o : Option ℕ) → entry t dir name ≡ o → option_map (node_in mount) o ≡ Some q → AreBytes name
      entered None e is = absurd cc
      entered (Some i) e is = entry-named t dir name i has e

      by : (o : Option ℕ) → position (stands_at (is_point mount dir name)) table ≡ o → behind mount (entry t dir name) (option_and_then (source_place table) o) ≡ Some q → AreBytes name
      by None at is = entered (entry t dir name) refl is
      by (Some k) at is = pointed-bytes mount dir name k at

  host-led-bytes : (mount : ℕ) (h : Host) (name : List ℕ) (q : Place ℕ) → next_by_name table t name mount h ≡ Some q → AreBytes name
  host-led-bytes mount (Node dir) name q is = led-bytes mount dir name q is
  host-led-bytes mount (Proc i at) name q is = absurd cc

  -- names that lead somewhere
  text-led-bytes : (text : List (List ℕ)) (q : Place ℕ) → led table t text ≡ Some q → AreAllBytes text
  text-led-bytes [] q is = tt
  text-led-bytes (name ∷ text) q is = by (led table t text) (text-led-bytes text) is
    where
      by : (o : Option (Place ℕ)) → ((p : Place ℕ) → o ≡ Some p → AreAllBytes text) → option_and_then (λ (p : Place ℕ). next_by_name table t name p.mount p.host) o ≡ Some q → AreAllBytes (name ∷ text)
      by None rest is = absurd cc
      by (Some p) rest is = (host-led-bytes p.mount p.host name q is, rest p refl)

  settled-bytes : TableHasBytes table
  settled-bytes = record {
    locations = λ k r at. text-led-bytes r.text.location (node_in k r.source) (settled.leads k r at);
    sources = λ k r at kind. entry-named t r.source_dir r.source_name r.source has (settled.as_settled.entered k r at kind);
  }

pub tables-have-bytes : TablesHaveBytes
tables-have-bytes = record { plain_view = plain-bytes; settled = settled-bytes }

-- ---- a start that isn't refused

module _ (table : List Row) (tree : Tree) (user : User) (input : List ℕ) (first : asked.First) (s : State ℕ Image) (are : TableHasBytes table) (has : TreeHasBytes tree) (input_are : AreBytes input)
    (path_are : AreBytes first.path) (args_are : AreAllBytes first.args) (env_are : AreAllBytes first.env) where
  leads : (at : ProcAt) → LeadsByBytes (no_leads at)
  leads at = tt

  sources : (mount : ℕ) → IsByteEntry (source table mount)
  sources = source-bytes table are

  with-program : (base : Place ℕ) (plan : ExecPlan ℕ) → PlanHasBytes plan → started_with table tree user input first.ids base plan ≡ Ok s → HasBytes s
  with-program base plan own e = by (exceeds tree first.ids plan) e
    where
      begun : HasBytes (started (process_of tree first.ids base plan) (idle_state table tree user input))
      begun =
          started-bytes (process_of tree first.ids base plan) (idle_state table tree user input)
          (image-holds (bytes_at tree plan.place.host) plan.plan plan.args plan.env first.ids (tree-bytes tree has plan.place.host) own.args own.env) (first-registers plan.plan plan.args plan.env) own.name (idle-bytes table tree user input has input_are)

      by : (b : Bool) → cond b (Err ENOMEM) (Ok (started (process_of tree first.ids base plan) (idle_state table tree user input))) ≡ Ok s → HasBytes s
      by true e = absurd cc
      by false e = let same : started (process_of tree first.ids base plan) (idle_state table tree user input) ≡ s = cc in subst (λ (s : State ℕ Image). HasBytes s) same begun

  one-given : AreAllBytes (at_least_one first.args)
  one-given = by first.args args_are
    where
      by : (texts : List (List ℕ)) → AreAllBytes texts → AreAllBytes (at_least_one texts)
      by [] own = (tt, tt)
      by (text ∷ texts) own = own

  found-named : (base : Place ℕ) (w : PlaceTarget) → found_from table tree user base first.path ≡ Ok w → AreBytes w.name
  found-named base w e = by (is_walked first.path) e
    where
      by : (b : Bool) → cond b (program_at (around table tree user) base first.path) (Err (path_errno first.path)) ≡ Ok w → AreBytes w.name
      by true e = program-bytes (around table tree user) base has leads sources first.path w path_are e
      by false e = absurd cc

  planned : (base : Place ℕ) (plan : ExecPlan ℕ) → plan_of table tree user base first.path (at_least_one first.args) first.env ≡ Ok plan → PlanHasBytes plan
  planned base plan e = by (found_from table tree user base first.path) refl e
    where
      by : (r : Result PlaceTarget Errno) → found_from table tree user base first.path ≡ r
          → and_then r (λ target. exec_plan (around table tree user) base (told target) first.path (at_least_one first.args) first.env) ≡ Ok plan → PlanHasBytes plan
      by (Err why) is e = absurd cc
      by (Ok w) is e = plan-bytes (around table tree user) base has leads sources (told w) first.path (at_least_one first.args) first.env plan (found-named base w is) path_are one-given env_are e

  from-base : (base : Place ℕ) → start_from table tree user input first base ≡ Ok s → HasBytes s
  from-base base e = by (plan_of table tree user base first.path (at_least_one first.args) first.env) refl e
    where
      by : (r : Result (ExecPlan ℕ) Errno) → plan_of table tree user base first.path (at_least_one first.args) first.env ≡ r → and_then r (started_with table tree user input first.ids base) ≡ Ok s → HasBytes s
      by (Err why) is e = absurd cc
      by (Ok plan) is e = with-program base plan (planned base plan is) e

  begins : start_of table tree user input first ≡ Ok s → HasBytes s
  begins e = by (directory_at table tree user first.cwd) e
    where
      by : (o : Option (Place ℕ)) → option_map_or (start_from table tree user input first) o (Err ENOENT) ≡ Ok s → HasBytes s
      by None e = absurd cc
      by (Some base) e = from-base base e

pub beginnings-have-bytes : BeginningsHaveBytes
beginnings-have-bytes table tree user input first s are has input_are path_are args_are env_are e = begins table tree user input first s are has input_are path_are args_are env_are e
