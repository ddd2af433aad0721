-- Which rule is broken is told by its parts.
use Rattle.std.specs.FinMap as map
use Rattle.std.proofs.Common.{◌≡◌, ℕ, zero, suc, Bool, true, false, cond, ◌||◌, List, [], ◌∷◌, Option, Some, None, refl, sym, ap, ◌∙◌, arith}
use Rattle.std.specs.Prelude.{Result, Ok, Err, nat_eq, map as map_list}
use Rattle.std.specs.Bool.{if◌then◌else◌}
use Rattle.std.specs.List.{list_any}
use Rattle.std.specs.Option.{option_and_then, option_map, option_map_or}
use Rattle.kr_hostview.specs.pr_base.declared.errno.Errno.{Errno}
use Rattle.kr_steps.specs.rv_mem.Actions.{CarriedOut, carried_out}
use Rattle.kr_steps.specs.rv_mem.Memory.{Memory}
use Rattle.kr_execve.specs.kr_calls.declared.request.Request.{Request}
use Rattle.kr_execve.specs.kr_calls.declared.request.Request.TheVariants as call
use Rattle.kr_execve.specs.kr_tree.Lawful.{IsKept}
use Rattle.kr_execve.specs.kr_tree.Tree.{Inode, Tree, inode, is_listed}
use Rattle.kr_execve.specs.kr_tree.declared.place.Host.{Host}
use Rattle.kr_execve.specs.kr_tree.declared.place.Place.{Place}
use Rattle.kr_execve.specs.kr_view.Leads.{numbered}
use Rattle.kr_execve.specs.kr_view.declared.target.Reach.{Reach}
use Rattle.kr_execve.specs.kr_view.View.{Row, StandsIn}
use Rattle.kr_hostview.specs.kr_files.declared.opened.Opened.{Opened}
use Rattle.kr_hostview.specs.kr_files.Descriptors.{Meanings, Named}
use Rattle.kr_hostview.specs.kr_files.Files.{Table, file_at}
use Rattle.kr_steps.specs.kr_model.Applied.{Mounts, images}
use Rattle.kr_steps.specs.kr_model.Change.{Change, End}
use Rattle.kr_steps.specs.kr_model.FileRows.{is_dir}
use Rattle.kr_steps.specs.kr_model.Known.{Known, known}
use Rattle.kr_steps.specs.kr_model.Operation.{operation}
use Rattle.kr_steps.specs.kr_model.Reply.{Reply, Replying, refusal}
use Rattle.kr_steps.specs.kr_model.State.{Image, Process, State, image_layout}
use Rattle.kr_steps.specs.kr_model.Walks.{Targets, seen_of, targets_of}
use Rattle.kr_hostview.specs.kr_ops.declared.state.State.{State as Kept}
use Rattle.kr_hostview.specs.kr_ops.Meaning.{meaning}
use Rattle.kr_calm.specs.kr_seen.Numbered.{opened_numbered, process_numbered, state_numbered, table_numbered}
use Rattle.kr_calm.proofs.kr_seen.TableLemmas.{file-numbered}
use Rattle.kr_calm.specs.kr_seen.Carrying.{memory_of, with_memory_of}
use Rattle.kr_steps.specs.law_allowed.Told.{mounts_walked}
use Rattle.kr_calm.specs.kr_seen.CallWalks.{call_reach}
use Rattle.kr_steps.proofs.ComputingLemmas.{walk-refuses}
use Rattle.kr_calm.specs.Calm.{Asked, Course, asked_breaks_2, broken_by, kept}
use Rattle.kr_calm.specs.InUse.{any_opened_below, is_directory_of, is_in_use, open_directory, passes_at, process_uses}
use Rattle.kr_calm.specs.Questions.{HaveRealPoints}
use Rattle.kr_calm.specs.Rules.{breaks_1, breaks_2, changes_break_3, changes_break_4, changes_break_5}
use Rattle.kr_execve.specs.Execution.{Program, changes_of}
use Rattle.kr_turns.specs.Breaking.{asked_of, changed_rule, ending_rule, idle_rule, killed_rule, last_rule, no_mounts, nothing_reached, operated_rule, rule_of, rule_told}
use Rattle.kr_turns.specs.PlainCall.{row_on}
use Rattle.kr_turns.specs.Turn.{killed}
use Rattle.kr_turns.proofs.NumberLemmas.{memory-numbered}
use Rattle.kr_calm.specs.declared.rule.Rule.{Rule}
use Rattle.kr_calm.specs.declared.rule.Rule.TheVariants.{SearchStays, SourcesStay, Unread, UsedStay, WithinMounts}

-- ---- by parts

-- the first of three, or what comes behind them
parts : (a b c : Bool) (last : Option Rule) → cond a (Some SourcesStay) (cond b (Some UsedStay) (cond c (Some SearchStays) last)) ≡ kept (cond a (Some SourcesStay) (cond b (Some UsedStay) (cond c (Some SearchStays) None))) last
parts true b c last = refl
parts false true c last = refl
parts false false true last = refl
parts false false false last = refl

pub told-by-parts : (marks : ℕ) (table : List Row) (c : Course)
    → broken_by marks table c ≡ rule_told marks (breaks_1 c.memory c.no_shelf) (option_map_or (asked_breaks_2 table c) c.asked false) (changed_rule table c) c.reach
told-by-parts marks table c =
    ap (λ (last : Option Rule). if nat_eq marks 0 then None else if breaks_1 c.memory c.no_shelf then Some Unread else if option_map_or (asked_breaks_2 table c) c.asked false then Some WithinMounts else last)
    (parts (changes_break_3 images c.mounts c.pid table c.changes c.state) (changes_break_4 images c.mounts c.pid c.changes c.state) (changes_break_5 images c.mounts c.pid table c.changes c.state) (last_rule c.reach))

-- ---- where nothing was changed

module _ (marks : ℕ) (table : List Row) (pid : ℕ) (no_shelf : Bool) where
  pub idle-told : (s : State ℕ Image) (m : Memory) (mounts : Mounts ℕ) (reach : Reach) → rule_of marks table pid no_shelf s m None mounts [] reach ≡ rule_told marks (m.read_marked || no_shelf) false None reach
  idle-told s m mounts reach =
      told-by-parts marks table (record { pid = pid; state = s; memory = m; no_shelf = no_shelf; asked = None; mounts = mounts; changes = []; reach = reach })

  -- a walk that fails breaks no rule on where paths lead
  failed-2 : (tree : Tree) (r : Request) (t : Result Targets Errno) (e : Errno) → t ≡ Err e → breaks_2 table tree r t ≡ false
  failed-2 tree r t e is = ap (breaks_2 table tree r) is

  -- nor does an execve
  exec-2 : (tree : Tree) (path : List ℕ) (args env : ℕ) (t : Result Targets Errno) → breaks_2 table tree (call.Execve path args env) t ≡ false
  exec-2 tree path args env (Ok t) = refl
  exec-2 tree path args env (Err e) = refl

  pub asked-told : (s : State ℕ Image) (m : Memory) (a : Asked) (mounts : Mounts ℕ) (cs : List Change) (reach : Reach) → breaks_2 table s.tree a.request a.targets ≡ false
      → changed_rule table (record { pid = pid; state = s; memory = m; no_shelf = no_shelf; asked = Some a; mounts = mounts; changes = cs; reach = reach }) ≡ None
      → rule_of marks table pid no_shelf s m (Some a) mounts cs reach ≡ rule_told marks (m.read_marked || no_shelf) false None reach
  asked-told s m a mounts cs reach second changed =
      told-by-parts marks table (record { pid = pid; state = s; memory = m; no_shelf = no_shelf; asked = Some a; mounts = mounts; changes = cs; reach = reach })
      ∙ (λ i. rule_told marks (m.read_marked || no_shelf) (second i) (changed i) reach)

  -- the changes of an execve take nothing away, and shut nothing
  exec-changed : (s : State ℕ Image) (m : Memory) (a : Asked) (mounts : Mounts ℕ) (r : Result Program Errno) (reach : Reach)
      → changed_rule table (record { pid = pid; state = s; memory = m; no_shelf = no_shelf; asked = Some a; mounts = mounts; changes = changes_of r; reach = reach }) ≡ None
  exec-changed s m a mounts (Ok p) reach = refl
  exec-changed s m a mounts (Err e) reach = refl

  pub exec-told : (s t : State ℕ Image) (m : Memory) (path : List ℕ) (args env : ℕ) (mounts : Mounts ℕ) (r : Result Program Errno) (reach : Reach)
      → rule_of marks table pid no_shelf s m (Some (asked_of marks table pid no_shelf (call.Execve path args env) t)) mounts (changes_of r) reach ≡ rule_told marks (m.read_marked || no_shelf) false None reach
  exec-told s t m path args env mounts r reach =
      let a = asked_of marks table pid no_shelf (call.Execve path args env) t in
      asked-told s m a mounts (changes_of r) reach (exec-2 s.tree path args env (targets_of table pid t (call.Execve path args env))) (exec-changed s m a mounts r reach)

  -- a call whose walk fails is refused, and changes nothing
  module _ (s : State ℕ Image) (r : Request) (e : Errno) (fails : targets_of table pid s r ≡ Err e) where
    row-refused : row_on table pid r s ≡ record { reply = refusal e; memory = memory_of pid s }
    row-refused =
        let k : Known = known image_layout pid s in
        ap (λ (row : Replying). carried_out row (memory_of pid s)) (ap (λ (t : Result Targets Errno). operation pid r (seen_of table pid s r t) k) fails ∙ walk-refuses table pid s k r e fails)

    pub refused-told : (reach : Reach) → reach ≡ call_reach table pid s r nothing_reached
        → rule_told marks ((memory_of pid s).read_marked || no_shelf) false None reach ≡ operated_rule marks table pid no_shelf r s
    refused-told reach reaches =
        let a = asked_of marks table pid no_shelf r s in
        let mounts = mounts_walked (targets_of table pid s r) in
        ap (rule_told marks ((memory_of pid s).read_marked || no_shelf) false None) reaches
        ∙ sym
        (ap (λ (d : CarriedOut Reply). rule_of marks table pid no_shelf (with_memory_of pid d.memory s) d.memory (Some a) mounts d.reply.changes (call_reach table pid s r nothing_reached)) row-refused
        ∙ asked-told (with_memory_of pid (memory_of pid s) s) (memory_of pid s) a mounts [] (call_reach table pid s r nothing_reached) (failed-2 s.tree r (targets_of table pid s r) e fails) refl)

-- ---- a death

or-false : (b : Bool) → (b || false) ≡ b
or-false true = refl
or-false false = refl

module _ {T : Type 0} (number : T → ℕ) (test : Host → Bool) where
  open-numbered : (o : Opened T) → open_directory test (opened_numbered number o) ≡ open_directory test o
  open-numbered o = by (is_dir o.what) o.place
    where
      by : (b : Bool) (p : Option (Place T)) → option_map_or test (cond b (option_map (λ (q : Place ℕ). q.host) (option_map (numbered number) p)) None) false ≡ option_map_or test (cond b (option_map (λ (q : Place T). q.host) p) None) false
      by true None = refl
      by true (Some p) = refl
      by false p = refl

  or-none : (o : Option (Opened T)) → option_map_or (open_directory test) (option_map (opened_numbered number) o) false ≡ option_map_or (open_directory test) o false
  or-none None = refl
  or-none (Some o) = open-numbered o

  passes-numbered : (files : Table T) (d : Meanings) (fd : ℕ) → passes_at (open_directory test) (table_numbered number files) d fd ≡ passes_at (open_directory test) files d fd
  passes-numbered files d fd = by (map.get d fd)
    where
      by : (o : Option Named)
          → option_map_or (open_directory test) (option_and_then (λ (x : Named). file_at (table_numbered number files) x.number) o) false
          ≡ option_map_or (open_directory test) (option_and_then (λ (x : Named). file_at files x.number) o) false
      by None = refl
      by (Some x) = ap (λ (o : Option (Opened ℕ)). option_map_or (open_directory test) o false) (file-numbered number files x.number) ∙ or-none (file_at files x.number)

  any-numbered : (files : Table T) (d : Meanings) (count : ℕ) → any_opened_below count (open_directory test) (table_numbered number files) d ≡ any_opened_below count (open_directory test) files d
  unfolding any_opened_below
  any-numbered files d zero = refl
  any-numbered files d (suc fd) = λ i. any-numbered files d fd i || passes-numbered files d fd i

  all-numbered : {X : Type 0} (files : Table T) (ps : List (Process T X)) → list_any (process_uses test (table_numbered number files)) (map_list (process_numbered number) ps) ≡ list_any (process_uses test files) ps
  all-numbered files [] = refl
  all-numbered files (p ∷ ps) = λ i. (test p.cwd.host || any-numbered files p.descs 1024 i) || all-numbered files ps i

  -- what is in use is so of the state with numbers
  pub in-use-numbered : {X : Type 0} (s : State T X) → is_in_use test (state_numbered number s) ≡ is_in_use test s
  in-use-numbered s = all-numbered s.files s.living

pub killed-told : (marks : ℕ) (table : List Row) (pid signal : ℕ) (s after : State ℕ Image) → after ≡ killed pid signal s
    → killed_rule marks table pid signal s ≡ rule_told marks ((memory_of pid s).read_marked || false) false (ending_rule pid after) nothing_reached
killed-told marks table pid signal s after is =
    told-by-parts marks table (record { pid = pid; state = s; memory = memory_of pid s; no_shelf = false; asked = None; mounts = no_mounts; changes = End signal ∷ []; reach = nothing_reached })
    ∙ ap (λ (b : Bool). rule_told marks ((memory_of pid s).read_marked || false) false (cond b (Some UsedStay) None) nothing_reached)
    (or-false (is_in_use (is_directory_of pid) (killed pid signal s)) ∙ ap (λ (t : State ℕ Image). is_in_use (is_directory_of pid) t) (sym is))

-- ---- in code

module _ {T : Type 0} {M : ℕ} (number : T → ℕ) (table : List Row) (pid : ℕ) where
  pub idle-here : (no_shelf : Bool) (s : Kept T M) → rule_told M ((memory_of pid (meaning s)).read_marked || no_shelf) false None nothing_reached ≡ idle_rule M table pid no_shelf (state_numbered number (meaning s))
  idle-here no_shelf s =
      ap (λ (m : Memory). rule_told M (m.read_marked || no_shelf) false None nothing_reached) (sym (memory-numbered number pid (meaning s)))
      ∙ sym (idle-told M table pid no_shelf (state_numbered number (meaning s)) (memory_of pid (state_numbered number (meaning s))) no_mounts nothing_reached)

  pub killed-here : (signal : ℕ) (mid new : Kept T M) (read : Bool) → read ≡ (memory_of pid (meaning mid)).read_marked
      → state_numbered number (meaning new) ≡ killed pid signal (state_numbered number (meaning mid))
      → rule_told M (read || false) false (ending_rule pid (meaning new)) nothing_reached ≡ killed_rule M table pid signal (state_numbered number (meaning mid))
  killed-here signal mid new read read-is is =
      let shown = state_numbered number (meaning mid) in
      let marks : read ≡ (memory_of pid shown).read_marked = read-is ∙ ap (λ (m : Memory). m.read_marked) (sym (memory-numbered number pid (meaning mid))) in
      let ending : ending_rule pid (meaning new) ≡ ending_rule pid (state_numbered number (meaning new)) =
      ap (λ (b : Bool). cond b (Some UsedStay) None) (sym (in-use-numbered number (is_directory_of pid) (meaning new)))
      in
      (λ i. rule_told M (marks i || false) false (ending i) nothing_reached) ∙ sym (killed-told M table pid signal shown (state_numbered number (meaning new)) is)

-- ---- mount points stand in directories

pub real-points : (t : Tree) (table : List Row) → IsKept t → StandsIn t table → HaveRealPoints table
real-points t table keeps stands = λ k r there p pointed none. by p.dir (inode t p.dir) refl (stands.points k r p there pointed).listed none
  where
    by : (dir : ℕ) (o : Option Inode) → inode t dir ≡ o → option_map_or (λ (x : Inode). is_listed x.node.body) o false ≡ true → dir ≡ 0 → ⊥
    by dir None e h none = absurd cc
    by dir (Some x) e h none = let above = (keeps.sound.numbered dir x e).0 in omega arith
