-- What the links of the process directory lead to in a lawful state.
use Rattle.std.specs.FinMap as map
use Rattle.std.proofs.Common.{◌≡◌, ◌≢◌, ℕ, suc, ◌≤◌, ◌<◌, ◌^◌, Bool, true, false, cond, List, [], ◌∷◌, Option, Some, None, refl, sym, ap, subst, ◌∙◌, arith}
use Rattle.std.specs.Prelude.{map as map_list, ◌==◌}
use Rattle.std.specs.List.{find}
use Rattle.std.specs.Bool.{if◌then◌else◌}
use Rattle.std.specs.Option.{option_map, option_map_or, option_and_then}
use Rattle.std.proofs.lemmas.Bool.{false≢true}
use Rattle.std.proofs.lemmas.Option.{same_Some, none-some}
use Rattle.kr_ops.specs.pr_base.Paths.{IsName}
use Rattle.kr_ops.specs.kr_tree.Tree.{Tree, Inode, inode, Body, Directory, RegularFile, SymbolicLink, ProcessDirectory, body, body_is, is_directory, is_file}
use Rattle.kr_ops.specs.kr_tree.declared.place.Host.{Host}
use Rattle.kr_ops.specs.kr_tree.declared.place.Host.TheVariants.{Node, Proc}
use Rattle.kr_ops.specs.kr_tree.declared.place.Place.{Place}
use Rattle.kr_ops.specs.kr_tree.declared.place.ProcAt.{ProcAt}
use Rattle.kr_ops.specs.kr_tree.declared.place.ProcAt.TheVariants.{SelfLink, Dir, Cwd, Root, Exe, FdDir, Fd}
use Rattle.kr_ops.specs.kr_view.declared.procs.Lead.TheVariants.{Text, Jump, Nameless}
use Rattle.kr_ops.specs.kr_view.Component.{Namespace, is_directory_at}
use Rattle.kr_ops.specs.kr_view.InTree.{IsPlaceOf, LeadToPlaces}
use Rattle.kr_ops.specs.kr_view.Leads.{numbered, lead_numbered}
use Rattle.kr_ops.specs.kr_view.Living.{Each, IsSmall, HasSmallNumbers}
use Rattle.kr_ops.specs.kr_view.Names.{guest_name}
use Rattle.kr_ops.specs.kr_view.Processes.{LawsOfProcesses}
use Rattle.kr_ops.specs.kr_view.View.{Row, StandsIn, is_there, root_place}
use Rattle.kr_ops.proofs.kr_view.LivingLemmas.{living_processes}
use Rattle.kr_ops.specs.kr_files.declared.opened.Opened.{Opened}
use Rattle.kr_ops.specs.kr_files.Descriptors.{Named}
use Rattle.kr_ops.specs.kr_files.Files.{file_at}
use Rattle.kr_ops.specs.kr_model.FileRows.{is_dir, is_file_open}
use Rattle.kr_ops.specs.kr_model.Lawful.{ArePids, IsLawful, IsOpenIn, RiseFrom, is_file_at}
use Rattle.kr_ops.specs.kr_model.ProcessDirectory.{living_of, remembered}
use Rattle.kr_ops.specs.kr_model.State.{Image, Process, State, is_pid, named, opened, process}
use Rattle.kr_ops.proofs.ListLemmas.{same-test, apart-test}
use Rattle.kr_seen.specs.Laws.{LawfulAreShown}
use Rattle.kr_seen.specs.Shown.{Shown, Target, Nothing, Unplaced, At, cwd_target, exe_target, opened_target, finds_in, lead_to, leads_in, space_in, target_in}
use Rattle.kr_seen.specs.Standing.{IsNameable, IsStanding, MayBeNamed}
use Rattle.kr_seen.proofs.FindLemmas.{found-pid, keys-small}
use Rattle.kr_seen.proofs.NumberedLemmas.{to_living}

-- ---- kinds of objects

directory-named : (t : Tree) (h : Host) → is_directory_at t h ≡ true → MayBeNamed h
directory-named t (Node i) d = tt
directory-named t (Proc i at) d = d

file-named : (t : Tree) (h : Host) → is_file_at t h ≡ true → MayBeNamed h
file-named t (Node i) f = tt
file-named t (Proc i at) f = absurd (false≢true f)

file-no-directory : (t : Tree) (h : Host) → is_file_at t h ≡ true → is_directory_at t h ≡ false
file-no-directory t (Proc i at) f = absurd (false≢true f)
file-no-directory t (Node i) f = by (inode t i) f
  where
    kind : (b : Body) → is_file b ≡ true → is_directory b ≡ false
    kind (Directory entries standing) h = absurd (false≢true h)
    kind (RegularFile bytes) h = refl
    kind (SymbolicLink text) h = absurd (false≢true h)
    kind (ProcessDirectory standing) h = absurd (false≢true h)

    by : (o : Option Inode) → option_map_or (λ (x : Inode). is_file x.node.body) o false ≡ true → option_map_or (λ (x : Inode). is_directory x.node.body) o false ≡ false
    by None h = refl
    by (Some x) h = kind x.node.body h

directory-there : (t : Tree) (i : ℕ) (b : Bool) → option_map is_directory (body t i) ≡ Some b → is_there (inode t i) ≡ true
directory-there t i b h = by (inode t i) h
  where
    by : (o : Option Inode) → option_map is_directory (option_map (λ (x : Inode). x.node.body) o) ≡ Some b → is_there o ≡ true
    by None h = absurd (none-some b h)
    by (Some x) h = refl

directory-is : (t : Tree) (i : ℕ) → option_map is_directory (body t i) ≡ Some true → body_is is_directory t i ≡ true
directory-is t i h = by (inode t i) h
  where
    by : (o : Option Inode) → option_map is_directory (option_map (λ (x : Inode). x.node.body) o) ≡ Some true → option_map_or (λ (x : Inode). is_directory x.node.body) o false ≡ true
    by None h = absurd (none-some true h)
    by (Some x) h = same_Some (is_directory x.node.body) true h

root-stands : (t : Tree) (table : List Row) → StandsIn t table → IsPlaceOf t table (root_place table) × (is_directory_at t (root_place table).host ≡ true)
root-stands t [] stands = absurd (none-some stands.rooted.0 stands.rooted.1)
root-stands t (r ∷ rows) stands =
    let own : r ≡ stands.rooted.0 = same_Some r stands.rooted.0 stands.rooted.1 in
    let kind : option_map is_directory (body t r.source) ≡ Some true = stands.sources 0 r refl ∙ ap Some (ap (λ (q : Row). q.is_dir) own ∙ stands.rooted.2) in
    (record { mounted = refl; object = directory-there t r.source true kind }, directory-is t r.source kind)

-- ---- numbers of processes and descriptors

small-each : (ks : List ℕ) → Each (λ k. k < 1024) ks → Each IsSmall ks
small-each [] h = tt
small-each (k ∷ ks) h = (let low = h.0 in omega arith, small-each ks h.1)

module _ {T : Type 0} where
  shown-process : (p : Process T Image) → p.pid < 2 ^ 32 → ((q : ℕ) (x : Named) → map.get p.descs q ≡ Some x → q < 1024) → HasSmallNumbers (to_living p)
  shown-process p low small = (low, small-each _ (keys-small p.descs small))

  shown-small : (low next : ℕ) (ps : List (Process T Image)) → next ≤ 2 ^ 32 → RiseFrom low next (map_list (λ p. p.pid) ps)
      → Each (λ (p : Process T Image). (q : ℕ) (x : Named) → map.get p.descs q ≡ Some x → q < 1024) ps → Each HasSmallNumbers (map_list to_living ps)
  shown-small low next [] few rise small = tt
  shown-small low next (p ∷ ps) few rise small =
      let below = rise.1 in (shown-process p (omega arith) small.0, shown-small (suc p.pid) next ps few rise.2 small.1)

  module _ (P : Process T Image → Type 0) where
    found-above : (low next pid : ℕ) (ps : List (Process T Image)) (q : Process T Image) → RiseFrom low next (map_list (λ p. p.pid) ps) → find (is_pid pid) ps ≡ Some q → low ≤ q.pid
    found-above low next pid [] q rise e = absurd (none-some q e)
    found-above low next pid (p ∷ ps) q rise e = by (p.pid == pid) e (λ e. found-above (suc p.pid) next pid ps q rise.2 e)
      where
        by : (b : Bool) → cond b (Some p) (find (is_pid pid) ps) ≡ Some q → (find (is_pid pid) ps ≡ Some q → suc p.pid ≤ q.pid) → low ≤ q.pid
        by true e rest = subst (λ (x : Process T Image). low ≤ x.pid) (same_Some p q e) rise.0
        by false e rest = let above = rest e in let first = rise.0 in omega arith

    -- what holds of each process that is found holds of each
    each-process : (low next : ℕ) (ps : List (Process T Image)) → RiseFrom low next (map_list (λ p. p.pid) ps) → ((pid : ℕ) (p : Process T Image) → find (is_pid pid) ps ≡ Some p → P p) → Each P ps
    each-process low next [] rise h = tt
    each-process low next (p ∷ ps) rise h =
        let own : (p.pid == p.pid) ≡ true = same-test p.pid p.pid refl in
        (h p.pid p (ap (λ b. cond b (Some p) (find (is_pid p.pid) ps)) own), each-process (suc p.pid) next ps rise.2 later)
      where
        later : (pid : ℕ) (q : Process T Image) → find (is_pid pid) ps ≡ Some q → P q
        later pid q e =
            let above = found-above (suc p.pid) next pid ps q rise.2 e in
            let same = found-pid pid ps q e in
            let other : (p.pid == pid) ≡ false = apart-test p.pid pid (λ is. let clash : q.pid ≡ p.pid = same ∙ sym is in omega arith) in
            h pid q (ap (λ b. cond b (Some p) (find (is_pid pid) ps)) other ∙ e)

  -- the numbers of what is shown are small
  pub living-small : (s : State T Image) → ArePids s → ((pid fd : ℕ) (x : Named) → named pid fd s ≡ Some x → fd < 1024) → s.next_pid ≤ 2 ^ 32 → Each HasSmallNumbers (living_of s)
  living-small s pids descriptors few =
      shown-small 2 s.next_pid s.living few pids.living
      (each-process (λ (p : Process T Image). (q : ℕ) (x : Named) → map.get p.descs q ≡ Some x → q < 1024) 2 s.next_pid s.living pids.living
      (λ pid p e q x there. descriptors pid q x (ap (option_and_then (λ (p : Process T Image). map.get p.descs q)) e ∙ there)))

-- ---- what is led to

module _ {T : Type 0} (number : T → ℕ) (t : Tree) (table : List Row) where
  -- a place of the view, and what its object remembers
  pub record IsEntered (p : Place T) (dir : ℕ) (name : List ℕ) : Type 0 where
    pub nameable : IsNameable number t table p
    pub file : is_directory_at t p.host ≡ false → name ≢ [] → IsName name
    pub directory : is_directory_at t p.host ≡ true → (dir ≡ 0) × (name ≡ [])

  abbrev pub IsLed : Target T → Type 0
  IsLed Nothing = Unit {0}
  IsLed (Unplaced what) = Unit {0}
  IsLed (At p dir name) = IsEntered p dir name

  directory-entered : (p : Place T) → IsPlaceOf t table (numbered number p) → is_directory_at t p.host ≡ true → IsEntered p 0 []
  directory-entered p place is =
      record { nameable = record { place = place; named = directory-named t p.host is }; file = λ no some. absurd (some refl); directory = λ d. (refl, refl) }

  root-entered : (p : Place T) → StandsIn t table → numbered number p ≡ root_place table → IsEntered p 0 []
  root-entered p mounts rooted =
      let stands = root-stands t table mounts in
      directory-entered p (subst (IsPlaceOf t table) (sym rooted) stands.0) (ap (λ (p : Place ℕ). is_directory_at t p.host) rooted ∙ stands.1)

  pub root-led : {U : Type 0} (p : Place T) → StandsIn t table → numbered number p ≡ root_place table → (o : Option (Process U Image)) → IsLed (option_map_or (λ (q : Process U Image). At p 0 []) o Nothing)
  root-led p mounts rooted None = tt
  root-led p mounts rooted (Some q) = root-entered p mounts rooted

  pub led-stands : (target : Target T) → IsLed target → IsStanding number t table target
  led-stands Nothing h = tt
  led-stands (Unplaced what) h = tt
  led-stands (At p dir name) h = h.nameable

-- of processes and what is open in a lawful state
module _ {T : Type 0} (number : T → ℕ) (table : List Row) (s : State T Image) (lawful : IsLawful number table s) where
  pub cwd-led : (pid : ℕ) (o : Option (Process T Image)) → process pid s ≡ o → IsLed number s.tree table (option_map_or cwd_target o Nothing)
  cwd-led pid None e = tt
  cwd-led pid (Some p) e = let own = (lawful.processes pid p e).cwd in directory-entered number s.tree table p.cwd own.0 own.1

  pub exe-led : (pid : ℕ) (o : Option (Process T Image)) → process pid s ≡ o → IsLed number s.tree table (option_map_or exe_target o Nothing)
  exe-led pid None e = tt
  exe-led pid (Some p) e =
      let own = lawful.processes pid p e in
      record {
        nameable = record { place = own.exe.0; named = file-named s.tree p.exe.host own.exe.1 };
        file = λ no some. own.exe_name some;
        directory = λ d. absurd (false≢true (sym (file-no-directory s.tree p.exe.host own.exe.1) ∙ d));
      }

  pub is-open : (pid fd : ℕ) (o : Opened T) → opened pid fd s ≡ Some o → IsOpenIn number s.tree table o
  is-open pid fd o e = own (named pid fd s) refl e
    where
      own : (x : Option Named) → named pid fd s ≡ x → option_and_then (λ (x : Named). file_at s.files x.number) x ≡ Some o → IsOpenIn number s.tree table o
      own None is e = absurd (none-some o e)
      own (Some x) is e = lawful.files x.number o e

  pub open-led : (pid fd : ℕ) (o : Option (Opened T)) → opened pid fd s ≡ o → IsLed number s.tree table (option_map_or opened_target o Nothing)
  open-led pid fd None e = tt
  open-led pid fd (Some o) e = placed o.place refl
    where
      placed : (p : Option (Place T)) → o.place ≡ p → IsLed number s.tree table (option_map_or (λ p. At p o.dir o.name) p (Unplaced o.what))
      placed None is = tt
      placed (Some p) is = kind (is_dir o.what) refl (is_file_open o.what) refl
        where
          is_open : IsOpenIn number s.tree table o
          is_open = is-open pid fd o e

          kind : (d : Bool) → is_dir o.what ≡ d → (f : Bool) → is_file_open o.what ≡ f → IsEntered number s.tree table p o.dir o.name
          kind true d f file =
              let there = is_open.placed p is in
              let entry = is_open.directories d in
              record {
                nameable = record { place = there.0; named = directory-named s.tree p.host (there.1 ∙ d) };
                file = λ no some. absurd (some entry.2);
                directory = λ is. (entry.1, entry.2);
              }
          kind false d true file =
              let there = is_open.placed p is in
              record {
                nameable = record { place = there.0; named = file-named s.tree p.host (there.2 ∙ file) };
                file = λ no some. is_open.name some;
                directory = λ is. absurd (false≢true (sym (there.1 ∙ d) ∙ is));
              }
          kind false d false file = absurd (false≢true (sym (is_open.others file d) ∙ ap is_there is))

-- ---- leads

-- a place that a link leads to, with what its object remembers
abbrev pub IsFollowed : Tree → List Row → Place ℕ → ℕ → List ℕ → Type 0
IsFollowed t table p dir name =
    IsPlaceOf t table p
    × (is_directory_at t p.host ≡ false → name ≢ [] → IsName name)
    × (is_directory_at t p.host ≡ true → (dir ≡ 0) × (name ≡ []))

module _ {T : Type 0} (number : T → ℕ) (space : Namespace) where
  pub followed-to : (target : Target T) → IsLed number space.tree space.table target → (p : Place ℕ) (dir : ℕ) (name : List ℕ) → lead_numbered number (lead_to number space target) ≡ Jump p dir name
      → IsFollowed space.tree space.table p dir name
  followed-to Nothing h p dir name e = absurd cc
  followed-to (Unplaced what) h p dir name e = absurd cc
  followed-to (At q d n) h p dir name e = by (is_there (guest_name space (numbered number q) (remembered d n))) e
    where
      by : (b : Bool) → lead_numbered number (if b then Jump q d n else Nameless) ≡ Jump p dir name → IsFollowed space.tree space.table p dir name
      by false e = absurd cc
      by true e =
          let place : numbered number q ≡ p = cc in
          let entry : (d ≡ dir) × (n ≡ name) = (cc, cc) in
          let P : Place ℕ → ℕ → List ℕ → Type 0 = IsFollowed space.tree space.table in
          subst (λ p. P p dir name) place (subst (λ dir. P (numbered number q) dir name) entry.0 (subst (P (numbered number q) d) entry.1 (h.nameable.place, h.file, h.directory)))

  -- no text is led to
  pub no-text-to : (target : Target T) (text : List ℕ) → lead_numbered number (lead_to number space target) ≡ Text text → ⊥
  no-text-to Nothing text e = cc
  no-text-to (Unplaced what) text e = cc
  no-text-to (At q d n) text e = by (is_there (guest_name space (numbered number q) (remembered d n))) e
    where
      by : (b : Bool) → lead_numbered number (if b then Jump q d n else Nameless) ≡ Text text → ⊥
      by true e = cc
      by false e = cc

-- ---- what is shown

module _ {T : Type 0} (number : T → ℕ) (v : Shown T) where
  module _ (lawful : IsLawful number v.table v.state) (rooted : numbered number v.root ≡ root_place v.table) where
    led : (at : ProcAt) → IsLed number v.state.tree v.table (target_in v at)
    led SelfLink = tt
    led (Dir pid) = tt
    led (Cwd pid) = cwd-led number v.table v.state lawful pid (process pid v.state) refl
    led (Root pid) = root-led number v.state.tree v.table v.root lawful.mounts rooted (process pid v.state)
    led (Exe pid) = exe-led number v.table v.state lawful pid (process pid v.state) refl
    led (FdDir pid) = tt
    led (Fd pid fd) = open-led number v.table v.state lawful pid fd (opened pid fd v.state) refl

    pub standing : (at : ProcAt) → IsStanding number v.state.tree v.table (target_in v at)
    standing at = led-stands number v.state.tree v.table (target_in v at) (led at)

    followed : (caller : ℕ) (at : ProcAt) (p : Place ℕ) (dir : ℕ) (name : List ℕ) → lead_numbered number (leads_in number v caller at) ≡ Jump p dir name → IsFollowed v.state.tree v.table p dir name
    followed caller SelfLink p dir name e = absurd cc
    followed caller (Dir pid) p dir name e = absurd cc
    followed caller (Cwd pid) p dir name e = followed-to number (space_in v) (target_in v (Cwd pid)) (led (Cwd pid)) p dir name e
    followed caller (Root pid) p dir name e = followed-to number (space_in v) (target_in v (Root pid)) (led (Root pid)) p dir name e
    followed caller (Exe pid) p dir name e = followed-to number (space_in v) (target_in v (Exe pid)) (led (Exe pid)) p dir name e
    followed caller (FdDir pid) p dir name e = absurd cc
    followed caller (Fd pid fd) p dir name e = followed-to number (space_in v) (target_in v (Fd pid fd)) (led (Fd pid fd)) p dir name e

    lead-to-places : (caller : ℕ) → LeadToPlaces v.state.tree v.table (λ at. lead_numbered number (leads_in number v caller at))
    lead-to-places caller = record {
      places = λ at p dir name e. (followed caller at p dir name e).0;
      files = λ at p dir name e. (followed caller at p dir name e).1;
      directories = λ at p dir name e. (followed caller at p dir name e).2;
    }

  -- ---- laws of process directories

  own-text : (caller : ℕ) (at : ProcAt) (text : List ℕ) → lead_numbered number (leads_in number v caller at) ≡ Text text → at ≡ SelfLink
  own-text caller SelfLink text e = refl
  own-text caller (Dir pid) text e = absurd cc
  own-text caller (Cwd pid) text e = absurd (no-text-to number (space_in v) (target_in v (Cwd pid)) text e)
  own-text caller (Root pid) text e = absurd (no-text-to number (space_in v) (target_in v (Root pid)) text e)
  own-text caller (Exe pid) text e = absurd (no-text-to number (space_in v) (target_in v (Exe pid)) text e)
  own-text caller (FdDir pid) text e = absurd cc
  own-text caller (Fd pid fd) text e = absurd (no-text-to number (space_in v) (target_in v (Fd pid fd)) text e)

  laws-of-processes : (caller : ℕ) → IsLawful number v.table v.state → v.state.next_pid ≤ 2 ^ 32 → LawsOfProcesses (finds_in v) (λ at. lead_numbered number (leads_in number v caller at))
  laws-of-processes caller lawful few =
      living_processes (living_of v.state) (λ at. lead_numbered number (leads_in number v caller at))
      (living-small v.state lawful.pids (λ pid fd x there. (lawful.descriptors pid fd x there).0) few)
      (own-text caller)

pub lawful-are-shown : {T : Type 0} → LawfulAreShown T
lawful-are-shown {T} = record {
  processes = λ number v caller lawful few. laws-of-processes number v caller lawful few;
  places = λ number v caller lawful rooted. lead-to-places number v lawful rooted caller;
}
