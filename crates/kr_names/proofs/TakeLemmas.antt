-- Entries that are taken away.
use Rattle.std.proofs.Common.{◌≡◌, ℕ, Bool, true, false, not, List, [], ◌∷◌, Option, Some, None, refl, sym, ap, subst, ◌∙◌}
use Rattle.std.specs.Bool.{if◌then◌else◌}
use Rattle.std.specs.Option.{option_map, option_map_or, IfSome}
use Rattle.kr_seen.specs.pr_base.declared.errno.Errno.{Errno}
use Rattle.kr_seen.specs.pr_base.declared.errno.Errno.TheVariants.{EPERM, ENOENT, EACCES, EBUSY, ENOTDIR, EISDIR, ENOTEMPTY}
use Rattle.kr_seen.specs.pr_base.declared.path.Last.{Last}
use Rattle.kr_seen.specs.pr_base.declared.path.Last.TheVariants as last
use Rattle.kr_seen.specs.kr_tree.declared.place.Host.{Host}
use Rattle.kr_seen.specs.kr_tree.declared.place.Host.TheVariants as host
use Rattle.kr_seen.specs.kr_tree.declared.place.ProcAt.{ProcAt}
use Rattle.kr_seen.specs.kr_tree.Rights.{is_kept_by_sticky}
use Rattle.kr_seen.specs.kr_tree.Tree.{Body, Directory, RegularFile, SymbolicLink, ProcessDirectory, Inode, Node, Tree, body_is, entry, inode, is_directory, is_filled, takes_names}
use Rattle.kr_seen.specs.kr_tree.declared.place.Place.{Place}
use Rattle.kr_seen.specs.kr_view.declared.target.Target.{Target}
use Rattle.kr_seen.specs.kr_view.Leads.{numbered}
use Rattle.kr_seen.specs.kr_view.View.{Row, covered}
use Rattle.kr_seen.specs.kr_model.Asking.{is_directory_host, is_processes_host, writable}
use Rattle.kr_seen.specs.kr_model.Change.{RemoveName}
use Rattle.kr_seen.specs.kr_model.Known.{Known, known}
use Rattle.kr_seen.specs.kr_model.NameRows.{remove_directory, remove_file, rmdir_found, take_entry, unless_kept, unlink_found}
use Rattle.kr_seen.specs.kr_model.Reply.{Replying, done, refuse}
use Rattle.kr_seen.specs.kr_model.Seen.{Entered, Takes, TakesCovered, TakesNoName}
use Rattle.kr_seen.specs.kr_model.State.{Image, State, image_layout}
use Rattle.kr_seen.specs.kr_model.Walks.{entered, if_name, is_covered, taken_at}
use Rattle.kr_seen.specs.Asked.{IsTaking}
use Rattle.kr_seen.specs.Placed.{placed_in}
use Rattle.kr_seen.specs.Resolved.{IsEntryIn}
use Rattle.kr_seen.specs.Told.{entered_told}
use Rattle.kr_seen.specs.declared.told.Entered.{Entered as EnteredTold}
use Rattle.kr_names.specs.Taking.{IsEntryOf}
use Rattle.kr_names.proofs.NodeLemmas.{if-true, if-false, node-known, node-unknown}

-- a directory that is refused refuses all in it
pub directory-refuses : (k : Known) (e : Entered) (found : Host) (errno : Errno) → ((next : ℕ → Node → Replying) → writable k e.dir next ≡ refuse errno)
    → (next : ℕ → Node → Replying) → take_entry k e found next ≡ refuse errno
directory-refuses k e (host.Node i) errno h next = h _
directory-refuses k e (host.Proc i at) errno h next = h _

module _ {T : Type 0} (pid : ℕ) (s : State T Image) (e : Entered) (dir : ℕ) (t : IsTaking (known image_layout pid s) e.dir dir) where
  abbrev k : Known
  k = known image_layout pid s

  pub process-refused : (i : ℕ) (at : ProcAt) (next : ℕ → Node → Replying) → take_entry k e (host.Proc i at) next ≡ refuse EACCES
  process-refused i at next = t.goes_on _

  pub gone : (i : ℕ) → inode s.tree i ≡ None → (next : ℕ → Node → Replying) → take_entry k e (host.Node i) next ≡ refuse ENOENT
  gone i none next = t.goes_on _ ∙ ap (λ o. option_map_or (λ x. unless_kept k t.node x (next dir x)) o (refuse ENOENT)) (node-unknown pid s i none)

  pub by-sticky : (i : ℕ) (x y : Inode) → inode s.tree i ≡ Some x → inode s.tree dir ≡ Some y → (next : ℕ → Node → Replying)
      → take_entry k e (host.Node i) next ≡ (if is_kept_by_sticky s.user y.node x.node then refuse EPERM else next dir x.node)
  by-sticky i x y there above next =
      let same : t.node ≡ y.node = (let a = t.there in let b = node-known pid s dir y above in cc) in
      t.goes_on _ ∙ ap (λ o. option_map_or (λ x. unless_kept k t.node x (next dir x)) o (refuse ENOENT)) (node-known pid s i x there)
      ∙ ap (λ n. if is_kept_by_sticky s.user n x.node then refuse EPERM else next dir x.node) same

-- what is no directory has no entries
pub no-directory-empty : (b : Body) → is_directory b ≡ false → is_filled b ≡ false
no-directory-empty (Directory entries standing) e = absurd cc
no-directory-empty (RegularFile bytes) e = refl
no-directory-empty (SymbolicLink text) e = refl
no-directory-empty (ProcessDirectory standing) e = refl

pub file-empty : (t : Tree) (i : ℕ) → body_is is_directory t i ≡ false → body_is is_filled t i ≡ false
file-empty t i e = by (inode t i) e
  where
    by : (o : Option Inode) → option_map_or (λ (x : Inode). is_directory x.node.body) o false ≡ false → option_map_or (λ (x : Inode). is_filled x.node.body) o false ≡ false
    by None e = refl
    by (Some x) e = no-directory-empty x.node.body e

-- ---- the tests of a name that goes

module _ (k : Known) (e : Entered) (found : Host) where
  pub unlink-processes : is_processes_host k found ≡ true → unlink_found k e found ≡ refuse EBUSY
  unlink-processes p = if-true (is_processes_host k found) (refuse EBUSY) _ p

  unlink-other : is_processes_host k found ≡ false → unlink_found k e found ≡ (if e.slash then refuse (if is_directory_host k found then EISDIR else ENOTDIR) else take_entry k e found (remove_file k e.name))
  unlink-other p = if-false (is_processes_host k found) (refuse EBUSY) (if e.slash then refuse (if is_directory_host k found then EISDIR else ENOTDIR) else take_entry k e found (remove_file k e.name)) p

  pub unlink-slash : (d : Bool) → is_processes_host k found ≡ false → e.slash ≡ true → is_directory_host k found ≡ d → unlink_found k e found ≡ refuse (if d then EISDIR else ENOTDIR)
  unlink-slash d p slash is = unlink-other p ∙ if-true e.slash _ (take_entry k e found (remove_file k e.name)) slash ∙ ap (λ b. refuse (if b then EISDIR else ENOTDIR)) is

  pub unlink-goes : is_processes_host k found ≡ false → e.slash ≡ false → unlink_found k e found ≡ take_entry k e found (remove_file k e.name)
  unlink-goes p slash = unlink-other p ∙ if-false e.slash (refuse (if is_directory_host k found then EISDIR else ENOTDIR)) (take_entry k e found (remove_file k e.name)) slash

  pub rmdir-processes : is_processes_host k found ≡ true → rmdir_found k e found ≡ refuse EBUSY
  rmdir-processes p = if-true (is_processes_host k found) (refuse EBUSY) (take_entry k e found (remove_directory k e.name)) p

  pub rmdir-goes : is_processes_host k found ≡ false → rmdir_found k e found ≡ take_entry k e found (remove_directory k e.name)
  rmdir-goes p = if-false (is_processes_host k found) (refuse EBUSY) (take_entry k e found (remove_directory k e.name)) p

module _ (k : Known) (name : List ℕ) (d : ℕ) (n : Node) where
  abbrev goes : Replying
  goes = done 0 (RemoveName d name ∷ [])

  pub file-kept : is_directory n.body ≡ true → remove_file k name d n ≡ refuse EISDIR
  file-kept e = if-true (is_directory n.body) (refuse EISDIR) goes e

  pub file-goes : is_directory n.body ≡ false → remove_file k name d n ≡ done 0 (RemoveName d name ∷ [])
  file-goes e = if-false (is_directory n.body) (refuse EISDIR) goes e

  pub other-kept : is_directory n.body ≡ false → remove_directory k name d n ≡ refuse ENOTDIR
  other-kept e = ap (λ b. if not b then refuse ENOTDIR else if is_filled n.body then refuse ENOTEMPTY else goes) e

  directory-by : is_directory n.body ≡ true → remove_directory k name d n ≡ (if is_filled n.body then refuse ENOTEMPTY else goes)
  directory-by e = ap (λ b. if not b then refuse ENOTDIR else if is_filled n.body then refuse ENOTEMPTY else goes) e

  pub filled-kept : is_directory n.body ≡ true → is_filled n.body ≡ true → remove_directory k name d n ≡ refuse ENOTEMPTY
  filled-kept e filled = directory-by e ∙ if-true (is_filled n.body) (refuse ENOTEMPTY) goes filled

  pub directory-goes : is_directory n.body ≡ true → is_filled n.body ≡ false → remove_directory k name d n ≡ done 0 (RemoveName d name ∷ [])
  directory-goes e filled = directory-by e ∙ if-false (is_filled n.body) (refuse ENOTEMPTY) goes filled

-- ---- the entry itself

pub entry-empty : (t : Tree) (e : EnteredTold) (found : Host) (dir i : ℕ) → IsEntryOf t e found → e.dir ≡ host.Node dir → body_is takes_names t dir ≡ true → found ≡ host.Node i → body_is is_filled t i ≡ false
    → IfSome (entry t dir e.name.now) (λ j. body_is is_filled t j ≡ false)
entry-empty t e found dir i is at takes there empty =
    let own = is dir at takes in
    let same : i ≡ own.0 = (let a = own.1 in cc) in
    let P : Option ℕ → Type 0 = λ o. IfSome o (λ j. body_is is_filled t j ≡ false) in
    subst P (sym own.2) (ap (λ j. body_is is_filled t j) (sym same) ∙ empty)

-- what a target has where its entry may be taken
record IsTakenFrom (kind : Last) (cov : Bool) (e f : Entered) : Type 0 where
  named : kind ≡ last.Name
  open_ : cov ≡ false
  same : e ≡ f

taken-from : (kind : Last) (cov : Bool) (e f : Entered) → Takes e ≡ if_name kind (if cov then TakesCovered else Takes f) (TakesNoName kind) → IsTakenFrom kind cov e f
taken-from last.Name true e f is = absurd cc
taken-from last.Name false e f is = record { named = refl; open_ = refl; same = cc }
taken-from last.Dot cov e f is = absurd cc
taken-from last.DotDot cov e f is = absurd cc
taken-from last.Root cov e f is = absurd cc

placed-host : {T : Type 0} (number : T → ℕ) (o : Option (Place T)) (h : Host) → option_map (λ p. p.host) (option_map (numbered number) o) ≡ Some h → (p : Place T) × (o ≡ Some p) × (p.host ≡ h)
placed-host number None h e = absurd cc
placed-host number (Some p) h e = (p, refl, cc)

module _ {T : Type 0} (number : T → ℕ) (table : List Row) (pid : ℕ) (s : State ℕ Image) (target : Target T) (e : EnteredTold) (told : Takes (entered_told e) ≡ taken_at table pid s (placed_in number target)) where
  from : IsTakenFrom target.last (is_covered table target.dir.host target.name) (entered_told e) (entered (placed_in number target))
  from = taken-from target.last (is_covered table target.dir.host target.name) (entered_told e) (entered (placed_in number target)) told

  pub taken-dir : e.dir ≡ target.dir.host
  taken-dir = ap (λ (e : Entered). e.dir) from.same

  pub taken-name : e.name.now ≡ target.name
  taken-name = ap (λ (e : Entered). e.name) from.same

  pub taken-found : e.found ≡ option_map (λ p. p.host) (option_map (numbered number) target.found)
  taken-found = ap (λ (e : Entered). e.found) from.same

  pub taken-named : target.last ≡ last.Name
  taken-named = from.named

  pub taken-open : (dir : ℕ) → e.dir ≡ host.Node dir → covered table dir target.name ≡ false
  taken-open dir at = ap (λ h. is_covered table h target.name) (sym at ∙ taken-dir) ∙ from.open_

  pub taken-entry : (t : Tree) (found : Host) → e.found ≡ Some found → IsEntryIn t table target → IsEntryOf t e found
  taken-entry t found is entered_in dir at takes =
      let p = placed-host number target.found found (sym taken-found ∙ is) in
      let own = entered_in dir p.0 from.named p.1 (sym taken-dir ∙ at) takes (taken-open dir at) in
      (own.0, sym p.2 ∙ own.1, ap (λ n. entry t dir n) taken-name ∙ own.2)
