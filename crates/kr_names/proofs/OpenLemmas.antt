-- Openings, by the descriptor that they take.
use Rattle.std.proofs.Common.{◌≡◌, ℕ, ◌+◌, ◌≤◌, Bool, true, false, not, ◌||◌, List, [], ◌∷◌, Option, Some, None, refl, sym, ap, ◌∙◌, arith}
use Rattle.std.specs.Prelude.{IsSome}
use Rattle.std.specs.Bool.{if◌then◌else◌}
use Rattle.std.specs.Option.{option_map, option_map_or, option_and_then}
use Rattle.std.proofs.lemmas.Bool.Decides.{nat_tests}
use Rattle.kr_seen.proofs.pr_base.MapLemmas.{get-changed_same}
use Rattle.kr_seen.specs.pr_base.declared.errno.Errno.TheVariants.{ENOENT, EACCES, EISDIR, ELOOP, EMFILE, ENOTDIR}
use Rattle.kr_seen.specs.kr_calls.Arguments.{has}
use Rattle.kr_seen.specs.kr_tree.Changes.{byte_limit, has_no_room_for, held, with_holds}
use Rattle.kr_seen.specs.kr_tree.Tree.{Body, Directory, RegularFile, SymbolicLink, ProcessDirectory, Inode, Node, Tree, body_is, inode, is_directory, is_file, may_be_linked}
use Rattle.kr_seen.specs.kr_tree.Rights.{allows, may}
use Rattle.kr_seen.specs.kr_inode.declared.user.Right.{Right}
use Rattle.kr_seen.specs.kr_inode.declared.user.Right.TheVariants.{Read}
use Rattle.kr_seen.specs.kr_inode.declared.user.User.{User}
use Rattle.kr_seen.specs.kr_tree.declared.place.Host.{Host}
use Rattle.kr_seen.specs.kr_tree.declared.place.Host.TheVariants as host
use Rattle.kr_seen.specs.kr_files.Descriptors.{lowest_free}
use Rattle.kr_seen.specs.kr_files.declared.opened.Opened.{Opened}
use Rattle.kr_seen.specs.kr_files.declared.opened.What.TheVariants.{File, Dir}
use Rattle.kr_seen.specs.kr_model.Applied.{Mounts, applied, held_at, images, in_mount, mount_of}
use Rattle.kr_seen.specs.kr_model.Change.{Change, MountOf, OfFound, OpenFile}
use Rattle.kr_seen.specs.kr_model.DescriptorRows.{o_cloexec}
use Rattle.kr_seen.specs.kr_model.FileRows.{creates, cut_after, has_rights, open_body, open_directory, open_file, open_host, open_under, opens_as, truncates, wants_directory, wants_write}
use Rattle.kr_seen.specs.kr_model.Known.{Known, caller_of, known, known_node, no_caller}
use Rattle.kr_seen.specs.kr_model.Seen.{Looked}
use Rattle.kr_names.specs.Opening.{entry_dir, entry_name}
use Rattle.kr_seen.specs.kr_model.Reply.{Replying, done, refuse}
use Rattle.kr_seen.specs.kr_model.State as model
use Rattle.kr_seen.specs.kr_ops.declared.state.State.{State}
use Rattle.kr_seen.specs.kr_ops.Meaning.{meaning}
use Rattle.kr_seen.specs.kr_ops.Opening.{lowest_of, Opens}
use Rattle.kr_names.proofs.NodeLemmas.{if-true, if-false}

-- ---- descriptors

-- the free descriptors of a living process are those that the caller is known to have
pub lowest-living : {T : Type 0} (s : model.State T model.Image) (pid from : ℕ) → IsSome (model.process pid s)
    → lowest_of pid from s ≡ lowest_free (known model.image_layout pid s).caller.descs from
lowest-living {T} s pid from lives = by (model.process pid s) lives
  where
    by : (q : Option (model.Process T model.Image)) → IsSome q → option_and_then (λ p. lowest_free p.descs from) q ≡ lowest_free (option_map_or (caller_of model.image_layout) q no_caller).descs from
    by None h = let no : false ≡ true = h in absurd cc
    by (Some p) h = refl

module _ {T : Type 0} (s : model.State T model.Image) (pid flags : ℕ) (lives : IsSome (model.process pid s)) (mount : MountOf) (o : Opened (Unit {0})) (after : List Change) where
  abbrev under : Replying
  under = open_under flags mount o after (lowest_free (known model.image_layout pid s).caller.descs 0)

  pub under-full : lowest_of pid 0 s ≡ None → open_under flags mount o after (lowest_free (known model.image_layout pid s).caller.descs 0) ≡ refuse EMFILE
  under-full none = ap (open_under flags mount o after) (sym (lowest-living s pid 0 lives) ∙ none)

  pub under-goes : (fd : ℕ) → lowest_of pid 0 s ≡ Some fd → open_under flags mount o after (lowest_free (known model.image_layout pid s).caller.descs 0) ≡ done fd (OpenFile fd (has flags o_cloexec) mount o ∷ after)
  under-goes fd lowest = ap (open_under flags mount o after) (sym (lowest-living s pid 0 lives) ∙ lowest)

pub opened-makes : {T : Type 0} {M : ℕ} (mounts : Mounts T) (pid flags fd : ℕ) (from : MountOf) (m : T) (o : Opened (Unit {0})) (opened : Opened T) (cloexec : Bool) (old new : State T M)
    → cloexec ≡ has flags o_cloexec → mount_of mounts pid (meaning old) from ≡ Some m → in_mount m o ≡ opened → Opens pid fd cloexec opened old new
    → meaning new ≡ applied images mounts pid (OpenFile fd (has flags o_cloexec) from o) (meaning old)
opened-makes mounts pid flags fd from m o opened cloexec old new closes at is opens =
    opens mounts from m o at is ∙ ap (λ b. applied images mounts pid (OpenFile fd b from o) (meaning old)) closes

-- ---- the tests of an opening

module _ (k : Known) (flags : ℕ) where
  pub directory-changed : (at : Host) (readable : Bool) → (wants_write flags || creates flags || truncates flags) ≡ true → open_directory k flags at readable ≡ refuse EISDIR
  directory-changed at readable e =
      if-true (wants_write flags || creates flags || truncates flags) (refuse EISDIR) (if not readable then refuse EACCES else open_under flags OfFound (opens_as Dir at 0 [] flags) [] (lowest_free k.caller.descs 0)) e

  pub directory-read : (at : Host) (readable : Bool) → (wants_write flags || creates flags || truncates flags) ≡ false
      → open_directory k flags at readable ≡ (if not readable then refuse EACCES else open_under flags OfFound (opens_as Dir at 0 [] flags) [] (lowest_free k.caller.descs 0))
  directory-read at readable e =
      if-false (wants_write flags || creates flags || truncates flags) (refuse EISDIR) (if not readable then refuse EACCES else open_under flags OfFound (opens_as Dir at 0 [] flags) [] (lowest_free k.caller.descs 0)) e

  pub directory-kept : (at : Host) (readable : Bool) → (wants_write flags || creates flags || truncates flags) ≡ false → readable ≡ false → open_directory k flags at readable ≡ refuse EACCES
  directory-kept at readable e right = directory-read at readable e ∙ ap (λ b. if not b then refuse EACCES else open_under flags OfFound (opens_as Dir at 0 [] flags) [] (lowest_free k.caller.descs 0)) right

  pub directory-opens : (at : Host) (readable : Bool) → (wants_write flags || creates flags || truncates flags) ≡ false → readable ≡ true
      → open_directory k flags at readable ≡ open_under flags OfFound (opens_as Dir at 0 [] flags) [] (lowest_free k.caller.descs 0)
  directory-opens at readable e right = directory-read at readable e ∙ ap (λ b. if not b then refuse EACCES else open_under flags OfFound (opens_as Dir at 0 [] flags) [] (lowest_free k.caller.descs 0)) right

  module _ (i : ℕ) (n : Node) (dir : ℕ) (name : List ℕ) where
    abbrev opens : Replying
    opens = open_under flags OfFound (opens_as File (host.Node i) dir name flags) (cut_after flags i) (lowest_free k.caller.descs 0)

    pub file-wanted : wants_directory flags ≡ true → open_file k flags i n dir name ≡ refuse ENOTDIR
    file-wanted e = if-true (wants_directory flags) (refuse ENOTDIR) (if not (has_rights k n flags) then refuse EACCES else opens) e

    file-right : wants_directory flags ≡ false → open_file k flags i n dir name ≡ (if not (has_rights k n flags) then refuse EACCES else opens)
    file-right e = if-false (wants_directory flags) (refuse ENOTDIR) (if not (has_rights k n flags) then refuse EACCES else opens) e

    pub file-refused : wants_directory flags ≡ false → has_rights k n flags ≡ false → open_file k flags i n dir name ≡ refuse EACCES
    file-refused e right = file-right e ∙ ap (λ b. if not b then refuse EACCES else opens) right

    pub file-opens : wants_directory flags ≡ false → has_rights k n flags ≡ true → open_file k flags i n dir name ≡ open_under flags OfFound (opens_as File (host.Node i) dir name flags) (cut_after flags i) (lowest_free k.caller.descs 0)
    file-opens e right = file-right e ∙ ap (λ b. if not b then refuse EACCES else opens) right

-- ---- what a hold leaves

pub held-body : (test : Body → Bool) (t : Tree) (i : ℕ) → body_is test (held i t) i ≡ body_is test t i
held-body test t i =
    ap (λ (o : Option Inode). option_map_or (λ (x : Inode). test x.node.body) o false) (get-changed_same t.inodes i (with_holds (λ n. n + 1))) ∙ by (inode t i)
  where
    by : (o : Option Inode) → option_map_or (λ (x : Inode). test x.node.body) (option_map (with_holds (λ n. n + 1)) o) false ≡ option_map_or (λ (x : Inode). test x.node.body) o false
    by None = refl
    by (Some x) = refl

-- a file can be cut where all bytes are within their limit
pub cut-fits : (t : Tree) (i : ℕ) → t.bytes ≤ byte_limit → has_no_room_for i 0 t ≡ false
cut-fits t i within = grind (arith, nat_tests)

module _ {T : Type 0} {M : ℕ} (pid fd i : ℕ) (cloexec : Bool) (m : T) (o : Opened (Unit {0})) (opened : Opened T) (old new : State T M) (place : o.place ≡ Some (record { mount = tt; host = host.Node i }))
    (is : in_mount m o ≡ opened) (opens : Opens pid fd cloexec opened old new) where
  abbrev some : Mounts T
  some = record { found = Some m; directory = None }

  opened-tree : new.tree ≡ held i old.tree
  opened-tree = ap (λ (s : model.State T model.Image). s.tree) (opens some OfFound m o refl is) ∙ ap (λ p. held_at p old.tree) place

  pub opened-body : (test : Body → Bool) → body_is test new.tree i ≡ body_is test old.tree i
  opened-body test = ap (λ t. body_is test t i) opened-tree ∙ held-body test old.tree i

  pub opened-bytes : new.tree.bytes ≡ old.tree.bytes
  opened-bytes = ap (λ (t : Tree). t.bytes) opened-tree

-- ---- objects

pub passed : (test : Body → Bool) (t : Tree) (i : ℕ) → body_is test t i ≡ true → (x : Inode) × (inode t i ≡ Some x) × (test x.node.body ≡ true)
passed test t i e = by (inode t i) refl e
  where
    by : (o : Option Inode) → inode t i ≡ o → option_map_or (λ (x : Inode). test x.node.body) o false ≡ true → (x : Inode) × (inode t i ≡ Some x) × (test x.node.body ≡ true)
    by None is e = absurd cc
    by (Some x) is e = (x, is, e)

pub tested : (test : Body → Bool) (t : Tree) (i : ℕ) (x : Inode) → inode t i ≡ Some x → body_is test t i ≡ test x.node.body
tested test t i x is = ap (λ (o : Option Inode). option_map_or (λ (x : Inode). test x.node.body) o false) is

-- what is no directory, no file and no link isn't there
pub nothing : (t : Tree) (i : ℕ) → body_is is_directory t i ≡ false → body_is is_file t i ≡ false → body_is may_be_linked t i ≡ false → inode t i ≡ None
nothing t i d f l = by (inode t i) d f l
  where
    kinds : (b : Body) → is_directory b ≡ false → is_file b ≡ false → may_be_linked b ≡ false → ⊥
    kinds (Directory entries standing) d f l = cc
    kinds (RegularFile bytes) d f l = cc
    kinds (SymbolicLink text) d f l = cc
    kinds (ProcessDirectory standing) d f l = cc

    by : (o : Option Inode) → option_map_or (λ (x : Inode). is_directory x.node.body) o false ≡ false → option_map_or (λ (x : Inode). is_file x.node.body) o false ≡ false
        → option_map_or (λ (x : Inode). may_be_linked x.node.body) o false ≡ false → o ≡ None
    by None d f l = refl
    by (Some x) d f l = absurd (kinds x.node.body d f l)

module _ (k : Known) (flags : ℕ) (l : Looked) (i : ℕ) where
  body-directory : (n : Node) (b : Body) → is_directory b ≡ true → open_body k flags l i n b ≡ open_directory k flags (host.Node i) (allows k.user n Read)
  body-directory n (Directory entries standing) e = refl
  body-directory n (RegularFile bytes) e = absurd cc
  body-directory n (SymbolicLink text) e = absurd cc
  body-directory n (ProcessDirectory standing) e = refl

  body-file : (n : Node) (b : Body) → is_file b ≡ true → open_body k flags l i n b ≡ open_file k flags i n (entry_dir l.entry) (entry_name l.entry)
  body-file n (Directory entries standing) e = absurd cc
  body-file n (RegularFile bytes) e = refl
  body-file n (SymbolicLink text) e = absurd cc
  body-file n (ProcessDirectory standing) e = absurd cc

  body-link : (n : Node) (b : Body) → may_be_linked b ≡ true → is_file b ≡ false → open_body k flags l i n b ≡ refuse ELOOP
  body-link n (Directory entries standing) e f = absurd cc
  body-link n (RegularFile bytes) e f = absurd cc
  body-link n (SymbolicLink text) e f = refl
  body-link n (ProcessDirectory standing) e f = absurd cc

  node-opens : (n : Node) → known_node k i ≡ Some n → open_host k flags l (host.Node i) ≡ open_body k flags l i n n.body
  node-opens n e = ap (λ o. option_map_or (λ n. open_body k flags l i n n.body) o (refuse ENOENT)) e

  pub opens-none : known_node k i ≡ None → open_host k flags l (host.Node i) ≡ refuse ENOENT
  opens-none e = ap (λ o. option_map_or (λ n. open_body k flags l i n n.body) o (refuse ENOENT)) e

  pub opens-directory : (n : Node) → known_node k i ≡ Some n → is_directory n.body ≡ true → open_host k flags l (host.Node i) ≡ open_directory k flags (host.Node i) (allows k.user n Read)
  opens-directory n e is = node-opens n e ∙ body-directory n n.body is

  pub opens-file : (n : Node) → known_node k i ≡ Some n → is_file n.body ≡ true → open_host k flags l (host.Node i) ≡ open_file k flags i n (entry_dir l.entry) (entry_name l.entry)
  opens-file n e is = node-opens n e ∙ body-file n n.body is

  pub opens-link : (n : Node) → known_node k i ≡ Some n → may_be_linked n.body ≡ true → is_file n.body ≡ false → open_host k flags l (host.Node i) ≡ refuse ELOOP
  opens-link n e is other = node-opens n e ∙ body-link n n.body is other

pub allowed : (t : Tree) (user : User) (right : Right) (i : ℕ) (x : Inode) → inode t i ≡ Some x → may t user i right ≡ allows user x.node right
allowed t user right i x is = ap (λ (o : Option Inode). option_map_or (λ (n : Node). allows user n right) (option_map (λ (x : Inode). x.node) o) false) is
