-- The changes of openat(2): what is there is opened, cut or not, and a new file is made and opened.
use Rattle.std.proofs.Common.{◌≡◌, cond, ℕ, Bool, true, false, List, [], ◌∷◌, Option, Some, None}
use Rattle.law_lawful.specs.pr_base.declared.errno.Errno.TheVariants.{ENOENT, EACCES, EEXIST, ENOTDIR, EISDIR, EMFILE, ENOSPC, ELOOP}
use Rattle.law_lawful.specs.kr_files.Descriptors.{lowest_free}
use Rattle.law_lawful.specs.kr_files.declared.opened.Opened.{Opened}
use Rattle.law_lawful.specs.kr_files.declared.opened.What.TheVariants.{File, Dir}
use Rattle.law_lawful.specs.kr_tree.Tree.{Body, Directory, Node, ProcessDirectory, RegularFile, SymbolicLink}
use Rattle.law_lawful.specs.kr_tree.declared.place.Host.{Host}
use Rattle.law_lawful.specs.kr_tree.declared.place.Host.TheVariants as host
use Rattle.law_lawful.specs.kr_model.Change.{AddNode, Change, OfDirectory, OfFound, OpenFile}
use Rattle.law_lawful.specs.kr_model.FileRows.{cut_after, make_and_open, open_body, open_directory, open_file, open_found, open_host, open_under, openat_row, opens_as}
use Rattle.law_lawful.specs.kr_model.Known.{Known, known_node}
use Rattle.law_lawful.specs.kr_model.Reply.{refuse}
use Rattle.law_lawful.specs.kr_model.Seen.{Looked, Opening, OpensFound, OpensNew, OpensNoName, OpensSlashed}
use Rattle.law_steady.proofs.EndLemmas.{Pass, answered, either, maybe, refused, written_to}

-- a test that these changes pass
module _ (test : List Change → Bool) (none : test [] ≡ true) (flags : ℕ)
    (opens : (fd : ℕ) (cloexec : Bool) (o : Opened (Unit {0})) → test (OpenFile fd cloexec OfFound o ∷ []) ≡ true)
    (cuts : (fd : ℕ) (cloexec : Bool) (o : Opened (Unit {0})) (i : ℕ) → test (OpenFile fd cloexec OfFound o ∷ cut_after flags i) ≡ true) where
  under : (o : Opened (Unit {0})) (after : List Change) (fd : Option ℕ) → ((fd : ℕ) (cloexec : Bool) → test (OpenFile fd cloexec OfFound o ∷ after) ≡ true) → Pass test (open_under flags OfFound o after fd)
  under o after None each = refused EMFILE none
  under o after (Some fd) each = answered (each fd _)

  directory_opened : (k : Known) (at : Host) (readable : Bool) → Pass test (open_directory k flags at readable)
  directory_opened k at readable =
      let o = opens_as Dir at 0 [] flags in
      either _ (refused EISDIR none) (either _ (refused EACCES none) (under o [] (lowest_free k.caller.descs 0) (λ fd cloexec. opens fd cloexec o)))

  file_opened : (k : Known) (i : ℕ) (n : Node) (dir : ℕ) (name : List ℕ) → Pass test (open_file k flags i n dir name)
  file_opened k i n dir name =
      let o = opens_as File (host.Node i) dir name flags in
      either _ (refused ENOTDIR none) (either _ (refused EACCES none) (under o (cut_after flags i) (lowest_free k.caller.descs 0) (λ fd cloexec. cuts fd cloexec o i)))

  body_opened : (k : Known) (l : Looked) (i : ℕ) (n : Node) (body : Body) → Pass test (open_body k flags l i n body)
  body_opened k l i n (Directory entries standing) = directory_opened k (host.Node i) _
  body_opened k l i n (ProcessDirectory standing) = directory_opened k (host.Node i) _
  body_opened k l i n (SymbolicLink text) = refused ELOOP none
  body_opened k l i n (RegularFile bytes) = file_opened k i n _ _

  host_opened : (k : Known) (l : Looked) (at : Host) → Pass test (open_host k flags l at)
  host_opened k l (host.Node i) = maybe (known_node k i) (λ n. body_opened k l i n n.body) (refused ENOENT none)
  host_opened k l (host.Proc i at) = either _ (directory_opened k (host.Proc i at) true) (refused ELOOP none)

  pub found_opened : (k : Known) (l : Looked) → Pass test (open_found k flags l)
  found_opened k l = either _ (refused EEXIST none) (host_opened k l l.host)

  module _ (mode : ℕ)
      (makes : (d : ℕ) (name : List ℕ) (m uid gid fd : ℕ) (cloexec : Bool) (o : Opened (Unit {0})) → test (AddNode d name m uid gid (RegularFile []) ∷ OpenFile fd cloexec OfDirectory o ∷ []) ≡ true) where
    made_and_opened : (k : Known) (d : ℕ) (name : List ℕ) (fd : Option ℕ) → Pass test (make_and_open k flags mode d name fd)
    made_and_opened k d name None = refused EMFILE none
    made_and_opened k d name (Some fd) = either _ (refused ENOSPC none) (answered (makes d name _ _ _ fd _ _))

    no_name : (b : Bool) → Pass test (refuse (cond b EEXIST EISDIR))
    no_name true = refused EEXIST none
    no_name false = refused EISDIR none

    pub openat_ends : (k : Known) (o : Opening) → Pass test (openat_row k o flags mode)
    openat_ends k (OpensNoName last) = no_name _
    openat_ends k OpensSlashed = refused EISDIR none
    openat_ends k (OpensFound l) = found_opened k l
    openat_ends k (OpensNew dir name) = written_to (λ e. none) k dir (λ d n. made_and_opened k d name _)
