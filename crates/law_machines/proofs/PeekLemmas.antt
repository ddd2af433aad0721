-- What a kernel tells a tracer of a state that has bytes is bytes.
use Rattle.std.proofs.Common.{◌≡◌, ℕ, Bool, true, false, List, [], Option, Some, None, refl}
use Rattle.std.specs.Prelude.{Err, IfOk, IfSome, Ok, Result}
use Rattle.std.specs.Option.{option_and_then, option_map, option_map_or}
use Rattle.pr_top.specs.pr_base.Peeks.{Peeked}
use Rattle.pr_top.specs.pr_base.declared.errno.Errno.{Errno}
use Rattle.pr_top.specs.kr_inode.declared.user.User.{User}
use Rattle.pr_top.specs.kr_inode.declared.user.Right.TheVariants.{Search}
use Rattle.pr_top.specs.kr_tree.Lawful.{AreBytes, HasBytes as TreeHasBytes, IsOfBytes}
use Rattle.pr_top.specs.kr_tree.Rights.{may}
use Rattle.pr_top.specs.kr_tree.Tree.{Body, Directory, Inode, ProcessDirectory, RegularFile, SymbolicLink, Tree, body, inode}
use Rattle.pr_top.specs.kr_tree.declared.place.Host.{Host}
use Rattle.pr_top.specs.kr_tree.declared.place.Host.TheVariants.{Node, Proc}
use Rattle.pr_top.specs.kr_tree.declared.place.Place.{Place}
use Rattle.pr_top.specs.kr_tree.declared.place.ProcAt.TheVariants.{Cwd, Dir, Exe, Fd, FdDir, Root, SelfLink}
use Rattle.pr_top.specs.kr_view.HostReach.{host_place}
use Rattle.pr_top.specs.kr_view.View.{plain, root_place}
use Rattle.pr_top.specs.kr_view.Walk.{PlaceTarget}
use Rattle.law_starts.specs.kr_files.declared.opened.Opened.{Opened}
use Rattle.law_starts.specs.kr_model.HostView.{base_name, base_text, cwd_name, exe_name, host_space, linked_text, open_name}
use Rattle.law_starts.specs.kr_model.Peeks.{answer_along, body_head, body_text, head_at, link_text_at, name_or_none, peeked_of, read_at, read_of}
use Rattle.law_starts.specs.kr_model.ProcessDirectory.{name_text, unplaced_text}
use Rattle.law_starts.specs.kr_model.State.{Image, State, opened}
use Rattle.law_starts.specs.law_kept.Bytes.{HasBytes, TableHasBytes}
use Rattle.law_starts.proofs.law_kept.ListLemmas.{decimal-bytes, first-of}
use Rattle.law_starts.proofs.law_kept.LivingLemmas.{process-bytes}
use Rattle.law_starts.proofs.law_kept.SeenLemmas.{living-text, name-bytes, opened-name, unplaced-bytes}
use Rattle.law_starts.proofs.law_kept.StartLemmas.{tables-have-bytes}

pub record TellsBytes (peeked : Peeked) : Type 0 where
  pub link_text : (path : List ℕ) → IfOk (peeked.link_text path) AreBytes
  pub head : (path : List ℕ) (n : ℕ) → IfOk (peeked.head path n) AreBytes
  pub base_name : (pid fd : ℕ) → IfSome (peeked.base_name pid fd) AreBytes
  pub cwd_name : (pid : ℕ) → IfSome (peeked.cwd_name pid) AreBytes
  pub exe_name : (pid : ℕ) → IfSome (peeked.exe_name pid) AreBytes

named-or-none : (o : Option (List ℕ)) → IfSome o AreBytes → IfOk (name_or_none o) AreBytes
named-or-none None are = tt
named-or-none (Some name) are = are

-- what is read of where a walk ends
pub read-bytes : (read : Host → Result (List ℕ) Errno) → ((h : Host) → IfOk (read h) AreBytes) → (r : Result PlaceTarget Errno) → IfOk (read_of read r) AreBytes
read-bytes read each (Err e) = tt
read-bytes read each (Ok target) = by target.found
  where
    by : (o : Option (Place ℕ)) → IfOk (read_at read o) AreBytes
    by None = tt
    by (Some p) = each p.host

-- ---- of a tree

module _ (tree : Tree) (user : User) (has : TreeHasBytes tree) where
  body-is : (P : Option Body → Type 0) → P None → ((b : Body) → IsOfBytes b → P (Some b)) → (i : ℕ) → P (body tree i)
  body-is P nothing each i = by (inode tree i) refl
    where
      by : (o : Option Inode) → inode tree i ≡ o → P (option_map (λ (x : Inode). x.node.body) o)
      by None is = nothing
      by (Some x) is = each x.node.body (has i x is)

  text-of-body : (b : Body) → IsOfBytes b → IfOk (body_text (Some b)) AreBytes
  text-of-body (SymbolicLink text) are = are
  text-of-body (Directory entries standing) are = tt
  text-of-body (RegularFile bytes) are = tt
  text-of-body (ProcessDirectory standing) are = tt

  pub text-of-inode : (i : ℕ) → IfOk (body_text (body tree i)) AreBytes
  text-of-inode i = body-is (λ o. IfOk (body_text o) AreBytes) tt text-of-body i

  head-of-body : (b : Bool) (n : ℕ) (body : Body) → IsOfBytes body → IfOk (body_head b n (Some body)) AreBytes
  head-of-body true n (RegularFile bytes) are = first-of n bytes are
  head-of-body false n (RegularFile bytes) are = tt
  head-of-body b n (Directory entries standing) are = tt
  head-of-body b n (SymbolicLink text) are = tt
  head-of-body b n (ProcessDirectory standing) are = tt

  pub head-bytes : (n : ℕ) (h : Host) → IfOk (head_at tree user n h) AreBytes
  head-bytes n (Node i) = body-is (λ o. IfOk (body_head (may tree user i Search) n o) AreBytes) tt (head-of-body (may tree user i Search) n) i
  head-bytes n (Proc i at) = tt

-- ---- of a state

module _ (s : State ℕ Image) (has : HasBytes s) (caller : ℕ) where
  by-plain : TableHasBytes plain
  by-plain = tables-have-bytes.plain_view

  -- ---- host names of what processes have

  cwd-bytes : (q : ℕ) → IfSome (cwd_name s q) AreBytes
  cwd-bytes q = living-text plain by-plain caller s has q (λ p. name_text (host_space s) (host_place p.cwd.host) 0 []) (λ p is. name-bytes plain by-plain caller s has (host_place p.cwd.host) 0 [] tt)

  exe-bytes : (q : ℕ) → IfSome (exe_name s q) AreBytes
  exe-bytes q =
      living-text plain by-plain caller s has q (λ p. name_text (host_space s) (host_place p.exe.host) p.exe_dir p.exe_name)
      (λ p is. name-bytes plain by-plain caller s has (host_place p.exe.host) p.exe_dir p.exe_name (process-bytes q s has p is).exe_name)

  of-open : (f : Opened ℕ → Option (List ℕ)) → ((o : Opened ℕ) → AreBytes o.name → IfSome (f o) AreBytes) → (q fd : ℕ) → IfSome (option_and_then f (opened q fd s)) AreBytes
  of-open f each q fd = by (opened q fd s) refl
    where
      by : (o : Option (Opened ℕ)) → opened q fd s ≡ o → IfSome (option_and_then f o) AreBytes
      by None is = tt
      by (Some o) is = each o (opened-name plain by-plain caller s has q fd o is)

  placed-name : (o : Opened ℕ) → AreBytes o.name → (otherwise : Option (List ℕ)) → IfSome otherwise AreBytes → IfSome (option_map_or (λ (p : Place ℕ). name_text (host_space s) (host_place p.host) o.dir o.name) o.place otherwise) AreBytes
  placed-name o are otherwise own = by o.place
    where
      by : (place : Option (Place ℕ)) → IfSome (option_map_or (λ (p : Place ℕ). name_text (host_space s) (host_place p.host) o.dir o.name) place otherwise) AreBytes
      by None = own
      by (Some p) = name-bytes plain by-plain caller s has (host_place p.host) o.dir o.name are

  open-bytes : (o : Opened ℕ) → AreBytes o.name → IfSome (open_name s o) AreBytes
  open-bytes o are = by o.place
    where
      by : (place : Option (Place ℕ)) → IfSome (option_and_then (λ (p : Place ℕ). name_text (host_space s) (host_place p.host) o.dir o.name) place) AreBytes
      by None = tt
      by (Some p) = name-bytes plain by-plain caller s has (host_place p.host) o.dir o.name are

  base-bytes : (q fd : ℕ) → IfSome (base_name s q fd) AreBytes
  base-bytes q fd = of-open (open_name s) open-bytes q fd

  base-text-bytes : (q fd : ℕ) → IfSome (base_text s q fd) AreBytes
  base-text-bytes q fd = of-open (linked_text s) (λ o are. placed-name o are (unplaced_text o.what) (unplaced-bytes plain by-plain caller s has o.what)) q fd

  link-bytes : (h : Host) → IfOk (link_text_at s caller h) AreBytes
  link-bytes (Node i) = text-of-inode s.tree s.user has.tree i
  link-bytes (Proc i SelfLink) = decimal-bytes caller
  link-bytes (Proc i (Dir q)) = tt
  link-bytes (Proc i (Cwd q)) = named-or-none (cwd_name s q) (cwd-bytes q)
  link-bytes (Proc i (Root q)) = named-or-none (name_text (host_space s) (root_place plain) 0 []) (name-bytes plain by-plain caller s has (root_place plain) 0 [] tt)
  link-bytes (Proc i (Exe q)) = named-or-none (exe_name s q) (exe-bytes q)
  link-bytes (Proc i (FdDir q)) = tt
  link-bytes (Proc i (Fd q fd)) = named-or-none (base_text s q fd) (base-text-bytes q fd)

  pub peeks-tell-bytes : TellsBytes (peeked_of s caller)
  peeks-tell-bytes = record {
    link_text = λ path. read-bytes (link_text_at s caller) link-bytes (answer_along s caller path);
    head = λ path n. read-bytes (head_at s.tree s.user n) (head-bytes s.tree s.user has.tree n) (answer_along s caller path);
    base_name = base-bytes;
    cwd_name = cwd-bytes;
    exe_name = exe-bytes;
  }
