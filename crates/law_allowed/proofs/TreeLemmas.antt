-- What lasts of a tree: texts in links, owners of 32 bits, and room for numbers that are drawn.
use Rattle.std.specs.FinMap as map
use Rattle.std.proofs.Common.{◌≡◌, ℕ, suc, ◌+◌, ◌-◌, ◌≤◌, ◌<◌, ◌^◌, Bool, true, false, List, sym, subst, ◌∙◌, arith, cond, Option, Some, None, nat_eq}
use Rattle.std.specs.Option.{option_map_or}
use Rattle.law_lawful.specs.kr_inode.declared.standing.Standing.{Standing}
use Rattle.law_lawful.proofs.pr_base.MapLemmas.{get-insert_same, get-insert_other, get-remove_same, get-remove_other, by_key, each-changed}
use Rattle.law_lawful.proofs.kr_tree.NameLemmas.{some_is}
use Rattle.law_lawful.specs.kr_tree.Tree.{Tree, Inodes, Inode, Entry, Body, Directory, RegularFile, SymbolicLink, ProcessDirectory, entry, body_is, is_directory}
use Rattle.law_lawful.specs.kr_tree.Changes.{with_entries, with_standing, with_bytes, with_body, with_mode, with_owner, with_entry, without_entry, without_name, with_names, with_holds, unnamed, fresh, with_inode, next_standing, added, linked, is_unused_at, without_unused, unlinked, removed, moved, renamed_onto, renamed, held, released, mode_set, owner_set, bytes_set}
use Rattle.law_allowed.specs.Lasting.{HasText}

-- ---- one body

text-with_entries : (f : List Entry → List Entry) (b : Body) → HasText b → HasText (with_entries f b)
text-with_entries f (Directory es standing) is = is
text-with_entries f (RegularFile bytes) is = is
text-with_entries f (SymbolicLink text) is = is
text-with_entries f (ProcessDirectory standing) is = is

text-with_standing : (s : Option Standing) (b : Body) → HasText b → HasText (with_standing s b)
text-with_standing s (Directory es standing) is = is
text-with_standing s (RegularFile bytes) is = is
text-with_standing s (SymbolicLink text) is = is
text-with_standing s (ProcessDirectory standing) is = is

-- the bytes of files alone change
text-with_bytes : (f : List ℕ → List ℕ) (b : Body) → HasText b → HasText (with_bytes f b)
text-with_bytes f (Directory es standing) is = is
text-with_bytes f (RegularFile bytes) is = is
text-with_bytes f (SymbolicLink text) is = is
text-with_bytes f (ProcessDirectory standing) is = is

-- ---- one inode

-- what lasts of an inode of a tree that drew `names` names
pub record InodeLasts (names : ℕ) (x : Inode) : Type 0 where
  pub text : HasText x.node.body
  pub owners : (x.node.uid < 2 ^ 32) × (x.node.gid < 2 ^ 32)
  pub serials : x.next_serial + 2 ^ 31 ≤ 2 ^ 63 + names

inode-later : (names more : ℕ) → names ≤ more → (x : Inode) → InodeLasts names x → InodeLasts more x
inode-later names more l x lasts = record { text = lasts.text; owners = lasts.owners; serials = let before = lasts.serials in omega arith }

-- a change of an inode that keeps its text, and leaves its owners and the next serial
abbrev KeepsLasting : (Inode → Inode) → Type 0
KeepsLasting g = (names : ℕ) (x : Inode) → InodeLasts names x → InodeLasts names (g x)

body-lasts : (f : Body → Body) → ((b : Body) → HasText b → HasText (f b)) → KeepsLasting (with_body f)
body-lasts f text names x lasts = record { text = text x.node.body lasts.text; owners = lasts.owners; serials = lasts.serials }

mode-lasts : (mode : ℕ) → KeepsLasting (with_mode mode)
mode-lasts mode names x lasts = record { text = lasts.text; owners = lasts.owners; serials = lasts.serials }

owner-lasts : (uid gid : ℕ) → (uid < 2 ^ 32) × (gid < 2 ^ 32) → KeepsLasting (with_owner uid gid)
owner-lasts uid gid small names x lasts = record { text = lasts.text; owners = small; serials = lasts.serials }

names-last : (f : ℕ → ℕ) → KeepsLasting (with_names f)
names-last f names x lasts = record { text = lasts.text; owners = lasts.owners; serials = lasts.serials }

holds-last : (f : ℕ → ℕ) → KeepsLasting (with_holds f)
holds-last f names x lasts = record { text = lasts.text; owners = lasts.owners; serials = lasts.serials }

unnamed-lasts : KeepsLasting unnamed
unnamed-lasts names x lasts = record { text = text-with_standing None x.node.body lasts.text; owners = lasts.owners; serials = lasts.serials }

without-lasts : (name : List ℕ) (is_dir : Bool) → KeepsLasting (without_entry name is_dir)
without-lasts name is_dir names x lasts = record { text = text-with_entries (without_name name) x.node.body lasts.text; owners = lasts.owners; serials = lasts.serials }

-- an entry takes a serial
entry-lasts : (name : List ℕ) (i : ℕ) (is_dir : Bool) (names : ℕ) (x : Inode) → InodeLasts names x → InodeLasts (suc names) (with_entry name i is_dir x)
entry-lasts name i is_dir names x lasts = record {
  text = text-with_entries _ x.node.body lasts.text;
  owners = lasts.owners;
  serials = let before = lasts.serials in omega arith;
}

-- ---- the inodes

abbrev pub InodesLast : ℕ → Inodes → Type 0
InodesLast names m = (q : ℕ) (z : Inode) → map.get m q ≡ Some z → InodeLasts names z

inodes-later : (names more : ℕ) → names ≤ more → (m : Inodes) → InodesLast names m → InodesLast more m
inodes-later names more l m last q z at = inode-later names more l z (last q z at)

inodes-with : (names : ℕ) (m : Inodes) (k : ℕ) (g : Inode → Inode) → KeepsLasting g → InodesLast names m → InodesLast names (with_inode k g m)
inodes-with names m k g keeps last = each-changed (InodeLasts names) m k g last (λ x at. keeps names x)

inodes-entered : (names : ℕ) (m : Inodes) (k : ℕ) (name : List ℕ) (i : ℕ) (is_dir : Bool) → InodesLast names m → InodesLast (suc names) (with_inode k (with_entry name i is_dir) m)
inodes-entered names m k name i is_dir last =
    each-changed (InodeLasts (suc names)) m k (with_entry name i is_dir) (inodes-later names (suc names) (omega arith) m last)
    (λ x at _. entry-lasts name i is_dir names x (last k x at))

inodes-insert : (names : ℕ) (m : Inodes) (k : ℕ) (x : Inode) → InodesLast names m → InodeLasts names x → InodesLast names (map.insert m k x)
inodes-insert names m k x last lasts = by_key (λ q. (z : Inode) → map.get (map.insert m k x) q ≡ Some z → InodeLasts names z) k
    (λ z at. subst (InodeLasts names) (some_is x z (sym (get-insert_same m k x) ∙ at)) lasts)
    (λ q other z at. last q z (sym (get-insert_other m k x q other) ∙ at))

inodes-removed : (names : ℕ) (m : Inodes) (k : ℕ) → InodesLast names m → InodesLast names (map.remove m k)
inodes-removed names m k last = by_key (λ q. (z : Inode) → map.get (map.remove m k) q ≡ Some z → InodeLasts names z) k
    (λ z at. absurd (none z (sym (get-remove_same m k) ∙ at)))
    (λ q other z at. last q z (sym (get-remove_other m k q other) ∙ at))
  where
    none : (z : Inode) → None ≡ Some z → ⊥
    none z e = cc

inodes-dropped : (names : ℕ) (m : Inodes) (i : ℕ) → InodesLast names m → InodesLast names (without_unused i m)
inodes-dropped names m i last = by (is_unused_at i m)
  where
    by : (b : Bool) → InodesLast names (cond b (map.remove m i) m)
    by true = inodes-removed names m i last
    by false = last

-- ---- the tree

-- what lasts of a tree that drew `names` names
pub record TreeLasts (names : ℕ) (t : Tree) : Type 0 where
  pub next : t.next < 2 ^ 31 + names
  pub inodes : InodesLast names t.inodes

pub tree-later : (names more : ℕ) → names ≤ more → (t : Tree) → TreeLasts names t → TreeLasts more t
tree-later names more l t lasts = record { next = let before = lasts.next in omega arith; inodes = inodes-later names more l t.inodes lasts.inodes }

module _ (names : ℕ) (t : Tree) (lasts : TreeLasts names t) where
  pub added-lasts : (dir : ℕ) (name : List ℕ) (mode uid gid : ℕ) (b : Body) → (uid < 2 ^ 32) × (gid < 2 ^ 32) → HasText b → TreeLasts (suc names) (added dir name mode uid gid b t)
  added-lasts dir name mode uid gid b owners text = record {
    next = let before = lasts.next in omega arith;
    inodes =
        inodes-insert (suc names) (with_inode dir (with_entry name t.next (is_directory b)) t.inodes) t.next (fresh mode uid gid (with_standing (next_standing t dir) b))
        (inodes-entered names t.inodes dir name t.next (is_directory b) lasts.inodes)
        (record { text = text-with_standing (next_standing t dir) b text; owners = owners; serials = omega arith });
  }

  pub linked-lasts : (dir : ℕ) (name : List ℕ) (file : ℕ) → TreeLasts (suc names) (linked dir name file t)
  linked-lasts dir name file = record {
    next = let before = lasts.next in omega arith;
    inodes =
        inodes-with (suc names) (with_inode dir (with_entry name file false) t.inodes) file (with_names (λ n. n + 1)) (names-last (λ n. n + 1))
        (inodes-entered names t.inodes dir name file false lasts.inodes);
  }

  unlinked-lasts : (dir : ℕ) (name : List ℕ) (i : ℕ) → TreeLasts names (unlinked dir name i t)
  unlinked-lasts dir name i =
      let is_dir : Bool = body_is is_directory t i in
      let shrunk : Inodes = with_inode dir (without_entry name is_dir) t.inodes in
      record {
        next = lasts.next;
        inodes =
            inodes-dropped names (with_inode i unnamed shrunk) i
            (inodes-with names shrunk i unnamed unnamed-lasts (inodes-with names t.inodes dir (without_entry name is_dir) (without-lasts name is_dir) lasts.inodes));
      }

  pub removed-lasts : (dir : ℕ) (name : List ℕ) → TreeLasts names (removed dir name t)
  removed-lasts dir name = by (entry t dir name)
    where
      by : (o : Option ℕ) → TreeLasts names (option_map_or (λ i. unlinked dir name i t) o t)
      by None = lasts
      by (Some i) = unlinked-lasts dir name i

  moved-lasts : (dir : ℕ) (name : List ℕ) (to : ℕ) (new : List ℕ) (i : ℕ) → TreeLasts (suc names) (moved dir name to new i t)
  moved-lasts dir name to new i =
      let is_dir : Bool = body_is is_directory t i in
      let shrunk : Inodes = with_inode dir (without_entry name is_dir) t.inodes in
      let grown : Inodes = with_inode to (with_entry new i is_dir) shrunk in
      let standing : Body → Body = with_standing (next_standing t to) in
      record {
        next = let before = lasts.next in omega arith;
        inodes =
            inodes-with (suc names) grown i (with_body standing) (body-lasts standing (text-with_standing (next_standing t to)))
            (inodes-entered names shrunk to new i is_dir (inodes-with names t.inodes dir (without_entry name is_dir) (without-lasts name is_dir) lasts.inodes));
      }

  with-lasts : (k : ℕ) (g : Inode → Inode) → KeepsLasting g → InodesLast names (with_inode k g t.inodes)
  with-lasts k g keeps = inodes-with names t.inodes k g keeps lasts.inodes

  pub held-lasts : (i : ℕ) → TreeLasts names (held i t)
  held-lasts i = record { next = lasts.next; inodes = with-lasts i (with_holds (λ n. n + 1)) (holds-last (λ n. n + 1)) }

  pub released-lasts : (i : ℕ) → TreeLasts names (released i t)
  released-lasts i = record {
    next = lasts.next;
    inodes = inodes-dropped names (with_inode i (with_holds (λ n. n - 1)) t.inodes) i (with-lasts i (with_holds (λ n. n - 1)) (holds-last (λ n. n - 1)));
  }

  pub mode_set-lasts : (i mode : ℕ) → TreeLasts names (mode_set i mode t)
  mode_set-lasts i mode = record { next = lasts.next; inodes = with-lasts i (with_mode mode) (mode-lasts mode) }

  pub owner_set-lasts : (i uid gid : ℕ) → (uid < 2 ^ 32) × (gid < 2 ^ 32) → TreeLasts names (owner_set i uid gid t)
  owner_set-lasts i uid gid small = record { next = lasts.next; inodes = with-lasts i (with_owner uid gid) (owner-lasts uid gid small) }

  pub bytes_set-lasts : (i : ℕ) (f : List ℕ → List ℕ) → TreeLasts names (bytes_set i f t)
  bytes_set-lasts i f = record { next = lasts.next; inodes = with-lasts i (with_body (with_bytes f)) (body-lasts (with_bytes f) (text-with_bytes f)) }

-- a name that another one takes the place of goes first, which draws nothing
pub renamed-lasts : (names : ℕ) (t : Tree) → TreeLasts names t → (dir : ℕ) (name : List ℕ) (to : ℕ) (new : List ℕ) → TreeLasts (suc names) (renamed dir name to new t)
renamed-lasts names t lasts dir name to new = by (entry t dir name)
  where
    onto : (i old : ℕ) (b : Bool) → TreeLasts (suc names) (cond b t (moved dir name to new i (unlinked to new old t)))
    onto i old true = tree-later names (suc names) (omega arith) t lasts
    onto i old false = moved-lasts names (unlinked to new old t) (unlinked-lasts names t lasts to new old) dir name to new i

    by-old : (i : ℕ) (o : Option ℕ) → TreeLasts (suc names) (renamed_onto dir name to new i o t)
    by-old i None = moved-lasts names t lasts dir name to new i
    by-old i (Some old) = onto i old (nat_eq i old)

    by : (o : Option ℕ) → TreeLasts (suc names) (option_map_or (λ i. renamed_onto dir name to new i (entry t to new) t) o t)
    by None = tree-later names (suc names) (omega arith) t lasts
    by (Some i) = by-old i (entry t to new)
