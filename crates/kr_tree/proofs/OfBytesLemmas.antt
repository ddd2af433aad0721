-- Names, files and texts stay of bytes.
use Rattle.std.specs.FinMap as map
use Rattle.std.proofs.Common.{◌≡◌, ℕ, zero, suc, ◌+◌, ◌-◌, ◌<◌, Bool, true, false, not, cond, List, [], ◌∷◌, ◌++◌, length, take, drop, filter, replicate, sym, ◌∙◌, subst, arith, Option, Some, None, slice_index_or, Fits, w8}
use Rattle.std.specs.Prelude.{bytes_eq}
use Rattle.std.specs.List.{AllByRecursion}
use Rattle.std.specs.Ordering.{nat_cmp}
use Rattle.kr_inode.specs.declared.standing.Standing.{Standing}
use Rattle.kr_tree.specs.Tree.{Tree, Inodes, Inode, Body, Directory, RegularFile, SymbolicLink, ProcessDirectory, root, body_is, is_directory}
use Rattle.kr_tree.specs.Changes.{with_entries, with_standing, with_bytes, without_name, sized, overwritten, with_entry, without_entry, with_body, with_names, unnamed, with_inode, fresh, new_tree, added, linked, moved, next_standing}
use Rattle.kr_tree.specs.Lawful.{HasBytes, AreBytes, IsOfBytes}
use Rattle.kr_inode.proofs.pr_base.MapLemmas.{get-insert_same, get-insert_other, get-remove_same, get-remove_other, by_key, each-changed}

-- ---- lists

all-append : {A : Type 0} (P : A → Type 0) (xs ys : List A) → AllByRecursion P xs → AllByRecursion P ys → AllByRecursion P (xs ++ ys)
all-append P [] ys all more = more
all-append P (x ∷ xs) ys all more = (all.0, all-append P xs ys all.1 more)

all-filter : {A : Type 0} (P : A → Type 0) (test : A → Bool) (xs : List A) → AllByRecursion P xs → AllByRecursion P (filter test xs)
all-filter P test [] all = tt
all-filter P test (x ∷ xs) all = elim (test x) as (λ b. AllByRecursion P (cond b (x ∷ filter test xs) (filter test xs))) [
  | true ↦ (all.0, all-filter P test xs all.1)
  | false ↦ all-filter P test xs all.1
]

all-take : {A : Type 0} (P : A → Type 0) (n : ℕ) (xs : List A) → AllByRecursion P xs → AllByRecursion P (take n xs)
all-take P zero [] all = tt
all-take P zero (x ∷ xs) all = tt
all-take P (suc n) [] all = tt
all-take P (suc n) (x ∷ xs) all = (all.0, all-take P n xs all.1)

all-drop : {A : Type 0} (P : A → Type 0) (n : ℕ) (xs : List A) → AllByRecursion P xs → AllByRecursion P (drop n xs)
all-drop P zero [] all = tt
all-drop P zero (x ∷ xs) all = all
all-drop P (suc n) [] all = tt
all-drop P (suc n) (x ∷ xs) all = all-drop P n xs all.1

all-replicate : {A : Type 0} (P : A → Type 0) (n : ℕ) (x : A) → P x → AllByRecursion P (replicate n x)
all-replicate P zero x is = tt
all-replicate P (suc n) x is = (is, all-replicate P n x is)

-- what a slice of bytes is known to have
pub known_bytes : (bytes : List ℕ) → ((i : ℕ) → Fits w8 (slice_index_or bytes i 0)) → AreBytes bytes
known_bytes [] fits = tt
known_bytes (b ∷ bytes) fits = (let here = (fits 0).fits in omega (arith, here), known_bytes bytes (λ i. fits (suc i)))

-- ---- bytes of a file

pub of_bytes-sized : (size : ℕ) (bytes : List ℕ) → AreBytes bytes → AreBytes (sized size bytes)
of_bytes-sized size bytes are = all-append (λ b. b < 256) (take size bytes) (replicate (size - length bytes) 0) (all-take (λ b. b < 256) size bytes are) (all-replicate (λ b. b < 256) (size - length bytes) 0 (omega arith))

pub of_bytes-overwritten : (at : ℕ) (new bytes : List ℕ) → AreBytes new → AreBytes bytes → AreBytes (overwritten at new bytes)
of_bytes-overwritten at [] bytes are_new are = are
of_bytes-overwritten at (b ∷ new) bytes are_new are =
    all-append (λ b. b < 256) (sized at bytes ++ b ∷ new) (drop (at + length (b ∷ new)) bytes)
    (all-append (λ b. b < 256) (sized at bytes) (b ∷ new) (of_bytes-sized at bytes are) are_new)
    (all-drop (λ b. b < 256) (at + length (b ∷ new)) bytes are)

-- ---- one node

pub of_bytes-with_entry : (name : List ℕ) (serial i : ℕ) (b : Body) → AreBytes name → IsOfBytes b → IsOfBytes (with_entries (λ es. es ++ (record { name = name; serial = serial; inode = i }) ∷ []) b)
of_bytes-with_entry name serial i (Directory es standing) are is = all-append (λ e. AreBytes e.name) es (record { name = name; serial = serial; inode = i } ∷ []) is (are, tt)
of_bytes-with_entry name serial i (RegularFile bytes) are is = is
of_bytes-with_entry name serial i (SymbolicLink text) are is = is
of_bytes-with_entry name serial i (ProcessDirectory standing) are is = is

pub of_bytes-without_entry : (name : List ℕ) (b : Body) → IsOfBytes b → IsOfBytes (with_entries (without_name name) b)
of_bytes-without_entry name (Directory es standing) is = all-filter (λ e. AreBytes e.name) (λ e. not (bytes_eq name e.name)) es is
of_bytes-without_entry name (RegularFile bytes) is = is
of_bytes-without_entry name (SymbolicLink text) is = is
of_bytes-without_entry name (ProcessDirectory standing) is = is

pub of_bytes-with_standing : (s : Option Standing) (b : Body) → IsOfBytes b → IsOfBytes (with_standing s b)
of_bytes-with_standing s (Directory es standing) is = is
of_bytes-with_standing s (RegularFile bytes) is = is
of_bytes-with_standing s (SymbolicLink text) is = is
of_bytes-with_standing s (ProcessDirectory standing) is = is

pub of_bytes-with_bytes : (f : List ℕ → List ℕ) → ((bytes : List ℕ) → AreBytes bytes → AreBytes (f bytes)) → (b : Body) → IsOfBytes b → IsOfBytes (with_bytes f b)
of_bytes-with_bytes f keeps (Directory es standing) is = is
of_bytes-with_bytes f keeps (RegularFile bytes) is = keeps bytes is
of_bytes-with_bytes f keeps (SymbolicLink text) is = is
of_bytes-with_bytes f keeps (ProcessDirectory standing) is = is

-- ---- the inodes

abbrev pub AreOfBytes : Inodes → Type 0
AreOfBytes m = (q : ℕ) (z : Inode) → map.get m q ≡ Some z → IsOfBytes z.node.body

pub of_bytes-insert : (m : Inodes) (k : ℕ) (x : Inode) → AreOfBytes m → IsOfBytes x.node.body → AreOfBytes (map.insert m k x)
of_bytes-insert m k x are is = by_key (λ q. (z : Inode) → map.get (map.insert m k x) q ≡ Some z → IsOfBytes z.node.body) k
    (λ z at. let same : Some x ≡ Some z = sym (get-insert_same m k x) ∙ at in subst (λ y. IsOfBytes y.node.body) (same_inode x z same) is)
    (λ q other z at. are q z (sym (get-insert_other m k x q other) ∙ at))
  where
    same_inode : (y z : Inode) → Some y ≡ Some z → y ≡ z
    same_inode y z e = cc

pub of_bytes-removed : (m : Inodes) (k : ℕ) → AreOfBytes m → AreOfBytes (map.remove m k)
of_bytes-removed m k are = by_key (λ q. (z : Inode) → map.get (map.remove m k) q ≡ Some z → IsOfBytes z.node.body) k
    (λ z at. absurd (none z (sym (get-remove_same m k) ∙ at)))
    (λ q other z at. are q z (sym (get-remove_other m k q other) ∙ at))
  where
    none : (z : Inode) → None ≡ Some z → ⊥
    none z e = cc

pub of_bytes-with : (m : Inodes) (k : ℕ) (g : Inode → Inode) → AreOfBytes m → ((z : Inode) → IsOfBytes z.node.body → IsOfBytes (g z).node.body) → AreOfBytes (with_inode k g m)
of_bytes-with m k g are step = each-changed (λ z. IsOfBytes z.node.body) m k g are (λ z at. step z)

-- ---- what each change leaves

pub of_bytes-new_tree : (mode uid gid : ℕ) → HasBytes (new_tree mode uid gid)
of_bytes-new_tree mode uid gid = of_bytes-insert map.empty root (fresh mode uid gid (Directory [] (Some (record { inode = root; serial = 0 })))) (λ q z at. absurd (none z (sym (map.get-empty nat_cmp q) ∙ at))) tt
  where
    none : (z : Inode) → None ≡ Some z → ⊥
    none z e = cc

pub of_bytes-added : (t : Tree) → HasBytes t → (dir : ℕ) (name : List ℕ) (mode uid gid : ℕ) (b : Body) → AreBytes name → IsOfBytes b → HasBytes (added dir name mode uid gid b t)
of_bytes-added t has dir name mode uid gid b are is =
    of_bytes-insert (with_inode dir (with_entry name t.next (is_directory b)) t.inodes) t.next (fresh mode uid gid (with_standing (next_standing t dir) b))
    (of_bytes-with t.inodes dir (with_entry name t.next (is_directory b)) has (λ z. of_bytes-with_entry name z.next_serial t.next z.node.body are))
    (of_bytes-with_standing (next_standing t dir) b is)

pub of_bytes-linked : (t : Tree) → HasBytes t → (dir : ℕ) (name : List ℕ) (file : ℕ) → AreBytes name → HasBytes (linked dir name file t)
of_bytes-linked t has dir name file are =
    of_bytes-with (with_inode dir (with_entry name file false) t.inodes) file (with_names (λ n. n + 1))
    (of_bytes-with t.inodes dir (with_entry name file false) has (λ z. of_bytes-with_entry name z.next_serial file z.node.body are)) (λ z is. is)

pub of_bytes-parted : (m : Inodes) → AreOfBytes m → (dir : ℕ) (name : List ℕ) (i : ℕ) (is_dir : Bool) → AreOfBytes (with_inode i unnamed (with_inode dir (without_entry name is_dir) m))
of_bytes-parted m are dir name i is_dir =
    of_bytes-with (with_inode dir (without_entry name is_dir) m) i unnamed
    (of_bytes-with m dir (without_entry name is_dir) are (λ z. of_bytes-without_entry name z.node.body)) (λ z. of_bytes-with_standing None z.node.body)

pub of_bytes-moved : (t : Tree) → HasBytes t → (dir : ℕ) (name : List ℕ) (to : ℕ) (new : List ℕ) (i : ℕ) → AreBytes new → HasBytes (moved dir name to new i t)
of_bytes-moved t has dir name to new i are =
    let is_dir : Bool = body_is is_directory t i in
    let shrunk : Inodes = with_inode dir (without_entry name is_dir) t.inodes in
    of_bytes-with (with_inode to (with_entry new i is_dir) shrunk) i (with_body (with_standing (next_standing t to)))
    (of_bytes-with shrunk to (with_entry new i is_dir)
    (of_bytes-with t.inodes dir (without_entry name is_dir) has (λ z. of_bytes-without_entry name z.node.body))
    (λ z. of_bytes-with_entry new z.next_serial i z.node.body are)) (λ z. of_bytes-with_standing (next_standing t to) z.node.body)
