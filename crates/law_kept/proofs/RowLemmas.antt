-- Rows that write bytes and come to changes that bring bytes: their parts.
use Rattle.std.proofs.Common.{◌≡◌, ℕ, Bool, true, false, ◌&&◌, List, [], ◌∷◌, ◌++◌, length, drop, refl, Option, Some, None, ℤ}
use Rattle.std.specs.List.{AllByRecursion, list_all}
use Rattle.std.specs.Option.{option_map_or}
use Rattle.kr_first.specs.pr_base.declared.errno.Errno.{Errno}
use Rattle.kr_first.specs.pr_base.declared.errno.Errno.TheVariants.{EACCES, EBADF, EFAULT, EINVAL, ENOENT, ENOTDIR}
use Rattle.kr_first.specs.rv_mem.Actions.{write_if_allowed}
use Rattle.kr_first.specs.rv_mem.declared.rights.Use.{Use}
use Rattle.kr_first.specs.rv_mem.declared.rights.Use.TheVariants.{Write}
use Rattle.kr_first.specs.kr_tree.Lawful.{AreBytes}
use Rattle.kr_first.specs.kr_tree.Tree.{Body, Directory, Node, ProcessDirectory, RegularFile, SymbolicLink}
use Rattle.kr_first.specs.kr_tree.declared.place.Host.{Host}
use Rattle.kr_first.specs.kr_tree.declared.place.Host.TheVariants as host
use Rattle.kr_first.specs.kr_files.declared.opened.Opened.{Opened}
use Rattle.kr_first.specs.kr_model.Asking.{descriptor_number, is_over, of_number, or_badf, or_closed, writable, writable_body, writable_node}
use Rattle.kr_first.specs.kr_model.Change.{AddNode, Change, LinkNode, MoveName, OpenFile, PutIntoPipe, ReplaceExecutable, ReplaceImage, WriteFile}
use Rattle.kr_first.specs.kr_model.Known.{Known, known_node}
use Rattle.kr_first.specs.kr_model.Pieces.{Part, Piece, cut_to, hand, if_summed, if_usable, laid_into, may_use_all, pieces_of, read_all, with_list, write_all}
use Rattle.kr_first.specs.kr_model.Reply.{Reply, Replying, done, ends, refuse, waits}
use Rattle.law_kept.specs.Bringing.{BringBytes, BringsBytes}
use Rattle.law_kept.proofs.ActionLemmas.{PutsBytes, either_way, read, tested, told, wrote}
use Rattle.law_kept.proofs.ListLemmas.{first-of, joined, rest-of}

-- a row that writes bytes, and of which each reply brings bytes
abbrev pub Puts : Replying → Type 0
Puts row = PutsBytes (λ (reply : Reply). BringBytes reply.changes) row

-- ---- ends

-- whether a change brings nothing that is read
abbrev pub is_plain : Change → Bool
is_plain (AddNode dir name mode uid gid body) = false
is_plain (LinkNode dir name inode) = false
is_plain (MoveName dir name to new) = false
is_plain (WriteFile inode at bytes) = false
is_plain (OpenFile fd cloexec from o) = false
is_plain (PutIntoPipe pipe bytes) = false
is_plain (ReplaceImage image brk) = false
is_plain (ReplaceExecutable from host dir name) = false
is_plain _ = true

plain-brings : (c : Change) → is_plain c ≡ true → BringsBytes c
plain-brings (AddNode dir name mode uid gid body) e = absurd cc
plain-brings (LinkNode dir name inode) e = absurd cc
plain-brings (MoveName dir name to new) e = absurd cc
plain-brings (WriteFile inode at bytes) e = absurd cc
plain-brings (OpenFile fd cloexec from o) e = absurd cc
plain-brings (PutIntoPipe pipe bytes) e = absurd cc
plain-brings (ReplaceImage image brk) e = absurd cc
plain-brings (ReplaceExecutable from host dir name) e = absurd cc
plain-brings _ e = tt

pub all-plain : (cs : List Change) → list_all is_plain cs ≡ true → BringBytes cs
all-plain [] e = tt
all-plain (c ∷ cs) e = by (is_plain c) refl (all-plain cs) e
  where
    by : (b : Bool) → is_plain c ≡ b → (list_all is_plain cs ≡ true → BringBytes cs) → (b && list_all is_plain cs) ≡ true → BringBytes (c ∷ cs)
    by true one rest e = (plain-brings c one, rest e)
    by false one rest e = absurd cc

pub refused : (e : Errno) → Puts (refuse e)
refused e = told tt

-- with plain changes
pub answered : {n : ℕ} {changes : List Change} → list_all is_plain changes ≡ true → Puts (done n changes)
answered {n} {changes} e = told (all-plain changes e)

-- and with others
pub brought : {n : ℕ} {changes : List Change} → BringBytes changes → Puts (done n changes)
brought brings = told brings

pub waiting : Puts waits
waiting = told tt

pub ending : {status : ℕ} → Puts (ends status)
ending = told (tt, tt)

pub maybe : {A : Type 0} {f : A → Replying} (o : Option A) {other : Replying} → ((x : A) → o ≡ Some x → Puts (f x)) → Puts other → Puts (option_map_or f o other)
maybe None some none = none
maybe (Some x) some none = some x refl

-- bytes that are written where they may be
pub written : (at : ℕ) (bytes : List ℕ) {refused next : Replying} → AreBytes bytes → Puts refused → Puts next → Puts (write_if_allowed at bytes refused next)
written at bytes are first second = tested (λ b. either_way b (wrote are second) first)

-- ---- descriptors

by-number : (k : Known) (fd : Option ℕ) {next : ℕ → Opened (Unit {0}) → Replying} → ((n : ℕ) (o : Opened (Unit {0})) → Puts (next n o)) → Puts (of_number k fd next)
by-number k None puts = refused EBADF
by-number k (Some fd) {next = next} puts = when-open (k.opened fd)
  where
    when-open : (o : Option (Opened (Unit {0}))) → Puts (or_closed o (next fd))
    when-open None = refused EBADF
    when-open (Some o) = puts fd o

pub by-open : (k : Known) (fd : ℤ) {next : ℕ → Opened (Unit {0}) → Replying} → ((n : ℕ) (o : Opened (Unit {0})) → Puts (next n o)) → Puts (or_badf k fd next)
by-open k fd puts = by-number k (descriptor_number fd) puts

-- ---- pieces

used : (what : Use) (pieces : List Piece) {next : Bool → Replying} → ((b : Bool) → Puts (next b)) → Puts (may_use_all what pieces next)
used what [] puts = puts true
used what (p ∷ pieces) puts = tested (λ allowed. used what pieces (λ others. puts (allowed && others)))

pub all-read : (pieces : List Piece) {next : List ℕ → Replying} → ((bytes : List ℕ) → AreBytes bytes → Puts (next bytes)) → Puts (read_all pieces next)
all-read [] puts = puts [] tt
all-read (p ∷ pieces) puts = read (λ bytes are. all-read pieces (λ others more. puts (bytes ++ others) (joined bytes others are more)))

-- parts of bytes
abbrev ArePutParts : List Part → Type 0
ArePutParts parts = AllByRecursion (λ (p : Part). AreBytes p.bytes) parts

laid-parts : (pieces : List Piece) (bytes : List ℕ) → AreBytes bytes → ArePutParts (laid_into pieces bytes)
laid-parts [] bytes are = tt
laid-parts (p ∷ pieces) bytes are = (first-of p.count bytes are, laid-parts pieces (drop p.count bytes) (rest-of p.count bytes are))

all-written : (parts : List Part) {next : Replying} → ArePutParts parts → Puts next → Puts (write_all parts next)
all-written [] are puts = puts
all-written (p ∷ parts) are puts = wrote are.0 (all-written parts are.1 puts)

pub usable : (what : Use) (pieces : List Piece) {next : Replying} → Puts next → Puts (if_usable what pieces next)
usable what pieces puts = used what pieces (λ b. either_way b puts (refused EFAULT))

pub handed : (pieces : List Piece) (bytes : List ℕ) (changes : List Change) → AreBytes bytes → list_all is_plain changes ≡ true → Puts (hand pieces bytes changes)
handed pieces [] changes are plain = answered refl
handed pieces (b ∷ bytes) changes are plain =
    usable Write (cut_to (length (b ∷ bytes)) pieces) (all-written (laid_into (cut_to (length (b ∷ bytes)) pieces) (b ∷ bytes)) (laid-parts (cut_to (length (b ∷ bytes)) pieces) (b ∷ bytes) are) (answered plain))

summed : (pieces : List Piece) {next : List Piece → Replying} → ((pieces : List Piece) → Puts (next pieces)) → Puts (if_summed pieces next)
summed pieces puts = either_way _ (refused EINVAL) (puts _)

pub listed : (list count : ℕ) {next : List Piece → Replying} → ((pieces : List Piece) → Puts (next pieces)) → Puts (with_list list count next)
listed list count puts = either_way _ (refused EINVAL) (tested (λ b. either_way b (read (λ bytes are. summed (pieces_of count bytes) puts)) (refused EFAULT)))

-- ---- directories to be changed

body-writable : (k : Known) (n : Node) (body : Body) {next : Replying} → Puts next → Puts (writable_body k n body next)
body-writable k n (Directory entries None) puts = refused ENOENT
body-writable k n (Directory entries (Some standing)) puts = either_way _ puts (refused EACCES)
body-writable k n (RegularFile bytes) puts = refused ENOTDIR
body-writable k n (SymbolicLink text) puts = refused ENOTDIR
body-writable k n (ProcessDirectory standing) puts = refused EACCES

node-writable : (k : Known) (o : Option Node) {next : Node → Replying} → ((n : Node) → Puts (next n)) → Puts (writable_node k o next)
node-writable k None puts = refused ENOENT
node-writable k (Some n) puts = body-writable k n n.body (puts n)

pub written-to : (k : Known) (at : Host) {next : ℕ → Node → Replying} → ((d : ℕ) (n : Node) → Puts (next d n)) → Puts (writable k at next)
written-to k (host.Node i) puts = node-writable k (known_node k i) (puts i)
written-to k (host.Proc i at) puts = either_way (is_over k at) (refused ENOENT) (refused EACCES)
