-- Parts of rows, on pieces of the caller's memory and on directories that are to be changed, keep to what their calls do.
use Rattle.std.proofs.Common.{◌≡◌, ℕ, Bool, true, false, ◌&&◌, List, [], ◌∷◌, refl, Option, Some, None}
use Rattle.kr_calls.specs.pr_base.declared.errno.Errno.TheVariants.{ENOENT, EACCES, EFAULT, EINVAL, ENOTDIR}
use Rattle.kr_files.specs.kr_tree.Tree.{Node, Body, Directory, RegularFile, SymbolicLink, ProcessDirectory}
use Rattle.kr_files.specs.kr_tree.declared.place.Host.{Host}
use Rattle.kr_files.specs.kr_tree.declared.place.Host.TheVariants as host
use Rattle.kr_calls.specs.rv_mem.declared.rights.Use.{Use}
use Rattle.kr_calls.specs.CallTable.{Doing}
use Rattle.kr_model.specs.Change.{Change}
use Rattle.kr_model.specs.Known.{Known, known_node}
use Rattle.kr_model.specs.Reply.{Replying}
use Rattle.kr_model.specs.Asking.{writable_body, writable_node, writable, is_over}
use Rattle.kr_model.specs.Pieces.{Piece, Part, may_use_all, read_all, write_all, if_usable, hand, if_summed, with_list, pieces_of}
use Rattle.kr_model.specs.ChangeKinds.{are_of}
use Rattle.kr_model.proofs.KeepingLemmas.{Keeps, refused, answered, tested, read, wrote, either}

used : {does : Doing} {built : Bool} {w : Bool} (what : Use) (pieces : List Piece) {next : Bool → Replying} → ((b : Bool) → Keeps does built w (next b)) → Keeps does built w (may_use_all what pieces next)
used what [] keeps = keeps true
used what (p ∷ pieces) keeps = tested (λ allowed. used what pieces (λ others. keeps (allowed && others)))

pub all_read : {does : Doing} {built : Bool} {w : Bool} (pieces : List Piece) {next : List ℕ → Replying} → ((bytes : List ℕ) → Keeps does built w (next bytes)) → Keeps does built w (read_all pieces next)
all_read [] keeps = keeps []
all_read (p ∷ pieces) keeps = read (λ bytes. all_read pieces (λ others. keeps _))

all_written : {does : Doing} {built : Bool} {w : Bool} → does.writes_memory ≡ true → (parts : List Part) {next : Replying} → ((w : Bool) → Keeps does built w next) → Keeps does built w (write_all parts next)
all_written {w} writes [] keeps = keeps w
all_written writes (p ∷ parts) keeps = wrote writes (all_written writes parts keeps)

pub usable : {does : Doing} {built : Bool} (what : Use) (pieces : List Piece) {next : Replying} → Keeps does built false next → Keeps does built false (if_usable what pieces next)
usable what pieces keeps = used what pieces (λ b. either b keeps (refused EFAULT refl))

pub handed : {does : Doing} {built : Bool} → does.writes_memory ≡ true → (pieces : List Piece) (bytes : List ℕ) (changes : List Change) → are_of does.makes changes ≡ true → Keeps does built false (hand pieces bytes changes)
handed writes pieces [] changes kept = answered refl
handed writes pieces (b ∷ bytes) changes kept = usable _ _ (all_written writes _ (λ w. answered kept))

summed : {does : Doing} {built : Bool} (pieces : List Piece) {next : List Piece → Replying} → ((pieces : List Piece) → Keeps does built false (next pieces)) → Keeps does built false (if_summed pieces next)
summed pieces keeps = either _ (refused EINVAL refl) (keeps _)

pub listed : {does : Doing} {built : Bool} (list count : ℕ) {next : List Piece → Replying} → ((pieces : List Piece) → Keeps does built false (next pieces)) → Keeps does built false (with_list list count next)
listed list count keeps = either _ (refused EINVAL refl) (tested (λ b. either b (read (λ bytes. summed (pieces_of count bytes) keeps)) (refused EFAULT refl)))

-- ---- directories to be changed

body_writable : {does : Doing} {built : Bool} (k : Known) (n : Node) (body : Body) {next : Replying} → Keeps does built false next → Keeps does built false (writable_body k n body next)
body_writable k n (Directory entries None) keeps = refused ENOENT refl
body_writable k n (Directory entries (Some standing)) keeps = either _ keeps (refused EACCES refl)
body_writable k n (RegularFile bytes) keeps = refused ENOTDIR refl
body_writable k n (SymbolicLink text) keeps = refused ENOTDIR refl
body_writable k n (ProcessDirectory standing) keeps = refused EACCES refl

node_writable : {does : Doing} {built : Bool} (k : Known) (o : Option Node) {next : Node → Replying} → ((n : Node) → Keeps does built false (next n)) → Keeps does built false (writable_node k o next)
node_writable k None keeps = refused ENOENT refl
node_writable k (Some n) keeps = body_writable k n n.body (keeps n)

pub written_to : {does : Doing} {built : Bool} (k : Known) (at : Host) {next : ℕ → Node → Replying} → ((d : ℕ) (n : Node) → Keeps does built false (next d n)) → Keeps does built false (writable k at next)
written_to k (host.Node i) keeps = node_writable k (known_node k i) (keeps i)
written_to k (host.Proc i at) keeps = either (is_over k at) (refused ENOENT refl) (refused EACCES refl)
