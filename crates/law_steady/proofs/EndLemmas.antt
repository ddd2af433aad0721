-- Rows at all ends of which something holds of the reply.
use Rattle.std.proofs.Common.{◌≡◌, cond, ℕ, Bool, true, false, ◌&&◌, List, [], ◌∷◌, Option, Some, None, refl, ℤ}
use Rattle.std.specs.Option.{option_map_or}
use Rattle.law_lawful.specs.pr_base.declared.errno.Errno.{Errno}
use Rattle.law_lawful.specs.pr_base.declared.errno.Errno.TheVariants.{ENOENT, EBADF, EACCES, EFAULT, EINVAL, ENOTDIR}
use Rattle.law_lawful.specs.rv_mem.Actions.{MayUse, ReadBytes, allows_uses, carried_out}
use Rattle.law_lawful.specs.rv_mem.Memory.{Memory, after_read}
use Rattle.law_lawful.specs.rv_mem.Pages.{bytes_from}
use Rattle.law_lawful.specs.rv_mem.declared.rights.Use.{Use}
use Rattle.law_lawful.specs.kr_files.declared.opened.Opened.{Opened}
use Rattle.law_lawful.specs.kr_tree.Tree.{Body, Directory, Node, ProcessDirectory, RegularFile, SymbolicLink}
use Rattle.law_lawful.specs.kr_tree.declared.place.Host.{Host}
use Rattle.law_lawful.specs.kr_tree.declared.place.Host.TheVariants as host
use Rattle.law_lawful.specs.kr_model.Asking.{descriptor_number, is_over, of_number, or_badf, or_closed, writable, writable_body, writable_node}
use Rattle.law_lawful.specs.kr_model.Change.{Change, End}
use Rattle.law_lawful.specs.kr_model.Known.{Known, known_node}
use Rattle.law_lawful.specs.kr_model.Pieces.{Piece, if_summed, if_usable, may_use_all, pieces_of, read_all, with_list}
use Rattle.law_lawful.specs.kr_model.Reply.{Reply, Replying, answers, done, ends, refusal, refuse, waits}
use Rattle.law_lawful.specs.kr_model.declared.outcome.Outcome.TheVariants.{Ended, Wait}

-- whatever the memory shows; such rows write into none
pub data Ends (P : Reply → Type 0) : Replying → Type 0 where
  refused : (e : Errno) → P (refusal e) → Ends P (refuse e)
  answered : {n : ℕ} {changes : List Change} → P (answers n changes) → Ends P (done n changes)
  waiting : P (record { outcome = Wait; changes = [] }) → Ends P waits
  ending : {status : ℕ} → P (record { outcome = Ended; changes = End status ∷ [] }) → Ends P (ends status)
  tested : {at n : ℕ} {uses : List Use} {next : Bool → Replying} → ((b : Bool) → Ends P (next b)) → Ends P (MayUse at n uses next)
  read : {at n : ℕ} {next : List ℕ → Replying} → ((bytes : List ℕ) → Ends P (next bytes)) → Ends P (ReadBytes at n next)
  either : (b : Bool) {x y : Replying} → Ends P x → Ends P y → Ends P (cond b x y)

pub ends_hold : {P : Reply → Type 0} (action : Replying) → Ends P action → (m : Memory) → P (carried_out action m).reply
ends_hold action (refused e holds) m = holds
ends_hold action (answered holds) m = holds
ends_hold action (waiting holds) m = holds
ends_hold action (ending holds) m = holds
ends_hold action (tested {at = at} {n = n} {uses = uses} {next = next} each) m = ends_hold (next (allows_uses m.pages at n uses)) (each (allows_uses m.pages at n uses)) m
ends_hold action (read {at = at} {n = n} {next = next} each) m = ends_hold (next (bytes_from m.pages at n)) (each (bytes_from m.pages at n)) (after_read m at n)
ends_hold action (either true {x = x} first second) m = ends_hold x first m
ends_hold action (either false {y = y} first second) m = ends_hold y second m

-- where the changes pass a test
abbrev pub Pass : (List Change → Bool) → Replying → Type 0
Pass test action = Ends (λ reply. test reply.changes ≡ true) action

pub ends_pass : (test : List Change → Bool) (action : Replying) → Pass test action → (m : Memory) → test (carried_out action m).reply.changes ≡ true
ends_pass test action passes m = ends_hold action passes m

-- ---- parts of rows

pub maybe : {P : Reply → Type 0} {A : Type 0} {f : A → Replying} (o : Option A) {other : Replying} → ((x : A) → Ends P (f x)) → Ends P other → Ends P (option_map_or f o other)
maybe None some none = none
maybe (Some x) some none = some x

-- where it holds of each error
module _ {P : Reply → Type 0} (refuses : (e : Errno) → P (refusal e)) where
  by_number : (k : Known) (fd : Option ℕ) {next : ℕ → Opened (Unit {0}) → Replying} → ((n : ℕ) (o : Opened (Unit {0})) → Ends P (next n o)) → Ends P (of_number k fd next)
  by_number k None each = refused EBADF (refuses EBADF)
  by_number k (Some fd) {next = next} each = when_open (k.opened fd)
    where
      when_open : (o : Option (Opened (Unit {0}))) → Ends P (or_closed o (next fd))
      when_open None = refused EBADF (refuses EBADF)
      when_open (Some o) = each fd o

  pub by_open : (k : Known) (fd : ℤ) {next : ℕ → Opened (Unit {0}) → Replying} → ((n : ℕ) (o : Opened (Unit {0})) → Ends P (next n o)) → Ends P (or_badf k fd next)
  by_open k fd each = by_number k (descriptor_number fd) each

  body_writable : (k : Known) (n : Node) (body : Body) {next : Replying} → Ends P next → Ends P (writable_body k n body next)
  body_writable k n (Directory entries None) each = refused ENOENT (refuses ENOENT)
  body_writable k n (Directory entries (Some standing)) each = either _ each (refused EACCES (refuses EACCES))
  body_writable k n (RegularFile bytes) each = refused ENOTDIR (refuses ENOTDIR)
  body_writable k n (SymbolicLink text) each = refused ENOTDIR (refuses ENOTDIR)
  body_writable k n (ProcessDirectory standing) each = refused EACCES (refuses EACCES)

  node_writable : (k : Known) (o : Option Node) {next : Node → Replying} → ((n : Node) → Ends P (next n)) → Ends P (writable_node k o next)
  node_writable k None each = refused ENOENT (refuses ENOENT)
  node_writable k (Some n) each = body_writable k n n.body (each n)

  -- a directory that can be written is one of the tree
  pub written_in : (k : Known) (at : Host) {next : ℕ → Node → Replying} → ((d : ℕ) (n : Node) → at ≡ host.Node d → Ends P (next d n)) → Ends P (writable k at next)
  written_in k (host.Node i) each = node_writable k (known_node k i) (λ n. each i n refl)
  written_in k (host.Proc i at) each = either (is_over k at) (refused ENOENT (refuses ENOENT)) (refused EACCES (refuses EACCES))

  pub written_to : (k : Known) (at : Host) {next : ℕ → Node → Replying} → ((d : ℕ) (n : Node) → Ends P (next d n)) → Ends P (writable k at next)
  written_to k at each = written_in k at (λ d n is. each d n)

  used : (what : Use) (pieces : List Piece) {next : Bool → Replying} → ((b : Bool) → Ends P (next b)) → Ends P (may_use_all what pieces next)
  used what [] each = each true
  used what (p ∷ pieces) each = tested (λ allowed. used what pieces (λ others. each (allowed && others)))

  pub all_read : (pieces : List Piece) {next : List ℕ → Replying} → ((bytes : List ℕ) → Ends P (next bytes)) → Ends P (read_all pieces next)
  all_read [] each = each []
  all_read (p ∷ pieces) each = read (λ bytes. all_read pieces (λ others. each _))

  pub usable : (what : Use) (pieces : List Piece) {next : Replying} → Ends P next → Ends P (if_usable what pieces next)
  usable what pieces each = used what pieces (λ b. either b each (refused EFAULT (refuses EFAULT)))

  summed : (pieces : List Piece) {next : List Piece → Replying} → ((pieces : List Piece) → Ends P (next pieces)) → Ends P (if_summed pieces next)
  summed pieces each = either _ (refused EINVAL (refuses EINVAL)) (each _)

  pub listed : (list count : ℕ) {next : List Piece → Replying} → ((pieces : List Piece) → Ends P (next pieces)) → Ends P (with_list list count next)
  listed list count each =
      either _ (refused EINVAL (refuses EINVAL)) (tested (λ b. either b (read (λ bytes. summed (pieces_of count bytes) each)) (refused EFAULT (refuses EFAULT))))
