-- Who gives a file to a group goes on searching it as its owner.
use Rattle.std.proofs.Common.{◌≡◌, ℕ, Bool, true, false, ◌&&◌, ◌||◌, not, cond, List, [], ◌∷◌, Option, Some, None, refl, sym, ap, ◌∙◌, ℤ, arith}
use Rattle.std.specs.Prelude.{◌==◌, ◌/◌, ◌%◌, nat_eq, if◌then◌else◌}
use Rattle.std.specs.Option.{option_map, option_map_or}
use Rattle.std.proofs.lemmas.Bool.Decides.{nat_tests}
use Rattle.std.proofs.lemmas.Option.{same_Some}
use Rattle.std.proofs.lemmas.Bool.{and_parts}
use Rattle.kr_seen.proofs.pr_base.MapLemmas.{get-changed_same}
use Rattle.kr_seen.specs.pr_base.declared.errno.Errno.TheVariants.{ENOENT, EPERM}
use Rattle.kr_seen.specs.rv_mem.Actions.{carried_out}
use Rattle.kr_seen.specs.rv_mem.Memory.{Memory}
use Rattle.kr_seen.specs.kr_inode.declared.user.Right.TheVariants.{Search}
use Rattle.kr_seen.specs.kr_inode.declared.user.User.{User}
use Rattle.kr_seen.specs.kr_calls.declared.request.Request.{Request}
use Rattle.kr_seen.specs.kr_calls.declared.request.Request.TheVariants as call
use Rattle.kr_seen.specs.kr_tree.Changes.{owner_set, with_owner}
use Rattle.kr_seen.specs.kr_tree.Rights.{allows, may, right_bit}
use Rattle.kr_seen.specs.kr_tree.Tree.{Inode, Node, Tree, inode}
use Rattle.kr_seen.specs.kr_tree.declared.place.Host.{Host}
use Rattle.kr_seen.specs.kr_tree.declared.place.Host.TheVariants as host
use Rattle.kr_seen.specs.kr_tree.declared.place.Place.{Place}
use Rattle.kr_seen.specs.kr_files.declared.opened.Opened.{Opened}
use Rattle.kr_seen.specs.kr_view.View.{Row}
use Rattle.kr_seen.specs.kr_model.Applied.{Mounts, images}
use Rattle.kr_seen.specs.kr_model.Asking.{descriptor_number, is_working_directory, of_number, or_closed}
use Rattle.kr_seen.specs.kr_model.AttributeRows.{chown_by, chown_host, chown_node, chown_open, fchown_row, fchownat_here, fchownat_row, may_give, or_old, unchanged}
use Rattle.kr_seen.specs.kr_model.Change.{Change, SetOwner}
use Rattle.kr_seen.specs.kr_model.Known.{Fact, Known, fact_at, known, known_node}
use Rattle.kr_seen.specs.kr_model.Operation.{by_path, looked_up, operation}
use Rattle.kr_seen.specs.kr_model.Reply.{Replying, done, refuse}
use Rattle.kr_seen.specs.kr_model.Seen.{LooksUp, Seen}
use Rattle.kr_seen.specs.kr_model.State.{Image, State, image_layout}
use Rattle.kr_seen.specs.Carrying.{with_memory_of}
use Rattle.kr_calm.specs.Foreseen.{gives_owner}
use Rattle.kr_calm.specs.Laws.{BreakNone, OwnersBreakNone}
use Rattle.kr_calm.specs.Rules.{serves}

passed : (a b : ℕ) → (a == b) ≡ true → a ≡ b
passed a b e = grind (arith, nat_tests)

-- ---- what a call on owners changes: nothing, or the owner of what is the user's, to the user again
pub data IsGiven (k : Known) : List Change → Type 0 where
  none_given : IsGiven k []
  given : (i uid gid : ℕ) (n : Node) → known_node k i ≡ Some n → (k.user.uid == n.uid) ≡ true → uid ≡ n.uid → IsGiven k (SetOwner i uid gid ∷ [])

abbrev IsGiving : Known → Replying → Type 0
IsGiving k row = (m : Memory) → IsGiven k (carried_out row m).reply.changes

giving-either : (k : Known) (b : Bool) (x y : Replying) → IsGiving k x → IsGiving k y → IsGiving k (cond b x y)
giving-either k true x y one other = one
giving-either k false x y one other = other

still-owner : (uid old : ℕ) → (uid == unchanged || uid == old) ≡ true → or_old uid old ≡ old
still-owner uid old e = by (uid == unchanged) e
  where
    by : (b : Bool) → (b || uid == old) ≡ true → (if b then old else uid) ≡ old
    by true e = refl
    by false e = passed uid old e

node-given : (k : Known) (uid gid i : ℕ) (n : Node) → known_node k i ≡ Some n → IsGiving k (chown_node k uid gid i n)
node-given k uid gid i n there =
    giving-either k (uid == unchanged && gid == unchanged) _ _ (λ m. none_given) (by (may_give k.user (record { uid = n.uid; gid = n.gid }) uid gid) refl)
  where
    by : (b : Bool) → may_give k.user (record { uid = n.uid; gid = n.gid }) uid gid ≡ b
        → IsGiving k (cond b (done 0 (SetOwner i (or_old uid n.uid) (or_old gid n.gid) ∷ [])) (refuse EPERM))
    by true is =
        let outer = and_parts (k.user.uid == n.uid && (uid == unchanged || uid == n.uid)) (gid == unchanged || gid == n.gid || gid == k.user.gid) is in
        let inner = and_parts (k.user.uid == n.uid) (uid == unchanged || uid == n.uid) outer.0 in
        λ m. given i (or_old uid n.uid) (or_old gid n.gid) n there inner.0 (still-owner uid n.uid inner.1)
    by false is = λ m. none_given

own-given : (k : Known) (uid gid : ℕ) → IsGiving k (chown_by k.user k.user uid gid [])
own-given k uid gid = giving-either k (uid == unchanged && gid == unchanged) _ _ (λ m. none_given) (giving-either k (may_give k.user k.user uid gid) _ _ (λ m. none_given) (λ m. none_given))

host-given : (k : Known) (uid gid : ℕ) (at : Host) → IsGiving k (chown_host k uid gid at)
host-given k uid gid (host.Node i) = by (known_node k i) refl
  where
    by : (o : Option Node) → known_node k i ≡ o → IsGiving k (option_map_or (chown_node k uid gid i) o (refuse ENOENT))
    by None is = λ m. none_given
    by (Some n) is = node-given k uid gid i n is
host-given k uid gid (host.Proc i at) = own-given k uid gid

open-given : (k : Known) (uid gid : ℕ) (fd : ℤ) → IsGiving k (fchown_row k fd uid gid)
open-given k uid gid fd = by-number (descriptor_number fd)
  where
    by-place : (p : Option (Place (Unit {0}))) → IsGiving k (option_map_or (λ p. chown_host k uid gid p.host) p (chown_by k.user k.user uid gid []))
    by-place None = own-given k uid gid
    by-place (Some p) = host-given k uid gid p.host

    by-open : (o : Option (Opened (Unit {0}))) → IsGiving k (or_closed o (chown_open k uid gid))
    by-open None = λ m. none_given
    by-open (Some o) = by-place o.place

    by-number : (n : Option ℕ) → IsGiving k (of_number k n (λ n o. chown_open k uid gid o))
    by-number None = λ m. none_given
    by-number (Some n) = by-open (k.opened n)

found-given : (k : Known) (uid gid : ℕ) (seen : Seen) → IsGiving k (looked_up seen (λ l. fchownat_row k l uid gid))
found-given k uid gid (LooksUp l) = host-given k uid gid l.host
found-given k uid gid _ = λ m. none_given

here-given : (k : Known) (uid gid : ℕ) (fd : ℤ) → IsGiving k (fchownat_here k fd uid gid)
here-given k uid gid fd = giving-either k (is_working_directory fd) _ _ (host-given k uid gid k.caller.cwd) (open-given k uid gid fd)

path-given : (k : Known) (uid gid : ℕ) (fd : ℤ) (seen : Seen) (path : List ℕ) → IsGiving k (by_path path (fchownat_here k fd uid gid) (looked_up seen (λ l. fchownat_row k l uid gid)))
path-given k uid gid fd seen [] = here-given k uid gid fd
path-given k uid gid fd seen (b ∷ path) = found-given k uid gid seen

pub owners-given : (pid : ℕ) (request : Request) (seen : Seen) (k : Known) → gives_owner request ≡ true → IsGiving k (operation pid request seen k)
owners-given pid (call.Fchown fd uid gid) seen k is = open-given k uid gid fd
owners-given pid (call.Fchownat dirfd path uid gid flags) seen k is = path-given k uid gid dirfd seen path
owners-given pid _ seen k is = absurd cc

-- ---- search goes by the owner's bits alone

own-allows : (user : User) (n : Node) → nat_eq user.uid n.uid ≡ true → allows user n Search ≡ nat_eq ((((n.mode / 64) % 8) / right_bit Search) % 2) 1
own-allows user n e = ap (λ b. nat_eq (((if b then (n.mode / 64) % 8 else (if nat_eq user.gid n.gid then (n.mode / 8) % 8 else n.mode % 8)) / right_bit Search) % 2) 1) e

still-searches : (t : Tree) (user : User) (i uid gid : ℕ) (n : Node) → option_map (λ (f : Fact). f.node) (fact_at t i) ≡ Some n → (user.uid == n.uid) ≡ true → uid ≡ n.uid
    → may (owner_set i uid gid t) user i Search ≡ may t user i Search
still-searches t user i uid gid n there own same =
    ap (λ o. option_map_or (λ (n : Node). allows user n Search) (option_map (λ (x : Inode). x.node) o) false) (get-changed_same t.inodes i (with_owner uid gid)) ∙ by (inode t i) there
  where
    by : (o : Option Inode) → option_map (λ (f : Fact). f.node) (option_map (λ (x : Inode). record { node = x.node; names = x.names; directories = x.directories }) o) ≡ Some n
        → option_map_or (λ (n : Node). allows user n Search) (option_map (λ (x : Inode). x.node) (option_map (with_owner uid gid) o)) false
        ≡ option_map_or (λ (n : Node). allows user n Search) (option_map (λ (x : Inode). x.node) o) false
    by None e = refl
    by (Some x) e =
        let is : x.node ≡ n = same_Some x.node n e in
        own-allows user (with_owner uid gid x).node (ap (nat_eq user.uid) same ∙ own)
        ∙ sym (own-allows user x.node (ap (λ (m : Node). nat_eq user.uid m.uid) is ∙ own))

kept-search : (a b v : Bool) → b ≡ a → (((a && not b) && v) || false) ≡ false
kept-search true b v e = ap (λ b. ((true && not b) && v) || false) e
kept-search false b v e = refl

module _ {M : Type 0} (mounts : Mounts M) (pid : ℕ) (table : List Row) (s : State M Image) (memory : Memory) where
  given-breaks-none : (cs : List Change) → IsGiven (known image_layout pid s) cs → BreakNone images mounts pid table cs (with_memory_of pid memory s)
  given-breaks-none cs none_given = record { third = refl; fourth = refl; fifth = refl }
  given-breaks-none cs (given i uid gid n there own same) = record {
    third = refl;
    fourth = refl;
    fifth = kept-search (may s.tree s.user i Search) (may (owner_set i uid gid s.tree) s.user i Search) (serves table (with_memory_of pid memory s) i) (still-searches s.tree s.user i uid gid n there own same);
  }

pub owners_break_none : {M : Type 0} → OwnersBreakNone M
owners_break_none mounts pid table request seen s m memory is =
    given-breaks-none mounts pid table s memory (carried_out (operation pid request seen (known image_layout pid s)) m).reply.changes (owners-given pid request seen (known image_layout pid s) is m)
