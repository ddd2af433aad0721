-- A call that writes into no memory, and whose line makes changes that bring nothing alone, writes and brings bytes, whatever it is told.
use Rattle.std.proofs.Common.{◌≡◌, ◌≢◌, ℕ, Bool, true, false, refl, sym, ◌∙◌}
use Rattle.std.specs.List.{list_all}
use Rattle.kr_first.specs.pr_base.declared.errno.Errno.TheVariants.{ENOSYS}
use Rattle.kr_first.specs.kr_calls.CallTable.{Doing, line}
use Rattle.kr_first.specs.kr_calls.Kinds.{Kind, AddsNode, LinksNode, MovesName, OpensOpen, OpensPath, PutsIntoPipe, ReplacesExecutable, ReplacesImage, ReplacesOpen, WritesFile}
use Rattle.kr_first.specs.kr_calls.declared.request.Request.{Request}
use Rattle.kr_first.specs.kr_model.Change.{Change, MountOf, AddNode, LinkNode, MoveName, OfDescriptor, OpenFile, PutIntoPipe, ReplaceExecutable, ReplaceImage, WriteFile}
use Rattle.kr_first.specs.kr_model.ChangeKinds.{kind}
use Rattle.kr_first.specs.kr_model.Known.{Known}
use Rattle.kr_first.specs.kr_model.Operation.{operation}
use Rattle.kr_first.specs.kr_model.Reply.{Replying}
use Rattle.kr_first.specs.kr_model.Seen.{Seen, WalkFails}
use Rattle.kr_first.proofs.kr_model.KeepingCalls.{operation_keeps}
use Rattle.kr_first.proofs.kr_model.KeepingLemmas.{Keeps, refused as keeps_refused, answered as keeps_answered, waiting as keeps_waiting, ending as keeps_ending, tested as keeps_tested, read as keeps_read, wrote as keeps_wrote, either as keeps_either}
use Rattle.kr_first.proofs.kr_model.KindLemmas.{changes_pass}
use Rattle.law_kept.proofs.ActionLemmas.{either_way, read, tested}
use Rattle.law_kept.proofs.RowLemmas.{Puts, answered, ending, is_plain, refused, waiting}

abbrev plain_kind : Kind → Bool
plain_kind AddsNode = false
plain_kind LinksNode = false
plain_kind MovesName = false
plain_kind WritesFile = false
plain_kind OpensPath = false
plain_kind OpensOpen = false
plain_kind PutsIntoPipe = false
plain_kind ReplacesImage = false
plain_kind ReplacesExecutable = false
plain_kind ReplacesOpen = false
plain_kind _ = true

plain_change : (c : Change) → plain_kind (kind c) ≡ true → is_plain c ≡ true
plain_change (AddNode dir name mode uid gid body) plain = absurd cc
plain_change (LinkNode dir name inode) plain = absurd cc
plain_change (MoveName dir name to new) plain = absurd cc
plain_change (WriteFile inode at bytes) plain = absurd cc
plain_change (OpenFile fd cloexec from o) plain = opened from plain
  where
    opened : (from : MountOf) → plain_kind (kind (OpenFile fd cloexec from o)) ≡ true → false ≡ true
    opened (OfDescriptor n) plain = plain
    opened _ plain = plain
plain_change (PutIntoPipe pipe bytes) plain = absurd cc
plain_change (ReplaceImage image brk) plain = absurd cc
plain_change (ReplaceExecutable from host dir name) plain = replaced from plain
  where
    replaced : (from : MountOf) → plain_kind (kind (ReplaceExecutable from host dir name)) ≡ true → false ≡ true
    replaced (OfDescriptor n) plain = plain
    replaced _ plain = plain
plain_change _ plain = refl

impossible : {A : Type 0} → true ≡ false → A
impossible e = absurd cc

module _ {does : Doing} (dry : does.writes_memory ≡ false) (plain : list_all plain_kind does.makes ≡ true) where
  puts : {built : Bool} (w : Bool) (action : Replying) → Keeps does built w action → Puts action
  puts w action (keeps_refused e known) = refused e
  puts w action (keeps_answered {changes = changes} kept) = answered (changes_pass plain_kind is_plain plain_change does.makes plain changes kept)
  puts w action (keeps_waiting can) = waiting
  puts w action (keeps_ending by) = ending
  puts w action (keeps_tested {next = next} keeps) = tested (λ b. puts w (next b) (keeps b))
  puts w action (keeps_read {next = next} keeps) = read (λ bytes are. puts w (next bytes) (keeps bytes))
  puts w action (keeps_wrote writes keeps) = impossible (sym writes ∙ dry)
  puts w action (keeps_either b {x = x} {y = y} first second) = either_way b (puts w x first) (puts w y second)

no_premise : (seen : Seen) → false ≡ true → seen ≢ WalkFails ENOSYS
no_premise seen is = absurd cc

pub plain-puts : (pid : ℕ) (r : Request) (seen : Seen) (k : Known) → (line r).does.writes_memory ≡ false → list_all plain_kind (line r).does.makes ≡ true → Puts (operation pid r seen k)
plain-puts pid r seen k dry plain = puts dry plain false (operation pid r seen k) (operation_keeps false pid r seen k (no_premise seen))
