-- What a call altered: what is told of the changes of its reply is what is other in the tree behind it.
use Rattle.std.proofs.Common.{◌≡◌, ◌≢◌, ◌<◌, ◌^◌, ℕ, Bool, true, false, List, [], ◌∷◌, Option, refl, sym, ap, subst, ◌∙◌, arith}
use Rattle.std.specs.Prelude.{◌↔◌, ◌&&◌, ◌||◌, Some}
use Rattle.std.specs.List.{list_any}
use Rattle.std.specs.Option.{option_map_or}
use Rattle.law_allowed.specs.Allowed.{HoldsBytes, LeavesLawful, with_memory}
use Rattle.law_allowed.specs.Calls.{IsGivable, IsToldIn}
use Rattle.law_allowed.specs.Resting.{HasSmallNumbers}
use Rattle.law_allowed.specs.rv_mem.Actions.{CarriedOut, carried_out}
use Rattle.law_allowed.specs.rv_mem.Memory.{Memory}
use Rattle.law_allowed.specs.kr_calls.declared.request.Request.{Request}
use Rattle.law_allowed.specs.kr_calls.declared.request.Request.TheVariants as call
use Rattle.law_allowed.specs.kr_tree.Tree.{Tree}
use Rattle.law_allowed.specs.kr_view.View.{Row}
use Rattle.law_allowed.specs.kr_view.declared.target.Target.{Target}
use Rattle.law_allowed.specs.kr_model.Applied.{all_applied, images}
use Rattle.law_allowed.specs.kr_model.Change.{Change, SetSize, WriteFile}
use Rattle.law_allowed.specs.kr_model.Judged.{HasShape}
use Rattle.law_allowed.specs.kr_model.Known.{Known, known}
use Rattle.law_allowed.specs.kr_model.Operation.{IsNoExec, operation}
use Rattle.law_allowed.specs.kr_model.Reply.{Reply, Replying}
use Rattle.law_allowed.specs.kr_model.Seen.{Seen}
use Rattle.law_allowed.specs.kr_model.State as model
use Rattle.law_allowed.specs.kr_model.Walks.{told}
use Rattle.law_allowed.specs.kr_model.declared.outcome.Outcome.{Outcome}
use Rattle.law_allowed.specs.kr_model.declared.outcome.Outcome.TheVariants.{NoMemory}
use Rattle.law_allowed.proofs.OperationLemmas.{operation-is-allowed}
use Rattle.law_allowed.proofs.RoomLemmas.{lasting-room}
use Rattle.law_steady.specs.Ahead.{IsForetold, IsNoWrite, IsWrite, is_answered, shape_ahead}
use Rattle.law_steady.specs.Bytes.{HasBytes, alters_bytes_of}
use Rattle.law_steady.specs.Told.{AreTold}
use Rattle.law_steady.proofs.AheadLemmas.{calls_are_foretold}
use Rattle.law_steady.proofs.ToldLemmas.{calls_are_told}
use Rattle.law_steady.proofs.WriteRows.{writes_are_found}
use Rattle.kr_rows.specs.kr_ops.declared.state.State.{State}
use Rattle.kr_rows.specs.kr_ops.Meaning.{meaning}
use Rattle.kr_transfer.specs.kr_seen.Carrying.{memory_of, no_memory}
use Rattle.kr_transfer.specs.kr_seen.Numbered.{state_numbered}
use Rattle.kr_transfer.specs.Writing.{IsWritten, makes_others}
use Rattle.kr_transfer.specs.declared.writing.Written.{Written}
use Rattle.kr_perform.specs.Altering.{IsAhead, IsAltered, IsToldOf, where_answered}
use Rattle.kr_perform.specs.Lawful.{LastsLawful}
use Rattle.kr_perform.specs.Operating.{OperatesAt, mounts_at, placed_targets}
use Rattle.kr_perform.specs.declared.altering.Altered.{Altered}

-- ---- tests

-- a test of trees, by one that is the same and of a tree that is
tested-by : (P : Tree → Type 0) (a b : Bool) (t u : Tree) → a ≡ b → t ≡ u → (b ≡ false) ↔ P u → (a ≡ false) ↔ P t
tested-by P a b t u same tree told = subst (λ (x : Bool). (x ≡ false) ↔ P t) (sym same) (subst (λ (v : Tree). (b ≡ false) ↔ P v) (sym tree) told)

-- both crates tell of one change the same
others-same : (t : Tree) (c : Change) → makes_others t c ≡ alters_bytes_of t c
others-same t (SetSize i size) = refl
others-same t (WriteFile i at bytes) = refl
others-same t _ = refl

any-same : (t : Tree) (cs : List Change) → list_any (makes_others t) cs ≡ list_any (alters_bytes_of t) cs
any-same t [] = refl
any-same t (c ∷ cs) = ap (λ (b : Bool). b || list_any (makes_others t) cs) (others-same t c) ∙ ap (λ (b : Bool). alters_bytes_of t c || b) (any-same t cs)

-- a write leaves the shape
write-is-no-exec : (r : Request) → IsWrite r → IsNoExec r
write-is-no-exec (call.Write fd buf n) is = tt
write-is-no-exec (call.Writev fd list count) is = tt
write-is-no-exec _ is = absurd is

write-shape : (r : Request) → IsWrite r → (t : Tree) (seen : Seen) (k : Known) (b : Bool) → false ≡ (b && shape_ahead t r seen k)
write-shape (call.Write fd buf n) is t seen k true = refl
write-shape (call.Write fd buf n) is t seen k false = refl
write-shape (call.Writev fd list count) is t seen k true = refl
write-shape (call.Writev fd list count) is t seen k false = refl
write-shape _ is t seen k b = absurd is

-- ---- what is told of the changes of a reply

module _ {T : Type 0} {M : ℕ} (number : T → ℕ) (table : List Row) (pid : ℕ) (request : Request) (first second : Option (Target T)) (old : State T M) where
  abbrev facts : Seen
  facts = told table pid (state_numbered number (meaning old)) request (placed_targets number first second)

  abbrev asked : Known
  asked = known model.image_layout pid (meaning old)

  abbrev row : Replying
  row = operation pid request facts asked

  abbrev after : CarriedOut Reply
  after = carried_out row (memory_of pid (meaning old))

  abbrev before : model.State T model.Image
  before = with_memory pid after.memory (meaning old)

  -- ahead, of a call that isn't a write
  pub ahead-told : IsNoExec request → IsNoWrite request → (a : Altered) → IsAhead number table pid request first second old a → (outcome : Outcome) → outcome ≡ after.reply.outcome
      → IsToldOf number table pid request first second old (where_answered outcome a)
  ahead-told kind plain a ahead outcome is =
      let foretold : IsForetold (mounts_at first) pid before request facts asked (memory_of pid (meaning old)) = calls_are_foretold T (mounts_at first) pid before request facts asked (memory_of pid (meaning old)) kind in
      record {
        shape =
            ap (λ (o : Outcome). is_answered o && a.shape) is
            ∙ ap (λ (b : Bool). is_answered after.reply.outcome && b) ahead.shape ∙ sym foretold.shape;
        bytes =
            ap (λ (o : Outcome). is_answered o && a.bytes) is
            ∙ ap (λ (b : Bool). is_answered after.reply.outcome && b) ahead.bytes ∙ sym (foretold.bytes plain);
      }

  -- of a write, as it was written
  pub write-told : IsWrite request → (new : State T M) (w : Written) → IsWritten pid (λ k. operation pid request facts k) old new w
      → IsToldOf number table pid request first second old (record { shape = false; bytes = w.differs })
  write-told is new w written =
      let foretold : IsForetold (mounts_at first) pid before request facts asked (memory_of pid (meaning old)) =
      calls_are_foretold T (mounts_at first) pid before request facts asked (memory_of pid (meaning old)) (write-is-no-exec request is)
      in
      record {
        shape = write-shape request is old.tree facts asked (is_answered after.reply.outcome) ∙ sym foretold.shape;
        bytes =
            written.differs ∙ any-same old.tree after.reply.changes
            ∙ sym (writes_are_found T (mounts_at first) pid before request facts asked (memory_of pid (meaning old)) is);
      }

  -- ---- what is other behind it

  pub told-altered : (calls : ℕ) (new : State T M) (result : Outcome) (a : Altered) (caller : model.Process T model.Image)
      → IsNoExec request → OperatesAt number table pid request first second old new result → result ≢ NoMemory → calls < 2 ^ 31 → LastsLawful number table calls (meaning old) → model.process pid (meaning old) ≡ Some caller
      → HoldsBytes caller.image.memory.pages → IsGivable request → IsToldIn number table (mounts_at first) (meaning old).tree facts → IsToldOf number table pid request first second old a
      → IsAltered a old.tree new.tree
  told-altered calls new result a caller kind operates wanted few lasts lives bytes givable is_told tells =
      let done = operates wanted in
      let mounts = mounts_at first in
      let room = lasting-room T model.Image calls (meaning old) few lasts.lawful.tree.sound lasts.lasts in
      let pids = room.pids in
      let small : HasSmallNumbers (meaning old).tree (meaning old).next_pid = record { owners = room.owners; serials = room.serials; pids = omega arith } in
      let own : memory_of pid (meaning old) ≡ caller.image.memory = ap (λ (o : Option (model.Process T model.Image)). option_map_or (λ p. p.image.memory) o no_memory) lives in
      let leaves : LeavesLawful number table mounts pid (meaning old) after =
      subst (λ (m : Memory). LeavesLawful number table mounts pid (meaning old) (carried_out row m)) (sym own)
      (operation-is-allowed T number table mounts pid request facts kind givable (meaning old) caller lasts.lawful lives bytes (small, is_told))
      in
      let are : AreTold mounts pid before after.reply.changes = calls_are_told T number table mounts pid before request facts asked (memory_of pid (meaning old)) kind leaves.before leaves.made in
      let behind : new.tree ≡ (all_applied images mounts pid after.reply.changes before).tree = ap (λ (s : model.State T model.Image). s.tree) done.state in
      record {
        shape = tested-by (HasShape old.tree) a.shape _ new.tree _ tells.shape behind are.shape.told;
        bytes = tested-by (HasBytes old.tree) a.bytes _ new.tree _ tells.bytes behind are.bytes.told;
      }
