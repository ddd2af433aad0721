-- What calls leave of lawful states.
pub use Rattle.kr_perform.proofs.AroundLemmas.{lead_to_places}
pub use Rattle.kr_perform.proofs.NamingLemmas.{walks_name}
pub use Rattle.kr_perform.proofs.NumberedLemmas.{lawful_numbered}
pub use Rattle.kr_perform.proofs.ResolveLemmas.{walks_resolve}
use Rattle.std.proofs.Common.{◌≡◌, ℕ, suc, Option, sym, ap, subst, ◌∙◌, arith}
use Rattle.std.specs.Option.{option_map_or}
use Rattle.law_allowed.specs.rv_mem.Actions.{carried_out}
use Rattle.law_allowed.specs.rv_mem.Memory.{Memory}
use Rattle.law_allowed.specs.kr_model.Known.{known}
use Rattle.law_allowed.specs.kr_model.Lawful.{IsLawful}
use Rattle.law_allowed.specs.kr_model.Operation.{operation}
use Rattle.law_allowed.specs.kr_model.Reply.{Replying}
use Rattle.law_allowed.specs.kr_model.State as model
use Rattle.law_allowed.specs.kr_model.Walks.{told}
use Rattle.law_allowed.specs.Lasting.{Lasts}
use Rattle.law_allowed.proofs.ChangeLemmas.{modest-last}
use Rattle.law_allowed.proofs.RoomLemmas.{lasting-room}
use Rattle.law_allowed.specs.Allowed.{with_memory}
use Rattle.law_allowed.specs.Resting.{HasSmallNumbers}
use Rattle.law_allowed.proofs.OperationLemmas.{operation-is-allowed}
use Rattle.kr_transfer.specs.kr_seen.Carrying.{after_row, memory_of, no_memory}
use Rattle.kr_rows.specs.kr_ops.Meaning.{meaning}
use Rattle.kr_transfer.specs.kr_seen.Numbered.{state_numbered}
use Rattle.kr_perform.specs.Lawful.{LastsLawful, PerformedLast}
use Rattle.kr_perform.specs.Operating.{mounts_at, placed_targets}

-- what lasts of a state rests on no memory
with-memory : {T : Type 0} (calls pid : ℕ) (memory : Memory) (s : model.State T model.Image) → Lasts calls s → Lasts calls (with_memory pid memory s)
with-memory calls pid memory s lasts = record {
  texts = lasts.texts;
  owners = lasts.owners;
  user = lasts.user;
  drawn = record { inodes = lasts.drawn.inodes; serials = lasts.drawn.serials; files = lasts.drawn.files; pipes = lasts.drawn.pipes; pids = lasts.drawn.pids };
}

pub performed-last : {T : Type 0} {M : ℕ} → PerformedLast T M
performed-last {T} {M} number table calls pid request first second old new result caller kind operates wanted few before lives bytes givable is_told =
    let seen = told table pid (state_numbered number (meaning old)) request (placed_targets number first second) in
    let done = operates wanted in
    let room = lasting-room T model.Image calls (meaning old) few before.lawful.tree.sound before.lasts in
    let pids = room.pids in
    let small : HasSmallNumbers (meaning old).tree (meaning old).next_pid = record { owners = room.owners; serials = room.serials; pids = omega arith } in
    let leaves = operation-is-allowed T number table (mounts_at first) pid request seen kind givable (meaning old) caller before.lawful lives bytes (small, is_told) in
    let row : Replying = operation pid request seen (known model.image_layout pid (meaning old)) in
    let after = carried_out row caller.image.memory in
    let own : memory_of pid (meaning old) ≡ caller.image.memory = ap (λ (o : Option (model.Process T model.Image)). option_map_or (λ p. p.image.memory) o no_memory) lives in
    let same : meaning new ≡ after_row (mounts_at first) pid after (meaning old) = done.state ∙ ap (λ (m : Memory). after_row (mounts_at first) pid (carried_out row m) (meaning old)) own in
    let lasts = modest-last T number table (mounts_at first) pid calls after.reply.changes (with_memory pid after.memory (meaning old)) leaves.before leaves.made leaves.modest
    (with-memory calls pid after.memory (meaning old) before.lasts) in
    subst (LastsLawful number table (suc calls)) (sym same) (record { lawful = leaves.lawful; lasts = lasts })
