-- A call that is carried out in two states that match: on equal requests, and on what is told alike of its paths.
use Rattle.std.specs.Prelude.{◌≡◌, ℕ, false, IsSome, List}
use Rattle.pt_results.specs.rv_mem.Actions.{CarriedOut}
use Rattle.pt_results.specs.pt_bind.Tags.{TagTable}
use Rattle.kr_core.specs.kr_seen.Carrying.{after_row, carried, with_memory_of}
use Rattle.kr_core.specs.law_allowed.Allowed.{LeavesLawful}
use Rattle.pt_results.specs.kr_calls.declared.request.Request.{Request}
use Rattle.law_places.specs.kr_calm.Laws.{BreakNone}
use Rattle.law_places.specs.kr_model.Applied.{Mounts, images}
use Rattle.law_places.specs.kr_model.Bare.{bare_mounts}
use Rattle.law_places.specs.kr_model.Known.{known}
use Rattle.law_places.specs.kr_model.Operation.{IsNoExec, operation}
use Rattle.law_places.specs.kr_model.Reply.{Reply}
use Rattle.law_places.specs.kr_model.Seen.{Seen}
use Rattle.law_places.specs.kr_model.State.{Image, State, image_layout, process}
use Rattle.kr_core.specs.kr_steps.Settling.{settled}
use Rattle.law_places.specs.kr_view.View.{Row, plain}
use Rattle.law_places.specs.Changes.{NewPlacesStand}
use Rattle.law_places.specs.Matching.{IsMatch}
use Rattle.law_places.specs.Keeping.{MovesStayInside}
use Rattle.law_turns.specs.Changing.{all_tags_made}

module _ (pid : ℕ) (r : Request) (seen : Seen) where
  -- its row, of what is seen, on the caller's memory
  abbrev pub done_in : State ℕ Image → CarriedOut Reply
  done_in s = carried pid (operation pid r seen (known image_layout pid s)) s

  -- the state with what the row read and wrote, before its changes
  abbrev pub written_in : State ℕ Image → State ℕ Image
  written_in s = with_memory_of pid (done_in s).memory s

  -- and the one behind the call, with what its caller is told
  abbrev pub behind : Mounts ℕ → State ℕ Image → State ℕ Image
  behind mounts s = settled pid (done_in s).reply.outcome (after_row mounts pid (done_in s) s)

  module _ (table : List Row) (mounts others : Mounts ℕ) (s w : State ℕ Image) where
    -- what is so of a call, other than execve, that is allowed on both kernels, breaks no calm rule and moves names inside alone. `others` are the mounts that
    -- it names on the plain kernel
    pub record IsCalmCall : Type 0 where
      pub kind : IsNoExec r
      pub lives : IsSome (process pid s)
      pub same : bare_mounts mounts ≡ bare_mounts others
      pub unread : (done_in s).memory.read_marked ≡ false
      pub inside : MovesStayInside table mounts pid (written_in s) (done_in s).reply.changes
      pub calm : BreakNone images mounts pid table (done_in s).reply.changes (written_in s)
      pub new : NewPlacesStand table mounts pid (written_in s) (done_in s).reply.changes
      pub allowed : LeavesLawful (λ m. m) table mounts pid s (done_in s)
      pub also_allowed : LeavesLawful (λ m. m) plain others pid w (done_in w)

    -- it is answered alike, and leaves a match
    pub record IsCarriedAlike (tags : TagTable) : Type 0 where
      pub replies : (done_in s).reply ≡ (done_in w).reply
      pub matches : IsMatch table (all_tags_made table mounts pid (written_in s) (done_in s).reply.changes tags) (behind mounts s) (behind others w)

abbrev pub CallsKeepMatches : Type 0
CallsKeepMatches =
    (pid : ℕ) (r : Request) (seen : Seen) (table : List Row) (mounts others : Mounts ℕ) (s w : State ℕ Image) (tags : TagTable) → IsCalmCall pid r seen table mounts others s w → IsMatch table tags s w
    → IsCarriedAlike pid r seen table mounts others s w tags
