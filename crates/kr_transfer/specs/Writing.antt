-- What a write tells beside its answer: whether the bytes of a file are others behind it.
use Rattle.std.specs.Prelude.{◌≡◌, ◌≢◌, ◌==◌, ℕ, Bool, false, not, length, bytes_eq}
use Rattle.std.specs.List.{list_any}
use Rattle.kr_seen.specs.kr_tree.Changes.{overwritten}
use Rattle.kr_seen.specs.kr_tree.Tree.{Tree}
use Rattle.kr_seen.specs.kr_files.declared.opened.Opened.{Opened}
use Rattle.kr_seen.specs.kr_model.Change.{Change, SetSize, WriteFile}
use Rattle.kr_seen.specs.kr_model.Known.{Known, known}
use Rattle.kr_seen.specs.kr_model.Reply.{Replying}
use Rattle.kr_seen.specs.kr_model.State.{image_layout}
use Rattle.kr_seen.specs.kr_model.declared.outcome.Outcome.TheVariants.{NoMemory}
use Rattle.kr_seen.specs.kr_ops.declared.state.State.{State}
use Rattle.kr_seen.specs.kr_ops.Meaning.{meaning}
use Rattle.kr_seen.specs.PerformedRows.{IsPerformed, carried}
use Rattle.kr_transfer.specs.Channels.{IsChannelOf}
use Rattle.kr_transfer.specs.Moving.{bytes_at}
use Rattle.kr_transfer.specs.declared.channel.Channel.{Channel}
use Rattle.kr_transfer.specs.declared.writing.Written.{Written}

-- whether a change makes the bytes of a file of this tree others: a write of those that stand there and a cut to the size that a file has don't
abbrev pub makes_others : Tree → Change → Bool
makes_others t (SetSize i size) = not (length (bytes_at t i) == size)
makes_others t (WriteFile i at bytes) = not (bytes_eq (overwritten at bytes (bytes_at t i)) (bytes_at t i))
makes_others t _ = false

module _ {T : Type 0} {M : ℕ} where
  -- the row of what the caller knows was carried out, and it is told whether one of the reply's changes makes bytes others
  pub record IsWritten (pid : ℕ) (row : Known → Replying) (old new : State T M) (result : Written) : Type 0 where
    pub performed : IsPerformed pid row old new result.outcome
    pub differs : result.differs ≡ list_any (makes_others old.tree) (carried pid (row (known image_layout pid (meaning old))) (meaning old)).reply.changes

  -- after want of memory nothing is promised
  abbrev pub WritesRow : ℕ → (Known → Replying) → State T M → State T M → Written → Type 0
  WritesRow pid row old new result = result.outcome ≢ NoMemory → IsWritten pid row old new result

  -- the same of the row of what is open there
  abbrev pub WritesRowOn : ℕ → Channel → (Known → Opened (Unit {0}) → Replying) → State T M → State T M → Written → Type 0
  WritesRowOn pid c row old new result =
      result.outcome ≢ NoMemory → (o : Opened (Unit {0})) → IsChannelOf (known image_layout pid (meaning old)) c o → IsWritten pid (λ k. row k o) old new result
