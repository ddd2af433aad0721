-- What a call asks of an open file of its caller.
use Rattle.std.specs.Prelude.{◌≡◌, ◌≢◌, ℕ, ℤ, Option, Some, None}
use Rattle.std.specs.Option.{option_map, option_and_then}
use Rattle.kr_seen.specs.kr_tree.declared.place.Host.{Host}
use Rattle.kr_seen.specs.kr_tree.declared.place.Host.TheVariants.{Node, Proc}
use Rattle.kr_seen.specs.kr_files.declared.opened.Opened.{Opened}
use Rattle.kr_seen.specs.kr_model.Asking.{descriptor_number}
use Rattle.kr_seen.specs.kr_model.Known.{Known, known}
use Rattle.kr_seen.specs.kr_model.Reply.{Replying}
use Rattle.kr_seen.specs.kr_model.State.{image_layout}
use Rattle.kr_seen.specs.kr_model.declared.outcome.Outcome.{Outcome}
use Rattle.kr_seen.specs.kr_model.declared.outcome.Outcome.TheVariants.{NoMemory}
use Rattle.kr_seen.specs.kr_ops.declared.state.State.{State}
use Rattle.kr_seen.specs.kr_ops.Meaning.{meaning}
use Rattle.kr_seen.specs.PerformedRows.{IsPerformed}
use Rattle.kr_transfer.specs.declared.channel.Channel.{Channel}

abbrev pub channel_under : ℕ → Opened (Unit {0}) → Channel
channel_under fd o = record {
  fd = fd;
  host = option_map (λ p. p.host) o.place;
  what = o.what;
  read = o.read;
  write = o.write;
  append = o.append;
  at = o.at;
}

-- that of a descriptor
abbrev pub channel_of : Known → ℤ → Option Channel
channel_of k fd = option_and_then (λ n. option_map (channel_under n) (k.opened n)) (descriptor_number fd)

-- this is what is open under a descriptor of the caller
pub record IsChannelOf (k : Known) (c : Channel) (o : Opened (Unit {0})) : Type 0 where
  pub opened : k.opened c.fd ≡ Some o
  pub same : c ≡ channel_under c.fd o

-- the inode of what is open
abbrev pub inode_under : Option Host → ℕ
inode_under None = 0
inode_under (Some (Node i)) = i
inode_under (Some (Proc i at)) = i

module _ {T : Type 0} {M : ℕ} where
  -- something is open under a channel's descriptor, and this is what a call asks of it
  pub record IsOpenHere (pid : ℕ) (c : Channel) (s : State T M) : Type 0 where
    pub opened : Opened (Unit {0})
    pub channel : IsChannelOf (known image_layout pid (meaning s)) c opened

  -- the row of what is open there was carried out
  abbrev pub PerformsOn : ℕ → Channel → (Known → Opened (Unit {0}) → Replying) → State T M → State T M → Outcome → Type 0
  PerformsOn pid c row old new result =
      result ≢ NoMemory → (o : Opened (Unit {0})) → IsChannelOf (known image_layout pid (meaning old)) c o → IsPerformed pid (λ k. row k o) old new result
