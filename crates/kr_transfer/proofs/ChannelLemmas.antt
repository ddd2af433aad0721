-- What is open under a descriptor, in rows and in lawful states.
use Rattle.std.proofs.Common.{◌≡◌, ℕ, ℤ, Bool, true, Option, Some, None, refl, sym, ap, ◌∙◌}
use Rattle.std.specs.Prelude.{◌&&◌}
use Rattle.std.specs.Option.{option_map, option_map_or, option_and_then}
use Rattle.std.proofs.lemmas.Option.{same_Some, none-some}
use Rattle.kr_seen.specs.pr_base.declared.errno.Errno.TheVariants.{EBADF}
use Rattle.kr_seen.specs.kr_tree.Tree.{body_is, is_file}
use Rattle.kr_seen.specs.kr_tree.declared.place.Host.{Host}
use Rattle.kr_seen.specs.kr_tree.declared.place.Host.TheVariants.{Node, Proc}
use Rattle.kr_seen.specs.kr_tree.declared.place.Place.{Place}
use Rattle.kr_seen.specs.kr_view.View.{is_there}
use Rattle.kr_seen.specs.kr_files.declared.opened.Opened.{Opened}
use Rattle.kr_seen.specs.kr_files.Descriptors.{Named}
use Rattle.kr_seen.specs.kr_files.Files.{file_at}
use Rattle.kr_seen.specs.kr_files.WithoutMounts.{without_mount}
use Rattle.kr_seen.specs.kr_model.Asking.{descriptor_number, of_number, or_badf, or_closed}
use Rattle.kr_seen.specs.kr_model.FileRows.{inode_of_open, is_file_open}
use Rattle.kr_seen.specs.kr_model.Known.{Known, known}
use Rattle.kr_seen.specs.kr_model.Lawful.{ArePids, IsOpenIn, is_file_at}
use Rattle.kr_seen.specs.kr_model.Reply.{Replying, refusal, refuse}
use Rattle.kr_seen.specs.kr_model.declared.outcome.Outcome.{Outcome}
use Rattle.kr_seen.specs.PerformedRows.{IsPerformed, after_row, carried}
use Rattle.kr_seen.proofs.PerformLemmas.{by-refusal}
use Rattle.kr_seen.specs.kr_model.State as model
use Rattle.kr_seen.specs.kr_ops.declared.state.State.{State}
use Rattle.kr_seen.specs.kr_ops.Meaning.{meaning}
use Rattle.kr_seen.specs.kr_ops.Sound.{IsOfView}
use Rattle.kr_transfer.specs.Channels.{IsChannelOf, IsOpenHere, channel_of, channel_under, inode_under}
use Rattle.kr_transfer.specs.declared.channel.Channel.{Channel}

-- ---- rows that begin with a descriptor

module _ (k : Known) (fd : ℤ) (next : ℕ → Opened (Unit {0}) → Replying) where
  pub is-closed : channel_of k fd ≡ None → or_badf k fd next ≡ refuse EBADF
  is-closed e = by (descriptor_number fd) e
    where
      closed : (n : ℕ) (o : Option (Opened (Unit {0}))) → option_map (channel_under n) o ≡ None → or_closed o (next n) ≡ refuse EBADF
      closed n None e = refl
      closed n (Some o) e = absurd (none-some (channel_under n o) (sym e))

      by : (d : Option ℕ) → option_and_then (λ n. option_map (channel_under n) (k.opened n)) d ≡ None → of_number k d next ≡ refuse EBADF
      by None e = refl
      by (Some n) e = closed n (k.opened n) e

  pub is-open : (c : Channel) → channel_of k fd ≡ Some c → (o : Opened (Unit {0})) × IsChannelOf k c o × (or_badf k fd next ≡ next c.fd o)
  is-open c e = by (descriptor_number fd) e
    where
      there : (n : ℕ) (o : Option (Opened (Unit {0}))) → k.opened n ≡ o → option_map (channel_under n) o ≡ Some c
          → (o : Opened (Unit {0})) × IsChannelOf k c o × (or_closed (k.opened n) (next n) ≡ next c.fd o)
      there n None is e = absurd (none-some c e)
      there n (Some o) is e =
          let same : channel_under n o ≡ c = same_Some (channel_under n o) c e in
          let own : n ≡ c.fd = ap (λ (c : Channel). c.fd) same in (
            o,
            record { opened = ap (λ x. k.opened x) (sym own) ∙ is; same = sym same ∙ ap (λ x. channel_under x o) own },
            ap (λ x. or_closed x (next n)) is ∙ ap (λ x. next x o) own,
          )

      by : (d : Option ℕ) → option_and_then (λ n. option_map (channel_under n) (k.opened n)) d ≡ Some c
          → (o : Opened (Unit {0})) × IsChannelOf k c o × (of_number k d next ≡ next c.fd o)
      by None e = absurd (none-some c e)
      by (Some n) e = there n (k.opened n) refl e

-- ---- such rows carried out

module _ {T : Type 0} {M : ℕ} (pid : ℕ) (old new : State T M) (result : Outcome) where
  -- a row does what another one does that is the same
  pub by-row : (row same : Known → Replying) → row (known model.image_layout pid (meaning old)) ≡ same (known model.image_layout pid (meaning old)) → IsPerformed pid same old new result → IsPerformed pid row old new result
  by-row row same e done = record {
    outcome = done.outcome ∙ sym (ap (λ (r : Replying). (carried pid r (meaning old)).reply.outcome) e);
    state = λ mounts. done.state mounts ∙ sym (ap (λ (r : Replying). after_row mounts pid (carried pid r (meaning old)) (meaning old)) e);
  }

  module _ (fd : ℤ) (next : Known → ℕ → Opened (Unit {0}) → Replying) where
    pub by-closed : ArePids (meaning old) → channel_of (known model.image_layout pid (meaning old)) fd ≡ None → result ≡ (refusal EBADF).outcome → meaning new ≡ meaning old → IsPerformed pid (λ k. or_badf k fd (next k)) old new result
    by-closed pids e outcome same = by-refusal pid _ old new result pids EBADF (is-closed (known model.image_layout pid (meaning old)) fd (next (known model.image_layout pid (meaning old))) e) outcome same

    pub by-open : (c : Channel) → channel_of (known model.image_layout pid (meaning old)) fd ≡ Some c
        → ((o : Opened (Unit {0})) → IsChannelOf (known model.image_layout pid (meaning old)) c o → IsPerformed pid (λ k. next k c.fd o) old new result)
        → IsPerformed pid (λ k. or_badf k fd (next k)) old new result
    by-open c e done =
        let here = is-open (known model.image_layout pid (meaning old)) fd (next (known model.image_layout pid (meaning old))) c e in
        by-row (λ k. or_badf k fd (next k)) (λ k. next k c.fd here.0) here.2 (done here.0 here.1)

pub open-here : {T : Type 0} {M : ℕ} (pid : ℕ) (s : State T M) (fd : ℤ) (c : Channel) → channel_of (known model.image_layout pid (meaning s)) fd ≡ Some c → IsOpenHere pid c s
open-here pid s fd c e = let here = is-open (known model.image_layout pid (meaning s)) fd (λ n o. refuse EBADF) c e in record { opened = here.0; channel = here.1 }

-- ---- its inode

abbrev pub in_no_mount : {T : Type 0} → Place T → Place (Unit {0})
in_no_mount p = record { mount = tt; host = p.host }

pub inode-is : (o : Opened (Unit {0})) → inode_under (option_map (λ p. p.host) o.place) ≡ inode_of_open o
inode-is o = by o.place
  where
    of_host : (h : Host) → inode_under (Some h) ≡ elim h [ Node i ↦ i | Proc i at ↦ i ]
    of_host (Node i) = refl
    of_host (Proc i at) = refl

    by : (q : Option (Place (Unit {0}))) → inode_under (option_map (λ p. p.host) q) ≡ option_map_or (λ p. elim p.host [ Node i ↦ i | Proc i at ↦ i ]) q 0
    by None = refl
    by (Some p) = of_host p.host

pub writable-is : (k : Known) (c : Channel) (o : Opened (Unit {0})) → IsChannelOf k c o → (b : Bool) → b ≡ (is_file_open c.what && c.write) → (is_file_open o.what && o.write) ≡ b
writable-is k c o h b e = sym (ap (λ (c : Channel). is_file_open c.what && c.write) h.same) ∙ sym e

module _ {T : Type 0} {M : ℕ} (s : State T M) (pid : ℕ) (view : IsOfView s) (c : Channel) (o : Opened (Unit {0})) (h : IsChannelOf (known model.image_layout pid (meaning s)) c o) where
  pub own-inode : inode_under c.host ≡ inode_of_open o
  own-inode = ap (λ (c : Channel). inode_under c.host) h.same ∙ inode-is o

  -- what the state keeps of it
  own : (b : Opened T) × IsOpenIn view.number s.tree view.table b × (without_mount b ≡ o)
  own = by (model.named pid c.fd (meaning s)) refl h.opened
    where
      of_file : (x : Named) (q : Option (Opened T)) → file_at s.files.table x.number ≡ q → option_map without_mount q ≡ Some o
          → (b : Opened T) × IsOpenIn view.number s.tree view.table b × (without_mount b ≡ o)
      of_file x None is e = absurd (none-some o e)
      of_file x (Some b) is e = (b, view.lawful.files x.number b is, same_Some (without_mount b) o e)

      by : (q : Option Named) → model.named pid c.fd (meaning s) ≡ q → option_map without_mount (option_and_then (λ (x : Named). file_at s.files.table x.number) q) ≡ Some o
          → (b : Opened T) × IsOpenIn view.number s.tree view.table b × (without_mount b ≡ o)
      by None is e = absurd (none-some o e)
      by (Some x) is e = of_file x (file_at s.files.table x.number) refl e

  -- a file is one of the tree
  pub record IsFileIn : Type 0 where
    pub node : ℕ
    pub host : option_map (λ p. p.host) o.place ≡ Some (Node node)
    pub file : body_is is_file s.tree node ≡ true

  pub file-in : is_file_open o.what ≡ true → IsFileIn
  file-in file = placed own.0.place refl (own.1.files (ap (λ (o : Opened (Unit {0})). is_file_open o.what) own.2 ∙ file))
    where
      at_host : (q : Place T) (host : Host) → q.host ≡ host → own.0.place ≡ Some q → is_file_at s.tree host ≡ true → IsFileIn
      at_host q (Node i) is e there = record {
        node = i;
        host = ap (λ (o : Opened (Unit {0})). option_map (λ p. p.host) o.place) (sym own.2) ∙ ap (λ (q : Option (Place T)). option_map (λ (p : Place (Unit {0})). p.host) (option_map (λ (p : Place T). in_no_mount p) q)) e ∙ ap (λ h. Some h) is;
        file = there;
      }
      at_host q (Proc i at) is e there = absurd cc

      placed : (q : Option (Place T)) → own.0.place ≡ q → is_there q ≡ true → IsFileIn
      placed None is e = absurd cc
      placed (Some q) is e = at_host q q.host refl is ((own.1.placed q is).2 ∙ ap (λ (o : Opened (Unit {0})). is_file_open o.what) own.2 ∙ file)

  pub file-there : is_file_open o.what ≡ true → body_is is_file s.tree (inode_under c.host) ≡ true
  file-there file =
      let found = file-in file in
      ap (λ (c : Channel). body_is is_file s.tree (inode_under c.host)) h.same ∙ ap (λ h. body_is is_file s.tree (inode_under h)) found.host ∙ found.file
