-- How much a file may grow, as the tree tests it and as rows do.
use Rattle.std.proofs.Common.{◌≡◌, ℕ, ◌+◌, ◌-◌, Bool, true, false, Option, Some, None, refl, sym, ap, ◌∙◌, length, [], ◌∷◌}
use Rattle.std.specs.Prelude.{◌&&◌, not, nat_lt, Result, Ok, Err}
use Rattle.std.specs.Option.{option_map, option_map_or}
use Rattle.std.proofs.lemmas.Bool.{cond-true, cond-false, and_parts}
use Rattle.std.proofs.lemmas.Option.{same_Some, none-some}
use Rattle.kr_seen.specs.pr_base.declared.errno.Errno.TheVariants.{EFBIG, ENOSPC}
use Rattle.kr_seen.specs.kr_tree.Tree.{Inode, inode, bytes_of}
use Rattle.kr_seen.specs.kr_tree.Changes.{byte_limit, has_no_room_for as tree_has_no_room_for, is_past_file, size}
use Rattle.kr_seen.specs.kr_tree.declared.place.Host.TheVariants.{Node}
use Rattle.kr_seen.specs.kr_tree.declared.place.Place.{Place}
use Rattle.kr_seen.specs.kr_files.declared.opened.Opened.{Opened}
use Rattle.kr_seen.specs.kr_model.Asking.{has_no_room_for}
use Rattle.kr_seen.specs.kr_model.Change.{SetSize}
use Rattle.kr_seen.specs.kr_model.DescriptorRows.{file_bytes, open_bytes}
use Rattle.kr_seen.specs.kr_model.FileRows.{cut_file, is_file_open}
use Rattle.kr_seen.specs.kr_model.Known.{Fact, Known, known}
use Rattle.kr_seen.specs.kr_model.Reply.{done, refuse}
use Rattle.kr_seen.specs.kr_model.State as model
use Rattle.kr_seen.specs.kr_ops.declared.state.State.{State}
use Rattle.kr_seen.specs.kr_ops.Meaning.{meaning}
use Rattle.kr_seen.specs.kr_ops.Sound.{IsOfView}
use Rattle.kr_transfer.specs.Channels.{IsChannelOf, inode_under}
use Rattle.kr_transfer.specs.declared.channel.Channel.{Channel}
use Rattle.kr_transfer.specs.Moving.{bytes_at}
use Rattle.kr_transfer.proofs.ChannelLemmas.{IsFileIn, file-in, own-inode}

-- what went well is no error
pub no-error : {X E : Type 0} {x : X} {e : E} → ◌≡◌ {A = Result X E} (Ok x) (Err e) → ⊥
no-error same = cc

bytes-at-node : (k : Known) (q : Option (Place (Unit {0}))) (i : ℕ) → option_map (λ p. p.host) q ≡ Some (Node i) → option_map_or (λ p. file_bytes k p.host) q [] ≡ file_bytes k (Node i)
bytes-at-node k None i e = absurd (none-some (Node i) e)
bytes-at-node k (Some p) i e = ap (file_bytes k) (same_Some p.host (Node i) e)

module _ {T : Type 0} {M : ℕ} (s : State T M) (pid : ℕ) (view : IsOfView s) (c : Channel) (o : Opened (Unit {0})) (h : IsChannelOf (known model.image_layout pid (meaning s)) c o) (file : is_file_open o.what ≡ true) where
  pub bytes-are : open_bytes (known model.image_layout pid (meaning s)) o ≡ bytes_at s.tree (inode_under c.host)
  bytes-are =
      let k = known model.image_layout pid (meaning s) in
      let found : IsFileIn s pid view c o h = file-in s pid view c o h file in
      bytes-at-node k o.place found.node found.host
      ∙ told found.node (inode s.tree found.node)
      ∙ sym (ap (λ (c : Channel). bytes_at s.tree (inode_under c.host)) h.same ∙ ap (λ h. bytes_at s.tree (inode_under h)) found.host)
    where
      told : (i : ℕ) (x : Option Inode) → option_map_or (λ n. bytes_of n.body) (option_map (λ (f : Fact). f.node) (option_map (λ (x : Inode). record { node = x.node; names = x.names; directories = x.directories }) x)) []
          ≡ option_map_or (λ (x : Inode). bytes_of x.node.body) x []
      told i None = refl
      told i (Some x) = refl

  pub size-is : length (open_bytes (known model.image_layout pid (meaning s)) o) ≡ size s.tree (inode_under c.host)
  size-is = ap length bytes-are ∙ by (inode s.tree (inode_under c.host))
    where
      by : (x : Option Inode) → length (option_map_or (λ (x : Inode). bytes_of x.node.body) x []) ≡ option_map_or (λ (x : Inode). length (bytes_of x.node.body)) x 0
      by None = refl
      by (Some x) = refl

  -- one test of the room that is left
  pub room-is : (new : ℕ) → has_no_room_for (length (open_bytes (known model.image_layout pid (meaning s)) o)) new (known model.image_layout pid (meaning s)) ≡ tree_has_no_room_for (inode_under c.host) new s.tree
  room-is new = ap (λ n. nat_lt byte_limit (s.tree.bytes - n + new)) size-is

  -- ---- ftruncate(2) of a file that is open for writing

  module _ (len : ℕ) (writes : o.write ≡ true) where
    of-file : not (is_file_open o.what && o.write) ≡ false
    of-file = ap (λ b. not (b && o.write)) file ∙ ap not writes

    pub too-big : is_past_file len ≡ true → cut_file (known model.image_layout pid (meaning s)) o len ≡ refuse EFBIG
    too-big past = cond-false _ _ _ of-file ∙ cond-true _ _ _ past

    pub full : (not (is_past_file len) && tree_has_no_room_for (inode_under c.host) len s.tree) ≡ true → cut_file (known model.image_layout pid (meaning s)) o len ≡ refuse ENOSPC
    full both =
        let parts = and_parts _ _ both in
        cond-false _ _ _ of-file ∙ cond-false _ _ _ (small (is_past_file len) parts.0) ∙ cond-true _ _ _ (room-is len ∙ parts.1)
      where
        small : (b : Bool) → not b ≡ true → b ≡ false
        small true e = sym e
        small false e = refl

    pub fits : is_past_file len ≡ false → (not (is_past_file len) && tree_has_no_room_for (inode_under c.host) len s.tree) ≡ false
        → cut_file (known model.image_layout pid (meaning s)) o len ≡ done 0 (SetSize (inode_under c.host) len ∷ [])
    fits small room =
        let left : tree_has_no_room_for (inode_under c.host) len s.tree ≡ false = sym (ap (λ b. not b && tree_has_no_room_for (inode_under c.host) len s.tree) small) ∙ room in
        cond-false _ _ _ of-file ∙ cond-false _ _ _ small ∙ cond-false _ _ _ (room-is len ∙ left)
        ∙ ap (λ i. done 0 (SetSize i len ∷ [])) (sym (own-inode s pid view c o h))
