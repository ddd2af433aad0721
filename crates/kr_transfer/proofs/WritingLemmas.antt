-- Rows that take bytes from the caller, as they are carried out.
use Rattle.std.proofs.Common.{◌≡◌, ℕ, ◌+◌, ◌-◌, ◌<◌, ◌≤◌, Bool, true, false, List, [], ◌∷◌, Option, Some, None, length, refl, sym, ap, subst, ◌∙◌, arith}
use Rattle.std.specs.Prelude.{IsSome, ◌&&◌, ◌==◌, max, nat_le, not, if◌then◌else◌}
use Rattle.std.specs.Option.{option_map, option_map_or}
use Rattle.std.proofs.lemmas.Bool.{cond-true, cond-false, ne_eqb}
use Rattle.std.proofs.lemmas.Bool.Decides.{nat_tests}
use Rattle.kr_seen.specs.pr_base.declared.errno.Errno.TheVariants.{EFAULT, EFBIG, ENOSPC}
use Rattle.kr_seen.specs.rv_mem.Actions.{CarriedOut}
use Rattle.kr_seen.specs.rv_mem.Pages.{Pages}
use Rattle.kr_seen.specs.rv_mem.declared.rights.Use.{Use}
use Rattle.kr_seen.specs.rv_mem.declared.rights.Use.TheVariants.{Read}
use Rattle.kr_seen.specs.kr_tree.Tree.{Inode, Tree, Body, RegularFile, Directory, SymbolicLink, ProcessDirectory, body, body_is, bytes_of, inode, is_file}
use Rattle.kr_seen.specs.kr_tree.Changes.{byte_limit, file_limit, has_no_room_for as tree_has_no_room_for, is_past_file, size, size_written}
use Rattle.kr_seen.specs.kr_tree.Lawful.{AreBytes}
use Rattle.kr_seen.specs.kr_calls.CallTable.{sigpipe}
use Rattle.kr_seen.specs.kr_files.declared.opened.Opened.{Opened}
use Rattle.kr_seen.specs.kr_files.declared.opened.What.{What}
use Rattle.kr_seen.specs.kr_model.Applied.{Mounts, all_applied, applied, images}
use Rattle.kr_seen.specs.kr_model.Change.{PutIntoPipe, Seek, WriteFile}
use Rattle.kr_seen.specs.kr_model.Conditions.{CanWrite}
use Rattle.kr_seen.specs.kr_model.DescriptorRows.{open_bytes}
use Rattle.kr_seen.specs.kr_model.FileRows.{is_file_open, put_in_file, write_file, write_pieces, write_pipe, write_place, write_what}
use Rattle.kr_seen.specs.kr_model.Known.{Known, known}
use Rattle.kr_seen.specs.kr_model.Pieces as model_pieces
use Rattle.kr_seen.specs.kr_model.Pieces.{asked, cut_to, if_usable, read_all}
use Rattle.kr_seen.specs.kr_model.Reply.{Reply, Replying, done, ends, refuse, waits}
use Rattle.kr_seen.specs.kr_model.State as model
use Rattle.kr_seen.specs.kr_model.declared.outcome.Outcome.{Outcome}
use Rattle.kr_seen.specs.kr_ops.declared.state.State.{State}
use Rattle.kr_seen.specs.kr_ops.Meaning.{meaning}
use Rattle.kr_seen.specs.kr_ops.Sound.{IsOfView, IsServed, IsSound}
use Rattle.kr_seen.specs.PerformedRows.{IsPerformed, after_row, carried, memory_of}
use Rattle.kr_seen.specs.Using.{HasComeTo}
use Rattle.kr_transfer.specs.Channels.{IsChannelOf, IsOpenHere, inode_under}
use Rattle.kr_transfer.specs.Moving.{all_allowed, bytes_at}
use Rattle.kr_transfer.specs.declared.channel.Channel.{Channel}
use Rattle.kr_transfer.proofs.ChannelLemmas.{own-inode}
use Rattle.kr_transfer.proofs.MovingLemmas.{comes-itself, usable, unusable}
use Rattle.kr_transfer.proofs.PieceLemmas.{uncut}
use Rattle.kr_transfer.proofs.SizeLemmas.{bytes-are, room-is, size-is}
use Rattle.kr_transfer.proofs.ViewLemmas.{view-changed, view-sound}
use Rattle.kr_seen.proofs.UsingLemmas.{goes-on}

-- a row that came on to another one, which was carried out from there
pub by-then : {T : Type 0} {M : ℕ} (pid : ℕ) (row next : Known → Replying) (old mid new : State T M) (result : Outcome)
    → HasComeTo pid (row (known model.image_layout pid (meaning old))) old (next (known model.image_layout pid (meaning old))) mid
    → known model.image_layout pid (meaning mid) ≡ known model.image_layout pid (meaning old)
    → IsPerformed pid next mid new result → IsPerformed pid row old new result
by-then pid row next old mid new result come same done =
    let all = come.carried ∙ sym (ap (λ k. carried pid (next k) (meaning mid)) same) in
    record {
      outcome = done.outcome ∙ sym (ap (λ (d : CarriedOut Reply). d.reply.outcome) all);
      state = λ mounts.
          let after = carried pid (next (known model.image_layout pid (meaning mid))) (meaning mid) in
          done.state mounts ∙ ap (all_applied images mounts pid after.reply.changes) (come.others after.memory)
          ∙ sym (ap (λ d. after_row mounts pid d (meaning old)) all);
    }

pub still-open : {T : Type 0} {M : ℕ} (pid : ℕ) (c : Channel) (old mid : State T M) → known model.image_layout pid (meaning mid) ≡ known model.image_layout pid (meaning old) → IsOpenHere pid c old → IsOpenHere pid c mid
still-open pid c old mid same here = record { opened = here.opened; channel = subst (λ k. IsChannelOf k c here.opened) (sym same) here.channel }

pub still-channel : {T : Type 0} {M : ℕ} (pid : ℕ) (c : Channel) (o : Opened (Unit {0})) (old mid : State T M) → known model.image_layout pid (meaning mid) ≡ known model.image_layout pid (meaning old)
    → IsChannelOf (known model.image_layout pid (meaning old)) c o → IsChannelOf (known model.image_layout pid (meaning mid)) c o
still-channel pid c o old mid same h = subst (λ k. IsChannelOf k c o) (sym same) h

-- ---- what is asked

-- a test of as many bytes as are asked in all is one of all
pub whole-allowed : (m : Pages) (what : Use) (count : ℕ) (pieces : List model_pieces.Piece) (b : Bool) → count ≡ asked pieces → b ≡ all_allowed m what (cut_to count pieces) → all_allowed m what pieces ≡ b
whole-allowed m what count pieces b counted is = let within : asked pieces ≤ count = omega arith in sym (ap (all_allowed m what) (uncut count pieces within)) ∙ sym is

module _ (k : Known) (fd : ℕ) (o : Opened (Unit {0})) (pieces : List model_pieces.Piece) where
  pub writes-nothing : asked pieces ≡ 0 → write_pieces k fd o pieces ≡ done 0 []
  writes-nothing e = cond-true _ _ _ (ap (λ n. n == 0) e)

  pub writes-usable : (asked pieces ≡ 0 → ⊥) → write_pieces k fd o pieces ≡ if_usable Read pieces (write_what k fd o pieces o.what)
  writes-usable some = cond-false _ _ _ (ne_eqb (asked pieces) 0 some)

module _ {T : Type 0} {M : ℕ} (pid : ℕ) (s : State T M) (fd : ℕ) (o : Opened (Unit {0})) (pieces : List model_pieces.Piece) (some : asked pieces ≡ 0 → ⊥) where
  pub writes-fault : all_allowed (memory_of pid (meaning s)).pages Read pieces ≡ false
      → HasComeTo pid (write_pieces (known model.image_layout pid (meaning s)) fd o pieces) s (refuse EFAULT) s
  writes-fault fails =
      let k = known model.image_layout pid (meaning s) in
      unusable pid (write_pieces k fd o pieces) s s Read pieces (write_what k fd o pieces o.what) fails
      (goes-on pid (write_pieces k fd o pieces) s s (write_pieces k fd o pieces) _ (writes-usable k fd o pieces some) (comes-itself pid (write_pieces k fd o pieces) s))

  pub writes-what : (what : What) → o.what ≡ what → all_allowed (memory_of pid (meaning s)).pages Read pieces ≡ true
      → HasComeTo pid (write_pieces (known model.image_layout pid (meaning s)) fd o pieces) s (write_what (known model.image_layout pid (meaning s)) fd o pieces what) s
  writes-what what e passes =
      let k = known model.image_layout pid (meaning s) in
      goes-on pid (write_pieces k fd o pieces) s s (write_what k fd o pieces o.what) (write_what k fd o pieces what) (ap (write_what k fd o pieces) e)
      (usable pid (write_pieces k fd o pieces) s s Read pieces (write_what k fd o pieces o.what) passes
      (goes-on pid (write_pieces k fd o pieces) s s (write_pieces k fd o pieces) _ (writes-usable k fd o pieces some) (comes-itself pid (write_pieces k fd o pieces) s)))

-- ---- a file

limited-at : (t : Tree) → ((i : ℕ) (bytes : List ℕ) → body t i ≡ Some (RegularFile bytes) → length bytes ≤ file_limit) → (i : ℕ) → body_is is_file t i ≡ true → size t i ≤ file_limit
limited-at t limits i file = by (inode t i) refl file
  where
    of_body : (x : Inode) (b : Body) → x.node.body ≡ b → inode t i ≡ Some x → is_file b ≡ true → length (bytes_of b) ≤ file_limit
    of_body x (RegularFile bytes) is e file = limits i bytes (ap (option_map (λ (x : Inode). x.node.body)) e ∙ ap (λ b. Some b) is)
    of_body x (Directory entries standing) is e file = absurd cc
    of_body x (SymbolicLink text) is e file = absurd cc
    of_body x (ProcessDirectory standing) is e file = absurd cc

    by : (o : Option Inode) → inode t i ≡ o → option_map_or (λ (x : Inode). is_file x.node.body) o false ≡ true → option_map_or (λ (x : Inode). length (bytes_of x.node.body)) o 0 ≤ file_limit
    by None e file = absurd cc
    by (Some x) e file = of_body x x.node.body refl e file

module _ {T : Type 0} {M : ℕ} (s : State T M) (pid : ℕ) (view : IsOfView s) (c : Channel) (o : Opened (Unit {0})) (h : IsChannelOf (known model.image_layout pid (meaning s)) c o) (file : is_file_open o.what ≡ true) where
  pub place-is : (at : ℕ) → at ≡ (if c.append then length (bytes_at s.tree (inode_under c.host)) else c.at) → write_place (known model.image_layout pid (meaning s)) o ≡ at
  place-is at is =
      let k = known model.image_layout pid (meaning s) in
      ap (λ bytes. if o.append then length bytes else o.at) (bytes-are s pid view c o h file)
      ∙ sym (ap (λ (d : Channel). if d.append then length (bytes_at s.tree (inode_under c.host)) else d.at) h.same) ∙ sym is

  pub file-past : (fd at : ℕ) (pieces : List model_pieces.Piece) → file_limit ≤ at → write_file (known model.image_layout pid (meaning s)) fd o pieces at ≡ refuse EFBIG
  file-past fd at pieces past = let passed : nat_le file_limit at ≡ true = grind (arith, nat_tests) in cond-true _ _ _ passed

  pub file-within : (fd at : ℕ) (pieces : List model_pieces.Piece) → at < file_limit
      → write_file (known model.image_layout pid (meaning s)) fd o pieces at ≡ read_all (cut_to (file_limit - at) pieces) (put_in_file (known model.image_layout pid (meaning s)) fd o at)
  file-within fd at pieces within = let not_past : nat_le file_limit at ≡ false = grind (arith, nat_tests) in cond-false _ _ _ not_past

  module _ (there : body_is is_file s.tree (inode_under c.host) ≡ true) (at : ℕ) (bytes : List ℕ) (some : 0 < length bytes) (limited : at + length bytes ≤ file_limit) where
    after-is : size_written at (length bytes) (size s.tree (inode_under c.host)) ≡ max (size s.tree (inode_under c.host)) (at + length bytes)
    after-is = cond-false _ _ _ (ne_eqb (length bytes) 0 (λ none. let l : 0 < length bytes = some in absurd (omega arith)))

    -- it isn't past the limit of a file
    pub never-past : is_past_file (size_written at (length bytes) (size s.tree (inode_under c.host))) ≡ false
    never-past =
        let own : size s.tree (inode_under c.host) ≤ file_limit = limited-at s.tree view.lawful.tree.sound.files_limited (inode_under c.host) there in
        let all = after-is in
        let within : size_written at (length bytes) (size s.tree (inode_under c.host)) ≤ file_limit = omega arith in
        let n : ℕ = size_written at (length bytes) (size s.tree (inode_under c.host)) in
        grind (arith, nat_tests)

    pub no-room : (not (is_past_file (size_written at (length bytes) (size s.tree (inode_under c.host)))) && tree_has_no_room_for (inode_under c.host) (size_written at (length bytes) (size s.tree (inode_under c.host))) s.tree) ≡ true
        → (fd : ℕ) → put_in_file (known model.image_layout pid (meaning s)) fd o at bytes ≡ refuse ENOSPC
    no-room full fd =
        cond-true _ _ _
        (room-is s pid view c o h file (size_written at (length bytes) (length (open_bytes (known model.image_layout pid (meaning s)) o)))
        ∙ ap (λ n. tree_has_no_room_for (inode_under c.host) (size_written at (length bytes) n) s.tree) (size-is s pid view c o h file)
        ∙ sym (ap (λ b. not b && tree_has_no_room_for (inode_under c.host) (size_written at (length bytes) (size s.tree (inode_under c.host))) s.tree) never-past) ∙ full)

    module _ (fits : (not (is_past_file (size_written at (length bytes) (size s.tree (inode_under c.host)))) && tree_has_no_room_for (inode_under c.host) (size_written at (length bytes) (size s.tree (inode_under c.host))) s.tree) ≡ false) where
      room-left : tree_has_no_room_for (inode_under c.host) (size_written at (length bytes) (size s.tree (inode_under c.host))) s.tree ≡ false
      room-left = sym (ap (λ b. not b && tree_has_no_room_for (inode_under c.host) (size_written at (length bytes) (size s.tree (inode_under c.host))) s.tree) never-past) ∙ fits

      pub has-room : (fd : ℕ) → put_in_file (known model.image_layout pid (meaning s)) fd o at bytes ≡ done (length bytes) (WriteFile (inode_under c.host) at bytes ∷ Seek fd (at + length bytes) ∷ [])
      has-room fd =
          cond-false _ _ _
          (room-is s pid view c o h file (size_written at (length bytes) (length (open_bytes (known model.image_layout pid (meaning s)) o)))
          ∙ ap (λ n. tree_has_no_room_for (inode_under c.host) (size_written at (length bytes) n) s.tree) (size-is s pid view c o h file) ∙ room-left)
          ∙ ap (λ i. done (length bytes) (WriteFile i at bytes ∷ Seek fd (at + length bytes) ∷ [])) (sym (own-inode s pid view c o h))

      can-write : AreBytes bytes → CanWrite s.tree (inode_under c.host) at bytes
      can-write are = record {
        sized = record {
          file = there;
          small = limited;
          room =
              let left = room-left in
              let all = after-is in
              let before : ℕ = size s.tree (inode_under c.host) in
              let held : ℕ = s.tree.bytes in
              let after : ℕ = size_written at (length bytes) (size s.tree (inode_under c.host)) in
              let most : held - before + after ≤ byte_limit = grind (arith, nat_tests) in
              let fewer : held - before + (at + length bytes) ≤ byte_limit = omega arith in
              grind (arith, nat_tests);
        };
        are_bytes = are;
      }

      -- so the state is one of the view still
      pub written-sound : (t : State T M) → AreBytes bytes → IsServed t → IsSome (model.process pid (meaning s))
          → ((mounts : Mounts T) → meaning t ≡ applied images mounts pid (WriteFile (inode_under c.host) at bytes) (meaning s)) → IsSound t
      written-sound t are served lives made =
          view-sound t (view-changed s view t pid (WriteFile (inode_under c.host) at bytes) (record { found = None; directory = None }) served lives (can-write are) (made (record { found = None; directory = None })))

-- ---- a pipe

module _ (k : Known) (pipe : ℕ) (pieces : List model_pieces.Piece) where
  pub writes-no-pipe : k.pipe pipe ≡ None → write_pipe k pipe pieces (k.pipe pipe) ≡ done 0 []
  writes-no-pipe e = ap (write_pipe k pipe pieces) e

  module _ (held : List ℕ) (there : k.pipe pipe ≡ Some held) where
    pub writes-unread : not (k.reader pipe) ≡ true → write_pipe k pipe pieces (k.pipe pipe) ≡ ends sigpipe
    writes-unread none = ap (write_pipe k pipe pieces) there ∙ cond-true _ _ _ none

    pub writes-full : not (k.reader pipe) ≡ false → 65536 ≤ length held → write_pipe k pipe pieces (k.pipe pipe) ≡ waits
    writes-full read full =
        let passed : nat_le 65536 (length held) ≡ true = grind (arith, nat_tests) in
        ap (write_pipe k pipe pieces) there ∙ cond-false _ _ _ read ∙ cond-true _ _ _ passed

    pub writes-some : not (k.reader pipe) ≡ false → (free : ℕ) → free ≡ 65536 - length held → 0 < free
        → write_pipe k pipe pieces (k.pipe pipe) ≡ read_all (cut_to free pieces) (λ bytes. done (length bytes) (PutIntoPipe pipe bytes ∷ []))
    writes-some read free is some =
        let open_still : nat_le 65536 (length held) ≡ false = grind (arith, nat_tests) in
        ap (write_pipe k pipe pieces) there ∙ cond-false _ _ _ read ∙ cond-false _ _ _ open_still
        ∙ ap (λ n. read_all (cut_to n pieces) (λ bytes. done (length bytes) (PutIntoPipe pipe bytes ∷ []))) (sym is)
