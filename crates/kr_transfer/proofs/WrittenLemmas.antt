-- Writes that were carried out, with whether the bytes of a file are others behind them.
use Rattle.std.proofs.Common.{◌≡◌, ℕ, ◌+◌, ◌-◌, ◌<◌, ◌≤◌, Bool, true, false, cond, List, [], ◌∷◌, ◌++◌, Option, Some, None, length, take, drop, replicate, refl, sym, ap, ◌∙◌, arith, length-drop, length-take, take-append-drop, ℤ}
use Rattle.std.specs.Prelude.{◌||◌, bytes_eq, nat_le, not}
use Rattle.std.specs.List.{list_any}
use Rattle.std.proofs.lemmas.Bool.{false_from_ne_true}
use Rattle.std.proofs.lemmas.List.{append-nil, append_assoc, drop-drop, drop_at, take_at}
use Rattle.std.proofs.lemmas.Slice.Eq.{bytes_eq-Decides}
use Rattle.kr_seen.specs.pr_base.declared.errno.Errno.{Errno}
use Rattle.kr_seen.specs.pr_base.declared.errno.Errno.TheVariants.{EBADF}
use Rattle.kr_seen.specs.rv_mem.Actions.{CarriedOut, Done, carried_out}
use Rattle.kr_seen.specs.rv_mem.Memory.{Memory, after_read}
use Rattle.kr_seen.specs.rv_mem.Pages.{bytes_from}
use Rattle.kr_seen.proofs.kr_inode.BytesLemmas.{length-sized}
use Rattle.kr_seen.specs.kr_tree.Changes.{overwritten, sized}
use Rattle.kr_seen.specs.kr_tree.Tree.{Tree}
use Rattle.kr_seen.specs.kr_calls.CallTable.{sigpipe}
use Rattle.kr_seen.specs.kr_files.declared.opened.Opened.{Opened}
use Rattle.kr_seen.specs.kr_files.declared.opened.What.{What}
use Rattle.kr_seen.specs.kr_files.declared.opened.What.TheVariants.{File, Dir, In, Out, Err, PipeRead, PipeWrite}
use Rattle.kr_seen.specs.kr_model.Applied.{Mounts, all_applied, images}
use Rattle.kr_seen.specs.kr_model.Asking.{or_badf}
use Rattle.kr_seen.specs.kr_model.Change.{PutIntoPipe, Seek, WriteErr, WriteFile, WriteOut}
use Rattle.kr_seen.specs.kr_model.FileRows.{is_file_open, write_pipe, write_what}
use Rattle.kr_seen.specs.kr_model.Known.{Known, known}
use Rattle.kr_seen.specs.kr_model.Lawful.{ArePids}
use Rattle.kr_seen.specs.kr_model.Pieces as model_pieces
use Rattle.kr_seen.specs.kr_model.Pieces.{cut_to, read_all}
use Rattle.kr_seen.specs.kr_model.Reply.{Reply, Replying, done, ends, refusal, refuse, waits}
use Rattle.kr_seen.specs.kr_model.State as model
use Rattle.kr_seen.specs.kr_model.declared.outcome.Outcome.{Outcome}
use Rattle.kr_seen.specs.kr_ops.declared.state.State.{State}
use Rattle.kr_seen.specs.kr_ops.Meaning.{meaning}
use Rattle.kr_seen.specs.PerformedRows.{IsPerformed, carried, memory_of}
use Rattle.kr_seen.specs.Using.{HasComeTo}
use Rattle.kr_seen.proofs.PerformLemmas.{by-refusal, by-reply}
use Rattle.kr_seen.proofs.UsingLemmas.{refused-after}
use Rattle.kr_transfer.specs.Channels.{IsChannelOf, channel_of}
use Rattle.kr_transfer.specs.Moving.{OnlyReads, bytes_at}
use Rattle.kr_transfer.specs.Writing.{IsWritten, makes_others}
use Rattle.kr_transfer.specs.declared.channel.Channel.{Channel}
use Rattle.kr_transfer.specs.declared.writing.Written.{Written}
use Rattle.kr_transfer.proofs.ChannelLemmas.{by-closed, by-row, is-closed, is-open}
use Rattle.kr_transfer.proofs.WritingLemmas.{by-then}

-- ---- what is told of a reply

-- whether one of a reply's changes makes bytes others
abbrev pub tells_others : Tree → CarriedOut Reply → Bool
tells_others t after = list_any (makes_others t) after.reply.changes

abbrev pub untold : Outcome → Written
untold outcome = record { outcome = outcome; differs = false }

-- ---- rows that were carried out

module _ {T : Type 0} {M : ℕ} (pid : ℕ) where
  -- a reply that doesn't rest on the memory
  pub wrote-reply : (row : Known → Replying) (old new : State T M) (result : Outcome) (differs : Bool) → ArePids (meaning old) → (reply : Reply) → row (known model.image_layout pid (meaning old)) ≡ Done reply
      → result ≡ reply.outcome → ((mounts : Mounts T) → meaning new ≡ all_applied images mounts pid reply.changes (meaning old)) → differs ≡ list_any (makes_others old.tree) reply.changes
      → IsWritten pid row old new (record { outcome = result; differs = differs })
  wrote-reply row old new result differs pids reply e outcome state told = record {
    performed = by-reply pid row old new result pids reply e outcome state;
    differs = told ∙ sym (ap (λ (r : Replying). tells_others old.tree (carried pid r (meaning old))) e);
  }

  pub wrote-refusal : (row : Known → Replying) (old new : State T M) (result : Outcome) → ArePids (meaning old) → (e : Errno) → row (known model.image_layout pid (meaning old)) ≡ refuse e
      → result ≡ (refusal e).outcome → meaning new ≡ meaning old → IsWritten pid row old new (untold result)
  wrote-refusal row old new result pids e is outcome same = record {
    performed = by-refusal pid row old new result pids e is outcome same;
    differs = sym (ap (λ (r : Replying). tells_others old.tree (carried pid r (meaning old))) is);
  }

  pub wrote-refused : (row : Known → Replying) (old mid new : State T M) (result : Outcome) (e : Errno) → ArePids (meaning mid) → HasComeTo pid (row (known model.image_layout pid (meaning old))) old (refuse e) mid
      → result ≡ (refusal e).outcome → meaning new ≡ meaning mid → IsWritten pid row old new (untold result)
  wrote-refused row old mid new result e pids come outcome same = record {
    performed = refused-after pid row old mid new result e pids come outcome same;
    differs = sym (ap (tells_others old.tree) come.carried);
  }

  -- a row does what another one does that is the same
  pub wrote-row : (row same : Known → Replying) (old new : State T M) (result : Written) → row (known model.image_layout pid (meaning old)) ≡ same (known model.image_layout pid (meaning old))
      → IsWritten pid same old new result → IsWritten pid row old new result
  wrote-row row same old new result e done = record {
    performed = by-row pid old new result.outcome row same e done.performed;
    differs = done.differs ∙ sym (ap (λ (r : Replying). tells_others old.tree (carried pid r (meaning old))) e);
  }

  -- a row that came on to another one, which was carried out from there, in the same tree
  pub wrote-then : (row next : Known → Replying) (old mid new : State T M) (result : Written)
      → HasComeTo pid (row (known model.image_layout pid (meaning old))) old (next (known model.image_layout pid (meaning old))) mid
      → known model.image_layout pid (meaning mid) ≡ known model.image_layout pid (meaning old) → mid.tree ≡ old.tree
      → IsWritten pid next mid new result → IsWritten pid row old new result
  wrote-then row next old mid new result come same tree done = record {
    performed = by-then pid row next old mid new result.outcome come same done.performed;
    differs =
        done.differs
        ∙ ap (λ (t : Tree). tells_others t (carried pid (next (known model.image_layout pid (meaning mid))) (meaning mid))) tree
        ∙ ap (λ (k : Known). tells_others old.tree (carried pid (next k) (meaning mid))) same
        ∙ sym (ap (tells_others old.tree) come.carried);
  }

  -- ---- rows that begin with a descriptor

  module _ (old new : State T M) (fd : ℤ) (next : Known → ℕ → Opened (Unit {0}) → Replying) where
    abbrev own : Known
    own = known model.image_layout pid (meaning old)

    pub wrote-closed : (result : Outcome) → ArePids (meaning old) → channel_of (known model.image_layout pid (meaning old)) fd ≡ None → result ≡ (refusal EBADF).outcome → meaning new ≡ meaning old
        → IsWritten pid (λ k. or_badf k fd (next k)) old new (untold result)
    wrote-closed result pids e outcome same = record {
      performed = by-closed pid old new result fd next pids e outcome same;
      differs = sym (ap (λ (r : Replying). tells_others old.tree (carried pid r (meaning old))) (is-closed own fd (next own) e));
    }

    pub wrote-open : (result : Written) (c : Channel) → channel_of (known model.image_layout pid (meaning old)) fd ≡ Some c
        → ((o : Opened (Unit {0})) → IsChannelOf (known model.image_layout pid (meaning old)) c o → IsWritten pid (λ k. next k c.fd o) old new result)
        → IsWritten pid (λ k. or_badf k fd (next k)) old new result
    wrote-open result c e done =
        let here = is-open own fd (next own) c e in
        wrote-row (λ k. or_badf k fd (next k)) (λ k. next k c.fd here.0) old new result here.2 (done here.0 here.1)

-- ---- what is no file

module _ (t : Tree) where
  abbrev LeavesFiles : Replying → Type 0
  LeavesFiles row = (m : Memory) → tells_others t (carried_out row m) ≡ false

  either-leaves : (b : Bool) (x y : Replying) → LeavesFiles x → LeavesFiles y → LeavesFiles (cond b x y)
  either-leaves true x y one other = one
  either-leaves false x y one other = other

  all-read-leaves : (pieces : List model_pieces.Piece) (next : List ℕ → Replying) → ((bytes : List ℕ) → LeavesFiles (next bytes)) → LeavesFiles (read_all pieces next)
  all-read-leaves [] next each m = each [] m
  all-read-leaves (p ∷ pieces) next each m =
      let bytes = bytes_from m.pages p.at p.count in
      all-read-leaves pieces (λ others. next (bytes ++ others)) (λ others. each (bytes ++ others)) (after_read m p.at p.count)

  pipe-leaves : (k : Known) (pipe : ℕ) (pieces : List model_pieces.Piece) (o : Option (List ℕ)) → LeavesFiles (write_pipe k pipe pieces o)
  pipe-leaves k pipe pieces None m = refl
  pipe-leaves k pipe pieces (Some held) m =
      let taken : Replying = read_all (cut_to (65536 - length held) pieces) (λ bytes. done (length bytes) (PutIntoPipe pipe bytes ∷ [])) in
      let kept : Replying = cond (nat_le 65536 (length held)) waits taken in
      either-leaves (not (k.reader pipe)) (ends sigpipe) kept (λ m. refl)
      (either-leaves (nat_le 65536 (length held)) waits taken (λ m. refl) (all-read-leaves (cut_to (65536 - length held) pieces) (λ bytes. done (length bytes) (PutIntoPipe pipe bytes ∷ [])) (λ bytes m. refl))) m

  elsewhere-leaves : (k : Known) (fd : ℕ) (o : Opened (Unit {0})) (pieces : List model_pieces.Piece) (what : What) → is_file_open what ≡ false → LeavesFiles (write_what k fd o pieces what)
  elsewhere-leaves k fd o pieces File away m = absurd cc
  elsewhere-leaves k fd o pieces Dir away m = refl
  elsewhere-leaves k fd o pieces In away m = refl
  elsewhere-leaves k fd o pieces Out away m = all-read-leaves pieces (λ bytes. done (length bytes) (WriteOut bytes ∷ [])) (λ bytes m. refl) m
  elsewhere-leaves k fd o pieces Err away m = all-read-leaves pieces (λ bytes. done (length bytes) (WriteErr bytes ∷ [])) (λ bytes m. refl) m
  elsewhere-leaves k fd o pieces (PipeRead p) away m = refl
  elsewhere-leaves k fd o pieces (PipeWrite p) away m = pipe-leaves k p pieces (k.pipe p) m

-- what was written to it, by its kind
pub wrote-elsewhere : {T : Type 0} {M : ℕ} (pid : ℕ) (old new : State T M) (result : Outcome) (fd : ℕ) (o : Opened (Unit {0})) (pieces : List model_pieces.Piece) (what : What) → o.what ≡ what → is_file_open what ≡ false
    → IsPerformed pid (λ k. write_what k fd o pieces what) old new result → IsWritten pid (λ k. write_what k fd o pieces o.what) old new (untold result)
wrote-elsewhere pid old new result fd o pieces what e away done =
    let k = known model.image_layout pid (meaning old) in
    record {
      performed = by-row pid old new result (λ k. write_what k fd o pieces o.what) (λ k. write_what k fd o pieces what) (ap (write_what k fd o pieces) e) done;
      differs =
          sym (ap (λ (w : What). tells_others old.tree (carried pid (write_what k fd o pieces w) (meaning old))) e
          ∙ elsewhere-leaves old.tree k fd o pieces what away (memory_of pid (meaning old)));
    }

-- ---- a file: bytes written over those that stand there

module _ (at : ℕ) (old : List ℕ) where
  -- up to a place within them they are cut, and nothing is filled
  cut-within : at ≤ length old → sized at old ≡ take at old
  cut-within within =
      let none : at - length old ≡ 0 = omega arith in
      ap (λ n. take at old ++ replicate n 0) none ∙ append-nil (take at old)

  -- the same bytes leave all of them
  pub stays : (b : List ℕ) → 0 < length b → take (length b) (drop at old) ≡ b → overwritten at b old ≡ old
  stays [] some same = absurd (let none : 0 < 0 = some in omega arith)
  stays (x ∷ bs) some same =
      let b : List ℕ = x ∷ bs in
      let long : length (take (length b) (drop at old)) ≡ length b = ap length same in
      let taken = length-take (length b) (drop at old) in
      let dropped = length-drop at old in
      let within : at ≤ length old = omega arith in
      ap (λ l. l ++ b ++ drop (at + length b) old) (cut-within within)
      ∙ append_assoc (take at old) b (drop (at + length b) old)
      ∙ ap (λ l. take at old ++ (l ++ drop (at + length b) old)) (sym same)
      ∙ ap (λ l. take at old ++ (take (length b) (drop at old) ++ l)) (sym (drop-drop (length b) at old))
      ∙ ap (λ l. take at old ++ l) (take-append-drop (length b) (drop at old))
      ∙ take-append-drop at old

  -- and where all stayed they were the same
  pub stood : (b : List ℕ) → 0 < length b → overwritten at b old ≡ old → take (length b) (drop at old) ≡ b
  stood [] some same = absurd (let none : 0 < 0 = some in omega arith)
  stood (x ∷ bs) some same =
      let b : List ℕ = x ∷ bs in
      let rest = drop (at + length b) old in
      ap (λ l. take (length b) (drop at l)) (sym same)
      ∙ ap (λ l. take (length b) (drop at l)) (append_assoc (sized at old) b rest)
      ∙ ap (take (length b)) (drop_at (sized at old) (b ++ rest) at (length-sized at old))
      ∙ take_at b rest (length b) refl

  -- one test of both
  pub tests-same : (b : List ℕ) → 0 < length b → bytes_eq (take (length b) (drop at old)) b ≡ bytes_eq (overwritten at b old) old
  tests-same b some = by (bytes_eq (take (length b) (drop at old)) b) refl
    where
      by : (t : Bool) → bytes_eq (take (length b) (drop at old)) b ≡ t → t ≡ bytes_eq (overwritten at b old) old
      by true e = sym ((bytes_eq-Decides (overwritten at b old) old).1 (stays b some ((bytes_eq-Decides (take (length b) (drop at old)) b).0 e)))
      by false e =
          sym (false_from_ne_true _ (λ all.
          let one = (bytes_eq-Decides (take (length b) (drop at old)) b).1 (stood b some ((bytes_eq-Decides (overwritten at b old) old).0 all)) in
          let clash : true ≡ false = sym one ∙ e in cc))

or-none : (b : Bool) → (b || false) ≡ b
or-none true = refl
or-none false = refl

-- what the comparison of them tells
pub file-differs : (t : Tree) (i j at fd to : ℕ) (b : List ℕ) (differs : Bool) → i ≡ j → 0 < length b → differs ≡ not (bytes_eq (take (length b) (drop at (bytes_at t i))) b)
    → differs ≡ list_any (makes_others t) (WriteFile j at b ∷ Seek fd to ∷ [])
file-differs t i j at fd to b differs same some is =
    is ∙ ap not (tests-same at (bytes_at t i) b some) ∙ ap (λ i. not (bytes_eq (overwritten at b (bytes_at t i)) (bytes_at t i))) same
    ∙ sym (or-none (not (bytes_eq (overwritten at b (bytes_at t j)) (bytes_at t j))))

-- a memory of the caller is no part of the tree
pub tree-read : {T : Type 0} {M : ℕ} (pid : ℕ) (s t : State T M) → OnlyReads pid s t → t.tree ≡ s.tree
tree-read {T} pid s t reads = ap (λ (u : model.State T model.Image). u.tree) reads.leaves.means
