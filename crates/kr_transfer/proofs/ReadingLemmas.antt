-- Rows that hand bytes to the caller, as they are carried out.
use Rattle.std.specs.FinMap as map
use Rattle.std.proofs.Common.{◌≡◌, ℕ, suc, ◌+◌, ◌<◌, Bool, true, false, List, [], ◌∷◌, Option, Some, None, length, min, take, drop, pos, refl, sym, ap, subst, ◌∙◌, arith}
use Rattle.std.specs.Prelude.{IsSome, ◌&&◌, ◌==◌, not, if◌then◌else◌}
use Rattle.std.specs.Option.{option_map}
use Rattle.std.proofs.lemmas.List.{length-take, take_min}
use Rattle.std.proofs.lemmas.Option.{same_Some, none-some}
use Rattle.std.proofs.lemmas.Bool.{cond-true, cond-false, ne_eqb}
use Rattle.kr_seen.specs.pr_base.declared.errno.Errno.{Errno}
use Rattle.kr_seen.specs.pr_base.declared.errno.Errno.TheVariants.{EBADF, EFAULT, EISDIR}
use Rattle.kr_seen.specs.kr_files.declared.opened.What.{What}
use Rattle.kr_seen.specs.kr_files.declared.opened.What.TheVariants.{File}
use Rattle.kr_seen.specs.rv_mem.Actions.{CarriedOut, carried_out}
use Rattle.kr_seen.specs.rv_mem.declared.rights.Use.TheVariants.{Write}
use Rattle.kr_seen.specs.kr_files.declared.opened.Moved.{Moved}
use Rattle.kr_seen.specs.kr_files.declared.opened.Moved.TheVariants.{Bytes}
use Rattle.kr_seen.specs.kr_files.declared.opened.Opened.{Opened}
use Rattle.kr_seen.specs.kr_files.declared.opened.PipeState.{PipeState}
use Rattle.kr_seen.specs.kr_files.Files.{pipe_state_of, read_answer}
use Rattle.kr_seen.specs.kr_files.Pipes.{moved_of}
use Rattle.kr_seen.specs.kr_model.Applied.{Mounts, all_applied, applied, images}
use Rattle.kr_seen.specs.kr_model.Change.{Change, Seek, TakeFromPipe, TakeInput}
use Rattle.kr_seen.specs.kr_model.DescriptorRows.{open_bytes}
use Rattle.kr_seen.specs.kr_model.FileRows.{is_dir, is_file_open, read_file, read_input, read_pieces, read_pipe, read_what}
use Rattle.kr_seen.specs.kr_model.Known.{Known, known}
use Rattle.kr_seen.specs.kr_model.Lawful.{ArePids}
use Rattle.kr_seen.specs.kr_model.Pieces as model_pieces
use Rattle.kr_seen.specs.kr_model.Pieces.{asked, cut_to, hand, laid_into, write_all}
use Rattle.kr_seen.specs.kr_model.Reply.{Reply, Replying, answers, done, refusal, refuse, waits}
use Rattle.kr_seen.specs.kr_model.State as model
use Rattle.kr_seen.specs.kr_model.declared.outcome.Outcome.{Outcome}
use Rattle.kr_seen.specs.kr_model.declared.outcome.Outcome.TheVariants.{Answer}
use Rattle.kr_seen.specs.kr_ops.declared.state.State.{State}
use Rattle.kr_seen.specs.kr_ops.Meaning.{meaning}
use Rattle.kr_seen.specs.kr_ops.Sound.{IsOfView, IsServed, IsSound}
use Rattle.kr_seen.specs.PerformedRows.{IsPerformed, after_row, carried, memory_of, with_memory_of}
use Rattle.kr_seen.specs.Using.{HasComeTo}
use Rattle.kr_seen.proofs.PerformLemmas.{by-reply}
use Rattle.kr_seen.proofs.UsingLemmas.{begins, by-uses}
use Rattle.kr_transfer.specs.Channels.{IsChannelOf, inode_under}
use Rattle.kr_transfer.specs.Moving.{LeavesOthers, all_allowed, bytes_at}
use Rattle.kr_transfer.specs.declared.channel.Channel.{Channel}
use Rattle.kr_transfer.proofs.MovingLemmas.{comes-then, hand-usable}
use Rattle.kr_transfer.proofs.ViewLemmas.{view-changed, view-sound}
use Rattle.kr_transfer.proofs.SizeLemmas.{bytes-are}

module _ {T : Type 0} {M : ℕ} (pid : ℕ) (row : Known → Replying) (old new : State T M) (result : Outcome) (pieces : List model_pieces.Piece) (bytes : List ℕ) (changes : List Change)
    (is : row (known model.image_layout pid (meaning old)) ≡ hand pieces bytes changes) where
  -- they were handed over, and then the changes were made
  pub by-hand : (mid : State T M) → HasComeTo pid (hand pieces bytes changes) old (done (length bytes) changes) mid → ArePids (meaning mid) → result ≡ Answer (pos (length bytes))
      → ((mounts : Mounts T) → meaning new ≡ all_applied images mounts pid changes (meaning mid)) → IsPerformed pid row old new result
  by-hand mid come pids outcome state =
      by-uses pid row old mid new result (answers (length bytes) changes) pids
      (comes-then pid _ _ _ old old mid (begins pid (row (known model.image_layout pid (meaning old))) old (hand pieces bytes changes) is) come) outcome state

  -- a piece may not be written
  pub by-fault : ArePids (meaning old) → HasComeTo pid (hand pieces bytes changes) old (refuse EFAULT) old → result ≡ (refusal EFAULT).outcome → meaning new ≡ meaning old → IsPerformed pid row old new result
  by-fault pids come outcome same =
      by-uses pid row old old new result (refusal EFAULT) pids
      (comes-then pid _ _ _ old old old (begins pid (row (known model.image_layout pid (meaning old))) old (hand pieces bytes changes) is) come) outcome (λ mounts. same)

  -- none is handed over
  pub by-none : bytes ≡ [] → ArePids (meaning old) → result ≡ Answer (pos 0) → meaning new ≡ meaning old → IsPerformed pid row old new result
  by-none empty pids outcome same = by-reply pid row old new result pids (answers 0 []) (is ∙ ap (λ bytes. hand pieces bytes changes) empty) outcome (λ mounts. same)

-- ---- what is open

module _ (k : Known) (c : Channel) (o : Opened (Unit {0})) (h : IsChannelOf k c o) where
  pub what-is : (what : What) → c.what ≡ what → o.what ≡ what
  what-is what e = sym (ap (λ (c : Channel). c.what) h.same) ∙ e

  pub file-open : c.what ≡ File → is_file_open o.what ≡ true
  file-open e = ap is_file_open (what-is File e)

-- a test of what is open, and then of its kind
either : (a b : Bool) (e : Errno) (x : Replying) → Some e ≡ (if a then Some EBADF else if b then Some EISDIR else None) → (if a then refuse EBADF else if b then refuse EISDIR else x) ≡ refuse e
either true b e x is = ap refuse (same_Some EBADF e (sym is))
either false true e x is = ap refuse (same_Some EISDIR e (sym is))
either false false e x is = absurd (none-some e (sym is))

neither : (a b : Bool) (x : Replying) → None ≡ (if a then Some EBADF else if b then Some EISDIR else None) → (if a then refuse EBADF else if b then refuse EISDIR else x) ≡ x
neither true b x is = absurd (none-some EBADF is)
neither false true x is = absurd (none-some EISDIR is)
neither false false x is = refl

module _ (k : Known) (c : Channel) (o : Opened (Unit {0})) (h : IsChannelOf k c o) (x : Replying) where
  pub read-refused : (e : Errno) → Some e ≡ (if not c.read then Some EBADF else if is_dir c.what then Some EISDIR else None) → (if not o.read then refuse EBADF else if is_dir o.what then refuse EISDIR else x) ≡ refuse e
  read-refused e is = either (not o.read) (is_dir o.what) e x (is ∙ ap (λ (c : Channel). if not c.read then Some EBADF else if is_dir c.what then Some EISDIR else None) h.same)

  pub read-goes-on : None ≡ (if not c.read then Some EBADF else if is_dir c.what then Some EISDIR else None) → (if not o.read then refuse EBADF else if is_dir o.what then refuse EISDIR else x) ≡ x
  read-goes-on is = neither (not o.read) (is_dir o.what) x (is ∙ ap (λ (c : Channel). if not c.read then Some EBADF else if is_dir c.what then Some EISDIR else None) h.same)

  pub write-refused : (e : Errno) → Some e ≡ (if not c.write then Some EBADF else if is_dir c.what then Some EISDIR else None) → (if not o.write then refuse EBADF else if is_dir o.what then refuse EISDIR else x) ≡ refuse e
  write-refused e is = either (not o.write) (is_dir o.what) e x (is ∙ ap (λ (c : Channel). if not c.write then Some EBADF else if is_dir c.what then Some EISDIR else None) h.same)

  pub write-goes-on : None ≡ (if not c.write then Some EBADF else if is_dir c.what then Some EISDIR else None) → (if not o.write then refuse EBADF else if is_dir o.what then refuse EISDIR else x) ≡ x
  write-goes-on is = neither (not o.write) (is_dir o.what) x (is ∙ ap (λ (c : Channel). if not c.write then Some EBADF else if is_dir c.what then Some EISDIR else None) h.same)

module _ (k : Known) (fd : ℕ) (o : Opened (Unit {0})) (pieces : List model_pieces.Piece) where
  -- nothing is asked
  pub reads-nothing : asked pieces ≡ 0 → read_pieces k fd o pieces ≡ done 0 []
  reads-nothing e = cond-true _ _ _ (ap (λ n. n == 0) e)

  -- something is
  pub reads-what : (what : What) → (asked pieces ≡ 0 → ⊥) → o.what ≡ what → read_pieces k fd o pieces ≡ read_what k fd o pieces what
  reads-what what some e = cond-false _ _ _ (ne_eqb (asked pieces) 0 some) ∙ ap (read_what k fd o pieces) e

-- ---- a file

module _ {T : Type 0} {M : ℕ} (s : State T M) (pid : ℕ) (view : IsOfView s) (c : Channel) (o : Opened (Unit {0})) (h : IsChannelOf (known model.image_layout pid (meaning s)) c o) (file : is_file_open o.what ≡ true) where
  pub file-row : (pieces : List model_pieces.Piece) (bytes : List ℕ) → bytes ≡ take (asked pieces) (drop c.at (bytes_at s.tree (inode_under c.host)))
      → read_file (known model.image_layout pid (meaning s)) c.fd o pieces ≡ hand pieces bytes (Seek c.fd (c.at + length bytes) ∷ [])
  file-row pieces bytes is =
      let k = known model.image_layout pid (meaning s) in
      let at : c.at ≡ o.at = ap (λ (c : Channel). c.at) h.same in
      let row : ℕ → List ℕ → Replying = λ at bytes. hand pieces bytes (Seek c.fd (at + length bytes) ∷ []) in
      let moved : take (asked pieces) (drop o.at (open_bytes k o)) ≡ bytes =
      ap (λ at. take (asked pieces) (drop at (open_bytes k o))) (sym at) ∙ ap (λ all. take (asked pieces) (drop c.at all)) (bytes-are s pid view c o h file) ∙ sym is in
      ap (row o.at) moved ∙ ap (λ at. row at bytes) (sym at)

pub input-row : (k : Known) (pieces : List model_pieces.Piece) (bytes : List ℕ) → bytes ≡ take (asked pieces) k.input → read_input k pieces ≡ hand pieces bytes (TakeInput (length bytes) ∷ [])
input-row k pieces bytes is = ap (λ bytes. hand pieces bytes (TakeInput (length bytes) ∷ [])) (sym is)

-- ---- a pipe

module _ (k : Known) (pipe : ℕ) (pieces : List model_pieces.Piece) where
  pub no-pipe : k.pipe pipe ≡ None → read_pipe k pipe pieces (k.pipe pipe) ≡ done 0 []
  no-pipe e = ap (read_pipe k pipe pieces) e

  pub empty-pipe : k.pipe pipe ≡ Some [] → read_pipe k pipe pieces (k.pipe pipe) ≡ (if k.writer pipe then waits else done 0 [])
  empty-pipe e = ap (read_pipe k pipe pieces) e

  pub full-pipe : (held : List ℕ) → k.pipe pipe ≡ Some held → 0 < length held
      → read_pipe k pipe pieces (k.pipe pipe) ≡ hand pieces (take (asked pieces) held) (TakeFromPipe pipe (length (take (asked pieces) held)) ∷ [])
  full-pipe held e some = ap (read_pipe k pipe pieces) e ∙ by held some
    where
      by : (held : List ℕ) → 0 < length held → read_pipe k pipe pieces (Some held) ≡ hand pieces (take (asked pieces) held) (TakeFromPipe pipe (length (take (asked pieces) held)) ∷ [])
      by [] some = absurd (let none : 0 < 0 = some in omega arith)
      by (b ∷ bytes) some = refl

module _ {T : Type 0} {M : ℕ} (s : State T M) (pid pipe : ℕ) where
  -- how a pipe stands, and its bytes
  pub record Stands (state : PipeState) : Type 0 where
    pub held : List ℕ
    pub there : (known model.image_layout pid (meaning s)).pipe pipe ≡ Some held
    pub count : state.bytes ≡ length held
    pub reader : state.reader ≡ (known model.image_layout pid (meaning s)).reader pipe
    pub writer : state.writer ≡ (known model.image_layout pid (meaning s)).writer pipe

  pub stands : (state : PipeState) → Some state ≡ pipe_state_of s.files.table pipe → Stands state
  stands state e = by (map.get s.files.table.pipes pipe) refl e
    where
      by : (q : Option (List ℕ)) → map.get s.files.table.pipes pipe ≡ q
          → Some state ≡ option_map (λ bytes. record { bytes = length bytes; reader = (known model.image_layout pid (meaning s)).reader pipe; writer = (known model.image_layout pid (meaning s)).writer pipe }) q → Stands state
      by None is e = absurd (none-some state (sym e))
      by (Some held) is e =
          let same : state ≡ record { bytes = length held; reader = (known model.image_layout pid (meaning s)).reader pipe; writer = (known model.image_layout pid (meaning s)).writer pipe } = same_Some state _ e in
          record {
            held = held;
            there = is;
            count = ap (λ (s : PipeState). s.bytes) same;
            reader = ap (λ (s : PipeState). s.reader) same;
            writer = ap (λ (s : PipeState). s.writer) same;
          }

  pub stands-not : None ≡ pipe_state_of s.files.table pipe → (known model.image_layout pid (meaning s)).pipe pipe ≡ None
  stands-not e = by (map.get s.files.table.pipes pipe) e
    where
      by : (q : Option (List ℕ)) → ◌≡◌ {A = Option PipeState} None (option_map (λ bytes. record { bytes = length bytes; reader = (known model.image_layout pid (meaning s)).reader pipe; writer = (known model.image_layout pid (meaning s)).writer pipe }) q) → q ≡ None
      by None e = refl
      by (Some held) e = absurd (none-some {A = PipeState} (record { bytes = length held; reader = (known model.image_layout pid (meaning s)).reader pipe; writer = (known model.image_layout pid (meaning s)).writer pipe }) e)

pub no-bytes : (held : List ℕ) → length held ≡ 0 → held ≡ []
no-bytes [] e = refl
no-bytes (b ∷ held) e = absurd (let long : suc (length held) ≡ 0 = e in omega arith)

-- as many bytes as are asked and there
module _ {T : Type 0} {M : ℕ} (s : State T M) (pid pipe : ℕ) (state : PipeState) (st : Stands s pid pipe state) (pieces : List model_pieces.Piece) where
  pub pipe-is-empty : state.bytes ≡ 0 → read_pipe (known model.image_layout pid (meaning s)) pipe pieces ((known model.image_layout pid (meaning s)).pipe pipe) ≡ (if state.writer then waits else done 0 [])
  pipe-is-empty e =
      let k = known model.image_layout pid (meaning s) in
      empty-pipe k pipe pieces (st.there ∙ ap (λ held. Some held) (no-bytes st.held (sym st.count ∙ e))) ∙ ap (λ b. if b then waits else done 0 []) (sym st.writer)

  module _ (n : ℕ) (counted : n ≡ min (asked pieces) state.bytes) (some : 0 < state.bytes) where
    pub own-length : length (take n st.held) ≡ n
    own-length = let long = st.count in length-take n st.held ∙ omega arith

    pub own-row : read_pipe (known model.image_layout pid (meaning s)) pipe pieces ((known model.image_layout pid (meaning s)).pipe pipe) ≡ hand pieces (take n st.held) (TakeFromPipe pipe n ∷ [])
    own-row =
        let k = known model.image_layout pid (meaning s) in
        let held_some : 0 < length st.held = let long = st.count in omega arith in
        let same : take (asked pieces) st.held ≡ take n st.held = sym (take_min (asked pieces) st.held) ∙ ap (λ n. take n st.held) (ap (min (asked pieces)) (sym st.count) ∙ sym counted) in
        full-pipe k pipe pieces st.held st.there held_some
        ∙ ap (λ bytes. hand pieces bytes (TakeFromPipe pipe (length bytes) ∷ [])) same
        ∙ ap (λ m. hand pieces (take n st.held) (TakeFromPipe pipe m ∷ [])) own-length

-- ---- bytes that were taken out of a pipe

pub taken-bytes : (writer : Bool) (n : ℕ) (held bytes : List ℕ) → 0 < length held → moved_of held writer n ≡ Bytes bytes → bytes ≡ take n held
taken-bytes writer n held bytes some e =
    let no : (length held == 0) ≡ false = ne_eqb (length held) 0 (λ none. let l : 0 < length held = some in absurd (omega arith)) in
    let own : moved_of held writer n ≡ Bytes (take n held) = cond-false _ _ _ (ap (λ b. b && writer) no) in
    let same : ◌≡◌ {A = Moved} (Bytes (take n held)) (Bytes bytes) = sym own ∙ e in
    cc

module _ {T : Type 0} {M : ℕ} (s : State T M) (pid pipe : ℕ) where
  pub answered : (n : ℕ) (held bytes : List ℕ) → (known model.image_layout pid (meaning s)).pipe pipe ≡ Some held → 0 < length held → read_answer s.files.table pipe n ≡ Some (Bytes bytes) → bytes ≡ take n held
  answered n held bytes there some e =
      taken-bytes ((known model.image_layout pid (meaning s)).writer pipe) n held bytes some
      (same_Some _ _ (sym (ap (option_map (λ (held : List ℕ). moved_of held ((known model.image_layout pid (meaning s)).writer pipe) n)) there) ∙ e))

module _ {T : Type 0} {M : ℕ} (pid pipe n : ℕ) (old mid : State T M) (view : IsOfView old) (lives : IsSome (model.process pid (meaning old))) (made : (mounts : Mounts T) → meaning mid ≡ applied images mounts pid (TakeFromPipe pipe n) (meaning old)) where
  pub taken-sound : IsServed mid → IsSome (map.get old.files.table.pipes pipe) → IsSound mid
  taken-sound served there =
      view-sound mid (view-changed old view mid pid (TakeFromPipe pipe n) (record { found = None; directory = None }) served lives there (made (record { found = None; directory = None })))

  pub taken-lives : IsSome (model.process pid (meaning mid))
  taken-lives = subst (λ (u : model.State T model.Image). IsSome (model.process pid u)) (sym (made (record { found = None; directory = None }))) lives

  pub taken-memory : memory_of pid (meaning mid) ≡ memory_of pid (meaning old)
  taken-memory = ap (memory_of pid) (made (record { found = None; directory = None }))

  -- the bytes were taken out before they were written
  pub by-taken : (new : State T M) (row : Known → Replying) (result : Outcome) (pieces : List model_pieces.Piece) (bytes : List ℕ)
      → row (known model.image_layout pid (meaning old)) ≡ hand pieces bytes (TakeFromPipe pipe n ∷ []) → 0 < length bytes
      → all_allowed (memory_of pid (meaning old)).pages Write (cut_to (length bytes) pieces) ≡ true
      → HasComeTo pid (write_all (laid_into (cut_to (length bytes) pieces) bytes) (done (length bytes) (TakeFromPipe pipe n ∷ []))) mid (done (length bytes) (TakeFromPipe pipe n ∷ [])) new
      → LeavesOthers pid mid new → result ≡ Answer (pos (length bytes)) → IsPerformed pid row old new result
  by-taken new row result pieces bytes is some allowed come leaves outcome =
      let changes : List Change = TakeFromPipe pipe n ∷ [] in
      let writes : Replying = write_all (laid_into (cut_to (length bytes) pieces) bytes) (done (length bytes) changes) in
      let begun = comes-then pid _ _ _ old old old (begins pid (row (known model.image_layout pid (meaning old))) old (hand pieces bytes changes) is) (hand-usable pid old pieces bytes changes some allowed) in
      let all : carried pid (row (known model.image_layout pid (meaning old))) (meaning old) ≡ record { reply = answers (length bytes) changes; memory = memory_of pid (meaning new) } =
      begun.carried ∙ ap (carried_out writes) (sym taken-memory) ∙ come.carried in
      record {
        outcome = outcome ∙ sym (ap (λ (d : CarriedOut Reply). d.reply.outcome) all);
        state = λ mounts.
            leaves.means ∙ ap (with_memory_of pid (memory_of pid (meaning new))) (made mounts)
            ∙ sym (ap (λ (d : CarriedOut Reply). after_row mounts pid d (meaning old)) all);
      }
