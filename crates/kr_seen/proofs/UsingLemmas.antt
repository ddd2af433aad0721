-- What is left of a state of which the caller's memory alone changed, and how a row comes on by each use of it.
use Rattle.std.specs.FinMap as map
use Rattle.std.proofs.Common.{◌≡◌, ℕ, ◌+◌, ◌<◌, Bool, true, false, cond, List, [], ◌∷◌, length, get_or, Option, Some, None, IsSome, refl, sym, ap, subst, ◌∙◌, arith}
use Rattle.std.specs.Prelude.{◌↔◌, Result, Ok, Err, IsErrOf, IsOk, OnErr, OnOk, map as map_list, ◌==◌, sum, if◌then◌else◌}
use Rattle.std.specs.Vec.{with_item}
use Rattle.std.specs.Option.{option_map, option_map_or, option_and_then}
use Rattle.kr_ops.specs.rv_mem.Actions.{CarriedOut, carried_out, Done, MayUse, ReadBytes, WriteBytes, read_if_allowed, write_if_allowed}
use Rattle.kr_ops.specs.rv_mem.Layout.{layout_of}
use Rattle.kr_ops.specs.rv_mem.Memory.{Memory, after_read, with_pages}
use Rattle.kr_ops.specs.rv_mem.Pages.{allows_all, bytes_from, written}
use Rattle.kr_ops.specs.rv_mem.declared.rights.Use.{Use}
use Rattle.kr_ops.specs.rv_mem.declared.rights.Use.TheVariants.{Read, Write}
use Rattle.kr_ops.proofs.rv_mem.LayoutLemmas.{layouts_follow}
use Rattle.kr_ops.specs.kr_files.Descriptors.{Named, named_count}
use Rattle.kr_ops.specs.kr_files.Files.{file_at}
use Rattle.kr_ops.specs.kr_files.WithoutMounts.{without_mount}
use Rattle.kr_ops.specs.kr_model.Applied.{Mounts, all_applied, images, with_image}
use Rattle.kr_ops.specs.kr_model.Known.{Family, Known, caller_of, family_of, known, no_caller, pages_in_all}
use Rattle.kr_ops.specs.kr_model.Lawful.{ArePids}
use Rattle.kr_ops.specs.kr_model.Reply.{Reply, Replying, refusal, refuse}
use Rattle.kr_ops.specs.pr_base.declared.errno.Errno.{Errno}
use Rattle.kr_ops.specs.kr_model.ProcessRows.{null_or_writable, unless_null}
use Rattle.kr_ops.specs.kr_model.State as model
use Rattle.kr_ops.specs.kr_model.Uses.{AreUses, file_uses, process_use}
use Rattle.kr_ops.specs.kr_model.declared.outcome.Outcome.{Outcome}
use Rattle.kr_ops.proofs.law_lawful.AfterLemmas.{some-of, pids-with}
use Rattle.kr_ops.proofs.law_lawful.ProcessChangeLemmas.{found as found-with, found-passes, same-mapped, sum-with}
use Rattle.kr_ops.specs.declared.state.Process.{Process}
use Rattle.kr_ops.specs.declared.state.State.{State}
use Rattle.kr_ops.specs.Living.{HasPid}
use Rattle.kr_ops.specs.Making.{IsAsBefore}
use Rattle.kr_ops.specs.Meaning.{meaning}
use Rattle.kr_ops.specs.Sound.{IsServed, IsSound}
use Rattle.kr_ops.proofs.ChangeLemmas.{living_as, one-changed}
use Rattle.kr_ops.proofs.ListLemmas.{apart-test, same-test}
use Rattle.kr_ops.proofs.OpeningLemmas.{found}
use Rattle.kr_ops.proofs.PageLemmas.{with_mem}
use Rattle.kr_ops.proofs.ServeLemmas.{kept-names, room-set}
use Rattle.kr_seen.specs.PerformedRows.{IsPerformed, after_row, carried, memory_of, no_memory, with_memory, with_memory_of}
use Rattle.kr_seen.specs.Using.{CarriesOn, HasComeTo, HasMemory, Reads, Writes}
use Rattle.kr_seen.proofs.PerformLemmas.{own-memory}

-- ---- what a use answers

-- both, if it succeeded
pub on-ok-both : {A E : Type 0} (r : Result A E) (X Y : Type 0) → OnOk r X → OnOk r Y → OnOk r (X × Y)
on-ok-both (Ok x) X Y a b = (a, b)
on-ok-both (Err e) X Y a b = tt

pub allowed-where-ok : {A E : Type 0} (r : Result A E) (allowed : Bool) → (IsOk r ↔ (allowed ≡ true)) → OnOk r (allowed ≡ true)
allowed-where-ok (Ok x) allowed when = when.0 refl
allowed-where-ok (Err e) allowed when = tt

pub refused-where-err : {A E : Type 0} (r : Result A E) (allowed : Bool) → (IsOk r ↔ (allowed ≡ true)) → OnErr r (allowed ≡ false)
refused-where-err (Ok x) allowed when = tt
refused-where-err (Err e) true when = absurd (let none : false ≡ true = when.1 refl in cc)
refused-where-err (Err e) false when = refl

pub allowed-unless : {A E : Type 0} (r : Result A E) (bad : E) (allowed : Bool) → (IsErrOf r bad ↔ (allowed ≡ false)) → OnOk r (allowed ≡ true)
allowed-unless (Ok x) bad true when = refl
allowed-unless (Ok x) bad false when = absurd (let none : ◌≡◌ (Ok x) (Err bad) = when.1 refl in cc)
allowed-unless (Err e) bad allowed when = tt

module _ {T : Type 0} (pid : ℕ) where
  abbrev with_own : Memory → model.Process T model.Image → model.Process T model.Image
  with_own m p = with_image (with_memory m) p

  -- ---- the last memory counts

  twice-one : (m n : Memory) (p : model.Process T model.Image) → model.at_pid pid (with_own m) (model.at_pid pid (with_own n) p) ≡ model.at_pid pid (with_own m) p
  twice-one m n p = by (p.pid == pid) refl
    where
      by : (b : Bool) → (p.pid == pid) ≡ b → model.at_pid pid (with_own m) (cond b (with_own n p) p) ≡ cond b (with_own m p) p
      by true is = ap (λ b. cond b (with_own m p) (with_own n p)) is
      by false is = ap (λ b. cond b (with_own m p) p) is

  twice-each : (m n : Memory) (ps : List (model.Process T model.Image)) → model.with_process pid (with_own m) (model.with_process pid (with_own n) ps) ≡ model.with_process pid (with_own m) ps
  twice-each m n [] = refl
  twice-each m n (p ∷ ps) =
      ap (λ x. x ∷ model.with_process pid (with_own m) (model.with_process pid (with_own n) ps)) (twice-one m n p)
      ∙ ap (λ xs. model.at_pid pid (with_own m) p ∷ xs) (twice-each m n ps)

  pub twice : (m n : Memory) (s : model.State T model.Image) → with_memory_of pid m (with_memory_of pid n s) ≡ with_memory_of pid m s
  twice m n s = ap (λ ps. living_as ps s) (twice-each m n s.living)

module _ {T : Type 0} (pid : ℕ) (m : Memory) (s : model.State T model.Image) where
  changed-as : (A : Type 0) (f : model.Process T model.Image → A) → ((p : model.Process T model.Image) → f (with_own pid m p) ≡ f p) → (p : model.Process T model.Image) → f (model.at_pid pid (with_own pid m) p) ≡ f p
  changed-as A f same p = by (p.pid == pid)
    where
      by : (b : Bool) → f (cond b (with_own pid m p) p) ≡ f p
      by true = same p
      by false = refl

  -- ---- the caller, with that memory

  own-process : (p : model.Process T model.Image) → model.process pid s ≡ Some p → model.process pid (with_memory_of pid m s) ≡ Some (with_own pid m p)
  own-process p e =
      found-with pid (with_own pid m) (λ p. refl) pid s.living
      ∙ ap (option_map (model.at_pid pid (with_own pid m))) e
      ∙ ap (λ b. Some (cond b (with_own pid m p) p)) (found-passes (model.is_pid pid) s.living p e)

  pub memory-is : IsSome (model.process pid s) → memory_of pid (with_memory_of pid m s) ≡ m
  memory-is lives =
      let own = some-of (model.process pid s) lives in
      ap (λ o. option_map_or (λ (p : model.Process T model.Image). p.image.memory) o no_memory) (own-process own.0 own.1)

  still-lives : IsSome (model.process pid s) → IsSome (model.process pid (with_memory_of pid m s))
  still-lives lives = let own = some-of (model.process pid s) lives in subst IsSome (sym (own-process own.0 own.1)) refl

  -- ---- what descriptors mean, and what is held

  named-same : (q fd : ℕ) → model.named q fd (with_memory_of pid m s) ≡ model.named q fd s
  named-same q fd = ap (option_and_then (λ (p : model.Process T model.Image). map.get p.descs fd)) (found-with pid (with_own pid m) (λ p. refl) q s.living) ∙ by (model.process q s)
    where
      by : (o : Option (model.Process T model.Image)) → option_and_then (λ (p : model.Process T model.Image). map.get p.descs fd) (option_map (model.at_pid pid (with_own pid m)) o) ≡ option_and_then (λ (p : model.Process T model.Image). map.get p.descs fd) o
      by None = refl
      by (Some p) = changed-as (Option Named) (λ p. map.get p.descs fd) (λ p. refl) p

  listed-same : (A : Type 0) (f : model.Process T model.Image → A) → ((p : model.Process T model.Image) → f (with_own pid m p) ≡ f p) → map_list f (with_memory_of pid m s).living ≡ map_list f s.living
  listed-same A f same = same-mapped f (model.at_pid pid (with_own pid m)) (changed-as A f same) s.living

  uses-same : (pins : ℕ → ℕ) → AreUses pins s → AreUses pins (with_memory_of pid m s)
  uses-same pins uses = record {
    holds = λ i. uses.holds i ∙ ap (λ n. file_uses s.files i + n + pins i) (sym (ap sum (listed-same ℕ (process_use i) (λ p. refl))));
    counts = λ n h e. let counts = uses.counts n h e in (counts.0 ∙ sym (ap sum (listed-same ℕ (λ p. named_count p.descs n) (λ p. refl))), counts.1);
    numbered = uses.numbered;
  }

  -- ---- what calls may ask

  module _ (lives : IsSome (model.process pid s)) (pids : ArePids s) (laid : layout_of m.pages ≡ layout_of (memory_of pid s).pages) where
    caller-same : (known model.image_layout pid (with_memory_of pid m s)).caller ≡ (known model.image_layout pid s).caller
    caller-same =
        let own = some-of (model.process pid s) lives in
        let p = own.0 in
        let same : layout_of m.pages ≡ layout_of p.image.memory.pages = laid ∙ ap (λ o. layout_of (option_map_or (λ (p : model.Process T model.Image). p.image.memory) o no_memory).pages) own.1 in
        ap (λ o. option_map_or (caller_of model.image_layout) o no_caller) (own-process p own.1)
        ∙ (λ j. record { parent = p.parent; layout = same j; brk_start = p.brk_start; brk = p.brk; descs = p.descs; cwd = p.cwd.host; umask = p.umask })
        ∙ sym (ap (λ o. option_map_or (caller_of model.image_layout) o no_caller) own.1)

    pages-same : pages_in_all model.image_layout (with_memory_of pid m s).living ≡ pages_in_all model.image_layout s.living
    pages-same =
        let own = some-of (model.process pid s) lives in
        let p = own.0 in
        let count : model.Process T model.Image → ℕ = λ p. map.len (layout_of p.image.memory.pages) in
        let same : count (with_own pid m p) ≡ count p = ap (λ l. map.len l) (laid ∙ ap (λ o. layout_of (option_map_or (λ (p : model.Process T model.Image). p.image.memory) o no_memory).pages) own.1) in
        let sums = sum-with pid (with_own pid m) (λ p. refl) count s.next_pid 2 s.living p pids.living own.1 in
        omega arith

    known-same : known model.image_layout pid (with_memory_of pid m s) ≡ known model.image_layout pid s
    known-same = λ j. record {
      caller = caller-same j;
      user = s.user;
      opened = λ fd. option_map without_mount (option_and_then (λ (x : Named). file_at s.files x.number) (named-same pid fd j));
      pipe = (known model.image_layout pid s).pipe;
      reader = (known model.image_layout pid s).reader;
      writer = (known model.image_layout pid s).writer;
      pipes = (known model.image_layout pid s).pipes;
      fact = (known model.image_layout pid s).fact;
      sizes = (known model.image_layout pid s).sizes;
      input = (known model.image_layout pid s).input;
      living = listed-same Family (family_of model.image_layout) (λ p. refl) j;
      ended = s.ended;
      next_pid = s.next_pid;
      pages = pages-same j;
    }

module _ {T : Type 0} {M : ℕ} where
  -- ---- of a state in code

  -- what holds of a state holds of one that means the same
  means-sound : (s t : State T M) (u : model.State T model.Image) → IsSound s → IsServed t → meaning t ≡ u → ArePids u
      → ((pid fd : ℕ) (x : Named) → model.named pid fd u ≡ Some x → (fd < 1024) × IsSome (file_at u.files x.number))
      → ((pins : ℕ → ℕ) → AreUses pins (meaning s) → AreUses pins u) → IsSound t
  means-sound s t u sound served means pids descriptors uses = record {
    served = served;
    pids = subst (λ u. ArePids u) (sym means) pids;
    descriptors = subst (λ (u : model.State T model.Image). (pid fd : ℕ) (x : Named) → model.named pid fd u ≡ Some x → (fd < 1024) × IsSome (file_at u.files x.number)) (sym means) descriptors;
    pins = sound.pins;
    few = sound.few;
    uses = subst (λ u. AreUses sound.pins u) (sym means) (uses sound.pins sound.uses);
  }

  pub stays-sound : (s t : State T M) → IsSound s → IsAsBefore s t → IsSound t
  stays-sound s t sound same = means-sound s t (meaning s) sound same.served same.same sound.pids sound.descriptors (λ pins uses. uses)

  pub has-memory : (s t : State T M) (pid : ℕ) (m : Memory) → IsSound s → IsSome (model.process pid (meaning s)) → IsServed t → meaning t ≡ with_memory_of pid m (meaning s)
      → layout_of m.pages ≡ layout_of (memory_of pid (meaning s)).pages → HasMemory pid m s t
  has-memory s t pid m sound lives served means laid = record {
    means = means;
    sound = means-sound s t (with_memory_of pid m (meaning s)) sound served means
        (pids-with (meaning s) (with_memory_of pid m (meaning s)) pid (with_own pid m) (λ p. refl) refl refl refl sound.pids)
        (λ q fd x e. sound.descriptors q fd x (sym (named-same pid m (meaning s) q fd) ∙ e))
        (uses-same pid m (meaning s));
    lives = subst (λ (u : model.State T model.Image). IsSome (model.process pid u)) (sym means) (still-lives pid m (meaning s) lives);
    known = ap (known model.image_layout pid) means ∙ known-same pid m (meaning s) lives sound.pids laid;
  }

  -- ---- the process at an index, whose memory a call of it changed

  module _ (s : State T M) (pid k : ℕ) (p : Process T M) (sound : IsSound s) (at : HasPid pid k s.living.items) (e : p ≡ get_or s.living.items k p) where
    pub memory-at : memory_of pid (meaning s) ≡ p.mem
    memory-at = ap (λ o. option_map_or (λ (p : model.Process T model.Image). p.image.memory) o no_memory) (found s pid k p sound at e)

    -- the state with another memory of that process
    abbrev changed_at : Memory → State T M
    changed_at m = record s { living = with_item s.living k (with_mem p m) }

    changed-means : (m : Memory) → meaning (changed_at m) ≡ with_memory_of pid m (meaning s)
    changed-means m = one-changed s pid k p (with_mem p m) (with_own pid m) sound.pids at e refl

    changed-served : (m : Memory) → layout_of m.pages ≡ layout_of p.mem.pages → IsServed (changed_at m)
    changed-served m laid = record {
      files = kept-names s sound.served k p (with_mem p m) at.within e refl;
      room = sound.served.room ∙ sym (room-set s.living.items k p (with_mem p m) at.within e (ap (λ l. map.len l) laid));
    }

    -- it has this memory
    pub has-now : (m n : Memory) → IsSome (model.process pid (meaning s)) → m ≡ n → layout_of n.pages ≡ layout_of p.mem.pages → HasMemory pid n s (changed_at m)
    has-now m n lives is laid =
        has-memory s (changed_at m) pid n sound lives (changed-served m (ap (λ (m : Memory). layout_of m.pages) is ∙ laid)) (changed-means m ∙ ap (λ m. with_memory_of pid m (meaning s)) is)
        (laid ∙ ap (λ (m : Memory). layout_of m.pages) (sym memory-at))

    -- it has the memory that it had
    pub as-it-was : (m : Memory) → m ≡ p.mem → IsAsBefore s (changed_at m)
    as-it-was m is = record {
      same = changed-means m ∙ ap (λ m. with_memory_of pid m (meaning s)) (is ∙ sym memory-at) ∙ own-memory pid (meaning s) sound.pids;
      served = changed-served m (ap (λ (m : Memory). layout_of m.pages) is);
    }

    pub reads-now : (m : Memory) (a n : ℕ) (bytes : List ℕ) → IsSome (model.process pid (meaning s)) → allows_all p.mem.pages a n Read ≡ true → bytes ≡ bytes_from p.mem.pages a n → m ≡ after_read p.mem a n
        → Reads pid a n bytes s (changed_at m)
    reads-now m a n bytes lives allowed are is = record {
      allowed = ap (λ (m : Memory). allows_all m.pages a n Read) memory-at ∙ allowed;
      bytes_are = are ∙ ap (λ (m : Memory). bytes_from m.pages a n) (sym memory-at);
      leaves = has-now m (after_read (memory_of pid (meaning s)) a n) lives (is ∙ ap (λ m. after_read m a n) (sym memory-at)) (ap (λ (m : Memory). layout_of m.pages) memory-at);
    }

    pub writes-now : (m : Memory) (a : ℕ) (bytes : List ℕ) → IsSome (model.process pid (meaning s)) → allows_all p.mem.pages a (length bytes) Write ≡ true → m ≡ with_pages p.mem (written p.mem.pages a bytes)
        → Writes pid a bytes s (changed_at m)
    writes-now m a bytes lives allowed is = record {
      allowed = ap (λ (m : Memory). allows_all m.pages a (length bytes) Write) memory-at ∙ allowed;
      leaves = has-now m (with_pages (memory_of pid (meaning s)) (written (memory_of pid (meaning s)).pages a bytes)) lives
          (is ∙ ap (λ m. with_pages m (written m.pages a bytes)) (sym memory-at))
          (layouts_follow.writes (memory_of pid (meaning s)).pages a bytes ∙ ap (λ (m : Memory). layout_of m.pages) memory-at);
    }

module _ {T : Type 0} {M : ℕ} (pid : ℕ) (begun : Replying) (old : State T M) where
  -- ---- a row under way

  pub begins : (rest : Replying) → begun ≡ rest → HasComeTo pid begun old rest old
  begins rest e = record { carried = ap (λ (r : Replying). carried pid r (meaning old)) e; others = λ m. refl }

  module _ (now : State T M) where
    -- the rest in other words
    pub goes-on : (rest other : Replying) → rest ≡ other → HasComeTo pid begun old rest now → HasComeTo pid begun old other now
    goes-on rest other e come = record { carried = come.carried ∙ ap (λ (r : Replying). carried pid r (meaning now)) e; others = come.others }

    -- the same state, whatever was tried
    pub unchanged : (rest : Replying) (new : State T M) → meaning new ≡ meaning now → HasComeTo pid begun old rest now → HasComeTo pid begun old rest new
    unchanged rest new same come = record {
      carried = come.carried ∙ ap (carried pid rest) (sym same);
      others = λ m. ap (with_memory_of pid m) same ∙ come.others m;
    }

    pub tested : (at n : ℕ) (what : Use) (next : Bool → Replying) (allowed : Bool) → allowed ≡ allows_all (memory_of pid (meaning now)).pages at n what
        → HasComeTo pid begun old (MayUse at n (what ∷ []) next) now → HasComeTo pid begun old (next allowed) now
    tested at n what next allowed is come = record {
      carried = come.carried ∙ ap (λ b. carried pid (next b) (meaning now)) (sym is);
      others = come.others;
    }

    after : (m : Memory) (rest next : Replying) (new : State T M) → IsSome (model.process pid (meaning now)) → HasMemory pid m now new → carried pid rest (meaning now) ≡ carried_out next m
        → HasComeTo pid begun old rest now → HasComeTo pid begun old next new
    after m rest next new lives has same come = record {
      carried = come.carried ∙ same ∙ ap (carried_out next) (sym (ap (memory_of pid) has.means ∙ memory-is pid m (meaning now) lives));
      others = λ n. ap (with_memory_of pid n) has.means ∙ twice pid n m (meaning now) ∙ come.others n;
    }

    pub was-read : (at n : ℕ) (next : List ℕ → Replying) (bytes : List ℕ) (new : State T M) → IsSome (model.process pid (meaning now)) → Reads pid at n bytes now new
        → HasComeTo pid begun old (ReadBytes at n next) now → HasComeTo pid begun old (next bytes) new
    was-read at n next bytes new lives reads come =
        after (after_read (memory_of pid (meaning now)) at n) (ReadBytes at n next) (next bytes) new lives reads.leaves
        (ap (λ bytes. carried_out (next bytes) (after_read (memory_of pid (meaning now)) at n)) (sym reads.bytes_are)) come

    pub was-written : (at : ℕ) (bytes : List ℕ) (next : Replying) (new : State T M) → IsSome (model.process pid (meaning now)) → Writes pid at bytes now new
        → HasComeTo pid begun old (WriteBytes at bytes next) now → HasComeTo pid begun old next new
    was-written at bytes next new lives writes come =
        after (with_pages (memory_of pid (meaning now)) (written (memory_of pid (meaning now)).pages at bytes)) (WriteBytes at bytes next) next new lives writes.leaves refl come

    -- ---- uses that are tested first

    pub reads-allowed : (at n : ℕ) (refused : Replying) (next : List ℕ → Replying) (bytes : List ℕ) (new : State T M) → IsSome (model.process pid (meaning now)) → Reads pid at n bytes now new
        → HasComeTo pid begun old (read_if_allowed at n (Read ∷ []) refused next) now → HasComeTo pid begun old (next bytes) new
    reads-allowed at n refused next bytes new lives reads come =
        was-read at n next bytes new lives reads (tested at n Read (λ allowed. if allowed then ReadBytes at n next else refused) true (sym reads.allowed) come)

    pub unreadable : (at n : ℕ) (refused : Replying) (next : List ℕ → Replying) → allows_all (memory_of pid (meaning now)).pages at n Read ≡ false
        → HasComeTo pid begun old (read_if_allowed at n (Read ∷ []) refused next) now → HasComeTo pid begun old refused now
    unreadable at n refused next is come = tested at n Read (λ allowed. if allowed then ReadBytes at n next else refused) false (sym is) come

    pub writes-allowed : (at : ℕ) (bytes : List ℕ) (refused next : Replying) (new : State T M) → IsSome (model.process pid (meaning now)) → Writes pid at bytes now new
        → HasComeTo pid begun old (write_if_allowed at bytes refused next) now → HasComeTo pid begun old next new
    writes-allowed at bytes refused next new lives writes come =
        was-written at bytes next new lives writes (tested at (length bytes) Write (λ allowed. if allowed then WriteBytes at bytes next else refused) true (sym writes.allowed) come)

    pub unwritable : (at : ℕ) (bytes : List ℕ) (refused next : Replying) → allows_all (memory_of pid (meaning now)).pages at (length bytes) Write ≡ false
        → HasComeTo pid begun old (write_if_allowed at bytes refused next) now → HasComeTo pid begun old refused now
    unwritable at bytes refused next is come = tested at (length bytes) Write (λ allowed. if allowed then WriteBytes at bytes next else refused) false (sym is) come

-- ---- a row that has come to its reply

module _ {T : Type 0} {M : ℕ} (pid : ℕ) (row : Known → Replying) (old now new : State T M) (result : Outcome) where
  pub by-uses : (reply : Reply) → ArePids (meaning now) → HasComeTo pid (row (known model.image_layout pid (meaning old))) old (Done reply) now → result ≡ reply.outcome
      → ((mounts : Mounts T) → meaning new ≡ all_applied images mounts pid reply.changes (meaning now)) → IsPerformed pid row old new result
  by-uses reply pids come outcome state = record {
    outcome = outcome ∙ sym (ap (λ (done : CarriedOut Reply). done.reply.outcome) come.carried);
    state = λ mounts.
        state mounts
        ∙ ap (all_applied images mounts pid reply.changes) (sym (own-memory pid (meaning now) pids) ∙ come.others (memory_of pid (meaning now)))
        ∙ sym (ap (λ done. after_row mounts pid done (meaning old)) come.carried);
  }

  -- a row that was refused where it has come to
  pub refused-after : (e : Errno) → ArePids (meaning now) → HasComeTo pid (row (known model.image_layout pid (meaning old))) old (refuse e) now → result ≡ (refusal e).outcome → meaning new ≡ meaning now → IsPerformed pid row old new result
  refused-after e pids come outcome same = by-uses (refusal e) pids come outcome (λ mounts. same)

-- ---- at the address 0 nothing is used

module _ {T : Type 0} {M : ℕ} (pid : ℕ) (now : State T M) (sound : IsSound now) (lives : IsSome (model.process pid (meaning now))) (at : ℕ) where
  pub null-tested : (n : ℕ) (next : Bool → Replying) → at ≡ 0 → CarriesOn pid (null_or_writable at n next) (next true) now now
  null-tested n next e = record {
    comes = λ begun start. goes-on pid begun start now (null_or_writable at n next) (next true) (ap (λ b. cond b (next true) (MayUse at n (Write ∷ []) next)) (same-test at 0 e));
    sound = sound;
    lives = lives;
  }

  pub other-tested : (n : ℕ) (next : Bool → Replying) (allowed : Bool) → (at ≡ 0 → ⊥) → allowed ≡ allows_all (memory_of pid (meaning now)).pages at n Write → CarriesOn pid (null_or_writable at n next) (next allowed) now now
  other-tested n next allowed e is = record {
    comes = λ begun start come.
        tested pid begun start now at n Write next allowed is
        (goes-on pid begun start now (null_or_writable at n next) (MayUse at n (Write ∷ []) next) (ap (λ b. cond b (next true) (MayUse at n (Write ∷ []) next)) (apart-test at 0 e)) come);
    sound = sound;
    lives = lives;
  }

  pub null-written : (bytes : List ℕ) (next : Replying) → at ≡ 0 → CarriesOn pid (unless_null at bytes next) next now now
  null-written bytes next e = record {
    comes = λ begun start. goes-on pid begun start now (unless_null at bytes next) next (ap (λ b. cond b next (WriteBytes at bytes next)) (same-test at 0 e));
    sound = sound;
    lives = lives;
  }

  pub other-written : (bytes : List ℕ) (next : Replying) (new : State T M) → (at ≡ 0 → ⊥) → Writes pid at bytes now new → CarriesOn pid (unless_null at bytes next) next now new
  other-written bytes next new e writes = record {
    comes = λ begun start come.
        was-written pid begun start now at bytes next new lives writes
        (goes-on pid begun start now (unless_null at bytes next) (WriteBytes at bytes next) (ap (λ b. cond b next (WriteBytes at bytes next)) (apart-test at 0 e)) come);
    sound = writes.leaves.sound;
    lives = writes.leaves.lives;
  }
