-- What a watcher goes by for a process, and what it keeps of one between the stops of its call; and watchers to which nothing counts beside that and
-- what is the process's own.
use Rattle.std.specs.Prelude.{◌≡◌, ◌≢◌, ℕ, Bool, true, false, map as map_list}
use Rattle.kr_core.specs.kr_calls.declared.request.Request.{Request}
use Rattle.kr_core.specs.Moving.{calls_execve}
use Rattle.kr_core.specs.kr_turns.kr_model.Laws.{may_wait}
use Rattle.kr_core.specs.kr_turns.kr_model.State.{Image, State}
use Rattle.kr_core.specs.kr_steps.Waits.{IsDecoded}
use Rattle.kr_core.specs.kr_turns.kr_stops.Stopped.{IsEdited, IsThere, Stopped, image_at, image_in}
use Rattle.kr_core.specs.kr_turns.kr_stops.Watching.{Watcher}
use Rattle.kr_core.specs.kr_turns.Turn.{calling}

-- of each process what a watcher goes by for it at the stops of its call, and what it keeps of it between the two
pub record Locality (S Part Kept : Type 0) : Type 0 where
  pub part : ℕ → S → Part
  pub kept : ℕ → S → Kept

module _ {S Part Kept : Type 0} (f : Watcher S) (asks : S → Stopped → Bool) (l : Locality S Part Kept) where
  -- a first stop leaves of a process what another one does, keeps the same of it, and looks up no name in the process directory
  pub record EntersAlike (x y : S) (pid : ℕ) (s t : State ℕ Image) : Type 0 where
    pub image : image_in pid (f.entry y (calling 0 pid t)).1.state ≡ image_in pid (f.entry x (calling 0 pid s)).1.state
    pub kept : l.kept pid (f.entry y (calling 0 pid t)).0 ≡ l.kept pid (f.entry x (calling 0 pid s)).0
    pub unmet : asks y (calling 0 pid t) ≡ false

  -- a second stop leaves of a process what another one does, and goes by the same for it from then on
  pub record ExitsAlike (x y : S) (t u : Stopped) : Type 0 where
    pub image : image_at (f.exit y u).1 ≡ image_at (f.exit x t).1
    pub part : l.part t.pid (f.exit y u).0 ≡ l.part t.pid (f.exit x t).0

  -- as long as what it keeps fits. `Stays` says of two states that in the second one a process and what its paths lead to are what they were in the
  -- first one; of an execve(2) more has to be so
  pub record IsLocal (fits : S → Type 0) (Stays : (exec : Bool) → (pid : ℕ) → (s t : State ℕ Image) → Type 0) : Type 0 where
    -- a first stop that looked up no name in the process directory is made again
    pub entry_lasts : (x y : S) (pid : ℕ) (s t : State ℕ Image) → fits x → fits y → l.part pid y ≡ l.part pid x → Stays (calls_execve pid s) pid s t
        → asks x (calling 0 pid s) ≡ false → EntersAlike x y pid s t
    pub entry_edits : (x : S) (t : Stopped) → fits x → IsThere t → IsEdited t (f.entry x t).1
    pub entry_fits : (x : S) (t : Stopped) → fits x → fits (f.entry x t).0
    -- it goes by the same still, and keeps nothing of others
    pub entry_part : (x : S) (t : Stopped) (q : ℕ) → fits x → l.part q (f.entry x t).0 ≡ l.part q x
    pub entry_kept : (x : S) (t : Stopped) (q : ℕ) → fits x → q ≢ t.pid → l.kept q (f.entry x t).0 ≡ l.kept q x
    -- a call that can wait behind it was left as it was
    pub entry_waits : (x : S) (t : Stopped) (r : Request) → fits x → IsThere t
        → IsDecoded (image_in t.pid (f.entry x t).1.state).regs (image_in t.pid (f.entry x t).1.state).memory r → may_wait r ≡ true → image_in t.pid (f.entry x t).1.state ≡ image_at t
    -- a second stop is made of what is kept of the process and of what is its own
    pub exit_alike : (x y : S) (t u : Stopped) → fits x → fits y → u.pid ≡ t.pid → l.part t.pid y ≡ l.part t.pid x → l.kept t.pid y ≡ l.kept t.pid x
        → u.handed ≡ t.handed → image_at u ≡ image_at t → ExitsAlike x y t u
    pub exit_edits : (x : S) (t : Stopped) → fits x → IsThere t → IsEdited t (f.exit x t).1
    pub exit_living : (x : S) (t : Stopped) → fits x → map_list (λ p. p.pid) (f.exit x t).1.state.living ≡ map_list (λ p. p.pid) t.state.living
    pub exit_fits : (x : S) (t : Stopped) → fits x → fits (f.exit x t).0
    pub exit_part : (x : S) (t : Stopped) (q : ℕ) → fits x → q ≢ t.pid → l.part q (f.exit x t).0 ≡ l.part q x
    pub exit_kept : (x : S) (t : Stopped) (q : ℕ) → fits x → q ≢ t.pid → l.kept q (f.exit x t).0 ≡ l.kept q x
    -- for a child it goes by what it goes by for its parent
    pub born_child : (x y : S) (parent child : ℕ) → fits x → fits y → l.part parent y ≡ l.part parent x → l.part child (f.born y parent child) ≡ l.part child (f.born x parent child)
    pub born_part : (x : S) (parent child q : ℕ) → fits x → q ≢ child → l.part q (f.born x parent child) ≡ l.part q x
    pub born_kept : (x : S) (parent child q : ℕ) → fits x → l.kept q (f.born x parent child) ≡ l.kept q x
    pub born_fits : (x : S) (parent child : ℕ) → fits x → fits (f.born x parent child)
    -- it forgets the process that is gone
    pub gone_own : (x y : S) (pid : ℕ) → fits x → fits y → l.part pid y ≡ l.part pid x → l.part pid (f.gone y pid) ≡ l.part pid (f.gone x pid)
    pub gone_part : (x : S) (pid q : ℕ) → fits x → q ≢ pid → l.part q (f.gone x pid) ≡ l.part q x
    pub gone_kept : (x : S) (pid q : ℕ) → fits x → q ≢ pid → l.kept q (f.gone x pid) ≡ l.kept q x
    pub gone_fits : (x : S) (pid : ℕ) → fits x → fits (f.gone x pid)
