-- What a watcher does at the stops of calls, and as processes come and go.
use Rattle.std.specs.Prelude.{◌≡◌, ℕ}
use Rattle.kr_stops.specs.Stopped.{Stopped}

-- as relations between what it keeps before and after, and the stopped process before and after
pub record Watching (S : Type 0) : Type 1 where
  pub enters : S → Stopped → S → Stopped → Type 0
  pub exits : S → Stopped → S → Stopped → Type 0
  pub bears : S → (parent child : ℕ) → S → Type 0
  pub forgets : S → (pid : ℕ) → S → Type 0

-- as functions
pub record Watcher (S : Type 0) : Type 0 where
  pub entry : S → Stopped → S × Stopped
  pub exit : S → Stopped → S × Stopped
  pub born : S → (parent child : ℕ) → S
  pub gone : S → (pid : ℕ) → S

-- on a part of what is kept, the relations are the graphs of the functions: what is kept beside it shows nowhere
pub record IsGraph {S Q : Type 0} (part : S → Q) (watching : Watching S) (watcher : Watcher Q) : Type 0 where
  pub enters : (x y : S) (t u : Stopped) → watching.enters x t y u → (part y, u) ≡ watcher.entry (part x) t
  pub exits : (x y : S) (t u : Stopped) → watching.exits x t y u → (part y, u) ≡ watcher.exit (part x) t
  pub bears : (x y : S) (parent child : ℕ) → watching.bears x parent child y → part y ≡ watcher.born (part x) parent child
  pub forgets : (x y : S) (pid : ℕ) → watching.forgets x pid y → part y ≡ watcher.gone (part x) pid

-- nobody watches
abbrev pub unwatched : {S : Type 0} → Watcher S
unwatched = record { entry = λ x t. (x, t); exit = λ x t. (x, t); born = λ x parent child. x; gone = λ x pid. x }

-- a watcher by its four relations
abbrev pub watching : {S : Type 0} → (enters exits : S → Stopped → S → Stopped → Type 0) → (bears : S → ℕ → ℕ → S → Type 0) → (forgets : S → ℕ → S → Type 0) → Watching S
watching enters exits bears forgets = record { enters = enters; exits = exits; bears = bears; forgets = forgets }
