-- Laws of what a watcher does so that each process believes in an identity of its own.
use Rattle.std.specs.FinMap as map
use Rattle.std.specs.Prelude.{◌≡◌, ◌≢◌, ℕ, None}
use Rattle.kr_stops.specs.Stopped.{Stopped}
use Rattle.pt_ident.specs.Identity.{starting}
use Rattle.pt_ident.specs.IdentityTable.{identity_at}
use Rattle.pt_faker.specs.Faking.{Faking, born, entered, exited, gone, without_due}

-- a second stop without a first one changes nothing, and behind a second stop there is none
pub record ExitsFollowEntries : Type 0 where
  pub quiet : (f : Faking) (t : Stopped) → map.get f.dues t.pid ≡ None → exited f t ≡ (f, t)
  pub spent : (f : Faking) (t : Stopped) → map.get (exited f t).0.dues t.pid ≡ None

-- a first stop forgets what an earlier one of the process left
abbrev pub EntriesForget : Type 0
EntriesForget = (f : Faking) (t : Stopped) → entered (without_due t.pid f) t ≡ entered f t

-- what a process does leaves the identities of all others
pub record OthersStay : Type 0 where
  pub at_entry : (f : Faking) (t : Stopped) (pid : ℕ) → pid ≢ t.pid → identity_at (entered f t).0.identities pid ≡ identity_at f.identities pid
  pub at_exit : (f : Faking) (t : Stopped) (pid : ℕ) → pid ≢ t.pid → identity_at (exited f t).0.identities pid ≡ identity_at f.identities pid

-- a child begins as its parent is, and whoever comes behind a process that ended as a first one
pub record ComeAndGo : Type 0 where
  pub comes : (f : Faking) (parent child : ℕ) → identity_at (born f parent child).identities child ≡ identity_at f.identities parent
  pub goes : (f : Faking) (pid : ℕ) → identity_at (gone f pid).identities pid ≡ starting f.identities.uid f.identities.gid
