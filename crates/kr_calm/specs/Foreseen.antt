-- What a call would break of the rules on changes, told before it is carried out: by what it would change of names and modes if it
-- answered 0. Where it ends its caller, its end alone is judged, and no other change of a call is.
use Rattle.std.specs.Prelude.{ℕ, ◌&&◌, not, Bool, true, false, List, [], ◌∷◌, Option, Some, None, if◌then◌else◌}
use Rattle.std.specs.List.{list_all}
use Rattle.std.specs.Option.{option_and_then, option_map_or}
use Rattle.kr_seen.specs.rv_mem.Actions.{CarriedOut}
use Rattle.kr_seen.specs.kr_inode.declared.user.Right.TheVariants.{Search}
use Rattle.kr_seen.specs.kr_inode.declared.user.User.{User}
use Rattle.kr_seen.specs.kr_calls.declared.request.Request.{Request}
use Rattle.kr_seen.specs.kr_calls.declared.request.Request.TheVariants as call
use Rattle.kr_seen.specs.kr_tree.Rights.{may}
use Rattle.kr_seen.specs.kr_tree.Tree.{Tree}
use Rattle.kr_seen.specs.kr_files.declared.opened.Opened.{Opened}
use Rattle.kr_seen.specs.kr_view.View.{Row}
use Rattle.kr_seen.specs.kr_model.Asking.{descriptor_number}
use Rattle.kr_seen.specs.kr_model.Change.{Change, End, MoveName, RemoveName, SetMode, SetOwner}
use Rattle.kr_seen.specs.kr_model.Known.{Known, known}
use Rattle.kr_seen.specs.kr_model.Operation.{operation}
use Rattle.kr_seen.specs.kr_model.Reply.{Reply}
use Rattle.kr_seen.specs.kr_model.Seen.{LooksUp, Moves, Seen, TakesEntry}
use Rattle.kr_seen.specs.kr_model.State.{Image, State, image_layout}
use Rattle.kr_seen.specs.kr_model.Walks.{seen}
use Rattle.kr_seen.specs.Carrying.{carried}
use Rattle.kr_calm.specs.Calm.{smallest}
use Rattle.kr_calm.specs.Prospects.{mode_set, renameat2_made, unlinkat_made}
use Rattle.kr_calm.specs.Rules.{breaks_3, serves, takes_in_use}
use Rattle.kr_calm.specs.declared.foreseeing.Foreseen.{Foreseen}
use Rattle.kr_calm.specs.declared.rule.Rule.{Rule}

-- ---- changes and calls that are judged

abbrev pub is_judged : Change → Bool
is_judged (RemoveName dir name) = true
is_judged (MoveName dir name to new) = true
is_judged (SetMode inode mode) = true
is_judged (SetOwner inode uid gid) = true
is_judged (End status) = true
is_judged _ = false

abbrev pub are_unjudged : List Change → Bool
are_unjudged cs = list_all (λ c. not (is_judged c)) cs

-- the calls that take names away, or change modes
abbrev pub is_foreseen : Request → Bool
is_foreseen (call.Unlinkat dirfd path flags) = true
is_foreseen (call.Renameat2 olddir old newdir new) = true
is_foreseen (call.Fchmod fd mode) = true
is_foreseen (call.Fchmodat dirfd path mode) = true
is_foreseen _ = false

-- those that change owners
abbrev pub gives_owner : Request → Bool
gives_owner (call.Fchown fd uid gid) = true
gives_owner (call.Fchownat dirfd path uid gid flags) = true
gives_owner _ = false

-- ---- what a call would change

abbrev pub taken_away : Seen → List Change
taken_away (TakesEntry t) = unlinkat_made t
taken_away _ = []

abbrev pub moved_away : Seen → List Change
moved_away (Moves old new same_mount) = renameat2_made old new
moved_away _ = []

abbrev pub mode_found : ℕ → Seen → List Change
mode_found mode (LooksUp l) = mode_set l.host mode
mode_found mode _ = []

-- of what is open; a pipe and the console have no place
abbrev pub mode_opened : {M : Type 0} → ℕ → Option (Opened M) → List Change
mode_opened mode o = option_map_or (λ p. mode_set p.host mode) (option_and_then (λ o. o.place) o) []

-- what a call changes of names and modes where it answers 0: one name or mode at most. An owner may give a file to a group alone,
-- and goes on being its owner
abbrev pub prospect : Request → Seen → Known → List Change
prospect (call.Unlinkat dirfd path flags) seen k = taken_away seen
prospect (call.Renameat2 olddir old newdir new) seen k = moved_away seen
prospect (call.Fchmodat dirfd path mode) seen k = mode_found mode seen
prospect (call.Fchmod fd mode) seen k = mode_opened mode (option_and_then k.opened (descriptor_number fd))
prospect _ seen k = []

-- ---- what that would break

abbrev pub nothing : Foreseen
nothing = record { takes_source = false; takes_used = false; shutting = None }

module _ {M X : Type 0} (table : List Row) (s : State M X) where
  -- the inode that has to go on giving search, where it gives it
  abbrev pub guarded : ℕ → Option ℕ
  guarded i = if may s.tree s.user i Search && serves table s i then Some i else None

  -- a change of a mode may shut its inode; whether it does is told by the state that is left
  abbrev pub may_shut : Change → Option ℕ
  may_shut (SetMode i mode) = guarded i
  may_shut _ = None

  abbrev pub foreseen_of : List Change → Foreseen
  foreseen_of [] = nothing
  foreseen_of (c ∷ cs) = record { takes_source = breaks_3 table s.tree c; takes_used = takes_in_use s c; shutting = may_shut c }

-- the smallest of the rules on changes that a call broke which answered 0: by what was foreseen of it, and by whom the tree that is
-- left still lets search
abbrev pub broken_as_foreseen : Foreseen → Tree → User → Option Rule
broken_as_foreseen f t user = smallest f.takes_source f.takes_used (option_map_or (λ i. not (may t user i Search)) f.shutting false)

-- ---- calls

module _ (table : List Row) (pid : ℕ) (request : Request) (s : State ℕ Image) where
  abbrev pub call_foreseen : Foreseen
  call_foreseen = foreseen_of table s (prospect request (seen table pid s request) (known image_layout pid s))

  -- its row, carried out on the caller's memory; that of an execve, of which nothing is foreseen, isn't its own
  abbrev pub call_done : CarriedOut Reply
  call_done = carried pid (operation pid request (seen table pid s request) (known image_layout pid s)) s
