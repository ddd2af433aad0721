-- What the code tells a call of its targets, as the definitions have it.
use Rattle.std.specs.Prelude.{ℕ, List, Option}
use Rattle.std.specs.Option.{option_map}
use Rattle.kr_ops.specs.kr_tree.declared.place.Host.{Host}
use Rattle.kr_ops.specs.kr_tree.declared.place.Place.{Place}
use Rattle.kr_ops.specs.kr_model.Seen as seen
use Rattle.kr_seen.specs.declared.told.Entry.{Entry}
use Rattle.kr_seen.specs.declared.told.Looked.{Looked}
use Rattle.kr_seen.specs.declared.told.Entered.{Entered}
use Rattle.kr_seen.specs.declared.told.Taken.{Taken}
use Rattle.kr_seen.specs.declared.told.Taken.TheVariants as taken
use Rattle.kr_seen.specs.declared.told.Made.{Made}
use Rattle.kr_seen.specs.declared.told.Made.TheVariants as made
use Rattle.kr_seen.specs.declared.told.Linked.{Linked}
use Rattle.kr_seen.specs.declared.told.Moved.{Moved}
use Rattle.kr_seen.specs.declared.told.Opening.{Opening}
use Rattle.kr_seen.specs.declared.told.Opening.TheVariants as opening

abbrev pub entry_told : Entry → ℕ × List ℕ
entry_told e = (e.dir, e.name.now)

abbrev pub looked_told : Looked → seen.Looked
looked_told l = record { host = l.host; entry = option_map entry_told l.entry }

abbrev pub entered_told : Entered → seen.Entered
entered_told e = record { dir = e.dir; name = e.name.now; slash = e.slash; found = e.found }

abbrev pub taken_told : Taken → seen.Taken
taken_told (taken.NoName last) = seen.TakesNoName last
taken_told taken.Covered = seen.TakesCovered
taken_told (taken.Takes e) = seen.Takes (entered_told e)

abbrev pub made_told : Made → seen.Made
made_told (made.NoName last) = seen.MakesNoName last
made_told made.Over = seen.MakesOver
made_told (made.Makes dir name slash) = seen.Makes dir name.now slash

abbrev pub opening_told : Opening → seen.Opening
opening_told (opening.NoName last) = seen.OpensNoName last
opening_told opening.Slashed = seen.OpensSlashed
opening_told (opening.Found l) = seen.OpensFound (looked_told l)
opening_told (opening.New dir name) = seen.OpensNew dir name.now

abbrev pub linked_told : Linked → seen.Seen
linked_told l = seen.Links (looked_told l.old) (made_told l.new) l.same_mount

abbrev pub moved_told : Moved → seen.Seen
moved_told m = seen.Moves (taken_told m.old) (taken_told m.new) m.same_mount

-- what was found, whatever its mount is
abbrev pub found_host : {M : Type 0} → Option (Place M) → Option Host
found_host found = option_map (λ p. p.host) found
