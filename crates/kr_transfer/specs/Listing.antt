-- Entries of directories in code, as getdents64(2) tells them.
use Rattle.std.specs.Prelude.{◌≡◌, ◌≤◌, ◌-◌, ℕ, List, [], ◌∷◌, nat_lt, Option, Some, None}
use Rattle.std.specs.List.{find}
use Rattle.std.specs.Option.{option_map_or}
use Rattle.kr_seen.specs.kr_tree.declared.place.Host.{Host}
use Rattle.kr_seen.specs.kr_model.DirectoryRows as model
use Rattle.kr_seen.specs.kr_calls.DirectoryEntries.{record_length}
use Rattle.kr_seen.specs.kr_model.DirectoryRows.{behind, fitting, shown_by}
use Rattle.kr_seen.specs.kr_model.Known.{Known}
use Rattle.kr_transfer.specs.declared.listing.Listed.{Listed}

abbrev pub told_entry : Listed → model.Listed
told_entry e = record { serial = e.serial; inode = e.inode; kind = e.kind; name = e.name }

-- all entries of what shows any
abbrev pub all_shown : Known → Host → List model.Listed
all_shown k host = option_map_or (λ entries. entries) (shown_by k host) []

-- the first entry behind a place
abbrev pub first_behind : ℕ → List model.Listed → Option model.Listed
first_behind at entries = find (λ e. nat_lt at e.serial) entries

abbrev pub or_else : Option model.Listed → Option model.Listed → Option model.Listed
or_else None other = other
or_else (Some e) other = Some e

-- the place behind entries
abbrev pub last_from : ℕ → List model.Listed → ℕ
last_from at [] = at
last_from at (e ∷ entries) = last_from e.serial entries

-- what comes next of the entries behind a place that fit into `left` bytes
abbrev pub IsNextFitting : List model.Listed → ℕ → ℕ → Option Listed → Type 0
IsNextFitting entries at left None = fitting left (behind at entries) ≡ []
IsNextFitting entries at left (Some e) =
    (record_length e.name ≤ left) × (fitting left (behind at entries) ≡ told_entry e ∷ fitting (left - record_length e.name) (behind e.serial entries))
