-- What a kernel in memory tells: by its rows, and names that are the same for all.
use Rattle.std.specs.Prelude.{ℕ, Bool, true, false, List, nat_eq, Option, Some, None, Result, Ok, Err, bytes_eq, codes, if◌then◌else◌}
use Rattle.std.specs.List.{find, list_all}
use Rattle.pt_results.specs.pr_base.declared.errno.Errno.{Errno}
use Rattle.pt_results.specs.pr_base.declared.errno.Errno.TheVariants.{EINVAL, ENOENT}
use Rattle.pt_results.specs.pr_base.declared.peeks.PeekKind.{PeekKind}
use Rattle.pt_results.specs.pr_base.declared.peeks.PeekKind.TheVariants as kind
use Rattle.canon_tests.specs.declared.told.Row.{Row}
use Rattle.canon_tests.specs.declared.told.Stands.{Stands}
use Rattle.canon_tests.specs.declared.told.Stands.TheVariants as stands

abbrev pub row_at : List Row → List ℕ → Option Row
row_at rows host = find (λ row. bytes_eq row.host host) rows

abbrev pub kind_of : Stands → Result PeekKind Errno
kind_of stands.Dir = Ok kind.Dir
kind_of stands.File = Ok kind.File
kind_of (stands.Link text) = Ok kind.Link
kind_of stands.Jump = Ok kind.Jump
kind_of (stands.Fails e) = Err e

abbrev pub text_in : Stands → Result (List ℕ) Errno
text_in stands.Dir = Err EINVAL
text_in stands.File = Err EINVAL
text_in (stands.Link text) = Ok text
text_in stands.Jump = Err ENOENT
text_in (stands.Fails e) = Err e

abbrev pub kind_told : Option Row → Result PeekKind Errno
kind_told (Some row) = kind_of row.stands
kind_told None = Err ENOENT

abbrev pub text_told : Option Row → Result (List ℕ) Errno
text_told (Some row) = text_in row.stands
text_told None = Err ENOENT

-- no link of the process directory
abbrev pub is_steady : Stands → Bool
is_steady stands.Dir = true
is_steady stands.File = true
is_steady (stands.Link text) = true
is_steady stands.Jump = false
is_steady (stands.Fails e) = true

-- of every path where none stands anywhere, and else of none
abbrev pub steady_told : List Row → Bool
steady_told rows = list_all (λ row. is_steady row.stands) rows

-- descriptor 4 is a pipe
abbrev pub base_told : ℕ → Option (List ℕ)
base_told fd = if nat_eq fd 4 then None else Some (codes "/data")

abbrev pub cwd_told : Option (List ℕ)
cwd_told = Some (codes "/data")

abbrev pub exe_told : Option (List ℕ)
exe_told = Some (codes "/data/n")
