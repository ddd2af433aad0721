-- Whether a call alters the shape of the tree, and the bytes of files, told before it is carried out.
use Rattle.std.proofs.Common.{◌≡◌, ℕ, ℤ, Bool, true, false, ◌&&◌, List, [], ◌∷◌, refl, ◌∙◌}
use Rattle.law_lawful.specs.pr_base.declared.errno.Errno.TheVariants.{ENOENT}
use Rattle.law_lawful.specs.rv_mem.Actions.{carried_out}
use Rattle.law_lawful.specs.rv_mem.Memory.{Memory}
use Rattle.law_lawful.specs.kr_calls.declared.request.Request.{Request}
use Rattle.law_lawful.specs.kr_calls.declared.request.Request.TheVariants as call
use Rattle.law_lawful.specs.kr_model.Applied.{Mounts}
use Rattle.law_lawful.specs.kr_model.AttributeRows.{fchmodat_row, fchownat_here, fchownat_row}
use Rattle.law_lawful.specs.kr_model.FileRows.{openat_row}
use Rattle.law_lawful.specs.kr_model.Judged.{alters_bytes, alters_shape}
use Rattle.law_lawful.specs.kr_model.Known.{Known}
use Rattle.law_lawful.specs.kr_model.Operation.{by_path, looked_up, moved, opened, operation}
use Rattle.law_lawful.specs.kr_model.Seen.{LooksUp, Moves, Opens, Seen, WalkFails}
use Rattle.law_lawful.specs.kr_model.State.{Image, State}
use Rattle.law_lawful.proofs.kr_model.LineLemmas.{line_passes}
use Rattle.law_steady.specs.Ahead.{CallsAreForetold, IsForetold, bytes_ahead, cuts_file, is_answered, makes_file, mode_alters, owner_alters, owner_here, seen_looked, seen_moved, seen_opening, shape_ahead, unless_empty}
use Rattle.law_steady.specs.Along.{passes_along}
use Rattle.law_steady.specs.Bytes.{alters_bytes_of}
use Rattle.law_steady.specs.Calls.{replied}
use Rattle.law_steady.specs.Exact.{alters_shape_of}
use Rattle.law_steady.proofs.AheadRows.{Tells, Told, fchmod_told, fchown_told, fchownat_here_told, ftruncate_told, host_chmodded, host_chowned, linkat_told, mkdirat_told, no, openat_told, refuses, renameat2_told, symlinkat_told, unlinkat_told}
use Rattle.law_steady.proofs.AlongLemmas.{quiet}
use Rattle.law_steady.proofs.BytesAlongLemmas.{less_of_bytes}
use Rattle.law_steady.proofs.CallLemmas.{bytes_by_line, keeps_bytes, keeps_shape, links_end, made_ends, shape_by_line, taken_ends}
use Rattle.law_steady.proofs.EndLemmas.{ends_hold}
use Rattle.law_steady.proofs.ExactLemmas.{less_is_told}

none_of : (b : Bool) → false ≡ (b && false)
none_of true = refl
none_of false = refl

module _ {M : Type 0} (mounts : Mounts M) (pid : ℕ) (s : State M Image) (seen : Seen) (k : Known) where
  -- ---- by what a path is told to lead to

  opening_told : (flags mode : ℕ) (seen : Seen) → Told mounts pid s (seen_opening makes_file seen) (seen_opening (cuts_file s.tree flags) seen) (opened seen (λ o. openat_row k o flags mode))
  opening_told flags mode (Opens o) = openat_told mounts pid s k flags mode o
  opening_told flags mode (WalkFails e) = no mounts pid s false false e
  opening_told flags mode _ = no mounts pid s false false ENOENT

  moving_told : (seen : Seen) → Told mounts pid s (seen_moved s.tree seen) false (moved seen k)
  moving_told (Moves old new same_mount) = renameat2_told mounts pid s k old new same_mount
  moving_told (WalkFails e) = no mounts pid s false false e
  moving_told _ = no mounts pid s false false ENOENT

  mode_told : (mode : ℕ) (seen : Seen) → Told mounts pid s (seen_looked (mode_alters s.tree mode) seen) false (looked_up seen (λ l. fchmodat_row k l mode))
  mode_told mode (LooksUp l) = host_chmodded mounts pid s k mode l.host
  mode_told mode (WalkFails e) = no mounts pid s false false e
  mode_told mode _ = no mounts pid s false false ENOENT

  owner_told : (uid gid : ℕ) (seen : Seen) → Told mounts pid s (seen_looked (owner_alters s.tree k uid gid) seen) false (looked_up seen (λ l. fchownat_row k l uid gid))
  owner_told uid gid (LooksUp l) = host_chowned mounts pid s k uid gid l.host
  owner_told uid gid (WalkFails e) = no mounts pid s false false e
  owner_told uid gid _ = no mounts pid s false false ENOENT

  owner_along : (dirfd : ℤ) (uid gid : ℕ) (path : List ℕ)
      → Told mounts pid s (unless_empty path (owner_here s.tree k dirfd uid gid) (seen_looked (owner_alters s.tree k uid gid) seen)) false (by_path path (fchownat_here k dirfd uid gid) (looked_up seen (λ l. fchownat_row k l uid gid)))
  owner_along dirfd uid gid [] = fchownat_here_told mounts pid s k dirfd uid gid
  owner_along dirfd uid gid (b ∷ path) = owner_told uid gid seen

  -- ---- all calls

  module _ (m : Memory) where
    by_row : (r : Request) → Told mounts pid s (shape_ahead s.tree r seen k) (bytes_ahead s.tree r seen k) (operation pid r seen k) → IsForetold mounts pid s r seen k m
    by_row r told =
        let tells : Tells mounts pid s (shape_ahead s.tree r seen k) (bytes_ahead s.tree r seen k) (carried_out (operation pid r seen k) m).reply = ends_hold (operation pid r seen k) told m in
        record { shape = tells.shape_is; bytes = λ plain. tells.bytes_are }

    shape_left : (r : Request) → line_passes keeps_shape r ≡ true → passes_along alters_shape_of mounts pid s (replied pid r seen k m) ≡ (is_answered (carried_out (operation pid r seen k) m).reply.outcome && false)
    shape_left r keeps =
        quiet alters_shape_of alters_shape less_is_told mounts pid (replied pid r seen k m) s (shape_by_line pid r seen k m keeps) ∙ none_of (is_answered (carried_out (operation pid r seen k) m).reply.outcome)

    bytes_left : (r : Request) → line_passes keeps_bytes r ≡ true → passes_along alters_bytes_of mounts pid s (replied pid r seen k m) ≡ (is_answered (carried_out (operation pid r seen k) m).reply.outcome && false)
    bytes_left r keeps =
        quiet alters_bytes_of alters_bytes less_of_bytes mounts pid (replied pid r seen k m) s (bytes_by_line pid r seen k m keeps) ∙ none_of (is_answered (carried_out (operation pid r seen k) m).reply.outcome)

    foretold : (r : Request) → IsForetold mounts pid s r seen k m
    foretold (call.Write fd buf n) = record { shape = shape_left (call.Write fd buf n) refl; bytes = λ plain. absurd plain }
    foretold (call.Writev fd list count) = record { shape = shape_left (call.Writev fd list count) refl; bytes = λ plain. absurd plain }
    foretold (call.Ftruncate fd len) = by_row (call.Ftruncate fd len) (ftruncate_told mounts pid s k fd len)
    foretold (call.Openat dirfd path flags permissions) = by_row (call.Openat dirfd path flags permissions) (opening_told flags permissions seen)
    foretold (call.Mkdirat dirfd path permissions) =
        by_row (call.Mkdirat dirfd path permissions) (made_ends (refuses mounts pid s true false) seen (λ x. mkdirat_told mounts pid s k x permissions))
    foretold (call.Unlinkat dirfd path flags) = by_row (call.Unlinkat dirfd path flags) (taken_ends (refuses mounts pid s true false) seen (λ x. unlinkat_told mounts pid s k x flags))
    foretold (call.Symlinkat text dirfd path) = by_row (call.Symlinkat text dirfd path) (made_ends (refuses mounts pid s true false) seen (λ x. symlinkat_told mounts pid s k x text))
    foretold (call.Linkat olddir old newdir new flags) =
        by_row (call.Linkat olddir old newdir new flags) (links_end (refuses mounts pid s true false) seen (linkat_told mounts pid s k))
    foretold (call.Renameat2 olddir old newdir new) = by_row (call.Renameat2 olddir old newdir new) (moving_told seen)
    foretold (call.Fchmod fd permissions) = by_row (call.Fchmod fd permissions) (fchmod_told mounts pid s k fd permissions)
    foretold (call.Fchmodat dirfd path permissions) = by_row (call.Fchmodat dirfd path permissions) (mode_told permissions seen)
    foretold (call.Fchown fd uid gid) = by_row (call.Fchown fd uid gid) (fchown_told mounts pid s k fd uid gid)
    foretold (call.Fchownat dirfd path uid gid flags) = by_row (call.Fchownat dirfd path uid gid flags) (owner_along dirfd uid gid path)
    foretold r = record { shape = shape_left r refl; bytes = λ plain. bytes_left r refl }

pub calls_are_foretold : (M : Type 0) → CallsAreForetold M
calls_are_foretold M mounts pid s r seen k m exec = foretold mounts pid s seen k m r
