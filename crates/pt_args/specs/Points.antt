-- Calls that are cancelled with EBUSY, since they would remove or rename a mount point. The plain kernel has no mounts and
-- wouldn't refuse them.
use Rattle.std.specs.Prelude.{Bool, false, ◌&&◌, ◌||◌, List, [], ◌∷◌}
use Rattle.pt_canon.specs.pr_base.MountText.{MountText}
use Rattle.pt_canon.specs.pr_base.Texts.{Text}
use Rattle.pt_canon.specs.pr_base.declared.path.Last.{Last}
use Rattle.pt_canon.specs.pr_base.declared.path.Last.TheVariants as last
use Rattle.pt_canon.specs.pt_bind.Binding.{is_point, names_of}
use Rattle.pt_canon.specs.declared.canon.Canon.{Canon}
use Rattle.kr_calls.specs.declared.request.Request.{Request}
use Rattle.kr_calls.specs.declared.request.Request.TheVariants as call
use Rattle.pt_args.specs.Purposes.{host_text}

-- whether the name of a guest text, below the host text of its directory, is the host text of a mount point
abbrev pub is_point_text : List MountText → Text → Bool
is_point_text bindings [] = false
is_point_text bindings (name ∷ dir) = is_point bindings (name ∷ names_of (host_text bindings dir))

-- the same of the last component of a path, whatever slash stands behind it
abbrev pub is_at_point : List MountText → Canon → Last → Bool
is_at_point bindings canon last.Name = is_point_text bindings (names_of canon.guest)
is_at_point bindings canon last.Dot = false
is_at_point bindings canon last.DotDot = false
is_at_point bindings canon last.Root = false

-- a call with one path
abbrev pub one_is_busy : List MountText → Request → Canon → Bool
one_is_busy bindings (call.Unlinkat dirfd path flags) canon = is_at_point bindings canon canon.last
one_is_busy bindings _ canon = false

-- a call with two paths: the new one counts only where the old entry is there
abbrev pub both_are_busy : List MountText → Request → Canon → Canon → Bool
both_are_busy bindings (call.Renameat2 olddir old newdir new) from to =
    is_at_point bindings from from.last || (from.exists && is_at_point bindings to to.last)
both_are_busy bindings _ from to = false
