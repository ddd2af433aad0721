-- What a path of a call is for, and the text that takes its place, by where its walk over guest texts leads.
use Rattle.std.specs.Prelude.{ℕ, Bool, true, false, List, [], ◌∷◌, ◌++◌, Result, Ok, Err, if◌then◌else◌}
use Rattle.pt_canon.specs.pr_base.MountText.{MountText}
use Rattle.pt_canon.specs.pr_base.Paths.{slash, dot, dot_dot, text_of}
use Rattle.pt_canon.specs.pr_base.Texts.{Text}
use Rattle.pt_canon.specs.pr_base.declared.errno.Errno.{Errno}
use Rattle.pt_canon.specs.pr_base.declared.errno.Errno.TheVariants.{EISDIR}
use Rattle.pt_canon.specs.pr_base.declared.path.Last.{Last}
use Rattle.pt_canon.specs.pr_base.declared.path.Last.TheVariants as last
use Rattle.pt_canon.specs.pr_base.declared.path.WalkMode.{WalkMode}
use Rattle.pt_canon.specs.pr_base.declared.path.WalkMode.TheVariants as mode
use Rattle.pt_canon.specs.pt_bind.Binding.{host_of, names_of}
use Rattle.pt_canon.specs.declared.canon.Canon.{Canon}
use Rattle.kr_calls.specs.declared.request.Request.{Request}
use Rattle.kr_calls.specs.declared.request.Request.TheVariants as call
use Rattle.pt_args.specs.declared.purpose.Purpose.{Purpose}
use Rattle.pt_args.specs.declared.purpose.Purpose.TheVariants.{LooksUp, NamesEntry, MayMake}

abbrev pub opens : Request → Bool
opens (call.Openat dirfd path flags permissions) = true
opens _ = false

-- openat(2) alone walks to an entry that may be made a file
abbrev pub entry_purpose : Bool → Purpose
entry_purpose true = MayMake
entry_purpose false = NamesEntry

abbrev pub purpose_of : Bool → WalkMode → Purpose
purpose_of opening mode.Look = LooksUp
purpose_of opening mode.LookLink = LooksUp
purpose_of opening mode.Name = entry_purpose opening
purpose_of opening mode.Open = MayMake

-- ---- texts

abbrev pub host_text : List MountText → Text → List ℕ
host_text bindings t = text_of (host_of bindings t)

-- four parts: the host text of a directory, a slash, a component, and the slash behind that. They are joined as they are, so
-- below the host's root the text begins with two slashes
abbrev pub named_path : List MountText → Text → List ℕ → Bool → List ℕ
named_path bindings dir part behind = host_text bindings dir ++ slash ∷ (part ++ (if behind then slash ∷ [] else []))

-- of a name by its own guest text; the root has none
abbrev pub own_path : List MountText → Text → Bool → List ℕ
own_path bindings [] behind = slash ∷ []
own_path bindings (name ∷ dir) behind = named_path bindings dir name behind

-- of the last component, behind a name by the guest text of the entry and behind any other by that of the directory
abbrev pub entry_swap : List MountText → Canon → Last → List ℕ
entry_swap bindings canon last.Name = own_path bindings (names_of canon.guest) canon.slash
entry_swap bindings canon last.Dot = named_path bindings (names_of canon.guest) dot canon.slash
entry_swap bindings canon last.DotDot = named_path bindings (names_of canon.guest) dot_dot canon.slash
entry_swap bindings canon last.Root = slash ∷ []

-- a file that may be made: EISDIR for a name with a slash behind it. What is there goes by its own host text, so that a mount
-- point leads to its source
abbrev pub made_swap : List MountText → Canon → Last → Result (List ℕ) Errno
made_swap bindings canon last.Name =
    if canon.slash then Err EISDIR
    else if canon.exists then Ok canon.host
    else Ok (entry_swap bindings canon last.Name)
made_swap bindings canon last.Dot = Ok (entry_swap bindings canon last.Dot)
made_swap bindings canon last.DotDot = Ok (entry_swap bindings canon last.DotDot)
made_swap bindings canon last.Root = Ok (entry_swap bindings canon last.Root)

-- the text in place of a path, or the error that cancels its call
abbrev pub swap_for : List MountText → Purpose → Canon → Result (List ℕ) Errno
swap_for bindings LooksUp canon = Ok canon.host
swap_for bindings NamesEntry canon = Ok (entry_swap bindings canon canon.last)
swap_for bindings MayMake canon = made_swap bindings canon canon.last
