-- What a tracer answers in guest terms in place of the plain kernel: getcwd(2), and readlinkat(2) of a link of the process
-- directory other than `self`, as proc(5) has them.
use Rattle.std.specs.Prelude.{ℕ, ◌+◌, ◌&&◌, Bool, nat_lt, false, List, [], ◌∷◌, length, take, pos, Option, Some, None, Result, Ok, Err, if◌then◌else◌, min}
use Rattle.pt_args.specs.pr_base.Paths.{is_absolute}
use Rattle.pt_args.specs.pr_base.Texts.{Text}
use Rattle.pt_args.specs.pr_base.declared.errno.Errno.{Errno}
use Rattle.pt_args.specs.pr_base.declared.errno.Errno.TheVariants.{ENOENT, ERANGE}
use Rattle.pt_args.specs.pr_base.declared.path.WalkMode.TheVariants as mode
use Rattle.pt_args.specs.pr_base.declared.peeks.PeekKind.{PeekKind}
use Rattle.pt_args.specs.pr_base.declared.peeks.PeekKind.TheVariants as kind
use Rattle.pt_args.specs.pt_bind.Binding.{names_of}
use Rattle.pt_args.specs.pt_canon.Canon.{canon_of}
use Rattle.pt_args.specs.pt_canon.TextWalk.{TextSurroundings}
use Rattle.pt_args.specs.pt_canon.declared.canon.Canon.{Canon}
use Rattle.pt_args.specs.kr_calls.PathTable.{PathUse, path_at}
use Rattle.pt_args.specs.kr_calls.declared.request.Request.{Request}
use Rattle.pt_args.specs.kr_calls.declared.request.Request.TheVariants as call
use Rattle.pt_args.specs.Bases.{working_text}
use Rattle.pt_args.specs.Shelving.{with_zero}
use Rattle.pt_args.specs.Walks.{walked, walked_unmet}
use Rattle.pt_args.specs.declared.edit.Edit.{Edit}
use Rattle.pt_args.specs.declared.edit.Edit.TheVariants.{Cancel, Emulate}
use Rattle.pt_args.specs.declared.reached.Reached.{Reached}
use Rattle.pt_results.specs.Numbers.{count_of}
use Rattle.pt_results.specs.declared.link.Room.{Room}

-- ---- the working directory

-- a text with its zero, where there is room for both
abbrev pub text_answer : List ℕ → ℕ → ℕ → Edit
text_answer text size buf = if nat_lt size (length text + 1) then Cancel ERANGE else Emulate ((buf, with_zero text) ∷ []) (pos (length text + 1))

abbrev pub directory_answer : Option (List ℕ) → ℕ → ℕ → Edit
directory_answer (Some text) size buf = text_answer text size buf
directory_answer None size buf = Cancel ENOENT

abbrev pub cwd_answer : TextSurroundings → ℕ → ℕ → ℕ → Edit
cwd_answer texts pid size buf = directory_answer (working_text texts pid) size buf

-- ---- links of the process directory

-- the first bytes of the guest text to which a link leads
abbrev pub lead_answer : List ℕ → Room → Edit
lead_answer text room = Emulate ((room.buf, take (min (length text) room.count) text) ∷ []) (pos (min (length text) room.count))

-- one that leads to none: there is none, but the link of a pipe or of the console, whose text is no path, is left to the kernel
abbrev pub nowhere_answer : Result (List ℕ) Errno → Option Edit
nowhere_answer (Ok text) = if is_absolute text then Some (Cancel ENOENT) else None
nowhere_answer (Err e) = Some (Cancel ENOENT)

abbrev pub led_answer : Result (List ℕ) Errno → Room → Result Canon Errno → Option Edit
led_answer own room (Ok led) = Some (lead_answer led.guest room)
led_answer own room (Err e) = nowhere_answer own

-- a link with a guest text leads where its name leads from its directory, if it is followed
abbrev pub jump_answer : TextSurroundings → Canon → Room → Text → Option Edit
jump_answer texts canon room [] = None
jump_answer texts canon room (name ∷ dir) = led_answer (texts.peeked.link_text canon.host) room (canon_of texts mode.Look dir name)

-- what stands at the end of the path
abbrev pub kind_answer : TextSurroundings → Canon → Room → Result PeekKind Errno → Option Edit
kind_answer texts canon room (Ok kind.Jump) = jump_answer texts canon room (names_of canon.guest)
kind_answer texts canon room (Ok kind.Dir) = None
kind_answer texts canon room (Ok kind.File) = None
kind_answer texts canon room (Ok kind.Link) = None
kind_answer texts canon room (Err e) = None

abbrev pub read_answer : TextSurroundings → Canon → Room → Option Edit
read_answer texts canon room = kind_answer texts canon room (texts.peeked.kind canon.host)

-- a path that stays as it is, and one whose walk fails, is none of such a link
abbrev pub walked_answer : TextSurroundings → Room → Result (Option Reached) Errno → Option Edit
walked_answer texts room (Ok (Some reached)) = read_answer texts reached.canon room
walked_answer texts room (Ok None) = None
walked_answer texts room (Err e) = None

abbrev pub path_answer : TextSurroundings → ℕ → Room → Option PathUse → Option Edit
path_answer texts pid room (Some u) = walked_answer texts room (walked texts pid false u)
path_answer texts pid room None = None

-- nothing where the plain kernel answers
abbrev pub link_answer : TextSurroundings → ℕ → Request → Option Edit
link_answer texts pid (call.Readlinkat dirfd path buf size) =
    path_answer texts pid (record { buf = buf; count = count_of size }) (path_at (call.Readlinkat dirfd path buf size) 0)
link_answer texts pid _ = None

-- ---- whether the process directory is unmet still, by whether it was before

-- of what stands at the end of the path nothing more is asked, but of a link that is found by a name there
abbrev pub read_unmet : TextSurroundings → Canon → Bool → Bool
read_unmet texts canon unmet = unmet && texts.peeked.steady canon.host

abbrev pub unmet_behind_walk : TextSurroundings → Result (Option Reached) Errno → Bool → Bool
unmet_behind_walk texts (Ok (Some reached)) unmet = read_unmet texts reached.canon unmet
unmet_behind_walk texts (Ok None) unmet = unmet
unmet_behind_walk texts (Err e) unmet = unmet

abbrev pub unmet_on_path : TextSurroundings → ℕ → Option PathUse → Bool → Bool
unmet_on_path texts pid (Some u) unmet = unmet_behind_walk texts (walked texts pid false u) (walked_unmet texts pid u unmet)
unmet_on_path texts pid None unmet = unmet

abbrev pub link_unmet : TextSurroundings → ℕ → Request → Bool → Bool
link_unmet texts pid (call.Readlinkat dirfd path buf size) unmet = unmet_on_path texts pid (path_at (call.Readlinkat dirfd path buf size) 0) unmet
link_unmet texts pid _ unmet = unmet
