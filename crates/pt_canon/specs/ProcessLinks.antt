-- Links of the process directory without a text of their own, as proc(5) has them: which one stands at a host text, and
-- where it leads in guest texts, by the tag of what it leads to and the host name that the kernel tells.
use Rattle.std.specs.Prelude.{ℕ, Bool, true, false, List, [], ◌∷◌, length, nat_le, ◌&&◌, Option, Some, None, Result, Ok, Err, bytes_eq, codes, if◌then◌else◌}
use Rattle.std.specs.List.{list_all}
use Rattle.std.specs.Option.{option_map, option_and_then}
use Rattle.std.specs.Str.Parse.{digits_value}
pub use Rattle.pt_bind.specs.pr_base.Digits.{is_digit}
use Rattle.pt_bind.specs.pr_base.MountText.{MountText}
use Rattle.pt_bind.specs.pr_base.Paths.{text_of}
use Rattle.pt_bind.specs.pr_base.Peeks.{Peeked}
use Rattle.pt_bind.specs.pr_base.Texts.{Text}
use Rattle.pt_bind.specs.pr_base.WalkFrame.{Landing}
use Rattle.pt_bind.specs.pr_base.declared.errno.Errno.{Errno}
use Rattle.pt_bind.specs.pr_base.declared.peeks.PeekKind.{PeekKind}
use Rattle.pt_bind.specs.pr_base.declared.peeks.PeekKind.TheVariants as kind
use Rattle.pt_bind.specs.Binding.{guest_of, host_of, names_of}
use Rattle.pt_bind.specs.Tags.{TagTable, tag_of}
use Rattle.pt_bind.specs.declared.slot.Slot.TheVariants as slot
use Rattle.pt_canon.specs.declared.link.ProcessLink.{ProcessLink}
use Rattle.pt_canon.specs.declared.link.ProcessLink.TheVariants.{Cwd, Exe, Root, Fd}

-- ---- which link stands at a host text, by its last names

-- the largest number of 32 bits
abbrev pub largest : ℕ
largest = 4294967295

-- the number of 32 bits that digits spell. The kernel shows no name with a leading zero, so none is looked for
abbrev pub number_in : List ℕ → Option ℕ
number_in name = if nat_le 1 (length name) && (list_all is_digit name && nat_le (digits_value 10 name) largest) then Some (digits_value 10 name) else None

abbrev pub descriptor_link : List ℕ → List ℕ → Option ProcessLink
descriptor_link pid name = option_and_then (λ pid. option_map (λ fd. Fd pid fd) (number_in name)) (number_in pid)

abbrev pub file_link_at : List ℕ → Text → Option ProcessLink
file_link_at name [] = None
file_link_at name (pid ∷ rest) = descriptor_link pid name

abbrev pub process_link_at : List ℕ → List ℕ → Option ProcessLink
process_link_at name pid =
    if bytes_eq name (codes "cwd") then option_map Cwd (number_in pid)
    else if bytes_eq name (codes "exe") then option_map Exe (number_in pid)
    else if bytes_eq name (codes "root") then option_map Root (number_in pid)
    else None

-- `cwd`, `exe` and `root` stand in a process's directory, descriptors in `fd` there
abbrev pub link_at : Text → Option ProcessLink
link_at [] = None
link_at (name ∷ []) = None
link_at (name ∷ up ∷ rest) = if bytes_eq up (codes "fd") then file_link_at name rest else process_link_at name up

-- ---- where it leads

-- the host name of what it leads to
abbrev pub link_name : Peeked → ProcessLink → Option Text
link_name peeked (Cwd pid) = option_map names_of (peeked.cwd_name pid)
link_name peeked (Exe pid) = option_map names_of (peeked.exe_name pid)
link_name peeked (Root pid) = Some []
link_name peeked (Fd pid fd) = option_map names_of (peeked.base_name pid fd)

-- its guest text; that of `root` is the root
abbrev pub link_guest : List MountText → TagTable → ProcessLink → Text → Option Text
link_guest bindings tags (Cwd pid) name = guest_of bindings (tag_of tags pid slot.Cwd) name
link_guest bindings tags (Exe pid) name = guest_of bindings (tag_of tags pid slot.Exe) name
link_guest bindings tags (Root pid) name = Some []
link_guest bindings tags (Fd pid fd) name = guest_of bindings (tag_of tags pid (slot.Fd fd)) name

abbrev pub is_dir_kind : Result PeekKind Errno → Bool
is_dir_kind (Ok kind.Dir) = true
is_dir_kind (Ok kind.File) = false
is_dir_kind (Ok kind.Link) = false
is_dir_kind (Ok kind.Jump) = false
is_dir_kind (Err e) = false

abbrev pub head_of : Text → List ℕ
head_of [] = []
head_of (name ∷ text) = name

-- the text above; the root's is the root
abbrev pub above : Text → Text
above [] = []
above (name ∷ text) = text

-- a directory itself, and a file with the directory above its guest text and the name of its host text
abbrev pub text_landing : Bool → Text → Text → Landing Text Text
text_landing true guest name = record { place = guest; found = guest; is_dir = true; dir = guest; name = [] }
text_landing false guest name = record { place = guest; found = guest; is_dir = false; dir = above guest; name = head_of name }

abbrev pub landing_of_guest : List MountText → Peeked → Text → Text → Landing Text Text
landing_of_guest bindings peeked name guest = text_landing (is_dir_kind (peeked.kind (text_of (host_of bindings guest)))) guest name

abbrev pub landing_of_name : List MountText → Peeked → TagTable → ProcessLink → Text → Option (Landing Text Text)
landing_of_name bindings peeked tags link name = option_map (landing_of_guest bindings peeked name) (link_guest bindings tags link name)

unfoldable pub landing_of : List MountText → Peeked → TagTable → ProcessLink → Option (Landing Text Text)
landing_of bindings peeked tags link = option_and_then (landing_of_name bindings peeked tags link) (link_name peeked link)

-- where the link at a host text leads, if it leads anywhere
unfoldable pub jump_at : List MountText → Peeked → TagTable → Text → Option (Landing Text Text)
jump_at bindings peeked tags host = option_and_then (landing_of bindings peeked tags) (link_at host)
