-- Where the path of a call begins, as a tracer finds it: at the root, or at the guest text of the working directory or of
-- an open directory, which its tag and its host name give.
use Rattle.std.specs.Prelude.{ℕ, ◌==◌, Bool, false, ℤ, pos, negsuc, List, [], ◌∷◌, Option, Some, None, Result, Ok, Err, if◌then◌else◌}
use Rattle.std.specs.Option.{option_map, option_and_then}
use Rattle.pt_canon.specs.pr_base.MountText.{MountText}
use Rattle.pt_canon.specs.pr_base.Paths.{slash, is_absolute, text_of}
use Rattle.pt_canon.specs.pr_base.declared.errno.Errno.{Errno}
use Rattle.pt_canon.specs.pr_base.declared.errno.Errno.TheVariants.{ENOENT}
use Rattle.pt_canon.specs.pr_base.declared.peeks.BaseKind.{BaseKind}
use Rattle.pt_canon.specs.pr_base.declared.peeks.BaseKind.TheVariants as kind
use Rattle.pt_canon.specs.pt_bind.Binding.{guest_of, names_of}
use Rattle.pt_canon.specs.pt_bind.Tags.{tag_of}
use Rattle.pt_canon.specs.pt_bind.declared.slot.Slot.TheVariants as slot
use Rattle.pt_canon.specs.TextWalk.{TextSurroundings}
use Rattle.kr_calls.specs.PathTable.{PathUse}

-- AT_FDCWD, which is -100
abbrev pub is_working_directory : ℤ → Bool
is_working_directory (pos n) = false
is_working_directory (negsuc n) = n == 99

-- a negative number is no descriptor
abbrev pub descriptor_number : ℤ → Option ℕ
descriptor_number (pos n) = Some n
descriptor_number (negsuc n) = None

-- the guest text of what has a tag and maybe a host name
abbrev pub tagged_text : List MountText → ℕ → Option (List ℕ) → Option (List ℕ)
tagged_text bindings tag name = option_and_then (λ host. option_map text_of (guest_of bindings tag (names_of host))) name

-- ENOENT for a directory without a guest text
abbrev pub or_lost : Option (List ℕ) → Result (Option (List ℕ)) Errno
or_lost (Some text) = Ok (Some text)
or_lost None = Err ENOENT

module _ (texts : TextSurroundings) (pid : ℕ) where
  -- the guest text of the working directory
  abbrev pub working_text : Option (List ℕ)
  working_text = tagged_text texts.bindings (tag_of texts.tags pid slot.Cwd) (texts.peeked.cwd_name pid)

  abbrev pub working_base : Result (Option (List ℕ)) Errno
  working_base = or_lost working_text

  -- where no directory is open there is no base: the kernel finds that by itself
  abbrev pub descriptor_base : ℕ → BaseKind → Result (Option (List ℕ)) Errno
  descriptor_base fd kind.Closed = Ok None
  descriptor_base fd kind.Other = Ok None
  descriptor_base fd kind.Dir = or_lost (tagged_text texts.bindings (tag_of texts.tags pid (slot.Fd fd)) (texts.peeked.base_name pid fd))

  abbrev pub numbered_base : Option ℕ → Result (Option (List ℕ)) Errno
  numbered_base None = Ok None
  numbered_base (Some fd) = descriptor_base fd (texts.peeked.base_kind pid fd)

  -- an absolute path begins at the root, whatever its descriptor is
  abbrev pub base_of : PathUse → Result (Option (List ℕ)) Errno
  base_of u =
      if is_absolute u.text then Ok (Some (slash ∷ []))
      else if is_working_directory u.dirfd then working_base
      else numbered_base (descriptor_number u.dirfd)
