-- What a tracer notes of the answer of a call: of what it made the index of the guest text that was opened, of a copy the
-- tag of its original.
use Rattle.std.specs.Prelude.{ℕ, ◌==◌, ℤ, pos, negsuc, Option, Some, None, if◌then◌else◌}
use Rattle.pt_args.specs.pt_bind.Tags.{TagTable, tag_of, with_tag}
use Rattle.pt_args.specs.pt_bind.declared.slot.Slot.{Slot}
use Rattle.pt_args.specs.pt_bind.declared.slot.Slot.TheVariants.{Cwd, Exe, Fd}
use Rattle.pt_args.specs.kr_calls.declared.request.Request.{Request}
use Rattle.pt_args.specs.kr_calls.declared.request.Request.TheVariants as call
use Rattle.pt_args.specs.Bases.{descriptor_number}
use Rattle.pt_results.specs.Numbers.{made_number}
use Rattle.pt_results.specs.declared.note.Note.{Note}
use Rattle.pt_results.specs.declared.note.Note.TheVariants.{Nothing, Sets, Copies}

abbrev pub copied_from : Option ℕ → Slot → Note
copied_from (Some from) to = Copies (Fd from) to
copied_from None to = Nothing

-- a copy of what a descriptor is open for
abbrev pub copied : ℤ → Slot → Note
copied fd to = copied_from (descriptor_number fd) to

-- F_DUPFD 0 and F_DUPFD_CLOEXEC 1030 alone make a descriptor
abbrev pub duplicated : ℤ → ℤ → ℕ → Note
duplicated fd (pos cmd) number = if cmd == 0 then copied fd (Fd number) else if cmd == 1030 then copied fd (Fd number) else Nothing
duplicated fd (negsuc cmd) number = Nothing

-- of a call that answers a number
abbrev pub noted_of : Request → ℕ → Option ℕ → Note
noted_of (call.Openat dirfd path flags permissions) index (Some number) = Sets (Fd number) index
noted_of (call.Chdir path) index (Some number) = Sets Cwd index
noted_of (call.Execve path args env) index (Some number) = Sets Exe index
noted_of (call.Fchdir fd) index (Some number) = copied fd Cwd
noted_of (call.Dup fd) index (Some number) = copied fd (Fd number)
noted_of (call.Dup3 old new flags) index (Some number) = copied old (Fd number)
noted_of (call.Fcntl fd cmd arg) index (Some number) = duplicated fd cmd number
noted_of _ index _ = Nothing

abbrev pub noted : Request → ℕ → ℤ → Note
noted request index answer = noted_of request index (made_number answer)

-- the tags of all processes, once the note of one was taken
abbrev pub tags_after : TagTable → ℕ → Note → TagTable
tags_after tags pid Nothing = tags
tags_after tags pid (Sets slot index) = with_tag tags pid slot index
tags_after tags pid (Copies from to) = with_tag tags pid to (tag_of tags pid from)
