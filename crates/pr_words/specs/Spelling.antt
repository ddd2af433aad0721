-- What one word is: an option, by its names, or the start of the command.
use Rattle.std.specs.Prelude.{ℕ, ◌+◌, ◌==◌, bytes_eq, nat_eq, List, take, drop, codes, Option, Some, None, if◌then◌else◌}
use Rattle.std.specs.List.{starts_with, position}
use Rattle.std.specs.Option.{option_map}
use Rattle.pr_words.specs.declared.kind.Kind.{Kind}
use Rattle.pr_words.specs.declared.kind.Kind.TheVariants.{Root, Bind, Directory, RootId, ChangeId, Variable, Turns, Schedule, Loose, Native, Calm, Case}
use Rattle.pr_words.specs.declared.spelling.Spelled.{Spelled}
use Rattle.pr_words.specs.declared.spelling.Spelled.TheVariants.{Command, Unknown, Flag, Short, Lacking, Long}

-- what stands before the first such byte and behind it, where there is one
abbrev pub cut_at : ℕ → List ℕ → Option (List ℕ × List ℕ)
cut_at c bytes = option_map (λ at. (take at bytes, drop (at + 1) bytes)) (position (λ b. b == c) bytes)

-- options that have no value
abbrev pub flag_named : List ℕ → Option Kind
flag_named word =
    if bytes_eq word (codes "-0") then Some RootId
    else (if bytes_eq word (codes "--root-id") then Some RootId
    else (if bytes_eq word (codes "--native") then Some Native
    else (if bytes_eq word (codes "--calm") then Some Calm
    else None)))

-- options whose value is the next word
abbrev pub short_named : List ℕ → Option Kind
short_named word =
    if bytes_eq word (codes "-r") then Some Root
    else (if bytes_eq word (codes "-b") then Some Bind
    else (if bytes_eq word (codes "-m") then Some Bind
    else (if bytes_eq word (codes "-w") then Some Directory
    else (if bytes_eq word (codes "-i") then Some ChangeId
    else None))))

-- options whose value stands behind a `=`, those with a short form first
abbrev pub renamed : List ℕ → Option Kind
renamed name =
    if bytes_eq name (codes "--rootfs") then Some Root
    else (if bytes_eq name (codes "--bind") then Some Bind
    else (if bytes_eq name (codes "--mount") then Some Bind
    else (if bytes_eq name (codes "--pwd") then Some Directory
    else (if bytes_eq name (codes "--cwd") then Some Directory
    else (if bytes_eq name (codes "--change-id") then Some ChangeId
    else None)))))

abbrev pub long_named : List ℕ → Option Kind
long_named name =
    if bytes_eq name (codes "--env") then Some Variable
    else (if bytes_eq name (codes "--turns") then Some Turns
    else (if bytes_eq name (codes "--schedule") then Some Schedule
    else (if bytes_eq name (codes "--loose") then Some Loose
    else (if bytes_eq name (codes "--case") then Some Case
    else renamed name))))

abbrev pub spelled_or : (Kind → Spelled) → Spelled → Option Kind → Spelled
spelled_or form other None = other
spelled_or form other (Some what) = form what

-- a word that begins with `-` and has no `=`
abbrev pub without_value : List ℕ → Spelled
without_value word =
    spelled_or Flag (spelled_or Short (spelled_or Lacking Unknown (long_named word)) (short_named word)) (flag_named word)

-- a word that begins with `-`, by what stands before its first `=`
abbrev pub by_name : List ℕ → Option (List ℕ × List ℕ) → Spelled
by_name word None = without_value word
by_name word (Some parts) = spelled_or Long Unknown (long_named parts.0)

-- the command begins at the first word that doesn't begin with `-`
abbrev pub spelling_of : List ℕ → Spelled
spelling_of word = if starts_with nat_eq word (codes "-") then by_name word (cut_at 61 word) else Command

abbrev pub second_or_none : Option (List ℕ × List ℕ) → List ℕ
second_or_none None = codes ""
second_or_none (Some parts) = parts.1

-- what stands behind the first `=`
abbrev pub own_value : List ℕ → List ℕ
own_value word = second_or_none (cut_at 61 word)
