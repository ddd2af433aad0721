-- Programs as a tracer finds them: their guest texts by its walk, and their first bytes by peeks at the host texts of these.
use Rattle.std.specs.Prelude.{ℕ, ◌&&◌, Bool, List, [], ◌∷◌, take, Option, Some, None, Result, Ok, Err, if◌then◌else◌}
use Rattle.pt_args.specs.pr_base.Paths.{slash, is_absolute}
use Rattle.pt_args.specs.pr_base.Peeks.{Peeked}
use Rattle.pt_args.specs.pr_base.declared.errno.Errno.{Errno}
use Rattle.pt_args.specs.pr_base.declared.errno.Errno.TheVariants.{ENOENT}
use Rattle.pt_args.specs.pr_base.declared.path.WalkMode.TheVariants.{Look}
use Rattle.pt_args.specs.pt_bind.Binding.{names_of}
use Rattle.pt_args.specs.pt_canon.Canon.{canon_of}
use Rattle.pt_args.specs.pt_canon.LookedPaths.{is_steady_walk}
use Rattle.pt_args.specs.pt_canon.TextWalk.{TextSurroundings}
use Rattle.pt_args.specs.pt_canon.declared.canon.Canon.{Canon}
use Rattle.pt_args.specs.kr_calls.Expansion.{Finding}
use Rattle.pt_args.specs.Walks.{and_then}
use Rattle.pt_script.specs.declared.program.Program.{Program}

-- ENOENT for a working directory without a guest text
abbrev pub or_lost : Option (List ℕ) → Result (List ℕ) Errno
or_lost (Some text) = Ok text
or_lost None = Err ENOENT

-- from the root, or from a working directory by its guest text
abbrev pub base_from : Option (List ℕ) → List ℕ → Result (List ℕ) Errno
base_from working path = if is_absolute path then Ok (slash ∷ []) else or_lost working

-- a last link is followed
abbrev pub canon_from : TextSurroundings → List ℕ → List ℕ → Result Canon Errno
canon_from texts path base = canon_of texts Look (names_of base) path

-- as many bytes as tell the line of a script
abbrev pub head_size : ℕ
head_size = 256

-- what stands at a host text: the kernel gives the first bytes of a regular file that the user may execute, and else EACCES
abbrev pub program_in : Peeked → List ℕ → ℕ → Result Program Errno
program_in peeked host index = and_then (peeked.head host head_size) (λ head. Ok (record { host = host; index = index; head = take head_size head }))

abbrev pub program_from : TextSurroundings → Option (List ℕ) → List ℕ → Result Program Errno
program_from texts working path =
    and_then (and_then (base_from working path) (canon_from texts path)) (λ canon. program_in texts.peeked canon.host canon.index)

-- programs by their guest paths. An interpreter is found as the program of a call is
abbrev pub programs : TextSurroundings → Option (List ℕ) → Finding Program
programs texts working = record { find = program_from texts working; head = λ program. program.head }

-- ---- whether the process directory is unmet still, by whether it was before

abbrev pub canon_unmet : TextSurroundings → (path base : List ℕ) → Bool → Bool
canon_unmet texts path base unmet = unmet && is_steady_walk texts Look (names_of base) path

-- what stands at the end of the path is asked for
abbrev pub unmet_at_canon : TextSurroundings → Result Canon Errno → Bool → Bool
unmet_at_canon texts (Ok canon) unmet = unmet && texts.peeked.steady canon.host
unmet_at_canon texts (Err e) unmet = unmet

abbrev pub unmet_from_base : TextSurroundings → List ℕ → Result (List ℕ) Errno → Bool → Bool
unmet_from_base texts path (Ok base) unmet = unmet_at_canon texts (canon_from texts path base) (canon_unmet texts path base unmet)
unmet_from_base texts path (Err e) unmet = unmet

abbrev pub program_unmet : TextSurroundings → Option (List ℕ) → List ℕ → Bool → Bool
program_unmet texts working path unmet = unmet_from_base texts path (base_from working path) unmet
