-- What a tracer is told by the kernel that runs its process, as functions of what it asks.
use Rattle.std.specs.Prelude.{ℕ, ◌≡◌, ◌≢◌, Bool, true, List, ◌∷◌, Option, Result, Ok, Err, IfSome}
use Rattle.pr_base.specs.Paths.{AreParts, itself_in, text_of}
use Rattle.pr_base.specs.Texts.{IsText, Text}
use Rattle.pr_base.specs.declared.errno.Errno.{Errno}
use Rattle.pr_base.specs.declared.peeks.BaseKind.{BaseKind}
use Rattle.pr_base.specs.declared.peeks.PeekFault.{PeekFault}
use Rattle.pr_base.specs.declared.peeks.PeekFault.TheVariants as fault
use Rattle.pr_base.specs.declared.peeks.PeekKind.{PeekKind}
use Rattle.pr_base.specs.declared.peeks.PeekKind.TheVariants.{Jump}

-- by a host path: the kind of what stands there, the text of a link, the first bytes of a file that may
-- be executed, and whether the walk along it is steady: it looks up no name in the process directory. By a
-- process and a descriptor: what it is, and its host name if it has one. By a process: the host names of its
-- working directory and executable, if they have one
pub record Peeked : Type 0 where
  pub kind : List ℕ → Result PeekKind Errno
  pub link_text : List ℕ → Result (List ℕ) Errno
  pub head : List ℕ → ℕ → Result (List ℕ) Errno
  pub steady : List ℕ → Bool
  pub base_kind : ℕ → ℕ → BaseKind
  pub base_name : ℕ → ℕ → Option (List ℕ)
  pub cwd_name : ℕ → Option (List ℕ)
  pub exe_name : ℕ → Option (List ℕ)

-- the answer is this one, but for want of memory
abbrev pub IsPeeked : {T : Type 0} → Result T Errno → Result T PeekFault → Type 0
IsPeeked answer (Ok x) = answer ≡ Ok x
IsPeeked answer (Err (fault.Err e)) = answer ≡ Err e
IsPeeked answer (Err fault.NoMemory) = Unit {0}

-- whether the process directory is unmet still is noted, but for want of memory
abbrev pub IsNoted : {T : Type 0} → (after new : Bool) → Result T PeekFault → Type 0
IsNoted after new (Ok x) = new ≡ after
IsNoted after new (Err (fault.Err e)) = new ≡ after
IsNoted after new (Err fault.NoMemory) = Unit {0}

-- a name that is there is the bytes of a text
pub record NamesAreTexts (peeked : Peeked) : Type 0 where
  pub base : (pid fd : ℕ) → IfSome (peeked.base_name pid fd) IsText
  pub cwd : (pid : ℕ) → IfSome (peeked.cwd_name pid) IsText
  pub exe : (pid : ℕ) → IfSome (peeked.exe_name pid) IsText

-- what stands at a steady host path is no link of the process directory
abbrev pub SteadyIsNoJump : Peeked → Type 0
SteadyIsNoJump peeked = (host : List ℕ) → peeked.steady host ≡ true → peeked.kind host ≢ Ok Jump

-- what stands in front of a steady host path is steady: the directory above it, and that directory looked up in itself
abbrev pub FrontsAreSteady : Peeked → Type 0
FrontsAreSteady peeked =
    (name : List ℕ) (host : Text) → AreParts (name ∷ host) → peeked.steady (text_of (name ∷ host)) ≡ true → (peeked.steady (text_of host) ≡ true) × (peeked.steady (itself_in host) ≡ true)
