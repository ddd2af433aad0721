-- The kinds of what calls change: one for each change that there is, and two where it tells of what the change takes a mount: of a path that
-- was walked, or of what is open under a descriptor.
use Rattle.std.specs.Prelude.{ℕ, ◌==◌, Bool, List, [], ◌∷◌}
use Rattle.std.specs.List.{list_any}

pub data Kind : Type 0 where
  AddsNode : Kind
  LinksNode : Kind
  RemovesName : Kind
  MovesName : Kind
  SetsMode : Kind
  SetsOwner : Kind
  SetsSize : Kind
  WritesFile : Kind
  OpensPath : Kind
  OpensOpen : Kind
  CopiesDescriptor : Kind
  ClosesDescriptor : Kind
  SetsCloexec : Kind
  Seeks : Kind
  SetsAppend : Kind
  MakesPipe : Kind
  TakesFromPipe : Kind
  PutsIntoPipe : Kind
  TakesInput : Kind
  WritesOut : Kind
  WritesErr : Kind
  ChangesPages : Kind
  SetsBreak : Kind
  SetsUmask : Kind
  EntersPath : Kind
  EntersOpen : Kind
  Forks : Kind
  Ends : Kind
  Reaps : Kind
  ReplacesImage : Kind
  ReplacesExecutable : Kind
  ReplacesOpen : Kind
  ClosesOnExec : Kind

-- all of them, so that a kind's number tells it
abbrev pub all_kinds : List Kind
all_kinds =
    AddsNode ∷ LinksNode ∷ RemovesName ∷ MovesName ∷ SetsMode ∷ SetsOwner ∷ SetsSize ∷ WritesFile
    ∷ OpensPath ∷ OpensOpen ∷ CopiesDescriptor ∷ ClosesDescriptor ∷ SetsCloexec ∷ Seeks ∷ SetsAppend ∷ MakesPipe
    ∷ TakesFromPipe ∷ PutsIntoPipe ∷ TakesInput ∷ WritesOut ∷ WritesErr ∷ ChangesPages ∷ SetsBreak ∷ SetsUmask
    ∷ EntersPath ∷ EntersOpen ∷ Forks ∷ Ends ∷ Reaps ∷ ReplacesImage ∷ ReplacesExecutable ∷ ReplacesOpen
    ∷ ClosesOnExec
    ∷ []

-- where a kind stands among all
abbrev pub kind_number : Kind → ℕ
kind_number AddsNode = 0
kind_number LinksNode = 1
kind_number RemovesName = 2
kind_number MovesName = 3
kind_number SetsMode = 4
kind_number SetsOwner = 5
kind_number SetsSize = 6
kind_number WritesFile = 7
kind_number OpensPath = 8
kind_number OpensOpen = 9
kind_number CopiesDescriptor = 10
kind_number ClosesDescriptor = 11
kind_number SetsCloexec = 12
kind_number Seeks = 13
kind_number SetsAppend = 14
kind_number MakesPipe = 15
kind_number TakesFromPipe = 16
kind_number PutsIntoPipe = 17
kind_number TakesInput = 18
kind_number WritesOut = 19
kind_number WritesErr = 20
kind_number ChangesPages = 21
kind_number SetsBreak = 22
kind_number SetsUmask = 23
kind_number EntersPath = 24
kind_number EntersOpen = 25
kind_number Forks = 26
kind_number Ends = 27
kind_number Reaps = 28
kind_number ReplacesImage = 29
kind_number ReplacesExecutable = 30
kind_number ReplacesOpen = 31
kind_number ClosesOnExec = 32

abbrev pub has_kind : List Kind → Kind → Bool
has_kind kinds k = list_any (λ x. kind_number x == kind_number k) kinds
