-- What the bytes of the sources come to, read in this order behind the words: the listing; the ELF file, where the listing names it; the listing
-- is checked; the input. Each stage asks for no more than it needs. The bytes are those that a call was given, so what isn't read counts for none.
-- Words that ask for a generated case read no source.
use Rattle.std.specs.Prelude.{◌≡◌, ℕ, ◌+◌, IsTrue, IsSome, List, [], length, None, Result, Ok, Err, if◌then◌else◌}
use Rattle.pr_words.specs.declared.options.Options.{Options}
use Rattle.kr_start.specs.kr_inode.declared.user.User.{User}
use Rattle.kr_start.specs.kr_tree.Lawful.{AreBytes, IsKept}
use Rattle.kr_start.specs.kr_tree.Tree.{Tree}
use Rattle.kr_start.specs.Ready.{IsOfListing}
use Rattle.kr_start.specs.kr_text.Reading.{listing_of, wants_elf}
use Rattle.kr_start.specs.kr_text.declared.fault.ListFault.{ListFault}
use Rattle.kr_start.specs.kr_text.declared.fault.ListFault.TheVariants as fault
use Rattle.pr_io.specs.Drawn.{Drawn, IsDrawn, IsWhole, SourceFailed, gave}
use Rattle.pr_sources.specs.declared.answer.Which.{Which}
use Rattle.pr_sources.specs.declared.answer.Which.TheVariants.{Tree as TreeSource, Elf, Input}
use Rattle.pr_sources.specs.declared.answer.Answer.{Answer}
use Rattle.pr_sources.specs.declared.answer.Answer.TheVariants.{Ended, Deadlock, Spent, BadBind, NoMemory, NoStart, ReadFault, TooLong, TreeBad, Usage, WriteFault}
use Rattle.pr_sources.specs.Within.{and_then, within}
use Rattle.pr_sources.specs.declared.reading.Asked.{Asked}

-- ---- stages

-- 64 MiB, and 16 MiB
abbrev pub tree_limit : ℕ
tree_limit = 67108864

abbrev pub file_limit : ℕ
file_limit = 16777216

abbrev pub read_tree : List ℕ → Result (List ℕ) Answer
read_tree tree = within tree_limit TreeSource tree

-- those of the ELF file, where the listing names it; none are needed else
abbrev pub read_file : List ℕ → List ℕ → Result (List ℕ) Answer
read_file elf listing = if wants_elf listing then within file_limit Elf elf else Ok []

abbrev pub read_input : List ℕ → Result (List ℕ) Answer
read_input input = within file_limit Input input

abbrev pub listing_fault : ListFault → Answer
listing_fault (fault.Bad line why) = TreeBad line why
listing_fault fault.NoMemory = NoMemory

-- the tree and the user of a listing, or its first bad line
abbrev pub listed_of : Result (Tree × User) ListFault → Result (Tree × User) Answer
listed_of (Ok read) = Ok read
listed_of (Err e) = Err (listing_fault e)

abbrev pub listed : List ℕ → List ℕ → Result (Tree × User) Answer
listed file listing = listed_of (listing_of file listing)

abbrev pub read_listing : List ℕ → List ℕ → Result (Tree × User) Answer
read_listing tree elf = and_then (read_tree tree) (λ listing. and_then (read_file elf listing) (λ file. listed file listing))

abbrev pub asks : Options → Tree × User → List ℕ → Asked
asks options read input = record { options = options; tree = read.0; user = read.1; input = input }

abbrev pub with_input : Options → Tree × User → List ℕ → Result Asked Answer
with_input options read input = and_then (read_input input) (λ bytes. Ok (asks options read bytes))

abbrev pub read_asked : Options → List ℕ → List ℕ → List ℕ → Result Asked Answer
read_asked options tree elf input = and_then (read_listing tree elf) (λ read. with_input options read input)

-- what code reads is of bytes, by its types: a tree that is kept, of a listing, and an input
pub record IsRead (a : Asked) : Type 0 where
  pub listing : IsOfListing a.tree a.user
  pub kept : IsKept a.tree
  pub input : AreBytes a.input

-- ---- whether sources are read

-- the words are accepted, and ask for no case
abbrev pub ReadsSources : Result Options Answer → Type 0
ReadsSources (Ok options) = options.case ≡ None
ReadsSources (Err answer) = ⊥

-- they are accepted, and ask for one
abbrev pub AsksCase : Result Options Answer → Type 0
AsksCase (Ok options) = IsSome options.case
AsksCase (Err answer) = ⊥

-- ---- what is answered

-- answers that speak of the words
abbrev pub IsOfWords : Answer → Type 0
IsOfWords (Usage word why) = Unit {0}
IsOfWords answer = ⊥

-- answers of what reads the sources
abbrev pub IsOfSources : Answer → Type 0
IsOfSources (TooLong which) = Unit {0}
IsOfSources (TreeBad line why) = Unit {0}
IsOfSources (ReadFault which) = Unit {0}
IsOfSources NoMemory = Unit {0}
IsOfSources answer = ⊥

-- ---- where faults come

-- a stage is come to
abbrev pub IsPast : {A : Type 0} → Result A Answer → Type 0
IsPast (Ok x) = Unit {0}
IsPast (Err answer) = ⊥

-- the listing was read, and names the ELF file
abbrev pub IsWanted : Result (List ℕ) Answer → Type 0
IsWanted (Ok listing) = IsTrue (wants_elf listing)
IsWanted (Err answer) = ⊥

-- what a call drew from the three sources
pub record Sources : Type 0 where
  pub tree : Drawn
  pub elf : Drawn
  pub input : Drawn

-- a source is named whose count of faults rose, and that was read from, since what comes before it was read
abbrev pub FaultHasCause : Sources → Which → Type 0
FaultHasCause s TreeSource = SourceFailed s.tree
FaultHasCause s Elf = IsWanted (read_tree (gave s.tree)) × SourceFailed s.elf
FaultHasCause s Input = IsPast (read_listing (gave s.tree) (gave s.elf)) × SourceFailed s.input
FaultHasCause s which = ⊥

-- where the sources are read
abbrev pub ReadHasCause : Sources → Answer → Type 0
ReadHasCause s (ReadFault which) = FaultHasCause s which
ReadHasCause s answer = Unit {0}

-- and behind the words
abbrev pub HasCause : Result Options Answer → Sources → Answer → Type 0
HasCause words s (ReadFault which) = ReadsSources words × FaultHasCause s which
HasCause words s answer = Unit {0}

-- ---- what was read to its end

-- what each gave is told
pub record AreDrawn (s : Sources) : Type 0 where
  pub tree_drawn : IsDrawn s.tree
  pub elf_drawn : IsDrawn s.elf
  pub input_drawn : IsDrawn s.input

-- the tree was read to its end, and names the ELF file
pub record WantsElf (tree : Drawn) : Type 0 where
  pub tree_end : IsWhole tree
  pub wanted : IsWanted (read_tree (gave tree))

-- the tree was read to its end, and so was the ELF file where it is wanted
pub record ListingIsRead (tree elf : Drawn) : Type 0 where
  pub tree_end : IsWhole tree
  pub elf_end : IsWanted (read_tree (gave tree)) → IsWhole elf

-- and the listing has no bad line
pub record IsListed (tree elf : Drawn) : Type 0 where
  pub listing : ListingIsRead tree elf
  pub past : IsPast (read_listing (gave tree) (gave elf))

-- all three were, but for an ELF file that isn't wanted
pub record AllAreRead (s : Sources) : Type 0 where
  pub listing : ListingIsRead s.tree s.elf
  pub input_end : IsWhole s.input

-- a source that is too long gave its limit and one byte, and what comes before it was read to its end
abbrev pub IsTooLong : Sources → Which → Type 0
IsTooLong s TreeSource = length (gave s.tree) ≡ tree_limit + 1
IsTooLong s Elf = WantsElf s.tree × (length (gave s.elf) ≡ file_limit + 1)
IsTooLong s Input = IsListed s.tree s.elf × (length (gave s.input) ≡ file_limit + 1)
IsTooLong s which = ⊥

-- what comes before a source that fails was read to its end
abbrev pub IsReadBefore : Sources → Which → Type 0
IsReadBefore s TreeSource = Unit {0}
IsReadBefore s Elf = WantsElf s.tree
IsReadBefore s Input = IsListed s.tree s.elf
IsReadBefore s which = ⊥

-- each source whose stage was passed was read to its end, by the answer to words that ask for sources; nothing is said where memory runs out
abbrev pub IsReadUpTo : Sources → Answer → Type 0
IsReadUpTo s (Usage word why) = ⊥
IsReadUpTo s NoMemory = Unit {0}
IsReadUpTo s (TooLong which) = IsTooLong s which
IsReadUpTo s (ReadFault which) = IsReadBefore s which
IsReadUpTo s (TreeBad line why) = ListingIsRead s.tree s.elf × (read_listing (gave s.tree) (gave s.elf) ≡ Err (TreeBad line why))
IsReadUpTo s (BadBind index why) = AllAreRead s
IsReadUpTo s (NoStart errno) = AllAreRead s
IsReadUpTo s (WriteFault which) = AllAreRead s
IsReadUpTo s (Ended status) = AllAreRead s
IsReadUpTo s Deadlock = AllAreRead s
IsReadUpTo s Spent = AllAreRead s

-- all were where there is no refusal
abbrev pub IsReadAs : {A : Type 0} → Sources → Result A Answer → Type 0
IsReadAs s (Ok x) = AllAreRead s
IsReadAs s (Err answer) = IsReadUpTo s answer

-- ---- what isn't touched

abbrev pub IsRefusal : {A : Type 0} → Result A Answer → Type 0
IsRefusal (Ok x) = ⊥
IsRefusal (Err answer) = Unit {0}

-- answers before the ELF file is read
abbrev pub SourceEndsBeforeElf : Which → Type 0
SourceEndsBeforeElf TreeSource = Unit {0}
SourceEndsBeforeElf which = ⊥

abbrev pub EndsBeforeElf : Answer → Type 0
EndsBeforeElf (Usage word why) = Unit {0}
EndsBeforeElf (TooLong which) = SourceEndsBeforeElf which
EndsBeforeElf (ReadFault which) = SourceEndsBeforeElf which
EndsBeforeElf answer = ⊥

-- answers before the input is read
abbrev pub SourceEndsBeforeInput : Which → Type 0
SourceEndsBeforeInput TreeSource = Unit {0}
SourceEndsBeforeInput Elf = Unit {0}
SourceEndsBeforeInput which = ⊥

abbrev pub EndsBeforeInput : Answer → Type 0
EndsBeforeInput (Usage word why) = Unit {0}
EndsBeforeInput (TooLong which) = SourceEndsBeforeInput which
EndsBeforeInput (ReadFault which) = SourceEndsBeforeInput which
EndsBeforeInput (TreeBad line why) = Unit {0}
EndsBeforeInput answer = ⊥
