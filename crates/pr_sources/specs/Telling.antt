-- The same stages of sources that tell what they have left: a stage is known where the sources that it needs tell their bytes.
use Rattle.std.specs.Prelude.{◌≡◌, ◌⊎◌, ℕ, false, List, [], Option, Some, None, IfSome, Result, Ok, Err, if◌then◌else◌}
use Rattle.std.specs.Option.{option_map}
use Rattle.pr_words.specs.declared.options.Options.{Options}
use Rattle.kr_start.specs.kr_inode.declared.user.User.{User}
use Rattle.kr_start.specs.kr_tree.Tree.{Tree}
use Rattle.kr_start.specs.kr_text.Reading.{wants_elf}
use Rattle.pr_io.specs.Drawn.{gave}
use Rattle.pr_sources.specs.declared.answer.Which.{Which}
use Rattle.pr_sources.specs.declared.answer.Which.TheVariants.{Tree as TreeSource, Elf, Input}
use Rattle.pr_sources.specs.declared.answer.Answer.{Answer}
use Rattle.pr_sources.specs.Reading.{AreDrawn, IsListed, IsReadUpTo, IsRefusal, Sources, WantsElf, asks, file_limit, listed, read_asked, tree_limit}
use Rattle.pr_sources.specs.Within.{IsEarly, within}
use Rattle.pr_sources.specs.declared.reading.Asked.{Asked}

-- a stage: its outcome or a refusal, where it is known
abbrev pub Stage : Type 0 → Type 0
Stage A = Option (Result A Answer)

abbrev pub and_told : {A B : Type 0} → Stage A → (A → Stage B) → Stage B
and_told None go = None
and_told (Some (Ok x)) go = go x
and_told (Some (Err answer)) go = Some (Err answer)

-- the bytes of a source within its limit, where it tells them
abbrev pub told_within : ℕ → Which → Option (List ℕ) → Stage (List ℕ)
told_within limit which told = option_map (within limit which) told

abbrev pub told_tree : Option (List ℕ) → Stage (List ℕ)
told_tree tree = told_within tree_limit TreeSource tree

abbrev pub told_file : Option (List ℕ) → List ℕ → Stage (List ℕ)
told_file elf listing = if wants_elf listing then told_within file_limit Elf elf else Some (Ok [])

abbrev pub told_input : Option (List ℕ) → Stage (List ℕ)
told_input input = told_within file_limit Input input

abbrev pub told_listing : Option (List ℕ) → Option (List ℕ) → Stage (Tree × User)
told_listing tree elf = and_told (told_tree tree) (λ listing. and_told (told_file elf listing) (λ file. Some (listed file listing)))

abbrev pub told_with_input : Options → Tree × User → Option (List ℕ) → Stage Asked
told_with_input options read input = and_told (told_input input) (λ bytes. Some (Ok (asks options read bytes)))

abbrev pub told_asked : Options → Option (List ℕ) → Option (List ℕ) → Option (List ℕ) → Stage Asked
told_asked options tree elf input = and_told (told_listing tree elf) (λ read. told_with_input options read input)

-- the ELF file isn't come to, or isn't named
abbrev pub IsUnwanted : Result (List ℕ) Answer → Type 0
IsUnwanted (Ok listing) = wants_elf listing ≡ false
IsUnwanted (Err answer) = Unit {0}

-- ---- what such a source tells is what it gives

-- what is known of a stage is this
abbrev pub Agrees : {A : Type 0} → Stage A → Result A Answer → Type 0
Agrees told r = IfSome told (λ known. known ≡ r)

-- what the sources had left, where they tell it, comes to the same as what they gave in the call, but for an early end
abbrev pub SourcesThatTellAgree : Type 0
SourcesThatTellAgree =
    (s : Sources) → AreDrawn s → (o : Options) (answer : Answer) → IsReadUpTo s answer
    → Agrees (told_asked o s.tree.had s.elf.had s.input.had) (read_asked o (gave s.tree) (gave s.elf) (gave s.input)) ⊎ IsEarly answer

-- whatever isn't touched, or else was come to behind a listing that wants it, isn't touched where what is told doesn't want it
abbrev pub UnwantedAreUntouched : Type 0 → Type 0
UnwantedAreUntouched S =
    (s : Sources) → AreDrawn s → (old new : S) → (new ≡ old) ⊎ WantsElf s.tree → IfSome (told_tree s.tree.had) (λ listing. IsUnwanted listing → new ≡ old)

-- and likewise behind a listing that is read, where what is told is refused
abbrev pub UnlistedAreUntouched : Type 0 → Type 0
UnlistedAreUntouched S =
    (s : Sources) → AreDrawn s → (old new : S) → (new ≡ old) ⊎ IsListed s.tree s.elf → IfSome (told_listing s.tree.had s.elf.had) (λ listing. IsRefusal listing → new ≡ old)
