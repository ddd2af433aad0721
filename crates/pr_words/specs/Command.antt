-- The command by its texts: its word, its arguments, and the paths at which a word without a slash is looked for, in the directories
-- of PATH, or in `/bin` and `/usr/bin`.
use Rattle.std.specs.Prelude.{ℕ, nat_eq, ◌==◌, Bool, List, [], ◌∷◌, ◌++◌, drop, codes, Option, Some, None, if◌then◌else◌}
use Rattle.std.specs.List.{list_any, slice_split, starts_with}

-- ---- words

abbrev pub shell : List ℕ
shell = codes "/bin/sh"

abbrev pub word_of : List (List ℕ) → List ℕ
word_of [] = shell
word_of (word ∷ words) = word

-- the first argument is the word as it is given
abbrev pub arguments : List (List ℕ) → List (List ℕ)
arguments [] = shell ∷ []
arguments (word ∷ words) = word ∷ words

abbrev pub has_slash : List ℕ → Bool
has_slash word = list_any (λ b. nat_eq b 47) word

-- what a program is told of itself: the real and the effective user, the real and the effective group
abbrev pub ids_of : ℕ × ℕ → List ℕ
ids_of ids = ids.0 ∷ ids.0 ∷ ids.1 ∷ ids.1 ∷ []

-- ---- directories

-- the text behind `PATH=`
abbrev pub path_text : List ℕ → Option (List ℕ)
path_text variable = if starts_with nat_eq variable (codes "PATH=") then Some (drop 5 variable) else None

abbrev pub or_later : Option (List ℕ) → Option (List ℕ) → Option (List ℕ)
or_later (Some text) later = Some text
or_later None later = later

abbrev pub path_of : List (List ℕ) → Option (List ℕ)
path_of [] = None
path_of (variable ∷ env) = or_later (path_text variable) (path_of env)

-- those of PATH stand between colons
abbrev pub directories : Option (List ℕ) → List (List ℕ)
directories None = codes "/bin" ∷ codes "/usr/bin" ∷ []
directories (Some text) = slice_split (λ b. b == 58) text

-- an empty directory is the working directory
abbrev pub candidate : List ℕ → List ℕ → List ℕ
candidate [] word = word
candidate (b ∷ dir) word = (b ∷ dir) ++ 47 ∷ word
