-- What a run is given by its words and its sources is what both machines can begin on.
use Rattle.std.specs.Prelude.{◌≡◌, ℕ, List, Ok}
use Rattle.pr_top.specs.kr_tree.Lawful.{AreBytes}
use Rattle.pr_top.specs.kr_view.View.{Row}
use Rattle.pr_top.specs.kr_mounts.MountTable.{Settling, settling}
use Rattle.law_starts.specs.law_kept.Bytes.{AreAllBytes}
use Rattle.pr_top.specs.pr_words.Sound.{AreSound}
use Rattle.pr_top.specs.pr_words.declared.options.Options.{Options}
use Rattle.pr_top.specs.pr_sources.Asking.{asked}
use Rattle.pr_top.specs.pr_sources.Reading.{IsRead, read_asked}
use Rattle.pr_top.specs.pr_sources.declared.reading.Asked.{Asked}
use Rattle.law_starts.specs.FirstStates.{IsOpening}
use Rattle.law_machines.specs.Asking.{AreOfBytes}

abbrev pub settled_in : Asked → Settling
settled_in a = settling a.tree a.user a.options.root a.options.binds

-- what a run can begin on
pub record CanBegin (a : Asked) (table : List Row) : Type 0 where
  pub opening : IsOpening (settled_in a).tree a.user table
  pub words : AreOfBytes a.options
  pub sound : AreSound a.options
  pub input : AreBytes a.input

-- words of bytes, what was read of what they ask for of the bytes of the sources, and bindings that settle
pub record AreGiven (words : List (List ℕ)) (tree elf input : List ℕ) (o : Options) (a : Asked) (table : List Row) : Type 0 where
  pub word_bytes : AreAllBytes words
  pub read : IsRead a
  pub asks : asked words ≡ Ok o
  pub gives : read_asked o tree elf input ≡ Ok a
  pub settles : (settled_in a).answer ≡ Ok table

abbrev pub GivenIsOpening : Type 0
GivenIsOpening = (words : List (List ℕ)) (tree elf input : List ℕ) (o : Options) (a : Asked) (table : List Row) → AreGiven words tree elf input o a table → CanBegin a table
