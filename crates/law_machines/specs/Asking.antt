-- What words of bytes ask for.
use Rattle.std.specs.Prelude.{◌≡◌, ℕ, List, Ok}
use Rattle.std.specs.List.{AllByRecursion}
use Rattle.pr_top.specs.pr_base.declared.bind.Bind.{Bind}
use Rattle.pr_top.specs.kr_tree.Lawful.{AreBytes}
use Rattle.law_starts.specs.law_kept.Bytes.{AreAllBytes}
use Rattle.pr_top.specs.pr_words.Sound.{AreSound}
use Rattle.pr_top.specs.pr_words.declared.options.Options.{Options}
use Rattle.pr_top.specs.pr_sources.Asking.{asked}

pub record IsOfByteParts (b : Bind) : Type 0 where
  pub host : AreBytes b.host
  pub guest : AreBytes b.guest

-- the texts of options are bytes
pub record AreOfBytes (o : Options) : Type 0 where
  pub root : AreBytes o.root
  pub binds : AllByRecursion IsOfByteParts o.binds
  pub cwd : AreBytes o.cwd
  pub env : AreAllBytes o.env
  pub command : AreAllBytes o.command

abbrev pub AskedAreOfBytes : Type 0
AskedAreOfBytes = (words : List (List ℕ)) (o : Options) → AreAllBytes words → asked words ≡ Ok o → AreOfBytes o

-- and they are within their limits
abbrev pub AskedAreSound : Type 0
AskedAreSound = (words : List (List ℕ)) (o : Options) → asked words ≡ Ok o → AreSound o
