-- All that was given, one behind the other.
use Rattle.std.proofs.Common.{sym, subst}
use Rattle.law_machines.specs.Asking.{AreOfBytes}
use Rattle.law_machines.specs.Given.{GivenIsOpening}
use Rattle.law_machines.proofs.GrownLemmas.{settled-trees-have-bytes}
use Rattle.law_machines.proofs.GivenOpeningLemmas.{settled-is-opening}
use Rattle.law_machines.proofs.SourceLemmas.{read-has-options}
use Rattle.pr_top.specs.pr_words.Sound.{AreSound}
use Rattle.law_machines.proofs.WordLemmas.{asked-are-sound, asked-are-of-bytes}

pub given-is-opening : GivenIsOpening
given-is-opening words tree elf input o a table given =
    let options = read-has-options o tree elf input a given.gives in
    let are : AreOfBytes a.options = subst AreOfBytes (sym options) (asked-are-of-bytes words o given.word_bytes given.asks) in
    let sound : AreSound a.options = subst AreSound (sym options) (asked-are-sound words o given.asks) in
    let bytes = settled-trees-have-bytes a.tree a.user a.options.root a.options.binds given.read.kept.bytes are.binds in
    record {
      opening = settled-is-opening a.tree a.user a.options.root a.options.binds table given.read.listing given.read.kept sound.indices given.settles bytes;
      words = are;
      sound = sound;
      input = given.read.input;
    }
