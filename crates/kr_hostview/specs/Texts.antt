-- That names are texts holds in one way at most, since bytes are those of one text at most. No clause cites this module.
use Rattle.std.proofs.Common.{◌≡◌, ℕ, List, Option, Some, None, IfSome, sym, subst, ◌∙◌}
use Rattle.std.proofs.Math.Logic.{∥∥₁_elim}
use Rattle.std.proofs.Props.{props}
use Rattle.kr_seen.specs.pr_base.Paths.{AreNames, AreParts, text_of}
use Rattle.kr_seen.specs.pr_base.Peeks.{NamesAreTexts, Peeked}
use Rattle.kr_seen.specs.pr_base.Texts.{IsText, Text}
use Rattle.kr_seen.specs.kr_inode.GroundLemmas.{texts_are_told_apart}

names-prop : (names : Text) → IsProp (AreNames names)
names-prop names = hlevel props

written-prop : (bytes other : List ℕ) → IsProp (bytes ≡ other)
written-prop bytes other = hlevel props

are-parts : (names : Text) → AreNames names → AreParts names
are-parts names all = λ k d within. let name = all k d within in record { some = name.some; no_slash = name.no_slash; not_dot = name.not_dot; not_dot_dot = name.not_dot_dot }

module _ (bytes : List ℕ) (one : IsText bytes) where
  abbrev Same : Text → Type 0
  Same names = (all : AreNames names) (written : bytes ≡ text_of names) → one ≡ record { names = names; well_formed = all; written = written }

  same : Same one.names
  same all written j = record { names = one.names; well_formed = names-prop one.names one.well_formed all j; written = written-prop bytes (text_of one.names) one.written written j }

  text-same : (two : IsText bytes) → one ≡ two
  text-same two =
      let names : one.names ≡ two.names = texts_are_told_apart one.names two.names (are-parts one.names one.well_formed) (are-parts two.names two.well_formed) (sym one.written ∙ two.written) in
      subst Same names same two.well_formed two.written

text-prop : (bytes : List ℕ) → IsProp (IsText bytes)
text-prop bytes one two = text-same bytes one two

if-text-prop : (name : Option (List ℕ)) → IsProp (IfSome name IsText)
if-text-prop None one two j = tt
if-text-prop (Some bytes) one two j = text-same bytes one two j

names-are-texts-prop : (peeked : Peeked) → IsProp (NamesAreTexts peeked)
names-are-texts-prop peeked one two j = record {
  base = λ pid fd. if-text-prop (peeked.base_name pid fd) (one.base pid fd) (two.base pid fd) j;
  cwd = λ pid. if-text-prop (peeked.cwd_name pid) (one.cwd pid) (two.cwd pid) j;
  exe = λ pid. if-text-prop (peeked.exe_name pid) (one.exe pid) (two.exe pid) j;
}

pub texts-told : (peeked : Peeked) → ∥ NamesAreTexts peeked ∥₁ → NamesAreTexts peeked
texts-told peeked told = ∥∥₁_elim told (names-are-texts-prop peeked) (λ h. h)
