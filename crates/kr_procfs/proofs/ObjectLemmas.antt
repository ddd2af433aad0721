-- Names, inode numbers and serials of what stands in the process directory.
use Rattle.std.proofs.Common.{◌≡◌, ℕ, ◌<◌, ◌^◌, List, [], ◌∷◌, refl, sym, ap, ◌∙◌, arith}
use Rattle.std.specs.Prelude.{get_or, codes, true, false}
use Rattle.std.specs.List.{list_all}
use Rattle.std.specs.Fmt.{decimal}
use Rattle.std.proofs.lemmas.Fmt.{decimal_injective}
use Rattle.kr_view.specs.kr_tree.declared.place.ProcAt.{ProcAt}
use Rattle.kr_view.specs.kr_tree.declared.place.ProcAt.TheVariants.{SelfLink, Dir, Cwd, Root, Exe, FdDir, Fd}
use Rattle.kr_view.specs.kr_tree.Names.{process_names}
use Rattle.kr_view.specs.Processes.{holder, names_down_to}
use Rattle.kr_procfs.specs.Decimals.{is_digit}
use Rattle.kr_procfs.proofs.DecimalLemmas.{digits-decimal}
use Rattle.kr_procfs.specs.Objects.{own_name, inode_number, serial, NamesStandForOne, FoundUnderOwnNames, FitsNumbers, InodesAreApart, SerialsRise}

-- ---- names

names-own : (at : ProcAt) → process_names at ≡ own_name at ∷ names_down_to (holder at)
names-own SelfLink = refl
names-own (Dir pid) = refl
names-own (Cwd pid) = refl
names-own (Root pid) = refl
names-own (Exe pid) = refl
names-own (FdDir pid) = refl
names-own (Fd pid fd) = refl

head_of : List (List ℕ) → List ℕ
head_of [] = []
head_of (name ∷ names) = name

pub own_names : FoundUnderOwnNames
unfolding head_of
own_names finds leads laws at name found h = (laws.stands at name found h, sym (ap head_of (names-own found)) ∙ ap head_of (laws.named at name found h))

clash : {A : Type 0} → true ≡ false → A
clash e = absurd cc

nothing : {A : Type 0} → ⊥ → A
nothing e = absurd e

-- no number is named by a word
no_number : (n : ℕ) (word : List ℕ) → n < 2 ^ 32 → list_all is_digit word ≡ false → decimal n ≡ word → {A : Type 0} → A
no_number n word small none same = clash (sym (digits-decimal n (omega arith)) ∙ ap (list_all is_digit) same ∙ none)

pub one_object : NamesStandForOne
one_object SelfLink SelfLink s t h e = refl
one_object SelfLink (Dir q) s t h e = no_number q (codes "self") t refl (sym e)
one_object SelfLink (Cwd q) s t h e = absurd cc
one_object SelfLink (Root q) s t h e = absurd cc
one_object SelfLink (Exe q) s t h e = absurd cc
one_object SelfLink (FdDir q) s t h e = absurd cc
one_object SelfLink (Fd q g) s t h e = absurd cc
one_object (Dir p) SelfLink s t h e = no_number p (codes "self") s refl e
one_object (Dir p) (Dir q) s t h e = ap Dir (decimal_injective p q (omega arith) (omega arith) e)
one_object (Dir p) (Cwd q) s t h e = absurd cc
one_object (Dir p) (Root q) s t h e = absurd cc
one_object (Dir p) (Exe q) s t h e = absurd cc
one_object (Dir p) (FdDir q) s t h e = absurd cc
one_object (Dir p) (Fd q g) s t h e = absurd cc
one_object (Cwd p) SelfLink s t h e = absurd cc
one_object (Cwd p) (Dir q) s t h e = absurd cc
one_object (Cwd p) (Cwd q) s t h e = let same : p ≡ q = cc in ap Cwd same
one_object (Cwd p) (Root q) s t h e = let letters = ap (λ (n : List ℕ). get_or n 0 0) e in nothing (omega arith)
one_object (Cwd p) (Exe q) s t h e = let letters = ap (λ (n : List ℕ). get_or n 0 0) e in nothing (omega arith)
one_object (Cwd p) (FdDir q) s t h e = let letters = ap (λ (n : List ℕ). get_or n 0 0) e in nothing (omega arith)
one_object (Cwd p) (Fd q g) s t h e = absurd cc
one_object (Root p) SelfLink s t h e = absurd cc
one_object (Root p) (Dir q) s t h e = absurd cc
one_object (Root p) (Cwd q) s t h e = let letters = ap (λ (n : List ℕ). get_or n 0 0) e in nothing (omega arith)
one_object (Root p) (Root q) s t h e = let same : p ≡ q = cc in ap Root same
one_object (Root p) (Exe q) s t h e = let letters = ap (λ (n : List ℕ). get_or n 0 0) e in nothing (omega arith)
one_object (Root p) (FdDir q) s t h e = let letters = ap (λ (n : List ℕ). get_or n 0 0) e in nothing (omega arith)
one_object (Root p) (Fd q g) s t h e = absurd cc
one_object (Exe p) SelfLink s t h e = absurd cc
one_object (Exe p) (Dir q) s t h e = absurd cc
one_object (Exe p) (Cwd q) s t h e = let letters = ap (λ (n : List ℕ). get_or n 0 0) e in nothing (omega arith)
one_object (Exe p) (Root q) s t h e = let letters = ap (λ (n : List ℕ). get_or n 0 0) e in nothing (omega arith)
one_object (Exe p) (Exe q) s t h e = let same : p ≡ q = cc in ap Exe same
one_object (Exe p) (FdDir q) s t h e = let letters = ap (λ (n : List ℕ). get_or n 0 0) e in nothing (omega arith)
one_object (Exe p) (Fd q g) s t h e = absurd cc
one_object (FdDir p) SelfLink s t h e = absurd cc
one_object (FdDir p) (Dir q) s t h e = absurd cc
one_object (FdDir p) (Cwd q) s t h e = let letters = ap (λ (n : List ℕ). get_or n 0 0) e in nothing (omega arith)
one_object (FdDir p) (Root q) s t h e = let letters = ap (λ (n : List ℕ). get_or n 0 0) e in nothing (omega arith)
one_object (FdDir p) (Exe q) s t h e = let letters = ap (λ (n : List ℕ). get_or n 0 0) e in nothing (omega arith)
one_object (FdDir p) (FdDir q) s t h e = let same : p ≡ q = cc in ap FdDir same
one_object (FdDir p) (Fd q g) s t h e = absurd cc
one_object (Fd p f) SelfLink s t h e = absurd cc
one_object (Fd p f) (Dir q) s t h e = absurd cc
one_object (Fd p f) (Cwd q) s t h e = absurd cc
one_object (Fd p f) (Root q) s t h e = absurd cc
one_object (Fd p f) (Exe q) s t h e = absurd cc
one_object (Fd p f) (FdDir q) s t h e = absurd cc
one_object (Fd p f) (Fd q g) s t h e = let same : p ≡ q = cc in let fds = decimal_injective f g (let l = s.1 in omega arith) (let l = t.1 in omega arith) e in cc

-- ---- inode numbers

different : (at other : ProcAt) → FitsNumbers at → FitsNumbers other → inode_number at ≡ inode_number other → at ≡ other
different SelfLink SelfLink s t e = refl
different SelfLink (Dir q) s t e = nothing (omega arith)
different SelfLink (Cwd q) s t e = nothing (omega arith)
different SelfLink (Root q) s t e = nothing (omega arith)
different SelfLink (Exe q) s t e = nothing (omega arith)
different SelfLink (FdDir q) s t e = nothing (omega arith)
different SelfLink (Fd q g) s t e = nothing (omega arith)
different (Dir p) SelfLink s t e = nothing (omega arith)
different (Dir p) (Dir q) s t e = let same : p ≡ q = omega arith in ap Dir same
different (Dir p) (Cwd q) s t e = nothing (omega arith)
different (Dir p) (Root q) s t e = nothing (omega arith)
different (Dir p) (Exe q) s t e = nothing (omega arith)
different (Dir p) (FdDir q) s t e = nothing (omega arith)
different (Dir p) (Fd q g) s t e = nothing (omega arith)
different (Cwd p) SelfLink s t e = nothing (omega arith)
different (Cwd p) (Dir q) s t e = nothing (omega arith)
different (Cwd p) (Cwd q) s t e = let same : p ≡ q = omega arith in ap Cwd same
different (Cwd p) (Root q) s t e = nothing (omega arith)
different (Cwd p) (Exe q) s t e = nothing (omega arith)
different (Cwd p) (FdDir q) s t e = nothing (omega arith)
different (Cwd p) (Fd q g) s t e = nothing (omega arith)
different (Root p) SelfLink s t e = nothing (omega arith)
different (Root p) (Dir q) s t e = nothing (omega arith)
different (Root p) (Cwd q) s t e = nothing (omega arith)
different (Root p) (Root q) s t e = let same : p ≡ q = omega arith in ap Root same
different (Root p) (Exe q) s t e = nothing (omega arith)
different (Root p) (FdDir q) s t e = nothing (omega arith)
different (Root p) (Fd q g) s t e = nothing (omega arith)
different (Exe p) SelfLink s t e = nothing (omega arith)
different (Exe p) (Dir q) s t e = nothing (omega arith)
different (Exe p) (Cwd q) s t e = nothing (omega arith)
different (Exe p) (Root q) s t e = nothing (omega arith)
different (Exe p) (Exe q) s t e = let same : p ≡ q = omega arith in ap Exe same
different (Exe p) (FdDir q) s t e = nothing (omega arith)
different (Exe p) (Fd q g) s t e = nothing (omega arith)
different (FdDir p) SelfLink s t e = nothing (omega arith)
different (FdDir p) (Dir q) s t e = nothing (omega arith)
different (FdDir p) (Cwd q) s t e = nothing (omega arith)
different (FdDir p) (Root q) s t e = nothing (omega arith)
different (FdDir p) (Exe q) s t e = nothing (omega arith)
different (FdDir p) (FdDir q) s t e = let same : p ≡ q = omega arith in ap FdDir same
different (FdDir p) (Fd q g) s t e = nothing (omega arith)
different (Fd p f) SelfLink s t e = nothing (omega arith)
different (Fd p f) (Dir q) s t e = nothing (omega arith)
different (Fd p f) (Cwd q) s t e = nothing (omega arith)
different (Fd p f) (Root q) s t e = nothing (omega arith)
different (Fd p f) (Exe q) s t e = nothing (omega arith)
different (Fd p f) (FdDir q) s t e = nothing (omega arith)
different (Fd p f) (Fd q g) s t e = let same : p ≡ q = omega arith in let fds : f ≡ g = omega arith in cc

above : (at : ProcAt) → 2 ^ 32 < inode_number at
above SelfLink = omega arith
above (Dir p) = omega arith
above (Cwd p) = omega arith
above (Root p) = omega arith
above (Exe p) = omega arith
above (FdDir p) = omega arith
above (Fd p f) = omega arith

pub apart : InodesAreApart
apart = record { apart = different; above = above }

-- ---- serials

serial_of_one : (at other : ProcAt) → holder at ≡ holder other → serial at ≡ serial other → at ≡ other
serial_of_one SelfLink SelfLink h e = refl
serial_of_one SelfLink (Dir q) h e = nothing (omega arith)
serial_of_one SelfLink (Cwd q) h e = absurd cc
serial_of_one SelfLink (Root q) h e = absurd cc
serial_of_one SelfLink (Exe q) h e = absurd cc
serial_of_one SelfLink (FdDir q) h e = absurd cc
serial_of_one SelfLink (Fd q g) h e = absurd cc
serial_of_one (Dir p) SelfLink h e = nothing (omega arith)
serial_of_one (Dir p) (Dir q) h e = ap Dir (omega arith)
serial_of_one (Dir p) (Cwd q) h e = absurd cc
serial_of_one (Dir p) (Root q) h e = absurd cc
serial_of_one (Dir p) (Exe q) h e = absurd cc
serial_of_one (Dir p) (FdDir q) h e = absurd cc
serial_of_one (Dir p) (Fd q g) h e = absurd cc
serial_of_one (Cwd p) SelfLink h e = absurd cc
serial_of_one (Cwd p) (Dir q) h e = absurd cc
serial_of_one (Cwd p) (Cwd q) h e = let same : p ≡ q = cc in ap Cwd same
serial_of_one (Cwd p) (Root q) h e = nothing (omega arith)
serial_of_one (Cwd p) (Exe q) h e = nothing (omega arith)
serial_of_one (Cwd p) (FdDir q) h e = nothing (omega arith)
serial_of_one (Cwd p) (Fd q g) h e = absurd cc
serial_of_one (Root p) SelfLink h e = absurd cc
serial_of_one (Root p) (Dir q) h e = absurd cc
serial_of_one (Root p) (Cwd q) h e = nothing (omega arith)
serial_of_one (Root p) (Root q) h e = let same : p ≡ q = cc in ap Root same
serial_of_one (Root p) (Exe q) h e = nothing (omega arith)
serial_of_one (Root p) (FdDir q) h e = nothing (omega arith)
serial_of_one (Root p) (Fd q g) h e = absurd cc
serial_of_one (Exe p) SelfLink h e = absurd cc
serial_of_one (Exe p) (Dir q) h e = absurd cc
serial_of_one (Exe p) (Cwd q) h e = nothing (omega arith)
serial_of_one (Exe p) (Root q) h e = nothing (omega arith)
serial_of_one (Exe p) (Exe q) h e = let same : p ≡ q = cc in ap Exe same
serial_of_one (Exe p) (FdDir q) h e = nothing (omega arith)
serial_of_one (Exe p) (Fd q g) h e = absurd cc
serial_of_one (FdDir p) SelfLink h e = absurd cc
serial_of_one (FdDir p) (Dir q) h e = absurd cc
serial_of_one (FdDir p) (Cwd q) h e = nothing (omega arith)
serial_of_one (FdDir p) (Root q) h e = nothing (omega arith)
serial_of_one (FdDir p) (Exe q) h e = nothing (omega arith)
serial_of_one (FdDir p) (FdDir q) h e = let same : p ≡ q = cc in ap FdDir same
serial_of_one (FdDir p) (Fd q g) h e = absurd cc
serial_of_one (Fd p f) SelfLink h e = absurd cc
serial_of_one (Fd p f) (Dir q) h e = absurd cc
serial_of_one (Fd p f) (Cwd q) h e = absurd cc
serial_of_one (Fd p f) (Root q) h e = absurd cc
serial_of_one (Fd p f) (Exe q) h e = absurd cc
serial_of_one (Fd p f) (FdDir q) h e = absurd cc
serial_of_one (Fd p f) (Fd q g) h e = let same : p ≡ q = cc in let fds : f ≡ g = omega arith in cc

behind : (at : ProcAt) → 2 < serial at
behind SelfLink = omega arith
behind (Dir p) = omega arith
behind (Cwd p) = omega arith
behind (Root p) = omega arith
behind (Exe p) = omega arith
behind (FdDir p) = omega arith
behind (Fd p f) = omega arith

pub rising : SerialsRise
rising = record {
  behind = behind;
  processes = λ p q l. (omega arith, omega arith);
  process = λ p. (omega arith, omega arith, omega arith);
  descriptors = λ p f g l. omega arith;
  one = serial_of_one;
}
