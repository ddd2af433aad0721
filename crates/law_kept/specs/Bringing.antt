-- What a row goes by: what it knows and was told is made of bytes, and so is what its changes bring into a state. A new program has 32
-- registers, too.
use Rattle.std.specs.Prelude.{◌≡◌, ℕ, List, length, Some, IfSome}
use Rattle.std.specs.List.{AllByRecursion}
use Rattle.kr_first.specs.rv_mem.Pages.{HoldsBytes}
use Rattle.kr_first.specs.kr_tree.Lawful.{AreBytes, IsOfBytes}
use Rattle.kr_first.specs.kr_model.Change.{Change, AddNode, LinkNode, MoveName, WriteFile, OpenFile, PutIntoPipe, ReplaceImage, ReplaceExecutable}
use Rattle.kr_first.specs.kr_model.Known.{Known, Fact}
use Rattle.kr_first.specs.kr_model.Seen.{Seen, Looked, Taken, TakesNoName, TakesCovered, Takes, Made, MakesNoName, MakesOver, Makes, Opening, OpensNoName, OpensSlashed, OpensFound, OpensNew, ReadsLink, Opens, MakesEntry, Links, Moves, NamesDirectory}

-- ---- what is known

pub record KnowsBytes (k : Known) : Type 0 where
  pub nodes : (i : ℕ) (f : Fact) → k.fact i ≡ Some f → IsOfBytes f.node.body
  pub pipes : (pipe : ℕ) (bytes : List ℕ) → k.pipe pipe ≡ Some bytes → AreBytes bytes
  pub input : AreBytes k.input

-- ---- what is told of paths

-- the entry that an opening remembers
abbrev pub LookedHasBytes : Looked → Type 0
LookedHasBytes l = IfSome l.entry (λ e. AreBytes e.1)

abbrev pub OpeningHasBytes : Opening → Type 0
OpeningHasBytes (OpensNoName last) = Unit {0}
OpeningHasBytes OpensSlashed = Unit {0}
OpeningHasBytes (OpensFound l) = LookedHasBytes l
OpeningHasBytes (OpensNew dir name) = AreBytes name

abbrev pub TakenHasBytes : Taken → Type 0
TakenHasBytes (TakesNoName last) = Unit {0}
TakenHasBytes TakesCovered = Unit {0}
TakenHasBytes (Takes e) = AreBytes e.name

abbrev pub MadeHasBytes : Made → Type 0
MadeHasBytes (MakesNoName last) = Unit {0}
MadeHasBytes MakesOver = Unit {0}
MadeHasBytes (Makes dir name slash) = AreBytes name

-- what a call is told of what it doesn't write or keep may be anything
abbrev pub SeenHasBytes : Seen → Type 0
SeenHasBytes (ReadsLink l text) = IfSome text AreBytes
SeenHasBytes (Opens o) = OpeningHasBytes o
SeenHasBytes (MakesEntry m) = MadeHasBytes m
SeenHasBytes (Links old new same_mount) = MadeHasBytes new
SeenHasBytes (Moves old new same_mount) = TakenHasBytes new
SeenHasBytes (NamesDirectory name) = IfSome name AreBytes
SeenHasBytes _ = Unit {0}

-- ---- what changes bring

abbrev pub BringsBytes : Change → Type 0
BringsBytes (AddNode dir name mode uid gid body) = AreBytes name × IsOfBytes body
BringsBytes (LinkNode dir name inode) = AreBytes name
BringsBytes (MoveName dir name to new) = AreBytes new
BringsBytes (WriteFile inode at bytes) = AreBytes bytes
BringsBytes (OpenFile fd cloexec from o) = AreBytes o.name
BringsBytes (PutIntoPipe pipe bytes) = AreBytes bytes
BringsBytes (ReplaceImage image brk) = HoldsBytes image.memory.pages × (length image.regs.x ≡ 32)
BringsBytes (ReplaceExecutable from host dir name) = AreBytes name
BringsBytes _ = Unit {0}

abbrev pub BringBytes : List Change → Type 0
BringBytes cs = AllByRecursion BringsBytes cs
