-- The names by which the last line calls objects and rules: those of the variants.
use Rattle.std.specs.Prelude.{ℕ, List, codes}
use Rattle.kr_start.specs.kr_mounts.declared.fault.BindWhy.{BindWhy}
use Rattle.kr_start.specs.kr_mounts.declared.fault.BindWhy.TheVariants.{NoSource, NoPoint, Kind, LinkOnTheWay, RootNotDir, AtRoot}
use Rattle.kr_start.specs.kr_text.declared.fault.TreeWhy.{TreeWhy}
use Rattle.kr_start.specs.kr_text.declared.fault.TreeWhy.TheVariants.{Form, Number, Name, NoParent, Twice as TwiceNamed, NoTarget, RootUser, NoUser, NoRoot, TwoElf, TooBig}
use Rattle.pr_words.specs.declared.fault.Why.{Why}
use Rattle.pr_words.specs.declared.fault.Why.TheVariants.{Unknown, NoValue, BadNumber, BadSchedule, BadBind, BadEnv, Twice, CalmAlone, CaseAlone, ZeroByte, BadId, LooseAlone}
use Rattle.pr_sources.specs.declared.answer.Which.{Which}
use Rattle.pr_sources.specs.declared.answer.Which.TheVariants.{Tree, Elf, Input, Out, Err, Left}

abbrev pub which_name : Which → List ℕ
which_name Tree = codes "Tree"
which_name Elf = codes "Elf"
which_name Input = codes "Input"
which_name Out = codes "Out"
which_name Err = codes "Err"
which_name Left = codes "Left"

abbrev pub word_rule : Why → List ℕ
word_rule Unknown = codes "Unknown"
word_rule NoValue = codes "NoValue"
word_rule BadNumber = codes "BadNumber"
word_rule BadSchedule = codes "BadSchedule"
word_rule BadBind = codes "BadBind"
word_rule BadEnv = codes "BadEnv"
word_rule Twice = codes "Twice"
word_rule CalmAlone = codes "CalmAlone"
word_rule CaseAlone = codes "CaseAlone"
word_rule ZeroByte = codes "ZeroByte"
word_rule BadId = codes "BadId"
word_rule LooseAlone = codes "LooseAlone"

abbrev pub tree_rule : TreeWhy → List ℕ
tree_rule Form = codes "Form"
tree_rule Number = codes "Number"
tree_rule Name = codes "Name"
tree_rule NoParent = codes "NoParent"
tree_rule TwiceNamed = codes "Twice"
tree_rule NoTarget = codes "NoTarget"
tree_rule RootUser = codes "RootUser"
tree_rule NoUser = codes "NoUser"
tree_rule NoRoot = codes "NoRoot"
tree_rule TwoElf = codes "TwoElf"
tree_rule TooBig = codes "TooBig"

abbrev pub bind_rule : BindWhy → List ℕ
bind_rule NoSource = codes "NoSource"
bind_rule NoPoint = codes "NoPoint"
bind_rule Kind = codes "Kind"
bind_rule LinkOnTheWay = codes "LinkOnTheWay"
bind_rule RootNotDir = codes "RootNotDir"
bind_rule AtRoot = codes "AtRoot"
