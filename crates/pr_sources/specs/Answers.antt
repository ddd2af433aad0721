-- The status and the line of each answer.
use Rattle.std.specs.Prelude.{ℕ, List, [], ◌∷◌, ◌++◌, codes}
use Rattle.std.specs.Fmt.{decimal}
use Rattle.pr_io.specs.pr_base.Errno.{errno_number}
use Rattle.pr_sources.specs.Names.{bind_rule, tree_rule, which_name, word_rule}
use Rattle.pr_sources.specs.declared.answer.Answer.{Answer}
use Rattle.pr_sources.specs.declared.answer.Answer.TheVariants.{Ended, Deadlock, Spent, Usage, TooLong, TreeBad, BadBind, NoStart, ReadFault, WriteFault, NoMemory}

abbrev pub status_of : Answer → ℕ
status_of (Ended status) = status
status_of Deadlock = 123
status_of Spent = 124
status_of (Usage word why) = 125
status_of (TooLong which) = 125
status_of (TreeBad number why) = 125
status_of (BadBind index why) = 125
status_of (NoStart errno) = 125
status_of (ReadFault which) = 122
status_of (WriteFault which) = 122
status_of NoMemory = 121

-- the line of the program, with its newline
abbrev pub line : List ℕ → List ℕ
line text = codes "proot: " ++ text ++ 10 ∷ []

-- that of what has a number, and the rule that is broken there
abbrev pub numbered : List ℕ → ℕ → List ℕ → List ℕ
numbered what number rule = codes "proot: " ++ (what ++ (decimal number ++ (codes ": " ++ (rule ++ 10 ∷ []))))

-- a guest that ended speaks for itself
abbrev pub line_of : Answer → List ℕ
line_of (Ended status) = []
line_of Deadlock = line (codes "deadlock")
line_of Spent = line (codes "turns spent")
line_of (Usage word why) = numbered (codes "word ") word (word_rule why)
line_of (TooLong which) = line (codes "too long: " ++ which_name which)
line_of (TreeBad number why) = numbered (codes "tree line ") number (tree_rule why)
line_of (BadBind index why) = numbered (codes "bind ") index (bind_rule why)
line_of (NoStart errno) = line (codes "start: errno " ++ decimal (errno_number errno))
line_of (ReadFault which) = line (codes "read fault: " ++ which_name which)
line_of (WriteFault which) = line (codes "write fault: " ++ which_name which)
line_of NoMemory = line (codes "no memory")
