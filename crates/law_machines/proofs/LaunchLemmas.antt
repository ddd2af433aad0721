-- The command's path is made of bytes, where the words are, and so are its arguments.
use Rattle.std.proofs.Common.{ℕ, Bool, true, false, ◌∷◌, [], List, arith, cond, drop, Option, Some, None, nat_eq, refl}
use Rattle.std.specs.Prelude.{codes, IfSome, ◌==◌}
use Rattle.std.specs.List.{starts_with}
use Rattle.pr_top.specs.kr_tree.Lawful.{AreBytes}
use Rattle.pr_top.specs.pr_words.Command.{arguments, candidate, directories, or_later, path_of, path_text, shell, word_of}
use Rattle.law_starts.specs.law_kept.Bytes.{AreAllBytes}
use Rattle.law_starts.proofs.law_kept.ListLemmas.{bytes-tested, joined, rest-of}
use Rattle.law_machines.proofs.TextLemmas.{pieces-bytes}

shell-bytes : AreBytes shell
shell-bytes = bytes-tested shell refl

pub word-bytes : (command : List (List ℕ)) → AreAllBytes command → AreBytes (word_of command)
word-bytes [] are = shell-bytes
word-bytes (word ∷ words) are = are.0

pub arguments-bytes : (command : List (List ℕ)) → AreAllBytes command → AreAllBytes (arguments command)
arguments-bytes [] are = (shell-bytes, tt)
arguments-bytes (word ∷ words) are = are

variable-bytes : (variable : List ℕ) → AreBytes variable → IfSome (path_text variable) AreBytes
variable-bytes variable are = by (starts_with nat_eq variable (codes "PATH="))
  where
    by : (b : Bool) → IfSome (cond b (Some (drop 5 variable)) None) AreBytes
    by true = rest-of 5 variable are
    by false = tt

path-bytes : (env : List (List ℕ)) → AreAllBytes env → IfSome (path_of env) AreBytes
path-bytes [] are = tt
path-bytes (variable ∷ env) are = by (path_text variable) (variable-bytes variable are.0) (path-bytes env are.1)
  where
    by : (o : Option (List ℕ)) → IfSome o AreBytes → IfSome (path_of env) AreBytes → IfSome (or_later o (path_of env)) AreBytes
    by (Some text) own later = own
    by None own later = later

pub directories-bytes : (env : List (List ℕ)) → AreAllBytes env → AreAllBytes (directories (path_of env))
directories-bytes env are = by (path_of env) (path-bytes env are)
  where
    by : (o : Option (List ℕ)) → IfSome o AreBytes → AreAllBytes (directories o)
    by None own = (bytes-tested (codes "/bin") refl, (bytes-tested (codes "/usr/bin") refl, tt))
    by (Some text) own = pieces-bytes (λ b. b == 58) text own

pub candidate-bytes : (dir word : List ℕ) → AreBytes dir → AreBytes word → AreBytes (candidate dir word)
candidate-bytes [] word are own = own
candidate-bytes (b ∷ dir) word are own = joined (b ∷ dir) (47 ∷ word) are (omega arith, own)
