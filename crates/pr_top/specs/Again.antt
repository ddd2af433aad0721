-- A run goes on where another one ended: its call is handed the listing that the other one left.
use Rattle.std.specs.Prelude.{◌≡◌, ◌≤◌, ℕ, List, length, None, Ok}
use Rattle.pr_start.specs.pr_words.declared.options.Options.{Options}
use Rattle.pr_start.specs.kr_tree.Lawful.{IsKept}
use Rattle.pr_start.specs.kr_tree.Tree.{Tree}
use Rattle.pr_gen.specs.kr_text.Same.{CanBeListed, IsSame}
use Rattle.pr_run.specs.pr_sources.Asking.{asked}
use Rattle.pr_run.specs.pr_sources.Reading.{asks, file_limit, read_file, tree_limit}
use Rattle.pr_top.specs.Opening.{Begun, Both, Mounts, Loosely, Started, Traced, begins, loose_traced_run, mounted_run, opening, report, traced_run}

-- the tree that a run leaves, by the machine that makes it; of a generated case that of the watched one
abbrev pub tree_on : Begun → Started → Tree
tree_on b (Mounts table m) = (mounted_run b.plan table m).machine.state.tree
tree_on b (Traced m) = (traced_run b.plan m).machine.state.tree
tree_on b (Loosely met m) = (loose_traced_run b.plan m).left.machine.state.tree
tree_on b (Both n m table k) = (traced_run b.plan m).machine.state.tree

abbrev pub tree_left : Begun → Tree
tree_left b = tree_on b b.started

-- where the tree that a run left can be listed, and its listing is within the limit, a call that is given that listing, whose words and other
-- sources aren't refused, and which asks for no generated case, opens on the run's user and a tree in which each text names the like, and two texts name one file exactly
-- where they did
abbrev pub AreReadAgain : Type 0
AreReadAgain =
    (b : Begun) → IsKept (tree_left b) → CanBeListed (tree_left b) b.plan.user → length (report b).left ≤ tree_limit
    → (words : List (List ℕ)) (options : Options) → asked words ≡ Ok options → options.case ≡ None
    → (elf file : List ℕ) → read_file elf (report b).left ≡ Ok file
    → (input : List ℕ) → length input ≤ file_limit
    → (u : Tree) × (opening words (report b).left elf input ≡ begins (asks options (u, b.plan.user) input)) × IsSame (tree_left b) u
