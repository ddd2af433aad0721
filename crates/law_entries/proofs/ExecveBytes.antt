-- What is reached from the root of a tree, with the bytes of files: of the shape and of the bytes, and from tree to tree.
use Rattle.std.proofs.Common.{◌≡◌, Option, Some, None, refl, ap, ◌∙◌}
use Rattle.std.specs.Option.{option_map}
use Rattle.kr_loose.specs.kr_tree.Tree.{Body, Directory, Inode, Node, ProcessDirectory, RegularFile, SymbolicLink, Tree, body_without_bytes, bytes_of, inode}
use Rattle.kr_loose.specs.kr_model.Judged.{IsReachedStill, without_bytes}
use Rattle.kr_loose.proofs.kr_turns.pr_base.TextLemmas.{some_is}
use Rattle.law_entries.specs.Programs.{BytesAreReached, ReachesGoOn}

-- ---- a node by what is no bytes, and by bytes

body-same : (a b : Body) → body_without_bytes a ≡ body_without_bytes b → bytes_of a ≡ bytes_of b → a ≡ b
body-same (Directory entries standing) (Directory more other) is same = is
body-same (Directory entries standing) (RegularFile bytes) is same = absurd cc
body-same (Directory entries standing) (SymbolicLink text) is same = absurd cc
body-same (Directory entries standing) (ProcessDirectory other) is same = absurd cc
body-same (RegularFile bytes) (Directory entries standing) is same = absurd cc
body-same (RegularFile bytes) (RegularFile more) is same = ap RegularFile same
body-same (RegularFile bytes) (SymbolicLink text) is same = absurd cc
body-same (RegularFile bytes) (ProcessDirectory standing) is same = absurd cc
body-same (SymbolicLink text) (Directory entries standing) is same = absurd cc
body-same (SymbolicLink text) (RegularFile bytes) is same = absurd cc
body-same (SymbolicLink text) (SymbolicLink other) is same = is
body-same (SymbolicLink text) (ProcessDirectory standing) is same = absurd cc
body-same (ProcessDirectory standing) (Directory entries other) is same = absurd cc
body-same (ProcessDirectory standing) (RegularFile bytes) is same = absurd cc
body-same (ProcessDirectory standing) (SymbolicLink text) is same = absurd cc
body-same (ProcessDirectory standing) (ProcessDirectory other) is same = is

node-same : (n m : Node) → without_bytes n ≡ without_bytes m → bytes_of n.body ≡ bytes_of m.body → n ≡ m
node-same n m is same =
    let mode : n.mode ≡ m.mode = ap (λ (x : Node). x.mode) is in
    let uid : n.uid ≡ m.uid = ap (λ (x : Node). x.uid) is in
    let gid : n.gid ≡ m.gid = ap (λ (x : Node). x.gid) is in
    let body : n.body ≡ m.body = body-same n.body m.body (ap (λ (x : Node). x.body) is) same in
    λ j. record { mode = mode j; uid = uid j; gid = gid j; body = body j }

-- ---- what is there in both trees, or in neither

abbrev at-node : Option Inode → Option Node
at-node o = option_map (λ (x : Inode). x.node) o

inode-same : (a b : Option Inode) → option_map without_bytes (at-node b) ≡ option_map without_bytes (at-node a)
    → ((x y : Inode) → a ≡ Some x → b ≡ Some y → bytes_of y.node.body ≡ bytes_of x.node.body) → option_map (λ (n : Node). n) (at-node b) ≡ option_map (λ (n : Node). n) (at-node a)
inode-same None None is bytes = refl
inode-same None (Some y) is bytes = absurd cc
inode-same (Some x) None is bytes = absurd cc
inode-same (Some x) (Some y) is bytes =
    let rest : without_bytes y.node ≡ without_bytes x.node = some_is (without_bytes y.node) (without_bytes x.node) is in
    let same : y.node ≡ x.node = node-same y.node x.node rest (bytes x y refl refl) in
    ap (λ (n : Node). Some n) same

pub bytes-are-reached : BytesAreReached
bytes-are-reached t u shape bytes = record { names = shape.names; nodes = λ text i way. inode-same (inode t i) (inode u i) (shape.nodes text i way) (bytes i) }

-- ---- from tree to tree

module _ {A : Type 0} (f : Node → A) where
  still : (t u v : Tree) → IsReachedStill f t u → IsReachedStill f u v → IsReachedStill f t v
  still t u v one two = record { names = λ text. two.names text ∙ one.names text; nodes = λ text i way. two.nodes text i (one.names text ∙ way) ∙ one.nodes text i way }

pub reaches-go-on : ReachesGoOn
reaches-go-on = record { shapes = λ t u v one two. still without_bytes t u v one two; nodes = λ t u v one two. still (λ (n : Node). n) t u v one two }
