-- All that calls ask of a state: no mount, no hold of a mount, no register and no byte of a memory is among it.
use Rattle.std.specs.FinMap as map
use Rattle.std.specs.Prelude.{ℕ, Bool, List, drop, sum, Option, map as map_list}
use Rattle.std.specs.Option.{option_map, option_map_or}
use Rattle.kr_files.specs.kr_inode.declared.user.User.{User}
use Rattle.kr_files.specs.kr_tree.Tree.{Tree, Node, root, inode}
use Rattle.kr_files.specs.kr_tree.declared.place.Host.{Host}
use Rattle.kr_files.specs.kr_tree.declared.place.Host.TheVariants.{Node as AtNode}
use Rattle.kr_files.specs.declared.opened.Opened.{Opened}
use Rattle.kr_files.specs.Descriptors.{Meanings}
use Rattle.kr_files.specs.Files.{has_reader, has_writer}
use Rattle.kr_files.specs.WithoutMounts.{without_mount}
use Rattle.kr_model.specs.State.{Process, State, Ended, Layout, process, opened}

-- the caller
pub record Caller : Type 0 where
  pub parent : ℕ
  pub layout : Layout
  pub brk_start : ℕ
  pub brk : ℕ
  pub descs : Meanings
  pub cwd : Host
  pub umask : ℕ

-- the caller of a call lives always; this stands for one that doesn't
abbrev pub no_caller : Caller
no_caller = record { parent = 0; layout = map.empty; brk_start = 0; brk = 0; descs = map.empty; cwd = AtNode root; umask = 0 }

-- a living process: its number, its parent's, and the numbers of its open descriptors
pub record Family : Type 0 where
  pub pid : ℕ
  pub parent : ℕ
  pub fds : List ℕ

-- how much there is in a tree
pub record Sizes : Type 0 where
  pub inodes : ℕ
  pub names : ℕ
  pub bytes : ℕ
  pub next : ℕ

-- a node, how many names it has, and of a directory how many of its entries are directories
pub record Fact : Type 0 where
  pub node : Node
  pub names : ℕ
  pub directories : ℕ

abbrev pub fact_at : Tree → ℕ → Option Fact
fact_at t i = option_map (λ x. record { node = x.node; names = x.names; directories = x.directories }) (inode t i)

pub record Known : Type 0 where
  pub caller : Caller
  pub user : User
  -- what is open under a descriptor of the caller
  pub opened : ℕ → Option (Opened (Unit {0}))
  -- the bytes of a pipe, and whether its ends are open
  pub pipe : ℕ → Option (List ℕ)
  pub reader : ℕ → Bool
  pub writer : ℕ → Bool
  pub pipes : ℕ
  pub fact : ℕ → Option Fact
  pub sizes : Sizes
  -- the input that is left
  pub input : List ℕ
  pub living : List Family
  pub ended : List Ended
  pub next_pid : ℕ
  -- the pages of all processes
  pub pages : ℕ

module _ {M X : Type 0} (layout : X → Layout) where
  abbrev pub caller_of : Process M X → Caller
  caller_of p = record { parent = p.parent; layout = layout p.image; brk_start = p.brk_start; brk = p.brk; descs = p.descs; cwd = p.cwd.host; umask = p.umask }

  abbrev pub family_of : Process M X → Family
  family_of p = record { pid = p.pid; parent = p.parent; fds = map_list (λ e. e.0) (map.entries p.descs) }

  -- the room that is taken: the sum of the pages of the living processes
  abbrev pub pages_in_all : List (Process M X) → ℕ
  pages_in_all living = sum (map_list (λ p. map.len (layout p.image)) living)

  abbrev pub known : ℕ → State M X → Known
  known pid s = record {
    caller = option_map_or caller_of (process pid s) no_caller;
    user = s.user;
    opened = λ fd. option_map without_mount (opened pid fd s);
    pipe = λ p. map.get s.files.pipes p;
    reader = λ p. has_reader s.files p;
    writer = λ p. has_writer s.files p;
    pipes = map.len s.files.pipes;
    fact = fact_at s.tree;
    sizes = record { inodes = map.len s.tree.inodes; names = s.tree.names; bytes = s.tree.bytes; next = s.tree.next };
    input = drop s.taken s.input;
    living = map_list family_of s.living;
    ended = s.ended;
    next_pid = s.next_pid;
    pages = pages_in_all s.living;
  }

-- a node as a call knows it
abbrev pub known_node : Known → ℕ → Option Node
known_node k i = option_map (λ f. f.node) (k.fact i)
