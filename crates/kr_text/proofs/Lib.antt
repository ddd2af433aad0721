pub use Rattle.kr_tree.proofs.pr_base as pr_base
pub use Rattle.kr_tree.proofs.kr_inode as kr_inode
pub use Rattle.kr_tree.proofs as kr_tree
pub mod CanonicalRows
pub mod CountedNames
pub mod DepthLemmas
pub mod DrawnLemmas
pub mod EscapeLemmas
pub mod EveryName
pub mod FirstLemmas
pub mod FullPathLemmas
pub mod Growth
pub mod KeptBytes
pub mod LineLemmas
pub mod LineRows
pub mod Mirrors
pub mod NameLemmas
pub mod NamesLemmas
pub mod NumberLemmas
pub mod OneName
pub mod OrderLemmas
pub mod OrderedNames
pub mod PieceLemmas
pub mod SortedNames
pub mod ReadAll
pub mod ReadBack
pub mod ReadLemmas
pub mod ReadNodes
pub mod ReadingRows
pub mod ThreeLines
pub mod WalkLemmas
pub mod WayLemmas
pub mod WrittenFields
pub mod WrittenLines
pub mod WrittenPaths
