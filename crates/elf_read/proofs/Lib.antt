-- what a loader may use of an accepted file
pub mod Accepted
mod Positions
mod Rows
mod SegmentLists
mod Soundness
