-- What is said of turns and runs: kr_turns has it, and the crates above find it here.
pub use Rattle.kr_turns.specs.Turn.{Machine}
pub use Rattle.kr_turns.specs.Run.{Ran, run}
