-- What is said of the steps of a turn, and of who is ready for one: kr_steps has it, and the crates above find it here.
pub use Rattle.kr_steps.specs.Calls.{Runs}
pub use Rattle.kr_steps.specs.Waiting.{goes_on, picked_process, ready_processes, still_waits}
