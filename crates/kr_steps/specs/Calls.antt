-- What is said of calls with their walks: kr_perform has it, and the crates above find it here.
pub use Rattle.kr_perform.specs.Calling.{CanBeMade, CanCall, IsCalled, MayCall, Runs}
pub use Rattle.kr_perform.specs.Operating.{IsNoExec}
pub use Rattle.kr_perform.specs.Lawful.{LastsLawful}
pub use Rattle.kr_perform.specs.Altering.{IsAltered, nothing_altered}
pub use Rattle.kr_perform.specs.declared.altering.Altered.{Altered}
