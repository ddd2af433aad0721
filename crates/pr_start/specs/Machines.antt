-- Machines, the runs that they make, and who watches their calls: kr_core and pt_faker have it, and the crates above find it here.
pub use Rattle.kr_core.specs.Kernel.{machine}
pub use Rattle.kr_core.specs.Runs.{Machine, Ran, run}
pub use Rattle.pt_tracer.specs.pt_faker.Watches.{starting_faking, watch}
pub use Rattle.pt_tracer.specs.pt_faker.declared.watch.Watch.{Watch}
pub use Rattle.pt_tracer.specs.pt_faker.declared.watch.Watch.TheVariants.{Faked, Nobody}
