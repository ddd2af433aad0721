-- Places of the mounts in code, told by the numbers of the mounts.
use Rattle.std.specs.Prelude.{ℕ}
use Rattle.kr_core.specs.kr_mounts.declared.mounted.MountNumber.{MountNumber}
use Rattle.kr_core.specs.kr_view.Leads.{numbered}
use Rattle.pr_start.specs.Directory.{At}
use Rattle.pr_start.specs.declared.directory.Directory.{Directory}

abbrev pub number_of : MountNumber → ℕ
number_of m = m.number

abbrev pub directory_told : Directory → At
directory_told d = record { path = d.path; place = numbered number_of d.place }
