-- What a watcher on the kernel with mounts does, as functions: nothing, or what the watcher of identities does.
use Rattle.std.specs.Prelude.{ℕ}
use Rattle.pt_faker.specs.Stopping.{Stopped, Watcher}
use Rattle.pt_faker.specs.Faking.{Faking}
pub use Rattle.pt_faker.specs.Faking.{starting_faking}
use Rattle.pt_faker.specs.Faking as faking
use Rattle.pt_faker.specs.declared.watch.Watch.{Watch}
use Rattle.pt_faker.specs.declared.watch.Watch.TheVariants.{Faked, Nobody}

abbrev pub faked : Faking × Stopped → Watch × Stopped
faked p = (Faked p.0, p.1)

abbrev pub entered : Watch → Stopped → Watch × Stopped
entered Nobody t = (Nobody, t)
entered (Faked f) t = faked (faking.entered f t)

abbrev pub exited : Watch → Stopped → Watch × Stopped
exited Nobody t = (Nobody, t)
exited (Faked f) t = faked (faking.exited f t)

abbrev pub born : Watch → (parent child : ℕ) → Watch
born Nobody parent child = Nobody
born (Faked f) parent child = Faked (faking.born f parent child)

abbrev pub gone : Watch → (pid : ℕ) → Watch
gone Nobody pid = Nobody
gone (Faked f) pid = Faked (faking.gone f pid)

abbrev pub watch : Watcher Watch
watch = record { entry = entered; exit = exited; born = born; gone = gone }
