-- Watchers that leave bytes at the stops of calls.
use Rattle.std.specs.Prelude.{◌≡◌, ℕ, nat_lt, ◌&&◌, Bool, true}
use Rattle.std.specs.List.{list_all}
use Rattle.pr_top.specs.pr_base.MountText.{MountText}
use Rattle.pr_top.specs.pr_base.Texts.{Text}
use Rattle.law_starts.specs.law_kept.Turns.{WatchesBytes}
use Rattle.law_starts.specs.pt_faker.Faking.{Faking, faker}
use Rattle.law_starts.specs.pt_tracer.Watched.{Tracing, tracer}

-- ---- the watcher of identities, whatever it keeps

abbrev pub anything : Faking → Bool
anything f = true

abbrev pub FakersWatchBytes : Type 0
FakersWatchBytes = WatchesBytes (λ (f : Faking). anything f ≡ true) faker

-- ---- the tracer, whose bindings have texts of bytes

abbrev pub is_byte : ℕ → Bool
is_byte b = nat_lt b 256

abbrev pub is_byte_text : Text → Bool
is_byte_text names = list_all (λ name. list_all is_byte name) names

abbrev pub is_byte_row : MountText → Bool
is_byte_row row = is_byte_text row.location && is_byte_text row.source

abbrev pub goes_by_bytes : Tracing → Bool
goes_by_bytes x = list_all is_byte_row x.bindings

abbrev pub TracersWatchBytes : Type 0
TracersWatchBytes = WatchesBytes (λ (x : Tracing). goes_by_bytes x ≡ true) tracer
