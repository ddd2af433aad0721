-- What a descriptor of the caller leads to.
use Rattle.std.specs.Prelude.{◌≡◌, ℕ, ℤ}
use Rattle.std.specs.Option.{option_map}
use Rattle.kr_seen.specs.kr_files.declared.opened.Opened.{Opened}
use Rattle.kr_seen.specs.kr_model.Asking.{or_badf}
use Rattle.kr_seen.specs.kr_model.Known.{Known}
use Rattle.kr_seen.specs.kr_model.Reply.{Replying}
use Rattle.kr_attributes.specs.declared.found.OpenObject.{OpenObject}

-- a descriptor is open on this: what follows is told its number and the open file
pub record IsOpenAs (k : Known) (fd : ℤ) (object : OpenObject) : Type 0 where
  pub opened : Opened (Unit {0})
  pub host : object.host ≡ option_map (λ p. p.host) opened.place
  pub what : object.what ≡ opened.what
  pub goes_on : (next : ℕ → Opened (Unit {0}) → Replying) → or_badf k fd next ≡ next object.number opened
