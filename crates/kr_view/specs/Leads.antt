-- Places and leads with the numbers of their mounts.
use Rattle.std.specs.Prelude.{ℕ}
use Rattle.kr_tree.specs.declared.place.Place.{Place}
use Rattle.kr_view.specs.declared.procs.Lead.{Lead}
use Rattle.kr_view.specs.declared.procs.Lead.TheVariants.{Text, Jump, Nameless, NoLink}

abbrev pub numbered : {M : Type 0} → (M → ℕ) → Place M → Place ℕ
numbered number p = record { mount = number p.mount; host = p.host }

abbrev pub lead_numbered : {M : Type 0} → (M → ℕ) → Lead M → Lead ℕ
lead_numbered number (Text text) = Text text
lead_numbered number (Jump place dir name) = Jump (numbered number place) dir name
lead_numbered number Nameless = Nameless
lead_numbered number NoLink = NoLink
