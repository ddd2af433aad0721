-- What a call alters, told ahead by what is open under its descriptor and by what its paths lead to.
use Rattle.std.proofs.Common.{◌≡◌, ℕ, ℤ, Bool, false, List, Option, Some, None, refl, sym, ap, ◌∙◌}
use Rattle.std.specs.Option.{option_and_then, option_map, option_map_or}
use Rattle.std.proofs.lemmas.Option.{none-some, same_Some}
use Rattle.law_allowed.specs.pr_base.declared.errno.Errno.TheVariants.{ENOENT}
use Rattle.law_allowed.specs.kr_tree.Tree.{Tree}
use Rattle.law_allowed.specs.kr_tree.declared.place.Host.{Host}
use Rattle.law_allowed.specs.kr_tree.declared.place.Place.{Place}
use Rattle.law_allowed.specs.kr_files.declared.opened.Opened.{Opened}
use Rattle.law_allowed.specs.kr_view.Leads.{numbered}
use Rattle.law_allowed.specs.kr_view.View.{Row}
use Rattle.law_allowed.specs.kr_view.declared.target.Target.{Target}
use Rattle.law_allowed.specs.kr_model.Asking.{descriptor_number}
use Rattle.law_allowed.specs.kr_model.Known.{Known}
use Rattle.law_allowed.specs.kr_model.Seen.{LooksUp, NoPath, Opening, Seen, WalkFails}
use Rattle.law_allowed.specs.kr_model.State.{Image, State}
use Rattle.law_allowed.specs.kr_model.Walks.{looked_at, looks_up, moved_at, of_one, of_two, opened_at, taken_at}
use Rattle.law_steady.specs.Ahead.{of_open, of_place, rename_alters, seen_looked, seen_moved, seen_opening}
use Rattle.kr_attributes.proofs.FoundLemmas.{of-object}
use Rattle.kr_transfer.specs.Channels.{channel_of, channel_under}
use Rattle.kr_transfer.specs.declared.channel.Channel.{Channel}
use Rattle.kr_transfer.specs.kr_seen.Numbered.{state_numbered}
use Rattle.kr_transfer.specs.kr_seen.Placed.{placed_in}
use Rattle.kr_perform.specs.Operating.{placed_targets}

-- ---- descriptors

module _ (k : Known) (fd : ℤ) (test : Opened (Unit {0}) → Bool) where
  pub closed-tells : channel_of k fd ≡ None → false ≡ of_open k fd test
  closed-tells e = by (descriptor_number fd) e
    where
      there : (n : ℕ) (q : Option (Opened (Unit {0}))) → option_map (channel_under n) q ≡ None → false ≡ option_map_or test q false
      there n None e = refl
      there n (Some o) e = absurd (none-some (channel_under n o) (sym e))

      by : (d : Option ℕ) → option_and_then (λ n. option_map (channel_under n) (k.opened n)) d ≡ None → false ≡ option_map_or test (option_and_then k.opened d) false
      by None e = refl
      by (Some n) e = there n (k.opened n) e

  pub open-tells : (c : Channel) → channel_of k fd ≡ Some c → (o : Opened (Unit {0})) × (c ≡ channel_under c.fd o) × (test o ≡ of_open k fd test)
  open-tells c e = by (descriptor_number fd) e
    where
      there : (n : ℕ) (q : Option (Opened (Unit {0}))) → option_map (channel_under n) q ≡ Some c → (o : Opened (Unit {0})) × (c ≡ channel_under c.fd o) × (test o ≡ option_map_or test q false)
      there n None e = absurd (none-some c e)
      there n (Some o) e =
          let same : channel_under n o ≡ c = same_Some (channel_under n o) c e in
          let own : n ≡ c.fd = ap (λ (c : Channel). c.fd) same in
          (o, sym same ∙ ap (λ x. channel_under x o) own, refl)

      by : (d : Option ℕ) → option_and_then (λ n. option_map (channel_under n) (k.opened n)) d ≡ Some c
          → (o : Opened (Unit {0})) × (c ≡ channel_under c.fd o) × (test o ≡ option_map_or test (option_and_then k.opened d) false)
      by None e = absurd (none-some c e)
      by (Some n) e = there n (k.opened n) e

-- of what has a place
pub host-tells : (k : Known) (fd : ℤ) (c : Channel) → channel_of k fd ≡ Some c → (test : Host → Bool) → option_map_or test c.host false ≡ of_open k fd (of_place test)
host-tells k fd c e test =
    let told = open-tells k fd (of_place test) c e in
    ap (λ (c : Channel). option_map_or test c.host false) told.1 ∙ sym (of-object told.0.place test false) ∙ told.2

-- ---- paths

module _ {T : Type 0} (number : T → ℕ) (table : List Row) (pid : ℕ) (s : State T Image) where
  abbrev n : State ℕ Image
  n = state_numbered number s

  -- what is looked up

  module _ (test : Host → Bool) (first second : Option (Target T)) where
    abbrev looked_in : Option (Target T) → Bool
    looked_in o = seen_looked test (looks_up table pid n (placed_targets number o second))

    pub looks-nowhere : first ≡ None → false ≡ looked_in first
    looks-nowhere e = sym (ap looked_in e)

    module _ (target : Target T) (there : first ≡ Some target) where
      abbrev found_in : Option (Place T) → Bool
      found_in o = seen_looked test (option_map_or (λ p. LooksUp (looked_at table pid n (placed_in number target) p)) (option_map (numbered number) o) (WalkFails ENOENT))

      pub looks-free : target.found ≡ None → false ≡ looked_in first
      looks-free e = sym (ap looked_in there ∙ ap found_in e)

      pub looks-at : (place : Place T) → target.found ≡ Some place → test place.host ≡ looked_in first
      looks-at place e = sym (ap looked_in there ∙ ap found_in e)

  -- what is opened

  module _ (test : Opening → Bool) (flags : ℕ) (first second : Option (Target T)) where
    abbrev opened_in : Option (Target T) → Bool
    opened_in o = seen_opening test (of_one (placed_targets number o second) (opened_at table pid n flags))

    pub opens-nowhere : first ≡ None → false ≡ opened_in first
    opens-nowhere e = sym (ap opened_in e)

    pub opens-at : (target : Target T) → first ≡ Some target → (seen : Seen) → seen ≡ opened_at table pid n flags (placed_in number target) → seen_opening test seen ≡ opened_in first
    opens-at target there seen is = ap (seen_opening test) is ∙ sym (ap opened_in there)

  -- what is moved

  module _ (t : Tree) (first second : Option (Target T)) where
    abbrev moved_in : Option (Target T) → Option (Target T) → Bool
    moved_in o q = seen_moved t (of_two (placed_targets number o q) (moved_at table pid n))

    pub moves-nothing : first ≡ None → false ≡ moved_in first second
    moves-nothing e = sym (ap (λ o. moved_in o second) e)

    module _ (old : Target T) (from : first ≡ Some old) where
      pub moves-nowhere : second ≡ None → false ≡ moved_in first second
      moves-nowhere e = sym (ap (λ o. moved_in o second) from ∙ ap (moved_in (Some old)) e)

      pub moves-to : (new : Target T) → second ≡ Some new → rename_alters t (taken_at table pid n (placed_in number old)) (taken_at table pid n (placed_in number new)) ≡ moved_in first second
      moves-to new to = sym (ap (λ o. moved_in o second) from ∙ ap (moved_in (Some old)) to)
