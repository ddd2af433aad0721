-- Where a link of the process directory leads.
use Rattle.std.proofs.Common.{◌≡◌, ◌∙◌, Bool, true, false, Option, Some, None, refl, sym, subst}
use Rattle.std.specs.Option.{option_map, option_and_then}
use Rattle.pt_bind.specs.pr_base.Paths.{text_of}
use Rattle.pt_bind.specs.pr_base.Texts.{Text}
use Rattle.pt_bind.specs.pr_base.WalkFrame.{Landing}
use Rattle.pt_bind.proofs.pr_base.TextLemmas.{some_is}
use Rattle.pt_bind.specs.Binding.{host_of}
use Rattle.pt_canon.specs.ProcessLinks.{is_dir_kind, jump_at, landing_of, landing_of_guest, landing_of_name, link_at, link_guest, link_name, text_landing}
use Rattle.pt_canon.specs.TextWalk.{TextSurroundings}
use Rattle.pt_canon.specs.Looks.{led}
use Rattle.pt_canon.specs.declared.link.ProcessLink.{ProcessLink}

-- what is found there is its place, and whether that is a directory the kernel tells
module _ (texts : TextSurroundings) (l : Landing Text Text) where
  abbrev Shows : Landing Text Text → Type 0
  Shows l = (l.found ≡ l.place) × (l.is_dir ≡ is_dir_kind (texts.peeked.kind (text_of (host_of texts.bindings l.place))))

  is_landing : (d : Bool) (guest name : Text) → is_dir_kind (texts.peeked.kind (text_of (host_of texts.bindings guest))) ≡ d → Shows (text_landing d guest name)
  is_landing true guest name e = (refl, sym e)
  is_landing false guest name e = (refl, sym e)

  by_guest : (name : Text) (o : Option Text) → option_map (landing_of_guest texts.bindings texts.peeked name) o ≡ Some l → Shows l
  by_guest name None e = absurd cc
  by_guest name (Some guest) e = subst Shows (some_is _ l e) (is_landing (is_dir_kind (texts.peeked.kind (text_of (host_of texts.bindings guest)))) guest name refl)

  by_name : (link : ProcessLink) (o : Option Text) → option_and_then (landing_of_name texts.bindings texts.peeked texts.tags link) o ≡ Some l → Shows l
  by_name link None e = absurd cc
  by_name link (Some name) e = by_guest name (link_guest texts.bindings texts.tags link name) e

  of_link : (link : ProcessLink) → landing_of texts.bindings texts.peeked texts.tags link ≡ Some l → Shows l
  unfolding landing_of
  of_link link e = by_name link (link_name texts.peeked link) e

  by_link : (o : Option ProcessLink) → option_and_then (landing_of texts.bindings texts.peeked texts.tags) o ≡ Some l → Shows l
  by_link None e = absurd cc
  by_link (Some link) e = of_link link e

  pub jump_shows : (host : Text) → jump_at texts.bindings texts.peeked texts.tags host ≡ Some l → Shows l
  unfolding jump_at
  jump_shows host e = by_link (link_at host) e

-- ---- by its guest text

place_of_landing : (d : Bool) (guest name : Text) → (text_landing d guest name).place ≡ guest
place_of_landing true guest name = refl
place_of_landing false guest name = refl

led_by_guest : (texts : TextSurroundings) (name : Text) (o : Option Text) → o ≡ led (option_map (landing_of_guest texts.bindings texts.peeked name) o)
led_by_guest texts name None = refl
led_by_guest texts name (Some guest) = λ i. Some (sym (place_of_landing (is_dir_kind (texts.peeked.kind (text_of (host_of texts.bindings guest)))) guest name) i)

-- the link leads to the guest text by its tag
pub led_by_name : (texts : TextSurroundings) (link : ProcessLink) (name : Text) → link_name texts.peeked link ≡ Some name → link_guest texts.bindings texts.tags link name ≡ led (landing_of texts.bindings texts.peeked texts.tags link)
unfolding landing_of
led_by_name texts link name e =
    led_by_guest texts name (link_guest texts.bindings texts.tags link name) ∙ (λ i. led (option_and_then (landing_of_name texts.bindings texts.peeked texts.tags link) (sym e i)))

pub led_nowhere : (texts : TextSurroundings) (link : ProcessLink) → link_name texts.peeked link ≡ None → None ≡ led (landing_of texts.bindings texts.peeked texts.tags link)
unfolding landing_of
led_nowhere texts link e = λ i. led (option_and_then (landing_of_name texts.bindings texts.peeked texts.tags link) (sym e i))

pub led_by_link : (texts : TextSurroundings) (host : Text) (link : ProcessLink) → link_at host ≡ Some link → led (landing_of texts.bindings texts.peeked texts.tags link) ≡ led (jump_at texts.bindings texts.peeked texts.tags host)
unfolding jump_at
led_by_link texts host link e = λ i. led (option_and_then (landing_of texts.bindings texts.peeked texts.tags) (sym e i))

pub led_by_none : (texts : TextSurroundings) (host : Text) → link_at host ≡ None → None ≡ led (jump_at texts.bindings texts.peeked texts.tags host)
unfolding jump_at
led_by_none texts host e = λ i. led (option_and_then (landing_of texts.bindings texts.peeked texts.tags) (sym e i))
