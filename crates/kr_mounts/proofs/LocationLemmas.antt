-- Walks along locations, one component after the other.
use Rattle.std.proofs.Common.{◌≡◌, ◌≢◌, ◌-◌, map, ℕ, Bool, true, false, not, ◌&&◌, ◌||◌, List, [], ◌∷◌, ◌++◌, append-nil, Some, Result, Err, refl, ap, sym, subst, ◌∙◌, All}
use Rattle.std.specs.Bool.{if◌then◌else◌}
use Rattle.pt_bind.specs.pr_base.Paths.{Component, IsComponent, component_of, components_of, has_parts, has_slash, is_absolute, parts_of}
use Rattle.pt_bind.specs.pr_base.Texts.{Text}
use Rattle.pt_bind.specs.pr_base.WalkFrame.{Looking, Trail, Fails, Links, begins_at, ends, fails, at_last, in_middle, onward, is_followed, target_at, wants_directory, ends_found, walk_on, most_links}
use Rattle.pt_bind.specs.pr_base.declared.errno.Errno.{Errno}
use Rattle.pt_bind.specs.pr_base.declared.errno.Errno.TheVariants.{ENOTDIR}
use Rattle.pt_bind.specs.pr_base.declared.path.WalkMode.{WalkMode}
use Rattle.std.proofs.lemmas.List.Elements.{All-head}
use Rattle.pt_bind.proofs.pr_base.PathLemmas.{paths_have_components}
use Rattle.pt_bind.proofs.pr_base.WalkLemmas.{walk-none, walk-last, walk-middle, onward-less, onward-none}
use Rattle.kr_mounts.specs.Locations.{Spot, alone, leads_to, located_at, locating, location_mode, location_of, location_walked}
use Rattle.kr_mounts.specs.Spots.{location_on}
use Rattle.kr_mounts.specs.declared.fault.BindWhy.{BindWhy}
use Rattle.kr_mounts.specs.declared.fault.BindWhy.TheVariants.{NoPoint}
use Rattle.kr_mounts.specs.declared.location.Locating.{Locating}

abbrev answer : Trail Spot Spot → Result Text BindWhy
answer trail = location_of trail.answer

-- the slash behind a link that is followed, by what is left behind it
abbrev slash_behind : List Component → Bool → List ℕ → Bool
slash_behind [] slash text = slash || has_slash text
slash_behind (c ∷ cs) slash text = slash

is_followed_unless : (keep slash : Bool) → (keep && not slash) ≡ false → is_followed (location_mode keep) slash ≡ true
is_followed_unless true true h = refl
is_followed_unless true false h = absurd cc
is_followed_unless false slash h = refl

-- ---- components

-- a component that was read is one
pub part_is : (path part : List ℕ) (rest : List (List ℕ)) → parts_of path ≡ part ∷ rest → IsComponent (component_of part)
part_is path part rest read =
    let all : All IsComponent (components_of path) = paths_have_components path in
    All-head IsComponent (component_of part) (map component_of rest) (subst (All IsComponent) (ap (map component_of) read) all)

-- ---- what is left behind a component

module _ (behind : List ℕ) (is_last : Bool) (is : is_last ≡ not (has_parts (parts_of behind))) where
  no_parts : (parts : List (List ℕ)) → not (has_parts parts) ≡ true → map component_of parts ≡ []
  no_parts [] h = refl
  no_parts (part ∷ parts) h = absurd cc

  has_none : (parts : List (List ℕ)) → map component_of parts ≡ [] → not (has_parts parts) ≡ true
  has_none [] h = refl
  has_none (part ∷ parts) h = absurd cc

  pub last_none : is_last ≡ true → components_of behind ≡ []
  last_none h = no_parts (parts_of behind) (sym is ∙ h)

  pub none_last : components_of behind ≡ [] → is_last ≡ true
  none_last h = is ∙ has_none (parts_of behind) h

-- ---- a walk from a spot

module _ (l : Locating) where
  abbrev L : Looking Spot Spot
  L = locating l.tree.now l.user (alone l.root)

  abbrev mode : WalkMode
  mode = location_mode l.keep

  pub ends_at : (left : ℕ) (s : Spot) (slash : Bool) → location_on l left s [] slash ≡ located_at s.text
  ends_at left s slash = ap answer (walk-none L mode left s slash)

  at_end : (s q : Spot) (c : Component) (slash : Bool) → answer (ends_found mode true (target_at s c slash (Some q))) ≡ located_at q.text
  at_end s q c slash =
      let t = target_at s c slash (Some q) in
      elim (wants_directory mode slash) as (λ b. answer (if b then (if true then ends t else fails ENOTDIR) else ends t) ≡ located_at q.text) [ true ↦ refl | false ↦ refl ]

  -- a component that is no link
  pub goes_on : (left : ℕ) (s q : Spot) (c : Component) (cs : List Component) (slash : Bool) → L.look s c ≡ leads_to q → location_on l left s (c ∷ cs) slash ≡ location_on l left q cs slash
  goes_on left s q c [] slash looked =
      ap answer (walk-last L mode left s c slash) ∙ ap (λ seen. answer (at_last L mode left (onward L mode left) s c slash seen)) looked
      ∙ at_end s q c slash ∙ sym (ends_at left q slash)
  goes_on left s q c (d ∷ ds) slash looked =
      ap answer (walk-middle L mode left s c d ds slash)
      ∙ ap (λ seen. answer (in_middle L left (onward L mode left) s (d ∷ ds) slash (λ q. walk_on L mode left q (d ∷ ds) slash) seen)) looked

  pub fails_at : (left : ℕ) (s : Spot) (e : Errno) (c : Component) (cs : List Component) (slash : Bool) → L.look s c ≡ Fails e → location_on l left s (c ∷ cs) slash ≡ Err NoPoint
  fails_at left s e c [] slash looked = ap answer (walk-last L mode left s c slash) ∙ ap (λ seen. answer (at_last L mode left (onward L mode left) s c slash seen)) looked
  fails_at left s e c (d ∷ ds) slash looked =
      ap answer (walk-middle L mode left s c d ds slash)
      ∙ ap (λ seen. answer (in_middle L left (onward L mode left) s (d ∷ ds) slash (λ q. walk_on L mode left q (d ∷ ds) slash) seen)) looked

  -- a last link that is kept
  pub kept_at : (left : ℕ) (s q : Spot) (c : Component) (slash : Bool) (text : List ℕ) → L.look s c ≡ Links q text → l.keep ≡ true → slash ≡ false → location_on l left s (c ∷ []) slash ≡ located_at q.text
  kept_at left s q c slash text looked keep none =
      let again = onward L mode left in
      let not_followed : is_followed mode slash ≡ false = ap (λ k. is_followed (location_mode k) slash) keep ∙ none in
      ap answer (walk-last L mode left s c slash) ∙ ap (λ seen. answer (at_last L mode left again s c slash seen)) looked
      ∙ ap (λ b. answer (if b then again (begins_at L s text) (components_of text) (slash || has_slash text) else ends (target_at s c slash (Some q)))) not_followed

  -- and another, which is followed
  linked : (left : ℕ) (s q : Spot) (c : Component) (cs : List Component) (slash : Bool) (text : List ℕ) → L.look s c ≡ Links q text → (cs ≡ [] → (l.keep && not slash) ≡ false)
      → location_on l left s (c ∷ cs) slash ≡ answer (onward L mode left (begins_at L s text) (components_of text ++ cs) (slash_behind cs slash text))
  linked left s q c [] slash text looked follows =
      let again = onward L mode left in
      let followed : is_followed mode slash ≡ true = is_followed_unless l.keep slash (follows refl) in
      ap answer (walk-last L mode left s c slash) ∙ ap (λ seen. answer (at_last L mode left again s c slash seen)) looked
      ∙ ap (λ b. answer (if b then again (begins_at L s text) (components_of text) (slash || has_slash text) else ends (target_at s c slash (Some q)))) followed
      ∙ ap (λ cs. answer (again (begins_at L s text) cs (slash || has_slash text))) (sym (append-nil (components_of text)))
  linked left s q c (d ∷ ds) slash text looked follows =
      ap answer (walk-middle L mode left s c d ds slash)
      ∙ ap (λ seen. answer (in_middle L left (onward L mode left) s (d ∷ ds) slash (λ q. walk_on L mode left q (d ∷ ds) slash) seen)) looked

  pub loops_at : (left : ℕ) (s q : Spot) (c : Component) (cs : List Component) (slash : Bool) (text : List ℕ) → L.look s c ≡ Links q text → (cs ≡ [] → (l.keep && not slash) ≡ false) → left ≡ 0
      → location_on l left s (c ∷ cs) slash ≡ Err NoPoint
  loops_at left s q c cs slash text looked follows none =
      linked left s q c cs slash text looked follows ∙ ap answer (onward-none L mode left (begins_at L s text) (components_of text ++ cs) (slash_behind cs slash text) none)

  pub follows_at : (left : ℕ) (s q : Spot) (c : Component) (cs : List Component) (slash behind : Bool) (text : List ℕ) → L.look s c ≡ Links q text → (cs ≡ [] → (l.keep && not slash) ≡ false) → left ≢ 0
      → (cs ≡ [] → behind ≡ (slash || has_slash text)) → (cs ≢ [] → behind ≡ slash)
      → location_on l left s (c ∷ cs) slash ≡ location_on l (left - 1) (begins_at L s text) (components_of text ++ cs) behind
  follows_at left s q c cs slash behind text looked follows some last middle =
      linked left s q c cs slash text looked follows
      ∙ ap answer (onward-less L mode left (begins_at L s text) (components_of text ++ cs) (slash_behind cs slash text) some)
      ∙ ap (λ b. location_on l (left - 1) (begins_at L s text) (components_of text ++ cs) b) (sym (slashed cs last middle))
    where
      slashed : (cs : List Component) → (cs ≡ [] → behind ≡ (slash || has_slash text)) → (cs ≢ [] → behind ≡ slash) → behind ≡ slash_behind cs slash text
      slashed [] last middle = last refl
      slashed (c ∷ cs) last middle = middle (λ e. absurd cc)

  -- the whole walk
  pub location_begins : (path : List ℕ) → location_walked l.tree.now l.user l.root l.keep path ≡ location_on l most_links L.root (components_of path) (has_slash path)
  location_begins path =
      elim (is_absolute path) as (λ b. answer (walk_on L mode most_links (if b then L.root else L.root) (components_of path) (has_slash path)) ≡ location_on l most_links L.root (components_of path) (has_slash path)) [ true ↦ refl | false ↦ refl ]

-- ---- at a link, by the tests of the code

both_of : (a b : Bool) → (a && b) ≡ true → (a ≡ true) × (b ≡ true)
both_of true true h = (refl, refl)
both_of true false h = absurd cc
both_of false b h = absurd cc

second_of : (a b : Bool) → a ≡ true → (a && b) ≡ false → b ≡ false
second_of true b h k = k
second_of false b h k = absurd cc

false_of : (b : Bool) → not b ≡ true → b ≡ false
false_of true h = absurd cc
false_of false h = refl

module _ (l : Locating) (left : ℕ) (s : Spot) (c : Component) (behind text : List ℕ) (slash is_last stays : Bool) (q : Spot) (looked : (locating l.tree.now l.user (alone l.root)).look s c ≡ Links q text)
    (is : is_last ≡ not (has_parts (parts_of behind))) (tested : stays ≡ (is_last && (l.keep && not slash))) where
  pub link_stays : stays ≡ true → located_at q.text ≡ location_on l left s (c ∷ components_of behind) slash
  link_stays h =
      let one = both_of is_last (l.keep && not slash) (sym tested ∙ h) in
      let two = both_of l.keep (not slash) one.1 in
      sym (ap (λ cs. location_on l left s (c ∷ cs) slash) (last_none behind is_last is one.0) ∙ kept_at l left s q c slash text looked two.0 (false_of slash two.1))

  follows : stays ≡ false → components_of behind ≡ [] → (l.keep && not slash) ≡ false
  follows h none = second_of is_last (l.keep && not slash) (none_last behind is_last is none) (sym tested ∙ h)

  pub link_loops : stays ≡ false → left ≡ 0 → Err NoPoint ≡ location_on l left s (c ∷ components_of behind) slash
  link_loops h none = sym (loops_at l left s q c (components_of behind) slash text looked (follows h) none)

  pub link_goes : stays ≡ false → left ≢ 0 → (slashed : Bool) → slashed ≡ (slash || (is_last && has_slash text))
      → location_on l (left - 1) (begins_at (locating l.tree.now l.user (alone l.root)) s text) (components_of text ++ components_of behind) slashed ≡ location_on l left s (c ∷ components_of behind) slash
  link_goes h some slashed e =
      sym (follows_at l left s q c (components_of behind) slash slashed text looked (follows h) some
      (λ none. e ∙ ap (λ b. slash || (b && has_slash text)) (none_last behind is_last is none))
      (λ more. e ∙ other is_last refl more))
    where
      or_false : (b : Bool) → (b || false) ≡ b
      or_false true = refl
      or_false false = refl

      other : (b : Bool) → is_last ≡ b → components_of behind ≢ [] → (slash || (is_last && has_slash text)) ≡ slash
      other true h more = absurd (more (last_none behind is_last is h))
      other false h more = ap (λ b. slash || (b && has_slash text)) h ∙ or_false slash
