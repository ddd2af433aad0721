-- How the host names of directories hang together.
use Rattle.std.proofs.Common.{◌≡◌, inl, inr, ℕ, List, Option, Some, None, drop, IfSome, ◌∷◌, refl, sym, ap, ◌∙◌}
use Rattle.std.specs.Option.{option_map}
use Rattle.std.proofs.lemmas.Bool.{cases_eq}
use Rattle.kr_view.specs.kr_tree.pr_base.Paths.{AreNames}
use Rattle.kr_view.specs.kr_tree.Tree.{Tree, root, above}
use Rattle.kr_view.specs.kr_tree.Names.{host_name, HostNamesLead}
use Rattle.kr_view.specs.kr_tree.Lawful.{IsSound}
use Rattle.kr_view.proofs.kr_tree.NameLemmas.{host_name-of_root, host_name-entry, host_name-below, no_directory_name}
use Rattle.kr_walk.specs.HostNames.{NamesHangTogether}

-- the name behind the last one
dropped : (name : List ℕ) (text : Option (List (List ℕ))) → option_map (drop 1) (option_map (λ names. name ∷ names) text) ≡ text
dropped name None = refl
dropped name (Some names) = refl

module _ (t : Tree) (sound : IsSound t) (lead : HostNamesLead t) where
  -- above the root is the root
  root_above : (dir : ℕ) → above t root ≡ Some dir → dir ≡ root
  root_above dir h =
      let stands : above t root ≡ Some root = ap (option_map (λ s. s.inode)) sound.rooted in
      let same : Some root ≡ Some dir = sym stands ∙ h in
      cc

  up : (i dir : ℕ) → above t i ≡ Some dir → host_name t dir ≡ option_map (drop 1) (host_name t i)
  up i dir h = elim (cases_eq i root) [
    | inl e ↦
        let same : dir ≡ root = root_above dir (ap (above t) (sym e) ∙ h) in
        let none = host_name-of_root t sound in
        ap (host_name t) same ∙ none ∙ sym (ap (option_map (drop 1)) (ap (host_name t) e ∙ none))
    | inr away ↦
        let named = host_name-below t sound i dir away h in
        sym (ap (option_map (drop 1)) named.1 ∙ dropped named.0 (host_name t dir))
  ]

  names : (i : ℕ) (text : Option (List (List ℕ))) → host_name t i ≡ text → IfSome text AreNames
  names i None h = tt
  names i (Some text) h = (lead i text h).2

pub names_hang_together : (t : Tree) → IsSound t → HostNamesLead t → NamesHangTogether t
names_hang_together t sound lead = record {
  down = λ dir i name. host_name-entry t sound dir name i;
  up = up t sound lead;
  none = no_directory_name t sound;
  names = λ i. names t sound lead i (host_name t i) refl;
}
