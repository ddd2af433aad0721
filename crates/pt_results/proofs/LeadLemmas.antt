-- A link of the process directory, followed from its directory.
use Rattle.std.proofs.Common.{◌≡◌, ℕ, true, false, List, [], ◌∷◌, Some, None, refl, ap, ◌∙◌}
use Rattle.std.specs.Bool.{if◌then◌else◌}
use Rattle.pt_args.specs.pr_base.Paths.{IsPart, Name}
use Rattle.pt_args.specs.pr_base.Texts.{Text}
use Rattle.pt_args.specs.pr_base.WalkFrame.{Jumps, Looking, Trail, after_look, at_last, begins_at, landed, most_links, onward, walk_on}
use Rattle.pt_args.specs.pr_base.declared.path.WalkMode.TheVariants as mode
use Rattle.pt_args.proofs.pr_base.PathLemmas.{part_components, part_no_slash, part_relative}
use Rattle.pt_args.proofs.pr_base.WalkLemmas.{walk-last}
use Rattle.pt_args.specs.pt_canon.Canon.{canon_at, canon_result, ending_of}
use Rattle.pt_args.specs.pt_canon.TextWalk.{SeenText, TextSurroundings, look_text, looking_texts, text_walk}
use Rattle.pt_results.specs.Laws.{LinksLeadByTags}

module _ (texts : TextSurroundings) (dir : Text) (name : List ℕ) (is : IsPart name) where
  abbrev looking : Looking Text Text
  looking = looking_texts texts

  begins : begins_at looking dir name ≡ dir
  begins = ap (λ b. if b then looking.root else dir) (part_relative name is)

  -- the walk looks at the name alone
  alone : text_walk texts mode.Look dir name ≡ walk_on looking mode.Look most_links dir (Name name ∷ []) false
  alone = λ i. walk_on looking mode.Look most_links (begins i) (part_components name is i) (part_no_slash name is i)

  shown : (seen : SeenText) → look_text texts dir (Name name) ≡ seen
      → (text_walk texts mode.Look dir name).answer ≡ (at_last looking mode.Look most_links (onward looking mode.Look most_links) dir (Name name) false seen).answer
  shown seen e =
      ap (λ (t : Trail Text Text). t.answer)
      (alone ∙ walk-last looking mode.Look most_links dir (Name name) false
      ∙ ap (λ s. after_look (record { place = dir; component = Name name; is_last = true }) (at_last looking mode.Look most_links (onward looking mode.Look most_links) dir (Name name) false s)) e)

pub links_lead_by_tags : LinksLeadByTags
links_lead_by_tags texts dir name link is = record {
  somewhere = λ l e. (canon_at texts.bindings (ending_of mode.Look (landed l false)), ap (canon_result texts.bindings mode.Look) (shown texts dir name is (Jumps link (Some l)) e), refl);
  nowhere = λ e. ap (canon_result texts.bindings mode.Look) (shown texts dir name is (Jumps link None) e);
}
