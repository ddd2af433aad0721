-- The walk along a text on which no link stands.
use Rattle.std.proofs.Common.{◌≡◌, ℕ, Bool, false, List, [], ◌∷◌, ◌++◌, map, reverse, Some, Result, Ok, refl, ap, sym, ◌∙◌}
use Rattle.std.specs.Bool.{if◌then◌else◌}
use Rattle.pt_bind.specs.pr_base.Paths.{Component, Name, AreParts, components_of, has_slash, text_of}
use Rattle.pt_bind.specs.pr_base.Texts.{Text}
use Rattle.pt_bind.specs.pr_base.WalkFrame.{Leads, Target, Trail, ends, fails, here, most_links, target_at, wants_directory, walk_on}
use Rattle.pt_bind.specs.pr_base.WalkLaws.{last_trail, middle_trail}
use Rattle.pt_bind.specs.pr_base.declared.errno.Errno.{Errno}
use Rattle.pt_bind.specs.pr_base.declared.errno.Errno.TheVariants.{ENOTDIR}
use Rattle.pt_bind.specs.pr_base.declared.path.WalkMode.{WalkMode}
use Rattle.pt_bind.specs.pr_base.declared.path.WalkMode.TheVariants as modes
use Rattle.pt_bind.proofs.pr_base.PathLemmas.{names_onto, names_end, text_absolute, text_no_slash, texts_have_their_names}
use Rattle.pt_bind.proofs.pr_base.WalkLemmas.{walk-none, walk-last, walk-middle}
use Rattle.pt_canon.specs.Canon.{canon_at, canon_result, ending_of}
use Rattle.pt_canon.specs.Laws.{IsPlain, TextsLeadToThemselves}
use Rattle.pt_canon.specs.TextWalk.{TextSurroundings, look_text, looking_texts, text_walk}
use Rattle.pt_canon.specs.declared.ending.Ending.{Ending}
use Rattle.pt_canon.proofs.EndingLemmas.{named_ending}

module _ (texts : TextSurroundings) (mode : WalkMode) where
  abbrev answer_on : ℕ → Text → List Component → Bool → Result (Target Text Text) Errno
  answer_on left t cs slash = (walk_on (looking_texts texts) mode left t cs slash).answer

  -- behind a name that shows no link
  further : (left : ℕ) (t q found : Text) (c d : Component) (cs : List Component) (slash is_dir : Bool) → look_text texts t c ≡ Leads is_dir q found → answer_on left t (c ∷ d ∷ cs) slash ≡ answer_on left q (d ∷ cs) slash
  further left t q found c d cs slash is_dir e =
      ap (λ (trail : Trail Text Text). trail.answer) (walk-middle (looking_texts texts) mode left t c d cs slash)
      ∙ ap (λ s. (middle_trail (looking_texts texts) mode left t (d ∷ cs) slash s).answer) e

  -- along a text to what stands behind it
  along_text : (left : ℕ) (t : Text) (d : Component) (cs : List Component) (slash : Bool) → IsPlain texts t → answer_on left [] (map Name (reverse t) ++ d ∷ cs) slash ≡ answer_on left t (d ∷ cs) slash
  along_text left [] d cs slash plain = refl
  along_text left (name ∷ t) d cs slash plain =
      ap (λ cs. answer_on left [] cs slash) (names_onto t name (d ∷ cs))
      ∙ along_text left t (Name name) (d ∷ cs) slash plain.0
      ∙ further left t (name ∷ t) (name ∷ t) (Name name) d cs slash plain.1.0 plain.1.1

  unasked : (mode : WalkMode) → wants_directory mode false ≡ false
  unasked modes.Look = refl
  unasked modes.LookLink = refl
  unasked modes.Name = refl
  unasked modes.Open = refl

  at_name : (left : ℕ) (name : List ℕ) (t : Text) (is_dir : Bool) → look_text texts t (Name name) ≡ Leads is_dir (name ∷ t) (name ∷ t) → answer_on left t (Name name ∷ []) false ≡ Ok (target_at t (Name name) false (Some (name ∷ t)))
  at_name left name t is_dir e =
      ap (λ (trail : Trail Text Text). trail.answer) (walk-last (looking_texts texts) mode left t (Name name) false)
      ∙ ap (λ s. (last_trail (looking_texts texts) mode left t (Name name) false s).answer) e
      ∙ ap (λ b. (if b then (if is_dir then ends (target_at t (Name name) false (Some (name ∷ t))) else fails ENOTDIR) else ends (target_at t (Name name) false (Some (name ∷ t)))).answer) (unasked mode)

  begun : (base t : Text) → AreParts t → (text_walk texts mode base (text_of t)).answer ≡ answer_on most_links [] (map Name (reverse t)) false
  begun base t are =
      ap (λ b. answer_on most_links (if b then [] else base) (components_of (text_of t)) (has_slash (text_of t))) (text_absolute t)
      ∙ (λ i. answer_on most_links [] (texts_have_their_names t are i) (text_no_slash t are i))

  root_ending : (mode : WalkMode) → (ending_of mode (here (looking_texts texts) [] false)).guest ≡ []
  root_ending modes.Look = refl
  root_ending modes.LookLink = refl
  root_ending modes.Name = refl
  root_ending modes.Open = refl

  leads : (base t : Text) → AreParts t → IsPlain texts t → (target : Target Text Text) × ((text_walk texts mode base (text_of t)).answer ≡ Ok target) × ((ending_of mode target).guest ≡ t)
  leads base [] are plain =
      (here (looking_texts texts) [] false, begun base [] are ∙ ap (λ (trail : Trail Text Text). trail.answer) (walk-none (looking_texts texts) mode most_links [] false), root_ending mode)
  leads base (name ∷ t) are plain = (
    target_at t (Name name) false (Some (name ∷ t)),
    begun base (name ∷ t) are
        ∙ ap (λ cs. answer_on most_links [] cs false) (names_end t name)
        ∙ along_text most_links t (Name name) [] false plain.0
        ∙ at_name most_links name t plain.1.0 plain.1.1,
    sym (ap (λ (e : Ending). e.guest) (named_ending mode t (name ∷ t) name false false)),
  )

pub texts_lead_to_themselves : TextsLeadToThemselves
texts_lead_to_themselves texts mode base t are plain =
    let l = leads texts mode base t are plain in
    (canon_at texts.bindings (ending_of mode l.0), ap (canon_result texts.bindings mode) l.1, ap text_of l.2)
