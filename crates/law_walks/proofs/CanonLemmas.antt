-- What a tracer's walker answers is told by the target of the walk.
use Rattle.std.proofs.Common.{◌≡◌, ◌≢◌, ℕ, true, false, List, ◌∷◌, Option, Some, None, Ok, refl, ap, ◌∙◌}
use Rattle.std.specs.Prelude.{is_some}
use Rattle.std.specs.Option.{unwrap_or}
use Rattle.pt_canon.specs.pr_base.MountText.{MountText}
use Rattle.pt_canon.specs.pr_base.Texts.{Text}
use Rattle.pt_canon.specs.pr_base.WalkFrame.{Target, may_be_free}
use Rattle.pt_canon.specs.pr_base.declared.path.Last.{Last}
use Rattle.pt_canon.specs.pr_base.declared.path.Last.TheVariants as last
use Rattle.pt_canon.specs.pr_base.declared.path.WalkMode.{WalkMode}
use Rattle.pt_canon.proofs.pr_base.EndLemmas.{jump_is_shown}
use Rattle.pt_canon.specs.Canon.{canon_of, canon_result, entry_text, exists_there, found_entry, guest_text}
use Rattle.pt_canon.specs.TextWalk.{TextSurroundings, looking_texts, text_walk}
use Rattle.law_walks.specs.Answers.{AnswersTellTargets, canon_told}
use Rattle.law_walks.proofs.HandedLemmas.{text_target_named}

module _ (texts : TextSurroundings) (mode : WalkMode) (base : Text) (path : List ℕ) (b : Target Text Text) (ends : (text_walk texts mode base path).answer ≡ Ok b) where
  abbrev bindings : List MountText
  bindings = texts.bindings

  -- whatever the mode
  answered : canon_of texts mode base path ≡ Ok (canon_told bindings (guest_text (may_be_free mode) b) b (exists_there (may_be_free mode) b))
  answered = ap (canon_result bindings mode) ends

  looked : (u : Text) → may_be_free mode ≡ false → b.found ≡ Some u → canon_of texts mode base path ≡ Ok (canon_told bindings u b true)
  looked u free found = answered ∙ ap (λ f. Ok (canon_told bindings (guest_text f b) b (exists_there f b))) free ∙ ap (λ o. Ok (canon_told bindings (unwrap_or o b.dir) b true)) found

  by_last : (l : Last) → may_be_free mode ≡ true → b.last ≡ l → canon_of texts mode base path ≡ Ok (canon_told bindings (entry_text l b) b (found_entry l b))
  by_last l free is = answered ∙ ap (λ f. Ok (canon_told bindings (guest_text f b) b (exists_there f b))) free ∙ ap (λ l. Ok (canon_told bindings (entry_text l b) b (found_entry l b))) is

  landed : (u : Text) → may_be_free mode ≡ true → b.jumped ≡ true → b.found ≡ Some u → canon_of texts mode base path ≡ Ok (canon_told bindings u b true)
  landed u free jumped found =
      let s = jump_is_shown _ _ (looking_texts texts) mode base path b ends jumped in
      by_last last.Name free (ap (λ (t : Target Text Text). t.last) s.5) ∙ ap (λ o. Ok (canon_told bindings (unwrap_or o (b.name ∷ b.dir)) b (is_some o))) found

  named : may_be_free mode ≡ true → b.jumped ≡ false → b.last ≡ last.Name → canon_of texts mode base path ≡ Ok (canon_told bindings (b.name ∷ b.dir) b (is_some b.found))
  named free jumped is = by_last last.Name free is ∙ ap (λ guest. Ok (canon_told bindings guest b (is_some b.found))) (by b.found refl)
    where
      by : (o : Option Text) → b.found ≡ o → unwrap_or o (b.name ∷ b.dir) ≡ b.name ∷ b.dir
      by None found = refl
      by (Some u) found = text_target_named texts mode base path b u ends jumped is found

  other : may_be_free mode ≡ true → b.last ≢ last.Name → canon_of texts mode base path ≡ Ok (canon_told bindings b.dir b false)
  other free unnamed = by b.last refl
    where
      by : (l : Last) → b.last ≡ l → canon_of texts mode base path ≡ Ok (canon_told bindings b.dir b false)
      by last.Name is = absurd (unnamed is)
      by last.Dot is = by_last last.Dot free is
      by last.DotDot is = by_last last.DotDot free is
      by last.Root is = by_last last.Root free is

pub answers_tell_targets : AnswersTellTargets
answers_tell_targets texts mode base path b ends = record {
  looked = looked texts mode base path b ends;
  landed = landed texts mode base path b ends;
  named = named texts mode base path b ends;
  other = other texts mode base path b ends;
}
