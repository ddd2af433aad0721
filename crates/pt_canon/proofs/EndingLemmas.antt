-- Where walks end.
use Rattle.std.proofs.Common.{◌≡◌, ℕ, Bool, true, List, Some, Result, Ok, Err, ap, refl}
use Rattle.pt_bind.specs.pr_base.Paths.{text_of}
use Rattle.pt_bind.specs.pr_base.Texts.{Text}
use Rattle.pt_bind.specs.pr_base.WalkFrame.{Target}
use Rattle.pt_bind.specs.pr_base.declared.errno.Errno.{Errno}
use Rattle.pt_bind.specs.pr_base.declared.path.Last.TheVariants as last
use Rattle.pt_bind.specs.pr_base.declared.path.WalkMode.{WalkMode}
use Rattle.pt_bind.specs.pr_base.declared.path.WalkMode.TheVariants as modes
use Rattle.pt_bind.specs.Binding.{host_of, index_of}
use Rattle.pt_canon.specs.Canon.{canon_at, canon_result, ending_of}
use Rattle.pt_canon.specs.Laws.{AnswersAreOfTheirTexts}
use Rattle.pt_canon.specs.TextWalk.{text_walk}
use Rattle.pt_canon.specs.declared.canon.Canon.{Canon}

-- the ending at a name where something was found
pub named_ending : (mode : WalkMode) (dir at : Text) (name : List ℕ) (slash jumped : Bool)
    → record { guest = at; last = last.Name; slash = slash; exists = true } ≡ ending_of mode (record { dir = dir; name = name; last = last.Name; slash = slash; found = Some at; jumped = jumped })
named_ending modes.Look dir at name slash jumped = refl
named_ending modes.LookLink dir at name slash jumped = refl
named_ending modes.Name dir at name slash jumped = refl
named_ending modes.Open dir at name slash jumped = refl

pub answers_are_of_their_texts : AnswersAreOfTheirTexts
answers_are_of_their_texts texts mode base path c h = at (text_walk texts mode base path).answer h
  where
    at : (a : Result (Target Text Text) Errno) → canon_result texts.bindings mode a ≡ Ok c
        → (t : Text) × (c.guest ≡ text_of t) × (c.host ≡ text_of (host_of texts.bindings t)) × (c.index ≡ index_of texts.bindings t)
    at (Ok target) e =
        let is : c ≡ canon_at texts.bindings (ending_of mode target) = cc in
        ((ending_of mode target).guest, ap (λ (c : Canon). c.guest) is, ap (λ (c : Canon). c.host) is, ap (λ (c : Canon). c.index) is)
    at (Err x) e = absurd cc
