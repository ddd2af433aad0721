-- The passes, one binding after the other.
use Rattle.std.proofs.Common.{◌≡◌, List, [], ◌∷◌, ◌++◌, append-nil, append_assoc, Result, Ok, Err, IsErr, IsErrAnd, length, refl, ap, sym, subst, ◌∙◌, ℕ, arith}
use Rattle.kr_walk.specs.kr_tree.Tree.{Tree}
use Rattle.kr_walk.specs.kr_view.View.{Row}
use Rattle.kr_mounts.specs.MountTable.{Refusal, Settling, and_then}
use Rattle.kr_mounts.specs.Passes.{IsPlaced, IsSettled, IsTold}
use Rattle.kr_mounts.specs.declared.fault.BindFault.{BindFault}
use Rattle.kr_mounts.specs.declared.fault.BindWhy.{BindWhy}
use Rattle.kr_mounts.specs.declared.fault.BindFault.TheVariants.{Bad, NoMemory}
use Rattle.kr_mounts.specs.declared.mount.Mount.{Mount}

-- ---- errors that are handed on

pub same_error : {B E : Type 0} (r : Result B E) (e : E) → IsErr r → IsErrAnd r (λ f. f ≡ e) → r ≡ Err e
same_error (Ok x) e err same = absurd cc
same_error (Err f) e err same = ap Err same

pub nested : {A B C : Type 0} (r : Result A Refusal) (f : A → Result B Refusal) (g : B → Result C Refusal) → and_then (and_then r f) g ≡ and_then r (λ x. and_then (f x) g)
nested (Ok x) f g = refl
nested (Err e) f g = refl

module _ {A B : Type 0} (told : B → A) (fit : B → Type 0) (whole : Result A Refusal) where
  pub told_memory : (r : Result B BindFault) → IsErr r → IsErrAnd r (λ f. f ≡ NoMemory) → IsTold told fit whole r
  told_memory r err same = subst (IsTold told fit whole) (sym (same_error r NoMemory err same)) tt

  pub told_refused : (index : ℕ) (f : BindFault) (why : BindWhy) → f ≡ Bad index why → whole ≡ Err (record { index = index; why = why }) → IsTold told fit whole (Err f)
  told_refused index f why is h = subst (λ f. IsTold told fit whole (Err f)) (sym is) h

module _ {A B C D : Type 0} (told : B → A) (fit : B → Type 0) (whole : Result A Refusal) (told_part : D → C) (fit_part : D → Type 0) (part : Result C Refusal) (go : C → Result A Refusal) (is : whole ≡ and_then part go) where
  error_at : (e : BindFault) → IsTold told_part fit_part part (Err e) → IsTold told fit whole (Err e)
  error_at (Bad index why) h = is ∙ ap (λ p. and_then p go) h
  error_at NoMemory h = tt

  pub told_error : (e : BindFault) → IsTold told_part fit_part part (Err e) → (r : Result B BindFault) → IsErr r → IsErrAnd r (λ f. f ≡ e) → IsTold told fit whole r
  told_error e h r err same = subst (IsTold told fit whole) (sym (same_error r e err same)) (error_at e h)

  pub told_next : (x : D) → IsTold told_part fit_part part (Ok x) → whole ≡ go (told_part x)
  told_next x h = is ∙ ap (λ p. and_then p go) h.0

-- ---- one more behind those before

folded : {A : Type 0} (acc : List A) (one : A) (r : Result (List A) Refusal) → and_then (and_then r (λ more. Ok (one ∷ more))) (λ rest. Ok (acc ++ rest)) ≡ and_then r (λ rest. Ok ((acc ++ one ∷ []) ++ rest))
folded acc one (Ok more) = ap Ok (sym (append_assoc acc (one ∷ []) more))
folded acc one (Err e) = refl

module _ {A : Type 0} (whole : Result (List A) Refusal) (next : Result A Refusal) (rest : Result (List A) Refusal) (acc : List A)
    (is : whole ≡ and_then (and_then next (λ one. and_then rest (λ more. Ok (one ∷ more)))) (λ rest. Ok (acc ++ rest))) where
  pub one_more : (one : A) → next ≡ Ok one → whole ≡ and_then rest (λ rest. Ok ((acc ++ one ∷ []) ++ rest))
  one_more one answered =
      is ∙ ap (λ next. and_then (and_then next (λ one. and_then rest (λ more. Ok (one ∷ more)))) (λ rest. Ok (acc ++ rest))) answered ∙ folded acc one rest

  pub as_next : whole ≡ and_then next (λ one. and_then (and_then rest (λ more. Ok (one ∷ more))) (λ rest. Ok (acc ++ rest)))
  as_next = is ∙ nested next (λ one. and_then rest (λ more. Ok (one ∷ more))) (λ rest. Ok (acc ++ rest))

-- ---- mounts

pub settled_memory : (s : Settling) (new : Tree) (r : Result (List Mount) BindFault) → IsErr r → IsErrAnd r (λ f. f ≡ NoMemory) → IsSettled s new r
settled_memory s new r err same = subst (IsSettled s new) (sym (same_error r NoMemory err same)) tt

-- where one isn't placed nothing is settled
pub settled_error : (s : Settling) (step : (Tree → List Row → Settling) → Settling) (go : Tree → List Row → Settling) (new : Tree) (e : BindFault) → s ≡ step go → IsPlaced step new (Err e) → (r : Result (List Mount) BindFault) → IsErr r → IsErrAnd r (λ f. f ≡ e) → IsSettled s new r
settled_error s step go new e is placed r err same = subst (IsSettled s new) (sym (same_error r e err same)) (at e placed)
  where
    at : (e : BindFault) → IsPlaced step new (Err e) → IsSettled s new (Err e)
    at (Bad index why) h = let whole = is ∙ h go in (ap (λ (s : Settling). s.tree) whole, ap (λ (s : Settling). s.answer) whole)
    at NoMemory h = tt

-- ---- none before, and none behind

pub none_left : {A : Type 0} (xs : List A) → length xs ≡ 0 → xs ≡ []
none_left [] h = refl
none_left (x ∷ xs) h = absurd (omega arith)

pub none_before : {A : Type 0} (r : Result (List A) Refusal) → r ≡ and_then r (λ rest. Ok ([] ++ rest))
none_before (Ok xs) = refl
none_before (Err e) = refl

pub all_done : {A : Type 0} (whole : Result (List A) Refusal) (acc : List A) → whole ≡ and_then (Ok []) (λ rest. Ok (acc ++ rest)) → whole ≡ Ok acc
all_done whole acc is = is ∙ ap Ok (append-nil acc)
