-- Errors that are handed on.
use Rattle.std.proofs.Common.{◌≡◌, ℕ, List, Result, Err, IsErr, IsErrAnd, ap, sym, subst, ◌∙◌}
use Rattle.pt_bind.specs.pr_base.Texts.{Text}
use Rattle.kr_walk.specs.kr_tree.Tree.{Tree}
use Rattle.kr_walk.specs.kr_view.View.{Point}
use Rattle.kr_mounts.specs.MountTable.{Refusal, and_then, told}
use Rattle.kr_mounts.specs.Passes.{IsTold, fault_told}
use Rattle.kr_mounts.specs.Points.{Left}
use Rattle.kr_mounts.specs.Spots.{IsLocated, IsStepped}
use Rattle.kr_mounts.specs.Ways.{IsEnded, IsEntered, IsReached}
use Rattle.kr_mounts.specs.declared.fault.BindFault.{BindFault}
use Rattle.kr_mounts.specs.declared.fault.BindWhy.{BindWhy}
use Rattle.kr_mounts.specs.declared.location.Locating.{Locating}
use Rattle.kr_mounts.specs.declared.location.Step.{Step}
use Rattle.kr_mounts.specs.declared.location.Stop.{Stop}
use Rattle.kr_mounts.specs.declared.location.Stop.TheVariants as stop
use Rattle.kr_mounts.specs.declared.mount.MountPoint.{MountPoint}
use Rattle.kr_mounts.proofs.PassLemmas.{same_error}
use Rattle.kr_mounts.proofs.WayLemmas.{error_ends}

-- what holds of an error holds of what hands it on
pub error_is : {B E : Type 0} (P : Result B E → Type 0) (e : E) (r : Result B E) → P (Err e) → IsErr r → IsErrAnd r (λ f. f ≡ e) → P r
error_is P e r h err same = subst P (sym (same_error r e err same)) h

pub located_memory : (answer : Result Text BindWhy) (r : Result (List ℕ) Stop) → IsErr r → IsErrAnd r (λ f. f ≡ stop.NoMemory) → IsLocated answer r
located_memory answer r err same = error_is (IsLocated answer) stop.NoMemory r tt err same

pub located_error : (l : Locating) (left_answer answer : Result Text BindWhy) (left : ℕ) → left_answer ≡ answer → (e : Stop) → IsStepped l left_answer left (Err e) → (r : Result (List ℕ) Stop) → IsErr r → IsErrAnd r (λ f. f ≡ e) → IsLocated answer r
located_error l left_answer answer left is e stepped r err same = error_is (IsLocated answer) e r (at e stepped) err same
  where
    at : (e : Stop) → IsStepped l left_answer left (Err e) → IsLocated answer (Err e)
    at (stop.Bad why) h = h ∙ is
    at stop.NoMemory h = tt

pub stepped_memory : (l : Locating) (answer : Result Text BindWhy) (left : ℕ) (r : Result Step Stop) → IsErr r → IsErrAnd r (λ f. f ≡ stop.NoMemory) → IsStepped l answer left r
stepped_memory l answer left r err same = error_is (IsStepped l answer left) stop.NoMemory r tt err same

pub ended_memory : (left : Left Point) (new : Tree) (r : Result MountPoint Stop) → IsErr r → IsErrAnd r (λ f. f ≡ stop.NoMemory) → IsEnded left new r
ended_memory left new r err same = error_is (IsEnded left new) stop.NoMemory r tt err same

pub ended_error : (left : Left Point) (step : (Tree → ℕ → ℕ → Left Point) → Left Point) (go : Tree → ℕ → ℕ → Left Point) (new : Tree) (e : Stop) → left ≡ step go → IsEntered step new (Err e) → (r : Result MountPoint Stop) → IsErr r → IsErrAnd r (λ f. f ≡ e) → IsEnded left new r
ended_error left step go new e is entered r err same = error_is (IsEnded left new) e r (error_ends left step go new e is entered) err same

pub ended_short : (A : Type 0) (left : Left Point) (p : Point) (new : Tree) (e : Stop) → IsReached {A = A} left p new (Err e) → (r : Result MountPoint Stop) → IsErr r → IsErrAnd r (λ f. f ≡ e) → IsEnded left new r
ended_short A left p new e reached r err same = error_is (IsEnded left new) e r (at e reached) err same
  where
    at : (e : Stop) → IsReached {A = A} left p new (Err e) → IsEnded left new (Err e)
    at (stop.Bad why) h = h
    at stop.NoMemory h = tt

-- a location that isn't found refuses the binding
pub located_fault : {A B : Type 0} (told_it : B → A) (fit : B → Type 0) (whole : Result A Refusal) (index : ℕ) (answer : Result Text BindWhy) (go : Text → Result A Refusal) → whole ≡ and_then (told index answer) go
    → (e : Stop) → IsLocated answer (Err e) → (f : BindFault) → f ≡ fault_told index e → IsTold told_it fit whole (Err f)
located_fault told_it fit whole index answer go is e located f same = subst (λ f. IsTold told_it fit whole (Err f)) (sym same) (at e located)
  where
    at : (e : Stop) → IsLocated answer (Err e) → IsTold told_it fit whole (Err (fault_told index e))
    at (stop.Bad why) h = is ∙ ap (λ a. and_then (told index a) go) (sym h)
    at stop.NoMemory h = tt
