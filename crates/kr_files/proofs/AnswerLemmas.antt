-- Facts about what was answered.
use Rattle.std.proofs.Common.{◌≡◌, true, false, sym}
use Rattle.std.proofs.lemmas.Bool.{false≢true}
use Rattle.std.specs.Prelude.{Result, Ok, Err, is_err, IsErr, OnOk, OnErr, IfOk}

module _ {A E : Type 0} where
  -- a fact that holds whatever was answered holds where the answer is an error
  pub on_error : (r : Result A E) (P : Type 0) → P → OnErr r P
  on_error (Ok x) P p = tt
  on_error (Err e) P p = p

  pub on_ok_map : (r : Result A E) (P Q : Type 0) → (P → Q) → OnOk r P → OnOk r Q
  on_ok_map (Ok x) P Q f p = f p
  on_ok_map (Err e) P Q f p = tt

  pub on_error_map : (r : Result A E) (P Q : Type 0) → (P → Q) → OnErr r P → OnErr r Q
  on_error_map (Ok x) P Q f p = tt
  on_error_map (Err e) P Q f p = f p

  pub if_ok_map : (r : Result A E) (P Q : A → Type 0) → ((x : A) → P x → Q x) → IfOk r P → IfOk r Q
  if_ok_map (Ok x) P Q f p = f x p
  if_ok_map (Err e) P Q f p = tt

  pub ok_of : (r : Result A E) (P : Type 0) → is_err r ≡ false → OnOk r P → P
  ok_of (Ok x) P h p = p
  ok_of (Err e) P h p = absurd (false≢true (sym h))

  -- an error isn't an answer that is Ok
  pub error_not_ok : (r : Result A E) (x : A) → IsErr r → r ≡ Ok x → ⊥
  error_not_ok (Ok y) x h e = absurd (false≢true h)
  error_not_ok (Err f) x h e = absurd (cc)

  pub error_of : (r : Result A E) (P : Type 0) → is_err r ≡ true → OnErr r P → P
  error_of (Ok x) P h p = absurd (false≢true h)
  error_of (Err e) P h p = p
