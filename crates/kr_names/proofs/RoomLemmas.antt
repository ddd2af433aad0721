-- Whether there is room, by what a change of the tree answers.
use Rattle.std.proofs.Common.{◌≡◌, Bool, true, false, ◌&&◌, not, refl, sym, ap, ◌∙◌}
use Rattle.std.specs.Prelude.{◌↔◌, IsTrue, Result, Ok, Err}

module _ (P : Type 0) (big full : Bool) (small : big ≡ false) (when : P ↔ IsTrue (not big && full)) where
  pub is-full : P → full ≡ true
  is-full p = by full (ap (λ b. not b && full) (sym small) ∙ when.0 p)
    where
      by : (b : Bool) → b ≡ true → b ≡ true
      by b e = e

  pub has-room : (P → ⊥) → full ≡ false
  has-room none = by full refl
    where
      by : (b : Bool) → full ≡ b → b ≡ false
      by true e = absurd (none (when.1 (ap (λ b. not b && full) small ∙ e)))
      by false e = refl

pub ok-no-error : {X E : Type 0} (x : X) (e : E) → ◌≡◌ {A = Result X E} (Ok x) (Err e) → ⊥
ok-no-error x e h = cc
