-- The sources of mounts have good names.
use Rattle.std.proofs.Common.{◌≡◌, ℕ, Bool, true, false, List, refl, subst, cond, Some, None, Option}
use Rattle.std.specs.Option.{option_and_then}
use Rattle.law_lawful.proofs.kr_tree.NameLemmas.{some_is}
use Rattle.law_lawful.specs.kr_view.View.{Row, row, source_entry}
use Rattle.law_lawful.specs.kr_model.Lawful.{IsNameOrNone}
use Rattle.law_allowed.specs.Told.{SettledAreNamed}

pub settled-are-named : SettledAreNamed
settled-are-named t table settled mount e is = by (row table mount) refl is
  where
    entered : (r : Row) → row table mount ≡ Some r → (b : Bool) → r.is_dir ≡ b → cond b None (Some (r.source_dir, r.source_name)) ≡ Some e → IsNameOrNone e.1
    entered r there true kind same = absurd cc
    entered r there false kind same = subst (λ (e : ℕ × List ℕ). IsNameOrNone e.1) (some_is (r.source_dir, r.source_name) e same) (λ some. settled.named mount r there kind)

    by : (o : Option Row) → row table mount ≡ o → option_and_then source_entry o ≡ Some e → IsNameOrNone e.1
    by None there same = absurd cc
    by (Some r) there same = entered r there r.is_dir refl same
