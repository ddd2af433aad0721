-- The death of a process in two states that match.
use Rattle.std.proofs.Common.{◌≡◌, ℕ, Bool, true, false, cond, [], ◌∷◌, Option, Some, None, refl, sym, subst}
use Rattle.std.specs.Prelude.{IsSome}
use Rattle.law_places.specs.kr_calm.Rules.{breaks_6, changes_break_3, changes_break_4, changes_break_5}
use Rattle.law_places.specs.kr_model.Applied.{images}
use Rattle.law_places.specs.kr_model.Change.{End}
use Rattle.law_places.specs.kr_model.State.{Image, Process, process}
use Rattle.kr_core.specs.kr_turns.Breaking.{no_mounts, nothing_reached}
use Rattle.law_turns.specs.Changing.{DeathsKeepMatches}
use Rattle.law_turns.proofs.KeepLemmas.{changes_keep_matches}
use Rattle.law_turns.proofs.RunLemmas.{lives_too}
use Rattle.law_places.specs.kr_calm.declared.rule.Rule.{Rule}
use Rattle.law_places.specs.kr_calm.declared.rule.Rule.TheVariants.{SearchStays, ShortNames, SourcesStay, Unread, UsedStay}

-- of the rules in their order none is broken
pub none_broken : (first third fourth fifth sixth : Bool)
    → cond {A = Option Rule} first (Some Unread) (cond third (Some SourcesStay) (cond fourth (Some UsedStay) (cond fifth (Some SearchStays) (cond sixth (Some ShortNames) None)))) ≡ None → (first ≡ false) × (third ≡ false) × (fourth ≡ false) × (fifth ≡ false)
none_broken false false false false sixth e = (refl, refl, refl, refl)
none_broken true third fourth fifth sixth e = absurd (never e)
  where
    never : {A : Type 0} {a : A} → Some a ≡ None → ⊥
    never e = cc
none_broken false true fourth fifth sixth e = absurd (never e)
  where
    never : {A : Type 0} {a : A} → Some a ≡ None → ⊥
    never e = cc
none_broken false false true fifth sixth e = absurd (never e)
  where
    never : {A : Type 0} {a : A} → Some a ≡ None → ⊥
    never e = cc
none_broken false false false true sixth e = absurd (never e)
  where
    never : {A : Type 0} {a : A} → Some a ≡ None → ⊥
    never e = cc

pub deaths_keep_matches : DeathsKeepMatches
deaths_keep_matches table pid signal s w tags lives calm lawful m =
    let none = none_broken _ (changes_break_3 images no_mounts pid table (End signal ∷ []) s) (changes_break_4 images no_mounts pid (End signal ∷ []) s) (changes_break_5 images no_mounts pid table (End signal ∷ []) s) (breaks_6 nothing_reached) calm in
    changes_keep_matches table no_mounts no_mounts pid (End signal ∷ []) s w tags refl refl (record { third = none.1; fourth = none.2; fifth = none.3 }) (tt, tt) (lives, lives, tt) (also, also, tt) lawful m
  where
    also : IsSome (process pid w)
    also = by (process pid s) refl lives
      where
        by : (o : Option (Process ℕ Image)) → process pid s ≡ o → IsSome o → IsSome (process pid w)
        by None none some = absurd (differ some)
          where
            differ : false ≡ true → ⊥
            differ e = cc
        by (Some p) there some = let q = lives_too table tags pid s w p m there in subst IsSome (sym q.1) refl
