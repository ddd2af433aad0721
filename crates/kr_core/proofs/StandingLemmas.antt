-- What holds of the processes that stand between their stops lasts through a step of one of them.
use Rattle.std.proofs.Common.{◌≡◌, ℕ, Bool, true, false, List, [], Option, Some, None, eq-eqb, refl, sym, ap, subst, ◌∙◌}
use Rattle.std.specs.Prelude.{◌==◌, IsSome}
use Rattle.std.specs.Option.{option_map_or}
use Rattle.kr_first.specs.law_allowed.Others.{Own}
use Rattle.kr_turns.specs.kr_model.State.{Image, Process, State, process}
use Rattle.kr_turns.specs.Making.{LeavesOthers, StaysBetween}
use Rattle.kr_turns.specs.kr_stops.Remembering.{KeepsOthersFree, can_alter_shape}
use Rattle.kr_turns.specs.kr_stops.Stopped.{image_in, no_image}
use Rattle.kr_turns.specs.declared.steps.After.{After}
use Rattle.kr_turns.specs.declared.steps.After.TheVariants as after
use Rattle.kr_turns.specs.declared.steps.Halt.{Halt}
use Rattle.kr_turns.specs.declared.steps.Halt.TheVariants as halt
use Rattle.kr_turns.proofs.law_lawful.AfterLemmas.{some-of}
use Rattle.kr_turns.proofs.law_lawful.SumLemmas.{passed-test}
use Rattle.kr_core.specs.Between.{between_of, paused_at, unpaused}
use Rattle.kr_core.specs.Moving.{paused_after, paused_by}
use Rattle.kr_core.specs.Standing.{AreStanding, IsFreedFor, IsStanding}
use Rattle.kr_core.specs.declared.paused.Begun.{Begun}
use Rattle.kr_core.specs.declared.paused.Between.{Between}
use Rattle.kr_core.specs.declared.paused.Between.TheVariants.{AtCall, Done, Entered}
use Rattle.kr_core.specs.declared.paused.Paused.{Paused}
use Rattle.kr_core.proofs.PausedLemmas.{paused-other, paused-own, run-other, run-own}

-- where none is paused
pub none-standing : {S : Type 0} (is_free : S → ℕ → Type 0) (x : S) (s : State ℕ Image) (paused : List Paused) → paused ≡ [] → AreStanding is_free x s paused
none-standing is_free x s paused none = record { each = λ q between at. absurd (let no : None ≡ Some between = sym (ap (between_of q) none) ∙ at in cc) }

-- where each process is the same
module _ {S : Type 0} (is_free : S → ℕ → Type 0) (x : S) (s t : State ℕ Image) (same : (q : ℕ) → process q t ≡ process q s) where
  freed-same : (q : ℕ) (between : Between) → IsFreedFor is_free x s q between → IsFreedFor is_free x t q between
  freed-same q AtCall freed = tt
  freed-same q (Entered begun) freed = record {
    frees = λ alters. freed.frees (ap (λ (o : Option (Process ℕ Image)). can_alter_shape (option_map_or (λ p. p.image) o no_image).regs) (sym (same q)) ∙ alters);
  }
  freed-same q (Done handed) freed = tt

  pub stand-same : (paused : List Paused) → AreStanding is_free x s paused → AreStanding is_free x t paused
  stand-same paused standing = record {
    each = λ q between at.
        let stood = standing.each q between at in
        record { lives = subst IsSome (sym (same q)) stood.lives; freed = freed-same q between stood.freed };
  }

same-between : (a b : Between) → ◌≡◌ {A = Option Between} (Some a) (Some b) → a ≡ b
same-between a b e = cc

module _ {S : Type 0} (is_free : S → ℕ → Type 0) (x y : S) (s t : State ℕ Image) (pid : ℕ) (apart : LeavesOthers pid s t) (keeps : KeepsOthersFree is_free pid x y) where
  -- ---- another process

  image-other : (q : ℕ) → (q ≡ pid → ⊥) → IsSome (process q s) → image_in q t ≡ image_in q s
  image-other q other lives =
      let own = some-of (process q s) lives in
      let later = apart.others q other own.0 own.1 in
      ap (λ (o : Option (Process ℕ Image)). option_map_or (λ p. p.image) o no_image) later.1
      ∙ ap (λ (o : Own ℕ Image). o.image) later.2
      ∙ sym (ap (λ (o : Option (Process ℕ Image)). option_map_or (λ p. p.image) o no_image) own.1)

  freed-other : (q : ℕ) → (q ≡ pid → ⊥) → IsSome (process q s) → (between : Between) → IsFreedFor is_free x s q between → IsFreedFor is_free y t q between
  freed-other q other lives AtCall freed = tt
  freed-other q other lives (Entered begun) freed = record {
    frees = λ alters. keeps.keeps q other (freed.frees (ap (λ (i : Image). can_alter_shape i.regs) (sym (image-other q other lives)) ∙ alters));
  }
  freed-other q other lives (Done handed) freed = tt

  standing-other : (q : ℕ) → (q ≡ pid → ⊥) → (between : Between) → IsStanding is_free x s q between → IsStanding is_free y t q between
  standing-other q other between stood =
      let own = some-of (process q s) stood.lives in
      record {
        lives = subst IsSome (sym (apart.others q other own.0 own.1).1) refl;
        freed = freed-other q other stood.lives between stood.freed;
      }

  -- ---- all of them, by what becomes of the one

  stand-on : (old new : List Paused) → ((q : ℕ) → (q ≡ pid → ⊥) → between_of q new ≡ between_of q old) → ((between : Between) → between_of pid new ≡ Some between → IsStanding is_free y t pid between)
      → AreStanding is_free x s old → AreStanding is_free y t new
  stand-on old new others own standing = record { each = λ q between at. by q between at (q == pid) refl }
    where
      by : (q : ℕ) (between : Between) → between_of q new ≡ Some between → (b : Bool) → (q == pid) ≡ b → IsStanding is_free y t q between
      by q between at true is =
          let same = passed-test q pid is in
          subst (λ n. IsStanding is_free y t n between) (sym same) (own between (subst (λ n. between_of n new ≡ Some between) same at))
      by q between at false is =
          let other = λ (same : q ≡ pid). (let no : false ≡ true = sym is ∙ eq-eqb q pid same in absurd cc) in
          standing-other q other between (standing.each q between (sym (others q other) ∙ at))

  module _ (old : List Paused) (standing : AreStanding is_free x s old) where
    -- it is paused elsewhere
    pub stand-paused : (between : Between) → IsStanding is_free y t pid between → AreStanding is_free y t (paused_at pid between old)
    stand-paused between stood =
        stand-on old (paused_at pid between old) (paused-other pid old between)
        (λ other at. subst (IsStanding is_free y t pid) (same-between between other (sym (paused-own pid old between) ∙ at)) stood) standing

    -- it runs
    pub stand-run : AreStanding is_free y t (unpaused pid old)
    stand-run = stand-on old (unpaused pid old) (run-other pid old) (λ between at. absurd (let no : None ≡ Some between = sym (run-own pid old) ∙ at in cc)) standing

    -- it ran before, and isn't paused
    stand-still : between_of pid old ≡ None → AreStanding is_free y t old
    stand-still ran = stand-on old old (λ q other. refl) (λ between at. absurd (let no : None ≡ Some between = sym ran ∙ at in cc)) standing

    -- instructions
    pub stand-halted : between_of pid old ≡ None → (told : Halt) → (told ≡ halt.AtCall → IsSome (process pid t)) → AreStanding is_free y t (paused_by pid told old)
    stand-halted ran halt.Spent lives = stand-still ran
    stand-halted ran halt.AtCall lives = stand-paused AtCall (record { lives = lives refl; freed = tt })
    stand-halted ran (halt.Killed status) lives = stand-still ran

    -- a call
    pub stand-called : (begun : Begun) → between_of pid old ≡ Some (Entered begun) → (told : After) → StaysBetween is_free pid t y told → AreStanding is_free y t (paused_after pid told old)
    stand-called begun stood after.Waiting stays =
        stand-on old old (λ q other. refl)
        (λ other at. subst (IsStanding is_free y t pid) (same-between (Entered begun) other (sym stood ∙ at)) (record { lives = stays.lives (λ e. cc); freed = stays.frees refl })) standing
    stand-called begun stood (after.Behind handed) stays = stand-paused (Done handed) (record { lives = stays.lives (λ e. cc); freed = tt })
    stand-called begun stood after.Gone stays = stand-run
