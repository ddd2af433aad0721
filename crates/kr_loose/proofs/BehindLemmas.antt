-- A loose run stands behind a step more, once that was made.
use Rattle.std.proofs.Common.{◌≡◌, ◌≤◌, ℕ, Bool, true, false, not, ◌&&◌, cond, List, [], ◌∷◌, Option, Some, None, eq-eqb, refl, sym, ap, subst, arith, ◌∙◌}
use Rattle.std.specs.Prelude.{◌==◌, ◌||◌, ◌↔◌}
use Rattle.std.specs.List.{All, filter}
use Rattle.std.proofs.lemmas.List.Elements.{All-cons, All-head, All-nil, All-tail}
use Rattle.kr_core.specs.kr_turns.kr_model.Judged.{HasShape}
use Rattle.kr_core.specs.kr_turns.kr_stops.Stopped.{Stopped}
use Rattle.kr_core.specs.kr_turns.kr_view.View.{Row}
use Rattle.kr_core.specs.kr_turns.law_steady.Bytes.{HasBytes}
use Rattle.kr_core.proofs.law_lawful.SumLemmas.{other-test, passed-test}
use Rattle.kr_core.specs.Between.{between_of}
use Rattle.kr_core.specs.kr_turns.Turn.{Machine}
use Rattle.kr_core.specs.Moving.{Entry, Plain}
use Rattle.kr_core.specs.declared.paused.Begun.{Begun}
use Rattle.kr_core.specs.declared.paused.Between.TheVariants.{Entered}
use Rattle.kr_loose.specs.Behind.{AreAlike, ComesBehind, IsBehind, Kept, TellsOthers}
use Rattle.kr_loose.specs.Judging.{counts_of, is_altered}
use Rattle.kr_loose.specs.LooseRun.{Step}
use Rattle.kr_loose.specs.Quiet.{IsQuiet, IsUndisturbed, LeavesFor, is_entry, is_own, met_by, others_since_entry, since_entry}
use Rattle.kr_loose.specs.declared.judge.Counted.{Counted}
use Rattle.kr_loose.specs.declared.judge.Counts.{Counts}
use Rattle.kr_loose.proofs.JudgeLemmas.{alike-of, alike-tells, altered-is, both-true, neither, none-of-both, true-both}

-- ---- what others did since a first stop, with a step more

module _ {S : Type 0} (pid : ℕ) (s : Step S) (steps : List (Step S)) where
  -- the steps since the first stop, by whether this one was that
  abbrev cut : Bool → List (Step S)
  cut b = cond b [] (s ∷ since_entry pid steps)

  abbrev not_own : List (Step S) → List (Step S)
  not_own l = filter (λ (t : Step S). not (is_own pid t)) l

  abbrev with_it : Bool → List (Step S)
  with_it b = cond (not b) (s ∷ others_since_entry pid steps) (others_since_entry pid steps)

  pub others-entry : (s.pid == pid) ≡ true → is_entry s.kind ≡ true → others_since_entry pid (s ∷ steps) ≡ []
  others-entry own entry = ap (λ (b : Bool). not_own (cut (b && is_entry s.kind))) own ∙ ap (λ (b : Bool). not_own (cut b)) entry

  pub others-own : (s.pid == pid) ≡ true → is_entry s.kind ≡ false → others_since_entry pid (s ∷ steps) ≡ others_since_entry pid steps
  others-own own none = ap (λ (b : Bool). not_own (cut (b && is_entry s.kind))) own ∙ ap (λ (b : Bool). not_own (cut b)) none ∙ ap with_it own

  pub others-other : (s.pid == pid) ≡ false → others_since_entry pid (s ∷ steps) ≡ s ∷ others_since_entry pid steps
  others-other other = ap (λ (b : Bool). not_own (cut (b && is_entry s.kind))) other ∙ ap with_it other

-- ---- what a count tells of a step

-- it stays exactly where the step left something as it was, and never falls
pub record Tells (Left : Type 0) (before now : ℕ) : Type 0 where
  pub grew : before ≤ now
  pub told : (now ≡ before) ↔ Left

module _ {S : Type 0} (exec : Bool) (s : Step S) (before old new : Counts)
    (shape : Tells (HasShape s.before.state.tree s.after.state.tree) old.shape new.shape) (bytes : Tells (HasBytes s.before.state.tree s.after.state.tree) old.bytes new.bytes)
    (shape_grew : before.shape ≤ old.shape) (bytes_grew : before.bytes ≤ old.bytes) where
  bytes-then : before.bytes ≡ new.bytes → HasBytes s.before.state.tree s.after.state.tree × (before.bytes ≡ old.bytes)
  bytes-then is =
      let grown = bytes.grew in
      let still : new.bytes ≡ old.bytes = omega arith in
      let was : before.bytes ≡ old.bytes = omega arith in
      (bytes.told.0 still, was)

  alike-then : AreAlike exec before new → LeavesFor exec s × AreAlike exec before old
  alike-then same =
      let grown = shape.grew in
      let is = same.shape in
      let still : new.shape ≡ old.shape = omega arith in
      let was : before.shape ≡ old.shape = omega arith in
      ((shape.told.0 still, λ holds. (bytes-then (same.bytes holds)).0), record { shape = was; bytes = λ holds. (bytes-then (same.bytes holds)).1 })

  alike-from : LeavesFor exec s → AreAlike exec before old → AreAlike exec before new
  alike-from left same = record { shape = same.shape ∙ sym (shape.told.1 left.0); bytes = λ holds. same.bytes holds ∙ sym (bytes.told.1 (left.1 holds)) }

  alike-on : (others : List (Step S)) → (AreAlike exec before old ↔ All (LeavesFor exec) others) → AreAlike exec before new ↔ All (LeavesFor exec) (s ∷ others)
  alike-on others told = (
    λ same. (let both = alike-then same in All-cons (LeavesFor exec) s others both.0 (told.0 both.1)),
    λ all. alike-from (All-head (LeavesFor exec) s others all) (told.1 (All-tail (LeavesFor exec) s others all)),
  )

  grown-on : (before.shape ≤ new.shape) × (before.bytes ≤ new.bytes)
  grown-on = let first = shape.grew in let second = bytes.grew in (omega arith, omega arith)

module _ {S : Type 0} (pid : ℕ) (exec : Bool) (s : Step S) (steps : List (Step S)) (old new : Counts) (counted later : List Counted) where
  -- of a call that is begun, a step of another
  pub tells-on : (s.pid == pid) ≡ false → Tells (HasShape s.before.state.tree s.after.state.tree) old.shape new.shape → Tells (HasBytes s.before.state.tree s.after.state.tree) old.bytes new.bytes
      → counts_of pid later ≡ counts_of pid counted → TellsOthers pid exec steps old counted → TellsOthers pid exec (s ∷ steps) new later
  tells-on other shape bytes same t =
      let grown = grown-on exec s t.before old new shape bytes t.shape_grew t.bytes_grew in
      record {
        before = t.before;
        found = same ∙ t.found;
        shape_grew = grown.0;
        bytes_grew = grown.1;
        told =
            subst (λ (l : List (Step S)). AreAlike exec t.before new ↔ All (LeavesFor exec) l) (sym (others-other pid s steps other))
            (alike-on exec s t.before old new shape bytes t.shape_grew t.bytes_grew (others_since_entry pid steps) t.told);
      }

-- of one for which it was counted just now, where others left the tree to it
pub tells-anew : {S : Type 0} (pid : ℕ) (exec : Bool) (steps : List (Step S)) (now : Counts) (later : List Counted) → counts_of pid later ≡ Some now → All (LeavesFor exec) (others_since_entry pid steps)
    → TellsOthers pid exec steps now later
tells-anew pid exec steps now later found left = record {
  before = now;
  found = found;
  shape_grew = omega arith;
  bytes_grew = omega arith;
  told = (λ same. left, λ all. record { shape = refl; bytes = λ holds. refl });
}

-- ---- a step more

module _ {S : Type 0} (asks : S → Stopped → Bool) (marks : ℕ) (table : List Row) where
  -- what is known of a step, whatever steps came before
  pub record StepTold (made : Step S) (old new : Kept) : Type 0 where
    pub shape : Tells (HasShape made.before.state.tree made.after.state.tree) old.counts.shape new.counts.shape
    pub bytes : Tells (HasBytes made.before.state.tree made.after.state.tree) old.counts.bytes new.counts.bytes
    pub met : new.met ≡ (old.met || met_by asks marks table made.kind made)
    pub stay : (q : ℕ) → (q ≡ made.pid → ⊥) → between_of q new.paused ≡ between_of q old.paused
    pub counted : (q : ℕ) → (q ≡ made.pid → ⊥) → counts_of q new.judge.counted.items ≡ counts_of q old.judge.counted.items

  -- and of the call of its process
  pub record CallTold (steps : List (Step S)) (made : Step S) (old new : Kept) : Type 0 where
    pub judged : (new.judge.undisturbed ≡ true) ↔ ((old.judge.undisturbed ≡ true) × IsUndisturbed made.pid made.kind steps)
    pub own : new.judge.undisturbed ≡ true → (begun : Begun) → between_of made.pid new.paused ≡ Some (Entered begun)
        → TellsOthers made.pid begun.exec (made ∷ steps) new.counts new.judge.counted.items

  abbrev HasMetNone : Step S → Type 0
  HasMetNone s = met_by asks marks table s.kind s ≡ false

  module _ (made : Step S) (old new : Kept) (told : StepTold made old new) (steps : List (Step S)) (call : CallTold steps made old new) where
    others-on : new.judge.undisturbed ≡ true
        → ((q : ℕ) (begun : Begun) → between_of q old.paused ≡ Some (Entered begun) → TellsOthers q begun.exec steps old.counts old.judge.counted.items)
        → (q : ℕ) (begun : Begun) → between_of q new.paused ≡ Some (Entered begun) → (b : Bool) → (q == made.pid) ≡ b → TellsOthers q begun.exec (made ∷ steps) new.counts new.judge.counted.items
    others-on holds others q begun at true is =
        let same = passed-test q made.pid is in
        subst (λ n. TellsOthers n begun.exec (made ∷ steps) new.counts new.judge.counted.items) (sym same)
        (call.own holds begun (subst (λ n. between_of n new.paused ≡ Some (Entered begun)) same at))
    others-on holds others q begun at false is =
        let other : q ≡ made.pid → ⊥ = λ same. (let no : false ≡ true = sym is ∙ eq-eqb q made.pid same in cc) in
        tells-on q begun.exec made steps old.counts new.counts old.judge.counted.items new.judge.counted.items (other-test made.pid q (λ same. other (sym same))) told.shape told.bytes (told.counted q other)
        (others q begun (sym (told.stay q other) ∙ at))

    behind-on : (met_at_start : Bool) → IsBehind asks marks table met_at_start steps old → IsBehind asks marks table met_at_start (made ∷ steps) new
    behind-on met_at_start was = record {
      walks = (
        λ none. (
            let parts = neither old.met (met_by asks marks table made.kind made) (sym told.met ∙ none) in
            let earlier = was.walks.0 parts.0 in
            (earlier.0, All-cons HasMetNone made steps parts.1 earlier.1)
            ),
        λ all. told.met ∙ none-of-both old.met (met_by asks marks table made.kind made) (was.walks.1 (all.0, All-tail HasMetNone made steps all.1)) (All-head HasMetNone made steps all.1),
      );
      undisturbed = (λ holds. (let both = call.judged.0 holds in (was.undisturbed.0 both.0, both.1)), λ all. call.judged.1 (was.undisturbed.1 all.0, all.1));
      others = λ holds q begun at. others-on holds (was.others (call.judged.0 holds).0) q begun at (q == made.pid) refl;
    }

  -- ---- by what the step is

  -- one of which nothing is judged, and behind which its process doesn't stand behind a first stop
  pub comes-still : (made : Step S) (old new : Kept) → StepTold made old new → new.judge.undisturbed ≡ old.judge.undisturbed → ((steps : List (Step S)) → IsUndisturbed made.pid made.kind steps)
      → ((begun : Begun) → between_of made.pid new.paused ≡ Some (Entered begun) → ⊥) → ComesBehind asks marks table made old new
  comes-still made old new told same free none = λ met_at_start steps was.
      behind-on made old new told steps (record { judged = (λ holds. (sym same ∙ holds, free steps), λ both. same ∙ both.0); own = λ holds begun entered. absurd (none begun entered) }) met_at_start was

  module _ (pick pid : ℕ) (m n : Machine S) (old new : Kept) where
    -- a first stop, at which it is counted for the call
    abbrev entry : Step S
    entry = record { pick = pick; pid = pid; kind = Entry; before = m; after = n }

    pub comes-entered : StepTold entry old new → new.judge.undisturbed ≡ old.judge.undisturbed → counts_of pid new.judge.counted.items ≡ Some new.counts → ComesBehind asks marks table entry old new
    comes-entered told same counted = λ met_at_start steps was.
        behind-on entry old new told steps
        (record {
          judged = (λ holds. (sym same ∙ holds, tt), λ both. same ∙ both.0);
          own = λ holds begun entered.
              tells-anew pid begun.exec (entry ∷ steps) new.counts new.judge.counted.items counted
              (subst (All (LeavesFor begun.exec)) (sym (others-entry pid entry steps (eq-eqb pid pid refl) refl)) (All-nil (LeavesFor begun.exec)));
        })
        met_at_start was

    -- a call, which is judged by what was counted for it
    module _ (begun : Begun) (stood : between_of pid old.paused ≡ Some (Entered begun)) where
      abbrev call : Step S
      call = record { pick = pick; pid = pid; kind = Plain begun.exec; before = m; after = n }

      abbrev is_disturbed : Bool
      is_disturbed = is_altered pid begun.exec old.counts old.judge.counted.items

      call-judged : new.judge.undisturbed ≡ (old.judge.undisturbed && not is_disturbed) → (met_at_start : Bool) (steps : List (Step S)) → IsBehind asks marks table met_at_start steps old
          → (new.judge.undisturbed ≡ true) ↔ ((old.judge.undisturbed ≡ true) × All (LeavesFor begun.exec) (others_since_entry pid steps))
      call-judged judges met_at_start steps was = (
        λ holds. (
            let both = both-true old.judge.undisturbed is_disturbed (sym judges ∙ holds) in
            let t = was.others both.0 pid begun stood in
            (both.0, t.told.0 (alike-of t.before old.counts begun.exec (sym (altered-is pid begun.exec old.counts t.before old.judge.counted.items t.found) ∙ both.1)))
            ),
        λ both. (
            let t = was.others both.0 pid begun stood in
            judges
            ∙ true-both old.judge.undisturbed is_disturbed both.0
            (altered-is pid begun.exec old.counts t.before old.judge.counted.items t.found ∙ alike-tells t.before old.counts begun.exec (t.told.1 both.1))
            ),
      )

      -- where its caller stands there still, the call is the same, and it is counted for it anew
      pub comes-called : StepTold call old new → new.judge.undisturbed ≡ (old.judge.undisturbed && not is_disturbed)
          → ((later : Begun) → between_of pid new.paused ≡ Some (Entered later) → (begun.exec ≡ later.exec) × (counts_of pid new.judge.counted.items ≡ Some new.counts)) → ComesBehind asks marks table call old new
      comes-called told judges waits = λ met_at_start steps was.
          let judged = call-judged judges met_at_start steps was in
          behind-on call old new told steps
          (record {
            judged = judged;
            own = λ holds later entered.
                let same = waits later entered in
                let left : All (LeavesFor later.exec) (others_since_entry pid steps) = subst (λ e. All (LeavesFor e) (others_since_entry pid steps)) same.0 (judged.0 holds).1 in
                tells-anew pid later.exec (call ∷ steps) new.counts new.judge.counted.items same.1 (subst (All (LeavesFor later.exec)) (sym (others-own pid call steps (eq-eqb pid pid refl) refl)) left);
          })
          met_at_start was

  -- ---- the beginning, what changes nothing of it, and what is told

  pub behind-start : (met_at_start : Bool) (kept : Kept) → kept.paused ≡ [] → kept.met ≡ met_at_start → kept.judge.undisturbed ≡ true → IsBehind asks marks table met_at_start [] kept
  behind-start met_at_start kept running met undisturbed = record {
    walks = (λ none. (sym met ∙ none, All-nil HasMetNone), λ both. met ∙ both.0);
    undisturbed = (λ holds. tt, λ all. undisturbed);
    others = λ holds q begun at. absurd (let no : None ≡ Some (Entered begun) = sym (ap (between_of q) running) ∙ at in cc);
  }

  pub quiet-told : (kept : Kept) (told : Bool) → told ≡ (kept.judge.undisturbed && not kept.met) → (met_at_start : Bool) (steps : List (Step S)) → IsBehind asks marks table met_at_start steps kept
      → (told ≡ true) ↔ IsQuiet asks marks table met_at_start steps
  quiet-told kept told is met_at_start steps was = (
    λ holds. (
        let both = both-true kept.judge.undisturbed kept.met (sym is ∙ holds) in
        let walks = was.walks.0 both.1 in
        record { start = walks.0; walks = walks.1; calls = was.undisturbed.0 both.0 }
        ),
    λ quiet. is ∙ true-both kept.judge.undisturbed kept.met (was.undisturbed.1 quiet.calls) (was.walks.1 (quiet.start, quiet.walks)),
  )
