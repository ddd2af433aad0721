-- What comes of a step.
use Rattle.std.proofs.Common.{◌≡◌, ◌≢◌, ◌-◌, ℕ, zero, suc, Bool, true, false, List, [], ◌++◌, Some, Result, Ok, Err, refl, sym, ap, subst, ◌∙◌}
use Rattle.std.specs.Bool.{if◌then◌else◌}
use Rattle.std.specs.Result.{IsErr, IsErrAnd}
use Rattle.kr_view.specs.kr_tree.pr_base.Paths.{Component, components_of}
use Rattle.kr_view.specs.kr_tree.pr_base.WalkFrame.{Landing, Trail, fails, begins_at, after_jump, jumps_on, onward, walk_on, Links, Jumps}
use Rattle.kr_view.specs.kr_tree.pr_base.declared.errno.Errno.{Errno}
use Rattle.kr_view.specs.kr_tree.pr_base.declared.errno.Errno.TheVariants.{ELOOP}
use Rattle.kr_view.specs.kr_tree.pr_base.declared.path.WalkMode.{WalkMode}
use Rattle.kr_view.specs.kr_tree.declared.place.Place.{Place}
use Rattle.kr_view.specs.declared.procs.Lead.{Lead}
use Rattle.kr_view.specs.declared.procs.Lead.TheVariants.{Text, Jump}
use Rattle.kr_view.specs.declared.target.Reach.{Reach}
use Rattle.kr_view.specs.declared.target.WalkFault.{WalkFault}
use Rattle.kr_view.specs.declared.target.WalkFault.TheVariants as fault
use Rattle.kr_walk.specs.declared.walk.Walk.{Walk}
use Rattle.kr_walk.specs.declared.walk.Step.{Step}
use Rattle.kr_view.specs.View.{node_in}
use Rattle.kr_view.specs.Leads.{numbered}
use Rattle.kr_view.specs.Component.{Surroundings, is_directory_at, landing, seen_link}
use Rattle.kr_view.specs.Walk.{PlaceTrail, PlaceTarget, looking}
use Rattle.kr_view.specs.Reach.{Covers, reached_landing, reach_after}
use Rattle.kr_walk.specs.Stacks.{stack_of}
use Rattle.kr_walk.specs.Positions.{IsNamed}
use Rattle.kr_walk.specs.Steps.{trail_of, middle_trail, Follows, IsFollowed, GoesOn, HasOutcome}
use Rattle.kr_view.proofs.kr_tree.pr_base.WalkLemmas.{onward-less, onward-none}
use Rattle.kr_view.proofs.ReachLemmas.{covers_refl, covers_trans, covers_after, covers_landing, behind_jump}

module _ {M : Type 0} (number : M → ℕ) (around : Surroundings) (mode : WalkMode) where
  pub at_want : (answer : Result PlaceTarget Errno) (whole old new : Reach) (r : Result (Step M) WalkFault) → IsErr r → IsErrAnd r (λ f. f ≡ fault.NoMemory)
      → Covers new old × Covers whole new → HasOutcome number around mode answer whole old new r
  at_want answer whole old new (Ok step) is want part = absurd cc
  at_want answer whole old new (Err (fault.Err e)) is want part = absurd cc
  at_want answer whole old new (Err fault.NoMemory) is want part = part

  -- a link that was followed
  followed_at : (walk : Walk M) (text : List ℕ) (slash : Bool) → PlaceTrail
  followed_at walk text slash =
      onward (looking around) mode walk.left (begins_at (looking around) (numbered number walk.position.place) text) (components_of text ++ stack_of walk.rests) slash

  pub at_follow_error : (walk : Walk M) (text : List ℕ) (slash : Bool) (trail : PlaceTrail) (old : Reach) (e : WalkFault) (r : Result (Step M) WalkFault) → IsErr r → IsErrAnd r (λ f. f ≡ e)
      → IsFollowed number around walk text slash (Err e)
      → trail ≡ onward (looking around) mode walk.left (begins_at (looking around) (numbered number walk.position.place) text) (components_of text ++ stack_of walk.rests) slash
      → HasOutcome number around mode trail.answer (reach_after around mode trail old) old old r
  at_follow_error walk text slash trail old e (Ok step) is same followed at = absurd cc
  at_follow_error walk text slash trail old (fault.Err e) (Err fault.NoMemory) is same followed at = absurd cc
  at_follow_error walk text slash trail old fault.NoMemory (Err (fault.Err f)) is same followed at = absurd cc
  at_follow_error walk text slash trail old fault.NoMemory (Err fault.NoMemory) is same followed at = (covers_refl old, covers_after around mode trail old)
  at_follow_error walk text slash trail old (fault.Err e) (Err (fault.Err f)) is same followed at =
      let loops : trail ≡ fails ELOOP = at ∙ onward-none (looking around) mode walk.left _ _ slash followed.1 in
      let one : f ≡ e = cc in
      (ap (λ t. t.answer) loops ∙ ap Err (sym followed.0 ∙ sym one), ap (λ t. reach_after around mode t old) (sym loops))

  pub at_follow : (walk : Walk M) (text : List ℕ) (slash : Bool) (trail : PlaceTrail) (old : Reach) (on : Walk M) → Follows number around walk text slash on
      → trail ≡ onward (looking around) mode walk.left (begins_at (looking around) (numbered number walk.position.place) text) (components_of text ++ stack_of walk.rests) slash
      → GoesOn number around mode trail.answer (reach_after around mode trail old) old old on
  at_follow walk text slash trail old on follows at =
      let same = follows.trail mode ∙ sym at in
      record { ends = ap (λ t. t.answer) same; reaches = ap (λ t. reach_after around mode t old) same; covers = covers_refl old; named = follows.named }

-- ---- a process link

pub jumps_to : {S F : Type 0} (left : ℕ) (go : Landing S F → Trail S F) (l : Landing S F) → left ≢ 0 → jumps_on left go (Some l) ≡ after_jump l (go l)
jumps_to zero go l some = absurd (some refl)
jumps_to (suc left) go l some = refl

landing_place : (around : Surroundings) (p : Place ℕ) (dir : ℕ) (name : List ℕ) → (landing around.space p dir name).place ≡ p
landing_place around p dir name =
    let at_directory : Landing (Place ℕ) (Place ℕ) = record { place = p; found = p; is_dir = true; dir = p; name = [] } in
    let at_file : Landing (Place ℕ) (Place ℕ) = record { place = p; found = p; is_dir = false; dir = node_in p.mount dir; name = name } in
    let at : Bool → Landing (Place ℕ) (Place ℕ) = λ b. if b then at_directory else at_file in
    elim (is_directory_at around.space.tree p.host) as (λ b. (at b).place ≡ p) [ true ↦ refl | false ↦ refl ]

module _ (around : Surroundings) (mode : WalkMode) (left : ℕ) (s : Place ℕ) (rest : List Component) (slash : Bool) (link : Place ℕ) where
  -- behind a process link the walk goes on with one link less
  middle_jump : (p : Place ℕ) (dir : ℕ) (name : List ℕ) → left ≢ 0
      → middle_trail around mode left s rest slash (Jumps link (Some (landing around.space p dir name))) ≡ after_jump (landing around.space p dir name) (walk_on (looking around) mode (left - 1) p rest slash)
  middle_jump p dir name some =
      let l = landing around.space p dir name in
      jumps_to left (λ l. onward (looking around) mode left l.place rest slash) l some
      ∙ ap (after_jump l) (onward-less (looking around) mode left l.place rest slash some ∙ ap (λ q. walk_on (looking around) mode (left - 1) q rest slash) (landing_place around p dir name))

  middle_jump_reach : (p : Place ℕ) (dir : ℕ) (name : List ℕ) (old : Reach) → left ≢ 0
      → reach_after around mode (middle_trail around mode left s rest slash (Jumps link (Some (landing around.space p dir name)))) old
      ≡ reach_after around mode (walk_on (looking around) mode (left - 1) p rest slash) (reached_landing around.space (landing around.space p dir name) old)
  middle_jump_reach p dir name old some =
      ap (λ t. reach_after around mode t old) (middle_jump p dir name some) ∙ behind_jump around mode (landing around.space p dir name) (walk_on (looking around) mode (left - 1) p rest slash) old

module _ {M : Type 0} (number : M → ℕ) (around : Surroundings) (mode : WalkMode) (walk : Walk M) (link : Place ℕ) (lead : Lead ℕ) (old : Reach) where
  -- what is left of a walk behind a process link
  abbrev pub behind_link : PlaceTrail
  behind_link = middle_trail around mode walk.left (numbered number walk.position.place) (stack_of walk.rests) walk.slash (seen_link around.space link lead)

  pub link_want : (r : Result (Step M) WalkFault) → IsErr r → IsErrAnd r (λ f. f ≡ fault.NoMemory)
      → HasOutcome number around mode behind_link.answer (reach_after around mode behind_link old) old old r
  link_want r err want =
      at_want number around mode behind_link.answer (reach_after around mode behind_link old) old old r err want
      (covers_refl old, covers_after around mode behind_link old)

  pub text_error : (text : List ℕ) (e : WalkFault) (r : Result (Step M) WalkFault) → lead ≡ Text text → IsErr r → IsErrAnd r (λ f. f ≡ e) → IsFollowed number around walk text walk.slash (Err e)
      → HasOutcome number around mode behind_link.answer (reach_after around mode behind_link old) old old r
  text_error text e r is err same followed =
      let s = numbered number walk.position.place in
      let T = middle_trail around mode walk.left s (stack_of walk.rests) walk.slash (Links link text) in
      let at_text : HasOutcome number around mode T.answer (reach_after around mode T old) old old r = at_follow_error number around mode walk text walk.slash T old e r err same followed refl in
      let Q : Lead ℕ → Type 0 = λ lead. HasOutcome number around mode (middle_trail around mode walk.left s (stack_of walk.rests) walk.slash (seen_link around.space link lead)).answer
      (reach_after around mode (middle_trail around mode walk.left s (stack_of walk.rests) walk.slash (seen_link around.space link lead)) old) old old r in
      subst Q (sym is) at_text

  pub landing_error : (p : Place ℕ) (dir : ℕ) (name : List ℕ) (new : Reach) (r : Result (Step M) WalkFault) → lead ≡ Jump p dir name → walk.left ≢ 0 → stack_of walk.rests ≢ []
      → IsErr r → IsErrAnd r (λ f. f ≡ fault.NoMemory) → Covers new old × Covers (reached_landing around.space (landing around.space p dir name) old) new
      → HasOutcome number around mode behind_link.answer (reach_after around mode behind_link old) old new r
  landing_error p dir name new r is some more err want part =
      let l = landing around.space p dir name in
      let s = numbered number walk.position.place in
      let T = middle_trail around mode walk.left s (stack_of walk.rests) walk.slash (Jumps link (Some l)) in
      let on = walk_on (looking around) mode (walk.left - 1) p (stack_of walk.rests) walk.slash in
      let all : Covers (reach_after around mode on (reached_landing around.space l old)) new = covers_trans _ (reached_landing around.space l old) new (covers_after around mode on (reached_landing around.space l old)) part.1 in
      let P : Reach → Type 0 = λ whole. Covers whole new in
      let whole : Covers (reach_after around mode T old) new = subst P (sym (middle_jump_reach around mode walk.left s (stack_of walk.rests) walk.slash link p dir name old some)) all in
      let at_jump = at_want number around mode T.answer (reach_after around mode T old) old new r err want (part.0, whole) in
      let Q : Lead ℕ → Type 0 = λ lead. HasOutcome number around mode (middle_trail around mode walk.left s (stack_of walk.rests) walk.slash (seen_link around.space link lead)).answer
      (reach_after around mode (middle_trail around mode walk.left s (stack_of walk.rests) walk.slash (seen_link around.space link lead)) old) old new r in
      subst Q (sym is) at_jump

  pub landing_goes : (p : Place ℕ) (dir : ℕ) (name : List ℕ) (new : Reach) (on : Walk M) → lead ≡ Jump p dir name → walk.left ≢ 0 → stack_of walk.rests ≢ []
      → new ≡ reached_landing around.space (landing around.space p dir name) old → trail_of number around mode on ≡ walk_on (looking around) mode (walk.left - 1) p (stack_of walk.rests) walk.slash
      → IsNamed around.space.tree on.position.place.host on.position.name
      → GoesOn number around mode behind_link.answer (reach_after around mode behind_link old) old new on
  landing_goes p dir name new on is some more reached goes named =
      let l = landing around.space p dir name in
      let s = numbered number walk.position.place in
      let T = middle_trail around mode walk.left s (stack_of walk.rests) walk.slash (Jumps link (Some l)) in
      let at_jump : GoesOn number around mode T.answer (reach_after around mode T old) old new on = record {
        ends = ap (λ t. t.answer) goes ∙ sym (ap (λ t. t.answer) (middle_jump around mode walk.left s (stack_of walk.rests) walk.slash link p dir name some));
        reaches =
            ap (λ t. reach_after around mode t new) goes ∙ ap (reach_after around mode (walk_on (looking around) mode (walk.left - 1) p (stack_of walk.rests) walk.slash)) reached
            ∙ sym (middle_jump_reach around mode walk.left s (stack_of walk.rests) walk.slash link p dir name old some);
        covers = let P : Reach → Type 0 = λ n. Covers n old in subst P (sym reached) (covers_landing around l old);
        named = named;
      } in
      let Q : Lead ℕ → Type 0 = λ lead. GoesOn number around mode (middle_trail around mode walk.left s (stack_of walk.rests) walk.slash (seen_link around.space link lead)).answer
      (reach_after around mode (middle_trail around mode walk.left s (stack_of walk.rests) walk.slash (seen_link around.space link lead)) old) old new on in
      subst Q (sym is) at_jump

-- where memory is wanting before anything more was reached
pub want_behind : {M : Type 0} (number : M → ℕ) (around : Surroundings) (mode : WalkMode) (answer : Result PlaceTarget Errno) (trail : PlaceTrail) (old : Reach) (r : Result (Step M) WalkFault)
    → IsErr r → IsErrAnd r (λ f. f ≡ fault.NoMemory) → HasOutcome number around mode answer (reach_after around mode trail old) old old r
want_behind number around mode answer trail old r err want = at_want number around mode answer (reach_after around mode trail old) old old r err want (covers_refl old, covers_after around mode trail old)
