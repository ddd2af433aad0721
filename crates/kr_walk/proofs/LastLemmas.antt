-- The end of a walk.
use Rattle.std.proofs.Common.{◌≡◌, ◌≢◌, ℕ, Bool, true, false, not, ◌||◌, ◌&&◌, List, [], ◌++◌, append-nil, Some, None, Result, Ok, Err, refl, sym, ap, subst, ◌∙◌}
use Rattle.std.specs.Bool.{if◌then◌else◌}
use Rattle.std.specs.Result.{IsErr, IsErrAnd}
use Rattle.kr_view.specs.kr_tree.pr_base.Paths.{Component, Dot, DotDot, Name, components_of, has_slash}
use Rattle.kr_view.specs.kr_tree.pr_base.WalkFrame.{Landing, ends, fails, begins_at, landed, after_jump, onward, jumps_on, is_followed, wants_directory, may_be_free, target_at, name_of, ends_landed, Missing, Leads, Links, Jumps}
use Rattle.kr_view.specs.kr_tree.pr_base.declared.errno.Errno.TheVariants.{ENOTDIR}
use Rattle.kr_view.specs.kr_tree.pr_base.declared.path.WalkMode.{WalkMode}
use Rattle.kr_view.specs.kr_tree.declared.place.Place.{Place}
use Rattle.kr_view.specs.declared.procs.Lead.{Lead}
use Rattle.kr_view.specs.declared.procs.Lead.TheVariants.{Text, Jump, Nameless, NoLink}
use Rattle.kr_view.specs.declared.target.Reach.{Reach}
use Rattle.kr_view.specs.declared.target.Target.{Target as Told}
use Rattle.kr_view.specs.declared.target.WalkFault.{WalkFault}
use Rattle.kr_view.specs.declared.target.WalkFault.TheVariants as fault
use Rattle.kr_walk.specs.declared.walk.Walk.{Walk}
use Rattle.kr_walk.specs.declared.walk.Step.{Step}
use Rattle.kr_walk.specs.declared.walk.Step.TheVariants.{Ends}
use Rattle.kr_view.specs.Leads.{numbered}
use Rattle.kr_view.specs.Component.{Surroundings, landing, seen_link}
use Rattle.kr_view.specs.Names.{free_name}
use Rattle.kr_view.specs.Walk.{PlaceTrail, PlaceTarget, looking}
use Rattle.kr_view.specs.Reach.{Covers, raised, reached_landing, reach_after}
use Rattle.kr_view.specs.Answers.{told, target_numbered}
use Rattle.kr_walk.specs.Stacks.{stack_of}
use Rattle.kr_walk.specs.Steps.{last_trail, IsLanded, IsFollowed, HasOutcome}
use Rattle.kr_view.proofs.ReachLemmas.{covers_refl}
use Rattle.kr_walk.proofs.OutcomeLemmas.{want_behind, at_follow_error, jumps_to}

-- ---- links

pub last_links : (around : Surroundings) (mode : WalkMode) (left : ℕ) (s : Place ℕ) (c : Component) (slash : Bool) (found : Place ℕ) (text : List ℕ) (rest : List Component) → is_followed mode slash ≡ true → rest ≡ []
    → last_trail around mode left s c slash (Links found text) ≡ onward (looking around) mode left (begins_at (looking around) s text) (components_of text ++ rest) (slash || has_slash text)
last_links around mode left s c slash found text rest followed none =
    let at = onward (looking around) mode left (begins_at (looking around) s text) in
    ap (λ b. if b then at (components_of text) (slash || has_slash text) else ends (target_at s c slash (Some found))) followed
    ∙ ap (λ cs. at cs (slash || has_slash text)) (sym (append-nil (components_of text)) ∙ ap (λ cs. components_of text ++ cs) (sym none))

-- ---- a process link

pub last_jump : (around : Surroundings) (mode : WalkMode) (left : ℕ) (s : Place ℕ) (c : Component) (slash : Bool) (link : Place ℕ) (l : Landing (Place ℕ) (Place ℕ)) → is_followed mode slash ≡ true → left ≢ 0
    → last_trail around mode left s c slash (Jumps link (Some l)) ≡ after_jump l (ends_landed mode slash l)
last_jump around mode left s c slash link l followed some =
    ap (λ b. if b then jumps_on left (ends_landed mode slash) (Some l) else ends (target_at s c slash (Some link))) followed ∙ jumps_to left (ends_landed mode slash) l some

-- what it led to is reached, and nothing more
landing_end : (around : Surroundings) (mode : WalkMode) (l : Landing (Place ℕ) (Place ℕ)) (slash wants is_dir : Bool) (old : Reach)
    → reach_after around mode (after_jump l (if wants then (if is_dir then ends (landed l slash) else fails ENOTDIR) else ends (landed l slash))) old ≡ reached_landing around.space l old
landing_end around mode l slash true true old = refl
landing_end around mode l slash true false old = refl
landing_end around mode l slash false is_dir old = refl

pub landed_reach : (around : Surroundings) (mode : WalkMode) (l : Landing (Place ℕ) (Place ℕ)) (slash : Bool) (old : Reach)
    → reach_after around mode (after_jump l (ends_landed mode slash l)) old ≡ reached_landing around.space l old
landed_reach around mode l slash old = landing_end around mode l slash (wants_directory mode slash) l.is_dir old

module _ {M : Type 0} (number : M → ℕ) (around : Surroundings) (mode : WalkMode) (walk : Walk M) (link : Place ℕ) (c : Component) (lead : Lead ℕ) (old : Reach) where
  abbrev pub behind_last : PlaceTrail
  behind_last = last_trail around mode walk.left (numbered number walk.position.place) c walk.slash (seen_link around.space link lead)

  pub last_want : (r : Result (Step M) WalkFault) → IsErr r → IsErrAnd r (λ f. f ≡ fault.NoMemory)
      → HasOutcome number around mode behind_last.answer (reach_after around mode behind_last old) old old r
  last_want r err want = want_behind number around mode behind_last.answer behind_last old r err want

  pub last_text_error : (text : List ℕ) (slash : Bool) (e : WalkFault) (r : Result (Step M) WalkFault) → lead ≡ Text text → slash ≡ (walk.slash || has_slash text) → is_followed mode walk.slash ≡ true → stack_of walk.rests ≡ []
      → IsErr r → IsErrAnd r (λ f. f ≡ e) → IsFollowed number around walk text slash (Err e)
      → HasOutcome number around mode behind_last.answer (reach_after around mode behind_last old) old old r
  last_text_error text slash e r is slashed followed none err same follows =
      let s = numbered number walk.position.place in
      let seen = ap (seen_link around.space link) is in
      let at = ap (last_trail around mode walk.left s c walk.slash) seen ∙ last_links around mode walk.left s c walk.slash link text (stack_of walk.rests) followed none
      ∙ ap (onward (looking around) mode walk.left (begins_at (looking around) s text) (components_of text ++ stack_of walk.rests)) (sym slashed) in
      at_follow_error number around mode walk text slash behind_last old e r err same follows at

  -- what the answer is, and what was reached, where it led somewhere
  landed_answer : (p : Place ℕ) (dir : ℕ) (name : List ℕ) → lead ≡ Jump p dir name → is_followed mode walk.slash ≡ true → walk.left ≢ 0
      → behind_last ≡ after_jump (landing around.space p dir name) (ends_landed mode walk.slash (landing around.space p dir name))
  landed_answer p dir name is followed some =
      ap (λ l. last_trail around mode walk.left (numbered number walk.position.place) c walk.slash (seen_link around.space link l)) is
      ∙ last_jump around mode walk.left (numbered number walk.position.place) c walk.slash link (landing around.space p dir name) followed some

  landed_whole : (p : Place ℕ) (dir : ℕ) (name : List ℕ) → lead ≡ Jump p dir name → is_followed mode walk.slash ≡ true → walk.left ≢ 0
      → reach_after around mode behind_last old ≡ reached_landing around.space (landing around.space p dir name) old
  landed_whole p dir name is followed some =
      ap (λ t. reach_after around mode t old) (landed_answer p dir name is followed some) ∙ landed_reach around mode (landing around.space p dir name) walk.slash old

  pub landed_ends : (p : Place ℕ) (dir : ℕ) (name : List ℕ) (new : Reach) (target : Told M) → lead ≡ Jump p dir name → is_followed mode walk.slash ≡ true → walk.left ≢ 0
      → new ≡ reached_landing around.space (landing around.space p dir name) old → IsLanded number (ends_landed mode walk.slash (landing around.space p dir name)).answer (Ok target)
      → HasOutcome number around mode behind_last.answer (reach_after around mode behind_last old) old new (Ok (Ends target))
  landed_ends p dir name new target is followed some reached landed =
      ((landed.0, ap (λ t. t.answer) (landed_answer p dir name is followed some) ∙ landed.1, landed.2), reached ∙ sym (landed_whole p dir name is followed some))

  pub landed_error : (p : Place ℕ) (dir : ℕ) (name : List ℕ) (new : Reach) (e : WalkFault) (r : Result (Step M) WalkFault) → lead ≡ Jump p dir name → is_followed mode walk.slash ≡ true → walk.left ≢ 0
      → new ≡ reached_landing around.space (landing around.space p dir name) old → IsErr r → IsErrAnd r (λ f. f ≡ e) → IsLanded number (ends_landed mode walk.slash (landing around.space p dir name)).answer (Err e)
      → Covers new old → HasOutcome number around mode behind_last.answer (reach_after around mode behind_last old) old new r
  landed_error p dir name new e (Ok step) is followed some reached err same landed covers = absurd cc
  landed_error p dir name new (fault.Err e) (Err fault.NoMemory) is followed some reached err same landed covers = absurd cc
  landed_error p dir name new fault.NoMemory (Err (fault.Err f)) is followed some reached err same landed covers = absurd cc
  landed_error p dir name new fault.NoMemory (Err fault.NoMemory) is followed some reached err same landed covers =
      let P : Reach → Type 0 = λ whole. Covers whole new in
      (covers, subst P (reached ∙ sym (landed_whole p dir name is followed some)) (covers_refl new))
  landed_error p dir name new (fault.Err e) (Err (fault.Err f)) is followed some reached err same landed covers =
      let one : f ≡ e = cc in
      (ap (λ t. t.answer) (landed_answer p dir name is followed some) ∙ landed ∙ ap Err (sym one), reached ∙ sym (landed_whole p dir name is followed some))

-- ---- what is found as it stands, and a free name

-- nothing more is reached
found_reach : (around : Surroundings) (mode : WalkMode) (s : Place ℕ) (c : Component) (slash : Bool) (q : Place ℕ) (old : Reach) → reach_after around mode (ends (target_at s c slash (Some q))) old ≡ old
found_reach around mode s Dot slash q old = refl
found_reach around mode s DotDot slash q old = refl
found_reach around mode s (Name name) slash q old = refl

free_reach : (around : Surroundings) (mode : WalkMode) (s : Place ℕ) (c : Component) (slash : Bool) (old : Reach)
    → reach_after around mode (ends (target_at s c slash None)) old ≡ record { longest = raised (free_name around.space s.host (name_of c)) old.longest; met_proc = old.met_proc }
free_reach around mode s Dot slash old = refl
free_reach around mode s DotDot slash old = refl
free_reach around mode s (Name name) slash old = refl

module _ (around : Surroundings) (mode : WalkMode) (left : ℕ) (s : Place ℕ) (c : Component) (slash : Bool) where
  pub last_link_found : (q : Place ℕ) (text : List ℕ) → is_followed mode slash ≡ false → last_trail around mode left s c slash (Links q text) ≡ ends (target_at s c slash (Some q))
  last_link_found q text h = rw h refl

  pub last_jump_found : (q : Place ℕ) (lead : Lead ℕ) → is_followed mode slash ≡ false → last_trail around mode left s c slash (seen_link around.space q lead) ≡ ends (target_at s c slash (Some q))
  last_jump_found q (Text text) h = rw h refl
  last_jump_found q (Jump p dir name) h = rw h refl
  last_jump_found q Nameless h = rw h refl
  last_jump_found q NoLink h = rw h refl

  pub last_missing : may_be_free mode ≡ true → last_trail around mode left s c slash Missing ≡ ends (target_at s c slash None)
  last_missing h = rw h refl

  pub last_leads : (is_dir : Bool) (q : Place ℕ) → (wants_directory mode slash && not is_dir) ≡ false → last_trail around mode left s c slash (Leads is_dir q q) ≡ ends (target_at s c slash (Some q))
  last_leads is_dir q h = unrefused (wants_directory mode slash) is_dir (target_at s c slash (Some q)) h
    where
      unrefused : (wants is_dir : Bool) (t : PlaceTarget) → (wants && not is_dir) ≡ false → (if wants then (if is_dir then ends t else fails ENOTDIR) else ends t) ≡ ends t
      unrefused true true t h = refl
      unrefused true false t h = absurd cc
      unrefused false is_dir t h = refl

module _ {M : Type 0} (number : M → ℕ) (around : Surroundings) (mode : WalkMode) (trail : PlaceTrail) (s : Place ℕ) (c : Component) (slash : Bool) (old : Reach) (target : Told M) where
  pub ends_at : (q : Place ℕ) → trail ≡ ends (target_at s c slash (Some q)) → told (target_at s c slash (Some q)) ≡ target_numbered number target
      → HasOutcome number around mode trail.answer (reach_after around mode trail old) old old (Ok (Ends target))
  ends_at q at same =
      ((target_at s c slash (Some q), ap (λ t. t.answer) at, same), sym (ap (λ t. reach_after around mode t old) at ∙ found_reach around mode s c slash q old))

  pub ends_free : (new : Reach) → trail ≡ ends (target_at s c slash None) → told (target_at s c slash None) ≡ target_numbered number target
      → new.longest ≡ raised (free_name around.space s.host (name_of c)) old.longest → new.met_proc ≡ old.met_proc
      → HasOutcome number around mode trail.answer (reach_after around mode trail old) old new (Ok (Ends target))
  ends_free new at same long met =
      let all : new ≡ record { longest = raised (free_name around.space s.host (name_of c)) old.longest; met_proc = old.met_proc } = λ i. record { longest = long i; met_proc = met i } in
      ((target_at s c slash None, ap (λ t. t.answer) at, same), all ∙ sym (ap (λ t. reach_after around mode t old) at ∙ free_reach around mode s c slash old))
