-- Walks along a path, one component at a time.
use Rattle.std.proofs.Common.{◌≡◌, ℕ, Bool, false, Some, Result, Ok, Err, List, [], ◌∷◌, map, refl, ap, sym, subst, ◌∙◌}
use Rattle.std.specs.List.{All}
use Rattle.std.specs.Result.{IsErr, IsErrAnd}
use Rattle.std.proofs.lemmas.List.Elements.{All-tail}
use Rattle.pt_bind.specs.pr_base.Paths.{Component, Dot, DotDot, Name, IsComponent, component_of, components_of, parts_of}
use Rattle.pt_bind.specs.pr_base.Texts.{Text}
use Rattle.pt_bind.specs.pr_base.declared.errno.Errno.{Errno}
use Rattle.pt_bind.specs.pr_base.declared.path.Last.TheVariants as last
use Rattle.pt_bind.specs.pr_base.declared.path.WalkMode.{WalkMode}
use Rattle.pt_bind.proofs.pr_base.PathLemmas.{paths_have_components}
use Rattle.pt_bind.proofs.pr_base.WalkLemmas.{walk-none}
use Rattle.pt_canon.specs.Canon.{IsWalkNoted, ending_of}
use Rattle.pt_canon.specs.Components.{straight}
use Rattle.pt_canon.specs.Steadily.{WasAsked, looked}
use Rattle.pt_canon.specs.Steps.{GoesBehind, GoesOn, IsNoted, IsWay, Left, PassedIs, PassedNoted, Tells, WayComes, WayIs, done, ended, last_trail, left_on, middle_trail, told}
use Rattle.pt_canon.specs.TextWalk.{TextSurroundings, look_text, looking_texts}
use Rattle.pt_canon.specs.declared.canon.WalkErr.{WalkErr}
use Rattle.pt_canon.specs.declared.canon.WalkErr.TheVariants as fault
use Rattle.pt_canon.specs.declared.ending.Ended.{Ended}
use Rattle.pt_canon.specs.declared.sight.Known.{Known}
use Rattle.pt_canon.specs.declared.walk.Onward.{Onward}
use Rattle.pt_canon.specs.declared.walk.Passed.{Passed}
use Rattle.pt_canon.specs.declared.walk.Passed.TheVariants as passed
use Rattle.pt_canon.specs.declared.walk.Terms.{Terms}
use Rattle.pt_canon.specs.declared.walk.Way.{Way}
use Rattle.pt_canon.specs.declared.walk.Way.TheVariants as way
use Rattle.pt_canon.proofs.StepLemmas.{along_last, along_middle, tells_error}
use Rattle.pt_canon.proofs.NotedLemmas.{noted_error}

-- the walk along what is left of a path, by whether it is steady before, and what is noted of it, by what was
abbrev pub along_parts : TextSurroundings → Terms → (steady unmet : Bool) → Text → List (List ℕ) → Result Ended Errno × Bool
along_parts texts terms steady unmet t parts = told texts terms.mode steady unmet (left_on texts terms.mode terms.left t (map component_of parts) terms.slash)

pub along_none : (texts : TextSurroundings) (terms : Terms) (unmet : Bool) (t : Text) (parts : List (List ℕ)) → parts ≡ []
    → along_parts texts terms terms.steady unmet t parts ≡ (Ok (record { ending = ending_of terms.mode (record { dir = t; name = []; last = last.Root; slash = terms.slash; found = Some t; jumped = false }); steady = terms.steady }), unmet)
along_none texts terms unmet t parts none = ap (along_parts texts terms terms.steady unmet t) none ∙ ap (told texts terms.mode terms.steady unmet) (walk-none (looking_texts texts) terms.mode terms.left t terms.slash)

pub parts_have_components : (path : List ℕ) (parts : List (List ℕ)) → parts_of path ≡ parts → All IsComponent (map component_of parts)
parts_have_components path parts e = let P : List (List ℕ) → Type 0 = λ parts. All IsComponent (map component_of parts) in subst P e (paths_have_components path)

pub parts_behind : (part following : List ℕ) (parts more : List (List ℕ)) → parts ≡ following ∷ more → All IsComponent (map component_of (part ∷ parts)) → All IsComponent (map component_of (following ∷ more))
parts_behind part following parts more e fine =
    let P : List (List ℕ) → Type 0 = λ parts. All IsComponent (map component_of parts) in
    subst P e (All-tail IsComponent (component_of part) (map component_of parts) fine)

pub parts_left_fine : (part : List ℕ) (parts more : List (List ℕ)) → parts ≡ part ∷ more → All IsComponent (map component_of parts) → All IsComponent (map component_of more)
parts_left_fine part parts more e fine =
    let P : List (List ℕ) → Type 0 = λ parts. All IsComponent (map component_of parts) in
    All-tail IsComponent (component_of part) (map component_of more) (subst P e fine)

-- one component after the other
pub straight_on : (t : Text) (c : Component) (cs : List Component) → straight (straight t (c ∷ [])) cs ≡ straight t (c ∷ cs)
straight_on t Dot cs = refl
straight_on t DotDot cs = refl
straight_on t (Name name) cs = refl

-- behind a look, what is left of a walk is what comes of the whole
onward : (rest after : Left) (flag new : Bool) (whole : Result Ended Errno × Bool) → (rest.ends, rest.noted flag) ≡ whole → new ≡ flag → rest ≡ after → whole ≡ (after.ends, after.noted new)
onward rest after flag new whole is noted ends = sym is ∙ (λ i. ((ends i).ends, (ends i).noted (sym noted i)))

goes_behind : (texts : TextSurroundings) (mode : WalkMode) (left : ℕ) (rest : Left) (flag new : Bool) (whole : Result Ended Errno × Bool) (on : Onward) → (rest.ends, rest.noted flag) ≡ whole → new ≡ flag → GoesOn texts mode left rest on → GoesBehind texts mode left whole new on
goes_behind texts mode left rest flag new whole on is noted goes = let at = onward rest _ flag new whole is noted goes.ends in record { some = goes.some; ends = λ i. (at i).0; noted = λ i. (sym at i).1 }

comes : (texts : TextSurroundings) (mode : WalkMode) (left : ℕ) (rest : Left) (flag new : Bool) (whole : Result Ended Errno × Bool) (r : Result Way WalkErr) → (rest.ends, rest.noted flag) ≡ whole → IsWalkNoted flag new r → Tells (WayIs texts mode left rest) rest r
    → WayComes texts mode left whole new r
comes texts mode left rest flag new whole (Ok (way.Ends end)) is noted ends = let on = onward rest (done (Ok end)) flag new whole is noted ends in (λ i. (on i).0, λ i. (sym on i).1)
comes texts mode left rest flag new whole (Ok (way.Goes on)) is noted goes = goes_behind texts mode left rest flag new whole on is noted goes
comes texts mode left rest flag new whole (Err (fault.Err e)) is noted ends = let on = onward rest (done (Err e)) flag new whole is noted ends in (λ i. (on i).0, λ i. (sym on i).1)
comes texts mode left rest flag new whole (Err fault.NoMemory) is noted told = tt

passed_walk : (texts : TextSurroundings) (after new : Bool) (e : WalkErr) → PassedNoted texts after new (Err e) → IsWalkNoted {T = Passed} after new (Err e)
passed_walk texts after new (fault.Err e) noted = noted
passed_walk texts after new fault.NoMemory noted = tt

module _ (texts : TextSurroundings) (terms : Terms) (unmet : Bool) (t : Text) (part : List ℕ) (parts : List (List ℕ)) (c : Component) (of : c ≡ component_of part) (whole : Result Ended Errno × Bool) (ends : along_parts texts terms terms.steady unmet t (part ∷ parts) ≡ whole) where
  -- at the last component
  pub last_way : (new : Bool) (r : Result Way WalkErr) → parts ≡ [] → IsWalkNoted (looked texts unmet t c) new r → IsWay texts terms.mode terms.left (looked texts terms.steady t c) (last_trail texts terms t c (look_text texts t c)) r → WayComes texts terms.mode terms.left whole new r
  last_way new r none noted way =
      let is : told texts terms.mode (looked texts terms.steady t c) (looked texts unmet t c) (last_trail texts terms t c (look_text texts t c)) ≡ whole =
      ap (λ c. told texts terms.mode (looked texts terms.steady t c) (looked texts unmet t c) (last_trail texts terms t c (look_text texts t c))) of ∙ sym (along_last texts terms unmet t (component_of part))
      ∙ ap (λ ps. along_parts texts terms terms.steady unmet t (part ∷ ps)) (sym none) ∙ ends in
      comes texts terms.mode terms.left _ (looked texts unmet t c) new whole r is noted way

  -- at a component that others follow
  module _ (behind following : List ℕ) (more : List (List ℕ)) (left : parts_of behind ≡ parts) (read : parts ≡ following ∷ more) where
    abbrev pub at_middle : Left
    at_middle = ended texts terms.mode (looked texts terms.steady t c) (middle_trail texts terms t (components_of behind) (look_text texts t c))

    middle_is : (at_middle.ends, at_middle.noted (looked texts unmet t c)) ≡ whole
    middle_is =
        ap (λ c. told texts terms.mode (looked texts terms.steady t c) (looked texts unmet t c) (middle_trail texts terms t (components_of behind) (look_text texts t c))) of
        ∙ ap (λ ps. told texts terms.mode (looked texts terms.steady t (component_of part)) (looked texts unmet t (component_of part)) (middle_trail texts terms t (map component_of ps) (look_text texts t (component_of part)))) left
        ∙ sym (along_middle texts terms unmet t (component_of part) (component_of following) (map component_of parts) (map component_of more) (ap (map component_of) read))
        ∙ ends

    pub passed_on : (p : Passed) (on : Text) (known : Known) (still new : Bool) → PassedIs texts terms (components_of behind) at_middle p → PassedNoted texts (looked texts unmet t c) new (Ok p) → p ≡ passed.On on known still
        → (along_parts texts terms still new on (following ∷ more) ≡ whole) × IsNoted texts on known still × WasAsked texts on known new
    passed_on p on known still new told noted is =
        let P : Passed → Type 0 = PassedIs texts terms (components_of behind) at_middle in
        let at : P (passed.On on known still) = subst P is told in
        let Q : Passed → Type 0 = λ p. PassedNoted texts (looked texts unmet t c) new (Ok p) in
        let mark : Q (passed.On on known still) = subst Q is noted in
        (ap (along_parts texts terms still new on) (sym (left ∙ read)) ∙ sym (onward at_middle _ (looked texts unmet t c) new whole middle_is mark.0 at.0), at.1, mark.1)

    pub passed_off : (p : Passed) (on : Onward) (new : Bool) → PassedIs texts terms (components_of behind) at_middle p → PassedNoted texts (looked texts unmet t c) new (Ok p) → p ≡ passed.Off on → GoesBehind texts terms.mode terms.left whole new on
    passed_off p on new told noted is =
        let P : Passed → Type 0 = PassedIs texts terms (components_of behind) at_middle in
        let at : P (passed.Off on) = subst P is told in
        let Q : Passed → Type 0 = λ p. PassedNoted texts (looked texts unmet t c) new (Ok p) in
        let mark : Q (passed.Off on) = subst Q is noted in
        goes_behind texts terms.mode terms.left at_middle (looked texts unmet t c) new whole on middle_is mark at

    pub passed_lost : (e : WalkErr) (r : Result Way WalkErr) (new : Bool) → Tells (PassedIs texts terms (components_of behind) at_middle) at_middle (Err e) → PassedNoted texts (looked texts unmet t c) new (Err e) → IsErr r → IsErrAnd r (λ f. f ≡ e) → WayComes texts terms.mode terms.left whole new r
    passed_lost e r new told noted err same =
        comes texts terms.mode terms.left at_middle (looked texts unmet t c) new whole r middle_is (noted_error {U = Way} Passed (looked texts unmet t c) new e r (passed_walk texts (looked texts unmet t c) new e noted) err same)
        (tells_error {T = Passed} {U = Way} (PassedIs texts terms (components_of behind) at_middle) (WayIs texts terms.mode terms.left at_middle) at_middle e r told err same)
