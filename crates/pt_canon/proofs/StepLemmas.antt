-- What the steps of a walk answer, over the definition of the walk.
use Rattle.std.proofs.Common.{◌≡◌, ◌≢◌, ◌-◌, ℕ, zero, suc, Bool, true, false, not, ◌&&◌, ◌||◌, Option, Some, None, Result, Ok, Err, List, [], ◌∷◌, ◌++◌, refl, ap, sym, subst, ◌∙◌}
use Rattle.std.specs.Bool.{if◌then◌else◌}
use Rattle.std.specs.Result.{IsErr, IsErrAnd}
use Rattle.pt_bind.specs.pr_base.Paths.{Component, Dot, DotDot, Name, slash, components_of, has_slash, text_of}
use Rattle.pt_bind.specs.pr_base.Texts.{Text}
use Rattle.pt_bind.specs.pr_base.WalkFrame.{Fails, Leads, Links, Jumps, Landing, Target, Trail, after_jump, ends_found, ends_landed, ends_missing, is_followed, wants_directory, may_be_free, target_at, ends, fails, jumps_on, onward, walk_on}
use Rattle.pt_bind.specs.pr_base.declared.errno.Errno.TheVariants.{ENOENT, ENOTDIR, ELOOP}
use Rattle.pt_bind.specs.pr_base.declared.path.Last.TheVariants as last
use Rattle.pt_bind.specs.pr_base.declared.path.WalkMode.{WalkMode}
use Rattle.pt_bind.specs.pr_base.declared.path.WalkMode.TheVariants as modes
use Rattle.pt_bind.proofs.pr_base.PathLemmas.{components_seam}
use Rattle.pt_bind.proofs.pr_base.TextLemmas.{map_some}
use Rattle.pt_bind.proofs.pr_base.WalkLemmas.{walk-last, walk-middle, onward-less, onward-none}
use Rattle.pt_bind.specs.Binding.{host_of}
use Rattle.pt_canon.specs.Canon.{ending_of}
use Rattle.pt_canon.specs.ProcessLinks.{above, jump_at, is_dir_kind}
use Rattle.pt_canon.specs.Looks.{IsEntered, IsSeen, led}
use Rattle.pt_canon.specs.Steadily.{looked}
use Rattle.pt_canon.specs.Steps.{Left, done, ended, left_on, middle_trail, last_trail, start_of, told, Tells, GoesOn, PassedIs, WayIs, IsFollowed, IsJumped}
use Rattle.pt_canon.specs.TextWalk.{TextSurroundings, SeenText, look_text, looking_texts, seen_text}
use Rattle.pt_canon.specs.Laws.{MayLook}
use Rattle.pt_canon.specs.declared.canon.WalkErr.{WalkErr}
use Rattle.pt_canon.specs.declared.canon.WalkErr.TheVariants as fault
use Rattle.pt_canon.specs.declared.ending.Ending.{Ending}
use Rattle.pt_canon.specs.declared.walk.Onward.{Onward}
use Rattle.pt_canon.specs.declared.walk.Passed.{Passed}
use Rattle.pt_canon.specs.declared.walk.Terms.{Terms}
use Rattle.pt_canon.specs.declared.walk.Way.{Way}
use Rattle.pt_canon.proofs.EndingLemmas.{named_ending}
use Rattle.pt_canon.proofs.LandingLemmas.{jump_shows}
use Rattle.pt_canon.proofs.LookLemmas.{open_look}

-- ---- errors that are handed on

-- an error that tells where a walk ends does so for any answer
pub tells_error : {T U : Type 0} (P : T → Type 0) (Q : U → Type 0) (whole : Left) (e : WalkErr) (r : Result U WalkErr) → Tells P whole (Err e) → IsErr r → IsErrAnd r (λ f. f ≡ e) → Tells Q whole r
tells_error P Q whole e (Ok x) told err same = absurd cc
tells_error P Q whole e (Err fault.NoMemory) told err same = tt
tells_error P Q whole fault.NoMemory (Err (fault.Err f)) told err same = absurd cc
tells_error P Q whole (fault.Err e) (Err (fault.Err f)) told err same = let one : f ≡ e = cc in told ∙ ap (λ e. done (Err e)) (sym one)

-- want of memory tells nothing
pub tells_want : {U : Type 0} (Q : U → Type 0) (whole : Left) (r : Result U WalkErr) → IsErr r → IsErrAnd r (λ f. f ≡ fault.NoMemory) → Tells Q whole r
tells_want Q whole (Ok x) err same = absurd cc
tells_want Q whole (Err (fault.Err e)) err same = absurd cc
tells_want Q whole (Err fault.NoMemory) err same = tt

-- by whether the walk is steady behind the look
module _ (texts : TextSurroundings) (terms : Terms) (steady : Bool) where
  -- ---- looks

  abbrev pub middle : Text → List Component → SeenText → Left
  middle t rest seen = ended texts terms.mode steady (middle_trail texts terms t rest seen)

  abbrev pub final : Text → Component → SeenText → Left
  final t c seen = ended texts terms.mode steady (last_trail texts terms t c seen)

  pub middle_closed : (U : Type 0) (Q : U → Type 0) (t : Text) (c : Component) (rest : List Component) (e : WalkErr) (r : Result U WalkErr)
      → IsEntered texts t (Err e) → IsErr r → IsErrAnd r (λ f. f ≡ e) → Tells Q (middle t rest (look_text texts t c)) r
  middle_closed U Q t c rest (fault.Err e) r told err same = tells_error {T = U} Q Q _ (fault.Err e) r (ap (middle t rest) (told c)) err same
  middle_closed U Q t c rest fault.NoMemory r told err same = tells_want Q _ r err same

  pub last_closed : (U : Type 0) (Q : U → Type 0) (t : Text) (c : Component) (e : WalkErr) (r : Result U WalkErr)
      → IsEntered texts t (Err e) → IsErr r → IsErrAnd r (λ f. f ≡ e) → Tells Q (final t c (look_text texts t c)) r
  last_closed U Q t c (fault.Err e) r told err same = tells_error {T = U} Q Q _ (fault.Err e) r (ap (final t c) (told c)) err same
  last_closed U Q t c fault.NoMemory r told err same = tells_want Q _ r err same

  -- what is seen of a name
  named : (t : Text) (name : List ℕ) (s : SeenText) → MayLook texts t → seen_text texts (name ∷ t) ≡ s → look_text texts t (Name name) ≡ s
  named t name s may seen = open_look texts t (Name name) may ∙ seen

  pub middle_unseen : (U : Type 0) (Q : U → Type 0) (t entry : Text) (name : List ℕ) (c : Component) (rest : List Component) (e : WalkErr) (r : Result U WalkErr) → MayLook texts t → c ≡ Name name → entry ≡ name ∷ t
      → IsSeen texts entry (seen_text texts entry) (Err e) → IsErr r → IsErrAnd r (λ f. f ≡ e) → Tells Q (middle t rest (look_text texts t c)) r
  middle_unseen U Q t entry name c rest (fault.Err e) r may of is told err same =
      tells_error {T = U} Q Q _ (fault.Err e) r (ap (middle t rest) (ap (look_text texts t) of ∙ named t name (Fails e) may (ap (seen_text texts) (sym is) ∙ told))) err same
  middle_unseen U Q t entry name c rest fault.NoMemory r may of is told err same = tells_want Q _ r err same

  pub last_unseen : (U : Type 0) (Q : U → Type 0) (t entry : Text) (name : List ℕ) (c : Component) (e : WalkErr) (r : Result U WalkErr) → MayLook texts t → c ≡ Name name → entry ≡ name ∷ t
      → IsSeen texts entry (seen_text texts entry) (Err e) → IsErr r → IsErrAnd r (λ f. f ≡ e) → Tells Q (final t c (look_text texts t c)) r
  last_unseen U Q t entry name c (fault.Err e) r may of is told err same =
      tells_error {T = U} Q Q _ (fault.Err e) r (ap (final t c) (ap (look_text texts t) of ∙ named t name (Fails e) may (ap (seen_text texts) (sym is) ∙ told))) err same
  last_unseen U Q t entry name c fault.NoMemory r may of is told err same = tells_want Q _ r err same

  -- `.` and `..` where the directory may be searched
  pub middle_dots : (t q : Text) (c : Component) (rest : List Component) → look_text texts t c ≡ Leads true q q → middle t rest (look_text texts t c) ≡ ended texts terms.mode steady (left_on texts terms.mode terms.left q rest terms.slash)
  middle_dots t q c rest e = ap (middle t rest) e

  pub last_dots : (t q : Text) (c : Component) → look_text texts t c ≡ Leads true q q → final t c (look_text texts t c) ≡ done (Ok (record { ending = ending_of terms.mode (target_at t c terms.slash (Some q)); steady = steady }))
  last_dots t q c e = ap (final t c) e ∙ either (wants_directory terms.mode terms.slash)
    where
      either : (b : Bool) → ended texts terms.mode steady (if b then ends (target_at t c terms.slash (Some q)) else ends (target_at t c terms.slash (Some q))) ≡ done (Ok (record { ending = ending_of terms.mode (target_at t c terms.slash (Some q)); steady = steady }))
      either true = refl
      either false = refl

  pub dot_looked : (t : Text) (c : Component) → MayLook texts t → c ≡ Dot → look_text texts t c ≡ Leads true t t
  dot_looked t c may is = ap (look_text texts t) is ∙ open_look texts t Dot may

  pub dot_dot_looked : (t : Text) (c : Component) → MayLook texts t → c ≡ DotDot → look_text texts t c ≡ Leads true (above t) (above t)
  dot_dot_looked t c may is = ap (look_text texts t) is ∙ open_look texts t DotDot may

  -- a name, by what stands at its entry
  pub pass_named : (t entry : Text) (name : List ℕ) (c : Component) (rest : List Component) (s : SeenText) (r : Result Passed WalkErr) → MayLook texts t → c ≡ Name name → entry ≡ name ∷ t → seen_text texts entry ≡ s
      → Tells (PassedIs texts terms rest (middle (above entry) rest s)) (middle (above entry) rest s) r → Tells (PassedIs texts terms rest (middle t rest (look_text texts t c))) (middle t rest (look_text texts t c)) r
  pass_named t entry name c rest s r may of is seen told =
      let P : Left → Type 0 = λ whole. Tells (PassedIs texts terms rest whole) whole r in
      let looked : look_text texts t c ≡ s = ap (look_text texts t) of ∙ named t name s may (ap (seen_text texts) (sym is) ∙ seen) in
      subst P (ap (λ t. middle (above t) rest s) is ∙ ap (middle t rest) (sym looked)) told

  pub arrive_named : (t entry : Text) (name : List ℕ) (c : Component) (s : SeenText) (r : Result Way WalkErr) → MayLook texts t → c ≡ Name name → entry ≡ name ∷ t → seen_text texts entry ≡ s
      → Tells (WayIs texts terms.mode terms.left (final t (Name name) s)) (final t (Name name) s) r → Tells (WayIs texts terms.mode terms.left (final t c (look_text texts t c))) (final t c (look_text texts t c)) r
  arrive_named t entry name c s r may of is seen told =
      let P : Left → Type 0 = λ whole. Tells (WayIs texts terms.mode terms.left whole) whole r in
      let looked : look_text texts t c ≡ s = ap (look_text texts t) of ∙ named t name s may (ap (seen_text texts) (sym is) ∙ seen) in
      subst P ((λ i. final t (sym of i) s) ∙ ap (final t c) (sym looked)) told

-- ---- behind a link

jumps_to : (left : ℕ) (go : Landing Text Text → Trail Text Text) (l : Landing Text Text) → left ≢ 0 → jumps_on left go (Some l) ≡ after_jump l (go l)
jumps_to zero go l some = absurd (some refl)
jumps_to (suc left) go l some = refl

-- ---- behind what stands at a text, where components follow

module _ (texts : TextSurroundings) (terms : Terms) (at : Text) (behind : List ℕ) where
  abbrev pub passed : SeenText → Left
  passed seen = ended texts terms.mode terms.steady (middle_trail texts terms (above at) (components_of behind) seen)

  pub pass_links : (text path : List ℕ) (start : Text) → terms.left ≢ 0 → start ≡ start_of (above at) text → path ≡ text ++ slash ∷ behind
      → GoesOn texts terms.mode terms.left (passed (Links at text)) (record { at = start; path = path; slash = terms.slash; steady = terms.steady })
  pass_links text path start some is joined =
      let looking = looking_texts texts in
      let parts : components_of path ≡ components_of text ++ components_of behind = ap components_of joined ∙ components_seam text behind in
      record {
        some = some;
        ends =
            ap (ended texts terms.mode terms.steady) (onward-less looking terms.mode terms.left (start_of (above at) text) (components_of text ++ components_of behind) terms.slash some)
            ∙ ap (λ q. ended texts terms.mode terms.steady (walk_on looking terms.mode (terms.left - 1) q (components_of text ++ components_of behind) terms.slash)) (sym is)
            ∙ ap (λ cs. ended texts terms.mode terms.steady (walk_on looking terms.mode (terms.left - 1) start cs terms.slash)) (sym parts);
      }

  pub pass_loops : (U : Type 0) (Q : U → Type 0) (text : List ℕ) (start : Text) (e : WalkErr) (r : Result U WalkErr) → IsFollowed terms.left start (Err e) → IsErr r → IsErrAnd r (λ f. f ≡ e) → Tells Q (passed (Links at text)) r
  pass_loops U Q text start (fault.Err e) r followed err same =
      let loops = ap (ended texts terms.mode terms.steady) (onward-none (looking_texts texts) terms.mode terms.left (start_of (above at) text) (components_of text ++ components_of behind) terms.slash followed.0) in
      tells_error {T = U} Q Q _ (fault.Err e) r (loops ∙ ap (λ e. done (Err e)) (sym followed.1)) err same
  pass_loops U Q text start fault.NoMemory r followed err same = tells_want Q _ r err same

  pub pass_jumps : (lead : Option (Landing Text Text)) (guest : Text) (path : List ℕ) → IsJumped terms.left lead (Ok guest) → path ≡ behind
      → GoesOn texts terms.mode terms.left (passed (Jumps at lead)) (record { at = guest; path = path; slash = terms.slash; steady = terms.steady })
  pass_jumps lead guest path jumped same =
      let looking = looking_texts texts in
      let l = map_some (λ (l : Landing Text Text). l.place) lead guest jumped.1 in
      let go : Landing Text Text → Trail Text Text = λ landing. onward looking terms.mode terms.left landing.place (components_of behind) terms.slash in
      record {
        some = jumped.0;
        ends =
            ap (λ o. ended texts terms.mode terms.steady (jumps_on terms.left go o)) l.1
            ∙ ap (ended texts terms.mode terms.steady) (jumps_to terms.left go l.0 jumped.0)
            ∙ ap (ended texts terms.mode terms.steady) (onward-less looking terms.mode terms.left l.0.place (components_of behind) terms.slash jumped.0)
            ∙ ap (λ q. ended texts terms.mode terms.steady (walk_on looking terms.mode (terms.left - 1) q (components_of behind) terms.slash)) l.2
            ∙ ap (λ path. ended texts terms.mode terms.steady (walk_on looking terms.mode (terms.left - 1) guest (components_of path) terms.slash)) (sym same);
      }

  pub pass_nowhere : (U : Type 0) (Q : U → Type 0) (lead : Option (Landing Text Text)) (e : WalkErr) (r : Result U WalkErr) → IsJumped terms.left lead (Err e) → IsErr r → IsErrAnd r (λ f. f ≡ e) → Tells Q (passed (Jumps at lead)) r
  pass_nowhere U Q lead (fault.Err e) r jumped err same =
      tells_error {T = U} Q Q _ (fault.Err e) r (ap (ended texts terms.mode terms.steady) (jumped (λ landing. onward (looking_texts texts) terms.mode terms.left landing.place (components_of behind) terms.slash))) err same
  pass_nowhere U Q lead fault.NoMemory r jumped err same = tells_want Q _ r err same

-- a link of the process directory of which less is left, or that leads nowhere
pub jump_loops : (left : ℕ) (lead : Option (Landing Text Text)) (go : Landing Text Text → Trail Text Text) → left ≡ 0 → jumps_on left go lead ≡ fails ELOOP
jump_loops zero lead go none = refl
jump_loops (suc left) lead go none = absurd cc

pub jump_nowhere : (left : ℕ) (lead : Option (Landing Text Text)) (go : Landing Text Text → Trail Text Text) → left ≢ 0 → None ≡ led lead → jumps_on left go lead ≡ fails ENOENT
jump_nowhere zero lead go some none = absurd (some refl)
jump_nowhere (suc left) None go some none = refl
jump_nowhere (suc left) (Some l) go some none = absurd cc

-- ---- endings

abbrev pub ended_with : Bool → Ending → Left
ended_with steady ending = done (Ok (record { ending = ending; steady = steady }))

abbrev pub named_at : Text → Bool → Bool → Ending
named_at guest slash exists = record { guest = guest; last = last.Name; slash = slash; exists = exists }

module _ (texts : TextSurroundings) (steady : Bool) where
  pub free_ended : (mode : WalkMode) (dir : Text) (name : List ℕ) (slash : Bool) → may_be_free mode ≡ true → ended texts mode steady (ends_missing mode dir (Name name) slash) ≡ ended_with steady (named_at (name ∷ dir) slash false)
  free_ended modes.Look dir name slash free = absurd cc
  free_ended modes.LookLink dir name slash free = absurd cc
  free_ended modes.Name dir name slash free = refl
  free_ended modes.Open dir name slash free = refl

  pub missing_ended : (mode : WalkMode) (dir : Text) (name : List ℕ) (slash : Bool) → may_be_free mode ≡ false → ended texts mode steady (ends_missing mode dir (Name name) slash) ≡ done (Err ENOENT)
  missing_ended modes.Look dir name slash free = refl
  missing_ended modes.LookLink dir name slash free = refl
  missing_ended modes.Name dir name slash free = absurd cc
  missing_ended modes.Open dir name slash free = absurd cc

abbrev pub found_at : (dir at : Text) (name : List ℕ) (jumped slash : Bool) → Target Text Text
found_at dir at name jumped slash = record { dir = dir; name = name; last = last.Name; slash = slash; found = Some at; jumped = jumped }

module _ (texts : TextSurroundings) (steady : Bool) (dir at : Text) (name : List ℕ) (jumped : Bool) where
  pub kept_ended : (mode : WalkMode) (slash : Bool) → ended texts mode steady (ends (found_at dir at name jumped slash)) ≡ ended_with steady (named_at at slash true)
  kept_ended mode slash = ap (ended_with steady) (sym (named_ending mode dir at name slash jumped))

  pub found_ended : (mode : WalkMode) (slash is_dir : Bool) → (wants_directory mode slash && not is_dir) ≡ false → ended texts mode steady (ends_found mode is_dir (found_at dir at name jumped slash)) ≡ ended_with steady (named_at at slash true)
  found_ended mode slash is_dir wants = at_wants (wants_directory mode slash) is_dir wants ∙ kept_ended mode slash
    where
      at_wants : (wants is_dir : Bool) → (wants && not is_dir) ≡ false
          → ended texts mode steady (if wants then (if is_dir then ends (found_at dir at name jumped slash) else fails ENOTDIR) else ends (found_at dir at name jumped slash)) ≡ ended texts mode steady (ends (found_at dir at name jumped slash))
      at_wants true true h = refl
      at_wants true false h = absurd cc
      at_wants false is_dir h = refl

  pub refused_ended : (mode : WalkMode) (slash is_dir : Bool) → (wants_directory mode slash && not is_dir) ≡ true → ended texts mode steady (ends_found mode is_dir (found_at dir at name jumped slash)) ≡ done (Err ENOTDIR)
  refused_ended mode slash is_dir wants = at_wants (wants_directory mode slash) is_dir wants
    where
      at_wants : (wants is_dir : Bool) → (wants && not is_dir) ≡ true
          → ended texts mode steady (if wants then (if is_dir then ends (found_at dir at name jumped slash) else fails ENOTDIR) else ends (found_at dir at name jumped slash)) ≡ done (Err ENOTDIR)
      at_wants true true h = absurd cc
      at_wants true false h = refl
      at_wants false is_dir h = absurd cc

-- ---- at a last name where a link stands

module _ (texts : TextSurroundings) (terms : Terms) (dir at : Text) (name : List ℕ) where
  abbrev pub arrived : SeenText → Left
  arrived seen = ended texts terms.mode terms.steady (last_trail texts terms dir (Name name) seen)

  -- behind a link with a text
  abbrev pub link_on : List ℕ → Trail Text Text
  link_on text = onward (looking_texts texts) terms.mode terms.left (start_of dir text) (components_of text) (terms.slash || has_slash text)

  link_if : (text : List ℕ) (b : Bool) → is_followed terms.mode terms.slash ≡ b → arrived (Links at text) ≡ ended texts terms.mode terms.steady (if b then link_on text else ends (found_at dir at name false terms.slash))
  link_if text b e = ap (λ b. ended texts terms.mode terms.steady (if b then link_on text else ends (found_at dir at name false terms.slash))) e

  pub link_kept : (text : List ℕ) → is_followed terms.mode terms.slash ≡ false → arrived (Links at text) ≡ ended_with terms.steady (named_at at terms.slash true)
  link_kept text e = link_if text false e ∙ kept_ended texts terms.steady dir at name false terms.mode terms.slash

  pub link_goes : (text : List ℕ) (start : Text) (closed : Bool) → is_followed terms.mode terms.slash ≡ true → terms.left ≢ 0 → start ≡ start_of dir text → closed ≡ (terms.slash || has_slash text)
      → GoesOn texts terms.mode terms.left (arrived (Links at text)) (record { at = start; path = text; slash = closed; steady = terms.steady })
  link_goes text start closed followed some is behind =
      let looking = looking_texts texts in
      record {
        some = some;
        ends =
            link_if text true followed
            ∙ ap (ended texts terms.mode terms.steady) (onward-less looking terms.mode terms.left (start_of dir text) (components_of text) (terms.slash || has_slash text) some)
            ∙ ap (λ q. ended texts terms.mode terms.steady (walk_on looking terms.mode (terms.left - 1) q (components_of text) (terms.slash || has_slash text))) (sym is)
            ∙ ap (λ b. ended texts terms.mode terms.steady (walk_on looking terms.mode (terms.left - 1) start (components_of text) b)) (sym behind);
      }

  pub link_loops : (U : Type 0) (Q : U → Type 0) (text : List ℕ) (start : Text) (e : WalkErr) (r : Result U WalkErr) → is_followed terms.mode terms.slash ≡ true
      → IsFollowed terms.left start (Err e) → IsErr r → IsErrAnd r (λ f. f ≡ e) → Tells Q (arrived (Links at text)) r
  link_loops U Q text start (fault.Err e) r follows followed err same =
      let loops = ap (ended texts terms.mode terms.steady) (onward-none (looking_texts texts) terms.mode terms.left (start_of dir text) (components_of text) (terms.slash || has_slash text) followed.0) in
      tells_error {T = U} Q Q _ (fault.Err e) r (link_if text true follows ∙ loops ∙ ap (λ e. done (Err e)) (sym followed.1)) err same
  link_loops U Q text start fault.NoMemory r follows followed err same = tells_want Q _ r err same

  -- a link of the process directory
  jump_if : (lead : Option (Landing Text Text)) (b : Bool) → is_followed terms.mode terms.slash ≡ b
      → arrived (Jumps at lead) ≡ ended texts terms.mode terms.steady (if b then jumps_on terms.left (ends_landed terms.mode terms.slash) lead else ends (found_at dir at name false terms.slash))
  jump_if lead b e = ap (λ b. ended texts terms.mode terms.steady (if b then jumps_on terms.left (ends_landed terms.mode terms.slash) lead else ends (found_at dir at name false terms.slash))) e

  pub jump_kept : (lead : Option (Landing Text Text)) → is_followed terms.mode terms.slash ≡ false → arrived (Jumps at lead) ≡ ended_with terms.steady (named_at at terms.slash true)
  jump_kept lead e = jump_if lead false e ∙ kept_ended texts terms.steady dir at name false terms.mode terms.slash

  pub jump_lost : (U : Type 0) (Q : U → Type 0) (lead : Option (Landing Text Text)) (e : WalkErr) (r : Result U WalkErr) → is_followed terms.mode terms.slash ≡ true
      → IsJumped terms.left lead (Err e) → IsErr r → IsErrAnd r (λ f. f ≡ e) → Tells Q (arrived (Jumps at lead)) r
  jump_lost U Q lead (fault.Err e) r follows jumped err same =
      tells_error {T = U} Q Q _ (fault.Err e) r (jump_if lead true follows ∙ ap (ended texts terms.mode terms.steady) (jumped (ends_landed terms.mode terms.slash))) err same
  jump_lost U Q lead fault.NoMemory r follows jumped err same = tells_want Q _ r err same

  -- where it leads
  module _ (host guest : Text) (follows : is_followed terms.mode terms.slash ≡ true) (jumped : IsJumped terms.left (jump_at texts.bindings texts.peeked texts.tags host) (Ok guest)) where
    abbrev pub lead : Option (Landing Text Text)
    lead = jump_at texts.bindings texts.peeked texts.tags host

    pub landing : (l : Landing Text Text) × (lead ≡ Some l) × (l.place ≡ guest)
    landing = map_some (λ (l : Landing Text Text). l.place) lead guest jumped.1

    landed_on : arrived (Jumps at lead) ≡ ended texts terms.mode terms.steady (ends_landed terms.mode terms.slash landing.0)
    landed_on =
        jump_if lead true follows ∙ ap (λ o. ended texts terms.mode terms.steady (jumps_on terms.left (ends_landed terms.mode terms.slash) o)) landing.1
        ∙ ap (ended texts terms.mode terms.steady) (jumps_to terms.left (ends_landed terms.mode terms.slash) landing.0 jumped.0)

    pub lands : (wants_directory terms.mode terms.slash && not landing.0.is_dir) ≡ false → arrived (Jumps at lead) ≡ ended_with terms.steady (named_at guest terms.slash true)
    lands wants =
        let l = landing.0 in
        landed_on ∙ found_ended texts terms.steady l.dir l.found l.name true terms.mode terms.slash l.is_dir wants
        ∙ ap (λ at. ended_with terms.steady (named_at at terms.slash true)) ((jump_shows texts l host landing.1).0 ∙ landing.2)

    is_dir_told : landing.0.is_dir ≡ is_dir_kind (texts.peeked.kind (text_of (host_of texts.bindings guest)))
    is_dir_told = (jump_shows texts landing.0 host landing.1).1 ∙ ap (λ t. is_dir_kind (texts.peeked.kind (text_of (host_of texts.bindings t)))) landing.2

    -- no directory is asked for, or it is one
    pub lands_unasked : wants_directory terms.mode terms.slash ≡ false → arrived (Jumps at lead) ≡ ended_with terms.steady (named_at guest terms.slash true)
    lands_unasked none = lands (ap (λ w. w && not landing.0.is_dir) none)

    pub lands_in : is_dir_kind (texts.peeked.kind (text_of (host_of texts.bindings guest))) ≡ true → arrived (Jumps at lead) ≡ ended_with terms.steady (named_at guest terms.slash true)
    lands_in dir = lands (ap (λ d. wants_directory terms.mode terms.slash && not d) (is_dir_told ∙ dir) ∙ never (wants_directory terms.mode terms.slash))
      where
        never : (b : Bool) → (b && false) ≡ false
        never true = refl
        never false = refl

    pub lands_beside : wants_directory terms.mode terms.slash ≡ true → is_dir_kind (texts.peeked.kind (text_of (host_of texts.bindings guest))) ≡ false → arrived (Jumps at lead) ≡ done (Err ENOTDIR)
    lands_beside wants other =
        let l = landing.0 in
        let asks : (wants_directory terms.mode terms.slash && not l.is_dir) ≡ true = ap (λ w. w && not l.is_dir) wants ∙ ap not (is_dir_told ∙ other) in
        landed_on ∙ refused_ended texts terms.steady l.dir l.found l.name true terms.mode terms.slash l.is_dir asks

-- ---- along a path

module _ (texts : TextSurroundings) (terms : Terms) (unmet : Bool) (t : Text) where
  pub along_last : (c : Component) → told texts terms.mode terms.steady unmet (left_on texts terms.mode terms.left t (c ∷ []) terms.slash) ≡ told texts terms.mode (looked texts terms.steady t c) (looked texts unmet t c) (last_trail texts terms t c (look_text texts t c))
  along_last c = ap (told texts terms.mode terms.steady unmet) (walk-last (looking_texts texts) terms.mode terms.left t c terms.slash)

  pub along_middle : (c d : Component) (rest cs : List Component) → rest ≡ d ∷ cs
      → told texts terms.mode terms.steady unmet (left_on texts terms.mode terms.left t (c ∷ rest) terms.slash) ≡ told texts terms.mode (looked texts terms.steady t c) (looked texts unmet t c) (middle_trail texts terms t rest (look_text texts t c))
  along_middle c d rest cs e =
      ap (λ cs. told texts terms.mode terms.steady unmet (left_on texts terms.mode terms.left t (c ∷ cs) terms.slash)) e
      ∙ ap (told texts terms.mode terms.steady unmet) (walk-middle (looking_texts texts) terms.mode terms.left t c d cs terms.slash)
      ∙ ap (λ cs. told texts terms.mode (looked texts terms.steady t c) (looked texts unmet t c) (middle_trail texts terms t cs (look_text texts t c))) (sym e)

pub way_same : (texts : TextSurroundings) (mode : WalkMode) (left : ℕ) (whole same : Left) (r : Result Way WalkErr) → whole ≡ same → Tells (WayIs texts mode left whole) whole r → Tells (WayIs texts mode left same) same r
way_same texts mode left whole same r e h = let P : Left → Type 0 = λ whole. Tells (WayIs texts mode left whole) whole r in subst P e h

pub goes_same : (texts : TextSurroundings) (mode : WalkMode) (left : ℕ) (whole same : Left) (on : Onward) → whole ≡ same → GoesOn texts mode left whole on → GoesOn texts mode left same on
goes_same texts mode left whole same on e h = let P : Left → Type 0 = λ whole. GoesOn texts mode left whole on in subst P e h
