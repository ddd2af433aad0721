-- What is noted of a walk, one look at a time, and the looks that are left behind a step of it.
use Rattle.std.proofs.Common.{◌≡◌, ◌∙◌, ℕ, Bool, true, false, ◌&&◌, List, [], ◌∷◌, Result, Ok, Err, refl, ap, sym, subst}
use Rattle.std.specs.Bool.{if◌then◌else◌}
use Rattle.std.specs.Result.{IsErr, IsErrAnd}
use Rattle.pt_bind.specs.pr_base.Paths.{Component, Name}
use Rattle.pt_bind.specs.pr_base.Peeks.{IsNoted, SteadyIsNoJump}
use Rattle.pt_bind.specs.pr_base.Texts.{Text}
use Rattle.pt_bind.specs.pr_base.WalkFrame.{Fails, Missing, Jumps}
use Rattle.pt_bind.specs.pr_base.declared.errno.Errno.{Errno}
use Rattle.pt_bind.specs.pr_base.declared.path.Last.TheVariants as last
use Rattle.pt_bind.specs.pr_base.declared.peeks.PeekFault.{PeekFault}
use Rattle.pt_bind.specs.pr_base.declared.peeks.PeekFault.TheVariants as peek_fault
use Rattle.pt_bind.specs.pr_base.declared.peeks.PeekKind.{PeekKind}
use Rattle.pt_bind.specs.pr_base.declared.peeks.PeekKind.TheVariants as kind
use Rattle.pt_bind.specs.Binding.{host_of, names_of}
use Rattle.pt_canon.specs.Canon.{IsWalkNoted, error_of}
use Rattle.pt_canon.specs.Laws.{MayLook, host_bytes}
use Rattle.pt_canon.specs.LookedPaths.{paths_inside, paths_named, paths_searched}
use Rattle.pt_canon.specs.Looks.{IsDirectoryTold, IsItselfTold, sight_seen}
use Rattle.pt_canon.specs.Steadily.{EntryNoted, WasAsked, asked, entered, looked}
use Rattle.pt_canon.specs.Steps.{PassedNoted}
use Rattle.pt_canon.specs.TextWalk.{SeenText, TextSurroundings, in_directory, is_missing, itself_in, seen_kind, seen_link, seen_text}
use Rattle.pt_canon.specs.declared.canon.WalkErr.{WalkErr}
use Rattle.pt_canon.specs.declared.canon.WalkErr.TheVariants as fault
use Rattle.pt_canon.specs.declared.sight.Known.TheVariants as known
use Rattle.pt_canon.specs.declared.sight.Sight.TheVariants as sight
use Rattle.pt_canon.specs.declared.walk.Passed.{Passed}
use Rattle.pt_canon.specs.declared.walk.Way.TheVariants as way
use Rattle.pt_canon.proofs.LookLemmas.{seen_by}
use Rattle.pt_canon.proofs.SteadyLemmas.{looked_name}

-- ---- errors that are handed on

pub noted_error : {U : Type 0} (T : Type 0) (after new : Bool) (e : WalkErr) (r : Result U WalkErr) → IsWalkNoted {T = T} after new (Err e) → IsErr r → IsErrAnd r (λ f. f ≡ e) → IsWalkNoted after new r
noted_error T after new e (Ok x) noted err same = absurd cc
noted_error T after new e (Err fault.NoMemory) noted err same = tt
noted_error T after new fault.NoMemory (Err (fault.Err f)) noted err same = absurd cc
noted_error T after new (fault.Err e) (Err (fault.Err f)) noted err same = noted

pub noted_fault : {U : Type 0} (T : Type 0) (after new : Bool) (f : PeekFault) (r : Result U WalkErr) → IsNoted {T = T} after new (Err f) → IsErr r → IsErrAnd r (λ e. e ≡ error_of f) → IsWalkNoted after new r
noted_fault T after new f (Ok x) noted err same = absurd cc
noted_fault T after new f (Err fault.NoMemory) noted err same = tt
noted_fault T after new peek_fault.NoMemory (Err (fault.Err e)) noted err same = absurd cc
noted_fault T after new (peek_fault.Err f) (Err (fault.Err e)) noted err same = noted

-- where nothing was noted
pub none_noted : {T : Type 0} (after new : Bool) (r : Result T WalkErr) → new ≡ after → IsWalkNoted after new r
none_noted after new (Ok x) e = e
none_noted after new (Err (fault.Err f)) e = e
none_noted after new (Err fault.NoMemory) e = tt

pub passed_error : (texts : TextSurroundings) (after new : Bool) (r : Result Passed WalkErr) → new ≡ after → IsErr r → PassedNoted texts after new r
passed_error texts after new (Ok x) e err = absurd cc
passed_error texts after new (Err (fault.Err f)) e err = e
passed_error texts after new (Err fault.NoMemory) e err = tt

-- ---- a guest text that is gone into

pub and_asked : (met own : Bool) → (met ≡ true → own ≡ true) → (met && own) ≡ met
and_asked true own so = so refl
and_asked false own so = refl

pub never_steady : (met own : Bool) → (own ≡ true → ⊥) → (met && own) ≡ false
never_steady true true none = absurd (none refl)
never_steady true false none = refl
never_steady false own none = refl

-- once a name was met, it stays so
pub stays_met : (before one new own : Bool) → before ≡ false → one ≡ before → new ≡ (one && own) → new ≡ before
stays_met before one new own none e h = h ∙ ap (λ b. b && own) (e ∙ none) ∙ sym none

module _ (texts : TextSurroundings) (t : Text) where
  abbrev dir : Bool
  dir = texts.peeked.steady (host_bytes texts t)

  abbrev itself : Bool
  itself = texts.peeked.steady (itself_in (host_of texts.bindings t))

  pub open_entered : (old : Bool) → WasAsked texts t known.Open old → old ≡ entered texts old t
  open_entered true so = let were = so refl in sym (ap (λ b. b && itself) were.0 ∙ were.1)
  open_entered false so = refl

  pub directory_entered : (old : Bool) → WasAsked texts t known.Directory old → (old && itself) ≡ entered texts old t
  directory_entered old so = ap (λ b. b && itself) (sym (and_asked old dir so))

  -- nothing is looked up in what is no directory
  no_paths : (paths : List (List ℕ)) (e : Errno) (k : Result PeekKind Errno) → ((seen : SeenText) → in_directory k seen ≡ Fails e) → paths_inside texts.peeked (host_of texts.bindings t) k paths ≡ []
  no_paths paths e (Ok kind.Dir) told = let clash : Missing ≡ Fails e = told Missing in absurd cc
  no_paths paths e (Ok kind.File) told = refl
  no_paths paths e (Ok kind.Link) told = refl
  no_paths paths e (Ok kind.Jump) told = refl
  no_paths paths e (Err x) told = refl

  pub lost_noted : (host : List ℕ) (old new : Bool) (e : WalkErr) (r : Result (Unit {0}) WalkErr) → host ≡ host_bytes texts t → IsDirectoryTold (texts.peeked.kind host) (Err e)
      → IsWalkNoted {T = Unit {0}} (old && texts.peeked.steady host) new (Err e) → IsErr r → IsErrAnd r (λ f. f ≡ e) → EntryNoted texts t old new r
  lost_noted host old new e (Ok x) here told noted err same = absurd cc
  lost_noted host old new e (Err fault.NoMemory) here told noted err same = tt
  lost_noted host old new fault.NoMemory (Err (fault.Err f)) here told noted err same = absurd cc
  lost_noted host old new (fault.Err e) (Err (fault.Err f)) here told noted err same = λ c.
      let P : List ℕ → Type 0 = λ h. (seen : SeenText) → in_directory (texts.peeked.kind h) seen ≡ Fails e in
      noted ∙ ap (λ h. old && texts.peeked.steady h) here
      ∙ ap (asked texts.peeked.steady (old && dir)) (sym (no_paths (paths_named texts.bindings t c) e (texts.peeked.kind (host_bytes texts t)) (subst P here told)))

  -- by what was asked of the directory before
  pub itself_noted : (host : List ℕ) (old one new : Bool) (r : Result (Unit {0}) WalkErr) → texts.peeked.kind (host_bytes texts t) ≡ Ok kind.Dir → names_of host ≡ host_of texts.bindings t
      → IsItselfTold (texts.peeked.kind (itself_in (names_of host))) r → (one && itself) ≡ entered texts old t → IsWalkNoted (one && texts.peeked.steady (itself_in (names_of host))) new r → EntryNoted texts t old new r
  itself_noted host old one new (Ok x) is_dir names told is noted = noted ∙ ap (λ h. one && texts.peeked.steady (itself_in h)) names ∙ is
  itself_noted host old one new (Err (fault.Err e)) is_dir names told is noted = λ c.
      let own = host_of texts.bindings t in
      let paths = paths_named texts.bindings t c in
      let shut : texts.peeked.kind (itself_in own) ≡ Err e = ap (λ h. texts.peeked.kind (itself_in h)) (sym names) ∙ told in
      noted ∙ ap (λ h. one && texts.peeked.steady (itself_in h)) names ∙ is
      ∙ sym (ap (λ k. asked texts.peeked.steady old (host_bytes texts t ∷ paths_inside texts.peeked own k paths)) is_dir ∙ ap (λ k. asked texts.peeked.steady old (host_bytes texts t ∷ itself_in own ∷ paths_searched k paths)) shut)
  itself_noted host old one new (Err fault.NoMemory) is_dir names told is noted = tt

-- behind a look that fails, at the guest text or at a name in it
module _ (texts : TextSurroundings) (t : Text) (c : Component) (old : Bool) where
  pub lost_entry_noted : {U : Type 0} (new : Bool) (e : WalkErr) (r : Result U WalkErr) → EntryNoted texts t old new (Err e) → IsErr r → IsErrAnd r (λ f. f ≡ e) → IsWalkNoted (looked texts old t c) new r
  lost_entry_noted new e (Ok x) noted err same = absurd cc
  lost_entry_noted new e (Err fault.NoMemory) noted err same = tt
  lost_entry_noted new fault.NoMemory (Err (fault.Err f)) noted err same = absurd cc
  lost_entry_noted new (fault.Err e) (Err (fault.Err f)) noted err same = noted c

  pub unseen_noted : {U : Type 0} (T : Type 0) (one new : Bool) (name : List ℕ) (entry : Text) (e : WalkErr) (r : Result U WalkErr) → MayLook texts t → c ≡ Name name → entry ≡ name ∷ t → one ≡ entered texts old t
      → IsWalkNoted {T = T} (one && texts.peeked.steady (host_bytes texts entry)) new (Err e) → IsErr r → IsErrAnd r (λ f. f ≡ e) → IsWalkNoted (looked texts old t c) new r
  unseen_noted {U = U} T one new name entry e r may of is was noted err same =
      let own = texts.peeked.steady (host_bytes texts entry) in
      noted_error {U = U} T (looked texts old t c) new e r
      (subst (λ b. IsWalkNoted {T = T} b new (Err e)) (ap (λ b. b && own) was ∙ looked_name texts t old c name entry may of is) noted) err same

  passed_walk : (after new : Bool) (r : Result Passed WalkErr) → IsErr r → IsWalkNoted after new r → PassedNoted texts after new r
  passed_walk after new (Ok x) err noted = absurd cc
  passed_walk after new (Err (fault.Err e)) err noted = noted
  passed_walk after new (Err fault.NoMemory) err noted = tt

  pub passed_lost_noted : (new : Bool) (e : WalkErr) (r : Result Passed WalkErr) → EntryNoted texts t old new (Err e) → IsErr r → IsErrAnd r (λ f. f ≡ e) → PassedNoted texts (looked texts old t c) new r
  passed_lost_noted new e r noted err same = passed_walk (looked texts old t c) new r err (lost_entry_noted new e r noted err same)

  pub passed_unseen_noted : (T : Type 0) (one new : Bool) (name : List ℕ) (entry : Text) (e : WalkErr) (r : Result Passed WalkErr) → MayLook texts t → c ≡ Name name → entry ≡ name ∷ t → one ≡ entered texts old t
      → IsWalkNoted {T = T} (one && texts.peeked.steady (host_bytes texts entry)) new (Err e) → IsErr r → IsErrAnd r (λ f. f ≡ e) → PassedNoted texts (looked texts old t c) new r
  passed_unseen_noted T one new name entry e r may of is was noted err same = passed_walk (looked texts old t c) new r err (unseen_noted T one new name entry e r may of is was noted err same)

-- ---- what stands at a guest text

module _ (texts : TextSurroundings) (t : Text) where
  no_link : (r : Result (List ℕ) Errno) → seen_link t r ≡ sight_seen texts t sight.Jumps → ⊥
  no_link (Ok text) e = absurd cc
  no_link (Err x) e = absurd cc

  no_error : (x : Errno) (b : Bool) → (if b then Missing else Fails x) ≡ sight_seen texts t sight.Jumps → ⊥
  no_error x true e = absurd cc
  no_error x false e = absurd cc

  jumps_kind : (k : Result PeekKind Errno) → seen_kind texts t (host_of texts.bindings t) k ≡ sight_seen texts t sight.Jumps → k ≡ Ok kind.Jump
  jumps_kind (Ok kind.Dir) e = absurd cc
  jumps_kind (Ok kind.File) e = absurd cc
  jumps_kind (Ok kind.Link) e = absurd (no_link (texts.peeked.link_text (host_bytes texts t)) e)
  jumps_kind (Ok kind.Jump) e = refl
  jumps_kind (Err x) e = absurd (no_error x (is_missing x) e)

  -- a link of the process directory is found by a name in it
  pub jump_met : (old new : Bool) → SteadyIsNoJump texts.peeked → seen_text texts t ≡ sight_seen texts t sight.Jumps → new ≡ (old && texts.peeked.steady (host_bytes texts t)) → new ≡ false
  jump_met old new no_jump seen noted =
      let jumps = jumps_kind (texts.peeked.kind (host_bytes texts t)) (sym (seen_by texts t (texts.peeked.kind (host_bytes texts t)) refl) ∙ seen) in
      noted ∙ never_steady old (texts.peeked.steady (host_bytes texts t)) (λ steady. no_jump (host_bytes texts t) steady jumps)
