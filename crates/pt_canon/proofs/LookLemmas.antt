-- Looking at a component from a guest text.
use Rattle.std.proofs.Common.{◌≡◌, ◌≢◌, ap, ◌∙◌, sym, subst, Bool, true, false, List, ℕ, ◌∷◌, Result, Ok, Err, refl, arith}
use Rattle.std.specs.Bool.{if◌then◌else◌}
use Rattle.std.specs.Result.{IsErr, IsErrAnd}
use Rattle.pt_bind.specs.pr_base.Paths.{Component, Dot, DotDot, Name, text_of}
use Rattle.pt_bind.specs.pr_base.Texts.{Text}
use Rattle.pt_bind.specs.pr_base.WalkFrame.{Fails, Missing, Leads}
use Rattle.pt_bind.specs.pr_base.declared.errno.Errno.{Errno}
use Rattle.pt_bind.specs.pr_base.declared.errno.Errno.TheVariants.{ENOENT, ENOTDIR}
use Rattle.pt_bind.specs.pr_base.declared.peeks.PeekKind.{PeekKind}
use Rattle.pt_bind.specs.pr_base.declared.peeks.PeekKind.TheVariants as kind
use Rattle.pt_bind.specs.Binding.{host_of, names_of}
use Rattle.pt_canon.specs.TextWalk.{TextSurroundings, SeenText, itself_in, in_directory, where_found, inside_text, is_missing, look_text, seen_text, seen_error, seen_kind, seen_link}
use Rattle.pt_canon.specs.Laws.{host_bytes, MayLook, TextsAreLookedAt}
use Rattle.pt_canon.specs.Looks.{IsDirectoryTold, IsItselfTold, IsEntered, IsSeen}
use Rattle.pt_canon.specs.declared.canon.WalkErr.{WalkErr}
use Rattle.pt_canon.specs.declared.canon.WalkErr.TheVariants as fault
use Rattle.pt_canon.specs.declared.sight.Sight.{Sight}

pub beside_directory : (k : PeekKind) (seen : SeenText) → k ≢ kind.Dir → in_directory (Ok k) seen ≡ Fails ENOTDIR
beside_directory kind.Dir seen other = absurd (other refl)
beside_directory kind.File seen other = refl
beside_directory kind.Link seen other = refl
beside_directory kind.Jump seen other = refl

pub other_error : (e : Errno) → e ≢ ENOENT → seen_error e ≡ Fails e
other_error e other = grind arith

module _ (texts : TextSurroundings) (t : Text) where
  abbrev itself : Result PeekKind Errno
  itself = texts.peeked.kind (itself_in (host_of texts.bindings t))

  -- a look goes by two peeks
  pub looked : (c : Component) → look_text texts t c ≡ in_directory (texts.peeked.kind (host_bytes texts t)) (where_found itself (inside_text texts t c))
  unfolding look_text
  looked c = refl

  pub looked_by : (c : Component) (k : Result PeekKind Errno) → texts.peeked.kind (host_bytes texts t) ≡ k → look_text texts t c ≡ in_directory k (where_found itself (inside_text texts t c))
  looked_by c k e = looked c ∙ ap (λ k. in_directory k (where_found itself (inside_text texts t c))) e

  -- in a directory that may be searched it shows what is inside
  pub open_look : (c : Component) → MayLook texts t → look_text texts t c ≡ inside_text texts t c
  open_look c may = looked_by c (Ok kind.Dir) may.dir ∙ ap (λ k. where_found k (inside_text texts t c)) may.searched

  pub entered_itself : (host : List ℕ) (r : Result (Unit {0}) WalkErr) → texts.peeked.kind (host_bytes texts t) ≡ Ok kind.Dir → names_of host ≡ host_of texts.bindings t
      → IsItselfTold (texts.peeked.kind (itself_in (names_of host))) r → IsEntered texts t r
  entered_itself host (Ok x) dir names told = record { dir = dir; itself = told.0; searched = ap (λ h. texts.peeked.kind (itself_in h)) (sym names) ∙ told.1 }
  entered_itself host (Err (fault.Err e)) dir names told = λ c.
      looked_by c (Ok kind.Dir) dir ∙ ap (λ k. where_found k (inside_text texts t c)) (ap (λ h. texts.peeked.kind (itself_in h)) (sym names) ∙ told)
  entered_itself host (Err fault.NoMemory) dir names told = tt

  pub not_entered : (host : List ℕ) (e : WalkErr) (r : Result (Unit {0}) WalkErr) → host ≡ host_bytes texts t → IsDirectoryTold (texts.peeked.kind host) (Err e) → IsErr r → IsErrAnd r (λ f. f ≡ e) → IsEntered texts t r
  not_entered host e (Ok x) here told err same = absurd cc
  not_entered host (fault.Err e) (Err fault.NoMemory) here told err same = absurd cc
  not_entered host e (Err fault.NoMemory) here told err same = tt
  not_entered host fault.NoMemory (Err (fault.Err f)) here told err same = absurd cc
  not_entered host (fault.Err e) (Err (fault.Err f)) here told err same = λ c.
      let one : f ≡ e = cc in
      looked c ∙ ap (λ h. in_directory (texts.peeked.kind h) (where_found itself (inside_text texts t c))) (sym here) ∙ told (where_found itself (inside_text texts t c)) ∙ ap Fails (sym one)

  -- what stands at a text is seen by a peek
  pub seen_by : (k : Result PeekKind Errno) → texts.peeked.kind (host_bytes texts t) ≡ k → seen_text texts t ≡ seen_kind texts t (host_of texts.bindings t) k
  unfolding seen_text
  seen_by k e = ap (seen_kind texts t (host_of texts.bindings t)) e

  -- a directory alone is seen as one
  pub seen_dir : seen_text texts t ≡ Leads true t t → texts.peeked.kind (host_bytes texts t) ≡ Ok kind.Dir
  seen_dir e = by_kind (texts.peeked.kind (host_bytes texts t)) (sym (seen_by (texts.peeked.kind (host_bytes texts t)) refl) ∙ e)
    where
      no_link : (r : Result (List ℕ) Errno) → seen_link t r ≡ Leads true t t → ⊥
      no_link (Ok text) e = absurd cc
      no_link (Err x) e = absurd cc

      no_error : (x : Errno) (b : Bool) → (if b then Missing else Fails x) ≡ Leads true t t → ⊥
      no_error x true e = absurd cc
      no_error x false e = absurd cc

      by_kind : (k : Result PeekKind Errno) → seen_kind texts t (host_of texts.bindings t) k ≡ Leads true t t → k ≡ Ok kind.Dir
      by_kind (Ok kind.Dir) e = refl
      by_kind (Ok kind.File) e = absurd cc
      by_kind (Ok kind.Link) e = absurd (no_link (texts.peeked.link_text (text_of (host_of texts.bindings t))) e)
      by_kind (Ok kind.Jump) e = absurd cc
      by_kind (Err x) e = absurd (no_error x (is_missing x) e)

  pub seen_same : (told : Result PeekKind Errno) (r : Result Sight WalkErr) → texts.peeked.kind (host_bytes texts t) ≡ told → IsSeen texts t (seen_kind texts t (host_of texts.bindings t) told) r → IsSeen texts t (seen_text texts t) r
  seen_same told r e h = let P : SeenText → Type 0 = λ seen. IsSeen texts t seen r in subst P (sym (seen_by told e)) h

module _ (texts : TextSurroundings) (t : Text) where
  named : (name : List ℕ) → MayLook texts t → (k : Result PeekKind Errno) → texts.peeked.kind (host_bytes texts (name ∷ t)) ≡ k → look_text texts t (Name name) ≡ seen_kind texts (name ∷ t) (host_of texts.bindings (name ∷ t)) k
  named name may k e = open_look texts t (Name name) may ∙ seen_by texts (name ∷ t) k e

pub texts_are_looked_at : TextsAreLookedAt
texts_are_looked_at texts t = record {
  lost = λ c e h. looked_by texts t c (Err e) h;
  beside = λ c k h other. looked_by texts t c (Ok k) h ∙ beside_directory k (where_found (itself texts t) (inside_text texts t c)) other;
  closed = λ c e dir h. looked_by texts t c (Ok kind.Dir) dir ∙ ap (λ k. where_found k (inside_text texts t c)) h;
  dot = λ may. open_look texts t Dot may;
  dot_dot = λ may. open_look texts t DotDot may;
  directory = λ name may h. named texts t name may (Ok kind.Dir) h;
  file = λ name may h. named texts t name may (Ok kind.File) h;
  link = λ name text may h e. named texts t name may (Ok kind.Link) h ∙ ap (seen_link (name ∷ t)) e;
  no_text = λ name e may h l. named texts t name may (Ok kind.Link) h ∙ ap (seen_link (name ∷ t)) l;
  jump = λ name may h. named texts t name may (Ok kind.Jump) h;
  missing = λ name may h. named texts t name may (Err ENOENT) h;
  fails = λ name e may h other. named texts t name may (Err e) h ∙ other_error e other;
}
