-- Looking at guest texts of bytes shows texts of bytes, where what a tracer goes by is of bytes.
use Rattle.std.proofs.Common.{ℕ, Bool, true, false, List, [], ◌∷◌, cond, Option, Some, None}
use Rattle.std.specs.Prelude.{Err, IfOk, IfSome, Ok, Result}
use Rattle.std.specs.List.{AllByRecursion}
use Rattle.std.specs.Option.{option_and_then}
use Rattle.pr_top.specs.pr_base.Paths.{Component, Dot, DotDot, Name, text_of}
use Rattle.pr_top.specs.pr_base.Texts.{Text}
use Rattle.pr_top.specs.pr_base.WalkFrame.{Fails, Jumps, Landing, Leads, Links, Missing}
use Rattle.pr_top.specs.pr_base.declared.errno.Errno.{Errno}
use Rattle.pr_top.specs.pr_base.declared.peeks.PeekKind.{PeekKind}
use Rattle.pr_top.specs.pr_base.declared.peeks.PeekKind.TheVariants as kind
use Rattle.law_starts.specs.pt_bind.Binding.{host_of, names_of}
use Rattle.law_starts.specs.pt_bind.Tags.{tag_of}
use Rattle.law_starts.specs.pt_bind.declared.slot.Slot.TheVariants as slot
use Rattle.law_starts.specs.pt_canon.ProcessLinks.{above, head_of, is_dir_kind, jump_at, landing_of, landing_of_guest, landing_of_name, link_at, link_guest, link_name, text_landing}
use Rattle.law_starts.specs.pt_canon.TextWalk.{SeenText, TextSurroundings, in_directory, inside_text, is_missing, itself_in, look_text, seen_error, seen_kind, seen_link, seen_text, where_found}
use Rattle.law_starts.specs.pt_canon.declared.link.ProcessLink.{ProcessLink}
use Rattle.law_starts.specs.pt_canon.declared.link.ProcessLink.TheVariants.{Cwd, Exe, Fd, Root}
use Rattle.pr_top.specs.kr_tree.Lawful.{AreBytes}
use Rattle.law_starts.specs.law_kept.Bytes.{AreAllBytes}
use Rattle.law_starts.proofs.law_kept.NameLemmas.{if-mapped, if-then}
use Rattle.law_machines.proofs.PeekLemmas.{TellsBytes}
use Rattle.law_machines.proofs.TextLemmas.{IsByteRow, IsNamedByBytes, guest-names, names-bytes}

-- ---- what is seen

pub record LandsOnBytes (l : Landing Text Text) : Type 0 where
  pub place : AreAllBytes l.place
  pub found : AreAllBytes l.found
  pub dir : AreAllBytes l.dir
  pub name : AreBytes l.name

abbrev pub SeesBytes : SeenText → Type 0
SeesBytes (Fails e) = Unit {0}
SeesBytes Missing = Unit {0}
SeesBytes (Leads is_dir q found) = AreAllBytes q × AreAllBytes found
SeesBytes (Links found text) = AreAllBytes found × AreBytes text
SeesBytes (Jumps found lead) = AreAllBytes found × IfSome lead LandsOnBytes

-- what a tracer goes by
pub record AreOfBytes (texts : TextSurroundings) : Type 0 where
  pub rows : AllByRecursion IsByteRow texts.bindings
  pub tells : TellsBytes texts.peeked

above-names : (t : Text) → AreAllBytes t → AreAllBytes (above t)
above-names [] are = tt
above-names (name ∷ t) are = are.1

head-name : (t : Text) → AreAllBytes t → AreBytes (head_of t)
head-name [] are = tt
head-name (name ∷ t) are = are.0

landing-bytes : (d : Bool) (guest name : Text) → AreAllBytes guest → AreAllBytes name → LandsOnBytes (text_landing d guest name)
landing-bytes true guest name are own = record { place = are; found = are; dir = are; name = tt }
landing-bytes false guest name are own = record { place = are; found = are; dir = above-names guest are; name = head-name name own }

module _ (texts : TextSurroundings) (of_bytes : AreOfBytes texts) where
  -- ---- links of the process directory

  guest-bytes : (link : ProcessLink) (name : Text) → AreAllBytes name → IfSome (link_guest texts.bindings texts.tags link name) AreAllBytes
  guest-bytes (Cwd pid) name are = guest-names texts.bindings of_bytes.rows (tag_of texts.tags pid slot.Cwd) name are
  guest-bytes (Exe pid) name are = guest-names texts.bindings of_bytes.rows (tag_of texts.tags pid slot.Exe) name are
  guest-bytes (Root pid) name are = tt
  guest-bytes (Fd pid fd) name are = guest-names texts.bindings of_bytes.rows (tag_of texts.tags pid (slot.Fd fd)) name are

  named-bytes : (link : ProcessLink) → IfSome (link_name texts.peeked link) AreAllBytes
  named-bytes (Cwd pid) = if-mapped AreBytes AreAllBytes names_of (texts.peeked.cwd_name pid) names-bytes (of_bytes.tells.cwd_name pid)
  named-bytes (Exe pid) = if-mapped AreBytes AreAllBytes names_of (texts.peeked.exe_name pid) names-bytes (of_bytes.tells.exe_name pid)
  named-bytes (Root pid) = tt
  named-bytes (Fd pid fd) = if-mapped AreBytes AreAllBytes names_of (texts.peeked.base_name pid fd) names-bytes (of_bytes.tells.base_name pid fd)

  link-lands : (link : ProcessLink) → IfSome (landing_of texts.bindings texts.peeked texts.tags link) LandsOnBytes
  unfolding landing_of
  link-lands link =
      if-then AreAllBytes LandsOnBytes (landing_of_name texts.bindings texts.peeked texts.tags link) (link_name texts.peeked link)
      (λ name are. if-mapped AreAllBytes LandsOnBytes (landing_of_guest texts.bindings texts.peeked name) (link_guest texts.bindings texts.tags link name)
      (λ guest own. landing-bytes (is_dir_kind (texts.peeked.kind (text_of (host_of texts.bindings guest)))) guest name own are) (guest-bytes link name are)) (named-bytes link)

  jump-lands : (host : Text) → IfSome (jump_at texts.bindings texts.peeked texts.tags host) LandsOnBytes
  unfolding jump_at
  jump-lands host = by (link_at host)
    where
      by : (o : Option ProcessLink) → IfSome (option_and_then (landing_of texts.bindings texts.peeked texts.tags) o) LandsOnBytes
      by None = tt
      by (Some link) = link-lands link

  -- ---- a text

  error-seen : (e : Errno) → SeesBytes (seen_error e)
  error-seen e = by (is_missing e)
    where
      by : (b : Bool) → SeesBytes (cond b Missing (Fails e))
      by true = tt
      by false = tt

  link-seen : (t : Text) (r : Result (List ℕ) Errno) → AreAllBytes t → IfOk r AreBytes → SeesBytes (seen_link t r)
  link-seen t (Ok text) are own = (are, own)
  link-seen t (Err e) are own = tt

  kind-seen : (t host : Text) (r : Result PeekKind Errno) → AreAllBytes t → SeesBytes (seen_kind texts t host r)
  kind-seen t host (Ok kind.Dir) are = (are, are)
  kind-seen t host (Ok kind.File) are = (are, are)
  kind-seen t host (Ok kind.Link) are = link-seen t (texts.peeked.link_text (text_of host)) are (of_bytes.tells.link_text (text_of host))
  kind-seen t host (Ok kind.Jump) are = (are, jump-lands host)
  kind-seen t host (Err e) are = error-seen e

  text-seen : (t : Text) → AreAllBytes t → SeesBytes (seen_text texts t)
  unfolding seen_text
  text-seen t are = kind-seen t (host_of texts.bindings t) (texts.peeked.kind (text_of (host_of texts.bindings t))) are

  inside-seen : (t : Text) (c : Component) → AreAllBytes t → IsNamedByBytes c → SeesBytes (inside_text texts t c)
  inside-seen t Dot are own = (are, are)
  inside-seen t DotDot are own = (above-names t are, above-names t are)
  inside-seen t (Name name) are own = text-seen (name ∷ t) (own, are)

  in-directory : (r : Result PeekKind Errno) (seen : SeenText) → SeesBytes seen → SeesBytes (in_directory r seen)
  in-directory (Ok kind.Dir) seen sees = sees
  in-directory (Ok kind.File) seen sees = tt
  in-directory (Ok kind.Link) seen sees = tt
  in-directory (Ok kind.Jump) seen sees = tt
  in-directory (Err e) seen sees = tt

  searched : (r : Result PeekKind Errno) (seen : SeenText) → SeesBytes seen → SeesBytes (where_found r seen)
  searched (Ok k) seen sees = sees
  searched (Err e) seen sees = tt

  pub looks-see-bytes : (t : Text) (c : Component) → AreAllBytes t → IsNamedByBytes c → SeesBytes (look_text texts t c)
  unfolding look_text
  looks-see-bytes t c are own =
      let host = host_of texts.bindings t in
      in-directory (texts.peeked.kind (text_of host)) (where_found (texts.peeked.kind (itself_in host)) (inside_text texts t c))
      (searched (texts.peeked.kind (itself_in host)) (inside_text texts t c) (inside-seen t c are own))
