-- Walks over guest texts end at texts of bytes.
use Rattle.std.proofs.Common.{ℕ, zero, suc, Bool, true, false, ◌||◌, List, [], ◌∷◌, ◌++◌, cond, Option, Some, None}
use Rattle.std.specs.Prelude.{Err, IfOk, IfSome, Ok, Result}
use Rattle.std.specs.Option.{unwrap_or}
use Rattle.pr_top.specs.pr_base.Paths.{Component, components_of, has_slash, is_absolute}
use Rattle.pr_top.specs.pr_base.Texts.{Text}
use Rattle.pr_top.specs.pr_base.WalkFrame.{Fails, Jumps, Landing, Leads, Links, Missing, Onward, Target, Trail, along, at_last, begins_at, ends, ends_found, ends_landed, fails, in_middle, is_followed, jumps_on, landed, loops, may_be_free, most_links, target_at, walk_on, wants_directory}
use Rattle.pr_top.specs.pr_base.declared.errno.Errno.{Errno}
use Rattle.pr_top.specs.pr_base.declared.errno.Errno.TheVariants.{ENOENT, ENOTDIR}
use Rattle.pr_top.specs.pr_base.declared.path.Last.{Last}
use Rattle.pr_top.specs.pr_base.declared.path.Last.TheVariants as last
use Rattle.pr_top.specs.pr_base.declared.path.WalkMode.{WalkMode}
use Rattle.law_starts.specs.pt_bind.Binding.{host_of}
use Rattle.law_starts.specs.pt_canon.Canon.{canon_of, canon_result, entry_text, guest_text}
use Rattle.law_starts.specs.pt_canon.TextWalk.{SeenText, TextSurroundings, look_text, looking_texts, text_walk}
use Rattle.law_starts.specs.pt_canon.declared.canon.Canon.{Canon}
use Rattle.pr_top.specs.kr_tree.Lawful.{AreBytes}
use Rattle.law_starts.proofs.law_allowed.PieceLemmas.{all-append}
use Rattle.law_starts.specs.law_kept.Bytes.{AreAllBytes}
use Rattle.law_starts.proofs.law_kept.NameLemmas.{text-bytes}
use Rattle.law_machines.proofs.LookLemmas.{AreOfBytes, LandsOnBytes, SeesBytes, looks-see-bytes}
use Rattle.law_machines.proofs.TextLemmas.{AreNamedByBytes, IsNamedByBytes, components-bytes, host-names}

record EndsAtBytes (t : Target Text Text) : Type 0 where
  dir : AreAllBytes t.dir
  name : AreBytes t.name
  found : IfSome t.found AreAllBytes

abbrev Ends : Trail Text Text → Type 0
Ends trail = IfOk trail.answer EndsAtBytes

either-trail : (b : Bool) (x y : Trail Text Text) → Ends x → Ends y → Ends (cond b x y)
either-trail true x y first second = first
either-trail false x y first second = second

module _ (texts : TextSurroundings) (of_bytes : AreOfBytes texts) where
  -- what comes after a link that is followed
  abbrev Goes : Onward Text Text → Type 0
  Goes again = (s : Text) (cs : List Component) (slash : Bool) → AreAllBytes s → AreNamedByBytes cs → Ends (again s cs slash)

  begun : (s : Text) (path : List ℕ) → AreAllBytes s → AreAllBytes (begins_at (looking_texts texts) s path)
  begun s path are = by (is_absolute path)
    where
      by : (b : Bool) → AreAllBytes (cond b [] s)
      by true = tt
      by false = are

  jump-ends : (left : ℕ) (go : Landing Text Text → Trail Text Text) (lead : Option (Landing Text Text)) → IfSome lead LandsOnBytes → ((l : Landing Text Text) → LandsOnBytes l → Ends (go l)) → Ends (jumps_on left go lead)
  jump-ends zero go lead is each = tt
  jump-ends (suc left) go None is each = tt
  jump-ends (suc left) go (Some l) is each = each l is

  module _ (mode : WalkMode) (left : ℕ) (again : Onward Text Text) (goes : Goes again) where
    found-ends : (is_dir : Bool) (t : Target Text Text) → EndsAtBytes t → Ends (ends_found mode is_dir t)
    found-ends is_dir t own = either-trail (wants_directory mode t.slash) (cond is_dir (ends t) (fails ENOTDIR)) (ends t) (either-trail is_dir (ends t) (fails ENOTDIR) own tt) own

    last-ends : (s : Text) (c : Component) (slash : Bool) (seen : SeenText) → AreAllBytes s → IsNamedByBytes c → SeesBytes seen → Ends (at_last (looking_texts texts) mode left again s c slash seen)
    last-ends s c slash (Fails e) are own sees = tt
    last-ends s c slash Missing are own sees = either-trail (may_be_free mode) (ends (target_at s c slash None)) (fails ENOENT) (record { dir = are; name = own; found = tt }) tt
    last-ends s c slash (Leads is_dir q f) are own sees = found-ends is_dir (target_at s c slash (Some f)) (record { dir = are; name = own; found = sees.1 })
    last-ends s c slash (Links f text) are own sees =
        either-trail (is_followed mode slash) (again (begins_at (looking_texts texts) s text) (components_of text) (slash || has_slash text)) (ends (target_at s c slash (Some f)))
        (goes (begins_at (looking_texts texts) s text) (components_of text) (slash || has_slash text) (begun s text are) (components-bytes text sees.1)) (record { dir = are; name = own; found = sees.0 })
    last-ends s c slash (Jumps f lead) are own sees =
        either-trail (is_followed mode slash) (jumps_on left (ends_landed mode slash) lead) (ends (target_at s c slash (Some f)))
        (jump-ends left (ends_landed mode slash) lead sees.1 (λ l lands. found-ends l.is_dir (landed l slash) (record { dir = lands.dir; name = lands.name; found = lands.found }))) (record { dir = are; name = own; found = sees.0 })

    middle-ends : (s : Text) (rest : List Component) (slash : Bool) (go : Text → Trail Text Text) (seen : SeenText) → AreAllBytes s → AreNamedByBytes rest → SeesBytes seen → ((q : Text) → AreAllBytes q → Ends (go q))
        → Ends (in_middle (looking_texts texts) left again s rest slash go seen)
    middle-ends s rest slash go (Fails e) are named sees each = tt
    middle-ends s rest slash go Missing are named sees each = tt
    middle-ends s rest slash go (Leads is_dir q f) are named sees each = each q sees.0
    middle-ends s rest slash go (Links f text) are named sees each =
        goes (begins_at (looking_texts texts) s text) (components_of text ++ rest) slash (begun s text are) (all-append IsNamedByBytes (components_of text) rest (components-bytes text sees.1) named)
    middle-ends s rest slash go (Jumps f lead) are named sees each = jump-ends left (λ l. again l.place rest slash) lead sees.1 (λ l lands. goes l.place rest slash lands.place named)

    along-ends : (cs : List Component) (s : Text) (slash : Bool) → AreAllBytes s → AreNamedByBytes cs → Ends (along (looking_texts texts) mode left again s cs slash)
    along-ends [] s slash are named = record { dir = are; name = tt; found = are }
    along-ends (c ∷ []) s slash are named = last-ends s c slash (look_text texts s c) are named.0 (looks-see-bytes texts of_bytes s c are named.0)
    along-ends (c ∷ d ∷ cs) s slash are named =
        middle-ends s (d ∷ cs) slash (λ q. along (looking_texts texts) mode left again q (d ∷ cs) slash) (look_text texts s c) are named.1 (looks-see-bytes texts of_bytes s c are named.0) (λ q own. along-ends (d ∷ cs) q slash own named.1)

  walk-ends : (mode : WalkMode) (left : ℕ) → Goes (walk_on (looking_texts texts) mode left)
  unfolding walk_on
  walk-ends mode zero s cs slash are named = along-ends mode zero loops (λ s cs slash are named. tt) cs s slash are named
  walk-ends mode (suc left) s cs slash are named = along-ends mode (suc left) (walk_on (looking_texts texts) mode left) (walk-ends mode left) cs s slash are named

-- ---- what a walk answers

pub record CanonHasBytes (c : Canon) : Type 0 where
  pub guest : AreBytes c.guest
  pub host : AreBytes c.host

found-or : (o : Option Text) (t : Text) → IfSome o AreAllBytes → AreAllBytes t → AreAllBytes (unwrap_or o t)
found-or None t is are = are
found-or (Some found) t is are = is

entry-names : (l : Last) (target : Target Text Text) → EndsAtBytes target → AreAllBytes (entry_text l target)
entry-names last.Name target own = found-or target.found (target.name ∷ target.dir) own.found (own.name, own.dir)
entry-names last.Dot target own = own.dir
entry-names last.DotDot target own = own.dir
entry-names last.Root target own = own.dir

guest-text-names : (free : Bool) (target : Target Text Text) → EndsAtBytes target → AreAllBytes (guest_text free target)
guest-text-names true target own = entry-names target.last target own
guest-text-names false target own = found-or target.found target.dir own.found own.dir

pub canons-have-bytes : (texts : TextSurroundings) → AreOfBytes texts → (mode : WalkMode) (base : Text) (path : List ℕ) → AreAllBytes base → AreBytes path → IfOk (canon_of texts mode base path) CanonHasBytes
canons-have-bytes texts of_bytes mode base path are path_are =
    by (text_walk texts mode base path).answer (walk-ends texts of_bytes mode most_links (begins_at (looking_texts texts) base path) (components_of path) (has_slash path) (begun texts of_bytes base path are) (components-bytes path path_are))
  where
    by : (r : Result (Target Text Text) Errno) → IfOk r EndsAtBytes → IfOk (canon_result texts.bindings mode r) CanonHasBytes
    by (Err e) own = tt
    by (Ok target) own =
        let names = guest-text-names (may_be_free mode) target own in
        record { guest = text-bytes (guest_text (may_be_free mode) target) names; host = text-bytes (host_of texts.bindings (guest_text (may_be_free mode) target)) (host-names texts.bindings of_bytes.rows (guest_text (may_be_free mode) target) names) }
