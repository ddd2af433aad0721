-- readlinkat(2) of a link of the process directory, answered by a tracer.
use Rattle.std.proofs.Common.{◌≡◌, ℕ, ℤ, Bool, true, false, List, [], ◌∷◌, Option, Some, None, Result, Ok, Err, refl, sym, ap, subst, ◌∙◌, pos}
use Rattle.std.specs.Bool.{if◌then◌else◌}
use Rattle.std.specs.Option.{option_map_or}
use Rattle.law_edits.specs.pr_base.Paths.{is_absolute, text_of}
use Rattle.law_edits.specs.pr_base.Texts.{Text}
use Rattle.law_edits.specs.pr_base.WalkFrame.{Landing}
use Rattle.law_edits.specs.pr_base.declared.errno.Errno.{Errno}
use Rattle.law_edits.specs.pr_base.declared.errno.Errno.TheVariants.{ENOENT}
use Rattle.law_edits.specs.pr_base.declared.path.WalkMode.TheVariants as modes
use Rattle.law_edits.specs.pr_base.declared.peeks.PeekKind.TheVariants as kind
use Rattle.law_edits.proofs.pr_base.PathLemmas.{names_are_parts}
use Rattle.law_edits.specs.pt_args.declared.edit.Edit.{Edit}
use Rattle.law_edits.specs.pt_args.declared.edit.Edit.TheVariants.{Cancel}
use Rattle.law_edits.specs.pt_bind.Binding.{names_of}
use Rattle.law_edits.specs.pt_bind.Tags.{TagTable}
use Rattle.law_edits.proofs.pt_bind.ByteLemmas.{names_written}
use Rattle.law_places.specs.pt_canon.TextWalk.{TextSurroundings}
use Rattle.law_places.specs.pt_canon.declared.canon.Canon.{Canon}
use Rattle.law_places.specs.pt_canon.declared.link.ProcessLink.{ProcessLink}
use Rattle.law_places.specs.pt_canon.declared.link.ProcessLink.TheVariants as process_link
use Rattle.law_edits.specs.pt_results.Answers.{jump_answer, kind_answer, lead_answer, link_answer, nowhere_answer, walked_answer}
use Rattle.law_edits.specs.pt_faker.Stopping.{memory_at}
use Rattle.law_edits.specs.pt_tracer.Watched.{applied}
use Rattle.law_edits.specs.rv_mem.Actions.{AreEqualUnmarked, carried_out}
use Rattle.law_edits.specs.rv_mem.Memory.{Memory}
use Rattle.law_edits.specs.kr_calls.PathTable.{PathUse}
use Rattle.law_edits.specs.kr_calls.declared.request.Request.{Request}
use Rattle.law_edits.specs.kr_calls.declared.request.Request.TheVariants as call
use Rattle.law_places.specs.kr_tree.Tree.{Body, Directory, ProcessDirectory, RegularFile, SymbolicLink, body}
use Rattle.law_places.specs.kr_tree.declared.place.Host.{Host}
use Rattle.law_places.specs.kr_tree.declared.place.Host.TheVariants.{Node, Proc}
use Rattle.law_places.specs.kr_tree.declared.place.Place.{Place}
use Rattle.law_places.specs.kr_tree.declared.place.ProcAt.{ProcAt}
use Rattle.law_places.specs.kr_tree.declared.place.ProcAt.TheVariants.{SelfLink, Dir, Cwd, Root, Exe, FdDir, Fd}
use Rattle.law_places.specs.kr_view.declared.procs.Lead.{Lead}
use Rattle.law_places.specs.kr_view.declared.procs.Lead.TheVariants as ways
use Rattle.law_places.specs.kr_view.Component.{is_process_directory, seen_at, seen_body, seen_link, shows_directory}
use Rattle.law_places.specs.kr_view.HostReach.{host_place}
use Rattle.law_places.specs.kr_view.View.{Row, plain, root_place}
use Rattle.law_places.proofs.kr_view.ArrivalLemmas.{text_found}
use Rattle.law_places.specs.kr_mounts.Standing.{texts_of}
use Rattle.law_places.specs.kr_model.AttributeRows.{readlink_host, readlinkat_row, tell_text}
use Rattle.law_places.specs.kr_model.HostView.{host_around_of, host_leads, host_space}
use Rattle.law_places.specs.kr_model.Known.{Known, known}
use Rattle.law_places.specs.kr_model.Operation.{link_read}
use Rattle.law_places.specs.kr_model.Peeks.{kind_seen, link_text_at, read_at, read_of}
use Rattle.law_places.specs.kr_model.ProcessDirectory.{link_text, space_of}
use Rattle.law_places.specs.kr_model.Reply.{Replying, refuse}
use Rattle.law_places.specs.kr_model.Seen.{ReadsLink, Seen}
use Rattle.law_places.specs.kr_model.State.{Image, State, image_layout}
use Rattle.law_places.specs.kr_model.Walks.{seen, text_at}
use Rattle.law_edits.specs.kr_stops.Stopped.{IsThere, Stopped}
use Rattle.law_places.specs.law_walks.Answers.{canon_told}
use Rattle.law_places.specs.law_walks.Scene.{Scene, link_of}
use Rattle.law_places.specs.law_walks.Settled.{host_text}
use Rattle.law_places.specs.law_walks.Standing.{Stands, reached_in}
use Rattle.law_places.specs.law_walks.States.{ArePlaced, scene_of}
use Rattle.law_places.proofs.law_walks.InUseLemmas.{host_laws}
use Rattle.law_places.proofs.law_walks.PeekLemmas.{kind_reached, reached_by}
use Rattle.law_places.proofs.MatchLemmas.{tagged_places_are_placed}
use Rattle.law_plans.specs.Begins.{Fails, Leads, LeadsBoth, PathAgrees, StandTogether, Stays, told_texts}
use Rattle.law_plans.proofs.FoundLemmas.{looked_is}
use Rattle.law_plans.proofs.LeadLemmas.{answers, found_text, found_there, guest_names, same_canon}
use Rattle.law_plans.proofs.PathLemmas.{paths_agree}
use Rattle.law_plans.proofs.PlanLemmas.{lead_seen}
use Rattle.law_edits.specs.Answers.{AreAnsweredAlike}
use Rattle.law_edits.proofs.LinkLemmas.{errors_are_told_alike, link_texts_are_told_alike}
use Rattle.law_plans.specs.Links.{LinksAreAnsweredAlike}
use Rattle.law_plans.proofs.FollowLemmas.{answer_by, link_answered}
use Rattle.law_plans.proofs.ShortLeadLemmas.{Gone, LeadsAsTold, Leading, Unplaced, link_told}

no_edit : {A : Type 0} (edit : Edit) → ◌≡◌ {A = Option Edit} None (Some edit) → A
no_edit edit e = absurd cc

same_edit : (one two : Edit) → ◌≡◌ {A = Option Edit} (Some one) (Some two) → one ≡ two
same_edit one two e = cc

-- where a link leads nowhere and the tracer answers, it answers ENOENT
nowhere_is : (own : Result (List ℕ) Errno) (edit : Edit) → nowhere_answer own ≡ Some edit → edit ≡ Cancel ENOENT
nowhere_is (Err e) edit is = sym (same_edit (Cancel ENOENT) edit is)
nowhere_is (Ok text) edit is = by (is_absolute text) is
  where
    by : (b : Bool) → (if b then Some (Cancel ENOENT) else None) ≡ Some edit → edit ≡ Cancel ENOENT
    by true is = sym (same_edit (Cancel ENOENT) edit is)
    by false is = no_edit edit is

module _ (m : Memory) (t : Stopped) (there : IsThere t) (same : AreEqualUnmarked m.pages (memory_at t).pages) (buf count : ℕ) (edit : Edit) where
  abbrev tells : Option (List ℕ) → Replying
  tells text = option_map_or (tell_text buf count) text (refuse ENOENT)

  -- by where the link leads
  told_alike : (landing : Option (Landing Text Text)) (text : Option (List ℕ)) (own : Result (List ℕ) Errno) → LeadsAsTold landing text own → answer_by buf count own landing ≡ Some edit → AreAnsweredAlike (carried_out (tells text) m) (applied edit t)
  told_alike landing text own (Leading l is told) answer =
      let answers : Some (lead_answer (text_of l.found) (record { buf = buf; count = count })) ≡ Some edit = sym (ap (answer_by buf count own) is) ∙ answer in
      subst (λ text. AreAnsweredAlike (carried_out (tells text) m) (applied edit t)) (sym told)
      (subst (λ edit. AreAnsweredAlike (carried_out (tell_text buf count (text_of l.found)) m) (applied edit t)) (same_edit _ edit answers) (link_texts_are_told_alike m t (text_of l.found) buf count there same))
  told_alike landing text own (Gone none told) answer =
      let answers : nowhere_answer own ≡ Some edit = sym (ap (answer_by buf count own) none) ∙ answer in
      subst (λ text. AreAnsweredAlike (carried_out (tells text) m) (applied edit t)) (sym told)
      (subst (λ edit. AreAnsweredAlike (carried_out (refuse ENOENT) m) (applied edit t)) (sym (nowhere_is own edit answers)) (errors_are_told_alike m t ENOENT there same))
  told_alike landing text own (Unplaced path none is relative) answer =
      no_edit edit
      (sym (ap (λ b. if b then Some (Cancel ENOENT) else None) relative) ∙ sym (ap nowhere_answer is) ∙ sym (ap (answer_by buf count own) none) ∙ answer)

  module _ (table : List Row) (tags : TagTable) (s w : State ℕ Image) (pid : ℕ) (dirfd : ℤ) (path : List ℕ) (both : StandTogether table tags s w) where
    abbrev r : Request
    r = call.Readlinkat dirfd path buf (pos count)

    abbrev u : PathUse
    u = record { dirfd = dirfd; text = path; mode = modes.LookLink; register = 11 }

    abbrev k : Known
    k = known image_layout pid s

    abbrev texts : TextSurroundings
    texts = told_texts table s pid tags

    abbrev scene : Scene
    scene = scene_of table s pid tags

    abbrev Alike : Replying → Type 0
    Alike done = AreAnsweredAlike (carried_out done m) (applied edit t)

    placed : ArePlaced table s tags
    placed = tagged_places_are_placed table s tags both.matched.placed both.matched.tagged

    module _ (lead : LeadsBoth table tags s w pid u false) (p : Place ℕ) (ea : lead.place.found ≡ Some p) (q : Text) (eb : lead.text.found ≡ Some q) (stands : Stands (space_of table s) p q)
        (answered : kind_answer texts lead.canon (record { buf = buf; count = count }) (texts.peeked.kind lead.canon.host) ≡ Some edit) where
      abbrev h : Text
      h = host_text (space_of table s) q

      canon_is : lead.canon ≡ canon_told (texts_of table) q lead.text true
      canon_is = same_canon table tags s w pid u false both lead _ ((answers table tags s w pid u false both lead).looked q refl eb)

      -- what stands there, as the plain kernel tells it
      module _ (x : Host) (is : p.host ≡ x) where
        way : reached_in (space_of table s) h ≡ Some x
        way = stands.way ∙ ap Some is

        kind_told : texts.peeked.kind (text_of h) ≡ kind_seen (seen_at (host_around_of s pid) (host_place x) x)
        kind_told = kind_reached scene lead.both.matched h x way

        kind_is : texts.peeked.kind lead.canon.host ≡ kind_seen (seen_at (host_around_of s pid) (host_place x) x)
        kind_is = ap (λ (c : Canon). texts.peeked.kind c.host) canon_is ∙ kind_told

        answered_so : kind_answer texts lead.canon (record { buf = buf; count = count }) (kind_seen (seen_at (host_around_of s pid) (host_place x) x)) ≡ Some edit
        answered_so = sym (ap (kind_answer texts lead.canon (record { buf = buf; count = count })) kind_is) ∙ answered

      -- an inode is no such link
      no_inode : (i : ℕ) (o : Option Body) → kind_answer texts lead.canon (record { buf = buf; count = count }) (kind_seen (seen_body (host_place (Node i)) o)) ≡ Some edit → ⊥
      no_inode i None e = no_edit edit e
      no_inode i (Some (Directory es st)) e = no_edit edit e
      no_inode i (Some (RegularFile bytes)) e = no_edit edit e
      no_inode i (Some (SymbolicLink text)) e = no_edit edit e
      no_inode i (Some (ProcessDirectory st)) e = no_edit edit e

      module _ (i : ℕ) (at : ProcAt) (link : ProcessLink) (is : p.host ≡ Proc i at) (no_dir : is_process_directory at ≡ false) (of : link_of at ≡ Some link) where
        shown_jump : (l : Lead ℕ) → host_leads s pid at ≡ l → kind_seen (seen_link (host_space s) (host_place (Proc i at)) l) ≡ Ok kind.Jump
        shown_jump (ways.Text text) e =
            let self = (host_laws table s pid both.matched.placed.settled both.small).texts at text e in
            let clash : None ≡ Some link = sym (ap link_of self) ∙ of in absurd cc
        shown_jump (ways.Jump to dir name) e = refl
        shown_jump ways.Nameless e = refl
        shown_jump ways.NoLink e = refl

        jump_told : kind_seen (seen_at (host_around_of s pid) (host_place (Proc i at)) (Proc i at)) ≡ Ok kind.Jump
        jump_told = ap (λ b. kind_seen (if b then shows_directory (host_place (Proc i at)) else seen_link (host_space s) (host_place (Proc i at)) (host_leads s pid at))) no_dir ∙ shown_jump (host_leads s pid at) refl

        guest_is : names_of lead.canon.guest ≡ q
        guest_is = ap (λ (c : Canon). names_of c.guest) canon_is ∙ names_written q (names_are_parts q (guest_names table tags s w pid u false both lead p q stands))

        own_is : texts.peeked.link_text lead.canon.host ≡ link_text_at s pid (Proc i at)
        own_is =
            let f = text_found (host_around_of s pid) modes.LookLink (root_place plain) h (Proc i at) false (reached_by scene lead.both.matched h (Proc i at) (way (Proc i at) is)) (λ e. absurd cc) (λ e. absurd cc) in
            ap (λ (c : Canon). texts.peeked.link_text c.host) canon_is ∙ ap (read_of (link_text_at s pid)) f.1 ∙ ap (read_at (link_text_at s pid)) f.2

        jumps : jump_answer texts lead.canon (record { buf = buf; count = count }) q ≡ Some edit
        jumps =
            sym (ap (kind_answer texts lead.canon (record { buf = buf; count = count })) jump_told ∙ ap (jump_answer texts lead.canon (record { buf = buf; count = count })) guest_is) ∙ answered_so (Proc i at) is

        link_alike : Alike (tells (link_text table s pid at))
        link_alike = by q refl jumps
          where
            by : (g : Text) → q ≡ g → jump_answer texts lead.canon (record { buf = buf; count = count }) g ≡ Some edit → Alike (tells (link_text table s pid at))
            by [] e answer = no_edit edit answer
            by (name ∷ dir) e answer =
                let at_link : reached_in (space_of table s) (host_text (space_of table s) (name ∷ dir)) ≡ Some (Proc i at) = ap (λ q. reached_in (space_of table s) (host_text (space_of table s) q)) (sym e) ∙ way (Proc i at) is in
                let jump : texts.peeked.kind (text_of (host_text (space_of table s) (name ∷ dir))) ≡ Ok kind.Jump =
                ap (λ q. texts.peeked.kind (text_of (host_text (space_of table s) q))) (sym e) ∙ kind_told (Proc i at) is ∙ jump_told in
                let own = texts.peeked.link_text lead.canon.host in
                told_alike _ (link_text table s pid at) own
                (subst (LeadsAsTold _ (link_text table s pid at)) (sym own_is)
                (link_told table s pid tags both.matched.placed.settled both.small placed lead.both.matched (host_text (space_of table s) (name ∷ dir)) i at link at_link of))
                (sym (link_answered scene lead.both.matched dir name i at link of at_link jump buf count own) ∙ answer)

      -- whatever is found
      found_alike : (x : Host) → p.host ≡ x → Alike (readlink_host k x (text_at table pid s x) buf count)
      found_alike (Node i) is = absurd (no_inode i (body s.tree i) (answered_so (Node i) is))
      found_alike (Proc i SelfLink) is = no_edit edit (answered_so (Proc i SelfLink) is)
      found_alike (Proc i (Dir n)) is = no_edit edit (answered_so (Proc i (Dir n)) is)
      found_alike (Proc i (FdDir n)) is = no_edit edit (answered_so (Proc i (FdDir n)) is)
      found_alike (Proc i (Cwd n)) is = link_alike i (Cwd n) (process_link.Cwd n) is refl refl
      found_alike (Proc i (Root n)) is = link_alike i (Root n) (process_link.Root n) is refl refl
      found_alike (Proc i (Exe n)) is = link_alike i (Exe n) (process_link.Exe n) is refl refl
      found_alike (Proc i (Fd n fd)) is = link_alike i (Fd n fd) (process_link.Fd n fd) is refl refl

    abbrev row : Seen → Replying
    row seen = link_read seen (λ l text. readlinkat_row k l text buf (pos count))

    lead_alike : (lead : LeadsBoth table tags s w pid u false) → kind_answer texts lead.canon (record { buf = buf; count = count }) (texts.peeked.kind lead.canon.host) ≡ Some edit → Alike (row (seen table pid s r))
    lead_alike lead answered =
        let p = found_there table tags s w pid u false both lead refl in
        let q = found_text table tags s w pid u false both lead p.0 p.1 in
        subst Alike (sym (ap row (lead_seen table tags s pid r u refl w refl lead) ∙ ap row (looked_is table pid s lead.place p.0 (λ l. ReadsLink l (text_at table pid s l.host)) p.1)))
        (found_alike lead p.0 p.1 q.0 q.1 q.2.stands answered p.0.host refl)

    pub links_alike : link_answer texts pid r ≡ Some edit → Alike (row (seen table pid s r))
    links_alike answered = by (paths_agree table tags s w pid u false both)
      where
        by : PathAgrees table tags s w pid u false → Alike (row (seen table pid s r))
        by (Stays is so) = no_edit edit (sym (ap (walked_answer texts (record { buf = buf; count = count })) is) ∙ answered)
        by (Fails e is fails) = no_edit edit (sym (ap (walked_answer texts (record { buf = buf; count = count })) is) ∙ answered)
        by (Leads lead) = lead_alike lead (sym (ap (walked_answer texts (record { buf = buf; count = count })) lead.reached) ∙ answered)

pub links_are_answered_alike : LinksAreAnsweredAlike
links_are_answered_alike table tags s w pid m t dirfd path buf count edit both there same answered = links_alike m t there same buf count edit table tags s w pid dirfd path both answered
