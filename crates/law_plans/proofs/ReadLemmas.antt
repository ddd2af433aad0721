-- readlinkat(2), where the tracer doesn't answer by itself: the text of a link of the process directory that leads to a place is
-- answered, and that of any other is the same for both kernels.
use Rattle.std.proofs.Common.{◌≡◌, ◌≢◌, inl, ℕ, Bool, true, false, List, [], ◌∷◌, Option, Some, None, Result, Ok, Err, refl, sym, ap, subst, ◌∙◌}
use Rattle.std.specs.Bool.{if◌then◌else◌}
use Rattle.std.specs.Option.{option_and_then, option_map, option_map_or}
use Rattle.std.specs.Prelude.{ℤ}
use Rattle.std.specs.Int.RustNames.{unsigned_abs}
use Rattle.law_edits.specs.pr_base.Paths.{is_absolute, text_of}
use Rattle.law_edits.specs.pr_base.Texts.{Text}
use Rattle.law_edits.specs.pr_base.WalkFrame.{may_be_free}
use Rattle.law_edits.specs.pr_base.declared.errno.Errno.{Errno}
use Rattle.law_edits.specs.pr_base.declared.errno.Errno.TheVariants.{ENOENT}
use Rattle.law_edits.specs.pr_base.declared.path.WalkMode.TheVariants as modes
use Rattle.law_edits.specs.pr_base.declared.peeks.PeekKind.TheVariants as kind
use Rattle.law_edits.proofs.pr_base.PathLemmas.{names_are_parts, text_absolute}
use Rattle.law_edits.specs.pt_bind.Binding.{names_of}
use Rattle.law_edits.specs.pt_bind.Tags.{TagTable}
use Rattle.law_edits.proofs.pt_bind.ByteLemmas.{names_written}
use Rattle.law_places.specs.pt_canon.Canon.{canon_of}
use Rattle.law_places.specs.pt_canon.TextWalk.{TextSurroundings}
use Rattle.law_places.specs.pt_canon.declared.canon.Canon.{Canon}
use Rattle.law_edits.specs.pt_args.Purposes.{swap_for}
use Rattle.law_edits.specs.pt_results.Answers.{jump_answer, kind_answer, led_answer, nowhere_answer, path_answer, walked_answer}
use Rattle.law_edits.specs.pt_results.Numbers.{count_of}
use Rattle.law_edits.specs.kr_calls.PathTable.{PathUse, path_at}
use Rattle.law_edits.specs.kr_calls.declared.request.Request.{Request}
use Rattle.law_edits.specs.kr_calls.declared.request.Request.TheVariants as call
use Rattle.law_places.specs.kr_tree.declared.place.Host.{Host}
use Rattle.law_places.specs.kr_tree.declared.place.Host.TheVariants.{Node, Proc}
use Rattle.law_places.specs.kr_tree.declared.place.Place.{Place}
use Rattle.law_places.specs.kr_tree.declared.place.ProcAt.{ProcAt}
use Rattle.law_places.specs.kr_tree.declared.place.ProcAt.TheVariants.{SelfLink, Dir, Cwd, Root, Exe, FdDir, Fd}
use Rattle.law_places.proofs.kr_tree.NameLemmas.{map_some, then_some}
use Rattle.law_places.specs.kr_view.Component.{is_process_directory, seen_link, shows_directory}
use Rattle.law_places.specs.kr_view.HostReach.{host_place}
use Rattle.law_places.specs.kr_view.Names.{guest_name}
use Rattle.law_places.specs.kr_view.View.{Row, plain, root_place, root_source}
use Rattle.law_places.specs.kr_view.declared.procs.Lead.{Lead}
use Rattle.law_places.specs.kr_view.declared.procs.Lead.TheVariants as ways
use Rattle.law_places.proofs.kr_view.ArrivalLemmas.{text_found}
use Rattle.law_places.proofs.kr_view.TableLemmas.{there_is}
use Rattle.law_places.specs.kr_files.declared.opened.Opened.{Opened}
use Rattle.law_places.specs.kr_mounts.Standing.{texts_of}
use Rattle.law_places.specs.kr_model.AttributeRows.{readlink_host, readlinkat_row, tell_text}
use Rattle.law_places.specs.kr_model.Bare.{pins_of}
use Rattle.law_places.specs.kr_model.HostView.{base_text, cwd_name, exe_name, host_around_of, host_leads, host_space, linked_text}
use Rattle.law_places.specs.kr_model.Known.{Known, known}
use Rattle.law_places.specs.kr_model.Operation.{link_read}
use Rattle.law_places.specs.kr_model.Peeks.{kind_seen, link_text_at, name_or_none, read_at, read_of}
use Rattle.law_places.specs.kr_model.ProcessDirectory.{link_text, name_text, open_text, remembered, space_of, unplaced_text}
use Rattle.law_places.specs.kr_model.Reply.{Replying, refuse}
use Rattle.law_places.specs.kr_model.Seen.{Looked, ReadsLink, Seen}
use Rattle.law_places.specs.kr_model.State.{Image, Process, State, image_layout, opened, process}
use Rattle.law_places.specs.kr_model.Walks.{text_at}
use Rattle.law_places.specs.law_walks.BareFacts.{process_text}
use Rattle.law_places.proofs.law_walks.BareFactLemmas.{facts_are_bare}
use Rattle.law_places.proofs.law_walks.OneMountLemmas.{lawful_states_are_in_one_mount, same_text}
use Rattle.law_places.specs.law_walks.Answers.{canon_told}
use Rattle.law_places.specs.law_walks.Settled.{host_text}
use Rattle.law_places.specs.law_walks.Standing.{Stands, reached_in}
use Rattle.law_places.proofs.law_walks.InUseLemmas.{host_laws}
use Rattle.law_places.proofs.law_walks.PeekLemmas.{kind_reached, reached_by}
use Rattle.law_places.proofs.law_walks.StandingLemmas.{root_reached}
use Rattle.law_plans.specs.Begins.{LeadsBoth, told_texts}
use Rattle.law_plans.specs.OnePath.{IsLookedUp}
use Rattle.law_plans.specs.Plans.{IsPlanned, PlanAgrees}
use Rattle.law_plans.proofs.FoundLemmas.{looked_both, looked_is, same_mounts}
use Rattle.law_plans.proofs.LeadLemmas.{answers, found_text, guest_names, same_canon, scene}
use Rattle.law_plans.proofs.OneLemmas.{swaps_agree}
use Rattle.law_plans.proofs.PlanLemmas.{one_swapped}
use Rattle.law_plans.proofs.RequestLemmas.{purpose_looks}
use Rattle.law_plans.proofs.StayLemmas.{by_first}

-- ---- a link that the tracer leaves to the kernel has a text that is no path

abbrev IsLeft : Result (List ℕ) Errno → Type 0
IsLeft own = (text : List ℕ) × (own ≡ Ok text) × (is_absolute text ≡ false)

left_nowhere : (own : Result (List ℕ) Errno) → nowhere_answer own ≡ None → IsLeft own
left_nowhere (Err e) none = absurd cc
left_nowhere (Ok text) none = (text, refl, by (is_absolute text) refl none)
  where
    by : (b : Bool) → is_absolute text ≡ b → (if is_absolute text then nowhere_answer (Err ENOENT) else None) ≡ None → b ≡ false
    by false e h = refl
    by true e h = let clash : nowhere_answer (Err ENOENT) ≡ None = sym (ap (λ b. if b then nowhere_answer (Err ENOENT) else None) e) ∙ h in absurd cc

left_led : (buf count : ℕ) (own : Result (List ℕ) Errno) (c : Result Canon Errno) → led_answer own (record { buf = buf; count = count }) c ≡ None → IsLeft own
left_led buf count own (Ok led) none = absurd cc
left_led buf count own (Err e) none = left_nowhere own none

-- names of places are absolute
named_absolute : (o : Option Text) (text : List ℕ) → option_map text_of o ≡ Some text → is_absolute text ≡ true
named_absolute o text is = let x = map_some text_of o text is in ap is_absolute (sym x.2) ∙ text_absolute x.0

told_some : (o : Option (List ℕ)) (text : List ℕ) → name_or_none o ≡ Ok text → o ≡ Some text
told_some None text is = absurd cc
told_some (Some name) text is = let same : name ≡ text = cc in ap Some same

no_path : {A : Type 0} (text : List ℕ) → is_absolute text ≡ false → is_absolute text ≡ true → A
no_path text relative rooted = let clash : false ≡ true = sym relative ∙ rooted in absurd cc

module _ (table : List Row) (s : State ℕ Image) (pid : ℕ) where
  -- what is open has no place, so both kernels have its own text
  unplaced : (o : Opened ℕ) (text : List ℕ) → linked_text s o ≡ Some text → is_absolute text ≡ false → open_text (space_of table s) o ≡ linked_text s o
  unplaced o text is relative = by o.place is
    where
      by : (q : Option (Place ℕ)) → option_map_or (λ p. name_text (host_space s) (host_place p.host) o.dir o.name) q (unplaced_text o.what) ≡ Some text
          → option_map_or (λ p. name_text (space_of table s) p o.dir o.name) q (unplaced_text o.what) ≡ option_map_or (λ p. name_text (host_space s) (host_place p.host) o.dir o.name) q (unplaced_text o.what)
      by None h = refl
      by (Some p) h = no_path text relative (named_absolute (guest_name (host_space s) (host_place p.host) (remembered o.dir o.name)) text h)

  -- the text that is left is the same in both views
  left_same : (i : ℕ) (at : ProcAt) → is_process_directory at ≡ false → at ≢ SelfLink → IsLeft (link_text_at s pid (Proc i at)) → link_text table s pid at ≡ process_text pid s at
  left_same i SelfLink link other left = absurd (other refl)
  left_same i (Dir p) link other left = absurd cc
  left_same i (FdDir p) link other left = absurd cc
  left_same i (Cwd p) link other left =
      let x = then_some (λ (q : Process ℕ Image). name_text (host_space s) (host_place q.cwd.host) 0 []) (process p s) left.0 (told_some (cwd_name s p) left.0 left.1) in
      no_path left.0 left.2 (named_absolute (guest_name (host_space s) (host_place x.0.cwd.host) (remembered 0 [])) left.0 x.2)
  left_same i (Root p) link other left =
      no_path left.0 left.2 (named_absolute (guest_name (host_space s) (root_place plain) (remembered 0 [])) left.0 (told_some (name_text (host_space s) (root_place plain) 0 []) left.0 left.1))
  left_same i (Exe p) link other left =
      let x = then_some (λ (q : Process ℕ Image). name_text (host_space s) (host_place q.exe.host) q.exe_dir q.exe_name) (process p s) left.0 (told_some (exe_name s p) left.0 left.1) in
      no_path left.0 left.2 (named_absolute (guest_name (host_space s) (host_place x.0.exe.host) (remembered x.0.exe_dir x.0.exe_name)) left.0 x.2)
  left_same i (Fd p fd) link other left =
      let x = then_some (linked_text s) (opened p fd s) left.0 (told_some (base_text s p fd) left.0 left.1) in
      ap (option_and_then (open_text (space_of table s))) x.1 ∙ unplaced x.0 left.0 x.2 left.2 ∙ sym (ap (option_and_then (linked_text s)) x.1)

module _ (table : List Row) (tags : TagTable) (s w : State ℕ Image) (pid : ℕ) (dirfd : ℤ) (path : List ℕ) (buf : ℕ) (size : ℤ) (u : PathUse) (planned : IsPlanned table tags s w pid (call.Readlinkat dirfd path buf size))
    (at : path_at (call.Readlinkat dirfd path buf size) 0 ≡ Some u) (mode_is : u.mode ≡ modes.LookLink) where
  abbrev r : Request
  r = call.Readlinkat dirfd path buf size

  abbrev k : Known
  k = known image_layout pid s

  abbrev texts : TextSurroundings
  texts = told_texts table s pid tags

  must : may_be_free u.mode ≡ false
  must = ap may_be_free mode_is

  module _ (lead : LeadsBoth table tags s w pid u false) (p : Place ℕ) (ea : lead.place.found ≡ Some p) (q : Text) (eb : lead.text.found ≡ Some q) (stands : Stands (space_of table s) p q) where
    abbrev h : Text
    h = host_text (space_of table s) q

    canon_is : lead.canon ≡ canon_told (texts_of table) q lead.text true
    canon_is = same_canon table tags s w pid u false planned.together lead _ ((answers table tags s w pid u false planned.together lead).looked q must eb)

    answered : kind_answer texts lead.canon (record { buf = buf; count = count_of size }) (texts.peeked.kind lead.canon.host) ≡ None
    answered = sym (ap (path_answer texts pid (record { buf = buf; count = count_of size })) at ∙ ap (walked_answer texts (record { buf = buf; count = count_of size })) lead.reached) ∙ planned.unanswered

    module _ (i : ℕ) (link : ProcAt) (is : p.host ≡ Proc i link) (no_dir : is_process_directory link ≡ false) (other : link ≢ SelfLink) where
      way : reached_in (space_of table s) h ≡ Some (Proc i link)
      way = stands.way ∙ ap Some is

      shown_jump : (l : Lead ℕ) → ((text : List ℕ) → l ≡ ways.Text text → ⊥) → kind_seen (seen_link (host_space s) (host_place (Proc i link)) l) ≡ Ok kind.Jump
      shown_jump (ways.Text text) apart = absurd (apart text refl)
      shown_jump (ways.Jump to dir name) apart = refl
      shown_jump ways.Nameless apart = refl
      shown_jump ways.NoLink apart = refl

      kind_is : texts.peeked.kind lead.canon.host ≡ Ok kind.Jump
      kind_is =
          ap (λ (c : Canon). texts.peeked.kind c.host) canon_is ∙ kind_reached (scene table tags s w pid u false planned.together lead) lead.both.matched h (Proc i link) way
          ∙ ap (λ b. kind_seen (if b then shows_directory (host_place (Proc i link)) else seen_link (host_space s) (host_place (Proc i link)) (host_leads s pid link))) no_dir
          ∙ shown_jump (host_leads s pid link) (λ text e. absurd (other ((host_laws table s pid planned.together.matched.placed.settled planned.together.small).texts link text e)))

      guest_is : names_of lead.canon.guest ≡ q
      guest_is = ap (λ (c : Canon). names_of c.guest) canon_is ∙ names_written q (names_are_parts q (guest_names table tags s w pid u false planned.together lead p q stands))

      own_is : texts.peeked.link_text lead.canon.host ≡ link_text_at s pid (Proc i link)
      own_is =
          let f = text_found (host_around_of s pid) modes.LookLink (root_place plain) h (Proc i link) false (reached_by (scene table tags s w pid u false planned.together lead) lead.both.matched h (Proc i link) way) (λ e. absurd cc)
          (λ e. absurd cc) in
          ap (λ (c : Canon). texts.peeked.link_text c.host) canon_is ∙ ap (read_of (link_text_at s pid)) f.1 ∙ ap (read_at (link_text_at s pid)) f.2

      left : IsLeft (link_text_at s pid (Proc i link))
      left = subst IsLeft own_is (by q refl)
        where
          by : (t : Text) → q ≡ t → IsLeft (texts.peeked.link_text lead.canon.host)
          by [] e =
              let top = ap (λ t. reached_in (space_of table s) (host_text (space_of table s) t)) (sym e) in
              let clash : Some (Node (root_source table)) ≡ Some (Proc i link) = sym (root_reached (space_of table s) planned.together.matched.placed.settled) ∙ top ∙ way in absurd cc
          by (name ∷ dir) e =
              left_led buf (count_of size) (texts.peeked.link_text lead.canon.host) (canon_of texts modes.Look dir name)
              (sym (ap (kind_answer texts lead.canon (record { buf = buf; count = count_of size })) kind_is ∙ ap (jump_answer texts lead.canon (record { buf = buf; count = count_of size })) (guest_is ∙ e)) ∙ answered)

      texts_same : link_text table s pid link ≡ link_text plain w pid link
      texts_same =
          left_same table s pid i link no_dir other left ∙ (facts_are_bare (pins_of table) (pins_of plain) s w pid planned.together.matched.bares).1.texts (Proc i link)
          ∙ sym (same_text w (lawful_states_are_in_one_mount w planned.together.plain_lawful) pid (Proc i link))

    abbrev answer : Option (List ℕ) → Replying
    answer text = option_map_or (tell_text buf (unsigned_abs size)) text (refuse ENOENT)

    rows_same : (x : Host) → p.host ≡ x → readlink_host k x (text_at table pid s x) buf (unsigned_abs size) ≡ readlink_host k x (text_at plain pid w x) buf (unsigned_abs size)
    rows_same (Node i) is = refl
    rows_same (Proc i SelfLink) is = refl
    rows_same (Proc i (Dir n)) is = refl
    rows_same (Proc i (FdDir n)) is = refl
    rows_same (Proc i (Cwd n)) is = ap answer (texts_same i (Cwd n) is refl (λ e. absurd cc))
    rows_same (Proc i (Root n)) is = ap answer (texts_same i (Root n) is refl (λ e. absurd cc))
    rows_same (Proc i (Exe n)) is = ap answer (texts_same i (Exe n) is refl (λ e. absurd cc))
    rows_same (Proc i (Fd n fd)) is = ap answer (texts_same i (Fd n fd) is refl (λ e. absurd cc))

  read_leads : LeadsBoth table tags s w pid u false → PlanAgrees table tags s w pid r
  read_leads lead =
      let l : IsLookedUp table tags s w pid u false lead = (swaps_agree table tags s w pid u false lead planned.together).looked must in
      let p = there_is lead.place.found l.there in
      let q = found_text table tags s w pid u false planned.together lead p.0 p.1 in
      let t = l.same.target in
      one_swapped table tags s pid r u at w refl lead lead.canon.host t l.same.ends l.same.new
      (ap row (looked_is table pid s lead.place p.0 (λ l. ReadsLink l (text_at table pid s l.host)) p.1) ∙ rows_same lead p.0 p.1 q.0 q.1 q.2.stands p.0.host refl
      ∙ sym (ap row (looked_is table pid s lead.place p.0 on_host p.1)) ∙ ap row (sym (l.same.same on_host)))
      (λ looks. absurd looks)
      (inl (same_mounts lead.place t (l.there ∙ sym (looked_both table plain pid s w lead.place t l.there l.same.same)))) refl (ap (λ p. swap_for (texts_of table) p lead.canon) (purpose_looks false u.mode must))
    where
      row : Seen → Replying
      row seen = link_read seen (λ l text. readlinkat_row k l text buf size)

      on_host : Looked → Seen
      on_host l = ReadsLink l (text_at plain pid w l.host)

  pub reads_agree : PlanAgrees table tags s w pid r
  reads_agree = by_first table tags s w pid r u planned at (λ none. refl) read_leads
