-- getcwd(2), answered by a tracer.
use Rattle.std.proofs.Common.{◌≡◌, ℕ, ◌+◌, Bool, true, false, cond, List, [], ◌∷◌, ◌++◌, length, Option, Some, sym, ap, subst, ◌∙◌, pos}
use Rattle.std.specs.Prelude.{nat_lt, ◌||◌}
use Rattle.std.specs.Option.{option_and_then, option_map}
use Rattle.pt_tracer.specs.pr_base.Paths.{text_of}
use Rattle.pt_tracer.specs.pr_base.Texts.{Text}
use Rattle.pt_tracer.specs.pr_base.declared.errno.Errno.TheVariants.{EFAULT, ERANGE}
use Rattle.pt_tracer.specs.rv_mem.Actions.{AreEqualUnmarked, carried_out, write_if_allowed}
use Rattle.pt_tracer.specs.rv_mem.Memory.{Memory}
use Rattle.law_walks.specs.kr_tree.declared.place.Place.{Place}
use Rattle.law_walks.specs.kr_view.HostReach.{host_place}
use Rattle.law_walks.specs.kr_view.View.{Row}
use Rattle.law_walks.specs.kr_mounts.Standing.{texts_of}
use Rattle.law_walks.specs.kr_model.DirectoryRows.{getcwd_row, tell_directory}
use Rattle.law_walks.specs.kr_model.ProcessDirectory.{name_text, space_of}
use Rattle.law_walks.specs.kr_model.Reply.{done, refuse}
use Rattle.law_walks.specs.kr_model.State.{Image, Process, State}
use Rattle.kr_turns.specs.kr_stops.Stopped.{IsThere, Stopped}
use Rattle.pt_tracer.specs.pt_args.Bases.{tagged_text}
use Rattle.pt_tracer.specs.pt_args.declared.edit.Edit.TheVariants.{Cancel, Emulate}
use Rattle.pt_tracer.specs.pt_args.Shelving.{with_zero}
use Rattle.pt_tracer.specs.pt_bind.Binding.{guest_of}
use Rattle.pt_tracer.specs.pt_bind.Tags.{TagTable, tag_of}
use Rattle.pt_tracer.specs.pt_bind.declared.slot.Slot.TheVariants as slot
use Rattle.pt_tracer.specs.pt_results.Answers.{directory_answer, text_answer}
use Rattle.pt_tracer.specs.pt_faker.Stopping.{memory_at}
use Rattle.pt_tracer.specs.Watched.{applied}
use Rattle.law_walks.specs.Settled.{host_text}
use Rattle.law_walks.specs.States.{IsInUse, host_space}
use Rattle.law_walks.proofs.InUseLemmas.{guest_is, host_is, read_back, tag_is}
use Rattle.law_edits.specs.Answers.{AreAnsweredAlike, CanBeTold, CwdsAreAnsweredAlike, WorkingTextsAreNames}
use Rattle.law_edits.proofs.AnswerLemmas.{put_alike, refused_alike}

-- ---- the name

-- what is in use is called alike: by its guest name, and by its tag and its host name
module _ {X : Type 0} (table : List Row) (s : State ℕ X) (tags : TagTable) (can : CanBeTold table s tags) (p : Place ℕ) (dir : ℕ) (name : List ℕ) (tag : ℕ) (own : IsInUse (space_of table s) p dir name tag) where
  abbrev host : Text
  host = host_text (space_of table s) own.guest

  pub named_so : name_text (space_of table s) p dir name ≡ Some (text_of own.guest)
  named_so = ap (option_map text_of) (guest_is table s 0 can.settled can.small p dir name tag own)

  pub tagged_so : tagged_text (texts_of table) tag (name_text (host_space s) (host_place p.host) dir name) ≡ Some (text_of own.guest)
  tagged_so =
      ap (tagged_text (texts_of table) tag) (host_is table s 0 can.settled can.small p dir name tag own)
      ∙ ap (λ h. option_map text_of (guest_of (texts_of table) tag h)) (read_back table s 0 can.settled can.small p dir name tag own)
      ∙ ap (option_map text_of) (tag_is table s 0 can.settled can.small p dir name tag own)

pub working_texts_are_names : (X : Type 0) → WorkingTextsAreNames X
working_texts_are_names X table s tags pid p can is =
    let own = (can.placed.cwd pid p is.lives).called (ap (λ b. b || false) is.directory) in
    let tag = tag_of tags pid slot.Cwd in (
      text_of own.guest,
      ap (λ (o : Option (Process ℕ X)). option_and_then (λ (p : Place ℕ). name_text (space_of table s) p 0 []) (option_map (λ (p : Process ℕ X). p.cwd) o)) is.lives ∙ named_so table s tags can p.cwd 0 [] tag own,
      ap (λ (o : Option (Process ℕ X)). tagged_text (texts_of table) tag (option_and_then (λ (p : Process ℕ X). name_text (host_space s) (host_place p.cwd.host) 0 []) o)) is.lives ∙ tagged_so table s tags can p.cwd 0 [] tag own,
    )

-- ---- the answer

module _ (m : Memory) (t : Stopped) (there : IsThere t) (same : AreEqualUnmarked m.pages (memory_at t).pages) (buf size : ℕ) where
  text_alike : (text : List ℕ) → AreAnsweredAlike (carried_out (tell_directory buf size text) m) (applied (text_answer text size buf) t)
  text_alike text = by (nat_lt size (length text + 1))
    where
      by : (b : Bool)
          → AreAnsweredAlike (carried_out (cond b (refuse ERANGE) (write_if_allowed buf (text ++ 0 ∷ []) (refuse EFAULT) (done (length text + 1) []))) m)
          (applied (cond b (Cancel ERANGE) (Emulate ((buf, with_zero text) ∷ []) (pos (length text + 1)))) t)
      by true = refused_alike m t there same ERANGE
      by false = put_alike m t there same buf (with_zero text) (length text + 1)

  named_alike : (name : List ℕ) (one other : Option (List ℕ)) → one ≡ Some name → other ≡ Some name → AreAnsweredAlike (carried_out (getcwd_row one buf size) m) (applied (directory_answer other size buf) t)
  named_alike name one other is too =
      subst (λ one. AreAnsweredAlike (carried_out (getcwd_row one buf size) m) (applied (directory_answer other size buf) t)) (sym is)
      (subst (λ other. AreAnsweredAlike (carried_out (tell_directory buf size name) m) (applied (directory_answer other size buf) t)) (sym too) (text_alike name))

pub cwds_are_answered_alike : CwdsAreAnsweredAlike
cwds_are_answered_alike table s tags pid p m t buf size can is there same =
    let named = working_texts_are_names Image table s tags pid p can is in
    named_alike m t there same buf size named.0 _ _ named.1 named.2
