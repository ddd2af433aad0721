-- A tracer knows the working directory of a process by its host name and its tag.
use Rattle.std.proofs.Common.{◌≡◌, ◌||◌, ℕ, true, false, List, Some, ap, ◌∙◌, []}
use Rattle.std.specs.Option.{option_and_then, option_map}
use Rattle.kr_first.specs.pr_base.Paths.{text_of}
use Rattle.kr_first.specs.pr_base.Texts.{Text}
use Rattle.law_edits.specs.pt_args.Bases.{tagged_text, working_text}
use Rattle.kr_first.specs.pt_bind.Binding.{guest_of}
use Rattle.kr_first.specs.pt_bind.Tags.{TagTable, tag_of}
use Rattle.kr_first.specs.pt_bind.declared.slot.Slot.TheVariants as slot
use Rattle.kr_first.specs.kr_view.Component.{is_directory_at}
use Rattle.kr_first.specs.kr_view.HostReach.{host_place}
use Rattle.kr_first.specs.kr_view.Living.{Each, HasSmallNumbers}
use Rattle.kr_first.specs.kr_view.View.{Row}
use Rattle.law_edits.specs.kr_mounts.Standing.{texts_of}
use Rattle.law_edits.specs.kr_model.HostView.{host_space}
use Rattle.law_edits.specs.kr_model.ProcessDirectory.{living_of, name_text}
use Rattle.law_edits.specs.kr_model.State.{Process, State, process}
use Rattle.law_edits.specs.law_walks.Scene.{IsMatched}
use Rattle.law_edits.specs.law_walks.Settled.{host_text}
use Rattle.law_edits.specs.law_walks.States.{IsInUse}
use Rattle.law_edits.proofs.law_walks.InUseLemmas.{places_in_use_are_told, read_back}
use Rattle.law_programs.specs.Finding.{WorksAt, scene_here, space_here, texts_here}
use Rattle.law_programs.specs.Working.{WorkingDirectoriesAreKnown}

module _ {X : Type 0} (table : List Row) (s : State ℕ X) (caller : ℕ) (tags : TagTable) (p : Process ℕ X) (m : IsMatched (scene_here table s caller tags)) (small : Each HasSmallNumbers (living_of s)) (lives : process caller s ≡ Some p)
    (dir : is_directory_at s.tree p.cwd.host ≡ true) (own : IsInUse (space_here table s caller tags) p.cwd 0 [] (tag_of tags caller slot.Cwd)) where
  abbrev h : Text
  h = host_text (space_here table s caller tags) own.guest

  known : WorksAt table s caller tags p.cwd (working_text (texts_here table s caller tags) caller)
  known =
      let told = places_in_use_are_told X table s p.cwd 0 [] (tag_of tags caller slot.Cwd) m.settled small own in
      record {
        text = own.guest;
        stands = own.stands;
        directory = dir;
        written =
            ap (λ o. tagged_text (texts_of table) (tag_of tags caller slot.Cwd) (option_and_then (λ (q : Process ℕ X). name_text (host_space s) (host_place q.cwd.host) 0 []) o)) lives
            ∙ ap (tagged_text (texts_of table) (tag_of tags caller slot.Cwd)) told.on_host
            ∙ ap (λ t. option_map text_of (guest_of (texts_of table) (tag_of tags caller slot.Cwd) t)) (read_back table s caller m.settled small p.cwd 0 [] (tag_of tags caller slot.Cwd) own)
            ∙ ap (option_map text_of) told.tagged;
      }

pub working_directories_are_known : (X : Type 0) → WorkingDirectoriesAreKnown X
working_directories_are_known X table s caller tags p m small placed lives dir =
    known table s caller tags p m small lives dir ((placed.cwd caller p lives).called (ap (λ b. b || false) dir))
