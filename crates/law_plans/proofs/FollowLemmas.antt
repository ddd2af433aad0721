-- Where a tracer's walk leads along the name of a link of the process directory, from the directory in which the link stands.
use Rattle.std.proofs.Common.{◌≡◌, ℕ, true, false, List, [], ◌∷◌, Option, Some, None, Result, Ok, Err, refl, sym, ap, ◌∙◌}
use Rattle.std.specs.Bool.{if◌then◌else◌}
use Rattle.std.proofs.lemmas.List.Elements.{All-head}
use Rattle.law_edits.specs.pr_base.MountText.{MountText}
use Rattle.law_edits.specs.pr_base.Paths.{AreNames, IsName, IsPart, Name, components_of, has_slash, text_of}
use Rattle.law_edits.specs.pr_base.Texts.{Text}
use Rattle.law_edits.specs.pr_base.WalkFrame.{Jumps, Landing, Looking, Target, after_look, landed, most_links, walk_on}
use Rattle.law_edits.specs.pr_base.WalkLaws.{last_trail}
use Rattle.law_edits.specs.pr_base.declared.errno.Errno.{Errno}
use Rattle.law_edits.specs.pr_base.declared.errno.Errno.TheVariants.{EACCES, ENOENT}
use Rattle.law_edits.specs.pr_base.declared.path.WalkMode.TheVariants as modes
use Rattle.law_edits.specs.pr_base.declared.peeks.PeekKind.TheVariants as kind
use Rattle.law_edits.proofs.pr_base.PathLemmas.{name_is_part, part_components, part_no_slash, part_relative}
use Rattle.law_edits.proofs.pr_base.WalkLemmas.{walk-last}
use Rattle.law_edits.specs.pt_args.declared.edit.Edit.{Edit}
use Rattle.law_edits.specs.pt_bind.Binding.{host_of}
use Rattle.law_places.specs.pt_canon.Canon.{canon_of, canon_result}
use Rattle.law_places.specs.pt_canon.ProcessLinks.{landing_of}
use Rattle.law_places.specs.pt_canon.TextWalk.{TextSurroundings, in_directory, itself_in, look_text, looking_texts, seen_kind, seen_text, text_walk, where_found}
use Rattle.law_places.specs.pt_canon.declared.link.ProcessLink.{ProcessLink}
use Rattle.law_edits.specs.pt_results.Answers.{lead_answer, led_answer, nowhere_answer}
use Rattle.law_places.specs.kr_tree.Tree.{Tree}
use Rattle.law_places.specs.kr_tree.declared.place.Host.{Host}
use Rattle.law_places.specs.kr_tree.declared.place.Host.TheVariants.{Proc}
use Rattle.law_places.specs.kr_tree.declared.place.ProcAt.{ProcAt}
use Rattle.law_places.specs.kr_view.Component.{Namespace}
use Rattle.law_places.proofs.kr_view.ArrivalLemmas.{directory_firm}
use Rattle.law_places.proofs.kr_view.HostReachLemmas.{LastObject, last_object, reached_names}
use Rattle.law_places.specs.law_walks.Scene.{IsMatched, Scene, link_of, space_of, texts_in}
use Rattle.law_places.specs.law_walks.Standing.{reached_in}
use Rattle.law_places.proofs.law_walks.LinkLemmas.{link_followed}
use Rattle.law_places.proofs.law_walks.PeekLemmas.{kind_firm, kind_itself}
use Rattle.law_places.proofs.law_walks.StandingLemmas.{not_located}
use Rattle.law_places.proofs.law_walks.TableLemmas.{host_none}

-- a tracer's answer, by where the link leads
abbrev pub answer_by : ℕ → ℕ → Result (List ℕ) Errno → Option (Landing Text Text) → Option Edit
answer_by buf count own (Some l) = Some (lead_answer (text_of l.found) (record { buf = buf; count = count }))
answer_by buf count own None = nowhere_answer own

module _ (scene : Scene) (m : IsMatched scene) (dir : Text) (name : List ℕ) (i : ℕ) (at : ProcAt) (link : ProcessLink) (is : link_of at ≡ Some link) where
  abbrev space : Namespace
  space = space_of scene

  abbrev tree : Tree
  tree = space.tree

  abbrev texts : TextSurroundings
  texts = texts_in scene

  abbrev bindings : List MountText
  bindings = texts.bindings

  abbrev reach : Text → Option Host
  reach h = reached_in space h

  abbrev whole : Text
  whole = host_of bindings (name ∷ dir)

  abbrev above : Text
  above = host_of bindings dir

  abbrev looks : Looking Text Text
  looks = looking_texts texts

  abbrev lead : Option (Landing Text Text)
  lead = landing_of bindings scene.peeked scene.tags link

  module _ (way : reach whole ≡ Some (Proc i at)) (jump : scene.peeked.kind (text_of whole) ≡ Ok kind.Jump) where
    -- no mount stands there
    named : whole ≡ name ∷ above
    named = host_none bindings name dir (not_located space m.settled scene.around.leads m.processes name dir i at way)

    way_named : reach (name ∷ above) ≡ Some (Proc i at)
    way_named = ap reach (sym named) ∙ way

    holder : LastObject tree space.user space.finds above name (Proc i at)
    holder = last_object tree space.user space.finds above name (Proc i at) way_named

    part : IsPart name
    part =
        let names : AreNames (name ∷ above) = reached_names tree space.user space.finds scene.around.leads (name ∷ above) (Proc i at) m.settled.sound m.processes way_named in
        name_is_part name (All-head IsName name above names)

    -- ---- what its name shows

    seen_is : seen_text texts (name ∷ dir) ≡ Jumps (name ∷ dir) lead
    unfolding seen_text
    seen_is = ap (seen_kind texts (name ∷ dir) whole) jump ∙ ap (Jumps (name ∷ dir)) (link_followed scene m whole i at link way is)

    look_is : look_text texts dir (Name name) ≡ Jumps (name ∷ dir) lead
    unfolding look_text
    look_is =
        ap (λ k. in_directory k (where_found (scene.peeked.kind (itself_in above)) (seen_text texts (name ∷ dir))))
        (kind_firm scene m above holder.dir holder.way (directory_firm tree holder.dir holder.is_dir) ∙ ap (λ b. Ok (if b then kind.Dir else kind.File)) holder.is_dir)
        ∙ ap (λ k. where_found k (seen_text texts (name ∷ dir))) (kind_itself scene m above holder.dir holder.way holder.is_dir ∙ ap (λ b. if b then Ok kind.Dir else Err EACCES) holder.search) ∙ seen_is

    -- ---- where a walk ends that follows it

    abbrev ends_by : Option (Landing Text Text) → Result (Target Text Text) Errno
    ends_by None = Err ENOENT
    ends_by (Some l) = Ok (landed l false)

    jumped : (o : Option (Landing Text Text)) → (after_look (record { place = dir; component = Name name; is_last = true }) (last_trail looks modes.Look most_links dir (Name name) false (Jumps (name ∷ dir) o))).answer ≡ ends_by o
    jumped None = refl
    jumped (Some l) = refl

    walk_is : (text_walk texts modes.Look dir name).answer ≡ ends_by lead
    walk_is =
        ap (λ b. (walk_on looks modes.Look most_links (if b then [] else dir) (components_of name) (has_slash name)).answer) (part_relative name part)
        ∙ ap (λ cs. (walk_on looks modes.Look most_links dir cs (has_slash name)).answer) (part_components name part)
        ∙ ap (λ b. (walk_on looks modes.Look most_links dir (Name name ∷ []) b).answer) (part_no_slash name part) ∙ ap (λ t. t.answer) (walk-last looks modes.Look most_links dir (Name name) false)
        ∙ ap (λ seen. (after_look (record { place = dir; component = Name name; is_last = true }) (last_trail looks modes.Look most_links dir (Name name) false seen)).answer) look_is ∙ jumped lead

    answered : (buf count : ℕ) (own : Result (List ℕ) Errno) (o : Option (Landing Text Text)) → led_answer own (record { buf = buf; count = count }) (canon_result bindings modes.Look (ends_by o)) ≡ answer_by buf count own o
    answered buf count own None = refl
    answered buf count own (Some l) = refl

    pub link_answered : (buf count : ℕ) (own : Result (List ℕ) Errno) → led_answer own (record { buf = buf; count = count }) (canon_of texts modes.Look dir name) ≡ answer_by buf count own lead
    link_answered buf count own = ap (λ answer. led_answer own (record { buf = buf; count = count }) (canon_result bindings modes.Look answer)) walk_is ∙ answered buf count own lead
