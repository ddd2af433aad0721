-- The targets of a call over a lawful state meet what rows rest on.
use Rattle.std.proofs.Common.{◌≡◌, ◌≢◌, ℕ, Bool, true, false, List, Option, Some, None, refl, sym, ap, subst, ◌∙◌}
use Rattle.std.specs.Prelude.{Ok}
use Rattle.std.specs.Option.{option_map}
use Rattle.std.proofs.lemmas.List.Elements.{All-weaker}
use Rattle.std.proofs.lemmas.Option.{same_Some, none-some}
use Rattle.law_allowed.specs.pr_base.Paths.{Name}
use Rattle.law_allowed.specs.pr_base.WalkFrame.{is_followed, may_be_free}
use Rattle.law_allowed.specs.pr_base.WalkLaws.{Shows}
use Rattle.law_allowed.specs.pr_base.declared.path.Last.TheVariants as last
use Rattle.law_allowed.specs.pr_base.declared.path.WalkMode.{WalkMode}
use Rattle.law_allowed.specs.pr_base.declared.path.WalkMode.TheVariants as modes
use Rattle.law_allowed.specs.kr_calls.PathTable.{PathUse, path_at}
use Rattle.kr_transfer.proofs.kr_inode.NameLemmas.{name_decides}
use Rattle.law_allowed.specs.kr_tree.declared.place.Host.TheVariants.{Node}
use Rattle.law_allowed.specs.kr_tree.declared.place.Place.{Place}
use Rattle.law_allowed.specs.kr_tree.declared.place.ProcAt.{ProcAt}
use Rattle.law_allowed.specs.kr_tree.Names.{is_name}
use Rattle.law_allowed.specs.kr_tree.Tree.{Tree, body_is, entry, takes_names}
use Rattle.law_allowed.specs.kr_view.declared.procs.Lead.TheVariants.{Text}
use Rattle.law_allowed.specs.kr_view.declared.target.Target.{Target}
use Rattle.law_allowed.specs.kr_view.Answers.{told, target_numbered}
use Rattle.law_allowed.specs.kr_view.Component.{Surroundings, look_up}
use Rattle.law_allowed.specs.kr_view.InTree.{StandsAround}
use Rattle.law_allowed.specs.kr_view.Leads.{numbered}
use Rattle.law_allowed.specs.kr_view.View.{Row, covered, node_in}
use Rattle.law_allowed.specs.kr_view.Walk.{PlaceTarget, looking, place_walk}
use Rattle.law_allowed.proofs.kr_view.PlaceLemmas.{walks_keep_places}
use Rattle.law_allowed.specs.kr_model.Lawful.{IsLawful}
use Rattle.law_allowed.specs.kr_model.ProcessDirectory.{around_of, leads_of}
use Rattle.law_allowed.specs.kr_model.State.{Image, State}
use Rattle.law_allowed.specs.kr_model.Walks.{target_at}
use Rattle.kr_rows.specs.kr_ops.Meaning.{meaning}
use Rattle.kr_transfer.specs.kr_seen.Numbered.{state_numbered}
use Rattle.kr_transfer.specs.kr_seen.CallWalks.{IsTold}
use Rattle.kr_perform.specs.Resolving.{IsResolved, IsResolvedFor, IsText, LinksHaveTexts, WalksResolve}
use Rattle.kr_perform.proofs.AroundLemmas.{both, leads_texts, of_walk}
use Rattle.kr_perform.proofs.EndingLemmas.{free_comes, never_jumped}
use Rattle.kr_perform.proofs.EntryLemmas.{free_name, named_entry}
use Rattle.kr_perform.proofs.LinkLemmas.{link_text}
use Rattle.kr_perform.proofs.NumberedLemmas.{lawful_numbered}
use Rattle.kr_perform.proofs.ShownLemmas.{a_name, free_stays, shown_name, well_formed}
use Rattle.kr_perform.proofs.TextLemmas.{IsTextByte, IsTextPart, text_ends}

-- where a last link is followed and its name may be free
opens : (mode : WalkMode) (slash : Bool) → is_followed mode slash ≡ true → may_be_free mode ≡ true → mode ≡ modes.Open
opens modes.Look slash followed free = absurd cc
opens modes.LookLink slash followed free = absurd cc
opens modes.Name slash followed free = absurd cc
opens modes.Open slash followed free = refl

-- ---- one walk

module _ (around : Surroundings) (mode : WalkMode) (base : Place ℕ) (path : List ℕ) (w : PlaceTarget) (stands : StandsAround around base) (ends : (place_walk around mode base path).answer ≡ Ok w) where
  abbrev t : Tree
  t = around.space.tree

  -- in a directory of the tree
  looked : (dir : ℕ) → w.jumped ≡ false → w.last ≡ last.Name → w.dir.host ≡ Node dir → Shows (look_up around (node_in w.dir.mount dir) (Name w.name)) w.found
  looked dir jumped name at =
      let place : w.dir ≡ node_in w.dir.mount dir = λ j. record { mount = w.dir.mount; host = at j } in
      subst (λ (p : Place ℕ). Shows (look_up around p (Name w.name)) w.found) place (shown_name around mode base path w ends jumped name)

  -- a free name
  pub free_is : IsText path → (mode ≡ modes.Open → LinksHaveTexts around.space.tree) → ((at : ProcAt) (text : List ℕ) → around.leads at ≡ Text text → IsText text)
      → (dir : ℕ) → w.last ≡ last.Name → w.found ≡ None → w.dir.host ≡ Node dir → body_is takes_names around.space.tree dir ≡ true → (is_name w.name ≡ true) × (entry around.space.tree dir w.name ≡ None)
  free_is plain links texts dir name none at takes =
      let shows = subst (λ found. Shows (look_up around (node_in w.dir.mount dir) (Name w.name)) found) none (looked dir (free_stays around mode base path w ends none) name at) in
      let free = free_name around stands.inodes stands.mounts w.dir.mount dir w.name takes shows in
      let comes = free_comes (looking around) mode base path IsTextPart (λ s c f text slash looked followed free. text_ends text (link_text around IsText (links (opens mode slash followed free)) texts s c f text looked)) (λ free. text_ends path plain) w ends none in
      let is : comes.0 ≡ Name w.name = a_name comes.0 w.name (comes.2 ∙ name) comes.3 in
      ((name_decides w.name).1 (well_formed w.name (subst IsTextPart is comes.1) free.0), free.1)

  -- a name that was found, where a last link isn't followed
  pub entry_is : mode ≡ modes.Name → (dir : ℕ) (p : Place ℕ) → w.last ≡ last.Name → w.found ≡ Some p → w.dir.host ≡ Node dir → body_is takes_names around.space.tree dir ≡ true
      → covered around.space.table dir w.name ≡ false → (i : ℕ) × (p.host ≡ Node i) × (entry around.space.tree dir w.name ≡ Some i)
  entry_is named dir p name found at takes open_name =
      let jumped : w.jumped ≡ false = never_jumped (looking around) mode base path (λ slash. ap (λ m. is_followed m slash) named) w ends in
      let shows = subst (λ found. Shows (look_up around (node_in w.dir.mount dir) (Name w.name)) found) found (looked dir jumped name at) in
      named_entry around stands.inodes stands.mounts w.dir.mount dir w.name takes p shows open_name

-- ---- the targets of a call

module _ {T : Type 0} (number : T → ℕ) (table : List Row) (pid : ℕ) (s : State T Image) (lawful : IsLawful (λ m. m) table (state_numbered number s)) where
  abbrev shown : State ℕ Image
  shown = state_numbered number s

  leads_text : (at : ProcAt) (text : List ℕ) → leads_of table shown pid at ≡ Text text → IsText text
  leads_text at text is = All-weaker IsTextByte (λ b. b ≢ 0) (λ b both. both.0) text (leads_texts table shown lawful pid at text is)

  -- a target as the code tells it
  resolved : (u : PathUse) (base : Place ℕ) (w : PlaceTarget) → StandsAround (around_of table pid shown) base → (place_walk (around_of table pid shown) u.mode base u.text).answer ≡ Ok w → IsText u.text
      → (u.mode ≡ modes.Open → LinksHaveTexts s.tree) → (target : Target T) → told w ≡ target_numbered number target → IsResolved s.tree table u.mode target
  resolved u base w stands ends is_text links target same =
      let found_same : w.found ≡ option_map (numbered number) target.found = ap (λ (x : Target ℕ). x.found) same in
      let last_same : w.last ≡ target.last = ap (λ (x : Target ℕ). x.last) same in
      let name_same : w.name ≡ target.name = ap (λ (x : Target ℕ). x.name) same in
      let dir_same : w.dir.host ≡ target.dir.host = ap (λ (x : Target ℕ). x.dir.host) same in
      record {
        found = λ p is. ((walks_keep_places (around_of table pid shown) u.mode base u.text w stands ends).found (numbered number p) (found_same ∙ ap (option_map (numbered number)) is)).object;
        free = λ dir name none at takes.
            let own = free_is (around_of table pid shown) u.mode base u.text w stands ends is_text links leads_text dir (last_same ∙ name) (found_same ∙ ap (option_map (numbered number)) none) (dir_same ∙ at) takes in
            subst (λ n. (is_name n ≡ true) × (entry s.tree dir n ≡ None)) name_same own;
        entry = λ named dir p name is at takes open_name.
            let own = entry_is (around_of table pid shown) u.mode base u.text w stands ends named dir (numbered number p) (last_same ∙ name) (found_same ∙ ap (option_map (numbered number)) is) (dir_same ∙ at) takes
            (ap (covered table dir) name_same ∙ open_name) in
            (own.0, own.1, ap (entry s.tree dir) (sym name_same) ∙ own.2);
      }

  path_resolved : (u : Option PathUse) → ((x : PathUse) → u ≡ Some x → IsText x.text × (x.mode ≡ modes.Open → LinksHaveTexts s.tree)) → (o : Option PlaceTarget) → target_at table pid shown u ≡ Ok o
      → (target : Option (Target T)) → IsTold number o target → IsResolvedFor s.tree table u target
  path_resolved None texts o is target same = tt
  path_resolved (Some u) texts o is None same = tt
  path_resolved (Some u) texts None is (Some target) same = absurd (none-some (target_numbered number target) same)
  path_resolved (Some u) texts (Some w) is (Some target) same =
      let told_same : told w ≡ target_numbered number target = same_Some (told w) (target_numbered number target) same in
      of_walk table shown lawful pid (λ w. told w ≡ target_numbered number target → IsResolved s.tree table u.mode target) w (Some u)
      (λ x base one stands ends told. let own : x ≡ u = sym (same_Some u x one) in
      subst (λ (x : PathUse). IsResolved s.tree table x.mode target) own (resolved x base w stands ends (texts x one).0 (texts x one).1 target told)) is told_same

pub walks_resolve : {T : Type 0} {M : ℕ} (number : T → ℕ) (table : List Row) → WalksResolve M number table
walks_resolve number table pid s request targets lawful served lives texts are =
    let shown = state_numbered number (meaning s) in
    let numbered_lawful = lawful_numbered number table (meaning s) lawful in
    let each = both (target_at table pid shown (path_at request 0)) (target_at table pid shown (path_at request 1)) are.0 are.1 in
    record {
      first = path_resolved number table pid (meaning s) numbered_lawful (path_at request 0) (λ u is. (texts.paths 0 u is, texts.links 0 u is)) are.0.first each.0 targets.first are.2;
      second = path_resolved number table pid (meaning s) numbered_lawful (path_at request 1) (λ u is. (texts.paths 1 u is, texts.links 1 u is)) are.0.second each.1 targets.second are.3;
    }
