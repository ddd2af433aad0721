-- What a walk found and is no link stands, and so it can come into use.
use Rattle.std.proofs.Common.{◌≡◌, ◌≢◌, ℕ, true, false, not, List, [], ◌∷◌, length, Option, Some, None, refl, sym, ap, subst, ◌∙◌, arith}
use Rattle.std.specs.Prelude.{◌==◌}
use Rattle.std.specs.Option.{option_map_or}
use Rattle.std.proofs.lemmas.Bool.{ne_eqb}
use Rattle.std.proofs.lemmas.List.Elements.{All-head}
use Rattle.kr_core.specs.pr_base.Paths.{AreNames, IsName}
use Rattle.kr_core.specs.pr_base.Texts.{Text}
use Rattle.kr_core.specs.pr_base.WalkFrame.{Target}
use Rattle.kr_core.specs.pr_base.declared.path.WalkMode.{WalkMode}
use Rattle.kr_core.proofs.pr_base.AlikeLemmas.{alike_some}
use Rattle.kr_core.specs.kr_tree.declared.place.Host.{Host}
use Rattle.kr_core.specs.kr_tree.declared.place.Host.TheVariants.{Node, Proc}
use Rattle.kr_core.specs.kr_tree.declared.place.Place.{Place}
use Rattle.kr_core.specs.kr_tree.declared.place.ProcAt.{ProcAt}
use Rattle.kr_core.proofs.kr_tree.NameLemmas.{some_is}
use Rattle.law_places.specs.kr_view.declared.procs.Lead.{Lead}
use Rattle.law_places.specs.kr_view.Component.{Namespace, is_directory_at}
use Rattle.law_places.specs.kr_view.HostReach.{is_link_at}
use Rattle.law_places.specs.kr_view.Processes.{LawsOfProcesses}
use Rattle.law_places.specs.kr_view.View.{source}
use Rattle.law_places.specs.kr_view.Walk.{PlaceTarget}
use Rattle.law_places.proofs.kr_view.HostReachLemmas.{entry_in, last_object, reached_names}
use Rattle.law_places.specs.kr_model.State.{inode_of}
use Rattle.law_places.specs.law_walks.Handed.{BothEnd}
use Rattle.law_places.specs.law_walks.Scene.{Scene, space_of}
use Rattle.law_places.specs.law_walks.Settled.{IsSettled, host_text}
use Rattle.law_places.specs.law_walks.Standing.{FoundStands, IsEntryAt, StandsOn, reached_in}
use Rattle.law_places.proofs.law_walks.HandedLemmas.{alike, entry_at, found_stands, settled_at}
use Rattle.law_places.specs.Standing.{UseStands}

-- a place that stands at a guest text. What is no directory has an entry with a name, which is that of the host text
pub record IsFound (space : Namespace) (p : Place ℕ) (e : ℕ × List ℕ) : Type 0 where
  pub guest : Text
  pub on : StandsOn space p guest
  pub entry : is_directory_at space.tree p.host ≡ false → IsEntryAt space (host_text space guest) (Node e.0) e.1
  pub called : is_directory_at space.tree p.host ≡ false → e.1 ≢ []

true_false : {A : Type 0} → true ≡ false → A
true_false e = absurd cc

-- ---- as what is used

module _ (space : Namespace) (p : Place ℕ) (e : ℕ × List ℕ) (f : IsFound space p e) where
  pub directory_use : is_directory_at space.tree p.host ≡ true → UseStands space (record { place = p; is_directory = true; dir = 0; name = [] })
  directory_use dir = record { called = λ called. (f.guest, record { on = f.on; kind = dir; entry = λ file. true_false file }); nameless = λ none. true_false none }

  some_name : (name : List ℕ) → name ≢ [] → not (length name == 0) ≡ true
  some_name [] some = absurd (some refl)
  some_name (b ∷ name) some = ap not (ne_eqb (length (b ∷ name)) 0 (λ e. absurd (omega arith)))

  pub file_use : is_directory_at space.tree p.host ≡ false → UseStands space (record { place = p; is_directory = false; dir = e.0; name = e.1 })
  file_use file = record {
    called = λ called. (f.guest, record { on = f.on; kind = file; entry = λ _. f.entry file });
    nameless = λ none. true_false (sym (some_name e.1 (f.called file)) ∙ none);
  }

-- ---- what walks find

-- an object that is no directory is an inode, and so is the directory of its entry
file_node : (space : Namespace) (x : Host) → is_link_at space.tree x ≡ false → is_directory_at space.tree x ≡ false → (i : ℕ) × (x ≡ Node i)
file_node space (Node i) firm file = (i, refl)
file_node space (Proc i at) firm file = true_false (sym (ap not file) ∙ firm)

entry_node : (space : Namespace) (p : Place ℕ) (t : Text) (dir : Host) (name : List ℕ) → StandsOn space p t → is_directory_at space.tree p.host ≡ false → IsEntryAt space (host_text space t) dir name → dir ≡ Node (inode_of dir)
entry_node space p t dir name on file at =
    let i = file_node space p.host on.firm file in
    let way : reached_in space (name ∷ at.up) ≡ Some (Node i.0) = ap (reached_in space) (sym at.text) ∙ on.stands.way ∙ ap Some i.1 in
    let o = last_object space.tree space.user space.finds at.up name (Node i.0) way in
    let n = entry_in space.tree space.finds name o.dir i.0 o.there in
    let same : dir ≡ Node n.ino = some_is dir (Node n.ino) (sym at.way ∙ o.way ∙ ap Some n.is) in
    same ∙ ap (λ d. Node (inode_of d)) (sym same)

-- the last name of a host text that is reached isn't empty
entry_called : (space : Namespace) (leads : ProcAt → Lead ℕ) → IsSettled space → LawsOfProcesses space.finds leads → (p : Place ℕ) (t : Text) (dir : Host) (name : List ℕ) → StandsOn space p t → IsEntryAt space (host_text space t) dir name → name ≢ []
entry_called space leads set laws p t dir name on at =
    let names : AreNames (name ∷ at.up) = subst AreNames at.text (reached_names space.tree space.user space.finds leads (host_text space t) p.host set.sound laws on.stands.way) in
    (All-head IsName name at.up names).some

module _ (scene : Scene) (mode : WalkMode) (base : Place ℕ) (t : Text) (path : List ℕ) (a : PlaceTarget) (b : Target Text Text) (e : BothEnd scene mode base t path a b) (p : Place ℕ) (ea : a.found ≡ Some p) (firm : is_link_at (space_of scene).tree p.host ≡ false) where
  abbrev space : Namespace
  space = space_of scene

  both : (u : Text) × (b.found ≡ Some u) × FoundStands space mode p u
  both = alike_some (FoundStands space mode) a.found b.found p (alike scene mode base t path a b e).found ea

  on : StandsOn space p both.0
  on = record { stands = (found_stands scene mode base t path a b e p both.0 ea both.1).stands; firm = firm }

  -- the entry that an opening remembers
  abbrev pub entry_by : Option (ℕ × List ℕ) → ℕ × List ℕ
  entry_by o = option_map_or (λ e. e) o (inode_of a.dir.host, a.name)

  entry_kept : is_directory_at space.tree p.host ≡ false → (o : Option (ℕ × List ℕ)) → source space.table p.mount ≡ o → IsEntryAt space (host_text space both.0) (Node (entry_by o).0) (entry_by o).1
  entry_kept file None none =
      let at = entry_at scene mode base t path a b e p both.0 ea both.1 file none in
      subst (λ d. IsEntryAt space (host_text space both.0) d a.name) (entry_node space p both.0 a.dir.host a.name on file at) at
  entry_kept file (Some own) is = settled_at scene mode base t path a b e p both.0 ea both.1 file own is

  pub is_found : IsFound space p (entry_by (source space.table p.mount))
  is_found = record {
    guest = both.0;
    on = on;
    entry = λ file. entry_kept file (source space.table p.mount) refl;
    called = λ file. entry_called space scene.around.leads e.matched.settled e.matched.processes p both.0 (Node (entry_by (source space.table p.mount)).0) (entry_by (source space.table p.mount)).1 on (entry_kept file (source space.table p.mount) refl);
  }
