-- Trees of one shape call their directories alike.
use Rattle.std.proofs.Common.{◌≡◌, ℕ, Bool, true, false, List, [], ◌++◌, Option, Some, None, refl, sym, ap, ◌∙◌}
use Rattle.std.specs.Bool.{if◌then◌else◌}
use Rattle.std.specs.Option.{option_map, option_and_then}
use Rattle.pt_canon.specs.pr_base.Paths.{text_of}
use Rattle.pt_canon.specs.pr_base.Texts.{names_below, below}
use Rattle.law_lawful.specs.kr_tree.Lawful.{IsSound}
use Rattle.law_lawful.specs.kr_tree.Names.{host_name}
use Rattle.law_lawful.specs.kr_tree.Tree.{Tree, body_is, is_directory, root}
use Rattle.law_lawful.specs.kr_tree.declared.place.Host.TheVariants.{Node}
use Rattle.law_lawful.proofs.kr_tree.NameLemmas.{named-host_name, host_names-lead}
use Rattle.law_lawful.specs.kr_view.HostReach.{host_place}
use Rattle.law_lawful.specs.kr_view.Names.{Remembered, Text, guest_entry}
use Rattle.law_lawful.specs.kr_view.View.{plain_row}
use Rattle.law_lawful.specs.kr_model.HostView.{host_space}
use Rattle.law_lawful.specs.kr_model.Judged.{HasShape}
use Rattle.law_lawful.specs.kr_model.ProcessDirectory.{name_text, remembered}
use Rattle.law_lawful.specs.kr_model.State.{State}
use Rattle.law_steady.specs.NamesLast.{NameLasts, HostNamesLast}
use Rattle.law_steady.specs.Steady.{HaveOneShape}
use Rattle.law_steady.proofs.ShapeLemmas.{same_directory}

-- shape is the same both ways
pub shape_back : (t u : Tree) → HasShape t u → HasShape u t
shape_back t u shape = record { names = λ text. sym (shape.names text); nodes = λ text i way. sym (shape.nodes text i (sym (shape.names text) ∙ way)) }

module _ (t u : Tree) (sound : IsSound t) (sound_there : IsSound u) (shape : HasShape t u) where
  name_lasts : (dir : ℕ) (text : List (List ℕ)) → host_name t dir ≡ Some text → host_name u dir ≡ Some text
  name_lasts dir text h =
      let lead = host_names-lead t sound dir text h in
      named-host_name u sound_there text dir (shape.names text ∙ lead.0) (same_directory t u dir (shape.nodes text dir lead.0) ∙ lead.1)

module _ (t u : Tree) (sound : IsSound t) (sound_there : IsSound u) (shape : HasShape t u) where
  pub host_name_same : (dir : ℕ) → host_name u dir ≡ host_name t dir
  host_name_same dir = at (host_name t dir) refl (host_name u dir) refl
    where
      at : (a : Option (List (List ℕ))) → host_name t dir ≡ a → (b : Option (List (List ℕ))) → host_name u dir ≡ b → host_name u dir ≡ host_name t dir
      at (Some text) e b f = name_lasts t u sound sound_there shape dir text e ∙ sym e
      at None e None f = f ∙ sym e
      at None e (Some text) f = let back = name_lasts u t sound_there sound (shape_back t u shape) dir text f in f ∙ sym back

  -- what is no directory has no host name
  unnamed : (dir : ℕ) → body_is is_directory t dir ≡ false → host_name t dir ≡ None
  unnamed dir h = at (host_name t dir) refl
    where
      at : (a : Option (List (List ℕ))) → host_name t dir ≡ a → host_name t dir ≡ None
      at None e = e
      at (Some text) e = let lead = host_names-lead t sound dir text e in absurd (let clash = sym h ∙ lead.1 in cc)

-- ---- names over the plain view

-- as the root's mount calls a directory, by the host names of the root and the directory
abbrev directory_by : Option Text → Option Text → Option Text
directory_by top own = option_map (λ names. names ++ []) (option_and_then (λ high. option_and_then (names_below high) own) top)

abbrev entry_by : (ℕ → Option Text) → Option Text → Remembered → Option Text
entry_by called top None = None
entry_by called top (Some e) = below e.1 (directory_by top (called e.0))

abbrev name_by : (ℕ → Option Text) → Bool → ℕ → Remembered → Option (List ℕ)
name_by called is_dir i remembered = option_map text_of (if is_dir then directory_by (called root) (called i) else entry_by called (called root) remembered)

no_name : (top : Option Text) → directory_by top None ≡ None
no_name None = refl
no_name (Some text) = refl

module _ {M X : Type 0} (s : State M X) (i dir : ℕ) (name : List ℕ) where
  as_called : (r : Remembered) → remembered dir name ≡ r → name_text (host_space s) (host_place (Node i)) dir name ≡ name_by (host_name s.tree) (body_is is_directory s.tree i) i r
  as_called None e = ap (λ r. option_map text_of (if body_is is_directory s.tree i then directory_by (host_name s.tree root) (host_name s.tree i) else guest_entry s.tree (Some plain_row) r)) e
  as_called (Some p) e = ap (λ r. option_map text_of (if body_is is_directory s.tree i then directory_by (host_name s.tree root) (host_name s.tree i) else guest_entry s.tree (Some plain_row) r)) e

module _ {M N X Y : Type 0} (s : State M X) (t : State N Y) (shape : HaveOneShape s t) (sound : IsSound t.tree) (i : ℕ) where
  same : (dir : ℕ) → host_name t.tree dir ≡ host_name s.tree dir
  same dir = host_name_same s.tree t.tree shape.sound sound shape.shape dir

  by_called : (is_dir : Bool) (r : Remembered) → name_by (host_name t.tree) is_dir i r ≡ name_by (host_name s.tree) is_dir i r
  by_called true r = λ j. option_map text_of (directory_by (same root j) (same i j))
  by_called false None = refl
  by_called false (Some e) = λ j. option_map text_of (below e.1 (directory_by (same root j) (same e.0 j)))

  -- what remembers nothing has the name of a directory or none
  nothing_kept : {P Z : Type 0} (v : State P Z) → IsSound v.tree → (b : Bool) → body_is is_directory v.tree i ≡ b → name_by (host_name v.tree) b i None ≡ name_by (host_name v.tree) true i None
  nothing_kept v sound_v true h = refl
  nothing_kept v sound_v false h = ap (option_map text_of) (sym (ap (directory_by (host_name v.tree root)) (unnamed v.tree v.tree sound_v sound_v (record { names = λ text. refl; nodes = λ text k way. refl }) i h) ∙ no_name (host_name v.tree root)))

  pub lasts : NameLasts s t i
  lasts =
      record {
        host = same i;
        own = as_called t i 0 [] None refl ∙ nothing_kept t sound (body_is is_directory t.tree i) refl ∙ by_called true None
            ∙ sym (nothing_kept s shape.sound (body_is is_directory s.tree i) refl) ∙ sym (as_called s i 0 [] None refl);
        entered = λ dir name alike.
            as_called t i dir name (remembered dir name) refl ∙ ap (λ b. name_by (host_name t.tree) b i (remembered dir name)) alike
            ∙ by_called (body_is is_directory s.tree i) (remembered dir name) ∙ sym (as_called s i dir name (remembered dir name) refl);
      }

pub host_names_last : (M N X Y : Type 0) → HostNamesLast M N X Y
host_names_last M N X Y s t shape sound i = lasts s t shape sound i
