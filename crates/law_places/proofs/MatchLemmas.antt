-- What two states that match have in common with what walks go by.
use Rattle.std.proofs.Common.{◌≡◌, ℕ, Bool, true, false, not, List, [], length, Option, Some, None, refl, sym, ap, ◌∙◌}
use Rattle.std.specs.Prelude.{◌||◌, ◌==◌}
use Rattle.std.specs.Option.{option_map_or}
use Rattle.law_walks.specs.kr_tree.declared.place.Host.{Host}
use Rattle.law_walks.specs.kr_tree.declared.place.Host.TheVariants.{Node, Proc}
use Rattle.law_walks.specs.kr_tree.declared.place.Place.{Place}
use Rattle.law_walks.specs.kr_tree.Tree.{Body, Directory, RegularFile, SymbolicLink, ProcessDirectory, Tree, body, is_directory, is_file}
use Rattle.law_walks.proofs.kr_tree.EntryLemmas.{body_test}
use Rattle.law_walks.proofs.kr_tree.NameLemmas.{then_some}
use Rattle.law_walks.specs.kr_view.Component.{Namespace, is_directory_at}
use Rattle.law_walks.proofs.kr_view.GuestNameLemmas.{nameless}
use Rattle.law_walks.specs.kr_view.View.{Row, row}
use Rattle.law_walks.specs.kr_files.Descriptors.{Named}
use Rattle.law_walks.specs.kr_files.Files.{file_at}
use Rattle.law_walks.specs.kr_model.Lawful.{is_file_at}
use Rattle.law_walks.specs.kr_model.ProcessDirectory.{space_of}
use Rattle.law_walks.specs.kr_model.State.{Image, State, named}
use Rattle.law_walks.specs.States.{IsPlaced}
use Rattle.law_walks.proofs.StateLemmas.{states_are_matched}
use Rattle.law_walks.proofs.TableLemmas.{owned}
use Rattle.law_places.specs.Matching.{MatchesAreMatched, TaggedPlacesArePlaced, index_at}
use Rattle.law_places.specs.Standing.{PlacesStand, UseStands}
use Rattle.law_places.specs.Uses.{Use, cwd_use, exe_use, is_cwd, is_exe, is_open, open_use}

-- ---- kinds

-- a file is no directory
pub file_apart : (t : Tree) (x : Host) → is_file_at t x ≡ true → is_directory_at t x ≡ false
file_apart t (Node i) file = body_test is_directory t i ∙ by (body t i) (sym (body_test is_file t i) ∙ file)
  where
    by : (o : Option Body) → option_map_or is_file o false ≡ true → option_map_or is_directory o false ≡ false
    by None e = absurd cc
    by (Some (Directory es st)) e = absurd cc
    by (Some (RegularFile bytes)) e = refl
    by (Some (SymbolicLink text)) e = absurd cc
    by (Some (ProcessDirectory st)) e = absurd cc
file_apart t (Proc i at) file = absurd cc

module _ (table : List Row) (s : State ℕ Image) (stand : PlacesStand table s) where
  abbrev space : Namespace
  space = space_of table s

  -- a place in use with the index of its mount as its tag
  placed_use : (x : Use) (tag : ℕ) → UseStands space x → is_directory_at s.tree x.place.host ≡ x.is_directory → (x.is_directory ≡ true → x.name ≡ []) → tag ≡ index_at table x.place.mount
      → IsPlaced space x.place x.dir x.name tag
  placed_use x tag stands kind unnamed tagged = record {
    called = λ called.
        let at = stands.called (ap (λ b. b || not (length x.name == 0)) (sym kind) ∙ called) in
        let own = owned space stand.settled at.0 in
        let there = ap (row table) at.1.on.stands.mount ∙ own.there in
        record {
          guest = at.0;
          stands = at.1.on;
          mount = own.mount;
          there = there;
          tagged = tagged ∙ ap (λ o. option_map_or (λ (r : Row). r.text.index) o 0) there;
          directory = λ dir. unnamed (sym kind ∙ dir);
          entry = λ file. at.1.entry (sym kind ∙ file);
        };
    nameless = λ uncalled. nameless space x.place (no_or (is_directory_at s.tree x.place.host) (not (length x.name == 0)) uncalled);
  }
    where
      no_or : (a b : Bool) → (a || b) ≡ false → a ≡ false
      no_or true b e = e
      no_or false b e = refl

pub tagged_places_are_placed : TaggedPlacesArePlaced
tagged_places_are_placed table s tags stand tagged = record {
  cwd = λ pid p at. placed_use table s stand (cwd_use p) _ (stand.uses (cwd_use p) (is_cwd pid p at)) (stand.lawful.processes pid p at).cwd.1 (λ e. refl) (tagged.cwds pid p at);
  exe = λ pid p at. placed_use table s stand (exe_use p) _ (stand.uses (exe_use p) (is_exe pid p at)) (file_apart s.tree p.exe.host (stand.lawful.processes pid p at).exe.1) (λ e. absurd cc) (tagged.exes pid p at);
  open_files = λ pid fd o p at there.
      let x = then_some (λ (x : Named). file_at s.files x.number) (named pid fd s) o at in
      let own = stand.lawful.files x.0.number o x.2 in
      placed_use table s stand (open_use o p) _ (stand.uses (open_use o p) (is_open x.0.number o p x.2 there)) (own.placed p there).1 (λ dir. (own.directories dir).2) (tagged.open_files pid fd o p at there);
}

pub matches_are_matched : {N : Type 0} → MatchesAreMatched N
matches_are_matched {N} table tags s w caller m small = states_are_matched Image table s caller tags m.placed.settled small (tagged_places_are_placed table s tags m.placed m.tagged)
