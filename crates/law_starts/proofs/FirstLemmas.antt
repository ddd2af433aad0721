-- The states in which the first process begins match.
use Rattle.std.specs.FinMap as map
use Rattle.std.proofs.Common.{◌≡◌, ℕ, Bool, true, false, cond, List, [], Some, None, refl, sym, ap, subst, ◌∙◌, map as map_list}
use Rattle.std.specs.Prelude.{◌==◌}
use Rattle.std.specs.Option.{option_map, option_map_or}
use Rattle.std.proofs.lemmas.Option.{none-some}
use Rattle.pr_start.specs.pr_base.Texts.{Text}
use Rattle.pr_start.specs.rv_mem.Actions.{AreEqualUnmarked}
use Rattle.pr_start.specs.pt_bind.Binding.{index_of}
use Rattle.pr_start.specs.pt_bind.Tags.{TagTable, tag_of, with_tag}
use Rattle.pr_start.specs.pt_bind.declared.slot.Slot.TheVariants as slot
use Rattle.pr_start.proofs.pt_bind.TagLemmas.{tags_change}
use Rattle.pr_start.specs.kr_inode.declared.user.User.{User}
use Rattle.pr_start.specs.kr_tree.Changes.{held}
use Rattle.pr_start.specs.kr_tree.Tree.{Tree}
use Rattle.pr_start.specs.kr_tree.declared.place.Place.{Place}
use Rattle.pr_start.proofs.kr_tree.NameLemmas.{then_some}
use Rattle.law_turns.specs.kr_files.declared.opened.Opened.{Opened}
use Rattle.law_turns.specs.kr_files.declared.opened.What.{What}
use Rattle.law_turns.specs.kr_files.declared.opened.What.TheVariants.{In, Out, Err}
use Rattle.law_turns.specs.kr_files.Descriptors.{Named}
use Rattle.law_turns.specs.kr_files.Files.{empty_table, file_at, with_file}
use Rattle.law_turns.specs.kr_files.WithoutMounts.{without_mounts}
use Rattle.pr_start.specs.kr_view.View.{Row, plain, row}
use Rattle.pr_start.proofs.kr_view.TableLemmas.{plain_stands}
use Rattle.pr_start.specs.kr_mounts.Standing.{texts_of}
use Rattle.law_turns.specs.kr_model.Applied.{in_mount}
use Rattle.law_turns.specs.kr_model.Bare.{bare, bare_process, pins_of}
use Rattle.law_turns.specs.kr_model.ProcessDirectory.{space_of}
use Rattle.law_turns.specs.kr_model.State.{Image, Layout, Process, State, image_layout, inode_of, named, process, with_descs}
use Rattle.pr_start.specs.kr_start.Start.{First, console, first_pid, first_process}
use Rattle.law_turns.specs.law_walks.Standing.{StandsOn}
use Rattle.law_turns.proofs.law_walks.TableLemmas.{owned}
use Rattle.law_turns.specs.law_places.Following.{Follows, StoodAndStays}
use Rattle.law_turns.specs.law_places.Losses.{nothing}
use Rattle.law_turns.specs.law_places.Matching.{AreImagesAlike, AreTagged, index_at}
use Rattle.law_turns.specs.law_places.Standing.{PlacesStand}
use Rattle.law_turns.specs.law_places.Uses.{Use, cwd_use, exe_use}
use Rattle.law_turns.proofs.law_places.FollowLemmas.{held_at_stays}
use Rattle.law_turns.proofs.law_places.KeptLemmas.{stood_kept, table_kept}
use Rattle.law_turns.proofs.law_places.SpaceLemmas.{places_follow}
use Rattle.law_turns.proofs.law_places.TagLemmas.{found_is}
use Rattle.law_turns.proofs.law_places.TreeLemmas.{stay_all}
use Rattle.law_starts.specs.FirstStates.{BeginsAt, FirstStatesMatch, IsOpening, first_state, first_tags, on_host}
use Rattle.law_starts.specs.Spaces.{first_space}
use Rattle.law_starts.proofs.BeforeLemmas.{HasNoPlaces, alone, before, before-stands, cwd-stands, exe-stands, no-places, still-no-places, unplaced}
use Rattle.law_starts.proofs.HeldLemmas.{held-fewer}
use Rattle.law_starts.proofs.LawfulLemmas.{state-lawful}

-- the first process, with the descriptors of the console
abbrev lone : First ℕ → Process ℕ Image
lone f =
    with_descs (λ d. map.insert d 2 (record { number = 3; cloexec = false }))
    (with_descs (λ d. map.insert d 1 (record { number = 2; cloexec = false }))
    (with_descs (λ d. map.insert d 0 (record { number = 1; cloexec = false })) (first_process f)))

-- it is all that lives
lone-is : (table : List Row) (tree : Tree) (user : User) (input : List ℕ) (f : First ℕ) (pid : ℕ) (p : Process ℕ Image) → process pid (first_state table tree user input f) ≡ Some p → lone f ≡ p
lone-is table tree user input f pid p at = alone (lone f) pid p at

module _ (table : List Row) (tree : Tree) (user : User) (input : List ℕ) (first : First ℕ) (working program : Text) (opening : IsOpening tree user table) (at : BeginsAt table tree user first working program) where
  abbrev s : State ℕ Image
  s = first_state table tree user input first

  abbrev w : State ℕ Image
  w = first_state plain tree user input (on_host first)

  abbrev base : State ℕ Image
  base = before table tree user input opening

  abbrev P : Use → Type 0
  P = StoodAndStays nothing table base

  -- ---- places

  abbrev part : What → Bool → Bool → Opened ℕ
  part what read write = in_mount first.cwd.mount (console what read write)

  no-files : HasNoPlaces s.files
  no-files =
      let one = still-no-places (part In true false) empty_table refl no-places in
      let two = still-no-places (part Out false true) (with_file (part In true false) empty_table) refl one in
      still-no-places (part Err false true) (with_file (part Out false true) (with_file (part In true false) empty_table)) refl two

  own-cwd : P (cwd_use (lone first))
  own-cwd = stood_kept table base (cwd_use (lone first)) (cwd-stands table tree user input opening first working program at)

  own-exe : P (exe_use (lone first))
  own-exe = stood_kept table base (exe_use (lone first)) (exe-stands table tree user input opening first working program at)

  follows : Follows nothing P base s
  follows = record {
    user = refl;
    inodes =
        held_at_stays nothing base (Some first.exe) (held (inode_of first.cwd.host) base.tree)
        (held_at_stays nothing base (Some first.cwd) base.tree (stay_all user nothing base.tree.inodes));
    pids = λ test pid e kept. absurd (none-some pid e);
    cwds = λ pid p e. subst (λ (q : Process ℕ Image). P (cwd_use q)) (lone-is table tree user input first pid p e) own-cwd;
    exes = λ pid p e. subst (λ (q : Process ℕ Image). P (exe_use q)) (lone-is table tree user input first pid p e) own-exe;
    opens = λ n o p e there. absurd (unplaced s.files no-files n o p e there);
  }

  stand : PlacesStand table s
  stand =
      places_follow nothing table base s (before-stands table tree user input opening) (table_kept (space_of table base))
      (state-lawful table tree user input first opening.kept opening.prepared.stands opening.prepared.free at.begins at.image) follows

  -- ---- bare parts

  -- all but the tree is equal
  abbrev of_tree : Tree → State (Unit {0}) Layout
  of_tree t = record {
    tree = t;
    user = user;
    files = without_mounts w.files;
    input = input;
    taken = 0;
    out = [];
    err = [];
    living = map_list (bare_process image_layout) w.living;
    ended = [];
    next_pid = 3;
  }

  bares : bare image_layout (pins_of table) s ≡ bare image_layout (pins_of plain) w
  bares =
      let c = inode_of first.cwd.host in
      let e = inode_of first.exe.host in
      let one = held-fewer table tree opening.prepared.stands opening.prepared.free c e in
      let other = held-fewer plain tree (plain_stands tree opening.kept.sound).0 opening.prepared.free c e in
      ap of_tree (one ∙ sym other)

  -- ---- images

  same-registers : (b : Bool) → option_map (λ (p : Process ℕ Image). p.image.regs) (cond b (Some (lone first)) None) ≡ option_map (λ (p : Process ℕ Image). p.image.regs) (cond b (Some (lone (on_host first))) None)
  same-registers true = refl
  same-registers false = refl

  same-memory : AreEqualUnmarked first.image.memory.pages first.image.memory.pages
  same-memory = record { rights = λ k. refl; bytes = λ a unmarked. refl; whole = at.image.whole; other_whole = at.image.whole }

  images : AreImagesAlike s w
  images = record {
    registers = λ pid. same-registers (first_pid == pid);
    memories = λ pid p q at_p at_q.
        subst (λ (p : Process ℕ Image). AreEqualUnmarked p.image.memory.pages q.image.memory.pages) (lone-is table tree user input first pid p at_p)
        (subst (λ (q : Process ℕ Image). AreEqualUnmarked first.image.memory.pages q.image.memory.pages) (lone-is plain tree user input (on_host first) pid q at_q) same-memory);
  }

  -- ---- tags

  -- the index of a guest text is that of the mount of what stands there
  index-is : (p : Place ℕ) (t : Text) → StandsOn (first_space table tree user) p t → index_of (texts_of table) t ≡ index_at table p.mount
  index-is p t on =
      let own = owned (first_space table tree user) opening.prepared.settled t in
      own.index ∙ sym (ap (λ o. option_map_or (λ (r : Row). r.text.index) o 0) (ap (row table) on.stands.mount ∙ own.there))

  abbrev tags : TagTable
  tags = first_tags table working program

  abbrev cwd_tag : ℕ
  cwd_tag = index_of (texts_of table) working

  abbrev exe_tag : ℕ
  exe_tag = index_of (texts_of table) program

  cwd-tag : tag_of tags first_pid slot.Cwd ≡ cwd_tag
  cwd-tag = tags_change.set_slots (with_tag map.empty first_pid slot.Cwd cwd_tag) first_pid slot.Exe exe_tag slot.Cwd apart ∙ tags_change.set map.empty first_pid slot.Cwd cwd_tag
    where
      apart : slot.Cwd ≡ slot.Exe → ⊥
      apart e = cc

  exe-tag : tag_of tags first_pid slot.Exe ≡ exe_tag
  exe-tag = tags_change.set (with_tag map.empty first_pid slot.Cwd cwd_tag) first_pid slot.Exe exe_tag

  pid-is : (pid : ℕ) (p : Process ℕ Image) → process pid s ≡ Some p → pid ≡ first_pid
  pid-is pid p e = sym (ap (λ (p : Process ℕ Image). p.pid) (lone-is table tree user input first pid p e) ∙ found_is pid s.living p e)

  tagged : AreTagged table s tags
  tagged = record {
    cwds = λ pid p e.
        ap (λ n. tag_of tags n slot.Cwd) (pid-is pid p e) ∙ cwd-tag ∙ index-is first.cwd working at.cwd
        ∙ ap (λ (p : Process ℕ Image). index_at table p.cwd.mount) (lone-is table tree user input first pid p e);
    exes = λ pid p e.
        ap (λ n. tag_of tags n slot.Exe) (pid-is pid p e) ∙ exe-tag ∙ index-is first.exe program at.exe
        ∙ ap (λ (p : Process ℕ Image). index_at table p.exe.mount) (lone-is table tree user input first pid p e);
    open_files = λ pid fd o p e there.
        let x = then_some (λ (x : Named). file_at s.files x.number) (named pid fd s) o e in
        absurd (unplaced s.files no-files x.0.number o p x.2 there);
  }

pub first-states-match : FirstStatesMatch
first-states-match table tree user input first working program opening at = record {
  bares = bares table tree user input first working program opening at;
  images = images table tree user input first working program opening at;
  tagged = tagged table tree user input first working program opening at;
  placed = stand table tree user input first working program opening at;
}
