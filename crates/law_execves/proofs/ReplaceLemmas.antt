-- The same program in place of a caller's in two states that match.
use Rattle.std.specs.FinMap as map
use Rattle.std.proofs.Common.{◌≡◌, ◌≢◌, ℕ, true, false, List, [], ◌∷◌, Option, Some, None, Ok, refl, sym, ap, subst, ◌∙◌, map as map_list}
use Rattle.std.specs.Option.{option_map_or}
use Rattle.std.proofs.lemmas.List.Elements.{All-head}
use Rattle.std.proofs.lemmas.Option.{same_Some}
use Rattle.law_programs.specs.pr_base.Paths.{AreNames, IsName}
use Rattle.law_stops.specs.pt_bind.Tags.{TagTable, with_tag}
use Rattle.law_stops.specs.pt_bind.declared.slot.Slot.TheVariants.{Exe}
use Rattle.law_programs.specs.kr_tree.Tree.{Body, Directory, Inode, ProcessDirectory, RegularFile, SymbolicLink, Tree, inode, is_directory, is_file}
use Rattle.law_programs.specs.kr_tree.declared.place.Host.{Host}
use Rattle.law_programs.specs.kr_tree.declared.place.Host.TheVariants.{Node, Proc}
use Rattle.law_stops.specs.kr_view.Component.{is_directory_at}
use Rattle.law_stops.specs.kr_view.Living.{Living, finds_among}
use Rattle.law_stops.specs.kr_view.View.{Row, plain}
use Rattle.law_stops.proofs.kr_view.HostReachLemmas.{reached_names}
use Rattle.law_plans.proofs.kr_calm.ChangeLemmas.{new_programs_break_none}
use Rattle.law_programs.specs.kr_execve.Execution.{Program, changes_of}
use Rattle.law_programs.specs.law_lawful.Laws.{CanAllBeMade}
use Rattle.law_stops.specs.kr_model.Applied.{all_applied, applied, images, with_living, with_program}
use Rattle.law_stops.specs.kr_model.Change.{OfFound, ReplaceImage}
use Rattle.law_stops.specs.kr_model.Lawful.{is_file_at}
use Rattle.law_stops.specs.kr_model.ProcessDirectory.{space_of}
use Rattle.law_stops.specs.kr_model.State.{Image, Process, State, with_process}
use Rattle.law_stops.specs.law_walks.Scene.{IsMatched}
use Rattle.law_stops.specs.law_walks.Settled.{host_text}
use Rattle.law_stops.specs.law_walks.States.{IsInUse, scene_of}
use Rattle.law_plans.specs.law_places.Changes.{NewPlacesStand}
use Rattle.law_plans.specs.law_places.Matching.{IsMatch, index_at}
use Rattle.law_plans.specs.law_places.Standing.{UseStands}
use Rattle.law_plans.proofs.law_places.FollowLemmas.{told_at}
use Rattle.law_stops.proofs.law_turns.FoundLemmas.{file_use}
use Rattle.law_stops.proofs.law_turns.KeepLemmas.{changes_keep_matches}
use Rattle.law_stops.proofs.law_turns.SettleLemmas.{match_gone}
use Rattle.law_execves.specs.Replacing.{ArePutAlike, ProgramsKeepMatches, mounts_of}

-- a file is no directory
no-directory : (t : Tree) (h : Host) → is_file_at t h ≡ true → is_directory_at t h ≡ false
no-directory t (Proc i at) f = absurd cc
no-directory t (Node i) f = by (inode t i) f
  where
    kind : (b : Body) → is_file b ≡ true → is_directory b ≡ false
    kind (Directory entries standing) h = absurd cc
    kind (RegularFile bytes) h = refl
    kind (SymbolicLink text) h = refl
    kind (ProcessDirectory standing) h = absurd cc

    by : (o : Option Inode) → option_map_or (λ (x : Inode). is_file x.node.body) o false ≡ true → option_map_or (λ (x : Inode). is_directory x.node.body) o false ≡ false
    by None h = refl
    by (Some x) h = kind x.node.body h

-- what is shown of a process
abbrev pub shows : Process ℕ Image → Living
shows p = record { pid = p.pid; fds = map_list (λ e. e.0) (map.entries p.descs) }

-- a change of a process that leaves its number and its descriptors shows the same of all
shown_same : (pid : ℕ) (f : Process ℕ Image → Process ℕ Image) (shown : Process ℕ Image → Living) → ((p : Process ℕ Image) → shown (f p) ≡ shown p) → (ps : List (Process ℕ Image)) → map_list shown (with_process pid f ps) ≡ map_list shown ps
shown_same pid f shown same [] = refl
shown_same pid f shown same (p ∷ ps) = ap (λ x. x ∷ map_list shown (with_process pid f ps)) (told_at shown pid f same p) ∙ ap (λ xs. shown p ∷ xs) (shown_same pid f shown same ps)

-- so walks go through the same
pub space-same : (table : List Row) (pid : ℕ) (f : Process ℕ Image → Process ℕ Image) (s : State ℕ Image) → ((p : Process ℕ Image) → shows (f p) ≡ shows p) → space_of table (with_living (with_process pid f) s) ≡ space_of table s
space-same table pid f s same = ap (λ living. record { table = table; tree = s.tree; user = s.user; finds = finds_among living }) (shown_same pid f shows same s.living)

module _ (table : List Row) (pid : ℕ) (s w : State ℕ Image) (tags : TagTable) (program other : Program) (index : ℕ) (m : IsMatch table tags s w) (matched : IsMatched (scene_of table s pid tags)) (alike : ArePutAlike table pid s w program other index) where
  abbrev used : IsInUse (space_of table s) program.exe program.dir program.name index
  used = alike.used

  -- ---- its file comes into use

  file : is_directory_at s.tree program.exe.host ≡ false
  file = no-directory s.tree program.exe.host alike.is_file

  called : program.name ≢ []
  called =
      let at = used.entry file in
      (All-head IsName program.name at.up (subst AreNames at.text (reached_names s.tree s.user (space_of table s).finds _ (host_text (space_of table s) used.guest) program.exe.host matched.settled.sound matched.processes used.stands.stands.way))).some

  abbrev Stands : Type 0
  Stands = UseStands (space_of table s) (record { place = program.exe; is_directory = false; dir = program.dir; name = program.name })

  stands : Stands
  stands = file_use (space_of table s) program.exe (program.dir, program.name) (record { guest = used.guest; on = used.stands; entry = used.entry; called = λ _. called }) file

  abbrev loaded : State ℕ Image
  loaded = applied images (mounts_of program) pid (ReplaceImage program.image program.brk) s

  same_space : space_of table loaded ≡ space_of table s
  same_space = space-same table pid (with_program program.image program.brk) s (λ p. refl)

  new : NewPlacesStand table (mounts_of program) pid s (changes_of (Ok program))
  new = (tt, (brings, (tt, tt)))
    where
      brings : (k : ℕ) → Some program.exe.mount ≡ Some k → UseStands (space_of table loaded) (record { place = record { mount = k; host = program.exe.host }; is_directory = false; dir = program.dir; name = program.name })
      brings k is =
          subst (λ k. UseStands (space_of table loaded) (record { place = record { mount = k; host = program.exe.host }; is_directory = false; dir = program.dir; name = program.name })) (same_Some _ _ is)
          (subst (λ space. UseStands space (record { place = program.exe; is_directory = false; dir = program.dir; name = program.name })) (sym same_space) stands)

  -- ---- its tag

  tagged : index_at table program.exe.mount ≡ index
  tagged = ap (λ o. option_map_or (λ (r : Row). r.text.index) o 0) used.there ∙ sym used.tagged

  -- ---- both states

  same_changes : changes_of (Ok other) ≡ changes_of (Ok program)
  same_changes = λ i. changes_of (Ok (record { image = sym alike.same.image i; brk = sym alike.same.brk i; exe = record { mount = 0; host = sym alike.same.host i }; dir = sym alike.same.dir i; name = sym alike.same.name i }))

  kept : IsMatch table (with_tag tags pid Exe (index_at table program.exe.mount)) (all_applied images (mounts_of program) pid (changes_of (Ok program)) s) (all_applied images (mounts_of other) pid (changes_of (Ok program)) w)
  kept =
      changes_keep_matches table (mounts_of program) (mounts_of other) pid (changes_of (Ok program)) s w tags refl refl
      (new_programs_break_none images (mounts_of program) pid table s program.image program.brk OfFound program.exe.host program.dir program.name) new alike.made
      (subst (CanAllBeMade (λ k. k) plain (mounts_of other) pid w) same_changes alike.also_made) alike.lawful m

  put : IsMatch table (with_tag tags pid Exe index) (all_applied images (mounts_of program) pid (changes_of (Ok program)) s) (all_applied images (mounts_of other) pid (changes_of (Ok other)) w)
  put =
      subst (λ k. IsMatch table (with_tag tags pid Exe k) (all_applied images (mounts_of program) pid (changes_of (Ok program)) s) (all_applied images (mounts_of other) pid (changes_of (Ok other)) w)) tagged
      (subst (λ cs. IsMatch table (with_tag tags pid Exe (index_at table program.exe.mount)) (all_applied images (mounts_of program) pid (changes_of (Ok program)) s) (all_applied images (mounts_of other) pid cs w)) (sym same_changes) kept)

pub programs_keep_matches : ProgramsKeepMatches
programs_keep_matches table pid s w tags program other index m matched alike =
    match_gone pid (λ regs. regs) false table (with_tag tags pid Exe index) (all_applied images (mounts_of program) pid (changes_of (Ok program)) s) (all_applied images (mounts_of other) pid (changes_of (Ok other)) w)
    (put table pid s w tags program other index m matched alike)
