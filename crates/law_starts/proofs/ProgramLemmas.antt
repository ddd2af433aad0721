-- Both machines find the same program along a path.
use Rattle.std.proofs.Common.{◌≡◌, ◌≢◌, ◌≤◌, ℕ, zero, suc, Bool, true, false, ◌&&◌, List, [], ◌∷◌, take, Option, Some, None, Result, Ok, Err, refl, sym, ap, subst, ◌∙◌}
use Rattle.std.specs.Bool.{if◌then◌else◌}
use Rattle.std.specs.Option.{option_and_then, option_map_or, unwrap_or}
use Rattle.pr_start.specs.pr_base.Alike.{Alike, OptionAlike, TargetAlike, both, ends, errs, neither}
use Rattle.pr_start.specs.pr_base.Paths.{components_of, has_slash, is_absolute, slash, text_of}
use Rattle.pr_start.specs.pr_base.Texts.{Text}
use Rattle.pr_start.specs.pr_base.WalkFrame.{Looking, Target, Trail, most_links, walk, walk_on}
use Rattle.pr_start.specs.pr_base.declared.errno.Errno.{Errno}
use Rattle.pr_start.specs.pr_base.declared.errno.Errno.TheVariants.{EACCES}
use Rattle.pr_start.specs.pr_base.declared.path.Last.TheVariants as last
use Rattle.pr_start.specs.pr_base.declared.path.WalkMode.{WalkMode}
use Rattle.pr_start.specs.pr_base.declared.path.WalkMode.TheVariants.{Look, LookLink}
use Rattle.pr_start.specs.pt_bind.Binding.{host_of, index_of, names_of}
use Rattle.pr_start.specs.pt_bind.Tags.{TagTable}
use Rattle.pr_start.specs.pt_canon.Canon.{canon_result}
use Rattle.pr_start.specs.pt_canon.TextWalk.{TextSurroundings, looking_texts, text_walk}
use Rattle.pr_start.specs.pt_canon.declared.canon.Canon.{Canon}
use Rattle.law_programs.specs.pt_args.Walks.{and_then}
use Rattle.pr_start.specs.pt_script.Programs.{base_from, canon_from, program_from, program_in}
use Rattle.pr_start.specs.kr_exec.Exec.{entry_of, inode_at}
use Rattle.pr_start.specs.kr_exec.Finding.{if_program, is_program, is_program_found, program_at, program_walk}
use Rattle.pr_start.specs.kr_exec.Interpreters.{bytes_at, head_of, told_program}
use Rattle.law_programs.specs.kr_first.Starting.{around}
use Rattle.pr_start.specs.kr_inode.declared.user.User.{User}
use Rattle.pr_start.specs.kr_inode.declared.user.Right.TheVariants.{Search}
use Rattle.pr_start.specs.kr_mounts.Standing.{texts_of}
use Rattle.law_turns.specs.kr_model.Peeks.{body_head, head_at, read_at, read_of}
use Rattle.pr_start.specs.kr_tree.Rights.{may}
use Rattle.pr_start.specs.kr_tree.Tree.{Body, Directory, ProcessDirectory, RegularFile, SymbolicLink, Tree, body, body_is, file_of, is_file}
use Rattle.pr_start.specs.kr_tree.declared.place.Host.{Host}
use Rattle.pr_start.specs.kr_tree.declared.place.Host.TheVariants.{Node, Proc}
use Rattle.pr_start.specs.kr_tree.declared.place.Place.{Place}
use Rattle.pr_start.proofs.kr_tree.EntryLemmas.{body_test}
use Rattle.pr_start.specs.kr_view.Answers.{told}
use Rattle.pr_start.specs.kr_view.Component.{Namespace, Surroundings, is_directory_at}
use Rattle.pr_start.specs.kr_view.Processes.{no_finds, no_leads}
use Rattle.pr_start.specs.kr_view.Reach.{reach_after, text_length}
use Rattle.pr_start.specs.kr_view.ReachLaws.{IsReachedBy}
use Rattle.pr_start.specs.kr_view.View.{Row, plain, root_place, source}
use Rattle.pr_start.specs.kr_view.Walk.{PlaceTarget, looking, place_walk}
use Rattle.pr_start.specs.kr_view.declared.target.Reach.{Reach}
use Rattle.pr_start.proofs.kr_view.ArrivalLemmas.{texts_are_found}
use Rattle.pr_start.proofs.kr_view.DirectoryLemmas.{empty_ends}
use Rattle.pr_start.proofs.kr_view.HostReachLemmas.{reached_names, reached_there}
use Rattle.pr_start.proofs.kr_view.ProcessLemmas.{no_processes}
use Rattle.pr_start.specs.pt_first.FirstPeeks.{first_peeked}
use Rattle.pr_start.specs.pt_first.Laws.{first_texts}
use Rattle.law_turns.specs.law_walks.Handed.{BothEnd}
use Rattle.law_turns.specs.law_walks.Settled.{IsSettled, host_text}
use Rattle.law_turns.specs.law_walks.Standing.{FoundStands, IsEntryAt, StandsOn, likeness}
use Rattle.law_turns.proofs.law_walks.HandedLemmas.{entry_at, settled_at}
use Rattle.law_turns.proofs.law_places.MatchLemmas.{file_apart}
use Rattle.law_starts.specs.Spaces.{first_space}
use Rattle.law_programs.specs.Ending.{ResultsAlike}
use Rattle.law_starts.specs.Programs.{IsSameProgram, ProgramsAgree}
use Rattle.law_programs.specs.Ending as alike
use Rattle.law_starts.specs.Working.{StandsAt}
use Rattle.law_starts.proofs.LaterLemmas.{nothing-reached}
use Rattle.law_starts.proofs.LengthLemmas.{found-short}
use Rattle.law_starts.proofs.SceneLemmas.{look-finds, matched, scene, spelled, walk-alike}

-- ---- walks

-- an absolute path begins at the root, whatever the base is
pub absolute-walk : {S F : Type 0} (looking : Looking S F) (mode : WalkMode) (s t : S) (path : List ℕ) → is_absolute path ≡ true → walk looking mode s path ≡ walk looking mode t path
absolute-walk looking mode s t path e =
    ap (λ b. walk_on looking mode most_links (if b then looking.root else s) (components_of path) (has_slash path)) e
    ∙ sym (ap (λ b. walk_on looking mode most_links (if b then looking.root else t) (components_of path) (has_slash path)) e)

-- ---- first bytes

take-twice : (n : ℕ) (xs : List ℕ) → take n (take n xs) ≡ take n xs
take-twice zero xs = refl
take-twice (suc n) [] = refl
take-twice (suc n) (x ∷ xs) = ap (λ rest. x ∷ rest) (take-twice n xs)

-- what is told of the first bytes of an object
abbrev head_told : Tree → User → Host → Result (List ℕ) Errno
head_told tree user x = if is_program tree user x then Ok (take 256 (bytes_at tree x)) else Err EACCES

head-is : (tree : Tree) (user : User) (x : Host) → head_at tree user 256 x ≡ head_told tree user x
head-is tree user (Node i) =
    by (may tree user i Search) (body tree i)
    ∙ sym (ap (λ b. if b && may tree user i Search then Ok (take 256 (option_map_or (λ bytes. bytes) (option_and_then file_of (body tree i)) [])) else Err EACCES) (body_test is_file tree i))
  where
    by : (m : Bool) (o : Option Body) → body_head m 256 o ≡ (if option_map_or is_file o false && m then Ok (take 256 (option_map_or (λ bytes. bytes) (option_and_then file_of o) [])) else Err EACCES)
    by m None = refl
    by m (Some (Directory entries standing)) = refl
    by true (Some (RegularFile bytes)) = refl
    by false (Some (RegularFile bytes)) = refl
    by m (Some (SymbolicLink text)) = refl
    by m (Some (ProcessDirectory standing)) = refl
head-is tree user (Proc i at) = refl

-- a program is a file
pub program-file : (tree : Tree) (user : User) (x : Host) → is_program tree user x ≡ true → is_directory_at tree x ≡ false
program-file tree user (Node i) is = file_apart tree (Node i) (first (body_is is_file tree i) (may tree user i Search) is)
  where
    first : (a b : Bool) → (a && b) ≡ true → a ≡ true
    first true b e = refl
    first false b e = absurd cc
program-file tree user (Proc i at) is = absurd cc

module _ (table : List Row) (tree : Tree) (user : User) (tags : TagTable) (set : IsSettled (first_space table tree user)) where
  abbrev space : Namespace
  space = first_space table tree user

  abbrev here : Surroundings
  here = around table tree user

  abbrev texts : TextSurroundings
  texts = first_texts table tree user tags

  -- what a tracer is told of a program's first bytes, by its host text
  told-head : (p : Place ℕ) (u : Text) → StandsOn space p u → (first_peeked tree user).head (text_of (host_text space u)) 256 ≡ head_told tree user p.host
  told-head p u on =
      let host = host_text space u in
      let by_text : IsReachedBy (around plain tree user) host p.host = record {
        over_plain = refl;
        names = reached_names tree user no_finds no_leads host p.host set.sound no_processes.lawful on.stands.way;
        way = on.stands.way;
        there = reached_there tree user no_finds host p.host set.sound set.inodes on.stands.way;
      } in
      let found = texts_are_found.found (around plain tree user) LookLink (root_place plain) host p.host false by_text (λ e. on.firm) (λ e. absurd cc) in
      ap (read_of (head_at tree user 256)) found.1 ∙ ap (read_at (head_at tree user 256)) found.2 ∙ head-is tree user p.host

  module _ (base : Place ℕ) (working path : List ℕ) (most : ℕ) (r : Reach) (at : StandsAt table tree user base working) (within : (reach_after here Look (program_walk here base path) r).longest ≤ most) where
    abbrev w : Text
    w = at.text

    -- the tracer's walk begins where the base stands
    pub canon-is : and_then (base_from (Some working) path) (canon_from texts path) ≡ canon_result texts.bindings Look (text_walk texts Look w path).answer
    canon-is = by (is_absolute path) refl
      where
        by : (b : Bool) → is_absolute path ≡ b → and_then (if b then Ok (slash ∷ []) else Ok working) (canon_from texts path) ≡ canon_result texts.bindings Look (text_walk texts Look w path).answer
        by true e = ap (λ (trail : Trail Text Text). canon_result texts.bindings Look trail.answer) (absolute-walk (looking_texts texts) Look (names_of (slash ∷ [])) w path e)
        by false e = ap (λ t. canon_result texts.bindings Look (text_walk texts Look t path).answer) (ap names_of at.written ∙ spelled table tree user tags set base w at.stands)

    module _ (a : PlaceTarget) (b : Target Text Text) (ended : (place_walk here Look base path).answer ≡ Ok a) (also : (text_walk texts Look w path).answer ≡ Ok b) (k : TargetAlike (likeness space Look) a b) (p : Place ℕ) (u : Text) (found : a.found ≡ Some p) (reads : b.found ≡ Some u)
        (stands : FoundStands space Look p u) where
      on : StandsOn space p u
      on = record { stands = stands.stands; firm = stands.firm refl }

      module _ (is : is_program tree user p.host ≡ true) where
        file : is_directory_at tree p.host ≡ false
        file = program-file tree user p.host is

        -- a path that leads nowhere leads to no file
        some : path ≢ []
        some none =
            let own : Ok (record { dir = base; name = []; last = last.Root; slash = false; found = Some base; jumped = false }) ≡ Ok a =
            sym (ap (λ trail. trail.answer) (ap (place_walk here Look base) none ∙ empty_ends here Look base)) ∙ ended in
            let same : record { dir = base; name = []; last = last.Root; slash = false; found = Some base; jumped = false } ≡ a = cc in
            let itself : Some base ≡ Some p = ap (λ (t : PlaceTarget). t.found) same ∙ found in
            let clash : true ≡ false = sym at.directory ∙ ap (λ o. option_map_or (λ (q : Place ℕ). is_directory_at tree q.host) o false) itself ∙ file in
            cc

        both-end : BothEnd (scene table tree user tags) Look base w path a b
        both-end = record { matched = matched table tree user tags set; stands = at.stands; some = some; place = ended; text = also }

        -- the entry that the executable remembers
        remembered : IsEntryAt space (host_text space u) (Node (entry_of table (told a) p).0) (entry_of table (told a) p).1
        remembered = by (source table p.mount) refl
          where
            Entry : ℕ × List ℕ → Type 0
            Entry e = IsEntryAt space (host_text space u) (Node e.0) e.1

            in-node : (x : Host) → a.dir.host ≡ x → IsEntryAt space (host_text space u) a.dir.host a.name → Entry (inode_at x, a.name)
            in-node (Node i) e own = subst (λ x. IsEntryAt space (host_text space u) x a.name) e own
            in-node (Proc i at) e own = absurd (nothing-reached table tree user no_finds own.up i at (own.way ∙ ap Some e))

            by : (o : Option (ℕ × List ℕ)) → source table p.mount ≡ o → Entry (option_map_or (λ e. e) o (inode_at a.dir.host, a.name))
            by None e = in-node a.dir.host refl (entry_at (scene table tree user tags) Look base w path a b both-end p u found reads file e)
            by (Some e) is = settled_at (scene table tree user tags) Look base w path a b both-end p u found reads file e is

      short : text_length (host_text space u) ≤ most
      short = found-short table tree user set tags base w path at.directory a b ended also k p u found reads stands.stands most r within

      -- what is found of it, by whether it is a program
      judged : (c : Bool) → is_program tree user p.host ≡ c
          → ResultsAlike (IsSameProgram table tree user most) (told_program (if c then Ok a else Err EACCES))
          (and_then (if c then Ok (take 256 (bytes_at tree p.host)) else Err EACCES) (λ head. Ok (record { host = text_of (host_text space u); index = index_of (texts_of table) u; head = take 256 head })))
      judged false e = alike.errs EACCES
      judged true e =
          alike.oks (record {
            place = p;
            guest = u;
            found = found;
            stands = on;
            may_run = e;
            entry = entry_here e;
            short = short;
            host = refl;
            index = refl;
            head = take-twice 256 (bytes_at tree p.host) ∙ sym (ap (head_of tree) found);
          })
        where
          entry_here : (e : is_program tree user p.host ≡ true) → IsEntryAt space (host_text space u) (Node (entry_of table (told a) p).0) (entry_of table (told a) p).1
          entry_here e = remembered e

      found-alike : ResultsAlike (IsSameProgram table tree user most) (told_program (if is_program_found tree user (Some p) then Ok a else Err EACCES))
          (program_in texts.peeked (text_of (host_text space u)) (index_of (texts_of table) u))
      found-alike =
          subst (λ (h : Result (List ℕ) Errno). ResultsAlike (IsSameProgram table tree user most) (told_program (if is_program tree user p.host then Ok a else Err EACCES)) (and_then h (λ head. Ok (record { host = text_of (host_text space u); index = index_of (texts_of table) u; head = take 256 head }))))
          (sym (told-head p u on)) (judged (is_program tree user p.host) refl)

    both-found : (a : PlaceTarget) (b : Target Text Text) → (place_walk here Look base path).answer ≡ Ok a → (text_walk texts Look w path).answer ≡ Ok b → TargetAlike (likeness space Look) a b
        → (f : Option (Place ℕ)) (g : Option Text) → a.found ≡ f → b.found ≡ g → OptionAlike (FoundStands space Look) f g
        → ResultsAlike (IsSameProgram table tree user most) (told_program (if is_program_found tree user f then Ok a else Err EACCES))
        (program_in texts.peeked (text_of (host_of texts.bindings (unwrap_or g b.dir))) (index_of texts.bindings (unwrap_or g b.dir)))
    both-found a b ended also k _ _ found reads neither = absurd (look-finds (looking here) base path a ended found)
    both-found a b ended also k _ _ found reads (both {a = p} {b = u} s) = found-alike a b ended also k p u found reads s

    agree : (x : Result PlaceTarget Errno) (y : Result (Target Text Text) Errno) → (place_walk here Look base path).answer ≡ x → (text_walk texts Look w path).answer ≡ y → Alike (likeness space Look) x y
        → ResultsAlike (IsSameProgram table tree user most) (told_program (if_program tree user x)) (and_then (canon_result texts.bindings Look y) (λ canon. program_in texts.peeked canon.host canon.index))
    agree _ _ ended also (errs e) = alike.errs e
    agree _ _ ended also (ends {a = a} {b = b} k) = both-found a b ended also k a.found b.found refl refl k.found

    pub agrees : ResultsAlike (IsSameProgram table tree user most) (told_program (program_at here base path)) (program_from texts (Some working) path)
    agrees =
        subst (λ (c : Result Canon Errno). ResultsAlike (IsSameProgram table tree user most) (told_program (program_at here base path)) (and_then c (λ canon. program_in texts.peeked canon.host canon.index))) (sym canon-is)
        (agree (place_walk here Look base path).answer (text_walk texts Look w path).answer refl refl (walk-alike table tree user tags set base w path at.stands))

pub programs-agree : ProgramsAgree
programs-agree table tree user tags base working path most r set at within = agrees table tree user tags set base working path most r at within
