-- Names that a tracer is told are the bytes of texts.
use Rattle.std.proofs.Common.{◌≡◌, ℕ, Bool, true, false, length, List, [], ◌∷◌, ◌++◌, Option, Some, None, IfSome, codes, bytes_eq, nat_eq, refl, sym, ap, subst, ◌∙◌}
use Rattle.std.proofs.lemmas.Bool.{eq-eqb, eqb-true}
use Rattle.std.proofs.lemmas.List.Elements.{All-cons}
use Rattle.std.specs.Prelude.{◌==◌}
use Rattle.std.specs.Bool.{if◌then◌else◌}
use Rattle.std.specs.Fmt.{decimal}
use Rattle.std.specs.Option.{option_map, option_and_then}
use Rattle.std.proofs.lemmas.Slice.Eq.{bytes_eq-Decides}
use Rattle.kr_calls.specs.pr_base.Paths.{AreNames, IsName, text_of}
use Rattle.kr_calls.specs.pr_base.Peeks.{NamesAreTexts}
use Rattle.kr_calls.specs.pr_base.Texts.{IsText, Text}
use Rattle.kr_files.specs.kr_tree.declared.place.Host.{Host}
use Rattle.kr_files.specs.kr_tree.declared.place.Host.TheVariants.{Node, Proc}
use Rattle.kr_files.specs.kr_tree.declared.place.ProcAt.{ProcAt}
use Rattle.kr_files.specs.kr_tree.declared.place.ProcAt.TheVariants.{SelfLink, Dir, Cwd, Root, Exe, FdDir, Fd}
use Rattle.kr_files.specs.kr_tree.Names.{host_name, process_names}
use Rattle.kr_files.specs.kr_tree.Lawful.{IsSound}
use Rattle.kr_files.specs.kr_tree.Tree.{body_is, is_directory}
use Rattle.kr_files.proofs.kr_tree.NameLemmas.{host_names-lead, some_is}
use Rattle.kr_procfs.specs.kr_view.Component.{Namespace, is_shown}
use Rattle.kr_procfs.specs.kr_view.HostReach.{host_place}
use Rattle.kr_procfs.specs.kr_view.Living.{Each, HasSmallNumbers as IsSmallProcess, IsSmall, Living, finds_among, first, in_directory, process as living_process}
use Rattle.kr_procfs.specs.kr_view.Names.{guest_name, host_entry, object_name, process_name}
use Rattle.kr_procfs.specs.kr_view.Processes.{LawsOfProcesses, no_leads}
use Rattle.kr_procfs.specs.kr_view.View.{is_there}
use Rattle.kr_procfs.proofs.kr_view.GuestNameLemmas.{plain_view}
use Rattle.kr_procfs.proofs.kr_view.LivingLemmas.{living_processes}
use Rattle.kr_procfs.proofs.kr_view.ProcessNameLemmas.{found_under_name}
use Rattle.kr_model.specs.HostView.{host_space, open_name}
use Rattle.kr_model.specs.Lawful.{IsNameOrNone}
use Rattle.kr_model.specs.Peeks.{RemembersNames, ToldNamesAreTexts, peeked_of}
use Rattle.kr_model.specs.ProcessDirectory.{living_of, name_text, remembered}
use Rattle.kr_model.specs.State.{State, opened, process}

-- ---- living processes

pub first_each : {A : Type 0} (P : A → Type 0) (test : A → Bool) (xs : List A) (x : A) → Each P xs → first test xs ≡ Some x → P x × (test x ≡ true)
first_each P test [] x each h = absurd cc
first_each P test (y ∷ xs) x each h = at (test y) refl h (first_each P test xs x each.1)
  where
    at : (b : Bool) → test y ≡ b → (if b then Some y else first test xs) ≡ Some x → (first test xs ≡ Some x → P x × (test x ≡ true)) → P x × (test x ≡ true)
    at true is h rest = let Q : _ → Type 0 = λ z. P z × (test z ≡ true) in subst Q (some_is y x h) (each.0, is)
    at false is h rest = rest h

module _ (living : List Living) (each : Each IsSmallProcess living) where
  pub small_process : (pid : ℕ) (l : Living) → living_process living pid ≡ Some l → IsSmallProcess l × IsSmall pid
  small_process pid l is =
      let f = first_each IsSmallProcess (λ (l : Living). nat_eq l.pid pid) living l each is in
      (f.0, subst IsSmall (eqb-true l.pid pid f.1) f.0.0)

-- ---- names

-- a number that isn't too long is a name, since a process could show it
module _ (pid : ℕ) (small : IsSmall pid) where
  alone : Living
  alone = record { pid = pid; fds = [] }

  shows_alone : LawsOfProcesses (finds_among (alone ∷ [])) no_leads
  unfolding alone
  shows_alone = living_processes (alone ∷ []) no_leads ((small, tt), tt) (λ at text e. absurd cc)

  number_name : IsName (decimal pid)
  unfolding alone
  number_name = by (bytes_eq (decimal pid) (codes "self")) refl
    where
      found : (b : Bool) → bytes_eq (decimal pid) (codes "self") ≡ b → finds_among (alone ∷ []) None (decimal pid) ≡ (if b then Some SelfLink else Some (Dir pid))
      found b e =
          ap (λ own. if own then Some SelfLink else option_map (λ (l : Living). Dir l.pid) (if bytes_eq (decimal pid) (decimal pid) then Some alone else None)) e
          ∙ ap (λ same. if b then Some SelfLink else option_map (λ (l : Living). Dir l.pid) (if same then Some alone else None)) ((bytes_eq-Decides (decimal pid) (decimal pid)).1 refl)

      by : (b : Bool) → bytes_eq (decimal pid) (codes "self") ≡ b → IsName (decimal pid)
      by true e = found_under_name (finds_among (alone ∷ [])) no_leads shows_alone None (decimal pid) SelfLink (found true e)
      by false e = found_under_name (finds_among (alone ∷ [])) no_leads shows_alone None (decimal pid) (Dir pid) (found false e)

  fd_name : IsName (codes "fd")
  unfolding alone
  fd_name =
      found_under_name (finds_among (alone ∷ [])) no_leads shows_alone (Some (Dir pid)) (codes "fd") (FdDir pid)
      (ap (λ same. option_and_then (λ (l : Living). in_directory pid (codes "fd")) (if same then Some alone else None)) (eq-eqb pid pid refl))

if_map : {A B : Type 0} (P : A → Type 0) (Q : B → Type 0) (f : A → B) → ((x : A) → P x → Q (f x)) → (o : Option A) → IfSome o P → IfSome (option_map f o) Q
if_map P Q f goes None is = tt
if_map P Q f goes (Some x) is = goes x is

if_then : {A B : Type 0} (Q : B → Type 0) (f : A → Option B) (o : Option A) → ((x : A) → o ≡ Some x → IfSome (f x) Q) → IfSome (option_and_then f o) Q
if_then Q f None goes = tt
if_then Q f (Some x) goes = goes x refl

module _ {M X : Type 0} (s : State M X) (caller : ℕ) (sound : IsSound s.tree) (small : Each IsSmallProcess (living_of s)) (remembers : RemembersNames s) where
  abbrev space : Namespace
  space = host_space s

  inode_names : (i : ℕ) → IfSome (host_name s.tree i) AreNames
  inode_names i = by (host_name s.tree i) refl
    where
      by : (o : Option Text) → host_name s.tree i ≡ o → IfSome o AreNames
      by None e = tt
      by (Some text) e = (host_names-lead s.tree sound i text e).2

  entry_names : (dir : ℕ) (name : List ℕ) → IsNameOrNone name → IfSome (host_entry s.tree (remembered dir name)) AreNames
  entry_names dir [] is = tt
  entry_names dir (b ∷ name) is = by (length (b ∷ name) == 0)
    where
      by : (c : Bool) → IfSome (host_entry s.tree (if c then None else Some (dir, b ∷ name))) AreNames
      by true = tt
      by false = if_map AreNames AreNames (λ names. (b ∷ name) ∷ names) (λ names all. All-cons IsName (b ∷ name) names (is (λ e. absurd cc)) all) (host_name s.tree dir) (inode_names dir)

  shown_small : (pid : ℕ) → is_shown space pid ≡ true → IsSmall pid
  shown_small pid shown = by (living_process (living_of s) pid) refl shown
    where
      by : (o : Option Living) → living_process (living_of s) pid ≡ o → is_there (option_and_then (λ (l : Living). in_directory pid (codes "cwd")) o) ≡ true → IsSmall pid
      by None e shown = absurd cc
      by (Some l) e shown = (small_process (living_of s) small pid l e).1

  shown_names : (i pid : ℕ) (at : ProcAt) → (IsSmall pid → (top : Text) → AreNames top → AreNames (process_names at ++ top)) → IfSome (if is_shown space pid then process_name at (host_name s.tree i) else None) AreNames
  shown_names i pid at goes = by (is_shown space pid) refl
    where
      by : (b : Bool) → is_shown space pid ≡ b → IfSome (if b then process_name at (host_name s.tree i) else None) AreNames
      by true e = if_map AreNames AreNames (λ names. process_names at ++ names) (goes (shown_small pid e)) (host_name s.tree i) (inode_names i)
      by false e = tt

  object_names : (x : Host) (dir : ℕ) (name : List ℕ) → IsNameOrNone name → IfSome (object_name space x (remembered dir name)) AreNames
  object_names (Node i) dir name is = by (body_is is_directory s.tree i)
    where
      by : (b : Bool) → IfSome (if b then host_name s.tree i else host_entry s.tree (remembered dir name)) AreNames
      by true = inode_names i
      by false = entry_names dir name is
  object_names (Proc i (Dir pid)) dir name is = shown_names i pid (Dir pid) (λ small top all. All-cons IsName (decimal pid) top (number_name pid small) all)
  object_names (Proc i (FdDir pid)) dir name is =
      shown_names i pid (FdDir pid) (λ small top all. All-cons IsName (codes "fd") (decimal pid ∷ top) (fd_name pid small) (All-cons IsName (decimal pid) top (number_name pid small) all))
  object_names (Proc i SelfLink) dir name is = entry_names dir name is
  object_names (Proc i (Cwd pid)) dir name is = entry_names dir name is
  object_names (Proc i (Root pid)) dir name is = entry_names dir name is
  object_names (Proc i (Exe pid)) dir name is = entry_names dir name is
  object_names (Proc i (Fd pid fd)) dir name is = entry_names dir name is

  told : (x : Host) (dir : ℕ) (name : List ℕ) → IsNameOrNone name → IfSome (name_text space (host_place x) dir name) IsText
  told x dir name is =
      if_map AreNames IsText text_of (λ names all. record { names = names; well_formed = all; written = refl }) (guest_name space (host_place x) (remembered dir name))
      (subst (λ o. IfSome o AreNames) (sym (plain_view space (host_place x) (remembered dir name) sound refl refl)) (object_names x dir name is))

  none_remembered : IsNameOrNone []
  none_remembered some = absurd (some refl)

  pub told_names : NamesAreTexts (peeked_of s caller)
  told_names = record {
    base = λ pid fd.
        if_then IsText (open_name s) (opened pid fd s)
        (λ o is. if_then IsText (λ p. name_text space (host_place p.host) o.dir o.name) o.place (λ p there. told p.host o.dir o.name (remembers.open_files pid fd o is)));
    cwd = λ pid. if_then IsText (λ p. name_text space (host_place p.cwd.host) 0 []) (process pid s) (λ p is. told p.cwd.host 0 [] none_remembered);
    exe = λ pid. if_then IsText (λ p. name_text space (host_place p.exe.host) p.exe_dir p.exe_name) (process pid s) (λ p is. told p.exe.host p.exe_dir p.exe_name (remembers.exe pid p is));
  }

pub told_names_are_texts : {M X : Type 0} → ToldNamesAreTexts M X
told_names_are_texts s caller sound small remembers = told_names s caller sound small remembers
