-- Where all places of a state are in the host's one mount, the plain view is the host's own.
use Rattle.std.proofs.Common.{◌≡◌, ℕ, zero, suc, true, List, [], Option, Some, None, refl, ap}
use Rattle.std.proofs.lemmas.Option.{none-some}
use Rattle.std.specs.Option.{option_map, option_map_or, option_and_then}
use Rattle.kr_mounts.specs.kr_tree.Tree.{Tree}
use Rattle.kr_mounts.specs.kr_tree.declared.place.Host.{Host}
use Rattle.kr_mounts.specs.kr_tree.declared.place.Host.TheVariants.{Node, Proc}
use Rattle.kr_mounts.specs.kr_tree.declared.place.Place.{Place}
use Rattle.kr_mounts.specs.kr_tree.declared.place.ProcAt.{ProcAt}
use Rattle.kr_mounts.specs.kr_tree.declared.place.ProcAt.TheVariants.{SelfLink, Dir, Cwd, Root, Exe, FdDir, Fd}
use Rattle.kr_mounts.specs.kr_view.HostReach.{host_place}
use Rattle.kr_mounts.specs.kr_view.InTree.{IsPlaceOf}
use Rattle.kr_mounts.specs.kr_view.View.{is_there, plain, row}
use Rattle.kr_mounts.specs.kr_view.declared.procs.Lead.{Lead}
use Rattle.kr_mounts.specs.kr_view.declared.procs.Lead.TheVariants.{Nameless, NoLink}
use Rattle.kr_model.specs.kr_files.Descriptors.{Named}
use Rattle.kr_model.specs.kr_files.Files.{file_at}
use Rattle.kr_model.specs.kr_files.declared.opened.Opened.{Opened}
use Rattle.kr_model.specs.Applied.{cwd_of}
use Rattle.kr_model.specs.HostView.{cwd_name, host_leads, host_open, host_space, linked_text}
use Rattle.kr_model.specs.Lawful.{IsLawful, IsOpenIn}
use Rattle.kr_model.specs.ProcessDirectory.{jump_to, lead_of_open, leads_of, link_text, name_text, open_text, space_of, unplaced_text}
use Rattle.kr_model.specs.State.{Image, Process, State, named, opened, process}
use Rattle.kr_model.specs.Walks.{text_at}
use Rattle.law_walks.specs.BareFacts.{process_text, text_on_host}
use Rattle.law_walks.specs.OneMount.{IsInOneMount, LawfulStatesAreInOneMount, PlainWalksAreHostWalks}

-- ---- lawful states

in_one_mount : (t : Tree) (p : Place ℕ) → IsPlaceOf t plain p → p.mount ≡ 0
in_one_mount t p is = by p.mount is.mounted
  where
    by : (k : ℕ) → is_there (row plain k) ≡ true → k ≡ 0
    by zero there = refl
    by (suc k) there = absurd cc

module _ (w : State ℕ Image) (lawful : IsLawful (λ m. m) plain w) where
  open_lawful : (pid fd : ℕ) (o : Opened ℕ) → opened pid fd w ≡ Some o → IsOpenIn (λ m. m) w.tree plain o
  open_lawful pid fd o is = by (named pid fd w) is
    where
      by : (x : Option Named) → option_and_then (λ (x : Named). file_at w.files x.number) x ≡ Some o → IsOpenIn (λ m. m) w.tree plain o
      by None is = absurd (none-some o is)
      by (Some x) is = lawful.files x.number o is

  lawful_in_one_mount : IsInOneMount w
  lawful_in_one_mount = record {
    cwds = λ pid p is. in_one_mount w.tree p.cwd (lawful.processes pid p is).cwd.0;
    exes = λ pid p is. in_one_mount w.tree p.exe (lawful.processes pid p is).exe.0;
    open_files = λ pid fd o p is at. in_one_mount w.tree p ((open_lawful pid fd o is).placed p at).0;
  }

pub lawful_states_are_in_one_mount : LawfulStatesAreInOneMount
lawful_states_are_in_one_mount w lawful = lawful_in_one_mount w lawful

-- ---- the plain view

-- two functions of what may be there are the same where they are of what is there
pub of_found : {A B : Type 0} (f g : Option A → B) → f None ≡ g None → (o : Option A) → ((x : A) → o ≡ Some x → f (Some x) ≡ g (Some x)) → f o ≡ g o
of_found f g none None same = none
of_found f g none (Some x) same = same x refl

pub on_host : (p : Place ℕ) → p.mount ≡ 0 → p ≡ host_place p.host
on_host p is = λ j. record { mount = is j; host = p.host }

module _ {X : Type 0} (w : State ℕ X) (one : IsInOneMount w) (caller : ℕ) where
  abbrev own_jump : ℕ → List ℕ → Place ℕ → Lead ℕ
  own_jump dir name p = jump_to (host_space w) p dir name

  abbrev own_name : ℕ → List ℕ → Place ℕ → Option (List ℕ)
  own_name dir name p = name_text (host_space w) p dir name

  pub same_cwd : (pid : ℕ) (p : Process ℕ X) → process pid w ≡ Some p → p.cwd ≡ host_place p.cwd.host
  same_cwd pid p is = on_host p.cwd (one.cwds pid p is)

  same_exe : (pid : ℕ) (p : Process ℕ X) → process pid w ≡ Some p → p.exe ≡ host_place p.exe.host
  same_exe pid p is = on_host p.exe (one.exes pid p is)

  same_open : (pid fd : ℕ) (o : Opened ℕ) → opened pid fd w ≡ Some o → lead_of_open (host_space w) o ≡ host_open w o
  same_open pid fd o is =
      of_found (λ at. option_map_or (own_jump o.dir o.name) at Nameless) (λ at. option_map_or (λ p. own_jump o.dir o.name (host_place p.host)) at Nameless) refl o.place
      (λ p at. ap (own_jump o.dir o.name) (on_host p (one.open_files pid fd o p is at)))

  same_linked : (pid fd : ℕ) (o : Opened ℕ) → opened pid fd w ≡ Some o → open_text (host_space w) o ≡ linked_text w o
  same_linked pid fd o is =
      of_found (λ at. option_map_or (own_name o.dir o.name) at (unplaced_text o.what)) (λ at. option_map_or (λ p. own_name o.dir o.name (host_place p.host)) at (unplaced_text o.what)) refl o.place
      (λ p at. ap (own_name o.dir o.name) (on_host p (one.open_files pid fd o p is at)))

  same_leads : (at : ProcAt) → leads_of plain w caller at ≡ host_leads w caller at
  same_leads SelfLink = refl
  same_leads (Dir pid) = refl
  same_leads (Cwd pid) =
      of_found (λ o. option_map_or (λ p. own_jump 0 [] p.cwd) o NoLink) (λ o. option_map_or (λ p. own_jump 0 [] (host_place p.cwd.host)) o NoLink) refl (process pid w)
      (λ p is. ap (own_jump 0 []) (same_cwd pid p is))
  same_leads (Root pid) = refl
  same_leads (Exe pid) =
      of_found (λ o. option_map_or (λ p. own_jump p.exe_dir p.exe_name p.exe) o NoLink) (λ o. option_map_or (λ p. own_jump p.exe_dir p.exe_name (host_place p.exe.host)) o NoLink) refl (process pid w)
      (λ p is. ap (own_jump p.exe_dir p.exe_name) (same_exe pid p is))
  same_leads (FdDir pid) = refl
  same_leads (Fd pid fd) = of_found (λ o. option_map_or (lead_of_open (host_space w)) o NoLink) (λ o. option_map_or (host_open w) o NoLink) refl (opened pid fd w) (same_open pid fd)

  -- ---- texts

  same_process_text : (at : ProcAt) → link_text plain w caller at ≡ process_text caller w at
  same_process_text SelfLink = refl
  same_process_text (Dir pid) = refl
  same_process_text (Cwd pid) =
      of_found (option_and_then (λ p. own_name 0 [] p.cwd)) (option_and_then (λ p. own_name 0 [] (host_place p.cwd.host))) refl (process pid w) (λ p is. ap (own_name 0 []) (same_cwd pid p is))
  same_process_text (Root pid) = refl
  same_process_text (Exe pid) =
      of_found (option_and_then (λ p. own_name p.exe_dir p.exe_name p.exe)) (option_and_then (λ p. own_name p.exe_dir p.exe_name (host_place p.exe.host))) refl (process pid w)
      (λ p is. ap (own_name p.exe_dir p.exe_name) (same_exe pid p is))
  same_process_text (FdDir pid) = refl
  same_process_text (Fd pid fd) = of_found (option_and_then (open_text (host_space w))) (option_and_then (linked_text w)) refl (opened pid fd w) (same_linked pid fd)

  pub same_text : (x : Host) → text_at plain caller w x ≡ text_on_host caller w x
  same_text (Node i) = refl
  same_text (Proc i at) = same_process_text at

  pub same_directory_name : option_and_then (λ p. name_text (space_of plain w) p 0 []) (cwd_of caller w) ≡ cwd_name w caller
  same_directory_name =
      of_found (λ o. option_and_then (own_name 0 []) (option_map (λ p. p.cwd) o)) (option_and_then (λ p. own_name 0 [] (host_place p.cwd.host))) refl (process caller w)
      (λ p is. ap (own_name 0 []) (same_cwd caller p is))

pub plain_walks_are_host_walks : (X : Type 0) → PlainWalksAreHostWalks X
plain_walks_are_host_walks X w caller one = λ j. record { space = host_space w; leads = λ at. same_leads w one caller at j }
