-- The process directory of the host's own view is that of one mount over the same state, and lawful.
use Rattle.std.proofs.Common.{◌≡◌, ℕ, ◌≤◌, ◌^◌, Bool, true, false, List, [], Option, Some, None, refl, sym, ap, ◌∙◌}
use Rattle.std.specs.Bool.{if◌then◌else◌}
use Rattle.std.specs.Option.{option_map, option_map_or}
use Rattle.kr_seen.specs.pr_base.Peeks.{NamesAreTexts}
use Rattle.kr_seen.specs.kr_tree.declared.place.Place.{Place}
use Rattle.kr_seen.specs.kr_tree.declared.place.ProcAt.{ProcAt}
use Rattle.kr_seen.specs.kr_tree.declared.place.ProcAt.TheVariants.{SelfLink, Dir, Cwd, Root, Exe, FdDir, Fd}
use Rattle.kr_seen.proofs.kr_tree.CountLemmas.{there}
use Rattle.kr_seen.specs.kr_view.declared.procs.Lead.TheVariants.{Text, Jump, Nameless, NoLink}
use Rattle.kr_seen.specs.kr_view.Component.{Namespace}
use Rattle.kr_seen.specs.kr_view.HostReach.{host_place}
use Rattle.kr_seen.specs.kr_view.InTree.{LeadToPlaces}
use Rattle.kr_seen.specs.kr_view.Leads.{lead_numbered, numbered}
use Rattle.kr_seen.specs.kr_view.Living.{finds_among}
use Rattle.kr_seen.specs.kr_view.Names.{guest_name}
use Rattle.kr_seen.specs.kr_view.Processes.{LawsOfProcesses}
use Rattle.kr_seen.specs.kr_view.View.{Row, is_there, plain, root_place}
use Rattle.kr_seen.proofs.kr_view.LivingLemmas.{living_processes}
use Rattle.kr_seen.specs.kr_files.declared.opened.Opened.{Opened}
use Rattle.kr_seen.specs.kr_model.HostView.{host_leads, host_open, host_space}
use Rattle.kr_seen.specs.kr_model.Lawful.{IsLawful}
use Rattle.kr_seen.specs.kr_model.Peeks.{peeked_of}
use Rattle.kr_seen.specs.kr_model.ProcessDirectory.{jump_to, lead_of_open, leads_of, living_of, remembered, space_of}
use Rattle.kr_seen.specs.kr_model.State.{Image, Process, State, opened, process}
use Rattle.kr_seen.proofs.kr_model.ToldLemmas.{told_names_are_texts}
use Rattle.kr_seen.specs.Numbered.{opened_numbered, process_numbered, state_numbered}
use Rattle.kr_seen.specs.Shown.{lead_to}
use Rattle.kr_seen.proofs.NumberedLemmas.{living-numbered, opened-numbered, process-numbered}
use Rattle.kr_seen.proofs.StandingLemmas.{IsFollowed, followed-to, is-open, living-small, no-text-to}
use Rattle.kr_hostview.specs.Laws.{IsHostView, LawfulOnHost}
use Rattle.kr_hostview.specs.OnHost.{host_target, lead_on_host, number}
use Rattle.kr_hostview.proofs.HostLemmas.{cwd-leads, exe-leads, led, on-host, open-leads, plain-mounts, root-leads}
use Rattle.kr_hostview.proofs.NumberLemmas.{around-told, peeked-told}

-- ---- one mount

abbrev zero : {T : Type 0} → T → ℕ
zero mount = 0

told-jump : (space : Namespace) (p : Place ℕ) (dir : ℕ) (name : List ℕ) → p.mount ≡ 0 → lead_numbered number (lead_on_host (jump_to space p dir name)) ≡ jump_to space p dir name
told-jump space p dir name e = by (is_there (guest_name space p (remembered dir name)))
  where
    by : (b : Bool) → lead_numbered number (lead_on_host (if b then Jump p dir name else Nameless)) ≡ (if b then Jump p dir name else Nameless)
    by true = ap (λ mount. Jump (record { mount = mount; host = p.host }) dir name) (sym e)
    by false = refl

module _ {T : Type 0} (s : State T Image) where
  space-same : host_space s ≡ space_of plain (state_numbered zero s)
  space-same = ap (λ living. record { table = plain; tree = s.tree; user = s.user; finds = finds_among living }) (living-numbered zero s)

  module _ (caller : ℕ) where
    cwd-same : (o : Option (Process T Image)) → option_map_or (λ p. jump_to (host_space s) (host_place p.cwd.host) 0 []) o NoLink ≡ option_map_or (λ p. jump_to (space_of plain (state_numbered zero s)) p.cwd 0 []) (option_map (process_numbered zero) o) NoLink
    cwd-same None = refl
    cwd-same (Some p) = ap (λ space. jump_to space (host_place p.cwd.host) 0 []) space-same

    root-same : (o : Option (Process T Image)) → option_map_or (λ (p : Process T Image). jump_to (host_space s) (root_place plain) 0 []) o NoLink ≡ option_map_or (λ (p : Process ℕ Image). jump_to (space_of plain (state_numbered zero s)) (root_place plain) 0 []) (option_map (process_numbered zero) o) NoLink
    root-same None = refl
    root-same (Some p) = ap (λ space. jump_to space (root_place plain) 0 []) space-same

    exe-same : (o : Option (Process T Image)) → option_map_or (λ p. jump_to (host_space s) (host_place p.exe.host) p.exe_dir p.exe_name) o NoLink ≡ option_map_or (λ p. jump_to (space_of plain (state_numbered zero s)) p.exe p.exe_dir p.exe_name) (option_map (process_numbered zero) o) NoLink
    exe-same None = refl
    exe-same (Some p) = ap (λ space. jump_to space (host_place p.exe.host) p.exe_dir p.exe_name) space-same

    open-same : (o : Option (Opened T)) → option_map_or (host_open s) o NoLink ≡ option_map_or (lead_of_open (space_of plain (state_numbered zero s))) (option_map (opened_numbered zero) o) NoLink
    open-same None = refl
    open-same (Some o) = placed o.place
      where
        placed : (p : Option (Place T)) → option_map_or (λ p. jump_to (host_space s) (host_place p.host) o.dir o.name) p Nameless ≡ option_map_or (λ p. jump_to (space_of plain (state_numbered zero s)) p o.dir o.name) (option_map (numbered zero) p) Nameless
        placed None = refl
        placed (Some p) = ap (λ space. jump_to space (host_place p.host) o.dir o.name) space-same

    leads-same : (at : ProcAt) → host_leads s caller at ≡ leads_of plain (state_numbered zero s) caller at
    leads-same SelfLink = refl
    leads-same (Dir pid) = refl
    leads-same (Cwd pid) = cwd-same (process pid s) ∙ ap (λ o. option_map_or (λ p. jump_to (space_of plain (state_numbered zero s)) p.cwd 0 []) o NoLink) (sym (process-numbered zero s pid))
    leads-same (Root pid) = root-same (process pid s) ∙ ap (λ o. option_map_or (λ (p : Process ℕ Image). jump_to (space_of plain (state_numbered zero s)) (root_place plain) 0 []) o NoLink) (sym (process-numbered zero s pid))
    leads-same (Exe pid) = exe-same (process pid s) ∙ ap (λ o. option_map_or (λ p. jump_to (space_of plain (state_numbered zero s)) p.exe p.exe_dir p.exe_name) o NoLink) (sym (process-numbered zero s pid))
    leads-same (FdDir pid) = refl
    leads-same (Fd pid fd) = open-same (opened pid fd s) ∙ ap (λ o. option_map_or (lead_of_open (space_of plain (state_numbered zero s))) o NoLink) (sym (opened-numbered zero s pid fd))

    -- ---- in code

    pub told-same : (at : ProcAt) → lead_numbered number (lead_on_host (host_leads s caller at)) ≡ host_leads s caller at
    told-same SelfLink = refl
    told-same (Dir pid) = refl
    told-same (Cwd pid) = by (process pid s)
      where
        by : (o : Option (Process T Image)) → let lead = option_map_or (λ (p : Process T Image). jump_to (host_space s) (host_place p.cwd.host) 0 []) o NoLink in lead_numbered number (lead_on_host lead) ≡ lead
        by None = refl
        by (Some p) = told-jump (host_space s) (host_place p.cwd.host) 0 [] refl
    told-same (Root pid) = by (process pid s)
      where
        by : (o : Option (Process T Image)) → let lead = option_map_or (λ (p : Process T Image). jump_to (host_space s) (root_place plain) 0 []) o NoLink in lead_numbered number (lead_on_host lead) ≡ lead
        by None = refl
        by (Some p) = told-jump (host_space s) (root_place plain) 0 [] refl
    told-same (Exe pid) = by (process pid s)
      where
        by : (o : Option (Process T Image)) → let lead = option_map_or (λ (p : Process T Image). jump_to (host_space s) (host_place p.exe.host) p.exe_dir p.exe_name) o NoLink in lead_numbered number (lead_on_host lead) ≡ lead
        by None = refl
        by (Some p) = told-jump (host_space s) (host_place p.exe.host) p.exe_dir p.exe_name refl
    told-same (FdDir pid) = refl
    told-same (Fd pid fd) = by (opened pid fd s)
      where
        placed : (o : Opened T) (p : Option (Place T)) → let lead = option_map_or (λ (p : Place T). jump_to (host_space s) (host_place p.host) o.dir o.name) p Nameless in lead_numbered number (lead_on_host lead) ≡ lead
        placed o None = refl
        placed o (Some p) = told-jump (host_space s) (host_place p.host) o.dir o.name refl

        by : (o : Option (Opened T)) → let lead = option_map_or (host_open s) o NoLink in lead_numbered number (lead_on_host lead) ≡ lead
        by None = refl
        by (Some o) = placed o o.place

pub hosts-have-one-mount : {T : Type 0} → IsHostView T
hosts-have-one-mount {T} = record {
  space = λ s. space-same s;
  leads = λ s caller at. leads-same s caller at;
  told = λ s caller at. told-same s caller at;
  around = λ by s caller. around-told by s caller;
  peeked = λ by s caller. peeked-told by s caller;
}

-- ---- lawful states

module _ {T : Type 0} (s : State T Image) (caller : ℕ) where
  -- what isn't `self` leads as its target does
  abbrev LeadsAs : ProcAt → Type 0
  LeadsAs at = lead_numbered number (lead_to number (host_space s) (host_target s at)) ≡ host_leads s caller at

  as-target : (at : ProcAt) → lead_to number (host_space s) (host_target s at) ≡ lead_on_host (host_leads s caller at) → LeadsAs at
  as-target at e = ap (lead_numbered number) e ∙ told-same s caller at

  own-text : (at : ProcAt) (text : List ℕ) → host_leads s caller at ≡ Text text → at ≡ SelfLink
  own-text SelfLink text e = refl
  own-text (Dir pid) text e = absurd cc
  own-text (Cwd pid) text e = absurd (no-text-to number (host_space s) (host_target s (Cwd pid)) text (as-target (Cwd pid) (cwd-leads s caller pid) ∙ e))
  own-text (Root pid) text e = absurd (no-text-to number (host_space s) (host_target s (Root pid)) text (as-target (Root pid) (root-leads s caller pid) ∙ e))
  own-text (Exe pid) text e = absurd (no-text-to number (host_space s) (host_target s (Exe pid)) text (as-target (Exe pid) (exe-leads s caller pid) ∙ e))
  own-text (FdDir pid) text e = absurd cc
  own-text (Fd pid fd) text e = absurd (no-text-to number (host_space s) (host_target s (Fd pid fd)) text (as-target (Fd pid fd) (open-leads s caller pid fd) ∙ e))

  module _ (by : T → ℕ) (table : List Row) (lawful : IsLawful by table s) where
    processes-kept : s.next_pid ≤ 2 ^ 32 → LawsOfProcesses (host_space s).finds (host_leads s caller)
    processes-kept few = living_processes (living_of s) (host_leads s caller) (living-small s lawful.pids (λ pid fd x there. (lawful.descriptors pid fd x there).0) few) own-text

    abbrev GoesTo : ProcAt → Type 0
    GoesTo at = (p : Place ℕ) (dir : ℕ) (name : List ℕ) → host_leads s caller at ≡ Jump p dir name → IsFollowed s.tree plain p dir name

    by-target : (at : ProcAt) → lead_to number (host_space s) (host_target s at) ≡ lead_on_host (host_leads s caller at) → GoesTo at
    by-target at same p dir name e = followed-to number (host_space s) (host_target s at) (led by table s lawful at) p dir name (as-target at same ∙ e)

    followed : (at : ProcAt) → GoesTo at
    followed SelfLink p dir name e = absurd cc
    followed (Dir pid) p dir name e = absurd cc
    followed (Cwd pid) p dir name e = by-target (Cwd pid) (cwd-leads s caller pid) p dir name e
    followed (Root pid) p dir name e = by-target (Root pid) (root-leads s caller pid) p dir name e
    followed (Exe pid) p dir name e = by-target (Exe pid) (exe-leads s caller pid) p dir name e
    followed (FdDir pid) p dir name e = absurd cc
    followed (Fd pid fd) p dir name e = by-target (Fd pid fd) (open-leads s caller pid fd) p dir name e

    places-led : LeadToPlaces s.tree plain (host_leads s caller)
    places-led = record {
      places = λ at p dir name e. (followed at p dir name e).0;
      files = λ at p dir name e. (followed at p dir name e).1;
      directories = λ at p dir name e. (followed at p dir name e).2;
    }

  module _ (by : T → ℕ) (table : List Row) (lawful : IsLawful by table s) where
    pub names-told : s.next_pid ≤ 2 ^ 32 → NamesAreTexts (peeked_of s caller)
    names-told few =
        told_names_are_texts s caller lawful.tree.sound (living-small s lawful.pids (λ pid fd x there. (lawful.descriptors pid fd x there).0) few)
        (record { exe = λ pid p is. (lawful.processes pid p is).exe_name; open_files = λ pid fd o is. (is-open by table s lawful pid fd o is).name })

pub lawful-on-host : {T : Type 0} → LawfulOnHost T
lawful-on-host {T} = record {
  processes = λ by table s caller lawful few. processes-kept s caller by table lawful few;
  mounts = λ by table s lawful. plain-mounts by table s lawful;
  places = λ by table s caller lawful. places-led s caller by table lawful;
  hosts = λ by table s p place. on-host s.tree table (numbered by p) place;
  around = λ by table s caller p lawful place. record {
    sound = lawful.tree.sound;
    inodes = there s.tree lawful.tree.sound lawful.tree.counted;
    mounts = plain-mounts by table s lawful;
    leads = places-led s caller by table lawful;
    begins = place;
  };
  texts = λ by table s caller lawful few. names-told s caller by table lawful few;
}
