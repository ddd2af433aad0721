-- Links and their texts are those of the definition over the state with numbered mounts.
use Rattle.std.proofs.Common.{◌≡◌, ℕ, Bool, true, false, List, [], Option, Some, None, refl, sym, ap, ◌∙◌}
use Rattle.std.specs.Bool.{if◌then◌else◌}
use Rattle.std.specs.Option.{option_map, option_map_or, option_and_then}
use Rattle.kr_ops.specs.kr_tree.declared.place.Place.{Place}
use Rattle.kr_ops.specs.kr_tree.declared.place.ProcAt.{ProcAt}
use Rattle.kr_ops.specs.kr_tree.declared.place.ProcAt.TheVariants.{SelfLink, Dir, Cwd, Root, Exe, FdDir, Fd}
use Rattle.kr_ops.specs.kr_view.declared.procs.Lead.TheVariants.{Jump, Nameless, NoLink}
use Rattle.kr_ops.specs.kr_view.Component.{Namespace}
use Rattle.kr_ops.specs.kr_view.Leads.{numbered, lead_numbered}
use Rattle.kr_ops.specs.kr_view.Names.{guest_name}
use Rattle.kr_ops.specs.kr_view.View.{is_there, root_place}
use Rattle.kr_ops.specs.kr_files.declared.opened.Opened.{Opened}
use Rattle.kr_ops.specs.kr_model.ProcessDirectory.{jump_to, lead_of_open, leads_of, link_text, name_text, open_text, remembered, space_of, unplaced_text}
use Rattle.kr_ops.specs.kr_model.State.{Image, Process, opened, process}
use Rattle.kr_seen.specs.Laws.{ShowsTheDirectory}
use Rattle.kr_seen.specs.Numbered.{opened_numbered, process_numbered, state_numbered}
use Rattle.kr_seen.specs.Shown.{Shown, Nothing, Unplaced, At, cwd_target, exe_target, opened_target, jump_in, lead_to, leads_in, space_in, text_to, texts_in}
use Rattle.kr_seen.proofs.NumberedLemmas.{opened-numbered, process-numbered, space-numbered}

module _ {T : Type 0} (number : T → ℕ) (space : Namespace) where
  jump-numbered : (p : Place T) (dir : ℕ) (name : List ℕ) → lead_numbered number (jump_in number space p dir name) ≡ jump_to space (numbered number p) dir name
  jump-numbered p dir name = by (is_there (guest_name space (numbered number p) (remembered dir name)))
    where
      by : (b : Bool) → lead_numbered number (if b then Jump p dir name else Nameless) ≡ (if b then Jump (numbered number p) dir name else Nameless)
      by true = refl
      by false = refl

  cwd-lead : (o : Option (Process T Image)) → lead_numbered number (lead_to number space (option_map_or cwd_target o Nothing)) ≡ option_map_or (λ p. jump_to space p.cwd 0 []) (option_map (process_numbered number) o) NoLink
  cwd-lead None = refl
  cwd-lead (Some p) = jump-numbered p.cwd 0 []

  root-lead : (root : Place T) (at : Place ℕ) → numbered number root ≡ at → (o : Option (Process T Image))
      → lead_numbered number (lead_to number space (option_map_or (λ p. At root 0 []) o Nothing)) ≡ option_map_or (λ p. jump_to space at 0 []) (option_map (process_numbered {X = Image} number) o) NoLink
  root-lead root at e None = refl
  root-lead root at e (Some p) = jump-numbered root 0 [] ∙ ap (λ at. jump_to space at 0 []) e

  exe-lead : (o : Option (Process T Image)) → lead_numbered number (lead_to number space (option_map_or exe_target o Nothing)) ≡ option_map_or (λ p. jump_to space p.exe p.exe_dir p.exe_name) (option_map (process_numbered number) o) NoLink
  exe-lead None = refl
  exe-lead (Some p) = jump-numbered p.exe p.exe_dir p.exe_name

  open-lead : (o : Option (Opened T)) → lead_numbered number (lead_to number space (option_map_or opened_target o Nothing)) ≡ option_map_or (lead_of_open space) (option_map (opened_numbered number) o) NoLink
  open-lead None = refl
  open-lead (Some o) = by o.place
    where
      by : (p : Option (Place T)) → lead_numbered number (lead_to number space (option_map_or (λ p. At p o.dir o.name) p (Unplaced o.what))) ≡ option_map_or (λ p. jump_to space p o.dir o.name) (option_map (numbered number) p) Nameless
      by None = refl
      by (Some p) = jump-numbered p o.dir o.name

  cwd-text : (o : Option (Process T Image)) → text_to number space (option_map_or cwd_target o Nothing) ≡ option_and_then (λ p. name_text space p.cwd 0 []) (option_map (process_numbered number) o)
  cwd-text None = refl
  cwd-text (Some p) = refl

  root-text : (root : Place T) (at : Place ℕ) → numbered number root ≡ at → (o : Option (Process T Image))
      → text_to number space (option_map_or (λ p. At root 0 []) o Nothing) ≡ option_and_then (λ p. name_text space at 0 []) (option_map (process_numbered {X = Image} number) o)
  root-text root at e None = refl
  root-text root at e (Some p) = ap (λ at. name_text space at 0 []) e

  exe-text : (o : Option (Process T Image)) → text_to number space (option_map_or exe_target o Nothing) ≡ option_and_then (λ p. name_text space p.exe p.exe_dir p.exe_name) (option_map (process_numbered number) o)
  exe-text None = refl
  exe-text (Some p) = refl

  open-text : (o : Option (Opened T)) → text_to number space (option_map_or opened_target o Nothing) ≡ option_and_then (open_text space) (option_map (opened_numbered number) o)
  open-text None = refl
  open-text (Some o) = by o.place
    where
      by : (p : Option (Place T)) → text_to number space (option_map_or (λ p. At p o.dir o.name) p (Unplaced o.what)) ≡ option_map_or (λ p. name_text space p o.dir o.name) (option_map (numbered number) p) (unplaced_text o.what)
      by None = refl
      by (Some p) = refl

module _ {T : Type 0} (number : T → ℕ) (v : Shown T) (caller : ℕ) (rooted : numbered number v.root ≡ root_place v.table) where
  leads-same : (at : ProcAt) → lead_numbered number (leads_in number v caller at) ≡ leads_of v.table (state_numbered number v.state) caller at
  leads-same SelfLink = refl
  leads-same (Dir pid) = refl
  leads-same (Cwd pid) =
      cwd-lead number (space_in v) (process pid v.state)
      ∙ ap (λ space. option_map_or (λ p. jump_to space p.cwd 0 []) (option_map (process_numbered number) (process pid v.state)) NoLink) (space-numbered number v)
      ∙ ap (λ o. option_map_or (λ p. jump_to (space_of v.table (state_numbered number v.state)) p.cwd 0 []) o NoLink) (sym (process-numbered number v.state pid))
  leads-same (Root pid) =
      root-lead number (space_in v) v.root (root_place v.table) rooted (process pid v.state)
      ∙ ap (λ space. option_map_or (λ p. jump_to space (root_place v.table) 0 []) (option_map (process_numbered {X = Image} number) (process pid v.state)) NoLink) (space-numbered number v)
      ∙ ap (λ (o : Option (Process ℕ Image)). option_map_or (λ p. jump_to (space_of v.table (state_numbered number v.state)) (root_place v.table) 0 []) o NoLink) (sym (process-numbered number v.state pid))
  leads-same (Exe pid) =
      exe-lead number (space_in v) (process pid v.state)
      ∙ ap (λ space. option_map_or (λ p. jump_to space p.exe p.exe_dir p.exe_name) (option_map (process_numbered number) (process pid v.state)) NoLink) (space-numbered number v)
      ∙ ap (λ o. option_map_or (λ p. jump_to (space_of v.table (state_numbered number v.state)) p.exe p.exe_dir p.exe_name) o NoLink) (sym (process-numbered number v.state pid))
  leads-same (FdDir pid) = refl
  leads-same (Fd pid fd) =
      open-lead number (space_in v) (opened pid fd v.state)
      ∙ ap (λ space. option_map_or (lead_of_open space) (option_map (opened_numbered number) (opened pid fd v.state)) NoLink) (space-numbered number v)
      ∙ ap (λ o. option_map_or (lead_of_open (space_of v.table (state_numbered number v.state))) o NoLink) (sym (opened-numbered number v.state pid fd))

  texts-same : (at : ProcAt) → texts_in number v caller at ≡ link_text v.table (state_numbered number v.state) caller at
  texts-same SelfLink = refl
  texts-same (Dir pid) = refl
  texts-same (Cwd pid) =
      cwd-text number (space_in v) (process pid v.state)
      ∙ ap (λ space. option_and_then (λ p. name_text space p.cwd 0 []) (option_map (process_numbered number) (process pid v.state))) (space-numbered number v)
      ∙ ap (option_and_then (λ p. name_text (space_of v.table (state_numbered number v.state)) p.cwd 0 [])) (sym (process-numbered number v.state pid))
  texts-same (Root pid) =
      root-text number (space_in v) v.root (root_place v.table) rooted (process pid v.state)
      ∙ ap (λ space. option_and_then (λ p. name_text space (root_place v.table) 0 []) (option_map (process_numbered {X = Image} number) (process pid v.state))) (space-numbered number v)
      ∙ ap (option_and_then (λ (p : Process ℕ Image). name_text (space_of v.table (state_numbered number v.state)) (root_place v.table) 0 [])) (sym (process-numbered number v.state pid))
  texts-same (Exe pid) =
      exe-text number (space_in v) (process pid v.state)
      ∙ ap (λ space. option_and_then (λ p. name_text space p.exe p.exe_dir p.exe_name) (option_map (process_numbered number) (process pid v.state))) (space-numbered number v)
      ∙ ap (option_and_then (λ p. name_text (space_of v.table (state_numbered number v.state)) p.exe p.exe_dir p.exe_name)) (sym (process-numbered number v.state pid))
  texts-same (FdDir pid) = refl
  texts-same (Fd pid fd) =
      open-text number (space_in v) (opened pid fd v.state)
      ∙ ap (λ space. option_and_then (open_text space) (option_map (opened_numbered number) (opened pid fd v.state))) (space-numbered number v)
      ∙ ap (option_and_then (open_text (space_of v.table (state_numbered number v.state)))) (sym (opened-numbered number v.state pid fd))

pub shows-the-directory : {T : Type 0} → ShowsTheDirectory T
shows-the-directory {T} = record {
  space = λ number v. space-numbered number v;
  leads = λ number v caller at rooted. leads-same number v caller rooted at;
  texts = λ number v caller at rooted. texts-same number v caller rooted at;
}
