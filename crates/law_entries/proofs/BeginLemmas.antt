-- Where the paths of a call begin for a tracer: at the same guest text in two states in which the caller is what it was.
use Rattle.std.proofs.Common.{◌≡◌, ℕ, Bool, true, false, cond, List, [], ◌∷◌, Option, Some, None, Result, Ok, refl, sym, ap, ◌∙◌}
use Rattle.std.specs.Bool.{if◌then◌else◌}
use Rattle.std.specs.Option.{option_and_then, option_map}
use Rattle.std.proofs.lemmas.Option.{same_Some}
use Rattle.pt_tracer.specs.pr_base.MountText.{MountText}
use Rattle.pt_tracer.specs.pr_base.Paths.{is_absolute, slash, text_of}
use Rattle.pt_tracer.specs.pr_base.declared.errno.Errno.{Errno}
use Rattle.pt_tracer.specs.pr_base.declared.peeks.BaseKind.TheVariants as base_kind
use Rattle.pt_tracer.specs.pt_bind.Tags.{TagTable}
use Rattle.pt_tracer.specs.pt_bind.declared.slot.Slot.TheVariants as slot
use Rattle.pt_tracer.specs.pt_canon.TextWalk.{TextSurroundings}
use Rattle.pt_tracer.specs.pt_results.kr_calls.PathTable.{PathUse}
use Rattle.pt_tracer.specs.pt_args.Bases.{base_of, descriptor_base, descriptor_number, is_working_directory, numbered_base, or_lost, tagged_text, working_text}
use Rattle.pt_tracer.specs.Planning.{texts_at}
use Rattle.pt_tracer.proofs.law_steady.NameLemmas.{host_names_last}
use Rattle.kr_loose.specs.kr_model.kr_files.declared.opened.Opened.{Opened}
use Rattle.kr_loose.specs.kr_model.FileRows.{is_dir}
use Rattle.kr_loose.specs.kr_model.HostView.{base_name, cwd_name, host_space, open_name}
use Rattle.kr_loose.specs.kr_model.Peeks.{kind_of_base}
use Rattle.kr_loose.specs.kr_model.ProcessDirectory.{name_text, remembered}
use Rattle.kr_loose.specs.kr_model.State.{Image, Process, State, opened, process}
use Rattle.kr_loose.specs.kr_tree.Tree.{body_is, is_directory}
use Rattle.kr_loose.specs.kr_tree.declared.place.Host.{Host}
use Rattle.kr_loose.specs.kr_tree.declared.place.Host.TheVariants.{Node}
use Rattle.kr_loose.specs.kr_tree.declared.place.Place.{Place}
use Rattle.kr_loose.specs.kr_view.Component.{is_directory_at}
use Rattle.kr_loose.specs.kr_view.HostReach.{host_place}
use Rattle.kr_loose.specs.kr_view.Names.{guest_directory, guest_entry}
use Rattle.kr_loose.specs.kr_view.View.{plain_row}
use Rattle.kr_loose.specs.kr_stops.Stopped.{Stopped}
use Rattle.law_entries.specs.Lasting.{SameTags, StaysAt, StaysFor, open_of, own_of}

-- a directory has its name by the tree, whatever entry is remembered of it
directory-name : (s : State ℕ Image) (i dir : ℕ) (name : List ℕ) → body_is is_directory s.tree i ≡ true
    → name_text (host_space s) (host_place (Node i)) dir name ≡ name_text (host_space s) (host_place (Node i)) 0 []
directory-name s i dir name is =
    ap (λ b. option_map text_of (if b then guest_directory s.tree (Some plain_row) i else guest_entry s.tree (Some plain_row) (remembered dir name))) is
    ∙ sym (ap (λ b. option_map text_of (if b then guest_directory s.tree (Some plain_row) i else guest_entry s.tree (Some plain_row) (remembered 0 []))) is)

-- ---- the names of two states

module _ (exec : Bool) (pid : ℕ) (s t : State ℕ Image) (stays : StaysFor exec pid s t) where
  -- the working directory's
  cwd-name : cwd_name t pid ≡ cwd_name s pid
  cwd-name = by (process pid t) (process pid s) refl refl stays.own
    where
      by : (a b : Option (Process ℕ Image)) → process pid t ≡ a → process pid s ≡ b → option_map own_of a ≡ option_map own_of b
          → option_and_then (λ (p : Process ℕ Image). name_text (host_space t) (host_place p.cwd.host) 0 []) a ≡ option_and_then (λ (p : Process ℕ Image). name_text (host_space s) (host_place p.cwd.host) 0 []) b
      by None None e f own = refl
      by None (Some q) e f own = absurd cc
      by (Some p) None e f own = absurd cc
      by (Some p) (Some q) e f own =
          let begin = stays.here.working q f in
          let host : p.cwd.host ≡ q.cwd.host = ap (λ (x : Image × Place ℕ). x.1.host) (same_Some (own_of p) (own_of q) own) in
          ap (λ (h : Host). name_text (host_space t) (host_place h) 0 []) (host ∙ begin.1) ∙ (host_names_last ℕ ℕ Image Image s t stays.shape stays.sound begin.0).own
          ∙ sym (ap (λ (h : Host). name_text (host_space s) (host_place h) 0 []) begin.1)

  -- that of an open directory
  open-name : (fd : ℕ) (o q : Opened ℕ) → opened pid fd t ≡ Some o → opened pid fd s ≡ Some q → open_of o ≡ open_of q → is_dir q.what ≡ true → open_name t o ≡ open_name s q
  open-name fd o q e f same dir = by q.place refl (ap (λ (x : Bool × Option (Place ℕ)). x.1) same)
    where
      by : (c : Option (Place ℕ)) → q.place ≡ c → o.place ≡ q.place → open_name t o ≡ open_name s q
      by None is alike =
          ap (option_and_then (λ (p : Place ℕ). name_text (host_space t) (host_place p.host) o.dir o.name)) (alike ∙ is)
          ∙ sym (ap (option_and_then (λ (p : Place ℕ). name_text (host_space s) (host_place p.host) q.dir q.name)) is)
      by (Some p) is alike =
          let begin = stays.here.open_directories fd q p f dir is in
          let behind = stays.there.open_directories fd o p e (ap (λ (x : Bool × Option (Place ℕ)). x.0) same ∙ dir) (alike ∙ is) in
          let is_there : body_is is_directory t.tree begin.0 ≡ true = ap (is_directory_at t.tree) (sym begin.1 ∙ behind.1) ∙ behind.2 in
          ap (option_and_then (λ (p : Place ℕ). name_text (host_space t) (host_place p.host) o.dir o.name)) (alike ∙ is)
          ∙ ap (λ (h : Host). name_text (host_space t) (host_place h) o.dir o.name) begin.1
          ∙ directory-name t begin.0 o.dir o.name is_there
          ∙ (host_names_last ℕ ℕ Image Image s t stays.shape stays.sound begin.0).own
          ∙ sym (directory-name s begin.0 q.dir q.name begin.2)
          ∙ sym (ap (λ (h : Host). name_text (host_space s) (host_place h) q.dir q.name) begin.1)
          ∙ sym (ap (option_and_then (λ (p : Place ℕ). name_text (host_space s) (host_place p.host) q.dir q.name)) is)

-- ---- guest texts

abbrev based : (absolute working : Bool) → (own other : Result (Option (List ℕ)) Errno) → Result (Option (List ℕ)) Errno
based absolute working own other = if absolute then Ok (Some (slash ∷ [])) else if working then own else other

module _ (exec : Bool) (bindings : List MountText) (tags more : TagTable) (pid : ℕ) (t u : Stopped) (at : StaysAt exec pid t u) (same : SameTags pid tags more) where
  abbrev one : TextSurroundings
  one = texts_at bindings tags t

  abbrev two : TextSurroundings
  two = texts_at bindings more u

  pub working-name : cwd_name u.state pid ≡ cwd_name t.state pid
  working-name = cwd-name exec pid t.state u.state at.stays

  working-at : working_text two pid ≡ working_text one pid
  working-at = λ j. tagged_text bindings (same slot.Cwd j) (working-name j)

  pub working-same : working_text (texts_at bindings more u) u.pid ≡ working_text (texts_at bindings tags t) t.pid
  working-same = ap (working_text two) at.second ∙ working-at ∙ sym (ap (working_text one) at.first)

  -- a descriptor is looked at by what is open there
  descriptor-at : (fd : ℕ) → numbered_base two pid (Some fd) ≡ numbered_base one pid (Some fd)
  descriptor-at fd = by (opened pid fd u.state) (opened pid fd t.state) refl refl (at.stays.opened fd)
    where
      kinds : (o q : Opened ℕ) → opened pid fd u.state ≡ Some o → opened pid fd t.state ≡ Some q → open_of o ≡ open_of q → (b : Bool) → is_dir q.what ≡ b
          → descriptor_base two pid fd (cond b base_kind.Dir base_kind.Other) ≡ descriptor_base one pid fd (cond b base_kind.Dir base_kind.Other)
      kinds o q e f alike false is = refl
      kinds o q e f alike true is =
          let name : base_name u.state pid fd ≡ base_name t.state pid fd =
          ap (option_and_then (open_name u.state)) e ∙ open-name exec pid t.state u.state at.stays fd o q e f alike is ∙ sym (ap (option_and_then (open_name t.state)) f)
          in
          λ j. or_lost (tagged_text bindings (same (slot.Fd fd) j) (name j))

      by : (a b : Option (Opened ℕ)) → opened pid fd u.state ≡ a → opened pid fd t.state ≡ b → option_map open_of a ≡ option_map open_of b
          → numbered_base two pid (Some fd) ≡ numbered_base one pid (Some fd)
      by None None e f alike =
          ap (λ (o : Option (Opened ℕ)). descriptor_base two pid fd (kind_of_base o)) e ∙ sym (ap (λ (o : Option (Opened ℕ)). descriptor_base one pid fd (kind_of_base o)) f)
      by None (Some q) e f alike = absurd cc
      by (Some o) None e f alike = absurd cc
      by (Some o) (Some q) e f alike =
          let is = same_Some (open_of o) (open_of q) alike in
          ap (λ (o : Option (Opened ℕ)). descriptor_base two pid fd (kind_of_base o)) e
          ∙ ap (λ (b : Bool). descriptor_base two pid fd (cond b base_kind.Dir base_kind.Other)) (ap (λ (x : Bool × Option (Place ℕ)). x.0) is)
          ∙ kinds o q e f is (is_dir q.what) refl
          ∙ sym (ap (λ (o : Option (Opened ℕ)). descriptor_base one pid fd (kind_of_base o)) f)

  numbered-at : (o : Option ℕ) → numbered_base two pid o ≡ numbered_base one pid o
  numbered-at None = refl
  numbered-at (Some fd) = descriptor-at fd

  base-at : (p : PathUse) → base_of two pid p ≡ base_of one pid p
  base-at p = λ j. based (is_absolute p.text) (is_working_directory p.dirfd) (or_lost (working-at j)) (numbered-at (descriptor_number p.dirfd) j)

  pub base-same : (p : PathUse) → base_of (texts_at bindings more u) u.pid p ≡ base_of (texts_at bindings tags t) t.pid p
  base-same p = ap (λ n. base_of two n p) at.second ∙ base-at p ∙ sym (ap (λ n. base_of one n p) at.first)
