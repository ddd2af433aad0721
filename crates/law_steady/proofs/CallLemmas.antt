-- Which calls make changes that can alter the shape and the bytes of files, and how often.
use Rattle.std.proofs.Common.{◌≡◌, ℕ, ℤ, Bool, true, false, not, ◌&&◌, ◌||◌, List, [], ◌∷◌, Option, Some, None, Result, Ok, Err, refl, ap, ◌∙◌, cond}
use Rattle.std.specs.List.{list_all, list_any}
use Rattle.std.specs.Option.{option_map_or}
use Rattle.law_lawful.specs.pr_base.declared.errno.Errno.{Errno}
use Rattle.law_lawful.specs.pr_base.declared.errno.Errno.TheVariants.{ENOENT}
use Rattle.law_lawful.specs.rv_mem.Memory.{Memory}
use Rattle.law_lawful.specs.kr_calls.CallTable.{ending_too, line}
use Rattle.law_lawful.specs.kr_calls.Kinds.{Ends as EndsCaller, Kind, has_kind}
use Rattle.law_lawful.specs.kr_calls.declared.request.Request.{Request}
use Rattle.law_lawful.specs.kr_calls.declared.request.Request.TheVariants as call
use Rattle.law_lawful.specs.kr_files.declared.opened.Opened.{Opened}
use Rattle.law_lawful.specs.kr_tree.declared.place.Place.{Place}
use Rattle.law_lawful.specs.kr_view.View.{Row}
use Rattle.law_lawful.specs.kr_view.Walk.{PlaceTarget}
use Rattle.law_lawful.specs.kr_model.Change.{AddNode, Change, LinkNode, MoveName, OfFound, OpenFile, RemoveName, SetMode, SetOwner, SetSize, WriteFile}
use Rattle.law_lawful.specs.kr_model.ChangeKinds.{kind}
use Rattle.law_lawful.specs.kr_model.FileRows.{creates, openat_row, truncates}
use Rattle.law_lawful.specs.kr_model.Judged.{alters_bytes, alters_shape, leaves_bytes, leaves_shape}
use Rattle.law_lawful.specs.kr_model.Known.{Known}
use Rattle.law_lawful.specs.kr_model.Operation.{by_path, links_told, looked_up, made, moves_told, opened, operation, taken}
use Rattle.law_lawful.specs.kr_model.Reply.{Reply, Replying, refusal}
use Rattle.law_lawful.specs.kr_model.Seen.{Links, Looked, LooksUp, Made, MakesEntry, Moves, Opening, NoPath, Opens, OpensFound, Seen, Taken, TakesEntry, WalkFails}
use Rattle.law_lawful.specs.kr_model.State.{Image, State}
use Rattle.law_lawful.specs.kr_model.Walks.{Targets, created_at, if_found, looked_at, opened_at, seen as seen_of_paths, seen_of, targets_of}
use Rattle.law_lawful.proofs.kr_model.LineLemmas.{by_line, line_passes}
use Rattle.law_steady.specs.Calls.{CallsAlterOnce, CallsLeaveBytes, CallsLeaveShape, ProgramsLeaveBoth, alter_one_file, are_few, bytes_kinds, is_beside, is_once, may_alter_bytes, may_alter_shape, replied, shape_kinds}
use Rattle.law_steady.proofs.EndLemmas.{Ends, Pass, ends_pass, refused}
use Rattle.law_steady.proofs.OnceRows.{Once, fchmod_once, fchmodat_once, fchown_once, fchownat_here_once, fchownat_once, ftruncate_once, linkat_once, mkdirat_once, renameat2_once, symlinkat_once, unlinkat_once, write_once, writev_once}
use Rattle.law_steady.proofs.OpeningRows.{found_opened, openat_ends}

-- ---- tests of kinds

-- kinds that can't alter the shape, and those that can't alter bytes
abbrev pub keeps_shape : Kind → Bool
keeps_shape k = not (has_kind shape_kinds k)

abbrev pub keeps_bytes : Kind → Bool
keeps_bytes k = not (has_kind bytes_kinds k)

-- a line without such a kind passes; the end of its caller is of neither kind
none_passes : (test : Kind → Bool) (kinds : List Kind) → list_any test kinds ≡ false → list_all (λ k. not (test k)) kinds ≡ true
none_passes test [] none = refl
none_passes test (k ∷ kinds) none = by (test k) none (none_passes test kinds)
  where
    by : (b : Bool) → (b || list_any test kinds) ≡ false → (list_any test kinds ≡ false → list_all (λ k. not (test k)) kinds ≡ true) → (not b && list_all (λ k. not (test k)) kinds) ≡ true
    by true none rest = absurd cc
    by false none rest = rest none

line_without : (test : Kind → Bool) → test EndsCaller ≡ false → (r : Request) → list_any test (line r).does.makes ≡ false → line_passes (λ k. not (test k)) r ≡ true
line_without test goes r none = by (line r).does.ends_by
  where
    passed : list_all (λ k. not (test k)) (line r).does.makes ≡ true
    passed = none_passes test (line r).does.makes none

    by : (word : Option ℕ) → list_all (λ k. not (test k)) (ending_too word (line r).does.makes) ≡ true
    by None = passed
    by (Some word) = ap (λ b. not b && list_all (λ k. not (test k)) (line r).does.makes) goes ∙ passed

shape_kept : (c : Change) → keeps_shape (kind c) ≡ true → not (alters_shape c) ≡ true
shape_kept (AddNode dir name mode uid gid body) keeps = absurd cc
shape_kept (LinkNode dir name i) keeps = absurd cc
shape_kept (RemoveName dir name) keeps = absurd cc
shape_kept (MoveName dir name to new) keeps = absurd cc
shape_kept (SetMode i mode) keeps = absurd cc
shape_kept (SetOwner i uid gid) keeps = absurd cc
shape_kept _ keeps = refl

bytes_kept : (c : Change) → keeps_bytes (kind c) ≡ true → not (alters_bytes c) ≡ true
bytes_kept (SetSize i size) keeps = absurd cc
bytes_kept (WriteFile i at bytes) keeps = absurd cc
bytes_kept _ keeps = refl

module _ (pid : ℕ) (r : Request) (seen : Seen) (k : Known) (m : Memory) where
  pub shape_by_line : line_passes keeps_shape r ≡ true → leaves_shape (replied pid r seen k m) ≡ true
  shape_by_line all = by_line keeps_shape (λ c. not (alters_shape c)) shape_kept pid r seen k m all

  pub bytes_by_line : line_passes keeps_bytes r ≡ true → leaves_bytes (replied pid r seen k m) ≡ true
  bytes_by_line all = by_line keeps_bytes (λ c. not (alters_bytes c)) bytes_kept pid r seen k m all

-- ---- what a row comes to of what its call is told

module _ {P : Reply → Type 0} (refuses : (e : Errno) → P (refusal e)) where
  pub opened_ends : (seen : Seen) {next : Opening → Replying} → ((o : Opening) → Ends P (next o)) → Ends P (opened seen next)
  opened_ends (Opens o) each = each o
  opened_ends (WalkFails e) each = refused e (refuses e)
  opened_ends _ each = refused ENOENT (refuses ENOENT)

  pub made_ends : (seen : Seen) {next : Made → Replying} → ((m : Made) → Ends P (next m)) → Ends P (made seen next)
  made_ends (MakesEntry m) each = each m
  made_ends (WalkFails e) each = refused e (refuses e)
  made_ends _ each = refused ENOENT (refuses ENOENT)

  pub taken_ends : (seen : Seen) {next : Taken → Replying} → ((t : Taken) → Ends P (next t)) → Ends P (taken seen next)
  taken_ends (TakesEntry t) each = each t
  taken_ends (WalkFails e) each = refused e (refuses e)
  taken_ends _ each = refused ENOENT (refuses ENOENT)

  pub looked_ends : (seen : Seen) {next : Looked → Replying} → ((l : Looked) → Ends P (next l)) → Ends P (looked_up seen next)
  looked_ends (LooksUp l) each = each l
  looked_ends (WalkFails e) each = refused e (refuses e)
  looked_ends _ each = refused ENOENT (refuses ENOENT)

  pub links_end : (seen : Seen) {next : Looked → Made → Bool → Replying} → ((old : Looked) (new : Made) (same_mount : Bool) → Ends P (next old new same_mount)) → Ends P (links_told seen next)
  links_end (Links old new same_mount) each = each old new same_mount
  links_end (WalkFails e) each = refused e (refuses e)
  links_end _ each = refused ENOENT (refuses ENOENT)

  pub moves_end : (seen : Seen) {next : Taken → Taken → Bool → Replying} → ((old new : Taken) (same_mount : Bool) → Ends P (next old new same_mount)) → Ends P (moves_told seen next)
  moves_end (Moves old new same_mount) each = each old new same_mount
  moves_end (WalkFails e) each = refused e (refuses e)
  moves_end _ each = refused ENOENT (refuses ENOENT)

  pub path_ends : (path : List ℕ) {here next : Replying} → Ends P here → Ends P next → Ends P (by_path path here next)
  path_ends [] here next = here
  path_ends (b ∷ path) here next = next

-- ---- openat(2)

-- with a cut or without one
cut_leaves_shape : (b : Bool) (fd : ℕ) (cloexec : Bool) (o : Opened (Unit {0})) (i : ℕ) → leaves_shape (OpenFile fd cloexec OfFound o ∷ cond b (SetSize i 0 ∷ []) []) ≡ true
cut_leaves_shape true fd cloexec o i = refl
cut_leaves_shape false fd cloexec o i = refl

cut_is_one : (b : Bool) (fd : ℕ) (cloexec : Bool) (o : Opened (Unit {0})) (i : ℕ) → are_few (OpenFile fd cloexec OfFound o ∷ cond b (SetSize i 0 ∷ []) []) ≡ true
cut_is_one true fd cloexec o i = refl
cut_is_one false fd cloexec o i = refl

uncut : (b : Bool) → b ≡ false → (fd : ℕ) (cloexec : Bool) (o : Opened (Unit {0})) (i : ℕ) → leaves_bytes (OpenFile fd cloexec OfFound o ∷ cond b (SetSize i 0 ∷ []) []) ≡ true
uncut true is fd cloexec o i = absurd cc
uncut false is fd cloexec o i = refl

-- without O_CREAT it is told of what is there
module _ (table : List Row) (pid : ℕ) (s : State ℕ Image) (k : Known) (dirfd : ℤ) (path : List ℕ) (flags permissions : ℕ) (plain : creates flags ≡ false) where
  abbrev row : Opening → Replying
  row o = openat_row k o flags permissions

  found_leaves : (l : Looked) → Pass leaves_shape (row (OpensFound l))
  found_leaves l = found_opened leaves_shape refl flags (λ fd cloexec o. refl) (cut_leaves_shape (truncates flags)) k l

  by_found : (target : PlaceTarget) (p : Option (Place ℕ)) → Pass leaves_shape (opened (option_map_or (λ p. Opens (OpensFound (looked_at table pid s target p))) p (WalkFails ENOENT)) row)
  by_found target None = refused ENOENT refl
  by_found target (Some p) = found_leaves (looked_at table pid s target p)

  by_flag : (b : Bool) → b ≡ false → (target : PlaceTarget) → Pass leaves_shape (opened (cond b (Opens (created_at table pid s target)) (if_found table pid s target (λ l. Opens (OpensFound l)))) row)
  by_flag true is target = absurd cc
  by_flag false is target = by_found target target.found

  by_target : (o : Option PlaceTarget) → Pass leaves_shape (opened (option_map_or (opened_at table pid s flags) o NoPath) row)
  by_target None = refused ENOENT refl
  by_target (Some target) = by_flag (creates flags) plain target

  plainly_opened : (x : Result Targets Errno) → Pass leaves_shape (opened (seen_of table pid s (call.Openat dirfd path flags permissions) x) row)
  plainly_opened (Ok targets) = by_target targets.first
  plainly_opened (Err e) = refused e refl

-- ---- all calls

module _ (table : List Row) (pid : ℕ) (s : State ℕ Image) (k : Known) (m : Memory) where
  leave_shape : (r : Request) → may_alter_shape r ≡ false → leaves_shape (replied pid r (seen_of_paths table pid s r) k m) ≡ true
  leave_shape (call.Openat dirfd path flags permissions) plain =
      let r = call.Openat dirfd path flags permissions in
      ends_pass leaves_shape (operation pid r (seen_of_paths table pid s r) k) (plainly_opened table pid s k dirfd path flags permissions plain (targets_of table pid s r)) m
  leave_shape r plain = shape_by_line pid r (seen_of_paths table pid s r) k m (line_without (has_kind shape_kinds) refl r plain)

pub calls_leave_shape : CallsLeaveShape
calls_leave_shape table pid s r k m exec plain = leave_shape table pid s k m r plain

-- none that passes is one at most
none_is_once : (test : Change → Bool) (cs : List Change) → list_all (λ c. not (test c)) cs ≡ true → is_once test cs ≡ true
none_is_once test [] none = refl
none_is_once test (c ∷ cs) none = by (test c) none (none_is_once test cs)
  where
    by : (b : Bool) → (not b && list_all (λ c. not (test c)) cs) ≡ true → (list_all (λ c. not (test c)) cs ≡ true → is_once test cs ≡ true) → cond b (list_all (λ c. not (test c)) cs) (is_once test cs) ≡ true
    by true none rest = absurd cc
    by false none rest = rest none

both : {a b : Bool} → a ≡ true → b ≡ true → (a && b) ≡ true
both {a} {b} first second = ap (λ x. x && b) first ∙ second

-- and none is one of one file
leaving_is_few : (cs : List Change) → leaves_bytes cs ≡ true → alter_one_file cs ≡ true
leaving_is_few cs none = both (none_is_once alters_bytes cs none) (ap (λ b. b || list_all (λ c. alters_bytes c || is_beside c) cs) none)

module _ (pid : ℕ) (seen : Seen) (k : Known) (m : Memory) where
  leave_bytes : (r : Request) → may_alter_bytes r ≡ false → leaves_bytes (replied pid r seen k m) ≡ true
  leave_bytes (call.Openat dirfd path flags permissions) plain =
      ends_pass leaves_bytes (operation pid (call.Openat dirfd path flags permissions) seen k)
      (opened_ends (λ e. refl) seen
      (λ o. openat_ends leaves_bytes refl flags (λ fd cloexec o. refl) (uncut (truncates flags) plain) permissions (λ d name mode uid gid fd cloexec o. refl) k o)) m
  leave_bytes r plain = bytes_by_line pid r seen k m (line_without (has_kind bytes_kinds) refl r plain)

  by_row : (r : Request) → Once (operation pid r seen k) → are_few (replied pid r seen k m) ≡ true
  by_row r once = ends_pass are_few (operation pid r seen k) once m

  by_both_lines : (r : Request) → line_passes keeps_shape r ≡ true → line_passes keeps_bytes r ≡ true → are_few (replied pid r seen k m) ≡ true
  by_both_lines r shape bytes =
      let cs = replied pid r seen k m in
      both (none_is_once alters_shape cs (shape_by_line pid r seen k m shape)) (leaving_is_few cs (bytes_by_line pid r seen k m bytes))

  alter_once : (r : Request) → are_few (replied pid r seen k m) ≡ true
  alter_once (call.Write fd buf n) = by_row (call.Write fd buf n) (write_once k fd buf n)
  alter_once (call.Writev fd list count) = by_row (call.Writev fd list count) (writev_once k fd list count)
  alter_once (call.Ftruncate fd len) = by_row (call.Ftruncate fd len) (ftruncate_once k fd len)
  alter_once (call.Openat dirfd path flags permissions) =
      by_row (call.Openat dirfd path flags permissions)
      (opened_ends (λ e. refl) seen
      (λ o. openat_ends are_few refl flags (λ fd cloexec o. refl) (cut_is_one (truncates flags)) permissions (λ d name mode uid gid fd cloexec o. refl) k o))
  alter_once (call.Mkdirat dirfd path permissions) = by_row (call.Mkdirat dirfd path permissions) (made_ends (λ e. refl) seen (λ m. mkdirat_once k m permissions))
  alter_once (call.Unlinkat dirfd path flags) = by_row (call.Unlinkat dirfd path flags) (taken_ends (λ e. refl) seen (λ t. unlinkat_once k t flags))
  alter_once (call.Symlinkat text dirfd path) = by_row (call.Symlinkat text dirfd path) (made_ends (λ e. refl) seen (λ m. symlinkat_once k m text))
  alter_once (call.Linkat olddir old newdir new flags) = by_row (call.Linkat olddir old newdir new flags) (links_end (λ e. refl) seen (linkat_once k))
  alter_once (call.Renameat2 olddir old newdir new) = by_row (call.Renameat2 olddir old newdir new) (moves_end (λ e. refl) seen (renameat2_once k))
  alter_once (call.Fchmod fd permissions) = by_row (call.Fchmod fd permissions) (fchmod_once k fd permissions)
  alter_once (call.Fchmodat dirfd path permissions) = by_row (call.Fchmodat dirfd path permissions) (looked_ends (λ e. refl) seen (λ l. fchmodat_once k l permissions))
  alter_once (call.Fchown fd uid gid) = by_row (call.Fchown fd uid gid) (fchown_once k fd uid gid)
  alter_once (call.Fchownat dirfd path uid gid flags) =
      by_row (call.Fchownat dirfd path uid gid flags) (path_ends (λ e. refl) path (fchownat_here_once k dirfd uid gid) (looked_ends (λ e. refl) seen (λ l. fchownat_once k l uid gid)))
  alter_once r = by_both_lines r refl refl

pub calls_leave_bytes : CallsLeaveBytes
calls_leave_bytes pid r seen k m exec plain = leave_bytes pid seen k m r plain

pub calls_alter_once : CallsAlterOnce
calls_alter_once pid r seen k m exec = alter_once pid seen k m r

pub programs_leave_both : ProgramsLeaveBoth
programs_leave_both image brk from host dir name = (refl, refl)
