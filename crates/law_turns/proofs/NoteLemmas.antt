-- What a tracer notes of a call with a path is what its changes make of the tags.
use Rattle.std.proofs.Common.{◌≡◌, ◌<◌, ◌^◌, ℕ, Bool, true, false, cond, not, List, [], ◌∷◌, Option, Some, None, Result, Ok, Err, refl, sym, ap, ◌∙◌, ℤ, pos, arith}
use Rattle.std.specs.Prelude.{◌&&◌, ◌||◌, nat_lt, neg_ℤ}
use Rattle.std.specs.Int.{cast_signed, cast_unsigned, w64}
use Rattle.std.specs.Option.{option_and_then, option_map, option_map_or}
use Rattle.std.proofs.lemmas.Bool.Decides.{nat_tests}
use Rattle.std.proofs.lemmas.Int.{to_z-of_z}
use Rattle.kr_core.specs.pr_base.Errno.{errno_number}
use Rattle.kr_core.specs.pr_base.declared.errno.Errno.{Errno}
use Rattle.kr_core.specs.pr_base.declared.errno.Errno.TheVariants.{EACCES, EEXIST, EISDIR, ELOOP, EMFILE, ENOENT, ENOSPC, ENOTDIR}
use Rattle.kr_core.specs.pr_base.declared.path.Last.{Last}
use Rattle.kr_core.specs.pr_base.declared.path.Last.TheVariants as last
use Rattle.pt_results.specs.rv_mem.Actions.{Done, carried_out}
use Rattle.pt_results.specs.rv_mem.Memory.{Memory}
use Rattle.pt_results.specs.pt_bind.Tags.{TagTable, with_tag}
use Rattle.pt_results.specs.pt_bind.declared.slot.Slot.TheVariants.{Cwd, Fd}
use Rattle.pt_results.specs.Notes.{noted_of, tags_after}
use Rattle.pt_results.specs.Numbers.{made_number}
use Rattle.law_places.specs.kr_inode.declared.user.Right.TheVariants.{Read as ReadRight, Search as SearchRight, Write as WriteRight}
use Rattle.kr_core.specs.kr_tree.Rights.{allows}
use Rattle.kr_core.specs.kr_tree.Tree.{Body, Directory, Node as TreeNode, ProcessDirectory, RegularFile, SymbolicLink}
use Rattle.kr_core.specs.kr_tree.declared.place.Host.{Host}
use Rattle.kr_core.specs.kr_tree.declared.place.Host.TheVariants.{Node, Proc}
use Rattle.kr_core.specs.kr_tree.declared.place.Place.{Place}
use Rattle.law_places.specs.kr_files.Descriptors.{lowest_free}
use Rattle.law_places.specs.kr_files.declared.opened.Opened.{Opened}
use Rattle.law_places.specs.kr_files.declared.opened.What.TheVariants.{Dir, File}
use Rattle.law_places.proofs.kr_files.DescriptorLemmas.{lowest_free-some}
use Rattle.law_places.specs.kr_view.Component.{is_process_directory}
use Rattle.law_places.specs.kr_view.View.{Row}
use Rattle.law_places.specs.kr_view.Walk.{PlaceTarget}
use Rattle.pt_results.specs.kr_calls.declared.request.Request.{Request}
use Rattle.pt_results.specs.kr_calls.declared.request.Request.TheVariants as call
use Rattle.kr_core.specs.law_allowed.Told.{mounts_walked}
use Rattle.kr_core.specs.kr_seen.Carrying.{memory_of}
use Rattle.law_places.specs.kr_model.Applied.{Mounts, mount_of}
use Rattle.law_places.specs.kr_model.Asking.{has_no_room, is_directory_host, is_over, is_searched, writable_body, writable_node}
use Rattle.law_places.specs.kr_model.Change.{Change, MountOf, OfDirectory, OfFound, OpenFile, SetSize}
use Rattle.law_places.specs.kr_model.DirectoryRows.{chdir_row}
use Rattle.law_places.specs.kr_model.FileRows.{creates, cut_after, excludes, has_rights, make_and_open, open_body, open_directory, open_file, open_host, open_new, open_under, openat_row, opens_as, truncates, wants_directory, wants_write}
use Rattle.law_places.specs.kr_model.Known.{Known, known, known_node}
use Rattle.law_places.specs.kr_model.Operation.{looked_up, opened}
use Rattle.law_places.specs.kr_model.Reply.{Reply, Replying, refusal, refuse}
use Rattle.law_places.specs.kr_model.Seen.{Looked, LooksUp, NoPath, Opening, Opens, OpensFound, OpensNew, OpensNoName, OpensSlashed, Seen, WalkFails}
use Rattle.law_places.specs.kr_model.State.{Image, State, image_layout}
use Rattle.law_places.specs.kr_model.Walks.{Targets, created_at, if_found, if_name, looked_at, mounts_of, opened_at, seen_of, targets_of}
use Rattle.law_places.specs.kr_model.declared.outcome.Outcome.{Outcome}
use Rattle.law_places.specs.kr_model.declared.outcome.Outcome.TheVariants.{Answer, Wait, Ended, NoMemory}
use Rattle.law_places.specs.Matching.{index_at}
use Rattle.law_turns.specs.Calls.{decoded_in}
use Rattle.law_turns.specs.Changing.{all_tags_made}
use Rattle.law_turns.specs.PathCalls.{HasPath, IsIndexWalked, PathCallsAreNoted, changes_at, mounts_at, outcome_at, tags_noted, told_at, written_at}
use Rattle.law_turns.proofs.UsesLemmas.{brings, tags_kept, uses_kept}

-- ---- rows that answer at once

pub data Ends (P : Reply → Type 0) : Replying → Type 0 where
  replied : {reply : Reply} → P reply → Ends P (Done reply)
  split : (b : Bool) {x y : Replying} → Ends P x → Ends P y → Ends P (cond b x y)

ended : {P : Reply → Type 0} (action : Replying) → Ends P action → (m : Memory) → P (carried_out action m).reply
ended action (replied holds) m = holds
ended action (split true {x = x} first second) m = ended x first m
ended action (split false {y = y} first second) m = ended y second m

maybe : {P : Reply → Type 0} {A : Type 0} {f : A → Replying} (o : Option A) {other : Replying} → ((x : A) → Ends P (f x)) → Ends P other → Ends P (option_map_or f o other)
maybe None some none = none
maybe (Some x) some none = some x

-- ---- answers

-- one below 2^32 is the number that it makes
made : (n : ℕ) → n < 2 ^ 32 → made_number (cast_signed w64 (cast_unsigned w64 (pos n))) ≡ Some n
made n small = ap made_number (to_z-of_z w64 (pos n) (omega (arith, small))) ∙ ap (λ b. cond b (Some n) None) is
  where
    is : nat_lt n (2 ^ 32) ≡ true
    is = grind (arith, nat_tests)

-- an error makes none
none_made : (e : Errno) → made_number (cast_signed w64 (cast_unsigned w64 (neg_ℤ (pos (errno_number e))))) ≡ None
none_made ENOENT = refl
none_made _ = refl

module _ (table : List Row) (mounts : Mounts ℕ) (pid : ℕ) (t : State ℕ Image) (tags : TagTable) (r : Request) (index : ℕ) where
  abbrev pub Follows : Reply → Type 0
  Follows reply = all_tags_made table mounts pid t reply.changes tags ≡ tags_noted pid r index reply.outcome tags

  -- the mount that a change names is that of the index
  pub record HasMount (from : MountOf) : Type 0 where
    pub mount : ℕ
    pub named : (s : State ℕ Image) → mount_of mounts pid s from ≡ Some mount
    pub index_is : index ≡ index_at table mount

  -- of a call of which only an answer that makes a number is noted
  module _ (silent : tags_after tags pid (noted_of r index None) ≡ tags) where
    refused : (e : Errno) → Ends Follows (refuse e)
    refused e = replied (sym (ap (λ number. tags_after tags pid (noted_of r index number)) (none_made e) ∙ silent))

    -- ---- a file that is opened

    module _ (k : Known) (flags : ℕ) (notes : (fd : ℕ) → tags_after tags pid (noted_of r index (Some fd)) ≡ with_tag tags pid (Fd fd) index) where
      open_follows : (fd : ℕ) (cloexec : Bool) (from : MountOf) (o : Opened (Unit {0})) → fd < 2 ^ 32 → HasMount from → (s : State ℕ Image) → all_tags_made table mounts pid s (OpenFile fd cloexec from o ∷ []) tags ≡ tags_noted pid r index (Answer (pos fd)) tags
      open_follows fd cloexec from o small has s =
          ap (λ m. option_map_or (λ m. with_tag tags pid (Fd fd) (index_at table m)) m tags) (has.named s) ∙ ap (with_tag tags pid (Fd fd)) (sym has.index_is)
          ∙ sym (ap (λ number. tags_after tags pid (noted_of r index number)) (made fd small) ∙ notes fd)

      cut_keeps : (i : ℕ) (s : State ℕ Image) (later : TagTable) → all_tags_made table mounts pid s (cut_after flags i) later ≡ later
      cut_keeps i s later = elim (truncates flags) as (λ b. all_tags_made table mounts pid s (cond b (SetSize i 0 ∷ []) []) later ≡ later) [ true ↦ refl | false ↦ refl ]

      low : (fd : ℕ) → lowest_free k.caller.descs 0 ≡ Some fd → fd < 2 ^ 32
      low fd is = let free = (lowest_free-some k.caller.descs 0 fd is).below in omega (arith, free)

      under_number : (from : MountOf) (o : Opened (Unit {0})) (after : List Change) → HasMount from → ((s : State ℕ Image) (later : TagTable) → all_tags_made table mounts pid s after later ≡ later) → (fds : Option ℕ) → lowest_free k.caller.descs 0 ≡ fds
          → Ends Follows (open_under flags from o after fds)
      under_number from o after has keeps None is = refused EMFILE
      under_number from o after has keeps (Some fd) is = replied (keeps _ _ ∙ open_follows fd false from o (low fd is) has t)

      under : (from : MountOf) (o : Opened (Unit {0})) (after : List Change) → HasMount from → ((s : State ℕ Image) (later : TagTable) → all_tags_made table mounts pid s after later ≡ later) → Ends Follows (open_under flags from o after (lowest_free k.caller.descs 0))
      under from o after has keeps = under_number from o after has keeps (lowest_free k.caller.descs 0) refl

      directory_follows : (at : Host) (readable : Bool) → HasMount OfFound → Ends Follows (open_directory k flags at readable)
      directory_follows at readable has =
          split (wants_write flags || creates flags || truncates flags) (refused EISDIR) (split (not readable) (refused EACCES) (under OfFound (opens_as Dir at 0 [] flags) [] has (λ s later. refl)))

      file_follows : (i : ℕ) (n : TreeNode) (dir : ℕ) (name : List ℕ) → HasMount OfFound → Ends Follows (open_file k flags i n dir name)
      file_follows i n dir name has =
          split (wants_directory flags) (refused ENOTDIR) (split (not (has_rights k n flags)) (refused EACCES) (under OfFound (opens_as File (Node i) dir name flags) (cut_after flags i) has (cut_keeps i)))

      body_follows : (l : Looked) (i : ℕ) (n : TreeNode) → HasMount OfFound → (b : Body) → Ends Follows (open_body k flags l i n b)
      body_follows l i n has (Directory entries standing) = directory_follows (Node i) (allows k.user n ReadRight) has
      body_follows l i n has (ProcessDirectory standing) = directory_follows (Node i) (allows k.user n ReadRight) has
      body_follows l i n has (SymbolicLink text) = refused ELOOP
      body_follows l i n has (RegularFile bytes) = file_follows i n _ _ has

      host_follows : (l : Looked) → HasMount OfFound → (at : Host) → Ends Follows (open_host k flags l at)
      host_follows l has (Node i) = maybe (known_node k i) (λ n. body_follows l i n has n.body) (refused ENOENT)
      host_follows l has (Proc i at) = split (is_process_directory at) (directory_follows (Proc i at) true has) (refused ELOOP)

      -- ---- a file that is made

      made_under_number : (mode d : ℕ) (name : List ℕ) → HasMount OfDirectory → (fds : Option ℕ) → lowest_free k.caller.descs 0 ≡ fds → Ends Follows (make_and_open k flags mode d name fds)
      made_under_number mode d name has None is = refused EMFILE
      made_under_number mode d name has (Some fd) is = split (has_no_room 0 k) (refused ENOSPC) (replied (open_follows fd false OfDirectory (opens_as File (Node 0) d name flags) (low fd is) has t))

      make_follows : (mode d : ℕ) (name : List ℕ) → HasMount OfDirectory → Ends Follows (make_and_open k flags mode d name (lowest_free k.caller.descs 0))
      make_follows mode d name has = made_under_number mode d name has (lowest_free k.caller.descs 0) refl

      written_follows : (n : TreeNode) (b : Body) (next : Replying) → Ends Follows next → Ends Follows (writable_body k n b next)
      written_follows n (Directory entries None) next ends = refused ENOENT
      written_follows n (Directory entries (Some standing)) next ends = split (allows k.user n WriteRight && allows k.user n SearchRight) ends (refused EACCES)
      written_follows n (RegularFile bytes) next ends = refused ENOTDIR
      written_follows n (SymbolicLink text) next ends = refused ENOTDIR
      written_follows n (ProcessDirectory standing) next ends = refused EACCES

      node_follows : (o : Option TreeNode) (next : Replying) → Ends Follows next → Ends Follows (writable_node k o (λ n. next))
      node_follows None next ends = refused ENOENT
      node_follows (Some n) next ends = written_follows n n.body next ends

      new_follows : (mode : ℕ) (dir : Host) (name : List ℕ) → HasMount OfDirectory → Ends Follows (open_new k flags mode dir name)
      new_follows mode (Node d) name has = node_follows (known_node k d) (make_and_open k flags mode d name (lowest_free k.caller.descs 0)) (make_follows mode d name has)
      new_follows mode (Proc i at) name has = split (is_over k at) (refused ENOENT) (refused EACCES)

      -- ---- openat(2)

      abbrev pub HasOpening : Opening → Type 0
      HasOpening (OpensNoName last) = Unit {0}
      HasOpening OpensSlashed = Unit {0}
      HasOpening (OpensFound l) = HasMount OfFound
      HasOpening (OpensNew dir name) = HasMount OfDirectory

      pub openat_follows : (o : Opening) (mode : ℕ) → HasOpening o → Ends Follows (openat_row k o flags mode)
      openat_follows (OpensNoName last) mode has = refused (cond (excludes flags) EEXIST EISDIR)
      openat_follows OpensSlashed mode has = refused EISDIR
      openat_follows (OpensFound l) mode has = split (creates flags && excludes flags) (refused EEXIST) (host_follows l has l.host)
      openat_follows (OpensNew dir name) mode has = new_follows mode dir name has

    -- ---- chdir(2)

    pub chdir_follows : (k : Known) (l : Looked) → tags_after tags pid (noted_of r index (Some 0)) ≡ with_tag tags pid Cwd index → HasMount OfFound → Ends Follows (chdir_row k l)
    chdir_follows k l notes has =
        split (not (is_directory_host k l.host)) (refused ENOTDIR)
        (split (not (is_searched k l.host)) (refused EACCES)
        (replied (ap (λ m. option_map_or (λ m. with_tag tags pid Cwd (index_at table m)) m tags) (has.named t) ∙ ap (with_tag tags pid Cwd) (sym has.index_is)
        ∙ sym (ap (λ number. tags_after tags pid (noted_of r index number)) (made 0 (omega arith)) ∙ notes))))

-- ---- by where the first path leads

module _ (table : List Row) (pid : ℕ) (a : State ℕ Image) (index : ℕ) (r : Request) (walked : IsIndexWalked table pid a r index) (targets : Targets) (is : targets_of table pid a r ≡ Ok targets) (target : PlaceTarget) (first : targets.first ≡ Some target) where
  found_has : (t : State ℕ Image) (tags : TagTable) (q : Place ℕ) → target.found ≡ Some q → HasMount table (mounts_of targets) pid t tags r index OfFound
  found_has t tags q found = record {
    mount = q.mount;
    named = λ s. ap (λ (f : Option PlaceTarget). option_and_then (λ (t : PlaceTarget). option_map (λ (p : Place ℕ). p.mount) t.found) f) first ∙ ap (option_map (λ (p : Place ℕ). p.mount)) found;
    index_is = walked targets target is first ∙ ap (λ o. index_at table (option_map_or (λ (p : Place ℕ). p.mount) o target.dir.mount)) found;
  }

  free_has : (t : State ℕ Image) (tags : TagTable) → target.found ≡ None → HasMount table (mounts_of targets) pid t tags r index OfDirectory
  free_has t tags none = record {
    mount = target.dir.mount;
    named = λ s. ap (option_map (λ (t : PlaceTarget). t.dir.mount)) first;
    index_is = walked targets target is first ∙ ap (λ o. index_at table (option_map_or (λ (p : Place ℕ). p.mount) o target.dir.mount)) none;
  }

module _ (table : List Row) (pid : ℕ) (a t : State ℕ Image) (tags : TagTable) (index : ℕ) (k : Known) (memory : Memory) where
  module _ (dirfd : ℤ) (path : List ℕ) (flags mode : ℕ) where
    abbrev opens : Request
    opens = call.Openat dirfd path flags mode

    abbrev Opens_follow : Mounts ℕ → Seen → Type 0
    Opens_follow mounts seen = Follows table mounts pid t tags opens index (carried_out (opened seen (λ o. openat_row k o flags mode)) memory).reply

    nothing_opened : (mounts : Mounts ℕ) (e : Errno) → Follows table mounts pid t tags opens index (refusal e)
    nothing_opened mounts e = ended (refuse e) (refused table mounts pid t tags opens index refl e) memory

    opening_follows : (mounts : Mounts ℕ) (o : Opening) → HasOpening table mounts pid t tags opens index refl k flags (λ fd. refl) o → Opens_follow mounts (Opens o)
    opening_follows mounts o has = ended (openat_row k o flags mode) (openat_follows table mounts pid t tags opens index refl k flags (λ fd. refl) o mode has) memory

    abbrev Has : Mounts ℕ → Opening → Type 0
    Has mounts o = HasOpening table mounts pid t tags opens index refl k flags (λ fd. refl) o

    openat_noted : IsIndexWalked table pid a opens index → (o : Result Targets Errno) → targets_of table pid a opens ≡ o → Opens_follow (mounts_walked o) (seen_of table pid a opens o)
    openat_noted walked (Err e) is = nothing_opened (mounts_walked (Err e)) e
    openat_noted walked (Ok targets) is = by targets.first refl
      where
        by : (f : Option PlaceTarget) → targets.first ≡ f → Opens_follow (mounts_of targets) (option_map_or (opened_at table pid a flags) f NoPath)
        by None first = nothing_opened (mounts_of targets) ENOENT
        by (Some target) first = by_creates (creates flags)
          where
            by_found : (o : Option (Place ℕ)) → target.found ≡ o → Opens_follow (mounts_of targets) (option_map_or (λ p. Opens (OpensFound (looked_at table pid a target p))) o (WalkFails ENOENT))
            by_found None found = nothing_opened (mounts_of targets) ENOENT
            by_found (Some q) found = opening_follows (mounts_of targets) (OpensFound (looked_at table pid a target q)) (found_has table pid a index opens walked targets is target first t tags q found)

            has_found : (o : Option (Place ℕ)) → target.found ≡ o → Has (mounts_of targets) (option_map_or (λ p. OpensFound (looked_at table pid a target p)) o (OpensNew target.dir.host target.name))
            has_found None found = free_has table pid a index opens walked targets is target first t tags found
            has_found (Some q) found = found_has table pid a index opens walked targets is target first t tags q found

            has_slash : (b : Bool) → Has (mounts_of targets) (cond b OpensSlashed (option_map_or (λ p. OpensFound (looked_at table pid a target p)) target.found (OpensNew target.dir.host target.name)))
            has_slash true = tt
            has_slash false = has_found target.found refl

            has_last : (l : Last) → Has (mounts_of targets) (if_name l (cond target.slash OpensSlashed (option_map_or (λ p. OpensFound (looked_at table pid a target p)) target.found (OpensNew target.dir.host target.name))) (OpensNoName target.last))
            has_last last.Name = has_slash target.slash
            has_last last.Dot = tt
            has_last last.DotDot = tt
            has_last last.Root = tt

            by_creates : (b : Bool) → Opens_follow (mounts_of targets) (cond b (Opens (created_at table pid a target)) (if_found table pid a target (λ l. Opens (OpensFound l))))
            by_creates true = opening_follows (mounts_of targets) (created_at table pid a target) (has_last target.last)
            by_creates false = by_found target.found refl

  module _ (path : List ℕ) where
    abbrev enters : Request
    enters = call.Chdir path

    abbrev Enters_follow : Mounts ℕ → Seen → Type 0
    Enters_follow mounts seen = Follows table mounts pid t tags enters index (carried_out (looked_up seen (λ l. chdir_row k l)) memory).reply

    nothing_entered : (mounts : Mounts ℕ) (e : Errno) → Follows table mounts pid t tags enters index (refusal e)
    nothing_entered mounts e = ended (refuse e) (refused table mounts pid t tags enters index refl e) memory

    chdir_noted : IsIndexWalked table pid a enters index → (o : Result Targets Errno) → targets_of table pid a enters ≡ o → Enters_follow (mounts_walked o) (seen_of table pid a enters o)
    chdir_noted walked (Err e) is = nothing_entered (mounts_walked (Err e)) e
    chdir_noted walked (Ok targets) is = by targets.first refl
      where
        by : (f : Option PlaceTarget) → targets.first ≡ f → Enters_follow (mounts_of targets) (option_map_or (λ target. if_found table pid a target LooksUp) f NoPath)
        by None first = nothing_entered (mounts_of targets) ENOENT
        by (Some target) first = by_found target.found refl
          where
            by_found : (o : Option (Place ℕ)) → target.found ≡ o → Enters_follow (mounts_of targets) (option_map_or (λ p. LooksUp (looked_at table pid a target p)) o (WalkFails ENOENT))
            by_found None found = nothing_entered (mounts_of targets) ENOENT
            by_found (Some q) found =
                ended (chdir_row k (looked_at table pid a target q))
                (chdir_follows table (mounts_of targets) pid t tags enters index refl k (looked_at table pid a target q) refl (found_has table pid a index enters walked targets is target first t tags q found)) memory

-- ---- calls of which nothing is noted

silent : (tags : TagTable) (pid : ℕ) (r : Request) (index : ℕ) (outcome : Outcome) → HasPath r → brings r ≡ false → tags_noted pid r index outcome tags ≡ tags
silent tags pid r index (Answer value) kind other = by r kind other (made_number (cast_signed w64 (cast_unsigned w64 value)))
  where
    by : (r : Request) → HasPath r → brings r ≡ false → (o : Option ℕ) → tags_after tags pid (noted_of r index o) ≡ tags
    by (call.Openat dirfd path flags mode) kind other o = absurd cc
    by (call.Chdir path) kind other o = absurd cc
    by (call.Execve path args env) kind other o = absurd kind
    by (call.Fchdir fd) kind other o = absurd kind
    by (call.Dup fd) kind other o = absurd kind
    by (call.Dup3 old new flags) kind other o = absurd kind
    by (call.Fcntl fd cmd arg) kind other o = absurd kind
    by _ kind other None = refl
    by _ kind other (Some n) = refl
silent tags pid r index Wait kind other = refl
silent tags pid r index Ended kind other = refl
silent tags pid r index NoMemory kind other = refl

pub path_calls_are_noted : PathCallsAreNoted
path_calls_are_noted table made pid s p tags (call.Openat dirfd path flags mode) index c walked =
    let r = call.Openat dirfd path flags mode in
    let a = decoded_in pid p s in
    openat_noted table pid a (written_at table pid s p r) tags index (known image_layout pid a) (memory_of pid a) dirfd path flags mode walked (targets_of table pid a r) refl
path_calls_are_noted table made pid s p tags (call.Chdir path) index c walked =
    let r = call.Chdir path in
    let a = decoded_in pid p s in
    chdir_noted table pid a (written_at table pid s p r) tags index (known image_layout pid a) (memory_of pid a) path walked (targets_of table pid a r) refl
path_calls_are_noted table made pid s p tags r index c walked =
    tags_kept table (mounts_at table pid s p r) pid tags (changes_at table pid s p r) (written_at table pid s p r)
    (uses_kept pid (told_at table pid s p r) (known image_layout pid (decoded_in pid p s)) (memory_of pid (decoded_in pid p s)) r c.kind refl)
    ∙ sym (silent tags pid r index (outcome_at table pid s p r) c.kind refl)
