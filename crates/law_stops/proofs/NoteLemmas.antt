-- What a tracer notes of calls without a path.
use Rattle.std.proofs.Common.{◌≡◌, ◌≢◌, ◌<◌, ◌^◌, ◌+◌, ℕ, Bool, true, false, cond, List, [], ◌∷◌, Option, Some, None, refl, sym, ap, ◌∙◌, ℤ, pos, negsuc, arith}
use Rattle.std.specs.FinMap as map
use Rattle.std.specs.Prelude.{◌%◌, ◌==◌, length, nat_lt, nat_le, not}
use Rattle.std.specs.Int.{w64}
use Rattle.std.specs.List.{list_all}
use Rattle.std.specs.Option.{option_and_then, option_map, option_map_or}
use Rattle.std.proofs.lemmas.Bool.Decides.{nat_tests}
use Rattle.std.proofs.lemmas.Int.{to_z-of_z}
use Rattle.std.proofs.lemmas.Bool.{and_parts}
use Rattle.law_turns.specs.pr_base.declared.errno.Errno.TheVariants.{EACCES, EAGAIN, EBADF, EINVAL, EMFILE, ENOMEM, ENOTDIR}
use Rattle.law_edits.specs.rv_mem.Actions.{MayUse, allows_uses, carried_out}
use Rattle.law_edits.specs.rv_mem.Memory.{Memory}
use Rattle.law_edits.specs.rv_mem.declared.rights.Use.TheVariants.{Write}
use Rattle.law_edits.specs.pt_bind.Tags.{TagTable, forked, tag_of, with_tag}
use Rattle.law_edits.specs.pt_bind.declared.slot.Slot.TheVariants.{Cwd, Exe, Fd}
use Rattle.law_turns.specs.pt_results.Notes.{copied as noted_copy, copied_from, noted_of, tags_after}
use Rattle.law_turns.specs.pt_results.Numbers.{made_number}
use Rattle.law_edits.specs.kr_tree.declared.place.Place.{Place}
use Rattle.law_edits.specs.kr_files.Descriptors.{lowest_free}
use Rattle.law_edits.specs.kr_files.WithoutMounts.{without_mount}
use Rattle.law_edits.specs.kr_files.declared.opened.Opened.{Opened}
use Rattle.law_edits.proofs.kr_files.DescriptorLemmas.{lowest_free-some}
use Rattle.law_edits.specs.kr_view.View.{Row}
use Rattle.law_turns.specs.kr_calls.Arguments.{has}
use Rattle.law_turns.specs.kr_calls.Kinds.{Kind, CopiesDescriptor, Ends, EntersOpen, Forks, OpensOpen, ReplacesOpen}
use Rattle.law_turns.specs.kr_calls.declared.request.Request.{Request}
use Rattle.law_turns.specs.kr_calls.declared.request.Request.TheVariants as call
use Rattle.law_edits.specs.kr_model.Applied.{Mounts, applied, images, mount_of}
use Rattle.law_edits.specs.kr_model.Asking.{descriptor_number, is_directory_host, is_searched, or_closed}
use Rattle.law_edits.specs.kr_model.Change.{Change, ChangeDirectory, CopyDescriptor, End, Fork, OfDescriptor, OfDirectory, OfFound, OpenFile, ReplaceExecutable, SetAppend, SetCloexec}
use Rattle.law_edits.specs.kr_model.ChangeKinds.{kind as change_kind}
use Rattle.law_edits.specs.kr_model.DescriptorRows.{cloexec_flag, copy_from, copy_to, copy_under, dup3_row, dup_row, fcntl_by, fcntl_row, o_append, o_cloexec, status_flags}
use Rattle.law_edits.specs.kr_model.DirectoryRows.{fchdir_row, if_entered}
use Rattle.law_edits.specs.kr_model.Known.{Known, known}
use Rattle.law_edits.specs.kr_model.Laws.{word_told}
use Rattle.law_edits.specs.kr_model.MemoryRows.{all_pages}
use Rattle.law_edits.specs.kr_model.Operation.{operation}
use Rattle.law_edits.specs.kr_model.ProcessRows.{born, clone_row, is_fork, most_processes, set_tid}
use Rattle.law_edits.specs.kr_model.Reply.{Reply, done, refusal, refuse}
use Rattle.law_edits.specs.kr_model.Seen.{NoPath}
use Rattle.law_edits.specs.kr_model.State.{Image, State, image_layout, opened}
use Rattle.law_edits.specs.kr_model.declared.outcome.Outcome.{Outcome}
use Rattle.law_edits.specs.kr_model.declared.outcome.Outcome.TheVariants.{Answer, Wait, Ended, NoMemory}
use Rattle.law_edits.proofs.kr_model.LineLemmas.{answer_passes, by_answer, ends_as_told}
use Rattle.law_turns.specs.kr_turns.PlainCall.{child_of}
use Rattle.law_turns.specs.law_places.Matching.{AreTagged, index_at}
use Rattle.law_turns.specs.Changing.{all_tags_made}
use Rattle.law_turns.specs.Pathless.{IsPathless}
use Rattle.law_turns.proofs.LineLemmas.{enters_open}
use Rattle.law_turns.proofs.PathlessLemmas.{no_exec}
use Rattle.law_stops.specs.Noting.{NotesFollow, tags_told, told_answer, with_child}

-- ---- changes at which tags don't look, where no mount is named

abbrev keeps_tags : Change → Bool
keeps_tags (CopyDescriptor fd to cloexec) = false
keeps_tags (Fork birth) = false
keeps_tags (End status) = false
keeps_tags (OpenFile fd cloexec (OfDescriptor n) o) = false
keeps_tags (ChangeDirectory (OfDescriptor n) host) = false
keeps_tags (ReplaceExecutable (OfDescriptor n) host dir name) = false
keeps_tags _ = true

abbrev tagged_kind : Kind → Bool
tagged_kind CopiesDescriptor = false
tagged_kind Forks = false
tagged_kind Ends = false
tagged_kind OpensOpen = false
tagged_kind EntersOpen = false
tagged_kind ReplacesOpen = false
tagged_kind _ = true

tagged_change : (c : Change) → tagged_kind (change_kind c) ≡ true → keeps_tags c ≡ true
tagged_change (CopyDescriptor fd to cloexec) keeps = absurd cc
tagged_change (Fork birth) keeps = absurd cc
tagged_change (End status) keeps = absurd cc
tagged_change (OpenFile fd cloexec (OfDescriptor n) o) keeps = absurd cc
tagged_change (ChangeDirectory (OfDescriptor n) host) keeps = absurd cc
tagged_change (ReplaceExecutable (OfDescriptor n) host dir name) keeps = absurd cc
tagged_change _ keeps = refl

-- the calls that hand a descriptor or a copy of their caller on
abbrev hands_on : Request → Bool
hands_on (call.Dup fd) = true
hands_on (call.Dup3 old new flags) = true
hands_on (call.Fcntl fd cmd arg) = true
hands_on (call.Clone flags sp ctid) = true
hands_on _ = false

tagged_answer : (r : Request) → enters_open r ≡ false → hands_on r ≡ false → answer_passes tagged_kind r ≡ true
tagged_answer (call.Fchdir fd) enters hands = absurd cc
tagged_answer (call.Dup fd) enters hands = absurd cc
tagged_answer (call.Dup3 old new flags) enters hands = absurd cc
tagged_answer (call.Fcntl fd cmd arg) enters hands = absurd cc
tagged_answer (call.Clone flags sp ctid) enters hands = absurd cc
tagged_answer _ enters hands = refl

module _ (k : Known) where
  others_keep : (pid : ℕ) (r : Request) (memory : Memory) → enters_open r ≡ false → hands_on r ≡ false → (carried_out (operation pid r NoPath k) memory).reply.outcome ≢ Ended
      → list_all keeps_tags (carried_out (operation pid r NoPath k) memory).reply.changes ≡ true
  others_keep pid r memory enters hands goes = by_answer tagged_kind keeps_tags tagged_change pid r NoPath k memory (tagged_answer r enters hands) goes

-- ---- what is noted of other calls: nothing

notes_nothing : (tags : TagTable) (pid : ℕ) (r : Request) (o : Option ℕ) → IsPathless r → enters_open r ≡ false → hands_on r ≡ false → tags_after tags pid (noted_of r 0 o) ≡ tags
notes_nothing tags pid (call.Openat dirfd path flags mode) o kind enters hands = absurd kind
notes_nothing tags pid (call.Chdir path) o kind enters hands = absurd kind
notes_nothing tags pid (call.Execve path args env) o kind enters hands = absurd kind
notes_nothing tags pid (call.Fchdir fd) o kind enters hands = absurd cc
notes_nothing tags pid (call.Dup fd) o kind enters hands = absurd cc
notes_nothing tags pid (call.Dup3 old new flags) o kind enters hands = absurd cc
notes_nothing tags pid (call.Fcntl fd cmd arg) o kind enters hands = absurd cc
notes_nothing tags pid _ None kind enters hands = refl
notes_nothing tags pid _ (Some n) kind enters hands = refl

makes_no_child : (next : ℕ) (r : Request) (outcome : Outcome) → hands_on r ≡ false → child_of next r outcome ≡ None
makes_no_child next (call.Clone flags sp ctid) outcome hands = absurd cc
makes_no_child next _ outcome hands = refl

-- an answer below 2^32 is the number that it makes
made : (n : ℕ) → n < 2 ^ 32 → made_number (told_answer (pos n)) ≡ Some n
made n small = ap made_number (to_z-of_z w64 (pos n) (omega (arith, small))) ∙ ap (λ b. cond b (Some n) None) is
  where
    is : nat_lt n (2 ^ 32) ≡ true
    is = grind (arith, nat_tests)

module _ (table : List Row) (mounts : Mounts ℕ) (nothing_found : mounts.found ≡ None) (no_directory : mounts.directory ≡ None) (pid : ℕ) (tags : TagTable) where
  one_kept : (c : Change) (s : State ℕ Image) → keeps_tags c ≡ true → all_tags_made table mounts pid s (c ∷ []) tags ≡ tags
  one_kept (CopyDescriptor fd to cloexec) s keeps = absurd cc
  one_kept (Fork birth) s keeps = absurd cc
  one_kept (End status) s keeps = absurd cc
  one_kept (OpenFile fd cloexec (OfDescriptor n) o) s keeps = absurd cc
  one_kept (ChangeDirectory (OfDescriptor n) host) s keeps = absurd cc
  one_kept (ReplaceExecutable (OfDescriptor n) host dir name) s keeps = absurd cc
  one_kept (OpenFile fd cloexec OfFound o) s keeps = ap (λ o. option_map_or (λ m. with_tag tags pid (Fd fd) (index_at table m)) o tags) nothing_found
  one_kept (OpenFile fd cloexec OfDirectory o) s keeps = ap (λ o. option_map_or (λ m. with_tag tags pid (Fd fd) (index_at table m)) o tags) no_directory
  one_kept (ChangeDirectory OfFound host) s keeps = ap (λ o. option_map_or (λ m. with_tag tags pid Cwd (index_at table m)) o tags) nothing_found
  one_kept (ChangeDirectory OfDirectory host) s keeps = ap (λ o. option_map_or (λ m. with_tag tags pid Cwd (index_at table m)) o tags) no_directory
  one_kept (ReplaceExecutable OfFound host dir name) s keeps = ap (λ o. option_map_or (λ m. with_tag tags pid Exe (index_at table m)) o tags) nothing_found
  one_kept (ReplaceExecutable OfDirectory host dir name) s keeps = ap (λ o. option_map_or (λ m. with_tag tags pid Exe (index_at table m)) o tags) no_directory
  one_kept _ s keeps = refl

  all_kept : (cs : List Change) (s : State ℕ Image) → list_all keeps_tags cs ≡ true → all_tags_made table mounts pid s cs tags ≡ tags
  all_kept [] s keeps = refl
  all_kept (c ∷ cs) s keeps =
      let parts = and_parts (keeps_tags c) (list_all keeps_tags cs) keeps in
      ap (all_tags_made table mounts pid (applied images mounts pid c s) cs) (one_kept c s parts.0) ∙ all_kept cs (applied images mounts pid c s) parts.1

  module _ (t : State ℕ Image) (memory : Memory) where
    abbrev k : Known
    k = known image_layout pid t

    abbrev Follows : Request → Reply → Type 0
    Follows r reply = all_tags_made table mounts pid t reply.changes tags ≡ tags_told pid t.next_pid r reply.outcome tags

    -- ---- calls that hand nothing on

    others_follow : (r : Request) → IsPathless r → enters_open r ≡ false → hands_on r ≡ false → Follows r (carried_out (operation pid r NoPath k) memory).reply
    others_follow r kind enters hands = by (carried_out (operation pid r NoPath k) memory).reply refl (others_keep k pid r memory enters hands) (ends_as_told pid r NoPath k memory (no_exec r kind))
      where
        by : (reply : Reply) → (carried_out (operation pid r NoPath k) memory).reply ≡ reply → ((carried_out (operation pid r NoPath k) memory).reply.outcome ≢ Ended → list_all keeps_tags (carried_out (operation pid r NoPath k) memory).reply.changes ≡ true)
            → ((carried_out (operation pid r NoPath k) memory).reply.outcome ≡ Ended → (carried_out (operation pid r NoPath k) memory).reply.changes ≡ End (word_told r) ∷ []) → Follows r reply
        by reply is goes ends = by_outcome reply.outcome refl
          where
            kept : reply.outcome ≢ Ended → all_tags_made table mounts pid t reply.changes tags ≡ tags
            kept other = all_kept reply.changes t (sym (ap (λ (x : Reply). list_all keeps_tags x.changes) is) ∙ goes (λ e. other (sym (ap (λ (x : Reply). x.outcome) is) ∙ e)))

            by_outcome : (outcome : Outcome) → reply.outcome ≡ outcome → all_tags_made table mounts pid t reply.changes tags ≡ tags_told pid t.next_pid r outcome tags
            by_outcome (Answer value) e =
                kept (λ o. absurd (differ (sym e ∙ o)))
                ∙ sym (notes_nothing (with_child pid (child_of t.next_pid r (Answer value)) tags) pid r (made_number (told_answer value)) kind enters hands
                ∙ ap (λ child. with_child pid child tags) (makes_no_child t.next_pid r (Answer value) hands))
              where
                differ : Answer value ≡ Ended → ⊥
                differ e = cc
            by_outcome Wait e = kept (λ o. absurd (differ (sym e ∙ o)))
              where
                differ : Wait ≡ Ended → ⊥
                differ e = cc
            by_outcome NoMemory e = kept (λ o. absurd (differ (sym e ∙ o)))
              where
                differ : NoMemory ≡ Ended → ⊥
                differ e = cc
            by_outcome Ended e = ap (λ cs. all_tags_made table mounts pid t cs tags) (sym (ap (λ (x : Reply). x.changes) is) ∙ ends (ap (λ (x : Reply). x.outcome) is ∙ e))

    -- ---- copies of descriptors

    -- of one that is noted as such
    copied : (r : Request) (n to : ℕ) (cloexec : Bool) → to < 2 ^ 32 → tags_told pid t.next_pid r (Answer (pos to)) tags ≡ with_tag tags pid (Fd to) (tag_of tags pid (Fd n)) → Follows r (carried_out (done to (CopyDescriptor n to cloexec ∷ [])) memory).reply
    copied r n to cloexec small told = sym told

    under : (r : Request) (n from : ℕ) (cloexec : Bool) → ((to : ℕ) → to < 2 ^ 32 → tags_told pid t.next_pid r (Answer (pos to)) tags ≡ with_tag tags pid (Fd to) (tag_of tags pid (Fd n))) → tags_told pid t.next_pid r (refusal EMFILE).outcome tags ≡ tags
        → Follows r (carried_out (copy_under n cloexec (lowest_free k.caller.descs from)) memory).reply
    under r n from cloexec told refuses = by (lowest_free k.caller.descs from) refl
      where
        by : (o : Option ℕ) → lowest_free k.caller.descs from ≡ o → Follows r (carried_out (copy_under n cloexec o) memory).reply
        by None none = sym refuses
        by (Some to) some = copied r n to cloexec (let free = (lowest_free-some k.caller.descs from to some).below in omega (arith, free)) (told to (let free = (lowest_free-some k.caller.descs from to some).below in omega (arith, free)))

    dup_follows : (fd : ℤ) → Follows (call.Dup fd) (carried_out (dup_row k fd) memory).reply
    dup_follows (negsuc m) = refl
    dup_follows (pos n) = by (k.opened n)
      where
        by : (o : Option (Opened (Unit {0}))) → Follows (call.Dup (pos n)) (carried_out (or_closed o (λ o. copy_under n false (lowest_free k.caller.descs 0))) memory).reply
        by None = refl
        by (Some o) = under (call.Dup (pos n)) n 0 false (λ to small. ap (λ o. tags_after tags pid (noted_of (call.Dup (pos n)) 0 o)) (made to small)) refl

    dup3_follows : (old new : ℤ) (flags : ℕ) → Follows (call.Dup3 old new flags) (carried_out (dup3_row k old new flags) memory).reply
    dup3_follows (negsuc m) new flags = refl
    dup3_follows (pos n) new flags = by (k.opened n)
      where
        to_number : (o : Option ℕ) → Follows (call.Dup3 (pos n) new flags) (carried_out (copy_to n (has flags o_cloexec) o) memory).reply
        to_number None = refl
        to_number (Some to) = below (nat_lt to 1024) refl
          where
            below : (b : Bool) → nat_lt to 1024 ≡ b → Follows (call.Dup3 (pos n) new flags) (carried_out (cond b (done to (CopyDescriptor n to (has flags o_cloexec) ∷ [])) (refuse EBADF)) memory).reply
            below false high = refl
            below true low =
                let small : to < 2 ^ 32 = (let l : to < 1024 = grind (arith, nat_tests) in omega (arith, l)) in
                copied (call.Dup3 (pos n) new flags) n to (has flags o_cloexec) small (ap (λ o. tags_after tags pid (noted_of (call.Dup3 (pos n) new flags) 0 o)) (made to small))

        by : (o : Option (Opened (Unit {0}))) → Follows (call.Dup3 (pos n) new flags) (carried_out (or_closed o (λ o. copy_to n (has flags o_cloexec) (descriptor_number new))) memory).reply
        by None = refl
        by (Some o) = to_number (descriptor_number new)

    -- fcntl(2) copies by two of its commands
    module _ (n arg : ℕ) (o : Opened (Unit {0})) where
      from_follows : (c : ℕ) (cloexec : Bool) → ((to : ℕ) → to < 2 ^ 32 → tags_told pid t.next_pid (call.Fcntl (pos n) (pos c) arg) (Answer (pos to)) tags ≡ with_tag tags pid (Fd to) (tag_of tags pid (Fd n)))
          → Follows (call.Fcntl (pos n) (pos c) arg) (carried_out (copy_from k n arg cloexec) memory).reply
      from_follows c cloexec told = by (nat_lt 1023 arg)
        where
          by : (b : Bool) → Follows (call.Fcntl (pos n) (pos c) arg) (carried_out (cond b (refuse EINVAL) (copy_under n cloexec (lowest_free k.caller.descs arg))) memory).reply
          by true = refl
          by false = under (call.Fcntl (pos n) (pos c) arg) n arg cloexec told refl

      command_follows : (c : ℕ) → Follows (call.Fcntl (pos n) (pos c) arg) (carried_out (fcntl_by k c arg n o) memory).reply
      command_follows c = by (c == 0) refl (c == 1030) refl
        where
          r : Request
          r = call.Fcntl (pos n) (pos c) arg

          -- by the two tests
          noted_by : (first second : Bool) (number : ℕ) → TagTable
          noted_by first second number = tags_after tags pid (cond first (noted_copy (pos n) (Fd number)) (cond second (noted_copy (pos n) (Fd number)) (copied_from None (Fd number))))

          silent : (number : Option ℕ) → (c == 0) ≡ false → (c == 1030) ≡ false → tags_after tags pid (noted_of r 0 number) ≡ tags
          silent None first second = refl
          silent (Some number) first second = ap (λ b. noted_by b (c == 1030) number) first ∙ ap (λ b. noted_by false b number) second

          others : (a b d e : Bool) → (c == 0) ≡ false → (c == 1030) ≡ false → Follows r (carried_out (cond a (done (cloexec_flag k n) []) (cond b (done 0 (SetCloexec n (arg % 2 == 1) ∷ [])) (cond d (done (status_flags o) []) (cond e (done 0 (SetAppend n (has arg o_append) ∷ [])) (refuse EINVAL))))) memory).reply
          others true b d e first second = sym (silent (made_number (told_answer (pos (cloexec_flag k n)))) first second)
          others false true d e first second = sym (silent (made_number (told_answer (pos 0))) first second)
          others false false true e first second = sym (silent (made_number (told_answer (pos (status_flags o)))) first second)
          others false false false true first second = sym (silent (made_number (told_answer (pos 0))) first second)
          others false false false false first second = refl

          by : (first : Bool) → (c == 0) ≡ first → (second : Bool) → (c == 1030) ≡ second
              → Follows r (carried_out (cond first (copy_from k n arg false) (cond second (copy_from k n arg true) (cond (c == 1) (done (cloexec_flag k n) []) (cond (c == 2) (done 0 (SetCloexec n (arg % 2 == 1) ∷ [])) (cond (c == 3) (done (status_flags o) []) (cond (c == 4) (done 0 (SetAppend n (has arg o_append) ∷ [])) (refuse EINVAL))))))) memory).reply
          by true is second also = from_follows c false (λ to small. ap (λ o. tags_after tags pid (noted_of r 0 o)) (made to small) ∙ ap (λ b. noted_by b (c == 1030) to) is)
          by false is true also = from_follows c true (λ to small. ap (λ o. tags_after tags pid (noted_of r 0 o)) (made to small) ∙ ap (λ b. noted_by b (c == 1030) to) is ∙ ap (λ b. noted_by false b to) also)
          by false is false also = others (c == 1) (c == 2) (c == 3) (c == 4) is also

    fcntl_follows : (fd cmd : ℤ) (arg : ℕ) → Follows (call.Fcntl fd cmd arg) (carried_out (fcntl_row k fd cmd arg) memory).reply
    fcntl_follows (negsuc m) cmd arg = refl
    fcntl_follows (pos n) cmd arg = by (k.opened n)
      where
        by_command : (o : Opened (Unit {0})) (cmd : ℤ) → Follows (call.Fcntl (pos n) cmd arg) (carried_out (option_map_or (λ c. fcntl_by k c arg n o) (descriptor_number cmd) (refuse EINVAL)) memory).reply
        by_command o (negsuc m) = refl
        by_command o (pos c) = command_follows n arg o c

        by : (o : Option (Opened (Unit {0}))) → Follows (call.Fcntl (pos n) cmd arg) (carried_out (or_closed o (λ o. option_map_or (λ c. fcntl_by k c arg n o) (descriptor_number cmd) (refuse EINVAL))) memory).reply
        by None = refl
        by (Some o) = by_command o cmd

    -- ---- a child

    clone_follows : (flags sp ctid : ℕ) → Follows (call.Clone flags sp ctid) (carried_out (clone_row k flags sp ctid) memory).reply
    clone_follows flags sp ctid =
        by (not (is_fork flags)) (nat_le most_processes (length k.living + length k.ended)) (nat_lt all_pages (k.pages + map.len k.caller.layout)) (has flags set_tid) (allows_uses memory.pages ctid 4 (Write ∷ []))
      where
        r : Request
        r = call.Clone flags sp ctid

        silent : (number : Option ℕ) → tags_after (forked tags pid t.next_pid) pid (noted_of r 0 number) ≡ forked tags pid t.next_pid
        silent None = refl
        silent (Some number) = refl

        born_follows : (at : Option ℕ) → Follows r (carried_out (born k sp at) memory).reply
        born_follows at = sym (silent (made_number (told_answer (pos t.next_pid))))

        by : (first second third fourth fifth : Bool)
            → Follows r (carried_out (cond first (refuse EINVAL) (cond second (refuse EAGAIN) (cond third (refuse ENOMEM) (cond fourth (MayUse ctid 4 (Write ∷ []) (λ allowed. born k sp (cond allowed (Some ctid) None))) (born k sp None))))) memory).reply
        by true second third fourth fifth = refl
        by false true third fourth fifth = refl
        by false false true fourth fifth = refl
        by false false false true fifth = born_follows (cond (allows_uses memory.pages ctid 4 (Write ∷ [])) (Some ctid) None)
        by false false false false fifth = born_follows None

    -- ---- a directory that is entered by a descriptor

    module _ (tagged : AreTagged table t tags) where
      module _ (n : ℕ) (o : Opened ℕ) (p : Place ℕ) (there : opened pid n t ≡ Some o) (placed : o.place ≡ Some p) where
        entered : Follows (call.Fchdir (pos n)) (carried_out (done 0 (ChangeDirectory (OfDescriptor n) p.host ∷ [])) memory).reply
        entered =
            let mount : mount_of mounts pid t (OfDescriptor n) ≡ Some p.mount =
            ap (λ q. option_map (λ (p : Place ℕ). p.mount) (option_and_then (λ (o : Opened ℕ). o.place) q)) there ∙ ap (option_map (λ (p : Place ℕ). p.mount)) placed in
            ap (λ q. option_map_or (λ m. with_tag tags pid Cwd (index_at table m)) q tags) mount
            ∙ ap (with_tag tags pid Cwd) (sym (tagged.open_files pid n o p there placed))
            ∙ sym (ap (λ number. tags_after tags pid (noted_of (call.Fchdir (pos n)) 0 number)) (made 0 (omega arith)))

        tried : Follows (call.Fchdir (pos n)) (carried_out (if_entered k p.host (done 0 (ChangeDirectory (OfDescriptor n) p.host ∷ []))) memory).reply
        tried = by (not (is_directory_host k p.host)) (not (is_searched k p.host))
          where
            by : (first second : Bool) → Follows (call.Fchdir (pos n)) (carried_out (cond first (refuse ENOTDIR) (cond second (refuse EACCES) (done 0 (ChangeDirectory (OfDescriptor n) p.host ∷ [])))) memory).reply
            by true second = refl
            by false true = refl
            by false false = entered

      fchdir_follows : (fd : ℤ) → Follows (call.Fchdir fd) (carried_out (fchdir_row k fd) memory).reply
      fchdir_follows (negsuc m) = refl
      fchdir_follows (pos n) = by (opened pid n t) refl
        where
          to_place : (o : Opened ℕ) → opened pid n t ≡ Some o → (q : Option (Place ℕ)) → o.place ≡ q
              → Follows (call.Fchdir (pos n)) (carried_out (option_map_or (λ (p : Place (Unit {0})). if_entered k p.host (done 0 (ChangeDirectory (OfDescriptor n) p.host ∷ []))) (option_map (λ (p : Place ℕ). record { mount = tt; host = p.host }) q) (refuse ENOTDIR)) memory).reply
          to_place o e None placed = refl
          to_place o e (Some p) placed = tried n o p e placed

          by : (q : Option (Opened ℕ)) → opened pid n t ≡ q
              → Follows (call.Fchdir (pos n)) (carried_out (or_closed (option_map without_mount q) (λ o. option_map_or (λ (p : Place (Unit {0})). if_entered k p.host (done 0 (ChangeDirectory (OfDescriptor n) p.host ∷ []))) o.place (refuse ENOTDIR))) memory).reply
          by None e = refl
          by (Some o) e = to_place o e o.place refl

      -- ---- all of them

      notes_follow_here : (r : Request) → IsPathless r → Follows r (carried_out (operation pid r NoPath k) memory).reply
      notes_follow_here (call.Dup fd) kind = dup_follows fd
      notes_follow_here (call.Dup3 old new flags) kind = dup3_follows old new flags
      notes_follow_here (call.Fcntl fd cmd arg) kind = fcntl_follows fd cmd arg
      notes_follow_here (call.Clone flags sp ctid) kind = clone_follows flags sp ctid
      notes_follow_here (call.Fchdir fd) kind = fchdir_follows fd
      notes_follow_here r kind = others_follow r kind refl refl

pub notes_follow : NotesFollow
notes_follow table mounts pid t tags r memory kind nothing_found no_directory tagged = notes_follow_here table mounts nothing_found no_directory pid tags t memory tagged r kind
