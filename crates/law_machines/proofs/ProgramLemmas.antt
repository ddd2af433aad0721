-- What a tracer shows of the program that execve(2) runs in the end is bytes, and so is what it reads for that.
use Rattle.std.proofs.Common.{◌≡◌, ℕ, zero, suc, ◌+◌, ◌-◌, ◌<◌, List, [], ◌∷◌, ◌++◌, cond, length, nat_eq, take, arith, refl, Option, Some, None}
use Rattle.std.specs.Prelude.{Err, IfOk, IfSome, Ok, Result, nat_lt}
use Rattle.std.specs.Int.{to_le_bytes, w64}
use Rattle.pr_top.specs.pr_base.Paths.{is_absolute, slash}
use Rattle.pr_top.specs.pr_base.declared.errno.Errno.{Errno}
use Rattle.pr_top.specs.pr_base.declared.errno.Errno.TheVariants.{E2BIG, ELOOP, ENAMETOOLONG}
use Rattle.pr_top.specs.pr_base.declared.path.WalkMode.TheVariants.{Look}
use Rattle.law_starts.specs.rv_mem.Actions.{Done}
use Rattle.law_starts.specs.kr_calls.Expansion.{Expanded as Ended, Onward, bytes_with_ends, by_interpreter, by_line, expanded, is_script, is_too_big, most_scripts, new_args, runs}
use Rattle.law_starts.specs.kr_calls.Scripts.{script_of}
use Rattle.law_starts.specs.kr_exec.Lists as lists
use Rattle.law_starts.specs.kr_exec.Lists.{Trying, address_at, at_least_one, if_it_fits, most_bytes, most_texts, next_address}
use Rattle.pr_top.specs.kr_tree.Lawful.{AreBytes}
use Rattle.law_starts.proofs.law_allowed.PieceLemmas.{all-append}
use Rattle.law_starts.specs.pt_bind.Binding.{names_of}
use Rattle.law_starts.specs.pt_canon.TextWalk.{TextSurroundings}
use Rattle.law_starts.specs.pt_args.Shelving.{address_below, with_item, with_zero}
use Rattle.law_starts.specs.pt_args.Walks.{and_then}
use Rattle.law_starts.specs.pt_args.declared.edit.Edit.TheVariants.{Cancel}
use Rattle.law_starts.specs.pt_args.declared.shelf.Shelf.{Shelf}
use Rattle.law_starts.specs.pt_script.Expanding.{command_of, ends_of, expanded_from, shown_result}
use Rattle.law_starts.specs.pt_script.Programs.{base_from, canon_from, head_size, or_lost, program_from, program_in, programs}
use Rattle.law_starts.specs.pt_script.declared.expansion.Expanded.{Expanded}
use Rattle.law_starts.specs.pt_script.declared.program.Program.{Program}
use Rattle.law_starts.specs.pt_faker.Reading.{addresses_behind, byte_at, env_at, list_at, lists_at, next_byte, text_at, text_from, text_within, texts_from}
use Rattle.law_starts.specs.pt_faker.declared.lists.Handed.{Handed}
use Rattle.law_starts.specs.pt_tracer.ScriptEdit.{addresses_of, empty_shelf, list_item, put_texts, script_edit, script_room, shelved_script, with_texts}
use Rattle.law_starts.specs.law_kept.Bytes.{AreAllBytes}
use Rattle.law_starts.proofs.law_kept.ActionLemmas.{either_way, read, tested, told}
use Rattle.law_starts.proofs.law_kept.ExecutionLemmas.{Any, Gives, address-gives, first-byte, fitting-gives, gives-then, one-at-least}
use Rattle.law_starts.proofs.law_kept.ListLemmas.{all-take, first-of, joined, word-bytes}
use Rattle.law_starts.proofs.law_kept.NameLemmas.{names-joined}
use Rattle.law_starts.proofs.law_kept.ScriptLemmas.{IsByteLine, line-bytes, new-args-bytes}
use Rattle.law_machines.proofs.LookLemmas.{AreOfBytes}
use Rattle.law_machines.proofs.PlanLemmas.{EditsByBytes, PutsAllBytes, either-edit, either-ok, then-gives, zero-behind}
use Rattle.law_machines.proofs.TextLemmas.{names-bytes}
use Rattle.law_machines.proofs.WalkLemmas.{CanonHasBytes, canons-have-bytes}

-- ---- programs

record ProgramHasBytes (p : Program) : Type 0 where
  host : AreBytes p.host
  head : AreBytes p.head

-- what runs in the end
record EndsInBytes (x : Ended Program) : Type 0 where
  file : ProgramHasBytes x.file
  args : AreAllBytes x.args

pub record ShowsBytes (x : Expanded) : Type 0 where
  pub host : AreBytes x.host
  pub args : AreAllBytes x.args

module _ (texts : TextSurroundings) (of_bytes : AreOfBytes texts) (working : Option (List ℕ)) (own : IfSome working AreBytes) where
  base-bytes : (path : List ℕ) → IfOk (base_from working path) AreBytes
  base-bytes path = either-ok AreBytes (is_absolute path) (Ok (slash ∷ [])) (or_lost working) (omega arith, tt) (by working own)
    where
      by : (o : Option (List ℕ)) → IfSome o AreBytes → IfOk (or_lost o) AreBytes
      by (Some text) are = are
      by None are = tt

  program-at : (host : List ℕ) (index : ℕ) → AreBytes host → IfOk (program_in texts.peeked host index) ProgramHasBytes
  program-at host index are =
      then-gives AreBytes ProgramHasBytes (λ head. Ok (record { host = host; index = index; head = take head_size head })) (texts.peeked.head host head_size) (of_bytes.tells.head host head_size)
      (λ head own. record { host = are; head = first-of head_size head own })

  program-bytes : (path : List ℕ) → AreBytes path → IfOk (program_from texts working path) ProgramHasBytes
  program-bytes path are =
      then-gives CanonHasBytes ProgramHasBytes (λ canon. program_in texts.peeked canon.host canon.index) (and_then (base_from working path) (canon_from texts path))
      (then-gives AreBytes CanonHasBytes (canon_from texts path) (base_from working path) (base-bytes path) (λ base own. canons-have-bytes texts of_bytes Look (names_of base) path (names-bytes base own) are))
      (λ canon has. program-at canon.host canon.index has.host)

  -- ---- scripts

  abbrev GoesOn : Onward Program → Type 0
  GoesOn again = (p : Program) (path : List ℕ) (args : List (List ℕ)) → ProgramHasBytes p → AreBytes path → AreAllBytes args → IfOk (again p path args) EndsInBytes

  module _ (env_bytes : ℕ) where
    interpreted-bytes : (again : Onward Program) → GoesOn again → (path : List ℕ) (args : List (List ℕ)) (r : Result Program Errno) → IfOk r ProgramHasBytes → AreBytes path → AreAllBytes args
        → IfOk (by_interpreter again env_bytes path args r) EndsInBytes
    interpreted-bytes again goes path args (Err e) is path_are are = tt
    interpreted-bytes again goes path args (Ok p) is path_are are = either-ok EndsInBytes (is_too_big env_bytes args) (Err E2BIG) (again p path args) tt (goes p path args is path_are are)

    by-line : (again : Onward Program) → GoesOn again → (path : List ℕ) (args : List (List ℕ)) (o : Option (List ℕ × List ℕ)) → ((line : List ℕ × List ℕ) → o ≡ Some line → IsByteLine line) → AreBytes path → AreAllBytes args
        → IfOk (by_line (programs texts working) again env_bytes path args o) EndsInBytes
    by-line again goes path args None lines path_are are = tt
    by-line again goes path args (Some line) lines path_are are =
        let is = lines line refl in
        interpreted-bytes again goes line.0 (new_args line.0 line.1 path args) (program_from texts working line.0) (program-bytes line.0 is.0) is.0 (new-args-bytes line path args is path_are are)

    ends-in-bytes : (left : ℕ) → GoesOn (expanded (programs texts working) env_bytes left)
    unfolding expanded
    ends-in-bytes zero p path args has path_are are = either-ok EndsInBytes (is_script p.head) (Err ELOOP) (runs zero p args) tt (record { file = has; args = are })
    ends-in-bytes (suc left) p path args has path_are are =
        either-ok EndsInBytes (is_script p.head) (by_line (programs texts working) (expanded (programs texts working) env_bytes left) env_bytes path args (script_of p.head)) (runs (suc left) p args)
        (by-line (expanded (programs texts working) env_bytes left) (ends-in-bytes left) path args (script_of p.head) (λ line is. line-bytes p.head line has.head is) path_are are) (record { file = has; args = are })

    pub expansions-show-bytes : (path : List ℕ) (args : List (List ℕ)) → AreBytes path → AreAllBytes args → IfOk (expanded_from texts working env_bytes path args) ShowsBytes
    expansions-show-bytes path args path_are are =
        then-gives ProgramHasBytes ShowsBytes (λ program. shown_result (ends_of texts working env_bytes most_scripts (command_of path args program))) (program_from texts working path) (program-bytes path path_are)
        (λ program has. by (expanded (programs texts working) env_bytes most_scripts program path args) (ends-in-bytes most_scripts program path args has path_are are))
      where
        by : (r : Result (Ended Program) Errno) → IfOk r EndsInBytes → IfOk (shown_result r) ShowsBytes
        by (Ok x) is = record { host = is.file.host; args = is.args }
        by (Err e) is = tt

-- ---- lists that are read

abbrev IsByte : ℕ → Type 0
IsByte b = b < 256

byte-gives : (at : ℕ) → Gives IsByte (byte_at at)
byte-gives at = tested (λ b. either_way b (read (λ bytes are. told (first-byte bytes are))) (told tt))

text-gives : (most at : ℕ) (before : List ℕ) → AreBytes before → Gives AreBytes (text_from most at before)
unfolding text_from
text-gives zero at before are = told tt
text-gives (suc most) at before are =
    gives-then IsByte AreBytes (λ b. cond (nat_eq b 0) (Done (Ok before)) (text_from most (next_byte at) (before ++ b ∷ []))) (byte_at at) (byte-gives at) (λ b small. either_way (nat_eq b 0) (told are) (text-gives most (next_byte at) (before ++ b ∷ []) (joined before (b ∷ []) are (small, tt))))

within-gives : (room at : ℕ) → Gives AreBytes (text_within room at)
within-gives room at = gives-then AreBytes AreBytes (if_it_fits room) (text_at at) (text-gives most_bytes at [] tt) (λ text are. fitting-gives room text are)

texts-give : (left at room : ℕ) (before : List (List ℕ)) → AreAllBytes before → Gives AreAllBytes (texts_from left at room before)
unfolding texts_from
texts-give zero at room before are = gives-then Any AreAllBytes (λ address. cond (nat_eq address 0) (Done (Ok before)) (Done (Err E2BIG))) (address_at at) (address-gives at) (λ address own. either_way (nat_eq address 0) (told are) (told tt))
texts-give (suc left) at room before are =
    let next : List ℕ → Trying (List (List ℕ)) = λ text. texts_from left (next_address at) (room - (length text + 1)) (before ++ text ∷ []) in
    gives-then Any AreAllBytes (λ address. cond (nat_eq address 0) (Done (Ok before)) (lists.and_then (text_within room address) next)) (address_at at) (address-gives at) (λ address own.
    either_way (nat_eq address 0) (told are) (gives-then AreBytes AreAllBytes next (text_within room address) (within-gives room address) (λ text new.
    texts-give left (next_address at) (room - (length text + 1)) (before ++ text ∷ []) (names-joined before (text ∷ []) are (new, tt)))))

list-gives : (at room : ℕ) → Gives AreAllBytes (list_at at room)
list-gives at room = either_way (nat_eq at 0) (told tt) (texts-give most_texts at room [] tt)

abbrev pub HandsBytes : Handed → Type 0
HandsBytes handed = AreAllBytes handed.args

env-gives : (env : ℕ) (args : List (List ℕ)) → AreAllBytes args → Gives HandsBytes (env_at env args)
env-gives env args are = gives-then AreAllBytes HandsBytes (λ texts. Done (Ok (record { args = args; env_bytes = bytes_with_ends texts }))) (list_at env (most_bytes - bytes_with_ends args)) (list-gives env (most_bytes - bytes_with_ends args)) (λ texts own. told are)

pub lists-give : (args env : ℕ) → Gives HandsBytes (lists_at args env)
lists-give args env = gives-then AreAllBytes HandsBytes (λ texts. env_at env (at_least_one texts)) (list_at args most_bytes) (list-gives args most_bytes) (λ texts are. env-gives env (at_least_one texts) (one-at-least texts are))

pub addresses-give : (at count : ℕ) → Gives AreBytes (addresses_behind at count)
addresses-give at count = tested (λ b. either_way b (read (λ bytes are. told are)) (told tt))

-- ---- what is put on the shelf of a script

item-put : (shelf : Shelf) (item : List ℕ) → PutsAllBytes shelf.items → AreBytes item → PutsAllBytes (with_item shelf item).items
item-put shelf item own are = all-append (λ (p : ℕ × List ℕ). AreBytes p.1) shelf.items ((address_below shelf.top (length item), item) ∷ []) own (are, tt)

texts-put : (texts : List (List ℕ)) (shelf : Shelf) → PutsAllBytes shelf.items → AreAllBytes texts → PutsAllBytes (with_texts shelf texts).items
texts-put [] shelf own are = own
texts-put (text ∷ texts) shelf own are = texts-put texts (with_item shelf (with_zero text)) (item-put shelf (with_zero text) own (zero-behind text are.0)) are.1

addresses-bytes : (texts : List (List ℕ)) (top : ℕ) → AreBytes (addresses_of top texts)
addresses-bytes [] top = tt
addresses-bytes (text ∷ texts) top =
    let at : ℕ = address_below top (length (with_zero text)) in
    joined (to_le_bytes w64 at) (addresses_of at texts) (word-bytes w64 at) (addresses-bytes texts at)

list-bytes : (top : ℕ) (texts : List (List ℕ)) (kept : List ℕ) → AreBytes kept → AreBytes (list_item top texts kept)
list-bytes top texts kept are = joined (addresses_of top texts ++ kept) (to_le_bytes w64 0) (joined (addresses_of top texts) kept (addresses-bytes texts top) are) (word-bytes w64 0)

shelved-script-bytes : (sp : ℕ) (host : List ℕ) (texts : List (List ℕ)) (kept : List ℕ) → AreBytes host → AreAllBytes texts → AreBytes kept → EditsByBytes (shelved_script sp host texts kept)
shelved-script-bytes sp host texts kept host_are are kept_are =
    let first : Shelf = with_item (empty_shelf sp) (with_zero host) in
    item-put (with_texts first texts) (list_item first.top texts kept) (texts-put texts first (item-put (empty_shelf sp) (with_zero host) tt (zero-behind host host_are)) are) (list-bytes first.top texts kept kept_are)

pub scripts-are-bytes : (sp : ℕ) (host : List ℕ) (texts : List (List ℕ)) (kept : List ℕ) → AreBytes host → AreAllBytes texts → AreBytes kept → EditsByBytes (script_edit sp host texts kept)
scripts-are-bytes sp host texts kept host_are are kept_are =
    either-edit (nat_lt 4095 (length host)) (Cancel ENAMETOOLONG) (cond (nat_lt 65536 (script_room host texts kept)) (Cancel E2BIG) (shelved_script sp host texts kept)) tt
    (either-edit (nat_lt 65536 (script_room host texts kept)) (Cancel E2BIG) (shelved_script sp host texts kept) tt (shelved-script-bytes sp host texts kept host_are are kept_are))

pub kept-texts : (kept : ℕ) (args : List (List ℕ)) → AreAllBytes args → AreAllBytes (put_texts kept args)
kept-texts kept args are = all-take AreBytes (length args - kept) args are
