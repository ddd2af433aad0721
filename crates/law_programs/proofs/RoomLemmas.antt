-- Scripts have room on the shelf.
use Rattle.std.proofs.Common.{◌≡◌, ◌≢◌, ◌≤◌, ◌<◌, ℕ, ◌-◌, ◌*◌, Bool, true, false, cond, nat_lt, List, [], ◌∷◌, ◌++◌, drop, take, length, Option, Result, Ok, Err, refl, sym, ap, ◌∙◌, subst, arith}
use Rattle.std.specs.List.{All}
use Rattle.std.proofs.lemmas.Bool.Decides.{nat_tests}
use Rattle.std.proofs.lemmas.List.{length-append, length-drop, length-take}
use Rattle.std.proofs.Math.Seq.{take-append_seam}
use Rattle.kr_first.specs.pr_base.declared.errno.Errno.{Errno}
use Rattle.kr_first.specs.pr_base.declared.errno.Errno.TheVariants.{E2BIG, EFAULT, ENAMETOOLONG}
use Rattle.kr_first.specs.rv_mem.Actions.{Done, ReadBytes, allows_uses, carried_out}
use Rattle.kr_first.specs.rv_mem.Memory.{Memory}
use Rattle.kr_first.specs.rv_mem.declared.rights.Use.TheVariants.{Read}
use Rattle.law_edits.specs.pt_canon.TextWalk.{TextSurroundings}
use Rattle.law_edits.specs.pt_canon.declared.canon.Canon.{Canon}
use Rattle.kr_first.specs.pr_base.Peeks.{Peeked}
use Rattle.kr_first.proofs.law_allowed.RowLemmas.{read-count}
use Rattle.kr_first.specs.kr_calls.Expansion.{most_scripts}
use Rattle.kr_first.specs.kr_calls.Expansion.{Expanded as Ended}
use Rattle.kr_first.specs.kr_exec.Lists.{next_address}
use Rattle.law_edits.specs.pt_args.Bases.{working_text}
use Rattle.law_edits.specs.pt_args.Laws.{IsPathText}
use Rattle.law_edits.specs.pt_args.Walks.{and_then}
use Rattle.law_edits.specs.pt_args.declared.edit.Edit.{Edit}
use Rattle.law_edits.specs.pt_args.declared.edit.Edit.TheVariants.{Cancel}
use Rattle.law_edits.specs.pt_faker.Reading.{addresses_behind}
use Rattle.law_edits.specs.pt_script.Expanding.{command_of, ends_of, expanded_from, shown, shown_result}
use Rattle.law_edits.specs.pt_script.Programs.{base_from, canon_from, head_size, program_from, program_in, programs}
use Rattle.law_edits.specs.pt_script.declared.expansion.Expanded.{Expanded}
use Rattle.law_edits.specs.pt_script.declared.program.Program.{Program}
use Rattle.law_edits.specs.pt_faker.Stopping.{memory_at, with_memory}
use Rattle.law_edits.specs.pt_tracer.Planning.{after_addresses, led_in, stack_at}
use Rattle.law_edits.specs.pt_tracer.ScriptEdit.{put_texts, script_edit, script_room, shelved_script}
use Rattle.law_programs.proofs.PutLemmas.{IsPut, Texts, all-put, not-too-many}
use Rattle.law_programs.specs.Room.{ScriptTextsArePathTexts, ScriptsAreShelved, ScriptsHaveRoom, ScriptsKeepTheLimits}

ok_same : {A : Type 0} {a b : A} → ◌≡◌ {A = Result A Errno} (Ok a) (Ok b) → a ≡ b
ok_same e = cc

err_ok : {A : Type 0} {e : Errno} {a : A} → ◌≡◌ {A = Result A Errno} (Err e) (Ok a) → ⊥
err_ok e = cc

-- ---- what was found

head-short : (peeked : Peeked) (host : List ℕ) (index : ℕ) (program : Program) → program_in peeked host index ≡ Ok program → length program.head ≤ 256
head-short peeked host index program is = by (peeked.head host head_size) is
  where
    by : (r : Result (List ℕ) Errno) → and_then r (λ head. Ok (let p : Program = record { host = host; index = index; head = take head_size head } in p)) ≡ Ok program → length program.head ≤ 256
    by (Err e) is = absurd (err_ok is)
    by (Ok head) is =
        let size : length program.head ≡ length (take 256 head) = ap (λ (p : Program). length p.head) (sym (ok_same is)) in
        omega (arith, size, length-take 256 head)

module _ (texts : TextSurroundings) (working : Option (List ℕ)) where
  found-short : (path : List ℕ) (program : Program) → program_from texts working path ≡ Ok program → length program.head ≤ 256
  found-short path program is = by (and_then (base_from working path) (canon_from texts path)) is
    where
      by : (r : Result Canon Errno) → and_then r (λ canon. program_in texts.peeked canon.host canon.index) ≡ Ok program → length program.head ≤ 256
      by (Err e) is = absurd (err_ok is)
      by (Ok canon) is = head-short texts.peeked canon.host canon.index program is

  pub shown-put : (env_bytes : ℕ) (path : List ℕ) (args : Texts) (e : Expanded) → IsPathText path → expanded_from texts working env_bytes path args ≡ Ok e → e.scripts ≢ 0 → IsPut env_bytes 5 (drop 1 args) e.args
  shown-put env_bytes path args e path_is is some = by (program_from texts working path) refl is
    where
      ends : (program : Program) → length program.head ≤ 256 → (r : Result (Ended Program) Errno) → ends_of texts working env_bytes most_scripts (command_of path args program) ≡ r → shown_result r ≡ Ok e → IsPut env_bytes 5 (drop 1 args) e.args
      ends program short (Err why) ended is = absurd (err_ok is)
      ends program short (Ok x) ended is =
          let same : shown x ≡ e = ok_same is in
          subst (λ (e : Expanded). IsPut env_bytes 5 (drop 1 args) e.args) same
          (all-put (programs texts working) (λ path program found. found-short path program found) env_bytes (drop 1 args) x program path args short path_is refl ended (λ none. some (ap (λ (e : Expanded). e.scripts) (sym same) ∙ none)))

      by : (r : Result Program Errno) → program_from texts working path ≡ r → and_then r (λ program. shown_result (ends_of texts working env_bytes most_scripts (command_of path args program))) ≡ Ok e → IsPut env_bytes 5 (drop 1 args) e.args
      by (Err why) found is = absurd (err_ok is)
      by (Ok program) found is = ends program (found-short path program found) (ends_of texts working env_bytes most_scripts (command_of path args program)) refl is

-- ---- the texts before the kept ones

module _ (env_bytes n : ℕ) (args all : Texts) (put : IsPut env_bytes n (drop 1 args) all) where
  abbrev Put : Texts
  Put = put.first ∷ put.rest

  long : length all - (length args - 1) ≡ length Put
  long = omega (arith, ap length put.args, length-append Put (drop 1 args), length-drop 1 args)

  put-is : put_texts (length args - 1) all ≡ Put
  put-is = ap (λ k. take k all) long ∙ ap (take (length Put)) put.args ∙ take-append_seam Put (drop 1 args)

  few-kept : length args - 1 ≤ 4095
  few-kept =
      let fits = not-too-many env_bytes all put.fits in
      omega (arith, ap length put.args, length-append Put (drop 1 args), length-drop 1 args, fits)

abbrev Room : List ℕ → List ℕ → Texts → Type 0
Room host addresses texts = script_room host texts addresses < 65536

has-room : (env_bytes : ℕ) (args all : Texts) (host addresses : List ℕ) → IsPut env_bytes 5 (drop 1 args) all → length host ≤ 4095 → length addresses ≡ 8 * (length args - 1) → Room host addresses (put_texts (length args - 1) all)
has-room env_bytes args all host addresses put host_short size =
    let few = put.few in
    let room = put.room in
    let short = put.short in
    subst (Room host addresses) (sym (put-is env_bytes 5 args all put)) (omega (arith, few, room, short, host_short, size, few-kept env_bytes 5 args all put))

pub scripts_have_room : ScriptsHaveRoom
scripts_have_room texts pid env_bytes path args e addresses path_is host_short is some size =
    has-room env_bytes args e.args e.host addresses (shown-put texts (working_text texts pid) env_bytes path args e path_is is some) host_short size

pub script_texts_are_path_texts : ScriptTextsArePathTexts
script_texts_are_path_texts texts pid env_bytes path args e path_is is some =
    let put = shown-put texts (working_text texts pid) env_bytes path args e path_is is some in
    let same = sym (put-is env_bytes 5 args e.args put) in
    (subst (All IsPathText) same put.texts, put.args ∙ ap (λ (texts : Texts). texts ++ drop 1 args) same)

pub scripts_keep_the_limits : ScriptsKeepTheLimits
scripts_keep_the_limits texts pid env_bytes path args e path_is is some = (shown-put texts (working_text texts pid) env_bytes path args e path_is is some).fits

-- ---- the plan

pub addresses-long : (at count : ℕ) (m : Memory) (addresses : List ℕ) → (carried_out (addresses_behind at count) m).reply ≡ Ok addresses → length addresses ≡ 8 * count
addresses-long at count m addresses is = by (allows_uses m.pages (next_address at) (8 * count) (Read ∷ [])) is
  where
    by : (b : Bool) → (carried_out (cond b (ReadBytes (next_address at) (8 * count) (λ bytes. Done (Ok bytes))) (Done (Err EFAULT))) m).reply ≡ Ok addresses → length addresses ≡ 8 * count
    by true is = ap length (sym (ok_same is)) ∙ read-count m.pages (8 * count) (next_address at)
    by false is = absurd (err_ok is)

within : (k most : ℕ) → k ≤ most → nat_lt most k ≡ false
within k most small = grind (arith, nat_tests)

fitting-edit : (sp : ℕ) (host : List ℕ) (texts : Texts) (kept : List ℕ) → length host ≤ 4095 → script_room host texts kept < 65536 → script_edit sp host texts kept ≡ shelved_script sp host texts kept
fitting-edit sp host texts kept short room =
    ap (λ b. cond b (Cancel ENAMETOOLONG) (cond (nat_lt 65536 (script_room host texts kept)) (Cancel E2BIG) (shelved_script sp host texts kept))) (within (length host) 4095 short)
    ∙ ap (λ b. cond b (Cancel E2BIG) (shelved_script sp host texts kept)) (within (script_room host texts kept) 65536 (omega (arith, room)))

pub scripts_are_shelved : ScriptsAreShelved
scripts_are_shelved texts pid env_bytes at path args e t addresses path_is host_short is some read =
    let kept = length args - 1 in
    let done = carried_out (addresses_behind at kept) (memory_at t) in
    ap (λ (r : Result (List ℕ) Errno). (after_addresses t e kept r, with_memory done.memory t)) read
    ∙ ap (λ (edit : Edit). (record { edit = edit; led = led_in e.index }, with_memory done.memory t))
    (fitting-edit (stack_at t) e.host (put_texts kept e.args) addresses host_short
    (scripts_have_room texts pid env_bytes path args e addresses path_is host_short is some (addresses-long at kept (memory_at t) addresses read)))
