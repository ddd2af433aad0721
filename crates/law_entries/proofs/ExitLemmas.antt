-- A second stop without an identity goes by what is kept of its process, by its tags and by what it computes on.
use Rattle.std.specs.FinMap as map
use Rattle.std.proofs.Common.{◌≡◌, ◌≢◌, inl, inr, ℕ, Bool, true, false, ◌&&◌, cond, Option, Some, None, ℤ, pos, negsuc, get_or, refl, sym, ap, subst, ◌∙◌}
use Rattle.std.specs.Prelude.{◌==◌, is_none, slice_set}
use Rattle.std.specs.Int.{cast_signed, w64}
use Rattle.std.specs.Option.{option_map_or, unwrap_or}
use Rattle.std.proofs.lemmas.Bool.{cases_eq}
use Rattle.pt_tracer.proofs.pr_base.MapLemmas.{get-insert_other, get-insert_same}
use Rattle.pt_tracer.specs.pt_bind.Tags.{TagTable, Tagged, tag_at, tag_of, tags_of, untagged, with_slot, with_tag}
use Rattle.pt_tracer.specs.pt_bind.declared.slot.Slot.{Slot}
use Rattle.pt_tracer.specs.pt_bind.declared.slot.Slot.TheVariants.{Cwd, Exe, Fd}
use Rattle.pt_tracer.specs.pt_results.kr_calls.declared.request.Request.{Request}
use Rattle.pt_tracer.specs.pt_results.kr_calls.declared.request.Request.TheVariants as call
use Rattle.pt_tracer.specs.pt_args.Bases.{descriptor_number}
use Rattle.pt_tracer.specs.pt_results.Notes.{copied, copied_from, duplicated, noted, noted_of, tags_after}
use Rattle.pt_tracer.specs.pt_results.Numbers.{made_number}
use Rattle.pt_tracer.specs.pt_faker.Faking.{word_of}
use Rattle.pt_tracer.specs.pt_faker.Stopping.{register_at, with_register}
use Rattle.pt_tracer.specs.pt_ident.IdentityTable.{IdentityTable}
use Rattle.pt_tracer.specs.Registers.{given_back}
use Rattle.pt_tracer.specs.Watched.{Tracing, after_pending, answer_at, begin_as, begin_program, exited, give_back, has_begun, if_answered, is_execve, remembered_in, returned, shown_to, with_identities, with_tags, without_pending}
use Rattle.pt_tracer.specs.declared.pending.Pending.{Pending}
use Rattle.pt_tracer.specs.declared.registers.Arguments.{Arguments}
use Rattle.kr_loose.specs.kr_model.State.{Image, Process, process}
use Rattle.kr_loose.specs.kr_stops.Stopped.{Stopped, image_at, no_image}
use Rattle.law_entries.specs.Lasting.{ExitsGoByOwn, GoesBySame, SameTags}
use Rattle.law_entries.proofs.StayLemmas.{image-computed, image_of}

-- ---- registers

abbrev pub set_in : ℕ → ℕ → Image → Image
set_in k v image = record { regs = record { x = slice_set image.regs.x k v; pc = image.regs.pc }; memory = image.memory }

-- of one that doesn't live there are none, which stay none
pub image-register : (k v : ℕ) (t : Stopped) → image_at (with_register k v t) ≡ set_in k v (image_at t)
image-register k v t = image-computed t.pid (set_in k v (image_at t)).regs (image_at t).memory t.state ∙ by (process t.pid t.state)
  where
    by : (o : Option (Process ℕ Image)) → option_map_or (λ (p : Process ℕ Image). set_in k v (image_of o)) o no_image ≡ set_in k v (image_of o)
    by None = refl
    by (Some p) = refl

module _ (t u : Stopped) (image : image_at u ≡ image_at t) where
  register-alike : (k v : ℕ) → image_at (with_register k v u) ≡ image_at (with_register k v t)
  register-alike k v = image-register k v u ∙ ap (set_in k v) image ∙ sym (image-register k v t)

  word-alike : (k : ℕ) → register_at u k ≡ register_at t k
  word-alike k = ap (λ (i : Image). get_or i.regs.x k 0) image

given-alike : (p : Arguments) (t u : Stopped) → image_at u ≡ image_at t → image_at (given_back p u) ≡ image_at (given_back p t)
given-alike p t u image =
    let t1 : Stopped = with_register 11 p.a1 t in
    let u1 : Stopped = with_register 11 p.a1 u in
    let t2 : Stopped = with_register 12 p.a2 t1 in
    let u2 : Stopped = with_register 12 p.a2 u1 in
    let t3 : Stopped = with_register 13 p.a3 t2 in
    let u3 : Stopped = with_register 13 p.a3 u2 in
    let t4 : Stopped = with_register 14 p.a4 t3 in
    let u4 : Stopped = with_register 14 p.a4 u3 in
    let t5 : Stopped = with_register 15 p.a5 t4 in
    let u5 : Stopped = with_register 15 p.a5 u4 in
    register-alike t5 u5 (register-alike t4 u4 (register-alike t3 u3 (register-alike t2 u2 (register-alike t1 u1 (register-alike t u image 11 p.a1) 12 p.a2) 13 p.a3) 14 p.a4) 15 p.a5) 17 p.a7

answered-alike : (o : Option ℤ) (t u : Stopped) → image_at u ≡ image_at t → image_at (if_answered o u) ≡ image_at (if_answered o t)
answered-alike None t u image = image
answered-alike (Some answer) t u image = register-alike t u image 10 (word_of answer)

returned-alike : (p : Pending) (t u : Stopped) → image_at u ≡ image_at t → image_at (returned p u) ≡ image_at (returned p t)
returned-alike p t u image = answered-alike p.answer (given_back p.passed t) (given_back p.passed u) (given-alike p.passed t u image)

-- ---- notes

-- whatever a call notes, this holds of two tables behind it that held of them before, and holds behind each tag that is set or copied
module _ (tags more : TagTable) (pid : ℕ) (P : TagTable → TagTable → Type 0) (stays : P tags more) (sets : (slot : Slot) (index : ℕ) → P (with_tag tags pid slot index) (with_tag more pid slot index))
    (copies : (from to : Slot) → P (with_tag tags pid to (tag_of tags pid from)) (with_tag more pid to (tag_of more pid from))) where
  copied-from : (o : Option ℕ) (to : Slot) → P (tags_after tags pid (copied_from o to)) (tags_after more pid (copied_from o to))
  copied-from None to = stays
  copied-from (Some from) to = copies (Fd from) to

  duplicated-so : (fd cmd : ℤ) (number : ℕ) → P (tags_after tags pid (duplicated fd cmd number)) (tags_after more pid (duplicated fd cmd number))
  duplicated-so fd (pos cmd) number = by (cmd == 0) (cmd == 1030)
    where
      by : (b c : Bool)
          → P (tags_after tags pid (cond b (copied fd (Fd number)) (cond c (copied fd (Fd number)) (copied_from None (Fd number)))))
          (tags_after more pid (cond b (copied fd (Fd number)) (cond c (copied fd (Fd number)) (copied_from None (Fd number)))))
      by true c = copied-from (descriptor_number fd) (Fd number)
      by false true = copied-from (descriptor_number fd) (Fd number)
      by false false = stays
  duplicated-so fd (negsuc cmd) number = stays

  pub noted-so : (r : Request) (index : ℕ) (o : Option ℕ) → P (tags_after tags pid (noted_of r index o)) (tags_after more pid (noted_of r index o))
  noted-so (call.Openat dirfd path flags permissions) index (Some number) = sets (Fd number) index
  noted-so (call.Openat dirfd path flags permissions) index None = stays
  noted-so (call.Chdir path) index (Some number) = sets Cwd index
  noted-so (call.Chdir path) index None = stays
  noted-so (call.Execve path args env) index (Some number) = sets Exe index
  noted-so (call.Execve path args env) index None = stays
  noted-so (call.Fchdir fd) index (Some number) = copied-from (descriptor_number fd) Cwd
  noted-so (call.Fchdir fd) index None = stays
  noted-so (call.Dup fd) index (Some number) = copied-from (descriptor_number fd) (Fd number)
  noted-so (call.Dup fd) index None = stays
  noted-so (call.Dup3 old new flags) index (Some number) = copied-from (descriptor_number old) (Fd number)
  noted-so (call.Dup3 old new flags) index None = stays
  noted-so (call.Fcntl fd cmd arg) index (Some number) = duplicated-so fd cmd number
  noted-so (call.Fcntl fd cmd arg) index None = stays
  noted-so _ index o = stays

-- ---- tags, slot by slot

slots-alike : (a b : Tagged) → ((slot : Slot) → tag_at b slot ≡ tag_at a slot) → (set : Slot) (v w : ℕ) → w ≡ v → (slot : Slot) → tag_at (with_slot b set w) slot ≡ tag_at (with_slot a set v) slot
slots-alike a b each Cwd v w same Cwd = same
slots-alike a b each Cwd v w same Exe = each Exe
slots-alike a b each Cwd v w same (Fd n) = each (Fd n)
slots-alike a b each Exe v w same Cwd = each Cwd
slots-alike a b each Exe v w same Exe = same
slots-alike a b each Exe v w same (Fd n) = each (Fd n)
slots-alike a b each (Fd fd) v w same Cwd = each Cwd
slots-alike a b each (Fd fd) v w same Exe = each Exe
slots-alike a b each (Fd fd) v w same (Fd n) =
    elim (cases_eq n fd) [
      | inl is ↦
          ap (λ k. unwrap_or (map.get (map.insert b.fds fd w) k) 0) is
          ∙ ap (λ (o : Option ℕ). unwrap_or o 0) (get-insert_same b.fds fd w) ∙ same ∙ sym (ap (λ (o : Option ℕ). unwrap_or o 0) (get-insert_same a.fds fd v))
          ∙ sym (ap (λ k. unwrap_or (map.get (map.insert a.fds fd v) k) 0) is)
      | inr other ↦
          ap (λ (o : Option ℕ). unwrap_or o 0) (get-insert_other b.fds fd w n other) ∙ each (Fd n) ∙ sym (ap (λ (o : Option ℕ). unwrap_or o 0) (get-insert_other a.fds fd v n other))
    ]

pub tags-set : (tags more : TagTable) (pid : ℕ) → SameTags pid tags more → (set : Slot) (v w : ℕ) → w ≡ v → SameTags pid (with_tag tags pid set v) (with_tag more pid set w)
tags-set tags more pid same set v w alike slot =
    ap (λ (o : Option Tagged). tag_at (unwrap_or o untagged) slot) (get-insert_same more pid (with_slot (tags_of more pid) set w))
    ∙ slots-alike (tags_of tags pid) (tags_of more pid) same set v w alike slot
    ∙ sym (ap (λ (o : Option Tagged). tag_at (unwrap_or o untagged) slot) (get-insert_same tags pid (with_slot (tags_of tags pid) set v)))

pub tags-other : (tags : TagTable) (pid : ℕ) (set : Slot) (v q : ℕ) → q ≢ pid → SameTags q tags (with_tag tags pid set v)
tags-other tags pid set v q other slot =
    ap (λ (o : Option Tagged). tag_at (unwrap_or o untagged) slot) (get-insert_other tags pid (with_slot (tags_of tags pid) set v) q other)

tags-noted : (tags more : TagTable) (pid : ℕ) → SameTags pid tags more → (r : Request) (index : ℕ) (o : Option ℕ) → SameTags pid (tags_after tags pid (noted_of r index o)) (tags_after more pid (noted_of r index o))
tags-noted tags more pid same r index o =
    noted-so tags more pid (λ a b. SameTags pid a b) same (λ slot index. tags-set tags more pid same slot index index refl)
    (λ from to. tags-set tags more pid same to (tag_of tags pid from) (tag_of more pid from) (same from)) r index o

-- what one notes is nothing to others
pub others-noted : (tags : TagTable) (pid q : ℕ) → q ≢ pid → (r : Request) (index : ℕ) (answer : ℤ) → SameTags q tags (tags_after tags pid (noted r index answer))
others-noted tags pid q other r index answer =
    noted-so tags tags pid (λ a b. SameTags q tags b) (λ slot. refl) (λ slot index. tags-other tags pid slot index q other)
    (λ from to. tags-other tags pid to (tag_of tags pid from) q other) r index (made_number answer)

-- ---- the second stop

record IsExitedAlike (pid : ℕ) (a b : Tracing × Stopped) : Type 0 where
  image : image_at b.1 ≡ image_at a.1
  goes : GoesBySame pid a.0 b.0

module _ (x y : Tracing) (t u : Stopped) (one : u.pid ≡ t.pid) (goes : GoesBySame t.pid x y) (image : image_at u ≡ image_at t) (p : Pending) where
  begun-alike : (o q : Option IdentityTable) → o ≡ None → q ≡ None
      → IsExitedAlike t.pid (begin_as (with_tags (with_tag x.tags t.pid Exe p.led.index) x) t o) (begin_as (with_tags (with_tag y.tags u.pid Exe p.led.index) y) u q)
  begun-alike None None e f = record {
    image = image;
    goes = record {
      bindings = goes.bindings;
      user = goes.user;
      none = goes.none;
      also_none = goes.also_none;
      tags =
          subst (λ n. SameTags t.pid (with_tag x.tags t.pid Exe p.led.index) (with_tag y.tags n Exe p.led.index)) (sym one)
          (tags-set x.tags y.tags t.pid goes.tags Exe p.led.index p.led.index refl);
    };
  }
  begun-alike None (Some table) e f = absurd cc
  begun-alike (Some table) q e f = absurd cc

  -- the registers are given back by whatever identity is told, if any is
  abbrev given_as : Option IdentityTable → Tracing → Stopped → Tracing × Stopped
  given_as o x t =
      let v = shown_to x.user o p (returned p t) in
      (with_identities (remembered_in o p t.handed.target (register_at v 10)) (with_tags (tags_after x.tags t.pid (noted p.request p.led.index (answer_at (returned p t)))) x), v)

  given-back-alike : (o q : Option IdentityTable) → o ≡ None → q ≡ None → IsExitedAlike t.pid (given_as o x t) (given_as q y u)
  given-back-alike None None e f =
      let images : image_at (returned p u) ≡ image_at (returned p t) = returned-alike p t u image in
      let answers : answer_at (returned p u) ≡ answer_at (returned p t) = ap (λ (i : Image). cast_signed w64 (get_or i.regs.x 10 0)) images in
      record {
        image = images;
        goes = record {
          bindings = goes.bindings;
          user = goes.user;
          none = refl;
          also_none = refl;
          tags =
              subst (λ n. SameTags t.pid (tags_after x.tags t.pid (noted p.request p.led.index (answer_at (returned p t)))) (tags_after y.tags n (noted p.request p.led.index (answer_at (returned p u))))) (sym one)
              (subst (λ (answer : ℤ). SameTags t.pid (tags_after x.tags t.pid (noted p.request p.led.index (answer_at (returned p t)))) (tags_after y.tags t.pid (noted p.request p.led.index answer))) (sym answers)
              (tags-noted x.tags y.tags t.pid goes.tags p.request p.led.index (made_number (answer_at (returned p t)))));
        };
      }
  given-back-alike None (Some table) e f = absurd cc
  given-back-alike (Some table) q e f = absurd cc

  pending-alike : IsExitedAlike t.pid (after_pending x t (Some p)) (after_pending y u (Some p))
  pending-alike =
      subst (λ (b : Bool). IsExitedAlike t.pid (after_pending x t (Some p)) (cond b (begin_program y p u) (give_back y p u))) (sym begun) (by (has_begun p t))
    where
      begun : has_begun p u ≡ has_begun p t
      begun = ap (λ n. is_execve p.request && is_none p.answer && (n == 0)) (word-alike t u image 10)

      by : (b : Bool) → IsExitedAlike t.pid (cond b (begin_program x p t) (give_back x p t)) (cond b (begin_program y p u) (give_back y p u))
      by true = begun-alike x.identities y.identities goes.none goes.also_none
      by false = given-back-alike x.identities y.identities goes.none goes.also_none

pub exits-go-by-own : ExitsGoByOwn
exits-go-by-own x y t u one goes kept handed image =
    let alike : IsExitedAlike t.pid (exited x t) (exited y u) =
    subst (λ (o : Option Pending). IsExitedAlike t.pid (exited x t) (after_pending (without_pending u.pid y) u o)) (sym (ap (map.get y.pending) one ∙ kept)) (by (map.get x.pending t.pid))
    in
    record { image = alike.image; goes = alike.goes }
  where
    later : GoesBySame t.pid (without_pending t.pid x) (without_pending u.pid y)
    later = record { bindings = goes.bindings; user = goes.user; none = goes.none; also_none = goes.also_none; tags = goes.tags }

    by : (o : Option Pending) → IsExitedAlike t.pid (after_pending (without_pending t.pid x) t o) (after_pending (without_pending u.pid y) u o)
    by None = record { image = image; goes = later }
    by (Some p) = pending-alike (without_pending t.pid x) (without_pending u.pid y) t u one later image p
