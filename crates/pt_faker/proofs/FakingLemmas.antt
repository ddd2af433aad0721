-- What is due of a process, and the identities of others.
use Rattle.std.specs.FinMap as map
use Rattle.std.proofs.Common.{◌≡◌, ◌≢◌, ◌∙◌, ◌==◌, ℕ, Bool, true, false, Option, Some, None, Result, Ok, Err, if◌then◌else◌, refl, sym, ap}
use Rattle.std.specs.Option.{option_map_or}
use Rattle.std.specs.Ordering.{nat_cmp}
use Rattle.elf_load.proofs.pr_base.MapLemmas.{by_key, get-insert_other, get-insert_same, get-remove_other, get-remove_same, remove-none, same_values}
use Rattle.elf_load.specs.pr_base.declared.errno.Errno.{Errno}
use Rattle.pt_ident.specs.kr_calls.declared.request.Request.{Request}
use Rattle.kr_stops.specs.Editing.{after_request, decoded_at, register_at}
use Rattle.kr_stops.specs.Stopped.{Stopped}
use Rattle.pt_ident.specs.Identity.{Effect, Identity, effect, starting}
use Rattle.pt_ident.specs.IdentityTable.{IdentityTable, identity_at, with_identity, with_noted}
use Rattle.pt_ident.specs.declared.change.Change.{Change}
use Rattle.pt_faker.specs.Faking.{Faking, after_decoding, after_due, after_effect, answer_register, begin_program, due_of, forgiven, is_root, keeping, remembered, remembered_of, with_due, without_due}
use Rattle.pt_faker.specs.FakingLaws.{ComeAndGo, EntriesForget, ExitsFollowEntries, OthersStay}
use Rattle.pt_faker.specs.declared.due.Due.{Due}
use Rattle.pt_faker.specs.declared.due.Due.TheVariants.{Tells, Remembers, ForgivesRoot, ShowsOwner, BeginsProgram}

-- ---- maps

module _ {X : Type 0} (m : map.FinMap nat_cmp X) (k : ℕ) where
  pub insert-remove : (x : X) → map.insert (map.remove m k) k x ≡ map.insert m k x
  insert-remove x =
      same_values _ _ (by_key (λ q. map.get (map.insert (map.remove m k) k x) q ≡ map.get (map.insert m k x) q) k
      (get-insert_same (map.remove m k) k x ∙ sym (get-insert_same m k x))
      (λ q other. get-insert_other (map.remove m k) k x q other ∙ get-remove_other m k q other ∙ sym (get-insert_other m k x q other)))

  remove-remove : map.remove (map.remove m k) k ≡ map.remove m k
  remove-remove = remove-none (map.remove m k) k (get-remove_same m k)

-- ---- what is due

due_again : (pid : ℕ) (due : Option Due) (f : Faking) → with_due pid due (without_due pid f) ≡ with_due pid due f
due_again pid None f = ap (λ d. record { user = f.user; identities = f.identities; dues = d }) (remove-remove f.dues pid)
due_again pid (Some due) f = ap (λ d. record { user = f.user; identities = f.identities; dues = d }) (insert-remove f.dues pid due)

-- by whether the call answered 0
begun : (g : Faking) (t : Stopped) (b : Bool) → (if b then begin_program g t else (g, t)).0.dues ≡ g.dues
begun g t true = refl
begun g t false = refl

dues_stay : (g : Faking) (t : Stopped) (due : Option Due) → (after_due g t due).0.dues ≡ g.dues
dues_stay g t None = refl
dues_stay g t (Some (Tells number answer)) = refl
dues_stay g t (Some (Remembers change)) = refl
dues_stay g t (Some ForgivesRoot) = refl
dues_stay g t (Some (ShowsOwner at)) = refl
dues_stay g t (Some BeginsProgram) = begun g t (register_at t answer_register == 0)

pub exits_follow_entries : ExitsFollowEntries
exits_follow_entries = record {
  quiet = λ f t e.
      ap (λ due. after_due (without_due t.pid f) t due) e
      ∙ ap (λ d. (record { user = f.user; identities = f.identities; dues = d }, t)) (remove-none f.dues t.pid e);
  spent = λ f t.
      ap (λ d. map.get d t.pid) (dues_stay (without_due t.pid f) t (map.get f.dues t.pid))
      ∙ get-remove_same f.dues t.pid;
}

effect_again : (f : Faking) (r : Request) (t : Stopped) (e : Option Effect) → after_effect (without_due t.pid f) r t e ≡ after_effect f r t e
effect_again f r t None = ap (λ g. (g, t)) (due_again t.pid (due_of (is_root f) r) (keeping t.pid (identity_at f.identities t.pid) f))
effect_again f r t (Some e) =
    let left = after_effect f r t (Some e) in
    ap (λ d. (record { user = left.0.user; identities = left.0.identities; dues = d }, left.1)) (insert-remove f.dues t.pid _)

decoding_again : (f : Faking) (t : Stopped) (r : Result Request Errno) → after_decoding (without_due t.pid f) t r ≡ after_decoding f t r
decoding_again f t (Ok r) = effect_again f r t (effect (identity_at f.identities t.pid) r)
decoding_again f t (Err e) = ap (λ d. (record { user = f.user; identities = f.identities; dues = d }, t)) (remove-remove f.dues t.pid)

pub entries_forget : EntriesForget
entries_forget f t = decoding_again f (after_request t) (decoded_at t).reply

-- ---- others

-- the identity that was kept, if there was one
abbrev pub identity_or : IdentityTable → Option Identity → Identity
identity_or table o = option_map_or (λ i. i) o (starting table.uid table.gid)

pub identity_elsewhere : (table : IdentityTable) (pid q : ℕ) (i : Identity) → q ≢ pid → identity_at (with_identity pid i table) q ≡ identity_at table q
identity_elsewhere table pid q i other = ap (identity_or table) (get-insert_other table.kept pid i q other)

pub own_identity : (table : IdentityTable) (pid : ℕ) (i : Identity) → identity_at (with_identity pid i table) pid ≡ i
own_identity table pid i = ap (identity_or table) (get-insert_same table.kept pid i)

due_keeps : (pid : ℕ) (due : Option Due) (f : Faking) → (with_due pid due f).identities ≡ f.identities
due_keeps pid None f = refl
due_keeps pid (Some due) f = refl

other_entered : (f : Faking) (r : Request) (t : Stopped) (e : Option Effect) (q : ℕ) → q ≢ t.pid → identity_at (after_effect f r t e).0.identities q ≡ identity_at f.identities q
other_entered f r t None q other =
    ap (λ table. identity_at table q) (due_keeps t.pid (due_of (is_root f) r) (keeping t.pid (identity_at f.identities t.pid) f))
    ∙ identity_elsewhere f.identities t.pid q _ other
other_entered f r t (Some e) q other = identity_elsewhere f.identities t.pid q _ other

other_decoded : (f : Faking) (t : Stopped) (r : Result Request Errno) (q : ℕ) → q ≢ t.pid → identity_at (after_decoding f t r).0.identities q ≡ identity_at f.identities q
other_decoded f t (Ok r) q other = other_entered f r t (effect (identity_at f.identities t.pid) r) q other
other_decoded f t (Err e) q other = refl

other_begun : (g : Faking) (t : Stopped) (b : Bool) (q : ℕ) → q ≢ t.pid → identity_at (if b then begin_program g t else (g, t)).0.identities q ≡ identity_at g.identities q
other_begun g t true q other = identity_elsewhere g.identities t.pid q _ other
other_begun g t false q other = refl

noted_identity : (target : Option ℕ) (change : Change) (table : IdentityTable) (q : ℕ) → identity_at (with_noted target change table) q ≡ identity_at table q
noted_identity None change table q = refl
noted_identity (Some ino) change table q = refl

-- what is remembered of files is no part of an identity
remembered_identity : (change : Change) (target : Option ℕ) (answer : ℕ) (table : IdentityTable) (q : ℕ) → identity_at (remembered change target answer table) q ≡ identity_at table q
remembered_identity change target answer table q = by (answer == 0)
  where
    by : (b : Bool) → identity_at (if b then with_noted target change table else table) q ≡ identity_at table q
    by true = noted_identity target change table q
    by false = refl

pub remembered_identities : (due : Option Due) (target : Option ℕ) (answer : ℕ) (table : IdentityTable) (q : ℕ) → identity_at (remembered_of due target answer table) q ≡ identity_at table q
remembered_identities None target answer table q = refl
remembered_identities (Some (Tells number told)) target answer table q = refl
remembered_identities (Some (Remembers change)) target answer table q = remembered_identity change target answer table q
remembered_identities (Some ForgivesRoot) target answer table q = refl
remembered_identities (Some (ShowsOwner at)) target answer table q = refl
remembered_identities (Some BeginsProgram) target answer table q = refl

other_left : (g : Faking) (t : Stopped) (due : Option Due) (q : ℕ) → q ≢ t.pid → identity_at (after_due g t due).0.identities q ≡ identity_at g.identities q
other_left g t None q other = refl
other_left g t (Some (Tells number answer)) q other = refl
other_left g t (Some (Remembers change)) q other = remembered_identity change t.handed.target (register_at (forgiven true t) answer_register) g.identities q
other_left g t (Some ForgivesRoot) q other = refl
other_left g t (Some (ShowsOwner at)) q other = refl
other_left g t (Some BeginsProgram) q other = other_begun g t (register_at t answer_register == 0) q other

pub others_stay : OthersStay
others_stay = record {
  at_entry = λ f t q other. other_decoded f (after_request t) (decoded_at t).reply q other;
  at_exit = λ f t q other. other_left (without_due t.pid f) t (map.get f.dues t.pid) q other;
}

pub come_and_go : ComeAndGo
come_and_go = record {
  comes = λ f parent child. own_identity f.identities child (identity_at f.identities parent);
  goes = λ f pid. ap (identity_or f.identities) (get-remove_same f.identities.kept pid);
}
