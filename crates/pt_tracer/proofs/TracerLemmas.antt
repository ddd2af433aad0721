-- What the tracer keeps of a process between the stops of its calls, and of all others.
use Rattle.std.specs.FinMap as map
use Rattle.std.proofs.Common.{◌≡◌, ◌≢◌, ◌∙◌, ℕ, Bool, true, false, Option, Some, None, Result, Ok, Err, if◌then◌else◌, refl, sym, ap}
use Rattle.std.specs.Option.{option_map}
use Rattle.law_steady.proofs.pr_base.MapLemmas.{get-insert_other, get-remove_other, get-remove_same, remove-none}
use Rattle.law_steady.specs.pr_base.declared.errno.Errno.{Errno}
use Rattle.pt_results.specs.kr_calls.declared.request.Request.{Request}
use Rattle.pt_faker.specs.Stopping.{after_request, decoded_at, register_at, Stopped}
use Rattle.law_steady.proofs.pt_bind.TagLemmas.{tags_change}
use Rattle.law_steady.specs.pt_bind.Tags.{with_tag}
use Rattle.law_steady.specs.pt_bind.declared.slot.Slot.TheVariants.{Exe}
use Rattle.pt_faker.specs.pt_ident.Identity.{Effect, Identity, effect}
use Rattle.pt_faker.specs.pt_ident.IdentityTable.{IdentityTable, after_birth, after_end, identity_at, starts_as_root, with_identity}
use Rattle.pt_faker.specs.Faking.{due_of}
use Rattle.pt_results.proofs.NoteLemmas.{notes_change_one_slot}
use Rattle.pt_results.specs.Notes.{noted}
use Rattle.pt_faker.proofs.FakingLemmas.{identity_elsewhere, identity_or, insert-remove, own_identity, remembered_identities}
use Rattle.pt_tracer.specs.TracerLaws.{ComeAndGo, EntriesForget, ExitsFollowEntries, LeavesOthers, OthersStay, identity_in, starting_in}
use Rattle.pt_tracer.specs.Watched.{Applied, Tracing, after_decoding, after_effect, after_pending, answer_at, begin_as, begin_program, by_identities, give_back, has_begun, keeping, remembered_in, returned, shown_to, with_identities, with_pending, with_tags, without_pending}
use Rattle.pt_tracer.specs.declared.pending.Pending.{Pending}
use Rattle.pt_tracer.specs.declared.plan.Led.{Led}

-- ---- what is pending

removed-again : (x : Tracing) (pid : ℕ) → without_pending pid (without_pending pid x) ≡ without_pending pid x
removed-again x pid = ap (λ d. with_pending d x) (remove-none (map.remove x.pending pid) pid (get-remove_same x.pending pid))

keeping-again : (x : Tracing) (t : Stopped) (r : Request) (led : Led) (done : Applied) → keeping (without_pending t.pid x) t r led done ≡ keeping x t r led done
keeping-again x t r led done = ap (λ d. (with_pending d x, done.stopped)) (insert-remove x.pending t.pid _)

effect-again : (x : Tracing) (table : IdentityTable) (r : Request) (t : Stopped) (e : Option Effect) → after_effect (without_pending t.pid x) table r t e ≡ after_effect x table r t e
effect-again x table r t None = keeping-again (with_identities (Some (with_identity t.pid (identity_at table t.pid) table)) x) t r _ _
effect-again x table r t (Some e) = keeping-again (with_identities (Some (with_identity t.pid _ table)) x) t r _ _

identities-again : (x : Tracing) (r : Request) (t : Stopped) (o : Option IdentityTable) → by_identities (without_pending t.pid x) r t o ≡ by_identities x r t o
identities-again x r t None = keeping-again x t r _ _
identities-again x r t (Some table) = effect-again x table r t (effect (identity_at table t.pid) r)

decoding-again : (x : Tracing) (t : Stopped) (r : Result Request Errno) → after_decoding (without_pending t.pid x) t r ≡ after_decoding x t r
decoding-again x t (Ok r) = identities-again x r t x.identities
decoding-again x t (Err e) = ap (λ y. (y, t)) (removed-again x t.pid)

pub entries_forget : EntriesForget
entries_forget x t = decoding-again x (after_request t) (decoded_at t).reply

-- by whether a program began
begins-pending : (x : Tracing) (t : Stopped) (o : Option IdentityTable) → (begin_as x t o).0.pending ≡ x.pending
begins-pending x t None = refl
begins-pending x t (Some table) = refl

settles-pending : (x : Tracing) (p : Pending) (t : Stopped) (b : Bool) → (if b then begin_program x p t else give_back x p t).0.pending ≡ x.pending
settles-pending x p t true = begins-pending (with_tags (with_tag x.tags t.pid Exe p.led.index) x) t x.identities
settles-pending x p t false = refl

exits-pending : (x : Tracing) (t : Stopped) (o : Option Pending) → (after_pending x t o).0.pending ≡ x.pending
exits-pending x t None = refl
exits-pending x t (Some p) = settles-pending x p t (has_begun p t)

pub exits_follow_entries : ExitsFollowEntries
exits_follow_entries = record {
  quiet = λ x t e. ap (after_pending (without_pending t.pid x) t) e ∙ ap (λ d. (with_pending d x, t)) (remove-none x.pending t.pid e);
  spent = λ x t. ap (λ d. map.get d t.pid) (exits-pending (without_pending t.pid x) t (map.get x.pending t.pid)) ∙ get-remove_same x.pending t.pid;
}

-- ---- others

-- with the identity of one process set
elsewhere : (o : Option IdentityTable) (table : IdentityTable) (pid : ℕ) (i : Identity) (q : ℕ) → o ≡ Some table → q ≢ pid → identity_in (Some (with_identity pid i table)) q ≡ identity_in o q
elsewhere o table pid i q e other = ap Some (identity_elsewhere table pid q i other) ∙ sym (ap (λ o. identity_in o q) e)

keeping-others : (x : Tracing) (pid : ℕ) (p : Pending) → LeavesOthers x (with_pending (map.insert x.pending pid p) x) pid
keeping-others x pid p = record {
  tags = λ q slot other. refl;
  identities = λ q other. refl;
  pending = λ q other. get-insert_other x.pending pid p q other;
}

-- an identity is kept, too
keeping-identity : (x : Tracing) (pid : ℕ) (p : Pending) (table : IdentityTable) (i : Identity) → x.identities ≡ Some table
    → LeavesOthers x (with_pending (map.insert x.pending pid p) (with_identities (Some (with_identity pid i table)) x)) pid
keeping-identity x pid p table i e = record {
  tags = λ q slot other. refl;
  identities = λ q other. elsewhere x.identities table pid i q e other;
  pending = λ q other. get-insert_other x.pending pid p q other;
}

effect-others : (x : Tracing) (table : IdentityTable) (r : Request) (t : Stopped) (e : Option Effect) → x.identities ≡ Some table → LeavesOthers x (after_effect x table r t e).0 t.pid
effect-others x table r t None same = keeping-identity x t.pid _ table _ same
effect-others x table r t (Some e) same = keeping-identity x t.pid _ table _ same

identities-others : (x : Tracing) (r : Request) (t : Stopped) (o : Option IdentityTable) → x.identities ≡ o → LeavesOthers x (by_identities x r t o).0 t.pid
identities-others x r t None same = keeping-others x t.pid _
identities-others x r t (Some table) same = effect-others x table r t (effect (identity_at table t.pid) r) same

without-others : (x : Tracing) (pid : ℕ) → LeavesOthers x (without_pending pid x) pid
without-others x pid = record {
  tags = λ q slot other. refl;
  identities = λ q other. refl;
  pending = λ q other. get-remove_other x.pending pid q other;
}

decoding-others : (x : Tracing) (t : Stopped) (r : Result Request Errno) → LeavesOthers x (after_decoding x t r).0 t.pid
decoding-others x t (Ok r) = identities-others x r t x.identities refl
decoding-others x t (Err e) = without-others x t.pid

-- what is remembered of files is no part of an identity
remembered-others : (o : Option IdentityTable) (p : Pending) (target : Option ℕ) (answer q : ℕ) → identity_in (remembered_in o p target answer) q ≡ identity_in o q
remembered-others None p target answer q = refl
remembered-others (Some table) p target answer q = ap Some (remembered_identities (due_of (starts_as_root table) p.request) target answer table q)

gives-others : (x : Tracing) (p : Pending) (t : Stopped) → LeavesOthers x (give_back (without_pending t.pid x) p t).0 t.pid
gives-others x p t = record {
  tags = λ q slot other. notes_change_one_slot.others x.tags t.pid (noted p.request p.led.index (answer_at (returned p t))) q slot other;
  identities = λ q other. remembered-others x.identities p t.handed.target (register_at (shown_to x.user x.identities p (returned p t)) 10) q;
  pending = λ q other. get-remove_other x.pending t.pid q other;
}

begins-others : (x : Tracing) (p : Pending) (t : Stopped) (o : Option IdentityTable) → x.identities ≡ o → LeavesOthers x (begin_as (with_tags (with_tag x.tags t.pid Exe p.led.index) (without_pending t.pid x)) t o).0 t.pid
begins-others x p t None same = record {
  tags = λ q slot other. tags_change.set_others x.tags t.pid Exe p.led.index q slot other;
  identities = λ q other. refl;
  pending = λ q other. get-remove_other x.pending t.pid q other;
}
begins-others x p t (Some table) same = record {
  tags = λ q slot other. tags_change.set_others x.tags t.pid Exe p.led.index q slot other;
  identities = λ q other. elsewhere x.identities table t.pid _ q same other;
  pending = λ q other. get-remove_other x.pending t.pid q other;
}

settles-others : (x : Tracing) (p : Pending) (t : Stopped) (b : Bool) → LeavesOthers x (if b then begin_program (without_pending t.pid x) p t else give_back (without_pending t.pid x) p t).0 t.pid
settles-others x p t true = begins-others x p t x.identities refl
settles-others x p t false = gives-others x p t

exits-others : (x : Tracing) (t : Stopped) (o : Option Pending) → LeavesOthers x (after_pending (without_pending t.pid x) t o).0 t.pid
exits-others x t None = without-others x t.pid
exits-others x t (Some p) = settles-others x p t (has_begun p t)

-- ---- processes that come and go

born-elsewhere : (o : Option IdentityTable) (parent child q : ℕ) → q ≢ child → identity_in (option_map (after_birth parent child) o) q ≡ identity_in o q
born-elsewhere None parent child q other = refl
born-elsewhere (Some table) parent child q other = ap Some (identity_elsewhere table child q _ other)

gone-elsewhere : (o : Option IdentityTable) (pid q : ℕ) → q ≢ pid → identity_in (option_map (after_end pid) o) q ≡ identity_in o q
gone-elsewhere None pid q other = refl
gone-elsewhere (Some table) pid q other = ap (λ o. Some (identity_or table o)) (get-remove_other table.kept pid q other)

pub others_stay : OthersStay
others_stay = record {
  at_entry = λ x t. decoding-others x (after_request t) (decoded_at t).reply;
  at_exit = λ x t. exits-others x t (map.get x.pending t.pid);
  at_birth = λ x parent child. record {
    tags = λ q slot other. tags_change.fork_others x.tags parent child q slot other;
    identities = λ q other. born-elsewhere x.identities parent child q other;
    pending = λ q other. refl;
  };
  at_end = λ x pid. record {
    tags = λ q slot other. tags_change.drop_others x.tags pid q slot other;
    identities = λ q other. gone-elsewhere x.identities pid q other;
    pending = λ q other. get-remove_other x.pending pid q other;
  };
}

born-identity : (o : Option IdentityTable) (parent child : ℕ) → identity_in (option_map (after_birth parent child) o) child ≡ identity_in o parent
born-identity None parent child = refl
born-identity (Some table) parent child = ap Some (own_identity table child (identity_at table parent))

gone-identity : (o : Option IdentityTable) (pid : ℕ) → identity_in (option_map (after_end pid) o) pid ≡ starting_in o
gone-identity None pid = refl
gone-identity (Some table) pid = ap (λ o. Some (identity_or table o)) (get-remove_same table.kept pid)

pub come_and_go : ComeAndGo
come_and_go = record {
  child_tags = λ x parent child slot. tags_change.fork x.tags parent child slot;
  child_identity = λ x parent child. born-identity x.identities parent child;
  no_tags = λ x pid slot. tags_change.drop x.tags pid slot;
  no_identity = λ x pid. gone-identity x.identities pid;
  no_call = λ x pid. get-remove_same x.pending pid;
}
