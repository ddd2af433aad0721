-- A tracer without an identity is local.
use Rattle.std.specs.FinMap as map
use Rattle.std.proofs.Common.{◌≡◌, ◌≢◌, ℕ, Bool, true, false, cond, Option, Some, None, Result, Ok, Err, refl, sym, ap, ◌∙◌}
use Rattle.std.specs.Option.{option_map}
use Rattle.std.specs.Ordering.{nat_cmp}
use Rattle.pt_tracer.specs.pr_base.declared.errno.Errno.{Errno}
use Rattle.pt_tracer.proofs.pr_base.MapLemmas.{get-insert_other, get-remove_other}
use Rattle.pt_tracer.specs.pt_bind.Tags.{TagTable, tag_of, with_tag}
use Rattle.pt_tracer.proofs.pt_bind.TagLemmas.{tags_change}
use Rattle.pt_tracer.specs.pt_bind.declared.slot.Slot.TheVariants.{Exe}
use Rattle.pt_tracer.specs.pt_results.kr_calls.declared.request.Request.{Request}
use Rattle.pt_tracer.specs.pt_faker.Stopping.{after_request, decoded_at, register_at}
use Rattle.pt_tracer.specs.pt_ident.IdentityTable.{IdentityTable, after_birth, after_end}
use Rattle.pt_tracer.specs.Watched.{Tracing, after_decoding, after_pending, answer_at, begin_as, begin_program, born, by_identities, entered, exited, give_back, gone, has_begun, remembered_in, returned, shown_to, with_tags, without_pending}
use Rattle.pt_tracer.specs.declared.pending.Pending.{Pending}
use Rattle.kr_loose.specs.kr_stops.Stopped.{Stopped}
use Rattle.law_entries.specs.Lasting.{ExecvePlansLast, GoesBySame, SameTags}
use Rattle.law_entries.specs.Traced.{TellsNoIdentity, TracedPart, TracersAreLocal, traced_part}
use Rattle.law_entries.proofs.EditLemmas.{entry-left, exit-left, exit-living}
use Rattle.law_entries.proofs.EntryLemmas.{entries-last}
use Rattle.law_entries.proofs.ExitLemmas.{exits-go-by-own, others-noted, tags-other}
use Rattle.law_entries.proofs.WaitLemmas.{entry-waits}

-- ---- what is gone by

goes-by : (pid : ℕ) (x y : Tracing) → TellsNoIdentity x → TellsNoIdentity y → traced_part pid y ≡ traced_part pid x → GoesBySame pid x y
goes-by pid x y none also same = record {
  bindings = ap (λ (p : TracedPart). p.bindings) same;
  user = ap (λ (p : TracedPart). p.user) same;
  none = none;
  also_none = also;
  tags = λ slot. ap (λ (p : TracedPart). p.tags slot) same;
}

-- one goes by what another one goes by, with these tags
record IsPartly (q : ℕ) (x y : Tracing) : Type 0 where
  bindings : y.bindings ≡ x.bindings
  user : y.user ≡ x.user
  tags : SameTags q x.tags y.tags

part-of : (q : ℕ) (x y : Tracing) → IsPartly q x y → traced_part q y ≡ traced_part q x
part-of q x y is = λ j. record { bindings = is.bindings j; user = is.user j; tags = λ slot. is.tags slot j }

part-same : (q : ℕ) (x y : Tracing) → traced_part q y ≡ traced_part q x → IsPartly q x y
part-same q x y same = record {
  bindings = ap (λ (p : TracedPart). p.bindings) same;
  user = ap (λ (p : TracedPart). p.user) same;
  tags = λ slot. ap (λ (p : TracedPart). p.tags slot) same;
}

-- ---- the first stop keeps all but what is pending of its process

record IsKeptAtEntry (x y : Tracing) (pid : ℕ) : Type 0 where
  bindings : y.bindings ≡ x.bindings
  user : y.user ≡ x.user
  tags : y.tags ≡ x.tags
  none : y.identities ≡ None
  pending : (q : ℕ) → q ≢ pid → map.get y.pending q ≡ map.get x.pending q

module _ (x : Tracing) where
  call-keeps : (r : Request) (t : Stopped) (o : Option IdentityTable) → o ≡ None → x.identities ≡ None → IsKeptAtEntry x (by_identities x r t o).0 t.pid
  call-keeps r t None e none = record { bindings = refl; user = refl; tags = refl; none = none; pending = λ q other. get-insert_other x.pending t.pid _ q other }
  call-keeps r t (Some table) e none = absurd cc

  decoded-keeps : (t : Stopped) (d : Result Request Errno) → x.identities ≡ None → IsKeptAtEntry x (after_decoding x t d).0 t.pid
  decoded-keeps t (Ok r) none = call-keeps r t x.identities none none
  decoded-keeps t (Err e) none = record { bindings = refl; user = refl; tags = refl; none = none; pending = λ q other. get-remove_other x.pending t.pid q other }

  entry-keeps : (t : Stopped) → x.identities ≡ None → IsKeptAtEntry x (entered x t).0 t.pid
  entry-keeps t none = decoded-keeps (after_request t) (decoded_at t).reply none

entry-part : (x : Tracing) (t : Stopped) (q : ℕ) → TellsNoIdentity x → traced_part q (entered x t).0 ≡ traced_part q x
entry-part x t q none =
    let kept = entry-keeps x t none in
    part-of q x (entered x t).0 (record { bindings = kept.bindings; user = kept.user; tags = λ slot. ap (λ (tags : TagTable). tag_of tags q slot) kept.tags })

-- ---- the second stop keeps all but the tags and what is pending of its process

record IsKeptAtExit (x y : Tracing) (pid : ℕ) : Type 0 where
  bindings : y.bindings ≡ x.bindings
  user : y.user ≡ x.user
  tags : (q : ℕ) → q ≢ pid → SameTags q x.tags y.tags
  none : y.identities ≡ None
  pending : y.pending ≡ x.pending

module _ (x : Tracing) (none : x.identities ≡ None) (p : Pending) (t : Stopped) where
  begun-keeps : (o : Option IdentityTable) → o ≡ None → IsKeptAtExit x (begin_as (with_tags (with_tag x.tags t.pid Exe p.led.index) x) t o).0 t.pid
  begun-keeps None e = record { bindings = refl; user = refl; tags = λ q other. tags-other x.tags t.pid Exe p.led.index q other; none = none; pending = refl }
  begun-keeps (Some table) e = absurd cc

  -- no identity remembers anything
  remembers-none : (give_back x p t).0.identities ≡ None
  remembers-none = by x.identities none
    where
      by : (o : Option IdentityTable) → o ≡ None → remembered_in o p t.handed.target (register_at (shown_to x.user o p (returned p t)) 10) ≡ None
      by None e = refl
      by (Some table) e = absurd cc

  settled-keeps : (b : Bool) → IsKeptAtExit x (cond b (begin_program x p t) (give_back x p t)).0 t.pid
  settled-keeps true = begun-keeps x.identities none
  settled-keeps false = record {
    bindings = refl;
    user = refl;
    tags = λ q other. others-noted x.tags t.pid q other p.request p.led.index (answer_at (returned p t));
    none = remembers-none;
    pending = refl;
  }

pending-keeps : (x : Tracing) (t : Stopped) (o : Option Pending) → x.identities ≡ None → IsKeptAtExit x (after_pending x t o).0 t.pid
pending-keeps x t None none = record { bindings = refl; user = refl; tags = λ q other slot. refl; none = none; pending = refl }
pending-keeps x t (Some p) none = settled-keeps x none p t (has_begun p t)

exit-keeps : (x : Tracing) (t : Stopped) → x.identities ≡ None → IsKeptAtExit (without_pending t.pid x) (exited x t).0 t.pid
exit-keeps x t none = pending-keeps (without_pending t.pid x) t (map.get x.pending t.pid) none

-- ---- processes

module _ (x y : Tracing) (parent child : ℕ) where
  child-part : traced_part parent y ≡ traced_part parent x → traced_part child (born y parent child) ≡ traced_part child (born x parent child)
  child-part same =
      let part = part-same parent x y same in
      part-of child (born x parent child) (born y parent child)
      (record {
        bindings = part.bindings;
        user = part.user;
        tags = λ slot. tags_change.fork y.tags parent child slot ∙ part.tags slot ∙ sym (tags_change.fork x.tags parent child slot);
      })

born-part : (x : Tracing) (parent child q : ℕ) → q ≢ child → traced_part q (born x parent child) ≡ traced_part q x
born-part x parent child q other = part-of q x (born x parent child) (record { bindings = refl; user = refl; tags = λ slot. tags_change.fork_others x.tags parent child q slot other })

born-fits : (x : Tracing) (parent child : ℕ) → TellsNoIdentity x → TellsNoIdentity (born x parent child)
born-fits x parent child none = ap (option_map (after_birth parent child)) none

gone-own : (x y : Tracing) (pid : ℕ) → traced_part pid y ≡ traced_part pid x → traced_part pid (gone y pid) ≡ traced_part pid (gone x pid)
gone-own x y pid same =
    let part = part-same pid x y same in
    part-of pid (gone x pid) (gone y pid) (record { bindings = part.bindings; user = part.user; tags = λ slot. tags_change.drop y.tags pid slot ∙ sym (tags_change.drop x.tags pid slot) })

gone-part : (x : Tracing) (pid q : ℕ) → q ≢ pid → traced_part q (gone x pid) ≡ traced_part q x
gone-part x pid q other = part-of q x (gone x pid) (record { bindings = refl; user = refl; tags = λ slot. tags_change.drop_others x.tags pid q slot other })

gone-fits : (x : Tracing) (pid : ℕ) → TellsNoIdentity x → TellsNoIdentity (gone x pid)
gone-fits x pid none = ap (option_map (after_end pid)) none

-- ---- all together

pub tracers-are-local : ExecvePlansLast → TracersAreLocal
tracers-are-local execves = record {
  entry_lasts = λ x y pid s t none also part stays quiet.
      let lasts = entries-last execves x y pid s t (goes-by pid x y none also part) stays quiet in
      record { image = lasts.image; kept = lasts.pending; unmet = lasts.asks };
  entry_edits = λ x t none there. entry-left x t none there;
  entry_fits = λ x t none. (entry-keeps x t none).none;
  entry_part = λ x t q none. entry-part x t q none;
  entry_kept = λ x t q none other. (entry-keeps x t none).pending q other;
  entry_waits = λ x t r none there given may. entry-waits x t r none there given may;
  exit_alike = λ x y t u none also one part kept handed image.
      let alike = exits-go-by-own x y t u one (goes-by t.pid x y none also part) kept handed image in
      record {
        image = alike.image;
        part = part-of t.pid (exited x t).0 (exited y u).0 (record { bindings = alike.goes.bindings; user = alike.goes.user; tags = alike.goes.tags });
      };
  exit_edits = λ x t none there. exit-left x t none there;
  exit_living = λ x t none. exit-living x t none;
  exit_fits = λ x t none. (exit-keeps x t none).none;
  exit_part = λ x t q none other.
      let kept = exit-keeps x t none in
      part-of q x (exited x t).0 (record { bindings = kept.bindings; user = kept.user; tags = kept.tags q other });
  exit_kept = λ x t q none other. ap (λ (m : map.FinMap nat_cmp Pending). map.get m q) (exit-keeps x t none).pending ∙ get-remove_other x.pending t.pid q other;
  born_child = λ x y parent child none also part. child-part x y parent child part;
  born_part = λ x parent child q none other. born-part x parent child q other;
  born_kept = λ x parent child q none. refl;
  born_fits = λ x parent child none. born-fits x parent child none;
  gone_own = λ x y pid none also part. gone-own x y pid part;
  gone_part = λ x pid q none other. gone-part x pid q other;
  gone_kept = λ x pid q none other. get-remove_other x.pending pid q other;
  gone_fits = λ x pid none. gone-fits x pid none;
}
