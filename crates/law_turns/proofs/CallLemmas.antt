-- Calls behind their first stop, in two states that match.
use Rattle.std.proofs.Common.{◌≡◌, ℕ, List, Some, None, Ok, Err, refl, sym, ap, subst, ◌∙◌}
use Rattle.std.specs.Prelude.{neg_ℤ, pos}
use Rattle.std.specs.Option.{option_map_or}
use Rattle.kr_core.specs.pr_base.Errno.{errno_number}
use Rattle.kr_core.specs.pr_base.declared.errno.Errno.{Errno}
use Rattle.pt_results.specs.pt_bind.Tags.{TagTable}
use Rattle.law_places.specs.kr_view.View.{Row, plain}
use Rattle.pt_results.specs.kr_calls.Decoding.{Decoded}
use Rattle.pt_results.specs.kr_calls.declared.request.Request.{Request}
use Rattle.law_places.specs.kr_model.Reply.{Reply}
use Rattle.law_places.specs.kr_model.Seen.{Seen}
use Rattle.law_places.specs.kr_model.State.{Image, Process, State, process}
use Rattle.law_places.specs.kr_model.Walks.{seen, targets_of}
use Rattle.law_places.specs.kr_model.declared.outcome.Outcome.TheVariants.{Answer}
use Rattle.kr_core.specs.law_allowed.Told.{mounts_walked}
use Rattle.kr_core.specs.kr_steps.Calls.{IsNoExec}
use Rattle.kr_core.specs.kr_stops.Stopped.{nothing_handed}
use Rattle.kr_core.specs.kr_turns.PlainCall.{Came, after_decoding, child_of, end_of, operated, plain_call, plain_call_of, refusal_told}
use Rattle.kr_core.specs.kr_turns.declared.plain.CallEnd.TheVariants as end
use Rattle.kr_core.proofs.kr_turns.PlainLemmas.{no-exec-requested}
use Rattle.law_places.specs.Matching.{IsMatch}
use Rattle.law_turns.specs.Calls.{CallsComeAlike, CameAlike, IsToldAlike, RefusedCallsComeAlike, StandsAtCall, decoded_by, decoded_in, tags_behind}
use Rattle.law_turns.specs.Operating.{behind, done_in}
use Rattle.law_turns.specs.Turning.{DecodeAlike}
use Rattle.law_turns.proofs.OperateLemmas.{calls_keep_matches}
use Rattle.law_turns.proofs.RunLemmas.{decoded_alike}
use Rattle.law_turns.proofs.SettleLemmas.{match_settled}

module _ (table : List Row) (pid : ℕ) where
  -- a call of a process that lives is what its request comes to
  pub by_request : (rows : List Row) (s : State ℕ Image) (p : Process ℕ Image) (reply : Decoded) → process pid s ≡ Some p → (decoded_by p).reply ≡ reply → plain_call rows pid s ≡ after_decoding rows pid reply (decoded_in pid p s)
  by_request rows s p reply lives is =
      ap (λ o. option_map_or (plain_call_of rows pid s) o (record { state = s; end = end.Waits; child = None; handed = nothing_handed })) lives
      ∙ ap (λ reply. after_decoding rows pid reply (decoded_in pid p s)) is

  module _ (s w : State ℕ Image) (p q : Process ℕ Image) (tags : TagTable) (at : StandsAtCall table pid s w p q tags) where
    alike : DecodeAlike table tags pid s w p q
    alike = decoded_alike table tags pid s w p q at.matches at.lives at.also at.unread

    came_alike : (one other : Came) (after : TagTable) → plain_call table pid s ≡ one → plain_call plain pid w ≡ other → CameAlike table after one other → CameAlike table after (plain_call table pid s) (plain_call plain pid w)
    came_alike one other after is also came = subst (λ x. CameAlike table after x (plain_call plain pid w)) (sym is) (subst (λ y. CameAlike table after one y) (sym also) came)

    refused_alike : (e : Errno) → (decoded_by p).reply ≡ Err e → CameAlike table tags (plain_call table pid s) (plain_call plain pid w)
    refused_alike e is =
        came_alike (refusal_told pid e (decoded_in pid p s)) (refusal_told pid e (decoded_in pid q w)) tags
        (by_request table s p (Err e) at.lives is) (by_request plain w q (Err e) at.also (sym alike.requests ∙ is))
        (record { states = match_settled table tags pid (Answer (neg_ℤ (pos (errno_number e)))) (decoded_in pid p s) (decoded_in pid q w) alike.matches; ends = refl; children = refl })

    module _ (r : Request) (kind : IsNoExec r) (told : IsToldAlike table pid s w p q tags r) where
      abbrev one_told : Seen
      one_told = seen table pid (decoded_in pid p s) r

      operated_alike : CameAlike table (tags_behind table pid s w p q tags r) (operated table pid r (decoded_in pid p s)) (operated plain pid r (decoded_in pid q w))
      operated_alike =
          let carried = calls_keep_matches pid r one_told table (mounts_walked (targets_of table pid (decoded_in pid p s) r)) (mounts_walked (targets_of plain pid (decoded_in pid q w) r)) (decoded_in pid p s) (decoded_in pid q w) tags told.calm alike.matches in
          let replies : (done_in pid r one_told (decoded_in pid p s)).reply ≡ (done_in pid r (seen plain pid (decoded_in pid q w) r) (decoded_in pid q w)).reply = carried.replies ∙ ap (λ (x : Seen). (done_in pid r x (decoded_in pid q w)).reply) told.told in
          record {
            states =
                subst (λ (x : Seen). IsMatch table (tags_behind table pid s w p q tags r) (operated table pid r (decoded_in pid p s)).state (behind pid r x (mounts_walked (targets_of plain pid (decoded_in pid q w) r)) (decoded_in pid q w))) told.told
                carried.matches;
            ends = ap (λ (x : Reply). end_of r x.outcome) replies;
            children = λ i. child_of (alike.matches.bares i).next_pid r (replies i).outcome;
          }

      called_alike : (decoded_by p).reply ≡ Ok r → CameAlike table (tags_behind table pid s w p q tags r) (plain_call table pid s) (plain_call plain pid w)
      called_alike is =
          came_alike (operated table pid r (decoded_in pid p s)) (operated plain pid r (decoded_in pid q w)) (tags_behind table pid s w p q tags r)
          (by_request table s p (Ok r) at.lives is ∙ sym (no-exec-requested table pid (decoded_in pid p s) r kind))
          (by_request plain w q (Ok r) at.also (sym alike.requests ∙ is) ∙ sym (no-exec-requested plain pid (decoded_in pid q w) r kind))
          operated_alike

pub refused_calls_come_alike : RefusedCallsComeAlike
refused_calls_come_alike table pid s w p q tags e at is = refused_alike table pid s w p q tags at e is

pub calls_come_alike : CallsComeAlike
calls_come_alike table pid s w p q tags r at is kind told = called_alike table pid s w p q tags at r kind told is
