-- A call behind its first stop, of a process that stands at the same call in two states that match.
use Rattle.std.specs.Prelude.{◌≡◌, ℕ, false, List, Some, Ok, Err}
use Rattle.kr_core.specs.pr_base.declared.errno.Errno.{Errno}
use Rattle.pt_results.specs.rv_mem.Actions.{CarriedOut, carried_out}
use Rattle.pt_results.specs.pt_bind.Tags.{TagTable}
use Rattle.law_places.specs.kr_view.View.{Row, plain}
use Rattle.pt_results.specs.kr_calls.Decoding.{Decoded, decoding}
use Rattle.pt_results.specs.kr_calls.declared.request.Request.{Request}
use Rattle.law_places.specs.kr_model.State.{Image, Process, State, process}
use Rattle.law_places.specs.kr_model.Walks.{seen, targets_of}
use Rattle.kr_core.specs.law_allowed.Told.{mounts_walked}
use Rattle.kr_core.specs.kr_steps.Calls.{IsNoExec}
use Rattle.kr_core.specs.kr_steps.Computing.{computed}
use Rattle.kr_core.specs.kr_turns.PlainCall.{Came, plain_call}
use Rattle.law_places.specs.Matching.{IsMatch}
use Rattle.law_turns.specs.Changing.{all_tags_made}
use Rattle.law_turns.specs.Operating.{IsCalmCall, done_in, written_in}

-- the call of a process is decoded, and what is read for that is noted
abbrev pub decoded_by : Process ℕ Image → CarriedOut Decoded
decoded_by p = carried_out (decoding p.image.regs) p.image.memory

abbrev pub decoded_in : ℕ → Process ℕ Image → State ℕ Image → State ℕ Image
decoded_in pid p s = computed pid p.image.regs (decoded_by p).memory s

-- what a call came to on both, but for where its path led
pub record CameAlike (table : List Row) (tags : TagTable) (one other : Came) : Type 0 where
  pub states : IsMatch table tags one.state other.state
  pub ends : one.end ≡ other.end
  pub children : one.child ≡ other.child

module _ (table : List Row) (pid : ℕ) (s w : State ℕ Image) (p q : Process ℕ Image) (tags : TagTable) where
  -- of a process that lives in both, and whose call is decoded without a marked byte
  pub record StandsAtCall : Type 0 where
    pub matches : IsMatch table tags s w
    pub lives : process pid s ≡ Some p
    pub also : process pid w ≡ Some q
    pub unread : (decoded_by p).memory.read_marked ≡ false

  -- the tags behind a call
  abbrev pub tags_behind : Request → TagTable
  tags_behind r =
      let at = decoded_in pid p s in
      let told = seen table pid at r in
      all_tags_made table (mounts_walked (targets_of table pid at r)) pid (written_in pid r told at) (done_in pid r told at).reply.changes tags

  -- what it is told of its paths is the same on both, and it is calm
  pub record IsToldAlike (r : Request) : Type 0 where
    pub told : seen table pid (decoded_in pid p s) r ≡ seen plain pid (decoded_in pid q w) r
    pub calm : IsCalmCall pid r (seen table pid (decoded_in pid p s) r) table (mounts_walked (targets_of table pid (decoded_in pid p s) r)) (mounts_walked (targets_of plain pid (decoded_in pid q w) r)) (decoded_in pid p s) (decoded_in pid q w)

-- a call that isn't decoded is refused on both
abbrev pub RefusedCallsComeAlike : Type 0
RefusedCallsComeAlike =
    (table : List Row) (pid : ℕ) (s w : State ℕ Image) (p q : Process ℕ Image) (tags : TagTable) (e : Errno) → StandsAtCall table pid s w p q tags → (decoded_by p).reply ≡ Err e
    → CameAlike table tags (plain_call table pid s) (plain_call plain pid w)

-- a call that is, other than execve(2), comes to the same where the same is told of its paths
abbrev pub CallsComeAlike : Type 0
CallsComeAlike =
    (table : List Row) (pid : ℕ) (s w : State ℕ Image) (p q : Process ℕ Image) (tags : TagTable) (r : Request) → StandsAtCall table pid s w p q tags → (decoded_by p).reply ≡ Ok r → IsNoExec r
    → IsToldAlike table pid s w p q tags r → CameAlike table (tags_behind table pid s w p q tags r) (plain_call table pid s) (plain_call plain pid w)
