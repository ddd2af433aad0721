-- What the reading of lists leaves of a state.
use Rattle.std.proofs.Common.{◌≡◌, ℕ, get_or, sym, ap, subst, ◌∙◌}
use Rattle.std.specs.Prelude.{Result, Ok, Err, IsSome}
use Rattle.std.specs.Vec.{with_item}
use Rattle.elf_load.specs.pr_base.declared.errno.Errno.{Errno}
use Rattle.elf_load.specs.rv_mem.Layout.{layout_of}
use Rattle.elf_load.specs.rv_mem.Memory.{Memory}
use Rattle.kr_exec.specs.kr_view.declared.target.WalkFault.TheVariants as fault
use Rattle.kr_exec.specs.kr_calls.declared.fault.CallFault.TheVariants as call
use Rattle.kr_perform.specs.kr_model.State as model
use Rattle.kr_perform.specs.kr_ops.declared.state.Process.{Process}
use Rattle.kr_perform.specs.kr_ops.declared.state.State.{State}
use Rattle.kr_perform.specs.kr_ops.Living.{HasPid}
use Rattle.kr_perform.specs.kr_ops.Meaning.{meaning}
use Rattle.kr_perform.specs.kr_ops.Sound.{IsSound}
use Rattle.kr_perform.proofs.kr_ops.PageLemmas.{with_mem}
use Rattle.kr_perform.specs.kr_seen.Carrying.{memory_of}
use Rattle.kr_perform.specs.kr_seen.Using.{HasMemory}
use Rattle.kr_perform.proofs.kr_seen.UsingLemmas.{has-now, memory-at}
use Rattle.kr_exec.specs.Lists.{Reads}
use Rattle.kr_exec.specs.declared.lists.Lists.{Lists}
use Rattle.kr_execve.specs.Executing.{ReadsLists, lists_in}

module _ {T : Type 0} {M : ℕ} (s : State T M) (pid k : ℕ) (p : Process T M) (sound : IsSound s) (at : HasPid pid k s.living.items) (e : p ≡ get_or s.living.items k p) (lives : IsSome (model.process pid (meaning s)))
    (args env : ℕ) (memory : Memory) (pages : memory.pages ≡ p.mem.pages) where
  abbrev after : State T M
  after = record s { living = with_item s.living k (with_mem p memory) }

  leaves : (answer : Result Lists Errno) → (lists_in args env p.mem).reply ≡ answer → memory ≡ (lists_in args env p.mem).memory
      → ((lists_in args env (memory_of pid (meaning s))).reply ≡ answer) × HasMemory pid (lists_in args env (memory_of pid (meaning s))).memory s after
  leaves answer reply is =
      let laid : layout_of (lists_in args env p.mem).memory.pages ≡ layout_of p.mem.pages = ap (λ (m : Memory). layout_of m.pages) (sym is) ∙ ap layout_of pages in
      let own : memory_of pid (meaning s) ≡ p.mem = memory-at s pid k p sound at e in
      subst (λ (m : Memory). ((lists_in args env m).reply ≡ answer) × HasMemory pid (lists_in args env m).memory s after) (sym own)
      (reply, has-now s pid k p sound at e memory (lists_in args env p.mem).memory lives is laid)

  pub read-lists : (lists : Lists) → Reads (Ok lists) (lists_in args env p.mem) p.mem memory → ReadsLists pid args env s after (Ok lists)
  read-lists lists reads = leaves (Ok lists) reads.0 reads.1

  pub read-refused : (errno : Errno) → Reads {A = Lists} (Err (call.Err errno)) (lists_in args env p.mem) p.mem memory → ReadsLists pid args env s after (Err (fault.Err errno))
  read-refused errno reads = leaves (Err errno) reads.0 reads.1
