-- What a tracer writes and answers in place of a kernel, beside what that kernel would write and answer.
use Rattle.std.proofs.Common.{◌≡◌, ℕ, Bool, true, false, cond, List, [], ◌∷◌, length, Some, refl, sym, ap, subst, ◌∙◌, pos}
use Rattle.std.specs.Prelude.{◌&&◌, IsSome}
use Rattle.pt_tracer.specs.pr_base.declared.errno.Errno.{Errno}
use Rattle.pt_tracer.specs.pr_base.declared.errno.Errno.TheVariants.{EFAULT}
use Rattle.pt_tracer.specs.rv_mem.Actions.{AreEqualUnmarked, Done, MayUse, WriteBytes, carried_out, write_if_allowed}
use Rattle.pt_tracer.specs.rv_mem.Memory.{Memory, with_pages}
use Rattle.pt_tracer.specs.rv_mem.Pages.{Pages, allows_all, written}
use Rattle.pt_tracer.specs.rv_mem.declared.rights.Use.{Use}
use Rattle.pt_tracer.specs.rv_mem.declared.rights.Use.TheVariants.{Write}
use Rattle.pt_tracer.proofs.rv_mem.ActionLemmas.{AreEqualUnmarked-written, reads_alike}
use Rattle.law_walks.specs.kr_model.Reply.{done, refuse}
use Rattle.law_walks.specs.kr_model.State.{Image, process}
use Rattle.kr_turns.specs.kr_stops.Stopped.{IsThere, Stopped, image_at}
use Rattle.kr_turns.proofs.kr_stops.EditLemmas.{computed-lives, image-edited}
use Rattle.pt_tracer.specs.pt_args.declared.edit.Edit.TheVariants.{Cancel, Emulate}
use Rattle.pt_tracer.specs.pt_faker.Faking.{no_longer_called}
use Rattle.pt_tracer.specs.pt_faker.Stopping.{after_poke, memory_at, with_register}
use Rattle.pt_tracer.specs.pt_ident.Identity.{refusal}
use Rattle.pt_tracer.specs.Watched.{applied, refused}
use Rattle.law_edits.specs.Answers.{AreAnsweredAlike}

-- pages of the same rights may be used alike
pub allowed_alike : (m w : Pages) → AreEqualUnmarked m w → (at n : ℕ) (what : Use) → allows_all m at n what ≡ allows_all w at n what
allowed_alike m w same at n what =
    (reads_alike (MayUse at n (what ∷ []) (λ b. Done b)) (record { pages = m; read_marked = false }) (record { pages = w; read_marked = false }) same refl).0

-- ---- the memory of a stopped process

module _ (t : Stopped) (lives : IsSome (process t.pid t.state)) where
  -- an edited register leaves it
  kept_by_register : (k v : ℕ) → memory_at (with_register k v t) ≡ memory_at t
  kept_by_register k v = ap (λ (i : Image). i.memory) (image-edited _ (memory_at t) t lives)

  put_by_poke : (at : ℕ) (bytes : List ℕ) → memory_at (after_poke at bytes t) ≡ with_pages (memory_at t) (written (memory_at t).pages at bytes)
  put_by_poke at bytes = ap (λ (i : Image). i.memory) (image-edited (image_at t).regs (with_pages (memory_at t) (written (memory_at t).pages at bytes)) t lives)

  lives_poked : (at : ℕ) (bytes : List ℕ) → IsSome (process t.pid (after_poke at bytes t).state)
  lives_poked at bytes = computed-lives t.pid (image_at t).regs (with_pages (memory_at t) (written (memory_at t).pages at bytes)) t.state lives

module _ (m : Memory) (t : Stopped) (there : IsThere t) (same : AreEqualUnmarked m.pages (memory_at t).pages) where
  -- ---- an error

  kept_pages : AreEqualUnmarked m.pages (memory_at (no_longer_called t)).pages
  kept_pages = subst (λ (w : Memory). AreEqualUnmarked m.pages w.pages) (sym (kept_by_register t there.lives 17 _)) same

  pub refused_alike : (e : Errno) → AreAnsweredAlike (carried_out (refuse e) m) (applied (Cancel e) t)
  refused_alike e = record { answer = refusal e; carried = refl; told = refl; memories = kept_pages }

  -- ---- bytes that are written, or EFAULT

  module _ (buf : ℕ) (bytes : List ℕ) where
    put_memory : memory_at (no_longer_called (after_poke buf bytes t)) ≡ with_pages (memory_at t) (written (memory_at t).pages buf bytes)
    put_memory = kept_by_register (after_poke buf bytes t) (lives_poked t there.lives buf bytes) 17 _ ∙ put_by_poke t there.lives buf bytes

    put_pages : AreEqualUnmarked (written m.pages buf bytes) (memory_at (no_longer_called (after_poke buf bytes t))).pages
    put_pages = subst (λ (w : Memory). AreEqualUnmarked (written m.pages buf bytes) w.pages) (sym put_memory) (AreEqualUnmarked-written bytes m.pages (memory_at t).pages same buf)

    pub put_alike : (n : ℕ) → AreAnsweredAlike (carried_out (write_if_allowed buf bytes (refuse EFAULT) (done n [])) m) (applied (Emulate ((buf, bytes) ∷ []) (pos n)) t)
    put_alike n = by (allows_all m.pages buf (length bytes) Write) (allows_all (memory_at t).pages buf (length bytes) Write) (allowed_alike m.pages (memory_at t).pages same buf (length bytes) Write)
      where
        by : (b c : Bool) → b ≡ c
            → AreAnsweredAlike (carried_out (cond (true && b) (WriteBytes buf bytes (done n [])) (refuse EFAULT)) m)
            (cond (c && true) (record { answer = Some (pos n); stopped = no_longer_called (after_poke buf bytes t) }) (refused EFAULT t))
        by true true e = record { answer = pos n; carried = refl; told = refl; memories = put_pages }
        by false false e = refused_alike EFAULT
        by true false e = absurd cc
        by false true e = absurd cc
