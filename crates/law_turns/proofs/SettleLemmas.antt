-- What the callers of two states that match are told of their calls.
use Rattle.std.proofs.Common.{◌≡◌, ℕ, Bool, true, false, cond, List, [], ◌∷◌, Some, refl, sym, ap, ◌∙◌, arith}
use Rattle.std.specs.Prelude.{map as map_list, ◌==◌}
use Rattle.std.specs.Option.{option_map}
use Rattle.std.proofs.lemmas.Option.{same_Some}
use Rattle.pt_results.specs.rv_mem.Layout.{Layout}
use Rattle.pt_results.specs.rv_mem.declared.regs.Regs.{Regs}
use Rattle.pt_results.specs.pt_bind.Tags.{TagTable}
use Rattle.law_places.specs.kr_view.View.{Row, plain}
use Rattle.kr_core.proofs.law_lawful.AfterLemmas.{pages-same, parts-of}
use Rattle.kr_core.proofs.law_lawful.OwnChangeLemmas.{process-keeps}
use Rattle.law_places.specs.kr_model.Applied.{with_living}
use Rattle.law_places.specs.kr_model.Bare.{bare, bare_process, pins_of}
use Rattle.law_places.specs.kr_model.Lawful.{IsLawful}
use Rattle.law_places.specs.kr_model.State.{Image, Process, State, image_layout, process, with_process}
use Rattle.law_places.specs.kr_model.declared.outcome.Outcome.{Outcome}
use Rattle.law_places.specs.kr_model.declared.outcome.Outcome.TheVariants.{Answer, Wait, Ended, NoMemory}
use Rattle.kr_core.specs.kr_steps.Answering.{going, with_answer}
use Rattle.kr_core.specs.kr_steps.Settling.{settled}
use Rattle.law_places.specs.Matching.{IsMatch}
use Rattle.law_turns.proofs.ImageLemmas.{places_idle, tags_idle}
use Rattle.law_turns.proofs.MatchLemmas.{images}

module _ (pid : ℕ) (regs : Regs → Regs) (waits : Bool) where
  abbrev pub gone_on : State ℕ Image → State ℕ Image
  gone_on s = with_living (with_process pid (going regs waits)) s

  -- a process without a memory, that waits or doesn't
  abbrev stood : Process (Unit {0}) Layout → Process (Unit {0}) Layout
  stood p = record p { waits = waits }

  bare_each : (ps : List (Process ℕ Image)) → map_list (bare_process image_layout) (with_process pid (going regs waits) ps) ≡ with_process pid stood (map_list (bare_process image_layout) ps)
  bare_each [] = refl
  bare_each (p ∷ ps) =
      ap (λ b. b ∷ map_list (bare_process image_layout) (with_process pid (going regs waits) ps)) (by (p.pid == pid))
      ∙ ap (λ rest. cond (p.pid == pid) (stood (bare_process image_layout p)) (bare_process image_layout p) ∷ rest) (bare_each ps)
    where
      by : (b : Bool) → bare_process image_layout (cond b (going regs waits p) p) ≡ cond b (stood (bare_process image_layout p)) (bare_process image_layout p)
      by true = refl
      by false = refl

  bare_gone : (pins : ℕ → ℕ) (s : State ℕ Image) → bare image_layout pins (gone_on s) ≡ with_living (with_process pid stood) (bare image_layout pins s)
  bare_gone pins s = ap (λ living. record (bare image_layout pins s) { living = living }) (bare_each s.living)

  pub lawful_gone : (table : List Row) (s : State ℕ Image) → IsLawful (λ m. m) table s → IsLawful (λ m. m) table (gone_on s)
  lawful_gone table s l =
      process-keeps (λ m. m) table s l pid (going regs waits) (record { pids = λ p. refl; cwds = λ p. refl; exes = λ p. refl; counts = λ p n. refl })
      (λ p e. let own = l.processes pid p e in record { cwd = own.cwd; exe = own.exe; exe_name = own.exe_name; breaks = own.breaks; whole = own.whole; paged = own.paged; pages = own.pages })
      (λ p e. let own = (parts-of (λ m. m) table s l).descriptors pid p e in record { each = own.each })
      (let same = pages-same pid (going regs waits) (λ p. refl) s.living in let room = l.room in omega (arith, same, room))

  pub match_gone : (table : List Row) (tags : TagTable) (s w : State ℕ Image) → IsMatch table tags s w → IsMatch table tags (gone_on s) (gone_on w)
  match_gone table tags s w m = record {
    bares = bare_gone (pins_of table) s ∙ ap (λ b. with_living (with_process pid stood) b) m.bares ∙ sym (bare_gone (pins_of plain) w);
    images = images table tags s w m pid (going regs waits) (going regs waits) (λ p. refl) (λ p. refl) (λ x y at_x at_y. (ap regs (regs_alike x y at_x at_y), m.images.memories pid x y at_x at_y));
    tagged = tags_idle table pid (going regs waits) s tags (λ p. refl) (λ p own. record { cwd = own.cwd; exe = own.exe; fds = own.fds }) m.tagged;
    placed = places_idle table pid (going regs waits) s (record { pid = λ p. refl; cwd = λ p. refl; exe = λ p. refl }) m.placed (lawful_gone table s m.placed.lawful);
  }
    where
      regs_alike : (x y : Process ℕ Image) → process pid s ≡ Some x → process pid w ≡ Some y → x.image.regs ≡ y.image.regs
      regs_alike x y at_x at_y = same_Some _ _ (sym (ap (option_map (λ p. p.image.regs)) at_x) ∙ m.images.registers pid ∙ ap (option_map (λ p. p.image.regs)) at_y)

pub match_settled : (table : List Row) (tags : TagTable) (pid : ℕ) (outcome : Outcome) (s w : State ℕ Image) → IsMatch table tags s w → IsMatch table tags (settled pid outcome s) (settled pid outcome w)
match_settled table tags pid (Answer value) s w m = match_gone pid (with_answer value) false table tags s w m
match_settled table tags pid Wait s w m = match_gone pid (λ regs. regs) true table tags s w m
match_settled table tags pid Ended s w m = m
match_settled table tags pid NoMemory s w m = m
