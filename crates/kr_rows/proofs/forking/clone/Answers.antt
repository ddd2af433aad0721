use Rattle.std.proofs.Common.{◌≡◌, ℕ, ◌+◌, ◌≤◌, true, IfSome, lit<, refl, sym, ap, subst, ◌∙◌, [], ◌∷◌, arith}
use Rattle.kr_seen.specs.pr_base.declared.errno.Errno.TheVariants.{EAGAIN, EINVAL, ENOMEM}
use Rattle.kr_seen.specs.rv_mem.Memory.{Memory, page_count}
use Rattle.kr_seen.specs.rv_mem.Pages.{allows_all}
use Rattle.kr_seen.specs.rv_mem.declared.rights.Use.TheVariants.{Write}
use Rattle.kr_seen.specs.kr_model.Change.{Fork}
use Rattle.kr_seen.specs.kr_model.Known.{known}
use Rattle.kr_seen.specs.kr_model.MemoryRows.{all_pages}
use Rattle.kr_seen.specs.kr_model.Reply.{answers, done}
use Rattle.kr_seen.specs.kr_model.State as model
use Rattle.kr_seen.specs.kr_ops.Meaning.{meaning}
use Rattle.kr_seen.proofs.kr_ops.OpeningLemmas.{not-living}
use Rattle.kr_rows.proofs.CloneLemmas.{counts-known, forks, no-fork, no-room, of-memory, pages-known, too-many}
use Rattle.kr_seen.proofs.PerformLemmas.{by-refusal}
use Rattle.kr_seen.proofs.UsingLemmas.{begins, by-uses, goes-on, memory-at}
use Rattle.kr_rows.proofs.forking.clone.Goals as goal

pub unreachable-requires : goal.unreachable-requires
unreachable-requires g c = not-living c.args.state.now c.args.pid (c.index_of.ensures.none c.in_default.is) c.requires.caller.lives

pub returns-then-not-is_fork-clause-performs : goal.returns-then-not-is_fork-clause-performs
returns-then-not-is_fork-clause-performs g c = λ some.
    by-refusal c.args.pid _ c.args.state.now c.args.state.now c.refused.result c.requires.caller.sound.pids EINVAL
    (no-fork (known model.image_layout c.args.pid (meaning c.args.state.now)) c.args.flags c.args.sp c.args.ctid (sym c.is_fork.ensures ∙ c.if-not-is_fork.true)) c.refused.ensures refl

pub returns-then-len-ge-PROCESSES-clause-performs : goal.returns-then-len-ge-PROCESSES-clause-performs
returns-then-len-ge-PROCESSES-clause-performs g c = λ some.
    let s = c.args.state.now in
    let counts = counts-known s c.args.pid in
    let living = s.living.ok.0 in
    let ended = s.ended.ok.0 in
    by-refusal c.args.pid _ s s c.refused-then-len-ge-PROCESSES.result c.requires.caller.sound.pids EAGAIN
    (too-many (known model.image_layout c.args.pid (meaning s)) c.args.flags c.args.sp c.args.ctid (sym c.is_fork.ensures ∙ c.if-not-is_fork.false) (omega arith))
    c.refused-then-len-ge-PROCESSES.ensures refl

pub returns-then-free_pages-pages-clause-performs : goal.returns-then-free_pages-pages-clause-performs
returns-then-free_pages-pages-clause-performs g c = λ some.
    let s = c.args.state.now in
    let counts = counts-known s c.args.pid in
    let living = s.living.ok.0 in
    let ended = s.ended.ok.0 in
    let pages = pages-known s c.args.pid c.in-Some.k c.index.result.now c.requires.caller.sound c.in-Some.ensures.some c.index.ensures in
    let room = c.requires.caller.sound.served.room in
    by-refusal c.args.pid _ s s c.refused-then-free_pages-pages.result c.requires.caller.sound.pids ENOMEM
    (no-room (known model.image_layout c.args.pid (meaning s)) c.args.flags c.args.sp c.args.ctid (sym c.is_fork.ensures ∙ c.if-not-is_fork.false) (omega arith) (omega arith))
    c.refused-then-free_pages-pages.ensures refl

pub fork-requires : goal.fork-requires
fork-requires g c =
    let s = c.args.state.now in
    let p = c.index.result.now in
    let of = of-memory s c.args.pid c.in-Some.k p c.requires.caller.sound c.in-Some.ensures.some c.index.ensures in
    let served = c.requires.caller.sound.served.room in
    let room : s.room + page_count p.mem.pages ≤ all_pages = omega arith in (
      lit< tt,
      (
        c.requires.caller,
        (
          c.requires.numbers,
          (
            of (λ m. s.room + page_count m.pages ≤ all_pages) room,
            of (λ m. IfSome c.told_at-told_at.result (λ a. allows_all m.pages a 4 Write ≡ true))
                (subst (λ (m : Memory). IfSome c.told_at-told_at.result (λ a. allows_all m.pages a 4 Write ≡ true))
                (memory-at s c.args.pid c.in-Some.k p c.requires.caller.sound c.in-Some.ensures.some c.index.ensures) c.told_at-told_at.ensures.allowed),
          ),
        ),
      ),
    )

pub returns-in-Ok-clause-performs : goal.returns-in-Ok-clause-performs
returns-in-Ok-clause-performs g c = λ some.
    let s = c.args.state.now in
    let k = known model.image_layout c.args.pid (meaning s) in
    let counts = counts-known s c.args.pid in
    let living = s.living.ok.0 in
    let ended = s.ended.ok.0 in
    let pages = pages-known s c.args.pid c.in-Some.k c.index.result.now c.requires.caller.sound c.in-Some.ensures.some c.index.ensures in
    let room = c.requires.caller.sound.served.room in
    let row = forks k c.args.flags c.args.sp c.args.ctid (sym c.is_fork.ensures ∙ c.if-not-is_fork.false) (omega arith) (omega arith) in
    let child = c.in-Ok.child in
    let birth = λ (n : ℕ). done n (Fork (record { pid = n; sp = c.args.sp; told_at = c.told_at-told_at.result }) ∷ []) in
    by-uses c.args.pid _ s s c.fork.new.self c.number.result (answers child (Fork (record { pid = child; sp = c.args.sp; told_at = c.told_at-told_at.result }) ∷ [])) c.requires.caller.sound.pids
    (goes-on c.args.pid _ s s _ (birth child) (ap birth (sym c.in-Ok.ensures.number)) ((c.told_at-told_at.ensures.carries k c.args.sp).comes _ s (begins c.args.pid _ s _ row)))
    c.number.ensures c.in-Ok.ensures.makes
