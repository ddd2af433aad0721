use Rattle.std.proofs.Common.{◌<◌, ◌+◌, ◌^◌, ◌∙◌, sym, ap, subst, refl, arith}
use Rattle.std.specs.FinMap as map
use Rattle.std.specs.Option.{option_map_or}
use Rattle.kr_files.specs.Files.{Counted, counted_more}
use Rattle.kr_tree.specs.pr_base.Maps.{changed}
use Rattle.kr_files.proofs.CountLemmas.{raised-none, raised-some, raised-nothing, raised-all, raise_fits}
use Rattle.kr_files.proofs.open_files.OpenFiles.raise_all.Goals as goal
use Rattle.kr_files.proofs.open_files.OpenFiles.raise_all.Goals.{in-Some, in_default}

pub raise-requires-clause-named : goal.raise-requires-clause-named
raise-requires-clause-named g c =
    ap (λ m. map.get m c.in-Some.descriptor.key) c.loop-fd.invariant.keys
    ∙ c.requires.named c.loop-fd.fd c.in-Some.descriptor (sym c.get.ensures ∙ c.in-Some.is)

pub raise-requires-clause-counted : goal.raise-requires-clause-counted
raise-requires-clause-counted g c =
    subst (λ files. option_map_or (λ (h : Counted g.row.M.Denot). h.count) (map.get files c.in-Some.descriptor.number) 0 + 1 < 2 ^ 32) (sym c.loop-fd.invariant.files)
    (raise_fits c.args.self.now.files c.args.d.now c.loop-fd.fd c.in-Some.descriptor (omega (arith, c.len-fd-end.ensures.bound)) (sym c.get.ensures ∙ c.in-Some.is) c.requires.counted)

pub loop-fd-init : goal.loop-fd-init
loop-fd-init g c = record { keys = refl; files = raised-nothing c.args.self.now.files c.args.d.now 0; within = omega arith }

pub loop-fd-preserved : goal.loop-fd-preserved
loop-fd-preserved g c =
    elim c.match-get.branch [
      | in-Some w ↦ record {
        keys = ap (λ s. s.keys) w.self-is ∙ w.raise.ensures.keys ∙ c.loop-fd.invariant.keys;
        files = ap (λ s. s.files) w.self-is ∙ w.raise.ensures.files
            ∙ ap (λ files. changed files w.in-Some.descriptor.number (counted_more 1)) c.loop-fd.invariant.files
            ∙ raised-some c.args.self.now.files c.args.d.now c.loop-fd.fd w.in-Some.descriptor (sym c.get.ensures ∙ w.in-Some.is);
        within = omega (arith, c.len-fd-end.ensures.bound);
      }
      | in_default w ↦ record {
        keys = ap (λ s. s.keys) w.self-is ∙ c.loop-fd.invariant.keys;
        files = ap (λ s. s.files) w.self-is ∙ c.loop-fd.invariant.files
            ∙ raised-none c.args.self.now.files c.args.d.now c.loop-fd.fd (sym c.get.ensures ∙ w.in_default.is);
        within = omega (arith, c.len-fd-end.ensures.bound);
      }
    ]

pub returns-clause-files : goal.returns-clause-files
returns-clause-files g c =
    c.loop-fd.invariant.files
    ∙ raised-all c.args.self.now.files c.args.d.now c.loop-fd.fd c.loop-fd.invariant.within (λ q past. c.len-fd-end.ensures.free q (omega arith))
