use Rattle.std.proofs.Common.{◌≡◌, List, Option, false, ap, subst, sym, ◌∙◌}
use Rattle.std.specs.Option.{option_map_or}
use Rattle.kr_core.specs.Between.{begun_at, between_of, is_exec_at}
use Rattle.kr_core.specs.Kernel.{Kernel}
use Rattle.kr_core.specs.declared.paused.Begun.{Begun}
use Rattle.kr_core.specs.declared.paused.Paused.{Paused}
use Rattle.kr_core.proofs.kernel.Kernel.last_is_exec.Goals as goal

pub returns-in-Some : goal.returns-in-Some
returns-in-Some g c =
    let told = ap (λ (l : List Paused). begun_at (between_of c.args.pid l)) (sym c.as_slice.ensures.value) ∙ ap begun_at (sym c.between_of.ensures) ∙ sym c.begun_at.ensures in
    subst (λ (k : Kernel g.row.P.Denot g.row.S.Denot g.row.P-Mount.Denot g.row.MARKED). c.in-Some.begun.exec ≡ is_exec_at (between_of c.args.pid k.paused)) c.self.view_is
    (sym (ap (λ (o : Option Begun). option_map_or (λ begun. begun.exec) o false) (told ∙ c.in-Some.is)))

pub returns-in-None : goal.returns-in-None
returns-in-None g c =
    let told = ap (λ (l : List Paused). begun_at (between_of c.args.pid l)) (sym c.as_slice.ensures.value) ∙ ap begun_at (sym c.between_of.ensures) ∙ sym c.begun_at.ensures in
    subst (λ (k : Kernel g.row.P.Denot g.row.S.Denot g.row.P-Mount.Denot g.row.MARKED). false ≡ is_exec_at (between_of c.args.pid k.paused)) c.self.view_is
    (sym (ap (λ (o : Option Begun). option_map_or (λ begun. begun.exec) o false) (told ∙ c.in-None.is)))
