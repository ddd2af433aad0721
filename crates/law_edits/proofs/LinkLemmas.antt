-- What readlinkat(2) tells of a link of the process directory, told by a tracer.
use Rattle.std.proofs.Common.{◌≡◌, ◌≤◌, ℕ, Bool, true, false, List, [], ◌∷◌, length, take, take_all, length-take, min, refl, sym, ap, subst, ◌∙◌, arith, pos}
use Rattle.std.specs.Prelude.{nat_le}
use Rattle.std.proofs.lemmas.Bool.{leb-false, leb-true}
use Rattle.pt_tracer.specs.rv_mem.Actions.{carried_out}
use Rattle.law_walks.specs.kr_model.AttributeRows.{tell_text}
use Rattle.pt_tracer.specs.pt_args.declared.edit.Edit.TheVariants.{Emulate}
use Rattle.pt_tracer.specs.Watched.{applied}
use Rattle.law_edits.specs.Answers.{AreAnsweredAlike, ErrorsAreToldAlike, LinkTextsAreToldAlike}
use Rattle.law_edits.proofs.AnswerLemmas.{put_alike, refused_alike}

-- no more bytes than there are
as_many : (n : ℕ) (text : List ℕ) → take (min (length text) n) text ≡ take n text
as_many n text = by (nat_le (length text) n) refl
  where
    by : (b : Bool) → nat_le (length text) n ≡ b → take (min (length text) n) text ≡ take n text
    by true few =
        let at_most : length text ≤ n = leb-true (length text) n few in
        let all : min (length text) n ≡ length text = omega (arith, at_most) in
        ap (λ k. take k text) all ∙ take_all (length text) text (omega arith) ∙ sym (take_all n text at_most)
    by false many =
        let more = leb-false (length text) n many in
        let some : min (length text) n ≡ n = omega (arith, more) in
        ap (λ k. take k text) some

so_many : (n : ℕ) (text : List ℕ) → length (take n text) ≡ min (length text) n
so_many n text = let long = length-take n text in omega (arith, long)

pub link_texts_are_told_alike : LinkTextsAreToldAlike
link_texts_are_told_alike m t text buf count there same =
    let bytes = take count text in
    let alike : AreAnsweredAlike (carried_out (tell_text buf count text) m) (applied (Emulate ((buf, bytes) ∷ []) (pos (length bytes))) t) = put_alike m t there same buf bytes (length bytes) in
    subst (λ n. AreAnsweredAlike (carried_out (tell_text buf count text) m) (applied (Emulate ((buf, take (min (length text) count) text) ∷ []) (pos n)) t)) (so_many count text)
    (subst (λ put. AreAnsweredAlike (carried_out (tell_text buf count text) m) (applied (Emulate ((buf, put) ∷ []) (pos (length bytes))) t)) (sym (as_many count text)) alike)

pub errors_are_told_alike : ErrorsAreToldAlike
errors_are_told_alike m t e there same = refused_alike m t there same e
