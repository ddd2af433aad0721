use Rattle.std.proofs.Common.{◌≡◌, ◌++◌, ◌∷◌, [], ◌∙◌, ◌<◌, ℕ, Some, None, sym, ap, subst, rules}
use Rattle.std.specs.Prelude.{position}
use Rattle.std.proofs.lemmas.List.Quantifiers.{position-Some}
use Rattle.pr_words.specs.Values.{variable_name}
use Rattle.pr_words.specs.Variables.{with_variable}
use Rattle.pr_words.specs.Kept.{has_name}
use Rattle.pr_words.proofs.IndexLemmas.{copied_name, copied_none, index_set, put_named, put_nameless, put_new}
use Rattle.pr_words.proofs.variables.Variables.put.Goals as goal
use Rattle.pr_words.proofs.variables.Variables.put.Goals.{In-Some, In-Some-copied}

named : (c : In-Some) → variable_name c.args.text ≡ Some c.in-Some.name.items
named c = copied_name c.in_ok-name.field-0 c.in-Some.name c.args.text (c.in_ok-name.ensures ∙ ap variable_name c.as_slice.ensures) c.in-Some.is

found : (c : In-Some-copied) → position (has_name c.in-Some.name.items) c.self.inside.list.items ≡ Some c.in-Some-copied.place
found c = sym (c.self.invariant c.in-Some.name) ∙ (sym c.get.ensures.value ∙ (sym c.copied.ensures ∙ c.in-Some-copied.is))

pub returns-in_default : goal.returns-in_default
returns-in_default c =
    let nameless = copied_none c.in_ok-name.field-0 c.args.text (c.in_ok-name.ensures ∙ ap variable_name c.as_slice.ensures) c.in_default.is in
    c.in_ok-push.ensures.items ∙ (ap (λ l. l ++ c.args.text ∷ []) c.self.view_is ∙ put_nameless c.args.self.now c.args.text nameless)

pub index_mut-requires : goal.index_mut-requires
index_mut-requires c =
    let P : ℕ → Type 0 = λ n. c.in-Some-copied.place < n in
    subst P (sym c.self.inside.list.ok.0) (position-Some (has_name c.in-Some.name.items) c.self.inside.list.items c.in-Some-copied.place [] (found (goal.at.index_mut-requires c).In-Some-copied)).0

pub invariant_of-self-in-Some-copied : goal.invariant_of-self-in-Some-copied
invariant_of-self-in-Some-copied c =
    let at = goal.at.invariant_of-self-in-Some-copied c in
    index_set c.self.inside.list.items c.self.inside.places c.args.text c.in-Some.name.items c.in-Some-copied.place c.self.invariant (named at.In-Some) (found at.In-Some-copied)

pub returns-in-Some-copied : goal.returns-in-Some-copied
returns-in-Some-copied c =
    let at = goal.at.returns-in-Some-copied c in
    put_named c.self.inside.list.items c.args.text c.in-Some.name.items c.in-Some-copied.place (named at.In-Some) (found at.In-Some-copied)
    ∙ ap (with_variable c.args.text) c.self.view_is

pub returns-in_ok-add-in-None : goal.returns-in_ok-add-in-None
returns-in_ok-add-in-None c =
    let at = goal.at.returns-in_ok-add-in-None c in
    let none : position (has_name c.in-Some.name.items) c.self.inside.list.items ≡ None = sym (c.self.invariant c.in-Some.name) ∙ (sym c.get.ensures.value ∙ (sym c.copied.ensures ∙ c.in-None.is)) in
    let items : c.add.new.self ≡ c.self.inside.list.items ++ c.args.text ∷ [] = search (rules, c.in_ok-add-in-None.ensures, c.self.view_is) in
    items ∙ (put_new c.self.inside.list.items c.args.text c.in-Some.name.items (named at.In-Some) none ∙ ap (with_variable c.args.text) c.self.view_is)
