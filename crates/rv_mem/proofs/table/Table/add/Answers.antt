use Rattle.std.proofs.Common.{◌≡◌, ◌∙◌, ap, refl, length, None}
use Rattle.std.specs.FinMap as map
use Rattle.rv_table.proofs.pr_base.BTreeLemmas.{inserted, removed}
use Rattle.rv_table.proofs.pr_base.MapLemmas.{remove-insert}
use Rattle.rv_mem.specs.Page.{fresh_page}
use Rattle.rv_mem.specs.Places.{places_of}
use Rattle.rv_mem.proofs.PlaceLemmas.{no_place, AreNumbered-push, paired-push, pages_at-push}
use Rattle.rv_mem.proofs.table.Table.add.Goals as goal

pub invariant_of-self-in-Ok : goal.invariant_of-self-in-Ok
invariant_of-self-in-Ok g c =
    let old = places_of c.self.inside.places.entries in
    let numbers = c.self.inside.numbers.items in
    let pages = c.self.inside.pages in
    let free : map.get old c.args.number ≡ None = no_place (places_of c.self.inside.places.entries) c.self.inside.pages c.args.self.now c.args.number c.self.view_is c.requires in
    let is : places_of c.insert.new.self.entries ≡ map.insert old c.args.number (length pages) =
    inserted c.self.inside.places c.insert.new.self old c.args.number c.len-place.result refl c.in_ok-insert.ensures.updates ∙ ap (map.insert old c.args.number) c.len-place.ensures in
    rw (is, c.in-Ok.ensures.numbers, c.in-Ok.ensures.pages) (AreNumbered-push old numbers pages c.args.number (fresh_page c.args.rights) c.self.invariant.0 c.self.invariant.1 free, paired-push old numbers pages c.args.number (fresh_page c.args.rights) c.self.invariant.0 c.self.invariant.1 free)

pub returns-in-Ok-clause-ok : goal.returns-in-Ok-clause-ok
returns-in-Ok-clause-ok g c =
    let old = places_of c.self.inside.places.entries in
    let numbers = c.self.inside.numbers.items in
    let pages = c.self.inside.pages in
    let free : map.get old c.args.number ≡ None = no_place (places_of c.self.inside.places.entries) c.self.inside.pages c.args.self.now c.args.number c.self.view_is c.requires in
    let is : places_of c.insert.new.self.entries ≡ map.insert old c.args.number (length pages) =
    inserted c.self.inside.places c.insert.new.self old c.args.number c.len-place.result refl c.in_ok-insert.ensures.updates ∙ ap (map.insert old c.args.number) c.len-place.ensures in
    rw (is, c.in-Ok.ensures.pages) (pages_at-push old numbers pages c.args.number (fresh_page c.args.rights) c.self.invariant.0 c.self.invariant.1 free ∙ ap (λ m. map.insert m c.args.number (fresh_page c.args.rights)) c.self.view_is)

pub invariant_of-self-in-Err : goal.invariant_of-self-in-Err
invariant_of-self-in-Err g c =
    let old = places_of c.self.inside.places.entries in
    let numbers = c.self.inside.numbers.items in
    let pages = c.self.inside.pages in
    let free : map.get old c.args.number ≡ None = no_place (places_of c.self.inside.places.entries) c.self.inside.pages c.args.self.now c.args.number c.self.view_is c.requires in
    let is : places_of c.insert.new.self.entries ≡ map.insert old c.args.number (length pages) =
    inserted c.self.inside.places c.insert.new.self old c.args.number c.len-place.result refl c.in_ok-insert.ensures.updates ∙ ap (map.insert old c.args.number) c.len-place.ensures in
    let back : places_of c.remove-place.new.self.entries ≡ old = removed c.insert.new.self c.remove-place.new.self (map.insert old c.args.number (length pages)) c.args.number is c.remove-place.ensures.updates ∙ remove-insert old c.args.number (length pages) free in
    rw (back, c.in-Err.ensures.err_numbers, c.in-Err.ensures.err_pages) c.self.invariant

pub returns-in-Err-clause-err : goal.returns-in-Err-clause-err
returns-in-Err-clause-err g c =
    let old = places_of c.self.inside.places.entries in
    let numbers = c.self.inside.numbers.items in
    let pages = c.self.inside.pages in
    let free : map.get old c.args.number ≡ None = no_place (places_of c.self.inside.places.entries) c.self.inside.pages c.args.self.now c.args.number c.self.view_is c.requires in
    let is : places_of c.insert.new.self.entries ≡ map.insert old c.args.number (length pages) =
    inserted c.self.inside.places c.insert.new.self old c.args.number c.len-place.result refl c.in_ok-insert.ensures.updates ∙ ap (map.insert old c.args.number) c.len-place.ensures in
    let back : places_of c.remove-place.new.self.entries ≡ old = removed c.insert.new.self c.remove-place.new.self (map.insert old c.args.number (length pages)) c.args.number is c.remove-place.ensures.updates ∙ remove-insert old c.args.number (length pages) free in
    rw (back, c.in-Err.ensures.err_pages) c.self.view_is
