use Rattle.std.proofs.Common.{◌≡◌, ◌∙◌, ap, sym, subst, Some}
use Rattle.kr_tree.specs.Tree.{Tree, entry, body_is, is_directory}
use Rattle.kr_tree.specs.Changes.{next_serial, moved, unlinked}
use Rattle.kr_tree.proofs.OntoLemmas.{IsOnto, kept-onto, name_is_left, directories_left}
use Rattle.kr_tree.proofs.RemoveLemmas.{some_name}
use Rattle.kr_tree.proofs.OfBytesLemmas.{known_bytes}
use Rattle.kr_tree.proofs.tree.Tree.move_onto.Goals as goal

pub replace_entry-requires-clause-directories : goal.replace_entry-requires-clause-directories
replace_entry-requires-clause-directories c =
    let t : Tree = record { inodes = c.self.inside.store; next = c.self.inside.next; names = c.self.inside.names; bytes = c.self.inside.bytes } in
    let on : IsOnto t c.args.dir c.args.name.now c.args.to c.args.new.now c.args.ino c.args.old = (subst (λ t. IsOnto t c.args.dir c.args.name.now c.args.to c.args.new.now c.args.ino c.args.old) (sym c.self.view_is) (record { there = c.requires.there; takes = c.requires.takes; well_formed = c.requires.well_formed; named = c.requires.named; apart = c.requires.apart; alike = c.requires.alike; empty = c.requires.empty; aside = c.requires.aside; bytes = known_bytes c.args.new.now c.type_inv.new })) in
    directories_left t c.self.invariant c.args.dir c.args.name.now c.args.to c.args.new.now c.args.ino c.args.old on c.is_directory-is_dir.result (c.is_directory-is_dir.ensures ∙ ap (λ t. body_is is_directory t c.args.ino) (sym c.self.view_is))

pub remove_name-requires : goal.remove_name-requires
remove_name-requires c =
    let t : Tree = record { inodes = c.self.inside.store; next = c.self.inside.next; names = c.self.inside.names; bytes = c.self.inside.bytes } in
    let on : IsOnto t c.args.dir c.args.name.now c.args.to c.args.new.now c.args.ino c.args.old = (subst (λ t. IsOnto t c.args.dir c.args.name.now c.args.to c.args.new.now c.args.ino c.args.old) (sym c.self.view_is) (record { there = c.requires.there; takes = c.requires.takes; well_formed = c.requires.well_formed; named = c.requires.named; apart = c.requires.apart; alike = c.requires.alike; empty = c.requires.empty; aside = c.requires.aside; bytes = known_bytes c.args.new.now c.type_inv.new })) in
    name_is_left t c.self.invariant c.args.dir c.args.name.now c.args.to c.args.new.now c.args.ino c.args.old on c.is_directory-is_dir.result (c.is_directory-is_dir.ensures ∙ ap (λ t. body_is is_directory t c.args.ino) (sym c.self.view_is))
    c.replace_entry.new.self c.in_ok-replace_entry.ensures.ok

pub overflow_sub-self : goal.overflow_sub-self
overflow_sub-self c =
    let t : Tree = record { inodes = c.self.inside.store; next = c.self.inside.next; names = c.self.inside.names; bytes = c.self.inside.bytes } in
    some_name t c.self.invariant c.args.to c.args.new.now c.args.old (subst (λ t. entry t c.args.to c.args.new.now ≡ Some c.args.old) (sym c.self.view_is) c.requires.named)

pub overflow_sub-self-2 : goal.overflow_sub-self-2
overflow_sub-self-2 c =
    let t : Tree = record { inodes = c.self.inside.store; next = c.self.inside.next; names = c.self.inside.names; bytes = c.self.inside.bytes } in
    let on : IsOnto t c.args.dir c.args.name.now c.args.to c.args.new.now c.args.ino c.args.old = (subst (λ t. IsOnto t c.args.dir c.args.name.now c.args.to c.args.new.now c.args.ino c.args.old) (sym c.self.view_is) (record { there = c.requires.there; takes = c.requires.takes; well_formed = c.requires.well_formed; named = c.requires.named; apart = c.requires.apart; alike = c.requires.alike; empty = c.requires.empty; aside = c.requires.aside; bytes = known_bytes c.args.new.now c.type_inv.new })) in
    (kept-onto t c.self.invariant c.args.dir c.args.name.now c.args.to c.args.new.now c.args.ino c.args.old on
    c.stand.new.self c.remove_if_unused-freed.result
    (record {
      is_dir = c.is_directory-is_dir.result;
      dir_is = c.is_directory-is_dir.ensures ∙ ap (λ t. body_is is_directory t c.args.ino) (sym c.self.view_is);
      serial = c.next_serial.result;
      serial_is = c.next_serial.ensures ∙ ap (λ t. next_serial t c.args.to) (sym c.self.view_is);
      replaced = c.replace_entry.new.self;
      replaced_is = c.in_ok-replace_entry.ensures.ok;
      parted = c.remove_name.new.self;
      parted_is = c.remove_name.ensures;
      dropped = c.remove_if_unused-freed.new.self;
      dropped_is = c.remove_if_unused-freed.ensures.inodes;
      gone_is = c.remove_if_unused-freed.ensures.bytes;
      emptied = c.remove_entry.new.self;
      emptied_is = c.remove_entry.ensures;
      m_is = c.stand.ensures;
    })).2

pub invariant_of-self-2 : goal.invariant_of-self-2
invariant_of-self-2 c =
    let t : Tree = record { inodes = c.self.inside.store; next = c.self.inside.next; names = c.self.inside.names; bytes = c.self.inside.bytes } in
    let on : IsOnto t c.args.dir c.args.name.now c.args.to c.args.new.now c.args.ino c.args.old = (subst (λ t. IsOnto t c.args.dir c.args.name.now c.args.to c.args.new.now c.args.ino c.args.old) (sym c.self.view_is) (record { there = c.requires.there; takes = c.requires.takes; well_formed = c.requires.well_formed; named = c.requires.named; apart = c.requires.apart; alike = c.requires.alike; empty = c.requires.empty; aside = c.requires.aside; bytes = known_bytes c.args.new.now c.type_inv.new })) in
    (kept-onto t c.self.invariant c.args.dir c.args.name.now c.args.to c.args.new.now c.args.ino c.args.old on
    c.stand.new.self c.remove_if_unused-freed.result
    (record {
      is_dir = c.is_directory-is_dir.result;
      dir_is = c.is_directory-is_dir.ensures ∙ ap (λ t. body_is is_directory t c.args.ino) (sym c.self.view_is);
      serial = c.next_serial.result;
      serial_is = c.next_serial.ensures ∙ ap (λ t. next_serial t c.args.to) (sym c.self.view_is);
      replaced = c.replace_entry.new.self;
      replaced_is = c.in_ok-replace_entry.ensures.ok;
      parted = c.remove_name.new.self;
      parted_is = c.remove_name.ensures;
      dropped = c.remove_if_unused-freed.new.self;
      dropped_is = c.remove_if_unused-freed.ensures.inodes;
      gone_is = c.remove_if_unused-freed.ensures.bytes;
      emptied = c.remove_entry.new.self;
      emptied_is = c.remove_entry.ensures;
      m_is = c.stand.ensures;
    })).0

pub returns-clause-ok : goal.returns-clause-ok
returns-clause-ok c =
    let t : Tree = record { inodes = c.self.inside.store; next = c.self.inside.next; names = c.self.inside.names; bytes = c.self.inside.bytes } in
    let on : IsOnto t c.args.dir c.args.name.now c.args.to c.args.new.now c.args.ino c.args.old = (subst (λ t. IsOnto t c.args.dir c.args.name.now c.args.to c.args.new.now c.args.ino c.args.old) (sym c.self.view_is) (record { there = c.requires.there; takes = c.requires.takes; well_formed = c.requires.well_formed; named = c.requires.named; apart = c.requires.apart; alike = c.requires.alike; empty = c.requires.empty; aside = c.requires.aside; bytes = known_bytes c.args.new.now c.type_inv.new })) in
    (kept-onto t c.self.invariant c.args.dir c.args.name.now c.args.to c.args.new.now c.args.ino c.args.old on
    c.stand.new.self c.remove_if_unused-freed.result
    (record {
      is_dir = c.is_directory-is_dir.result;
      dir_is = c.is_directory-is_dir.ensures ∙ ap (λ t. body_is is_directory t c.args.ino) (sym c.self.view_is);
      serial = c.next_serial.result;
      serial_is = c.next_serial.ensures ∙ ap (λ t. next_serial t c.args.to) (sym c.self.view_is);
      replaced = c.replace_entry.new.self;
      replaced_is = c.in_ok-replace_entry.ensures.ok;
      parted = c.remove_name.new.self;
      parted_is = c.remove_name.ensures;
      dropped = c.remove_if_unused-freed.new.self;
      dropped_is = c.remove_if_unused-freed.ensures.inodes;
      gone_is = c.remove_if_unused-freed.ensures.bytes;
      emptied = c.remove_entry.new.self;
      emptied_is = c.remove_entry.ensures;
      m_is = c.stand.ensures;
    })).1
    ∙ ap (λ t. moved c.args.dir c.args.name.now c.args.to c.args.new.now c.args.ino (unlinked c.args.to c.args.new.now c.args.old t)) c.self.view_is
