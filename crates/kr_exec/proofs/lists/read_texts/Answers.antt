use Rattle.std.proofs.Common.{◌≡◌, ◌∙◌, ◌+◌, ◌-◌, ◌++◌, ◌∷◌, [], suc, sym, ap, length, arith}
use Rattle.std.proofs.lemmas.Result.{err_from_is_err_and}
use Rattle.kr_exec.specs.Lists.{most_texts, next_address, texts_from}
use Rattle.kr_exec.proofs.ListLemmas.{done, address_keeps, one_more, rest_ended, rest_err, rest_full, rest_more, rest_refused, rest_text, rest_wanting, text_marks}
use Rattle.kr_exec.proofs.lists.read_texts.Goals as goal

pub returns-in_err-address-clause-read : goal.returns-in_err-address-clause-read
returns-in_err-address-clause-read g c =
    let l = c.addresses in
    let e = err_from_is_err_and c.from_residual.result c.from_residual.ensures.1 in
    let a = c.read_address.ensures ∙ ap (λ r. done r c.read_address.new.mem) c.in_err-address.was in
    let whole = rest_refused _ (most_texts - length l.texts) l.next l.room l.texts l.mem c.read_address.new.mem _ l.invariant.rest a in
    rw (e.1, e.2) (ap (λ d. d.reply) whole, sym (ap (λ d. d.memory) whole))

pub returns-then-address-eq0-clause-read : goal.returns-then-address-eq0-clause-read
returns-then-address-eq0-clause-read g c =
    let l = c.addresses in
    let a = c.read_address.ensures ∙ ap (λ r. done r c.read_address.new.mem) c.in_ok-address.was in
    let whole = rest_ended _ (most_texts - length l.texts) l.next l.room c.in_ok-address.address l.texts l.mem c.read_address.new.mem l.invariant.rest a c.if-address-eq0.true in
    (ap (λ d. d.reply) whole, sym (ap (λ d. d.memory) whole))

pub returns-then-len-eq-MOST_TEXTS-clause-read : goal.returns-then-len-eq-MOST_TEXTS-clause-read
returns-then-len-eq-MOST_TEXTS-clause-read g c =
    let l = c.addresses in
    let a = c.read_address.ensures ∙ ap (λ r. done r c.read_address.new.mem) c.in_ok-address.was in
    let none : most_texts - length l.texts ≡ 0 = omega (arith, c.len.ensures, c.if-len-eq-MOST_TEXTS.true) in
    let whole = rest_full _ (most_texts - length l.texts) l.next l.room c.in_ok-address.address l.texts l.mem c.read_address.new.mem l.invariant.rest none a c.if-address-eq0.false in
    (ap (λ d. d.reply) whole, sym (ap (λ d. d.memory) whole))

pub returns-in_err-text-clause-read : goal.returns-in_err-text-clause-read
returns-in_err-text-clause-read g c =
    let l = c.addresses in
    let e = err_from_is_err_and c.from_residual-in_err-text.result c.from_residual-in_err-text.ensures.1 in
    let a = c.read_address.ensures ∙ ap (λ r. done r c.read_address.new.mem) c.in_ok-address.was in
    let keeps = address_keeps l.next l.mem c.read_address.new.mem _ c.read_address.ensures in
    let k = most_texts - length l.texts - 1 in
    let some : most_texts - length l.texts ≡ suc k = omega (arith, c.len.ensures, c.if-len-eq-MOST_TEXTS.false, l.invariant.few) in
    let next = rest_text _ (most_texts - length l.texts) k l.next l.room c.in_ok-address.address l.texts l.mem c.read_address.new.mem l.invariant.rest some a c.if-address-eq0.false in
    rw (e.1, e.2)
    (rest_err _ k l.next l.room c.in_ok-address.address l.texts _ c.args.mem.now c.read_address.new.mem c.read_text.new.mem next (keeps.0 ∙ l.invariant.pages) (λ h. keeps.1 (l.invariant.kept h))
    c.in_err-text.ensures.read)

pub returns-in_err-add-clause-read : goal.returns-in_err-add-clause-read
returns-in_err-add-clause-read g c =
    let l = c.addresses in
    let e = err_from_is_err_and c.from_residual-in_err-add.result c.from_residual-in_err-add.ensures.1 in
    let a = c.read_address.ensures ∙ ap (λ r. done r c.read_address.new.mem) c.in_ok-address.was in
    let keeps = address_keeps l.next l.mem c.read_address.new.mem _ c.read_address.ensures in
    let k = most_texts - length l.texts - 1 in
    let text = c.in_ok-text.text in
    let some : most_texts - length l.texts ≡ suc k = omega (arith, c.len.ensures, c.if-len-eq-MOST_TEXTS.false, l.invariant.few) in
    let next = rest_text _ (most_texts - length l.texts) k l.next l.room c.in_ok-address.address l.texts l.mem c.read_address.new.mem l.invariant.rest some a c.if-address-eq0.false in
    let more = rest_more _ k l.next l.room c.in_ok-address.address l.texts text c.read_address.new.mem c.read_text.new.mem next c.in_ok-text.ensures.read in
    rw (e.1, e.2, c.in_err-add.ensures.err)
    (rest_wanting _ (texts_from k (next_address l.next) (l.room - (length text + 1))) (l.texts ++ text ∷ []) c.args.mem.now c.read_text.new.mem more
    (c.in_ok-text.ensures.pages ∙ keeps.0 ∙ l.invariant.pages)
    (λ h. text_marks l.room c.in_ok-address.address text c.read_address.new.mem c.read_text.new.mem c.in_ok-text.ensures.read (keeps.1 (l.invariant.kept h))))

pub addresses-preserved : goal.addresses-preserved
addresses-preserved g c =
    let l = c.addresses in
    let a = c.read_address.ensures ∙ ap (λ r. done r c.read_address.new.mem) c.in_ok-address.was in
    let keeps = address_keeps l.next l.mem c.read_address.new.mem _ c.read_address.ensures in
    let k = most_texts - length l.texts - 1 in
    let text = c.in_ok-text.text in
    let some : most_texts - length l.texts ≡ suc k = omega (arith, c.len.ensures, c.if-len-eq-MOST_TEXTS.false, l.invariant.few) in
    let next = rest_text _ (most_texts - length l.texts) k l.next l.room c.in_ok-address.address l.texts l.mem c.read_address.new.mem l.invariant.rest some a c.if-address-eq0.false in
    let more = rest_more _ k l.next l.room c.in_ok-address.address l.texts text c.read_address.new.mem c.read_text.new.mem next c.in_ok-text.ensures.read in
    let known = one_more l.texts c.add.new.texts text k l.room c.len-in-addresses.result c.args.room _ (next_address l.next) c.read_text.new.mem more c.in_ok-add.ensures.ok c.len-in-addresses.ensures some c.in_ok-text.ensures.within l.invariant.room in
    record {
      rest = known.rest;
      pages = c.in_ok-text.ensures.pages ∙ keeps.0 ∙ l.invariant.pages;
      kept = λ h. text_marks l.room c.in_ok-address.address text c.read_address.new.mem c.read_text.new.mem c.in_ok-text.ensures.read (keeps.1 (l.invariant.kept h));
      room = known.bytes;
      few = known.few;
    }
