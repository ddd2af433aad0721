-- Entries that fit a buffer, one after the other.
use Rattle.std.proofs.Common.{◌≡◌, ℕ, ◌+◌, ◌-◌, ◌<◌, ◌≤◌, true, false, List, [], ◌∷◌, ◌++◌, length, replicate, Option, Some, None, refl, sym, ap, ◌∙◌, arith, length-append}
use Rattle.std.specs.Prelude.{nat_le, not, is_some, if◌then◌else◌}
use Rattle.std.specs.Option.{option_map, option_map_or}
use Rattle.std.proofs.lemmas.Bool.{cond-true, cond-false}
use Rattle.std.proofs.lemmas.Bool.Decides.{nat_tests}
use Rattle.std.proofs.lemmas.Grind.{div_ceil_times}
use Rattle.std.proofs.lemmas.List.{length-replicate}
use Rattle.std.proofs.lemmas.Option.{none-some, same_Some}
use Rattle.kr_seen.specs.pr_base.declared.errno.Errno.TheVariants.{EFAULT, EINVAL, ENOENT, ENOTDIR}
use Rattle.kr_seen.specs.rv_mem.Actions.{write_if_allowed}
use Rattle.kr_seen.specs.kr_calls.DirectoryEntries.{entry_bytes, entry_head, record_length}
use Rattle.kr_seen.specs.kr_tree.declared.place.Host.{Host}
use Rattle.kr_seen.specs.kr_tree.declared.place.Place.{Place}
use Rattle.kr_seen.specs.kr_files.declared.opened.Opened.{Opened}
use Rattle.kr_seen.specs.kr_model.Asking.{is_directory_host}
use Rattle.kr_seen.specs.kr_model.Change.{Seek}
use Rattle.kr_seen.specs.kr_model.DirectoryRows as model
use Rattle.kr_seen.specs.kr_model.DirectoryRows.{behind, fitting, last_serial, list_host, list_rest, listed_bytes, shown_by, tell_entries}
use Rattle.kr_seen.specs.kr_model.Known.{Known}
use Rattle.kr_seen.specs.kr_model.Reply.{Replying, done, refuse}
use Rattle.kr_transfer.specs.declared.channel.Channel.{Channel}
use Rattle.kr_transfer.specs.Channels.{IsChannelOf}
use Rattle.kr_transfer.specs.Listing.{all_shown, first_behind, last_from}
use Rattle.kr_transfer.proofs.ListingLemmas.{RiseBehind, behind-next, behind-none}

-- ---- the length of an entry

pub head-fits : (name : List ℕ) → 19 + length name < record_length name
head-fits name = let bounds = (div_ceil_times (19 + length name + 1) 8 (omega arith)).0 in omega arith

filled : (n whole : ℕ) → 19 + n < whole → 19 + (n + (whole - (19 + n))) ≡ whole
filled n whole fits = omega arith

pub entry-length : (inode serial kind : ℕ) (name : List ℕ) → length (entry_bytes inode serial kind name) ≡ record_length name
entry-length inode serial kind name =
    let left : ℕ = record_length name - (19 + length name) in
    let zeros : List ℕ = replicate left 0 in
    length-append (entry_head inode serial kind name) (name ++ zeros) ∙ ap (λ n. 19 + n) (length-append name zeros ∙ ap (λ n. length name + n) (length-replicate left 0))
    ∙ filled (length name) (record_length name) (head-fits name)

-- ---- those that fit

module _ (at left : ℕ) (es : List model.Listed) where
  pub none-fits : first_behind at es ≡ None → fitting left (behind at es) ≡ []
  none-fits e = ap (fitting left) (behind-none at es e)

  module _ (rise : RiseBehind 0 es) (e : model.Listed) (found : first_behind at es ≡ Some e) where
    pub next-fits : record_length e.name ≤ left → fitting left (behind at es) ≡ e ∷ fitting (left - record_length e.name) (behind e.serial es)
    next-fits fits =
        let test : nat_le (record_length e.name) left ≡ true = grind (arith, nat_tests) in
        ap (fitting left) (behind-next at 0 es e rise found) ∙ cond-true _ _ _ test

    pub next-is-too-long : left < record_length e.name → fitting left (behind at es) ≡ []
    next-is-too-long long =
        let test : nat_le (record_length e.name) left ≡ false = grind (arith, nat_tests) in
        ap (fitting left) (behind-next at 0 es e rise found) ∙ cond-false _ _ _ test

-- ---- rows

last-same : (e : model.Listed) (es : List model.Listed) → last_serial e es ≡ last_from e.serial es
last-same e [] = refl
last-same e (f ∷ es) = last-same f es

module _ (fd buf n at : ℕ) (all : List model.Listed) where
  pub lists-nothing : first_behind at all ≡ None → list_rest fd buf n (behind at all) ≡ done 0 []
  lists-nothing e = ap (list_rest fd buf n) (behind-none at all e)

  module _ (rise : RiseBehind 0 all) (e : model.Listed) (found : first_behind at all ≡ Some e) where
    -- where there is an entry, those that fit are told
    lists-fitting : list_rest fd buf n (behind at all) ≡ tell_entries fd buf (fitting n (behind at all))
    lists-fitting =
        let next = behind-next at 0 all e rise found in
        ap (list_rest fd buf n) next ∙ ap (λ es. tell_entries fd buf (fitting n es)) (sym next)

    pub lists-too-long : n < record_length e.name → list_rest fd buf n (behind at all) ≡ refuse EINVAL
    lists-too-long long = lists-fitting ∙ ap (tell_entries fd buf) (next-is-too-long at n all rise e found long)

    pub lists-some : record_length e.name ≤ n → (bytes : List ℕ) (last : ℕ) → bytes ≡ listed_bytes (fitting n (behind at all)) → last ≡ last_from at (fitting n (behind at all))
        → list_rest fd buf n (behind at all) ≡ write_if_allowed buf bytes (refuse EFAULT) (done (length bytes) (Seek fd last ∷ []))
    lists-some fits bytes last are is =
        let rest = fitting (n - record_length e.name) (behind e.serial all) in
        let one : fitting n (behind at all) ≡ e ∷ rest = next-fits at n all rise e found fits in
        let told : ℕ → List ℕ → Replying = λ place bs. write_if_allowed buf bs (refuse EFAULT) (done (length bs) (Seek fd place ∷ [])) in
        let place : last_serial e rest ≡ last = last-same e rest ∙ sym (is ∙ ap (last_from at) one) in
        lists-fitting ∙ ap (tell_entries fd buf) one ∙ ap (λ place. told place (listed_bytes (e ∷ rest))) place ∙ ap (told last) (sym (are ∙ ap listed_bytes one))

pub lists-elsewhere : (k : Known) (fd at buf n : ℕ) (host : Host) → is_directory_host k host ≡ false → list_host k fd at buf n host ≡ refuse ENOTDIR
lists-elsewhere k fd at buf n host other = ap (λ b. if not b then refuse ENOTDIR else option_map_or (λ entries. list_rest fd buf n (behind at entries)) (shown_by k host) (refuse ENOENT)) other

module _ (k : Known) (fd at buf n : ℕ) (host : Host) (directory : is_directory_host k host ≡ true) where
  lists-shown : list_host k fd at buf n host ≡ option_map_or (λ entries. list_rest fd buf n (behind at entries)) (shown_by k host) (refuse ENOENT)
  lists-shown = ap (λ b. if not b then refuse ENOTDIR else option_map_or (λ entries. list_rest fd buf n (behind at entries)) (shown_by k host) (refuse ENOENT)) directory

  pub lists-host : is_some (shown_by k host) ≡ true → list_host k fd at buf n host ≡ list_rest fd buf n (behind at (all_shown k host))
  lists-host shown = lists-shown ∙ by (shown_by k host) shown
    where
      by : (o : Option (List model.Listed)) → is_some o ≡ true → option_map_or (λ entries. list_rest fd buf n (behind at entries)) o (refuse ENOENT) ≡ list_rest fd buf n (behind at (option_map_or (λ entries. entries) o []))
      by None e = absurd (let never : false ≡ true = e in cc)
      by (Some entries) e = refl

  pub lists-removed : is_some (shown_by k host) ≡ false → list_host k fd at buf n host ≡ refuse ENOENT
  lists-removed shown = lists-shown ∙ by (shown_by k host) shown
    where
      by : (o : Option (List model.Listed)) → is_some o ≡ false → option_map_or (λ entries. list_rest fd buf n (behind at entries)) o (refuse ENOENT) ≡ refuse ENOENT
      by None e = refl
      by (Some entries) e = absurd (let never : true ≡ false = e in cc)

-- ---- what is open

module _ (k : Known) (c : Channel) (o : Opened (Unit {0})) (h : IsChannelOf k c o) (buf n : ℕ) where
  own-host : option_map (λ p. p.host) o.place ≡ c.host
  own-host = sym (ap (λ (c : Channel). c.host) h.same)

  pub lists-open : (host : Host) → c.host ≡ Some host → option_map_or (λ p. list_host k c.fd o.at buf n p.host) o.place (refuse ENOTDIR) ≡ list_host k c.fd c.at buf n host
  lists-open host e = by o.place (own-host ∙ e) ∙ ap (λ at. list_host k c.fd at buf n host) (sym (ap (λ (c : Channel). c.at) h.same))
    where
      by : (q : Option (Place (Unit {0}))) → option_map (λ p. p.host) q ≡ Some host → option_map_or (λ p. list_host k c.fd o.at buf n p.host) q (refuse ENOTDIR) ≡ list_host k c.fd o.at buf n host
      by None e = absurd (none-some host e)
      by (Some p) e = ap (λ host. list_host k c.fd o.at buf n host) (same_Some p.host host e)

  pub lists-nowhere : c.host ≡ None → option_map_or (λ p. list_host k c.fd o.at buf n p.host) o.place (refuse ENOTDIR) ≡ refuse ENOTDIR
  lists-nowhere e = by o.place (own-host ∙ e)
    where
      by : (q : Option (Place (Unit {0}))) → option_map (λ p. p.host) q ≡ None → option_map_or (λ p. list_host k c.fd o.at buf n p.host) q (refuse ENOTDIR) ≡ refuse ENOTDIR
      by None e = refl
      by (Some p) e = absurd (none-some p.host (sym e))
