-- What a tracer puts in place of paths, and what it answers itself, are bytes.
use Rattle.std.proofs.Common.{◌≡◌, refl, ℕ, Bool, true, false, List, [], ◌∷◌, ◌++◌, ◌+◌, cond, length, arith, Option, Some, None}
use Rattle.std.specs.Prelude.{Err, IfOk, IfSome, Ok, Result, map, min, nat_lt, pos}
use Rattle.std.specs.List.{AllByRecursion, list_any}
use Rattle.std.specs.Option.{option_map, unwrap_or}
use Rattle.pr_top.specs.pr_base.MountText.{MountText}
use Rattle.pr_top.specs.pr_base.Paths.{dot, dot_dot, is_absolute, slash, text_of}
use Rattle.pr_top.specs.pr_base.Texts.{Text}
use Rattle.pr_top.specs.pr_base.declared.errno.Errno.{Errno}
use Rattle.pr_top.specs.pr_base.declared.errno.Errno.TheVariants.{EFAULT, EISDIR, ENAMETOOLONG, ENOENT, ERANGE}
use Rattle.pr_top.specs.pr_base.declared.path.Last.{Last}
use Rattle.pr_top.specs.pr_base.declared.path.Last.TheVariants as last
use Rattle.pr_top.specs.pr_base.declared.path.WalkMode.TheVariants as mode
use Rattle.pr_top.specs.pr_base.declared.peeks.BaseKind.{BaseKind}
use Rattle.pr_top.specs.pr_base.declared.peeks.BaseKind.TheVariants as base_kind
use Rattle.pr_top.specs.pr_base.declared.peeks.PeekKind.{PeekKind}
use Rattle.pr_top.specs.pr_base.declared.peeks.PeekKind.TheVariants as kind
use Rattle.law_starts.specs.pt_bind.Binding.{guest_of, host_of, names_of}
use Rattle.law_starts.specs.pt_bind.Tags.{tag_of}
use Rattle.law_starts.specs.pt_bind.declared.slot.Slot.TheVariants as slot
use Rattle.law_starts.specs.pt_canon.Canon.{canon_of}
use Rattle.law_starts.specs.pt_canon.TextWalk.{TextSurroundings}
use Rattle.law_starts.specs.pt_canon.declared.canon.Canon.{Canon}
use Rattle.law_starts.specs.kr_calls.PathTable.{PathUse, path_at}
use Rattle.law_starts.specs.kr_calls.declared.request.Request.{Request}
use Rattle.law_starts.specs.kr_calls.declared.request.Request.TheVariants as call
use Rattle.pr_top.specs.kr_tree.Lawful.{AreBytes}
use Rattle.law_starts.specs.pt_args.Bases.{base_of, descriptor_base, descriptor_number, is_working_directory, numbered_base, or_lost, tagged_text, working_base, working_text}
use Rattle.law_starts.specs.pt_args.Edits.{both, edit_by, edit_of, is_long, item_of, put_edit, shelve}
use Rattle.law_starts.specs.pt_args.Plans.{first_walked, plan_behind, plan_both, plan_first, plan_from, plan_one, second_walked}
use Rattle.law_starts.specs.pt_args.Points.{both_are_busy, one_is_busy}
use Rattle.law_starts.specs.pt_args.Purposes.{entry_swap, made_swap, named_path, opens, own_path, swap_for}
use Rattle.law_starts.specs.pt_args.Shelving.{address_below, shelved, with_zero}
use Rattle.law_starts.specs.pt_args.Walks.{and_then, reached_at, walked, walked_along, walked_from}
use Rattle.law_starts.specs.pt_args.declared.edit.Edit.{Edit}
use Rattle.law_starts.specs.pt_args.declared.edit.Edit.TheVariants.{Cancel, Emulate, Pass, Swap}
use Rattle.law_starts.specs.pt_args.declared.purpose.Purpose.{Purpose}
use Rattle.law_starts.specs.pt_args.declared.purpose.Purpose.TheVariants.{LooksUp, MayMake, NamesEntry}
use Rattle.law_starts.specs.pt_args.declared.reached.Reached.{Reached}
use Rattle.law_starts.specs.pt_results.Answers.{cwd_answer, directory_answer, jump_answer, kind_answer, led_answer, nowhere_answer, path_answer, walked_answer}
use Rattle.law_starts.specs.pt_results.Numbers.{count_of}
use Rattle.law_starts.specs.pt_tracer.Planning.{answered, edit_for, has_shelf, rewritten, stack_at}
use Rattle.law_starts.specs.pt_faker.Stopping.{Stopped}
use Rattle.law_starts.specs.law_kept.Bytes.{AreAllBytes, GivesBytes}
use Rattle.law_starts.proofs.law_kept.ListLemmas.{first-of, joined}
use Rattle.law_starts.proofs.law_kept.NameLemmas.{if-mapped, if-then, text-bytes}
use Rattle.law_machines.proofs.LookLemmas.{AreOfBytes}
use Rattle.law_machines.proofs.TextLemmas.{guest-names, host-names, names-bytes}
use Rattle.law_machines.proofs.WalkLemmas.{CanonHasBytes, canons-have-bytes}

-- ---- what comes of a value

pub then-gives : {A B : Type 0} (P : A → Type 0) (Q : B → Type 0) (next : A → Result B Errno) (r : Result A Errno) → IfOk r P → ((x : A) → P x → IfOk (next x) Q) → IfOk (and_then r next) Q
then-gives P Q next (Ok x) own each = each x own
then-gives P Q next (Err e) own each = tt

pub either-ok : {A : Type 0} (P : A → Type 0) (b : Bool) (x y : Result A Errno) → IfOk x P → IfOk y P → IfOk (cond b x y) P
either-ok P true x y first second = first
either-ok P false x y first second = second

-- ---- edits

abbrev pub PutsAllBytes : List (ℕ × List ℕ) → Type 0
PutsAllBytes pokes = AllByRecursion (λ (p : ℕ × List ℕ). AreBytes p.1) pokes

abbrev pub EditsByBytes : Edit → Type 0
EditsByBytes Pass = Unit {0}
EditsByBytes (Swap regs pokes) = PutsAllBytes pokes
EditsByBytes (Cancel e) = Unit {0}
EditsByBytes (Emulate pokes answer) = PutsAllBytes pokes

pub either-edit : (b : Bool) (x y : Edit) → EditsByBytes x → EditsByBytes y → EditsByBytes (cond b x y)
either-edit true x y first second = first
either-edit false x y first second = second

pub zero-behind : (text : List ℕ) → AreBytes text → AreBytes (with_zero text)
zero-behind text are = joined text (0 ∷ []) are (omega arith, tt)

shelved-bytes : (top : ℕ) (items : List (List ℕ)) → AreAllBytes items → PutsAllBytes (shelved top items)
shelved-bytes top [] are = tt
shelved-bytes top (item ∷ items) are = (are.0, shelved-bytes (address_below top (length item)) items are.1)

-- ---- plans

-- what is swapped, as it is put on the shelf
items-bytes : (first : _) (second : _) → AreBytes (item_of first) → IfSome second (λ t. AreBytes (item_of t)) → AreAllBytes (map item_of (both first second))
items-bytes first None own more = (own, tt)
items-bytes first (Some second) own more = (own, (more, tt))

shelve-bytes : (sp : ℕ) (usable : Bool) (first : _) (second : _) → AreBytes (item_of first) → IfSome second (λ t. AreBytes (item_of t)) → EditsByBytes (shelve sp usable first second)
shelve-bytes sp usable first second own more =
    either-edit (list_any is_long (both first second)) (Cancel ENAMETOOLONG) (cond usable (put_edit sp (both first second)) (Cancel EFAULT)) tt
    (either-edit usable (put_edit sp (both first second)) (Cancel EFAULT) (shelved-bytes sp (map item_of (both first second)) (items-bytes first second own more)) tt)

-- ---- texts in place of paths

behind-bytes : (behind : Bool) → AreBytes (cond behind (slash ∷ []) [])
behind-bytes true = (omega arith, tt)
behind-bytes false = tt

abbrev ReachesBytes : Reached → Type 0
ReachesBytes reached = CanonHasBytes reached.canon

module _ (texts : TextSurroundings) (of_bytes : AreOfBytes texts) where
  abbrev rows : List MountText
  rows = texts.bindings

  named-path-bytes : (dir : Text) (part : List ℕ) (behind : Bool) → AreAllBytes dir → AreBytes part → AreBytes (named_path rows dir part behind)
  named-path-bytes dir part behind are own =
      joined (text_of (host_of rows dir)) (slash ∷ (part ++ cond behind (slash ∷ []) [])) (text-bytes (host_of rows dir) (host-names rows of_bytes.rows dir are))
      (omega arith, joined part (cond behind (slash ∷ []) []) own (behind-bytes behind))

  own-path-bytes : (t : Text) (behind : Bool) → AreAllBytes t → AreBytes (own_path rows t behind)
  own-path-bytes [] behind are = (omega arith, tt)
  own-path-bytes (name ∷ dir) behind are = named-path-bytes dir name behind are.1 are.0

  entry-swap-bytes : (canon : Canon) (l : Last) → CanonHasBytes canon → AreBytes (entry_swap rows canon l)
  entry-swap-bytes canon last.Name own = own-path-bytes (names_of canon.guest) canon.slash (names-bytes canon.guest own.guest)
  entry-swap-bytes canon last.Dot own = named-path-bytes (names_of canon.guest) dot canon.slash (names-bytes canon.guest own.guest) (omega arith, tt)
  entry-swap-bytes canon last.DotDot own = named-path-bytes (names_of canon.guest) dot_dot canon.slash (names-bytes canon.guest own.guest) (omega arith, (omega arith, tt))
  entry-swap-bytes canon last.Root own = (omega arith, tt)

  made-swap-bytes : (canon : Canon) (l : Last) → CanonHasBytes canon → IfOk (made_swap rows canon l) AreBytes
  made-swap-bytes canon last.Name own =
      either-ok AreBytes canon.slash (Err EISDIR) (cond canon.exists (Ok canon.host) (Ok (entry_swap rows canon last.Name))) tt
      (either-ok AreBytes canon.exists (Ok canon.host) (Ok (entry_swap rows canon last.Name)) own.host (entry-swap-bytes canon last.Name own))
  made-swap-bytes canon last.Dot own = entry-swap-bytes canon last.Dot own
  made-swap-bytes canon last.DotDot own = entry-swap-bytes canon last.DotDot own
  made-swap-bytes canon last.Root own = entry-swap-bytes canon last.Root own

  swap-for-bytes : (purpose : Purpose) (canon : Canon) → CanonHasBytes canon → IfOk (swap_for rows purpose canon) AreBytes
  swap-for-bytes LooksUp canon own = own.host
  swap-for-bytes NamesEntry canon own = entry-swap-bytes canon canon.last own
  swap-for-bytes MayMake canon own = made-swap-bytes canon canon.last own

  -- ---- where paths begin

  tagged-bytes : (tag : ℕ) (name : Option (List ℕ)) → IfSome name AreBytes → IfSome (tagged_text rows tag name) AreBytes
  tagged-bytes tag name is =
      if-then AreBytes AreBytes (λ host. option_map text_of (guest_of rows tag (names_of host))) name
      (λ host are. if-mapped AreAllBytes AreBytes text_of (guest_of rows tag (names_of host)) text-bytes (guest-names rows of_bytes.rows tag (names_of host) (names-bytes host are))) is

  -- a base, if there is one
  abbrev IsBaseOfBytes : Option (List ℕ) → Type 0
  IsBaseOfBytes o = IfSome o AreBytes

  lost-bytes : (o : Option (List ℕ)) → IsBaseOfBytes o → IfOk (or_lost o) IsBaseOfBytes
  lost-bytes (Some text) are = are
  lost-bytes None are = tt

  module _ (pid : ℕ) where
    pub working-bytes : IsBaseOfBytes (working_text texts pid)
    working-bytes = tagged-bytes (tag_of texts.tags pid slot.Cwd) (texts.peeked.cwd_name pid) (of_bytes.tells.cwd_name pid)

    descriptor-bytes : (fd : ℕ) (k : BaseKind) → IfOk (descriptor_base texts pid fd k) IsBaseOfBytes
    descriptor-bytes fd base_kind.Closed = tt
    descriptor-bytes fd base_kind.Other = tt
    descriptor-bytes fd base_kind.Dir =
        lost-bytes (tagged_text rows (tag_of texts.tags pid (slot.Fd fd)) (texts.peeked.base_name pid fd)) (tagged-bytes (tag_of texts.tags pid (slot.Fd fd)) (texts.peeked.base_name pid fd) (of_bytes.tells.base_name pid fd))

    numbered-bytes : (o : Option ℕ) → IfOk (numbered_base texts pid o) IsBaseOfBytes
    numbered-bytes None = tt
    numbered-bytes (Some fd) = descriptor-bytes fd (texts.peeked.base_kind pid fd)

    base-bytes : (u : PathUse) → IfOk (base_of texts pid u) IsBaseOfBytes
    base-bytes u =
        either-ok IsBaseOfBytes (is_absolute u.text) (Ok (Some (slash ∷ []))) (cond (is_working_directory u.dirfd) (working_base texts pid) (numbered_base texts pid (descriptor_number u.dirfd))) (omega arith, tt)
        (either-ok IsBaseOfBytes (is_working_directory u.dirfd) (working_base texts pid) (numbered_base texts pid (descriptor_number u.dirfd)) (lost-bytes (working_text texts pid) working-bytes) (numbered-bytes (descriptor_number u.dirfd)))

    -- ---- where paths lead

    abbrev MayReachBytes : Option Reached → Type 0
    MayReachBytes o = IfSome o ReachesBytes

    from-bytes : (opening : Bool) (u : PathUse) → AreBytes u.text → (o : Option (List ℕ)) → IsBaseOfBytes o → IfOk (walked_from texts opening u o) MayReachBytes
    from-bytes opening u are None own = tt
    from-bytes opening u are (Some base) own =
        then-gives CanonHasBytes MayReachBytes (λ canon. Ok (Some (reached_at u opening canon))) (canon_of texts u.mode (names_of base) u.text) (canons-have-bytes texts of_bytes u.mode (names_of base) u.text (names-bytes base own) are) (λ canon has. has)

    along-bytes : (opening : Bool) (u : PathUse) (path : List ℕ) → AreBytes u.text → IfOk (walked_along texts pid opening u path) MayReachBytes
    along-bytes opening u [] are = tt
    along-bytes opening u (b ∷ path) are = then-gives IsBaseOfBytes MayReachBytes (walked_from texts opening u) (base_of texts pid u) (base-bytes u) (from-bytes opening u are)

    walked-bytes : (opening : Bool) (u : PathUse) → AreBytes u.text → IfOk (walked texts pid opening u) MayReachBytes
    walked-bytes opening u are = along-bytes opening u u.text are

    -- ---- what becomes of the paths of a call

    module _ (r : Request) (gives : GivesBytes r) (sp : ℕ) (usable : Bool) where
      swap-of : (reached : Reached) → ReachesBytes reached → IfOk (swap_for rows reached.purpose reached.canon) AreBytes
      swap-of reached own = swap-for-bytes reached.purpose reached.canon own

      one-edit : (only : Reached) → ReachesBytes only → EditsByBytes (edit_by sp usable (plan_one rows r only))
      one-edit only own = by (swap_for rows only.purpose only.canon) refl (one_is_busy rows r only.canon) refl (swap-of only own)
        where
          by : (o : Result (List ℕ) Errno) → swap_for rows only.purpose only.canon ≡ o → (b : Bool) → one_is_busy rows r only.canon ≡ b → IfOk o AreBytes → EditsByBytes (edit_by sp usable (plan_one rows r only))
          by (Err e) is b busy are = rw is tt
          by (Ok text) is true busy are = rw (is, busy) tt
          by (Ok text) is false busy are = rw (is, busy) (shelve-bytes sp usable (record { register = only.register; text = text }) None (zero-behind text are) tt)

      first-edit : (first : Reached) → ReachesBytes first → EditsByBytes (edit_by sp usable (plan_first rows first))
      first-edit first own = by (swap_for rows first.purpose first.canon) refl (swap-of first own)
        where
          by : (o : Result (List ℕ) Errno) → swap_for rows first.purpose first.canon ≡ o → IfOk o AreBytes → EditsByBytes (edit_by sp usable (plan_first rows first))
          by (Err e) is are = rw is tt
          by (Ok text) is are = rw is (shelve-bytes sp usable (record { register = first.register; text = text }) None (zero-behind text are) tt)

      both-edit : (old new : Reached) → ReachesBytes old → ReachesBytes new → EditsByBytes (edit_by sp usable (plan_both rows r old new))
      both-edit old new own more = by (swap_for rows old.purpose old.canon) refl (swap_for rows new.purpose new.canon) refl (both_are_busy rows r old.canon new.canon) refl (swap-of old own) (swap-of new more)
        where
          by : (o : Result (List ℕ) Errno) → swap_for rows old.purpose old.canon ≡ o → (q : Result (List ℕ) Errno) → swap_for rows new.purpose new.canon ≡ q → (b : Bool) → both_are_busy rows r old.canon new.canon ≡ b
              → IfOk o AreBytes → IfOk q AreBytes → EditsByBytes (edit_by sp usable (plan_both rows r old new))
          by (Err e) is q too b busy are also = rw is tt
          by (Ok text) is (Err e) too b busy are also = rw (is, too) tt
          by (Ok text) is (Ok second) too true busy are also = rw (is, too, busy) tt
          by (Ok text) is (Ok second) too false busy are also =
              rw (is, too, busy) (shelve-bytes sp usable (record { register = old.register; text = text }) (Some (record { register = new.register; text = second })) (zero-behind text are) (zero-behind second also))

      behind-edit : (first : Reached) → ReachesBytes first → (w : Result (Option Reached) Errno) → IfOk w MayReachBytes → EditsByBytes (edit_by sp usable (and_then w (plan_behind rows r first)))
      behind-edit first own (Err e) more = tt
      behind-edit first own (Ok None) more = first-edit first own
      behind-edit first own (Ok (Some second)) more = both-edit first second own more

      second-edit : (first : Reached) → ReachesBytes first → (o : Option PathUse) → IfSome o (λ u. AreBytes u.text) → EditsByBytes (edit_by sp usable (second_walked texts pid r first o))
      second-edit first own None are = one-edit first own
      second-edit first own (Some u) are = behind-edit first own (walked texts pid (opens r) u) (walked-bytes (opens r) u are)

      path-bytes : (k : ℕ) → IfSome (path_at r k) (λ u. AreBytes u.text)
      path-bytes k = by (path_at r k) (gives.paths k)
        where
          by : (o : Option PathUse) → ((u : PathUse) → o ≡ Some u → AreBytes u.text) → IfSome o (λ u. AreBytes u.text)
          by None each = tt
          by (Some u) each = each u refl

      from-edit : (w : Result (Option Reached) Errno) → IfOk w MayReachBytes → EditsByBytes (edit_by sp usable (and_then w (plan_from texts pid r)))
      from-edit (Err e) own = tt
      from-edit (Ok None) own = tt
      from-edit (Ok (Some first)) own = second-edit first own (path_at r 1) (path-bytes 1)

      along-edit : (o : Option PathUse) → IfSome o (λ u. AreBytes u.text) → EditsByBytes (edit_by sp usable (first_walked texts pid r o))
      along-edit None are = tt
      along-edit (Some u) are = from-edit (walked texts pid (opens r) u) (walked-bytes (opens r) u are)

      pub edits-are-bytes : EditsByBytes (edit_of texts pid sp usable r)
      edits-are-bytes = along-edit (path_at r 0) (path-bytes 0)

    -- ---- what is answered

    abbrev MayAnswerBytes : Option Edit → Type 0
    MayAnswerBytes o = IfSome o EditsByBytes

    cwd-bytes : (size buf : ℕ) → EditsByBytes (cwd_answer texts pid size buf)
    cwd-bytes size buf = by (working_text texts pid) working-bytes
      where
        by : (o : Option (List ℕ)) → IsBaseOfBytes o → EditsByBytes (directory_answer o size buf)
        by None are = tt
        by (Some text) are = either-edit (nat_lt size (length text + 1)) (Cancel ERANGE) (Emulate ((buf, with_zero text) ∷ []) (pos (length text + 1))) tt (zero-behind text are, tt)

    nowhere-bytes : (r : Result (List ℕ) Errno) → MayAnswerBytes (nowhere_answer r)
    nowhere-bytes (Ok text) = by (is_absolute text)
      where
        by : (b : Bool) → MayAnswerBytes (cond b (Some (Cancel ENOENT)) None)
        by true = tt
        by false = tt
    nowhere-bytes (Err e) = tt

    led-bytes : (own : Result (List ℕ) Errno) (room : _) (r : Result Canon Errno) → IfOk r CanonHasBytes → MayAnswerBytes (led_answer own room r)
    led-bytes own room (Ok led) has = (first-of (min (length led.guest) room.count) led.guest has.guest, tt)
    led-bytes own room (Err e) has = nowhere-bytes own

    jump-bytes : (canon : Canon) (room : _) (t : Text) → AreAllBytes t → MayAnswerBytes (jump_answer texts canon room t)
    jump-bytes canon room [] are = tt
    jump-bytes canon room (name ∷ dir) are = led-bytes (texts.peeked.link_text canon.host) room (canon_of texts mode.Look dir name) (canons-have-bytes texts of_bytes mode.Look dir name are.1 are.0)

    kind-bytes : (canon : Canon) (room : _) (k : Result PeekKind Errno) → CanonHasBytes canon → MayAnswerBytes (kind_answer texts canon room k)
    kind-bytes canon room (Ok kind.Jump) has = jump-bytes canon room (names_of canon.guest) (names-bytes canon.guest has.guest)
    kind-bytes canon room (Ok kind.Dir) has = tt
    kind-bytes canon room (Ok kind.File) has = tt
    kind-bytes canon room (Ok kind.Link) has = tt
    kind-bytes canon room (Err e) has = tt

    walk-answers : (room : _) (r : Result (Option Reached) Errno) → IfOk r MayReachBytes → MayAnswerBytes (walked_answer texts room r)
    walk-answers room (Ok (Some reached)) own = kind-bytes reached.canon room (texts.peeked.kind reached.canon.host) own
    walk-answers room (Ok None) own = tt
    walk-answers room (Err e) own = tt

    path-answers : (room : _) (o : Option PathUse) → IfSome o (λ u. AreBytes u.text) → MayAnswerBytes (path_answer texts pid room o)
    path-answers room None are = tt
    path-answers room (Some u) are = walk-answers room (walked texts pid false u) (walked-bytes false u are)

    unwrap-bytes : (o : Option Edit) (e : Edit) → MayAnswerBytes o → EditsByBytes e → EditsByBytes (unwrap_or o e)
    unwrap-bytes None e own more = more
    unwrap-bytes (Some a) e own more = own

pub edits-for-are-bytes : (texts : TextSurroundings) → AreOfBytes texts → (t : Stopped) (r : Request) → GivesBytes r → EditsByBytes (edit_for texts t r)
edits-for-are-bytes texts of_bytes t r gives = unwrap-bytes texts of_bytes t.pid (answered texts t r) (rewritten texts t r) (by r gives) (edits-are-bytes texts of_bytes t.pid r gives (stack_at t) (has_shelf t))
  where
    by : (r : Request) → GivesBytes r → IfSome (answered texts t r) EditsByBytes
    by (call.Getcwd buf size) gives = cwd-bytes texts of_bytes t.pid size buf
    by (call.Readlinkat dirfd path buf size) gives =
        path-answers texts of_bytes t.pid (record { buf = buf; count = count_of size }) (path_at (call.Readlinkat dirfd path buf size) 0) (gives.paths 0 (record { dirfd = dirfd; text = path; mode = mode.LookLink; register = 11 }) refl)
    by _ gives = tt
