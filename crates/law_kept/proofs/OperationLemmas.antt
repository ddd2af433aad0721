-- Every call writes bytes and brings bytes, of what it knows and is told.
use Rattle.std.proofs.Common.{ℕ, List, [], ◌∷◌, refl, Option}
use Rattle.std.specs.Prelude.{IfSome}
use Rattle.kr_first.specs.pr_base.declared.errno.Errno.TheVariants.{ENOENT}
use Rattle.kr_first.specs.kr_calls.declared.request.Request.{Request}
use Rattle.kr_first.specs.kr_calls.declared.request.Request.TheVariants as call
use Rattle.kr_first.specs.kr_tree.Lawful.{AreBytes}
use Rattle.kr_first.specs.kr_model.Known.{Known}
use Rattle.kr_first.specs.kr_model.Operation.{by_path, directory_named, link_read, linked, looked_up, made, moved, opened, operation}
use Rattle.kr_first.specs.kr_model.Reply.{Replying}
use Rattle.kr_first.specs.kr_model.Seen.{Links, Looked, LooksUp, Made, MakesEntry, Moves, NamesDirectory, Opening, Opens, ReadsLink, Seen, WalkFails}
use Rattle.law_kept.specs.Bringing.{KnowsBytes, MadeHasBytes, OpeningHasBytes, SeenHasBytes}
use Rattle.law_kept.specs.Bytes.{HasByteText}
use Rattle.law_kept.proofs.FileRows.{openat-puts, read-puts, readv-puts, write-puts, writev-puts}
use Rattle.law_kept.proofs.NameRows.{linkat-puts, mkdirat-puts, renameat2-puts, symlinkat-puts}
use Rattle.law_kept.proofs.PlainLemmas.{plain-puts}
use Rattle.law_kept.proofs.PlainRows.{get-three-puts, getgroups-puts, pipe2-puts, uname-puts, wait4-puts}
use Rattle.law_kept.proofs.RowLemmas.{Puts, refused}
use Rattle.law_kept.proofs.TellRows.{fstat-puts, getcwd-puts, getdents64-puts, newfstatat-here-puts, newfstatat-puts, readlinkat-puts}

-- ---- what is told of paths, or the error of a walk

looked-up-puts : (seen : Seen) {next : Looked → Replying} → ((l : Looked) → Puts (next l)) → Puts (looked_up seen next)
looked-up-puts (LooksUp l) puts = puts l
looked-up-puts (WalkFails e) puts = refused e
looked-up-puts _ puts = refused ENOENT

link-read-puts : (seen : Seen) → SeenHasBytes seen → {next : Looked → Option (List ℕ) → Replying} → ((l : Looked) (text : Option (List ℕ)) → IfSome text AreBytes → Puts (next l text)) → Puts (link_read seen next)
link-read-puts (ReadsLink l text) told puts = puts l text told
link-read-puts (WalkFails e) told puts = refused e
link-read-puts _ told puts = refused ENOENT

opened-puts : (seen : Seen) → SeenHasBytes seen → {next : Opening → Replying} → ((o : Opening) → OpeningHasBytes o → Puts (next o)) → Puts (opened seen next)
opened-puts (Opens o) told puts = puts o told
opened-puts (WalkFails e) told puts = refused e
opened-puts _ told puts = refused ENOENT

made-puts : (seen : Seen) → SeenHasBytes seen → {next : Made → Replying} → ((m : Made) → MadeHasBytes m → Puts (next m)) → Puts (made seen next)
made-puts (MakesEntry m) told puts = puts m told
made-puts (WalkFails e) told puts = refused e
made-puts _ told puts = refused ENOENT

directory-named-puts : (seen : Seen) → SeenHasBytes seen → {next : Option (List ℕ) → Replying} → ((name : Option (List ℕ)) → IfSome name AreBytes → Puts (next name)) → Puts (directory_named seen next)
directory-named-puts (NamesDirectory name) told puts = puts name told
directory-named-puts (WalkFails e) told puts = refused e
directory-named-puts _ told puts = refused ENOENT

linked-puts : (seen : Seen) → SeenHasBytes seen → (k : Known) → Puts (linked seen k)
linked-puts (Links old new same_mount) told k = linkat-puts k old new same_mount told
linked-puts (WalkFails e) told k = refused e
linked-puts _ told k = refused ENOENT

moved-puts : (seen : Seen) → SeenHasBytes seen → (k : Known) → Puts (moved seen k)
moved-puts (Moves old new same_mount) told k = renameat2-puts k old new same_mount told
moved-puts (WalkFails e) told k = refused e
moved-puts _ told k = refused ENOENT

by-path-puts : (path : List ℕ) {here next : Replying} → Puts here → Puts next → Puts (by_path path here next)
by-path-puts [] here next = here
by-path-puts (b ∷ path) here next = next

-- ---- each request

pub operation-puts : (pid : ℕ) (r : Request) (seen : Seen) (k : Known) → KnowsBytes k → SeenHasBytes seen → HasByteText r → Puts (operation pid r seen k)
operation-puts pid (call.Pipe2 buf flags) seen k knows told gives = pipe2-puts k buf flags
operation-puts pid (call.Read fd buf n) seen k knows told gives = read-puts k knows fd buf n
operation-puts pid (call.Write fd buf n) seen k knows told gives = write-puts k fd buf n
operation-puts pid (call.Readv fd list count) seen k knows told gives = readv-puts k knows fd list count
operation-puts pid (call.Writev fd list count) seen k knows told gives = writev-puts k fd list count
operation-puts pid (call.Openat dirfd path flags mode) seen k knows told gives = opened-puts seen told (λ o are. openat-puts k o flags mode are)
operation-puts pid (call.Mkdirat dirfd path mode) seen k knows told gives = made-puts seen told (λ m are. mkdirat-puts k m mode are)
operation-puts pid (call.Symlinkat text dirfd path) seen k knows told gives = made-puts seen told (λ m are. symlinkat-puts k m text are gives)
operation-puts pid (call.Linkat olddir old newdir new flags) seen k knows told gives = linked-puts seen told k
operation-puts pid (call.Renameat2 olddir old newdir new) seen k knows told gives = moved-puts seen told k
operation-puts pid (call.Fstat fd buf) seen k knows told gives = fstat-puts k fd buf
operation-puts pid (call.Newfstatat dirfd path buf flags) seen k knows told gives = by-path-puts path (newfstatat-here-puts k dirfd buf) (looked-up-puts seen (λ l. newfstatat-puts k l buf))
operation-puts pid (call.Readlinkat dirfd path buf size) seen k knows told gives = link-read-puts seen told (λ l text are. readlinkat-puts k knows l text buf size are)
operation-puts pid (call.Getdents64 fd buf n) seen k knows told gives = getdents64-puts k knows fd buf n
operation-puts pid (call.Getcwd buf size) seen k knows told gives = directory-named-puts seen told (λ name are. getcwd-puts name buf size are)
operation-puts pid (call.Uname buf) seen k knows told gives = uname-puts buf
operation-puts pid (call.Wait4 child status options usage) seen k knows told gives = wait4-puts k pid child status options usage
operation-puts pid (call.Getresuid ruid euid suid) seen k knows told gives = get-three-puts k.user.uid ruid euid suid
operation-puts pid (call.Getresgid rgid egid sgid) seen k knows told gives = get-three-puts k.user.gid rgid egid sgid
operation-puts pid (call.Getgroups size list) seen k knows told gives = getgroups-puts k size list
-- all others write nothing, and make plain changes
operation-puts pid r seen k knows told gives = plain-puts pid r seen k refl refl
