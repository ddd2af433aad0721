-- A program that is found, and the file that is planned in the end, stand in the view and have a well-formed name or none, whatever their
-- walks go through.
use Rattle.std.proofs.Common.{◌≡◌, ℕ, Bool, true, false, cond, List, Option, Some, None, refl, sym, ap, subst, ◌∙◌}
use Rattle.std.specs.Prelude.{Result, Ok, Err, ◌&&◌}
use Rattle.std.specs.List.{All}
use Rattle.std.specs.Option.{option_map_or}
use Rattle.std.proofs.lemmas.Bool.{false≢true}
use Rattle.elf_load.specs.pr_base.declared.errno.Errno.{Errno}
use Rattle.elf_load.specs.pr_base.declared.errno.Errno.TheVariants.{EACCES}
use Rattle.elf_load.specs.pr_base.declared.path.WalkMode.TheVariants.{Look}
use Rattle.kr_perform.specs.kr_inode.declared.user.User.{User}
use Rattle.kr_perform.specs.kr_inode.declared.user.Right.TheVariants.{Search}
use Rattle.kr_exec.specs.kr_tree.declared.place.Host.{Host}
use Rattle.kr_exec.specs.kr_tree.declared.place.Host.TheVariants.{Node, Proc}
use Rattle.kr_exec.specs.kr_tree.declared.place.Place.{Place}
use Rattle.kr_exec.specs.kr_tree.declared.place.ProcAt.{ProcAt}
use Rattle.kr_exec.specs.kr_tree.Lawful.{HasBytes, IsOfBytes}
use Rattle.kr_exec.specs.kr_tree.Tree.{Body, Directory, Inode, ProcessDirectory, RegularFile, SymbolicLink, Tree, body, body_is, inode, is_directory, is_file}
use Rattle.kr_exec.specs.kr_tree.Rights.{may}
use Rattle.kr_exec.proofs.kr_tree.NameLemmas.{map_some}
use Rattle.kr_exec.specs.kr_view.declared.procs.Lead.TheVariants.{Text}
use Rattle.kr_exec.specs.kr_view.declared.target.Target.{Target}
use Rattle.kr_exec.specs.kr_view.Answers.{told}
use Rattle.kr_exec.specs.kr_view.Component.{Surroundings, is_directory_at}
use Rattle.kr_exec.specs.kr_view.InTree.{IsPlaceOf, StandsAround}
use Rattle.kr_exec.specs.kr_view.View.{Row, source}
use Rattle.kr_exec.specs.kr_view.Walk.{PlaceTarget, place_walk}
use Rattle.kr_exec.proofs.kr_view.PlaceLemmas.{walks_keep_places}
use Rattle.kr_perform.specs.law_allowed.Texts.{LinksHaveTexts}
use Rattle.kr_perform.specs.kr_model.Lawful.{IsNameOrNone, is_file_at}
use Rattle.kr_perform.specs.law_allowed.Told.{SourcesAreNamed}
use Rattle.kr_perform.proofs.NamingLemmas.{good_name}
use Rattle.kr_perform.proofs.TextLemmas.{IsTextByte, text_bytes}
use Rattle.kr_exec.specs.Exec.{entry_of, exec_plan, inode_at}
use Rattle.kr_exec.specs.Finding.{if_program, is_program, is_program_found, program_at, program_walk}
use Rattle.kr_exec.specs.Interpreters.{told_program}
use Rattle.kr_exec.specs.declared.plan.ExecPlan.{ExecPlan}
use Rattle.kr_execve.proofs.LineLemmas.{line-text}
use Rattle.kr_execve.proofs.PlannedLemmas.{planned-of}

-- what a target leads to stands in the view, and a file has a well-formed name or none
pub record IsStanding (t : Tree) (table : List Row) (target : Target ℕ) : Type 0 where
  pub place : (p : Place ℕ) → target.found ≡ Some p → IsPlaceOf t table p
  pub named : (p : Place ℕ) → target.found ≡ Some p → is_directory_at t p.host ≡ false → IsNameOrNone target.name

-- a program is a file
pub program-file : (t : Tree) (user : User) (h : Host) → is_program t user h ≡ true → is_file_at t h ≡ true
program-file t user (Proc i at) is = absurd cc
program-file t user (Node i) is = by (body_is is_file t i) (may t user i Search) is
  where
    by : (a b : Bool) → (a && b) ≡ true → a ≡ true
    by true b is = refl
    by false b is = absurd cc

-- a file is no directory
no-directory : (t : Tree) (h : Host) → is_file_at t h ≡ true → is_directory_at t h ≡ false
no-directory t (Proc i at) f = absurd (false≢true f)
no-directory t (Node i) f = by (inode t i) f
  where
    kind : (b : Body) → is_file b ≡ true → is_directory b ≡ false
    kind (Directory entries standing) h = absurd (false≢true h)
    kind (RegularFile bytes) h = refl
    kind (SymbolicLink text) h = refl
    kind (ProcessDirectory standing) h = absurd (false≢true h)

    by : (o : Option Inode) → option_map_or (λ (x : Inode). is_file x.node.body) o false ≡ true → option_map_or (λ (x : Inode). is_directory x.node.body) o false ≡ false
    by None h = absurd (false≢true h)
    by (Some x) h = kind x.node.body h

-- the name by which an executable is remembered
remembered : (table : List Row) → SourcesAreNamed table → (target : Target ℕ) (place : Place ℕ) → IsNameOrNone target.name → IsNameOrNone (entry_of table target place).1
remembered table sources target place named = by (source table place.mount) refl
  where
    by : (o : Option (ℕ × List ℕ)) → source table place.mount ≡ o → IsNameOrNone (option_map_or (λ (e : ℕ × List ℕ). e) o (inode_at target.dir.host, target.name)).1
    by None is = named
    by (Some e) is = sources place.mount e is

module _ (around : Surroundings) (base : Place ℕ) (stands : StandsAround around base) (bytes : HasBytes around.space.tree) (links : LinksHaveTexts around.space.tree)
    (texts : (at : ProcAt) (text : List ℕ) → around.leads at ≡ Text text → All IsTextByte text) where
  -- the text of a link of the tree is one of bytes
  link-bytes : (i : ℕ) (text : List ℕ) → body around.space.tree i ≡ Some (SymbolicLink text) → All IsTextByte text
  link-bytes i text is =
      let x = map_some (λ (x : Inode). x.node.body) (inode around.space.tree i) (SymbolicLink text) is in
      text_bytes text (links i text is) (subst IsOfBytes x.2 (bytes i x.0 x.1))

  -- of a walk along a text of bytes
  walk-stands : (path : List ℕ) (w : PlaceTarget) → All IsTextByte path → (place_walk around Look base path).answer ≡ Ok w → IsStanding around.space.tree around.space.table (told w)
  walk-stands path w text ends = record {
    place = (walks_keep_places around Look base path w stands ends).found;
    named = (good_name around Look base path w stands ends text link-bytes texts).remembered;
  }

  pub program-stands : (path : List ℕ) (w : PlaceTarget) → All IsTextByte path → program_at around base path ≡ Ok w → IsStanding around.space.tree around.space.table (told w)
  program-stands path w text is = by (program_walk around base path).answer refl is
    where
      may : (x : PlaceTarget) (b : Bool) → (place_walk around Look base path).answer ≡ Ok x → cond b (Ok x) (Err EACCES) ≡ Ok w → IsStanding around.space.tree around.space.table (told w)
      may x true ends is = let one : x ≡ w = cc in walk-stands path w text (ends ∙ ap Ok one)
      may x false ends is = absurd cc

      by : (a : Result PlaceTarget Errno) → (place_walk around Look base path).answer ≡ a → if_program around.space.tree around.space.user a ≡ Ok w → IsStanding around.space.tree around.space.table (told w)
      by (Err e) ends is = absurd cc
      by (Ok x) ends is = may x (is_program_found around.space.tree around.space.user x.found) ends is

  -- of an interpreter
  told-stands : (path : List ℕ) (found : Target ℕ) → All IsTextByte path → told_program (program_at around base path) ≡ Ok found → IsStanding around.space.tree around.space.table found
  told-stands path found text is = by (program_at around base path) refl is
    where
      by : (a : Result PlaceTarget Errno) → program_at around base path ≡ a → told_program a ≡ Ok found → IsStanding around.space.tree around.space.table found
      by (Err e) ends is = absurd cc
      by (Ok w) ends is = let one : told w ≡ found = cc in subst (λ (x : Target ℕ). IsStanding around.space.tree around.space.table x) one (program-stands path w text ends)

  pub planned-stands : SourcesAreNamed around.space.table → (found : Target ℕ) (path : List ℕ) (args env : List (List ℕ)) (plan : ExecPlan ℕ) → IsStanding around.space.tree around.space.table found → exec_plan around base found path args env ≡ Ok plan
      → is_file_at around.space.tree plan.place.host ≡ true → IsPlaceOf around.space.tree around.space.table plan.place × IsNameOrNone plan.name
  planned-stands sources found path args env plan own is file =
      let last = planned-of around base (λ target. IsStanding around.space.tree around.space.table target)
      (λ script target line good line_is finds. told-stands line.0 target (line-text around.space.tree bytes script.found line line_is) finds) found path args env plan own is
      in (
        last.1.place plan.place last.2.found,
        subst IsNameOrNone (sym last.2.name) (remembered around.space.table sources last.0 plan.place (last.1.named plan.place last.2.found (no-directory around.space.tree plan.place.host file))),
      )
