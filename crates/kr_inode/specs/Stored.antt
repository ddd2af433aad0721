-- What the stored form of an inode stands for, and what a caller is told of it.
use Rattle.std.specs.Prelude.{ℕ, [], length, None}
use Rattle.kr_inode.specs.declared.content.Content.{Content}
use Rattle.kr_inode.specs.declared.content.Content.TheVariants.{Dir as DirContent, File as FileContent, Link as LinkContent, Proc as ProcContent}
use Rattle.kr_inode.specs.declared.node.Kind.{Kind}
use Rattle.kr_inode.specs.declared.node.Kind.TheVariants.{Dir as DirKind, File as FileKind, Link as LinkKind, Proc as ProcKind}
use Rattle.kr_inode.specs.declared.node.Meta.{Meta}
use Rattle.kr_inode.specs.declared.node.Node.{Node as NewNode}
use Rattle.kr_inode.specs.declared.node.Node.TheVariants.{Dir as NewDir, File as NewFile, Link as NewLink, Proc as NewProc}
use Rattle.kr_inode.specs.Inode.{Inode, Body, Directory, RegularFile, SymbolicLink, ProcessDirectory, bytes_of}

abbrev pub body_stored : Content → Body
body_stored (DirContent d) = Directory d.entries.list d.standing
body_stored (FileContent bytes) = RegularFile bytes.items
body_stored (LinkContent text) = SymbolicLink text.items
body_stored (ProcContent standing) = ProcessDirectory standing

abbrev pub next_serial_stored : Content → ℕ
next_serial_stored (DirContent d) = d.entries.next
next_serial_stored (FileContent bytes) = 3
next_serial_stored (LinkContent text) = 3
next_serial_stored (ProcContent standing) = 3

abbrev pub directories_stored : Content → ℕ
directories_stored (DirContent d) = d.directories
directories_stored (FileContent bytes) = 0
directories_stored (LinkContent text) = 0
directories_stored (ProcContent standing) = 0

-- ---- what a caller hands in and is told

-- the body of a node that is to be added
abbrev pub body_of_new : NewNode → Body
body_of_new NewDir = Directory [] None
body_of_new (NewFile bytes) = RegularFile bytes
body_of_new (NewLink text) = SymbolicLink text
body_of_new NewProc = ProcessDirectory None

abbrev pub kind_of : Body → Kind
kind_of (Directory entries standing) = DirKind
kind_of (RegularFile bytes) = FileKind
kind_of (SymbolicLink text) = LinkKind
kind_of (ProcessDirectory standing) = ProcKind

abbrev pub meta_of : Inode → Meta
meta_of x = record {
  mode = x.node.mode;
  uid = x.node.uid;
  gid = x.node.gid;
  names = x.names;
  size = length (bytes_of x.node.body);
}
