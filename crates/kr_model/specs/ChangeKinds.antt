-- The kinds of changes, by which the lines of the table of calls tell what a call can make.
use Rattle.std.specs.Prelude.{Bool, List}
use Rattle.std.specs.List.{list_all}
use Rattle.kr_calls.specs.Kinds.{Kind, AddsNode, LinksNode, RemovesName, MovesName, SetsMode, SetsOwner, SetsSize, WritesFile, OpensPath, OpensOpen, CopiesDescriptor, ClosesDescriptor, SetsCloexec, Seeks, SetsAppend, MakesPipe, TakesFromPipe, PutsIntoPipe, TakesInput, WritesOut, WritesErr, ChangesPages, SetsBreak, SetsUmask, EntersPath, EntersOpen, Forks, Ends, Reaps, ReplacesImage, ReplacesExecutable, ReplacesOpen, ClosesOnExec, has_kind}
use Rattle.kr_model.specs.Change.{Change, AddNode, LinkNode, RemoveName, MoveName, SetMode, SetOwner, SetSize, WriteFile, OpenFile, CopyDescriptor, CloseDescriptor, SetCloexec, Seek, SetAppend, MakePipe, TakeFromPipe, PutIntoPipe, TakeInput, WriteOut, WriteErr, ChangePages, SetBreak, SetUmask, ChangeDirectory, Fork, End, Reap, ReplaceImage, ReplaceExecutable, CloseOnExec, OfFound, OfDirectory, OfDescriptor}

abbrev pub kind : Change → Kind
-- names and nodes
kind (AddNode dir name mode uid gid body) = AddsNode
kind (LinkNode dir name inode) = LinksNode
kind (RemoveName dir name) = RemovesName
kind (MoveName dir name to new) = MovesName
kind (SetMode inode mode) = SetsMode
kind (SetOwner inode uid gid) = SetsOwner
kind (SetSize inode size) = SetsSize
kind (WriteFile inode at bytes) = WritesFile
-- descriptors
kind (OpenFile fd cloexec OfFound o) = OpensPath
kind (OpenFile fd cloexec OfDirectory o) = OpensPath
kind (OpenFile fd cloexec (OfDescriptor n) o) = OpensOpen
kind (CopyDescriptor fd to cloexec) = CopiesDescriptor
kind (CloseDescriptor fd) = ClosesDescriptor
kind (SetCloexec fd cloexec) = SetsCloexec
kind (Seek fd at) = Seeks
kind (SetAppend fd append) = SetsAppend
-- pipes and the console
kind (MakePipe first second cloexec) = MakesPipe
kind (TakeFromPipe pipe count) = TakesFromPipe
kind (PutIntoPipe pipe bytes) = PutsIntoPipe
kind (TakeInput count) = TakesInput
kind (WriteOut bytes) = WritesOut
kind (WriteErr bytes) = WritesErr
-- processes
kind (ChangePages c) = ChangesPages
kind (SetBreak brk) = SetsBreak
kind (SetUmask mask) = SetsUmask
kind (ChangeDirectory OfFound host) = EntersPath
kind (ChangeDirectory OfDirectory host) = EntersPath
kind (ChangeDirectory (OfDescriptor n) host) = EntersOpen
kind (Fork birth) = Forks
kind (End status) = Ends
kind (Reap pid) = Reaps
kind (ReplaceImage image brk) = ReplacesImage
kind (ReplaceExecutable OfFound host dir name) = ReplacesExecutable
kind (ReplaceExecutable OfDirectory host dir name) = ReplacesExecutable
kind (ReplaceExecutable (OfDescriptor n) host dir name) = ReplacesOpen
kind CloseOnExec = ClosesOnExec

-- whether all of some changes are of these kinds
abbrev pub are_of : List Kind → List Change → Bool
are_of kinds cs = list_all (λ c. has_kind kinds (kind c)) cs
