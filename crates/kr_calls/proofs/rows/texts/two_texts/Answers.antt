use Rattle.kr_calls.proofs.TwoTextLemmas.{first_missed, second_missed, first_unread, second_unread, both_read, texts_want}
use Rattle.kr_calls.proofs.rows.texts.two_texts.Goals as goal

pub returns-in-Err-clause-decoded : goal.returns-in-Err-clause-decoded
returns-in-Err-clause-decoded g c = first_missed c.args.first c.args.second c.args.mem.now c.find.new.mem c.in-Err.errno c.in-Err.ensures.found

pub returns-in-Err-find-clause-decoded : goal.returns-in-Err-find-clause-decoded
returns-in-Err-find-clause-decoded g c =
    second_missed c.args.first c.args.second c.args.mem.now c.find.new.mem c.find-2.new.mem c.in-Err-find.errno c.in_default.ensures.found c.in-Err-find.ensures.found

pub returns-in-Err-path-clause-decoded : goal.returns-in-Err-path-clause-decoded
returns-in-Err-path-clause-decoded g c =
    first_unread c.args.first c.args.second c.args.mem.now c.find.new.mem c.find-2.new.mem c.in_default.ensures.found c.in_default-find.ensures.found c.path.new.mem c.in-Err-path.fault c.in-Err-path.ensures.decoded

pub returns-in-Err-path-clause-wanting : goal.returns-in-Err-path-clause-wanting
returns-in-Err-path-clause-wanting g c = texts_want c.args.first c.args.second _

pub returns-in-Ok-path-clause-decoded : goal.returns-in-Ok-path-clause-decoded
returns-in-Ok-path-clause-decoded g c =
    both_read c.args.first c.args.second c.args.mem.now c.find.new.mem c.find-2.new.mem c.in_default.ensures.found c.in_default-find.ensures.found c.path.new.mem c.path-2.new.mem c.in-Ok.one c.in-Ok-path.two c.in-Ok.ensures.decoded c.in-Ok-path.ensures.decoded

pub returns-in-Err-path-2-clause-decoded : goal.returns-in-Err-path-2-clause-decoded
returns-in-Err-path-2-clause-decoded g c =
    second_unread c.args.first c.args.second c.args.mem.now c.find.new.mem c.find-2.new.mem c.in_default.ensures.found c.in_default-find.ensures.found c.path.new.mem c.path-2.new.mem c.in-Ok.one c.in-Err-path-2.fault c.in-Ok.ensures.decoded c.in-Err-path-2.ensures.decoded

pub returns-in-Err-path-2-clause-wanting : goal.returns-in-Err-path-2-clause-wanting
returns-in-Err-path-2-clause-wanting g c = texts_want c.args.first c.args.second _
