use Rattle.user_page.proofs.Meeting.{writer_met, watcher_met}
use Rattle.user_page.proofs.steps.meet_ends.Goals as goal

pub returns-clause-writer : goal.returns-clause-writer
returns-clause-writer c =
    let w = c.watcher_hears-taken.ensures in
    let m = c.writer_hears.ensures in
    writer_met c.args.writer.now.me c.args.watcher.now.me c.watcher_hears-taken.new.writer.me c.watcher_hears-taken.new.watcher.me c.writer_hears.new.writer.me c.writer_hears.new.watcher.me c.watcher_hears-taken.result.0
    w.writer w.view w.all m.watcher m.view m.all

pub returns-clause-view : goal.returns-clause-view
returns-clause-view c =
    let w = c.watcher_hears-taken.ensures in
    let m = c.writer_hears.ensures in
    watcher_met c.args.writer.now.me c.args.watcher.now.me c.watcher_hears-taken.new.writer.me c.watcher_hears-taken.new.watcher.me c.writer_hears.new.writer.me c.writer_hears.new.watcher.me c.watcher_hears-taken.result.0
    w.writer w.view w.all m.watcher m.view m.all
