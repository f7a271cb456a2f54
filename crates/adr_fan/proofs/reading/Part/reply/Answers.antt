use Rattle.std.proofs.Common.{is_ok}
use Rattle.adr_fan.proofs.Parts.{true_longer, true_kept}
use Rattle.adr_fan.proofs.reading.Part.reply.Goals as goal

pub returns-in_default-clause-replies : goal.returns-in_default-clause-replies
returns-in_default-clause-replies g c = true_longer g.J.Naming.tie c.args.self.now.reader.seen c.reply_to.new.reader.seen c.args.self.now.replies.items c.reply_to.ensures.seen c.requires

pub returns-then-is_err-clause-replies : goal.returns-then-is_err-clause-replies
returns-then-is_err-clause-replies g c =
    let tie = g.J.Naming.tie in
    let seen = c.reply_to.new.reader.seen in
    let all = true_longer tie c.args.self.now.reader.seen seen c.args.self.now.replies.items c.reply_to.ensures.seen c.requires in
    rw c.push.ensures.items (true_kept tie seen c.args.self.now.replies.items c.in-Some.reply (is_ok c.push.result) all c.in-Some.ensures.reply)

pub returns-else-is_err-clause-replies : goal.returns-else-is_err-clause-replies
returns-else-is_err-clause-replies g c =
    let tie = g.J.Naming.tie in
    let seen = c.reply_to.new.reader.seen in
    let all = true_longer tie c.args.self.now.reader.seen seen c.args.self.now.replies.items c.reply_to.ensures.seen c.requires in
    rw c.push.ensures.items (true_kept tie seen c.args.self.now.replies.items c.in-Some.reply (is_ok c.push.result) all c.in-Some.ensures.reply)
