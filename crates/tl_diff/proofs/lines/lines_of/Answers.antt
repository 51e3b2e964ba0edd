use Rattle.std.proofs.Common.{◌≡◌}
use Rattle.tl_diff.proofs.LineLists.{one_line}
use Rattle.tl_diff.proofs.lines.lines_of.Goals as goal

pub loop-rest-preserved : goal.loop-rest-preserved
loop-rest-preserved c =
    one_line c.loop-rest.lines.items c.push.new.self.items c.split_at.result.0 c.loop-rest.rest.now c.split_at.result.1.now c.args.text.now c.line_len.result
    c.in_ok-push.ensures.items c.split_at.ensures.front c.split_at.ensures.back c.loop-rest.invariant
