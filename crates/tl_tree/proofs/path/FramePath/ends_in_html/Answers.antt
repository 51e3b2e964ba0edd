use Rattle.std.proofs.Common.{◌-◌, arith}
use Rattle.tl_tree.proofs.Stacked.{html-alone, html-on-top, other-on-top}
use Rattle.tl_tree.proofs.path.FramePath.ends_in_html.Goals as goal

pub returns-then-last-eq0-clause-yes : goal.returns-then-last-eq0-clause-yes
returns-then-last-eq0-clause-yes c = λ _.
    let p = c.args.self.now in
    let own = p.frames.ok.0 in
    let some = p.some in
    html-alone p (omega arith)

pub returns-else-last-eq0-clause-yes : goal.returns-else-last-eq0-clause-yes
returns-else-last-eq0-clause-yes c = λ same.
    let p = c.args.self.now in
    let own = p.frames.ok.0 in
    let some = p.some in
    html-on-top p (c.len-last.result - 1) c.index.result.now (omega arith) c.index.ensures same

pub returns-else-last-eq0-clause-no : goal.returns-else-last-eq0-clause-no
returns-else-last-eq0-clause-no c = λ other.
    let p = c.args.self.now in
    let own = p.frames.ok.0 in
    let some = p.some in
    other-on-top p (c.len-last.result - 1) c.index.result.now (omega arith) (omega arith) c.index.ensures other
