use Rattle.std.proofs.Common.{arith, sym, ◌∙◌}
use Rattle.tl_tree.proofs.Decisive.{mode-begun}
use Rattle.tl_tree.proofs.Resets.{mode-all}
use Rattle.tl_tree.proofs.builder.Builder.decisive_len.Goals as goal

pub returns-then-has_open_among-clause-same : goal.returns-then-has_open_among-clause-same
returns-then-has_open_among-clause-same c =
    mode-begun c.args.self.now c.kind_limit-limit.result c.kind_limit-limit.ensures.within c.kind_limit-limit.ensures.skips
    (sym c.has_open_among.ensures ∙ c.if-has_open_among.true)

pub returns-else-has_open_among-clause-same : goal.returns-else-has_open_among-clause-same
returns-else-has_open_among-clause-same c =
    let b = c.args.self.now in
    let own = b.path.frames.ok.0 in
    mode-all b c.len.result (omega arith)
