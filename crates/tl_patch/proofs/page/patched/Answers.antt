use Rattle.std.proofs.Common.{arith, rules}
use Rattle.tl_html_tokens.specs.declared.mode.Mode.TheVariants as mode
use Rattle.tl_html_tokens.specs.declared.stage.TokenKind.TheVariants as kind
use Rattle.tl_html_tokens.specs.declared.token.Token.{Token}
use Rattle.tl_patch.proofs.Reasons.{one_passed, patches_left, token_refused}
use Rattle.tl_patch.proofs.Written.{all_written, one_more}
use Rattle.tl_patch.proofs.page.patched.Goals as goal

pub loop-at-preserved : goal.loop-at-preserved
loop-at-preserved c = record {
  within = c.group_end-end.ensures.within;
  page = one_more c.args.page.now c.args.tokens.now c.args.patches.now c.loop-at.at c.loop-at.next c.group_end-end.result _ c.loop-at.text.items _
      (omega arith) c.group_end-end.ensures.order c.group_end-end.ensures.here c.in_ok-write_token.ensures.written c.loop-at.invariant.page;
  passed = one_passed c.args.page.now c.args.tokens.now c.args.patches.now c.loop-at.at c.loop-at.next c.group_end-end.result _ c.requires (omega arith)
      c.group_end-end.ensures.order c.group_end-end.ensures.here c.group_end-end.ensures.last c.loop-at.invariant.passed;
}

pub returns : goal.returns
returns c = record {
  page = all_written c.args.page.now c.args.tokens.now c.args.patches.now c.loop-at.at c.loop-at.next c.loop-at.text.items (omega arith) (omega arith) c.loop-at.invariant.page;
  reason = tt;
}

pub returns-in_err-write_token-clause-reason : goal.returns-in_err-write_token-clause-reason
returns-in_err-write_token-clause-reason c =
    let why = token_refused c.args.page.now c.args.tokens.now c.args.patches.now c.loop-at.at c.loop-at.next c.group_end-end.result _ _ c.requires (omega arith)
    c.group_end-end.ensures.order c.group_end-end.ensures.here c.in_err-write_token.ensures.reason in
    search (rules, why)

pub returns-then-next-patches-clause-reason : goal.returns-then-next-patches-clause-reason
returns-then-next-patches-clause-reason c =
    patches_left c.args.page.now c.args.tokens.now c.args.patches.now c.loop-at.at c.loop-at.next _ empty c.requires (omega arith) c.if-next-patches.true c.loop-at.invariant.passed
  where
    empty : Token
    empty = record { start = 0; end = 0; kind = kind.Text; mode = mode.Data }
