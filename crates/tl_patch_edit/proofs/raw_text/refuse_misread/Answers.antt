use Rattle.tl_patch_edit.specs.Errors.{pieces_in}
use Rattle.tl_patch_edit.proofs.Misread.{doubtless_kept}
use Rattle.tl_patch_edit.proofs.raw_text.refuse_misread.Goals as goal

pub returns-then-not-are_doubtful-clause-kept : goal.returns-then-not-are_doubtful-clause-kept
returns-then-not-are_doubtful-clause-kept c =
    doubtless_kept (pieces_in c.args.page.now) c.args.asks.now (c.are_doubtful-are_doubtful.ensures c.if-not-are_doubtful.true)
