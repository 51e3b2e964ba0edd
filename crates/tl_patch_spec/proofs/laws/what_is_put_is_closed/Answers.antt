use Rattle.tl_patch_spec.proofs.Patched.{before_read, text_before}
use Rattle.tl_patch_spec.proofs.Tag.{title_before}
use Rattle.tl_patch_spec.proofs.laws.what_is_put_is_closed.Goals as goal

pub returns-clause-text : goal.returns-clause-text
returns-clause-text c = text_before

pub returns-clause-title : goal.returns-clause-title
returns-clause-title c = title_before

pub returns-clause-piece : goal.returns-clause-piece
returns-clause-piece c = before_read
