use Rattle.tl_html_parts.specs.Parts.{name_of}
use Rattle.tl_patch_edit.proofs.plan.plan.Goals as goal

pub returns-in-PutBefore : goal.returns-in-PutBefore
returns-in-PutBefore c = rw c.in-PutBefore.is (c.put_before.ensures (name_of c.args.raw.now))
