use Rattle.std.proofs.Common.{sym, ◌∙◌}
use Rattle.tl_html_balance.proofs.Opened.{open-length}
use Rattle.tl_html_balance.proofs.open_tags.OpenTags.len.Goals as goal

pub returns : goal.returns
returns c = c.len.ensures ∙ sym (open-length c.args.self.now)
