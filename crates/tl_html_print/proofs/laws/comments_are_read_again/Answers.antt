use Rattle.tl_html_print.proofs.RereadComments.{comment_read}
use Rattle.tl_html_print.proofs.laws.comments_are_read_again.Goals as goal

pub returns : goal.returns
returns c = comment_read
