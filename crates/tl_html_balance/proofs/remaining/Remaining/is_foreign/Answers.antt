use Rattle.tl_html_balance.specs.View.{names_left}
use Rattle.tl_html_balance.proofs.Depths.{foreign-none, foreign-some}
use Rattle.tl_html_balance.proofs.remaining.Remaining.is_foreign.Goals as goal

pub returns-in-Some : goal.returns-in-Some
returns-in-Some c =
    foreign-some (names_left c.args.self.now) c.in-Some.depth c.is.result c.in-Some.ensures.value c.is.ensures

pub returns-in-None : goal.returns-in-None
returns-in-None c = foreign-none (names_left c.args.self.now) c.in-None.ensures.value
