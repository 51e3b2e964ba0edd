use Rattle.std.proofs.Common.{◌∙◌, sym}
use Rattle.tl_html_balance.specs.View.{name_of, open_names}
use Rattle.tl_html_balance.proofs.Tokens.{opens-once, opens-open, opens-void}
use Rattle.tl_html_balance.proofs.open_tags.OpenTags.opening.Goals as goal

pub returns-then-is : goal.returns-then-is
returns-then-is c =
    opens-void (name_of c.args.name.now) c.args.closes (open_names c.args.self.now) (sym c.is.ensures ∙ c.if-is.true)

pub returns-then-is_closed_at_once : goal.returns-then-is_closed_at_once
returns-then-is_closed_at_once c =
    opens-once (name_of c.args.name.now) c.args.closes (open_names c.args.self.now) (sym c.is.ensures ∙ c.if-is.false) (sym c.is_closed_at_once.ensures ∙ c.if-is_closed_at_once.true)

pub returns : goal.returns
returns c =
    opens-open (name_of c.args.name.now) c.args.closes (open_names c.args.self.now) (sym c.is.ensures ∙ c.if-is.false) (sym c.is_closed_at_once.ensures ∙ c.if-is_closed_at_once.false)
