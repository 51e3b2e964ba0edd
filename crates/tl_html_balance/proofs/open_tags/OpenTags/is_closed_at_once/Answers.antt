use Rattle.std.proofs.Common.{◌∙◌, sym}
use Rattle.tl_html_balance.specs.View.{name_of, open_names}
use Rattle.tl_html_balance.proofs.Tokens.{once-foreign, once-inside, once-named, once-raw, once-unclosed}
use Rattle.tl_html_balance.proofs.open_tags.OpenTags.is_closed_at_once.Goals as goal

pub returns-then-is : goal.returns-then-is
returns-then-is c =
    once-named (name_of c.args.name.now) c.args.closes (open_names c.args.self.now) (sym c.is.ensures ∙ c.if-is.true)

pub returns-then-not-closes : goal.returns-then-not-closes
returns-then-not-closes c =
    once-unclosed (name_of c.args.name.now) c.args.closes (open_names c.args.self.now) (sym c.is.ensures ∙ c.if-is.false) c.if-not-closes.true

pub returns-then-is-2 : goal.returns-then-is-2
returns-then-is-2 c =
    once-raw (name_of c.args.name.now) c.args.closes (open_names c.args.self.now) (sym c.is.ensures ∙ c.if-is.false) c.if-not-closes.false (sym c.is-2.ensures ∙ c.if-is-2.true)

pub returns-then-is-3 : goal.returns-then-is-3
returns-then-is-3 c =
    once-foreign (name_of c.args.name.now) c.args.closes (open_names c.args.self.now) (sym c.is.ensures ∙ c.if-is.false) c.if-not-closes.false (sym c.is-2.ensures ∙ c.if-is-2.false) (sym c.is-3.ensures ∙ c.if-is-3.true)

pub returns : goal.returns
returns c =
    once-inside (name_of c.args.name.now) c.args.closes (open_names c.args.self.now) c.is_foreign.result (sym c.is.ensures ∙ c.if-is.false) c.if-not-closes.false (sym c.is-2.ensures ∙ c.if-is-2.false) (sym c.is-3.ensures ∙ c.if-is-3.false) c.is_foreign.ensures
