use Rattle.std.proofs.Common.{◌∙◌, sym}
use Rattle.tl_html_balance.specs.View.{name_of, open_names}
use Rattle.tl_html_balance.proofs.Tokens.{dropped, kept}
use Rattle.tl_html_balance.proofs.open_tags.OpenTags.is_dropped.Goals as goal

pub returns-then-is_misplaced : goal.returns-then-is_misplaced
returns-then-is_misplaced c =
    dropped (name_of c.args.name.now) (open_names c.args.self.now) c.is_foreign.result (sym c.is_misplaced.ensures ∙ c.if-is_misplaced.true) c.is_foreign.ensures

pub returns : goal.returns
returns c =
    kept (name_of c.args.name.now) (open_names c.args.self.now) (sym c.is_misplaced.ensures ∙ c.if-is_misplaced.false)
