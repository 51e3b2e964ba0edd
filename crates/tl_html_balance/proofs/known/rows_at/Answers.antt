use Rattle.std.proofs.Common.{◌≡◌, ◌-◌, sym, ◌∙◌, arith}
use Rattle.tl_html_balance.proofs.Letters.{rows-inside, rows-outside}
use Rattle.tl_html_balance.proofs.known.rows_at.Goals as goal

pub returns-then-is_ascii_lowercase : goal.returns-then-is_ascii_lowercase
returns-then-is_ascii_lowercase c =
    let at : c.from.result ≡ c.args.letter - 97 = omega arith in
    rows-inside c.args.letter c.from.result _ c.rows_of.ensures at (sym c.is_ascii_lowercase.ensures.value ∙ c.if-is_ascii_lowercase.true)

pub returns-else-is_ascii_lowercase : goal.returns-else-is_ascii_lowercase
returns-else-is_ascii_lowercase c =
    rows-outside c.args.letter (sym c.is_ascii_lowercase.ensures.value ∙ c.if-is_ascii_lowercase.false)
