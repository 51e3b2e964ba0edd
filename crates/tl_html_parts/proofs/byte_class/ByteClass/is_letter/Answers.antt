use Rattle.std.proofs.Common.{sym, ◌∙◌}
use Rattle.tl_html_parts.proofs.Lower.{lower_key, lower_name}
use Rattle.tl_html_parts.proofs.byte_class.ByteClass.is_letter.Goals as goal

pub returns-in-Name : goal.returns-in-Name
returns-in-Name c p = rw c.in-Name.is (lower_name c.args.byte (sym c.is_ascii_lowercase.ensures.value ∙ p))

pub returns-in-Key : goal.returns-in-Key
returns-in-Key c p = rw c.in-Key.is (lower_key c.args.byte (sym c.is_ascii_lowercase-in-Key.ensures.value ∙ p))
