use Rattle.std.proofs.Common.{sym, drop-drop}
use Rattle.tl_lexer.proofs.cursor.skip_one.Goals as goal

pub returns-then-at-text-clause-rest : goal.returns-then-at-text-clause-rest
returns-then-at-text-clause-rest c = sym (drop-drop 1 c.args.at c.args.text.now)
