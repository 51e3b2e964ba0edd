use Rattle.std.proofs.Common.{rules}
use Rattle.tl.proofs.parser.builder.TableBuilder.end_tag.Goals as goal

pub returns-then-is_innermost-clause-ok : goal.returns-then-is_innermost-clause-ok
returns-then-is_innermost-clause-ok g c = search rules

pub returns-else-is_innermost-clause-ok : goal.returns-else-is_innermost-clause-ok
returns-else-is_innermost-clause-ok g c = search rules
