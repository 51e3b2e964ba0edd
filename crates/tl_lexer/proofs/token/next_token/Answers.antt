use Rattle.std.proofs.Common.{rules}
use Rattle.std.proofs.lemmas.List.{take_rest}
use Rattle.tl_lexer.proofs.token.next_token.Goals as goal

pub returns-clause-read : goal.returns-clause-read
returns-clause-read c = let run = rw take_rest at c.len_until-len.ensures.run in search rules
