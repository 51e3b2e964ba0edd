use Rattle.std.proofs.Common.{rules}
use Rattle.tl_program.proofs.Stepping.{tag-stepped}
use Rattle.tl_program.proofs.script.edit.change_tag.Goals as goal

pub returns : goal.returns
returns g c = λ takes edit makes.
    tag-stepped _ _ _ c.in_ok-tag.tag.now c.parser_mut.ensures.value c.in_ok-tag.ensures.value takes edit c.change.new.arg2 c.change.result
    (makes c.in_ok-tag.tag.now c.change.new.arg2 c.change.result (search rules))
