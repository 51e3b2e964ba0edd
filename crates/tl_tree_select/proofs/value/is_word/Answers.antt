use Rattle.std.proofs.Common.{◌≡◌, rules, true}
use Rattle.tl_tree_select.proofs.Values.{other_word}
use Rattle.tl_tree_select.proofs.value.is_word.Goals as goal

pub returns-then-is_another : goal.returns-then-is_another
returns-then-is_another c =
    let is : c.is_another.result ≡ true = search rules in
    other_word c.args.value.now c.args.own.now (c.is_another.ensures.short is) (c.is_another.ensures.other is)
