use Rattle.std.proofs.Common.{lit<, refl}
use Rattle.std.proofs.lemmas.Str.Pattern.{strip_prefix_char}
use Rattle.tl_tree_safe.proofs.Marks.{is_behind}
use Rattle.tl_tree_safe.proofs.list_changes.behind_plus.Goals as goal

pub returns : goal.returns
returns c = is_behind 43 c.args.change.now c.strip_prefix.result refl (strip_prefix_char 43 c.args.change.now c.strip_prefix.result c.strip_prefix.ensures.cases (lit< tt))
