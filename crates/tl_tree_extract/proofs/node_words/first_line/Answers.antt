use Rattle.std.proofs.Common.{arith, true}
use Rattle.std.proofs.lemmas.List.Sums.{prefix_len-le-length}
use Rattle.tl_tree_extract.specs.Inner.Runs.{is_plain}
use Rattle.tl_tree_extract.proofs.node_words.first_line.Goals as goal

pub split_at-requires : goal.split_at-requires
split_at-requires c =
    let most = prefix_len-le-length (is_plain true) c.args.bytes.now in
    let is = c.line_len.ensures in
    omega (arith, most, is)
