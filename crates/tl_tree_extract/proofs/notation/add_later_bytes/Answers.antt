use Rattle.std.proofs.Common.{rules}
use Rattle.tl_tree_extract.proofs.Standing.{each, name_stands}
use Rattle.tl_tree_extract.specs.declared.written_bytes.Written.TheVariants.{CssName}
use Rattle.tl_tree_extract.proofs.notation.add_later_bytes.Goals as goal

pub returns-then-is_unmarked : goal.returns-then-is_unmarked
returns-then-is_unmarked c =
    let bytes = c.args.bytes.now in
    rw (name_stands bytes (each CssName bytes (c.is_unmarked.ensures c.if-is_unmarked.true))) (search rules)
