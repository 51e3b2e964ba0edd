use Rattle.std.proofs.Common.{rules}
use Rattle.tl_tree_extract.proofs.Standing.{each, string_stands}
use Rattle.tl_tree_extract.specs.declared.written_bytes.Written.TheVariants.{CssString}
use Rattle.tl_tree_extract.proofs.notation.add_string_bytes.Goals as goal

pub returns-then-is_unmarked : goal.returns-then-is_unmarked
returns-then-is_unmarked c =
    let bytes = c.args.bytes.now in
    rw (string_stands bytes (each CssString bytes (c.is_unmarked.ensures c.if-is_unmarked.true))) (search rules)
