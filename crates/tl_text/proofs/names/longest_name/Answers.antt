use Rattle.std.proofs.Common.{slice_index_or}
use Rattle.tl_text.proofs.Order.{in_order_as}
use Rattle.tl_text.proofs.names.longest_name.Goals as goal

pub first_row-requires : goal.first_row-requires
first_row-requires c = in_order_as c.table_of.result.now (slice_index_or c.args.bytes.now 0 0) c.table_of.ensures
