use Rattle.tl_tree_extract.proofs.tables.place_cells.Goals as goal

pub returns-clause-stands : goal.returns-clause-stands
returns-clause-stands c = c.end_row.ensures.stands c.args.number c.loop-child.column c.loop-child.invariant.stands
