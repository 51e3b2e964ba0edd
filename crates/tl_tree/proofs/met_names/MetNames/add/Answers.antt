use Rattle.std.proofs.Common.{◌∙◌}
use Rattle.tl_tree.proofs.NamesMet.{name-added, name_kept, names-same}
use Rattle.tl_tree.proofs.met_names.MetNames.add.Goals as goal

pub returns-in_err-insert-clause-kept : goal.returns-in_err-insert-clause-kept
returns-in_err-insert-clause-kept c n number e =
    names-same c.args.self.now (record { numbers = c.insert.new.self }) c.in_err-insert.ensures.err n ∙ e

pub returns-clause-own : goal.returns-clause-own
returns-clause-own c =
    name-added c.args.self.now (record { numbers = c.insert.new.self }) c.args.name _ c.in_ok-insert.ensures.entries c.requires

pub returns-clause-kept : goal.returns-clause-kept
returns-clause-kept c =
    name_kept c.args.self.now (record { numbers = c.insert.new.self }) c.args.name _ c.in_ok-insert.ensures.entries c.requires
