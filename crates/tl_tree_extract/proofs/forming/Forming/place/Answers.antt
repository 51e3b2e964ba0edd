use Rattle.std.proofs.Common.{arith, refl, rules}
use Rattle.tl_tree_extract.proofs.Cells.{placed_kept, placed_over}
use Rattle.tl_tree_extract.proofs.forming.Forming.place.Goals as goal

pub returns-in_ok-push-2-clause-stands : goal.returns-in_ok-push-2-clause-stands
returns-in_ok-push-2-clause-stands c =
    placed_kept c.args.self.now
    (record { width = c.max-self.result; cells = c.push.new.self; passed = c.push-then-saturating_sub-gt1.new.self; ahead = c.args.self.now.ahead })
    c.args.row c.args.cell (search rules) (search rules) (search rules) refl c.requires.stands c.requires.free c.requires.here.0 c.requires.here.1

pub returns-else-saturating_sub-gt1-clause-stands : goal.returns-else-saturating_sub-gt1-clause-stands
returns-else-saturating_sub-gt1-clause-stands c =
    placed_over c.args.self.now
    (record { width = c.max-self.result; cells = c.push.new.self; passed = c.args.self.now.passed; ahead = c.args.self.now.ahead })
    c.args.row c.args.cell (search rules) (search rules) refl refl c.requires.stands c.requires.here.0 c.requires.here.1 (omega arith)
