use Rattle.tl_patch_select.proofs.Bounded.{joined_are}
use Rattle.tl_patch_select.proofs.ranges.joined.Goals as goal

pub returns : goal.returns
returns c = λ all start middle end l m x y. joined_are all start middle end c.args.one c.args.other _ c.least_of.ensures c.greatest_of.ensures l m x y
