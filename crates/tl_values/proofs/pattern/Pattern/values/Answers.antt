use Rattle.std.proofs.Common.{List, Option, arith, length, map, ℕ, ◌<◌}
use Rattle.std.specs.Option.{option_map}
use Rattle.tl_tree.specs.TreeView.{rows_in}
use Rattle.tl_values.proofs.Gots.{each_more}
use Rattle.tl_values.specs.NewValues.{got, items_of, pattern_got}
use Rattle.tl_values.proofs.pattern.Pattern.values.Goals as goal

pub loop-number-preserved : goal.loop-number-preserved
loop-number-preserved c =
    let numbers : List ℕ = c.args.numbers.now in
    let i : ℕ = c.loop-number.number-index in
    let within : i < length numbers = omega (arith, c.loop-number-test.true) in
    record {
      so_far = each_more (pattern_got c.args.self.now c.args.key.now (rows_in c.args.tree.now)) numbers i
          (map got c.loop-number.values.items) (map got c.push_got.new.values.items) (option_map items_of c.in_ok-made.made) within
          c.in_ok-made.ensures.made c.loop-number.invariant.so_far c.in_ok-push_got.ensures;
      same = c.in_ok-made.ensures.same;
    }
