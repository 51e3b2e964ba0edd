use Rattle.std.proofs.Common.{false, rules, sym, true, ◌∙◌, ◌≡◌}
use Rattle.tl_values.specs.Names.{numbered}
use Rattle.tl_values.proofs.Kept.{here-free, here-used, said}
use Rattle.tl_values.proofs.names.Names.free_number.Goals as goal

pub returns-then-not-contains_key : goal.returns-then-not-contains_key
returns-then-not-contains_key c = λ used k.
    let is : c.as_str.result.now ≡ numbered c.args.name.now c.loop-number.number = c.as_str.ensures.value ∙ c.in_ok-made.ensures in
    let no : c.contains_key.result ≡ false = search (rules, c.if-not-contains_key.true) in
    sym (here-free used c.args.name.now c.loop-number.number c.args.end c.loop-number-test.true (said c.args.self.now used c.args.name.now c.as_str.result.now c.loop-number.number c.contains_key.result false k c.contains_key.ensures is no))
    ∙ c.loop-number.invariant used k

pub loop-number-preserved : goal.loop-number-preserved
loop-number-preserved c = λ used k.
    let is : c.as_str.result.now ≡ numbered c.args.name.now c.loop-number.number = c.as_str.ensures.value ∙ c.in_ok-made.ensures in
    let yes : c.contains_key.result ≡ true = search (rules, c.if-not-contains_key.false) in
    sym (here-used used c.args.name.now c.loop-number.number c.args.end c.loop-number-test.true (said c.args.self.now used c.args.name.now c.as_str.result.now c.loop-number.number c.contains_key.result true k c.contains_key.ensures is yes))
    ∙ c.loop-number.invariant used k
