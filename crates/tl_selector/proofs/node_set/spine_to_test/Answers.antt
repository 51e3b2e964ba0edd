use Rattle.std.proofs.Common.{rules, ◌≡◌, ◌≤◌, arith}
use Rattle.tl_selector.specs.Spine.{with_first}
use Rattle.tl_selector.specs.View.{selector}
use Rattle.tl_selector.specs.declared.selector.Selector.{size-Selector}
use Rattle.tl_selector.proofs.Chains.{further_in, no_larger, first_no_larger}
use Rattle.tl_selector.proofs.node_set.spine_to_test.Goals as goal

pub inwards-preserved-in-And : goal.inwards-preserved-in-And
inwards-preserved-in-And g c =
    let wholes = c.inwards.wholes.items in
    let first = c.inwards.first in
    let inner = c.deref-first.result in
    let grown = c.push.new.self.items in
    let more = c.in_ok-push-in-And.ensures.items in
    let side : with_first (selector first.now) (selector inner.now) ≡ selector first.now = search rules in
    let less : size-Selector inner.now ≤ size-Selector first.now = search (rules, first_no_larger first.now) in
    record {
      whole = further_in (selector c.args.e.now) wholes grown first inner more side c.inwards.invariant.whole;
      deeper = omega (arith, less, c.inwards.invariant.deeper);
      depth = no_larger (size-Selector c.args.e.now) wholes grown first more c.inwards.invariant.depth c.inwards.invariant.deeper;
    }

pub inwards-preserved-in-Or : goal.inwards-preserved-in-Or
inwards-preserved-in-Or g c =
    let wholes = c.inwards.wholes.items in
    let first = c.inwards.first in
    let inner = c.deref-first-in-Or.result in
    let grown = c.push-in-Or.new.self.items in
    let more = c.in_ok-push-in-Or.ensures.items in
    let side : with_first (selector first.now) (selector inner.now) ≡ selector first.now = search rules in
    let less : size-Selector inner.now ≤ size-Selector first.now = search (rules, first_no_larger first.now) in
    record {
      whole = further_in (selector c.args.e.now) wholes grown first inner more side c.inwards.invariant.whole;
      deeper = omega (arith, less, c.inwards.invariant.deeper);
      depth = no_larger (size-Selector c.args.e.now) wholes grown first more c.inwards.invariant.depth c.inwards.invariant.deeper;
    }

pub inwards-preserved-in-Descendant : goal.inwards-preserved-in-Descendant
inwards-preserved-in-Descendant g c =
    let wholes = c.inwards.wholes.items in
    let first = c.inwards.first in
    let inner = c.deref-first-in-Descendant.result in
    let grown = c.push-in-Descendant.new.self.items in
    let more = c.in_ok-push-in-Descendant.ensures.items in
    let side : with_first (selector first.now) (selector inner.now) ≡ selector first.now = search rules in
    let less : size-Selector inner.now ≤ size-Selector first.now = search (rules, first_no_larger first.now) in
    record {
      whole = further_in (selector c.args.e.now) wholes grown first inner more side c.inwards.invariant.whole;
      deeper = omega (arith, less, c.inwards.invariant.deeper);
      depth = no_larger (size-Selector c.args.e.now) wholes grown first more c.inwards.invariant.depth c.inwards.invariant.deeper;
    }

pub inwards-preserved : goal.inwards-preserved
inwards-preserved g c =
    let wholes = c.inwards.wholes.items in
    let first = c.inwards.first in
    let inner = c.deref-first-in-Parent.result in
    let grown = c.push-in-Parent.new.self.items in
    let more = c.in_ok-push-in-Parent.ensures.items in
    let side : with_first (selector first.now) (selector inner.now) ≡ selector first.now = search rules in
    let less : size-Selector inner.now ≤ size-Selector first.now = search (rules, first_no_larger first.now) in
    record {
      whole = further_in (selector c.args.e.now) wholes grown first inner more side c.inwards.invariant.whole;
      deeper = omega (arith, less, c.inwards.invariant.deeper);
      depth = no_larger (size-Selector c.args.e.now) wholes grown first more c.inwards.invariant.depth c.inwards.invariant.deeper;
    }
