use Rattle.std.proofs.Common.{subst, sym, ◌∙◌}
use Rattle.tl_tree.proofs.ReadOn.{large-later, place-of}
use Rattle.tl_tree.proofs.Sourced.{further-sourced, out-behind}
use Rattle.tl_tree.specs.Sources.{IsOutOfProportionAt}
use Rattle.tl_tree.proofs.reader.Reader.read_on.Goals as goal

pub loop-self-preserved : goal.loop-self-preserved
loop-self-preserved c = record {
  left = c.in_ok-take_next.ensures.ok ∙ c.loop-self.invariant.left;
  sources = λ begin s. further-sourced begin c.loop-self.self c.take_next.new.self c.take_next.ensures.page c.in_ok-take_next.ensures.sources (c.loop-self.invariant.sources begin s);
  page = c.in_ok-take_next.ensures.page ∙ c.loop-self.invariant.page;
  little = λ _. sym c.is_little.ensures ∙ c.if-not-is_little.false;
}

pub returns-then-not-is_little-clause-large : goal.returns-then-not-is_little-clause-large
returns-then-not-is_little-clause-large c at is =
    large-later c.args.self.now c.take_next.new.self (c.in_ok-take_next.ensures.ok ∙ c.loop-self.invariant.left)
    (sym c.is_little.ensures ∙ c.if-not-is_little.true)

pub returns-then-not-is_little-clause-place : goal.returns-then-not-is_little-clause-place
returns-then-not-is_little-clause-place c at is begin s little =
    let page = c.args.self.now.page.now in
    subst (IsOutOfProportionAt page begin) (place-of c.take_next.new.self.at at is)
    (out-behind begin page c.loop-self.self c.take_next.new.self c.loop-self.invariant.page c.in_ok-take_next.ensures.sources
    (c.loop-self.invariant.little little) (sym c.is_little.ensures ∙ c.if-not-is_little.true) (c.loop-self.invariant.sources begin s))
