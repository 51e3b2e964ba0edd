use Rattle.std.proofs.Common.{ap, sym, ◌∙◌}
use Rattle.tl_dom_spec.specs.Path.{Frame}
use Rattle.tl_tree.proofs.Dispatched.{adjusted-none, adjusted-only, adjusted-top}
use Rattle.tl_tree.proofs.builder.Builder.adjusted_tag.Goals as goal

pub returns-then-is_only-clause-stands : goal.returns-then-is_only-clause-stands
returns-then-is_only-clause-stands c =
    sym (adjusted-only c.args.self.now c.in-Some.tag c.in-Some.is (sym c.is_only.ensures ∙ c.if-is_only.true))

pub returns-else-is_only-clause-stands : goal.returns-else-is_only-clause-stands
returns-else-is_only-clause-stands c =
    ap (λ (f : Frame). f.tag) c.top.ensures.stands
    ∙ sym (adjusted-top c.args.self.now c.in-Some.tag c.in-Some.is (sym c.is_only.ensures ∙ c.if-is_only.false))

pub returns-in-None-clause-stands : goal.returns-in-None-clause-stands
returns-in-None-clause-stands c =
    ap (λ (f : Frame). f.tag) c.top-in-None.ensures.stands ∙ sym (adjusted-none c.args.self.now c.in-None.is)
