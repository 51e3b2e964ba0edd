use Rattle.std.proofs.Common.{ap, refl, ◌∙◌}
use Rattle.tl_tree.proofs.ReadOn.{section-on}
use Rattle.tl_tree.specs.Inner.Builders.{Said, builder_of, token_of}
use Rattle.tl_tree.specs.Inner.Reading.{left_of}
use Rattle.tl_tree.specs.Inner.Store.{bytes_of}
use Rattle.tl_tree.proofs.reader.Reader.take_section.Goals as goal
use Rattle.tl_tree.proofs.Sourced.{section-sourced}

pub invariant_of-self : goal.invariant_of-self
unfolding token_of
invariant_of-self c =
    let r = c.args.self.now in
    record { within = r.within; same = ap (λ (said : Said). said.page) c.add_bytes.ensures.token ∙ r.same }

pub invariant_of-self-in-Break-branch-3 : goal.invariant_of-self-in-Break-branch-3
unfolding token_of
invariant_of-self-in-Break-branch-3 c =
    let r = c.args.self.now in
    record { within = r.within; same = c.take_run.ensures.page ∙ (ap (λ (said : Said). said.page) c.add_bytes.ensures.token ∙ r.same) }

pub invariant_of-self-2 : goal.invariant_of-self-2
unfolding token_of
invariant_of-self-2 c =
    let r = c.args.self.now in
    record { within = c.requires.within; same = c.take_run.ensures.page ∙ (ap (λ (said : Said). said.page) c.add_bytes.ensures.token ∙ r.same) }

pub returns-clause-ok : goal.returns-clause-ok
unfolding left_of
returns-clause-ok c =
    let r = c.args.self.now in
    let b1 = c.add_bytes.new.self in
    section-on (builder_of r.builder) (builder_of b1) (builder_of c.take_run.new.self) r.page.now r.at r.mode c.args.section (bytes_of b1.path.store c.in_ok-span.span)
    c.requires.section c.requires.foreign c.requires.mode c.add_bytes.ensures.ok
    (c.in_ok-span.ensures.stands ∙ (c.as_bytes.ensures ∙ c.in_ok-text.ensures))
    c.in_ok-take_run.ensures.ok

pub returns-clause-sources : goal.returns-clause-sources
returns-clause-sources c begin marks kept =
    let b1 = c.add_bytes.new.self in
    section-sourced begin marks c.args.self.now _ (builder_of b1) c.args.section (bytes_of b1.path.store c.in_ok-span.span)
    c.requires.section c.requires.foreign c.requires.mode c.add_bytes.ensures.ok
    (c.in_ok-span.ensures.stands ∙ (c.as_bytes.ensures ∙ c.in_ok-text.ensures))
    c.in_ok-take_run.ensures.ok refl refl refl kept
