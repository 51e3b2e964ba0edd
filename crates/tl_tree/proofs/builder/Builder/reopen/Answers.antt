use Rattle.std.proofs.Common.{ap, arith, ◌+◌, ◌∙◌}
use Rattle.tl_dom_spec.specs.Builder.{pushed_at}
use Rattle.tl_dom_spec.specs.Path.{Path, Place, new_frame}
use Rattle.tl_tree.proofs.Actives.{marker-of}
use Rattle.tl_tree.proofs.Built.{known-both, known-more, token-kept}
use Rattle.tl_tree.proofs.Reopened.{rest-element, rest-marker, tag-low}
use Rattle.tl_tree.proofs.Tallies.{tagged-at}
use Rattle.tl_tree.specs.Inner.Builders.{builder_of, token_of}
use Rattle.tl_tree.specs.Inner.Frames.{path_of}
use Rattle.tl_tree.specs.Inner.Store.{tag_at}
use Rattle.tl_tree.proofs.builder.Builder.reopen.Goals as goal

pub returns-in_default-clause-ok : goal.returns-in_default-clause-ok
returns-in_default-clause-ok c =
    rest-marker c.args.self.now c.args.place c.entry-entry.result c.requires c.entry-entry.ensures.stands (marker-of c.entry-entry.result c.in_default.not-Formatting)

pub returns-in_err-insert_element-clause-token : goal.returns-in_err-insert_element-clause-token
unfolding token_of
returns-in_err-insert_element-clause-token c =
    let b = c.args.self.now in
    token-kept b c.insert_element.new.self (known-more b c.insert_element.new.self c.insert_element.ensures.grows c.insert_element.ensures.least) c.insert_element.ensures.grows

pub returns-clause-token : goal.returns-clause-token
unfolding token_of
returns-clause-token c =
    let b = c.args.self.now in
    token-kept b c.insert_element.new.self (known-more b c.insert_element.new.self c.insert_element.ensures.grows c.insert_element.ensures.least) c.insert_element.ensures.grows

pub returns-clause-ok : goal.returns-clause-ok
unfolding builder_of
returns-clause-ok c =
    let b = c.args.self.now in
    let q = c.insert_element.new.self in
    let own = tag_at b.path.store c.in-Formatting.tag in
    let placed : Place → Path = λ at. pushed_at at (new_frame b.path.next own at) (path_of b.path) in
    rest-element b q c.set.new.self (b.added + 1) _ c.args.place c.in-Formatting.number c.in-Formatting.tag c.entry-entry.result
    c.insert_element.ensures.grows (omega (arith, c.in_ok-insert_element.ensures.next)) (omega arith)
    (c.in_ok-insert_element.ensures.ok ∙ ap placed c.appropriate_place-at.ensures)
    c.set.ensures.entries c.requires c.entry-entry.ensures.stands c.in-Formatting.is
    (tag-low b.active.greatest_number b.active.greatest_tag c.in-Formatting.number c.in-Formatting.tag c.entry-entry.result c.entry-entry.ensures.within c.in-Formatting.is)

pub set-requires-clause-same : goal.set-requires-clause-same
set-requires-clause-same c =
    tagged-at c.args.self.now.active.entries.items c.args.place c.in-Formatting.number c.in-Formatting.tag c.entry-entry.result c.requires c.entry-entry.ensures.stands c.in-Formatting.is

pub invariant_of-self : goal.invariant_of-self
invariant_of-self c =
    record { known = known-more c.args.self.now c.insert_element.new.self c.insert_element.ensures.grows c.insert_element.ensures.least }

pub invariant_of-self-2 : goal.invariant_of-self-2
invariant_of-self-2 c =
    let b = c.args.self.now in
    let q = c.insert_element.new.self in
    let more = known-more b q c.insert_element.ensures.grows c.insert_element.ensures.least in
    record {
      known = known-both b q c.set.new.self c.insert_element.ensures.grows c.insert_element.ensures.least (omega (arith, c.set.ensures.number, c.in_ok-insert_element.ensures.next)) (omega (arith, c.set.ensures.tag, more.listed)) (c.set.ensures.tallied q.store more.tallied);
    }
