use Rattle.std.proofs.Common.{arith, length, refl}
use Rattle.tl_tree.proofs.Listed.{all-weaker, begins-refl}
use Rattle.tl_tree.proofs.Lists.{one-more-begins, one-more-longer, one-more-within}
use Rattle.tl_tree.proofs.Within.{tag-more}
use Rattle.tl_tree.specs.Inner.Lists.{many_in}
use Rattle.tl_tree.specs.Inner.Store.{is_attribute, is_tag}
use Rattle.tl_tree.specs.Inner.Within.{tag_is_within}
use Rattle.tl_tree.proofs.store.Store.add_attribute.Goals as goal

pub invariant_of-self-clause-attributes_within : goal.invariant_of-self-clause-attributes_within
invariant_of-self-clause-attributes_within c list =
    let s = c.args.self.now in
    one-more-within (is_attribute s) s.attributes c.add.new.self c.args.attribute c.add.ensures.lists list c.requires (s.attributes_within list)

pub invariant_of-self-clause-tags_within : goal.invariant_of-self-clause-tags_within
invariant_of-self-clause-tags_within c =
    let s = c.args.self.now in
    let page = length s.page.now in
    let side = length s.side.items in
    let own = many_in s.attributes in
    let new = many_in c.add.new.self in
    all-weaker (is_tag s) (tag_is_within page side new)
    (λ t h. tag-more page side side own new t (omega arith) (one-more-longer s.attributes c.add.new.self c.args.attribute c.add.ensures.lists) h)
    s.tags.items s.tags_within

pub returns-clause-grows : goal.returns-clause-grows
returns-clause-grows c =
    let s = c.args.self.now in
    let old = s.attributes in
    let new = c.add.new.self in
    let a = c.args.attribute in
    let more = c.add.ensures.lists in
    record {
      page = refl;
      side = begins-refl s.side.items;
      attributes = one-more-begins old.tags.items new.tags.items a more.tags;
      html_attributes = one-more-begins old.html.items new.html.items a more.html;
      body_attributes = one-more-begins old.body.items new.body.items a more.body;
      tags = begins-refl s.tags.items;
      doctypes = begins-refl s.doctypes.items;
      cells = begins-refl s.cells.items;
    }
