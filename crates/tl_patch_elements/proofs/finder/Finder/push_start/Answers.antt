use Rattle.std.proofs.Common.{map, sym, subst}
use Rattle.tl_html_parts.specs.Parts.{attribute_view, attributes_of}
use Rattle.tl_patch_elements.specs.Inner.Finding.{Finds}
use Rattle.tl_patch_elements.proofs.finder.Finder.push_start.Goals as goal

pub returns : goal.returns
returns c = λ mode tokens whole start.
    subst (Finds c.args.self.now c.push_start_tag.new.self c.args.at) (sym (c.in_ok-parts.ensures.start mode tokens whole start))
    (c.in_ok-push_start_tag.ensures (attributes_of (map attribute_view c.in_ok-parts.parts.attributes.items)))
