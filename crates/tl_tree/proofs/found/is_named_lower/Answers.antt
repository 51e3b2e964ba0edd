use Rattle.std.proofs.Common.{ap, map, ◌∙◌}
use Rattle.std.specs.Char.{to_ascii_lowercase}
use Rattle.std.specs.Str.{bytes_eq}
use Rattle.tl_dom_spec.specs.Tags.{Tag}
use Rattle.tl_tree.specs.Inner.Store.{tag_of}
use Rattle.tl_tree.proofs.found.is_named_lower.Goals as goal

pub returns : goal.returns
unfolding tag_of
returns c =
    c.is_lowered.ensures
    ∙ ap (λ name. bytes_eq (map to_ascii_lowercase name) c.args.name.now)
    (c.bytes.ensures ∙ ap (λ (t : Tag). t.name) c.tag-own.ensures.stands)
