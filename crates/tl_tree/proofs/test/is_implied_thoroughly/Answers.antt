use Rattle.std.proofs.Common.{Bool, ap, codes, sym, ◌&&◌, ◌∙◌, ◌||◌}
use Rattle.std.proofs.lemmas.List.Folds.{list_any-append}
use Rattle.std.specs.Str.{bytes_eq}
use Rattle.tl_html_spec.specs.Balanced.{is_one_of, words}
use Rattle.tl_names.specs.Elements.{implied_ends, is_among}
use Rattle.tl_names.specs.TagSets.{names_in}
use Rattle.tl_names.specs.declared.class.Class.TheVariants.{ImpliedThoroughly}
use Rattle.tl_tree.proofs.NumberedNames.{class-told}
use Rattle.tl_tree.proofs.test.is_implied_thoroughly.Goals as goal

pub returns-then-is_html : goal.returns-then-is_html
unfolding names_in
returns-then-is_html c n e =
    let more = codes "caption colgroup tbody td tfoot th thead tr" in
    c.is.ensures
    ∙ (class-told ImpliedThoroughly c.args.name n e
    ∙ (list_any-append (bytes_eq n) implied_ends (words more)
    ∙ sym (ap (λ (b : Bool). (b && is_among implied_ends n) || (b && is_one_of more n)) (sym c.is_html.ensures ∙ c.if-is_html.true))))
