use Rattle.std.proofs.Common.{Bool, ap, ap₂, codes, not, refl, sym, ◌&&◌, ◌∙◌, ◌||◌}
use Rattle.std.proofs.Math.Bool.{or-false}
use Rattle.std.specs.Str.{bytes_eq}
use Rattle.tl_html_spec.specs.Balanced.{is_one_of}
use Rattle.tl_names.specs.ElementNames.{element_names, name_of}
use Rattle.tl_names.specs.TagSets.{names_in}
use Rattle.tl_names.specs.declared.class.Class.TheVariants.{Special}
use Rattle.tl_tree.proofs.NumberedNames.{class-told, one-told}
use Rattle.tl_tree.proofs.test.is_special_name.Goals as goal

pub returns-then-counts_search : goal.returns-then-counts_search
unfolding names_in
returns-then-counts_search c n e =
    let among = sym (class-told Special c.args.name n e) ∙ (sym c.is.ensures ∙ c.if-is.true) in
    c.if-counts_search.true
    ∙ sym (ap₂ (λ (a b : Bool). a && (b || not (is_one_of (codes "search") n))) among c.if-counts_search.true)

pub returns-else-counts_search : goal.returns-else-counts_search
unfolding names_in element_names name_of
returns-else-counts_search c n e =
    let among = sym (class-told Special c.args.name n e) ∙ (sym c.is.ensures ∙ c.if-is.true) in
    c.ne.ensures
    ∙ ap not (one-told (codes "search") c.args.name n refl e ∙ sym (or-false (bytes_eq n (codes "search"))))
    ∙ sym (ap₂ (λ (a b : Bool). a && (b || not (is_one_of (codes "search") n))) among c.if-counts_search.false)

pub returns-else-is : goal.returns-else-is
unfolding names_in
returns-else-is c n e =
    let among = sym (class-told Special c.args.name n e) ∙ (sym c.is.ensures ∙ c.if-is.false) in
    c.if-is.false
    ∙ sym (ap (λ (a : Bool). a && (c.args.counts_search || not (is_one_of (codes "search") n))) among)
