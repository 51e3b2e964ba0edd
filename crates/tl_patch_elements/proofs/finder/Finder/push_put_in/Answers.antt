use Rattle.std.proofs.Common.{ℕ, Bool, List, ◌∷◌, ◌++◌, ap, sym, ◌∙◌}
use Rattle.tl_html_parts.specs.Parts.{name_of}
use Rattle.tl_patch_spec.specs.Elements.{PlacedToken, elements_of, ended_element}
use Rattle.tl_patch_elements.specs.Inner.Finding.{stack_of}
use Rattle.tl_patch_elements.specs.View.{elements_view}
use Rattle.tl_patch_elements.proofs.Tags.{none_put, put_found}
use Rattle.tl_patch_elements.proofs.finder.Finder.push_put_in.Goals as goal

pub returns-then-is_nothing-clause-elements : goal.returns-then-is_nothing-clause-elements
returns-then-is_nothing-clause-elements c =
    none_put c.args.self.now c.args.at (name_of c.args.name.now) c.args.put_in (sym c.is_nothing-is_nothing.ensures ∙ c.if-is_nothing.true)

pub returns-clause-elements : goal.returns-clause-elements
returns-clause-elements c =
    let n : List ℕ = name_of c.args.name.now in
    put_found c.args.self.now c.push_alone.new.self c.args.at n c.args.put_in (sym c.is_nothing-is_nothing.ensures ∙ c.if-is_nothing.false) c.requires
    (λ (rest : List PlacedToken).
    ap (λ (w : Bool). elements_view c.args.self.now.ended.items ++ ended_element (n, c.args.at) c.args.at w ∷ elements_of (stack_of c.args.self.now) rest) (sym c.is_paragraph-is_paragraph.ensures)
    ∙ c.in_ok-push_alone.ensures.elements rest)
