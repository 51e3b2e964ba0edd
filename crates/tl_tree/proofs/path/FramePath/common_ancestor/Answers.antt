use Rattle.std.proofs.Common.{ap, refl, sym, ◌∙◌}
use Rattle.tl_dom_spec.specs.Adoption.{first}
use Rattle.tl_dom_spec.specs.Path.{Path, elements}
use Rattle.tl_tree.proofs.Furthest.{innermost-at}
use Rattle.tl_tree.proofs.Numbered.{found-within}
use Rattle.tl_tree.proofs.Readopted.{number-found, outside-none, outside-part}
use Rattle.tl_tree.specs.Inner.Adopted.{number_of}
use Rattle.tl_tree.proofs.path.FramePath.common_ancestor.Goals as goal

pub returns-in-Some : goal.returns-in-Some
returns-in-Some c =
    let p = c.args.self.now in
    let n = c.in-Some.place in
    let within = found-within p.frames.items n c.args.number c.in-Some.ensures.some in
    c.element_outside.ensures
    ∙ (innermost-at p n
    ∙ sym (ap (λ (path : Path). number_of (first (elements path))) (outside-part p c.args.number n c.requires within (number-found p n c.args.number c.in-Some.ensures.some))))

pub returns-in-None : goal.returns-in-None
returns-in-None c =
    sym (ap (λ (path : Path). number_of (first (elements path))) (outside-none c.args.self.now c.args.number c.requires (c.in-None.ensures.none refl)))
