use Rattle.std.proofs.Common.{[], arith, is_ok, refl, ◌∙◌, ◌∷◌}
use Rattle.tl_tree.proofs.Grown.{doctype-added}
use Rattle.tl_tree.proofs.Listed.{all-pushed, appended-longer, begins-of, begins-refl}
use Rattle.tl_tree.proofs.Within.{cells-more}
use Rattle.tl_tree.specs.Inner.Store.{is_doctype, sizes_of}
use Rattle.tl_tree.proofs.store.Store.add_doctype.Goals as goal

pub invariant_of-self-clause-doctypes_within : goal.invariant_of-self-clause-doctypes_within
invariant_of-self-clause-doctypes_within c =
    let s = c.args.self.now in
    all-pushed (is_doctype s) (is_ok c.push.result) s.doctypes.items c.push.new.self.items c.args.doctype c.push.ensures.items s.doctypes_within c.requires

pub invariant_of-self-clause-cells_within : goal.invariant_of-self-clause-cells_within
invariant_of-self-clause-cells_within c =
    let s = c.args.self.now in
    let longer = appended-longer (is_ok c.push.result) s.doctypes.items c.push.new.self.items (c.args.doctype ∷ []) c.push.ensures.items in
    cells-more (sizes_of s) _ (record { page = refl; side = omega arith; tags = omega arith; doctypes = longer }) 0 s.cells.items s.cells_within

pub returns-clause-stands : goal.returns-clause-stands
returns-clause-stands c =
    let s = c.args.self.now in
    let e = c.in_ok-push.ensures.items in
    doctype-added s _
    (record { page = refl; side = begins-refl s.side.items; attributes = begins-refl s.attributes.tags.items; html_attributes = begins-refl s.attributes.html.items; body_attributes = begins-refl s.attributes.body.items; tags = begins-refl s.tags.items; doctypes = begins-of s.doctypes.items c.push.new.self.items (c.args.doctype ∷ []) e; cells = begins-refl s.cells.items })
    c.args.doctype e c.requires c.len-number.result (c.len-number.ensures ∙ s.doctypes.ok.0)
