use Rattle.std.proofs.Common.{[], ◌∙◌, ◌∷◌, is_ok, refl}
use Rattle.tl_tree.proofs.Grown.{row-added}
use Rattle.tl_tree.proofs.Listed.{begins-of, begins-refl}
use Rattle.tl_tree.proofs.Within.{cells-pushed}
use Rattle.tl_tree.specs.Inner.Store.{sizes_of}
use Rattle.tl_tree.specs.declared.cell.Cell.{Cell}
use Rattle.tl_tree.proofs.store.Store.add.Goals as goal

pub invariant_of-self-clause-cells_within : goal.invariant_of-self-clause-cells_within
invariant_of-self-clause-cells_within c =
    let s = c.args.self.now in
    cells-pushed (sizes_of s) (is_ok c.push.result) s.cells.items c.push.new.self.items (record { before = c.args.before; node = c.args.node }) c.push.ensures.items s.cells_within c.requires.before c.requires.node

pub returns-clause-stands : goal.returns-clause-stands
returns-clause-stands c =
    let s = c.args.self.now in
    let own : Cell = record { before = c.args.before; node = c.args.node } in
    let e = c.in_ok-push.ensures.items in
    row-added s _
    (record { page = refl; side = begins-refl s.side.items; attributes = begins-refl s.attributes.tags.items; html_attributes = begins-refl s.attributes.html.items; body_attributes = begins-refl s.attributes.body.items; tags = begins-refl s.tags.items; doctypes = begins-refl s.doctypes.items; cells = begins-of s.cells.items c.push.new.self.items (own ∷ []) e })
    own e c.requires.node c.len-2.result (c.len-2.ensures ∙ c.push.new.self.ok.0)
