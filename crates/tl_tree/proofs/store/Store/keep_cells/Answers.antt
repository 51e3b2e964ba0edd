use Rattle.std.proofs.Common.{refl, ◌∙◌}
use Rattle.tl_tree.proofs.Cuts.{begins-taken, cells-taken}
use Rattle.tl_tree.proofs.Listed.{begins-refl}
use Rattle.tl_tree.specs.Inner.Store.{sizes_of}
use Rattle.tl_tree.proofs.store.Store.keep_cells.Goals as goal

pub invariant_of-self-clause-cells_within : goal.invariant_of-self-clause-cells_within
invariant_of-self-clause-cells_within c =
    let s = c.args.self.now in
    cells-taken (sizes_of s) 0 c.args.count s.cells.items c.shrink_to_fit.new.self.items (c.shrink_to_fit.ensures.items ∙ c.truncate.ensures.items) s.cells_within

pub returns-clause-begins : goal.returns-clause-begins
returns-clause-begins c =
    let s = c.args.self.now in
    record {
      page = refl;
      side = begins-refl s.side.items;
      attributes = begins-refl s.attributes.tags.items;
      html_attributes = begins-refl s.attributes.html.items;
      body_attributes = begins-refl s.attributes.body.items;
      tags = begins-refl s.tags.items;
      doctypes = begins-refl s.doctypes.items;
      cells = begins-taken c.args.count s.cells.items c.shrink_to_fit.new.self.items (c.shrink_to_fit.ensures.items ∙ c.truncate.ensures.items);
    }

pub returns-clause-alike : goal.returns-clause-alike
returns-clause-alike c = record { page = refl; side = refl; attributes = refl; tags = refl; doctypes = refl }
