use Rattle.std.proofs.Common.{List, ap, arith, length, subst, sym, ◌∙◌}
use Rattle.tl_dom_spec.specs.Builder.{Builder}
use Rattle.tl_dom_spec.specs.HtmlTree.{trees_in}
use Rattle.tl_dom_spec.specs.Path.{popped_to, top}
use Rattle.tl_tree.specs.Inner.Builders.{builder_of}
use Rattle.tl_tree.specs.Inner.Frames.{test_of}
use Rattle.tl_tree.specs.Inner.Sourced.{AreSources}
use Rattle.tl_tree.specs.Rows.{rows_of}
use Rattle.tl_tree.specs.Sources.{bounds_in}
use Rattle.tl_tree.specs.declared.source.Bounds.{Bounds}
use Rattle.tl_tree.proofs.reader.Reader.into_tree.Goals as goal

pub returns-clause-tree : goal.returns-clause-tree
returns-clause-tree c =
    c.in_ok-tree.ensures.tree
    ∙ ap (λ (b : Builder). rows_of (trees_in (top (popped_to (test_of c.args.test) b.path)))) c.in_ok-read.ensures.ok

pub returns-clause-quirks : goal.returns-clause-quirks
returns-clause-quirks c = c.in_ok-tree.ensures.quirks ∙ ap (λ (b : Builder). b.is_quirks) c.in_ok-read.ensures.ok

pub returns-clause-sources : goal.returns-clause-sources
returns-clause-sources c begin s =
    let page = c.args.self.page.now in
    let built = builder_of c.read.new.self.builder in
    subst (λ (b : Builder). AreSources page begin b (bounds_in c.in_ok-tree.tree.sources)) c.in_ok-read.ensures.ok
    (subst (λ (places : List Bounds). AreSources page begin built places) (sym c.in_ok-tree.ensures.sources)
    (c.in_ok-read.ensures.sources begin s))

pub returns-clause-end : goal.returns-clause-end
returns-clause-end c = c.in_ok-tree.ensures.end ∙ ap length (c.read.new.self.same ∙ c.read.ensures.page)

pub returns-clause-short : goal.returns-clause-short
returns-clause-short c =
    let reader = c.read.new.self in
    let short = reader.builder.path.store.short in
    let same = ap length reader.same in
    let page = ap length c.read.ensures.page in
    omega (arith, short, same, page)
