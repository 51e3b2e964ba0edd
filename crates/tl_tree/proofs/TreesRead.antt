-- What is read, by what it is the same as. Of any builders, so that none is computed.
use Rattle.std.proofs.Common.{Bool, ap, sym, ◌∙◌, ◌≡◌}
use Rattle.tl_dom_spec.specs.Builder.{Builder}
use Rattle.tl_dom_spec.specs.HtmlTree.{children_of, document_of, is_little, trees_in}
use Rattle.tl_dom_spec.specs.Path.{popped_to, top}
use Rattle.tl_tree.specs.Inner.Frames.{test_of}
use Rattle.tl_tree.specs.Rows.{rows_of}
use Rattle.tl_tree.specs.TreeView.{rows_in}
use Rattle.tl_tree.specs.declared.test.Test.TheVariants.{Nothing, Number}
use Rattle.tl_tree.specs.declared.tree.Tree.{Tree}

-- the trees of a page
pub page-trees : (b : Builder) (tree : Tree) → rows_in tree ≡ rows_of (trees_in (top (popped_to (test_of Nothing) b.path))) → rows_in tree ≡ rows_of (document_of b).trees
page-trees b tree is = is

-- those of a fragment
pub fragment-trees : (b : Builder) (tree : Tree) → rows_in tree ≡ rows_of (trees_in (top (popped_to (test_of (Number 1)) b.path))) → rows_in tree ≡ rows_of (children_of b)
fragment-trees b tree is = is

pub same-quirks : (b d : Builder) (tree : Tree) → b ≡ d → tree.is_quirks ≡ b.is_quirks → tree.is_quirks ≡ d.is_quirks
same-quirks b d tree e is = is ∙ ap (λ (own : Builder). own.is_quirks) e

pub same-little : (b d : Builder) (v : Bool) → b ≡ d → is_little b.excess ≡ v → is_little d.excess ≡ v
same-little b d v e is = ap (λ (own : Builder). is_little own.excess) (sym e) ∙ is
