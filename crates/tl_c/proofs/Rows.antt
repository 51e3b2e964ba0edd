-- Numbers of rows have 32 bits.
use Rattle.std.proofs.Common.{◌≡◌, ◌∙◌, ◌<◌, ℕ, List, [], ◌∷◌, ap, ap₂, arith, length, map, refl}
use Rattle.std.proofs.lemmas.Bool.{lt-ltb}
use Rattle.std.specs.List.{Contains}
use Rattle.tl_css.specs.Selector.{Css}
use Rattle.tl_spec.specs.Lex.ByteClass.{largest_u32}
use Rattle.tl_tree.specs.TreeView.{rows_in}
use Rattle.tl_tree.specs.declared.tree.Tree.{Tree}
use Rattle.tl_tree_select.proofs.Founds.{at_front, later}
use Rattle.tl_tree_select.proofs.Marks.{holds_element}
use Rattle.tl_tree_select.proofs.Siblings.{element_within}
use Rattle.tl_tree_select.proofs.Trees.{tree_small}
use Rattle.tl_tree_select.specs.Meaning.{Holds}
use Rattle.tl_tree_select.specs.Page.{Page}
use Rattle.tl_c.specs.Queries.{short}

pub short_same : (tree : Tree) (number : ℕ) → number < length (rows_in tree) → short number ≡ number
short_same tree number within =
    let few = tree_small tree in rw (lt-ltb number largest_u32 (omega (arith, within, few))) refl

pub shorts_same : (tree : Tree) (numbers : List ℕ) → ((number : ℕ) → Contains numbers number → number < length (rows_in tree)) → map short numbers ≡ numbers
shorts_same tree [] within = refl
shorts_same tree (number ∷ numbers) within =
    ap₂ (λ n ns. n ∷ ns) (short_same tree number (within number (at_front number numbers)))
    (shorts_same tree numbers (λ other has. within other (later number numbers other has)))

-- where a selector holds is the number of a row
pub holds_within : (page : Page) (e : Css) (number : ℕ) → Holds page e number → number < length page.rows
holds_within page e number holds = element_within page number (holds_element page e number holds)
