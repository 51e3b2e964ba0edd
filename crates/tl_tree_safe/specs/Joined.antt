-- Trees with texts that stand side by side made one: no tree that is read of a page has two.
use Rattle.std.specs.Prelude.{List, [], ℕ, ◌++◌, ◌∷◌}
use Rattle.tl_dom_spec.specs.HtmlForest.{HtmlForest, comment, doctype, element, no_trees, text}
use Rattle.tl_dom_spec.specs.Marks.{Marked}

-- a text before trees: part of the text that they begin with, and nothing if it is empty
abbrev pub text_before : Marked (List ℕ) → List ℕ → HtmlForest → HtmlForest
text_before own [] trees = trees
text_before own (b ∷ bytes) (text other more) =
    text (record own { said = b ∷ bytes ++ other.said }) more
text_before own (b ∷ bytes) trees = text own trees

abbrev pub texts_joined : HtmlForest → HtmlForest
texts_joined no_trees = no_trees
texts_joined (text own more) = text_before own own.said (texts_joined more)
texts_joined (comment own more) = comment own (texts_joined more)
texts_joined (doctype own more) = doctype own (texts_joined more)
texts_joined (element tag below more) = element tag (texts_joined below) (texts_joined more)
