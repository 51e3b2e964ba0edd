-- Trees of which no element of HTML has a key twice: so are those of pages.
use Rattle.std.specs.List.{list_any}
use Rattle.std.specs.Prelude.{Bool, List, [], not, true, ℕ, ◌&&◌, ◌∷◌, ◌≡◌}
use Rattle.std.specs.Str.{bytes_eq}
use Rattle.tl_dom_spec.specs.HtmlForest.{HtmlForest}
use Rattle.tl_dom_spec.specs.Lawful.{EachElement}
use Rattle.tl_dom_spec.specs.Tags.{Attribute, Tag, is_html}

abbrev pub comes_again : List ℕ → List Attribute → Bool
comes_again key attributes = list_any (λ (a : Attribute). bytes_eq key a.key) attributes

abbrev pub are_apart : List Attribute → Bool
are_apart [] = true
are_apart (a ∷ attributes) = not (comes_again a.key attributes) && are_apart attributes

abbrev pub HasOwnKeys : Tag → HtmlForest → Type 0
HasOwnKeys tag below = is_html tag ≡ true → are_apart tag.attributes ≡ true

abbrev pub HaveOwnKeys : HtmlForest → Type 0
HaveOwnKeys trees = EachElement HasOwnKeys trees
