-- Quick looks at rows.
use Rattle.std.specs.Option.{option_and_then, option_map}
use Rattle.std.specs.Prelude.{◌≡◌, ◌≤◌, ℕ, Bool, Some, codes, false, length, true, ⊤}
use Rattle.tl_css.specs.Selector.{Css, Ident}
use Rattle.tl_css.specs.View.{ident}
use Rattle.tl_css.specs.declared.selector.Op.TheVariants.{Word}
use Rattle.tl_names.specs.ElementNames.{name_of as number_of}
use Rattle.tl_names.specs.declared.element_name.ElementName.{ElementName}
use Rattle.tl_tree.specs.Asked.{name_of, node_at}
use Rattle.tl_tree_select.specs.Inner.Links.{is_at}
use Rattle.tl_tree_select.specs.Meaning.{HasValue, Holds, IsElement, IsNamed, Passes, is_html_at, spelled}
use Rattle.tl_tree_select.specs.Page.{Page}
use Rattle.tl_tree_select.specs.declared.look.Look.{Look}
use Rattle.tl_tree_select.specs.declared.look.Look.TheVariants as l

-- an element has a name of this number
abbrev pub HasNameNumber : Page → ElementName → ℕ → Type 0
HasNameNumber page known n =
    option_map (λ name. (number_of name).number) (option_and_then name_of (node_at page.rows n))
    ≡ Some known.number

-- a row has what is looked for
abbrev pub IsSeen : Page → Look → ℕ → Type 0
IsSeen page (l.Known known) n = HasNameNumber page known n
IsSeen page (l.Name known) n =
    (name : Ident) × (known ≡ number_of name.lower) × IsNamed page name n
IsSeen page (l.Value key len) n = HasValue page (λ own. len ≤ length own) key.now n
IsSeen page (l.Id id) n = IsElement page n × HasValue page (λ own. own ≡ id.now) (codes "id") n
IsSeen page (l.Class class) n =
    IsElement page n × HasValue page (Passes Word class.now) (codes "class") n
IsSeen page (l.Key key) n =
    IsElement page n × HasValue page (λ own. ⊤) (spelled (is_html_at page n) (ident key.now)) n
IsSeen page l.Element n = IsElement page n
IsSeen page (l.Mark marks) n = is_at marks.now n ≡ true

-- a look that sees only what is there
abbrev pub is_exact : Look → Bool
is_exact (l.Known known) = true
is_exact (l.Name known) = false
is_exact (l.Value key len) = false
is_exact (l.Id id) = true
is_exact (l.Class class) = true
is_exact (l.Key key) = true
is_exact l.Element = true
is_exact (l.Mark marks) = true

-- a look that sees nothing but elements
abbrev pub is_of_elements : Look → Bool
is_of_elements (l.Mark marks) = false
is_of_elements (l.Known known) = true
is_of_elements (l.Name known) = true
is_of_elements (l.Value key len) = true
is_of_elements (l.Id id) = true
is_of_elements (l.Class class) = true
is_of_elements (l.Key key) = true
is_of_elements l.Element = true

-- a selector holds wherever this is seen, and no more is seen than is there
pub record IsEnough (page : Page) (look : Look) (e : Css) : Type 0 where
  pub exact : is_exact look ≡ true
  pub holds : (n : ℕ) → IsSeen page look n → Holds page e n
