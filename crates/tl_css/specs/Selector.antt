-- Selectors of CSS: what a selector text stands for.
use Rattle.std.specs.Prelude.{ℕ, Bool, true, false, List}
use Rattle.std.specs.Str.{str_to_ascii_lowercase}
use Rattle.tl_css.specs.declared.selector.Anchor.{Anchor}
use Rattle.tl_css.specs.declared.selector.Case.{Case}
use Rattle.tl_css.specs.declared.selector.Case.TheVariants.{Unsaid, Folded, Exact}
use Rattle.tl_css.specs.declared.selector.Op.{Op}
use Rattle.tl_css.specs.declared.selector.Space.{Space}
use Rattle.tl_css.specs.declared.selector.Link.{Link}
use Rattle.tl_css.specs.declared.selector.Reach.{Reach}
use Rattle.tl_css.specs.declared.selector.Way.{Way}
use Rattle.tl_css.specs.declared.selector.Formula.{Formula}

-- a name or a key: in lower case, and as it is written
pub record Ident : Type 0 where
  pub lower : List ℕ
  pub written : List ℕ

abbrev pub ident_of : List ℕ → Ident
ident_of name = record { lower = str_to_ascii_lowercase name; written = name }

-- whether the case of a value is folded: as a flag says, or else as the page has it
abbrev pub folds_by : Case → Bool → Bool
folds_by Unsaid page = page
folds_by Folded page = true
folds_by Exact page = false

-- a test of a tag by itself. `May` is met where a tag may be this anchor: a selector for the anchor
-- is met by the outermost of these
pub data Test : Type 0 where
  Any : Test
  Name : Ident → Test
  Id : List ℕ → Test
  Class : List ℕ → Test
  Key : Space → Ident → Test
  Value : Space → Ident → Op → List ℕ → Case → Test
  Empty : Test
  May : Anchor → Test

-- a selector: a test, what it's put together of, a selector at another tag, or one that holds here
-- and counts: this is the (a k + b)-th tag along a link, from this end, of those where it holds
pub data Css : Type 0 where
  Is : Test → Css
  Not : Css → Css
  Both : Css → Css → Css
  Either : Css → Css → Css
  At : Way → Link → Reach → Css → Css
  Nth : Way → Link → Formula → Css → Css
