-- Trees whose print is read as other trees.
use Rattle.std.specs.Prelude.{◌≡◌, ◌≢◌, ℕ, List}
use Rattle.tl_spec.specs.Lex.Token.{tokens}
use Rattle.tl_spec.specs.Tree.Forest.{Forest, PlainTag, forest, plain}
use Rattle.tl_spec.specs.Print.{print}
use Rattle.tl_spec.specs.Print.Normal.{norm}

-- the trees f print s, which is read as the trees g, and these are not the normal form of f
pub record IsMisread (f : Forest PlainTag) (s : List ℕ) (g : Forest PlainTag) : Type 0 where
  pub prints : print f ≡ s
  pub reads : plain (forest (tokens s)) ≡ g
  pub otherwise : g ≢ norm f
