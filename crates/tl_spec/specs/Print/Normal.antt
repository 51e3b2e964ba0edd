-- The normal form of trees: each piece made text, empty texts and comments dropped, adjacent texts
-- joined.
use Rattle.std.specs.Prelude.{◌≡◌, ℕ, List, [], ◌∷◌, ◌++◌, map, option_map}
use Rattle.std.specs.Str.Lossy.{utf8_lossy}
use Rattle.tl_spec.specs.Lex.Attribute.{Pair}
use Rattle.tl_spec.specs.Lex.AttributeList.{PlainAttributes, attributes_image}
use Rattle.tl_spec.specs.Tree.Inline.{pair_image}
use Rattle.tl_spec.specs.Lex.Token.{tokens, AreNoDoctypes}
use Rattle.tl_spec.specs.Tree.Forest.{Forest, none, text, comment, tag, PlainTag, forest, plain}
use Rattle.tl_spec.specs.Print.{print}

-- a key and its value made text
abbrev pub lossy_pair : Pair → Pair
lossy_pair p = pair_image utf8_lossy (option_map utf8_lossy) p

-- each pair made text
abbrev pub lossy_attributes : PlainAttributes → PlainAttributes
lossy_attributes a = attributes_image utf8_lossy (map lossy_pair) a

-- a tag's own part made text
abbrev pub lossy_tag : PlainTag → PlainTag
lossy_tag own = record { name = utf8_lossy own.name; attributes = lossy_attributes own.attributes }

-- each piece made text
abbrev pub lossy : Forest PlainTag → Forest PlainTag
lossy none = none
lossy (text bytes more) = text (utf8_lossy bytes) (lossy more)
lossy (comment bytes more) = comment (utf8_lossy bytes) (lossy more)
lossy (tag own children more) = tag (lossy_tag own) (lossy children) (lossy more)

-- a text before trees: nothing if it is empty, and joined to a text at their front
abbrev pub join_text : List ℕ → Forest PlainTag → Forest PlainTag
join_text [] f = f
join_text (b ∷ bytes) (text more f) = text (b ∷ bytes ++ more) f
join_text (b ∷ bytes) f = text (b ∷ bytes) f

-- a comment before trees: nothing if it is empty
abbrev pub join_comment : List ℕ → Forest PlainTag → Forest PlainTag
join_comment [] f = f
join_comment (b ∷ bytes) f = comment (b ∷ bytes) f

-- without empty texts and comments, and with adjacent texts joined
abbrev pub tidy : Forest PlainTag → Forest PlainTag
tidy none = none
tidy (text bytes more) = join_text bytes (tidy more)
tidy (comment bytes more) = join_comment bytes (tidy more)
tidy (tag own children more) = tag own (tidy children) (tidy more)

-- the normal form
abbrev pub norm : Forest PlainTag → Forest PlainTag
norm f = tidy (lossy f)

-- the text s is read as the normal form of these trees, holds no doctype, and prints alike
pub record ReadsAs (s : List ℕ) (f : Forest PlainTag) : Type 0 where
  pub trees : plain (forest (tokens s)) ≡ norm f
  pub no_doctype : AreNoDoctypes (tokens s)
  pub alike : print (plain (forest (tokens s))) ≡ s
