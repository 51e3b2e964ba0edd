-- Why something goes of a tree, in words.
use Rattle.std.specs.Prelude.{List, codes, ℕ}
use Rattle.tl_tree_safe.specs.declared.removal.Cause.{Cause}
use Rattle.tl_tree_safe.specs.declared.removal.Cause.TheVariants.{ForeignTag, MisplacedTag, OpaqueTag, UnlistedKey, UnlistedTag, UnlistedValue}

abbrev pub cause_words : Cause → List ℕ
cause_words UnlistedTag = codes "the tag isn't listed"
cause_words OpaqueTag = codes "what is in it isn't shown as markup"
cause_words ForeignTag = codes "it is no element of HTML"
cause_words MisplacedTag = codes "the tag may not stand here"
cause_words UnlistedKey = codes "the attribute isn't listed"
cause_words UnlistedValue = codes "the value may not stand here"
