-- Classes of bytes.
use Rattle.std.specs.Prelude.{Bool, ℕ}
use Rattle.tl_tree_safe.specs.Lists.{is_key_byte, is_tag_byte}
use Rattle.tl_tree_safe.specs.Refusals.{is_beginning_byte, is_pattern_byte}
use Rattle.tl_tree_safe.specs.declared.names.ByteClass.{ByteClass}
use Rattle.tl_tree_safe.specs.declared.names.ByteClass.TheVariants.{AttributeKey, OfBeginning, OfPattern, TagName}

abbrev pub has_class : ByteClass → ℕ → Bool
has_class TagName = is_tag_byte
has_class AttributeKey = is_key_byte
has_class OfBeginning = is_beginning_byte
has_class OfPattern = is_pattern_byte
