-- Why no policy may list a word, by where it is listed.
use Rattle.std.specs.Prelude.{List, Option, ℕ}
use Rattle.tl_tree_safe.specs.Refusals.{class_reason, key_reason, link_reason, part_reason, tag_reason}
use Rattle.tl_tree_safe.specs.declared.refusal.Reason.{Reason}
use Rattle.tl_tree_safe.specs.declared.refused.Role.{Role}
use Rattle.tl_tree_safe.specs.declared.refused.Role.TheVariants.{ClassPattern, Key, LinkPrefix, Tag, TagWithoutTable}

abbrev pub reason_in : Role → List (List ℕ) → List ℕ → Option Reason
reason_in Tag link_keys = tag_reason
reason_in Key link_keys = key_reason link_keys
reason_in LinkPrefix link_keys = link_reason
reason_in ClassPattern link_keys = class_reason
reason_in TagWithoutTable link_keys = part_reason
