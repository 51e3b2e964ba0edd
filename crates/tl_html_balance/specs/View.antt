-- What callers see.
use Rattle.std.specs.Prelude.{ℕ, List, drop, reverse}
use Rattle.tl_html_spec.specs.Balanced.{Names}
use Rattle.tl_html_balance.specs.Names.{names_in}
use Rattle.tl_html_balance.specs.declared.tag_name.TagName.{TagName}
use Rattle.tl_html_balance.specs.declared.open_tags.OpenTags.{OpenTags}
use Rattle.tl_html_balance.specs.declared.remaining.Remaining.{Remaining}

abbrev pub name_of : TagName → List ℕ
name_of name = name.bytes.now

-- the names of the open tags, the innermost first
unfoldable pub open_names : OpenTags → Names
open_names tags = names_in (reverse tags.tags.items) tags.names.items

-- those that are left
abbrev pub names_left : Remaining → Names
names_left left = drop left.closed (open_names left.tags.now)
