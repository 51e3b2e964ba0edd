-- The attributes of a tag with those of another one that are missing.
use Rattle.std.specs.Prelude.{Bool, IsTrue, List, filter, length, not, ◌+◌, ◌≡◌}
use Rattle.tl_dom_spec.specs.Tags.{has_attribute}
use Rattle.tl_tree.specs.Inner.Said.{attributes_in}
use Rattle.tl_tree.specs.Inner.Store.{bytes_of, entries_of, is_tag, list_in}
use Rattle.tl_tree.specs.declared.entries.AttributeEntry.{AttributeEntry}
use Rattle.tl_tree.specs.declared.entries.AttributeList.{AttributeList}
use Rattle.tl_tree.specs.declared.entries.TagEntry.{TagEntry}
use Rattle.tl_tree.specs.declared.store.Store.{Store}

-- whether a tag has no attribute of its key
abbrev pub is_missing : Store → TagEntry → AttributeEntry → Bool
is_missing s own a = not (has_attribute (bytes_of s a.key) (attributes_in s (entries_of s own)))

-- the attributes of another tag that a tag has not
unfoldable pub missing : Store → TagEntry → TagEntry → List AttributeEntry
missing s own other = filter (is_missing s own) (entries_of s other)

-- the attributes of a tag are the last ones of a list
pub record IsLast (s : Store) (own : AttributeList) (t : TagEntry) : Type 0 where
  pub within : IsTrue (is_tag s t)
  pub list : t.list ≡ own
  pub end : t.first_attribute + t.attribute_count ≡ length (list_in s own)
