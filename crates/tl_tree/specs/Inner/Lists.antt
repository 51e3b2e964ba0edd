-- Attributes in lists.
use Rattle.std.specs.List.{list_all}
use Rattle.std.specs.Prelude.{IsTrue, List, length, ℕ}
use Rattle.tl_tree.specs.Inner.Placing.{has_place, is_one_more}
use Rattle.tl_tree.specs.declared.attribute_lists.AttributeLists.{AttributeLists}
use Rattle.tl_tree.specs.declared.entries.AttributeEntry.{AttributeEntry}
use Rattle.tl_tree.specs.declared.entries.AttributeList.{AttributeList}
use Rattle.tl_tree.specs.declared.entries.AttributeList.TheVariants.{Body, Html, Tags}

abbrev pub in_list : AttributeLists → AttributeList → List AttributeEntry
in_list lists Tags = lists.tags.items
in_list lists Html = lists.html.items
in_list lists Body = lists.body.items

abbrev pub many_in : AttributeLists → AttributeList → ℕ
many_in lists list = length (in_list lists list)

-- each list is as it was, or has an attribute more
pub record AreOneMore (old new : AttributeLists) (a : AttributeEntry) : Type 0 where
  pub tags : is_one_more a old.tags.items new.tags.items
  pub html : is_one_more a old.html.items new.html.items
  pub body : is_one_more a old.body.items new.body.items

-- each key of the attributes that html and body have has a place
pub record AreBothPlaced (key_of : AttributeEntry → List ℕ) (lists : AttributeLists) : Type 0 where
  pub html : IsTrue (list_all (has_place lists.html_places.entries key_of) lists.html.items)
  pub body : IsTrue (list_all (has_place lists.body_places.entries key_of) lists.body.items)
