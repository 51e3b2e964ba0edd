-- Which selector a value of the code is.
use Rattle.tl_spec.specs.Select.Selector as s
use Rattle.tl_selector.specs.declared.selector.Selector.{Selector}
use Rattle.tl_selector.specs.declared.selector.Selector.TheVariants.{Tag, Id, Class, All, And', Or', Descendant', Parent', Attribute, AttributeValue, AttributeValueWhitespacedContains, AttributeValueStartsWith, AttributeValueEndsWith, AttributeValueSubstring}

abbrev pub selector : Selector → s.Selector
selector (Tag name) = s.Tag name.now
selector (Id id) = s.Id id.now
selector (Class member) = s.Class member.now
selector All = s.All
selector (And' p a q b) = s.And (selector a) (selector b)
selector (Or' p a q b) = s.Or (selector a) (selector b)
selector (Descendant' p a q b) = s.Descendant (selector a) (selector b)
selector (Parent' p a q b) = s.Parent (selector a) (selector b)
selector (Attribute key) = s.Attribute key.now
selector (AttributeValue key value) = s.AttributeValue key.now value.now
selector (AttributeValueWhitespacedContains key value) =
    s.AttributeValueWhitespacedContains key.now value.now
selector (AttributeValueStartsWith key value) = s.AttributeValueStartsWith key.now value.now
selector (AttributeValueEndsWith key value) = s.AttributeValueEndsWith key.now value.now
selector (AttributeValueSubstring key value) = s.AttributeValueSubstring key.now value.now
