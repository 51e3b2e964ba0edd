-- What a policy shows.
use Rattle.tl_tree_safe.specs.Lists.{ListedWords}
use Rattle.tl_tree_safe.specs.Policies.{listed_words}
use Rattle.tl_tree_safe.specs.declared.policy.Policy.{Policy}

-- the words that a policy lists
abbrev pub lists_of : Policy → ListedWords
lists_of policy = listed_words policy.lists
