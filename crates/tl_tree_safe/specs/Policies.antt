-- What lists show.
use Rattle.tl_safe_fit.specs.Words.{words_of}
use Rattle.tl_tree_safe.specs.Lists.{ListedWords}
use Rattle.tl_tree_safe.specs.declared.lists.Lists.{Lists}

-- the words of lists
abbrev pub listed_words : Lists → ListedWords
listed_words lists = record {
  tags = words_of lists.tags.now;
  keys = words_of lists.keys.now;
  link_keys = words_of lists.link_keys.now;
  link_prefixes = words_of lists.link_prefixes.now;
  relative_links = lists.relative_links;
  nofollow_links = lists.nofollow_links;
  classes = words_of lists.classes.now;
  id_prefix = lists.id_prefix.now;
}
