-- The lists of the policies that are there.
use Rattle.std.specs.Prelude.{[], List, codes, false, true, ℕ, ◌∷◌}
use Rattle.tl_tree_safe.specs.Lists.{ListedWords}

-- the names that a blog has
abbrev pub page_tags : List (List ℕ)
page_tags =
    codes "a" ∷ codes "abbr" ∷ codes "b" ∷ codes "bdi" ∷ codes "bdo" ∷ codes "blockquote" ∷
    codes "br" ∷ codes "cite" ∷ codes "code" ∷ codes "dd" ∷ codes "del" ∷ codes "details" ∷
    codes "dfn" ∷ codes "div" ∷ codes "dl" ∷ codes "dt" ∷ codes "em" ∷ codes "figcaption" ∷
    codes "figure" ∷ codes "h1" ∷ codes "h2" ∷ codes "h3" ∷ codes "h4" ∷ codes "h5" ∷ codes "h6" ∷
    codes "hr" ∷ codes "i" ∷ codes "img" ∷ codes "ins" ∷ codes "kbd" ∷ codes "li" ∷ codes "mark" ∷
    codes "ol" ∷ codes "p" ∷ codes "pre" ∷ codes "q" ∷ codes "s" ∷ codes "samp" ∷ codes "small" ∷
    codes "span" ∷ codes "strong" ∷ codes "sub" ∷ codes "summary" ∷ codes "sup" ∷ codes "time" ∷
    codes "u" ∷ codes "ul" ∷ codes "var" ∷ codes "wbr" ∷ []

-- for the text of a blog
abbrev pub blog_lists : ListedWords
blog_lists = record {
  tags = page_tags;
  keys =
      codes "alt" ∷ codes "cite" ∷ codes "class" ∷ codes "datetime" ∷ codes "dir" ∷ codes "height" ∷
      codes "href" ∷ codes "id" ∷ codes "lang" ∷ codes "src" ∷ codes "start" ∷ codes "title" ∷
      codes "width" ∷ [];
  link_keys =
      codes "cite" ∷ codes "href" ∷ codes "src" ∷ [];
  link_prefixes =
      codes "https://" ∷ codes "http://" ∷ codes "mailto:" ∷ codes "/" ∷ codes "#" ∷ [];
  relative_links = false;
  nofollow_links = false;
  classes = codes "language-*" ∷ [];
  id_prefix = codes "user-";
}

-- for comments of readers: texts with emphasis, quotes, lists, code and links to the web
abbrev pub comment_lists : ListedWords
comment_lists = record {
  tags =
      codes "a" ∷ codes "b" ∷ codes "blockquote" ∷ codes "br" ∷ codes "code" ∷ codes "del" ∷
      codes "em" ∷ codes "i" ∷ codes "li" ∷ codes "ol" ∷ codes "p" ∷ codes "pre" ∷ codes "q" ∷
      codes "s" ∷ codes "strong" ∷ codes "sub" ∷ codes "sup" ∷ codes "u" ∷ codes "ul" ∷ [];
  keys = codes "cite" ∷ codes "dir" ∷ codes "href" ∷ codes "lang" ∷ codes "title" ∷ [];
  link_keys = codes "cite" ∷ codes "href" ∷ [];
  link_prefixes = codes "https://" ∷ codes "http://" ∷ [];
  relative_links = false;
  nofollow_links = false;
  classes = [];
  id_prefix = codes "user-";
}

-- for documents: what a blog has, the parts of a document and tables, and pictures and
-- links beside the page
abbrev pub document_lists : ListedWords
document_lists = record {
  tags =
      codes "article" ∷ codes "aside" ∷ codes "caption" ∷ codes "col" ∷ codes "colgroup" ∷
      codes "footer" ∷ codes "header" ∷ codes "main" ∷ codes "nav" ∷ codes "section" ∷
      codes "table" ∷ codes "tbody" ∷ codes "td" ∷ codes "tfoot" ∷ codes "th" ∷ codes "thead" ∷
      codes "tr" ∷ page_tags;
  keys =
      codes "alt" ∷ codes "cite" ∷ codes "class" ∷ codes "colspan" ∷ codes "datetime" ∷
      codes "dir" ∷ codes "height" ∷ codes "href" ∷ codes "id" ∷ codes "lang" ∷ codes "rowspan" ∷
      codes "scope" ∷ codes "span" ∷ codes "src" ∷ codes "start" ∷ codes "title" ∷ codes "width" ∷
      [];
  link_keys = codes "cite" ∷ codes "href" ∷ codes "src" ∷ [];
  link_prefixes =
      codes "https://" ∷ codes "http://" ∷ codes "mailto:" ∷ codes "/" ∷ codes "#" ∷ [];
  relative_links = true;
  nofollow_links = false;
  classes = codes "language-*" ∷ [];
  id_prefix = codes "user-";
}
