-- The lists that options say.
use Rattle.std.specs.Prelude.{ℕ, Bool, true, false, not, ◌||◌, ◌&&◌, ◌==◌, List, [], ◌∷◌, ◌++◌, Option, Some, None, codes, if◌then◌else◌}
use Rattle.std.specs.Borrow.{Bor}
use Rattle.std.specs.List.{filter, list_any, slice_split}
use Rattle.std.specs.Option.{option_map}
use Rattle.std.specs.Str.{bytes_eq}
use Rattle.tl_tree_safe.specs.Characters.{is_word}
use Rattle.tl_tree_safe.specs.Lists.{ListedWords}
use Rattle.tl_safe_fit.specs.Words.{is_among, words_of}
use Rattle.tl_tree_safe.specs.declared.word_lists.ListTexts.{ListTexts}
use Rattle.tl_tree_safe.specs.declared.word_lists.WordLists.{WordLists}

abbrev pub is_comma : ℕ → Bool
is_comma b = b == 44

-- the words between commas, without empty ones
abbrev pub words_in : List ℕ → List (List ℕ)
words_in text = filter is_word (slice_split is_comma text)

-- the words of what is left of a text, if anything is, empty ones too
abbrev pub remaining_words : Option (Bor (List ℕ)) → List (List ℕ)
remaining_words None = []
remaining_words (Some rest) = slice_split is_comma rest.now

-- a text that is lent, if there is one
abbrev pub text_of : Option (Bor (List ℕ)) → Option (List ℕ)
text_of text = option_map (λ t. t.now) text

-- texts of lists, where they are said
pub record ListOptions : Type 0 where
  pub tags : Option (List ℕ)
  pub keys : Option (List ℕ)
  pub link_keys : Option (List ℕ)
  pub link_prefixes : Option (List ℕ)
  pub relative_links : Bool
  pub nofollow_links : Bool
  pub classes : Option (List ℕ)
  pub id_prefix : Option (List ℕ)

abbrev pub list_options : ListTexts → ListOptions
list_options texts = record {
  tags = text_of texts.tags;
  keys = text_of texts.keys;
  link_keys = text_of texts.link_keys;
  link_prefixes = text_of texts.link_prefixes;
  relative_links = texts.relative_links;
  nofollow_links = texts.nofollow_links;
  classes = text_of texts.classes;
  id_prefix = text_of texts.id_prefix;
}

-- Lists that are added to and taken from

-- a text with `+` or `-` first changes a list; another one stands in its place
abbrev pub changes_list : List ℕ → Bool
changes_list [] = false
changes_list (b ∷ text) = b == 43 || b == 45

-- these words and this one, which stands behind them where it is none of them
abbrev pub words_with : List (List ℕ) → List ℕ → List (List ℕ)
words_with words word = if is_among words word then words else words ++ word ∷ []

abbrev pub words_without : List (List ℕ) → List ℕ → List (List ℕ)
words_without words word = filter (λ own. not (bytes_eq own word)) words

-- what stands behind a mark that stands first
abbrev pub behind : ℕ → List ℕ → Option (List ℕ)
behind mark [] = None
behind mark (b ∷ word) = if b == mark then Some word else None

-- where one word stands behind `-`, or else one behind `+`
abbrev pub changed_as : List (List ℕ) → List ℕ → Option (List ℕ) → Option (List ℕ) → List (List ℕ)
changed_as words change (Some word) plus = words_without words word
changed_as words change None (Some word) = words_with words word
changed_as words change None None = words_with words change

-- a word behind `-` goes, and one behind `+` or alone comes
abbrev pub changed : List (List ℕ) → List ℕ → List (List ℕ)
changed words change = changed_as words change (behind 45 change) (behind 43 change)

-- one after the other
abbrev pub changed_by : List (List ℕ) → List (List ℕ) → List (List ℕ)
changed_by words [] = words
changed_by words (change ∷ changes) = changed_by (changed words change) changes

-- what a text says of these words
abbrev pub said_over : List ℕ → List (List ℕ) → List (List ℕ)
said_over text own = if changes_list text then changed_by own (words_in text) else words_in text

-- the words that a text says, or these where there is none
abbrev pub words_or_default : Option (List ℕ) → List (List ℕ) → List (List ℕ)
words_or_default None own = own
words_or_default (Some text) own = said_over text own

abbrev pub prefix_or_default : Option (List ℕ) → List ℕ → List ℕ
prefix_or_default None own = own
prefix_or_default (Some text) own = text

-- whether the key at which links are marked is one of these
abbrev pub has_rel : List (List ℕ) → Bool
has_rel keys = list_any (bytes_eq (codes "rel")) keys

-- keys, with that one among them where links are marked
abbrev pub with_rel : Bool → List (List ℕ) → List (List ℕ)
with_rel nofollow_links keys =
    if nofollow_links && not (has_rel keys) then keys ++ codes "rel" ∷ [] else keys

-- the lists that are said, and those of a policy for the others
abbrev pub lists_or_default : ListOptions → ListedWords → ListedWords
lists_or_default s own = record {
  tags = words_or_default s.tags own.tags;
  keys =
      with_rel (s.nofollow_links || own.nofollow_links) (words_or_default s.keys own.keys);
  link_keys = words_or_default s.link_keys own.link_keys;
  link_prefixes = words_or_default s.link_prefixes own.link_prefixes;
  relative_links = s.relative_links || own.relative_links;
  nofollow_links = s.nofollow_links || own.nofollow_links;
  classes = words_or_default s.classes own.classes;
  id_prefix = prefix_or_default s.id_prefix own.id_prefix;
}

-- the lists of words
abbrev pub lists_in : WordLists → ListedWords
lists_in w = record {
  tags = words_of w.tags.items;
  keys = words_of w.keys.items;
  link_keys = words_of w.link_keys.items;
  link_prefixes = words_of w.link_prefixes.items;
  relative_links = w.relative_links;
  nofollow_links = w.nofollow_links;
  classes = words_of w.classes.items;
  id_prefix = w.id_prefix.now;
}

-- a comma before each of these words
abbrev pub after_commas : List (List ℕ) → List ℕ
after_commas [] = []
after_commas (word ∷ words) = codes "," ++ word ++ after_commas words

-- words with commas between them after a space, or nothing where there are none
abbrev pub list_text : List (List ℕ) → List ℕ
list_text [] = []
list_text (word ∷ words) = codes " " ++ word ++ after_commas words

-- an option and the words of its list on a line
abbrev pub option_line : List ℕ → List (List ℕ) → List ℕ
option_line option words = option ++ list_text words ++ codes "\n"

-- an option alone on a line, where relative links may stand
abbrev pub relative_line : Bool → List ℕ
relative_line true = codes "--relative-links\n"
relative_line false = []

-- an option alone on a line, where links are marked
abbrev pub nofollow_line : Bool → List ℕ
nofollow_line true = codes "--nofollow-links\n"
nofollow_line false = []

-- the options that say these lists, one on each line
abbrev pub policy_text : ListedWords → List ℕ
policy_text p =
    option_line (codes "--tags") p.tags
    ++ option_line (codes "--keys") p.keys
    ++ option_line (codes "--link-keys") p.link_keys
    ++ option_line (codes "--links") p.link_prefixes
    ++ relative_line p.relative_links
    ++ nofollow_line p.nofollow_links
    ++ option_line (codes "--classes") p.classes
    ++ option_line (codes "--prefix") (p.id_prefix ∷ [])
