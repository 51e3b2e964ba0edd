-- What a policy of lists that C lends keeps of a page.
use Rattle.std.specs.Prelude.{ℕ, Bool, true, ◌&&◌, List, Option, None, Some, if◌then◌else◌}
use Rattle.std.specs.Option.{option_map_or}
use Rattle.std.specs.Str.{is_utf8}
use Rattle.tl_tree_safe.specs.ListOptions.{ListOptions, list_options, lists_or_default, policy_text}
use Rattle.tl_tree_safe.specs.declared.word_lists.ListTexts.{ListTexts}
use Rattle.tl_page.specs.Outcome.{Outcome, not_understood, refused, success}
use Rattle.tl_page.specs.Page.{is_page}
use Rattle.tl_tree_safe.specs.Lists.{ListedWords}
use Rattle.tl_tree_safe.specs.Policies.{listed_words}
use Rattle.tl_tree_safe.specs.Refusals.{Refusal, are_lawful, first_refusal}
use Rattle.tl_tree_safe.specs.declared.refusal.Reason.{Reason}
use Rattle.tl_tree_safe.specs.declared.refusal.Reason.TheVariants.{MalformedClass, MalformedTag, OpaqueTag, StructuralTag, MalformedKey, ScriptKey, ActiveKey, LinkKey, MalformedLink, ActiveScheme, NoScheme, MalformedPrefix, UnlistedMark, NoTableBody, NoRow, NoCell, NoCaption, NoTable}
use Rattle.tl_c.specs.SafePages.{kept_page}
use Rattle.tl_c.specs.Policies.{lists_of_number}
use Rattle.tl_c.specs.Queries.{outcome_of_some}
use Rattle.tl_c.specs.declared.lent_lists.LentList.{LentList}
use Rattle.tl_c.specs.declared.lent_lists.LentLists.{LentLists}

-- the text of a list, if it is said
abbrev pub said_text : LentList → Option (List ℕ)
said_text list = if list.is_said then Some list.text.now else None

-- what is said
abbrev pub said_options : LentLists → ListOptions
said_options lists = record {
  tags = said_text lists.tags;
  keys = said_text lists.keys;
  link_keys = said_text lists.link_keys;
  link_prefixes = said_text lists.link_prefixes;
  relative_links = lists.relative_links;
  nofollow_links = lists.nofollow_links;
  classes = said_text lists.classes;
  id_prefix = said_text lists.id_prefix;
}

-- whether what is said is a text
abbrev pub is_text : Option (List ℕ) → Bool
is_text said = option_map_or is_utf8 said true

abbrev pub are_texts : ListOptions → Bool
are_texts said =
    is_text said.tags && is_text said.keys && is_text said.link_keys
    && is_text said.link_prefixes && is_text said.classes && is_text said.id_prefix

-- lists that are said, and those of a policy for the others; where there is no such policy that is
-- not understood
abbrev pub lists_over : ListOptions → Option ListedWords → Outcome ListedWords
lists_over said None = not_understood
lists_over said (Some own) = success (lists_or_default said own)

-- the lists that C lends; what is said has to be texts
abbrev pub lent_lists : LentLists → Outcome ListedWords
lent_lists lists =
    if are_texts (said_options lists)
    then lists_over (said_options lists) (lists_of_number lists.policy)
    else not_understood

-- the same of the texts
abbrev pub lists_in_texts : ListTexts → ListedWords
lists_in_texts texts = lists_or_default (list_options texts) (listed_words texts.own)

-- what a policy of these lists keeps of a page; lists that are no policy are refused
abbrev pub kept_lawful : ListedWords → List ℕ → Outcome (List ℕ)
kept_lawful own page = if are_lawful own then kept_page own page else refused

abbrev pub kept_by_lists : Outcome ListedWords → List ℕ → Outcome (List ℕ)
kept_by_lists (success own) page = kept_lawful own page
kept_by_lists refused page = refused
kept_by_lists not_understood page = not_understood

-- what lists that C lends keep of a page
abbrev pub kept_with : LentLists → List ℕ → Outcome (List ℕ)
kept_with lists page =
    if is_page page then kept_by_lists (lent_lists lists) page else not_understood

-- the options that say lists, one on each line
abbrev pub lines_in : Outcome ListedWords → Outcome (List ℕ)
lines_in (success own) = success (policy_text own)
lines_in refused = refused
lines_in not_understood = not_understood

-- the first word for which lists are no policy, and why
abbrev pub refusal_in : Outcome ListedWords → Option Refusal
refusal_in (success own) = first_refusal own
refusal_in refused = None
refusal_in not_understood = None

-- the word alone; of lists that are a policy that is refused
abbrev pub refused_word : Outcome ListedWords → Outcome (List ℕ)
refused_word (success own) = outcome_of_some (λ refusal. success refusal.0) (first_refusal own)
refused_word refused = refused
refused_word not_understood = not_understood

-- the number of a reason in the header
abbrev pub number_of_reason : Reason → ℕ
number_of_reason MalformedTag = 1
number_of_reason OpaqueTag = 2
number_of_reason StructuralTag = 3
number_of_reason MalformedKey = 4
number_of_reason ScriptKey = 5
number_of_reason ActiveKey = 6
number_of_reason LinkKey = 7
number_of_reason MalformedLink = 8
number_of_reason ActiveScheme = 9
number_of_reason NoScheme = 10
number_of_reason MalformedPrefix = 11
number_of_reason UnlistedMark = 12
number_of_reason NoTableBody = 13
number_of_reason NoRow = 14
number_of_reason NoCell = 15
number_of_reason NoCaption = 16
number_of_reason NoTable = 17
number_of_reason MalformedClass = 18

-- the number of why lists are no policy, 0 where they are one
abbrev pub number_of_refusal : Option Refusal → ℕ
number_of_refusal None = 0
number_of_refusal (Some refusal) = number_of_reason refusal.1
