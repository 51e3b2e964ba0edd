-- Values, by what those of their keys are, which is looked up once.
use Rattle.std.specs.List.{list_all, list_any}
use Rattle.std.specs.Prelude.{Bool, List, false, if◌then◌else◌, not, true, ℕ, ◌&&◌, ◌||◌}
use Rattle.std.specs.Str.{bytes_eq}
use Rattle.tl_safe_fit.specs.Words.{is_among}
use Rattle.tl_tree_safe.specs.Characters.{cleaned, is_space}
use Rattle.tl_tree_safe.specs.Classes.{are_classes, kept_classes}
use Rattle.tl_tree_safe.specs.Inner.Cleaning.{is_whole}
use Rattle.tl_tree_safe.specs.Inner.Staying.{is_read_so}
use Rattle.tl_tree_safe.specs.Lists.{ListedWords, are_own_names, begins_link, class_key, has_front, is_listed_link, is_own_name, is_relative, leads_to_own, naming_keys, referring_keys}
use Rattle.tl_tree_safe.specs.Values.{link_read, own_link, own_names, says_names}
use Rattle.tl_tree_safe.specs.declared.value_kind.ValueKind.{ValueKind}
use Rattle.tl_tree_safe.specs.declared.value_kind.ValueKind.TheVariants.{Classes, Link, Names, Text}

-- what the values of a key are
abbrev pub value_kind_at : ListedWords → List ℕ → ValueKind
value_kind_at p key =
    if is_among p.link_keys key then Link
    else if bytes_eq key class_key then Classes
    else if says_names key then Names
    else Text

-- what one of a kind says
abbrev pub own_value_by : ListedWords → ValueKind → List ℕ → List ℕ
own_value_by p Link value = own_link p (link_read value)
own_value_by p Classes value = kept_classes p.classes (cleaned value)
own_value_by p Names value = own_names p value
own_value_by p Text value = value

-- what stays of it
abbrev pub kept_value_by : ListedWords → ValueKind → List ℕ → List ℕ
kept_value_by p kind value = cleaned (own_value_by p kind value)

-- all of it stays
abbrev pub stays_by : ListedWords → ValueKind → List ℕ → Bool
stays_by p Link value = is_read_so value && leads_to_own p value
stays_by p Classes value = are_classes p.classes value && list_all is_whole value
stays_by p Names value = are_own_names p value && list_all is_whole value
stays_by p Text value = list_all is_whole value

-- a link begins as links may
abbrev pub is_listed_front : ListedWords → List ℕ → Bool
is_listed_front p value =
    list_any (begins_link value) p.link_prefixes || (p.relative_links && is_relative value)

-- the names in a value of a key may stand there
abbrev pub are_listed_names : ListedWords → List ℕ → List ℕ → Bool
are_listed_names p key value =
    (not (is_among naming_keys key) || is_own_name p value)
    && (not (is_among referring_keys key) || are_own_names p value)

-- a link may stand at a key at which classes or names may stand too
abbrev pub is_also_listed : ListedWords → List ℕ → List ℕ → Bool
is_also_listed p key value =
    are_listed_names p key value && (not (bytes_eq key class_key) || are_classes p.classes value)

-- a value of a kind may stand at a key
abbrev pub is_listed_by : ListedWords → ValueKind → List ℕ → List ℕ → Bool
is_listed_by p Link key value = is_listed_link p value && is_also_listed p key value
is_listed_by p Classes key value = are_classes p.classes value
is_listed_by p Names key value = are_listed_names p key value
is_listed_by p Text key value = true

-- the same of one of which all stays
abbrev pub is_listed_whole : ListedWords → ValueKind → List ℕ → List ℕ → Bool
is_listed_whole p Link key value = is_listed_front p value && is_also_listed p key value
is_listed_whole p Classes key value = true
is_listed_whole p Names key value = are_listed_names p key value
is_listed_whole p Text key value = true

-- a text is one word, and a prefix isn't at its front
abbrev pub lacks_front : List ℕ → List ℕ → Bool
lacks_front prefix text = not (has_front prefix false text) && list_all (λ b. not (is_space b)) text
