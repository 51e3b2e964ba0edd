-- Places in a tag, and tags with a change.
use Rattle.std.specs.Prelude.{◌≡◌, ℕ, ◌<◌, ◌==◌, ◌&&◌, Bool, true, false, List, ◌∷◌, ◌++◌, length, take, drop, slice_index}
use Rattle.std.specs.Char.{is_ascii_alphabetic}
use Rattle.std.specs.List.{list_any}
use Rattle.tl_html_spec.specs.HtmlTokenizer.{data_state, ends_name}
use Rattle.tl_html_spec.specs.Reader.{at, emitted, feed}
use Rattle.tl_patch_spec.specs.Markup.{attribute_markup}
use Rattle.tl_patch_spec.specs.TagNames.{IsInName, IsNameEnd, tag_opening}
use Rattle.tl_patch_spec.specs.TagChanges.{FirstGoesOnAs, FirstLacks, Rename, Set, changed_first}

-- where a name goes on at one place, it ends at the other
pub record GoesOn (from n : ℕ) (text : List ℕ) : Type 0 where
  pub in_name : (is_end : Bool) → IsInName is_end from text → IsInName is_end n text
  pub within : n < length text
  pub ends : ends_name (feed (slice_index text n)) ≡ true

-- whether some byte here ends a name
abbrev pub has_name_end : List ℕ → Bool
has_name_end text = list_any (λ b. ends_name (feed b)) text

-- whether a start tag begins here, and its name ends
abbrev pub begins_start_tag : List ℕ → Bool
begins_start_tag (a ∷ b ∷ text) = (a == 60) && (is_ascii_alphabetic b && has_name_end text)
begins_start_tag _ = false

-- and an end tag
abbrev pub begins_end_tag : List ℕ → Bool
begins_end_tag (a ∷ b ∷ c ∷ text) =
    (a == 60) && ((b == 47) && (is_ascii_alphabetic c && has_name_end text))
begins_end_tag _ = false

-- new is the tag with one attribute more, right after its name, and each other byte as it is; where
-- the tag lacks the key, its token has the attribute in front, and all that follows is read as
-- before
pub record IsAdded (tag new key value : List ℕ) : Type 0 where
  pub place : ℕ
  pub name : IsNameEnd false place tag
  pub bytes : new ≡ take place tag ++ (attribute_markup key value ++ drop place tag)
  pub tokens : (more : List ℕ) → FirstLacks key (emitted (at data_state) (tag ++ more)) →
      emitted (at data_state) (new ++ more)
      ≡ changed_first (Set key value) (emitted (at data_state) (tag ++ more))

-- new is the tag with another name and each byte from the end of its name on as it is; where the
-- tokenizer goes on after both names alike, its token has that name, and all that follows is read
-- as before
pub record IsRenamed (is_end : Bool) (tag new name : List ℕ) : Type 0 where
  pub place : ℕ
  pub name_end : IsNameEnd is_end place tag
  pub bytes : new ≡ tag_opening is_end ++ (name ++ drop place tag)
  pub tokens : (more : List ℕ) → FirstGoesOnAs name (emitted (at data_state) (tag ++ more)) →
      emitted (at data_state) (new ++ more)
      ≡ changed_first (Rename name) (emitted (at data_state) (tag ++ more))
