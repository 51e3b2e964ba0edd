-- Tokens with the end tags that HTML leaves out, and without those that close nothing: the rules of
-- 'in body' (13.2.6.4.7) and of tables (13.2.6.4.9 to .15), as one mode over the names of the open
-- tags.
--
-- Left out, so a browser's tree may differ there: formatting elements that are closed out of order
-- or opened again (the adoption agency), what stands in a table and not in a cell (foster
-- parenting), start tags that a browser puts in (`html`, `head`, `body`, `tbody`, `tr`,
-- `colgroup`), `select`, `frameset`, the names that end `svg` and `math`, and `isindex` or `image`
-- under other names.
use Rattle.std.specs.Prelude.{ℕ, suc, Bool, true, false, not, ◌||◌, ◌&&◌, ◌==◌, List, [], ◌∷◌, ◌++◌, take, drop, map, Option, Some, None, option_map, codes, is_some, if◌then◌else◌}
use Rattle.std.specs.List.{list_any}
use Rattle.std.specs.Str.{bytes_eq}
use Rattle.tl_spec.specs.Lex.ByteClass.{is_void}
use Rattle.tl_names.specs.Elements.{closed_at_once, feed_droppers, head_parts, headings, implied_ends, is_among, list_scope_bounds, paragraph_ends, rawtext_names, rcdata_names, scope_bounds, scoped_ends, special_names, table_parts, table_scope_bounds, table_sections}
use Rattle.tl_html_spec.specs.HtmlTokenizer.{HtmlAttribute, HtmlToken, Character, StartTag, EndTag, CommentToken, DoctypeToken, is_white_space}

-- names, the innermost first
abbrev pub Names : Type 0
Names = List (List ℕ)

abbrev pub with_first : ℕ → Names → Names
with_first b [] = (b ∷ []) ∷ []
with_first b (word ∷ words) = (b ∷ word) ∷ words

-- the words of a text, with a space between each two
abbrev pub words : List ℕ → Names
words [] = [] ∷ []
words (b ∷ s) = if b == 32 then [] ∷ words s else with_first b (words s)

-- whether a name is one of the words of a text
abbrev pub is_one_of : List ℕ → List ℕ → Bool
is_one_of text name = list_any (bytes_eq name) (words text)

-- what holds a text and no markup
abbrev pub is_raw : List ℕ → Bool
is_raw name = is_among rcdata_names name || is_among rawtext_names name
    || is_one_of (codes "script plaintext") name

abbrev pub is_special : List ℕ → Bool
is_special name = is_among special_names name

-- what bounds a scope (13.2.4.2); a scope of buttons; of list items
abbrev pub is_scope : List ℕ → Bool
is_scope name = is_among scope_bounds name

abbrev pub is_button_scope : List ℕ → Bool
is_button_scope name = is_scope name || is_one_of (codes "button") name

abbrev pub is_list_scope : List ℕ → Bool
is_list_scope name = is_scope name || is_among list_scope_bounds name

-- what parts of a table look for
abbrev pub is_table_bound : List ℕ → Bool
is_table_bound name = is_one_of (codes "table template") name

abbrev pub is_section : List ℕ → Bool
is_section name = is_among table_sections name

-- the special ones but these bound the search for a list item to close
abbrev pub is_item_bound : List ℕ → Bool
is_item_bound name = is_special name && not (is_one_of (codes "address div p") name)

abbrev pub is_heading : List ℕ → Bool
is_heading name = is_among headings name

abbrev pub is_implied : List ℕ → Bool
is_implied name = is_among implied_ends name

-- how many open tags a rule looks through
abbrev pub looked_at : ℕ
looked_at = 512

-- how many tags are open inside the nearest that is found, above the first that stops
abbrev pub depth_in : (List ℕ → Bool) → (List ℕ → Bool) → Names → Option ℕ
depth_in found stops [] = None
depth_in found stops (name ∷ tags) =
    if found name then Some 0 else if stops name then None
    else option_map (λ n. suc n) (depth_in found stops tags)

abbrev pub depth : (List ℕ → Bool) → (List ℕ → Bool) → Names → Option ℕ
depth found stops tags = depth_in found stops (take looked_at tags)

abbrev pub never : List ℕ → Bool
never name = false

-- how many of the innermost tags a rule closes
abbrev pub Rule : Type 0
Rule = Names → ℕ

abbrev pub or_none : Option ℕ → ℕ
or_none None = 0
or_none (Some n) = n

-- the nearest that is found, and all inside it
abbrev pub nearest : (List ℕ → Bool) → (List ℕ → Bool) → Rule
nearest found stops tags = or_none (option_map (λ n. suc n) (depth found stops tags))

-- all inside the nearest that is found
abbrev pub inside_of : (List ℕ → Bool) → Rule
inside_of found tags = or_none (depth found never tags)

-- the innermost, if it is one of these; and all such on top
abbrev pub innermost : (List ℕ → Bool) → Rule
innermost p [] = 0
innermost p (name ∷ tags) = if p name then 1 else 0

abbrev pub leading : (List ℕ → Bool) → Rule
leading p [] = 0
leading p (name ∷ tags) = if p name then suc (leading p tags) else 0

abbrev pub when : Bool → Rule → Rule
when holds rule tags = if holds then rule tags else 0

abbrev pub is_innermost : List ℕ → Names → Bool
is_innermost word [] = false
is_innermost word (name ∷ tags) = bytes_eq name word

-- inside `svg` or `math`, but not in `foreignobject`
abbrev pub is_foreign : Names → Bool
is_foreign tags =
    elim (depth (is_one_of (codes "svg math foreignobject")) never tags) as (λ _. Bool) [
      | None ↦ false
      | Some n ↦ not (is_innermost (codes "foreignobject") (drop n tags))
    ]

-- end tags, and what is open after them
pub record Closing : Type 0 where
  pub ends : List HtmlToken
  pub left : Names

abbrev pub closing : ℕ → Names → Closing
closing n tags = record { ends = map EndTag (take n tags); left = drop n tags }

-- rules one after the other, each over what the earlier ones left
abbrev pub carried_out : List Rule → Names → Closing
carried_out [] tags = record { ends = []; left = tags }
carried_out (rule ∷ rules) tags =
    let first = closing (rule tags) tags in
    let more = carried_out rules first.left in
    record { ends = first.ends ++ more.ends; left = more.left }

-- whether a ruby's text, or base, is at hand
abbrev pub is_in_ruby : Names → Bool
is_in_ruby tags = is_some (depth (is_one_of (codes "ruby")) is_scope tags)

-- what a start tag of this name ends
abbrev pub rules_before : List ℕ → List Rule
rules_before n =
    when (is_one_of (codes "li") n) (nearest (is_one_of (codes "li")) is_item_bound)
    ∷ when (is_one_of (codes "dd dt") n) (nearest (is_one_of (codes "dd dt")) is_item_bound)
    ∷ when (is_among paragraph_ends n) (nearest (is_one_of (codes "p")) is_button_scope)
    ∷ when (is_heading n) (innermost is_heading)
    ∷ when (is_one_of (codes "option optgroup hr") n) (innermost (is_one_of (codes "option")))
    ∷ when (is_one_of (codes "optgroup hr") n) (innermost (is_one_of (codes "optgroup")))
    ∷ when (is_one_of (codes "button") n) (nearest (is_one_of (codes "button")) is_scope)
    ∷ when (is_one_of (codes "a nobr") n) (nearest (bytes_eq n) is_special)
    ∷ when (is_one_of (codes "rb rtc") n) (λ tags. when (is_in_ruby tags) (leading is_implied) tags)
    ∷ when (is_one_of (codes "rt rp") n)
    (λ tags. when (is_in_ruby tags) (leading (λ x. is_implied x && not (is_one_of (codes "rtc") x)))
    tags)
    ∷ when (is_one_of (codes "tr") n) (inside_of (λ x. is_section x || is_table_bound x))
    ∷ when (is_one_of (codes "td th") n)
    (inside_of (λ x. is_section x || is_table_bound x || is_one_of (codes "tr") x))
    ∷ when (is_one_of (codes "col") n) (inside_of
    (λ x. is_table_bound x || is_one_of (codes "colgroup") x))
    ∷ when (is_one_of (codes "tbody thead tfoot caption colgroup") n) (inside_of is_table_bound)
    ∷ when (is_one_of (codes "table") n)
    (nearest (is_one_of (codes "table")) (is_one_of (codes "td th caption template")))
    ∷ []

-- heads end before what can't stand in one: all on top, since a character's bytes come one by one
abbrev pub is_head : List ℕ → Bool
is_head name = is_one_of (codes "head") name

abbrev pub then_closing : Closing → Closing → Closing
then_closing first more = record { ends = first.ends ++ more.ends; left = more.left }

abbrev pub before_start : List ℕ → Names → Closing
before_start n tags =
    let first =
    closing (when (not (is_among head_parts n || is_head n)) (leading is_head) tags) tags in
    if is_foreign first.left then first else then_closing first
    (carried_out (rules_before n) first.left)

-- a start tag that is dropped
abbrev pub is_dropped : List ℕ → Names → Bool
is_dropped n tags =
    not (is_foreign tags) && (
    (is_one_of (codes "html") n && is_some (depth (λ x. true) never tags))
    || (is_head n && is_some (depth (λ x. not (is_one_of (codes "html") x)) never tags))
    || (is_one_of (codes "body") n && is_some
    (depth (λ x. not (is_one_of (codes "html head") x)) never tags))
    || (is_one_of (codes "form") n && is_some
    (depth (is_one_of (codes "form")) (is_one_of (codes "template")) tags))
    || (is_among table_parts n && not (is_some (depth is_table_bound never tags))))

-- how many tags an end tag of this name closes
abbrev pub closed_by : List ℕ → Rule
closed_by n tags =
    if is_void n || is_one_of (codes "html body") n then 0
    else if is_one_of (codes "p") n then nearest (is_one_of (codes "p")) is_button_scope tags
    else if is_one_of (codes "li") n then nearest (is_one_of (codes "li")) is_list_scope tags
    else if is_heading n then nearest is_heading is_scope tags
    else if is_among scoped_ends n then nearest (bytes_eq n) is_scope tags
    else if is_among table_parts n || is_one_of (codes "table") n then nearest (bytes_eq n)
    (is_among table_scope_bounds) tags
    else if is_one_of (codes "template select head") n then nearest (bytes_eq n) never tags
    else nearest (bytes_eq n) is_special tags

-- what an end tag puts in that closes nothing: an empty `p`, and for `</br>` a `br`
abbrev pub put_in : List ℕ → Names → List HtmlToken
put_in n tags =
    if is_one_of (codes "br") n then StartTag n [] false ∷ []
    else if is_one_of (codes "p") n && not (is_foreign tags)
    && not (is_some (depth (is_one_of (codes "p")) is_button_scope tags)) then StartTag n [] false
    ∷ EndTag n ∷ []
    else []

-- the open tags, and whether a line feed goes, after `<pre>` and its like
pub record Balance : Type 0 where
  pub open_tags : Names
  pub drops_feed : Bool

abbrev pub start : Balance
start = record { open_tags = []; drops_feed = false }

pub record Balanced : Type 0 where
  pub emits : List HtmlToken
  pub next : Balance

abbrev pub nothing_more : Balance → Balanced
nothing_more s = record { emits = []; next = record s { drops_feed = false } }

abbrev pub after_closing : Closing → List HtmlToken → Balanced
after_closing c tokens = record {
  emits = c.ends ++ tokens;
  next = record { open_tags = c.left; drops_feed = false };
}

-- a start tag that stays, after what it ended
abbrev pub opened : Closing → List ℕ → List HtmlAttribute → Bool → Balanced
opened c n attributes closes =
    let tag : HtmlToken = StartTag n attributes false in
    if is_void n then record {
      emits = c.ends ++ tag ∷ [];
      next = record { open_tags = c.left; drops_feed = false };
    }
    else if is_among closed_at_once n ||
    (closes && not (is_raw n) && (is_foreign c.left || is_one_of (codes "svg math") n)) then
    record {
      emits = c.ends ++ (tag ∷ EndTag n ∷ []);
      next = record { open_tags = c.left; drops_feed = is_among feed_droppers n };
    }
    else record {
      emits = c.ends ++ tag ∷ [];
      next = record { open_tags = n ∷ c.left; drops_feed = is_among feed_droppers n };
    }

abbrev pub balance : Balance → HtmlToken → Balanced
balance s (Character b) =
    if (b == 0) || (s.drops_feed && (b == 10)) then nothing_more s
    else after_closing (closing (when (not (is_white_space b)) (leading is_head) s.open_tags)
    s.open_tags) (Character b ∷ [])
balance s (StartTag n attributes closes) =
    if is_dropped n s.open_tags then nothing_more s
    else opened (before_start n s.open_tags) n attributes closes
balance s (EndTag n) =
    after_closing (closing (closed_by n s.open_tags) s.open_tags) (put_in n s.open_tags)
balance s (CommentToken bytes) = record {
  emits = CommentToken bytes ∷ [];
  next = record s { drops_feed = false };
}
balance s DoctypeToken = nothing_more s

abbrev pub balanced_from : Balance → List HtmlToken → List HtmlToken
balanced_from s [] = map EndTag s.open_tags
balanced_from s (token ∷ tokens) =
    (balance s token).emits ++ balanced_from (balance s token).next tokens

abbrev pub balanced : List HtmlToken → List HtmlToken
balanced tokens = balanced_from start tokens

-- without the innermost name, if it is this one
abbrev pub without_innermost : List ℕ → Names → Option Names
without_innermost name [] = None
without_innermost name (first ∷ tags) = if bytes_eq name first then Some tags else None

-- the names that some tokens leave open, where each end tag closes the innermost one; none where
-- one doesn't
abbrev pub left_open : Names → List HtmlToken → Option Names
left_open tags [] = Some tags
left_open tags (Character b ∷ tokens) = left_open tags tokens
left_open tags (StartTag n attributes closes ∷ tokens) =
    left_open (if is_void n then tags else n ∷ tags) tokens
left_open tags (EndTag n ∷ tokens) =
    elim (without_innermost n tags) as (λ _. Option Names) [
      | None ↦ None
      | Some left ↦ left_open left tokens
    ]
left_open tags (CommentToken bytes ∷ tokens) = left_open tags tokens
left_open tags (DoctypeToken ∷ tokens) = left_open tags tokens
