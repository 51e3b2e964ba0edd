-- Runs of characters (13.2.6). A rule takes one character. Once the first one of a run was taken,
-- by whatever rules and however often it was reprocessed, the rest of the run is taken at once.
use Rattle.std.specs.Char.{is_ascii_whitespace}
use Rattle.std.specs.Prelude.{Bool, List, [], false, filter, if◌then◌else◌, length, not, true, ℕ, ◌&&◌, ◌+◌, ◌++◌, ◌==◌, ◌||◌, ◌∷◌}
use Rattle.tl_html_spec.specs.HtmlTokenizer.{replacement}
use Rattle.tl_dom_spec.specs.Builder.{Builder, Mode, a_character, adjusted_current_node, after_after_frameset, after_frameset, after_head, before_head, before_html, current_tag, in_column_group, in_frameset, in_head, in_head_noscript, in_row, in_table, in_table_body, in_table_text, initial, insert_bytes, text_mode}
use Rattle.tl_dom_spec.specs.Tables.{is_text_in_table}
use Rattle.tl_dom_spec.specs.Dispatcher.{is_html_content}

-- What a run is

-- what the rules tell apart: NULs, white space and all others
pub data Kind : Type 0 where
  null : Kind
  white : Kind
  plain : Kind

abbrev pub kind_of : ℕ → Kind
kind_of c = if c == 0 then null else if is_ascii_whitespace c then white else plain

-- the modes in which a run that a plain character began takes white space and NULs too: all but
-- "after after frameset", where white space goes by the rules of "in body"
abbrev pub takes_any : Mode → Bool
takes_any after_after_frameset = false
takes_any m = true

-- whether a character is of the run that one of a kind began, by the mode that this one left
abbrev pub is_of_run : Mode → Kind → ℕ → Bool
is_of_run m null c = c == 0
is_of_run m white c = is_ascii_whitespace c
is_of_run m plain c = takes_any m || (not (c == 0) && not (is_ascii_whitespace c))

-- What the rest of it does

-- whether a character goes in, in HTML content; others are ignored
abbrev pub goes_in : Mode → ℕ → Bool
-- 13.2.6.4.1 to .3: white space is ignored
goes_in initial c = false
goes_in before_html c = false
goes_in before_head c = false
-- .4 to .6, .12, .18, .19 and .21: white space alone is inserted
goes_in in_head c = is_ascii_whitespace c
goes_in in_head_noscript c = is_ascii_whitespace c
goes_in after_head c = is_ascii_whitespace c
goes_in in_column_group c = is_ascii_whitespace c
goes_in in_frameset c = is_ascii_whitespace c
goes_in after_frameset c = is_ascii_whitespace c
goes_in after_after_frameset c = is_ascii_whitespace c
-- .8: all are inserted
goes_in text_mode c = true
-- .7, what goes by its rules, and .10: NULs are ignored
goes_in m c = not (c == 0)

-- no text is inserted for no bytes
abbrev pub insert_text : List ℕ → Builder → Builder
insert_text [] b = b
insert_text (c ∷ bytes) b = insert_bytes (c ∷ bytes) b

-- .9: a text waits where the current node is a part of a table
abbrev pub table_run : List ℕ → Builder → Builder
table_run bytes b =
    if is_text_in_table (current_tag b)
    then record b { pending = bytes; original = b.mode; mode = in_table_text }
    else insert_text bytes b

-- .10: it is put behind the pending table character tokens; .13 and .14: as in .9
abbrev pub html_run : Mode → List ℕ → Builder → Builder
html_run in_table bytes b = table_run bytes b
html_run in_table_text bytes b = record b { pending = b.pending ++ bytes }
html_run in_table_body bytes b = table_run bytes b
html_run in_row bytes b = table_run bytes b
html_run m bytes b = insert_text bytes b

-- 13.2.6.5: U+FFFD stands for each NUL
abbrev pub with_replacements : List ℕ → List ℕ
with_replacements [] = []
with_replacements (c ∷ run) =
    if c == 0 then replacement ++ with_replacements run else c ∷ with_replacements run

-- by the dispatcher (13.2.6): all of a run goes where its first character would go
abbrev pub run_dispatched : List ℕ → Builder → Builder
run_dispatched run b =
    if is_html_content (adjusted_current_node b) (a_character 0)
    then html_run b.mode (filter (goes_in b.mode) run) b
    else insert_text (with_replacements run) b

abbrev pub count_tokens : ℕ → Builder → Builder
count_tokens n b = record b { tokens = b.tokens + n }

-- each character is a token
abbrev pub run_taken : List ℕ → Builder → Builder
run_taken [] b = b
run_taken (c ∷ run) b = count_tokens (length (c ∷ run)) (run_dispatched (c ∷ run) b)
