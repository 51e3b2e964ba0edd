-- Trees printed with a tag on each line where white space doesn't count: they are serialized with
-- texts of white space put in, and without such texts as these stand for.
--
-- A line is begun before each element that stands on lines of its own (15.3: `display` is `block`,
-- `list-item` or a part of a table), and what holds such an element ends on a line of its own. What
-- stands in a line, and what is in `pre` and its like, in a raw text or in a `template`, is written
-- as it is. No line begins or ends beside a text that says something, so that each stays as it is.
use Rattle.std.specs.Char.{is_ascii_whitespace}
use Rattle.std.specs.List.{list_all}
use Rattle.std.specs.Prelude.{Bool, List, None, Option, Some, codes, false, if◌then◌else◌, min, not, replicate, true, ℕ, ◌&&◌, ◌*◌, ◌+◌, ◌||◌, ◌∷◌}
use Rattle.tl_dom_spec.specs.HtmlForest.{HtmlForest, comment, doctype, element, no_trees, text}
use Rattle.tl_dom_spec.specs.Lawful.{is_void}
use Rattle.tl_dom_spec.specs.Marks.{unmarked}
use Rattle.tl_dom_spec.specs.Tags.{Tag, is_any, is_html}
use Rattle.tl_html_print.specs.Serialized.{serialized}
use Rattle.tl_html_print.specs.declared.pretty.spot.Before.{Before}
use Rattle.tl_html_print.specs.declared.pretty.spot.Before.TheVariants.{Begin, Edge, Fresh, Joined, Run, Tight}
use Rattle.tl_html_print.specs.declared.pretty.stand.Stand.{Stand}
use Rattle.tl_html_print.specs.declared.pretty.stand.Stand.TheVariants.{Alone, Inside, Late, Unseen, Words}
use Rattle.tl_html_spec.specs.Balanced.{is_one_of}
use Rattle.tl_tree_extract.specs.Boxes.{box_in}
use Rattle.tl_tree_extract.specs.declared.text.display.Display.{Display}
use Rattle.tl_tree_extract.specs.declared.text.display.Display.TheVariants.{Hidden, Inline, LineBreak, Preformatted}

-- Elements

-- in which no white space is shown, nor texts stand, so that all that is in them stands on lines of
-- its own
abbrev pub frame_names : List ℕ
frame_names = codes "colgroup frameset head html table tbody tfoot thead tr"

-- metadata and scripts, which are not shown wherever they stand (15.3.1)
abbrev pub unseen_names : List ℕ
unseen_names = codes "base link meta script style template title"

-- behind which white space is read as if it stood at the end of the body (13.2.6.4.19, .22)
abbrev pub late_names : List ℕ
late_names = codes "body html"

abbrev pub is_on_lines : Display → Bool
is_on_lines Hidden = false
is_on_lines Inline = false
is_on_lines LineBreak = false
is_on_lines _ = true

-- such whose white space isn't kept
abbrev pub has_lines : Display → Bool
has_lines Preformatted = false
has_lines box = is_on_lines box

abbrev pub is_frame : Tag → Bool
is_frame tag = is_any frame_names tag

abbrev pub is_frame_in : Option Tag → Bool
is_frame_in None = false
is_frame_in (Some holder) = is_frame holder

-- on lines of its own
abbrev pub is_block : Tag → Bool
is_block tag =
    is_html tag && (is_one_of frame_names tag.name || is_on_lines (box_in tag.space tag.name))

-- what is in it may stand on lines of its own
abbrev pub is_broken : Tag → Bool
is_broken tag =
    (is_html tag
    && (is_one_of frame_names tag.name || has_lines (box_in tag.space tag.name)))
    && not (is_void tag)

abbrev pub element_stand : Option Tag → Tag → Stand
element_stand holder tag =
    if is_frame_in holder || is_block tag then (if is_any late_names tag then Late else Alone)
    else if is_any unseen_names tag then Unseen
    else Inside

-- Lines

-- whether a line begins before what stands so
abbrev pub begins_line : Before → Stand → Bool
begins_line Edge Alone = true
begins_line Edge Late = true
begins_line Edge Unseen = true
begins_line Fresh Alone = true
begins_line Fresh Late = true
begins_line Fresh Unseen = true
begins_line Fresh Inside = true
begins_line Run Alone = true
begins_line Run Late = true
begins_line Joined Alone = true
begins_line Joined Late = true
begins_line _ _ = false

-- whether one begins before the end tag
abbrev pub ends_line : Before → Bool
ends_line Fresh = true
ends_line Run = true
ends_line _ = false

-- what then stands before: nothing may stand behind a `body` or `html` in which nothing is
abbrev pub after : Before → Stand → Before
after _ Alone = Fresh
after Begin Unseen = Fresh
after Edge Unseen = Fresh
after Fresh Unseen = Fresh
after Run Unseen = Run
after _ Unseen = Joined
after Fresh Inside = Run
after Run Inside = Run
after _ Inside = Joined
after _ Words = Tight
after _ Late = Tight

-- behind an element: where its end tag doesn't begin a line, nothing may stand behind those that
-- are late
abbrev pub after_lines : Bool → Before → Before
after_lines true Fresh = Fresh
after_lines true Run = Fresh
after_lines true _ = Tight
after_lines false _ = Fresh

-- two spaces for each element around that is broken over lines, and for 40 of them at most, so that
-- the space that a print takes is linear in the page
abbrev pub line : ℕ → List ℕ
line depth = 10 ∷ replicate (2 * min depth 40) 32

abbrev pub is_white : List ℕ → Bool
is_white bytes = list_all is_ascii_whitespace bytes

-- Trees

abbrev pub with_line : Bool → ℕ → HtmlForest → HtmlForest
with_line true depth trees = text (unmarked (line depth)) trees
with_line false depth trees = trees

abbrev pub followed_by : HtmlForest → HtmlForest → HtmlForest
followed_by no_trees later = later
followed_by (text own more) later = text own (followed_by more later)
followed_by (comment own more) later = comment own (followed_by more later)
followed_by (doctype own more) later = doctype own (followed_by more later)
followed_by (element tag below more) later = element tag below (followed_by more later)

abbrev pub is_empty : HtmlForest → Bool
is_empty no_trees = true
is_empty _ = false

abbrev pub is_opened : Tag → HtmlForest → Bool
is_opened tag below = is_broken tag && not (is_empty below)

-- whether a line begins before the first of trees, or before the end tag of what holds them
abbrev pub begins : Option Tag → Before → HtmlForest → Bool
begins None before no_trees = false
begins (Some holder) before no_trees = ends_line before
begins holder before (text own more) = begins_line before Words
begins holder before (comment own more) = begins_line before Unseen
begins holder before (doctype own more) = begins_line before Alone
begins holder before (element tag below more) = begins_line before (element_stand holder tag)

-- white space changes nothing
abbrev pub after_text : Before → List ℕ → Before
after_text before bytes = if is_white bytes then before else after before Words

-- what stands before the end of trees
abbrev pub last : Option Tag → Before → HtmlForest → Before
last holder before no_trees = before
last holder before (text own more) = last holder (after_text before own.said) more
last holder before (comment own more) = last holder (after before Unseen) more
last holder before (doctype own more) = last holder (after before Alone) more
last holder before (element tag below more) =
    let inner = last (Some tag) Edge below in
    let own =
    if is_opened tag below then after_lines (is_any late_names tag) inner
    else after before (element_stand holder tag)
    in
    last holder own more

-- what is in an element around which so many others are broken over lines, and such trees
abbrev pub laid_in : ℕ → Tag → HtmlForest → HtmlForest → HtmlForest
laid_in depth tag below laid =
    if is_opened tag below
    then followed_by laid (with_line (ends_line (last (Some tag) Edge below)) depth no_trees)
    else below

abbrev pub laid : ℕ → Option Tag → Before → HtmlForest → HtmlForest
laid depth holder before no_trees = no_trees
laid depth holder before (text own more) =
    let later = laid depth holder (after_text before own.said) more in
    if is_white own.said && begins holder before more then later else text own later
laid depth holder before (comment own more) =
    with_line (begins_line before Unseen) depth
    (comment own (laid depth holder (after before Unseen) more))
laid depth holder before (doctype own more) =
    with_line (begins_line before Alone) depth
    (doctype own (laid depth holder (after before Alone) more))
laid depth holder before (element tag below more) =
    let inner = laid (depth + 1) (Some tag) Edge below in
    let own =
    if is_opened tag below
    then after_lines (is_any late_names tag) (last (Some tag) Edge below)
    else after before (element_stand holder tag)
    in
    with_line (begins_line before (element_stand holder tag)) depth
    (element tag (laid_in depth tag below inner) (laid depth holder own more))

-- behind the last line stands a line feed, where the end tag of what holds them would begin a line
abbrev pub laid_out : HtmlForest → HtmlForest
laid_out trees =
    followed_by (laid 0 None Begin trees) (with_line (ends_line (last None Begin trees)) 0 no_trees)

abbrev pub pretty : Bool → HtmlForest → List ℕ
pretty is_scripting trees = serialized is_scripting None (laid_out trees)

-- Trees without texts that are white space alone

abbrev pub without_white : HtmlForest → HtmlForest
without_white no_trees = no_trees
without_white (text own more) =
    let later = without_white more in
    if is_white own.said then later else text own later
without_white (comment own more) = comment own (without_white more)
without_white (doctype own more) = doctype own (without_white more)
without_white (element tag below more) = element tag (without_white below) (without_white more)
