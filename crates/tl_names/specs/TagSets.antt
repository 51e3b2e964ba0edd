-- Classes of names that the rules of tree construction ask for, as the sections of the standard
-- list them.
use Rattle.std.specs.Prelude.{Bool, List, ℕ, ◌++◌}
use Rattle.tl_names.specs.ElementNames.{bytes_of}
use Rattle.tl_names.specs.Elements.{is_among, words}
use Rattle.tl_names.specs.declared.class.Class.{Class}
use Rattle.tl_names.specs.declared.class.Class.TheVariants.{Special, Scope, ListScope, ButtonScope, TableScope, AddressDivParagraph, Implied, ImpliedThoroughly, Heading, FosterTarget, Void, Rcdata, RawText, Verbatim, TableSection, TablePart, TableBodyContext, TableRowContext, Cell, Description, MathText, MathMark, MathGlyph, SvgMark, SvgCased, Breakout, Decisive}
use Rattle.tl_names.specs.declared.element_name.ElementName.{ElementName}

-- the special elements (13.2.4.2)
abbrev pub special_words : List (List ℕ)
special_words =
    words "address applet area article aside base basefont bgsound blockquote body br"
    ++ words "button caption center col colgroup dd details dir div dl dt embed fieldset"
    ++ words "figcaption figure footer form frame frameset h1 h2 h3 h4 h5 h6 head header"
    ++ words "hgroup hr html iframe img input keygen li link listing main marquee menu meta"
    ++ words "nav noembed noframes noscript object ol p param plaintext pre script search"
    ++ words "section select source style summary table tbody td template textarea tfoot th"
    ++ words "thead title tr track ul wbr xmp"

-- what bounds a scope (13.2.4.2)
abbrev pub scope_words : List (List ℕ)
scope_words =
    words "applet caption html table td th marquee object select template"

-- what bounds a scope of list items (13.2.4.2)
abbrev pub list_scope_words : List (List ℕ)
list_scope_words = scope_words ++ words "ol ul"

-- what bounds a scope of buttons (13.2.4.2)
abbrev pub button_scope_words : List (List ℕ)
button_scope_words = scope_words ++ words "button"

-- what bounds a scope of tables (13.2.4.2), and the context of a table (13.2.6.4.9)
abbrev pub table_scope_words : List (List ℕ)
table_scope_words =
    words "html table template"

-- the special elements that a search for an item goes past (13.2.6.4.7)
abbrev pub address_div_paragraph_words : List (List ℕ)
address_div_paragraph_words =
    words "address div p"

-- whose end tags are generated (13.2.6.3)
abbrev pub implied_words : List (List ℕ)
implied_words =
    words "dd dt li optgroup option p rb rp rt rtc"

-- whose end tags are generated thoroughly (13.2.6.3)
abbrev pub implied_thoroughly_words : List (List ℕ)
implied_thoroughly_words = implied_words ++ words "caption colgroup tbody td tfoot th thead tr"

-- headings
abbrev pub heading_words : List (List ℕ)
heading_words =
    words "h1 h2 h3 h4 h5 h6"

-- in which what is no part of a table is foster parented (13.2.6.1)
abbrev pub foster_target_words : List (List ℕ)
foster_target_words =
    words "table tbody tfoot thead tr"

-- void elements (13.1.2), and `keygen` and `param`
abbrev pub void_words : List (List ℕ)
void_words =
    words "area base br col embed hr img input keygen link meta param source track wbr"

-- what holds characters and references up to its own end tag (13.2.5.2)
abbrev pub rcdata_words : List (List ℕ)
rcdata_words =
    words "title textarea"

-- what holds characters alone up to its own end tag (13.2.5.3)
abbrev pub raw_text_words : List (List ℕ)
raw_text_words =
    words "style xmp iframe noembed noframes"

-- as a context, what a text is read in as it is (13.4)
abbrev pub verbatim_words : List (List ℕ)
verbatim_words = raw_text_words ++ words "script plaintext"

-- what rows of a table stand in (13.2.6.4.13)
abbrev pub table_section_words : List (List ℕ)
table_section_words =
    words "tbody thead tfoot"

-- what stands in a table alone (13.2.6.4.7)
abbrev pub table_part_words : List (List ℕ)
table_part_words =
    words "tbody thead tfoot tr td th caption col colgroup"

-- the context of a table body (13.2.6.4.13)
abbrev pub table_body_context_words : List (List ℕ)
table_body_context_words =
    words "tbody tfoot thead template html"

-- the context of a row (13.2.6.4.14)
abbrev pub table_row_context_words : List (List ℕ)
table_row_context_words =
    words "tr template html"

-- cells (13.2.6.4.15)
abbrev pub cell_words : List (List ℕ)
cell_words =
    words "td th"

-- what stands in a `dl` (13.2.6.4.7)
abbrev pub description_words : List (List ℕ)
description_words =
    words "dd dt"

-- the integration points of MathML for text (13.2.6)
abbrev pub math_text_words : List (List ℕ)
math_text_words =
    words "mi mo mn ms mtext"

-- what is special in MathML, and bounds a scope (13.2.4.2)
abbrev pub math_mark_words : List (List ℕ)
math_mark_words = math_text_words ++ words "annotation-xml"

-- which start tags stay in MathML there (13.2.6)
abbrev pub math_glyph_words : List (List ℕ)
math_glyph_words =
    words "mglyph malignmark"

-- what is special in SVG, and bounds a scope (13.2.4.2); the integration points there (13.2.6)
abbrev pub svg_mark_words : List (List ℕ)
svg_mark_words =
    words "foreignObject desc title"

-- the names of SVG that are put into another case (13.2.6.1)
abbrev pub svg_cased_words : List (List ℕ)
svg_cased_words =
    words "altglyph altglyphdef altglyphitem animatecolor animatemotion animatetransform"
    ++ words "clippath feblend fecolormatrix fecomponenttransfer fecomposite"
    ++ words "feconvolvematrix fediffuselighting fedisplacementmap fedistantlight"
    ++ words "fedropshadow feflood fefunca fefuncb fefuncg fefuncr fegaussianblur feimage"
    ++ words "femerge femergenode femorphology feoffset fepointlight fespecularlighting"
    ++ words "fespotlight fetile feturbulence foreignobject glyphref lineargradient"
    ++ words "radialgradient textpath"

-- whose start tags end foreign content (13.2.6.5)
abbrev pub breakout_words : List (List ℕ)
breakout_words =
    words "b big blockquote body br center code dd div dl dt em embed h1 h2 h3 h4 h5 h6"
    ++ words "head hr i img li listing menu meta nobr ol p pre ruby s small span strong"
    ++ words "strike sub sup table tt u ul var"

-- what may decide the insertion mode (13.2.4.1)
abbrev pub decisive_words : List (List ℕ)
decisive_words =
    words "td th tr tbody thead tfoot caption colgroup table template head body frameset html"

-- the names of a class
unfoldable pub names_in : Class → List (List ℕ)
names_in Special = special_words
names_in Scope = scope_words
names_in ListScope = list_scope_words
names_in ButtonScope = button_scope_words
names_in TableScope = table_scope_words
names_in AddressDivParagraph = address_div_paragraph_words
names_in Implied = implied_words
names_in ImpliedThoroughly = implied_thoroughly_words
names_in Heading = heading_words
names_in FosterTarget = foster_target_words
names_in Void = void_words
names_in Rcdata = rcdata_words
names_in RawText = raw_text_words
names_in Verbatim = verbatim_words
names_in TableSection = table_section_words
names_in TablePart = table_part_words
names_in TableBodyContext = table_body_context_words
names_in TableRowContext = table_row_context_words
names_in Cell = cell_words
names_in Description = description_words
names_in MathText = math_text_words
names_in MathMark = math_mark_words
names_in MathGlyph = math_glyph_words
names_in SvgMark = svg_mark_words
names_in SvgCased = svg_cased_words
names_in Breakout = breakout_words
names_in Decisive = decisive_words

-- whether a name is of a class
unfoldable pub is_of : Class → ElementName → Bool
is_of class name = is_among (names_in class) (bytes_of name)
