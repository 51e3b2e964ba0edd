-- The constants of `ElementName` with the names that they stand for.
use Rattle.std.specs.Prelude.{List, [], codes, ℕ, ◌∷◌}
use Rattle.tl_names.specs.declared.element_name.ElementName.{ElementName}
use Rattle.tl_names.specs.declared.element_name.TheConstants.ElementName as E

abbrev pub named_elements : List (List ℕ × ElementName)
named_elements =
    (codes "a", E.A) ∷ (codes "address", E.ADDRESS) ∷ (codes "annotation-xml", E.ANNOTATION_XML) ∷
    (codes "applet", E.APPLET) ∷ (codes "area", E.AREA) ∷ (codes "article", E.ARTICLE) ∷
    (codes "aside", E.ASIDE) ∷ (codes "b", E.B) ∷ (codes "base", E.BASE) ∷
    (codes "basefont", E.BASEFONT) ∷ (codes "bgsound", E.BGSOUND) ∷ (codes "big", E.BIG) ∷
    (codes "blockquote", E.BLOCKQUOTE) ∷ (codes "body", E.BODY) ∷ (codes "br", E.BR) ∷
    (codes "button", E.BUTTON) ∷ (codes "caption", E.CAPTION) ∷ (codes "center", E.CENTER) ∷
    (codes "code", E.CODE) ∷ (codes "col", E.COL) ∷ (codes "colgroup", E.COLGROUP) ∷
    (codes "dd", E.DD) ∷ (codes "desc", E.DESC) ∷ (codes "details", E.DETAILS) ∷
    (codes "dialog", E.DIALOG) ∷ (codes "dir", E.DIR) ∷ (codes "div", E.DIV) ∷
    (codes "dl", E.DL) ∷ (codes "dt", E.DT) ∷ (codes "em", E.EM) ∷ (codes "embed", E.EMBED) ∷
    (codes "fieldset", E.FIELDSET) ∷ (codes "figcaption", E.FIGCAPTION) ∷
    (codes "figure", E.FIGURE) ∷ (codes "font", E.FONT) ∷ (codes "footer", E.FOOTER) ∷
    (codes "foreignObject", E.FOREIGN_OBJECT) ∷ (codes "form", E.FORM) ∷
    (codes "frame", E.FRAME) ∷ (codes "frameset", E.FRAMESET) ∷ (codes "h1", E.H1) ∷
    (codes "h2", E.H2) ∷ (codes "h3", E.H3) ∷ (codes "h4", E.H4) ∷ (codes "h5", E.H5) ∷
    (codes "h6", E.H6) ∷ (codes "head", E.HEAD) ∷ (codes "header", E.HEADER) ∷
    (codes "hgroup", E.HGROUP) ∷ (codes "hr", E.HR) ∷ (codes "html", E.HTML) ∷ (codes "i", E.I) ∷
    (codes "iframe", E.IFRAME) ∷ (codes "image", E.IMAGE) ∷ (codes "img", E.IMG) ∷
    (codes "input", E.INPUT) ∷ (codes "keygen", E.KEYGEN) ∷ (codes "li", E.LI) ∷
    (codes "link", E.LINK) ∷ (codes "listing", E.LISTING) ∷ (codes "main", E.MAIN) ∷
    (codes "malignmark", E.MALIGNMARK) ∷ (codes "marquee", E.MARQUEE) ∷ (codes "math", E.MATH) ∷
    (codes "menu", E.MENU) ∷ (codes "meta", E.META) ∷ (codes "mglyph", E.MGLYPH) ∷
    (codes "mi", E.MI) ∷ (codes "mn", E.MN) ∷ (codes "mo", E.MO) ∷ (codes "ms", E.MS) ∷
    (codes "mtext", E.MTEXT) ∷ (codes "nav", E.NAV) ∷ (codes "nobr", E.NOBR) ∷
    (codes "noembed", E.NOEMBED) ∷ (codes "noframes", E.NOFRAMES) ∷
    (codes "noscript", E.NOSCRIPT) ∷ (codes "object", E.OBJECT) ∷ (codes "ol", E.OL) ∷
    (codes "optgroup", E.OPTGROUP) ∷ (codes "option", E.OPTION) ∷ (codes "p", E.P) ∷
    (codes "param", E.PARAM) ∷ (codes "plaintext", E.PLAINTEXT) ∷ (codes "pre", E.PRE) ∷
    (codes "rb", E.RB) ∷ (codes "rp", E.RP) ∷ (codes "rt", E.RT) ∷ (codes "rtc", E.RTC) ∷
    (codes "ruby", E.RUBY) ∷ (codes "s", E.S) ∷ (codes "script", E.SCRIPT) ∷
    (codes "search", E.SEARCH) ∷ (codes "section", E.SECTION) ∷ (codes "select", E.SELECT) ∷
    (codes "small", E.SMALL) ∷ (codes "source", E.SOURCE) ∷ (codes "span", E.SPAN) ∷
    (codes "strike", E.STRIKE) ∷ (codes "strong", E.STRONG) ∷ (codes "style", E.STYLE) ∷
    (codes "sub", E.SUB) ∷ (codes "summary", E.SUMMARY) ∷ (codes "sup", E.SUP) ∷
    (codes "svg", E.SVG) ∷ (codes "table", E.TABLE) ∷ (codes "tbody", E.TBODY) ∷
    (codes "td", E.TD) ∷ (codes "template", E.TEMPLATE) ∷ (codes "textarea", E.TEXTAREA) ∷
    (codes "tfoot", E.TFOOT) ∷ (codes "th", E.TH) ∷ (codes "thead", E.THEAD) ∷
    (codes "title", E.TITLE) ∷ (codes "tr", E.TR) ∷ (codes "track", E.TRACK) ∷
    (codes "tt", E.TT) ∷ (codes "u", E.U) ∷ (codes "ul", E.UL) ∷ (codes "var", E.VAR) ∷
    (codes "wbr", E.WBR) ∷ (codes "xmp", E.XMP) ∷ []
