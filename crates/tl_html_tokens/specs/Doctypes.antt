-- What the bytes of a doctype say: its parts.
use Rattle.std.specs.Prelude.{Bool, List, [], drop, false, if◌then◌else◌, true, ℕ, ◌==◌, ◌∷◌}
use Rattle.tl_html_spec.specs.Doctypes.{Doctype, Doctyping, doctype_cut, doctype_ended, doctype_step, no_doctype}
use Rattle.tl_html_spec.specs.HtmlTokenizer.{with_feeds}

-- a doctype that ends at its `>`, or with the page
abbrev pub doctype_at : Bool → Doctyping → Doctype
doctype_at true d = doctype_ended d
doctype_at false d = doctype_cut d

-- by what stands after what was read of it
abbrev pub doctype_from : Doctyping → List ℕ → Doctype
doctype_from d [] = doctype_at false d
doctype_from d (c ∷ text) =
    if c == 62 then doctype_at true d else doctype_from (doctype_step d.part d c) text

-- by its bytes, which begin with `<!doctype`
abbrev pub doctype_said : List ℕ → Doctype
doctype_said bytes = doctype_from no_doctype (with_feeds (drop 9 bytes))
