-- Which doctypes ask for quirks mode (13.2.6.4.1), where case is no matter.
use Rattle.std.specs.Char.{to_ascii_lowercase}
use Rattle.std.specs.List.{list_any, starts_with}
use Rattle.std.specs.Prelude.{Bool, List, Option, [], codes, is_none, map, not, ℕ, ◌&&◌, ◌==◌, ◌||◌, ◌∷◌}
use Rattle.std.specs.Str.{bytes_eq}
use Rattle.tl_html_spec.specs.Doctypes.{Doctype, or_empty}

abbrev pub quirky_ids : List (List ℕ)
quirky_ids =
    codes "-//w3o//dtd w3 html strict 3.0//en//"
    ∷ codes "-/w3c/dtd html 4.0 transitional/en"
    ∷ codes "html"
    ∷ []

abbrev pub quirky_beginnings : List (List ℕ)
quirky_beginnings =
    codes "+//silmaril//dtd html pro v0r11 19970101//"
    ∷ codes "-//as//dtd html 3.0 aswedit + extensions//"
    ∷ codes "-//advasoft ltd//dtd html 3.0 aswedit + extensions//"
    ∷ codes "-//ietf//dtd html 2.0 level 1//"
    ∷ codes "-//ietf//dtd html 2.0 level 2//"
    ∷ codes "-//ietf//dtd html 2.0 strict level 1//"
    ∷ codes "-//ietf//dtd html 2.0 strict level 2//"
    ∷ codes "-//ietf//dtd html 2.0 strict//"
    ∷ codes "-//ietf//dtd html 2.0//"
    ∷ codes "-//ietf//dtd html 2.1e//"
    ∷ codes "-//ietf//dtd html 3.0//"
    ∷ codes "-//ietf//dtd html 3.2 final//"
    ∷ codes "-//ietf//dtd html 3.2//"
    ∷ codes "-//ietf//dtd html 3//"
    ∷ codes "-//ietf//dtd html level 0//"
    ∷ codes "-//ietf//dtd html level 1//"
    ∷ codes "-//ietf//dtd html level 2//"
    ∷ codes "-//ietf//dtd html level 3//"
    ∷ codes "-//ietf//dtd html strict level 0//"
    ∷ codes "-//ietf//dtd html strict level 1//"
    ∷ codes "-//ietf//dtd html strict level 2//"
    ∷ codes "-//ietf//dtd html strict level 3//"
    ∷ codes "-//ietf//dtd html strict//"
    ∷ codes "-//ietf//dtd html//"
    ∷ codes "-//metrius//dtd metrius presentational//"
    ∷ codes "-//microsoft//dtd internet explorer 2.0 html strict//"
    ∷ codes "-//microsoft//dtd internet explorer 2.0 html//"
    ∷ codes "-//microsoft//dtd internet explorer 2.0 tables//"
    ∷ codes "-//microsoft//dtd internet explorer 3.0 html strict//"
    ∷ codes "-//microsoft//dtd internet explorer 3.0 html//"
    ∷ codes "-//microsoft//dtd internet explorer 3.0 tables//"
    ∷ codes "-//netscape comm. corp.//dtd html//"
    ∷ codes "-//netscape comm. corp.//dtd strict html//"
    ∷ codes "-//o'reilly and associates//dtd html 2.0//"
    ∷ codes "-//o'reilly and associates//dtd html extended 1.0//"
    ∷ codes "-//o'reilly and associates//dtd html extended relaxed 1.0//"
    ∷ codes "-//sq//dtd html 2.0 hotmetal + extensions//"
    ∷ codes "-//softquad software//dtd hotmetal pro 6.0::19990601::extensions to html 4.0//"
    ∷ codes "-//softquad//dtd hotmetal pro 4.0::19971010::extensions to html 4.0//"
    ∷ codes "-//spyglass//dtd html 2.0 extended//"
    ∷ codes "-//sun microsystems corp.//dtd hotjava html//"
    ∷ codes "-//sun microsystems corp.//dtd hotjava strict html//"
    ∷ codes "-//w3c//dtd html 3 1995-03-24//"
    ∷ codes "-//w3c//dtd html 3.2 draft//"
    ∷ codes "-//w3c//dtd html 3.2 final//"
    ∷ codes "-//w3c//dtd html 3.2//"
    ∷ codes "-//w3c//dtd html 3.2s draft//"
    ∷ codes "-//w3c//dtd html 4.0 frameset//"
    ∷ codes "-//w3c//dtd html 4.0 transitional//"
    ∷ codes "-//w3c//dtd html experimental 19960712//"
    ∷ codes "-//w3c//dtd html experimental 970421//"
    ∷ codes "-//w3c//dtd w3 html//"
    ∷ codes "-//w3o//dtd w3 html 3.0//"
    ∷ codes "-//webtechs//dtd mozilla html 2.0//"
    ∷ codes "-//webtechs//dtd mozilla html//"
    ∷ []

-- those that are quirky where there is no system identifier
abbrev pub transitional_beginnings : List (List ℕ)
transitional_beginnings =
    codes "-//w3c//dtd html 4.01 frameset//"
    ∷ codes "-//w3c//dtd html 4.01 transitional//"
    ∷ []

abbrev pub quirky_system : List ℕ
quirky_system = codes "http://www.ibm.com/data/dtd/v11/ibmxhtml1-transitional.dtd"

abbrev pub begins_with_one : List (List ℕ) → List ℕ → Bool
begins_with_one beginnings id = list_any (λ (x : List ℕ). starts_with ◌==◌ id x) beginnings

abbrev pub is_quirky_public : Bool → List ℕ → Bool
is_quirky_public has_system id =
    list_any (bytes_eq id) quirky_ids || begins_with_one quirky_beginnings id
    || (not has_system && begins_with_one transitional_beginnings id)

abbrev pub lowered : Option (List ℕ) → List ℕ
lowered id = map to_ascii_lowercase (or_empty id)

abbrev pub is_quirky : Doctype → Bool
is_quirky d =
    d.forces_quirks || not (bytes_eq d.name (codes "html"))
    || is_quirky_public (not (is_none d.system_id)) (lowered d.public_id)
    || bytes_eq (lowered d.system_id) quirky_system
