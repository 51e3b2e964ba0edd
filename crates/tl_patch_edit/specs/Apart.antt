-- Which places of a page lack a start tag, and which of some patches can't be made whatever is done
-- with the others.
use Rattle.std.specs.Option.{option_to_list}
use Rattle.std.specs.Prelude.{Bool, List, None, Option, Some, [], if◌then◌else◌, is_some, max, nat_lt, suc, ℕ, ◌&&◌, ◌++◌, ◌==◌, ◌∷◌}
use Rattle.tl_html_spec.specs.Pieces.{Piece}
use Rattle.tl_patch_edit.specs.Errors.{pieces_in, placed_pieces}
use Rattle.tl_patch_edit.specs.declared.error.EditError.{EditError}
use Rattle.tl_patch_edit.specs.declared.error.EditError.TheVariants.{NoStartTag, NotMeant}
use Rattle.tl_patch_spec.specs.Patches.{Patch, Put, asked_of, start_name}
use Rattle.tl_patch_spec.specs.Splices.{Splice}
use Rattle.tl_patch_spec.specs.Together.{Gone, gone_after, is_gone, none_gone}

-- whether a piece is a start tag that begins at a byte
abbrev pub is_start_there : ℕ × Piece → ℕ → Bool
is_start_there p place = (p.0 == place) && is_some (start_name (p.1).tokens)

-- the number of the first of some pieces that is so, where the first piece has a number
abbrev pub start_from : ℕ → List (ℕ × Piece) → ℕ → Option ℕ
start_from number [] place = None
start_from number (p ∷ ps) place =
    if is_start_there p place then Some number else start_from (suc number) ps place

-- the start tag of a page that begins at a byte, unless one at a later byte was asked for before
abbrev pub start_after : ℕ → List ℕ → ℕ → Option ℕ
start_after greatest page place =
    if nat_lt place greatest then None else start_from 0 (placed_pieces page) place

-- of some places, in order, those at which no start tag begins

abbrev pub unless_some : Option ℕ → ℕ → List ℕ
unless_some start place = if is_some start then [] else place ∷ []

abbrev pub unstarted_from : ℕ → List ℕ → List ℕ → List ℕ
unstarted_from greatest page [] = []
unstarted_from greatest page (place ∷ places) =
    unless_some (start_after greatest page place) place
    ++ unstarted_from (max greatest place) page places

abbrev pub unstarted_in : List ℕ → List ℕ → List ℕ
unstarted_in page places = unstarted_from 0 page places

-- of some patches, in order, why each is refused by itself

-- a patch that asks for nothing can't be meant
abbrev pub unmeant : ℕ → Option (List (Splice Put)) → Option EditError
unmeant place None = Some (NotMeant place)
unmeant place (Some asks) = None

-- why a patch is refused of the element of this start tag, unless that goes with another one
abbrev pub refusal_of : List ℕ → Gone → ℕ × Patch → Option ℕ → Option EditError
refusal_of page gone p None = Some (NoStartTag p.0)
refusal_of page gone p (Some number) =
    if is_gone gone number then None else unmeant p.0 (asked_of (pieces_in page) number p.1)

abbrev pub gone_if : Patch → ℕ → Option (List (Splice Put)) → Gone → Gone
gone_if patch number None gone = gone
gone_if patch number (Some asks) gone = gone_after patch number asks gone

-- what is taken away last, after a patch of this element
abbrev pub gone_with : List ℕ → Gone → ℕ × Patch → Option ℕ → Gone
gone_with page gone p None = gone
gone_with page gone p (Some number) =
    if is_gone gone number then gone
    else gone_if p.1 number (asked_of (pieces_in page) number p.1) gone

abbrev pub refused_from : ℕ → Gone → List ℕ → List (ℕ × Patch) → List EditError
refused_from greatest gone page [] = []
refused_from greatest gone page (p ∷ patches) =
    option_to_list (refusal_of page gone p (start_after greatest page p.0))
    ++ refused_from (max greatest p.0) (gone_with page gone p (start_after greatest page p.0)) page
    patches

abbrev pub refused_apart : List ℕ → List (ℕ × Patch) → List EditError
refused_apart page patches = refused_from 0 none_gone page patches
