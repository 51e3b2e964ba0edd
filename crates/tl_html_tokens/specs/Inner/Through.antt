-- The stages of a tag that bytes lead to one after the other.
use Rattle.std.specs.Prelude.{ℕ, Bool, ◌||◌, ◌==◌, List, [], ◌∷◌, Option, Some, None, if◌then◌else◌}
use Rattle.tl_html_tokens.specs.Inner.Machine.{turn}
use Rattle.tl_html_tokens.specs.Inner.Stages.{has_word}
use Rattle.tl_html_tokens.specs.declared.stage.Stage.{Stage}
use Rattle.tl_html_tokens.specs.declared.stage.Turn.{Turn}
use Rattle.tl_html_tokens.specs.declared.stage.Turn.TheVariants.{Goes, Ends}

abbrev pub goes_on : (Stage → Option Stage) → Turn → Option Stage
goes_on next (Goes stage) = next stage
goes_on next (Ends kind mode) = None

-- the stage after these bytes; none where the piece ends, a word is read or a carriage return comes
abbrev pub through : Stage → List ℕ → Option Stage
through stage [] = Some stage
through stage (b ∷ bytes) =
    if has_word stage || (b == 13) then None
    else goes_on (λ next. through next bytes) (turn stage [] b)
