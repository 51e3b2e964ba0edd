-- How reading stands where a piece ends.
use Rattle.std.specs.Prelude.{◌≡◌, ◌⊎◌, ℕ, Bool, false, ◌||◌, List, [], ◌∷◌, ◌++◌, Some, ⊤}
use Rattle.tl_html_spec.specs.HtmlTokenizer.{HtmlToken, StartTag, State, at_end, data_state}
use Rattle.tl_html_spec.specs.Reader.{Reader, after, at, emitted, feed, next, read, rest_before}
use Rattle.tl_html_spec.specs.Driven.{opens_cdata}

-- what is pending before a byte that finds the machine at rest in a state, or at the end
abbrev pub Pends : Reader → List ℕ → State → List HtmlToken → Type 0
Pends r [] state tokens = tokens ≡ at_end r.state
Pends r (b ∷ text) state tokens =
    rest_before r b ≡ Some (record { state = state; emits = tokens })

-- whether a `[` comes right after `<!`
abbrev pub opens : Reader → List ℕ → Bool
opens r [] = false
opens r (b ∷ text) = opens_cdata r.state (feed b) || opens (next r b) text

-- at the front of the bytes and nowhere else
abbrev pub OpensFirst : State → List ℕ → Type 0
OpensFirst state bytes =
    (text : List ℕ) × (state ≡ data_state) × (bytes ≡ 60 ∷ 33 ∷ 91 ∷ text)
    × (opens (after (at data_state) (60 ∷ 33 ∷ 91 ∷ [])) text ≡ false)

abbrev pub OpensAtMostFirst : State → List ℕ → Type 0
OpensAtMostFirst state bytes = (opens (at state) bytes ≡ false) ⊎ OpensFirst state bytes

-- no token is a start tag
abbrev pub NoStart : List HtmlToken → Type 0
NoStart [] = ⊤
NoStart (StartTag name attributes closes ∷ tokens) = ⊥
NoStart (token ∷ tokens) = NoStart tokens

-- a start tag comes with the last byte alone
abbrev pub StartsLast : Reader → List ℕ → Type 0
StartsLast r [] = ⊤
StartsLast r (b ∷ []) = ⊤
StartsLast r (b ∷ c ∷ text) = NoStart (read r b).emits × StartsLast (next r b) (c ∷ text)

-- what bytes emit from a state of rest before what follows them, and the state of rest there
pub record StandsFor (state : State) (bytes rest : List ℕ) (next : State) (tokens : List HtmlToken)
    : Type 0 where
  pub pending : List HtmlToken
  pub told : tokens ≡ emitted (at state) bytes ++ pending
  pub ends : Pends (after (at state) bytes) rest next pending
  pub opens_first : OpensAtMostFirst state bytes
  pub starts_last : StartsLast (at state) bytes
