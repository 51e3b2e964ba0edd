-- The tokenizer over the bytes of a page as they stand, one after the other: the definition of
-- tokens is a fold over its states, and only its end and what stands before it (13.2.3.5) are no
-- part of the fold.
use Rattle.std.specs.Prelude.{ℕ, zero, suc, Bool, true, false, ◌&&◌, ◌==◌, List, [], ◌∷◌, ◌++◌, Option, Some, None, option_map, if◌then◌else◌}
use Rattle.tl_html_spec.specs.HtmlTokenizer.{HtmlToken, State, Step, data_state, raw, plaintext, to, step, whole_step, at_end, without_mark}

-- a state, and whether a carriage return stands right before
pub record Reader : Type 0 where
  pub state : State
  pub after_return : Bool

-- a reader with nothing before it that matters
abbrev pub at : State → Reader
at state = record { state = state; after_return = false }

-- a carriage return is a line feed
abbrev pub feed : ℕ → ℕ
feed b = if b == 13 then 10 else b

-- a line feed right after a carriage return is passed over
abbrev pub is_passed : Reader → ℕ → Bool
is_passed r b = r.after_return && (b == 10)

abbrev pub byte_step : Bool → State → ℕ → Step
byte_step true state b = to state
byte_step false state b = whole_step state (feed b)

unfoldable pub read : Reader → ℕ → Step
read r b = byte_step (is_passed r b) r.state b

-- the reader after a byte
abbrev pub next : Reader → ℕ → Reader
next r b = record { state = (read r b).next; after_return = b == 13 }

-- the reader after a text
abbrev pub after : Reader → List ℕ → Reader
after r [] = r
after r (b ∷ text) = after (next r b) text

-- what a text emits, and may leave something pending
abbrev pub emitted : Reader → List ℕ → List HtmlToken
emitted r [] = []
emitted r (b ∷ text) = (read r b).emits ++ emitted (next r b) text

-- the tokens of a text that ends there
abbrev pub tokens_of : Reader → List ℕ → List HtmlToken
tokens_of r [] = at_end r.state
tokens_of r (b ∷ text) = (read r b).emits ++ tokens_of (next r b) text

-- the tokens of a page
abbrev pub page_tokens : List ℕ → List HtmlToken
page_tokens page = tokens_of (at data_state) (without_mark page)

-- the states of rest: nothing is withheld, no token is begun
abbrev pub is_at_rest : State → Bool
is_at_rest data_state = true
is_at_rest (raw r) = true
is_at_rest plaintext = true
is_at_rest _ = false

-- a state of rest, and what was emitted before it
pub record Rest : Type 0 where
  pub state : State
  pub emits : List HtmlToken

abbrev pub resting : State → Rest
resting state = record { state = state; emits = [] }

abbrev pub emitting_before : List HtmlToken → Rest → Rest
emitting_before tokens rest = record { state = rest.state; emits = tokens ++ rest.emits }

-- where a byte finds the machine at rest, itself or after so many reconsumes
abbrev pub rest_within : ℕ → State → ℕ → Option Rest
rest_within zero state b = if is_at_rest state then Some (resting state) else None
rest_within (suc n) state b =
    if is_at_rest state then Some (resting state)
    else if (step state b).again then option_map (emitting_before (step state b).emits)
    (rest_within n (step state b).next b)
    else None

abbrev pub rest_if : Bool → State → ℕ → Option Rest
rest_if true state b = None
rest_if false state b = rest_within 2 state (feed b)

-- what is pending is emitted before this byte, and the machine is at rest there
unfoldable pub rest_before : Reader → ℕ → Option Rest
rest_before r b = rest_if (is_passed r b) r.state b
