-- The tokenizer as tree construction drives it: after a start tag it goes on in the state that the
-- tag's rule sets, which is another one than its name's where the tag is dropped or stands in `svg`
-- or `math`; where the adjusted current node is no HTML element `<![CDATA[` begins a CDATA section
-- (13.2.5.42, .69 to .71); and a doctype has its parts (13.2.5.53 to .68).
--
-- What tree construction is, is no matter here: a driver takes tokens and answers two questions.
use Rattle.std.specs.List.{starts_with}
use Rattle.std.specs.Prelude.{◌≡◌, Bool, List, None, Option, Some, [], codes, false, flat_map, if◌then◌else◌, map, option_map, true, ℕ, ⊤, ◌&&◌, ◌++◌, ◌==◌, ◌∷◌}
use Rattle.std.specs.Str.{bytes_eq}
use Rattle.tl_html_spec.specs.HtmlTokenizer.{Character, DoctypeToken, HtmlToken, StartTag, State, Step, after_start, at_end, bogus_comment, CommentToken, data_state, doctype, markup_declaration_open, whole_step}
use Rattle.tl_html_spec.specs.Doctypes.{Doctype, Doctyping, doctype_cut, doctype_ended, doctype_step, no_doctype}
use Rattle.tl_html_spec.specs.Reader.{Rest, feed, rest_within}
use Rattle.tl_html_spec.specs.Pieces.{first_byte}

-- a token, of a doctype with its parts
pub data Emission : Type 0 where
  plain : HtmlToken → Emission
  doctype_of : Doctype → Emission

-- without these parts
abbrev pub bare : Emission → HtmlToken
bare (plain token) = token
bare (doctype_of d) = DoctypeToken

abbrev pub characters : List ℕ → List Emission
characters bytes = map (λ c. plain (Character c)) bytes

-- tree construction, as far as the tokenizer has to do with it: what it remembers
pub record Driver (Memory : Type 0) : Type 0 where
  pub take : Memory → Emission → Memory
  -- the state that the last token set, where that is a start tag
  pub sets : Memory → State
  -- whether the adjusted current node is no HTML element
  pub is_foreign : Memory → Bool

abbrev pub taken : {M : Type 0} → Driver M → M → List Emission → M
taken d memory [] = memory
taken d memory (e ∷ emissions) = taken d (d.take memory e) emissions

-- the states, with those that the tokenizer by itself doesn't have
pub data DrivenState : Type 0 where
  in_state : State → DrivenState
  -- 13.2.5.42, with what was read of `[CDATA[`
  cdata_start : List ℕ → DrivenState
  -- 13.2.5.69
  cdata_section : DrivenState
  -- 13.2.5.70
  cdata_section_bracket : DrivenState
  -- 13.2.5.71
  cdata_section_end : DrivenState
  -- 13.2.5.53 to .68
  in_doctype : Doctyping → DrivenState

abbrev pub entered : State → DrivenState
entered doctype = in_doctype no_doctype
entered state = in_state state

-- what a byte does
pub record DrivenStep : Type 0 where
  pub next : DrivenState
  pub emits : List Emission

abbrev pub of_step : Step → DrivenStep
of_step s = record { next = entered s.next; emits = map plain s.emits }

abbrev pub going : DrivenState → List ℕ → DrivenStep
going next bytes = record { next = next; emits = characters bytes }

-- whether a byte is a `[` right after `<!`
abbrev pub opens_cdata : State → ℕ → Bool
opens_cdata (markup_declaration_open []) c = c == 91
opens_cdata _ c = false

-- in foreign content or not
abbrev pub driven_step : Bool → DrivenState → ℕ → DrivenStep
driven_step is_foreign (in_state state) c =
    if is_foreign && opens_cdata state c then going (cdata_start (c ∷ [])) []
    else of_step (whole_step state c)
driven_step is_foreign (cdata_start buffer) c =
    if bytes_eq (buffer ++ c ∷ []) (codes "[CDATA[") then going cdata_section []
    else if starts_with ◌==◌ (codes "[CDATA[") (buffer ++ c ∷ [])
    then going (cdata_start (buffer ++ c ∷ [])) []
    else of_step (whole_step (bogus_comment buffer) c)
driven_step is_foreign cdata_section c =
    if c == 93 then going cdata_section_bracket [] else going cdata_section (c ∷ [])
driven_step is_foreign cdata_section_bracket c =
    if c == 93 then going cdata_section_end [] else going cdata_section (93 ∷ c ∷ [])
driven_step is_foreign cdata_section_end c =
    if c == 93 then going cdata_section_end (93 ∷ [])
    else if c == 62 then going (in_state data_state) []
    else going cdata_section (93 ∷ 93 ∷ c ∷ [])
driven_step is_foreign (in_doctype d) c =
    if c == 62
    then record { next = in_state data_state; emits = doctype_of (doctype_ended d) ∷ [] }
    else going (in_doctype (doctype_step d.part d c)) []

-- what the end of the page emits
abbrev pub driven_end : DrivenState → List Emission
driven_end (in_state state) = map plain (at_end state)
driven_end (cdata_start buffer) = plain (CommentToken buffer) ∷ []
driven_end cdata_section = []
driven_end cdata_section_bracket = characters (93 ∷ [])
driven_end cdata_section_end = characters (93 ∷ 93 ∷ [])
driven_end (in_doctype d) = doctype_of (doctype_cut d) ∷ []

-- a start tag is always the last of what a byte emits
abbrev pub ends_with_start : List Emission → Bool
ends_with_start [] = false
ends_with_start (plain (StartTag name attributes closes) ∷ []) = true
ends_with_start (e ∷ []) = false
ends_with_start (e ∷ f ∷ emissions) = ends_with_start (f ∷ emissions)

-- the state after what a byte emitted, which was taken
abbrev pub state_after : {M : Type 0} → Driver M → M → DrivenStep → DrivenState
state_after d memory x = if ends_with_start x.emits then in_state (d.sets memory) else x.next

-- what the driver remembers after a text, and its end
abbrev pub driven : {M : Type 0} → Driver M → M → DrivenState → List ℕ → M
driven d memory state [] = taken d memory (driven_end state)
driven d memory state (c ∷ text) =
    let x = driven_step (d.is_foreign memory) state c in
    let after = taken d memory x.emits in
    driven d after (state_after d after x) text

-- The driver that goes by the names of start tags, as the tokenizer by itself does: it remembers
-- the tokens, and the state that the last of them sets.

pub record Named : Type 0 where
  pub tokens : List HtmlToken
  pub sets : State

abbrev pub set_by : HtmlToken → State
set_by (StartTag name attributes closes) = after_start name
set_by token = data_state

abbrev pub by_name : Driver Named
by_name = record {
  take = λ m e. record { tokens = m.tokens ++ bare e ∷ []; sets = set_by (bare e) };
  sets = λ m. m.sets;
  is_foreign = λ m. false;
}

abbrev pub no_tokens : Named
no_tokens = record { tokens = []; sets = data_state }

-- where a driver goes by names: the state that it sets after a start tag is its name's
abbrev pub SetsByName : {M : Type 0} → Driver M → M → HtmlToken → Type 0
SetsByName d memory (StartTag name attributes closes) = d.sets memory ≡ after_start name
SetsByName d memory token = ⊤

-- after each of these tokens, and nothing is foreign
abbrev pub GoesByName : {M : Type 0} → Driver M → M → List Emission → Type 0
GoesByName d memory [] = d.is_foreign memory ≡ false
GoesByName d memory (e ∷ emissions) =
    (d.is_foreign memory ≡ false) × SetsByName d (d.take memory e) (bare e)
    × GoesByName d (d.take memory e) emissions

-- Over the bytes of a page as they stand, one after the other, as `Reader` has it.

-- what the driver remembers, a state, and whether a carriage return stands right before
pub record Driving (Memory : Type 0) : Type 0 where
  pub memory : Memory
  pub state : DrivenState
  pub after_return : Bool

abbrev pub driving : {M : Type 0} → M → DrivenState → Driving M
driving memory state = record { memory = memory; state = state; after_return = false }

abbrev pub byte_driven : Bool → Bool → DrivenState → ℕ → DrivenStep
byte_driven true is_foreign state b = record { next = state; emits = [] }
byte_driven false is_foreign state b = driven_step is_foreign state (feed b)

abbrev pub passes : {M : Type 0} → Driving M → ℕ → Bool
passes v b = v.after_return && (b == 10)

unfoldable pub drive : {M : Type 0} → Driver M → Driving M → ℕ → DrivenStep
drive d v b = byte_driven (passes v b) (d.is_foreign v.memory) v.state b

abbrev pub moved : {M : Type 0} → Driver M → M → DrivenStep → ℕ → Driving M
moved d memory x b = record {
  memory = memory;
  state = state_after d memory x;
  after_return = b == 13;
}

-- after a byte
abbrev pub next_driven : {M : Type 0} → Driver M → Driving M → ℕ → Driving M
next_driven d v b = moved d (taken d v.memory (drive d v b).emits) (drive d v b) b

-- after a text
abbrev pub after_driven : {M : Type 0} → Driver M → Driving M → List ℕ → Driving M
after_driven d v [] = v
after_driven d v (b ∷ text) = after_driven d (next_driven d v b) text

-- what a text emits, and may leave something pending
abbrev pub driven_emits : {M : Type 0} → Driver M → Driving M → List ℕ → List Emission
driven_emits d v [] = []
driven_emits d v (b ∷ text) = (drive d v b).emits ++ driven_emits d (next_driven d v b) text

-- the tokens of a text that ends there
abbrev pub driven_tokens : {M : Type 0} → Driver M → Driving M → List ℕ → List Emission
driven_tokens d v [] = driven_end v.state
driven_tokens d v (b ∷ text) = (drive d v b).emits ++ driven_tokens d (next_driven d v b) text

-- Where a text is cut.

-- a state of rest, and what was emitted before it
pub record DrivenRest : Type 0 where
  pub state : DrivenState
  pub emits : List Emission

abbrev pub resting_in : DrivenState → List ℕ → Option DrivenRest
resting_in state bytes = Some (record { state = state; emits = characters bytes })

abbrev pub of_rest : Rest → DrivenRest
of_rest r = record { state = in_state r.state; emits = map plain r.emits }

-- where a byte finds the machine at rest: nothing is withheld, no token is begun
abbrev pub driven_rest : DrivenState → ℕ → Option DrivenRest
driven_rest (in_state state) b = option_map of_rest (rest_within 2 state b)
driven_rest cdata_section b = resting_in cdata_section []
driven_rest cdata_section_bracket b = if b == 93 then None else resting_in cdata_section (93 ∷ [])
driven_rest cdata_section_end b =
    if (b == 93) then None else if b == 62 then None else resting_in cdata_section (93 ∷ 93 ∷ [])
driven_rest _ b = None

abbrev pub driven_rest_if : Bool → DrivenState → ℕ → Option DrivenRest
driven_rest_if true state b = None
driven_rest_if false state b = driven_rest state (feed b)

unfoldable pub driven_rest_before : {M : Type 0} → Driving M → ℕ → Option DrivenRest
driven_rest_before v b = driven_rest_if (passes v b) v.state b

-- a tag, a comment, a doctype, a character, or what is dropped: the state of rest before it, what
-- the driver remembers there, its bytes, its tokens
pub record DrivenPiece (Memory : Type 0) : Type 0 where
  pub memory : Memory
  pub rest : DrivenState
  pub bytes : List ℕ
  pub tokens : List Emission

abbrev pub driven_bytes : {M : Type 0} → List (DrivenPiece M) → List ℕ
driven_bytes ps = flat_map (λ (p : DrivenPiece _). p.bytes) ps

abbrev pub tokens_driven : {M : Type 0} → List (DrivenPiece M) → List Emission
tokens_driven ps = flat_map (λ (p : DrivenPiece _). p.tokens) ps

-- a piece that begins where the first reader stands
abbrev pub driven_piece
    : {M : Type 0} → Driving M → List ℕ → List Emission → DrivenPiece M
driven_piece v bytes tokens = record {
  memory = v.memory;
  rest = v.state;
  bytes = bytes;
  tokens = tokens;
}

-- how the reader stands where a piece begins, with what is pending taken
abbrev pub rested : {M : Type 0} → Driver M → M → DrivenRest → Driving M
rested d memory rest = driving (taken d memory rest.emits) rest.state

-- the pieces of a text, of which the first begins there, and has these bytes and tokens already
abbrev pub driven_pieces_from
    : {M : Type 0} → Driver M → Driving M → Driving M → List ℕ → List Emission → List ℕ
    → List (DrivenPiece M)
driven_pieces_from {M = M} d start v bytes tokens [] =
    driven_piece start bytes (tokens ++ driven_end v.state) ∷ []
driven_pieces_from {M = M} d start v bytes tokens (b ∷ text) =
    elim (driven_rest_before v b) as (λ _. List (DrivenPiece M)) [
      | None ↦ (
          driven_pieces_from d start (next_driven d v b) (bytes ++ b ∷ [])
          (tokens ++ (drive d v b).emits) text)
      | Some rest ↦ (
          driven_piece start bytes (tokens ++ rest.emits)
          ∷ driven_pieces_from d (rested d v.memory rest)
          (next_driven d (rested d v.memory rest) b) (b ∷ [])
          (drive d (rested d v.memory rest) b).emits text)
    ]

-- the pieces of a text from a state of rest
abbrev pub driven_pieces
    : {M : Type 0} → Driver M → Driving M → List ℕ → List (DrivenPiece M)
driven_pieces d start [] = []
driven_pieces d start (b ∷ text) =
    driven_pieces_from d start (next_driven d start b) (b ∷ []) (drive d start b).emits text

-- what a text emits from there, with what is pending, before a byte that finds the machine at rest
abbrev pub driven_before
    : {M : Type 0} → Driver M → Driving M → List ℕ → Option ℕ → Option DrivenRest
driven_before d start text None = None
driven_before d start text (Some b) =
    option_map (λ (rest : DrivenRest). record {
      state = rest.state;
      emits = driven_emits d start text ++ rest.emits;
    }) (driven_rest_before (after_driven d start text) b)

-- each piece stands for its tokens where it stands: what the driver remembers there, and the state
-- of rest, are what the piece before leaves
abbrev pub AreDriven
    : {M : Type 0} → Driver M → Driving M → List (DrivenPiece M) → Type 0
AreDriven d start [] = ⊤
AreDriven d start (p ∷ []) =
    (driving p.memory p.rest ≡ start) × (p.tokens ≡ driven_tokens d start p.bytes)
AreDriven d start (p ∷ q ∷ more) =
    (rest : DrivenRest) × (driving p.memory p.rest ≡ start)
    × (driven_before d start p.bytes (first_byte q.bytes) ≡ Some rest) × (p.tokens ≡ rest.emits)
    × AreDriven d (rested d start.memory rest) (q ∷ more)
