-- Step lines by cases, one for each form, in the words of bytes.
use Rattle.std.specs.Prelude.{ℕ, ◌+◌, ◌*◌, ◌≤◌, ◌≢◌, List, [], ◌∷◌, ◌++◌, All, codes}
use Rattle.std.specs.Str.{byte}
use Rattle.tl_spec.specs.Lex.ByteClass.{space, line_feed, largest_u32}
use Rattle.tl_spec.specs.Edit.{Change, Names, Texts, Comments, Sets, Flags, Unsets, Bares, Pushes, Pulls, Roots}

-- one or more ASCII digits, and the number that they write
pub data DigitsSay : List ℕ → ℕ → Type 0 where
  one_digit : {d : ℕ} → d ≤ 9 → DigitsSay ((byte "0" + d) ∷ []) d
  one_more : {digits : List ℕ} {n d : ℕ} → DigitsSay digits n → d ≤ 9 →
      DigitsSay (digits ++ (byte "0" + d) ∷ []) (10 * n + d)

-- digits of a number that is not too large
abbrev pub IsNumber : List ℕ → ℕ → Type 0
IsNumber digits n = DigitsSay digits n × (n ≤ largest_u32)

-- a number, and all that stands after its space, which is empty where nothing does
pub data NumberThenText : List ℕ → ℕ → List ℕ → Type 0 where
  number_alone : {digits : List ℕ} {n : ℕ} → IsNumber digits n → NumberThenText digits n []
  number_and_text : {digits text : List ℕ} {n : ℕ} → IsNumber digits n →
      NumberThenText (digits ++ space ∷ text) n text

-- two numbers with a space between them
pub data TwoNumbers : List ℕ → ℕ → ℕ → Type 0 where
  two_numbers : {digits more : List ℕ} {n m : ℕ} → IsNumber digits n → IsNumber more m →
      TwoNumbers (digits ++ space ∷ more) n m

-- a key without a space, and all that stands after its space, which is empty where nothing does
pub data KeyThenValue : List ℕ → List ℕ → List ℕ → Type 0 where
  key_alone : {key : List ℕ} → All (λ b. b ≢ space) key → KeyThenValue key key []
  key_and_value : {key value : List ℕ} → All (λ b. b ≢ space) key →
      KeyThenValue (key ++ space ∷ value) key value

-- a line, and the edit that it says
pub data LineSays : List ℕ → Change → Type 0 where
  name_line : {rest name : List ℕ} {n : ℕ} → NumberThenText rest n name →
      LineSays (codes "name " ++ rest) (Names n name)
  text_line : {rest text : List ℕ} {n : ℕ} → NumberThenText rest n text →
      LineSays (codes "text " ++ rest) (Texts n text)
  comment_line : {rest text : List ℕ} {n : ℕ} → NumberThenText rest n text →
      LineSays (codes "comment " ++ rest) (Comments n text)
  set_line : {rest text key value : List ℕ} {n : ℕ} → NumberThenText rest n text →
      KeyThenValue text key value →
      LineSays (codes "set " ++ rest) (Sets n key value)
  flag_line : {rest key : List ℕ} {n : ℕ} → NumberThenText rest n key →
      LineSays (codes "flag " ++ rest) (Flags n key)
  unset_line : {rest key : List ℕ} {n : ℕ} → NumberThenText rest n key →
      LineSays (codes "unset " ++ rest) (Unsets n key)
  bare_line : {rest key : List ℕ} {n : ℕ} → NumberThenText rest n key →
      LineSays (codes "bare " ++ rest) (Bares n key)
  push_line : {rest : List ℕ} {n h : ℕ} → TwoNumbers rest n h →
      LineSays (codes "push " ++ rest) (Pushes n h)
  pull_line : {rest : List ℕ} {n i : ℕ} → TwoNumbers rest n i →
      LineSays (codes "pull " ++ rest) (Pulls n i)
  root_line : {rest : List ℕ} {i h : ℕ} → TwoNumbers rest i h →
      LineSays (codes "root " ++ rest) (Roots i h)

-- a text, and what its lines say in order: a line ends at a line feed or at the end, and an empty
-- one says nothing
pub data TextSays : List ℕ → List Change → Type 0 where
  no_line : TextSays [] []
  last_line : {line : List ℕ} {c : Change} → All (λ b. b ≢ line_feed) line → LineSays line c →
      TextSays line (c ∷ [])
  empty_line : {text : List ℕ} {cs : List Change} → TextSays text cs →
      TextSays (line_feed ∷ text) cs
  next_line : {line text : List ℕ} {c : Change} {cs : List Change} →
      All (λ b. b ≢ line_feed) line → LineSays line c → TextSays text cs →
      TextSays (line ++ line_feed ∷ text) (c ∷ cs)
