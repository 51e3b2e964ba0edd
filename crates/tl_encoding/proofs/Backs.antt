-- What is encoded is decoded as it was, and the other way round.
use Rattle.std.proofs.Common.{◌≡◌, ◌∙◌, ℕ, ◌+◌, ◌-◌, ◌<◌, ◌≤◌, true, false, ◌==◌, List, [], ◌∷◌, ◌++◌, Option, Some, None, ap, arith, encode_utf8, encode_utf8_all, flat_map, true≢false, get_or, inl, inr, map, nat_le, nat_lt, refl, suc, sym}
use Rattle.std.proofs.Math.Utf8.{scalar, scalars}
use Rattle.std.proofs.lemmas.Bool.{and_from, and_parts, cases_Bool, le-leb, le-ltb, leb-true, lt-ltb, ltb-false, ltb-true}
use Rattle.std.proofs.lemmas.Option.{none-some, same_Some}
use Rattle.std.proofs.lemmas.Str.{chars-encodes, encode_ascii, encodes-chars}
use Rattle.std.specs.Char.{is_ascii}
use Rattle.std.specs.Int.{is_in_range}
use Rattle.std.specs.Prelude.{IsUtf8}
use Rattle.std.specs.Str.{chars}
use Rattle.tl_encoding.specs.Decoders.{decoded, index_wrong, user_defined, wrong_in}
use Rattle.tl_encoding.specs.Encoders.{alone, appended, ascii_byte, encoded, encoded_point, has_encoder, index_byte, user_byte}
use Rattle.tl_encoding.specs.MultiByte.{multi_byte, multi_byte_wrong}
use Rattle.tl_encoding.specs.SingleByte.{index, of_index}
use Rattle.tl_encoding.specs.declared.encoding.ByteOrder.{ByteOrder}
use Rattle.tl_encoding.specs.declared.multi_byte.Held.TheVariants.{Nothing}
use Rattle.tl_encoding.specs.declared.multi_byte.MultiByte.{MultiByte as MultiName}
use Rattle.tl_encoding.specs.declared.encoding.Encoding.{Encoding}
use Rattle.tl_encoding.specs.declared.encoding.Encoding.TheVariants.{Utf8, Utf16, SingleByte, MultiByte, Iso2022Jp, UserDefined, Replacement}
use Rattle.tl_encoding.specs.declared.single_byte.SingleByte.{SingleByte as SingleName}
use Rattle.tl_encoding.proofs.Fronts.{ascii_first, ascii_right}
use Rattle.tl_encoding.proofs.Pointers.{byte_back, char_back, char_right, char_scalar}
use Rattle.tl_encoding.proofs.Replaced.{of_text}
use Rattle.tl_encoding.proofs.Tables.{good}
use Rattle.tl_encoding.proofs.Units.{utf_16_right, utf_16_text_back}
use Rattle.tl_encoding.proofs.Wellformed.{utf_16_points}

-- a page of single bytes is encoded as it was
single_points : (name : SingleName) (at : ℕ) (page : List ℕ) → ((k : ℕ) → get_or page k 0 < 256) → index_wrong (index name) at page ≡ None
    → (encoded (SingleByte name) (map (of_index (index name)) page) ≡ Some page) × (scalars (map (of_index (index name)) page) ≡ true)
single_points name at [] small right = (refl, refl)
single_points name at (b ∷ s) small right = elim (cases_Bool (of_index (index name) b == 0xFFFD)) [
  | inl y ↦ absurd (none-some at (sym (rw y at right)))
  | inr n ↦
      let rest = single_points name (at + 1) s (λ k. small (suc k)) (rw n at right) in (
        rw (byte_back (index name) b (good name).0 (good name).1 (small 0) n, rest.0) refl,
        and_from _ _ (char_scalar (index name) b (good name).0 (good name).1 (small 0) n) rest.1,
      )
]

single_text : (table page : List ℕ) → flat_map (λ b. encode_utf8 (of_index table b)) page ≡ encode_utf8_all (map (of_index table) page)
single_text table [] = refl
single_text table (b ∷ s) = ap (λ t. encode_utf8 (of_index table b) ++ t) (single_text table s)

pub single_back : (name : SingleName) (page : List ℕ) → ((k : ℕ) → get_or page k 0 < 256) → wrong_in (SingleByte name) page ≡ None
    → encoded (SingleByte name) (chars (decoded (SingleByte name) page)) ≡ Some page
single_back name page small right =
    let points = single_points name 0 page small right in
    ap (λ t. encoded (SingleByte name) (chars t)) (single_text (index name) page)
    ∙ ap (encoded (SingleByte name)) (chars-encodes (map (of_index (index name)) page) points.1) ∙ points.0

-- characters with one byte each
split : (own : Option ℕ) (rest : Option (List ℕ)) (bytes : List ℕ) → appended (alone own) rest ≡ Some bytes
    → (b : ℕ) × ((s : List ℕ) × ((own ≡ Some b) × (rest ≡ Some s) × (b ∷ s ≡ bytes)))
split None rest bytes e = absurd (none-some bytes e)
split (Some b) None bytes e = absurd (none-some bytes e)
split (Some b) (Some s) bytes e = (b, (s, (refl, refl, same_Some _ _ e)))

read_back : (e : Encoding) (one : ℕ → Option ℕ) (read : List ℕ → List ℕ) → ((p : ℕ) → encoded_point e p ≡ alone (one p))
    → ((p b : ℕ) (s : List ℕ) → one p ≡ Some b → read (b ∷ s) ≡ encode_utf8 p ++ read s) → read [] ≡ []
    → (points bytes : List ℕ) → encoded e points ≡ Some bytes → read bytes ≡ encode_utf8_all points
read_back e one read is_one reads ends [] bytes is = ap read (sym (same_Some _ _ is)) ∙ ends
read_back e one read is_one reads ends (p ∷ points) bytes is =
    let own = split (one p) (encoded e points) bytes (sym (ap (λ o. appended o (encoded e points)) (is_one p)) ∙ is) in
    ap read (sym own.1.1.2) ∙ reads p own.0 own.1.0 own.1.1.0 ∙ ap (λ t. encode_utf8 p ++ t) (read_back e one read is_one reads ends points own.1.0 own.1.1.1)

pub single_text_back : (name : SingleName) (points bytes : List ℕ) → encoded (SingleByte name) points ≡ Some bytes
    → decoded (SingleByte name) bytes ≡ encode_utf8_all points
single_text_back name points bytes is =
    read_back (SingleByte name) (index_byte (index name)) (λ s. flat_map (λ b. encode_utf8 (of_index (index name) b)) s) (λ p. refl)
    (λ p b s found. ap (λ c. encode_utf8 c ++ flat_map (λ b. encode_utf8 (of_index (index name) b)) s) (char_back (index name) p b found)) refl points bytes is

pub single_right : (name : SingleName) (at : ℕ) (points bytes : List ℕ) → encoded (SingleByte name) points ≡ Some bytes → index_wrong (index name) at bytes ≡ None
single_right name at [] bytes is = rw (sym (same_Some _ _ is)) refl
single_right name at (p ∷ points) bytes is =
    let own = split (index_byte (index name) p) (encoded (SingleByte name) points) bytes is in
    let same = char_back (index name) p own.0 own.1.1.0 in
    let right : (of_index (index name) own.0 == 0xFFFD) ≡ false = rw same (char_right (index name) p own.0 own.1.1.0) in
    rw (sym own.1.1.2, right) (single_right name (at + 1) points own.1.0 own.1.1.1)

-- UTF-8, whose bytes are those of the text
utf_8_all : (points : List ℕ) → encoded Utf8 points ≡ Some (encode_utf8_all points)
utf_8_all [] = refl
utf_8_all (p ∷ points) = rw (utf_8_all points) refl

pub utf_8_back : (page : List ℕ) → IsUtf8 page → encoded Utf8 (chars (decoded Utf8 page)) ≡ Some page
utf_8_back page text =
    ap (λ t. encoded Utf8 (chars t)) (of_text page text) ∙ utf_8_all (chars page) ∙ ap Some (encodes-chars page text)

-- x-user-defined
user_byte_back : (b : ℕ) → b < 256 → (user_byte (user_defined b) ≡ Some b) × (scalar (user_defined b) ≡ true)
user_byte_back b small = elim (cases_Bool (nat_lt b 0x80)) [
  | inl y ↦
      let low : nat_lt b 55296 ≡ true = lt-ltb b 55296 (omega (arith, ltb-true b 0x80 y)) in
      (rw (y, y) refl, rw (y, low) refl)
  | inr n ↦
      let high : 0x80 ≤ b = ltb-false b 0x80 n in
      let p : ℕ = 0xF780 + (b - 0x80) in
      let past : nat_lt p 0x80 ≡ false = le-ltb p 0x80 (omega arith) in
      let from : nat_le 0xF780 p ≡ true = le-leb 0xF780 p (omega arith) in
      let to : nat_le p 0xF7FF ≡ true = le-leb p 0xF7FF (omega (arith, small, high)) in
      let e : p - 0xF780 + 0x80 ≡ b = omega (arith, high) in
      let above : nat_lt p 55296 ≡ false = le-ltb p 55296 (omega arith) in
      let private : nat_le 57344 p ≡ true = le-leb 57344 p (omega arith) in
      let within : nat_lt p 1114112 ≡ true = lt-ltb p 1114112 (omega (arith, small, high)) in
      (rw n (rw (past, from, to, e) refl), rw n (rw (above, private, within) refl))
]

user_points : (page : List ℕ) → ((k : ℕ) → get_or page k 0 < 256)
    → (encoded UserDefined (map user_defined page) ≡ Some page) × (scalars (map user_defined page) ≡ true)
user_points [] small = (refl, refl)
user_points (b ∷ s) small =
    let own = user_byte_back b (small 0) in
    let rest = user_points s (λ k. small (suc k)) in
    (rw (own.0, rest.0) refl, and_from _ _ own.1 rest.1)

user_text : (page : List ℕ) → flat_map (λ b. encode_utf8 (user_defined b)) page ≡ encode_utf8_all (map user_defined page)
user_text [] = refl
user_text (b ∷ s) = ap (λ t. encode_utf8 (user_defined b) ++ t) (user_text s)

pub user_back : (page : List ℕ) → ((k : ℕ) → get_or page k 0 < 256) → encoded UserDefined (chars (decoded UserDefined page)) ≡ Some page
user_back page small =
    let points = user_points page small in
    ap (λ t. encoded UserDefined (chars t)) (user_text page)
    ∙ ap (encoded UserDefined) (chars-encodes (map user_defined page) points.1) ∙ points.0

-- UTF-16
utf_16_back : (order : ByteOrder) (page : List ℕ) → ((k : ℕ) → get_or page k 0 < 256) → wrong_in (Utf16 order) page ≡ None
    → encoded (Utf16 order) (chars (decoded (Utf16 order) page)) ≡ Some page
utf_16_back order page small right =
    let own = utf_16_points order page small right in
    ap (λ t. encoded (Utf16 order) (chars t)) own.1.1 ∙ ap (encoded (Utf16 order)) (chars-encodes own.0 own.1.0) ∙ own.1.2

-- any page is encoded as it was
pub encoded_back : (e : Encoding) (page : List ℕ) → has_encoder e ≡ true → ((k : ℕ) → get_or page k 0 < 256) → wrong_in e page ≡ None
    → (e ≡ Utf8 → IsUtf8 page) → encoded e (chars (decoded e page)) ≡ Some page
encoded_back Utf8 page has small right text = utf_8_back page (text refl)
encoded_back (Utf16 order) page has small right text = utf_16_back order page small right
encoded_back (SingleByte name) page has small right text = single_back name page small right
encoded_back (MultiByte name) page has small right text = absurd (true≢false (sym has))
encoded_back Iso2022Jp page has small right text = absurd (true≢false (sym has))
encoded_back UserDefined page has small right text = user_back page small
encoded_back Replacement page has small right text = absurd (true≢false (sym has))

-- what is encoded in x-user-defined, and ASCII in encodings of several bytes, is read back
user_char_back : (p b : ℕ) → user_byte p ≡ Some b → user_defined b ≡ p
user_char_back p b found = elim (cases_Bool (nat_lt p 0x80)) [
  | inl y ↦ ap user_defined (sym (same_Some p b (rw y at found))) ∙ rw y refl
  | inr n ↦ elim (cases_Bool (is_in_range 0xF780 0xF7FF p)) [
    | inl w ↦
        let e : p - 0xF780 + 0x80 ≡ b = same_Some _ _ (rw (n, w) at found) in
        let from : 0xF780 ≤ p = leb-true 0xF780 p ((and_parts _ _ w).0) in
        let past : nat_lt b 0x80 ≡ false = le-ltb b 0x80 (omega (arith, e)) in
        rw past (omega (arith, e, from))
    | inr r ↦ absurd (none-some b (rw (n, r) at found))
  ]
]

user_text_back : (points bytes : List ℕ) → encoded UserDefined points ≡ Some bytes → decoded UserDefined bytes ≡ encode_utf8_all points
user_text_back points bytes is =
    read_back UserDefined user_byte (λ s. flat_map (λ b. encode_utf8 (user_defined b)) s) (λ p. refl)
    (λ p b s found. ap (λ c. encode_utf8 c ++ flat_map (λ b. encode_utf8 (user_defined b)) s) (user_char_back p b found)) refl points bytes is

ascii_found : (p b : ℕ) → ascii_byte p ≡ Some b → (p ≡ b) × (is_ascii b ≡ true)
ascii_found p b found = elim (cases_Bool (nat_lt p 0x80)) [
  | inl y ↦ let e : p ≡ b = same_Some p b (rw y at found) in (e, rw (sym e) y)
  | inr n ↦ absurd (none-some b (rw n at found))
]

multi_text_back : (name : MultiName) (points bytes : List ℕ) → encoded (MultiByte name) points ≡ Some bytes
    → decoded (MultiByte name) bytes ≡ encode_utf8_all points
multi_text_back name points bytes is =
    read_back (MultiByte name) ascii_byte (λ s. multi_byte name Nothing s) (λ p. refl)
    (λ p b s found.
    let own = ascii_found p b found in
    ascii_first name b s own.1 ∙ ap (λ t. t ++ multi_byte name Nothing s) (sym (encode_ascii b (ltb-true b 128 own.1)) ∙ ap encode_utf8 (sym own.0)))
    refl points bytes is

multi_right : (name : MultiName) (at : ℕ) (points bytes : List ℕ) → encoded (MultiByte name) points ≡ Some bytes → multi_byte_wrong name Nothing at bytes ≡ None
multi_right name at [] bytes is = ap (multi_byte_wrong name Nothing at) (sym (same_Some _ _ is))
multi_right name at (p ∷ points) bytes is =
    let own = split (ascii_byte p) (encoded (MultiByte name) points) bytes is in
    ap (multi_byte_wrong name Nothing at) (sym own.1.1.2) ∙ ascii_right name own.0 at own.1.0 ((ascii_found p own.0 own.1.1.0).1)
    ∙ multi_right name (at + 1) points own.1.0 own.1.1.1

-- an encoding that has no character has the empty text alone
nothing_but_nothing : (e : Encoding) → ((p : ℕ) → encoded_point e p ≡ None) → (read : List ℕ → List ℕ) → read [] ≡ []
    → (points bytes : List ℕ) → encoded e points ≡ Some bytes → read bytes ≡ encode_utf8_all points
nothing_but_nothing e none read ends [] bytes is = ap read (sym (same_Some _ _ is)) ∙ ends
nothing_but_nothing e none read ends (p ∷ points) bytes is = absurd (none-some bytes (sym (ap (λ o. appended o (encoded e points)) (none p)) ∙ is))

nothing_shown : (e : Encoding) → ((p : ℕ) → encoded_point e p ≡ None) → (wrong : List ℕ → Option ℕ) → wrong [] ≡ None
    → (points bytes : List ℕ) → encoded e points ≡ Some bytes → wrong bytes ≡ None
nothing_shown e none wrong ends [] bytes is = ap wrong (sym (same_Some _ _ is)) ∙ ends
nothing_shown e none wrong ends (p ∷ points) bytes is = absurd (none-some bytes (sym (ap (λ o. appended o (encoded e points)) (none p)) ∙ is))

-- what is encoded is read back, and nothing of it is wrong
pub read_as : (e : Encoding) (points bytes : List ℕ) → scalars points ≡ true → encoded e points ≡ Some bytes → decoded e bytes ≡ encode_utf8_all points
read_as Utf8 points bytes are is =
    let same : encode_utf8_all points ≡ bytes = same_Some _ _ (sym (utf_8_all points) ∙ is) in
    of_text bytes (points, (are, same)) ∙ sym same
read_as (Utf16 order) points bytes are is = utf_16_text_back order points bytes are is
read_as (SingleByte name) points bytes are is = single_text_back name points bytes is
read_as (MultiByte name) points bytes are is = multi_text_back name points bytes is
read_as Iso2022Jp points bytes are is = nothing_but_nothing Iso2022Jp (λ p. refl) (λ s. decoded Iso2022Jp s) refl points bytes is
read_as UserDefined points bytes are is = user_text_back points bytes is
read_as Replacement points bytes are is = nothing_but_nothing Replacement (λ p. refl) (λ s. decoded Replacement s) refl points bytes is

pub nothing_wrong : (e : Encoding) (points bytes : List ℕ) → scalars points ≡ true → encoded e points ≡ Some bytes → wrong_in e bytes ≡ None
nothing_wrong Utf8 points bytes are is = refl
nothing_wrong (Utf16 order) points bytes are is = utf_16_right order 0 points bytes are is
nothing_wrong (SingleByte name) points bytes are is = single_right name 0 points bytes is
nothing_wrong (MultiByte name) points bytes are is = multi_right name 0 points bytes is
nothing_wrong Iso2022Jp points bytes are is = nothing_shown Iso2022Jp (λ p. refl) (λ s. wrong_in Iso2022Jp s) refl points bytes is
nothing_wrong UserDefined points bytes are is = refl
nothing_wrong Replacement points bytes are is = nothing_shown Replacement (λ p. refl) (λ s. wrong_in Replacement s) refl points bytes is
