-- The bytes of a text with marks are those that it was made of.
use Rattle.std.proofs.Common.{◌≡◌, ◌∙◌, ℕ, zero, suc, ◌+◌, ◌-◌, ◌<◌, ◌≤◌, Bool, true, false, ◌==◌, ◌||◌, List, [], ◌∷◌, ◌++◌, Option, Some, None, ap, ap₂, append_assoc, arith, drop, encode_utf8, encode_utf8_all, get_or, inl, inr, length, length-append, length-drop, map, nat_lt, nat_le, refl, slice_index, subst, sym, take, true≢false, if◌then◌else◌}
use Rattle.std.proofs.Math.Utf8.{scalar, scalars}
use Rattle.std.proofs.Math.Seq.{drop_at, take_at}
use Rattle.std.proofs.lemmas.Bool.{and_from, cases_Bool, eq-eqb, le-leb, le-ltb, lt-ltb, ne_eqb}
use Rattle.std.proofs.lemmas.List.{drop-drop, get_or-drop, take-append-drop}
use Rattle.std.proofs.lemmas.Str.{chars-append, chars-encodes, chars-nil, encodes-chars, utf8_lossy-IsUtf8, utf8_lossy_step, utf8_valid_len-IsUtf8, utf8_valid_len_le}
use Rattle.std.specs.Int.{is_in_range}
use Rattle.std.specs.Option.{unwrap_or}
use Rattle.std.specs.Prelude.{IsUtf8}
use Rattle.std.specs.Str.{chars}
use Rattle.std.specs.Str.Lossy.{after_first_chunk, error_len_after_one, error_len_after_two, error_len_of_some, replacement_bytes, second_byte_max, second_byte_min, utf8_error_len, utf8_invalid_len, utf8_lossy, utf8_valid_len}
use Rattle.bstr.proofs.lemmas.LossyLemmas.{utf8_valid_len-cases}
use Rattle.tl_encoding.specs.Marks.{first_wrong, has_mark, is_mark, mark, marked, marked_within, marks, unmarked, unmarked_point}

-- the mark of a byte is one, and stands for it
mark_back : (b : ℕ) → b < 256 → (unmarked_point (mark b) ≡ b ∷ []) × (scalar (mark b) ≡ true)
mark_back b small =
    let p : ℕ = 0x10FF00 + b in
    let from : nat_le 0x10FF00 p ≡ true = le-leb 0x10FF00 p (omega arith) in
    let to : nat_le p 0x10FFFF ≡ true = le-leb p 0x10FFFF (omega (arith, small)) in
    let own : p - 0x10FF00 ≡ b = omega arith in
    let above : nat_lt p 55296 ≡ false = le-ltb p 55296 (omega arith) in
    let private : nat_le 57344 p ≡ true = le-leb 57344 p (omega arith) in
    let within : nat_lt p 1114112 ≡ true = lt-ltb p 1114112 (omega (arith, small)) in
    (rw (from, to, own) refl, rw (above, private, within) refl)

marks_back : (bytes : List ℕ) → ((k : ℕ) → get_or bytes k 0 < 256)
    → (unmarked (map mark bytes) ≡ bytes) × (scalars (map mark bytes) ≡ true)
marks_back [] small = (refl, refl)
marks_back (b ∷ s) small =
    let own = mark_back b (small 0) in
    let rest = marks_back s (λ k. small (suc k)) in
    (ap₂ (λ t u. t ++ u) own.0 rest.0, and_from _ _ own.1 rest.1)

marks_text : (bytes : List ℕ) → marks bytes ≡ encode_utf8_all (map mark bytes)
marks_text [] = refl
marks_text (b ∷ s) = ap (λ t. encode_utf8 (mark b) ++ t) (marks_text s)

pub found : (p : ℕ) (points rest : List ℕ) → points ≡ p ∷ rest → is_mark p ≡ true → has_mark points ≡ true
found p points rest first y = ap has_mark first ∙ ap (λ m. m || has_mark rest) y

pub passed : (p : ℕ) (points rest : List ℕ) → points ≡ p ∷ rest → is_mark p ≡ false → has_mark points ≡ has_mark rest
passed p points rest first n = ap has_mark first ∙ ap (λ m. m || has_mark rest) n

-- characters that are no marks are their bytes
unmarked_plain : (points : List ℕ) → has_mark points ≡ false → unmarked points ≡ encode_utf8_all points
unmarked_plain [] none = refl
unmarked_plain (p ∷ points) none = elim (cases_Bool (is_mark p)) [
  | inl y ↦ absurd (true≢false (rw y at none))
  | inr n ↦ ap₂ (λ (b : Bool) t. (if b then (p - 0x10FF00) ∷ [] else encode_utf8 p) ++ t) n (unmarked_plain points (rw n at none))
]

-- the bytes of a text are those of its parts
pub parts : (points more : List ℕ) → unmarked (points ++ more) ≡ unmarked points ++ unmarked more
parts [] more = refl
parts (p ∷ points) more = ap (λ t. unmarked_point p ++ t) (parts points more) ∙ sym (append_assoc (unmarked_point p) (unmarked points) (unmarked more))

none_of : (points more : List ℕ) → has_mark (points ++ more) ≡ false → (has_mark points ≡ false) × (has_mark more ≡ false)
none_of [] more none = (refl, none)
none_of (p ∷ points) more none = elim (cases_Bool (is_mark p)) [
  | inl y ↦ absurd (true≢false (rw y at none))
  | inr n ↦ let rest = none_of points more (rw n at none) in (rw n rest.0, rest.1)
]

-- wrong bytes are some where bytes aren't all right
cond_both : {A : Type 0} (P : A → Type 0) (b : Bool) (x y : A) → P x → P y → P (if b then x else y)
cond_both P true x y p q = p
cond_both P false x y p q = q

wrong_some : (bytes : List ℕ) → 0 < length bytes → 0 < utf8_invalid_len bytes
unfolding utf8_error_len
wrong_some bytes some =
    let P : Option ℕ → Type 0 = λ o. 0 < unwrap_or o (length bytes) in
    let one : P (Some 1) = omega arith in
    let two : P (Some 2) = omega arith in
    let three : P (Some 3) = omega arith in
    let x = slice_index bytes 0 in
    let third = is_in_range 0x80 0xBF (slice_index bytes 2) in
    let after_three = cond_both P (nat_lt (length bytes) 4) None (Some 3) some three in
    let after_two : P (error_len_after_two bytes) =
    cond_both P (nat_lt (length bytes) 3) None (if third then (if nat_lt (length bytes) 4 then None else Some 3) else Some 2) some
    (cond_both P third (if nat_lt (length bytes) 4 then None else Some 3) (Some 2) after_three two) in
    let second = is_in_range (second_byte_min x) (second_byte_max x) (slice_index bytes 1) in
    let after_one : P (error_len_after_one bytes) =
    cond_both P (nat_lt (length bytes) 2) None (if second then error_len_after_two bytes else Some 1) some
    (cond_both P second (error_len_after_two bytes) (Some 1) after_two one) in
    cond_both P (length bytes == 0) None (error_len_of_some bytes) some (cond_both P (is_in_range 0xC2 0xF4 x) (error_len_after_one bytes) (Some 1) after_one one)

pub shorter : (bytes : List ℕ) → ¬ (utf8_valid_len bytes ≡ length bytes) → length (after_first_chunk bytes) < length bytes
shorter bytes faulty =
    let n = utf8_valid_len bytes in
    let within = utf8_valid_len_le bytes in
    let some = wrong_some (drop n bytes) (omega (arith, length-drop n bytes)) in
    omega (arith, length-drop (n + utf8_invalid_len (drop n bytes)) bytes)

no_bytes : (bytes : List ℕ) → length bytes ≡ 0 → bytes ≡ []
no_bytes [] none = refl
no_bytes (b ∷ s) none = absurd (omega (arith, none))

-- the equations of `marked`
within_text : (k : ℕ) (bytes : List ℕ) → utf8_valid_len bytes ≡ length bytes → marked_within k bytes ≡ bytes
within_text zero bytes whole = refl
within_text (suc k) bytes whole = rw (eq-eqb _ _ whole) refl

within_fault : (k : ℕ) (bytes : List ℕ) → ¬ (utf8_valid_len bytes ≡ length bytes)
    → marked_within (suc k) bytes ≡ take (utf8_valid_len bytes) bytes ++ (marks (first_wrong bytes) ++ marked_within k (after_first_chunk bytes))
within_fault k bytes faulty = rw (ne_eqb _ _ faulty) refl

within_any : (k j : ℕ) (bytes : List ℕ) → length bytes ≤ k → length bytes ≤ j → marked_within k bytes ≡ marked_within j bytes
within_any zero j bytes p q = let within = utf8_valid_len_le bytes in sym (within_text j bytes (omega arith))
within_any (suc k) zero bytes p q = let within = utf8_valid_len_le bytes in within_text (suc k) bytes (omega arith)
within_any (suc k) (suc j) bytes p q = elim (utf8_valid_len-cases bytes) [
  | inl u ↦
      let whole = utf8_valid_len-IsUtf8 bytes u in
      within_text (suc k) bytes whole ∙ sym (within_text (suc j) bytes whole)
  | inr v ↦
      let short = v.short in
      let faulty : ¬ (utf8_valid_len bytes ≡ length bytes) = λ e. omega (arith, short, e) in
      let less = shorter bytes faulty in
      within_fault k bytes faulty
      ∙ ap (λ t. take (utf8_valid_len bytes) bytes ++ (marks (first_wrong bytes) ++ t)) (within_any k j _ (omega (arith, less, p)) (omega (arith, less, q)))
      ∙ sym (within_fault j bytes faulty)
]

step : (bytes : List ℕ) → ¬ (utf8_valid_len bytes ≡ length bytes)
    → marked bytes ≡ take (utf8_valid_len bytes) bytes ++ (marks (first_wrong bytes) ++ marked (after_first_chunk bytes))
step bytes faulty =
    let less = shorter bytes faulty in
    within_any (length bytes) (suc (length bytes)) bytes (omega arith) (omega arith)
    ∙ within_fault (length bytes) bytes faulty
    ∙ ap (λ t. take (utf8_valid_len bytes) bytes ++ (marks (first_wrong bytes) ++ t)) (within_any (length bytes) (length (after_first_chunk bytes)) (after_first_chunk bytes) (omega (arith, less)) (omega arith))

-- one run of text, and the wrong bytes behind it
pub chunk : (bytes valid invalid rest : List ℕ) → bytes ≡ valid ++ (invalid ++ rest) → length valid ≡ utf8_valid_len bytes
    → length invalid ≡ utf8_invalid_len (drop (utf8_valid_len bytes) bytes) → (length invalid ≡ 0 → length rest ≡ 0)
    → marked bytes ≡ valid ++ (marks invalid ++ marked rest)
chunk bytes valid invalid rest cut valid_len invalid_len last =
    let n = utf8_valid_len bytes in
    let total = ap length cut ∙ length-append valid (invalid ++ rest) in
    let behind : drop n bytes ≡ invalid ++ rest = ap (drop n) cut ∙ drop_at valid _ n valid_len in
    let front : take n bytes ≡ valid = ap (take n) cut ∙ take_at valid _ n valid_len in
    elim (utf8_valid_len-cases bytes) [
      | inl u ↦
          let none : length (invalid ++ rest) ≡ 0 = omega (arith, total, valid_len, utf8_valid_len-IsUtf8 bytes u) in
          let no_invalid = no_bytes invalid (omega (arith, none, length-append invalid rest)) in
          let no_rest = no_bytes rest (omega (arith, none, length-append invalid rest)) in
          within_text (length bytes) bytes (utf8_valid_len-IsUtf8 bytes u) ∙ cut ∙ ap₂ (λ i r. valid ++ (i ++ r)) no_invalid no_rest
          ∙ sym (ap₂ (λ i r. valid ++ (marks i ++ marked r)) no_invalid no_rest)
      | inr v ↦
          let short = v.short in
          let faulty : ¬ (n ≡ length bytes) = λ e. omega (arith, short, e) in
          let wrong : first_wrong bytes ≡ invalid =
          ap (take (utf8_invalid_len (drop n bytes))) behind ∙ take_at invalid rest _ invalid_len in
          let after : after_first_chunk bytes ≡ rest =
          sym (drop-drop (utf8_invalid_len (drop n bytes)) n bytes) ∙ ap (drop (utf8_invalid_len (drop n bytes))) behind ∙ drop_at invalid rest _ invalid_len in
          step bytes faulty ∙ ap (λ f. f ++ (marks (first_wrong bytes) ++ marked (after_first_chunk bytes))) front
          ∙ ap₂ (λ w r. valid ++ (marks w ++ marked r)) wrong after
    ]

pub empty : (bytes : List ℕ) → length bytes ≡ 0 → marked bytes ≡ []
empty bytes none = ap marked (no_bytes bytes none)

-- the bytes of a text with marks are those that it was made of
replacement_chars : (chars replacement_bytes ≡ 0xFFFD ∷ [])
unfolding chars
replacement_chars = refl

replacement_text : IsUtf8 replacement_bytes
unfolding lib.Utf8.encode
replacement_text = (0xFFFD ∷ [], (refl, refl))

marked_chars : (bytes rest : List ℕ) → ((k : ℕ) → get_or bytes k 0 < 256) → chars (marks bytes ++ rest) ≡ map mark bytes ++ chars rest
marked_chars bytes rest small =
    let are = (marks_back bytes small).1 in
    ap (λ t. chars (t ++ rest)) (marks_text bytes) ∙ chars-append (encode_utf8_all (map mark bytes)) rest (map mark bytes, (are, refl))
    ∙ ap (λ t. t ++ chars rest) (chars-encodes (map mark bytes) are)

small_take : (n : ℕ) (bytes : List ℕ) → ((k : ℕ) → get_or bytes k 0 < 256) → (k : ℕ) → get_or (take n bytes) k 0 < 256
small_take zero bytes small k = omega arith
small_take (suc n) [] small k = small k
small_take (suc n) (b ∷ s) small zero = small 0
small_take (suc n) (b ∷ s) small (suc k) = small_take n s (λ i. small (suc i)) k

small_drop : (n : ℕ) (bytes : List ℕ) → ((k : ℕ) → get_or bytes k 0 < 256) → (k : ℕ) → get_or (drop n bytes) k 0 < 256
small_drop n bytes small k = subst (λ b. b < 256) (sym (get_or-drop n bytes k 0)) (small (n + k))

within_back : (n : ℕ) (bytes : List ℕ) → length bytes ≤ n → ((k : ℕ) → get_or bytes k 0 < 256) → has_mark (chars (utf8_lossy bytes)) ≡ false
    → unmarked (chars (marked_within n bytes)) ≡ bytes
within_back zero bytes few small none = ap (λ t. unmarked (chars t)) (no_bytes bytes (omega (arith, few))) ∙ ap unmarked chars-nil ∙ sym (no_bytes bytes (omega (arith, few)))
within_back (suc n) bytes few small none = elim (utf8_valid_len-cases bytes) [
  | inl u ↦
      ap (λ t. unmarked (chars t)) (within_text (suc n) bytes (utf8_valid_len-IsUtf8 bytes u))
      ∙ unmarked_plain (chars bytes) (rw (utf8_lossy-IsUtf8 bytes u) at none) ∙ encodes-chars bytes u
  | inr v ↦
      let k = utf8_valid_len bytes in
      let short = v.short in
      let faulty : ¬ (k ≡ length bytes) = λ e. omega (arith, short, e) in
      let less = shorter bytes faulty in
      let after = after_first_chunk bytes in
      let lossy : chars (utf8_lossy bytes) ≡ chars (take k bytes) ++ (chars replacement_bytes ++ chars (utf8_lossy after)) =
      ap chars (utf8_lossy_step bytes faulty) ∙ chars-append (take k bytes) _ v.front
      ∙ ap (λ t. chars (take k bytes) ++ t) (chars-append replacement_bytes (utf8_lossy after) replacement_text) in
      let none_here = none_of (chars (take k bytes)) _ (rw lossy at none) in
      let none_after = (none_of (chars replacement_bytes) (chars (utf8_lossy after)) none_here.1).1 in
      let again = within_back n after (omega (arith, less, few)) (small_drop _ bytes small) none_after in
      let wrong = first_wrong bytes in
      let small_wrong = small_take (utf8_invalid_len (drop k bytes)) (drop k bytes) (small_drop k bytes small) in
      let points : chars (marked_within (suc n) bytes) ≡ chars (take k bytes) ++ (map mark wrong ++ chars (marked_within n after)) =
      ap chars (within_fault n bytes faulty) ∙ chars-append (take k bytes) _ v.front
      ∙ ap (λ t. chars (take k bytes) ++ t) (marked_chars wrong (marked_within n after) small_wrong) in
      let whole : take k bytes ++ (wrong ++ after) ≡ bytes =
      ap (λ t. take k bytes ++ (wrong ++ t)) (sym (drop-drop (utf8_invalid_len (drop k bytes)) k bytes))
      ∙ ap (λ t. take k bytes ++ t) (take-append-drop (utf8_invalid_len (drop k bytes)) (drop k bytes)) ∙ take-append-drop k bytes in
      ap unmarked points ∙ parts (chars (take k bytes)) _
      ∙ ap₂ (λ t u. t ++ u) (unmarked_plain (chars (take k bytes)) none_here.0 ∙ encodes-chars (take k bytes) v.front)
      (parts (map mark wrong) (chars (marked_within n after)) ∙ ap₂ (λ t u. t ++ u) ((marks_back wrong small_wrong).0) again) ∙ whole
]

pub back : (bytes : List ℕ) → ((k : ℕ) → get_or bytes k 0 < 256) → has_mark (chars (utf8_lossy bytes)) ≡ false → unmarked (chars (marked bytes)) ≡ bytes
back bytes small none = within_back (length bytes) bytes (omega arith) small none
